-- One name to unfold where a proof computes what a word says, or how it is spelled.
use Rattle.std.specs.Fmt.{digits}
use Rattle.hex.specs.Hex.{encode_with, decode_pairs}
use Rattle.script_words.specs.Words.{numeral, number_within, lettered, time_of, bytes_of, id_of, new_id_of, version_of, callbacks_of, named_call, who_of, read_word}

-- `unfolding script_words` lets `refl` compute `read_word` and `spell`
unfoldable pub script_words : Unit {0}
unfolding digits encode_with decode_pairs numeral number_within lettered time_of bytes_of id_of new_id_of version_of callbacks_of named_call who_of read_word
script_words = tt
