-- Lines of asynchronous calls, of dispatches and of clients with callbacks, each read by computation.
use Rattle.std.proofs.Common.{◌≡◌, refl, ℕ, ◌^◌, ◌-◌, List, Some, None, Ok, Err, codes, true, false, pos}
use Rattle.ckpt_types.specs.declared.attributes.CreationAttributes.{CreationAttributes}
use Rattle.ckpt_types.specs.declared.identities.ActorName.TheVariants as actor
use Rattle.ckpt_types.specs.declared.operation.Op.TheVariants as ops
use Rattle.script_words.specs.declared.reason.Reason.{Reason}
use Rattle.script_words.specs.declared.reason.Reason.TheVariants as reasons
use Rattle.script_words.specs.Words.{numeral, number_within, lettered, time_of, bytes_of, version_of, callbacks_of, read_word}
use Rattle.script_lines.specs.declared.lines.Line.{Line}
use Rattle.script_lines.specs.declared.lines.Line.TheVariants as lines
use Rattle.script_lines.specs.Table.{word_of_first, word_of_second, first_word_of, said_by, line_said}
use Rattle.script_lang.specs.Grammar.{reading}

-- the text says this line
abbrev Says : List ℕ → Line → Type 0
Says text line = reading text ≡ Ok (Some line)

-- the text has this fault
abbrev Fails : List ℕ → Reason → Type 0
Fails text reason = reading text ≡ Err reason

-- one section of 16 bytes, on all replicas
abbrev one_section : CreationAttributes
one_section = record { creation_flags = 1; checkpoint_size = 16; retention_duration = pos 5; max_sections = 1; max_section_size = 16; max_section_id_size = 8 }

client_with_both_callbacks : Says (codes "client c0 n0 B.2.2 both") (lines.Call 0 (ops.Client 0 (record { release = 66; major = 2; minor = 2 }) (record { opens = true; syncs = true })))
unfolding reading line_said first_word_of word_of_first said_by read_word lettered number_within numeral version_of callbacks_of
client_with_both_callbacks = refl

client_with_one_callback : Says (codes "client c1 n7 B.1.1 sync") (lines.Call 1 (ops.Client 7 (record { release = 66; major = 1; minor = 1 }) (record { opens = false; syncs = true })))
unfolding reading line_said first_word_of word_of_first said_by read_word lettered number_within numeral version_of callbacks_of
client_with_one_callback = refl

open_by_an_invocation : Says (codes "openasync c0 h1 18446744073709551615 'ck 3") (lines.Call 0 (ops.OpenAsync 1 (2 ^ 64 - 1) (codes "ck") 3 None))
unfolding reading line_said first_word_of word_of_first word_of_second said_by read_word lettered number_within numeral bytes_of
open_by_an_invocation = refl

open_with_attributes : Says (codes "openasync c0 h1 0 'ck 7 1 16 5 1 16 8") (lines.Call 0 (ops.OpenAsync 1 0 (codes "ck") 7 (Some one_section)))
unfolding reading line_said first_word_of word_of_first word_of_second said_by read_word lettered number_within numeral bytes_of time_of
open_with_attributes = refl

synchronisation_by_an_invocation : Says (codes "syncasync c9 h99 40") (lines.Call 9 (ops.SyncAsync 99 40))
unfolding reading line_said first_word_of word_of_first word_of_second said_by read_word lettered number_within numeral
synchronisation_by_an_invocation = refl

synchronisation_only_begun : Says (codes "begin syncasync c9 h99 40") (lines.Begin (actor.Client 9) (ops.SyncAsync 99 40))
unfolding reading line_said first_word_of word_of_first word_of_second said_by read_word lettered number_within numeral
synchronisation_only_begun = refl

dispatch_by_flags : Says (codes "dispatch c0 4294967295") (lines.Call 0 (ops.Dispatch (2 ^ 32 - 1)))
unfolding reading line_said first_word_of word_of_first word_of_second said_by read_word lettered number_within numeral
dispatch_by_flags = refl

flags_have_32_bits : Fails (codes "dispatch c0 4294967296") reasons.Number
unfolding reading line_said first_word_of word_of_first word_of_second said_by read_word lettered number_within numeral
flags_have_32_bits = refl

an_invocation_has_64_bits : Fails (codes "syncasync c0 h0 18446744073709551616") reasons.Number
unfolding reading line_said first_word_of word_of_first word_of_second said_by read_word lettered number_within numeral
an_invocation_has_64_bits = refl
