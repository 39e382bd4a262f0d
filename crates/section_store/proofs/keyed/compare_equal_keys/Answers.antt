use Rattle.std.proofs.Common.{◌∙◌, sym}
use Rattle.section_store.proofs.KeyLemmas.{key_of-equal}
use Rattle.section_store.proofs.keyed.compare_equal_keys.Goals as goal

pub returns-then-other-le-KEY_BYTES : goal.returns-then-other-le-KEY_BYTES
returns-then-other-le-KEY_BYTES c =
    c.cmp.ensures ∙ sym (key_of-equal c.args.id.now c.args.other.now c.requires.bytes c.requires.other_bytes c.if-id-le-KEY_BYTES.true c.if-other-le-KEY_BYTES.true c.requires.keys)
