use Rattle.std.proofs.Common.{[], ap, sym, ◌∙◌}
use Rattle.std.proofs.lemmas.Option.{get_or_from_slice_get}
use Rattle.section_store.proofs.KeptSections.{has_slot}
use Rattle.section_store.proofs.kept.Kept.bytes.Goals as goal

pub bytes-requires : goal.bytes-requires
bytes-requires c = (has_slot c.self.inside c.args.self.now c.args.place c.index.result.now c.self.view_is c.self.invariant c.requires c.index.ensures).string

pub returns : goal.returns
returns c =
    let slot = has_slot c.self.inside c.args.self.now c.args.place c.index.result.now c.self.view_is c.self.invariant c.requires c.index.ensures in
    sym (get_or_from_slice_get c.self.inside.region.strings c.index.result.now c.bytes.result.now [] c.bytes.ensures) ∙ ap (λ s. s.bytes) slot.section
