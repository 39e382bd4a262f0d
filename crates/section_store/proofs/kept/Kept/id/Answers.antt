use Rattle.std.proofs.Common.{ap, ◌∙◌}
use Rattle.section_store.proofs.KeptSections.{has_slot, head_read}
use Rattle.section_store.proofs.kept.Kept.id.Goals as goal

pub index-requires-2 : goal.index-requires-2
index-requires-2 c = (has_slot c.self.inside c.args.self.now c.args.place c.index.result.now c.self.view_is c.self.invariant c.requires c.index.ensures).indexed

pub returns : goal.returns
returns c =
    let slot = has_slot c.self.inside c.args.self.now c.args.place c.index.result.now c.self.view_is c.self.invariant c.requires c.index.ensures in
    ap (λ h. h.id) (head_read c.self.inside.heads.items c.index.result.now c.index-2.result.now slot.head c.index-2.ensures) ∙ ap (λ s. s.id) slot.section
