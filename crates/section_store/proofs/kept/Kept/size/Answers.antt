use Rattle.std.proofs.Common.{ap, ◌∙◌}
use Rattle.ckpt_types.specs.Sections.{size_of}
use Rattle.section_store.proofs.KeptSections.{has_slot}
use Rattle.section_store.proofs.kept.Kept.size.Goals as goal

pub len_at-requires : goal.len_at-requires
len_at-requires c = (has_slot c.self.inside c.args.self.now c.args.place c.index.result.now c.self.view_is c.self.invariant c.requires c.index.ensures).string

pub returns : goal.returns
returns c =
    let slot = has_slot c.self.inside c.args.self.now c.args.place c.index.result.now c.self.view_is c.self.invariant c.requires c.index.ensures in
    c.len_at.ensures ∙ ap size_of slot.section
