use Rattle.std.proofs.Common.{length, ap, sym, ◌∙◌}
use Rattle.section_store.proofs.KeptSections.{length-shown}
use Rattle.section_store.proofs.kept.Kept.len.Goals as goal

pub returns : goal.returns
returns c = sym (length-shown c.self.inside c.self.invariant) ∙ ap (λ k. length k.sections) c.self.view_is
