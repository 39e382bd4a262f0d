use Rattle.std.proofs.Common.{◌≡◌, drop, false, length}
use Rattle.ckpt_types.specs.Sections.{present}
use Rattle.section_store.specs.Planned.{planned_elements, KeepSizes}
use Rattle.section_store.proofs.PlanLemmas.{GoesOn}
use Rattle.section_store.proofs.store.Store.plan_several.Given as goal

abbrev pub invariant-loop-element : goal.invariant-loop-element
invariant-loop-element l = record {
  goes : GoesOn l.self.attributes l.now (drop l.element-index l.elements) (present l.now l.self.sections) l.plan (planned_elements l.self.attributes l.now l.elements (present l.now l.self.sections));
  as_many : length l.plan ≡ l.element-index;
  sizes : l.grown ≡ false → KeepSizes (present l.now l.self.sections) l.plan;
}
