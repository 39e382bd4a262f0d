use Rattle.std.proofs.Common.{◌≡◌, drop}
use Rattle.section_store.specs.Planned.{size_planned}
use Rattle.section_store.proofs.plan.Plan.size_of.Given as goal

abbrev pub invariant-loop-entry : goal.invariant-loop-entry
invariant-loop-entry l = size_planned l.place l.last (drop l.entry-index l.self) ≡ size_planned l.place l.size l.self
