use Rattle.std.proofs.Common.{All, take}
use Rattle.node_core.specs.Keeping.{KeepsTo}
use Rattle.node_core.proofs.keeping.each_keeps_to.Given as goal

abbrev pub invariant-loop-place : goal.invariant-loop-place
invariant-loop-place g l = All (KeepsTo l.declared) (take l.place (g.S.Sections.sections l.sections))
