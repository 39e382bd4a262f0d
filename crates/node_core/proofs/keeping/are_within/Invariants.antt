use Rattle.std.proofs.Common.{◌≡◌, ◌+◌, take}
use Rattle.ckpt_types.specs.Sections.{memory_used}
use Rattle.node_core.proofs.keeping.are_within.Given as goal

abbrev pub invariant-loop-place : goal.invariant-loop-place
invariant-loop-place g l = memory_used (take l.place (g.S.Sections.sections l.sections)) + l.left ≡ l.most
