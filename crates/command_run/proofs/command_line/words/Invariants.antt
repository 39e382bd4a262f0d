use Rattle.std.proofs.Common.{◌≤◌}
use Rattle.command_run.proofs.Called.{HasTaken}
use Rattle.command_run.proofs.command_line.words.Given as goal

abbrev pub invariant-loop-number : goal.invariant-loop-number
invariant-loop-number g l = record {
  taken : HasTaken (g.A.Arguments.called l.arguments) l.number l.words.items;
  behind : 1 ≤ l.number;
}
