use Rattle.std.proofs.Common.{◌≡◌, ◌++◌, map}
use Rattle.load_script.specs.Load.{numbers, turn_written}
use Rattle.load_script.proofs.generating.add_writes.Given as goal

abbrev pub invariant-loop-turn : goal.invariant-loop-turn
invariant-loop-turn l = l.lines.items ≡ l.initial.lines.items ++ map turn_written (numbers l.turn)
