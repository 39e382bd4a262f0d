use Rattle.std.proofs.Common.{length, ◌-◌, ◌≤◌}
use Rattle.std.specs.Io.KnownBytes.{Consumes}
use Rattle.command_run.proofs.reading.read_all.Given as goal

abbrev pub invariant-reading : goal.invariant-reading
invariant-reading g l = record {
  later : g.S.Source.faults l.initial.source ≤ g.S.Source.faults l.source;
  within : length l.bytes.items ≤ 262145;
  read : Consumes (g.S.Source.left l.initial.source) (g.S.Source.left l.source) l.bytes.items;
}

abbrev pub decreases-reading : goal.decreases-reading
decreases-reading g l = 262145 - length l.bytes.items
