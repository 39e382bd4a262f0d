use Rattle.std.proofs.Common.{◌≤◌, take}
use Rattle.command_run.specs.Headline.{printed}
use Rattle.command_run.proofs.Written.{Wrote}
use Rattle.command_run.proofs.writing.write_lines.Given as goal

abbrev pub invariant-loop-label : goal.invariant-loop-label
invariant-loop-label g l = record {
  later : g.K.Sink.faults l.initial.sink ≤ g.K.Sink.faults l.sink;
  wrote : Wrote (g.K.Sink.held l.initial.sink) (g.K.Sink.held l.sink) l.text.items (printed l.steps (take l.label-index l.labels));
}
