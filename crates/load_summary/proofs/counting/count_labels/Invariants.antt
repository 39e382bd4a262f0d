use Rattle.std.proofs.Common.{◌≡◌, take, count_by}
use Rattle.load_summary.specs.Counts.{CountsCodes}
use Rattle.load_summary.specs.Summary.{ends_call, is_step}
use Rattle.load_summary.proofs.counting.count_labels.Given as goal

abbrev pub invariant-loop-label : goal.invariant-loop-label
invariant-loop-label l = record {
  calls : l.calls ≡ count_by ends_call (take l.label-index l.labels);
  steps : l.steps ≡ count_by is_step (take l.label-index l.labels);
  codes : CountsCodes (take l.label-index l.labels) l.by_code;
}
