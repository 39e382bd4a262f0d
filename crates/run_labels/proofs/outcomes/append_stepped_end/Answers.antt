use Rattle.std.proofs.Common.{rules}
use Rattle.run_labels.proofs.outcomes.append_stepped_end.Goals as goal

pub returns : goal.returns
returns c = search rules
