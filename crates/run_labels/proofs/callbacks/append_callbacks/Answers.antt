use Rattle.std.proofs.Common.{rules}
use Rattle.run_labels.proofs.callbacks.append_callbacks.Goals as goal

pub returns : goal.returns
returns c = search rules
