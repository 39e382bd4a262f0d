use Rattle.std.proofs.Common.{rules}
use Rattle.run_labels.proofs.steps.append_reply.Goals as goal

pub returns-in-Done : goal.returns-in-Done
returns-in-Done c = search rules
