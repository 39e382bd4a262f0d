use Rattle.std.proofs.Common.{rules}
use Rattle.run_labels.proofs.texts.append_time.Goals as goal

pub returns-then-time-eq-NEVER : goal.returns-then-time-eq-NEVER
returns-then-time-eq-NEVER c = search rules
