use Rattle.std.proofs.Common.{rules}
use Rattle.load_summary.proofs.counting.label_code.Goals as goal

pub returns-in-Began : goal.returns-in-Began
returns-in-Began c = search rules
