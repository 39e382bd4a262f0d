use Rattle.std.proofs.Common.{rules}
use Rattle.load_summary.proofs.counting.outcome_code.Goals as goal

pub returns-in-Busy : goal.returns-in-Busy
returns-in-Busy c = search rules

pub returns-in-Refused : goal.returns-in-Refused
returns-in-Refused c = search rules
