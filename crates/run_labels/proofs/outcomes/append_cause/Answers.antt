use Rattle.std.proofs.lemmas.Grind.{common_steps}
use Rattle.std.proofs.Common.{arith}
use Rattle.run_labels.proofs.outcomes.append_cause.Goals as goal

pub returns-in_ok-append_spaced_time-in-Deadline : goal.returns-in_ok-append_spaced_time-in-Deadline
returns-in_ok-append_spaced_time-in-Deadline c = grind (arith, common_steps)
