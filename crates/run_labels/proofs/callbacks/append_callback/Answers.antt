use Rattle.std.proofs.lemmas.Grind.{common_steps}
use Rattle.std.proofs.Common.{arith}
use Rattle.run_labels.proofs.callbacks.append_callback.Goals as goal

pub returns-in_ok-append_callback_head-in-Refused : goal.returns-in_ok-append_callback_head-in-Refused
returns-in_ok-append_callback_head-in-Refused c = grind (arith, common_steps)
