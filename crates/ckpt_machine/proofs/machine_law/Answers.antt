use Rattle.ckpt_machine.proofs.Counting.{counts_empty, counts_up}
use Rattle.ckpt_machine.proofs.Endings.{ends_as_it_may}
use Rattle.ckpt_machine.proofs.Facts.{facts}
use Rattle.ckpt_machine.proofs.FailureLaw.{failures_keep}
use Rattle.ckpt_machine.proofs.FewSteps.{steps_are_few}
use Rattle.ckpt_machine.proofs.Lawful.{lawful}
use Rattle.ckpt_machine.proofs.Nearer.{step_nearer}
use Rattle.ckpt_machine.proofs.Promises.{promises_kept}
use Rattle.ckpt_machine.proofs.Refusing.{refusal_leaves}
use Rattle.ckpt_machine.proofs.RunLaws.{run_has}
use Rattle.ckpt_machine.proofs.SixFacts.{six_facts}
use Rattle.ckpt_machine.proofs.Start.{invariant_empty}
use Rattle.ckpt_machine.proofs.machine_law.Goals as goal

pub returns-clause-starts : goal.returns-clause-starts
returns-clause-starts c = (invariant_empty, counts_empty)

pub returns-clause-lawful : goal.returns-clause-lawful
returns-clause-lawful c = lawful

pub returns-clause-runs : goal.returns-clause-runs
returns-clause-runs c = run_has

pub returns-clause-facts : goal.returns-clause-facts
returns-clause-facts c = facts

pub returns-clause-slots : goal.returns-clause-slots
returns-clause-slots c = six_facts

pub returns-clause-counts : goal.returns-clause-counts
returns-clause-counts c = counts_up

pub returns-clause-nearer : goal.returns-clause-nearer
returns-clause-nearer c = step_nearer

pub returns-clause-few : goal.returns-clause-few
returns-clause-few c = steps_are_few

pub returns-clause-refusals : goal.returns-clause-refusals
returns-clause-refusals c = refusal_leaves

pub returns-clause-ends : goal.returns-clause-ends
returns-clause-ends c = ends_as_it_may

pub returns-clause-failures : goal.returns-clause-failures
returns-clause-failures c = failures_keep

pub returns-clause-promises : goal.returns-clause-promises
returns-clause-promises c = promises_kept
