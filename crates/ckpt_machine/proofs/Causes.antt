-- In a run the row of each label that ends a call holds in front of it.
use Rattle.std.proofs.Common.{[], ◌∷◌, ◌++◌, sym, ◌∙◌, append_assoc}
use Rattle.ckpt_machine.specs.Laws.{OfEachRun}
use Rattle.ckpt_machine.specs.Causes.{EachEndIsAllowed}
use Rattle.ckpt_machine.specs.Machine.{empty_cluster}
use Rattle.ckpt_machine.proofs.Runs.{run_before, run_front}

pub ends_allowed : OfEachRun EachEndIsAllowed
ends_allowed log run front back l is ends = (run_before empty_cluster front l (run_front log (front ++ l ∷ []) back (is ∙ sym (append_assoc front (l ∷ []) back)) run)).1
