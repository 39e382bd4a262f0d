-- What a call in hand asks for has no bad argument, since it was not refused when it began.
use Rattle.std.proofs.Common.{◌≡◌, List, ◌∷◌, Some, false, subst}
use Rattle.run_labels.specs.declared.labels.Label.{Label}
use Rattle.run_labels.specs.declared.labels.Label.TheVariants as labels
use Rattle.ckpt_types.specs.Asks.{asked}
use Rattle.ckpt_machine.specs.BeginRows.{has_bad_arguments}
use Rattle.ckpt_machine.specs.Machine.{Machine, CallState, empty_cluster, who}
use Rattle.ckpt_machine.specs.Runs.{last, IsRun}
use Rattle.ckpt_machine.specs.Due.{standing_of}
use Rattle.ckpt_machine.proofs.BegunBefore.{all_began}
use Rattle.ckpt_machine.proofs.Runs.{IsRunFrom-back}
use Rattle.ckpt_machine.proofs.Starting.{row_passed}

-- of each call that is in hand
abbrev pub HaveGoodArguments : Machine → Type 0
HaveGoodArguments m = (s : CallState) → m.in_hand (who s) ≡ Some s → has_bad_arguments (asked s.op) ≡ false

-- in every state of a run
pub good_arguments : (log : List Label) → IsRun log → HaveGoodArguments (last log)
good_arguments log run s held =
    let began = all_began log run s held in
    let there = IsRunFrom-back empty_cluster began.before (labels.Began s.call s.op began.end began.details ∷ began.behind) (subst IsRun began.log_is run) in
    (row_passed (standing_of (last began.before) s.call.actor s.op) s.op began.end there.0.row began.goes).unrefused.arguments
