-- What holds after every run, and that a run goes on by any label that is due.
use Rattle.std.proofs.Common.{sym, List, [], ◌∷◌, ◌++◌, length, subst}
use Rattle.run_labels.specs.declared.labels.Label.{Label}
use Rattle.ckpt_machine.specs.Invariant.{Invariant}
use Rattle.ckpt_machine.specs.Laws.{EachRunHas}
use Rattle.ckpt_machine.specs.Runs.{last, IsRun, Counts}
use Rattle.ckpt_machine.specs.After.{after}
use Rattle.ckpt_machine.specs.Due.{IsDue}
use Rattle.ckpt_machine.proofs.Counting.{counts_empty, counts_up}
use Rattle.ckpt_machine.proofs.Lawful.{lawful}
use Rattle.ckpt_machine.specs.Guards.{Allowed}
use Rattle.std.proofs.lemmas.List.{length-append}
use Rattle.ckpt_machine.proofs.Runs.{along}
use Rattle.ckpt_machine.proofs.Start.{invariant_empty}

-- after every run the invariant holds, and no more is counted than it has labels
pub run_has : EachRunHas
run_has log run = along (λ log m. Invariant m × Counts m (length log)) goes_on [] log run (invariant_empty, counts_empty)
  where
    goes_on : (front : List Label) (l : Label) → IsRun front → Allowed (last front) l → IsDue (last front) l → Invariant (last front) × Counts (last front) (length front) → Invariant (after (last front) l) × Counts (after (last front) l) (length (front ++ l ∷ []))
    goes_on front l before allowed due had = ((lawful (last front) l had.0 due).1, subst (Counts (after (last front) l)) (sym (length-append front (l ∷ []))) (counts_up (last front) l (length front) had.0 due had.1))
