-- Why a call ended: the row of its end.
use Rattle.std.specs.Prelude.{◌≡◌, List, ◌∷◌, ◌++◌, Some}
use Rattle.run_labels.specs.declared.labels.Label.{Label}
use Rattle.run_labels.specs.declared.labels.Label.TheVariants as labels
use Rattle.ckpt_machine.specs.Guards.{Allowed}
use Rattle.ckpt_machine.specs.Runs.{last}

-- the label ends a call, at its beginning or by a step
abbrev pub EndsCall : Label → Type 0
EndsCall (labels.Began call op (Some end) details) = Unit {0}
EndsCall (labels.Stepped call word verb k r reply (Some end) details) = Unit {0}
EndsCall label = ⊥

-- EACH END HAS ITS CAUSE: in the state in front of a label that ends a call its row holds, of a beginning or of its verb, which for a refusal names the cause
abbrev pub EachEndIsAllowed : List Label → Type 0
EachEndIsAllowed log = (front back : List Label) (l : Label) → log ≡ front ++ l ∷ back → EndsCall l → Allowed (last front) l
