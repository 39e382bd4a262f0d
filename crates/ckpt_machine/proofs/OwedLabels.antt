-- What one label more makes of what a log tells of calls.
use Rattle.std.proofs.Common.{◌≡◌, List, [], ◌∷◌, ◌++◌, refl}
use Rattle.run_labels.specs.declared.labels.Label.{Label}
use Rattle.ckpt_machine.specs.After.{after}
use Rattle.ckpt_machine.specs.Callbacks.{Owing, none_owing, owing_behind, owing_from, owing_in}
use Rattle.ckpt_machine.specs.Machine.{Machine, empty_cluster}
use Rattle.ckpt_machine.specs.Runs.{last_from, last}

owing_from-push : (m : Machine) (t : Owing) (log : List Label) (l : Label) → owing_from m t (log ++ l ∷ []) ≡ owing_behind (last_from m log) (owing_from m t log) l
owing_from-push m t [] l = refl
owing_from-push m t (x ∷ log) l = owing_from-push (after m x) (owing_behind m t x) log l

pub owing_in-push : (log : List Label) (l : Label) → owing_in (log ++ l ∷ []) ≡ owing_behind (last log) (owing_in log) l
owing_in-push log l = owing_from-push empty_cluster none_owing log l
