-- The callbacks of a dispatch beside the lines that they print, by computation.
use Rattle.std.proofs.Common.{◌≡◌, refl, ℕ, ◌^◌, ◌-◌, List, [], ◌∷◌, ◌++◌, Option, Some, None, codes, true, pos}
use Rattle.ckpt_types.specs.declared.ais_error.AisError.TheVariants as errors
use Rattle.ckpt_types.specs.declared.answers.Answer.TheVariants.{Dispatched, Nothing, Opened, Pulled}
use Rattle.ckpt_types.specs.declared.answers.Cause.TheVariants as causes
use Rattle.ckpt_types.specs.declared.answers.Outcome.{Outcome}
use Rattle.ckpt_types.specs.declared.answers.Outcome.TheVariants.{Done, Refused, NoMemory}
use Rattle.ckpt_types.specs.declared.calls.AsyncKind.TheVariants.{Open, Sync}
use Rattle.ckpt_types.specs.declared.calls.Callback.{Callback}
use Rattle.ckpt_types.specs.declared.identities.ActorName.TheVariants.{Client}
use Rattle.ckpt_types.specs.declared.identities.CallId.{CallId}
use Rattle.ckpt_types.specs.declared.operation.Op.{Op}
use Rattle.ckpt_types.specs.declared.operation.Op.TheVariants.{Close, Dispatch}
use Rattle.node_msgs.specs.declared.details.Details.TheVariants.{Callbacks}
use Rattle.run_labels.specs.declared.labels.Label.{Label}
use Rattle.run_labels.specs.declared.labels.Label.TheVariants.{Began, Nodes}
use Rattle.run_labels.specs.Callbacks.{callback_lines_at}
use Rattle.run_labels.specs.Lines.{lines_of}
use Rattle.run_labels.specs.Outcomes.{told_version}
use Rattle.std.specs.Fmt.{digits}

-- what the text of a callback computes with
texts : Unit {0}
unfolding digits told_version
texts = tt

abbrev client : ℕ → ℕ → CallId
client c n = record { actor = Client c; number = n }

-- a callback of a synchronisation
abbrev of_sync : ℕ → Outcome → Callback
of_sync invocation outcome = record { kind = Sync; invocation = invocation; outcome = outcome }

-- a callback of an open, whose handle is at the place 3
abbrev of_open : ℕ → Outcome → Callback
of_open invocation outcome = record { kind = Open 3; invocation = invocation; outcome = outcome }

-- the log of two nodes and a dispatch that gave these callbacks, and left so many
abbrev dispatched : CallId → ℕ → ℕ → List Callback → List Label
dispatched call given left callbacks =
    Nodes 2
    ∷ Began call (Dispatch 2) (Some (Done (Dispatched (record { given = given; left = left })))) (Callbacks callbacks)
    ∷ []

-- the log prints these lines, and those of the callbacks behind them; the label of the nodes has none
abbrev CallBack : List Label → List ℕ → List ℕ → Type 0
CallBack log own callbacks = (lines_of true log ≡ own ++ callbacks) × (callback_lines_at log 0 ≡ Some []) × (callback_lines_at log 1 ≡ Some callbacks)

a_dispatch_prints_a_line_for_each_callback : CallBack
    (dispatched (client 1 5) 3 0 (of_sync 9 (Done (Pulled 1)) ∷ of_open 100 (Done (Opened 1)) ∷ of_open 7 (Refused errors.TryAgain (causes.Holder (client 0 4))) ∷ []))
    (codes "+ c1.5 begin dispatch\nc1.5 dispatch OK 3 0\n")
    (codes "c1 callback sync 9 OK 1\nc1 callback open 100 OK K1\nc1 callback open 7 TRY_AGAIN c0.4\n")
unfolding texts
a_dispatch_prints_a_line_for_each_callback = (refl, refl, refl)

a_dispatch_may_give_none : CallBack (dispatched (client 0 6) 0 0 []) (codes "+ c0.6 begin dispatch\nc0.6 dispatch OK 0 0\n") []
unfolding texts
a_dispatch_may_give_none = (refl, refl, refl)

a_refused_callback_has_its_cause : CallBack
    (dispatched (client 1 5) 5 1 (
    of_open 7 (Refused errors.NoResources (causes.Count 16))
    ∷ of_sync 0 (Refused errors.Timeout (causes.Deadline (pos 5) (pos 6)))
    ∷ of_sync (2 ^ 64 - 1) (Refused errors.TryAgain (causes.Generations 1 2))
    ∷ of_open 8 (Refused errors.NotExist causes.Plain)
    ∷ of_sync 10 NoMemory
    ∷ []))
    (codes "+ c1.5 begin dispatch\nc1.5 dispatch OK 5 1\n")
    (codes "c1 callback open 7 NO_RESOURCES 16\nc1 callback sync 0 TIMEOUT 5 6\nc1 callback sync 18446744073709551615 TRY_AGAIN 1 2\nc1 callback open 8 NOT_EXIST\nc1 callback sync 10 NO_MEMORY\n")
unfolding texts
a_refused_callback_has_its_cause = (refl, refl, refl)

-- the label of the nodes, and one of a client's beginning that has these callbacks beside it
abbrev told_with : Op → Option Outcome → List Label
told_with op end = Nodes 2 ∷ Began (client 1 5) op end (Callbacks (of_sync 9 (Done (Pulled 1)) ∷ [])) ∷ []

no_other_label_has_lines_of_callbacks :
    (callback_lines_at (told_with (Dispatch 2) (Some (Done (Dispatched (record { given = 1; left = 0 }))))) 1 ≡ Some (codes "c1 callback sync 9 OK 1\n"))
    × (callback_lines_at (told_with (Dispatch 0) (Some (Refused errors.InvalidParam causes.Plain))) 1 ≡ Some [])
    × (callback_lines_at (told_with (Dispatch 2) (Some NoMemory)) 1 ≡ Some [])
    × (callback_lines_at (told_with (Dispatch 2) None) 1 ≡ Some [])
    × (callback_lines_at (told_with (Close 3) (Some (Done Nothing))) 1 ≡ Some [])
unfolding texts
no_other_label_has_lines_of_callbacks = (refl, refl, refl, refl, refl)
