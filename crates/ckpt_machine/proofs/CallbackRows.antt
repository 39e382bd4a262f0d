-- What clients are owed of their asynchronous calls, in worked runs: which of their ends, in which order, and what a dispatch, a close, a Finalize and the failure of a node leave of it.
use Rattle.std.proofs.Common.{◌≡◌, ℕ, ◌+◌, inl, inr, List, [], ◌∷◌, ◌++◌, length, take, Option, Some, None, codes, true, refl, ap, ◌∙◌, arith}
use Rattle.ckpt_types.specs.declared.ais_error.AisError.TheVariants as errors
use Rattle.ckpt_types.specs.declared.answers.Answer.{Answer}
use Rattle.ckpt_types.specs.declared.answers.Answer.TheVariants as answers
use Rattle.ckpt_types.specs.declared.answers.Cause.TheVariants.{Plain}
use Rattle.ckpt_types.specs.declared.answers.Outcome.{Outcome}
use Rattle.ckpt_types.specs.declared.answers.Outcome.TheVariants.{Done, Refused}
use Rattle.ckpt_types.specs.declared.calls.AsyncKind.TheVariants as kinds
use Rattle.ckpt_types.specs.declared.calls.Callback.{Callback}
use Rattle.ckpt_types.specs.declared.identities.ActorName.TheVariants.{Client}
use Rattle.ckpt_types.specs.declared.identities.CallId.{CallId}
use Rattle.ckpt_types.specs.declared.operation.Op.{Op}
use Rattle.ckpt_types.specs.declared.operation.Op.TheVariants as ops
use Rattle.ckpt_types.specs.declared.words.OpWord.TheVariants as opwords
use Rattle.ckpt_types.specs.Limits.{wr_active_replica, checkpoint_read, checkpoint_write, checkpoint_create, dispatch_one, dispatch_all, release, major_max, minor_answered}
use Rattle.node_msgs.specs.declared.details.Details.TheVariants as beside
use Rattle.node_msgs.specs.declared.steps.StepReply.TheVariants as words
use Rattle.node_msgs.specs.declared.steps.Verb.{Verb}
use Rattle.node_msgs.specs.declared.steps.Verb.TheVariants as verbs
use Rattle.run_labels.specs.declared.labels.Label.{Label}
use Rattle.run_labels.specs.declared.labels.Label.TheVariants as labels
use Rattle.ckpt_machine.specs.Callbacks.{GivesOwed, callbacks_in, owed_in}
use Rattle.ckpt_machine.specs.Runs.{IsRun}
use Rattle.ckpt_machine.proofs.AcknowledgedExamples.{call_numbered, answered_ok}
use Rattle.ckpt_machine.proofs.ClaimExamples.{other_numbered}
use Rattle.ckpt_machine.proofs.DueRuns.{played_is_run}
use Rattle.ckpt_machine.proofs.RunExamples.{sized}

-- ---- the words of the scripts

-- a call begins and goes on, and an asynchronous one is answered OK at once
abbrev begins : CallId → Op → Label
begins call op = labels.Began call op None beside.Nothing

abbrev is_asked : CallId → Op → Label
is_asked call op = labels.Began call op answered_ok beside.Nothing

-- a client enters on a node, with both callbacks registered
abbrev enters : CallId → ℕ → List Label
enters call r =
    begins call (ops.Client r (record { release = release; major = major_max; minor = minor_answered }) (record { opens = true; syncs = true }))
    ∷ labels.Stepped call opwords.Client verbs.Enter None (Some r) words.Ok (Some (Done answers.Version)) beside.Nothing
    ∷ []

-- an asynchronous open of this invocation, for whose handle a place is to stand: it makes `ck`, or opens it, or finds no `no`
abbrev makes : ℕ → ℕ → Op
makes place invocation =
    ops.OpenAsync place invocation (codes "ck") (checkpoint_read + checkpoint_write + checkpoint_create) (Some (record (sized 16 1) { creation_flags = wr_active_replica }))

abbrev opens : ℕ → ℕ → Op
opens place invocation = ops.OpenAsync place invocation (codes "ck") (checkpoint_read + checkpoint_write) None

abbrev looks_for : ℕ → ℕ → Op
looks_for place invocation = ops.OpenAsync place invocation (codes "no") checkpoint_read None

-- their steps, by which they end
abbrev records : CallId → Verb → Option Outcome → Label
records call verb end = labels.Stepped call opwords.OpenAsync verb (Some 1) None words.Ok end beside.Nothing

abbrev is_made : CallId → List Label
is_made call =
    records call verbs.Create None
    ∷ labels.Stepped call opwords.OpenAsync verbs.Reserve (Some 1) (Some 0) words.Ok None beside.Nothing
    ∷ records call verbs.Finish (Some (Done (answers.Opened 1)))
    ∷ []

abbrev is_opened : CallId → Label
is_opened call = records call verbs.Open (Some (Done (answers.Opened 1)))

abbrev is_missing : CallId → Label
is_missing call = labels.Stepped call opwords.OpenAsync verbs.Look None None words.Refused (Some (Refused errors.NotExist Plain)) beside.Nothing

-- the step of a synchronisation by which it ends, on one node
abbrev is_synchronized : CallId → Label
is_synchronized call = labels.Stepped call opwords.SyncAsync verbs.Pull (Some 1) (Some 0) words.Ok (Some (Done (answers.Pulled 0))) beside.Nothing

-- a dispatch gives these callbacks, and leaves so many
abbrev gives : CallId → ℕ → List Callback → ℕ → Label
gives call flags given left =
    labels.Began call (ops.Dispatch flags) (Some (Done (answers.Dispatched (record { given = length given; left = left })))) (beside.Callbacks given)

-- a close of the handle for which a place stands, and a Finalize
abbrev closes : CallId → ℕ → List Label
closes call place = begins call (ops.Close place) ∷ labels.Stepped call opwords.Close verbs.Close (Some 1) None words.Ok answered_ok beside.Nothing ∷ []

abbrev leaves : CallId → List Label
leaves call = begins call ops.Finalize ∷ labels.Stepped call opwords.Finalize verbs.Leave None None words.Ok answered_ok beside.Nothing ∷ []

-- ---- what is owed

-- the callback of an open that was done, of one that was not, and of a synchronisation
abbrev opened : ℕ → ℕ → Callback
opened place invocation = record { kind = kinds.Open place; invocation = invocation; outcome = Done (answers.Opened 1) }

abbrev missing : ℕ → ℕ → Callback
missing place invocation = record { kind = kinds.Open place; invocation = invocation; outcome = Refused errors.NotExist Plain }

abbrev synchronized : ℕ → Callback
synchronized invocation = record { kind = kinds.Sync; invocation = invocation; outcome = Done (answers.Pulled 0) }

-- what c0 and c1 are owed behind a log
abbrev to_c0 : List Label → List Callback
to_c0 log = callbacks_in (owed_in (Client 0) log)

abbrev to_c1 : List Label → List Callback
to_c1 log = callbacks_in (owed_in (Client 1) log)

-- ---- three ends of c0 and one of c1, of which one is dispatched, and then all

abbrev four_ends : List Label
four_ends =
    labels.Nodes 1
    ∷ enters (call_numbered 1) 0
    ++ enters (other_numbered 1) 0
    ++ is_asked (call_numbered 2) (makes 0 7)
    ∷ is_made (call_numbered 2)
    ++ is_asked (call_numbered 3) (looks_for 1 8)
    ∷ is_asked (call_numbered 4) (opens 1 9)
    ∷ is_asked (other_numbered 2) (opens 0 7)
    ∷ is_opened (call_numbered 4)
    ∷ is_opened (other_numbered 2)
    ∷ is_missing (call_numbered 3)
    ∷ []

abbrev first_given : List Label
first_given = four_ends ++ gives (call_numbered 5) dispatch_one (opened 0 7 ∷ []) 2 ∷ []

abbrev all_given : List Label
all_given = first_given ++ gives (call_numbered 6) dispatch_all (opened 1 9 ∷ missing 1 8 ∷ []) 0 ∷ gives (call_numbered 7) dispatch_all [] 0 ∷ []

pub all_given_is_run : IsRun all_given
all_given_is_run = played_is_run all_given (omega arith, omega arith, refl)

-- in the order of the ends, and to each client its own
pub owed_by_ends : to_c0 four_ends ≡ opened 0 7 ∷ opened 1 9 ∷ missing 1 8 ∷ []
owed_by_ends = refl

pub owed_to_the_other : to_c1 four_ends ≡ opened 0 7 ∷ []
owed_to_the_other = refl

pub owed_behind_one : to_c0 first_given ≡ opened 1 9 ∷ missing 1 8 ∷ []
owed_behind_one = refl

pub owed_behind_all : to_c0 all_given ≡ []
owed_behind_all = refl

pub owed_still_to_the_other : to_c1 all_given ≡ opened 0 7 ∷ []
owed_still_to_the_other = refl

-- ---- two synchronisations over a handle, and behind that one over another, for which the same place stands then; and this handle is closed

abbrev over_two : List Label
over_two =
    labels.Nodes 1
    ∷ enters (call_numbered 1) 0
    ++ is_asked (call_numbered 2) (makes 0 7)
    ∷ is_made (call_numbered 2)
    ++ gives (call_numbered 3) dispatch_all (opened 0 7 ∷ []) 0
    ∷ is_asked (call_numbered 4) (ops.SyncAsync 0 1)
    ∷ is_asked (call_numbered 5) (ops.SyncAsync 0 2)
    ∷ is_asked (call_numbered 6) (opens 0 8)
    ∷ is_opened (call_numbered 6)
    ∷ gives (call_numbered 7) dispatch_all (opened 0 8 ∷ []) 0
    ∷ is_asked (call_numbered 8) (ops.SyncAsync 0 3)
    ∷ is_asked (call_numbered 9) (looks_for 1 9)
    ∷ is_synchronized (call_numbered 4)
    ∷ is_synchronized (call_numbered 8)
    ∷ is_missing (call_numbered 9)
    ∷ []

abbrev one_closed : List Label
one_closed = over_two ++ closes (call_numbered 10) 0

-- the other one over the first handle ends behind that
abbrev one_more : List Label
one_more = one_closed ++ is_synchronized (call_numbered 5) ∷ []

abbrev left : List Label
left = one_more ++ leaves (call_numbered 11)

abbrev entered_again : List Label
entered_again = left ++ enters (call_numbered 12) 0 ++ gives (call_numbered 13) dispatch_all [] 0 ∷ []

pub entered_again_is_run : IsRun entered_again
entered_again_is_run = played_is_run entered_again (omega arith, omega arith, refl)

pub owed_over_two : owed_in (Client 0) over_two ≡ record { callback = synchronized 1; over = Some 1 } ∷ record { callback = synchronized 3; over = Some 2 } ∷ record { callback = missing 1 9; over = None } ∷ []
owed_over_two = refl

-- the close takes the one over its own handle, and no open
pub owed_behind_close : to_c0 one_closed ≡ synchronized 1 ∷ missing 1 9 ∷ []
owed_behind_close = refl

pub owed_behind_one_more : to_c0 one_more ≡ synchronized 1 ∷ missing 1 9 ∷ synchronized 2 ∷ []
owed_behind_one_more = refl

-- a Finalize takes all, and none is owed where the client enters again
pub owed_behind_finalize : to_c0 left ≡ []
owed_behind_finalize = refl

pub owed_to_the_next : to_c0 entered_again ≡ []
owed_to_the_next = refl

-- ---- c0 on n0 and c1 on n1, each with an end, and n1 fails

abbrev one_each : List Label
one_each =
    labels.Nodes 2
    ∷ enters (call_numbered 1) 0
    ++ enters (other_numbered 1) 1
    ++ is_asked (call_numbered 2) (looks_for 0 1)
    ∷ is_asked (other_numbered 2) (looks_for 0 2)
    ∷ is_missing (call_numbered 2)
    ∷ is_missing (other_numbered 2)
    ∷ []

abbrev node_fails : List Label
node_fails = one_each ++ labels.Failed 1 true ∷ []

pub node_fails_is_run : IsRun node_fails
node_fails_is_run = played_is_run node_fails (omega arith, omega arith, refl)

pub owed_before_failure : to_c1 one_each ≡ missing 0 2 ∷ []
owed_before_failure = refl

pub owed_behind_failure : to_c1 node_fails ≡ []
owed_behind_failure = refl

pub owed_on_another_node : to_c0 node_fails ≡ missing 0 1 ∷ []
owed_on_another_node = refl

-- ---- what may not be told

-- a dispatch of all that gives other callbacks than all that is owed, and one of the first that gives another
not_all : (owed given : List Callback) (answer : Answer) → (given ≡ owed → ⊥) → GivesOwed owed dispatch_all answer (beside.Callbacks given) → ⊥
not_all owed given answer other gives = elim gives.first_or_all [
  | inl one ↦ (let two : dispatch_all ≡ dispatch_one = one.0 in cc two)
  | inr all ↦ other ((let told = gives.told in cc told) ∙ all.1)
]

not_first : (owed given : List Callback) (answer : Answer) → (given ≡ take 1 owed → ⊥) → GivesOwed owed dispatch_one answer (beside.Callbacks given) → ⊥
not_first owed given answer other gives = elim gives.first_or_all [
  | inl one ↦ other ((let told = gives.told in cc told) ∙ one.1)
  | inr all ↦ (let one : dispatch_one ≡ dispatch_all = all.0 in cc one)
]

-- the invocation of the first
abbrev first_invocation : List Callback → ℕ
first_invocation [] = 0
first_invocation (c ∷ cs) = c.invocation

-- one that was given, again
pub given_again : (answer : Answer) → GivesOwed (to_c0 first_given) dispatch_all answer (beside.Callbacks (opened 0 7 ∷ opened 1 9 ∷ missing 1 8 ∷ [])) → ⊥
given_again answer = not_all (to_c0 first_given) (opened 0 7 ∷ opened 1 9 ∷ missing 1 8 ∷ []) answer (λ same. cc same)

-- the last one in front of those that ended before
pub last_first : (answer : Answer) → GivesOwed (to_c0 four_ends) dispatch_one answer (beside.Callbacks (missing 1 8 ∷ [])) → ⊥
last_first answer = not_first (to_c0 four_ends) (missing 1 8 ∷ []) answer (λ same. (let one : 8 ≡ 7 = ap first_invocation same in cc one))

-- one behind the close of its handle
pub behind_its_close : (answer : Answer) → GivesOwed (to_c0 one_closed) dispatch_all answer (beside.Callbacks (synchronized 1 ∷ synchronized 3 ∷ missing 1 9 ∷ [])) → ⊥
behind_its_close answer = not_all (to_c0 one_closed) (synchronized 1 ∷ synchronized 3 ∷ missing 1 9 ∷ []) answer (λ same. cc same)
