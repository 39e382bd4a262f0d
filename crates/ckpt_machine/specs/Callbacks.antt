-- What clients are owed for their asynchronous calls, by the labels of a log, with no more of the state than handles and the nodes of clients; and that their
-- dispatches give just that, in this order.
use Rattle.std.specs.Option.{option_and_then, option_map}
use Rattle.std.specs.Prelude.{◌≡◌, ◌⊎◌, ℕ, ◌==◌, Bool, true, false, not, if◌then◌else◌, List, [], ◌∷◌, ◌++◌, length, map, take, drop, filter, Option, Some, None}
use Rattle.ckpt_types.specs.declared.answers.Answer.{Answer}
use Rattle.ckpt_types.specs.declared.answers.Answer.TheVariants as answers
use Rattle.ckpt_types.specs.declared.answers.Outcome.{Outcome}
use Rattle.ckpt_types.specs.declared.answers.Outcome.TheVariants.{Done}
use Rattle.ckpt_types.specs.declared.calls.AsyncKind.TheVariants as kinds
use Rattle.ckpt_types.specs.declared.calls.Callback.{Callback}
use Rattle.ckpt_types.specs.declared.identities.ActorName.{ActorName}
use Rattle.ckpt_types.specs.declared.identities.CallId.{CallId}
use Rattle.ckpt_types.specs.declared.operation.Op.{Op}
use Rattle.ckpt_types.specs.declared.operation.Op.TheVariants as ops
use Rattle.ckpt_types.specs.Limits.{dispatch_one, dispatch_all}
use Rattle.ckpt_types.specs.OpWord.{word_of_op}
use Rattle.node_msgs.specs.declared.details.Details.{Details}
use Rattle.node_msgs.specs.declared.details.Details.TheVariants as beside
use Rattle.run_labels.specs.declared.labels.Label.{Label}
use Rattle.run_labels.specs.declared.labels.Label.TheVariants as labels
use Rattle.client_handles.specs.ClientState.{handle_number}
use Rattle.cluster_record.specs.Calls.{same_actor, same_call, put_actor}
use Rattle.ckpt_machine.specs.After.{after, goes_on}
use Rattle.ckpt_machine.specs.Due.{asked_handle}
use Rattle.ckpt_machine.specs.Failing.{is_of_node}
use Rattle.ckpt_machine.specs.Machine.{Machine, empty_cluster}

-- ---- what the labels tell

-- what a call asks for, and the number of the handle for which its place stood when it began
pub record BegunCall : Type 0 where
  pub op : Op
  pub handle : Option ℕ

-- a callback that a client is owed; and of a synchronisation, the number of the handle over which it went
pub record OwedCallback : Type 0 where
  pub callback : Callback
  pub over : Option ℕ

-- the calls that have begun and go on; and what each client is owed, in the order in which its calls have ended
pub record Owing : Type 0 where
  pub going : CallId → Option BegunCall
  pub owed : ActorName → List OwedCallback

-- none has begun, and nothing is owed
abbrev pub none_owing : Owing
none_owing = record { going = λ call. None; owed = λ a. [] }

-- ---- a beginning

-- as what a call goes on that begins so in this state; as nothing, where it has ended at once
abbrev pub goes_on_as : Machine → CallId → Op → Option Outcome → Option BegunCall
goes_on_as m call op end =
    if goes_on (word_of_op op) end then Some (record { op = op; handle = option_map handle_number (asked_handle m call.actor op) }) else None

-- how many callbacks are told beside its answer
abbrev pub told_beside : Details → ℕ
told_beside (beside.Callbacks given) = length given
told_beside details = 0

-- ---- an end

-- the number of the handle over which an asynchronous synchronisation goes
abbrev pub over_handle : Op → Option ℕ → Option ℕ
over_handle (ops.SyncAsync place invocation) handle = handle
over_handle op handle = None

-- it goes over this handle, where there is one
abbrev pub refers_to : Option ℕ → Option ℕ → Bool
refers_to (Some over) (Some handle) = over == handle
refers_to over handle = false

-- WHAT THE END OF A CALL MAKES OF WHAT ITS CLIENT IS OWED, by what it asks for and its handle: the end of an asynchronous call is owed behind the others; a
-- close that is answered OK takes along the synchronisations over its handle, and no open; and a Finalize takes all
abbrev pub owed_ended : Op → Option ℕ → Outcome → List OwedCallback → List OwedCallback
owed_ended (ops.OpenAsync place invocation name flags a) handle end owed =
    owed ++ record { callback = record { kind = kinds.Open place; invocation = invocation; outcome = end }; over = None } ∷ []
owed_ended (ops.SyncAsync place invocation) handle end owed =
    owed ++ record { callback = record { kind = kinds.Sync; invocation = invocation; outcome = end }; over = handle } ∷ []
owed_ended (ops.Close place) handle (Done answer) owed = filter (λ (o : OwedCallback). not (refers_to o.over handle)) owed
owed_ended ops.Finalize handle (Done answer) owed = []
owed_ended op handle end owed = owed

-- and of another call of its client that goes on: the same of these go along
abbrev pub going_ended : Op → Option ℕ → Outcome → BegunCall → Option BegunCall
going_ended (ops.Close place) handle (Done answer) other = if refers_to (over_handle other.op other.handle) handle then None else Some other
going_ended ops.Finalize handle (Done answer) other = None
going_ended op handle end other = Some other

-- where it has begun, and went on till then
abbrev pub owing_ended : CallId → Option BegunCall → Outcome → Owing → Owing
owing_ended call None end t = t
owing_ended call (Some begun) end t = record {
  going =
      λ other. if same_call other call then None
      else if same_actor other.actor call.actor then option_and_then (going_ended begun.op begun.handle end) (t.going other) else t.going other;
  owed = put_actor t.owed call.actor (owed_ended begun.op begun.handle end (t.owed call.actor));
}

-- ---- a log

-- WHAT A LABEL MAKES OF IT, behind this state: a call begins, and if it gives callbacks, these are owed no more; a call ends; or a node fails, with all that is
-- of its clients
abbrev pub owing_behind : Machine → Owing → Label → Owing
owing_behind m t (labels.Began call op end details) = record {
  going = λ other. if same_call other call then goes_on_as m call op end else t.going other;
  owed = put_actor t.owed call.actor (drop (told_beside details) (t.owed call.actor));
}
owing_behind m t (labels.Stepped call word verb k r reply (Some end) details) = owing_ended call (t.going call) end t
owing_behind m t (labels.Failed r true) = record {
  going = λ call. if is_of_node m.cluster r call.actor then None else t.going call;
  owed = λ a. if is_of_node m.cluster r a then [] else t.owed a;
}
owing_behind m t label = t

-- what labels make of it
abbrev pub owing_from : Machine → Owing → List Label → Owing
owing_from m t [] = t
owing_from m t (l ∷ ls) = owing_from (after m l) (owing_behind m t l) ls

-- what the labels of a log tell
abbrev pub owing_in : List Label → Owing
owing_in log = owing_from empty_cluster none_owing log

-- WHAT A CLIENT IS OWED behind a log
abbrev pub owed_in : ActorName → List Label → List OwedCallback
owed_in a log = (owing_in log).owed a

-- ---- what is given

-- the callbacks that are told
abbrev pub callbacks_in : List OwedCallback → List Callback
callbacks_in owed = map (λ (o : OwedCallback). o.callback) owed

-- a dispatch with these flags, which is answered so, gives of these callbacks the first, if there is one, or all, and counts what it gives and what it leaves
pub record GivesOwed (owed : List Callback) (flags : ℕ) (answer : Answer) (details : Details) : Type 0 where
  pub given : List Callback
  pub left : List Callback
  pub owed_is : owed ≡ given ++ left
  pub first_or_all : ((flags ≡ dispatch_one) × (given ≡ take 1 owed)) ⊎ ((flags ≡ dispatch_all) × (given ≡ owed))
  pub told : details ≡ beside.Callbacks given
  pub counted : answer ≡ answers.Dispatched (record { given = length given; left = length left })

-- no callback is told
abbrev pub TellsNone : Details → Type 0
TellsNone (beside.Callbacks given) = ⊥
TellsNone details = Unit {0}

-- a label behind the log that answers a dispatch gives what its client is owed, and any other label tells no callback
abbrev pub TellsOwed : List Label → Label → Type 0
TellsOwed log (labels.Began call (ops.Dispatch flags) (Some (Done answer)) details) = GivesOwed (callbacks_in (owed_in call.actor log)) flags answer details
TellsOwed log (labels.Began call op end details) = TellsNone details
TellsOwed log (labels.Stepped call word verb k r reply end details) = TellsNone details
TellsOwed log label = Unit {0}

-- EACH END OF AN ASYNCHRONOUS CALL IS TOLD ONCE, IN THE ORDER OF THE ENDS, TO ITS CLIENT, and none behind the close of its handle, a Finalize of the client
-- or the failure of its node: at every label of the log
abbrev pub CallbacksTold : List Label → Type 0
CallbacksTold log = (front back : List Label) (l : Label) → log ≡ front ++ l ∷ back → TellsOwed front l
