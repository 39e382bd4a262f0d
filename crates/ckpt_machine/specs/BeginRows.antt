-- What the machine allows a call to answer at its beginning: each answer with its cause, where none before it applies; and the words that may stand in
-- place of a call or a step.
use Rattle.std.specs.Prelude.{◌≡◌, ℕ, ◌<◌, ◌≤◌, length, Option, Some, None, is_none, IsSome, Bool, true, false, not, ◌&&◌, ◌||◌, pos, int_lt}
use Rattle.ckpt_types.specs.declared.ais_error.AisError.{AisError}
use Rattle.ckpt_types.specs.declared.ais_error.AisError.TheVariants as errors
use Rattle.ckpt_types.specs.declared.answers.Answer.TheVariants as answers
use Rattle.ckpt_types.specs.declared.answers.Cause.TheVariants.{Plain, Count}
use Rattle.ckpt_types.specs.declared.answers.Given.{Given}
use Rattle.ckpt_types.specs.declared.calls.CallbackSet.{CallbackSet}
use Rattle.ckpt_types.specs.declared.answers.Outcome.{Outcome}
use Rattle.ckpt_types.specs.declared.answers.Outcome.TheVariants.{Done, Refused, NoMemory}
use Rattle.ckpt_types.specs.declared.identities.ActorName.{ActorName}
use Rattle.ckpt_types.specs.declared.identities.ActorName.TheVariants.{Client, Node}
use Rattle.ckpt_types.specs.declared.identities.CallId.{CallId}
use Rattle.ckpt_types.specs.declared.identities.Who.{Who}
use Rattle.ckpt_types.specs.declared.identities.Who.TheVariants.{Actor}
use Rattle.ckpt_types.specs.declared.identities.Who.TheVariants as whos
use Rattle.ckpt_types.specs.declared.open_flags.OpenFlags.{OpenFlags}
use Rattle.ckpt_types.specs.declared.operation.Op.{Op}
use Rattle.ckpt_types.specs.Attributes.{has_bad_open_flags}
use Rattle.ckpt_types.specs.Limits.{nodes_max, pending_max}
use Rattle.call_dispatch.specs.PendingCalls.{PendingCalls, pending_count}
use Rattle.node_msgs.specs.declared.details.Details.{Details}
use Rattle.run_labels.specs.declared.words.LineWord.{LineWord}
use Rattle.run_labels.specs.declared.words.LineWord.TheVariants as linewords
use Rattle.ckpt_types.specs.declared.words.OpWord.TheVariants as opwords
use Rattle.run_labels.specs.declared.words.Said.{Said}
use Rattle.run_labels.specs.declared.words.Said.TheVariants.{Busy, Idle, Live, Down}
use Rattle.client_handles.specs.declared.handle_view.HandleView.{HandleView}
use Rattle.cluster_record.specs.RecordState.{is_live_client, is_up}
use Rattle.ckpt_machine.specs.Beginning.{version_is_bad, name_is_bad, attributes_are_bad, are_of_all, are_not_collocated, timeout_is_bad, dispatch_is_bad, given_of, callbacks_told, takes_memory_at_once, Standing, vector_is_bad, update_is_bad, choice_is_bad, may_write, may_read, may_always}
use Rattle.ckpt_types.specs.Asks.{Ask, MayAsk, asked, is_async_ask, IsBuilt}
use Rattle.ckpt_types.specs.Asks as asks
use Rattle.ckpt_machine.specs.Machine.{Machine}
use Rattle.ckpt_machine.specs.Due.{MayBegin, standing_of}

-- ---- the causes

-- an Initialize of a version that the service does not speak
abbrev pub has_bad_version : Ask → Bool
has_bad_version (asks.Enter r version callbacks) = version_is_bad version
has_bad_version ask = false

-- any other call is of a client that is live, but for a copying, which is a node's
abbrev pub is_of_client : Ask → Bool
is_of_client (asks.Enter r version callbacks) = false
is_of_client asks.Copy = false
is_of_client ask = true

-- it is about the handle of a place, or about the iteration of one
abbrev pub is_of_place : Ask → Bool
is_of_place (asks.Enter r version callbacks) = false
is_of_place (asks.Open place name flags timeout a) = false
is_of_place (asks.Unlink name) = false
is_of_place asks.Leave = false
is_of_place (asks.Dispatch flags) = false
is_of_place asks.Copy = false
is_of_place ask = true

-- the client of the call is not live, or the place stands for no handle, or for no iteration
abbrev pub has_bad_handle : Bool → Option HandleView → Ask → Bool
has_bad_handle live h ask = (is_of_client ask && not live) || (is_of_place ask && is_none h)

-- an asynchronous call whose callback its client has not registered
abbrev pub lacks_callback : CallbackSet → Ask → Bool
lacks_callback callbacks (asks.Open place name flags None a) = not callbacks.opens
lacks_callback callbacks (asks.Synchronize place None) = not callbacks.syncs
lacks_callback callbacks ask = false

-- an open with no flag, or an unknown one
abbrev pub has_bad_flags : Ask → Bool
has_bad_flags (asks.Open place name flags timeout a) = has_bad_open_flags flags
has_bad_flags ask = false

-- what is a bad argument of each: a name, timeout or attributes; a number of elements; a choice; a duration; a timeout; flags
abbrev pub has_bad_arguments : Ask → Bool
has_bad_arguments (asks.Open place name flags timeout a) = name_is_bad name || timeout_is_bad timeout || attributes_are_bad flags a
has_bad_arguments (asks.Change place update) = update_is_bad update
has_bad_arguments (asks.Read place elements) = vector_is_bad (length elements)
has_bad_arguments (asks.Iterate iteration place chosen time) = choice_is_bad chosen
has_bad_arguments (asks.Retain place duration) = int_lt duration (pos 0)
has_bad_arguments (asks.Synchronize place timeout) = timeout_is_bad timeout
has_bad_arguments (asks.Dispatch flags) = dispatch_is_bad flags
has_bad_arguments ask = false

-- what its handle is to be opened for
abbrev pub needs_opened : Ask → OpenFlags → Bool
needs_opened (asks.Change place update) = may_write
needs_opened (asks.Read place elements) = may_read
needs_opened (asks.Iterate iteration place chosen time) = may_read
needs_opened (asks.Synchronize place timeout) = may_write
needs_opened (asks.SetActive place) = may_write
needs_opened ask = may_always

-- there is a handle, which was not opened for this
abbrev pub was_not_opened_for : (OpenFlags → Bool) → Option HandleView → Bool
was_not_opened_for may None = false
was_not_opened_for may (Some h) = not (may h.flags)

-- its handle was not opened for what it asks
abbrev pub lacks_access : Option HandleView → Ask → Bool
lacks_access h ask = was_not_opened_for (needs_opened ask) h

-- which creation flags forbid it: of a synchronisation those that have updates on all replicas, and of the setting of an active those that are not collocated
abbrev pub forbidden_by : Ask → ℕ → Bool
forbidden_by (asks.Synchronize place timeout) = are_of_all
forbidden_by (asks.SetActive place) = are_not_collocated
forbidden_by ask = λ flags. false

-- there is a handle, and the creation flags of its checkpoint forbid what is asked
abbrev pub has_bad_operation : Option HandleView → Ask → Bool
has_bad_operation None ask = false
has_bad_operation (Some h) ask = forbidden_by ask h.creation_flags

-- the end of an iteration is answered at once, and so is an asynchronous call, which goes on by itself
abbrev pub ends_at_once : Ask → Bool
ends_at_once (asks.EndIteration iteration) = true
ends_at_once (asks.Open place name flags None a) = true
ends_at_once (asks.Synchronize place None) = true
ends_at_once ask = false

-- it is a dispatch, which is answered at once with what it gives
abbrev pub IsGivenBy : PendingCalls → Ask → Given → Type 0
IsGivenBy p (asks.Dispatch flags) given = given ≡ given_of flags p
IsGivenBy p ask given = ⊥

-- every other call goes on
abbrev pub goes_on_behind : Ask → Bool
goes_on_behind (asks.Dispatch flags) = false
goes_on_behind ask = not (ends_at_once ask)

-- ---- the answers

-- a refusal that says all, where its cause is there and none before it
abbrev pub BeginRefused : Standing → Ask → AisError → Type 0
BeginRefused st ask errors.Version = has_bad_version ask ≡ true
BeginRefused st ask errors.BadHandle = (has_bad_version ask ≡ false) × (has_bad_handle st.live st.handle ask ≡ true)
BeginRefused st ask errors.Init = (has_bad_version ask ≡ false) × (has_bad_handle st.live st.handle ask ≡ false) × (lacks_callback st.callbacks ask ≡ true)
BeginRefused st ask errors.BadFlags =
    (has_bad_version ask ≡ false) × (has_bad_handle st.live st.handle ask ≡ false) × (lacks_callback st.callbacks ask ≡ false) × (has_bad_flags ask ≡ true)
BeginRefused st ask errors.InvalidParam =
    (has_bad_version ask ≡ false) × (has_bad_handle st.live st.handle ask ≡ false) × (lacks_callback st.callbacks ask ≡ false) × (has_bad_flags ask ≡ false)
    × (has_bad_arguments ask ≡ true)
BeginRefused st ask errors.Access =
    (has_bad_version ask ≡ false) × (has_bad_handle st.live st.handle ask ≡ false) × (lacks_callback st.callbacks ask ≡ false) × (has_bad_flags ask ≡ false)
    × (has_bad_arguments ask ≡ false) × (lacks_access st.handle ask ≡ true)
BeginRefused st ask errors.BadOperation =
    (has_bad_version ask ≡ false) × (has_bad_handle st.live st.handle ask ≡ false) × (lacks_callback st.callbacks ask ≡ false) × (has_bad_flags ask ≡ false)
    × (has_bad_arguments ask ≡ false) × (lacks_access st.handle ask ≡ false) × (has_bad_operation st.handle ask ≡ true)
BeginRefused st ask error = ⊥

-- no refusal applies that says all
pub record MeetsNoRefusal (st : Standing) (ask : Ask) : Type 0 where
  pub version : has_bad_version ask ≡ false
  pub handle : has_bad_handle st.live st.handle ask ≡ false
  pub callback : lacks_callback st.callbacks ask ≡ false
  pub flags : has_bad_flags ask ≡ false
  pub arguments : has_bad_arguments ask ≡ false
  pub access : lacks_access st.handle ask ≡ false
  pub operation : has_bad_operation st.handle ask ≡ false

-- as many asynchronous calls of the client as may be are not dispatched
abbrev pub IsFullOfCalls : PendingCalls → Type 0
IsFullOfCalls p = pending_max ≤ pending_count p

-- an asynchronous call finds room for it among those that are not dispatched
abbrev pub HasPlaceFor : Bool → PendingCalls → Type 0
HasPlaceFor true p = pending_count p < pending_max
HasPlaceFor false p = Unit {0}

-- a refusal; OK at once; what a dispatch gives; no memory for the room of an iteration or a snapshot, or to go on by itself; or the call goes on
abbrev pub BeginRow : Standing → Ask → Option Outcome → Type 0
BeginRow st ask (Some (Refused error Plain)) = BeginRefused st ask error
BeginRow st ask (Some (Refused errors.NoResources (Count n))) = MeetsNoRefusal st ask × (is_async_ask ask ≡ true) × IsFullOfCalls st.pending × (n ≡ pending_max)
BeginRow st ask (Some (Done answers.Nothing)) = MeetsNoRefusal st ask × (ends_at_once ask ≡ true) × HasPlaceFor (is_async_ask ask) st.pending
BeginRow st ask (Some (Done (answers.Dispatched given))) = MeetsNoRefusal st ask × IsGivenBy st.pending ask given
BeginRow st ask (Some NoMemory) = MeetsNoRefusal st ask × (takes_memory_at_once ask ≡ true) × HasPlaceFor (is_async_ask ask) st.pending
BeginRow st ask None = MeetsNoRefusal st ask × (goes_on_behind ask ≡ true)
BeginRow st ask end = ⊥

-- a client begins an operation that it may ask for, or a node its copying, with the number that is its next, while it has no call in hand
pub record IsAllowedBegin (m : Machine) (call : CallId) (op : Op) (end : Option Outcome) (details : Details) : Type 0 where
  pub asker : MayAsk call.actor (asked op)
  pub built : IsBuilt op
  pub number : call.number ≡ m.next call.actor
  pub none_in_hand : m.in_hand (Actor call.actor) ≡ None
  pub may : MayBegin m.cluster call.actor (asked op)
  pub row : BeginRow (standing_of m call.actor op) (asked op) end
  pub told : details ≡ callbacks_told end (asked op) (m.pending call.actor)

-- ---- the words

-- the line begins a call
abbrev pub IsCallLine : LineWord → Type 0
IsCallLine (linewords.Op op) = Unit {0}
IsCallLine line = ⊥

-- the line begins an Initialize
abbrev pub IsInitializeLine : LineWord → Type 0
IsInitializeLine (linewords.Op opwords.Client) = Unit {0}
IsInitializeLine line = ⊥

-- the line is `step` or `finish`
abbrev pub IsStepLine : LineWord → Type 0
IsStepLine (linewords.Op op) = ⊥
IsStepLine line = Unit {0}

-- one of the nodes is not up
pub record SomeNodeIsDown (m : Machine) : Type 0 where
  pub node : ℕ
  pub below : node < nodes_max
  pub down : is_up node m.cluster ≡ false

-- the line begins a copying
abbrev pub IsCopyLine : LineWord → Type 0
IsCopyLine (linewords.Op opwords.Copy) = Unit {0}
IsCopyLine line = ⊥

-- DOWN to an Initialize of a client that is not live, where a node is down; and to the copying of a node that is down
abbrev pub DownRow : Machine → ActorName → LineWord → Type 0
DownRow m (Client c) line = IsInitializeLine line × (is_live_client c m.cluster ≡ false) × SomeNodeIsDown m
DownRow m (Node r) line = IsCopyLine line × (r < nodes_max) × (is_up r m.cluster ≡ false)

-- LIVE to an Initialize of a client that is live
abbrev pub LiveRow : Machine → ActorName → LineWord → Type 0
LiveRow m (Client c) line = IsInitializeLine line × (is_live_client c m.cluster ≡ true)
LiveRow m (Node r) line = ⊥

-- BUSY where a call is in hand; where none is, LIVE and DOWN as above, and IDLE to a step
abbrev pub WordRow : Machine → ActorName → LineWord → Said → Type 0
WordRow m a line Busy = IsCallLine line × IsSome (m.in_hand (Actor a))
WordRow m a line Live = (m.in_hand (Actor a) ≡ None) × LiveRow m a line
WordRow m a line Down = (m.in_hand (Actor a) ≡ None) × DownRow m a line
WordRow m a line Idle = IsStepLine line × (m.in_hand (Actor a) ≡ None)

-- IDLE to a step of an asynchronous operation that is not there, or is finished
abbrev pub OperationRow : Machine → CallId → LineWord → Said → Type 0
OperationRow m call line Idle = IsStepLine line × (m.in_hand (whos.Call call) ≡ None)
OperationRow m call line said = ⊥

-- a word is allowed by its row: that of an actor, or of an asynchronous operation
abbrev pub IsAllowedWord : Machine → Who → LineWord → Said → Type 0
IsAllowedWord m (Actor a) line said = WordRow m a line said
IsAllowedWord m (whos.Call call) line said = OperationRow m call line said
