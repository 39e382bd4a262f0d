-- What a call answers when it begins, by its arguments, the tables and the record: the first refusal that applies; and what a dispatch gives.
use Rattle.std.specs.Option.{option_or}
use Rattle.std.specs.Prelude.{ℕ, ◌-◌, List, length, map, nat_le, Option, Some, None, Bool, true, false, not, ◌||◌, ◌==◌, nat_lt, if◌then◌else◌, ℤ, pos, int_lt}
use Rattle.ckpt_types.specs.declared.ais_error.AisError.{AisError}
use Rattle.ckpt_types.specs.declared.ais_error.AisError.TheVariants as errors
use Rattle.ckpt_types.specs.declared.answers.Cause.TheVariants.{Plain, Count}
use Rattle.ckpt_types.specs.declared.answers.Given.{Given}
use Rattle.ckpt_types.specs.declared.calls.CallbackSet.{CallbackSet}
use Rattle.ckpt_types.specs.declared.answers.Outcome.{Outcome}
use Rattle.ckpt_types.specs.declared.answers.Answer.TheVariants as answers
use Rattle.ckpt_types.specs.declared.answers.Outcome.TheVariants.{Done, Refused}
use Rattle.ckpt_types.specs.declared.attributes.CreationAttributes.{CreationAttributes}
use Rattle.ckpt_types.specs.declared.calls.Version.{Version}
use Rattle.ckpt_types.specs.declared.open_flags.OpenFlags.{OpenFlags}
use Rattle.ckpt_types.specs.declared.update.Update.{Update}
use Rattle.ckpt_types.specs.declared.update.Update.TheVariants as updates
use Rattle.ckpt_types.specs.Attributes.{has_flag, has_bad_open_flags, is_malformed}
use Rattle.ckpt_types.specs.Limits.{wr_all_replicas, checkpoint_collocated, checkpoint_create, dispatch_one, dispatch_all, pending_max, vector_max, name_max, release, sections_any, major_min, major_max}
use Rattle.call_dispatch.specs.PendingCalls.{PendingCalls, pending_count, given_by, callback_of}
use Rattle.node_msgs.specs.declared.details.Details.{Details}
use Rattle.node_msgs.specs.declared.details.Details.TheVariants as beside
use Rattle.client_handles.specs.declared.handle_view.HandleView.{HandleView}
use Rattle.ckpt_types.specs.Asks.{Ask, is_async_ask, takes_room}
use Rattle.ckpt_types.specs.Asks as asks

-- what a beginning looks at: whether its client is live, or its node is up, the handle of its place, the callbacks that its client has registered, and its asynchronous
-- calls that are not dispatched
pub record Standing : Type 0 where
  pub live : Bool
  pub handle : Option HandleView
  pub callbacks : CallbackSet
  pub pending : PendingCalls

-- a refusal that says all
abbrev pub refused : AisError → Option Outcome
refused error = Some (Refused error Plain)

-- the service speaks one release in two major versions, each with any minor version
abbrev pub version_is_bad : Version → Bool
version_is_bad version = not (version.release == release) || not ((version.major == major_min) || (version.major == major_max))

-- a name has 1 to 256 bytes
abbrev pub name_is_bad : List ℕ → Bool
name_is_bad name = (length name == 0) || nat_lt name_max (length name)

-- attributes are given just where the flags ask for a checkpoint to be made, and are well formed
abbrev pub attributes_are_bad : ℕ → Option CreationAttributes → Bool
attributes_are_bad flags None = has_flag flags checkpoint_create
attributes_are_bad flags (Some a) = not (has_flag flags checkpoint_create) || is_malformed a

-- a timeout, where there is one, is not negative
abbrev pub timeout_is_bad : Option ℤ → Bool
timeout_is_bad None = false
timeout_is_bad (Some timeout) = int_lt timeout (pos 0)

-- an open: its flags, then its name, timeout and attributes
abbrev pub open_begin : List ℕ → ℕ → Option ℤ → Option CreationAttributes → Option Outcome
open_begin name flags timeout a =
    if has_bad_open_flags flags then refused errors.BadFlags
    else if name_is_bad name || timeout_is_bad timeout || attributes_are_bad flags a then refused errors.InvalidParam
    else None

-- a vector has elements, and not too many
abbrev pub vector_is_bad : ℕ → Bool
vector_is_bad n = (n == 0) || nat_lt vector_max n

-- of the updates a write alone has elements to be counted
abbrev pub update_is_bad : Update → Bool
update_is_bad (updates.Write elements) = vector_is_bad (length elements)
update_is_bad update = false

-- on a handle: its place stands for one, the arguments are good, and it was opened for this
abbrev pub on_handle : Option HandleView → Bool → (OpenFlags → Bool) → Option Outcome
on_handle None bad may = refused errors.BadHandle
on_handle (Some h) bad may = if bad then refused errors.InvalidParam else if not (may h.flags) then refused errors.Access else None

-- opened for writing
abbrev pub may_write : OpenFlags → Bool
may_write flags = flags.write

-- opened for reading
abbrev pub may_read : OpenFlags → Bool
may_read flags = flags.read

-- opened for anything
abbrev pub may_always : OpenFlags → Bool
may_always flags = true

-- a choice is one of those that there are
abbrev pub choice_is_bad : ℕ → Bool
choice_is_bad chosen = (chosen == 0) || nat_lt sections_any chosen

-- an iteration is ended at once, where its place stands for one
abbrev pub end_iteration : Option HandleView → Option Outcome
end_iteration None = refused errors.BadHandle
end_iteration (Some h) = Some (Done answers.Nothing)

-- an update, on a handle that was opened for writing
abbrev pub update_begin : Option HandleView → Update → Option Outcome
update_begin h update = on_handle h (update_is_bad update) may_write

-- the creation flags have updates on all replicas
abbrev pub are_of_all : ℕ → Bool
are_of_all flags = flags == wr_all_replicas

-- they are not those of a collocated checkpoint
abbrev pub are_not_collocated : ℕ → Bool
are_not_collocated flags = not (has_flag flags checkpoint_collocated)

-- BAD_OPERATION where the creation flags of a handle's checkpoint forbid it
abbrev pub unless_forbidden : (ℕ → Bool) → Option HandleView → Option Outcome
unless_forbidden forbid None = None
unless_forbidden forbid (Some h) = if forbid h.creation_flags then refused errors.BadOperation else None

-- on a handle that was opened for writing, of a checkpoint whose flags do not forbid it
abbrev pub sync_begin : Option HandleView → Bool → (ℕ → Bool) → Option Outcome
sync_begin h bad forbid = option_or (on_handle h bad may_write) (unless_forbidden forbid h)

-- BAD_HANDLE to a client that is not live
abbrev pub if_live : Bool → Option Outcome → Option Outcome
if_live true answer = answer
if_live false answer = refused errors.BadHandle

-- INIT to an asynchronous call whose callback is not registered
abbrev pub if_registered : Bool → Option Outcome → Option Outcome
if_registered true answer = answer
if_registered false answer = refused errors.Init

-- an asynchronous call that meets no other refusal is answered OK, and goes on by itself; not where as many as may be are not dispatched
abbrev pub goes_on_alone : ℕ → Option Outcome
goes_on_alone count = if nat_le pending_max count then Some (Refused errors.NoResources (Count pending_max)) else Some (Done answers.Nothing)

-- an open waits for its end, or goes on by itself
abbrev pub open_asked : Standing → List ℕ → ℕ → Option ℤ → Option CreationAttributes → Option Outcome
open_asked st name flags (Some timeout) a = open_begin name flags (Some timeout) a
open_asked st name flags None a = if_registered st.callbacks.opens (option_or (open_begin name flags None a) (goes_on_alone (pending_count st.pending)))

-- a synchronisation on a handle that goes on by itself
abbrev pub sync_alone : Standing → Option HandleView → Option Outcome
sync_alone st None = refused errors.BadHandle
sync_alone st (Some h) = if_registered st.callbacks.syncs (option_or (sync_begin (Some h) false are_of_all) (goes_on_alone (pending_count st.pending)))

-- a synchronisation waits for its end, or goes on by itself
abbrev pub sync_asked : Standing → Option ℤ → Option Outcome
sync_asked st (Some timeout) = sync_begin st.handle (int_lt timeout (pos 0)) are_of_all
sync_asked st None = sync_alone st st.handle

-- a dispatch gives one callback or all
abbrev pub dispatch_is_bad : ℕ → Bool
dispatch_is_bad flags = not ((flags == dispatch_one) || (flags == dispatch_all))

-- how many callbacks a dispatch gives, and how many calls it leaves that have ended
abbrev pub given_of : ℕ → PendingCalls → Given
given_of flags p = record { given = length (given_by flags p); left = length p.finished - length (given_by flags p) }

-- a dispatch is answered at once
abbrev pub dispatch_begin : ℕ → PendingCalls → Option Outcome
dispatch_begin flags p = if dispatch_is_bad flags then refused errors.InvalidParam else Some (Done (answers.Dispatched (given_of flags p)))

-- what is answered at once to what is asked for; none where the call goes on
abbrev pub begin_end : Standing → Ask → Option Outcome
begin_end st (asks.Enter r version callbacks) = if version_is_bad version then refused errors.Version else None
begin_end st (asks.Open place name flags timeout a) = if_live st.live (open_asked st name flags timeout a)
begin_end st (asks.Change place update) = if_live st.live (update_begin st.handle update)
begin_end st (asks.Read place elements) = if_live st.live (on_handle st.handle (vector_is_bad (length elements)) may_read)
begin_end st (asks.Status place) = if_live st.live (on_handle st.handle false may_always)
begin_end st (asks.Iterate iteration place chosen time) = if_live st.live (on_handle st.handle (choice_is_bad chosen) may_read)
begin_end st (asks.Next iteration) = if_live st.live (on_handle st.handle false may_always)
begin_end st (asks.EndIteration iteration) = if_live st.live (end_iteration st.handle)
begin_end st (asks.Close place) = if_live st.live (on_handle st.handle false may_always)
begin_end st (asks.Retain place duration) = if_live st.live (on_handle st.handle (int_lt duration (pos 0)) may_always)
begin_end st (asks.Unlink name) = if_live st.live None
begin_end st asks.Leave = if_live st.live None
begin_end st (asks.Synchronize place timeout) = if_live st.live (sync_asked st timeout)
begin_end st (asks.SetActive place) = if_live st.live (sync_begin st.handle false are_not_collocated)
begin_end st (asks.Dispatch flags) = if_live st.live (dispatch_begin flags st.pending)
begin_end st asks.Copy = None

-- a call takes memory at its beginning for the room that it keeps, and an asynchronous one to go on by itself
abbrev pub takes_memory_at_once : Ask → Bool
takes_memory_at_once ask = takes_room ask || is_async_ask ask

-- beside an answered dispatch stand the callbacks that it gives, in the order in which their calls have ended
abbrev pub callbacks_told : Option Outcome → Ask → PendingCalls → Details
callbacks_told (Some (Done answer)) (asks.Dispatch flags) p = beside.Callbacks (map callback_of (given_by flags p))
callbacks_told end ask p = beside.Nothing
