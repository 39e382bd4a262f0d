-- What a call finds in its client's tables, and what it makes of them, by what it asks for.
use Rattle.std.specs.Option.{option_map}
use Rattle.std.specs.Prelude.{ℕ, ◌+◌, List, [], ◌∷◌, length, nat_lt, Option, Some, None, Result, Ok, Err, Bool, true, nat_le, if◌then◌else◌, ℤ, false}
use Rattle.ckpt_types.specs.declared.ais_error.AisError.{AisError}
use Rattle.ckpt_types.specs.declared.answers.Outcome.{Outcome}
use Rattle.ckpt_types.specs.declared.answers.Outcome.TheVariants.{Done}
use Rattle.ckpt_types.specs.declared.open_flags.OpenFlags.{OpenFlags}
use Rattle.ckpt_types.specs.declared.sections.Choice.{Choice}
use Rattle.ckpt_types.specs.Attributes.{open_flags_of}
use Rattle.ckpt_types.specs.declared.calls.AsyncKind.{AsyncKind}
use Rattle.ckpt_types.specs.declared.calls.AsyncKind.TheVariants.{Open, Sync}
use Rattle.ckpt_types.specs.Limits.{handles_max, sections_any}
use Rattle.ckpt_types.specs.Reads.{NextGiven}
use Rattle.section_iter.specs.KeptIds.{KeptIds}
use Rattle.section_iter.specs.Next.{kept_after}
use Rattle.section_iter.specs.declared.room.Room.{Room}
use Rattle.call_dispatch.specs.PendingCalls.{PendingCalls, given_by}
use Rattle.call_dispatch.specs.declared.async_call.EndedCall.{EndedCall}
use Rattle.client_handles.specs.ClientState.{ClientState, emptied, handle_at, iterated_at, kept_at, taken, bound, opened_at, dropped, added, returned, ended, registered, handle_number, has_iteration_room}
use Rattle.client_handles.specs.declared.handle_view.HandleView.{HandleView}
use Rattle.cluster_record.specs.LookUps.{creation_flags_of}
use Rattle.cluster_record.specs.RecordState.{RecordState, entry_of}
use Rattle.node_msgs.specs.declared.steps.Verb.{Verb}
use Rattle.node_msgs.specs.declared.steps.Verb.TheVariants as verbs
use Rattle.ckpt_types.specs.Asks.{Ask}
use Rattle.ckpt_types.specs.Asks as asks
use Rattle.ckpt_machine.specs.Drivers.{Rooms}

-- ---- what it finds

-- there is a free place for one handle more, where each of so many that are in the making has one
abbrev pub has_place : ℕ → ClientState → Bool
has_place making t = nat_lt (length t.handles + making) handles_max

-- what the tables have a free place for
abbrev pub rooms_in : ℕ → ClientState → Rooms
rooms_in making t = record { handles = has_place making t; iterations = has_iteration_room t }

-- the handle that it is about: that of its place, or that over which its iteration goes
abbrev pub handle_asked : Ask → ClientState → Option HandleView
handle_asked (asks.Change place update) t = handle_at place t
handle_asked (asks.Read place elements) t = handle_at place t
handle_asked (asks.Status place) t = handle_at place t
handle_asked (asks.Iterate iteration place chosen time) t = handle_at place t
handle_asked (asks.Next iteration) t = iterated_at iteration t
handle_asked (asks.EndIteration iteration) t = iterated_at iteration t
handle_asked (asks.Close place) t = handle_at place t
handle_asked (asks.Retain place duration) t = handle_at place t
handle_asked (asks.Synchronize place timeout) t = handle_at place t
handle_asked (asks.SetActive place) t = handle_at place t
handle_asked ask t = None

-- the checkpoint of a handle
abbrev pub ckpt_of_handle : Option HandleView → Option ℕ
ckpt_of_handle None = None
ckpt_of_handle (Some h) = Some h.id

-- what is kept of the iteration with which it goes on
abbrev pub kept_asked : Ask → ClientState → Option KeptIds
kept_asked (asks.Next iteration) t = kept_at iteration t
kept_asked ask t = None

-- the identifiers that are kept
abbrev pub ids_of : Option KeptIds → List (List ℕ)
ids_of None = []
ids_of (Some kept) = kept.ids

-- what brings a replica's sections to others has room for a copy of them in hand
abbrev pub takes_copy : Ask → Bool
takes_copy (asks.Synchronize place timeout) = true
takes_copy (asks.SetActive place) = true
takes_copy asks.Copy = true
takes_copy ask = false

-- ---- what it makes of them

-- opened for nothing
abbrev pub no_flags : OpenFlags
no_flags = record { read = false; write = false; create = false }

-- what flags open for, where they are flags
abbrev pub flags_or_none : Result OpenFlags AisError → OpenFlags
flags_or_none (Ok flags) = flags
flags_or_none (Err error) = no_flags

-- an open has a handle more, of the checkpoint with these creation flags, and its place stands for it; that of an asynchronous one does not before its
-- callback is given
abbrev pub handle_given : Ask → ℕ → ℕ → ClientState → ClientState
handle_given (asks.Open place name flags (Some timeout) a) k creation_flags t =
    bound place (t.last_number + 1) (taken k (flags_or_none (open_flags_of flags)) creation_flags t)
handle_given (asks.Open place name flags None a) k creation_flags t = taken k (flags_or_none (open_flags_of flags)) creation_flags t
handle_given ask k creation_flags t = t

-- which sections are chosen, by the number of a choice
abbrev pub choice_of : ℕ → ℤ → Choice
choice_of chosen time = record { chosen = if nat_le chosen sections_any then chosen else 0; time = time }

-- an iteration more, over a handle, and its place stands for it
abbrev pub with_iteration : ℕ → Option HandleView → KeptIds → ClientState → ClientState
with_iteration iteration None kept t = t
with_iteration iteration (Some h) kept t = added iteration h.handle kept t

-- it starts an iteration, which keeps what its choice is given, in this room
abbrev pub started : Ask → Room → (Choice → List (List ℕ)) → ClientState → ClientState
started (asks.Iterate iteration place chosen time) room chosen_by t =
    with_iteration iteration (handle_at place t) (record { ids = chosen_by (choice_of chosen time); room = room }) t
started ask room chosen_by t = t

-- of what is kept, what stands behind the section that was given is kept on; all where none was
abbrev pub with_next : ℕ → Option KeptIds → Option NextGiven → ClientState → ClientState
with_next iteration (Some kept) (Some next) t = returned iteration (kept_after kept (Some next)) t
with_next iteration kept next t = t

-- its iteration has given this section
abbrev pub gone_on : Ask → Option NextGiven → ClientState → ClientState
gone_on (asks.Next iteration) next t = with_next iteration (kept_at iteration t) next t
gone_on ask next t = t

-- it ends a handle, and the iterations over it
abbrev pub closing : Ask → ClientState → ClientState
closing (asks.Close place) t = dropped place t
closing ask t = t

-- the number of the handle that it ends
abbrev pub handle_closed : Ask → ClientState → Option ℕ
handle_closed (asks.Close place) t = option_map handle_number (handle_at place t)
handle_closed ask t = None

-- one that becomes live has registered its callbacks
abbrev pub registering : Ask → ClientState → ClientState
registering (asks.Enter r version callbacks) t = registered callbacks t
registering ask t = t

-- an open has a handle of a checkpoint, where there is one, by what the record has of it
abbrev pub tables_given : RecordState → Ask → Option ℕ → ClientState → ClientState
tables_given R ask None t = t
tables_given R ask (Some k) t = handle_given ask k (creation_flags_of (entry_of k R.entries)) t

-- WHAT A STEP OF THE RECORD MAKES OF THEM, which is done, and behind which the record is R
abbrev pub tables_done : RecordState → Ask → Verb → Option ℕ → ClientState → ClientState
tables_done R ask verbs.Enter k t = registering ask t
tables_done R ask verbs.Open k t = tables_given R ask k t
tables_done R ask verbs.Finish k t = tables_given R ask k t
tables_done R ask verbs.Close k t = closing ask t
tables_done R ask verbs.Leave k t = emptied t
tables_done R ask verb k t = t

-- the callback of an open sets its place to the handle that it has opened
abbrev pub place_set : EndedCall → ClientState → ClientState
place_set call t = by_kind call.asked.kind where
  by_kind : AsyncKind → ClientState
  by_kind (Open place) = opened_at place call.asked.handle t
  by_kind Sync = t

-- so do callbacks, one after the other
abbrev pub places_set : List EndedCall → ClientState → ClientState
places_set [] t = t
places_set (call ∷ calls) t = places_set calls (place_set call t)

-- what it changes where it is answered OK at its beginning: an iteration ends, or callbacks are given
abbrev pub ended_at_once : Option Outcome → Ask → PendingCalls → ClientState → ClientState
ended_at_once (Some (Done answer)) (asks.EndIteration iteration) p t = ended iteration t
ended_at_once (Some (Done answer)) (asks.Dispatch flags) p t = places_set (given_by flags p) t
ended_at_once end ask p t = t
