-- What a client keeps, as its callers see it, and what each call makes of it.
use Rattle.std.specs.Prelude.{◌&&◌, ◌≡◌, ℕ, ◌+◌, ◌-◌, ◌^◌, ◌≤◌, Bool, false, IsTrue, IsFalse, ◌==◌, nat_lt, if◌then◌else◌, List, [], ◌∷◌, ◌++◌, length, map, replicate, slice_index, slice_set, Option, Some, None, is_none, is_some, IsSome, Result, Ok, Err}
use Rattle.std.specs.List.{All}
use Rattle.std.specs.Option.{option_map, option_and_then, ok_or}
use Rattle.ckpt_types.specs.declared.ais_error.AisError.{AisError}
use Rattle.ckpt_types.specs.declared.ais_error.AisError.TheVariants.{BadHandle}
use Rattle.ckpt_types.specs.declared.calls.CallbackSet.{CallbackSet}
use Rattle.ckpt_types.specs.declared.calls.Count.{Count}
use Rattle.ckpt_types.specs.declared.open_flags.OpenFlags.{OpenFlags}
use Rattle.ckpt_types.specs.Limits.{iterations_max, places_max, handles_max}
use Rattle.section_iter.specs.KeptIds.{KeptIds}
use Rattle.client_handles.specs.Numbered.{numbered, without, stands_for, RiseWithin}
use Rattle.client_handles.specs.declared.begun.BegunIteration.{BegunIteration}
use Rattle.client_handles.specs.declared.handle_view.HandleView.{HandleView}

-- the callbacks, handles and iterations of one client, and what its places were set to
pub record ClientState : Type 0 where
  pub callbacks : CallbackSet
  -- the number of the handle last taken, or 0
  pub last_number : ℕ
  -- the open handles, in the order in which they were taken
  pub handles : List HandleView
  -- by place, the number of the handle to which it was set last, or 0
  pub places : List ℕ
  -- the number of the iteration last begun, or 0
  pub last_iteration : ℕ
  -- the iterations that were begun and have not ended, in the order of their beginning
  pub iterations : List BegunIteration
  -- by place, the number of the iteration to which it was set last, or 0
  pub iteration_places : List ℕ

-- no handle was taken, no iteration begun, and no place set
abbrev pub new_client : CallbackSet → ClientState
new_client callbacks = record {
  callbacks = callbacks;
  last_number = 0;
  handles = [];
  places = replicate places_max 0;
  last_iteration = 0;
  iterations = [];
  iteration_places = replicate places_max 0;
}

-- the numbers by which they are told apart
abbrev pub handle_number : HandleView → ℕ
handle_number h = h.handle

-- the number by which iterations are told apart
abbrev pub iteration_number : BegunIteration → ℕ
iteration_number it = it.number

-- the number of the handle over which an iteration goes
abbrev pub goes_over : BegunIteration → ℕ
goes_over it = it.handle

-- ---- what changes of callbacks

-- live with these callbacks; what was kept stays
abbrev pub registered : CallbackSet → ClientState → ClientState
registered callbacks s = record s { callbacks = callbacks }

-- ---- what is told of handles

-- how many handles are open
abbrev pub handle_count : ClientState → ℕ
handle_count s = length s.handles

-- the open handle of that number
abbrev pub handle_numbered : ℕ → List HandleView → Option HandleView
handle_numbered number handles = numbered handle_number number handles

-- the handle for which a place stands: none where there is no such place, it was never set, or the handle was closed
abbrev pub handle_at : ℕ → ClientState → Option HandleView
handle_at place s = stands_for handle_number s.places s.handles place

-- that handle, else BAD_HANDLE
abbrev pub named_handle : ℕ → ClientState → Result HandleView AisError
named_handle place s = ok_or (handle_at place s) BadHandle

-- fewer handles are open than a client may have
abbrev pub has_handle_room : ClientState → Bool
has_handle_room s = nat_lt (length s.handles) handles_max

-- the number after the last one has 32 bits, so one handle more may be taken
abbrev pub has_handle_numbers : ClientState → Bool
has_handle_numbers s = nat_lt s.last_number (2 ^ 32 - 1)

-- the number after the last one, else the count of those that are open
abbrev pub taken_number : ClientState → Result ℕ Count
taken_number s = if has_handle_room s then Ok (s.last_number + 1) else Err (record { count = handles_max })

-- ---- what is told of iterations

-- the iteration for which a place stands: none where there is no such place, it was never set, or the iteration has ended
abbrev pub iteration_at : ℕ → ClientState → Option BegunIteration
iteration_at place s = stands_for iteration_number s.iteration_places s.iterations place

-- the handle over which that iteration goes
abbrev pub iterated_at : ℕ → ClientState → Option HandleView
iterated_at place s = option_and_then (λ (it : BegunIteration). handle_numbered (goes_over it) s.handles) (iteration_at place s)

-- that handle, else BAD_HANDLE
abbrev pub iterated_handle : ℕ → ClientState → Result HandleView AisError
iterated_handle place s = ok_or (iterated_at place s) BadHandle

-- what is kept of that iteration
abbrev pub kept_at : ℕ → ClientState → Option KeptIds
kept_at place s = option_and_then (λ (it : BegunIteration). it.kept) (iteration_at place s)

-- that, else BAD_HANDLE
abbrev pub kept_iteration : ℕ → ClientState → Result KeptIds AisError
kept_iteration place s = ok_or (kept_at place s) BadHandle

-- it is there, and nothing of it is kept: it is lent
abbrev pub is_out : Option BegunIteration → Bool
is_out None = false
is_out (Some it) = is_none it.kept

-- the place stands for an iteration that is lent
abbrev pub is_lent : ℕ → ClientState → Bool
is_lent place s = is_out (iteration_at place s)

-- it does
abbrev pub IsLent : ℕ → ClientState → Type 0
IsLent place s = IsTrue (is_lent place s)

-- it does not: the place stands for none, or for one that is kept
abbrev pub IsNotLent : ℕ → ClientState → Type 0
IsNotLent place s = IsFalse (is_lent place s)

-- no iteration is lent
abbrev pub NoneLent : ClientState → Type 0
NoneLent s = All (λ (it : BegunIteration). IsSome it.kept) s.iterations

-- fewer iterations were begun than a client may have
abbrev pub has_iteration_room : ClientState → Bool
has_iteration_room s = nat_lt (length s.iterations) iterations_max

-- the number after the last one has 32 bits, so one iteration more may be begun
abbrev pub has_iteration_numbers : ClientState → Bool
has_iteration_numbers s = nat_lt s.last_iteration (2 ^ 32 - 1)

-- one more was begun, else the count of those that were
abbrev pub added_answer : ClientState → Result (Unit {0}) Count
added_answer s = if has_iteration_room s then Ok tt else Err (record { count = iterations_max })

-- the place stood for an iteration, else BAD_HANDLE
abbrev pub ended_answer : ℕ → ClientState → Result (Unit {0}) AisError
ended_answer place s = ok_or (option_map (λ it. tt) (iteration_at place s)) BadHandle

-- ---- what changes of handles

-- a new handle, of the number after the last one
abbrev pub next_handle : ℕ → OpenFlags → ℕ → ClientState → HandleView
next_handle id flags creation_flags s = record { id = id; flags = flags; creation_flags = creation_flags; handle = s.last_number + 1 }

-- with this handle more
abbrev pub taken : ℕ → OpenFlags → ℕ → ClientState → ClientState
taken id flags creation_flags s = record s { last_number = s.last_number + 1; handles = s.handles ++ next_handle id flags creation_flags s ∷ [] }

-- without the handle of that number, and without the iterations over it
abbrev pub released : ℕ → ClientState → ClientState
released number s = record s {
  handles = without handle_number number s.handles;
  iterations = without goes_over number s.iterations;
}

-- with the place set to the handle of that number; no handle is closed
abbrev pub bound : ℕ → ℕ → ClientState → ClientState
bound place number s = record s { places = slice_set s.places place number }

-- there is such a place, and an open handle of that number
abbrev pub can_stand_for : ℕ → ℕ → ClientState → Bool
can_stand_for place number s = nat_lt place places_max && is_some (handle_numbered number s.handles)

-- with the place set to the handle of that number, where this can be; else nothing changes
abbrev pub opened_at : ℕ → ℕ → ClientState → ClientState
opened_at place number s = if can_stand_for place number s then bound place number s else s

-- without the handle for which the place stands
abbrev pub dropped : ℕ → ClientState → ClientState
dropped place s = released (slice_index s.places place) s

-- without all handles, and without all iterations; the places stay set, and no number is given again
abbrev pub emptied : ClientState → ClientState
emptied s = record s { handles = []; iterations = [] }

-- ---- what changes of iterations

-- a new iteration over the handle of that number, of the number after the last one
abbrev pub next_iteration : ℕ → KeptIds → ClientState → BegunIteration
next_iteration handle kept s = record { number = s.last_iteration + 1; handle = handle; kept = Some kept }

-- with this iteration more, and the place set to it; none ends
abbrev pub added : ℕ → ℕ → KeptIds → ClientState → ClientState
added place handle kept s = record s {
  last_iteration = s.last_iteration + 1;
  iterations = s.iterations ++ next_iteration handle kept s ∷ [];
  iteration_places = slice_set s.iteration_places place (s.last_iteration + 1);
}

-- with this kept of an iteration
abbrev pub with_kept : Option KeptIds → BegunIteration → BegunIteration
with_kept kept it = record it { kept = kept }

-- with this kept of the iteration of that number
abbrev pub keeping : Option KeptIds → ℕ → List BegunIteration → List BegunIteration
keeping kept number iterations = map (λ (it : BegunIteration). if iteration_number it == number then with_kept kept it else it) iterations

-- nothing is kept of the place's iteration, for which the place goes on to stand
abbrev pub lent : ℕ → ClientState → ClientState
lent place s = record s { iterations = keeping None (slice_index s.iteration_places place) s.iterations }

-- this is kept of the place's iteration
abbrev pub returned : ℕ → KeptIds → ClientState → ClientState
returned place kept s = record s { iterations = keeping (Some kept) (slice_index s.iteration_places place) s.iterations }

-- without the iteration for which the place stands
abbrev pub ended : ℕ → ClientState → ClientState
ended place s = record s { iterations = without iteration_number (slice_index s.iteration_places place) s.iterations }

-- ---- what always holds

-- it goes over one of these handles
abbrev pub IsOver : List HandleView → BegunIteration → Type 0
IsOver handles it = IsSome (handle_numbered (goes_over it) handles)

-- no more iterations were begun than a client may have, each later than those before it, over handles that are open; a place
-- was set to no number that was not given
pub record HasIterations (s : ClientState) : Type 0 where
  pub few : length s.iterations ≤ iterations_max
  pub numbers : RiseWithin iteration_number 0 s.last_iteration s.iterations
  pub over_open : All (IsOver s.handles) s.iterations
  pub places : length s.iteration_places ≡ places_max
  pub given : (place : ℕ) → slice_index s.iteration_places place ≤ s.last_iteration

-- no more handles are open than a client may have, each taken later than those before it; a place was set to no number that
-- was not given; and so it is with iterations
pub record IsValid (s : ClientState) : Type 0 where
  pub few : length s.handles ≤ handles_max
  pub numbers : RiseWithin handle_number 0 s.last_number s.handles
  pub places : length s.places ≡ places_max
  pub given : (place : ℕ) → slice_index s.places place ≤ s.last_number
  pub iterations : HasIterations s
