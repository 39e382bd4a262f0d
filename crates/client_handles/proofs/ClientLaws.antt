-- What always holds of a client, and what a new handle changes and leaves.
use Rattle.std.proofs.Common.{◌≡◌, ◌≢◌, ℕ, ◌+◌, ◌<◌, ◌≤◌, ◌==◌, Bool, true, false, not, cond, List, [], ◌∷◌, ◌++◌, length, Option, Some, None, IsSome, Result, Ok, Err, slice_index, slice_set, refl, sym, ap, ◌∙◌, inl, inr, arith, length-append, length-set}
use Rattle.std.specs.Prelude.{is_some, nat_lt}
use Rattle.std.proofs.lemmas.Bool.{and_parts, cases_eq, ltb-true, lt-ltb}
use Rattle.std.proofs.lemmas.List.{get_or-set_same, get_or-set_other, get_or_past}
use Rattle.ckpt_types.specs.declared.calls.CallbackSet.{CallbackSet}
use Rattle.ckpt_types.specs.declared.calls.Count.{Count}
use Rattle.ckpt_types.specs.declared.open_flags.OpenFlags.{OpenFlags}
use Rattle.ckpt_types.specs.Limits.{handles_max, places_max, iterations_max}
use Rattle.section_iter.specs.KeptIds.{KeptIds}
use Rattle.client_handles.specs.ClientState.{ClientState, new_client, handle_number, iteration_number, goes_over, handle_numbered, handle_at, iteration_at, has_handle_room, next_handle, registered, taken, taken_number, released, bound, can_stand_for, opened_at, dropped, emptied, has_iteration_room, added, added_answer, lent, returned, ended, HasIterations, IsValid}
use Rattle.client_handles.specs.Numbered.{numbered, without}
use Rattle.client_handles.specs.declared.begun.BegunIteration.{BegunIteration}
use Rattle.client_handles.specs.declared.handle_view.HandleView.{HandleView}
use Rattle.client_handles.proofs.HandleLaws.{handle_at-bound_same}
use Rattle.client_handles.proofs.IterationLaws.{HasIterations-new, HasIterations-taken, HasIterations-bound, HasIterations-released, HasIterations-emptied, HasIterations-added, HasIterations-keeping, HasIterations-ended, iterations-released_absent}
use Rattle.client_handles.proofs.NumberedLaws.{slice_index-new, without-absent, numbered-push_same, numbered-push_other, without-push}
use Rattle.client_handles.proofs.RisingLaws.{RiseWithin-found, RiseWithin-push, RiseWithin-filter, numbered-low, numbered-high, length-without}
use Rattle.ckpt_types.proofs.Lists.{length-filter_le}

-- ---- it always holds

-- with other callbacks
pub IsValid-registered : (callbacks : CallbackSet) (s : ClientState) → IsValid s → IsValid (registered callbacks s)
IsValid-registered callbacks s is =
    let has : HasIterations s = is.iterations in
    record {
      few = is.few;
      numbers = is.numbers;
      places = is.places;
      given = is.given;
      iterations = record { few = has.few; numbers = has.numbers; over_open = has.over_open; places = has.places; given = has.given };
    }

-- with a handle more, where there was room
pub IsValid-taken : (id : ℕ) (flags : OpenFlags) (creation_flags : ℕ) (s : ClientState) → has_handle_room s ≡ true → IsValid s → IsValid (taken id flags creation_flags s)
IsValid-taken id flags creation_flags s room is =
    let h : HandleView = next_handle id flags creation_flags s in
    let few : length s.handles < handles_max = ltb-true (length s.handles) handles_max room in
    record {
      few = omega (arith, length-append s.handles (h ∷ []));
      numbers = RiseWithin-push handle_number 0 s.last_number (s.last_number + 1) s.handles h (omega arith) (omega arith) (omega arith) is.numbers;
      places = is.places;
      given = λ place. omega (arith, is.given place);
      iterations = HasIterations-taken s h (s.last_number + 1) is.iterations;
    }

-- without the handle of a number
pub IsValid-released : (number : ℕ) (s : ClientState) → IsValid s → IsValid (released number s)
IsValid-released number s is =
    let keeps : HandleView → Bool = λ h. not (handle_number h == number) in
    let few : length s.handles ≤ handles_max = is.few in
    record {
      few = omega (arith, length-filter_le keeps s.handles);
      numbers = RiseWithin-filter handle_number keeps 0 s.last_number s.handles is.numbers;
      places = is.places;
      given = is.given;
      iterations = HasIterations-released number s is.iterations;
    }

-- with a place set to a number that was given
pub IsValid-bound : (place number : ℕ) (s : ClientState) → place < places_max → number ≤ s.last_number → IsValid s → IsValid (bound place number s)
IsValid-bound place number s within low is =
    let all : length s.places ≡ places_max = is.places in
    record {
      few = is.few;
      numbers = is.numbers;
      places = length-set s.places place number ∙ all;
      given = λ other. elim (cases_eq other place) [
        | inl same ↦ omega (arith, ap (slice_index (slice_set s.places place number)) same ∙ get_or-set_same s.places place number 0 (omega arith))
        | inr differs ↦ omega (arith, get_or-set_other s.places place other number 0 differs, is.given other)
      ];
      iterations = HasIterations-bound s (slice_set s.places place number) is.iterations;
    }

-- a number that a handle has was given
pub number-given : (number : ℕ) (s : ClientState) (h : HandleView) → IsValid s → handle_numbered number s.handles ≡ Some h → (1 ≤ number) × (number ≤ s.last_number)
number-given number s h is found = RiseWithin-found handle_number number 0 s.last_number s.handles h is.numbers found

-- ---- no place

-- past the last place there is none that could stand for a handle
pub handle_at-past : (place : ℕ) (s : ClientState) → places_max ≤ place → IsValid s → handle_at place s ≡ None
handle_at-past place s past is =
    let all : length s.places ≡ places_max = is.places in
    ap (λ n. handle_numbered n s.handles) (get_or_past s.places place 0 (omega arith)) ∙ numbered-low handle_number 0 0 s.last_number s.handles (omega arith) is.numbers

-- nor for an iteration
pub iteration_at-past : (place : ℕ) (s : ClientState) → places_max ≤ place → IsValid s → iteration_at place s ≡ None
iteration_at-past place s past is =
    let has : HasIterations s = is.iterations in
    let all : length s.iteration_places ≡ places_max = has.places in
    ap (λ n. numbered iteration_number n s.iterations) (get_or_past s.iteration_places place 0 (omega arith)) ∙ numbered-low iteration_number 0 0 s.last_iteration s.iterations (omega arith) has.numbers

-- ---- one handle more

module _ (id : ℕ) (flags : OpenFlags) (creation_flags : ℕ) (s : ClientState) (is : IsValid s) where
  abbrev made : HandleView
  made = next_handle id flags creation_flags s

  none_yet : handle_numbered (s.last_number + 1) s.handles ≡ None
  none_yet = numbered-high handle_number (s.last_number + 1) 0 s.last_number s.handles (omega arith) is.numbers

  -- it is found by its number
  pub handle_numbered-taken : handle_numbered (s.last_number + 1) (taken id flags creation_flags s).handles ≡ Some (next_handle id flags creation_flags s)
  handle_numbered-taken = numbered-push_same handle_number (s.last_number + 1) s.handles made refl none_yet

  -- and those of other numbers by theirs
  pub handle_numbered-taken_other : (number : ℕ) → number ≢ s.last_number + 1 → handle_numbered number (taken id flags creation_flags s).handles ≡ handle_numbered number s.handles
  handle_numbered-taken_other number differs = numbered-push_other handle_number number s.handles made differs

  -- once a place is set to the new handle, it stands for it
  pub handle_at-taken_bound : (place : ℕ) → place < places_max → handle_at place (bound place (s.last_number + 1) (taken id flags creation_flags s)) ≡ Some (next_handle id flags creation_flags s)
  handle_at-taken_bound place within =
      let all : length s.places ≡ places_max = is.places in
      handle_at-bound_same place (s.last_number + 1) (taken id flags creation_flags s) (omega arith) ∙ handle_numbered-taken

  -- where the new handle is closed again, all but the last number is as before
  pub released-taken : released (s.last_number + 1) (taken id flags creation_flags s) ≡ record s { last_number = s.last_number + 1 }
  released-taken =
      let no_iteration : without goes_over (s.last_number + 1) s.iterations ≡ s.iterations = iterations-released_absent (s.last_number + 1) s is.iterations none_yet in
      let as_before : without handle_number (s.last_number + 1) (s.handles ++ made ∷ []) ≡ s.handles = without-push handle_number (s.last_number + 1) s.handles made refl none_yet in
      λ i. record s { last_number = s.last_number + 1; handles = as_before i; iterations = no_iteration i }

-- ---- one handle gone

-- where no handle has the number nothing changes
pub released-none : (number : ℕ) (s : ClientState) → IsValid s → handle_numbered number s.handles ≡ None → s ≡ released number s
released-none number s is none =
    let handles : without handle_number number s.handles ≡ s.handles = without-absent handle_number number s.handles none in
    let its : without goes_over number s.iterations ≡ s.iterations = iterations-released_absent number s is.iterations none in
    sym (λ i. record s { handles = handles i; iterations = its i })

-- where one had the number, there is one handle less
pub length-released : (number : ℕ) (s : ClientState) (h : HandleView) → IsValid s → handle_numbered number s.handles ≡ Some h → length (released number s).handles + 1 ≡ length s.handles
length-released number s h is found = length-without handle_number number 0 s.last_number s.handles h is.numbers found

-- so there is room for another
pub has_handle_room-released : (number : ℕ) (s : ClientState) (h : HandleView) → IsValid s → handle_numbered number s.handles ≡ Some h → has_handle_room (released number s) ≡ true
has_handle_room-released number s h is found =
    let few : length s.handles ≤ handles_max = is.few in
    let fewer : length (released number s).handles + 1 ≡ length s.handles = length-released number s h is found in
    lt-ltb (length (released number s).handles) handles_max (omega arith)

-- ---- what the answer to a taking tells

number_case : (b : Bool) (number n : ℕ) (count : Count) → ◌≡◌ {A = Result ℕ Count} (Ok number) (cond b (Ok n) (Err count)) → (b ≡ true) × (number ≡ n)
number_case true number n count e = (refl, cc e)
number_case false number n count e = absurd (cc e)

-- a number is given where there was room, and it is the next one
pub taken_number-Ok : (number : ℕ) (s : ClientState) → Ok number ≡ taken_number s → (has_handle_room s ≡ true) × (number ≡ s.last_number + 1)
taken_number-Ok number s e = number_case (has_handle_room s) number (s.last_number + 1) (record { count = handles_max }) e

-- a handle of the number that was told is open
pub handle_numbered-told : (id : ℕ) (flags : OpenFlags) (creation_flags number : ℕ) (s new : ClientState) → IsValid s → Ok number ≡ taken_number s → new ≡ taken id flags creation_flags s → handle_numbered number new.handles ≡ Some (next_handle id flags creation_flags s)
handle_numbered-told id flags creation_flags number s new is told made =
    (λ i. handle_numbered ((taken_number-Ok number s told).1 i) (made i).handles) ∙ handle_numbered-taken id flags creation_flags s is
