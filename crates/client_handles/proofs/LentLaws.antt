-- No iteration is lent, before and after each call, and after one was lent and returned.
use Rattle.std.proofs.Common.{◌≡◌, ℕ, ◌==◌, Bool, true, false, not, cond, Option, Some, None, IsSome, slice_index, refl, sym, ap, subst}
use Rattle.std.specs.Prelude.{is_some}
use Rattle.std.proofs.lemmas.List.Elements.{All-filter, All-map, All-nil, All-push, All-weaker}
use Rattle.ckpt_types.specs.declared.calls.CallbackSet.{CallbackSet}
use Rattle.section_iter.specs.KeptIds.{KeptIds}
use Rattle.client_handles.specs.ClientState.{ClientState, new_client, iteration_number, handle_numbered, iteration_at, next_iteration, released, bound, can_stand_for, opened_at, emptied, added, with_kept, keeping, lent, returned, ended, is_out, IsNotLent, NoneLent}
use Rattle.client_handles.specs.declared.begun.BegunIteration.{BegunIteration}
use Rattle.client_handles.proofs.NumberedLaws.{numbered-All}

abbrev pub KeepsSome : BegunIteration → Type 0
KeepsSome it = IsSome it.kept

pub NoneLent-new : (callbacks : CallbackSet) → NoneLent (new_client callbacks)
NoneLent-new callbacks = All-nil KeepsSome

pub NoneLent-released : (number : ℕ) (s : ClientState) → NoneLent s → NoneLent (released number s)
NoneLent-released number s none = All-filter _ KeepsSome s.iterations none

pub NoneLent-opened_at : (place number : ℕ) (s : ClientState) → NoneLent s → NoneLent (opened_at place number s)
NoneLent-opened_at place number s none = elim (can_stand_for place number s) as (λ b. NoneLent (cond b (bound place number s) s)) [ true ↦ none | false ↦ none ]

pub NoneLent-emptied : (s : ClientState) → NoneLent (emptied s)
NoneLent-emptied s = All-nil KeepsSome

pub NoneLent-ended : (place : ℕ) (s : ClientState) → NoneLent s → NoneLent (ended place s)
NoneLent-ended place s none = All-filter _ KeepsSome s.iterations none

pub NoneLent-added : (place handle : ℕ) (kept : KeptIds) (s : ClientState) → NoneLent s → NoneLent (added place handle kept s)
NoneLent-added place handle kept s none = All-push KeepsSome s.iterations (next_iteration handle kept s) none refl

is_out-kept : (o : Option BegunIteration) → ((it : BegunIteration) → o ≡ Some it → KeepsSome it) → is_out o ≡ false
is_out-kept None found = refl
is_out-kept (Some it) found = ap not (found it refl)

-- so each may be lent
pub IsNotLent-none : (place : ℕ) (s : ClientState) → NoneLent s → IsNotLent place s
IsNotLent-none place s none = is_out-kept (iteration_at place s) (λ it found. numbered-All iteration_number KeepsSome (slice_index s.iteration_places place) s.iterations it none found)

kept_again : (kept : KeptIds) (number : ℕ) (it : BegunIteration) → KeepsSome it → (b : Bool) → (it.number == number) ≡ b →
    KeepsSome (cond (iteration_number (cond b (with_kept None it) it) == number) (with_kept (Some kept) (cond b (with_kept None it) it)) (cond b (with_kept None it) it))
kept_again kept number it is true test = subst (λ (b : Bool). KeepsSome (cond b (with_kept (Some kept) (with_kept None it)) (with_kept None it))) (sym test) refl
kept_again kept number it is false test = subst (λ (b : Bool). KeepsSome (cond b (with_kept (Some kept) it) it)) (sym test) is

-- and once it was lent and returned, none is lent
pub NoneLent-returned_lent : (place : ℕ) (kept : KeptIds) (s : ClientState) → NoneLent s → NoneLent (returned place kept (lent place s))
NoneLent-returned_lent place kept s none =
    let number : ℕ = slice_index s.iteration_places place in
    let lend : BegunIteration → BegunIteration = λ it. cond (iteration_number it == number) (with_kept None it) it in
    let take_back : BegunIteration → BegunIteration = λ it. cond (iteration_number it == number) (with_kept (Some kept) it) it in
    All-map KeepsSome take_back (keeping None number s.iterations)
    (All-map (λ it. KeepsSome (take_back it)) lend s.iterations
    (All-weaker KeepsSome (λ it. KeepsSome (take_back (lend it))) (λ it is. kept_again kept number it is (it.number == number) refl) s.iterations none))
