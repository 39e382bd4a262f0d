-- For which iteration a place stands after each call, and what always holds of iterations.
use Rattle.std.proofs.Common.{◌≡◌, ◌≢◌, ℕ, ◌+◌, ◌<◌, ◌≤◌, ◌==◌, Bool, true, false, not, cond, List, [], ◌∷◌, ◌++◌, length, Option, Some, None, IsSome, Result, Ok, Err, slice_index, slice_set, refl, sym, ap, subst, ◌∙◌, inl, inr, arith, length-append, length-set}
use Rattle.std.specs.List.{All}
use Rattle.std.specs.Option.{option_map, option_and_then, ok_or}
use Rattle.std.proofs.lemmas.Bool.{cases_eq, eqb-true, eq-eqb, ne_eqb, ltb-true}
use Rattle.std.proofs.lemmas.List.{length-map, get_or-set_same, get_or-set_other}
use Rattle.std.proofs.lemmas.List.Elements.{All-filter, All-head, All-map, All-nil, All-push, All-tail, All-weaker, filter_passes}
use Rattle.std.proofs.lemmas.Option.{none-some}
use Rattle.ckpt_types.specs.declared.ais_error.AisError.{AisError}
use Rattle.ckpt_types.specs.declared.ais_error.AisError.TheVariants.{BadHandle}
use Rattle.ckpt_types.specs.declared.calls.CallbackSet.{CallbackSet}
use Rattle.ckpt_types.specs.Limits.{places_max, iterations_max}
use Rattle.section_iter.specs.KeptIds.{KeptIds}
use Rattle.client_handles.specs.ClientState.{ClientState, new_client, handle_number, iteration_number, goes_over, handle_numbered, iteration_at, iterated_handle, kept_iteration, has_iteration_room, is_out, IsLent, released, emptied, next_iteration, added, with_kept, keeping, lent, returned, ended, IsOver, HasIterations}
use Rattle.client_handles.specs.Numbered.{numbered, without}
use Rattle.client_handles.specs.declared.begun.BegunIteration.{BegunIteration}
use Rattle.client_handles.specs.declared.handle_view.HandleView.{HandleView}
use Rattle.client_handles.proofs.NumberedLaws.{slice_index-new, without-absent, numbered-without_other, numbered-push_same, numbered-push_other, numbered-All, IsSome-push, stands_for-set_same, stands_for-set_other}
use Rattle.client_handles.proofs.RisingLaws.{RiseWithin-push, RiseWithin-filter, RiseWithin-map, numbered-high, numbered-filter, numbered-filter_none}
use Rattle.ckpt_types.proofs.Lists.{length-filter_le}

-- ---- what is told

not_some : (o : Option HandleView) → IsSome o → o ≡ None → ⊥
not_some None some none = cc
not_some (Some h) some none = cc

same_Ok : {A : Type 0} (x y : A) → ◌≡◌ {A = Result A AisError} (Ok x) (Ok y) → x ≡ y
same_Ok x y e = cc e

found_Ok : {A : Type 0} (o : Option A) (x : A) → Ok x ≡ ok_or o BadHandle → o ≡ Some x
found_Ok None x e = absurd cc
found_Ok (Some y) x e = ap Some (sym (same_Ok x y e))

found_Err : {A : Type 0} (o : Option A) (error : AisError) → Err error ≡ ok_or o BadHandle → o ≡ None
found_Err None error e = refl
found_Err (Some y) error e = absurd cc

unnamed_over : (handles : List HandleView) (error : AisError) (o : Option BegunIteration) → ((it : BegunIteration) → o ≡ Some it → IsOver handles it) → Err error ≡ ok_or (option_and_then (λ (it : BegunIteration). handle_numbered (goes_over it) handles) o) BadHandle → o ≡ None
unnamed_over handles error None over e = refl
unnamed_over handles error (Some it) over e = absurd (not_some (handle_numbered it.handle handles) (over it refl) (found_Err (handle_numbered it.handle handles) error e))

-- where none is told, the place stands for none
pub iterated_handle-Err : (place : ℕ) (s : ClientState) (error : AisError) → HasIterations s → Err error ≡ iterated_handle place s → iteration_at place s ≡ None
iterated_handle-Err place s error has told =
    unnamed_over s.handles error (iteration_at place s) (λ it stands. numbered-All iteration_number (IsOver s.handles) (slice_index s.iteration_places place) s.iterations it has.over_open stands) told

kept_of : (kept : KeptIds) (o : Option BegunIteration) → Ok kept ≡ ok_or (option_and_then (λ (it : BegunIteration). it.kept) o) BadHandle → (it : BegunIteration) × (o ≡ Some it) × (it.kept ≡ Some kept)
kept_of kept None e = absurd cc
kept_of kept (Some it) e = (it, refl, found_Ok it.kept kept e)

-- where an iteration is handed out, it is what was kept of the place's one
pub kept_iteration-Ok : (place : ℕ) (s : ClientState) (kept : KeptIds) → Ok kept ≡ kept_iteration place s → (it : BegunIteration) × (iteration_at place s ≡ Some it) × (it.kept ≡ Some kept)
kept_iteration-Ok place s kept told = kept_of kept (iteration_at place s) told

-- ---- one begun

module _ (place handle : ℕ) (kept : KeptIds) (s : ClientState) (has : HasIterations s) where
  -- the place stands for the new iteration
  pub iteration_at-added_same : place < places_max → iteration_at place (added place handle kept s) ≡ Some (next_iteration handle kept s)
  iteration_at-added_same within =
      let all : length s.iteration_places ≡ places_max = has.places in
      stands_for-set_same iteration_number s.iteration_places (added place handle kept s).iterations place (s.last_iteration + 1) (omega arith)
      ∙ numbered-push_same iteration_number (s.last_iteration + 1) s.iterations (next_iteration handle kept s) refl (numbered-high iteration_number (s.last_iteration + 1) 0 s.last_iteration s.iterations (omega arith) has.numbers)

  -- and each other place for what it did
  pub iteration_at-added_other : (other : ℕ) → other ≢ place → iteration_at other (added place handle kept s) ≡ iteration_at other s
  iteration_at-added_other other differs =
      let low : slice_index s.iteration_places other ≤ s.last_iteration = has.given other in
      stands_for-set_other iteration_number s.iteration_places (added place handle kept s).iterations place other (s.last_iteration + 1) differs
      ∙ numbered-push_other iteration_number (slice_index s.iteration_places other) s.iterations (next_iteration handle kept s) (λ e. omega arith)

-- ---- one ended

-- once a handle is closed, no place stands for an iteration over it
pub iteration_at-released_over : (place number : ℕ) (s : ClientState) (it : BegunIteration) → HasIterations s → iteration_at place s ≡ Some it → it.handle ≡ number → iteration_at place (released number s) ≡ None
iteration_at-released_over place number s it has found over =
    numbered-filter iteration_number (λ x. not (goes_over x == number)) (slice_index s.iteration_places place) 0 s.last_iteration s.iterations it has.numbers found
    ∙ ap (λ b. cond (not b) (Some it) None) (eq-eqb it.handle number over)

-- and a place whose iteration goes over another handle stands for it still
pub iteration_at-released_other : (place number : ℕ) (s : ClientState) (it : BegunIteration) → HasIterations s → iteration_at place s ≡ Some it → it.handle ≢ number → iteration_at place (released number s) ≡ Some it
iteration_at-released_other place number s it has found differs =
    numbered-filter iteration_number (λ x. not (goes_over x == number)) (slice_index s.iteration_places place) 0 s.last_iteration s.iterations it has.numbers found
    ∙ ap (λ b. cond (not b) (Some it) None) (ne_eqb it.handle number differs)

none_over : (number : ℕ) (handles : List HandleView) (its : List BegunIteration) → handle_numbered number handles ≡ None → All (IsOver handles) its → numbered goes_over number its ≡ None
none_over number handles [] none over = refl
none_over number handles (it ∷ its) none over =
    let opened : IsSome (handle_numbered it.handle handles) = All-head (IsOver handles) it its over in
    let differs : it.handle ≢ number = λ e. not_some (handle_numbered it.handle handles) opened (ap (λ n. handle_numbered n handles) e ∙ none) in
    ap (λ b. cond b (Some it) (numbered goes_over number its)) (ne_eqb it.handle number differs)
    ∙ none_over number handles its none (All-tail (IsOver handles) it its over)

-- where no handle has a number, no iteration goes over one of it
pub iterations-released_absent : (number : ℕ) (s : ClientState) → HasIterations s → handle_numbered number s.handles ≡ None → without goes_over number s.iterations ≡ s.iterations
iterations-released_absent number s has none = without-absent goes_over number s.iterations (none_over number s.handles s.iterations none has.over_open)

-- ---- lent and returned

-- what is kept is all that changes, and only of the iteration of that number
abbrev changed_kept : Option KeptIds → ℕ → BegunIteration → BegunIteration
changed_kept kept number it = cond (it.number == number) (with_kept kept it) it

same_number : (kept : Option KeptIds) (number : ℕ) (it : BegunIteration) → (changed_kept kept number it).number ≡ it.number
same_number kept number it = elim (it.number == number) as (λ b. (cond b (with_kept kept it) it).number ≡ it.number) [ true ↦ refl | false ↦ refl ]

same_handle : (kept : Option KeptIds) (number : ℕ) (it : BegunIteration) → (changed_kept kept number it).handle ≡ it.handle
same_handle kept number it = elim (it.number == number) as (λ b. (cond b (with_kept kept it) it).handle ≡ it.handle) [ true ↦ refl | false ↦ refl ]

kept_step : (kept : Option KeptIds) (number : ℕ) (x : BegunIteration) (its : List BegunIteration) → numbered iteration_number number (keeping kept number its) ≡ option_map (with_kept kept) (numbered iteration_number number its) → (b : Bool) → (x.number == number) ≡ b →
    numbered iteration_number number (cond b (with_kept kept x) x ∷ keeping kept number its) ≡ option_map (with_kept kept) (cond b (Some x) (numbered iteration_number number its))
kept_step kept number x its rest true test = ap (λ b. cond b (Some (with_kept kept x)) (numbered iteration_number number (keeping kept number its))) test
kept_step kept number x its rest false test = ap (λ b. cond b (Some x) (numbered iteration_number number (keeping kept number its))) test ∙ rest

-- by its number the iteration is found with what is kept of it
pub numbered-keeping : (kept : Option KeptIds) (number : ℕ) (its : List BegunIteration) → numbered iteration_number number (keeping kept number its) ≡ option_map (with_kept kept) (numbered iteration_number number its)
numbered-keeping kept number [] = refl
numbered-keeping kept number (x ∷ its) = kept_step kept number x its (numbered-keeping kept number its) (x.number == number) refl

-- the place goes on to stand for the iteration that is lent
pub iteration_at-lent : (place : ℕ) (s : ClientState) → iteration_at place (lent place s) ≡ option_map (with_kept None) (iteration_at place s)
iteration_at-lent place s = numbered-keeping None (slice_index s.iteration_places place) s.iterations

kept_other_step : (kept : Option KeptIds) (number other : ℕ) (x : BegunIteration) (its : List BegunIteration) → other ≢ number → numbered iteration_number other (keeping kept number its) ≡ numbered iteration_number other its → (b : Bool) → (x.number == number) ≡ b →
    numbered iteration_number other (cond b (with_kept kept x) x ∷ keeping kept number its) ≡ numbered iteration_number other (x ∷ its)
kept_other_step kept number other x its differs rest true test =
    let miss : (x.number == other) ≡ false = ne_eqb x.number other (λ e. differs (sym e ∙ eqb-true x.number number test)) in
    ap (λ b. cond b (Some (with_kept kept x)) (numbered iteration_number other (keeping kept number its))) miss
    ∙ rest ∙ sym (ap (λ b. cond b (Some x) (numbered iteration_number other its)) miss)
kept_other_step kept number other x its differs rest false test = ap (λ o. cond (x.number == other) (Some x) o) rest

-- by another number the same is found
pub numbered-keeping_other : (kept : Option KeptIds) (number other : ℕ) (its : List BegunIteration) → other ≢ number → numbered iteration_number other (keeping kept number its) ≡ numbered iteration_number other its
numbered-keeping_other kept number other [] differs = refl
numbered-keeping_other kept number other (x ∷ its) differs = kept_other_step kept number other x its differs (numbered-keeping_other kept number other its differs) (x.number == number) refl

absent_step : (kept : Option KeptIds) (x : BegunIteration) (rest left : List BegunIteration) (o : Option BegunIteration) → (o ≡ None → left ≡ rest) → (b : Bool) → cond b (Some x) o ≡ None → cond b (with_kept kept x) x ∷ left ≡ x ∷ rest
absent_step kept x rest left o same true e = absurd (none-some x (sym e))
absent_step kept x rest left o same false e = ap (λ ys. x ∷ ys) (same e)

keeping-absent : (kept : Option KeptIds) (number : ℕ) (its : List BegunIteration) → numbered iteration_number number its ≡ None → keeping kept number its ≡ its
keeping-absent kept number [] e = refl
keeping-absent kept number (x ∷ its) e = absent_step kept x its (keeping kept number its) (numbered iteration_number number its) (keeping-absent kept number its) (iteration_number x == number) e

-- where a place stands for none, none is lent
pub lent-absent : (place : ℕ) (s : ClientState) → iteration_at place s ≡ None → s ≡ lent place s
lent-absent place s none = λ i. record s { iterations = sym (keeping-absent None (slice_index s.iteration_places place) s.iterations none) i }

-- and none ends
pub ended-absent : (place : ℕ) (s : ClientState) → iteration_at place s ≡ None → s ≡ ended place s
ended-absent place s none = λ i. record s { iterations = sym (without-absent iteration_number (slice_index s.iteration_places place) s.iterations none) i }

-- what was handed out may be returned
pub IsLent-lent : (place : ℕ) (s : ClientState) (kept : KeptIds) → Ok kept ≡ kept_iteration place s → IsLent place (lent place s)
IsLent-lent place s kept told =
    let (it, stands, is) = kept_iteration-Ok place s kept told in
    ap is_out (iteration_at-lent place s ∙ ap (option_map (with_kept None)) stands)

-- ---- it always holds

-- of a new client
pub HasIterations-new : (callbacks : CallbackSet) → HasIterations (new_client callbacks)
HasIterations-new callbacks = record {
  few = omega arith;
  numbers = tt;
  over_open = All-nil (IsOver []);
  places = refl;
  given = λ place. omega (arith, slice_index-new place);
}

-- with a handle more
pub HasIterations-taken : (s : ClientState) (h : HandleView) (last : ℕ) → HasIterations s → HasIterations (record s { last_number = last; handles = s.handles ++ h ∷ [] })
HasIterations-taken s h last has = record {
  few = has.few;
  numbers = has.numbers;
  over_open = All-weaker (IsOver s.handles) (IsOver (s.handles ++ h ∷ [])) (λ it over. IsSome-push handle_number (goes_over it) s.handles h over) s.iterations has.over_open;
  places = has.places;
  given = has.given;
}

-- with the places of handles set anew
pub HasIterations-bound : (s : ClientState) (places : List ℕ) → HasIterations s → HasIterations (record s { places = places })
HasIterations-bound s places has = record { few = has.few; numbers = has.numbers; over_open = has.over_open; places = has.places; given = has.given }

differs_of : (a b : ℕ) → not (a == b) ≡ true → a ≢ b
differs_of a b passes e = let bad : false ≡ true = sym (ap not (eq-eqb a b e)) ∙ passes in cc

-- without the handle of a number
pub HasIterations-released : (number : ℕ) (s : ClientState) → HasIterations s → HasIterations (released number s)
HasIterations-released number s has =
    let keeps : BegunIteration → Bool = λ it. not (goes_over it == number) in
    let few : length s.iterations ≤ iterations_max = has.few in
    record {
      few = omega (arith, length-filter_le keeps s.iterations);
      numbers = RiseWithin-filter iteration_number keeps 0 s.last_iteration s.iterations has.numbers;
      over_open = λ k d low.
          subst (λ (o : Option HandleView). IsSome o)
          (sym (numbered-without_other handle_number number _ s.handles (differs_of _ number (filter_passes keeps s.iterations k d low))))
          (All-filter keeps (IsOver s.handles) s.iterations has.over_open k d low);
      places = has.places;
      given = has.given;
    }

-- without all handles and iterations
pub HasIterations-emptied : (s : ClientState) → HasIterations s → HasIterations (emptied s)
HasIterations-emptied s has = record { few = omega arith; numbers = tt; over_open = All-nil (IsOver []); places = has.places; given = has.given }

-- with an iteration more, where there was room, over an open handle
pub HasIterations-added : (place handle : ℕ) (kept : KeptIds) (s : ClientState) → place < places_max → IsSome (handle_numbered handle s.handles) → has_iteration_room s ≡ true → HasIterations s → HasIterations (added place handle kept s)
HasIterations-added place handle kept s within opened room has =
    let it : BegunIteration = next_iteration handle kept s in
    let few : length s.iterations < iterations_max = ltb-true (length s.iterations) iterations_max room in
    let all : length s.iteration_places ≡ places_max = has.places in
    record {
      few = omega (arith, length-append s.iterations (it ∷ []));
      numbers = RiseWithin-push iteration_number 0 s.last_iteration (s.last_iteration + 1) s.iterations it (omega arith) (omega arith) (omega arith) has.numbers;
      over_open = All-push (IsOver s.handles) s.iterations it has.over_open opened;
      places = length-set s.iteration_places place (s.last_iteration + 1) ∙ all;
      given = λ other. elim (cases_eq other place) [
        | inl same ↦ omega (arith, ap (slice_index (slice_set s.iteration_places place (s.last_iteration + 1))) same ∙ get_or-set_same s.iteration_places place (s.last_iteration + 1) 0 (omega arith))
        | inr differs ↦ omega (arith, get_or-set_other s.iteration_places place other (s.last_iteration + 1) 0 differs, has.given other)
      ];
    }

-- whatever is kept of the iteration of a number
pub HasIterations-keeping : (kept : Option KeptIds) (number : ℕ) (s : ClientState) → HasIterations s → HasIterations (record s { iterations = keeping kept number s.iterations })
HasIterations-keeping kept number s has =
    let few : length s.iterations ≤ iterations_max = has.few in
    record {
      few = omega (arith, length-map s.iterations (changed_kept kept number));
      numbers = RiseWithin-map iteration_number (changed_kept kept number) (same_number kept number) 0 s.last_iteration s.iterations has.numbers;
      over_open = All-map (IsOver s.handles) (changed_kept kept number) s.iterations (All-weaker (IsOver s.handles) (λ it. IsOver s.handles (changed_kept kept number it))
          (λ it over. subst (λ (n : ℕ). IsSome (handle_numbered n s.handles)) (sym (same_handle kept number it)) over) s.iterations has.over_open);
      places = has.places;
      given = has.given;
    }

-- without the iteration of a place
pub HasIterations-ended : (place : ℕ) (s : ClientState) → HasIterations s → HasIterations (ended place s)
HasIterations-ended place s has =
    let keeps : BegunIteration → Bool = λ it. not (iteration_number it == slice_index s.iteration_places place) in
    let few : length s.iterations ≤ iterations_max = has.few in
    record {
      few = omega (arith, length-filter_le keeps s.iterations);
      numbers = RiseWithin-filter iteration_number keeps 0 s.last_iteration s.iterations has.numbers;
      over_open = All-filter keeps (IsOver s.handles) s.iterations has.over_open;
      places = has.places;
      given = has.given;
    }
