-- What each call makes of the inside of a client: it stays sound, and shows what the definitions say.
use Rattle.std.proofs.Common.{◌≡◌, ◌≢◌, ℕ, zero, suc, ◌+◌, ◌<◌, ◌≤◌, List, [], ◌∷◌, ◌++◌, length, map, Option, Some, None, IsSome, Ok, true, false, slice_get, get_or, set, replicate, vec_capacity, count_by, is_some, refl, sym, ap, subst, ◌∙◌, ◌⊎◌, inl, inr, arith, length-append}
use Rattle.std.specs.List.{remove}
use Rattle.std.specs.Option.{is_none, IfSome, IfNone, IsSomeAnd, option_map, option_and_then, ok_or}
use Rattle.std.proofs.lemmas.Bool.{cases_eq, cases_lt}
use Rattle.std.proofs.lemmas.List.{get_or-map, get_or-set_same, get_or-set_other, get_or_past, length-map, length-set}
use Rattle.std.proofs.lemmas.Option.{none-some, same_Some}
use Rattle.std.specs.declared.alloc.Global.{Global}
use Rattle.std.specs.declared.vec.Vec.{Vec}
use Rattle.section_iter.specs.KeptIds.{KeptIds}
use Rattle.ckpt_types.specs.declared.ais_error.AisError.TheVariants.{BadHandle}
use Rattle.slab.specs.Slab.{Slab, get, slab_len, Updates}
use Rattle.ckpt_types.specs.declared.calls.CallbackSet.{CallbackSet}
use Rattle.ckpt_types.specs.Limits.{places_max, handles_max, iterations_max}
use Rattle.client_handles.specs.Client.{bound_number, client_shown, IsSound}
use Rattle.client_handles.specs.ClientState.{ClientState, handle_number, iteration_number, goes_over, handle_numbered, handle_at, iteration_at, iterated_handle, kept_iteration, ended_answer, has_iteration_room, is_out, IsNotLent, new_client, released, emptied, next_iteration, added, with_kept, keeping, ended, IsOver, HasIterations, IsValid}
use Rattle.client_handles.specs.Kept.{where_numbered, kept_numbered, handles_up_to, IsKey, HaveKeys}
use Rattle.client_handles.specs.Numbered.{without}
use Rattle.client_handles.specs.declared.begun.BegunIteration.{BegunIteration}
use Rattle.client_handles.specs.declared.client.Client.TheInside.{Inside}
use Rattle.client_handles.specs.declared.handle_view.HandleView.{HandleView}
use Rattle.client_handles.specs.declared.kept.Bound.{Bound}
use Rattle.client_handles.proofs.ClientLaws.{released-none}
use Rattle.client_handles.proofs.IterationLaws.{HasIterations-new, HasIterations-taken, HasIterations-bound, HasIterations-released, HasIterations-emptied, HasIterations-added, HasIterations-keeping, HasIterations-ended}
use Rattle.client_handles.proofs.RisingLaws.{numbered-at, numbered-high, remove-at, changed-at}
use Rattle.client_handles.proofs.NumberedLaws.{numbered-All, numbered-push_same}
use Rattle.client_handles.proofs.KeptLemmas.{kept_numbered-none, kept_numbered-at, kept_numbered-under, AreNumbered-more, kept_numbered-more, kept_numbered-others, HaveKeys-more, AreNumbered-gone, kept_numbered-gone, kept_numbered-left, HaveKeys-gone}
use Rattle.client_handles.proofs.ListedLemmas.{handles_up_to-none, handles_up_to-more, handles_up_to-gone, length-handles_up_to-gone, handle_numbered-past, handle_numbered-zero, handle_numbered-kept, RiseWithin-handles_up_to}

some_and_then : {A : Type 0} (P : A → Type 0) (o : Option A) → IsSomeAnd o P → (x : A) × (o ≡ Some x) × P x
some_and_then P None there = absurd there
some_and_then P (Some x) there = (x, refl, there)

at_some_key : {A : Type 0} (P : A → Type 0) (o : Option A) (x : A) → o ≡ Some x → IsSomeAnd o P → P x
at_some_key P None x e there = absurd there
at_some_key P (Some y) x e there = subst P (same_Some y x e) there

-- the handle of a number under a key
pub kept_under : (handles : Slab HandleView) (key number : ℕ) → IsSomeAnd (get handles key) (λ h. h.handle ≡ number) → (h : HandleView) × (get handles key ≡ Some h) × (h.handle ≡ number)
kept_under handles key number there = some_and_then (λ (h : HandleView). h.handle ≡ number) (get handles key) there

not_none : {A : Type 0} (o : Option A) → IsSome o → o ≡ None → ⊥
not_none None some none = cc
not_none (Some x) some none = cc

not_out : {A : Type 0} (o : Option A) → is_none o ≡ false → o ≡ None → ⊥
not_out None kept none = cc
not_out (Some x) kept none = cc

module _ (c : Inside) (sound : IsSound c) where
  -- ---- look-ups

  number_case : (place : ℕ) → (place < length c.places) ⊎ (length c.places ≤ place) → get_or (map bound_number c.places) place 0 ≡ bound_number (get_or c.places place None)
  number_case place (inl within) = get_or-map bound_number c.places place None 0 within
  number_case place (inr past) = get_or_past (map bound_number c.places) place 0 (omega (arith, length-map c.places bound_number)) ∙ sym (ap bound_number (get_or_past c.places place None past))

  number_at : (place : ℕ) → get_or (map bound_number c.places) place 0 ≡ bound_number (get_or c.places place None)
  number_at place = number_case place (cases_lt place (length c.places))

  -- a place that was not set stands for none
  pub handle_at-unset : (place : ℕ) → get_or c.places place None ≡ None → handle_at place (client_shown c) ≡ None
  handle_at-unset place unset =
      ap (λ n. handle_numbered n (handles_up_to c.last_number c.handles.slots)) (number_at place ∙ ap bound_number unset)
      ∙ handle_numbered-zero c.last_number c.handles.slots

  -- a place that was set stands for the handle under its key, where that has the number
  pub handle_at-set : (place : ℕ) (key : Bound) → get_or c.places place None ≡ Some key → handle_at place (client_shown c) ≡ where_numbered key.number (get c.handles key.key)
  handle_at-set place key is_set =
      let keyed = sound.keys place key is_set in
      ap (λ n. handle_numbered n (handles_up_to c.last_number c.handles.slots)) (number_at place ∙ ap bound_number is_set)
      ∙ handle_numbered-kept key.number c.last_number c.handles.slots keyed.from_one keyed.to_last
      ∙ kept_numbered-under c.last_number c.handles sound.numbers key keyed

  -- none is shown of a number that no handle has
  pub handle_numbered-absent : (number : ℕ) → ((key : ℕ) (h : HandleView) → get c.handles key ≡ Some h → h.handle ≢ number) → handle_numbered number (client_shown c).handles ≡ None
  handle_numbered-absent number absent =
      elim (cases_lt 0 number) [
        | inr low ↦ let zero : number ≡ 0 = omega arith in ap (λ n. handle_numbered n (client_shown c).handles) zero ∙ handle_numbered-zero c.last_number c.handles.slots
        | inl from_one ↦ elim (cases_lt c.last_number number) [
          | inl past ↦ handle_numbered-past number c.last_number c.handles.slots past
          | inr within ↦ handle_numbered-kept number c.last_number c.handles.slots from_one within ∙ kept_numbered-none c.last_number c.handles sound.numbers number absent
        ]
      ]

  -- ---- what always holds

  number_of_place : (o : Option Bound) → ((key : Bound) → o ≡ Some key → key.number ≤ c.last_number) → bound_number o ≤ c.last_number
  number_of_place None low = omega arith
  number_of_place (Some key) low = low key refl

  given_at : (place : ℕ) → (place < length c.places) ⊎ (length c.places ≤ place) → get_or (map bound_number c.places) place 0 ≤ c.last_number
  given_at place (inl within) =
      let low : bound_number (get_or c.places place None) ≤ c.last_number = number_of_place (get_or c.places place None) (λ key is_set. (sound.keys place key is_set).to_last) in
      omega (arith, get_or-map bound_number c.places place None 0 within)
  given_at place (inr past) = omega (arith, get_or_past (map bound_number c.places) place 0 (omega (arith, length-map c.places bound_number)))

  -- it holds of what is shown
  pub IsValid-shown : IsValid (client_shown c)
  IsValid-shown =
      let few : slab_len c.handles ≤ handles_max = sound.few in
      record {
        few = omega (arith, sound.counted);
        numbers = RiseWithin-handles_up_to c.last_number c.handles.slots;
        places = length-map c.places bound_number ∙ sound.places;
        given = λ place. given_at place (cases_lt place (length c.places));
        iterations = sound.iterations;
      }

  -- ---- one handle more

  module _ (new : Slab HandleView) (key : ℕ) (h : HandleView) (vacant : get c.handles key ≡ None) (updates : Updates c.handles new key (Some h)) (is_next : h.handle ≡ c.last_number + 1) where
    abbrev more : Inside
    more = record c { last_number = c.last_number + 1; handles = new }

    pub handles_up_to-inserted : handles_up_to (c.last_number + 1) new.slots ≡ handles_up_to c.last_number c.handles.slots ++ h ∷ []
    handles_up_to-inserted =
        handles_up_to-more c.last_number c.handles.slots new.slots h
        (kept_numbered-more c.last_number c.handles new key h sound.numbers vacant updates is_next)
        (kept_numbered-others c.last_number c.handles new key h sound.numbers vacant updates is_next)

    -- it is found by its number
    pub numbered-inserted : IsSome (handle_numbered (c.last_number + 1) (handles_up_to (c.last_number + 1) new.slots))
    numbered-inserted =
        let none_yet : handle_numbered (c.last_number + 1) (client_shown c).handles ≡ None = numbered-high handle_number (c.last_number + 1) 0 c.last_number (client_shown c).handles (omega arith) (RiseWithin-handles_up_to c.last_number c.handles.slots) in
        let found : handle_numbered (c.last_number + 1) (handles_up_to (c.last_number + 1) new.slots) ≡ Some h =
        ap (handle_numbered (c.last_number + 1)) handles_up_to-inserted ∙ numbered-push_same handle_number (c.last_number + 1) (client_shown c).handles h is_next none_yet in
        subst (λ (o : Option HandleView). IsSome o) (sym found) cc

    pub IsSound-inserted : new.capacity ≡ c.handles.capacity → slab_len new ≡ slab_len c.handles + 1 → slab_len c.handles < handles_max → IsSound more
    IsSound-inserted capacity len room =
        let kept : handles_max ≤ c.handles.capacity = sound.room in
        let counted : slab_len c.handles ≡ length (handles_up_to c.last_number c.handles.slots) = sound.counted in
        let listed : length (handles_up_to (c.last_number + 1) new.slots) ≡ length (handles_up_to c.last_number c.handles.slots ++ h ∷ []) = ap length handles_up_to-inserted in
        record {
          room = omega arith;
          few = omega arith;
          counted = omega (arith, length-append (handles_up_to c.last_number c.handles.slots) (h ∷ []));
          numbers = AreNumbered-more c.last_number c.handles new key h sound.numbers vacant updates is_next;
          keys = HaveKeys-more c.last_number c.handles new key h sound.numbers vacant updates is_next c.places sound.keys;
          places = sound.places;
          iteration_room = sound.iteration_room;
          iterations = subst (λ (hs : List HandleView). HasIterations (record (client_shown c) { last_number = c.last_number + 1; handles = hs })) (sym handles_up_to-inserted) (HasIterations-taken (client_shown c) h (c.last_number + 1) sound.iterations);
        }

  -- ---- one handle gone

  module _ (new : Slab HandleView) (key : ℕ) (h : HandleView) (at_key : get c.handles key ≡ Some h) (updates : Updates c.handles new key None) (its : Vec BegunIteration Global) (left : its.items ≡ without goes_over h.handle c.iterations.items) where
    abbrev fewer : Inside
    fewer = record c { handles = new; iterations = its }

    was_kept : kept_numbered h.handle c.handles.slots ≡ Some h
    was_kept = kept_numbered-at c.last_number c.handles sound.numbers h.handle key h at_key refl

    pub handles_up_to-removed : handles_up_to c.last_number new.slots ≡ without handle_number h.handle (handles_up_to c.last_number c.handles.slots)
    handles_up_to-removed =
        handles_up_to-gone h.handle c.handles.slots new.slots
        (kept_numbered-gone c.last_number c.handles new key h sound.numbers at_key updates)
        (kept_numbered-left c.last_number c.handles new key h sound.numbers at_key updates)
        c.last_number

    -- it is shown no more, nor are the iterations over it
    pub client_of-removed : client_shown fewer ≡ released h.handle (client_shown c)
    client_of-removed = λ i. record (client_shown c) { handles = handles_up_to-removed i; iterations = left i }

    pub IsSound-removed : new.capacity ≡ c.handles.capacity → slab_len new + 1 ≡ slab_len c.handles → vec_capacity its ≡ vec_capacity c.iterations → IsSound fewer
    IsSound-removed capacity len iteration_capacity =
        let begun : iterations_max ≤ vec_capacity c.iterations = sound.iteration_room in
        let kept : handles_max ≤ c.handles.capacity = sound.room in
        let few : slab_len c.handles ≤ handles_max = sound.few in
        let counted : slab_len c.handles ≡ length (handles_up_to c.last_number c.handles.slots) = sound.counted in
        let one_less : length (handles_up_to c.last_number new.slots) + 1 ≡ length (handles_up_to c.last_number c.handles.slots) =
        length-handles_up_to-gone h.handle c.handles.slots new.slots
        (kept_numbered-gone c.last_number c.handles new key h sound.numbers at_key updates)
        (kept_numbered-left c.last_number c.handles new key h sound.numbers at_key updates)
        h was_kept (sound.numbers.from_one key h at_key) c.last_number (sound.numbers.to_last key h at_key) in
        record {
          room = omega arith;
          few = omega arith;
          counted = omega arith;
          numbers = AreNumbered-gone c.last_number c.handles new key h sound.numbers at_key updates;
          keys = HaveKeys-gone c.last_number c.handles new key h sound.numbers at_key updates c.places sound.keys;
          places = sound.places;
          iteration_room = omega arith;
          iterations = subst HasIterations (sym client_of-removed) (HasIterations-released h.handle (client_shown c) sound.iterations);
        }

  -- where no handle has the number, none is taken away
  pub released-absent : (number : ℕ) → ((key : ℕ) (h : HandleView) → get c.handles key ≡ Some h → h.handle ≢ number) → client_shown c ≡ released number (client_shown c)
  released-absent number absent = released-none number (client_shown c) IsValid-shown (handle_numbered-absent number absent)

  -- ---- a place set

  key_of_handle : (key : ℕ) (h : HandleView) (number : ℕ) → get c.handles key ≡ Some h → h.handle ≡ number → IsKey c.last_number c.handles (record { key = key; number = number })
  key_of_handle key h number at is =
      let from_one : 1 ≤ h.handle = sound.numbers.from_one key h at in
      let to_last : h.handle ≤ c.last_number = sound.numbers.to_last key h at in
      record {
        from_one = omega arith;
        to_last = omega arith;
        under = λ other x there same. sound.numbers.apart other key x h there at (same ∙ sym is);
      }

  HaveKeys-set : (place key : ℕ) (h : HandleView) (number : ℕ) → place < places_max → get c.handles key ≡ Some h → h.handle ≡ number → HaveKeys c.last_number c.handles (set c.places place (Some (record { key = key; number = number })))
  HaveKeys-set place key h number within at is other b there =
      let all : length c.places ≡ places_max = sound.places in
      let inside : place < length c.places = omega arith in
      elim (cases_eq other place) [
        | inl same ↦
            let mine : Some (record { key = key; number = number }) ≡ Some b =
            sym (get_or-set_same c.places place (Some (record { key = key; number = number })) None inside)
            ∙ sym (ap (λ p. get_or (set c.places place (Some (record { key = key; number = number }))) p None) same) ∙ there in
            subst (IsKey c.last_number c.handles) (same_Some (record { key = key; number = number }) b mine) (key_of_handle key h number at is)
        | inr differs ↦ sound.keys other b (sym (get_or-set_other c.places place other (Some (record { key = key; number = number })) None differs) ∙ there)
      ]

  pub IsSound-set : (place key : ℕ) (h : HandleView) (number : ℕ) → place < places_max → get c.handles key ≡ Some h → h.handle ≡ number → IsSound (record c { places = set c.places place (Some (record { key = key; number = number })) })
  IsSound-set place key h number within at is = record {
    room = sound.room;
    few = sound.few;
    counted = sound.counted;
    numbers = sound.numbers;
    keys = HaveKeys-set place key h number within at is;
    places = length-set c.places place (Some (record { key = key; number = number })) ∙ sound.places;
    iteration_room = sound.iteration_room;
    iterations = HasIterations-bound (client_shown c) (map bound_number (set c.places place (Some (record { key = key; number = number })))) sound.iterations;
  }

  -- ---- the handle of an iteration

  -- a handle of the slab is shown by its number
  pub handle_numbered-found : (number key : ℕ) (h : HandleView) → get c.handles key ≡ Some h → h.handle ≡ number → handle_numbered number (client_shown c).handles ≡ Some h
  handle_numbered-found number key h at is =
      let from_one : 1 ≤ h.handle = sound.numbers.from_one key h at in
      let to_last : h.handle ≤ c.last_number = sound.numbers.to_last key h at in
      handle_numbered-kept number c.last_number c.handles.slots (omega arith) (omega arith) ∙ kept_numbered-at c.last_number c.handles sound.numbers number key h at is

  -- so what the slab has of a number is what is shown of it
  pub handle_numbered-told : (number : ℕ) (o : Option HandleView) → IfSome o (λ h. (key : ℕ) × (get c.handles key ≡ Some h) × (h.handle ≡ number)) → IfNone o ((key : ℕ) (h : HandleView) → get c.handles key ≡ Some h → h.handle ≢ number) → o ≡ handle_numbered number (client_shown c).handles
  handle_numbered-told number None found absent = sym (handle_numbered-absent number absent)
  handle_numbered-told number (Some h) found absent =
      let (key, at, is) = found in
      sym (handle_numbered-found number key h at is)

  module _ (place handle : ℕ) (over : Some handle ≡ option_map goes_over (iteration_at place (client_shown c))) where
    over_case : (o : Option BegunIteration) → Some handle ≡ option_map goes_over o → (it : BegunIteration) × (o ≡ Some it) × (it.handle ≡ handle)
    over_case None e = absurd (none-some handle (sym e))
    over_case (Some it) e = (it, refl, sym (same_Some handle it.handle e))

    -- it is open
    pub iterated-open : ((key : ℕ) (h : HandleView) → get c.handles key ≡ Some h → h.handle ≢ handle) → ⊥
    iterated-open absent =
        let (it, stands, is) = over_case (iteration_at place (client_shown c)) over in
        let opened : IsSome (handle_numbered it.handle (client_shown c).handles) = numbered-All iteration_number (IsOver (client_shown c).handles) (get_or c.iteration_places place 0) c.iterations.items it sound.iterations.over_open stands in
        not_none (handle_numbered it.handle (client_shown c).handles) opened (ap (λ n. handle_numbered n (client_shown c).handles) is ∙ handle_numbered-absent handle absent)

    -- and told
    pub iterated_handle-found : (key : ℕ) (h : HandleView) → get c.handles key ≡ Some h → h.handle ≡ handle → Ok h ≡ iterated_handle place (client_shown c)
    iterated_handle-found key h at is_handle =
        let (it, stands, is) = over_case (iteration_at place (client_shown c)) over in
        sym (ap (λ (o : Option BegunIteration). ok_or (option_and_then (λ (x : BegunIteration). handle_numbered (goes_over x) (client_shown c).handles) o) BadHandle) stands
        ∙ ap (λ o. ok_or o BadHandle) (handle_numbered-found it.handle key h at (is_handle ∙ sym is)))

  -- ---- other iterations

  pub IsSound-iterations : (last : ℕ) (its : Vec BegunIteration Global) (places : List ℕ) (s : ClientState) → vec_capacity its ≡ vec_capacity c.iterations → client_shown (record c { last_iteration = last; iterations = its; iteration_places = places }) ≡ s → HasIterations s →
      IsSound (record c { last_iteration = last; iterations = its; iteration_places = places })
  IsSound-iterations last its places s capacity shown has =
      let kept : iterations_max ≤ vec_capacity c.iterations = sound.iteration_room in
      record {
        room = sound.room;
        few = sound.few;
        counted = sound.counted;
        numbers = sound.numbers;
        keys = sound.keys;
        places = sound.places;
        iteration_room = omega arith;
        iterations = subst HasIterations (sym shown) has;
      }

  -- with one more
  pub IsSound-added : (place handle : ℕ) (kept : KeptIds) (its : Vec BegunIteration Global) → its.items ≡ c.iterations.items ++ next_iteration handle kept (client_shown c) ∷ [] → vec_capacity its ≡ vec_capacity c.iterations →
      place < places_max → IsSome (handle_numbered handle (client_shown c).handles) → has_iteration_room (client_shown c) ≡ true →
      IsSound (record c { last_iteration = c.last_iteration + 1; iterations = its; iteration_places = set c.iteration_places place (c.last_iteration + 1) })
  IsSound-added place handle kept its items capacity within opened room =
      IsSound-iterations (c.last_iteration + 1) its (set c.iteration_places place (c.last_iteration + 1)) (added place handle kept (client_shown c)) capacity
      (ap (λ xs. record (added place handle kept (client_shown c)) { iterations = xs }) items)
      (HasIterations-added place handle kept (client_shown c) within opened room sound.iterations)

  -- ---- an iteration at its place in the list

  module _ (place at : ℕ) (found : IsSomeAnd (slice_get c.iterations.items at) (λ it. it.number ≡ get_or c.iteration_places place 0)) where
    there : (it : BegunIteration) × (slice_get c.iterations.items at ≡ Some it) × (it.number ≡ get_or c.iteration_places place 0)
    there = some_and_then (λ (it : BegunIteration). it.number ≡ get_or c.iteration_places place 0) (slice_get c.iterations.items at) found

    stands : iteration_at place (client_shown c) ≡ Some there.0
    stands = numbered-at iteration_number (get_or c.iteration_places place 0) at 0 c.last_iteration c.iterations.items there.0 sound.iterations.numbers there.1 there.2

    -- so the place stands for one
    pub ended_answer-found : Ok tt ≡ ended_answer place (client_shown c)
    ended_answer-found = sym (ap (λ o. ok_or (option_map (λ (it : BegunIteration). tt) o) BadHandle) stands)

    module _ (its : Vec BegunIteration Global) (gone : its.items ≡ remove c.iterations.items at) where
      -- where it is taken out, it has ended
      pub client_of-ended : client_shown (record c { iterations = its }) ≡ ended place (client_shown c)
      client_of-ended =
          ap (λ xs. record (client_shown c) { iterations = xs })
          (gone ∙ remove-at iteration_number (get_or c.iteration_places place 0) at 0 c.last_iteration c.iterations.items there.0 sound.iterations.numbers there.1 there.2)

      pub IsSound-ended : vec_capacity its ≡ vec_capacity c.iterations → IsSound (record c { iterations = its })
      IsSound-ended capacity = IsSound-iterations c.last_iteration its c.iteration_places (ended place (client_shown c)) capacity client_of-ended (HasIterations-ended place (client_shown c) sound.iterations)

    module _ (result : Option KeptIds) (kept : IsSomeAnd (slice_get c.iterations.items at) (λ it. result ≡ it.kept)) where
      is_kept : result ≡ there.0.kept
      is_kept = at_some_key (λ (it : BegunIteration). result ≡ it.kept) (slice_get c.iterations.items at) there.0 there.1 kept

      -- what is kept of it is told
      pub kept_iteration-found : ok_or result BadHandle ≡ kept_iteration place (client_shown c)
      kept_iteration-found =
          ap (λ o. ok_or o BadHandle) is_kept
          ∙ sym (ap (λ (o : Option BegunIteration). ok_or (option_and_then (λ (it : BegunIteration). it.kept) o) BadHandle) stands)

      -- and where it is not lent, there is something
      pub kept-not_lent : IsNotLent place (client_shown c) → result ≡ None → ⊥
      kept-not_lent not_lent none = not_out there.0.kept (sym (ap is_out stands) ∙ not_lent) (sym is_kept ∙ none)

    module _ (kept : Option KeptIds) (its : Vec BegunIteration Global) (changed : IsSomeAnd (slice_get c.iterations.items at) (λ it. its.items ≡ set c.iterations.items at (with_kept kept it))) where
      -- this is kept of it
      pub client_of-kept : client_shown (record c { iterations = its }) ≡ record (client_shown c) { iterations = keeping kept (get_or c.iteration_places place 0) c.iterations.items }
      client_of-kept =
          ap (λ xs. record (client_shown c) { iterations = xs })
          (at_some_key (λ (it : BegunIteration). its.items ≡ set c.iterations.items at (with_kept kept it)) (slice_get c.iterations.items at) there.0 there.1 changed
          ∙ changed-at iteration_number (with_kept kept) (get_or c.iteration_places place 0) at 0 c.last_iteration c.iterations.items there.0 sound.iterations.numbers there.1 there.2)

      pub IsSound-kept : vec_capacity its ≡ vec_capacity c.iterations → IsSound (record c { iterations = its })
      IsSound-kept capacity =
          IsSound-iterations c.last_iteration its c.iteration_places (record (client_shown c) { iterations = keeping kept (get_or c.iteration_places place 0) c.iterations.items }) capacity client_of-kept
          (HasIterations-keeping kept (get_or c.iteration_places place 0) (client_shown c) sound.iterations)

  -- ---- all gone

  module _ (handles : Slab HandleView) (its : Vec BegunIteration Global) (no_handle : handles.slots ≡ []) (no_iteration : its.items ≡ []) where
    none_listed : handles_up_to c.last_number handles.slots ≡ []
    none_listed = ap (handles_up_to c.last_number) no_handle ∙ handles_up_to-none c.last_number

    -- none is shown
    pub client_of-emptied : client_shown (record c { handles = handles; iterations = its }) ≡ emptied (client_shown c)
    client_of-emptied = λ i. record (client_shown c) { handles = none_listed i; iterations = no_iteration i }

    none_left : (key : ℕ) (h : HandleView) → get handles key ≡ Some h → ⊥
    none_left key h at = none-some h (sym (ap (λ slots. get_or slots key None) no_handle) ∙ at)

    pub IsSound-emptied : handles.capacity ≡ c.handles.capacity → vec_capacity its ≡ vec_capacity c.iterations → IsSound (record c { handles = handles; iterations = its })
    IsSound-emptied capacity iteration_capacity =
        let kept : handles_max ≤ c.handles.capacity = sound.room in
        let begun : iterations_max ≤ vec_capacity c.iterations = sound.iteration_room in
        let empty : slab_len handles ≡ 0 = ap (count_by is_some) no_handle in
        record {
          room = omega arith;
          few = omega arith;
          counted = empty ∙ sym (ap length none_listed);
          numbers = record {
            from_one = λ key h at. absurd (none_left key h at);
            to_last = λ key h at. absurd (none_left key h at);
            apart = λ key other h o at there same. absurd (none_left key h at);
          };
          keys = λ place key is_set. let keyed = sound.keys place key is_set in record {
            from_one = keyed.from_one;
            to_last = keyed.to_last;
            under = λ other h there is. absurd (none_left other h there);
          };
          places = sound.places;
          iteration_room = omega arith;
          iterations = subst HasIterations (sym client_of-emptied) (HasIterations-emptied (client_shown c) sound.iterations);
        }

  -- ---- a copy

  module _ (handles : Slab HandleView) (its : Vec BegunIteration Global) (same : handles.slots ≡ c.handles.slots) (as_begun : its.items ≡ c.iterations.items) where
    -- the same is shown
    pub client_of-copied : client_shown (record c { handles = handles; iterations = its }) ≡ client_shown c
    client_of-copied = λ i. record (client_shown c) { handles = handles_up_to c.last_number (same i); iterations = as_begun i }

    same_get : (key : ℕ) → get c.handles key ≡ get handles key
    same_get key = ap (λ slots. get_or slots key None) (sym same)

    pub IsSound-copied : handles_max ≤ handles.capacity → iterations_max ≤ vec_capacity its → IsSound (record c { handles = handles; iterations = its })
    IsSound-copied room iteration_room =
        let as_many : slab_len handles ≡ slab_len c.handles = ap (count_by is_some) same in
        let few : slab_len c.handles ≤ handles_max = sound.few in
        record {
          room = room;
          few = omega arith;
          counted = as_many ∙ sound.counted ∙ sym (ap (λ slots. length (handles_up_to c.last_number slots)) same);
          numbers = record {
            from_one = λ key h at. sound.numbers.from_one key h (same_get key ∙ at);
            to_last = λ key h at. sound.numbers.to_last key h (same_get key ∙ at);
            apart = λ key other h o at there. sound.numbers.apart key other h o (same_get key ∙ at) (same_get other ∙ there);
          };
          keys = λ place key is_set. let keyed = sound.keys place key is_set in record {
            from_one = keyed.from_one;
            to_last = keyed.to_last;
            under = λ other h there. keyed.under other h (same_get other ∙ there);
          };
          places = sound.places;
          iteration_room = iteration_room;
          iterations = subst HasIterations (sym client_of-copied) sound.iterations;
        }

-- ---- the beginning

none_in_places : (n place : ℕ) → get_or (replicate {A = Option Bound} n None) place None ≡ None
none_in_places zero place = refl
none_in_places (suc n) zero = refl
none_in_places (suc n) (suc place) = none_in_places n place

module _ (callbacks : CallbackSet) (handles : Slab HandleView) (places : List (Option Bound)) (its : Vec BegunIteration Global) (no_handle : handles.slots ≡ []) (no_place : places ≡ replicate places_max None) (no_iteration : its.items ≡ []) where
  abbrev first : Inside
  first = record { callbacks = callbacks; last_number = 0; handles = handles; places = places; last_iteration = 0; iterations = its; iteration_places = replicate places_max 0 }

  -- a new client is shown
  pub client_of-new : client_shown first ≡ new_client callbacks
  client_of-new = λ i. record (new_client callbacks) { places = map bound_number (no_place i); iterations = no_iteration i }

  no_handle_at : (key : ℕ) → get handles key ≡ None
  no_handle_at key = ap (λ slots. get_or slots key None) no_handle

  pub IsSound-new : handles_max ≤ handles.capacity → iterations_max ≤ vec_capacity its → IsSound first
  IsSound-new room iteration_room =
      let empty : slab_len handles ≡ 0 = ap (count_by is_some) no_handle in
      record {
        room = room;
        few = omega arith;
        counted = empty;
        numbers = record {
          from_one = λ key h at. absurd (none-some h (sym (no_handle_at key) ∙ at));
          to_last = λ key h at. absurd (none-some h (sym (no_handle_at key) ∙ at));
          apart = λ key other h o at there same. absurd (none-some h (sym (no_handle_at key) ∙ at));
        };
        keys = λ place key at. absurd (none-some key (sym (none_in_places places_max place) ∙ sym (ap (λ ps. get_or ps place None) no_place) ∙ at));
        places = ap length no_place;
        iteration_room = iteration_room;
        iterations = subst HasIterations (sym client_of-new) (HasIterations-new callbacks);
      }
