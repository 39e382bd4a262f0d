-- The sections that are present, where their slots are brought in front of the others.
use Rattle.std.proofs.Common.{◌≡◌, ◌≢◌, ℕ, ℤ, ◌+◌, ◌-◌, ◌<◌, ◌≤◌, List, [], ◌∷◌, ◌++◌, true, false, cond, length, take, drop, set, map, get_or, inl, inr, sym, ap, subst, refl, ◌∙◌, arith, append_assoc}
use Rattle.std.specs.Prelude.{swap}
use Rattle.std.proofs.lemmas.Bool.{cases_eq, cases_lt}
use Rattle.std.proofs.lemmas.List.{length-take-le, length-drop, get_or-take, get_or-drop, map-append, append-nil, drop_more, drop_all, drop-take, drop-set-lt, take-set-le, take_more}
use Rattle.std.proofs.lemmas.List.Edits.{swap_is, swapped_from_swap, length-swap}
use Rattle.ckpt_types.specs.Sections.{Section, is_present, present}
use Rattle.section_store.specs.Kept.{head_at, section_with, section_at_slot, sections_at, AreSlots, AreKept}
use Rattle.section_store.specs.RegionState.{string_at, with_string, resized}
use Rattle.section_store.specs.declared.kept.Head.{Head}
use Rattle.section_store.proofs.SlotLemmas.{within, different, AreSlots-swap}
use Rattle.section_store.proofs.KeptSections.{length-with_string, string_at-changed, string_at-other, sections_at-same}
use Rattle.section_store.proofs.KeptChanges.{All-behind, empty_at}

-- of the slots up to a place, those of the sections that are present stand in front, and the others behind them are empty: what is wanted
-- are their sections and those that are present from the place on
pub record Sifts (heads : List Head) (strings : List (List ℕ)) (order : List ℕ) (count kept place : ℕ) (t : ℤ) (wanted : List Section) : Type 0 where
  pub paired : length heads ≡ length strings
  pub slots : AreSlots (length strings) order
  pub counted : count ≤ length order
  pub low : kept ≤ place
  pub upto : place ≤ count
  pub between : (j : ℕ) → kept ≤ j → j < place → string_at (get_or order j 0) strings ≡ []
  pub behind : (j : ℕ) → count ≤ j → j < length order → string_at (get_or order j 0) strings ≡ []
  pub shown : sections_at heads strings (take kept order) ++ present t (sections_at heads strings (drop place (take count order))) ≡ wanted

pub Sifts-none : (heads : List Head) (strings : List (List ℕ)) (order : List ℕ) (count : ℕ) (t : ℤ) → AreKept heads strings order count → Sifts heads strings order count 0 0 t (present t (sections_at heads strings (take count order)))
Sifts-none heads strings order count t is = record {
  paired = is.paired;
  slots = is.slots;
  counted = is.counted;
  low = omega arith;
  upto = omega arith;
  between = λ j from lt. absurd (omega arith);
  behind = λ j from lt. empty_at heads strings order count j is from lt;
  shown = refl;
}

-- the next section is one of those that are present, where it is
present_next : (f : ℕ → Section) (t : ℤ) (order : List ℕ) (count place slot : ℕ) → count ≤ length order → place < count → get_or order place 0 ≡ slot
    → present t (map f (drop place (take count order))) ≡ cond (is_present t (f slot)) (f slot ∷ present t (map f (drop (place + 1) (take count order)))) (present t (map f (drop (place + 1) (take count order))))
present_next f t order count place slot counted there read =
    let long : length (take count order) ≡ count = length-take-le count order counted in
    let next : drop place (take count order) ≡ slot ∷ drop (place + 1) (take count order) =
    drop_more (take count order) place 0 (omega arith) ∙ ap (λ x. x ∷ drop (place + 1) (take count order)) (get_or-take count order place 0 there ∙ read) in
    ap (λ xs. present t (map f xs)) next

-- the next section is absent: its slot is emptied
pub Sifts-absent : (heads : List Head) (strings : List (List ℕ)) (order : List ℕ) (count kept place slot : ℕ) (t : ℤ) (wanted : List Section) → Sifts heads strings order count kept place t wanted → place < count → get_or order place 0 ≡ slot → is_present t (section_at_slot heads strings slot) ≡ false
    → Sifts heads (with_string (resized 0) slot strings) order count kept (place + 1) t wanted
Sifts-absent heads strings order count kept place slot t wanted is there read absent =
    let strings' = with_string (resized 0) slot strings in
    let long = length-with_string (resized 0) slot strings in
    let inside : slot < length strings = omega (arith, read, within (length strings) order place is.slots (omega (arith, is.counted))) in
    let other = λ (k : ℕ) (lt : k < length order) (ne : k ≢ place) (e : get_or order k 0 ≡ slot). different (length strings) order k place is.slots lt (omega (arith, is.counted)) ne (e ∙ sym read) in
    let same = λ (x : ℕ) (ne : x ≢ slot). ap (section_with (head_at x heads)) (string_at-other (resized 0) slot x strings ne) in
    let front : sections_at heads strings' (take kept order) ≡ sections_at heads strings (take kept order) =
    sections_at-same heads heads strings strings' (take kept order) (λ k lt.
    let n : length (take kept order) ≡ kept = length-take-le kept order (omega (arith, is.low, is.upto, is.counted)) in
    let low : k < kept = omega arith in
    same (get_or (take kept order) k 0) (λ e. other k (omega (arith, is.low, is.upto, is.counted)) (λ p. omega (arith, is.low)) (sym (get_or-take kept order k 0 low) ∙ e))) in
    let rest : sections_at heads strings' (drop (place + 1) (take count order)) ≡ sections_at heads strings (drop (place + 1) (take count order)) =
    sections_at-same heads heads strings strings' (drop (place + 1) (take count order)) (λ k lt.
    let n : length (take count order) ≡ count = length-take-le count order is.counted in
    let high : place + 1 + k < count = omega (arith, length-drop (place + 1) (take count order)) in
    let at : get_or (drop (place + 1) (take count order)) k 0 ≡ get_or order (place + 1 + k) 0 = get_or-drop (place + 1) (take count order) k 0 ∙ get_or-take count order (place + 1 + k) 0 high in
    same (get_or (drop (place + 1) (take count order)) k 0) (λ e. other (place + 1 + k) (omega (arith, is.counted)) (λ p. omega arith) (sym at ∙ e))) in
    let gone : present t (sections_at heads strings (drop place (take count order))) ≡ present t (sections_at heads strings (drop (place + 1) (take count order))) =
    present_next (section_at_slot heads strings) t order count place slot is.counted there read
    ∙ ap (λ b. cond b (section_at_slot heads strings slot ∷ present t (sections_at heads strings (drop (place + 1) (take count order)))) (present t (sections_at heads strings (drop (place + 1) (take count order))))) absent in
    record {
      paired = omega (arith, is.paired, long);
      slots = subst (λ n. AreSlots n order) (sym long) is.slots;
      counted = is.counted;
      low = omega (arith, is.low);
      upto = omega arith;
      between = λ j from lt. elim (cases_eq j place) [
        | inl here ↦ ap (λ m. string_at (get_or order m 0) strings') here ∙ ap (λ x. string_at x strings') read ∙ string_at-changed (resized 0) slot strings inside
        | inr before ↦ string_at-other (resized 0) slot (get_or order j 0) strings (other j (omega (arith, is.counted)) before) ∙ is.between j from (omega (arith, before))
      ];
      behind = λ j from lt. string_at-other (resized 0) slot (get_or order j 0) strings (other j lt (λ e. omega arith)) ∙ is.behind j from lt;
      shown = (λ i. front i ++ present t (rest i)) ∙ ap (λ xs. sections_at heads strings (take kept order) ++ xs) (sym gone) ∙ is.shown;
    }

-- the next section is present: its slot is brought in front
pub Sifts-present : (heads : List Head) (strings : List (List ℕ)) (order : List ℕ) (count kept place slot : ℕ) (t : ℤ) (wanted : List Section) → Sifts heads strings order count kept place t wanted → place < count → get_or order place 0 ≡ slot → is_present t (section_at_slot heads strings slot) ≡ true
    → Sifts heads strings (swap order kept place) count (kept + 1) (place + 1) t wanted
Sifts-present heads strings order count kept place slot t wanted is there read stays =
    let order' = swap order kept place in
    let f = section_at_slot heads strings in
    let there_place : place < length order = omega (arith, is.counted) in
    let there_kept : kept < length order = omega (arith, is.low) in
    let long : length order' ≡ length order = length-swap order kept place in
    let (at_kept, at_place, others) = swapped_from_swap order order' kept place 0 there_kept there_place refl in
    let a = get_or order kept 0 in
    let b = get_or order place 0 in
    let sets : order' ≡ set (set order kept b) place a = sym (swap_is order kept place 0 there_kept there_place) in
    let front : take (kept + 1) order' ≡ take kept order ++ slot ∷ [] =
    take_more order' kept 0 (omega arith)
    ∙ (λ i. (ap (take kept) sets ∙ take-set-le kept (set order kept b) place a is.low ∙ take-set-le kept order kept b (omega arith)) i ++ (at_kept ∙ read) i ∷ []) in
    let m = count - (place + 1) in
    let size : count ≡ place + 1 + m = omega arith in
    let from_place : drop (place + 1) order' ≡ drop (place + 1) order =
    ap (drop (place + 1)) sets ∙ drop-set-lt (place + 1) (set order kept b) place a (omega arith) ∙ drop-set-lt (place + 1) order kept b (omega (arith, is.low)) in
    let rest : drop (place + 1) (take count order') ≡ drop (place + 1) (take count order) =
    ap (λ n. drop (place + 1) (take n order')) size ∙ drop-take (place + 1) m order' ∙ ap (take m) from_place ∙ sym (drop-take (place + 1) m order) ∙ ap (λ n. drop (place + 1) (take n order)) (sym size) in
    let more = present t (map f (drop (place + 1) (take count order))) in
    let next : present t (map f (drop place (take count order))) ≡ f slot ∷ more =
    present_next f t order count place slot is.counted there read ∙ ap (λ x. cond x (f slot ∷ more) more) stays in
    record {
      paired = is.paired;
      slots = AreSlots-swap (length strings) order kept place is.slots there_kept there_place;
      counted = omega (arith, is.counted);
      low = omega (arith, is.low);
      upto = omega arith;
      between = λ j from lt. elim (cases_eq j place) [
        | inl here ↦ ap (λ n. string_at (get_or order' n 0) strings) here ∙ ap (λ x. string_at x strings) at_place ∙ is.between kept (omega arith) (omega arith)
        | inr before ↦ ap (λ x. string_at x strings) (others j (λ e. omega arith) before) ∙ is.between j (omega arith) (omega (arith, before))
      ];
      behind = λ j from lt. ap (λ x. string_at x strings) (others j (λ e. omega (arith, is.low)) (λ e. omega arith)) ∙ is.behind j from (omega arith);
      shown = (λ i. map f (front i) ++ present t (map f (rest i))) ∙ ap (λ xs. xs ++ more) (map-append f (take kept order) (slot ∷ []))
          ∙ append_assoc (map f (take kept order)) (f slot ∷ []) more ∙ ap (λ xs. map f (take kept order) ++ xs) (sym next) ∙ is.shown;
    }

-- behind the last section those that are present are kept, and no others
pub record HasSifted (heads : List Head) (strings : List (List ℕ)) (order : List ℕ) (count : ℕ) (wanted : List Section) : Type 0 where
  pub kept : AreKept heads strings order count
  pub shown : sections_at heads strings (take count order) ≡ wanted

pub Sifts-all : (heads : List Head) (strings : List (List ℕ)) (order : List ℕ) (count kept place : ℕ) (t : ℤ) (wanted : List Section) → Sifts heads strings order count kept place t wanted → count ≤ place → HasSifted heads strings order kept wanted
Sifts-all heads strings order count kept place t wanted is done =
    let all : place ≡ count = omega (arith, is.upto) in
    let long : length (take count order) ≡ count = length-take-le count order is.counted in
    let none : drop place (take count order) ≡ [] = drop_all place (take count order) (omega arith) in
    record {
      kept = record {
        paired = is.paired;
        slots = is.slots;
        counted = omega (arith, is.low, is.upto, is.counted);
        empty = All-behind (λ x. string_at x strings ≡ []) order kept (omega (arith, is.low, is.upto, is.counted)) (λ j from lt. elim (cases_lt j place) [
          | inl before ↦ is.between j from before
          | inr after ↦ is.behind j (omega arith) lt
        ]);
      };
      shown = sym (ap (λ xs. sections_at heads strings (take kept order) ++ present t (sections_at heads strings xs)) none ∙ append-nil (sections_at heads strings (take kept order))) ∙ is.shown;
    }
