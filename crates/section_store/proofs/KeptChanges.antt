-- What is kept in slots, and the sections of it, where one is changed, put in or taken away.
use Rattle.std.proofs.Common.{◌≡◌, ◌≢◌, ℕ, suc, ◌+◌, ◌-◌, ◌<◌, ◌≤◌, List, [], ◌∷◌, ◌++◌, length, take, drop, set, get_or, sym, ap, subst, refl, ◌∙◌, arith, get_or-set_same, get_or-set_other}
use Rattle.std.specs.Prelude.{All, insert, remove, sum_by, vec_capacity}
use Rattle.std.proofs.lemmas.List.{length-map, length-set, length-take-le, length-drop, get_or-take, get_or-drop, get_or_append_left, get_or_push, take_all, drop_all, length_push}
use Rattle.std.proofs.lemmas.List.Edits.{insert_end, length-insert, length-remove, get_or-insert_at}
use Rattle.std.proofs.lemmas.List.Elements.{All-from_get_or, All-cons}
use Rattle.ckpt_types.specs.Sections.{Section, memory_used}
use Rattle.section_store.specs.Kept.{no_head, head_at, section_with, section_at_slot, sections_at, kept_state, AreSlots, AreKept, HasSlots}
use Rattle.section_store.specs.KeptState.{KeptState}
use Rattle.section_store.specs.Places.{changed_at}
use Rattle.section_store.specs.RegionState.{string_at, with_string, resized}
use Rattle.section_store.specs.declared.kept.Head.{Head}
use Rattle.section_store.specs.declared.kept.Kept.TheInside.{Inside}
use Rattle.section_store.proofs.SlotLemmas.{as_many, within, different, AreSlots-none, AreSlots-more, AreSlots-moved}
use Rattle.section_store.proofs.KeptSections.{HasSlot, length-with_string, string_at-changed, string_at-other, memory-slots, sections_at-changed, sections_at-same, sections_at-insert, sections_at-remove, take-insert, drop-insert, take-insert_behind, drop-insert_behind, take-remove, drop-remove, take-remove_behind}

-- ---- the slots behind the sections

-- what holds at each place from one on holds of all from there on
pub All-behind : (P : ℕ → Type 0) (order : List ℕ) (n : ℕ) → n ≤ length order → ((j : ℕ) → n ≤ j → j < length order → P (get_or order j 0)) → All P (drop n order)
All-behind P order n long holds =
    All-from_get_or P (drop n order) 0 (λ j lt. subst P (sym (get_or-drop n order j 0)) (holds (n + j) (omega arith) (omega (arith, length-drop n order))))

pub empty_at : (heads : List Head) (strings : List (List ℕ)) (order : List ℕ) (count j : ℕ) → AreKept heads strings order count → count ≤ j → j < length order → string_at (get_or order j 0) strings ≡ []
empty_at heads strings order count j is from there =
    let place : count + (j - count) ≡ j = omega arith in
    ap (λ m. string_at (get_or order m 0) strings) (sym place) ∙ ap (λ slot. string_at slot strings) (sym (get_or-drop count order (j - count) 0)) ∙ is.empty (j - count) 0 (omega (arith, length-drop count order))

-- the strings of other slots stay empty where one is changed
still_empty : (heads : List Head) (strings : List (List ℕ)) (of : List ℕ → List ℕ) (order : List ℕ) (count p slot j : ℕ) → AreKept heads strings order count → get_or order p 0 ≡ slot → p < length order → p ≢ j → count ≤ j → j < length order → string_at (get_or order j 0) (with_string of slot strings) ≡ []
still_empty heads strings of order count p slot j is read place other from there =
    string_at-other of slot (get_or order j 0) strings (λ same. different (length strings) order j p is.slots there place (λ e. other (sym e)) (same ∙ sym read)) ∙ empty_at heads strings order count j is from there

-- ---- a section is changed

pub AreKept-changed : (heads heads' : List Head) (strings : List (List ℕ)) (of : List ℕ → List ℕ) (order : List ℕ) (count p slot : ℕ) → AreKept heads strings order count → p < count → get_or order p 0 ≡ slot → length heads' ≡ length heads → AreKept heads' (with_string of slot strings) order count
AreKept-changed heads heads' strings of order count p slot is there read same =
    let long = length-with_string of slot strings in
    record {
      paired = omega (arith, is.paired, long);
      slots = subst (λ n. AreSlots n order) (sym long) is.slots;
      counted = is.counted;
      empty = All-behind (λ x. string_at x (with_string of slot strings) ≡ []) order count is.counted (λ j from lt. still_empty heads strings of order count p slot j is read (omega (arith, is.counted)) (λ e. omega arith) from lt);
    }

-- the section in a slot that is changed, and in the others
section_at_slot-changed : (heads : List Head) (h' : Head) (strings : List (List ℕ)) (of : List ℕ → List ℕ) (slot : ℕ) → slot < length heads → slot < length strings → section_at_slot (set heads slot h') (with_string of slot strings) slot ≡ section_with h' (of (string_at slot strings))
section_at_slot-changed heads h' strings of slot head string = λ i. section_with (get_or-set_same heads slot h' no_head head i) (string_at-changed of slot strings string i)

section_at_slot-other : (heads : List Head) (h' : Head) (strings : List (List ℕ)) (of : List ℕ → List ℕ) (slot x : ℕ) → x ≢ slot → section_at_slot (set heads slot h') (with_string of slot strings) x ≡ section_at_slot heads strings x
section_at_slot-other heads h' strings of slot x other = λ i. section_with (get_or-set_other heads slot x h' no_head other i) (string_at-other of slot x strings other i)

pub sections-changed : (heads : List Head) (h' : Head) (strings : List (List ℕ)) (of : List ℕ → List ℕ) (order : List ℕ) (count p slot : ℕ) (change : Section → Section) → AreKept heads strings order count → p < count → get_or order p 0 ≡ slot → section_with h' (of (string_at slot strings)) ≡ change (section_at_slot heads strings slot)
    → sections_at (set heads slot h') (with_string of slot strings) (take count order) ≡ changed_at change p (sections_at heads strings (take count order))
sections-changed heads h' strings of order count p slot change is there read changed =
    let inside : slot < length strings = omega (arith, read, within (length strings) order p is.slots (omega (arith, is.counted))) in
    let here = section_at_slot-changed heads h' strings of slot (omega (arith, is.paired)) inside ∙ changed in
    sections_at-changed heads (set heads slot h') strings (with_string of slot strings) order count p change is.slots there is.counted
    (λ x other. section_at_slot-other heads h' strings of slot x (λ e. other (e ∙ sym read)))
    (subst (λ x. section_at_slot (set heads slot h') (with_string of slot strings) x ≡ change (section_at_slot heads strings x)) (sym read) here)

-- the sections that are kept have as many bytes as all strings
pub memory-kept : (heads : List Head) (strings : List (List ℕ)) (order : List ℕ) (count : ℕ) → AreKept heads strings order count → memory_used (sections_at heads strings (take count order)) ≡ sum_by length strings
memory-kept heads strings order count is = memory-slots heads strings order count is.slots is.empty

-- a head and a string are changed at the slot of a place: the section there is changed, and so many bytes are in the strings then
pub record HasChanged (k : Inside) (v : KeptState) (p slot : ℕ) (of : List ℕ → List ℕ) (h' : Head) (change : Section → Section) : Type 0 where
  pub kept : AreKept (set k.heads.items slot h') (with_string of slot k.region.strings) k.order.items k.count
  pub sections : sections_at (set k.heads.items slot h') (with_string of slot k.region.strings) (take k.count k.order.items) ≡ changed_at change p v.sections
  pub memory : memory_used (changed_at change p v.sections) ≡ sum_by length (with_string of slot k.region.strings)
  pub before : memory_used v.sections ≡ sum_by length k.region.strings
  pub size : v.size ≡ k.region.size

pub has_changed : (k : Inside) (v : KeptState) (p slot : ℕ) (of : List ℕ → List ℕ) (h' : Head) (change : Section → Section) → kept_state k ≡ v → HasSlots k → HasSlot k v p slot → section_with h' (of (string_at slot k.region.strings)) ≡ change (section_at_slot k.heads.items k.region.strings slot) → HasChanged k v p slot of h' change
has_changed k v p slot of h' change view is at changed =
    let kept = AreKept-changed k.heads.items (set k.heads.items slot h') k.region.strings of k.order.items k.count p slot is.kept at.counted at.read (length-set k.heads.items slot h') in
    let sections = sections-changed k.heads.items h' k.region.strings of k.order.items k.count p slot change is.kept at.counted at.read changed ∙ ap (λ x. changed_at change p x.sections) view in
    record {
      kept = kept;
      sections = sections;
      memory = ap memory_used (sym sections) ∙ memory-kept (set k.heads.items slot h') (with_string of slot k.region.strings) k.order.items k.count kept;
      before = ap (λ x. memory_used x.sections) (sym view) ∙ memory-kept k.heads.items k.region.strings k.order.items k.count is.kept;
      size = sym (ap (λ x. x.size) view);
    }

-- ---- behind a change

-- what is kept is in slots again where its strings are others, as many and not too long
pub HasSlots-changed : (k k' : Inside) (strings' : List (List ℕ)) → HasSlots k → k'.region ≡ record k.region { strings = strings' } → AreKept k'.heads.items strings' k'.order.items k'.count → length strings' ≡ length k.region.strings → sum_by length strings' ≤ k.region.size → vec_capacity k.heads ≤ vec_capacity k'.heads → vec_capacity k.order ≤ vec_capacity k'.order → HasSlots k'
HasSlots-changed k k' strings' is region kept long fits heads order =
    let spare : k'.region.spare ≡ k.region.spare = ap (λ r. r.spare) region in
    let many : length k'.region.strings ≡ length k.region.strings = ap (λ r. length r.strings) region ∙ long in
    record {
      kept = subst (λ r. AreKept k'.heads.items r.strings k'.order.items k'.count) (sym region) kept;
      fits = subst (λ r. sum_by length r.strings ≤ r.size) (sym region) fits;
      heads_room = omega (arith, is.heads_room);
      order_room = omega (arith, is.order_room);
      small = omega (arith, is.small);
      size_small = omega (arith, is.size_small, ap (λ r. r.size) region);
    }

-- and it shows these sections, with the same room
pub shown-changed : (k k' : Inside) (v : KeptState) (strings' : List (List ℕ)) (sections : List Section) → kept_state k ≡ v → k'.region ≡ record k.region { strings = strings' } → length strings' ≡ length k.region.strings → sections_at k'.heads.items strings' (take k'.count k'.order.items) ≡ sections → kept_state k' ≡ record v { sections = sections }
shown-changed k k' v strings' sections view region long is =
    let shown : sections_at k'.heads.items k'.region.strings (take k'.count k'.order.items) ≡ sections = ap (λ r. sections_at k'.heads.items r.strings (take k'.count k'.order.items)) region ∙ is in
    let size : k'.region.size ≡ v.size = ap (λ r. r.size) region ∙ ap (λ x. x.size) view in
    let places : k'.region.spare + length k'.region.strings ≡ v.places = ap (λ r. r.spare + length r.strings) region ∙ ap (λ n. k.region.spare + n) long ∙ ap (λ x. x.places) view in
    λ i. record { sections = shown i; size = size i; places = places i }

-- ---- a section is put into a free slot

-- a free slot is brought to a place
pub AreKept-put : (heads heads' : List Head) (strings : List (List ℕ)) (of : List ℕ → List ℕ) (order : List ℕ) (count p slot : ℕ) → AreKept heads strings order count → count < length order → p ≤ count → get_or order count 0 ≡ slot → length heads' ≡ length heads → AreKept heads' (with_string of slot strings) (insert (remove order count) p slot) (count + 1)
AreKept-put heads heads' strings of order count p slot is free place read same =
    let long = length-with_string of slot strings in
    let moved : AreSlots (length strings) (insert (remove order count) p slot) = subst (λ x. AreSlots (length strings) (insert (remove order count) p x)) read (AreSlots-moved (length strings) order count p is.slots free) in
    let many = as_many (length strings) order is.slots in
    let many' = as_many (length strings) (insert (remove order count) p slot) moved in
    let next : suc count ≡ count + 1 = omega arith in
    let behind : drop (suc count) (insert (remove order count) p slot) ≡ drop (suc count) order =
    drop-insert (remove order count) count p slot place (omega (arith, length-remove order count free)) ∙ drop-remove order count count (omega arith) in
    record {
      paired = omega (arith, is.paired, long);
      slots = subst (λ n. AreSlots n (insert (remove order count) p slot)) (sym long) moved;
      counted = omega arith;
      empty = subst (λ n. All (λ x. string_at x (with_string of slot strings) ≡ []) (drop n (insert (remove order count) p slot))) next
          (subst (All (λ x. string_at x (with_string of slot strings) ≡ [])) (sym behind)
          (All-behind (λ x. string_at x (with_string of slot strings) ≡ []) order (suc count) (omega arith) (λ j from lt. still_empty heads strings of order count count slot j is read free (λ e. omega arith) (omega arith) lt)));
    }

pub sections-put : (heads : List Head) (h' : Head) (strings : List (List ℕ)) (of : List ℕ → List ℕ) (order : List ℕ) (count p slot : ℕ) → AreKept heads strings order count → count < length order → p ≤ count → get_or order count 0 ≡ slot
    → sections_at (set heads slot h') (with_string of slot strings) (take (count + 1) (insert (remove order count) p slot)) ≡ insert (sections_at heads strings (take count order)) p (section_with h' (of (string_at slot strings)))
sections-put heads h' strings of order count p slot is free place read =
    let heads' = set heads slot h' in
    let strings' = with_string of slot strings in
    let next : count + 1 ≡ suc count = omega arith in
    let inside : slot < length strings = omega (arith, read, within (length strings) order count is.slots free) in
    let first : take (count + 1) (insert (remove order count) p slot) ≡ insert (take count order) p slot =
    ap (λ n. take n (insert (remove order count) p slot)) next ∙ take-insert (remove order count) count p slot place (omega (arith, length-remove order count free)) ∙ ap (λ xs. insert xs p slot) (take-remove_behind order count) in
    let long : length (take count order) ≡ count = length-take-le count order is.counted in
    let others : sections_at heads' strings' (take count order) ≡ sections_at heads strings (take count order) =
    sections_at-same heads heads' strings strings' (take count order) (λ k lt.
    section_at_slot-other heads h' strings of slot (get_or (take count order) k 0) (λ e. different (length strings) order k count is.slots (omega arith) free (λ same. omega arith) (sym (get_or-take count order k 0 (omega arith)) ∙ e ∙ sym read))) in
    ap (sections_at heads' strings') first ∙ sections_at-insert heads' strings' (take count order) p slot
    ∙ (λ i. insert (others i) p (section_at_slot-changed heads h' strings of slot (omega (arith, is.paired)) inside i))

-- ---- a section is put into a slot more

pub AreKept-more : (heads : List Head) (h : Head) (strings : List (List ℕ)) (s : List ℕ) (order : List ℕ) (count p : ℕ) → AreKept heads strings order count → length order ≤ count → p ≤ count → AreKept (heads ++ h ∷ []) (strings ++ s ∷ []) (insert order p count) (count + 1)
AreKept-more heads h strings s order count p is full place =
    let many = as_many (length strings) order is.slots in
    let all : count ≡ length strings = omega (arith, is.counted) in
    let next : suc (length strings) ≡ length (strings ++ s ∷ []) = omega (arith, length_push strings s) in
    let more : AreSlots (suc (length strings)) (insert order p count) = subst (λ n. AreSlots (suc (length strings)) (insert order p n)) (sym all) (AreSlots-more (length strings) order p is.slots) in
    let long = length-insert order p count (omega (arith, is.counted)) in
    record {
      paired = omega (arith, is.paired, length_push heads h, length_push strings s);
      slots = subst (λ n. AreSlots n (insert order p count)) next more;
      counted = omega (arith, is.counted);
      empty = subst (All (λ x. string_at x (strings ++ s ∷ []) ≡ [])) (sym (drop_all (count + 1) (insert order p count) (omega arith))) (λ k d lt. absurd (omega arith));
    }

pub sections-more : (heads : List Head) (h : Head) (strings : List (List ℕ)) (s : List ℕ) (order : List ℕ) (count p : ℕ) → AreKept heads strings order count → length order ≤ count → p ≤ count
    → sections_at (heads ++ h ∷ []) (strings ++ s ∷ []) (take (count + 1) (insert order p count)) ≡ insert (sections_at heads strings (take count order)) p (section_with h s)
sections-more heads h strings s order count p is full place =
    let heads' = heads ++ h ∷ [] in
    let strings' = strings ++ s ∷ [] in
    let many = as_many (length strings) order is.slots in
    let all : length strings ≡ count = omega (arith, is.counted) in
    let paired : length heads ≡ count = omega (arith, is.paired) in
    let long = length-insert order p count (omega (arith, is.counted)) in
    let others : sections_at heads' strings' order ≡ sections_at heads strings order =
    sections_at-same heads heads' strings strings' order (λ k lt.
    let slot = get_or order k 0 in
    let inside = within (length strings) order k is.slots lt in
    λ i. section_with (get_or_append_left heads (h ∷ []) no_head slot (omega (arith, inside)) i) (get_or_append_left strings (s ∷ []) [] slot inside i)) in
    let new : section_at_slot heads' strings' count ≡ section_with h s = λ i. section_with (get_or_push heads h no_head count paired i) (get_or_push strings s [] count all i) in
    ap (sections_at heads' strings') (take_all (count + 1) (insert order p count) (omega arith)) ∙ sections_at-insert heads' strings' order p count
    ∙ (λ i. insert (others i) p (new i)) ∙ ap (λ xs. insert (sections_at heads strings xs) p (section_with h s)) (sym (take_all count order full))

-- where each slot has a section, as many heads are there as slots
pub many_heads : (heads : List Head) (strings : List (List ℕ)) (order : List ℕ) → AreKept heads strings order (length order) → length heads ≡ length order
many_heads heads strings order is = omega (arith, is.paired, as_many (length strings) order is.slots)

-- and the sections have as many bytes as all strings
pub memory-all : (heads : List Head) (strings : List (List ℕ)) (order : List ℕ) → AreKept heads strings order (length order) → memory_used (sections_at heads strings order) ≡ sum_by length strings
memory-all heads strings order is = ap (λ xs. memory_used (sections_at heads strings xs)) (sym (take_all (length order) order (omega arith))) ∙ memory-kept heads strings order (length order) is

-- nothing is kept
pub AreKept-none : AreKept [] [] [] 0
AreKept-none = record { paired = refl; slots = AreSlots-none; counted = omega arith; empty = λ k d lt. absurd (omega arith) }

-- a section is put into a slot more, behind all others
pub AreKept-push : (heads : List Head) (h : Head) (strings : List (List ℕ)) (s : List ℕ) (order : List ℕ) → AreKept heads strings order (length order)
    → AreKept (heads ++ h ∷ []) (strings ++ s ∷ []) (order ++ length order ∷ []) (length (order ++ length order ∷ []))
AreKept-push heads h strings s order is =
    let n = length order in
    subst (AreKept (heads ++ h ∷ []) (strings ++ s ∷ []) (order ++ n ∷ [])) (sym (length_push order n))
    (subst (λ xs. AreKept (heads ++ h ∷ []) (strings ++ s ∷ []) xs (n + 1)) (insert_end order n) (AreKept-more heads h strings s order n n is (omega arith) (omega arith)))

pub sections-push : (heads : List Head) (h : Head) (strings : List (List ℕ)) (s : List ℕ) (order : List ℕ) → AreKept heads strings order (length order)
    → sections_at (heads ++ h ∷ []) (strings ++ s ∷ []) (order ++ length order ∷ []) ≡ sections_at heads strings order ++ section_with h s ∷ []
sections-push heads h strings s order is =
    let n = length order in
    let before = sections_at heads strings order in
    let front : take n order ≡ order = take_all n order (omega arith) in
    let all : take (n + 1) (order ++ n ∷ []) ≡ order ++ n ∷ [] = take_all (n + 1) (order ++ n ∷ []) (omega (arith, length_push order n)) in
    let many : n ≡ length before = sym (length-map order (section_at_slot heads strings)) in
    ap (sections_at (heads ++ h ∷ []) (strings ++ s ∷ [])) (sym all ∙ ap (take (n + 1)) (sym (insert_end order n)))
    ∙ sections-more heads h strings s order n n is (omega arith) (omega arith)
    ∙ ap (λ xs. insert (sections_at heads strings xs) n (section_with h s)) front
    ∙ ap (λ m. insert before m (section_with h s)) many ∙ insert_end before (section_with h s)

-- ---- a section is taken away

-- the slot of a place is brought behind the others, and its string is emptied
pub AreKept-gone : (heads : List Head) (strings : List (List ℕ)) (order : List ℕ) (n p slot : ℕ) → AreKept heads strings order (suc n) → p ≤ n → get_or order p 0 ≡ slot → AreKept heads (with_string (resized 0) slot strings) (insert (remove order p) n slot) n
AreKept-gone heads strings order n p slot is place read =
    let strings' = with_string (resized 0) slot strings in
    let long = length-with_string (resized 0) slot strings in
    let there : p < length order = omega (arith, is.counted) in
    let moved : AreSlots (length strings) (insert (remove order p) n slot) = subst (λ x. AreSlots (length strings) (insert (remove order p) n x)) read (AreSlots-moved (length strings) order p n is.slots there) in
    let many = as_many (length strings) order is.slots in
    let many' = as_many (length strings) (insert (remove order p) n slot) moved in
    let inside : slot < length strings = omega (arith, read, within (length strings) order p is.slots there) in
    let behind : drop n (insert (remove order p) n slot) ≡ slot ∷ drop (suc n) order =
    drop-insert_behind (remove order p) n slot (omega (arith, length-remove order p there, is.counted)) ∙ ap (λ xs. slot ∷ xs) (drop-remove order n p place) in
    let rest = All-behind (λ x. string_at x strings' ≡ []) order (suc n) is.counted (λ j from lt. still_empty heads strings (resized 0) order (suc n) p slot j is read there (λ e. omega arith) from lt) in
    let here : string_at slot strings' ≡ [] = string_at-changed (resized 0) slot strings inside in
    record {
      paired = omega (arith, is.paired, long);
      slots = subst (λ m. AreSlots m (insert (remove order p) n slot)) (sym long) moved;
      counted = omega (arith, is.counted);
      empty = subst (All (λ x. string_at x strings' ≡ [])) (sym behind) (All-cons (λ x. string_at x strings' ≡ []) slot (drop (suc n) order) here rest);
    }

pub sections-gone : (heads : List Head) (strings : List (List ℕ)) (order : List ℕ) (n p slot : ℕ) → AreKept heads strings order (suc n) → p ≤ n → get_or order p 0 ≡ slot
    → sections_at heads (with_string (resized 0) slot strings) (take n (insert (remove order p) n slot)) ≡ remove (sections_at heads strings (take (suc n) order)) p
sections-gone heads strings order n p slot is place read =
    let strings' = with_string (resized 0) slot strings in
    let order' = insert (remove order p) n slot in
    let there : p < length order = omega (arith, is.counted) in
    let moved : AreSlots (length strings) order' = subst (λ x. AreSlots (length strings) (insert (remove order p) n x)) read (AreSlots-moved (length strings) order p n is.slots there) in
    let room : n ≤ length (remove order p) = omega (arith, length-remove order p there, is.counted) in
    let long : length order' ≡ length (remove order p) + 1 = length-insert (remove order p) n slot room in
    let last : get_or order' n 0 ≡ slot = get_or-insert_at (remove order p) n slot 0 room in
    let first : length (take n order') ≡ n = length-take-le n order' (omega arith) in
    sections_at-same heads heads strings strings' (take n order') (λ k lt.
    let other : get_or (take n order') k 0 ≢ slot = λ e. different (length strings) order' k n moved (omega arith) (omega arith) (λ same. omega arith) (sym (get_or-take n order' k 0 (omega arith)) ∙ e ∙ sym last) in
    ap (section_with (head_at (get_or (take n order') k 0) heads)) (string_at-other (resized 0) slot (get_or (take n order') k 0) strings other))
    ∙ ap (sections_at heads strings) (take-insert_behind (remove order p) n slot room ∙ take-remove order n p place)
    ∙ sections_at-remove heads strings (take (suc n) order) p
