-- The sections that are kept: what is read of them, and what becomes of them where a slot is changed or moved.
use Rattle.std.proofs.Common.{◌≡◌, ◌≢◌, ℕ, zero, suc, ◌+◌, ◌-◌, ◌<◌, ◌≤◌, List, [], ◌∷◌, ◌++◌, length, take, drop, map, replicate, get_or, sym, ap, refl, ◌∙◌, arith}
use Rattle.std.specs.Prelude.{All, insert, remove, sum_by, vec_len}
use Rattle.std.proofs.lemmas.List.{get_or_default, length-map, length-take-le, get_or-take, get_or-map, map-append, take-map, drop-map, append-nil, take_all, drop_all}
use Rattle.std.proofs.lemmas.List.Sums.{sum_by-cons, sum_by-take-drop}
use Rattle.ckpt_types.specs.Sections.{Section, size_of, memory_used}
use Rattle.ckpt_types.specs.Updates.{padded, written}
use Rattle.section_store.specs.Kept.{no_head, head_at, section_at_slot, sections_at, kept_state, AreSlots, HasSlots}
use Rattle.section_store.specs.KeptState.{KeptState, no_section, section_in}
use Rattle.section_store.specs.Places.{changed_at}
use Rattle.section_store.specs.RegionState.{string_at, with_string, resized}
use Rattle.section_store.specs.declared.kept.Head.{Head}
use Rattle.section_store.specs.declared.kept.Kept.TheInside.{Inside}
use Rattle.section_store.proofs.RegionLemmas.{length-resized}
use Rattle.section_store.proofs.SlotLemmas.{within, different, bytes_in-slots}

-- ---- strings

pub length-with_string : (change : List ℕ → List ℕ) (p : ℕ) (strings : List (List ℕ)) → length (with_string change p strings) ≡ length strings
length-with_string change p [] = refl
length-with_string change zero (s ∷ strings) = refl
length-with_string change (suc p) (s ∷ strings) = ap suc (length-with_string change p strings)

-- the string that is changed
pub string_at-changed : (change : List ℕ → List ℕ) (p : ℕ) (strings : List (List ℕ)) → p < length strings → string_at p (with_string change p strings) ≡ change (string_at p strings)
string_at-changed change p [] there = absurd (omega arith)
string_at-changed change zero (s ∷ strings) there = refl
string_at-changed change (suc p) (s ∷ strings) there = string_at-changed change p strings (omega arith)

-- the others
pub string_at-other : (change : List ℕ → List ℕ) (p k : ℕ) (strings : List (List ℕ)) → k ≢ p → string_at k (with_string change p strings) ≡ string_at k strings
string_at-other change p k [] other = refl
string_at-other change zero zero (s ∷ strings) other = absurd (other refl)
string_at-other change zero (suc k) (s ∷ strings) other = refl
string_at-other change (suc p) zero (s ∷ strings) other = refl
string_at-other change (suc p) (suc k) (s ∷ strings) other = string_at-other change p k strings (λ same. other (ap suc same))

-- two changes of one string are one
pub with_string-twice : (f g : List ℕ → List ℕ) (p : ℕ) (strings : List (List ℕ)) → with_string g p (with_string f p strings) ≡ with_string (λ s. g (f s)) p strings
with_string-twice f g p [] = refl
with_string-twice f g zero (s ∷ strings) = refl
with_string-twice f g (suc p) (s ∷ strings) = ap (λ xs. s ∷ xs) (with_string-twice f g p strings)

-- changes that make the same of the string there are one
pub with_string-agree : (f g : List ℕ → List ℕ) (p : ℕ) (strings : List (List ℕ)) → f (string_at p strings) ≡ g (string_at p strings) → with_string f p strings ≡ with_string g p strings
with_string-agree f g p [] same = refl
with_string-agree f g zero (s ∷ strings) same = ap (λ x. x ∷ strings) same
with_string-agree f g (suc p) (s ∷ strings) same = ap (λ xs. s ∷ xs) (with_string-agree f g p strings same)

-- a string that is left as it is
pub with_string-same : (p : ℕ) (strings : List (List ℕ)) → with_string (λ s. s) p strings ≡ strings
with_string-same p [] = refl
with_string-same zero (s ∷ strings) = refl
with_string-same (suc p) (s ∷ strings) = ap (λ xs. s ∷ xs) (with_string-same p strings)

-- a string that has its length needs no zeros
padded-full : (s : List ℕ) (n : ℕ) → length s ≡ n → padded s n ≡ s
padded-full s n long = (let none : n - length s ≡ 0 = omega arith in ap (λ m. s ++ replicate m 0) none) ∙ append-nil s

-- bytes that end behind a string are written into it, whether or not it grows before
pub written-resized : (s : List ℕ) (offset : ℕ) (bytes : List ℕ) → length s ≤ offset + length bytes → written (resized (offset + length bytes) s) offset bytes ≡ written s offset bytes
written-resized s offset bytes long =
    let end = offset + length bytes in
    ap (λ x. take offset x ++ bytes ++ drop end x) (padded-full (resized end s) end (length-resized end s) ∙ ap (λ x. padded x end) (take_all end s long))

-- bytes that are written over a whole string are that string
pub written-whole : (s bytes : List ℕ) → written (resized (length bytes) s) 0 bytes ≡ bytes
written-whole s bytes =
    let r = resized (length bytes) s in
    let long : length r ≡ length bytes = length-resized (length bytes) s in
    let full : padded r (0 + length bytes) ≡ r = padded-full r (0 + length bytes) (omega arith) in
    ap (λ x. bytes ++ x) (ap (drop (0 + length bytes)) full ∙ drop_all (0 + length bytes) r (omega arith)) ∙ append-nil bytes

-- ---- what is read

-- there are as many sections as are counted
pub length-shown : (k : Inside) → HasSlots k → length (kept_state k).sections ≡ k.count
length-shown k is = length-map (take k.count k.order.items) (section_at_slot k.heads.items k.region.strings) ∙ length-take-le k.count k.order.items is.kept.counted

-- a place of a section has a slot, and the slot a head and a string
pub record HasSlot (k : Inside) (v : KeptState) (i slot : ℕ) : Type 0 where
  pub counted : i < k.count
  pub read : get_or k.order.items i 0 ≡ slot
  pub string : slot < length k.region.strings
  pub head : slot < length k.heads.items
  pub indexed : slot < vec_len k.heads
  pub section : section_at_slot k.heads.items k.region.strings slot ≡ section_in v i

pub has_slot : (k : Inside) (v : KeptState) (i slot : ℕ) → kept_state k ≡ v → HasSlots k → i < length v.sections → slot ≡ get_or k.order.items i slot → HasSlot k v i slot
has_slot k v i slot view is there at =
    let counted : i < k.count = omega (arith, length-shown k is, ap (λ x. length x.sections) view) in
    let ordered : i < length k.order.items = omega (arith, is.kept.counted) in
    let read : get_or k.order.items i 0 ≡ slot = get_or_default k.order.items i 0 slot ordered ∙ sym at in
    let long : length (take k.count k.order.items) ≡ k.count = length-take-le k.count k.order.items is.kept.counted in
    let string : slot < length k.region.strings = omega (arith, read, within (length k.region.strings) k.order.items i is.kept.slots ordered) in
    let section : section_in (kept_state k) i ≡ section_at_slot k.heads.items k.region.strings slot = get_or-map (section_at_slot k.heads.items k.region.strings) (take k.count k.order.items) i 0 no_section (omega (arith, long))
    ∙ ap (section_at_slot k.heads.items k.region.strings) (get_or-take k.count k.order.items i 0 counted ∙ read) in
    record {
      counted = counted;
      read = read;
      string = string;
      head = omega (arith, is.kept.paired);
      indexed = omega (arith, is.kept.paired, k.heads.ok.0);
      section = sym section ∙ ap (λ x. section_in x i) view;
    }

-- the head that is read of a slot
pub head_read : (heads : List Head) (slot : ℕ) (h : Head) → slot < length heads → h ≡ get_or heads slot h → h ≡ head_at slot heads
head_read heads slot h there at = at ∙ get_or_default heads slot h no_head there

-- ---- how many bytes they have

memory-sections_at : (heads : List Head) (strings : List (List ℕ)) (slots : List ℕ) → memory_used (sections_at heads strings slots) ≡ sum_by (λ slot. length (string_at slot strings)) slots
memory-sections_at heads strings [] = refl
memory-sections_at heads strings (slot ∷ slots) =
    omega (arith, sum_by-cons size_of (section_at_slot heads strings slot) (sections_at heads strings slots), sum_by-cons (λ x. length (string_at x strings)) slot slots, memory-sections_at heads strings slots)

-- what is empty has no bytes
none_in : (strings : List (List ℕ)) (slots : List ℕ) → All (λ slot. string_at slot strings ≡ []) slots → sum_by (λ slot. length (string_at slot strings)) slots ≡ 0
none_in strings [] empty = refl
none_in strings (slot ∷ slots) empty =
    let here : string_at slot strings ≡ [] = empty 0 0 (omega arith) in
    omega (arith, sum_by-cons (λ x. length (string_at x strings)) slot slots, ap length here, none_in strings slots (λ k d lt. empty (suc k) d (omega arith)))

-- the sections have as many bytes as all strings, where those of the other slots are empty
pub memory-slots : (heads : List Head) (strings : List (List ℕ)) (slots : List ℕ) (count : ℕ) → AreSlots (length strings) slots → All (λ slot. string_at slot strings ≡ []) (drop count slots) → memory_used (sections_at heads strings (take count slots)) ≡ sum_by length strings
memory-slots heads strings slots count are empty =
    omega (arith, memory-sections_at heads strings (take count slots), none_in strings (drop count slots) empty, sum_by-take-drop (λ slot. length (string_at slot strings)) slots count, bytes_in-slots strings slots are)

pub memory-shown : (k : Inside) → HasSlots k → memory_used (kept_state k).sections ≡ sum_by length k.region.strings
memory-shown k is = memory-slots k.heads.items k.region.strings k.order.items k.count is.kept.slots is.kept.empty

-- ---- where a slot is changed

map-same : (f g : ℕ → Section) (slots : List ℕ) → ((k : ℕ) → k < length slots → g (get_or slots k 0) ≡ f (get_or slots k 0)) → map g slots ≡ map f slots
map-same f g [] same = refl
map-same f g (slot ∷ slots) same = λ i. same 0 (omega arith) i ∷ map-same f g slots (λ k lt. same (suc k) (omega arith)) i

map-changed_at : (f g : ℕ → Section) (change : Section → Section) (slots : List ℕ) (p : ℕ) → p < length slots → ((k : ℕ) → k < length slots → k ≢ p → g (get_or slots k 0) ≡ f (get_or slots k 0)) → g (get_or slots p 0) ≡ change (f (get_or slots p 0)) → map g slots ≡ changed_at change p (map f slots)
map-changed_at f g change [] p there others here = absurd (omega arith)
map-changed_at f g change (slot ∷ slots) zero there others here = λ i. here i ∷ map-same f g slots (λ k lt. others (suc k) (omega arith) (omega arith)) i
map-changed_at f g change (slot ∷ slots) (suc p) there others here =
    λ i. others 0 (omega arith) (omega arith) i ∷ map-changed_at f g change slots p (omega arith) (λ k lt other. others (suc k) (omega arith) (λ same. other (let e : k ≡ p = omega arith in e))) here i

-- the slot of the section at a place is changed, and no other: that section is
pub sections_at-changed : (heads heads' : List Head) (strings strings' : List (List ℕ)) (order : List ℕ) (count p : ℕ) (change : Section → Section) → AreSlots (length strings) order → p < count → count ≤ length order
    → ((slot : ℕ) → slot ≢ get_or order p 0 → section_at_slot heads' strings' slot ≡ section_at_slot heads strings slot)
    → section_at_slot heads' strings' (get_or order p 0) ≡ change (section_at_slot heads strings (get_or order p 0))
    → sections_at heads' strings' (take count order) ≡ changed_at change p (sections_at heads strings (take count order))
sections_at-changed heads heads' strings strings' order count p change are there counted others here =
    let f = section_at_slot heads strings in
    let g = section_at_slot heads' strings' in
    let long : length (take count order) ≡ count = length-take-le count order counted in
    let at = λ (k : ℕ) (lt : k < count). get_or-take count order k 0 lt in
    map-changed_at f g change (take count order) p (omega arith)
    (λ k lt other. let low : k < count = omega arith in
    ap g (at k low) ∙ others (get_or order k 0) (different (length strings) order k p are (omega arith) (omega arith) other) ∙ ap f (sym (at k low)))
    (ap g (at p there) ∙ here ∙ ap (λ slot. change (f slot)) (sym (at p there)))

-- slots that are not changed have the same sections
pub sections_at-same : (heads heads' : List Head) (strings strings' : List (List ℕ)) (slots : List ℕ) → ((k : ℕ) → k < length slots → section_at_slot heads' strings' (get_or slots k 0) ≡ section_at_slot heads strings (get_or slots k 0)) → sections_at heads' strings' slots ≡ sections_at heads strings slots
sections_at-same heads heads' strings strings' slots same = map-same (section_at_slot heads strings) (section_at_slot heads' strings') slots same

-- ---- where slots are moved

pub sections_at-insert : (heads : List Head) (strings : List (List ℕ)) (slots : List ℕ) (i slot : ℕ) → sections_at heads strings (insert slots i slot) ≡ insert (sections_at heads strings slots) i (section_at_slot heads strings slot)
sections_at-insert heads strings slots i slot = simp (map-append, take-map, drop-map)

pub sections_at-remove : (heads : List Head) (strings : List (List ℕ)) (slots : List ℕ) (i : ℕ) → sections_at heads strings (remove slots i) ≡ remove (sections_at heads strings slots) i
sections_at-remove heads strings slots i = simp (map-append, take-map, drop-map)

-- the first slots and those behind them, where one is put in among the first
pub take-insert : (slots : List ℕ) (n i slot : ℕ) → i ≤ n → n ≤ length slots → take (suc n) (insert slots i slot) ≡ insert (take n slots) i slot
take-insert slots n zero slot low long = refl
take-insert slots zero (suc i) slot low long = absurd (omega arith)
take-insert [] (suc n) (suc i) slot low long = absurd (omega arith)
take-insert (x ∷ slots) (suc n) (suc i) slot low long = ap (λ xs. x ∷ xs) (take-insert slots n i slot (omega arith) (omega arith))

pub drop-insert : (slots : List ℕ) (n i slot : ℕ) → i ≤ n → n ≤ length slots → drop (suc n) (insert slots i slot) ≡ drop n slots
drop-insert slots n zero slot low long = refl
drop-insert slots zero (suc i) slot low long = absurd (omega arith)
drop-insert [] (suc n) (suc i) slot low long = absurd (omega arith)
drop-insert (x ∷ slots) (suc n) (suc i) slot low long = drop-insert slots n i slot (omega arith) (omega arith)

-- where one is put in behind the first
pub take-insert_behind : (slots : List ℕ) (n slot : ℕ) → n ≤ length slots → take n (insert slots n slot) ≡ take n slots
take-insert_behind slots zero slot long = refl
take-insert_behind [] (suc n) slot long = absurd (omega arith)
take-insert_behind (x ∷ slots) (suc n) slot long = ap (λ xs. x ∷ xs) (take-insert_behind slots n slot (omega arith))

pub drop-insert_behind : (slots : List ℕ) (n slot : ℕ) → n ≤ length slots → drop n (insert slots n slot) ≡ slot ∷ drop n slots
drop-insert_behind slots zero slot long = refl
drop-insert_behind [] (suc n) slot long = absurd (omega arith)
drop-insert_behind (x ∷ slots) (suc n) slot long = drop-insert_behind slots n slot (omega arith)

-- where one goes from the first, or the next one behind them
pub take-remove : (slots : List ℕ) (n i : ℕ) → i ≤ n → take n (remove slots i) ≡ remove (take (suc n) slots) i
take-remove [] zero zero low = refl
take-remove [] (suc n) zero low = refl
take-remove (x ∷ slots) n zero low = refl
take-remove slots zero (suc i) low = absurd (omega arith)
take-remove [] (suc n) (suc i) low = refl
take-remove (x ∷ slots) (suc n) (suc i) low = ap (λ xs. x ∷ xs) (take-remove slots n i (omega arith))

pub drop-remove : (slots : List ℕ) (n i : ℕ) → i ≤ n → drop n (remove slots i) ≡ drop (suc n) slots
drop-remove [] zero zero low = refl
drop-remove [] (suc n) zero low = refl
drop-remove (x ∷ slots) n zero low = refl
drop-remove slots zero (suc i) low = absurd (omega arith)
drop-remove [] (suc n) (suc i) low = refl
drop-remove (x ∷ slots) (suc n) (suc i) low = drop-remove slots n i (omega arith)

pub take-remove_behind : (slots : List ℕ) (n : ℕ) → take n (remove slots n) ≡ take n slots
take-remove_behind slots zero = refl
take-remove_behind [] (suc n) = refl
take-remove_behind (x ∷ slots) (suc n) = ap (λ xs. x ∷ xs) (take-remove_behind slots n)
