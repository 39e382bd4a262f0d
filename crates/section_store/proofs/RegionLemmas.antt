-- The strings of a region, and where they lie, where one is changed, put in or taken away.
use Rattle.std.proofs.Common.{◌≡◌, ℕ, zero, suc, ◌+◌, ◌-◌, ◌<◌, ◌≤◌, ◌⊎◌, List, [], ◌∷◌, ◌++◌, length, take, drop, replicate, get_or, inl, inr, sym, ap, subst, refl, ◌∙◌, arith, length-append}
use Rattle.std.specs.Prelude.{insert, remove, sum_by}
use Rattle.std.proofs.lemmas.Bool.{cases_eq, cases_lt}
use Rattle.std.proofs.lemmas.List.{map-append, take-map, drop-map, length-take-le, length-drop, length-replicate, append-nil, get_or-take, get_or-drop, get_or_append_left, get_or-append_right, get_or-map}
use Rattle.std.proofs.lemmas.List.Edits.{length-insert, get_or-insert_below, get_or-insert_at, get_or-insert_above, length-remove, get_or-remove_below, get_or-remove_above}
use Rattle.std.proofs.lemmas.List.Sums.{sum_by-cons}
use Rattle.std.proofs.lemmas.Grind.{same_number_lists}
use Rattle.ckpt_types.specs.Updates.{padded, written}
use Rattle.section_store.specs.declared.extents.Extent.{Extent}
use Rattle.section_store.specs.Extents.{no_extent, bytes_at, strings_in, extent_at, end_of, AreApart, AreLaid}
use Rattle.section_store.specs.RegionState.{string_at, with_string, resized}
use Rattle.section_store.proofs.ExtentLemmas.{length-bytes_at, get_or-bytes_at, bytes_at-moved, bytes_at-before, strings_in-same, strings_in-changed, extent_at-any, AreApart-sym}

-- ---- the strings

-- a string that is resized has that length
pub length-resized : (len : ℕ) (s : List ℕ) → length (resized len s) ≡ len
length-resized len s =
    let x = take len s in
    let short : length x ≤ len = take_short len s in
    omega (arith, length-append x (replicate (len - length x) 0), length-replicate {A = ℕ} (len - length x) 0)
  where
    take_short : (n : ℕ) (xs : List ℕ) → length (take n xs) ≤ n
    take_short zero xs = omega arith
    take_short (suc n) [] = omega arith
    take_short (suc n) (x ∷ xs) = omega (arith, take_short n xs)

-- a change of one changes the sum of the lengths by that of its own
pub sum-with_string : (change : List ℕ → List ℕ) (p : ℕ) (strings : List (List ℕ)) → p < length strings → sum_by length (with_string change p strings) + length (string_at p strings) ≡ sum_by length strings + length (change (string_at p strings))
sum-with_string change p [] there = absurd (omega arith)
sum-with_string change zero (s ∷ strings) there = omega (arith, sum_by-cons length (change s) strings, sum_by-cons length s strings)
sum-with_string change (suc p) (s ∷ strings) there = omega (arith, sum_by-cons length s (with_string change p strings), sum_by-cons length s strings, sum-with_string change p strings (omega arith))

-- where one goes, no change of it is left
pub remove-with_string : (change : List ℕ → List ℕ) (p : ℕ) (strings : List (List ℕ)) → remove (with_string change p strings) p ≡ remove strings p
remove-with_string change p [] = refl
remove-with_string change zero (s ∷ strings) = refl
remove-with_string change (suc p) (s ∷ strings) = ap (λ xs. s ∷ xs) (remove-with_string change p strings)

-- the string at a place has the length of its extent
pub length-string_at : (b : List ℕ) (es : List Extent) (p : ℕ) → p < length es → end_of (extent_at p es) ≤ length b → length (string_at p (strings_in b es)) ≡ (extent_at p es).len
length-string_at b es p there within =
    let e = extent_at p es in
    ap length (get_or-map (bytes_at b) es p no_extent [] there) ∙ length-bytes_at b e.start e.len within

-- an empty string is put in
pub strings_in-insert : (b : List ℕ) (es : List Extent) (p : ℕ) → strings_in b (insert es p no_extent) ≡ insert (strings_in b es) p []
strings_in-insert b es p = simp (map-append, take-map, drop-map)

-- a string is taken away
pub strings_in-remove : (b : List ℕ) (es : List Extent) (p : ℕ) → strings_in b (remove es p) ≡ remove (strings_in b es) p
strings_in-remove b es p = simp (map-append, take-map, drop-map)

-- ---- where they lie

-- a string that is put in at a place lies apart from the others
inserted_from : (es : List Extent) (i : ℕ) (e' : Extent) (k : ℕ) → i ≤ length es → k < length (insert es i e') → ((k ≡ i) × (extent_at k (insert es i e') ≡ e')) ⊎ ((j : ℕ) × (j < length es) × (extent_at k (insert es i e') ≡ extent_at j es) × (((k < i) × (j ≡ k)) ⊎ ((i < k) × (j + 1 ≡ k))))
inserted_from es i e' k place lt =
    let none : Extent = no_extent in
    let size = length-insert es i e' place in
    elim (cases_eq k i) [
      | inl same ↦ inl (same, ap (λ n. extent_at n (insert es i e')) same ∙ get_or-insert_at es i e' none place)
      | inr other ↦ elim (cases_lt k i) [
        | inl below ↦ inr (k, omega arith, get_or-insert_below es i e' none k below place, inl (below, refl))
        | inr above ↦
            let next : k - 1 + 1 ≡ k = omega arith in
            inr (k - 1, omega arith, ap (λ n. extent_at n (insert es i e')) (sym next) ∙ get_or-insert_above es i e' none (k - 1) (omega arith) place, inr (omega arith, next))
      ]
    ]

-- places that stem from one place are one
inserted_same : (i j k m n : ℕ) → (((j < i) × (m ≡ j)) ⊎ ((i < j) × (m + 1 ≡ j))) → (((k < i) × (n ≡ k)) ⊎ ((i < k) × (n + 1 ≡ k))) → m ≡ n → j ≡ k
inserted_same i j k m n (inl a) (inl b) same = omega (arith, a, b)
inserted_same i j k m n (inl a) (inr b) same = omega (arith, a, b)
inserted_same i j k m n (inr a) (inl b) same = omega (arith, a, b)
inserted_same i j k m n (inr a) (inr b) same = omega (arith, a, b)

pub AreLaid-insert : (end end' : ℕ) (es : List Extent) (i : ℕ) (e' : Extent) → AreLaid end es → i ≤ length es → end ≤ end' → end_of e' ≤ end' → (e'.len ≡ 0 → e'.start ≡ 0) → ((k : ℕ) → k < length es → AreApart e' (extent_at k es)) → AreLaid end' (insert es i e')
AreLaid-insert end end' es i e' laid place longer within empty apart =
    let none : Extent = no_extent in
    record {
      within = λ k d lt. subst (λ x. end_of x ≤ end') (sym (extent_at-any (insert es i e') k d lt)) (elim (inserted_from es i e' k place lt) [
        | inl here ↦ subst (λ x. end_of x ≤ end') (sym here.1) within
        | inr old ↦ subst (λ x. end_of x ≤ end') (sym old.2) (omega (arith, laid.within old.0 none old.1))
      ]);
      apart = λ j k d differ lt_j lt_k.
          subst (λ x. AreApart x (get_or (insert es i e') k d)) (sym (extent_at-any (insert es i e') j d lt_j)) (subst (λ y. AreApart (extent_at j (insert es i e')) y) (sym (extent_at-any (insert es i e') k d lt_k))
          (elim (inserted_from es i e' j place lt_j) [
            | inl here ↦ elim (inserted_from es i e' k place lt_k) [
              | inl there ↦ absurd (differ (here.0 ∙ sym there.0))
              | inr old ↦ subst (λ x. AreApart x (extent_at k (insert es i e'))) (sym here.1) (subst (AreApart e') (sym old.2) (apart old.0 old.1))
            ]
            | inr old_j ↦ elim (inserted_from es i e' k place lt_k) [
              | inl there ↦ subst (λ y. AreApart (extent_at j (insert es i e')) y) (sym there.1) (subst (λ x. AreApart x e') (sym old_j.2) (AreApart-sym e' (extent_at old_j.0 es) (apart old_j.0 old_j.1)))
              | inr old_k ↦ subst (λ x. AreApart x (extent_at k (insert es i e'))) (sym old_j.2) (subst (AreApart (extent_at old_j.0 es)) (sym old_k.2)
                  (laid.apart old_j.0 old_k.0 none (λ same. differ (inserted_same i j k old_j.0 old_k.0 old_j.3 old_k.3 same)) old_j.1 old_k.1))
            ]
          ]));
      empty = λ k d lt. subst (λ x. x.len ≡ 0 → x.start ≡ 0) (sym (extent_at-any (insert es i e') k d lt)) (elim (inserted_from es i e' k place lt) [
        | inl here ↦ subst (λ x. x.len ≡ 0 → x.start ≡ 0) (sym here.1) empty
        | inr old ↦ subst (λ x. x.len ≡ 0 → x.start ≡ 0) (sym old.2) (laid.empty old.0 none old.1)
      ]);
    }

-- the others lie apart where a string is taken away
removed_from : (es : List Extent) (i k : ℕ) → i < length es → k < length (remove es i) → (j : ℕ) × (j < length es) × (extent_at k (remove es i) ≡ extent_at j es) × (((k < i) × (j ≡ k)) ⊎ ((i ≤ k) × (j ≡ k + 1)))
removed_from es i k there lt =
    let none : Extent = no_extent in
    let size = length-remove es i there in
    elim (cases_lt k i) [
      | inl below ↦ (k, omega arith, get_or-remove_below es i none k below there, inl (below, refl))
      | inr above ↦ (k + 1, omega arith, get_or-remove_above es i none k above there, inr (above, refl))
    ]

removed_same : (i j k m n : ℕ) → (((j < i) × (m ≡ j)) ⊎ ((i ≤ j) × (m ≡ j + 1))) → (((k < i) × (n ≡ k)) ⊎ ((i ≤ k) × (n ≡ k + 1))) → m ≡ n → j ≡ k
removed_same i j k m n (inl a) (inl b) same = omega (arith, a, b)
removed_same i j k m n (inl a) (inr b) same = omega (arith, a, b)
removed_same i j k m n (inr a) (inl b) same = omega (arith, a, b)
removed_same i j k m n (inr a) (inr b) same = omega (arith, a, b)

pub AreLaid-remove : (end : ℕ) (es : List Extent) (i : ℕ) → AreLaid end es → i < length es → AreLaid end (remove es i)
AreLaid-remove end es i laid there =
    let none : Extent = no_extent in
    record {
      within = λ k d lt. let old = removed_from es i k there lt in subst (λ x. end_of x ≤ end) (sym (extent_at-any (remove es i) k d lt ∙ old.2)) (laid.within old.0 none old.1);
      apart = λ j k d differ lt_j lt_k.
          let old_j = removed_from es i j there lt_j in
          let old_k = removed_from es i k there lt_k in
          subst (λ x. AreApart x (get_or (remove es i) k d)) (sym (extent_at-any (remove es i) j d lt_j ∙ old_j.2)) (subst (AreApart (extent_at old_j.0 es)) (sym (extent_at-any (remove es i) k d lt_k ∙ old_k.2))
          (laid.apart old_j.0 old_k.0 none (λ same. differ (removed_same i j k old_j.0 old_k.0 old_j.3 old_k.3 same)) old_j.1 old_k.1));
      empty = λ k d lt. let old = removed_from es i k there lt in subst (λ x. x.len ≡ 0 → x.start ≡ 0) (sym (extent_at-any (remove es i) k d lt ∙ old.2)) (laid.empty old.0 none old.1);
    }

-- ---- bytes that are written

-- other bytes over those from an offset on
abbrev pub put_at : ℕ → List ℕ → List ℕ → List ℕ
put_at offset bytes b = take offset b ++ bytes ++ drop (offset + length bytes) b

-- where they lie within, that is what is written
pub written-within : (b : List ℕ) (offset : ℕ) (bytes : List ℕ) → offset + length bytes ≤ length b → written b offset bytes ≡ put_at offset bytes b
written-within b offset bytes within =
    let none : offset + length bytes - length b ≡ 0 = omega arith in
    let same : padded b (offset + length bytes) ≡ b = ap (λ n. b ++ replicate n 0) none ∙ append-nil b in
    ap (put_at offset bytes) same

pub length-put_at : (offset : ℕ) (bytes b : List ℕ) → offset + length bytes ≤ length b → length (put_at offset bytes b) ≡ length b
length-put_at offset bytes b within =
    omega (arith, length-append (take offset b ++ bytes) (drop (offset + length bytes) b), length-append (take offset b) bytes, length-take-le offset b (omega arith), length-drop (offset + length bytes) b)

-- each byte of them, in front, among and behind those that are put
pub get_or-put_at-front : (offset : ℕ) (bytes b : List ℕ) (i : ℕ) → offset + length bytes ≤ length b → i < offset → get_or (put_at offset bytes b) i 0 ≡ get_or b i 0
get_or-put_at-front offset bytes b i within lt =
    get_or_append_left (take offset b ++ bytes) (drop (offset + length bytes) b) 0 i (omega (arith, length-append (take offset b) bytes, length-take-le offset b (omega arith)))
    ∙ get_or_append_left (take offset b) bytes 0 i (omega (arith, length-take-le offset b (omega arith))) ∙ get_or-take offset b i 0 lt

pub get_or-put_at-among : (offset : ℕ) (bytes b : List ℕ) (i : ℕ) → offset + length bytes ≤ length b → offset ≤ i → i < offset + length bytes → get_or (put_at offset bytes b) i 0 ≡ get_or bytes (i - offset) 0
get_or-put_at-among offset bytes b i within from lt =
    get_or_append_left (take offset b ++ bytes) (drop (offset + length bytes) b) 0 i (omega (arith, length-append (take offset b) bytes, length-take-le offset b (omega arith)))
    ∙ get_or-append_right (take offset b) bytes offset i 0 (length-take-le offset b (omega arith)) from

pub get_or-put_at-behind : (offset : ℕ) (bytes b : List ℕ) (i : ℕ) → offset + length bytes ≤ length b → offset + length bytes ≤ i → get_or (put_at offset bytes b) i 0 ≡ get_or b i 0
get_or-put_at-behind offset bytes b i within from =
    get_or-append_right (take offset b ++ bytes) (drop (offset + length bytes) b) (offset + length bytes) i 0 (let size : length (take offset b ++ bytes) ≡ offset + length bytes = omega (arith, length-append (take offset b) bytes, length-take-le offset b (omega arith)) in size) from
    ∙ get_or-drop (offset + length bytes) b (i - (offset + length bytes)) 0 ∙ ap (λ n. get_or b n 0) (let at : offset + length bytes + (i - (offset + length bytes)) ≡ i = omega arith in at)

-- bytes that are put into a string are put into the buffer where it lies
pub bytes_at-put_at : (b : List ℕ) (s len offset : ℕ) (bytes : List ℕ) → s + len ≤ length b → offset + length bytes ≤ len → take len (drop s (put_at (s + offset) bytes b)) ≡ put_at offset bytes (take len (drop s b))
bytes_at-put_at b s len offset bytes within inside =
    let b' = put_at (s + offset) bytes b in
    let x = take len (drop s b) in
    let size : length b' ≡ length b = length-put_at (s + offset) bytes b (omega arith) in
    let long : length x ≡ len = length-bytes_at b s len within in
    let long' : length (take len (drop s b')) ≡ len = length-bytes_at b' s len (omega arith) in
    let fits : offset + length bytes ≤ length x = omega arith in
    same_number_lists (take len (drop s b')) (put_at offset bytes x) (long' ∙ sym (length-put_at offset bytes x fits ∙ long))
    (λ k lt.
    let lt_len : k < len = omega arith in
    get_or-bytes_at b' s len k lt_len ∙ elim (cases_lt k offset) [
      | inl front ↦ get_or-put_at-front (s + offset) bytes b (s + k) (omega arith) (omega arith) ∙ sym (get_or-put_at-front offset bytes x k fits front ∙ get_or-bytes_at b s len k lt_len)
      | inr from ↦ elim (cases_lt k (offset + length bytes)) [
        | inl among ↦ get_or-put_at-among (s + offset) bytes b (s + k) (omega arith) (omega arith) (omega arith) ∙ ap (λ n. get_or bytes n 0) (let at : s + k - (s + offset) ≡ k - offset = omega arith in at) ∙ sym (get_or-put_at-among offset bytes x k fits from among)
        | inr behind ↦ get_or-put_at-behind (s + offset) bytes b (s + k) (omega arith) (omega arith) ∙ sym (get_or-put_at-behind offset bytes x k fits behind ∙ get_or-bytes_at b s len k lt_len)
      ]
    ])

-- the strings where bytes are put into one of them
pub strings_in-put_at : (b : List ℕ) (es : List Extent) (p offset : ℕ) (bytes : List ℕ) → AreLaid (length b) es → p < length es → offset + length bytes ≤ (extent_at p es).len
    → strings_in (put_at ((extent_at p es).start + offset) bytes b) es ≡ with_string (λ s. written s offset bytes) p (strings_in b es)
strings_in-put_at b es p offset bytes laid there inside =
    let none : Extent = no_extent in
    let e = extent_at p es in
    let b' = put_at (e.start + offset) bytes b in
    let within : end_of e ≤ length b = laid.within p none there in
    let fits : e.start + offset + length bytes ≤ length b = omega arith in
    let size : length b' ≡ length b = length-put_at (e.start + offset) bytes b fits in
    strings_in-changed b b' (λ s. written s offset bytes) es es p refl there
    (λ k lt other.
    let a = extent_at k es in
    let within_a : end_of a ≤ length b = laid.within k none lt in
    bytes_at-moved b b' a.start a.start a.len within_a (omega arith)
    (λ i lt_i. elim (laid.apart k p none other lt there) [
      | inl before ↦ get_or-put_at-front (e.start + offset) bytes b (a.start + i) fits (omega arith)
      | inr behind ↦ get_or-put_at-behind (e.start + offset) bytes b (a.start + i) fits (omega arith)
    ]))
    (bytes_at-put_at b e.start e.len offset bytes within inside ∙ sym (written-within (bytes_at b e) offset bytes (omega (arith, length-bytes_at b e.start e.len within))))

-- ---- a string behind the others

-- bytes that are put behind a buffer lie there, and nowhere if there are none
pub bytes_at-end : (b bytes : List ℕ) (start : ℕ) → (start ≡ length b) ⊎ (length bytes ≡ 0) → take (length bytes) (drop start (b ++ bytes)) ≡ bytes
bytes_at-end b bytes start (inr none) =
    ap (λ n. take n (drop start (b ++ bytes))) none ∙ same_number_lists [] bytes (sym none) (λ k lt. absurd (omega arith))
bytes_at-end b bytes start (inl at) =
    let long : length (take (length bytes) (drop start (b ++ bytes))) ≡ length bytes = length-bytes_at (b ++ bytes) start (length bytes) (omega (arith, length-append b bytes)) in
    same_number_lists (take (length bytes) (drop start (b ++ bytes))) bytes long
    (λ k lt. get_or-bytes_at (b ++ bytes) start (length bytes) k (omega arith) ∙ get_or-append_right b bytes start (start + k) 0 (sym at) (omega arith) ∙ ap (λ n. get_or bytes n 0) (let first : start + k - start ≡ k = omega arith in first))

pub strings_in-append : (b bytes : List ℕ) (es : List Extent) (start : ℕ) → AreLaid (length b) es → (start ≡ length b) ⊎ (length bytes ≡ 0) → strings_in (b ++ bytes) (es ++ record { start = start; len = length bytes; place = 0 } ∷ []) ≡ strings_in b es ++ bytes ∷ []
strings_in-append b bytes es start laid at =
    let e' : Extent = record { start = start; len = length bytes; place = 0 } in
    let before : strings_in (b ++ bytes) es ≡ strings_in b es = strings_in-same b (b ++ bytes) es es refl
    (λ k lt. bytes_at-before b (b ++ bytes) (extent_at k es) (length b) (laid.within k _ lt) (omega arith) (omega (arith, length-append b bytes)) (λ i lt_i. get_or_append_left b bytes 0 i lt_i)) in
    map-append (bytes_at (b ++ bytes)) es (e' ∷ []) ∙ (λ i. before i ++ bytes_at-end b bytes start at i ∷ [])
