-- A string is brought behind all others, and those that lay behind it lie earlier by its length.
use Rattle.std.proofs.Common.{◌≡◌, ◌≢◌, ℕ, ◌+◌, ◌-◌, ◌<◌, ◌≤◌, ◌⊎◌, List, ◌++◌, length, take, drop, get_or, set, map, nat_lt, inl, inr, true, false, cond, sym, ap, subst, ◌∙◌, arith, length-append}
use Rattle.std.proofs.lemmas.Bool.{cases_eq}
use Rattle.std.proofs.lemmas.Bool.Decides.{nat_tests}
use Rattle.std.proofs.lemmas.List.{get_or-take, get_or-drop, length-drop, length-take-le, get_or_append_left, get_or-append_right, get_or-set_other, get_or-set_same, get_or-map, length-set, length-map}
use Rattle.section_store.specs.Extents.{no_extent, bytes_at, strings_in, extent_at, end_of, AreApart, AreLaid}
use Rattle.section_store.specs.Packing.{lowered}
use Rattle.section_store.specs.declared.extents.Extent.{Extent}
use Rattle.section_store.proofs.ExtentLemmas.{bytes_at-moved, strings_in-same, extent_at-any}

-- ---- the bytes

-- so many bytes from an offset on are brought to the end
abbrev pub turned : ℕ → ℕ → List ℕ → List ℕ
turned s l b = take s b ++ (drop l (drop s b) ++ take l (drop s b))

pub length-turned : (s l : ℕ) (b : List ℕ) → s + l ≤ length b → length (turned s l b) ≡ length b
length-turned s l b within =
    omega (arith, length-append (take s b) (drop l (drop s b) ++ take l (drop s b)), length-append (drop l (drop s b)) (take l (drop s b)), length-take-le s b (omega arith), length-drop l (drop s b), length-drop s b, length-take-le l (drop s b) (omega (arith, length-drop s b)))

-- those in front of them stay
pub get_or-turned-front : (s l : ℕ) (b : List ℕ) (i : ℕ) → s + l ≤ length b → i < s → get_or (turned s l b) i 0 ≡ get_or b i 0
get_or-turned-front s l b i within lt =
    get_or_append_left (take s b) (drop l (drop s b) ++ take l (drop s b)) 0 i (omega (arith, length-take-le s b (omega arith))) ∙ get_or-take s b i 0 lt

-- those behind them come down
pub get_or-turned-behind : (s l : ℕ) (b : List ℕ) (i : ℕ) → s + l ≤ length b → s ≤ i → i + l < length b → get_or (turned s l b) i 0 ≡ get_or b (i + l) 0
get_or-turned-behind s l b i within from lt =
    let rest = drop l (drop s b) in
    let place : s + (l + (i - s)) ≡ i + l = omega arith in
    get_or-append_right (take s b) (rest ++ take l (drop s b)) s i 0 (length-take-le s b (omega arith)) from
    ∙ get_or_append_left rest (take l (drop s b)) 0 (i - s) (omega (arith, length-drop l (drop s b), length-drop s b))
    ∙ get_or-drop l (drop s b) (i - s) 0 ∙ get_or-drop s b (l + (i - s)) 0 ∙ ap (λ n. get_or b n 0) place

-- they stand at the end
pub get_or-turned-end : (s l : ℕ) (b : List ℕ) (start k : ℕ) → s + l ≤ length b → start + l ≡ length b → k < l → get_or (turned s l b) (start + k) 0 ≡ get_or b (s + k) 0
get_or-turned-end s l b start k within end lt =
    let rest = drop l (drop s b) in
    let size : length rest ≡ start - s = omega (arith, length-drop l (drop s b), length-drop s b) in
    let first : start + k - s - (start - s) ≡ k = omega arith in
    get_or-append_right (take s b) (rest ++ take l (drop s b)) s (start + k) 0 (length-take-le s b (omega arith)) (omega arith)
    ∙ get_or-append_right rest (take l (drop s b)) (start - s) (start + k - s) 0 size (omega arith)
    ∙ ap (λ n. get_or (take l (drop s b)) n 0) first ∙ get_or-take l (drop s b) k 0 lt ∙ get_or-drop s b k 0

-- ---- the extents

-- a string lay behind another, and starts earlier by its length, or it lay in front and stays
pub IsLowered : Extent → Extent → Extent → Type 0
IsLowered e a a' = ((end_of e ≤ a.start) × (a'.start + e.len ≡ a.start) × (a'.len ≡ a.len)) ⊎ ((end_of a ≤ e.start) × (a'.start ≡ a.start) × (a'.len ≡ a.len))

-- what shares no byte with the string that is moved is lowered so
pub IsLowered-lowered : (e a : Extent) → AreApart e a → 0 < e.len → IsLowered e a (lowered e a)
unfolding IsLowered
IsLowered-lowered e a (inl behind) some =
    let test : nat_lt a.start (end_of e) ≡ false = grind (arith, nat_tests) in
    let other : Extent = record a { start = a.start - e.len } in
    let is : lowered e a ≡ other = ap (λ b. cond b a other) test in
    inl (behind, omega (arith, ap (λ x. x.start) is), ap (λ x. x.len) is)
IsLowered-lowered e a (inr front) some =
    let test : nat_lt a.start (end_of e) ≡ true = grind (arith, nat_tests) in
    let is : lowered e a ≡ a = ap (λ b. cond b a (record a { start = a.start - e.len })) test in
    inr (front, ap (λ x. x.start) is, ap (λ x. x.len) is)

-- two that are lowered share no byte
pub AreApart-lowered : (e a c a' c' : Extent) → IsLowered e a a' → IsLowered e c c' → AreApart a c → AreApart a' c'
unfolding IsLowered
AreApart-lowered e a c a' c' (inl down) (inl low) (inl before) = inl (omega (arith, down, low))
AreApart-lowered e a c a' c' (inl down) (inl low) (inr behind) = inr (omega (arith, down, low))
AreApart-lowered e a c a' c' (inl down) (inr stay) apart = inr (omega (arith, down, stay))
AreApart-lowered e a c a' c' (inr stay) (inl down) apart = inl (omega (arith, down, stay))
AreApart-lowered e a c a' c' (inr stay) (inr still) (inl before) = inl (omega (arith, stay, still))
AreApart-lowered e a c a' c' (inr stay) (inr still) (inr behind) = inr (omega (arith, stay, still))

-- one that is lowered ends where the string that is moved starts then
pub lowered-before : (e a a' : Extent) (start size : ℕ) → IsLowered e a a' → end_of e ≤ size → end_of a ≤ size → start + e.len ≡ size → end_of a' ≤ start
unfolding IsLowered
lowered-before e a a' start size (inl down) within within_a end = omega (arith, down)
lowered-before e a a' start size (inr stay) within within_a end = omega (arith, stay)

-- an empty one starts at 0 still
pub lowered-empty : (e a a' : Extent) → IsLowered e a a' → 0 < e.len → (a.len ≡ 0 → a.start ≡ 0) → a'.len ≡ 0 → a'.start ≡ 0
unfolding IsLowered
lowered-empty e a a' (inl down) some empty none = let at = empty (omega (arith, down)) in absurd (omega (arith, down))
lowered-empty e a a' (inr stay) some empty none = let at = empty (omega (arith, stay)) in omega (arith, stay)

-- the bytes of one that is lowered come down with it
pub bytes_at-lowered : (b : List ℕ) (e a a' : Extent) → IsLowered e a a' → end_of e ≤ length b → end_of a ≤ length b → bytes_at (turned e.start e.len b) a' ≡ bytes_at b a
unfolding IsLowered
bytes_at-lowered b e a a' (inl down) within within_a =
    let b' = turned e.start e.len b in
    let size = length-turned e.start e.len b within in
    ap (λ n. take n (drop a'.start b')) down.2 ∙ bytes_at-moved b b' a.start a'.start a.len within_a (omega (arith, down, size))
    (λ k lt. get_or-turned-behind e.start e.len b (a'.start + k) within (omega (arith, down)) (omega (arith, down)) ∙ ap (λ n. get_or b n 0) (let at : a'.start + k + e.len ≡ a.start + k = omega (arith, down) in at))
bytes_at-lowered b e a a' (inr stay) within within_a =
    let b' = turned e.start e.len b in
    let size = length-turned e.start e.len b within in
    ap (λ n. take n (drop a'.start b')) stay.2 ∙ bytes_at-moved b b' a.start a'.start a.len within_a (omega (arith, stay, size))
    (λ k lt. get_or-turned-front e.start e.len b (a'.start + k) within (omega (arith, stay)) ∙ ap (λ n. get_or b (n + k) 0) stay.1)

-- ---- all strings

-- where each string lies then
pub record IsTurned (es : List Extent) (p : ℕ) (e' : Extent) (es' : List Extent) : Type 0 where
  pub len : length es' ≡ length es
  pub here : extent_at p es' ≡ e'
  pub others : (k : ℕ) → k < length es → k ≢ p → IsLowered (extent_at p es) (extent_at k es) (extent_at k es')

pub turned-is : (size : ℕ) (es : List Extent) (p : ℕ) (e' : Extent) → AreLaid size es → p < length es → 0 < (extent_at p es).len → IsTurned es p e' (set (map (lowered (extent_at p es)) es) p e')
turned-is size es p e' laid there some =
    let e = extent_at p es in
    let down = map (lowered e) es in
    let none : Extent = no_extent in
    let long : length down ≡ length es = length-map es (lowered e) in
    record {
      len = length-set down p e' ∙ long;
      here = get_or-set_same down p e' none (omega (arith, long));
      others = λ k lt other. subst (IsLowered e (extent_at k es)) (sym (get_or-set_other down p k e' none other ∙ get_or-map (lowered e) es k none none lt))
          (IsLowered-lowered e (extent_at k es) (laid.apart p k none (λ is. other (sym is)) there lt) some);
    }

-- the strings are the same
pub strings_in-turned : (b : List ℕ) (es : List Extent) (p : ℕ) (e' : Extent) (es' : List Extent) → AreLaid (length b) es → p < length es → IsTurned es p e' es' → e'.start + (extent_at p es).len ≡ length b → e'.len ≡ (extent_at p es).len
    → strings_in (turned (extent_at p es).start (extent_at p es).len b) es' ≡ strings_in b es
strings_in-turned b es p e' es' laid there is end len =
    let e = extent_at p es in
    let b' = turned e.start e.len b in
    let none : Extent = no_extent in
    let within : end_of e ≤ length b = laid.within p none there in
    let size = length-turned e.start e.len b within in
    strings_in-same b b' es es' is.len
    (λ k lt. elim (cases_eq k p) [
      | inl at ↦
          ap (λ n. bytes_at b' (extent_at n es')) at ∙ ap (bytes_at b') is.here ∙ ap (λ n. take n (drop e'.start b')) len
          ∙ bytes_at-moved b b' e.start e'.start e.len within (omega (arith, size)) (λ i lt_i. get_or-turned-end e.start e.len b e'.start i within end lt_i) ∙ ap (λ n. bytes_at b (extent_at n es)) (sym at)
      | inr other ↦ bytes_at-lowered b e (extent_at k es) (extent_at k es') (is.others k lt other) within (laid.within k none lt)
    ])

-- they lie apart
pub AreLaid-turned : (size : ℕ) (es : List Extent) (p : ℕ) (e' : Extent) (es' : List Extent) → AreLaid size es → p < length es → 0 < (extent_at p es).len → IsTurned es p e' es' → e'.start + (extent_at p es).len ≡ size → e'.len ≡ (extent_at p es).len → AreLaid size es'
AreLaid-turned size es p e' es' laid there some is end len =
    let e = extent_at p es in
    let none : Extent = no_extent in
    let within : end_of e ≤ size = laid.within p none there in
    let before : (k : ℕ) → k < length es → k ≢ p → end_of (extent_at k es') ≤ e'.start = λ k lt other. lowered-before e (extent_at k es) (extent_at k es') e'.start size (is.others k lt other) within (laid.within k none lt) end in
    record {
      within = λ k d lt. subst (λ x. end_of x ≤ size) (sym (extent_at-any es' k d lt)) (elim (cases_eq k p) [
        | inl at ↦ omega (arith, ap (λ n. end_of (extent_at n es')) at, ap end_of is.here)
        | inr other ↦ omega (arith, before k (omega (arith, is.len)) other)
      ]);
      apart = λ j k d differ lt_j lt_k.
          subst (λ x. AreApart x (get_or es' k d)) (sym (extent_at-any es' j d lt_j)) (subst (λ y. AreApart (extent_at j es') y) (sym (extent_at-any es' k d lt_k)) (elim (cases_eq j p) [
            | inl at_j ↦ inr (omega (arith, before k (omega (arith, is.len)) (λ at_k. differ (at_j ∙ sym at_k)), ap (λ n. (extent_at n es').start) at_j, ap (λ x. x.start) is.here))
            | inr other_j ↦ elim (cases_eq k p) [
              | inl at_k ↦ inl (omega (arith, before j (omega (arith, is.len)) other_j, ap (λ n. (extent_at n es').start) at_k, ap (λ x. x.start) is.here))
              | inr other_k ↦ AreApart-lowered e (extent_at j es) (extent_at k es) (extent_at j es') (extent_at k es') (is.others j (omega (arith, is.len)) other_j) (is.others k (omega (arith, is.len)) other_k) (laid.apart j k none differ (omega (arith, is.len)) (omega (arith, is.len)))
            ]
          ]));
      empty = λ k d lt. subst (λ x. x.len ≡ 0 → x.start ≡ 0) (sym (extent_at-any es' k d lt)) (elim (cases_eq k p) [
        | inl at ↦ λ none_here. absurd (omega (arith, ap (λ n. (extent_at n es').len) at, ap (λ x. x.len) is.here))
        | inr other ↦ lowered-empty e (extent_at k es) (extent_at k es') (is.others k (omega (arith, is.len)) other) some (laid.empty k none (omega (arith, is.len)))
      ]);
    }
