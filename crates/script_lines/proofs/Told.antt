-- What the words of a line say is read again from their spelling.
use Rattle.std.proofs.Common.{◌≡◌, refl, ◌∙◌, ap, subst, ℕ, zero, suc, ◌+◌, ◌-◌, ◌*◌, ◌/◌, ◌%◌, ◌<◌, ◌≤◌, true, ◌&&◌, ◌||◌, ◌==◌, List, [], ◌∷◌, ◌++◌, length, Option, Some, None, Result, Ok, Err, nat_le, nat_lt, arith, flat_map, length-append}
use Rattle.std.proofs.lemmas.List.{append-nil}
use Rattle.std.proofs.lemmas.Nat.{div-add-mod'}
use Rattle.std.proofs.Math.Nat.{suc-mul, mul-div_cancel, mul-mod_left, mul-le-mul_right, le_of_mul-le-mul_right}
use Rattle.ckpt_types.specs.Limits.{line_elements_max}
use Rattle.script_words.specs.declared.reason.Reason.{Reason}
use Rattle.script_words.specs.Reasons.{◌>>=◌}
use Rattle.script_words.specs.Words.{Class, read_word}
use Rattle.script_lines.specs.Table.{Values, LineShape, just, maybe, times, LineValues, fields, groups, rest_of, values_told, counts}
use Rattle.script_lines.specs.Spelling.{spell_all, spell_more, spell_values}
use Rattle.script_lines.specs.Fitting.{FitAll, FitMore, FitGroups, FitValues}
use Rattle.script_words.specs.Fitting.{Good}
use Rattle.script_words.proofs.Fits.{again}
use Rattle.script_words.proofs.Said.{said}

abbrev pub AllGood : List Class → Type 0
AllGood [] = Unit {0}
AllGood (c ∷ cs) = Good c × AllGood cs

abbrev pub GoodShape : LineShape → Type 0
GoodShape (just cs) = AllGood cs
GoodShape (maybe cs ds) = AllGood cs × AllGood ds × (0 < length ds)
GoodShape (times cs ds) = AllGood cs × AllGood ds × (0 < length ds)

pub fields_again : (cs : List Class) → AllGood cs → (v : Values cs) → FitAll cs v → (more : List (List ℕ)) → fields cs (spell_all cs v ++ more) ≡ Ok (v, more)
fields_again [] g v f more = refl
fields_again (c ∷ cs) g v f more = rw (again c g.0 v.0 f.0, fields_again cs g.1 v.1 f.1 more) refl

pub length_all : (cs : List Class) (v : Values cs) → length (spell_all cs v) ≡ length cs
length_all [] v = refl
length_all (c ∷ cs) v = ap (λ n. suc n) (length_all cs v.1)

groups_again : (ds : List Class) → AllGood ds → (vs : List (Values ds)) → FitGroups ds vs → groups ds (length vs) (flat_map (spell_all ds) vs) ≡ Ok vs
unfolding groups
groups_again ds g [] f = refl
groups_again ds g (v ∷ vs) f = rw (fields_again ds g v f.0 (flat_map (spell_all ds) vs), groups_again ds g vs f.1) refl

length_groups : (ds : List Class) (vs : List (Values ds)) → length (flat_map (spell_all ds) vs) ≡ length vs * length ds
length_groups ds [] = omega arith
length_groups ds (v ∷ vs) = omega (arith, length-append (spell_all ds v) (flat_map (spell_all ds) vs), length_all ds v, length_groups ds vs, suc-mul (length vs) (length ds))

alone_again : (cs : List Class) → AllGood cs → (v : Values cs) → FitAll cs v → fields cs (spell_all cs v) ≡ Ok (v, [])
alone_again cs g v f = subst (λ ws. fields cs ws ≡ Ok (v, [])) (append-nil (spell_all cs v)) (fields_again cs g v f [])

rest_again : (ds : List Class) → AllGood ds → 0 < length ds → (v : Values ds) → FitAll ds v → rest_of ds (spell_all ds v) ≡ Ok (Some v)
rest_again [] g some v f = absurd (omega (arith, some))
rest_again (d ∷ ds) g some v f = rw (alone_again (d ∷ ds) g v f) refl

more_again : (ds : List Class) → AllGood ds → 0 < length ds → (o : Option (Values ds)) → FitMore ds o → rest_of ds (spell_more ds o) ≡ Ok o
more_again ds g some None f = refl
more_again ds g some (Some v) f = rest_again ds g some v f

pub told_again : (s : LineShape) → GoodShape s → (v : LineValues s) → FitValues s v → values_told s (spell_values s v) ≡ Ok v
told_again (just cs) g v f = rw (alone_again cs g v f) refl
told_again (maybe cs ds) g v f = rw (fields_again cs g.0 v.0 f.0 (spell_more ds v.1), more_again ds g.1 g.2 v.1 f.1) refl
told_again (times cs ds) g v f =
    let n : length (flat_map (spell_all ds) v.1) / length ds ≡ length v.1 = ap (λ k. k / length ds) (length_groups ds v.1) ∙ mul-div_cancel (length v.1) g.2 in
    rw (fields_again cs g.0 v.0 f.0 (flat_map (spell_all ds) v.1), n, groups_again ds g.1 v.1 f.1) refl

same_count : (m n : ℕ) → m ≡ n → (m == n) ≡ true
same_count m n e = grind (arith, e)

more_counts : (a : ℕ) (ds : List Class) (o : Option (Values ds)) (n : ℕ) → n ≡ a + length (spell_more ds o) → (n == a || n == a + length ds) ≡ true
more_counts a ds None n e = let same : n ≡ a = omega (arith, e) in grind (arith, same)
more_counts a ds (Some v) n e = let same : n ≡ a + length ds = omega (arith, e, length_all ds v) in grind (arith, same)

times_counts : (a k q n : ℕ) → 0 < k → 0 < q → q ≤ line_elements_max → n ≡ a + q * k → (nat_lt a n && (n - a) % k == 0 && nat_le (n - a) (line_elements_max * k)) ≡ true
times_counts a k zero n some none most e = absurd (omega (arith, none))
times_counts a k (suc q) n some none most e =
    let rest : n - a ≡ suc q * k = omega (arith, e) in
    let zeros : (suc q * k) % k ≡ 0 = mul-mod_left (suc q) k in
    let le : suc q * k ≤ line_elements_max * k = mul-le-mul_right k most in
    let lt : a < n = omega (arith, e, suc-mul q k, some) in
    rw (rest, zeros) (grind (arith, le, lt))

pub counts_again : (s : LineShape) → GoodShape s → (v : LineValues s) → FitValues s v → counts s (length (spell_values s v)) ≡ true
counts_again (just cs) g v f = same_count (length (spell_all cs v)) (length cs) (length_all cs v)
counts_again (maybe cs ds) g v f = more_counts (length cs) ds v.1 (length (spell_all cs v.0 ++ spell_more ds v.1)) (length-append (spell_all cs v.0) (spell_more ds v.1) ∙ ap (λ n. n + length (spell_more ds v.1)) (length_all cs v.0))
counts_again (times cs ds) g v f = times_counts (length cs) (length ds) (length v.1) (length (spell_all cs v.0 ++ flat_map (spell_all ds) v.1)) g.2 f.2 f.3 (omega (arith, length-append (spell_all cs v.0) (flat_map (spell_all ds) v.1), length_all cs v.0, length_groups ds v.1))

-- WHAT IS READ FITS

pub bind_ok : {A B : Type 0} (r : Result A Reason) (f : A → Result B Reason) (y : B) → (r >>= f) ≡ Ok y → (x : A) × (r ≡ Ok x) × (f x ≡ Ok y)
bind_ok (Ok x) f y e = (x, refl, e)
bind_ok (Err d) f y e = absurd (cc)

pub ok_inj : {A : Type 0} (x y : A) → ◌≡◌ {A = Result A Reason} (Ok x) (Ok y) → x ≡ y
ok_inj x y e = cc

fields_said : (cs : List Class) (ws : List (List ℕ)) (x : Values cs × List (List ℕ)) → fields cs ws ≡ Ok x → FitAll cs x.0
fields_said [] ws x e = tt
fields_said (c ∷ cs) [] x e = absurd (cc)
fields_said (c ∷ cs) (w ∷ ws) x e =
    let p = bind_ok (read_word c w) _ x e in
    let q = bind_ok (fields cs ws) _ x p.2 in
    let y : Values (c ∷ cs) × List (List ℕ) = ((p.0, q.0.0), q.0.1) in
    subst (λ (z : Values (c ∷ cs) × List (List ℕ)). FitAll (c ∷ cs) z.0) (ok_inj y x q.2) (said c w p.0 p.1, fields_said cs ws q.0 q.1)

fields_length : (cs : List Class) (ws : List (List ℕ)) (x : Values cs × List (List ℕ)) → fields cs ws ≡ Ok x → length ws ≡ length cs + length x.1
fields_length [] ws x e =
    let y : Values [] × List (List ℕ) = (tt, ws) in
    subst (λ (z : Values [] × List (List ℕ)). length ws ≡ 0 + length z.1) (ok_inj y x e) (omega arith)
fields_length (c ∷ cs) [] x e = absurd (cc)
fields_length (c ∷ cs) (w ∷ ws) x e =
    let p = bind_ok (read_word c w) _ x e in
    let q = bind_ok (fields cs ws) _ x p.2 in
    let y : Values (c ∷ cs) × List (List ℕ) = ((p.0, q.0.0), q.0.1) in
    let ih = fields_length cs ws q.0 q.1 in
    subst (λ (z : Values (c ∷ cs) × List (List ℕ)). length (w ∷ ws) ≡ length (c ∷ cs) + length z.1) (ok_inj y x q.2) (omega (arith, ih))

groups_said : (ds : List Class) (n : ℕ) (ws : List (List ℕ)) (vs : List (Values ds)) → groups ds n ws ≡ Ok vs → FitGroups ds vs × (length vs ≡ n)
unfolding groups
groups_said ds zero ws vs e = subst (λ (z : List (Values ds)). FitGroups ds z × (length z ≡ 0)) (ok_inj [] vs e) (tt, refl)
groups_said ds (suc n) ws vs e =
    let p = bind_ok (fields ds ws) _ vs e in
    let q = bind_ok (groups ds n p.0.1) _ vs p.2 in
    let ih = groups_said ds n p.0.1 q.0 q.1 in
    subst (λ (z : List (Values ds)). FitGroups ds z × (length z ≡ suc n)) (ok_inj (p.0.0 ∷ q.0) vs q.2) ((fields_said ds ws p.0 p.1, ih.0), ap (λ k. suc k) ih.1)

rest_said : (ds : List Class) (ws : List (List ℕ)) (o : Option (Values ds)) → rest_of ds ws ≡ Ok o → FitMore ds o
rest_said ds [] o e = subst (λ (z : Option (Values ds)). FitMore ds z) (ok_inj None o e) tt
rest_said ds (w ∷ ws) o e =
    let p = bind_ok (fields ds (w ∷ ws)) _ o e in
    subst (λ (z : Option (Values ds)). FitMore ds z) (ok_inj (Some p.0.0) o p.2) (fields_said ds (w ∷ ws) p.0 p.1)

some_groups : (q k m : ℕ) → q * k ≡ m → 0 < m → 0 < q
some_groups zero k m e some = absurd (omega (arith, e, some))
some_groups (suc q) k m e some = omega arith

few : (a k n m : ℕ) → 0 < k → (nat_lt a n && (n - a) % k == 0 && nat_le (n - a) (line_elements_max * k)) ≡ true → n ≡ a + m → (0 < m / k) × (m / k ≤ line_elements_max)
few a k n m some counted e =
    let lt : a < n = grind (arith, counted) in
    let zeros : (n - a) % k ≡ 0 = grind (arith, counted) in
    let le : n - a ≤ line_elements_max * k = grind (arith, counted) in
    let m_is : n - a ≡ m = omega (arith, e) in
    let whole : m / k * k ≡ m = omega (arith, div-add-mod' m k, rw m_is at zeros) in
    (some_groups (m / k) k m whole (omega (arith, e, lt)), le_of_mul-le-mul_right (omega (arith, whole, m_is, le)) some)

pub told_said : (s : LineShape) → GoodShape s → (ws : List (List ℕ)) (v : LineValues s) → counts s (length ws) ≡ true → values_told s ws ≡ Ok v → FitValues s v
told_said (just cs) g ws v counted e =
    let p = bind_ok (fields cs ws) _ v e in
    subst (λ (z : Values cs). FitAll cs z) (ok_inj p.0.0 v p.2) (fields_said cs ws p.0 p.1)
told_said (maybe cs ds) g ws v counted e =
    let p = bind_ok (fields cs ws) _ v e in
    let q = bind_ok (rest_of ds p.0.1) _ v p.2 in
    let y : LineValues (maybe cs ds) = (p.0.0, q.0) in
    subst (λ (z : LineValues (maybe cs ds)). FitValues (maybe cs ds) z) (ok_inj y v q.2) (fields_said cs ws p.0 p.1, rest_said ds p.0.1 q.0 q.1)
told_said (times cs ds) g ws v counted e =
    let p = bind_ok (fields cs ws) _ v e in
    let q = bind_ok (groups ds (length p.0.1 / length ds) p.0.1) _ v p.2 in
    let y : LineValues (times cs ds) = (p.0.0, q.0) in
    let h = groups_said ds (length p.0.1 / length ds) p.0.1 q.0 q.1 in
    let r = few (length cs) (length ds) (length ws) (length p.0.1) g.2 counted (fields_length cs ws p.0 p.1) in
    subst (λ (z : LineValues (times cs ds)). FitValues (times cs ds) z) (ok_inj y v q.2) (fields_said cs ws p.0 p.1, h.0, omega (arith, h.1, r.0), omega (arith, h.1, r.1))
