-- Groups of words, read one after the other, as a loop does.
use Rattle.std.proofs.Common.{◌≡◌, ℕ, suc, ◌-◌, ◌+◌, ◌≤◌, ◌<◌, List, [], ◌∷◌, ◌++◌, map, Result, Ok, Err, refl, sym, ap, ◌∙◌, append_assoc, arith, ◌*◌, take, drop, length, take_all, length-drop}
use Rattle.std.proofs.lemmas.List.{append-nil, drop-drop}
use Rattle.script_words.specs.declared.reason.Reason.{Reason}
use Rattle.script_words.specs.declared.reason.LineError.{LineError}
use Rattle.script_words.specs.declared.reason.LineError.TheVariants as errors
use Rattle.script_words.specs.Reasons.{◌>>=◌, Fails}
use Rattle.script_words.specs.Words.{Class}
use Rattle.script_lines.specs.Table.{Values, fields, groups, one_made, gather}

-- what was read before, and what is still read
abbrev pub with_front : {X : Type 0} → List X → Result (List X) Reason → Result (List X) Reason
with_front front read = read >>= λ xs. Ok (front ++ xs)

one_group_more : {X : Type 0} (ds : List Class) (f : Values ds → X) (front : List X) (v : Values ds) (rest : Result (List (Values ds)) Reason)
    → with_front front (rest >>= (λ vs. Ok (v ∷ vs)) >>= λ vs. Ok (map f vs)) ≡ with_front (front ++ f v ∷ []) (rest >>= λ vs. Ok (map f vs))
one_group_more ds f front v (Ok vs) = ap (λ xs. Ok xs) (simp append_assoc)
one_group_more ds f front v (Err e) = refl

abbrev reread : {X : Type 0} (ds : List Class) (f : Values ds → X) → Result (Values ds × List (List ℕ)) Reason → Result (X × List (List ℕ)) Reason
reread ds f r = r >>= λ v. Ok (f v.0, v.1)

abbrev left_over : {X Y : Type 0} → Result (X × Y) Reason → X → X
left_over (Ok p) x = p.0
left_over (Err e) x = x

abbrev right : {X Y : Type 0} → Result (X × Y) Reason → Y → Y
right (Ok p) y = p.1
right (Err e) y = y

front_of : {X : Type 0} (ds : List Class) (f : Values ds → X) (front : List X) (n : ℕ) (ws : List (List ℕ)) (x : X) (after : List (List ℕ)) (r : Result (Values ds × List (List ℕ)) Reason)
    → reread ds f r ≡ Ok (x, after)
    → with_front front ((r >>= λ v. (groups ds n v.1 >>= λ vs. Ok (v.0 ∷ vs))) >>= λ vs. Ok (map f vs)) ≡ with_front (front ++ x ∷ []) (gather ds f n after)
front_of ds f front n ws x after (Ok v) e =
    let fst : f v.0 ≡ x = ap (λ r. left_over r x) e in
    let snd : v.1 ≡ after = ap (λ r. right r after) e in
    rw (← fst, ← snd) (one_group_more ds f front v.0 (groups ds n v.1))
front_of ds f front n ws x after (Err d) e = absurd (cc)

pub groups_go_on : {X : Type 0} (ds : List Class) (f : Values ds → X) (front : List X) (count i : ℕ) (ws : List (List ℕ)) (x : X) (after : List (List ℕ)) (total : Result (List X) Reason) → i < count → one_made ds f ws ≡ Ok (x, after)
    → with_front front (gather ds f (count - i) ws) ≡ total → with_front (front ++ x ∷ []) (gather ds f (count - (i + 1)) after) ≡ total
unfolding groups
groups_go_on ds f front count i ws x after total lt h so_far =
    let k : count - i ≡ suc (count - (i + 1)) = omega arith in
    let now : with_front front (gather ds f (suc (count - (i + 1))) ws) ≡ total = rw k at so_far in
    sym (front_of ds f front (count - (i + 1)) ws x after (fields ds ws) h) ∙ now

fails_at : {X : Type 0} (ds : List Class) (f : Values ds → X) (front : List X) (n : ℕ) (e : Reason) (r : Result (Values ds × List (List ℕ)) Reason)
    → reread ds f r ≡ Err e → with_front front ((r >>= λ v. (groups ds n v.1 >>= λ vs. Ok (v.0 ∷ vs))) >>= λ vs. Ok (map f vs)) ≡ Err e
fails_at ds f front n e (Ok v) h = absurd (cc)
fails_at ds f front n e (Err d) h = let same : d ≡ e = cc in rw same refl

pub groups_end : {X : Type 0} (ds : List Class) (f : Values ds → X) (e : LineError) (front : List X) (count i : ℕ) (ws : List (List ℕ)) (total : Result (List X) Reason) → i < count → Fails e (one_made ds f ws)
    → with_front front (gather ds f (count - i) ws) ≡ total → Fails e total
unfolding groups
groups_end ds f errors.NoMemory front count i ws total lt h so_far = tt
groups_end ds f (errors.Fault r) front count i ws total lt h so_far =
    let k : count - i ≡ suc (count - (i + 1)) = omega arith in
    let now : with_front front (gather ds f (suc (count - (i + 1))) ws) ≡ total = rw k at so_far in
    sym now ∙ fails_at ds f front (count - (i + 1)) r (fields ds ws) h

pub groups_done : {X : Type 0} (ds : List Class) (f : Values ds → X) (front : List X) (count i : ℕ) (ws : List (List ℕ)) (total : Result (List X) Reason) → count ≤ i → with_front front (gather ds f (count - i) ws) ≡ total → total ≡ Ok front
unfolding groups
groups_done ds f front count i ws total le so_far =
    let k : count - i ≡ 0 = omega arith in
    let now : with_front front (gather ds f 0 ws) ≡ total = rw k at so_far in
    sym now ∙ ap (λ xs. Ok xs) (append-nil front)

nothing_before : {X : Type 0} (read : Result (List X) Reason) → with_front [] read ≡ read
nothing_before (Ok xs) = refl
nothing_before (Err e) = refl

-- one group alone is the one that the first words make
pub is_one : {X : Type 0} (ds : List Class) (f : Values ds → X) (ws : List (List ℕ)) (x : X) (after : List (List ℕ)) → one_made ds f ws ≡ Ok (x, after) → gather ds f 1 ws ≡ Ok (x ∷ [])
is_one ds f ws x after h =
    let more = groups_go_on ds f [] 1 0 ws x after (gather ds f 1 ws) (omega arith) h (nothing_before (gather ds f 1 ws)) in
    groups_done ds f (x ∷ []) 1 1 after (gather ds f 1 ws) (omega arith) more

pub one_fails : {X : Type 0} (ds : List Class) (f : Values ds → X) (e : LineError) (ws : List (List ℕ)) → Fails e (one_made ds f ws) → Fails e (gather ds f 1 ws)
one_fails ds f e ws h = groups_end ds f e [] 1 0 ws (gather ds f 1 ws) (omega arith) h (nothing_before (gather ds f 1 ws))

pub rest_from : {X : Type 0} (ws : List X) (k : ℕ) → take (length ws - k) (drop k ws) ≡ drop k ws
rest_from ws k = take_all (length ws - k) (drop k ws) (simp length-drop (omega arith))

pub next_group : {X : Type 0} (ws : List X) (i : ℕ) → drop 3 (drop (3 * i) ws) ≡ drop (3 * (i + 1)) ws
next_group ws i = let k : 3 * i + 3 ≡ 3 * (i + 1) = omega arith in drop-drop 3 (3 * i) ws ∙ ap (λ n. drop n ws) k
