-- A call comes nearer to its end with each step over its nodes: an update, and a making.
use Rattle.std.proofs.Common.{◌≡◌, ◌⊎◌, inl, inr, ℕ, zero, suc, ◌+◌, ◌*◌, ◌<◌, ◌≤◌, List, [], ◌∷◌, length, Option, Some, None, is_some, Bool, true, false, cond, not, ◌&&◌, ◌==◌, refl, ap, ◌∙◌, arith}
use Rattle.std.specs.Prelude.{slice_index, slice_set}
use Rattle.std.proofs.lemmas.Bool.{eq-eqb, eqb-true, ne_eqb}
use Rattle.cluster_record.specs.declared.calls.UpdatePhase.{UpdatePhase}
use Rattle.cluster_record.specs.declared.calls.UpdatePhase.TheVariants.{Staging, Committing, Claiming, Claimed, Withdrawing, Resolving}
use Rattle.cluster_record.specs.Calls.{same_call}
use Rattle.cluster_record.specs.DueUpdate.{committing, free_phase}
use Rattle.cluster_record.specs.StepDone.{has, lacks, last_having, or_here}
use Rattle.ckpt_types.specs.declared.identities.CallId.{CallId}
use Rattle.ckpt_machine.specs.Left.{afresh, claiming_left, is_third, lacking, having, or_one, unless_afresh, update_left_by}
use Rattle.ckpt_machine.proofs.Actors.{same_call-refl}
use Rattle.ckpt_machine.proofs.NodeLists.{lacked-has, had-there, has-itself, has-none}

abbrev one_if : Bool → ℕ
one_if b = cond b 1 0

lacks-itself : (c : ℕ) → lacks c c ≡ false
lacks-itself c = (λ i. not (c == 0) && not (eq-eqb c c refl i)) ∙ by_test (not (c == 0))
  where
    by_test : (b : Bool) → (b && false) ≡ false
    by_test true = refl
    by_test false = refl

-- where it has one more it lacks one less
pub lacking-set : (cs os : List ℕ) (r : ℕ) → length os ≡ length cs → lacks (slice_index cs r) (slice_index os r) ≡ true → lacking cs (slice_set os r (slice_index cs r)) + 1 ≡ lacking cs os
lacking-set [] os r same is = absurd (cc is)
lacking-set (c ∷ cs) [] r same is = absurd (omega (arith, same))
lacking-set (c ∷ cs) (o ∷ os) zero same is = let a : one_if (lacks c c) ≡ 0 = ap one_if (lacks-itself c) in let b : one_if (lacks c o) ≡ 1 = ap one_if is in omega (arith, a, b)
lacking-set (c ∷ cs) (o ∷ os) (suc r) same is = let rest : lacking cs (slice_set os r (slice_index cs r)) + 1 ≡ lacking cs os = lacking-set cs os r (omega (arith, same)) is in omega (arith, rest)

-- no more are lacked than there are
pub lacking-few : (cs os : List ℕ) → lacking cs os ≤ length cs
lacking-few [] os = omega arith
lacking-few (c ∷ cs) [] = omega arith
lacking-few (c ∷ cs) (o ∷ os) = let rest = lacking-few cs os in let one = one_at_most (lacks c o) in omega (arith, rest, one)
  where
    one_at_most : (b : Bool) → one_if b ≤ 1
    one_at_most true = omega arith
    one_at_most false = omega arith

pub having-staged : (cs os : List ℕ) (r : ℕ) → length os ≡ length cs → lacks (slice_index cs r) (slice_index os r) ≡ true → having cs (slice_set os r (slice_index cs r)) ≡ having cs os + 1
having-staged [] os r same is = absurd (cc is)
having-staged (c ∷ cs) [] r same is = absurd (omega (arith, same))
having-staged (c ∷ cs) (o ∷ os) zero same is = let parts = lacked-has c o is in let a : one_if (has c c) ≡ 1 = ap one_if (has-itself c parts.0) in let b : one_if (has c o) ≡ 0 = ap one_if parts.1 in omega (arith, a, b)
having-staged (c ∷ cs) (o ∷ os) (suc r) same is = let rest : having cs (slice_set os r (slice_index cs r)) ≡ having cs os + 1 = having-staged cs os r (omega (arith, same)) is in omega (arith, rest)

pub having-committed : (cs os : List ℕ) (r : ℕ) → length os ≡ length cs → has (slice_index cs r) (slice_index os r) ≡ true → having cs (slice_set os r 0) + 1 ≡ having cs os
having-committed [] os r same is = absurd (cc is)
having-committed (c ∷ cs) [] r same is = absurd (omega (arith, same))
having-committed (c ∷ cs) (o ∷ os) zero same is = let a : one_if (has c 0) ≡ 0 = ap one_if (has-none c (had-there c o is)) in let b : one_if (has c o) ≡ 1 = ap one_if is in omega (arith, a, b)
having-committed (c ∷ cs) (o ∷ os) (suc r) same is = let rest : having cs (slice_set os r 0) + 1 ≡ having cs os = having-committed cs os r (omega (arith, same)) is in omega (arith, rest)

-- a number that is not zero is at least one
pub positive : (n : ℕ) → (n == 0) ≡ false → 1 ≤ n
positive zero is = absurd (cc is)
positive (suc n) is = omega arith

-- what it has it does not lack
lacks-had : (c o : ℕ) → has c o ≡ true → lacks c o ≡ false
lacks-had c o is = by_tests (c == 0) (c == o) is
  where
    by_tests : (a b : Bool) → (not a && b) ≡ true → (not a && not b) ≡ false
    by_tests true b is = refl
    by_tests false true is = refl
    by_tests false false is = absurd (cc is)

-- of a node that it has there is one
pub having-some : (cs os : List ℕ) (r : ℕ) → length os ≡ length cs → has (slice_index cs r) (slice_index os r) ≡ true → 1 ≤ having cs os
having-some cs os r same is = let fewer : having cs (slice_set os r 0) + 1 ≡ having cs os = having-committed cs os r same is in omega (arith, fewer)

-- where it has none, none is found
pub having-none : (n : ℕ) (cs os : List ℕ) → length os ≡ length cs → last_having n cs os ≡ None → having cs os ≡ 0
having-none n [] os same none = refl
having-none n (c ∷ cs) [] same none = refl
having-none n (c ∷ cs) (o ∷ os) same none = by_rest (last_having (n + 1) cs os) refl none (λ is. having-none (n + 1) cs os (omega (arith, same)) is)
  where
    by_here : (b : Bool) → has c o ≡ b → cond b (Some n) None ≡ None → having cs os ≡ 0 → one_if (has c o) + having cs os ≡ 0
    by_here true is gone rest = absurd (cc gone)
    by_here false is gone rest = let a : one_if (has c o) ≡ 0 = ap one_if is in omega (arith, a, rest)

    by_rest : (l : Option ℕ) → last_having (n + 1) cs os ≡ l → or_here l (has c o) n ≡ None → (last_having (n + 1) cs os ≡ None → having cs os ≡ 0) → one_if (has c o) + having cs os ≡ 0
    by_rest None is gone rest = by_here (has c o) refl gone (rest is)
    by_rest (Some p) is gone rest = absurd (cc gone)

-- ---- an update

-- where some steps are left, they are so many
pub or_one-some : (n : ℕ) → 1 ≤ n → or_one n ≡ n
or_one-some n some = ap (λ b. cond b 1 n) (ne_eqb n 0 (λ same. let none : n ≡ 0 = same in omega (arith, some, none)))

afresh-some : (nodes : ℕ) (stands : Bool) → 1 ≤ nodes → 1 ≤ afresh nodes stands
afresh-some nodes true some = omega arith
afresh-some nodes false some = omega (arith, some)

-- one that has some of its nodes is not afresh
pub not_afresh : (had nodes steps : ℕ) (stands : Bool) → 1 ≤ had → 1 ≤ steps → or_one (unless_afresh had nodes stands steps) ≡ steps
not_afresh had nodes steps stands some left = ap (λ b. or_one (cond b (afresh nodes stands) steps)) (ne_eqb had 0 (λ same. let none : had ≡ 0 = same in omega (arith, some, none))) ∙ or_one-some steps left

-- one that has none is
pub is_afresh : (had nodes steps : ℕ) (stands : Bool) → had ≡ 0 → 1 ≤ nodes → or_one (unless_afresh had nodes stands steps) ≡ afresh nodes stands
is_afresh had nodes steps stands none some = ap (λ b. or_one (cond b (afresh nodes stands) steps)) (eq-eqb had 0 none) ∙ or_one-some (afresh nodes stands) (afresh-some nodes stands some)

third_few : (b : Bool) → one_if b ≤ 1
third_few true = omega arith
third_few false = omega arith

-- of one that claims so many are left, the more the more it lacks
claiming_less : (a b c d : ℕ) (s t : Bool) → a + 1 ≡ c → b ≡ d + 1 → claiming_left a b s < claiming_left c d t
claiming_less a b c d s t lacked had = let few = third_few s in omega (arith, few, lacked, had)

-- and some, where there is a node
claiming-some : (l h : ℕ) (third : Bool) → 1 ≤ l + h → 1 ≤ claiming_left l h third
claiming-some l h third some = omega (arith, some)

-- the first stage, of one that has no slot
pub first_stage_nearer : (l h l2 h2 : ℕ) (o : CallId) (met : Option CallId) (before : ℕ) → before ≡ afresh l false → l2 + 1 ≡ l → h ≡ 0 → h2 ≡ h + 1 → update_left_by l2 h2 o met Staging < before
first_stage_nearer l h l2 h2 o met before is lacked none had =
    let a : update_left_by l2 h2 o met Staging ≡ 2 * l2 + h2 = not_afresh h2 l2 (2 * l2 + h2) (is_some met) (omega (arith, had)) (omega (arith, had)) in
    omega (arith, a, is, lacked, none, had)

-- a later one
pub later_stage_nearer : (l h l2 h2 : ℕ) (o p : CallId) (met met2 : Option CallId) (before : ℕ) → before ≡ update_left_by l h p met Staging → 1 ≤ h → l2 + 1 ≡ l → h2 ≡ h + 1 → update_left_by l2 h2 o met2 Staging < before
later_stage_nearer l h l2 h2 o p met met2 before is some lacked had =
    let a : update_left_by l2 h2 o met2 Staging ≡ 2 * l2 + h2 = not_afresh h2 l2 (2 * l2 + h2) (is_some met2) (omega (arith, had)) (omega (arith, had)) in
    let b : update_left_by l h p met Staging ≡ 2 * l + h = not_afresh h l (2 * l + h) (is_some met) some (omega (arith, some)) in
    omega (arith, a, b, is, lacked, had)

-- what is left of one that has claimed some, or is to claim
pub claims_left : (l h : ℕ) (o : CallId) (met : Option CallId) (ph : UpdatePhase) → 1 ≤ l + h → ((ph ≡ Claimed) × (1 ≤ h)) ⊎ (ph ≡ Claiming) → update_left_by l h o met ph ≡ claiming_left l h (is_third o met)
claims_left l h o met ph some (inl it) = ap (update_left_by l h o met) it.0 ∙ not_afresh h l (claiming_left l h (is_third o met)) (is_some met) it.1 (claiming-some l h (is_third o met) some)
claims_left l h o met ph some (inr it) = ap (update_left_by l h o met) it ∙ or_one-some (claiming_left l h (is_third o met)) (claiming-some l h (is_third o met) some)

-- a stage that meets the slot of a dead call
pub met_nearer : (l h : ℕ) (d : CallId) (before : ℕ) → before ≡ afresh l true → 1 ≤ l → h ≡ 0 → update_left_by l h d (Some d) Claiming < before
met_nearer l h d before is lacked none =
    let a : one_if (is_third d (Some d)) ≡ 0 = ap (λ b. one_if (not b)) (same_call-refl d) in
    let b : update_left_by l h d (Some d) Claiming ≡ claiming_left l h (is_third d (Some d)) = claims_left l h d (Some d) Claiming (omega (arith, lacked)) (inr refl) in
    omega (arith, a, b, is, none)

-- a claim
pub claim_nearer : (l h l2 h2 : ℕ) (o : CallId) (met met2 : Option CallId) (before : ℕ) → before ≡ claiming_left l h (is_third o met) → l2 + 1 ≡ l → h2 ≡ h + 1 → update_left_by l2 h2 o met2 Claimed < before
claim_nearer l h l2 h2 o met met2 before is lacked had =
    let a : update_left_by l2 h2 o met2 Claimed ≡ claiming_left l2 h2 (is_third o met2) = claims_left l2 h2 o met2 Claimed (omega (arith, had)) (inl (refl, omega (arith, had))) in
    let less : claiming_left l2 h2 (is_third o met2) < claiming_left l h (is_third o met) = claiming_less l2 h2 l h (is_third o met2) (is_third o met) lacked had in
    omega (arith, a, is, less)

-- a claim that meets a third call's slot
pub third_nearer : (l h : ℕ) (o d : CallId) (before after : ℕ) → same_call d o ≡ false → before ≡ claiming_left l h (is_third o (Some d)) → after ≡ claiming_left l h (is_third d (Some d)) → after < before
third_nearer l h o d before after other is then_is =
    let a : one_if (is_third o (Some d)) ≡ 1 = ap (λ b. one_if (not b)) other in
    let b : one_if (is_third d (Some d)) ≡ 0 = ap (λ b. one_if (not b)) (same_call-refl d) in
    omega (arith, a, b, is, then_is)

-- a claim that finds no slot, where some were claimed
pub settled_nearer : (l h : ℕ) (o : CallId) (met : Option CallId) (before : ℕ) (b : Bool) → before ≡ claiming_left l h (is_third o met) → 1 ≤ l → 1 ≤ h → update_left_by l h o met (free_phase Claimed b) < before
settled_nearer l h o met before true is lacked had =
    let a : or_one (unless_afresh h l (is_some met) (h + 2 * (l + h))) ≡ h + 2 * (l + h) = not_afresh h l (h + 2 * (l + h)) (is_some met) had (omega (arith, had)) in
    omega (arith, a, is, lacked)
settled_nearer l h o met before false is lacked had =
    let a : or_one (unless_afresh h l (is_some met) (h + 2 * (l + h))) ≡ h + 2 * (l + h) = not_afresh h l (h + 2 * (l + h)) (is_some met) had (omega (arith, had)) in
    omega (arith, a, is, lacked)

-- and where none was
pub freed_nearer : (l h : ℕ) (o : CallId) (before : ℕ) → before ≡ claiming_left l h (is_third o None) → 1 ≤ l → h ≡ 0 → update_left_by l h o None Staging < before
freed_nearer l h o before is lacked none =
    let a : update_left_by l h o None Staging ≡ 2 * l = is_afresh h l (2 * l + h) false none lacked in
    omega (arith, a, is, lacked)

-- it commits what it has claimed, or withdraws it
abbrev pub Settles : UpdatePhase → Type 0
Settles ph = (ph ≡ Withdrawing) ⊎ (ph ≡ Resolving)

settles_left : (l h : ℕ) (o : CallId) (met : Option CallId) (ph : UpdatePhase) → Settles ph → update_left_by l h o met ph ≡ or_one (unless_afresh h l (is_some met) (h + 2 * (l + h)))
settles_left l h o met ph (inl it) = ap (update_left_by l h o met) it
settles_left l h o met ph (inr it) = ap (update_left_by l h o met) it

-- so many are left at least, and more where it has yet to do so
pub settling_left : (l h : ℕ) (o : CallId) (met : Option CallId) (ph : UpdatePhase) → Settles ph ⊎ (ph ≡ Claimed) → 1 ≤ h → h + 2 * (l + h) ≤ update_left_by l h o met ph
settling_left l h o met ph (inl it) had =
    let a : update_left_by l h o met ph ≡ h + 2 * (l + h) = settles_left l h o met ph it ∙ not_afresh h l (h + 2 * (l + h)) (is_some met) had (omega (arith, had)) in
    omega (arith, a)
settling_left l h o met ph (inr it) had =
    let a : update_left_by l h o met ph ≡ claiming_left l h (is_third o met) = claims_left l h o met ph (omega (arith, had)) (inl (it, had)) in
    omega (arith, a)

-- one slot fewer, where no slot stands when none is left
pub let_go_nearer : (l h l2 h2 : ℕ) (o p : CallId) (met met2 : Option CallId) (ph ph2 : UpdatePhase) → Settles ph2 → Settles ph ⊎ (ph ≡ Claimed) → l2 ≡ l + 1 → h2 + 1 ≡ h → (h2 ≡ 0 → met2 ≡ None) → update_left_by l2 h2 p met2 ph2 < update_left_by l h o met ph
let_go_nearer l h l2 h2 o p met met2 ph ph2 then_settles settles lacked had none = by_left (h2 == 0) refl
  where
    before : h + 2 * (l + h) ≤ update_left_by l h o met ph
    before = settling_left l h o met ph settles (omega (arith, had))

    by_left : (b : Bool) → (h2 == 0) ≡ b → update_left_by l2 h2 p met2 ph2 < update_left_by l h o met ph
    by_left true is =
        let gone : h2 ≡ 0 = eqb-true h2 0 is in
        let a : update_left_by l2 h2 p met2 ph2 ≡ 2 * l2 = settles_left l2 h2 p met2 ph2 then_settles ∙ is_afresh h2 l2 (h2 + 2 * (l2 + h2)) (is_some met2) gone (omega (arith, lacked)) ∙ ap (λ x. afresh l2 (is_some x)) (none gone) in
        omega (arith, a, before, lacked, had, gone)
    by_left false is =
        let some : 1 ≤ h2 = positive h2 is in
        let a : update_left_by l2 h2 p met2 ph2 ≡ h2 + 2 * (l2 + h2) = settles_left l2 h2 p met2 ph2 then_settles ∙ not_afresh h2 l2 (h2 + 2 * (l2 + h2)) (is_some met2) some (omega (arith, some)) in
        omega (arith, a, before, lacked, had)

-- a commit of its own update that leaves it some
pub commit_nearer : (l h h2 l2 : ℕ) (o p : CallId) (met met2 : Option CallId) (ph : UpdatePhase) → committing ph ≡ Committing → h2 + 1 ≡ h → 1 ≤ h2 → update_left_by l2 h2 p met2 Committing < update_left_by l h o met ph
commit_nearer l h h2 l2 o p met met2 Staging is had some =
    let a : update_left_by l h o met Staging ≡ 2 * l + h = not_afresh h l (2 * l + h) (is_some met) (omega (arith, had)) (omega (arith, had)) in
    let b : or_one h2 ≡ h2 = or_one-some h2 some in
    omega (arith, a, b, had)
commit_nearer l h h2 l2 o p met met2 Committing is had some =
    let a : or_one h ≡ h = or_one-some h (omega (arith, had)) in
    let b : or_one h2 ≡ h2 = or_one-some h2 some in
    omega (arith, a, b, had)
commit_nearer l h h2 l2 o p met met2 Claiming is had some = absurd (cc is)
commit_nearer l h h2 l2 o p met met2 Claimed is had some = absurd (cc is)
commit_nearer l h h2 l2 o p met met2 Withdrawing is had some = absurd (cc is)
commit_nearer l h h2 l2 o p met met2 Resolving is had some = absurd (cc is)

-- where it lacks one more
pub lacking-gone : (cs os : List ℕ) (r : ℕ) → length os ≡ length cs → has (slice_index cs r) (slice_index os r) ≡ true → lacking cs (slice_set os r 0) ≡ lacking cs os + 1
lacking-gone [] os r same is = absurd (cc is)
lacking-gone (c ∷ cs) [] r same is = absurd (omega (arith, same))
lacking-gone (c ∷ cs) (o ∷ os) zero same is =
    let there = had-there c o is in
    let a : one_if (lacks c 0) ≡ 1 = ap one_if (ap (λ b. not b && not b) there) in
    let b : one_if (lacks c o) ≡ 0 = ap one_if (lacks-had c o is) in
    omega (arith, a, b)
lacking-gone (c ∷ cs) (o ∷ os) (suc r) same is = let rest : lacking cs (slice_set os r 0) ≡ lacking cs os + 1 = lacking-gone cs os r (omega (arith, same)) is in omega (arith, rest)

-- it stages where it has no slot
abbrev pub Stages : UpdatePhase → Type 0
Stages ph = (ph ≡ Staging) ⊎ ((ph ≡ Claimed) ⊎ Settles ph)

pub afresh_left : (l h : ℕ) (o : CallId) (met : Option CallId) (ph : UpdatePhase) → Stages ph → 1 ≤ l → h ≡ 0 → update_left_by l h o met ph ≡ afresh l (is_some met)
afresh_left l h o met ph (inl it) some none = ap (update_left_by l h o met) it ∙ is_afresh h l (2 * l + h) (is_some met) none some
afresh_left l h o met ph (inr (inl it)) some none = ap (update_left_by l h o met) it ∙ is_afresh h l (claiming_left l h (is_third o met)) (is_some met) none some
afresh_left l h o met ph (inr (inr it)) some none = settles_left l h o met ph it ∙ is_afresh h l (h + 2 * (l + h)) (is_some met) none some
