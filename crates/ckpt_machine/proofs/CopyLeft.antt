-- How many checkpoints a node lacks, with one of them left aside, and by what that changes.
use Rattle.std.proofs.Common.{◌≡◌, ℕ, suc, ◌+◌, ◌≤◌, ◌<◌, ◌==◌, Bool, true, false, cond, not, ◌&&◌, List, [], ◌∷◌, length, refl, sym, ap, subst, ◌∙◌, arith}
use Rattle.std.specs.Prelude.{Option, Some, None, find}
use Rattle.std.proofs.lemmas.Bool.{eq-eqb, eqb-true, ne_eqb}
use Rattle.std.proofs.lemmas.Option.{same_Some}
use Rattle.cluster_record.specs.declared.entries.Entry.{Entry}
use Rattle.cluster_record.specs.DueCopy.{lacks_replica, next_to_copy}
use Rattle.cluster_record.specs.Identities.{AllAbove, IdentitiesRise}
use Rattle.cluster_record.specs.LookUps.{identity_in}
use Rattle.cluster_record.specs.Places.{change_key}
use Rattle.cluster_record.specs.RecordState.{entry_of, identity_of}
use Rattle.cluster_record.proofs.IdentityLaws.{KeepsIdentity, entry_of-find}
use Rattle.ckpt_machine.specs.Left.{lacked_besides}
use Rattle.ckpt_machine.proofs.OwnMaking.{found_passes}

abbrev one_if : Bool → ℕ
one_if b = cond b 1 0

-- the node lacks what is found
abbrev pub lacked_at : ℕ → Option Entry → Bool
lacked_at r None = false
lacked_at r (Some e) = lacks_replica r e

-- one with this identity is left aside, and another is not
aside : (r k : ℕ) (e : Entry) → e.identity ≡ k → one_if (lacks_replica r e && not (k == e.identity)) ≡ 0
aside r k e same = ap (λ b. one_if (lacks_replica r e && not b)) (eq-eqb k e.identity (sym same)) ∙ by_test (lacks_replica r e)
  where
    by_test : (b : Bool) → one_if (b && false) ≡ 0
    by_test true = refl
    by_test false = refl

counted : (r : ℕ) (e : Entry) → one_if (lacks_replica r e && true) ≡ one_if (lacks_replica r e)
counted r e = by_test (lacks_replica r e)
  where
    by_test : (b : Bool) → one_if (b && true) ≡ one_if b
    by_test true = refl
    by_test false = refl

not_aside : (r k : ℕ) (e : Entry) → (k ≡ e.identity → ⊥) → one_if (lacks_replica r e && not (k == e.identity)) ≡ one_if (lacks_replica r e)
not_aside r k e other = ap (λ b. one_if (lacks_replica r e && not b)) (ne_eqb k e.identity other) ∙ counted r e

-- where all are above it, none is left aside
lacked_above : (r k : ℕ) (es : List Entry) → AllAbove k es → lacked_besides r (Some k) es ≡ lacked_besides r None es
lacked_above r k [] above = refl
lacked_above r k (e ∷ es) above =
    let below : k < e.identity = above.0 in
    let head : one_if (lacks_replica r e && not (k == e.identity)) ≡ one_if (lacks_replica r e && true) = not_aside r k e (λ same. omega (arith, below, same)) ∙ sym (counted r e) in
    let rest : lacked_besides r (Some k) es ≡ lacked_besides r None es = lacked_above r k es above.1 in
    omega (arith, head, rest)

-- beside one that it lacks there is one fewer, and beside another there are all
pub besides_is : (r k : ℕ) (es : List Entry) → IdentitiesRise es → lacked_besides r None es ≡ lacked_besides r (Some k) es + cond (lacked_at r (entry_of k es)) 1 0
besides_is r k [] rises = refl
besides_is r k (e ∷ es) rises = elim (e.identity == k) as (λ b. (e.identity == k) ≡ b → lacked_besides r None (e ∷ es) ≡ lacked_besides r (Some k) (e ∷ es) + one_if (lacked_at r (cond b (Some e) (entry_of k es)))) [
  | true ↦ λ here.
      let same : e.identity ≡ k = eqb-true e.identity k here in
      let all : one_if (lacks_replica r e && true) ≡ one_if (lacks_replica r e) = counted r e in
      let none : one_if (lacks_replica r e && not (k == e.identity)) ≡ 0 = aside r k e same in
      let rest : lacked_besides r (Some k) es ≡ lacked_besides r None es = lacked_above r k es (subst (λ n. AllAbove n es) same rises.0) in
      omega (arith, all, none, rest)
  | false ↦ λ apart.
      let all : one_if (lacks_replica r e && true) ≡ one_if (lacks_replica r e) = counted r e in
      let own : one_if (lacks_replica r e && not (k == e.identity)) ≡ one_if (lacks_replica r e) = not_aside r k e (λ same. (let clash : true ≡ false = sym (eq-eqb e.identity k (sym same)) ∙ apart in cc clash)) in
      let rest : lacked_besides r None es ≡ lacked_besides r (Some k) es + one_if (lacked_at r (entry_of k es)) = besides_is r k es rises.1 in
      omega (arith, all, own, rest)
] refl

pub besides_lacked : (r k : ℕ) (es : List Entry) → IdentitiesRise es → lacked_at r (entry_of k es) ≡ true → lacked_besides r None es ≡ lacked_besides r (Some k) es + 1
besides_lacked r k es rises lacked = besides_is r k es rises ∙ ap (λ b. lacked_besides r (Some k) es + one_if b) lacked

pub besides_had : (r k : ℕ) (es : List Entry) → IdentitiesRise es → lacked_at r (entry_of k es) ≡ false → lacked_besides r None es ≡ lacked_besides r (Some k) es
besides_had r k es rises had =
    let is : lacked_besides r None es ≡ lacked_besides r (Some k) es + 0 = besides_is r k es rises ∙ ap (λ b. lacked_besides r (Some k) es + one_if b) had in
    omega (arith, is)

-- the node lacks the next that is to be copied
pub next_lacked : (r k : ℕ) (es : List Entry) → IdentitiesRise es → next_to_copy r es ≡ Some k → lacked_at r (entry_of k es) ≡ true
next_lacked r k es rises next = by_first (find (lacks_replica r) es) refl next
  where
    by_first : (o : Option Entry) → find (lacks_replica r) es ≡ o → identity_in o ≡ Some k → lacked_at r (entry_of k es) ≡ true
    by_first None none is = absurd (cc is)
    by_first (Some e) first is =
        let identity : e.identity ≡ k = same_Some e.identity k is in
        ap (lacked_at r) (ap (λ j. entry_of j es) (sym identity) ∙ entry_of-find (lacks_replica r) es e rises first) ∙ found_passes (lacks_replica r) es e first

-- so there is one then
pub some_lacked : (r k : ℕ) (es : List Entry) → IdentitiesRise es → next_to_copy r es ≡ Some k → 1 ≤ lacked_besides r None es
some_lacked r k es rises next = let is : lacked_besides r None es ≡ lacked_besides r (Some k) es + 1 = besides_lacked r k es rises (next_lacked r k es rises next) in omega (arith, is)

-- ---- how many there are at most

one_at_most : (b : Bool) → one_if b ≤ 1
one_at_most true = omega arith
one_at_most false = omega arith

pub lacked_few : (r : ℕ) (o : Option ℕ) (es : List Entry) → lacked_besides r o es ≤ length es
lacked_few r o [] = omega arith
lacked_few r None (e ∷ es) = let one = one_at_most (lacks_replica r e && true) in let rest : lacked_besides r None es ≤ length es = lacked_few r None es in omega (arith, one, rest)
lacked_few r (Some k) (e ∷ es) = let one = one_at_most (lacks_replica r e && not (k == e.identity)) in let rest : lacked_besides r (Some k) es ≤ length es = lacked_few r (Some k) es in omega (arith, one, rest)

-- and fewer beside one that is there
pub lacked_fewer : (r k : ℕ) (es : List Entry) (e : Entry) → entry_of k es ≡ Some e → lacked_besides r (Some k) es + 1 ≤ length es
lacked_fewer r k [] e there = absurd (cc there)
lacked_fewer r k (x ∷ xs) e there = elim (x.identity == k) as (λ b. (x.identity == k) ≡ b → cond b (Some x) (entry_of k xs) ≡ Some e → lacked_besides r (Some k) (x ∷ xs) + 1 ≤ suc (length xs)) [
  | true ↦ λ here found.
      let none : one_if (lacks_replica r x && not (k == x.identity)) ≡ 0 = aside r k x (eqb-true x.identity k here) in
      let rest : lacked_besides r (Some k) xs ≤ length xs = lacked_few r (Some k) xs in
      omega (arith, none, rest)
  | false ↦ λ other found.
      let one = one_at_most (lacks_replica r x && not (k == x.identity)) in
      let rest : lacked_besides r (Some k) xs + 1 ≤ length xs = lacked_fewer r k xs e found in
      omega (arith, one, rest)
] refl there

-- ---- where one entry is changed

-- beside the one that is changed there are as many
pub besides_changed : (r k : ℕ) (f : Entry → Entry) → KeepsIdentity f → (es : List Entry) → lacked_besides r (Some k) (change_key identity_of k f es) ≡ lacked_besides r (Some k) es
besides_changed r k f same [] = refl
besides_changed r k f same (e ∷ es) = elim (e.identity == k) as (λ b. (e.identity == k) ≡ b → lacked_besides r (Some k) (cond b (f e ∷ es) (e ∷ change_key identity_of k f es)) ≡ lacked_besides r (Some k) (e ∷ es)) [
  | true ↦ λ here.
      let before : one_if (lacks_replica r e && not (k == e.identity)) ≡ 0 = aside r k e (eqb-true e.identity k here) in
      let behind : one_if (lacks_replica r (f e) && not (k == (f e).identity)) ≡ 0 = aside r k (f e) (same e ∙ eqb-true e.identity k here) in
      omega (arith, before, behind)
  | false ↦ λ other.
      let rest : lacked_besides r (Some k) (change_key identity_of k f es) ≡ lacked_besides r (Some k) es = besides_changed r k f same es in
      omega (arith, rest)
] refl
