-- The counts that the failure of a node is told: one of each complete replica, which has as many effects.
use Rattle.std.proofs.Common.{◌≡◌, inl, inr, ℕ, ◌+◌, ◌<◌, ◌≤◌, ◌==◌, zero, suc, Bool, true, false, cond, List, [], ◌∷◌, ◌++◌, length, drop, filter, refl, sym, ap, ◌∙◌, arith}
use Rattle.std.specs.Prelude.{Option, Some, None, Contains, ◌&&◌, slice_get, slice_index}
use Rattle.std.proofs.lemmas.Bool.{eqb-true, eq-eqb, ne_eqb}
use Rattle.std.proofs.lemmas.Option.{same_Some}
use Rattle.ckpt_types.specs.declared.identities.CallId.{CallId}
use Rattle.cluster_record.specs.Counts.{count_told, tells_of}
use Rattle.cluster_record.specs.Failing.{TellsOthers}
use Rattle.cluster_record.specs.Identities.{IdentitiesRise}
use Rattle.cluster_record.specs.RecordState.{RecordState, entry_of, complete_of}
use Rattle.cluster_record.specs.declared.counts.UpdateCount.{UpdateCount}
use Rattle.cluster_record.specs.declared.entries.Entry.{Entry}
use Rattle.cluster_record.proofs.IdentityLaws.{none_at}
use Rattle.replica.specs.Replicas.{Replica}
use Rattle.ckpt_machine.specs.CountsTold.{count_kept, counts_from, counts_of}
use Rattle.ckpt_machine.specs.Due.{count_in}
use Rattle.ckpt_machine.specs.Machine.{Effect}
use Rattle.ckpt_machine.specs.Nodes.{replica_in}
use Rattle.ckpt_machine.specs.Shown.{FitsReplica, complete_replica, shown_replica}
use Rattle.ckpt_machine.proofs.GoesAt.{zero_there, test_zero}
use Rattle.node_core.proofs.OnceByKey.{Contains-cases}

-- the first of some counts
abbrev first_of : List UpdateCount → ℕ
first_of [] = 0
first_of (told ∷ more) = told.count

-- what is told is the first of those that tell it
told_first : (told : List UpdateCount) (k q : ℕ) → count_told told k q ≡ first_of (filter (tells_of k q) told)
told_first [] k q = refl
told_first (t ∷ told) k q = elim (tells_of k q t) as (λ b. cond b t.count (count_told told k q) ≡ first_of (cond b (t ∷ filter (tells_of k q) told) (filter (tells_of k q) told))) [ true ↦ refl | false ↦ told_first told k q ]

module _ (nodes : List (List Replica)) where
  -- the count of a checkpoint on a node
  abbrev pub one : ℕ → ℕ → UpdateCount
  one k n = record { ckpt = k; node = n; count = count_kept (replica_in nodes k n) }

  -- those of another checkpoint tell nothing of one
  told_other : (k j q : ℕ) → (k == j) ≡ false → (n : ℕ) (cs : List ℕ) (rest : List UpdateCount) → filter (tells_of j q) (counts_from nodes k n cs ++ rest) ≡ filter (tells_of j q) rest
  told_other k j q other n [] rest = refl
  told_other k j q other n (c ∷ cs) rest =
      let more = counts_from nodes k (n + 1) cs in
      elim (c == 0) as (λ b. filter (tells_of j q) (cond b more (one k n ∷ more) ++ rest) ≡ filter (tells_of j q) rest) [
        | true ↦ told_other k j q other (n + 1) cs rest
        | false ↦ ap (λ b. cond (b && (n == q)) (one k n ∷ filter (tells_of j q) (more ++ rest)) (filter (tells_of j q) (more ++ rest))) other ∙ told_other k j q other (n + 1) cs rest
      ]

  module _ (k q : ℕ) where
    -- one of its own tells of its node alone
    tells_own : (n : ℕ) (b : Bool) → (n == q) ≡ b → tells_of k q (one k n) ≡ b
    tells_own n b is = (λ i. eq-eqb k k refl i && is i)

    -- those of the nodes behind one tell nothing of it
    told_behind : (n : ℕ) → q < n → (cs : List ℕ) (rest : List UpdateCount) → filter (tells_of k q) (counts_from nodes k n cs ++ rest) ≡ filter (tells_of k q) rest
    told_behind n behind [] rest = refl
    told_behind n behind (c ∷ cs) rest =
        let more = counts_from nodes k (n + 1) cs in
        let further = told_behind (n + 1) (omega (arith, behind)) cs rest in
        elim (c == 0) as (λ b. filter (tells_of k q) (cond b more (one k n ∷ more) ++ rest) ≡ filter (tells_of k q) rest) [
          | true ↦ further
          | false ↦ ap (λ b. cond b (one k n ∷ filter (tells_of k q) (more ++ rest)) (filter (tells_of k q) (more ++ rest))) (tells_own n false (ne_eqb n q (λ same. omega (arith, same, behind)))) ∙ further
        ]

    -- and of those from a node on just one does, where it is complete
    told_own : (i n : ℕ) → q ≡ i + n → (cs : List ℕ) (rest : List UpdateCount) → filter (tells_of k q) (counts_from nodes k n cs ++ rest) ≡ cond (slice_index cs i == 0) (filter (tells_of k q) rest) (one k q ∷ filter (tells_of k q) rest)
    told_own i n at [] rest = refl
    told_own zero n at (c ∷ cs) rest =
        let here : q ≡ n = omega (arith, at) in
        let more = counts_from nodes k (n + 1) cs in
        let none = told_behind (n + 1) (omega (arith, at)) cs rest in
        elim (c == 0) as (λ b. filter (tells_of k q) (cond b more (one k n ∷ more) ++ rest) ≡ cond b (filter (tells_of k q) rest) (one k q ∷ filter (tells_of k q) rest)) [
          | true ↦ none
          | false ↦ ap (λ b. cond b (one k n ∷ filter (tells_of k q) (more ++ rest)) (filter (tells_of k q) (more ++ rest))) (tells_own n true (eq-eqb n q (sym here))) ∙ (λ i. one k (sym here i) ∷ none i)
        ]
    told_own (suc i) n at (c ∷ cs) rest =
        let more = counts_from nodes k (n + 1) cs in
        let further = told_own i (n + 1) (omega (arith, at)) cs rest in
        elim (c == 0) as (λ b. filter (tells_of k q) (cond b more (one k n ∷ more) ++ rest) ≡ cond (slice_index cs i == 0) (filter (tells_of k q) rest) (one k q ∷ filter (tells_of k q) rest)) [
          | true ↦ further
          | false ↦ ap (λ b. cond b (one k n ∷ filter (tells_of k q) (more ++ rest)) (filter (tells_of k q) (more ++ rest))) (tells_own n false (ne_eqb n q (λ same. omega (arith, same, at)))) ∙ further
        ]

    -- so of all entries
    told_of : (es : List Entry) → IdentitiesRise es → filter (tells_of k q) (counts_of nodes es) ≡ cond (slice_index (complete_of (entry_of k es)) q == 0) [] (one k q ∷ [])
    told_of [] rises = sym (ap (λ b. cond b [] (one k q ∷ [])) (test_zero (slice_index (complete_of None) q) (zero_there q)))
    told_of (e ∷ es) rises =
        elim (e.identity == k) as (λ b. (e.identity == k) ≡ b → filter (tells_of k q) (counts_of nodes (e ∷ es)) ≡ cond (slice_index (complete_of (cond b (Some e) (entry_of k es))) q == 0) [] (one k q ∷ [])) [
          | true ↦ λ is.
              let none : entry_of k es ≡ None = none_at e.identity k es rises.0 (eqb-true e.identity k is) in
              let rest : filter (tells_of k q) (counts_of nodes es) ≡ [] = told_of es rises.1 ∙ ap (λ o. cond (slice_index (complete_of o) q == 0) [] (one k q ∷ [])) none ∙ ap (λ b. cond b [] (one k q ∷ [])) (test_zero (slice_index (complete_of None) q) (zero_there q)) in
              ap (λ j. filter (tells_of k q) (counts_from nodes j 0 e.complete ++ counts_of nodes es)) (eqb-true e.identity k is)
              ∙ told_own q 0 (omega arith) e.complete (counts_of nodes es)
              ∙ ap (λ xs. cond (slice_index e.complete q == 0) xs (one k q ∷ xs)) rest
          | false ↦ λ apart. told_other e.identity k q apart 0 e.complete (counts_of nodes es) ∙ told_of es rises.1
        ] refl

  -- what is told is what each complete replica counts
  pub count_is : (R : RecordState) → IdentitiesRise R.entries → (E : ℕ → ℕ → List Effect) (o : ℕ → ℕ → CallId) → ((k q : ℕ) → FitsReplica k (entry_of k R.entries) (E k q) (complete_replica R nodes k q)) → (k q : ℕ) → count_told (counts_of nodes R.entries) k q ≡ count_in (shown_replica (E k q) (o k q) (complete_replica R nodes k q))
  count_is R rises E o fits k q =
      told_first (counts_of nodes R.entries) k q ∙ ap first_of (told_of k q R.entries rises)
      ∙ by_complete (slice_index (complete_of (entry_of k R.entries)) q == 0)
      ∙ by_replica (complete_replica R nodes k q) (fits k q)
    where
      by_complete : (b : Bool) → first_of (cond b [] (one k q ∷ [])) ≡ count_kept (cond b None (replica_in nodes k q))
      by_complete true = refl
      by_complete false = refl

      by_replica : (y : Option Replica) → FitsReplica k (entry_of k R.entries) (E k q) y → count_kept y ≡ count_in (shown_replica (E k q) (o k q) y)
      by_replica None fits = refl
      by_replica (Some x) fits = sym fits.2

  -- an entry that is there is found
  found_there : (es : List Entry) → IdentitiesRise es → (e : Entry) → Contains es e → entry_of e.identity es ≡ Some e
  found_there [] rises e (i, within, is) = absurd (omega (arith, within))
  found_there (f ∷ es) rises e among = elim (Contains-cases f es e among) [
    | inl same ↦ ap (λ b. cond b (Some f) (entry_of e.identity es)) (eq-eqb f.identity e.identity (ap (λ (x : Entry). x.identity) same)) ∙ ap Some same
    | inr more ↦
        let there = found_there es rises.1 e more in
        elim (f.identity == e.identity) as (λ b. (f.identity == e.identity) ≡ b → cond b (Some f) (entry_of e.identity es) ≡ Some e) [
          | true ↦ λ is. absurd (let clash : Some e ≡ None = sym there ∙ none_at f.identity e.identity es rises.0 (eqb-true f.identity e.identity is) in cc clash)
          | false ↦ λ apart. there
        ] refl
  ]

  -- and just one of each complete replica is told
  pub tells_others : (r : ℕ) (es : List Entry) → IdentitiesRise es → TellsOthers (counts_of nodes es) r es
  tells_others r es rises e q among made apart complete other =
      let some : (slice_index e.complete q == 0) ≡ false = ne_eqb (slice_index e.complete q) 0 (λ none. let least = complete.incarnation in omega (arith, none, least)) in
      ap length (told_of e.identity q es rises ∙ ap (λ o. cond (slice_index (complete_of o) q == 0) [] (one e.identity q ∷ [])) (found_there es rises e among) ∙ ap (λ b. cond b [] (one e.identity q ∷ [])) some)

-- ---- one after the other

-- what is left of a list from a place on is what stands there, and what is left behind it
drop_suc : {X : Type 0} (i : ℕ) (xs : List X) (x : X) → slice_get xs i ≡ Some x → drop i xs ≡ x ∷ drop (suc i) xs
drop_suc i [] x is = absurd (cc is)
drop_suc zero (y ∷ xs) x is = ap (λ z. z ∷ xs) (same_Some y x is)
drop_suc (suc i) (y ∷ xs) x is = drop_suc i xs x is

drop_next : {X : Type 0} (i : ℕ) (xs : List X) (x : X) → slice_get xs i ≡ Some x → drop i xs ≡ x ∷ drop (i + 1) xs
drop_next i xs x is = drop_suc i xs x is ∙ ap (λ n. x ∷ drop n xs) (let next : suc i ≡ i + 1 = omega arith in next)

-- of the entries from a place on, those of the one there come first
pub counts_next : (nodes : List (List Replica)) (es : List Entry) (i : ℕ) (e : Entry) → slice_get es i ≡ Some e → counts_of nodes (drop i es) ≡ counts_from nodes e.identity 0 e.complete ++ counts_of nodes (drop (i + 1) es)
counts_next nodes es i e is = ap (counts_of nodes) (drop_next i es e is)

-- of the nodes from a place on, that of the one there comes first, where it is complete
pub node_next : (nodes : List (List Replica)) (k i : ℕ) (cs : List ℕ) (c : ℕ) → slice_get cs i ≡ Some c → counts_from nodes k i (drop i cs) ≡ cond (c == 0) (counts_from nodes k (i + 1) (drop (i + 1) cs)) (one nodes k i ∷ counts_from nodes k (i + 1) (drop (i + 1) cs))
node_next nodes k i cs c is = ap (counts_from nodes k i) (drop_next i cs c is)

-- nothing is left at the end
pub drop_end : {X : Type 0} (i : ℕ) (xs : List X) → length xs ≤ i → drop i xs ≡ []
drop_end zero [] through = refl
drop_end (suc i) [] through = refl
drop_end zero (x ∷ xs) through = absurd (omega (arith, through))
drop_end (suc i) (x ∷ xs) through = drop_end i xs (omega (arith, through))
