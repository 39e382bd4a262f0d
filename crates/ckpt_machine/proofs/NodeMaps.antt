-- What the nodes have, and what of it the machine has, changed at one place.
use Rattle.std.proofs.Common.{◌≡◌, ℕ, Bool, true, false, List, [], refl, sym, ap, subst, ◌∙◌, cond}
use Rattle.std.specs.Prelude.{Option, Some, None, ◌==◌, ◌&&◌, slice_get, slice_set, slice_index}
use Rattle.std.proofs.lemmas.Bool.{eqb-true}
use Rattle.std.proofs.lemmas.List.{set-get_or}
use Rattle.std.proofs.lemmas.Option.{get_or_from_slice_get}
use Rattle.ckpt_types.specs.declared.identities.CallId.{CallId}
use Rattle.cluster_record.specs.declared.entries.Entry.{Entry}
use Rattle.replica.specs.Replicas.{Replica}
use Rattle.cluster_record.specs.Places.{find_key, change_key, list_or, put2}
use Rattle.cluster_record.specs.RecordState.{RecordState, entry_of, complete_of}
use Rattle.node_core.specs.Nodes.{replica_key}
use Rattle.ckpt_machine.specs.After.{reservation_under}
use Rattle.ckpt_machine.specs.Nodes.{replica_in, with_changed}
use Rattle.ckpt_machine.specs.Machine.{Effect}
use Rattle.ckpt_machine.specs.Shown.{shown_replica, shown_reservation, where_complete, complete_replica, reserved_in, FitsReplica}
use Rattle.cluster_record.proofs.Places.{find_changed, get_set}

-- ---- tests of places

pub both_true : (j k q r : ℕ) → ((j == k) && (q == r)) ≡ true → (j ≡ k) × (q ≡ r)
both_true j k q r e = by_tests (j == k) (q == r) refl refl e where
  by_tests : (a b : Bool) → (j == k) ≡ a → (q == r) ≡ b → (a && b) ≡ true → (j ≡ k) × (q ≡ r)
  by_tests true true f g e = (eqb-true j k f, eqb-true q r g)
  by_tests true false f g e = absurd cc
  by_tests false b f g e = absurd cc

pub same_there : {X : Type 0} (b : Bool) (x y : X) → (b ≡ true → y ≡ x) → cond b x y ≡ y
same_there true x y e = sym (e refl)
same_there false x y e = refl

-- what stands at a place already changes nothing there
pub put2_same : {X : Type 0} (f : ℕ → ℕ → X) (k r : ℕ) (x : X) → f k r ≡ x → put2 f k r x ≡ f
put2_same f k r x is =
    let one = λ (j q : ℕ). same_there ((j == k) && (q == r)) x (f j q) (λ e. let s = both_true j k q r e in ap (λ (y : ℕ × ℕ). f y.0 y.1) (λ i. (s.0 i, s.1 i)) ∙ is) in
    λ i j q. one j q i

-- what is there, set again, changes nothing
pub set_again : {X : Type 0} (xs : List X) (i : ℕ) (x : X) → slice_get xs i ≡ Some x → slice_set xs i x ≡ xs
set_again xs i x is = ap (slice_set xs i) (sym (get_or_from_slice_get xs i x x is)) ∙ set-get_or xs i x

-- ---- the nodes, changed at one

pub slice_there : {X : Type 0} (o : Option (List X)) (f : List X → Option X) (x : X) → f [] ≡ None → f (list_or o) ≡ Some x → (xs : List X) × (o ≡ Some xs)
slice_there None f x none e = let s : None ≡ Some x = sym none ∙ e in absurd cc
slice_there (Some xs) f x none e = (xs, refl)

pub node_case : {X : Type 0} (a b : Bool) (y : Option X) (f : List X → Option X) (xs new : List X) (o : Option (List X)) → (b ≡ true → list_or o ≡ xs) → f new ≡ cond a y (f xs) →
    f (list_or (cond b (Some new) o)) ≡ cond (a && b) y (f (list_or o))
node_case true true y f xs new o s e = e
node_case false true y f xs new o s e = e ∙ ap f (sym (s refl))
node_case true false y f xs new o s e = refl
node_case false false y f xs new o s e = refl

-- with one replica changed, the replica of each checkpoint on each node
pub changed_here : (nodes : List (List Replica)) (k r : ℕ) (f : Replica → Replica) → ((x : Replica) → replica_key (f x) ≡ replica_key x) → (x : Replica) → replica_in nodes k r ≡ Some x →
    (j q : ℕ) → replica_in (with_changed k r f nodes) j q ≡ cond ((j == k) && (q == r)) (Some (f x)) (replica_in nodes j q)
changed_here nodes k r f same x is j q =
    let (xs, there) = slice_there (slice_get nodes r) (find_key replica_key k) x refl is in
    let at : find_key replica_key k xs ≡ Some x = ap (λ o. find_key replica_key k (list_or o)) (sym there) ∙ is in
    ap (λ o. replica_in (slice_set nodes r (change_key replica_key k f (list_or o))) j q) there
    ∙ ap (λ o. find_key replica_key j (list_or o)) (get_set nodes r (change_key replica_key k f xs) xs q there)
    ∙ node_case (j == k) (q == r) (Some (f x)) (find_key replica_key j) xs (change_key replica_key k f xs) (slice_get nodes q)
    (λ e. ap (λ q. list_or (slice_get nodes q)) (eqb-true q r e) ∙ ap list_or there)
    (find_changed replica_key k f same xs x j at)

-- ---- the replicas, changed at one place where the node is complete

complete_case : (b : Bool) (c : ℕ) (y o : Option Replica) → (b ≡ true → (c == 0) ≡ false) → where_complete c (cond b y o) ≡ cond b y (where_complete c o)
complete_case true c y o e = let h = e refl in rw h refl
complete_case false c y o e = refl

complete_there : (R : RecordState) (k r j q : ℕ) → (slice_index (complete_of (entry_of k R.entries)) r == 0) ≡ false → ((j == k) && (q == r)) ≡ true → (slice_index (complete_of (entry_of j R.entries)) q == 0) ≡ false
complete_there R k r j q complete e = let s = both_true j k q r e in subst (λ (y : ℕ × ℕ). (slice_index (complete_of (entry_of y.0 R.entries)) y.1 == 0) ≡ false) (λ i. (sym s.0 i, sym s.1 i)) complete

-- the complete replicas, where the nodes have another one at one place
pub complete_at_node : (R : RecordState) (nodes new : List (List Replica)) (k r : ℕ) (x : Replica) → ((j q : ℕ) → replica_in new j q ≡ cond ((j == k) && (q == r)) (Some x) (replica_in nodes j q)) → (slice_index (complete_of (entry_of k R.entries)) r == 0) ≡ false →
    (j q : ℕ) → complete_replica R new j q ≡ cond ((j == k) && (q == r)) (Some x) (complete_replica R nodes j q)
complete_at_node R nodes new k r x at complete j q =
    ap (where_complete (slice_index (complete_of (entry_of j R.entries)) q)) (at j q)
    ∙ complete_case ((j == k) && (q == r)) (slice_index (complete_of (entry_of j R.entries)) q) (Some x) (replica_in nodes j q) (complete_there R k r j q complete)

shown_case : (b : Bool) (E F : List Effect) (o p : CallId) (x : Replica) (y : Option Replica) → cond b (shown_replica E o (Some x)) (shown_replica F p y) ≡ shown_replica (cond b E F) (cond b o p) (cond b (Some x) y)
shown_case true E F o p x y = refl
shown_case false E F o p x y = refl

-- the machine's replicas, changed at one place
pub put_replica : (effects : ℕ → ℕ → List Effect) (origins : ℕ → ℕ → CallId) (old new : ℕ → ℕ → Option Replica) (k r : ℕ) (E : List Effect) (o : CallId) (x : Replica) → ((j q : ℕ) → new j q ≡ cond ((j == k) && (q == r)) (Some x) (old j q)) →
    put2 (λ j q. shown_replica (effects j q) (origins j q) (old j q)) k r (shown_replica E o (Some x)) ≡ (λ j q. shown_replica (put2 effects k r E j q) (put2 origins k r o j q) (new j q))
put_replica effects origins old new k r E o x same =
    let one : (j q : ℕ) → put2 (λ j q. shown_replica (effects j q) (origins j q) (old j q)) k r (shown_replica E o (Some x)) j q ≡ shown_replica (put2 effects k r E j q) (put2 origins k r o j q) (new j q)
    = λ j q. shown_case ((j == k) && (q == r)) E (effects j q) o (origins j q) x (old j q) ∙ ap (shown_replica (put2 effects k r E j q) (put2 origins k r o j q)) (sym (same j q)) in
    λ i j q. one j q i

fits_case : (b : Bool) (k j : ℕ) (e f : Option Entry) (E F : List Effect) (x : Replica) (y : Option Replica) → (b ≡ true → (j ≡ k) × (f ≡ e)) → FitsReplica k e E (Some x) → FitsReplica j f F y → FitsReplica j f (cond b E F) (cond b (Some x) y)
fits_case true k j e f E F x y s h g = let t = s refl in subst (λ (z : ℕ × Option Entry). FitsReplica z.0 z.1 E (Some x)) (λ i. (sym t.0 i, sym t.1 i)) h
fits_case false k j e f E F x y s h g = g

-- and how they fit
pub fits_replica : (R : RecordState) (effects : ℕ → ℕ → List Effect) (old new : ℕ → ℕ → Option Replica) (k r : ℕ) (E : List Effect) (x : Replica) → ((j q : ℕ) → new j q ≡ cond ((j == k) && (q == r)) (Some x) (old j q)) →
    FitsReplica k (entry_of k R.entries) E (Some x) → ((j q : ℕ) → FitsReplica j (entry_of j R.entries) (effects j q) (old j q)) → (j q : ℕ) → FitsReplica j (entry_of j R.entries) (put2 effects k r E j q) (new j q)
fits_replica R effects old new k r E x same one all j q =
    subst (FitsReplica j (entry_of j R.entries) (put2 effects k r E j q)) (sym (same j q))
    (fits_case ((j == k) && (q == r)) k j (entry_of k R.entries) (entry_of j R.entries) E (effects j q) x (old j q) (λ e. let s = (both_true j k q r e).0 in (s, ap (λ j. entry_of j R.entries) s)) one (all j q))

-- ---- the reservations: a complete node has none

reservation_case : (u : ℕ) (b : Bool) (y x : Replica) (o : Option Replica) → (b ≡ true → o ≡ Some x) → shown_reservation u (cond b (Some y) o) ≡ shown_reservation u o
reservation_case u true y x o s = sym (ap (shown_reservation u) (s refl))
reservation_case u false y x o s = refl

-- the machine's reservations stay where a replica takes the place of another
pub reserved_same : (R : RecordState) (nodes new : List (List Replica)) (k r : ℕ) (y x : Replica) → replica_in nodes k r ≡ Some x → ((j q : ℕ) → replica_in new j q ≡ cond ((j == k) && (q == r)) (Some y) (replica_in nodes j q)) →
    (j q : ℕ) → reserved_in R nodes j q ≡ reserved_in R new j q
reserved_same R nodes new k r y x is at j q =
    let there = λ (e : ((j == k) && (q == r)) ≡ true). let s = both_true j k q r e in ap (λ (z : ℕ × ℕ). replica_in nodes z.0 z.1) (λ i. (s.0 i, s.1 i)) ∙ is in
    ap (reservation_under (entry_of j R.entries) q) (sym (reservation_case (slice_index R.up q) ((j == k) && (q == r)) y x (replica_in nodes j q) there) ∙ ap (shown_reservation (slice_index R.up q)) (sym (at j q)))
