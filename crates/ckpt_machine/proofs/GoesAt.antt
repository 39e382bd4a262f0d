-- A step of the record as the nodes show it: a node that is complete as before has the replica that it had, one that becomes complete the opening one.
use Rattle.std.proofs.Common.{◌≡◌, ◌⊎◌, inl, inr, ℕ, Bool, true, false, List, [], refl, sym, ap, subst, ◌∙◌, cond}
use Rattle.std.specs.Prelude.{Option, Some, None, not, nat_lt, ◌==◌, ◌&&◌, slice_index, if◌then◌else◌}
use Rattle.std.proofs.lemmas.Bool.{and_parts, not-true}
use Rattle.ckpt_types.specs.declared.identities.CallId.{CallId}
use Rattle.cluster_record.specs.declared.entries.Entry.{Entry}
use Rattle.replica.specs.Replicas.{Replica, opened_replica}
use Rattle.cluster_record.specs.RecordState.{complete_of, no_nodes}
use Rattle.ckpt_machine.specs.Machine.{Effect}
use Rattle.ckpt_machine.specs.After.{opened_state, replica_under, reservation_under, snapshot_under}
use Rattle.snap_copy.specs.Snapshots.{Snapshot}
use Rattle.ckpt_machine.specs.Shown.{FitsReplica, shown_replica, shown_reservation, shown_snapshot, where_complete}
use Rattle.ckpt_types.proofs.Lists.{slice_index-replicate}

-- the node is up with one of these incarnations
abbrev pub IsUpIn : List ℕ → ℕ → Type 0
IsUpIn up r = (nat_lt r 8 && not (slice_index up r == 0)) ≡ true

-- what a node has of a checkpoint goes on: it is complete as before and has what it had, and the making is the same or it has nothing; or it was not complete, and is as it is up, with a replica as the checkpoint was made, of this generation
abbrev pub NodeGoes : List ℕ → ℕ → Entry → Entry → ℕ → Option Replica → Option Replica → Type 0
NodeGoes up k e f r y z = ((slice_index f.complete r ≡ slice_index e.complete r) × (z ≡ y) × ((f.making ≡ e.making) ⊎ (y ≡ None))) ⊎
    ((slice_index e.complete r ≡ 0) × (slice_index f.complete r ≡ slice_index up r) × IsUpIn up r × (z ≡ Some (record (opened_replica k f.attributes f.made) { generation = f.generation })))

-- what a step may make of an entry, by what a node has of it before and behind: it goes, it is new and nowhere complete, or its nodes go on
abbrev pub GoesAt : List ℕ → ℕ → Option Entry → Option Entry → ℕ → Option Replica → Option Replica → Type 0
GoesAt up k old None r y z = Unit {0}
GoesAt up k None (Some f) r y z = (slice_index f.complete r ≡ 0) × (z ≡ None)
GoesAt up k (Some e) (Some f) r y z = (f.attributes ≡ e.attributes) × (f.made ≡ e.made) × NodeGoes up k e f r y z

-- no node is complete for what is gone
pub zero_there : (r : ℕ) → slice_index no_nodes r ≡ 0
zero_there r = slice_index-replicate 8 r

pub test_zero : (n : ℕ) → n ≡ 0 → (n == 0) ≡ true
test_zero n z = ap (λ n. n == 0) z

-- a node that was not complete has had no effects
abbrev pub effects_under : ℕ → List Effect → List Effect
effects_under before E = if before == 0 then [] else E

-- one that becomes complete is that
newly_complete : (up : List ℕ) (n r : ℕ) → IsUpIn up r → n ≡ slice_index up r → (n == 0) ≡ false
newly_complete up n r is_up is = ap (λ n. n == 0) is ∙ not-true (slice_index up r == 0) (and_parts (nat_lt r 8) (not (slice_index up r == 0)) is_up).1

-- what holds where a node has what it had and is complete or not as before, and where it becomes complete with an opening replica, holds of what goes on so
node_cases : (up : List ℕ) (k : ℕ) (e f : Entry) (r : ℕ) (y z : Option Replica) → NodeGoes up k e f r y z → (P : Bool → Bool → Option Replica → Option Replica → Type 0) → ((a : Bool) → P a a y y) → P false true y (Some (record (opened_replica k f.attributes f.made) { generation = f.generation })) →
    P (slice_index f.complete r == 0) (slice_index e.complete r == 0) y z
node_cases up k e f r y z (inl was) P same new = subst (λ (w : ℕ × Option Replica). P (w.0 == 0) (slice_index e.complete r == 0) y w.1) (λ i. (sym was.0 i, sym was.1 i)) (same (slice_index e.complete r == 0))
node_cases up k e f r y z (inr is) P same new = subst (λ (w : Bool × Bool × Option Replica). P w.0 w.1 y w.2) (λ i. (sym (newly_complete up (slice_index f.complete r) r is.2 is.1) i, sym (test_zero (slice_index e.complete r) is.0) i, sym is.3 i)) new

-- ---- the replicas

pub record_shown_case : (up : List ℕ) (k : ℕ) (old new : Option Entry) (r : ℕ) (E : List Effect) (o : CallId) (y z : Option Replica) → GoesAt up k old new r y z →
    replica_under new (slice_index (complete_of old) r) r (shown_replica E o (where_complete (slice_index (complete_of old) r) y)) ≡ shown_replica (effects_under (slice_index (complete_of old) r) E) o (where_complete (slice_index (complete_of new) r) z)
record_shown_case up k old None r E o y z goes = sym (ap (λ b. shown_replica (effects_under (slice_index (complete_of old) r) E) o (cond b None z)) (test_zero (slice_index no_nodes r) (zero_there r)))
record_shown_case up k None (Some f) r E o y z goes =
    let t = test_zero (slice_index f.complete r) goes.0 in
    let before = slice_index no_nodes r in
    ap (λ b. cond b None (cond (before == 0) (Some (opened_state f)) (shown_replica E o (where_complete before y)))) t ∙ sym (ap (λ b. shown_replica (effects_under before E) o (cond b None z)) t)
record_shown_case up k (Some e) (Some f) r E o y z goes = node_cases up k e f r y z goes.2 (λ b a y z. cond b None (cond a (Some (opened_state f)) (shown_replica E o (cond a None y))) ≡ shown_replica (cond a [] E) o (cond b None z)) same refl where
  same : (a : Bool) → cond a None (cond a (Some (opened_state f)) (shown_replica E o (cond a None y))) ≡ shown_replica (cond a [] E) o (cond a None y)
  same true = refl
  same false = refl

pub record_fits_case : (up : List ℕ) (k : ℕ) (old new : Option Entry) (r : ℕ) (E : List Effect) (y z : Option Replica) → GoesAt up k old new r y z → FitsReplica k old E (where_complete (slice_index (complete_of old) r) y) →
    FitsReplica k new (effects_under (slice_index (complete_of old) r) E) (where_complete (slice_index (complete_of new) r) z)
record_fits_case up k old None r E y z goes fits = subst (λ (b : Bool). FitsReplica k None (effects_under (slice_index (complete_of old) r) E) (cond b None z)) (sym (test_zero (slice_index no_nodes r) (zero_there r))) tt
record_fits_case up k None (Some f) r E y z goes fits = subst (λ (b : Bool). FitsReplica k (Some f) (effects_under (slice_index no_nodes r) E) (cond b None z)) (sym (test_zero (slice_index f.complete r) goes.0)) tt
record_fits_case up k (Some e) (Some f) r E y z goes fits =
    node_cases up k e f r y z goes.2 (λ b a y z. FitsReplica k (Some e) E (cond a None y) → FitsReplica k (Some f) (cond a [] E) (cond b None z)) (λ a. same a y) (λ fits. (refl, refl, refl, tt)) fits
  where
    same : (a : Bool) (y : Option Replica) → FitsReplica k (Some e) E (cond a None y) → FitsReplica k (Some f) (cond a [] E) (cond a None y)
    same true y fits = tt
    same false None fits = tt
    same false (Some x) fits = (fits.0, fits.1 ∙ sym goes.0, fits.2, fits.3)

-- ---- the reservations

pub reserved_case : (up : List ℕ) (k : ℕ) (old new : Option Entry) (r u : ℕ) (y z : Option Replica) → GoesAt up k old new r y z → reservation_under new r (reservation_under old r (shown_reservation u y)) ≡ reservation_under new r (shown_reservation u z)
reserved_case up k old None r u y z goes = refl
reserved_case up k None (Some f) r u y z goes = ap (λ o. cond (slice_index f.complete r == 0) (shown_reservation u o) None) (sym goes.1)
reserved_case up k (Some e) (Some f) r u y z goes = node_cases up k e f r y z goes.2 (λ b a y z. cond b (cond a (shown_reservation u y) None) None ≡ cond b (shown_reservation u z) None) same refl where
  same : (a : Bool) → cond a (cond a (shown_reservation u y) None) None ≡ cond a (shown_reservation u y) None
  same true = refl
  same false = refl

-- ---- the snapshots

-- of a checkpoint that is new nothing was pulled
pub copied_case : (old new : Option Entry) (E : List Effect) (s : Option Snapshot) → (old ≡ None → s ≡ None) → snapshot_under new (snapshot_under old (shown_snapshot E s)) ≡ snapshot_under new (shown_snapshot E s)
copied_case (Some e) new E s none = refl
copied_case None new E s none = sym (ap (λ s. snapshot_under new (shown_snapshot E s)) (none refl))
