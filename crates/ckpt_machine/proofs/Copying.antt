-- Where a snapshot is taken, where it is put, and what is so after a pull and a put.
use Rattle.std.proofs.Common.{◌≡◌, ◌⊎◌, ℕ, ◌≤◌, inl, inr, Option, Some, None, Bool, true, false, cond, not, ◌||◌, ◌&&◌, ◌==◌, length, refl, sym, ap, subst, ◌∙◌}
use Rattle.std.specs.Prelude.{is_some, IsSome}
use Rattle.std.proofs.lemmas.Bool.{eqb-true, eq-eqb, and_parts}
use Rattle.std.proofs.lemmas.Option.{same_Some}
use Rattle.ckpt_types.specs.declared.identities.CallId.{CallId}
use Rattle.weak_marks.specs.Marks.{Marked, call_of}
use Rattle.run_labels.specs.declared.labels.PullReply.{PullReply}
use Rattle.run_labels.specs.declared.labels.PullReply.TheVariants as pulls
use Rattle.run_labels.specs.declared.labels.PutReply.{PutReply}
use Rattle.run_labels.specs.declared.labels.PutReply.TheVariants as puts
use Rattle.cluster_record.specs.declared.entries.Entry.{Entry}
use Rattle.cluster_record.specs.Places.{put, put2}
use Rattle.cluster_record.specs.RecordState.{entry_of}
use Rattle.cluster_record.specs.StepDone.{generation_in}
use Rattle.ckpt_machine.specs.Listing.{is_active}
use Rattle.ckpt_machine.specs.Machine.{Machine, ReplicaState, Snapshot}
use Rattle.cluster_record.specs.Placement.{is_all}
use Rattle.ckpt_machine.specs.Propagation.{source_of, source_at, on_node, target_of, target_at, is_behind, pull_unless, pull_reply, pull_answer, copied, with_pulled, put_onto, put_reply, put_answer, replica_from, with_put}

-- ---- where

-- the checkpoint is made, and its updates go to an active alone
pub record IsSource (e : Entry) : Type 0 where
  pub made : e.making ≡ None
  pub alone : is_all e.attributes ≡ false

-- a snapshot is of such a checkpoint, and of no higher generation; and where it is of the present one, this has an active
pub record IsOfSource (e : Entry) (s : Snapshot) : Type 0 where
  pub source : IsSource e
  pub within : s.generation ≤ e.generation
  pub led : s.generation ≡ e.generation → IsSome e.active

-- this is the replica of the active of such a checkpoint
pub record IsPulledFrom (m : Machine) (k : ℕ) (x : ReplicaState) : Type 0 where
  pub entry : Entry
  pub found : entry_of k m.cluster.entries ≡ Some entry
  pub source : IsSource entry
  pub node : ℕ
  pub active : entry.active ≡ Some node
  pub there : m.replicas k node ≡ Some x

pub pull_from : (m : Machine) (k : ℕ) (x : ReplicaState) → source_at m k ≡ Some x → IsPulledFrom m k x
pull_from m k x is = by_entry (entry_of k m.cluster.entries) refl is
  where
    by_active : (e : Entry) → entry_of k m.cluster.entries ≡ Some e → e.making ≡ None → is_all e.attributes ≡ false → (o : Option ℕ) → e.active ≡ o → on_node (m.replicas k) o ≡ Some x → IsPulledFrom m k x
    by_active e found made alone None active none = absurd (cc none)
    by_active e found made alone (Some r) active there = record { entry = e; found = found; source = record { made = made; alone = alone }; node = r; active = active; there = there }

    by_tests : (e : Entry) → entry_of k m.cluster.entries ≡ Some e → (making : Option CallId) → e.making ≡ making → (all : Bool) → is_all e.attributes ≡ all → on_node (m.replicas k) (cond (is_some making || all) None e.active) ≡ Some x → IsPulledFrom m k x
    by_tests e found None made false alone at = by_active e found made alone e.active refl at
    by_tests e found None made true all none = absurd (cc none)
    by_tests e found (Some c) making all is none = absurd (cc none)

    by_entry : (o : Option Entry) → entry_of k m.cluster.entries ≡ o → on_node (m.replicas k) (source_of o) ≡ Some x → IsPulledFrom m k x
    by_entry None found none = absurd (cc none)
    by_entry (Some e) found at = by_tests e found e.making refl (is_all e.attributes) refl at

-- this is the replica of a node that is not the active of its checkpoint, whose updates go to an active alone
pub record IsPutOn (m : Machine) (k r : ℕ) (x : ReplicaState) : Type 0 where
  pub entry : Entry
  pub found : entry_of k m.cluster.entries ≡ Some entry
  pub alone : is_all entry.attributes ≡ false
  pub other : is_active entry.active r ≡ false
  pub there : m.replicas k r ≡ Some x

pub put_on : (m : Machine) (k r : ℕ) (x : ReplicaState) → target_at m k r ≡ Some x → IsPutOn m k r x
put_on m k r x is = by_entry (entry_of k m.cluster.entries) refl is
  where
    by_tests : (e : Entry) → entry_of k m.cluster.entries ≡ Some e → (all : Bool) → is_all e.attributes ≡ all → (active : Bool) → is_active e.active r ≡ active → cond (all || active) None (m.replicas k r) ≡ Some x → IsPutOn m k r x
    by_tests e found false alone false other there = record { entry = e; found = found; alone = alone; other = other; there = there }
    by_tests e found false alone true active none = absurd (cc none)
    by_tests e found true all active is none = absurd (cc none)

    by_entry : (o : Option Entry) → entry_of k m.cluster.entries ≡ o → target_of o r (m.replicas k r) ≡ Some x → IsPutOn m k r x
    by_entry None found none = absurd (cc none)
    by_entry (Some e) found at = by_tests e found (is_all e.attributes) refl (is_active e.active r) refl at

-- it takes a snapshot, which is of the present generation, and which it is behind
pub record TakesOver (m : Machine) (k r : ℕ) (s : Snapshot) (x : ReplicaState) : Type 0 where
  pub on : IsPutOn m k r x
  pub present : s.generation ≡ on.entry.generation
  pub behind : is_behind x s ≡ true

-- the active is another node
pub not_active : (active : Option ℕ) (r : ℕ) → is_active active r ≡ false → active ≡ Some r → ⊥
not_active active r other is = let w : false ≡ true = sym (subst (λ o. is_active o r ≡ false) is other) ∙ eq-eqb r r refl in cc w

-- ---- what is so after

-- a pull that is done finds no marks
pulled_unmarked : (x : ReplicaState) (count : ℕ) → pulls.Ok count ≡ pull_reply (Some x) → x.marks ≡ None
pulled_unmarked x count is = by_marks x.marks refl is
  where
    by_marks : (o : Option Marked) → x.marks ≡ o → pulls.Ok count ≡ pull_unless (call_of o) (length x.effects) → x.marks ≡ None
    by_marks None none is = none
    by_marks (Some marks) marked is = absurd (cc is)

-- what is so now, and where the active was copied
pub after_pull : (P : Machine → Type 0) (m : Machine) (k : ℕ) (reply : PullReply) → reply ≡ pull_answer m k → P m → ((x : ReplicaState) → IsPulledFrom m k x → x.marks ≡ None → P (record m { snapshots = put m.snapshots k (Some (copied x)) })) → P (with_pulled m k reply (source_at m k))
after_pull P m k reply is same done = by_source reply (source_at m k) refl is
  where
    by_source : (reply : PullReply) (o : Option ReplicaState) → source_at m k ≡ o → reply ≡ pull_reply o → P (with_pulled m k reply o)
    by_source (pulls.Ok count) (Some x) at is = done x (pull_from m k x at) (pulled_unmarked x count is)
    by_source (pulls.Ok count) None at is = same
    by_source reply o at is = same

-- what is so now, and where a replica took the snapshot
pub after_put : (P : Machine → Type 0) (m : Machine) (k r : ℕ) (reply : PutReply) → P m → ((s : Snapshot) (x : ReplicaState) → m.snapshots k ≡ Some s → IsPutOn m k r x → P (record m { replicas = put2 m.replicas k r (Some (replica_from s x)) })) → P (with_put m k r reply (m.snapshots k) (target_at m k r))
after_put P m k r reply same done = by_target reply (m.snapshots k) refl (target_at m k r) refl
  where
    by_target : (reply : PutReply) (s : Option Snapshot) → m.snapshots k ≡ s → (o : Option ReplicaState) → target_at m k r ≡ o → P (with_put m k r reply s o)
    by_target (puts.Ok count) (Some s) is (Some x) at = done s x is (put_on m k r x at)
    by_target (puts.Ok count) (Some s) is None at = same
    by_target (puts.Ok count) None is o at = same
    by_target reply s is o at = same

-- a put that is done is of the present generation, and onto a replica that is behind
put_done : (present count : ℕ) (s : Snapshot) (x : ReplicaState) → puts.Ok count ≡ put_onto present s x → (s.generation ≡ present) × (is_behind x s ≡ true)
put_done present count s x is = by_tests (s.generation == present) refl (is_behind x s) refl is
  where
    by_tests : (same : Bool) → (s.generation == present) ≡ same → (behind : Bool) → is_behind x s ≡ behind → puts.Ok count ≡ cond (not same) (puts.Stale s.generation present) (cond behind (puts.Ok (length s.effects)) (puts.Old x.generation (length x.effects))) → (s.generation ≡ present) × (is_behind x s ≡ true)
    by_tests false other behind behind_is stale = absurd (cc stale)
    by_tests true same false behind_is old = absurd (cc old)
    by_tests true same true behind_is done = (eqb-true s.generation present same, behind_is)

-- what is so now, and where a replica took a snapshot that it was behind
pub after_put_over : (P : Machine → Type 0) (m : Machine) (k r : ℕ) (reply : PutReply) → reply ≡ put_answer m k r → P m → ((s : Snapshot) (x : ReplicaState) → m.snapshots k ≡ Some s → TakesOver m k r s x → P (record m { replicas = put2 m.replicas k r (Some (replica_from s x)) })) → P (with_put m k r reply (m.snapshots k) (target_at m k r))
after_put_over P m k r reply is same done = by_target reply (m.snapshots k) refl (target_at m k r) refl is
  where
    by_target : (reply : PutReply) (s : Option Snapshot) → m.snapshots k ≡ s → (o : Option ReplicaState) → target_at m k r ≡ o → reply ≡ put_reply (generation_in (entry_of k m.cluster.entries)) s o → P (with_put m k r reply s o)
    by_target (puts.Ok count) (Some s) copied (Some x) at is =
        let on = put_on m k r x at in
        let (present, behind) = put_done (generation_in (entry_of k m.cluster.entries)) count s x is in
        done s x copied (record { on = on; present = present ∙ ap generation_in on.found; behind = behind })
    by_target (puts.Ok count) (Some s) copied None at is = same
    by_target (puts.Ok count) None copied o at is = same
    by_target reply s copied o at is = same

-- ---- places

-- what is there is what was put there, or was there
pub put-cases : {X : Type 0} (f : ℕ → Option X) (k : ℕ) (x : X) (j : ℕ) (z : X) → put f k (Some x) j ≡ Some z → ((k ≡ j) × (x ≡ z)) ⊎ (f j ≡ Some z)
put-cases f k x j z is = elim (j == k) as (λ b. (j == k) ≡ b → cond b (Some x) (f j) ≡ Some z → ((k ≡ j) × (x ≡ z)) ⊎ (f j ≡ Some z)) [
  | true ↦ λ at here. inl (sym (eqb-true j k at), same_Some x z here)
  | false ↦ λ at was. inr was
] refl is

-- what was put at a place of two is there
pub put2-here : {X : Type 0} (f : ℕ → ℕ → Option X) (k r : ℕ) (x : Option X) → put2 f k r x k r ≡ x
put2-here f k r x = ap (λ b. cond (b && (r == r)) x (f k r)) (eq-eqb k k refl) ∙ ap (λ b. cond b x (f k r)) (eq-eqb r r refl)

-- or was at another place
pub put2-cases : {X : Type 0} (f : ℕ → ℕ → Option X) (k r : ℕ) (x : X) (j q : ℕ) (z : X) → put2 f k r (Some x) j q ≡ Some z → ((k ≡ j) × (r ≡ q) × (x ≡ z)) ⊎ ((f j q ≡ Some z) × ((k ≡ j) → (r ≡ q) → ⊥))
put2-cases f k r x j q z is = elim ((j == k) && (q == r)) as (λ b. ((j == k) && (q == r)) ≡ b → cond b (Some x) (f j q) ≡ Some z → ((k ≡ j) × (r ≡ q) × (x ≡ z)) ⊎ ((f j q ≡ Some z) × ((k ≡ j) → (r ≡ q) → ⊥))) [
  | true ↦ λ at here. (let (ckpt, node) = and_parts (j == k) (q == r) at in inl (sym (eqb-true j k ckpt), sym (eqb-true q r node), same_Some x z here))
  | false ↦ λ at was. inr (was, λ ckpt node. let w : true ≡ false = sym (both j q k r (sym ckpt) (sym node)) ∙ at in cc w)
] refl is
  where
    both : (j q k r : ℕ) → j ≡ k → q ≡ r → ((j == k) && (q == r)) ≡ true
    both j q k r ckpt node = subst (λ b. (b && (q == r)) ≡ true) (sym (eq-eqb j k ckpt)) (eq-eqb q r node)
