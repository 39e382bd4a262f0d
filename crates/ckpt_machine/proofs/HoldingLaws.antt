-- What follows from it that the nodes hold only what stands, and how it is shown.
use Rattle.std.proofs.Common.{◌≡◌, ◌≢◌, ◌⊎◌, inl, inr, ℕ, ◌<◌, ◌≤◌, Bool, true, false, cond, List, [], ◌∷◌, ◌++◌, length, refl, sym, ap, subst, ◌∙◌, arith}
use Rattle.std.specs.Prelude.{Option, Some, None, Result, Ok, Err, IsSomeAnd, not, ◌==◌, nat_lt, replicate, slice_get, slice_set, slice_index}
use Rattle.std.proofs.lemmas.Bool.{and_parts, eqb-true, not-true}
use Rattle.std.proofs.lemmas.Option.{same_Some}
use Rattle.ckpt_types.specs.declared.answers.Answer.TheVariants as answers
use Rattle.node_msgs.specs.declared.replies.Reply.{Reply}
use Rattle.node_msgs.specs.declared.replies.Reply.TheVariants as replies
use Rattle.node_msgs.specs.declared.requests.Request.{Request}
use Rattle.node_msgs.specs.declared.requests.Request.TheVariants.{Apply, Commit, Element, Install, Reserve}
use Rattle.node_msgs.specs.Requests.{ckpt_of}
use Rattle.cluster_record.specs.declared.entries.Entry.{Entry}
use Rattle.cluster_record.specs.Places.{find_key, change_key, list_or}
use Rattle.cluster_record.specs.RecordState.{RecordState, entry_of, is_up}
use Rattle.replica.specs.Replicas.{Replica, applied_by, committed, element_done, is_older, taken_from, opened_replica, outcome_on}
use Rattle.ckpt_machine.specs.Holding.{replicas_on, IsReservation, IsHeld, HoldsOnlyWhatStands}
use Rattle.node_core.specs.Nodes.{NodeState, replica_key, replicas_after, reserved_for, seen_for, with_reserved, replicas_reserved}
use Rattle.node_core.specs.Payloads.{Payload}
use Rattle.node_core.specs.Seen.{RecordSeen, record_seen, entry_seen, is_complete, is_complete_in}
use Rattle.node_core.specs.Serving.{replica_after, generation_seen, installed_of}
use Rattle.snap_copy.specs.Snapshots.{Snapshot}
use Rattle.ckpt_machine.specs.Facts.{IsReservable}
use Rattle.ckpt_machine.specs.Nodes.{nodes_after, replica_in, with_changed}
use Rattle.stage_slot.specs.Slots.{Slot}
use Rattle.weak_marks.specs.Marks.{Marked}
use Rattle.ckpt_types.specs.Sections.{Section}
use Rattle.ckpt_types.specs.Updates.{Refusal}
use Rattle.cluster_record.proofs.Places.{find_changed, find_pushed, get_set, not_changed, there_is}
use Rattle.node_core.proofs.OnceByKey.{counted, counted-change_key, counted-push, found_in, found_once}
use Rattle.ckpt_machine.proofs.NodeLists.{slice_get-replicate}

-- under an entry a replica stands: the node is complete in its present incarnation, or has reserved in it
abbrev pub StandsFor : RecordState → ℕ → Replica → Entry → Type 0
StandsFor R r x e = (slice_index e.complete r ≡ slice_index R.up r) ⊎ IsReservation e r x

-- ---- what a node finds of a checkpoint

module _ (R : RecordState) (nodes : List (List Replica)) where
  -- it is held, and of this checkpoint
  pub held_at : HoldsOnlyWhatStands R nodes → (k r : ℕ) (x : Replica) → replica_in nodes k r ≡ Some x → IsHeld R r x × (x.ckpt ≡ k)
  held_at holds k r x is = let (among, key) = found_in replica_key k (replicas_on nodes r) x is in (holds.each r x among, key)

  -- and if so is all that is found, all that is there is held, where nothing is there twice
  pub holds_by_key : ((k r : ℕ) (x : Replica) → replica_in nodes k r ≡ Some x → IsHeld R r x) → ((r k : ℕ) → counted replica_key k (replicas_on nodes r) ≤ 1) → HoldsOnlyWhatStands R nodes
  holds_by_key each once = record {
    each = λ r x among. each x.ckpt r x (found_once replica_key (replicas_on nodes r) x among (once r x.ckpt));
    once = once;
  }

-- an incarnation of a node that is up is none of a node that is not
pub up_from_one : (R : RecordState) (r : ℕ) → is_up r R ≡ true → slice_index R.up r ≡ 0 → ⊥
up_from_one R r up zero_is =
    let some : not (slice_index R.up r == 0) ≡ true = (and_parts (nat_lt r 8) (not (slice_index R.up r == 0)) up).1 in
    let none : not (slice_index R.up r == 0) ≡ false = ap (λ n. not (n == 0)) zero_is in
    cc

module _ (R : RecordState) (nodes : List (List Replica)) (holds : HoldsOnlyWhatStands R nodes) (k r : ℕ) where
  -- of a checkpoint without an entry no node has a replica
  pub none_gone : entry_of k R.entries ≡ None → replica_in nodes k r ≡ None
  none_gone gone = by_found (replica_in nodes k r) refl where
    by_found : (o : Option Replica) → replica_in nodes k r ≡ o → o ≡ None
    by_found None is = refl
    by_found (Some x) is =
        let (held, key) = held_at R nodes holds k r x is in
        absurd (subst (λ (o : Option Entry). IsSomeAnd o (StandsFor R r x)) (ap (λ j. entry_of j R.entries) key ∙ gone) held.stands)

  -- of one that stands it has one under an entry
  pub standing : (e : Entry) (x : Replica) → entry_of k R.entries ≡ Some e → replica_in nodes k r ≡ Some x → StandsFor R r x e
  standing e x there is =
      let (held, key) = held_at R nodes holds k r x is in
      subst (λ (o : Option Entry). IsSomeAnd o (StandsFor R r x)) (ap (λ j. entry_of j R.entries) key ∙ there) held.stands

  -- where it is not complete, it has what a reservation makes, or nothing
  pub opening_there : (e : Entry) (x : Replica) → entry_of k R.entries ≡ Some e → slice_index e.complete r ≡ 0 → replica_in nodes k r ≡ Some x → x ≡ opened_replica k e.attributes e.made
  opening_there e x there free is =
      let (held, key) = held_at R nodes holds k r x is in
      elim (standing e x there is) [
        | inl complete ↦ absurd (up_from_one R r held.up (sym complete ∙ free))
        | inr reservation ↦ reservation.opening ∙ ap (λ j. opened_replica j e.attributes e.made) key
      ]

-- ---- nothing twice

module _ (nodes : List (List Replica)) (r : ℕ) (within : r < length nodes) (new : List Replica) where
  -- where one node has others
  on_set : (q : ℕ) → replicas_on (slice_set nodes r new) q ≡ cond (q == r) new (replicas_on nodes q)
  on_set q =
      let (xs, at) = there_is nodes r within in
      ap list_or (get_set nodes r new xs q at) ∙ elim (q == r) as (λ b. list_or (cond b (Some new) (slice_get nodes q)) ≡ cond b new (replicas_on nodes q)) [ true ↦ refl | false ↦ refl ]

  pub once_set : ((k : ℕ) → counted replica_key k new ≤ 1) → ((q k : ℕ) → counted replica_key k (replicas_on nodes q) ≤ 1) → (q k : ℕ) → counted replica_key k (replicas_on (slice_set nodes r new) q) ≤ 1
  once_set few all q k = subst (λ (ys : List Replica). counted replica_key k ys ≤ 1) (sym (on_set q)) (elim (q == r) as (λ b. counted replica_key k (cond b new (replicas_on nodes q)) ≤ 1) [ true ↦ few k | false ↦ all q k ])

-- ---- a request that a node has served

-- it changes no replica's checkpoint
pub after_key : (request : Request) (p : Payload) (seen : RecordSeen) (x : Replica) → replica_key (replica_after request p seen x) ≡ replica_key x
after_key (Commit call k) p seen x = by_slot x.slot where
  by_slot : (o : Option Slot) → replica_key (committed x o) ≡ replica_key x
  by_slot None = refl
  by_slot (Some slot) = refl
after_key (Apply call k) p seen x = by_marks x.marks (outcome_on x p.update seen.moment) where
  by_marks : (o : Option Marked) (after : Result (List Section) Refusal) → replica_key (applied_by o after x) ≡ replica_key x
  by_marks (Some marked) after = refl
  by_marks None (Ok sections) = refl
  by_marks None (Err why) = refl
after_key (Element call k) p seen x = by_marks x.marks where
  by_marks : (o : Option Marked) → replica_key (element_done x o) ≡ replica_key x
  by_marks None = refl
  by_marks (Some marked) = refl
after_key (Install call k) p seen x = by_snapshot p.snapshot where
  by_tests : (s : Snapshot) (same older : Bool) → replica_key (cond same (cond older (taken_from s x) x) x) ≡ replica_key x
  by_tests s false older = refl
  by_tests s true false = refl
  by_tests s true true = refl

  by_snapshot : (o : Option Snapshot) → replica_key (installed_of (generation_seen seen.entry) o x) ≡ replica_key x
  by_snapshot None = refl
  by_snapshot (Some s) = by_tests s (s.generation == generation_seen seen.entry) (is_older x s)
after_key request p seen x = refl

-- what is no reservation changes the one replica, where the node is complete for it
pub replicas_served : (R : RecordState) (n : NodeState) (request : Request) (p : Payload) (reply : Reply) → ((k : ℕ) → request ≢ Reserve k) →
    replicas_after (seen_for R n request) n request p reply ≡ cond (is_complete (record_seen R (ckpt_of request) n.number)) (change_key replica_key (ckpt_of request) (replica_after request p (record_seen R (ckpt_of request) n.number)) n.replicas) n.replicas
replicas_served R n (Reserve k) p reply other = absurd (other k refl)
replicas_served R n request p reply other = refl

-- a node that sees itself complete is so in the entry
pub complete_entry : (R : RecordState) (k r : ℕ) → is_complete (record_seen R k r) ≡ true → (e : Entry) × (entry_of k R.entries ≡ Some e) × ((slice_index e.complete r == 0) ≡ false)
complete_entry R k r complete = by_entry (entry_of k R.entries) refl complete where
  by_entry : (o : Option Entry) → entry_of k R.entries ≡ o → is_complete_in (entry_seen r o) ≡ true → (e : Entry) × (entry_of k R.entries ≡ Some e) × ((slice_index e.complete r == 0) ≡ false)
  by_entry None there complete = absurd cc
  by_entry (Some e) there complete = (e, there, not-true (slice_index e.complete r == 0) complete)

module _ (R : RecordState) (nodes : List (List Replica)) (holds : HoldsOnlyWhatStands R nodes) (r : ℕ) (within : r < length nodes) where
  -- with other replicas on the node, each of which is held, and none of them twice, the nodes hold only what stands
  holds_set : (new : List Replica) → ((j : ℕ) (y : Replica) → find_key replica_key j new ≡ Some y → IsHeld R r y) → ((j : ℕ) → counted replica_key j new ≤ 1) → HoldsOnlyWhatStands R (slice_set nodes r new)
  holds_set new each once = holds_by_key R (slice_set nodes r new) (λ j q y found. by_place (q == r) j q y refl (ap (find_key replica_key j) (sym (on_set nodes r within new q)) ∙ found)) (once_set nodes r within new once holds.once) where
    by_place : (b : Bool) (j q : ℕ) (y : Replica) → (q == r) ≡ b → find_key replica_key j (cond b new (replicas_on nodes q)) ≡ Some y → IsHeld R q y
    by_place true j q y test found = subst (λ (q : ℕ). IsHeld R q y) (sym (eqb-true q r test)) (each j y found)
    by_place false j q y test found = (held_at R nodes holds j q y found).0

  -- with the same ones
  holds_as_it_was : HoldsOnlyWhatStands R (slice_set nodes r (replicas_on nodes r))
  holds_as_it_was = holds_set (replicas_on nodes r) (λ j y found. (held_at R nodes holds j r y found).0) (holds.once r)

  -- with one of them changed, of a checkpoint for which the node is complete
  pub holds_changed : (k : ℕ) (e : Entry) (f : Replica → Replica) → ((x : Replica) → replica_key (f x) ≡ replica_key x) → entry_of k R.entries ≡ Some e → (slice_index e.complete r == 0) ≡ false → HoldsOnlyWhatStands R (with_changed k r f nodes)
  holds_changed k e f same there complete = by_found (replica_in nodes k r) refl where
    held_after : (x : Replica) → replica_in nodes k r ≡ Some x → IsHeld R r (f x)
    held_after x is =
        let (held, key) = held_at R nodes holds k r x is in
        record {
          up = held.up;
          stands = subst (λ (o : Option Entry). IsSomeAnd o (StandsFor R r (f x))) (sym (ap (λ j. entry_of j R.entries) (same x ∙ key) ∙ there))
              (elim (standing R nodes holds k r e x there is) [
                | inl as_up ↦ inl as_up
                | inr reservation ↦ absurd (let none : (slice_index e.complete r == 0) ≡ true = ap (λ n. n == 0) reservation.not_complete in cc)
              ]);
        }

    by_test : (b : Bool) (x : Replica) (j : ℕ) (y : Replica) → replica_in nodes k r ≡ Some x → cond b (Some (f x)) (replica_in nodes j r) ≡ Some y → IsHeld R r y
    by_test true x j y is found = subst (IsHeld R r) (same_Some (f x) y found) (held_after x is)
    by_test false x j y is found = (held_at R nodes holds j r y found).0

    by_found : (o : Option Replica) → replica_in nodes k r ≡ o → HoldsOnlyWhatStands R (with_changed k r f nodes)
    by_found None is = subst (λ (ys : List Replica). HoldsOnlyWhatStands R (slice_set nodes r ys)) (sym (not_changed replica_key k f (replicas_on nodes r) is)) holds_as_it_was
    by_found (Some x) is = holds_set (change_key replica_key k f (replicas_on nodes r))
        (λ j y found. by_test (j == k) x j y is (sym (find_changed replica_key k f same (replicas_on nodes r) x j is) ∙ found))
        (λ j. subst (λ (n : ℕ). n ≤ 1) (sym (counted-change_key replica_key k j f same (replicas_on nodes r))) (holds.once r j))

  -- with one reserved where it is awaited, unless there is one
  holds_reserved : (k : ℕ) (e : Entry) → entry_of k R.entries ≡ Some e → IsReservable R r e → HoldsOnlyWhatStands R (slice_set nodes r (with_reserved (replica_in nodes k r) (opened_replica k e.attributes e.made) (replicas_on nodes r)))
  holds_reserved k e there can = by_found (replica_in nodes k r) refl where
    new : Replica
    new = opened_replica k e.attributes e.made

    held_new : IsHeld R r new
    held_new = record {
      up = can.up;
      stands = subst (λ (o : Option Entry). IsSomeAnd o (StandsFor R r new)) (sym there) (inr (record { awaited = can.awaited; not_complete = can.not_complete; opening = refl }));
    }

    by_test : (b : Bool) (j : ℕ) (y : Replica) → cond b (Some new) (replica_in nodes j r) ≡ Some y → IsHeld R r y
    by_test true j y found = subst (IsHeld R r) (same_Some new y found) held_new
    by_test false j y found = (held_at R nodes holds j r y found).0

    by_found : (o : Option Replica) → replica_in nodes k r ≡ o → HoldsOnlyWhatStands R (slice_set nodes r (with_reserved o new (replicas_on nodes r)))
    by_found None is = holds_set (replicas_on nodes r ++ new ∷ [])
        (λ j y found. by_test (j == k) j y (sym (find_pushed replica_key k (replicas_on nodes r) new j refl is) ∙ found))
        (counted-push replica_key (replicas_on nodes r) new is (holds.once r))
    by_found (Some x) is = holds_as_it_was

  -- what a reservation asks: it is awaited, and the node is not complete for the checkpoint
  by_entry : (k : ℕ) (o : Option Entry) → entry_of k R.entries ≡ o → IsSomeAnd o (IsReservable R r) → HoldsOnlyWhatStands R (slice_set nodes r (reserved_for (entry_seen r o) k (replicas_on nodes r)))
  by_entry k None there can = holds_as_it_was
  by_entry k (Some e) there can = holds_reserved k e there can

  by_reply : (k : ℕ) (reply : Reply) → IsSomeAnd (entry_of k R.entries) (IsReservable R r) → HoldsOnlyWhatStands R (slice_set nodes r (replicas_reserved (record_seen R k r) k reply (replicas_on nodes r)))
  by_reply k (replies.Done answers.Nothing) can = by_entry k (entry_of k R.entries) refl can
  by_reply k reply can = holds_as_it_was

  by_complete : (request : Request) (p : Payload) (b : Bool) → is_complete (record_seen R (ckpt_of request) r) ≡ b → HoldsOnlyWhatStands R (slice_set nodes r (cond b (change_key replica_key (ckpt_of request) (replica_after request p (record_seen R (ckpt_of request) r)) (replicas_on nodes r)) (replicas_on nodes r)))
  by_complete request p true complete =
      let (e, there, test) = complete_entry R (ckpt_of request) r complete in
      holds_changed (ckpt_of request) e (replica_after request p (record_seen R (ckpt_of request) r)) (after_key request p (record_seen R (ckpt_of request) r)) there test
  by_complete request p false complete = holds_as_it_was

-- whatever a node has answered to whatever request, the nodes hold only what stands, as before; a reservation is of what can be reserved
pub holds_served : (R : RecordState) (nodes : List (List Replica)) (r : ℕ) (request : Request) (p : Payload) (reply : Reply) → HoldsOnlyWhatStands R nodes → r < length nodes → ((k : ℕ) → request ≡ Reserve k → IsSomeAnd (entry_of k R.entries) (IsReservable R r)) → HoldsOnlyWhatStands R (nodes_after R nodes r request p reply)
holds_served R nodes r (Reserve k) p reply holds within can = by_reply R nodes holds r within k reply (can k refl)
holds_served R nodes r request p reply holds within can = by_complete R nodes holds r within request p (is_complete (record_seen R (ckpt_of request) r)) refl

-- ---- nodes without replicas

none_on : (r : ℕ) → replicas_on (replicate 8 []) r ≡ []
none_on r = slice_get-replicate (λ (o : Option (List Replica)). list_or o ≡ []) [] refl refl 8 r

-- hold none
pub nothing_held : (R : RecordState) (nodes : List (List Replica)) → nodes ≡ replicate 8 [] → HoldsOnlyWhatStands R nodes
nothing_held R nodes are = record {
  each = λ r x among. let (i, within, is) = among in
      let none : length (replicas_on nodes r) ≡ 0 = ap (λ ns. length (replicas_on ns r)) are ∙ ap length (none_on r) in
      absurd (omega (arith, within, none));
  once = λ r k. subst (λ xs. counted replica_key k xs ≤ 1) (sym (ap (λ ns. replicas_on ns r) are ∙ none_on r)) (omega arith);
}

-- and so it is whatever the record, where no checkpoint stands
pub held_by_none : (R N : RecordState) (nodes : List (List Replica)) → R.entries ≡ [] → HoldsOnlyWhatStands R nodes → HoldsOnlyWhatStands N nodes
held_by_none R N nodes none holds = record {
  each = λ r x among. absurd (subst (λ es. IsSomeAnd (entry_of x.ckpt es) (StandsFor R r x)) none (holds.each r x among).stands);
  once = holds.once;
}
