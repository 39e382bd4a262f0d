-- What a reservation makes of the nodes, and what it tells.
use Rattle.std.proofs.Common.{◌≡◌, ◌⊎◌, inl, ℕ, ◌<◌, Bool, true, false, List, length, refl, sym, ap, ◌∙◌, cond}
use Rattle.std.specs.Prelude.{Option, Some, None, ◌==◌, ◌&&◌, IsSomeAnd, is_some, slice_get, slice_set, slice_index}
use Rattle.std.proofs.lemmas.Bool.{eqb-true}
use Rattle.ckpt_types.specs.declared.answers.Answer.TheVariants as answers
use Rattle.node_msgs.specs.declared.requests.Request.{Request}
use Rattle.node_msgs.specs.declared.requests.Request.TheVariants.{Reserve}
use Rattle.node_msgs.specs.declared.replies.Reply.{Reply}
use Rattle.node_msgs.specs.declared.replies.Reply.TheVariants.{Done, NoMemory}
use Rattle.node_msgs.specs.declared.details.Details.TheVariants as beside
use Rattle.cluster_record.specs.declared.entries.Entry.{Entry}
use Rattle.replica.specs.Replicas.{Replica}
use Rattle.cluster_record.specs.Places.{find_key, put2, list_or}
use Rattle.cluster_record.specs.RecordState.{RecordState, entry_of, complete_of}
use Rattle.node_core.specs.Payloads.{Payload}
use Rattle.node_core.specs.Seen.{RecordSeen}
use Rattle.node_core.specs.Nodes.{replica_key, with_reserved, MayReserve}
use Rattle.ckpt_machine.specs.Nodes.{replica_in}
use Rattle.node_core.specs.Serving.{details_at, snapshot_after, snapshot_behind}
use Rattle.snap_copy.specs.Snapshots as copies
use Rattle.ckpt_machine.specs.After.{reservation_under}
use Rattle.ckpt_machine.specs.Facts.{IsReservable}
use Rattle.ckpt_machine.specs.Shown.{where_complete, complete_replica, shown_reservation, reserved_in}
use Rattle.ckpt_machine.proofs.NodeMaps.{both_true, same_there, node_case}
use Rattle.cluster_record.proofs.Places.{find_pushed, get_set, there_is}

-- ---- what a reservation makes of the nodes

-- one replica more on a node that has none of its checkpoint
abbrev pub reserved_at : List (List Replica) → ℕ → Replica → List (List Replica)
reserved_at nodes r new = slice_set nodes r (with_reserved (replica_in nodes new.ckpt r) new (list_or (slice_get nodes r)))

-- the node has none of this checkpoint yet, or this very one
abbrev pub NoneButThis : Replica → Option Replica → Type 0
NoneButThis new None = Unit {0}
NoneButThis new (Some x) = x ≡ new

find_added : (xs : List Replica) (new : Replica) (j : ℕ) (o : Option Replica) → find_key replica_key new.ckpt xs ≡ o → NoneButThis new o → find_key replica_key j (with_reserved o new xs) ≡ cond (j == new.ckpt) (Some new) (find_key replica_key j xs)
find_added xs new j None e this = find_pushed replica_key new.ckpt xs new j refl e
find_added xs new j (Some x) e this = sym (same_there (j == new.ckpt) (Some new) (find_key replica_key j xs) (λ t. ap (λ j. find_key replica_key j xs) (eqb-true j new.ckpt t) ∙ e ∙ ap Some this))

-- after a reservation, the replica of each checkpoint on each node
pub reserved_here : (nodes : List (List Replica)) (r : ℕ) (new : Replica) → r < length nodes → NoneButThis new (replica_in nodes new.ckpt r) →
    (j q : ℕ) → replica_in (reserved_at nodes r new) j q ≡ cond ((j == new.ckpt) && (q == r)) (Some new) (replica_in nodes j q)
reserved_here nodes r new within this j q =
    let there = there_is nodes r within in
    let xs : List Replica = there.0 in
    let is : slice_get nodes r ≡ Some xs = there.1 in
    let more = with_reserved (replica_in nodes new.ckpt r) new xs in
    let set : reserved_at nodes r new ≡ slice_set nodes r more = ap (λ o. slice_set nodes r (with_reserved (replica_in nodes new.ckpt r) new (list_or o))) is in
    let got : slice_get (slice_set nodes r more) q ≡ cond (q == r) (Some more) (slice_get nodes q) = get_set nodes r more xs q is in
    ap (λ ns. replica_in ns j q) set ∙ ap (λ o. find_key replica_key j (list_or o)) got
    ∙ node_case (j == new.ckpt) (q == r) (Some new) (find_key replica_key j) xs more (slice_get nodes q)
    (λ e. ap (λ q. list_or (slice_get nodes q)) (eqb-true q r e) ∙ ap list_or is)
    (find_added xs new j (replica_in nodes new.ckpt r) (sym (ap (λ o. find_key replica_key new.ckpt (list_or o)) is)) this)

-- ---- what it leaves: the replicas of complete nodes

hidden_case : (b : Bool) (c : ℕ) (x : Replica) (o : Option Replica) → (b ≡ true → c ≡ 0) → where_complete c (cond b (Some x) o) ≡ where_complete c o
hidden_case true c x o z = let t : (c == 0) ≡ true = ap (λ n. n == 0) (z refl) in ap (λ b. cond b None (Some x)) t ∙ sym (ap (λ b. cond b None o) t)
hidden_case false c x o z = refl

module _ (R : RecordState) (nodes new : List (List Replica)) (k r : ℕ) (x : Replica) (e : Entry) (at : (j q : ℕ) → replica_in new j q ≡ cond ((j == k) && (q == r)) (Some x) (replica_in nodes j q)) (there : entry_of k R.entries ≡ Some e) (free : slice_index e.complete r ≡ 0) where
  pub not_complete : (j q : ℕ) → ((j == k) && (q == r)) ≡ true → slice_index (complete_of (entry_of j R.entries)) q ≡ 0
  not_complete j q t = let s = both_true j k q r t in (λ i. slice_index (complete_of (entry_of (s.0 i) R.entries)) (s.1 i)) ∙ ap (λ (o : Option Entry). slice_index (complete_of o) r) there ∙ free

  pub complete_same : (j q : ℕ) → complete_replica R new j q ≡ complete_replica R nodes j q
  complete_same j q = ap (where_complete (slice_index (complete_of (entry_of j R.entries)) q)) (at j q) ∙ hidden_case ((j == k) && (q == r)) (slice_index (complete_of (entry_of j R.entries)) q) x (replica_in nodes j q) (not_complete j q)

  reserved_case : (b : Bool) (f : Option Entry) (q u : ℕ) (o : Option Replica) → (b ≡ true → (f ≡ Some e) × (q ≡ r) × (u ≡ slice_index R.up r)) →
      cond b (Some (slice_index R.up r)) (reservation_under f q (shown_reservation u o)) ≡ reservation_under f q (shown_reservation u (cond b (Some x) o))
  reserved_case false f q u o s = refl
  reserved_case true f q u o s =
      let t = s refl in
      let z : (slice_index e.complete r == 0) ≡ true = ap (λ n. n == 0) free in
      sym ((λ i. reservation_under (t.0 i) (t.1 i) (Some (t.2 i))) ∙ ap (λ b. cond b (Some (slice_index R.up r)) None) z)

  -- the machine's reservations, with one more
  pub reserved_more : (j q : ℕ) → put2 (reserved_in R nodes) k r (Some (slice_index R.up r)) j q ≡ reserved_in R new j q
  reserved_more j q =
      reserved_case ((j == k) && (q == r)) (entry_of j R.entries) q (slice_index R.up q) (replica_in nodes j q)
      (λ t. let s = both_true j k q r t in (ap (λ j. entry_of j R.entries) s.0 ∙ there, s.1, ap (slice_index R.up) s.1))
      ∙ ap (λ o. reservation_under (entry_of j R.entries) q (shown_reservation (slice_index R.up q) o)) (sym (at j q))

-- a reserved replica is the one that a reservation makes
pub only_this : (new : Replica) (o : Option Replica) → ((x : Replica) → o ≡ Some x → x ≡ new) → NoneButThis new o
only_this new None opening = tt
only_this new (Some x) opening = opening x refl

-- a reservation is done, or is refused the memory
pub reserve_answers : (b : Bool) (reply : Reply) → MayReserve b reply → (reply ≡ Done answers.Nothing) ⊎ (reply ≡ NoMemory)
reserve_answers true reply done = inl done
reserve_answers false reply may = may

-- what can be reserved stands on the node where it stands in the machine
pub stands_alike : (o : Option Entry) (x : Option Replica) (R : RecordState) (r : ℕ) → IsSomeAnd o (IsReservable R r) → is_some x ≡ is_some (reservation_under o r (shown_reservation (slice_index R.up r) x))
stands_alike None x R r can = absurd can
stands_alike (Some e) x R r can = by_replica x ∙ ap (λ b. is_some (cond b (shown_reservation (slice_index R.up r) x) None)) (sym free) where
  free : (slice_index e.complete r == 0) ≡ true
  free = ap (λ n. n == 0) can.not_complete

  by_replica : (x : Option Replica) → is_some x ≡ is_some (shown_reservation (slice_index R.up r) x)
  by_replica None = refl
  by_replica (Some x) = refl

-- nothing comes beside the answer
pub none_read : (k : ℕ) (p : Payload) (seen : RecordSeen) (y : Option Replica) → details_at (Reserve k) p seen y ≡ beside.Nothing
none_read k p seen None = refl
none_read k p seen (Some x) = refl

-- what pulls nothing leaves the copy in the hand
pub copy_kept : (request : Request) → ((x : Replica) (s : copies.Snapshot) → snapshot_after request x s ≡ s) → (y : Option Replica) (s : Option copies.Snapshot) → snapshot_behind request y s ≡ s
copy_kept request same None s = refl
copy_kept request same (Some x) None = refl
copy_kept request same (Some x) (Some s) = ap Some (same x s)
