-- A replica that an open adds on a node.
use Rattle.std.proofs.Common.{◌≡◌, ℕ, ◌<◌, ◌≤◌, ◌++◌, true, false, List, [], ◌∷◌, length, sym, ap, subst, ◌∙◌, cond}
use Rattle.std.specs.Prelude.{Option, Some, None, ◌==◌, ◌&&◌, slice_get, slice_set}
use Rattle.cluster_record.specs.declared.entries.Entry.{Entry}
use Rattle.cluster_record.specs.Placement.{adds}
use Rattle.cluster_record.specs.Places.{list_or}
use Rattle.node_core.specs.Nodes.{replica_key, with_reserved}
use Rattle.replica.specs.Replicas.{Replica, opened_replica}
use Rattle.ckpt_machine.specs.Nodes.{replica_in, with_added, with_opened}
use Rattle.node_core.proofs.OnceByKey.{counted, counted-push}
use Rattle.ckpt_machine.specs.Holding.{replicas_on}
use Rattle.ckpt_machine.proofs.HoldingLaws.{once_set}
use Rattle.ckpt_machine.proofs.Reserving.{NoneButThis, reserved_here}

-- the replica that an open of a checkpoint adds
abbrev pub added_replica : Entry → Replica
added_replica e = record (opened_replica e.identity e.attributes e.made) { generation = e.generation }

-- after an addition, the replica of each checkpoint on each node
pub added_here : (nodes : List (List Replica)) (r : ℕ) (e : Entry) → r < length nodes → replica_in nodes e.identity r ≡ None →
    (j q : ℕ) → replica_in (with_added e r nodes) j q ≡ cond ((j == e.identity) && (q == r)) (Some (added_replica e)) (replica_in nodes j q)
added_here nodes r e within none j q =
    ap (λ o. replica_in (slice_set nodes r (with_reserved o (added_replica e) (list_or (slice_get nodes r)))) j q) (sym none)
    ∙ reserved_here nodes r (added_replica e) within (subst (NoneButThis (added_replica e)) (sym none) tt) j q

-- an open of a checkpoint that is there adds one, or none
pub opened_none : (o : Option Entry) (e : Entry) (r : ℕ) (nodes : List (List Replica)) → o ≡ Some e → adds e.attributes r e.complete ≡ false → nodes ≡ with_opened o r nodes
opened_none o e r nodes there none = sym (ap (λ o. with_opened o r nodes) there ∙ ap (λ b. cond b (with_added e r nodes) nodes) none)

pub opened_adds : (o : Option Entry) (e : Entry) (r : ℕ) (nodes : List (List Replica)) → o ≡ Some e → adds e.attributes r e.complete ≡ true → with_added e r nodes ≡ with_opened o r nodes
opened_adds o e r nodes there new = sym (ap (λ o. with_opened o r nodes) there ∙ ap (λ b. cond b (with_added e r nodes) nodes) new)

-- and no checkpoint has two replicas on one node
pub added_once : (nodes : List (List Replica)) (r : ℕ) (e : Entry) → r < length nodes → replica_in nodes e.identity r ≡ None → ((q k : ℕ) → counted replica_key k (replicas_on nodes q) ≤ 1) → (q k : ℕ) → counted replica_key k (replicas_on (with_added e r nodes) q) ≤ 1
added_once nodes r e within none once = once_set nodes r within (replicas_on nodes r ++ added_replica e ∷ []) (counted-push replica_key (replicas_on nodes r) (added_replica e) none (once r)) once
