-- What the nodes keep of a checkpoint is listed as the machine lists it.
use Rattle.std.proofs.Common.{◌≡◌, ℕ, suc, ◌+◌, List, [], ◌∷◌, ◌++◌, length, map, Option, Some, None, cond, ◌==◌, ℤ, refl, sym, ap, subst, ◌∙◌, append_assoc, append-nil, arith}
use Rattle.std.specs.Prelude.{slice_index}
use Rattle.ckpt_types.specs.declared.identities.CallId.{CallId}
use Rattle.run_labels.specs.declared.shown.ShownReplica.{ShownReplica}
use Rattle.run_labels.specs.declared.labels.Label.TheVariants.{Shown}
use Rattle.cluster_record.specs.declared.entries.Entry.{Entry}
use Rattle.cluster_record.specs.RecordState.{entry_of, complete_of}
use Rattle.ckpt_machine.specs.Complete.{with_replica, replicas_from}
use Rattle.ckpt_machine.specs.Listing.{replica_listed, listing_made, listing_of, listing_at}
use Rattle.ckpt_machine.specs.Machine.{Machine, ReplicaState}
use Rattle.replica.specs.Replicas.{Replica}
use Rattle.ckpt_machine.specs.Nodes.{replica_in}
use Rattle.world_core.specs.declared.world.World.{World}
use Rattle.world_core.specs.Happenings.{TellsReplicas}
use Rattle.world_core.specs.Listing.{world_listing}
use Rattle.ckpt_machine.specs.NodeListing.{node_listed, nodes_listed, made_listed, entry_listed}
use Rattle.world_core.specs.Shows.{History, HistoryFits, machine_of}
use Rattle.ckpt_machine.specs.Shown.{FitsReplica, shown_replica, where_complete, complete_replica}
use Rattle.ckpt_machine.proofs.NodeListings.{one_is}

-- ---- all nodes

module _ (w : World) (h : History) (fits : HistoryFits w h) (k : ℕ) (e : Entry) (found : entry_of k w.cluster.entries ≡ Some e) where
  -- at the moment
  abbrev t : ℤ
  t = w.cluster.moment

  -- where a node is complete
  complete_is : (r : ℕ) → complete_replica w.cluster w.nodes k r ≡ cond (slice_index e.complete r == 0) None (replica_in w.nodes k r)
  complete_is r = ap (λ (o : Option Entry). where_complete (slice_index (complete_of o) r) (replica_in w.nodes k r)) found

  -- the node that comes next
  next_is : (c r : ℕ) (rest : List (ℕ × ReplicaState)) → slice_index e.complete r ≡ c
      → map (replica_listed t e.active) (cond (c == 0) rest (with_replica r ((machine_of w h).replicas k r) rest)) ≡ node_listed w.nodes k e t r ++ map (replica_listed t e.active) rest
  next_is c r rest is =
      ap (λ (c : ℕ). map (replica_listed t e.active) (cond (c == 0) rest (with_replica r ((machine_of w h).replicas k r) rest))) (sym is)
      ∙ ap (λ (o : Option Replica). map (replica_listed t e.active) (cond (slice_index e.complete r == 0) rest (with_replica r (shown_replica (h.effects k r) (h.origins k r) o) rest))) (complete_is r)
      ∙ one_is t e.active k r (entry_of k w.cluster.entries) (h.effects k r) (h.origins k r) rest (slice_index e.complete r == 0) (replica_in w.nodes k r) (subst (FitsReplica k (entry_of k w.cluster.entries) (h.effects k r)) (complete_is r) (fits.replicas k r))

  -- with one node more
  nodes_more : (n : ℕ) → nodes_listed w.nodes k e t n ++ node_listed w.nodes k e t n ≡ nodes_listed w.nodes k e t (n + 1)
  nodes_more n = ap (nodes_listed w.nodes k e t) (let next : suc n ≡ n + 1 = omega arith in next)

  -- those from a node on, behind those of the nodes below it
  from_is : (cs : List ℕ) (n : ℕ) → ((i : ℕ) → slice_index e.complete (n + i) ≡ slice_index cs i)
      → nodes_listed w.nodes k e t n ++ map (replica_listed t e.active) (replicas_from ((machine_of w h).replicas k) n cs) ≡ nodes_listed w.nodes k e t (n + length cs)
  from_is [] n same = append-nil (nodes_listed w.nodes k e t n) ∙ ap (nodes_listed w.nodes k e t) (let none : n ≡ n + 0 = omega arith in none)
  from_is (c ∷ cs) n same =
      let rest = replicas_from ((machine_of w h).replicas k) (n + 1) cs in
      let here : slice_index e.complete n ≡ c = ap (slice_index e.complete) (let at : n ≡ n + 0 = omega arith in at) ∙ same 0 in
      let one_more : n + 1 + length cs ≡ n + length (c ∷ cs) = omega arith in
      ap (λ shown. nodes_listed w.nodes k e t n ++ shown) (next_is c n rest here)
      ∙ sym (append_assoc (nodes_listed w.nodes k e t n) (node_listed w.nodes k e t n) (map (replica_listed t e.active) rest))
      ∙ ap (λ shown. shown ++ map (replica_listed t e.active) rest) (nodes_more n)
      ∙ from_is cs (n + 1) (λ i. ap (slice_index e.complete) (let at : n + 1 + i ≡ n + suc i = omega arith in at) ∙ same (suc i))
      ∙ ap (nodes_listed w.nodes k e t) one_more

  made_is : (making : Option CallId) → made_listed w.nodes k e t making ≡ listing_made (machine_of w h) k e.active making
  made_is (Some maker) = refl
  made_is None = ap Some (
      ap (nodes_listed w.nodes k e t) (let all : length e.complete ≡ 0 + length e.complete = omega arith in all)
      ∙ sym (from_is e.complete 0 (λ i. ap (slice_index e.complete) (let same : 0 + i ≡ i = omega arith in same)))
      ∙ ap (λ (o : Option Entry). map (replica_listed t e.active) (replicas_from ((machine_of w h).replicas k) 0 (complete_of o))) (sym found))

-- WHAT THE WORLD LISTS is what the machine lists
pub listing_is : (w : World) (h : History) → HistoryFits w h → (k : ℕ) → world_listing w k ≡ listing_at (machine_of w h) k
listing_is w h fits k = by_entry (entry_of k w.cluster.entries) refl where
  by_entry : (o : Option Entry) → entry_of k w.cluster.entries ≡ o → entry_listed w.nodes k w.cluster.moment o ≡ listing_of (machine_of w h) k o
  by_entry None found = refl
  by_entry (Some e) found = made_is w h fits k e found e.making

-- and a `show` line tells it
pub tells : (w : World) (k : ℕ) (shown : Option (List ShownReplica)) → shown ≡ world_listing w k → TellsReplicas k w w (Shown k shown)
tells w k shown is = record {
  label_is = refl;
  same = refl;
  does = record {
    due_is = λ m s f. is ∙ listing_is w s.history s.fits k ∙ ap (λ (m : Machine). listing_at m k) (sym s.same);
    shows = λ m s f. s;
  };
}
