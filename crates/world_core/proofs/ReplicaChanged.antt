-- The replica of a checkpoint on a node that is complete for it is changed: what the world shows then.
use Rattle.std.proofs.Common.{◌≡◌, ℕ, List, false, cond, sym, ap, subst, ◌∙◌}
use Rattle.std.specs.Prelude.{Some, ◌==◌, ◌&&◌, slice_index}
use Rattle.ckpt_types.specs.declared.identities.CallId.{CallId}
use Rattle.cluster_record.specs.declared.entries.Entry.{Entry}
use Rattle.cluster_record.specs.Places.{put2}
use Rattle.cluster_record.specs.RecordState.{entry_of, complete_of}
use Rattle.ckpt_machine.specs.Machine.{Machine, Effect}
use Rattle.node_core.specs.Nodes.{replica_key}
use Rattle.replica.specs.Replicas.{Replica}
use Rattle.world_core.specs.declared.world.World.{World}
use Rattle.ckpt_machine.specs.Holding.{HoldsOnlyWhatStands}
use Rattle.ckpt_machine.specs.Nodes.{replica_in, with_changed}
use Rattle.world_core.specs.Shows.{History, HistoryFits, machine_of}
use Rattle.ckpt_machine.specs.Shown.{FitsReplica, complete_replica, shown_replica}
use Rattle.ckpt_machine.proofs.HoldingLaws.{holds_changed}
use Rattle.ckpt_machine.proofs.NodeMaps.{changed_here, complete_at_node, fits_replica, put_replica, reserved_same}
use Rattle.ckpt_machine.proofs.ServedNodes.{node_within}

-- the world shows this state of the machine with this history, and its nodes hold only what stands
pub record IsShownBy (m : Machine) (w : World) (h : History) : Type 0 where
  pub same : m ≡ machine_of w h
  pub fits : HistoryFits w h
  pub holds : HoldsOnlyWhatStands w.cluster w.nodes

module _ (w : World) (h : History) (fits : HistoryFits w h) (k r : ℕ) (e : Entry) (found : entry_of k w.cluster.entries ≡ Some e) (complete : (slice_index e.complete r == 0) ≡ false) (x : Replica) (there : replica_in w.nodes k r ≡ Some x) (E : List Effect) (o : CallId) where
  -- with these effects, which the changed one counts, and with this origin of its slot
  abbrev pub with_effects_of : History
  with_effects_of = record h { effects = put2 h.effects k r E; origins = put2 h.origins k r o }

  -- where the nodes have another one in its place
  module _ (nodes : List (List Replica)) (y : Replica) (at_each : (j q : ℕ) → replica_in nodes j q ≡ cond ((j == k) && (q == r)) (Some y) (replica_in w.nodes j q)) (holds : HoldsOnlyWhatStands w.cluster nodes) where
    complete_each : (j q : ℕ) → complete_replica w.cluster nodes j q ≡ cond ((j == k) && (q == r)) (Some y) (complete_replica w.cluster w.nodes j q)
    complete_each = complete_at_node w.cluster w.nodes nodes k r y at_each (ap (λ o. slice_index (complete_of o) r == 0) found ∙ complete)

    pub replica_put : FitsReplica k (Some e) E (Some y) → IsShownBy (record (machine_of w h) { replicas = put2 (machine_of w h).replicas k r (shown_replica E o (Some y)) }) (record w { nodes = nodes }) with_effects_of
    replica_put its = record {
      same =
          let replicas = put_replica h.effects h.origins (complete_replica w.cluster w.nodes) (complete_replica w.cluster nodes) k r E o y complete_each in
          let reserved = reserved_same w.cluster w.nodes nodes k r y x there at_each in
          λ i. record (machine_of (record w { nodes = nodes }) with_effects_of) { replicas = replicas i; reserved = λ j q. reserved j q i };
      fits = record {
        replicas = fits_replica w.cluster h.effects (complete_replica w.cluster w.nodes) (complete_replica w.cluster nodes) k r E y complete_each (subst (λ o. FitsReplica k o E (Some y)) (sym found) its) fits.replicas;
        copies = fits.copies;
        hands = fits.hands;
      };
      holds = holds;
    }

  -- where it is changed so
  module _ (holds : HoldsOnlyWhatStands w.cluster w.nodes) (f : Replica → Replica) (keeps_key : (x : Replica) → replica_key (f x) ≡ replica_key x) where
    pub replica_changed : FitsReplica k (Some e) E (Some (f x)) → IsShownBy (record (machine_of w h) { replicas = put2 (machine_of w h).replicas k r (shown_replica E o (Some (f x))) }) (record w { nodes = with_changed k r f w.nodes }) with_effects_of
    replica_changed = replica_put (with_changed k r f w.nodes) (f x) (changed_here w.nodes k r f keeps_key x there) (holds_changed w.cluster w.nodes holds r (node_within w.nodes k r x there) k e f keeps_key found complete)
