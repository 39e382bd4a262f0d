-- The nodes behind a completion, where the checkpoint is there and its node complete.
use Rattle.std.proofs.Common.{◌≡◌, ℕ, ℤ, List, false, cond, refl, sym, ap, ◌∙◌}
use Rattle.std.specs.Prelude.{Option, Some, None, ◌==◌, slice_index}
use Rattle.ckpt_types.specs.declared.identities.CallId.{CallId}
use Rattle.cluster_record.specs.declared.entries.Entry.{Entry}
use Rattle.node_core.specs.Nodes.{replica_key}
use Rattle.replica.specs.Replicas.{Replica}
use Rattle.snap_copy.specs.Snapshots.{Snapshot}
use Rattle.ckpt_machine.specs.Nodes.{with_changed}
use Rattle.world_core.specs.Copying.{copied_over, nodes_copied}

-- the replica that takes over what was pulled is of the same checkpoint
pub copied_key : (call : CallId) (moment : Option ℤ) (generation : ℕ) (s : Snapshot) (x : Replica) → replica_key (copied_over call moment generation s x) ≡ replica_key x
copied_key call None generation s x = refl
copied_key call (Some t) generation s x = refl

-- it alone is changed
pub copied_as : (nodes : List (List Replica)) (k r : ℕ) (call : CallId) (moment : Option ℤ) (o : Option Entry) (e : Entry) → o ≡ Some e → (pulled : Option Snapshot) (s : Snapshot) → pulled ≡ Some s → (slice_index e.complete r == 0) ≡ false →
    with_changed k r (copied_over call moment e.generation s) nodes ≡ nodes_copied k r call moment pulled o nodes
copied_as nodes k r call moment o e found pulled s is complete =
    sym ((λ i. nodes_copied k r call moment (is i) (found i) nodes) ∙ ap (λ b. cond b nodes (with_changed k r (copied_over call moment e.generation s) nodes)) complete)
