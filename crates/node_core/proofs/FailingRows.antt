-- Worked examples of what the failure of a node makes of the replicas of each, by computation.
use Rattle.std.proofs.Common.{◌≡◌, ℕ, List, [], ◌∷◌, map, codes, pos, Option, Some, None, refl}
use Rattle.ckpt_types.specs.declared.attributes.CreationAttributes.{CreationAttributes}
use Rattle.ckpt_types.specs.declared.identities.ActorName.TheVariants.{Client}
use Rattle.ckpt_types.specs.declared.identities.CallId.{CallId}
use Rattle.ckpt_types.specs.declared.sections.SectionState.{SectionState}
use Rattle.ckpt_types.specs.declared.sections.SectionState.TheVariants.{Valid, Corrupted}
use Rattle.ckpt_types.specs.declared.update.Update.TheVariants as updates
use Rattle.ckpt_types.specs.Limits.{wr_active_replica_weak}
use Rattle.ckpt_types.specs.Sections.{Section}
use Rattle.node_msgs.specs.declared.changes.NodeChange.{NodeChange}
use Rattle.node_msgs.specs.declared.changes.NodeChange.TheVariants as changes
use Rattle.cluster_record.specs.Failing.{failed}
use Rattle.cluster_record.specs.Makings.{making_finished}
use Rattle.cluster_record.specs.RecordState.{RecordState, empty_record, brought_up, created_as, entered}
use Rattle.replica.specs.Replicas.{Replica, opened_replica, begun}
use Rattle.node_core.specs.Changing.{changed_node, seen_for_change}
use Rattle.node_core.specs.Failing.{next_change, node_left}
use Rattle.node_core.specs.Nodes.{NodeState}
use Rattle.node_core.specs.Payloads.{no_payload}

-- ---- n0 fails, with c0, which is making `b`; c1 has made `a` on all nodes, of which n0 is the active

-- one section of at most 8 bytes, written at the active alone, element by element
abbrev written_weakly : CreationAttributes
written_weakly = record { creation_flags = wr_active_replica_weak; checkpoint_size = 8; retention_duration = pos 0; max_sections = 1; max_section_size = 8; max_section_id_size = 8 }

-- a call of a client
abbrev call_by : ℕ → CallId
call_by c = record { actor = Client c; number = 2 }

abbrev before_n0_fails : RecordState
before_n0_fails = created_as (call_by 0) (codes "b") (Some written_weakly) (making_finished 1 (created_as (call_by 1) (codes "a") (Some written_weakly) (entered 1 1 1 (entered 0 0 1 (brought_up 3 empty_record)))))

-- no replica has an update, so that the active is n1 then, in generation 2
abbrev n0_has_failed : RecordState
n0_has_failed = failed (λ k r. 0) 0 before_n0_fails

-- a replica of `a` or `b`, as it was made
abbrev replica_of : ℕ → Replica
replica_of k = opened_replica k written_weakly (pos 0)

-- one on which a weak write of a client stands
abbrev marked_by : ℕ → Replica
marked_by c = begun (call_by c) (updates.Write (record { id = []; offset = 0; bytes = codes "xy" } ∷ [])) (pos 0) (replica_of 1)

abbrev node_with : ℕ → List Replica → NodeState
node_with r xs = record { number = r; replicas = xs }

-- ---- the changes that are due, in order

abbrev due_next : NodeState → Option NodeChange
due_next n = next_change n0_has_failed 0 n

abbrev behind : Option NodeChange → NodeState → NodeState
behind None n = n
behind (Some change) n = changed_node (seen_for_change n0_has_failed n change) change no_payload n

-- the node behind the next one
abbrev behind_next : NodeState → NodeState
behind_next n = behind (due_next n) n

-- on n1 a weak write was cut short, n1 is the new active, and `b` is gone
abbrev on_n1 : NodeState
on_n1 = node_with 1 (marked_by 0 ∷ replica_of 2 ∷ [])

pub changes_on_n1 : map due_next (on_n1 ∷ behind_next on_n1 ∷ behind_next (behind_next on_n1) ∷ behind_next (behind_next (behind_next on_n1)) ∷ []) ≡ Some (changes.Break 1) ∷ Some (changes.Lead 1 2) ∷ Some (changes.Drop 2) ∷ None ∷ []
changes_on_n1 = refl

pub they_leave_what_the_failure_leaves : behind_next (behind_next (behind_next on_n1)) ≡ node_left n0_has_failed 0 on_n1
they_leave_what_the_failure_leaves = refl

-- by node and what it has, the change that is due first
pub first_changes : map due_next (
    node_with 2 (marked_by 0 ∷ [])
    ∷ node_with 2 (marked_by 1 ∷ [])
    ∷ node_with 1 (replica_of 1 ∷ [])
    ∷ node_with 2 (replica_of 1 ∷ [])
    ∷ node_with 2 (replica_of 2 ∷ replica_of 1 ∷ [])
    ∷ node_with 0 (replica_of 1 ∷ replica_of 2 ∷ [])
    ∷ node_with 0 []
    ∷ []
    ) ≡ (
    Some (changes.Break 1)
    ∷ None
    ∷ Some (changes.Lead 1 2)
    ∷ None
    ∷ Some (changes.Drop 2)
    ∷ Some changes.Clear
    ∷ None
    ∷ []
    )
first_changes = refl

-- ---- what they leave

-- the bytes and the state of each section of a replica, its count, and its generation
abbrev bytes_and_state : Section → List ℕ × SectionState
bytes_and_state s = (s.bytes, s.state)

abbrev shown : Replica → List (List ℕ × SectionState) × ℕ × ℕ
shown x = (map bytes_and_state x.sections, x.count, x.generation)

abbrev left_of : NodeState → List Replica
left_of n = (node_left n0_has_failed 0 n).replicas

-- what it was to write is corrupted, and it counts
pub write_of_c0_is_cut_short : map shown (left_of (node_with 2 (marked_by 0 ∷ []))) ≡ (([], Corrupted) ∷ [], 1, 1) ∷ []
write_of_c0_is_cut_short = refl

pub write_of_c1_goes_on : left_of (node_with 2 (marked_by 1 ∷ [])) ≡ marked_by 1 ∷ []
write_of_c1_goes_on = refl

pub new_active_has_the_generation : map shown (left_of (node_with 1 (replica_of 1 ∷ []))) ≡ (([], Valid) ∷ [], 0, 2) ∷ []
new_active_has_the_generation = refl

pub what_is_gone_goes : left_of (node_with 2 (replica_of 2 ∷ replica_of 1 ∷ [])) ≡ replica_of 1 ∷ []
what_is_gone_goes = refl

pub failed_node_has_nothing : left_of (node_with 0 (replica_of 1 ∷ replica_of 2 ∷ [])) ≡ []
failed_node_has_nothing = refl
