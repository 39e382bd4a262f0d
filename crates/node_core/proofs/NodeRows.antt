-- Worked examples of what a node answers and becomes, each by computation: a slot that is claimed, a checkpoint that the
-- record does not have, and one whose retention was set. What becomes of one replica stands in ReplicaRows of the crate replica.
use Rattle.std.proofs.Common.{◌≡◌, [], ◌∷◌, codes, pos, Option, Some, None, refl}
use Rattle.ckpt_types.specs.declared.answers.Answer.TheVariants as answers
use Rattle.ckpt_types.specs.declared.attributes.CreationAttributes.{CreationAttributes}
use Rattle.ckpt_types.specs.declared.identities.ActorName.TheVariants.{Client, Node}
use Rattle.ckpt_types.specs.declared.identities.CallId.{CallId}
use Rattle.ckpt_types.specs.declared.update.Update.TheVariants as updates
use Rattle.ckpt_types.specs.Limits.{wr_all_replicas}
use Rattle.node_msgs.specs.declared.changes.NodeChange.TheVariants as changes
use Rattle.node_msgs.specs.declared.details.Details.TheVariants as beside
use Rattle.node_msgs.specs.declared.replies.Reply.TheVariants as replies
use Rattle.node_msgs.specs.declared.requests.Request.TheVariants as requests
use Rattle.cluster_record.specs.RecordState.{RecordState, empty_record, brought_up, created_as, retained}
use Rattle.replica.specs.Replicas.{Replica, opened_replica, staged, committed}
use Rattle.stage_slot.specs.Slots.{Slot, owner_of}
use Rattle.node_core.specs.declared.lent.Lent.{Lent}
use Rattle.node_core.specs.Changing.{changed_node, seen_for_change, ChangeFits}
use Rattle.node_core.specs.Fitting.{RequestFits}
use Rattle.node_core.specs.Nodes.{NodeState, node_after, seen_for, seen_from, served_for}
use Rattle.node_core.specs.Payloads.{no_payload}
use Rattle.node_core.specs.Serving.{claim_reply, claimed_by, details_at, reply_at}

-- ---- a slot is taken over by who names its owner

abbrev first_call : CallId
first_call = record { actor = Client 0; number = 3 }

abbrev second_call : CallId
second_call = record { actor = Client 1; number = 3 }

abbrev third_call : CallId
third_call = record { actor = Node 2; number = 1 }

-- one section of at most 8 bytes is declared, and no retention
abbrev declared : CreationAttributes
declared = record { creation_flags = wr_all_replicas; checkpoint_size = 8; retention_duration = pos 0; max_sections = 1; max_section_size = 8; max_section_id_size = 8 }

-- a replica of it, on which the first call has staged a write
abbrev staged_by_first : Replica
staged_by_first = staged first_call (updates.Write (record { id = []; offset = 0; bytes = codes "ab" } ∷ [])) (pos 5) (opened_replica 1 declared (pos 2))

-- where none stands
pub no_slot_to_claim : claim_reply second_call first_call 0 None ≡ replies.Free 0
no_slot_to_claim = refl

-- the second call names the third as its owner
pub slot_of_another_stays : claim_reply second_call third_call 0 staged_by_first.slot ≡ replies.Held first_call
slot_of_another_stays = refl

pub another_owns_it_still : owner_of (claimed_by second_call third_call staged_by_first.slot) ≡ Some first_call
another_owns_it_still = refl

-- it names the first
abbrev claimed_by_second : Option Slot
claimed_by_second = claimed_by second_call first_call staged_by_first.slot

pub slot_of_its_owner_is_claimed : claim_reply second_call first_call 0 staged_by_first.slot ≡ replies.Claimed 0
slot_of_its_owner_is_claimed = refl

pub second_owns_it_then : owner_of claimed_by_second ≡ Some second_call
second_owns_it_then = refl

-- and commits what the first has staged
pub what_was_claimed_is_committed : committed (record staged_by_first { slot = claimed_by_second }) claimed_by_second ≡ committed staged_by_first staged_by_first.slot
what_was_claimed_is_committed = refl

-- ---- a checkpoint that the record does not have

abbrev without_entries : RecordState
without_entries = brought_up 1 empty_record

abbrev a_new_node : NodeState
a_new_node = record { number = 0; replicas = [] }

pub it_is_not_served : reply_at (requests.Status 1) no_payload (seen_from without_entries a_new_node 1) (served_for without_entries a_new_node (requests.Status 1)) ≡ replies.NoReplica
it_is_not_served = refl

-- to ask for it fits, whatever is lent; to reserve or to add it does not, and to drop it does
pub its_status_may_be_asked : (lent : Lent) → RequestFits (seen_for without_entries a_new_node (requests.Status 1)) a_new_node (requests.Status 1) lent
its_status_may_be_asked lent = tt

pub it_is_not_reserved : (lent : Lent) → RequestFits (seen_for without_entries a_new_node (requests.Reserve 1)) a_new_node (requests.Reserve 1) lent → ⊥
it_is_not_reserved lent fits = fits

pub it_is_not_added : (lent : Lent) → ChangeFits (seen_for_change without_entries a_new_node (changes.Add 1 1)) a_new_node (changes.Add 1 1) lent → ⊥
it_is_not_added lent fits = fits.0

pub it_may_be_dropped : (lent : Lent) → ChangeFits (seen_for_change without_entries a_new_node (changes.Drop 1)) a_new_node (changes.Drop 1) lent
it_may_be_dropped lent = tt

-- ---- a checkpoint whose retention was set

-- it is in the making, which declares no retention, and then keeps one of 7
abbrev with_retention : RecordState
with_retention = retained 1 (pos 7) (created_as first_call (codes "a") (Some declared) without_entries)

-- a node reserves it as it was made, and so does one that adds it
pub reserved_as_it_was_made : node_after (seen_for with_retention a_new_node (requests.Reserve 1)) a_new_node (requests.Reserve 1) no_payload (replies.Done answers.Nothing) ≡ record { number = 0; replicas = opened_replica 1 declared (pos 0) ∷ [] }
reserved_as_it_was_made = refl

pub added_as_it_was_made : changed_node (seen_for_change with_retention a_new_node (changes.Add 1 1)) (changes.Add 1 1) no_payload a_new_node ≡ record { number = 0; replicas = opened_replica 1 declared (pos 0) ∷ [] }
added_as_it_was_made = refl

-- its status tells the retention that was set
pub status_tells_what_was_set : details_at (requests.Status 1) no_payload (seen_for with_retention a_new_node (requests.Status 1)) (Some (opened_replica 1 declared (pos 0))) ≡ beside.Status (record { attributes = record declared { retention_duration = pos 7 }; number_of_sections = 1; memory_used = 0 })
status_tells_what_was_set = refl
