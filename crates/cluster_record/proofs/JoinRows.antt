-- Worked examples of a node that comes back, each by computation. A table is a map over its questions.
use Rattle.std.proofs.Common.{◌≡◌, ℕ, ◌+◌, List, [], ◌∷◌, map, codes, Option, Some, None, true, false, refl}
use Rattle.std.specs.Option.{option_map}
use Rattle.ckpt_types.specs.declared.identities.ActorName.TheVariants.{Node}
use Rattle.ckpt_types.specs.declared.identities.CallId.{CallId}
use Rattle.ckpt_types.specs.Limits.{wr_all_replicas, wr_active_replica, wr_active_replica_weak, checkpoint_collocated}
use Rattle.cluster_record.specs.declared.entries.Entry.{Entry}
use Rattle.cluster_record.specs.Failing.{failed}
use Rattle.cluster_record.specs.Joining.{node_joined, completed}
use Rattle.cluster_record.specs.LookUps.{up_as}
use Rattle.cluster_record.specs.RecordState.{RecordState, entry_of, is_live, is_live_client, opened}
use Rattle.cluster_record.proofs.FailRows.{failing_begun, failing_made, three_nodes, no_counts, led_by}

-- ---- the words of the examples

-- a call of a node
abbrev call_of_node : ℕ → ℕ → CallId
call_of_node r number = record { actor = Node r; number = number }

-- by node, with which incarnation it is complete for a checkpoint
abbrev complete_for : ℕ → RecordState → Option (List ℕ)
complete_for k R = option_map (λ (e : Entry). e.complete) (entry_of k R.entries)

-- a node fails, where no replica has an update, and joins with its call 5
abbrev gone_and_back : ℕ → RecordState → RecordState
gone_and_back r R = node_joined r 5 (failed no_counts r R)

-- c0 makes a checkpoint with these flags on all nodes, and c1 has it open too; of those that only their openers' nodes have, on n0 and n1
abbrev made_on_nodes : ℕ → RecordState
made_on_nodes flags = opened 1 1 (failing_made 0 (codes "a") flags three_nodes)

-- ---- a join

-- n1 before it fails, behind that, once it has joined, and once it has failed and joined again with its call 8
pub next_life_has_the_next_incarnation :
    map (up_as 1) (three_nodes ∷ failed no_counts 1 three_nodes ∷ gone_and_back 1 three_nodes ∷ node_joined 1 8 (failed no_counts 1 (gone_and_back 1 three_nodes)) ∷ [])
    ≡ Some (1, 1) ∷ None ∷ Some (2, 5) ∷ Some (3, 8) ∷ []
next_life_has_the_next_incarnation = refl

-- one that has never been up has its first
pub first_life_has_the_first : map (λ r. up_as r (node_joined 5 1 three_nodes)) (2 ∷ 5 ∷ 6 ∷ []) ≡ Some (1, 1) ∷ Some (1, 1) ∷ None ∷ []
first_life_has_the_first = refl

pub last_incarnations_tell_so : (gone_and_back 1 three_nodes).last_incarnations ≡ 1 ∷ 2 ∷ 1 ∷ 0 ∷ 0 ∷ 0 ∷ 0 ∷ 0 ∷ []
last_incarnations_tell_so = refl

-- its calls 4 and 5, before it fails, behind that, and once it has joined
pub calls_of_before_are_not_live :
    map (λ R. map (λ number. is_live R (call_of_node 1 number)) (4 ∷ 5 ∷ [])) (three_nodes ∷ failed no_counts 1 three_nodes ∷ gone_and_back 1 three_nodes ∷ [])
    ≡ (true ∷ true ∷ []) ∷ (false ∷ false ∷ []) ∷ (false ∷ true ∷ []) ∷ []
calls_of_before_are_not_live = refl

-- those of the other nodes are live as they were
pub calls_of_others_are : map (λ r. is_live (gone_and_back 1 three_nodes) (call_of_node r 4)) (0 ∷ 2 ∷ []) ≡ true ∷ true ∷ []
calls_of_others_are = refl

-- c1, which was on it, is live no more
pub its_clients_do_not_come_back : map (λ c. is_live_client c (gone_and_back 1 three_nodes)) (0 ∷ 1 ∷ 2 ∷ []) ≡ true ∷ false ∷ true ∷ []
its_clients_do_not_come_back = refl

pub it_has_no_replica : complete_for 1 (gone_and_back 1 (made_on_nodes wr_all_replicas)) ≡ Some (1 ∷ 0 ∷ 1 ∷ 0 ∷ 0 ∷ 0 ∷ 0 ∷ 0 ∷ [])
it_has_no_replica = refl

-- ---- it is complete for a checkpoint again

-- with updates on all replicas: n0 has come back, below the active n1, and is the active of the next generation
pub lowest_node_is_the_active : map (led_by 1) (gone_and_back 0 (made_on_nodes wr_all_replicas) ∷ completed 1 0 (gone_and_back 0 (made_on_nodes wr_all_replicas)) ∷ []) ≡ Some (Some 1, 2) ∷ Some (Some 0, 3) ∷ []
lowest_node_is_the_active = refl

pub it_is_complete_in_its_present_life : complete_for 1 (completed 1 0 (gone_and_back 0 (made_on_nodes wr_all_replicas))) ≡ Some (2 ∷ 1 ∷ 1 ∷ 0 ∷ 0 ∷ 0 ∷ 0 ∷ 0 ∷ [])
it_is_complete_in_its_present_life = refl

-- n1 and n2 have come back, above the active n0, which stays
pub higher_node_is_not : map (λ r. led_by 1 (completed 1 r (gone_and_back r (made_on_nodes wr_all_replicas)))) (1 ∷ 2 ∷ []) ≡ Some (Some 0, 1) ∷ Some (Some 0, 1) ∷ []
higher_node_is_not = refl

pub higher_nodes_are_complete :
    map (λ r. complete_for 1 (completed 1 r (gone_and_back r (made_on_nodes wr_all_replicas)))) (1 ∷ 2 ∷ [])
    ≡ Some (1 ∷ 2 ∷ 1 ∷ 0 ∷ 0 ∷ 0 ∷ 0 ∷ 0 ∷ []) ∷ Some (1 ∷ 1 ∷ 2 ∷ 0 ∷ 0 ∷ 0 ∷ 0 ∷ 0 ∷ []) ∷ []
higher_nodes_are_complete = refl

-- with updates on the active alone, at once or weakly: n0 is complete again, and the active stays
pub active_of_the_others_stays :
    map (λ flags. led_by 1 (completed 1 0 (gone_and_back 0 (made_on_nodes flags)))) (wr_active_replica ∷ wr_active_replica_weak ∷ [])
    ≡ Some (Some 1, 2) ∷ Some (Some 1, 2) ∷ []
active_of_the_others_stays = refl

pub though_it_is_complete : complete_for 1 (completed 1 0 (gone_and_back 0 (made_on_nodes wr_active_replica))) ≡ Some (2 ∷ 1 ∷ 1 ∷ 0 ∷ 0 ∷ 0 ∷ 0 ∷ 0 ∷ [])
though_it_is_complete = refl

-- a node that joins for the first time, below none that is complete, and is complete for what was made before it
pub first_life_is_complete_too : complete_for 1 (completed 1 5 (node_joined 5 1 (made_on_nodes wr_all_replicas))) ≡ Some (1 ∷ 1 ∷ 1 ∷ 0 ∷ 0 ∷ 1 ∷ 0 ∷ 0 ∷ [])
first_life_is_complete_too = refl

-- ---- where nothing changes

-- the checkpoint is collocated
pub collocated_one_stays : completed 1 1 (gone_and_back 1 (made_on_nodes (wr_active_replica + checkpoint_collocated))) ≡ gone_and_back 1 (made_on_nodes (wr_active_replica + checkpoint_collocated))
collocated_one_stays = refl

-- it is in the making by c0, where n1 has come back
pub making_stays : completed 1 1 (gone_and_back 1 (failing_begun 0 (codes "a") wr_all_replicas three_nodes)) ≡ gone_and_back 1 (failing_begun 0 (codes "a") wr_all_replicas three_nodes)
making_stays = refl

abbrev n1_gone : RecordState
n1_gone = failed no_counts 1 (made_on_nodes wr_all_replicas)

-- the node has failed, has never been up, or is none of the cluster's
pub without_the_node_it_stays : map (λ r. completed 1 r n1_gone) (1 ∷ 5 ∷ 9 ∷ []) ≡ n1_gone ∷ n1_gone ∷ n1_gone ∷ []
without_the_node_it_stays = refl

-- the node is complete already
pub complete_one_stays : completed 1 1 (completed 1 1 (gone_and_back 1 (made_on_nodes wr_all_replicas))) ≡ completed 1 1 (gone_and_back 1 (made_on_nodes wr_all_replicas))
complete_one_stays = refl

-- another checkpoint is meant, or one that is not there
pub others_stay : map (λ k. complete_for 1 (completed k 1 (gone_and_back 1 (failing_made 0 (codes "b") wr_all_replicas (made_on_nodes wr_all_replicas))))) (2 ∷ 3 ∷ []) ≡ Some (1 ∷ 0 ∷ 1 ∷ 0 ∷ 0 ∷ 0 ∷ 0 ∷ 0 ∷ []) ∷ Some (1 ∷ 0 ∷ 1 ∷ 0 ∷ 0 ∷ 0 ∷ 0 ∷ 0 ∷ []) ∷ []
others_stay = refl
