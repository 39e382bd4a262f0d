-- Worked examples of the failure of a node, each by computation. A table is a map over its questions.
use Rattle.std.proofs.Common.{◌≡◌, ℕ, ◌+◌, List, [], ◌∷◌, map, codes, pos, Option, Some, None, true, false, refl}
use Rattle.std.specs.Prelude.{slice_index}
use Rattle.std.specs.Option.{option_map}
use Rattle.ckpt_types.specs.declared.identities.ActorName.TheVariants.{Client}
use Rattle.ckpt_types.specs.declared.identities.CallId.{CallId}
use Rattle.ckpt_types.specs.Limits.{wr_all_replicas, wr_active_replica, wr_active_replica_weak, checkpoint_collocated}
use Rattle.cluster_record.specs.declared.counts.UpdateCount.{UpdateCount}
use Rattle.cluster_record.specs.declared.entries.Entry.{Entry}
use Rattle.cluster_record.specs.Counts.{count_told}
use Rattle.cluster_record.specs.Failing.{failed}
use Rattle.cluster_record.specs.LookUps.{identity_in}
use Rattle.cluster_record.specs.Makings.{making_finished}
use Rattle.cluster_record.specs.Opening.{after_open}
use Rattle.cluster_record.specs.RecordState.{RecordState, empty_record, brought_up, entered, entry_of, identity_of, named, home_of, is_up, is_live_client, moved, opened, hold_set, active_set}

-- ---- the words of the examples

-- a call of a client
abbrev pub failing_call : ℕ → CallId
failing_call c = record { actor = Client c; number = 2 }

-- a client begins to make a checkpoint with these flags, kept for 10 after its last close
abbrev pub failing_begun : ℕ → List ℕ → ℕ → RecordState → RecordState
failing_begun c name flags R = after_open (failing_call c) (record {
  name = name;
  attrs = Some (record { creation_flags = flags; checkpoint_size = 64; retention_duration = pos 10; max_sections = 1; max_section_size = 64; max_section_id_size = 8 });
  client = c;
  node = home_of c R;
}) R

-- and makes it
abbrev pub failing_made : ℕ → List ℕ → ℕ → RecordState → RecordState
failing_made c name flags R = making_finished (R.last_identity + 1) (failing_begun c name flags R)

-- three nodes, with c0 on n0, c1 on n1 and c2 on n2
abbrev pub three_nodes : RecordState
three_nodes = entered 2 2 1 (entered 1 1 1 (entered 0 0 1 (brought_up 3 empty_record)))

-- no replica has an update
abbrev pub no_counts : ℕ → ℕ → ℕ
no_counts k r = 0

-- the identity of a name
abbrev failing_named : RecordState → List ℕ → Option ℕ
failing_named R name = identity_in (named name R.entries)

-- who is the active of a checkpoint, and its generation
abbrev active_and_generation : Entry → Option ℕ × ℕ
active_and_generation e = (e.active, e.generation)

abbrev pub led_by : ℕ → RecordState → Option (Option ℕ × ℕ)
led_by k R = option_map active_and_generation (entry_of k R.entries)

-- and who holds it
abbrev active_and_hold : Entry → Option ℕ × Option CallId
active_and_hold e = (e.active, e.hold)

-- how often c0 and c1 have it open
abbrev open_to_c0_and_c1 : Entry → ℕ × ℕ
open_to_c0_and_c1 e = (slice_index e.references 0, slice_index e.references 1)

-- ---- n1 fails at 7: c0 and c1 have `a` open, c1 alone has `b`; c1 is making `c`, and c0 is making `d`

abbrev before_it_fails : RecordState
before_it_fails = moved (pos 7) (failing_begun 0 (codes "d") wr_all_replicas (failing_begun 1 (codes "c") wr_all_replicas (failing_made 1 (codes "b") wr_all_replicas (opened 1 1 (failing_made 0 (codes "a") wr_all_replicas three_nodes)))))

abbrev n1_has_failed : RecordState
n1_has_failed = failed no_counts 1 before_it_fails

pub node_that_fails_is_up_no_more : map (λ r. is_up r n1_has_failed) (0 ∷ 1 ∷ 2 ∷ []) ≡ true ∷ false ∷ true ∷ []
node_that_fails_is_up_no_more = refl

pub its_clients_are_live_no_more : map (λ c. is_live_client c n1_has_failed) (0 ∷ 1 ∷ 2 ∷ []) ≡ true ∷ false ∷ true ∷ []
its_clients_are_live_no_more = refl

-- of `a` and `b`, by c0 and by c1
pub its_clients_have_nothing_open : map (λ k. option_map open_to_c0_and_c1 (entry_of k n1_has_failed.entries)) (1 ∷ 2 ∷ []) ≡ Some (1, 0) ∷ Some (0, 0) ∷ []
its_clients_have_nothing_open = refl

-- of `a`, which c0 has open still, and of `b`
pub failure_is_a_last_close : map (λ k. option_map (λ (e : Entry). e.idle) (entry_of k n1_has_failed.entries)) (1 ∷ 2 ∷ []) ≡ Some (pos 0) ∷ Some (pos 7) ∷ []
failure_is_a_last_close = refl

-- so `b` is kept for 10 from then on
pub then_retention_begins : map (λ t. failing_named (moved t n1_has_failed) (codes "b")) (pos 16 ∷ pos 17 ∷ []) ≡ Some 2 ∷ None ∷ []
then_retention_begins = refl

pub its_clients_making_goes_and_no_other : map (failing_named n1_has_failed) (codes "a" ∷ codes "b" ∷ codes "c" ∷ codes "d" ∷ []) ≡ Some 1 ∷ Some 2 ∷ None ∷ Some 4 ∷ []
its_clients_making_goes_and_no_other = refl

-- of `a`, and of `d`, which is in the making
pub nothing_is_complete_there : map (λ k. option_map (λ (e : Entry). e.complete) (entry_of k n1_has_failed.entries)) (1 ∷ 4 ∷ []) ≡ Some (1 ∷ 0 ∷ 1 ∷ 0 ∷ 0 ∷ 0 ∷ 0 ∷ 0 ∷ []) ∷ Some (0 ∷ 0 ∷ 0 ∷ 0 ∷ 0 ∷ 0 ∷ 0 ∷ 0 ∷ []) ∷ []
nothing_is_complete_there = refl

-- ---- a checkpoint that has its active on n0, of each kind: it is made by c0, and opened by c1 and c2; of a collocated one n0 is set

abbrev with_active_on_n0 : ℕ → RecordState
with_active_on_n0 flags = active_set 1 0 (opened 1 2 (opened 1 1 (failing_made 0 (codes "a") flags three_nodes)))

-- n0 had 9 updates, and n1 and n2 have so many
abbrev counts_of : ℕ → ℕ → ℕ → ℕ → ℕ
counts_of n1 n2 = count_told (record { ckpt = 1; node = 2; count = n2 } ∷ record { ckpt = 2; node = 1; count = 8 } ∷ record { ckpt = 1; node = 1; count = n1 } ∷ record { ckpt = 1; node = 0; count = 9 } ∷ [])

-- n0 fails where n2 has more updates, both have as many, and n1 has more
abbrev n0_fails : ℕ → List (Option (Option ℕ × ℕ))
n0_fails flags = map (λ counts. led_by 1 (failed counts 0 (with_active_on_n0 flags))) (counts_of 3 5 ∷ counts_of 4 4 ∷ counts_of 5 3 ∷ [])

-- updates are on all replicas: the lowest node
pub lowest_is_the_next_active : n0_fails wr_all_replicas ≡ Some (Some 1, 2) ∷ Some (Some 1, 2) ∷ Some (Some 1, 2) ∷ []
lowest_is_the_next_active = refl

-- they go to the active alone, at once or weakly: the node with the most, the lowest of two
pub most_updated_is_the_next_active : map n0_fails (wr_active_replica ∷ wr_active_replica_weak ∷ []) ≡ (Some (Some 2, 2) ∷ Some (Some 1, 2) ∷ Some (Some 1, 2) ∷ []) ∷ (Some (Some 2, 2) ∷ Some (Some 1, 2) ∷ Some (Some 1, 2) ∷ []) ∷ []
most_updated_is_the_next_active = refl

-- a collocated one, whose generation rose to 2 when n0 was set: none
pub collocated_one_has_no_active_then : n0_fails (wr_active_replica + checkpoint_collocated) ≡ Some (None, 3) ∷ Some (None, 3) ∷ Some (None, 3) ∷ []
collocated_one_has_no_active_then = refl

-- n1 fails: the active stays, and the generation with it
pub active_of_another_node_stays : map (λ flags. led_by 1 (failed (counts_of 5 3) 1 (with_active_on_n0 flags))) (wr_all_replicas ∷ wr_active_replica ∷ wr_active_replica_weak ∷ (wr_active_replica + checkpoint_collocated) ∷ []) ≡ Some (Some 0, 1) ∷ Some (Some 0, 1) ∷ Some (Some 0, 1) ∷ Some (Some 0, 2) ∷ []
active_of_another_node_stays = refl

-- n0 fails, and then n1: n2 is left
pub last_node_leads : map (λ flags. led_by 1 (failed (counts_of 5 3) 1 (failed (counts_of 5 3) 0 (with_active_on_n0 flags)))) (wr_all_replicas ∷ wr_active_replica ∷ []) ≡ Some (Some 2, 3) ∷ Some (Some 2, 3) ∷ []
last_node_leads = refl

-- ---- a collocated checkpoint that a call of c0, c1 or c2 holds, where n1 fails: its hold ends, and no other

pub hold_ends_with_its_client :
    map (λ c. option_map (λ (e : Entry). e.hold) (entry_of 1 (failed no_counts 1 (hold_set 1 (failing_call c) (with_active_on_n0 (wr_active_replica + checkpoint_collocated)))).entries)) (0 ∷ 1 ∷ 2 ∷ [])
    ≡ Some (Some (failing_call 0)) ∷ Some None ∷ Some (Some (failing_call 2)) ∷ []
hold_ends_with_its_client = refl

-- that of another client stays where the active goes
pub hold_outlives_the_active : option_map active_and_hold (entry_of 1 (failed no_counts 0 (hold_set 1 (failing_call 1) (with_active_on_n0 (wr_active_replica + checkpoint_collocated)))).entries) ≡ Some (None, Some (failing_call 1))
hold_outlives_the_active = refl

-- ---- collocated checkpoints: `k` is on n0 alone, `l` on n0 and n1, and c2 is making `m`, where n0 fails

abbrev on_few_nodes : RecordState
on_few_nodes = failing_begun 2 (codes "m") (wr_active_replica + checkpoint_collocated) (opened 2 1 (failing_made 0 (codes "l") (wr_active_replica + checkpoint_collocated) (failing_made 0 (codes "k") (wr_active_replica + checkpoint_collocated) three_nodes)))

pub without_a_replica_it_goes_with_its_name : map (failing_named (failed no_counts 0 on_few_nodes)) (codes "k" ∷ codes "l" ∷ codes "m" ∷ []) ≡ None ∷ Some 2 ∷ Some 3 ∷ []
without_a_replica_it_goes_with_its_name = refl

pub others_are_left : map identity_of (failed no_counts 0 on_few_nodes).entries ≡ 2 ∷ 3 ∷ []
others_are_left = refl

-- where the last node fails, only a making would stay
pub last_node_takes_all : map identity_of (failed no_counts 0 (failing_made 0 (codes "a") wr_all_replicas (brought_up 1 empty_record))).entries ≡ []
last_node_takes_all = refl

-- ---- counts: what is told first counts, and what is not told is 0

abbrev some_counts : List UpdateCount
some_counts = record { ckpt = 1; node = 0; count = 7 } ∷ record { ckpt = 1; node = 1; count = 9 } ∷ record { ckpt = 2; node = 0; count = 4 } ∷ record { ckpt = 1; node = 1; count = 5 } ∷ []

pub counts_are_by_checkpoint_and_node : map (count_told some_counts 1) (0 ∷ 1 ∷ 2 ∷ []) ≡ 7 ∷ 9 ∷ 0 ∷ []
counts_are_by_checkpoint_and_node = refl

pub counts_of_another_checkpoint : map (count_told some_counts 2) (0 ∷ 1 ∷ []) ≡ 4 ∷ 0 ∷ []
counts_of_another_checkpoint = refl
