-- Worked examples of a replica's life, each by computation: an update that is staged, committed and dropped, a weak write that
-- is done element by element or cut short, and a snapshot that is pulled and installed.
use Rattle.std.proofs.Common.{◌≡◌, ℕ, List, [], ◌∷◌, map, codes, pos, Some, None, Result, Ok, Err, true, false, refl}
use Rattle.ckpt_types.specs.declared.attributes.CreationAttributes.{CreationAttributes}
use Rattle.ckpt_types.specs.declared.identities.ActorName.TheVariants.{Client}
use Rattle.ckpt_types.specs.declared.identities.CallId.{CallId}
use Rattle.ckpt_types.specs.declared.sections.SectionState.{SectionState}
use Rattle.ckpt_types.specs.declared.sections.SectionState.TheVariants.{Valid, Corrupted}
use Rattle.ckpt_types.specs.declared.update.Update.{Update}
use Rattle.ckpt_types.specs.declared.update.Update.TheVariants as updates
use Rattle.ckpt_types.specs.Limits.{wr_all_replicas}
use Rattle.ckpt_types.specs.Sections.{Section}
use Rattle.snap_copy.specs.Snapshots.{Snapshot}
use Rattle.stage_slot.specs.Slots.{owner_of}
use Rattle.weak_marks.specs.Marks.{call_of, is_left_of}
use Rattle.replica.specs.declared.replica.StageRefused.{StageRefused}
use Rattle.replica.specs.declared.replica.StageRefused.TheVariants as refusals
use Rattle.replica.specs.Replicas.{Replica, opened_replica, outcome_on, answer_unless, staged, committed, withdrawn, applied, begun, element_done, ended, abandoned, pull_result, pulled_unless, install_answer, installed}

-- ---- the words of the examples

-- one section of at most 8 bytes
abbrev one_of_8 : CreationAttributes
one_of_8 = record { creation_flags = wr_all_replicas; checkpoint_size = 8; retention_duration = pos 0; max_sections = 1; max_section_size = 8; max_section_id_size = 8 }

-- a replica of the checkpoint 1, made at a moment
abbrev new_at : ℕ → Replica
new_at made = opened_replica 1 one_of_8 (pos made)

-- three calls
abbrev first : CallId
first = record { actor = Client 0; number = 3 }

abbrev second : CallId
second = record { actor = Client 1; number = 3 }

-- a write at the front of the default section, at 5
abbrev write : List ℕ → Update
write bytes = updates.Write (record { id = []; offset = 0; bytes = bytes } ∷ [])

abbrev stages : CallId → List ℕ → Replica → Replica
stages call bytes x = staged call (write bytes) (pos 5) x

abbrev marks : CallId → List ℕ → Replica → Replica
marks call bytes x = begun call (write bytes) (pos 5) x

abbrev applies : List ℕ → Replica → Replica
applies bytes x = applied (write bytes) (pos 5) x

-- what a stage, and an update in one step or a weak write, answer
abbrev stage_answer : List ℕ → Replica → Result (Unit {0}) StageRefused
stage_answer bytes x = answer_unless (owner_of x.slot) (outcome_on x (write bytes) (pos 5))

abbrev apply_answer : List ℕ → Replica → Result (Unit {0}) StageRefused
apply_answer bytes x = answer_unless (call_of x.marks) (outcome_on x (write bytes) (pos 5))

-- the bytes and the state of each section, and how many updates the replica has
abbrev bytes_and_state : Section → List ℕ × SectionState
bytes_and_state s = (s.bytes, s.state)

abbrev what_it_has : Replica → List (List ℕ × SectionState) × ℕ
what_it_has x = (map bytes_and_state x.sections, x.count)

-- ---- an update is staged, and committed or dropped

abbrev staged_by_first : Replica
staged_by_first = stages first (codes "ab") (new_at 2)

pub update_is_staged : (stage_answer (codes "ab") (new_at 2) ≡ Ok tt) × (owner_of staged_by_first.slot ≡ Some first)
update_is_staged = (refl, refl)

pub another_is_held_off : (stage_answer (codes "cd") staged_by_first ≡ Err (refusals.Held first)) × (stages second (codes "cd") staged_by_first ≡ staged_by_first)
another_is_held_off = (refl, refl)

pub staged_it_is_not_there : what_it_has staged_by_first ≡ (([], Valid) ∷ [], 0)
staged_it_is_not_there = refl

pub committed_it_is : what_it_has (committed staged_by_first staged_by_first.slot) ≡ ((codes "ab", Valid) ∷ [], 1)
committed_it_is = refl

pub commit_leaves_the_slot_empty : (committed staged_by_first staged_by_first.slot).slot ≡ None
commit_leaves_the_slot_empty = refl

pub what_is_withdrawn_leaves_nothing : withdrawn staged_by_first ≡ new_at 2
what_is_withdrawn_leaves_nothing = refl

-- ---- a weak write, element by element

abbrev marked_by_first : Replica
marked_by_first = marks first (codes "ab") (new_at 2)

pub marked_it_is_not_there : (apply_answer (codes "ab") (new_at 2) ≡ Ok tt) × (what_it_has marked_by_first ≡ (([], Valid) ∷ [], 0))
marked_it_is_not_there = (refl, refl)

-- a weak write of another, and an update in one step
pub marks_hold_others_off : (apply_answer (codes "cd") marked_by_first ≡ Err (refusals.Held first)) × (marks second (codes "cd") marked_by_first ≡ marked_by_first) × (applies (codes "ef") marked_by_first ≡ marked_by_first)
marks_hold_others_off = (refl, refl, refl)

abbrev with_its_element : Replica
with_its_element = element_done marked_by_first marked_by_first.marks

pub its_element_is_left_till_it_is_done : (is_left_of marked_by_first.marks ≡ true) × (is_left_of with_its_element.marks ≡ false)
its_element_is_left_till_it_is_done = (refl, refl)

pub element_is_there_and_does_not_count : what_it_has with_its_element ≡ ((codes "ab", Valid) ∷ [], 0)
element_is_there_and_does_not_count = refl

pub no_element_is_done_twice : element_done with_its_element with_its_element.marks ≡ with_its_element
no_element_is_done_twice = refl

pub ended_it_counts : (what_it_has (ended with_its_element) ≡ ((codes "ab", Valid) ∷ [], 1)) × ((ended with_its_element).marks ≡ None)
ended_it_counts = (refl, refl)

pub then_an_update_is_applied : (apply_answer (codes "c") (ended with_its_element) ≡ Ok tt) × (what_it_has (applies (codes "c") (ended with_its_element)) ≡ ((codes "cb", Valid) ∷ [], 2))
then_an_update_is_applied = (refl, refl)

-- ---- a weak write that is cut short

pub without_marks_nothing_is_cut_short : abandoned (new_at 2) (new_at 2).marks ≡ new_at 2
without_marks_nothing_is_cut_short = refl

abbrev cut_short : Replica
cut_short = abandoned marked_by_first marked_by_first.marks

pub what_is_cut_short_is_corrupted : what_it_has cut_short ≡ (([], Corrupted) ∷ [], 1)
what_is_cut_short_is_corrupted = refl

pub its_marks_go : cut_short.marks ≡ None
its_marks_go = refl

-- ---- a snapshot of what has taken an update, and not in the midst of a weak write

abbrev with_ab : Replica
with_ab = applies (codes "ab") (new_at 2)

abbrev empty_snapshot : Snapshot
empty_snapshot = record { attributes = one_of_8; sections = []; generation = 0; count = 0 }

abbrev pulled : Snapshot
pulled = pulled_unless (call_of with_ab.marks) with_ab empty_snapshot

pub pull_is_done : pull_result (call_of with_ab.marks) ≡ Ok tt
pull_is_done = refl

abbrev in_its_midst : Replica
in_its_midst = element_done (marks first (codes "cd") with_ab) (marks first (codes "cd") with_ab).marks

pub marks_hold_a_pull_off : (pull_result (call_of in_its_midst.marks) ≡ Err (record { by = first })) × (pulled_unless (call_of in_its_midst.marks) in_its_midst pulled ≡ pulled)
marks_hold_a_pull_off = (refl, refl)

-- another without an update takes it over, once
pub older_one_takes_it_over : (install_answer (new_at 7) pulled ≡ Ok tt) × (what_it_has (installed pulled (new_at 7)) ≡ ((codes "ab", Valid) ∷ [], 1))
older_one_takes_it_over = (refl, refl)

pub then_it_is_no_older : install_answer (installed pulled (new_at 7)) pulled ≡ Err (record { generation = 1; count = 1 })
then_it_is_no_older = refl

-- ---- what is older: by the generation first, and then by the count

-- a replica and a snapshot of this generation, with so many updates
abbrev replica_of : ℕ → ℕ → Replica
replica_of generation count = record (new_at 2) { generation = generation; count = count }

abbrev snapshot_of : ℕ → ℕ → Snapshot
snapshot_of generation count = record empty_snapshot { generation = generation; count = count }

pub equal_pair : install_answer (replica_of 1 0) (snapshot_of 1 0) ≡ Err (record { generation = 1; count = 0 })
equal_pair = refl

pub more_updates : install_answer (replica_of 1 0) (snapshot_of 1 2) ≡ Ok tt
more_updates = refl

pub same_once_more : install_answer (installed (snapshot_of 1 2) (replica_of 1 0)) (snapshot_of 1 2) ≡ Err (record { generation = 1; count = 2 })
same_once_more = refl

pub fewer_updates : install_answer (replica_of 1 2) (snapshot_of 1 1) ≡ Err (record { generation = 1; count = 2 })
fewer_updates = refl

pub newer_generation_with_fewer_updates : install_answer (replica_of 1 2) (snapshot_of 2 0) ≡ Ok tt
newer_generation_with_fewer_updates = refl

pub older_generation_with_more : install_answer (installed (snapshot_of 2 0) (replica_of 1 2)) (snapshot_of 1 9) ≡ Err (record { generation = 2; count = 0 })
older_generation_with_more = refl
