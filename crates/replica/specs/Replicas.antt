-- A replica as its node has it, complete or reserved, and what its calls make of it.
use Rattle.std.specs.Prelude.{◌≡◌, ℕ, ◌+◌, ◌-◌, ◌<◌, ◌≤◌, ◌^◌, List, [], ◌∷◌, drop, length, Option, Some, None, Result, Ok, Err, IsOk, Bool, ◌&&◌, ◌||◌, ◌==◌, nat_lt, if◌then◌else◌, ℤ}
use Rattle.ckpt_types.specs.declared.attributes.CreationAttributes.{CreationAttributes}
use Rattle.ckpt_types.specs.declared.calls.Held.{Held}
use Rattle.ckpt_types.specs.declared.identities.CallId.{CallId}
use Rattle.ckpt_types.specs.declared.update.IoElement.{IoElement}
use Rattle.ckpt_types.specs.declared.update.Update.{Update}
use Rattle.ckpt_types.specs.declared.update.Update.TheVariants as updates
use Rattle.ckpt_types.specs.Sections.{Section, opening}
use Rattle.ckpt_types.specs.Updates.{Refusal, outcome}
use Rattle.update_rules.specs.Told.{refused_of}
use Rattle.section_store.specs.StoreState.{with_corrupted}
use Rattle.stage_slot.specs.Slots.{Slot}
use Rattle.weak_marks.specs.Marks.{Marked, elements_in, with_next_done}
use Rattle.snap_copy.specs.Snapshots.{Snapshot}
use Rattle.replica.specs.declared.replica.Older.{Older}
use Rattle.replica.specs.declared.replica.StageRefused.{StageRefused}
use Rattle.replica.specs.declared.replica.StageRefused.TheVariants as refusals

-- its checkpoint, what that declares, its sections, how many updates it has taken, its own generation, what is staged, and the weak write that is under way
pub record Replica : Type 0 where
  pub ckpt : ℕ
  pub attributes : CreationAttributes
  pub sections : List Section
  pub count : ℕ
  pub generation : ℕ
  pub slot : Option Slot
  pub marks : Option Marked

-- as a reservation makes it: the opening sections, no update, the first generation, no slot and no marks
abbrev pub opened_replica : ℕ → CreationAttributes → ℤ → Replica
opened_replica k a made = record { ckpt = k; attributes = a; sections = opening a made; count = 0; generation = 1; slot = None; marks = None }

-- ---- what holds an update off, and what begins where nothing does

-- what an update makes of the sections of a replica at a moment
abbrev pub outcome_on : Replica → Update → ℤ → Result (List Section) Refusal
outcome_on x update t = outcome x.attributes update t x.sections

-- what an update is answered: the call that stands in its way holds it off; else the sections decide, by the outcome
abbrev pub answer_unless : Option CallId → Result (List Section) Refusal → Result (Unit {0}) StageRefused
answer_unless (Some holder) after = Err (refusals.Held holder)
answer_unless None (Ok sections) = Ok tt
answer_unless None (Err why) = Err (refusals.Rules (refused_of why))

-- what stands after it: what stood already, or the new where the update has an outcome
abbrev pub standing_or : {A : Type 0} → Option A → Result (List Section) Refusal → A → Option A
standing_or (Some old) after new = Some old
standing_or None (Ok sections) new = Some new
standing_or None (Err why) new = None

-- ---- staging

-- what a call's update is put into the slot as
abbrev pub staged_by : CallId → Update → ℤ → Replica → Slot
staged_by call update t x = record { owner = call; update = update; moment = t; count = x.count }

-- the replica after a stage: its slot alone changes
abbrev pub staged : CallId → Update → ℤ → Replica → Replica
staged call update t x = record x { slot = standing_or x.slot (outcome_on x update t) (staged_by call update t x) }

-- ---- a snapshot

-- the snapshot has what the replica has
abbrev pub pulled_from : Replica → Snapshot → Snapshot
pulled_from x s = record s { sections = x.sections; generation = x.generation; count = x.count }

-- marks hold a pull off, with their call
abbrev pub pull_result : Option CallId → Result (Unit {0}) Held
pull_result (Some holder) = Err (record { by = holder })
pull_result None = Ok tt

-- and nothing is pulled through them
abbrev pub pulled_unless : Option CallId → Replica → Snapshot → Snapshot
pulled_unless (Some holder) x s = s
pulled_unless None x s = pulled_from x s

-- by their generations and counts of updates, what the first has is earlier than what the second has: its generation is lower, or the same with fewer updates
abbrev pub is_earlier : ℕ → ℕ → ℕ → ℕ → Bool
is_earlier generation count other others = nat_lt generation other || ((generation == other) && nat_lt count others)

-- the replica is older than the snapshot
abbrev pub is_older : Replica → Snapshot → Bool
is_older x s = is_earlier x.generation x.count s.generation s.count

-- only an older one takes it; another tells its own generation and count
abbrev pub install_answer : Replica → Snapshot → Result (Unit {0}) Older
install_answer x s = if is_older x s then Ok tt else Err (record { generation = x.generation; count = x.count })

-- the replica has what the snapshot has
abbrev pub taken_from : Snapshot → Replica → Replica
taken_from s x = record x { sections = s.sections; generation = s.generation; count = s.count }

-- the replica behind an installation
abbrev pub installed : Snapshot → Replica → Replica
installed s x = if is_older x s then taken_from s x else x

-- ---- the ends of what is staged

-- the sections of the outcome, or the same where there is none
abbrev pub or_same : Result (List Section) Refusal → List Section → List Section
or_same (Ok sections) old = sections
or_same (Err why) old = old

-- the sections are the outcome of the staged update, it counts, and the slot is empty
abbrev pub committed : Replica → Option Slot → Replica
committed x None = x
committed x (Some slot) = record x {
  sections = or_same (outcome_on x slot.update slot.moment) x.sections;
  count = x.count + 1;
  slot = None;
}

-- the slot is empty, and all else as it was
abbrev pub withdrawn : Replica → Replica
withdrawn x = record x { slot = None }

-- ---- an update in one step

-- the sections are the outcome, and the update counts, where it has one and no marks stand
abbrev pub applied_by : Option Marked → Result (List Section) Refusal → Replica → Replica
applied_by (Some marked) after x = x
applied_by None (Ok sections) x = record x { sections = sections; count = x.count + 1 }
applied_by None (Err why) x = x

-- the replica after an update that is applied at once
abbrev pub applied : Update → ℤ → Replica → Replica
applied update t x = applied_by x.marks (outcome_on x update t) x

-- ---- a weak write, element by element

-- it is a write, of whatever elements
abbrev pub IsWrite : Update → Type 0
IsWrite (updates.Write elements) = Unit {0}
IsWrite update = ⊥

-- what a weak write is marked as, of which no element is done
abbrev pub marked_by : CallId → Update → ℤ → Replica → Marked
marked_by call update t x = record { call = call; update = update; moment = t; done = 0; generation = x.generation }

-- the replica after its begin: its marks alone change
abbrev pub begun : CallId → Update → ℤ → Replica → Replica
begun call update t x = record x { marks = standing_or x.marks (outcome_on x update t) (marked_by call update t x) }

-- what the first of these elements alone leaves of sections
abbrev pub first_written : CreationAttributes → ℤ → List IoElement → List Section → List Section
first_written a t [] sections = sections
first_written a t (e ∷ elements) sections = or_same (outcome a (updates.Write (e ∷ [])) t sections) sections

-- the sections of a replica after the first of these elements alone
abbrev pub first_done : Replica → ℤ → List IoElement → List Section
first_done x t elements = first_written x.attributes t elements x.sections

-- the elements of a weak write that are not done
abbrev pub elements_left : Marked → List IoElement
elements_left marked = drop marked.done (elements_in marked.update)

-- the elements of a weak write that are not done have an outcome on these sections, at its moment
abbrev pub CanGoOn : CreationAttributes → Marked → List Section → Type 0
CanGoOn a marked sections = IsOk (outcome a (updates.Write (elements_left marked)) marked.moment sections)

-- the next element is done, at the moment of the marks
abbrev pub element_done : Replica → Option Marked → Replica
element_done x None = x
element_done x (Some marked) = record x {
  sections = first_done x marked.moment (elements_left marked);
  marks = with_next_done (Some marked);
}

-- the weak write counts, and its marks go
abbrev pub ended : Replica → Replica
ended x = record x { count = x.count + 1; marks = None }

-- the sections that these elements write, where they stand, are corrupted
abbrev pub all_corrupted : List IoElement → List Section → List Section
all_corrupted [] sections = sections
all_corrupted (e ∷ elements) sections = all_corrupted elements (with_corrupted e.id sections)

-- a weak write whose call is gone: all sections that it writes are corrupted, it counts, and its marks go
abbrev pub abandoned : Replica → Option Marked → Replica
abandoned x None = x
abandoned x (Some marked) = record x {
  sections = all_corrupted (elements_in marked.update) x.sections;
  count = x.count + 1;
  marks = None;
}

-- ---- what a replica keeps to

-- what is staged has an outcome on the sections, was staged at this count, and counts
pub record IsStagedOn (x : Replica) (slot : Slot) : Type 0 where
  pub fits : IsOk (outcome_on x slot.update slot.moment)
  pub count : slot.count ≡ x.count
  pub room : x.count < 2 ^ 64 - 1

-- nothing is staged, or it is staged so
abbrev pub KeepsSlot : Replica → Option Slot → Type 0
KeepsSlot x None = Unit {0}
KeepsSlot x (Some slot) = IsStagedOn x slot

-- a weak write is under way, whose elements that are left have an outcome on the sections; it counts, and nothing is staged
pub record IsMarkedOn (x : Replica) (marked : Marked) : Type 0 where
  pub write : IsWrite marked.update
  pub done : marked.done ≤ length (elements_in marked.update)
  pub fits : CanGoOn x.attributes marked x.sections
  pub room : x.count < 2 ^ 64 - 1
  pub alone : x.slot ≡ None

-- no marks stand, or they stand so
abbrev pub KeepsMarks : Replica → Option Marked → Type 0
KeepsMarks x None = Unit {0}
KeepsMarks x (Some marked) = IsMarkedOn x marked
