-- How a replica shows itself.
use Rattle.std.specs.Prelude.{◌≡◌, List, Option, Some, None, true, ℤ}
use Rattle.ckpt_types.specs.declared.update.Update.{Update}
use Rattle.section_store.specs.declared.plan.Planned.{Planned}
use Rattle.section_store.specs.Planned.{is_short, planned}
use Rattle.section_store.specs.StoreState.{StoreState}
use Rattle.stage_slot.specs.Slots.{Slot}
use Rattle.replica.specs.Replicas.{Replica, KeepsSlot, KeepsMarks}
use Rattle.replica.specs.declared.replica.Replica.TheInside.{Inside}

-- a replica as contracts see it, whose sections are those of its store
abbrev pub replica_shown : Inside → Replica
replica_shown x = record { ckpt = x.ckpt; attributes = x.store.attributes; sections = x.store.sections; count = x.count; generation = x.generation; slot = x.slot; marks = x.marks }

-- the plan says where the update goes in the store at that moment, unless the update is too long for a plan
abbrev pub IsPlanOf : Update → ℤ → StoreState → List Planned → Type 0
IsPlanOf update t store plan = is_short update ≡ true → plan ≡ planned store.attributes update t store.sections

-- nothing is staged, or the plan is that of what is staged, at its moment
abbrev pub KeepsPlan : StoreState → List Planned → Option Slot → Type 0
KeepsPlan store plan None = Unit {0}
KeepsPlan store plan (Some slot) = IsPlanOf slot.update slot.moment store plan

-- what it keeps to
pub record KeepsAll (x : Inside) : Type 0 where
  pub slot : KeepsSlot (replica_shown x) x.slot
  pub plan : KeepsPlan x.store x.plan x.slot
  pub marks : KeepsMarks (replica_shown x) x.marks
