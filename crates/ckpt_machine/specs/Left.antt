-- How many steps are left of a call in hand, at most.
use Rattle.std.specs.Option.{option_map}
use Rattle.std.specs.Prelude.{ℕ, ◌+◌, ◌*◌, ◌==◌, List, [], ◌∷◌, Option, Some, None, is_some, Bool, true, false, not, ◌&&◌, if◌then◌else◌}
use Rattle.ckpt_machine.specs.Drivers.{Driver}
use Rattle.ckpt_machine.specs.Drivers as drivers
use Rattle.cluster_record.specs.declared.calls.ActiveKind.{ActiveKind}
use Rattle.cluster_record.specs.declared.calls.ActiveKind.TheVariants as kinds
use Rattle.cluster_record.specs.declared.calls.Making.{Making}
use Rattle.cluster_record.specs.declared.calls.MarksMade.{MarksMade}
use Rattle.cluster_record.specs.declared.calls.PulledAt.{PulledAt}
use Rattle.cluster_record.specs.Calls.{same_call}
use Rattle.cluster_record.specs.DueCopy.{CopyState, lacks_replica}
use Rattle.cluster_record.specs.DueSync.{SyncState, is_unserved}
use Rattle.cluster_record.specs.Placement.{is_all}
use Rattle.cluster_record.specs.declared.copying.Copying.{Copying}
use Rattle.cluster_record.specs.declared.copying.CopyPhase.{CopyPhase}
use Rattle.cluster_record.specs.declared.copying.CopyPhase.TheVariants.{Reserved, PulledActive, PulledStaged}
use Rattle.cluster_record.specs.declared.copying.CopyPhase.TheVariants.{Staging as CopyStaging, Committing as CopyCommitting}
use Rattle.cluster_record.specs.DueUpdate.{UpdateState}
use Rattle.ckpt_machine.specs.Machine.{Staged, ReplicaState}
use Rattle.ckpt_types.specs.declared.identities.CallId.{CallId}
use Rattle.cluster_record.specs.declared.entries.Entry.{Entry}
use Rattle.cluster_record.specs.declared.calls.SyncKind.{SyncKind}
use Rattle.cluster_record.specs.declared.calls.SyncKind.TheVariants.{Synchronize, ActiveSet}
use Rattle.ckpt_machine.specs.InHand.{is_held_by}
use Rattle.cluster_record.specs.declared.calls.UpdatePhase.{UpdatePhase}
use Rattle.cluster_record.specs.declared.calls.UpdatePhase.TheVariants.{Staging, Committing, Claiming, Claimed, Withdrawing, Resolving}
use Rattle.cluster_record.specs.RecordState.{RecordState, entry_of, complete_of, is_active}
use Rattle.cluster_record.specs.StepDone.{lacks, has, first_lacking}

-- how many of the nodes the call lacks, and has
abbrev pub lacking : List ℕ → List ℕ → ℕ
lacking [] own = 0
lacking (c ∷ cs) [] = 0
lacking (c ∷ cs) (o ∷ os) = (if lacks c o then 1 else 0) + lacking cs os

-- how many of the nodes the call has
abbrev pub having : List ℕ → List ℕ → ℕ
having [] own = 0
having (c ∷ cs) [] = 0
having (c ∷ cs) (o ∷ os) = (if has c o then 1 else 0) + having cs os

-- a making creates, reserves on each node and finishes; ten steps are more than any takes
abbrev pub making_left : RecordState → Option Making → ℕ
making_left R None = 10
making_left R (Some m) = if m.refused then 1 else lacking R.up m.reserved + 1

-- one step is left where else none is: a look
abbrev pub or_one : ℕ → ℕ
or_one n = if n == 0 then 1 else n

-- of an update that has no slot: it stages at each of so many nodes and then commits at all; but where a slot stands at the lowest of them, it is held
-- off by that, claims at each and withdraws or commits there first
abbrev pub afresh : ℕ → Bool → ℕ
afresh nodes stands = if stands then 5 * nodes + 1 else 2 * nodes

-- where it has none of its nodes, what is left of an update that has no slot; else so many
abbrev pub unless_afresh : ℕ → ℕ → Bool → ℕ → ℕ
unless_afresh had nodes stands steps = if had == 0 then afresh nodes stands else steps

-- whose slot stands on a replica, if one does
abbrev pub slot_owner : Option ReplicaState → Option CallId
slot_owner None = None
slot_owner (Some x) = option_map (λ (slot : Staged). slot.owner) x.slot

-- and at the lowest node that a call lacks
abbrev pub owner_met : (ℕ → Option ReplicaState) → Option ℕ → Option CallId
owner_met replicas None = None
owner_met replicas (Some r) = slot_owner (replicas r)

-- it is another call than this one
abbrev pub is_third : CallId → Option CallId → Bool
is_third owner None = false
is_third owner (Some by) = not (same_call by owner)

-- one that is to claim meets the owner of each slot, of which there may be as many as nodes, and claims it; then it withdraws or commits what it has
-- claimed, and does its own update
abbrev pub claiming_left : ℕ → ℕ → Bool → ℕ
claiming_left lacked had third = 2 * lacked + (if third then 1 else 0) + 3 * (lacked + had)

-- by so many nodes that an update lacks, and has, and the owner of the slot that it is to meet: it stages at each node that it lacks and then commits
-- at all, or commits at those that it has
abbrev pub at_nodes_left : ℕ → ℕ → CallId → Option CallId → UpdatePhase → ℕ
at_nodes_left lacked had owner met Staging = unless_afresh had lacked (is_some met) (2 * lacked + had)
at_nodes_left lacked had owner met Committing = had
at_nodes_left lacked had owner met Claiming = claiming_left lacked had (is_third owner met)
at_nodes_left lacked had owner met Claimed = unless_afresh had lacked (is_some met) (claiming_left lacked had (is_third owner met))
at_nodes_left lacked had owner met Withdrawing = unless_afresh had lacked (is_some met) (had + 2 * (lacked + had))
at_nodes_left lacked had owner met Resolving = unless_afresh had lacked (is_some met) (had + 2 * (lacked + had))

-- and a look where no step at a node is left
abbrev pub update_left_by : ℕ → ℕ → CallId → Option CallId → UpdatePhase → ℕ
update_left_by lacked had owner met phase = or_one (at_nodes_left lacked had owner met phase)

-- the same by its nodes and by what they have
abbrev pub update_left : List ℕ → (ℕ → Option ReplicaState) → UpdateState → ℕ
update_left complete replicas u =
    update_left_by (lacking complete u.owned) (having complete u.owned) u.owner (owner_met replicas (first_lacking 0 complete u.owned)) u.phase

-- a weak write makes its marks, does each element and ends them; any other call to the active is of one step
abbrev pub active_left : ActiveKind → Option MarksMade → ℕ
active_left (kinds.Weak n) None = n + 2
active_left kind None = 1
active_left kind (Some marks) = marks.left + 1

-- how many complete nodes are not served
abbrev pub unserved : List ℕ → List Bool → ℕ
unserved [] served = 0
unserved (c ∷ cs) [] = 0
unserved (c ∷ cs) (b ∷ bs) = (if is_unserved c b then 1 else 0) + unserved cs bs

-- a synchronisation pulls and serves each node; ten steps are more than any takes
abbrev pub sync_left : List ℕ → SyncState → Option PulledAt → ℕ
sync_left complete s None = 10
sync_left complete s (Some pulled) = unserved complete s.served + 1

-- the setting of an active holds its checkpoint and then sets it; one step is left once it holds, and where the checkpoint is gone
abbrev pub setting_left : CallId → Option Entry → ℕ
setting_left call None = 1
setting_left call (Some e) = if is_held_by call e.hold then 1 else 2

-- by which of the two a call is
abbrev pub kind_left : Option Entry → SyncState → SyncKind → ℕ
kind_left o s (Synchronize deadline) = sync_left (complete_of o) s s.pulled
kind_left o s (ActiveSet local) = setting_left s.call o

-- a checkpoint that is copied takes so many steps, at most: a reservation, those of an update, a pull, a completion, and the commit at the node that joins
abbrev pub copied_within : ℕ
copied_within = 46

-- of how many checkpoints the node lacks a replica, other than this one
abbrev pub lacked_besides : ℕ → Option ℕ → List Entry → ℕ
lacked_besides r k [] = 0
lacked_besides r k (e ∷ es) = (if lacks_replica r e && not (is_active k e.identity) then 1 else 0) + lacked_besides r k es

-- at a checkpoint: behind its update's stages come a pull, a completion and one commit more; of what the active has, a pull and a completion
abbrev pub phase_left : Bool → ℕ → ℕ → CopyPhase → ℕ
phase_left true left had Reserved = left + 3
phase_left false left had Reserved = 2
phase_left all left had CopyStaging = left + 3
phase_left all left had (PulledActive generation) = 1
phase_left all left had PulledStaged = had + 2
phase_left all left had CopyCommitting = had

-- so many at a checkpoint that is there, and none at one that is gone
abbrev pub at_ckpt_left : Option Entry → (ℕ → Option ReplicaState) → CopyState → CopyPhase → ℕ
at_ckpt_left None replicas c phase = 0
at_ckpt_left (Some e) replicas c phase =
    phase_left (is_all e.attributes) (update_left e.complete replicas c.staging) (having e.complete c.staging.owned) phase

-- and so many at each other that its node lacks; a look where no step is left
abbrev pub copying_left : RecordState → (ℕ → ℕ → Option ReplicaState) → CopyState → Option Copying → ℕ
copying_left R replicas c None = or_one (copied_within * lacked_besides c.node None R.entries)
copying_left R replicas c (Some at) =
    or_one (at_ckpt_left (entry_of at.ckpt R.entries) (replicas at.ckpt) c at.phase + copied_within * lacked_besides c.node (Some at.ckpt) R.entries)

-- at most so many steps are left of a call, by the record and by what the nodes have
abbrev pub steps_left : RecordState → (ℕ → ℕ → Option ReplicaState) → Driver → ℕ
steps_left R replicas (drivers.Once x) = 1
steps_left R replicas (drivers.Open o) = making_left R o.making
steps_left R replicas (drivers.Update u) = update_left (complete_of (entry_of u.ckpt R.entries)) (replicas u.ckpt) u
steps_left R replicas (drivers.Active a) = active_left a.kind a.marks
steps_left R replicas (drivers.Sync s) = kind_left (entry_of s.ckpt R.entries) s s.kind
steps_left R replicas (drivers.Copy c) = copying_left R replicas c c.copying

-- an update on all replicas ends within 41 steps, a copying of sixteen checkpoints within 736, and any other call within 66
abbrev pub most_steps : Driver → ℕ
most_steps (drivers.Update u) = 41
most_steps (drivers.Copy c) = 736
most_steps d = 66
