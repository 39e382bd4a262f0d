-- At least one step is left of a call in hand: of an update on all replicas at most 41, of a copying at most 736, of any other at most 66.
use Rattle.std.proofs.Common.{◌≡◌, ℕ, ◌+◌, ◌*◌, ◌≤◌, List, [], ◌∷◌, length, Option, Some, None, is_some, Bool, true, false, cond, not, ◌&&◌, refl, sym, ap, ◌∙◌, arith}
use Rattle.std.specs.Prelude.{◌==◌}
use Rattle.ckpt_types.specs.declared.identities.CallId.{CallId}
use Rattle.cluster_record.specs.declared.calls.ActiveKind.{ActiveKind}
use Rattle.cluster_record.specs.declared.calls.ActiveKind.TheVariants as kinds
use Rattle.cluster_record.specs.declared.calls.Making.{Making}
use Rattle.cluster_record.specs.declared.calls.MarksMade.{MarksMade}
use Rattle.cluster_record.specs.declared.calls.PulledAt.{PulledAt}
use Rattle.cluster_record.specs.declared.calls.SyncKind.{SyncKind}
use Rattle.cluster_record.specs.declared.calls.SyncKind.TheVariants.{Synchronize, ActiveSet}
use Rattle.cluster_record.specs.declared.calls.UpdatePhase.{UpdatePhase}
use Rattle.cluster_record.specs.declared.calls.UpdatePhase.TheVariants.{Staging, Committing, Claiming, Claimed, Withdrawing, Resolving}
use Rattle.cluster_record.specs.declared.entries.Entry.{Entry}
use Rattle.cluster_record.specs.declared.copying.Copying.{Copying}
use Rattle.cluster_record.specs.declared.copying.CopyPhase.{CopyPhase}
use Rattle.cluster_record.specs.declared.copying.CopyPhase.TheVariants.{Reserved, PulledActive, PulledStaged}
use Rattle.cluster_record.specs.declared.copying.CopyPhase.TheVariants.{Staging as CopyStaging, Committing as CopyCommitting}
use Rattle.cluster_record.specs.DueCopy.{CopyState}
use Rattle.cluster_record.specs.DueSync.{SyncState}
use Rattle.cluster_record.specs.Placement.{is_all}
use Rattle.cluster_record.specs.RecordState.{RecordState, entry_of, complete_of}
use Rattle.ckpt_machine.specs.Drivers.{Driver}
use Rattle.ckpt_machine.specs.Drivers as drivers
use Rattle.ckpt_machine.specs.InHand.{MarksFit, IsInPlace, is_held_by}
use Rattle.ckpt_machine.specs.Invariant.{InvariantIn, IsGoodIn}
use Rattle.ckpt_machine.specs.Laws.{StepsAreFew}
use Rattle.ckpt_machine.specs.Left.{afresh, at_nodes_left, claiming_left, is_third, unless_afresh, lacking, having, making_left, active_left, kind_left, most_steps, or_one, setting_left, steps_left, sync_left, update_left, update_left_by, copied_within, lacked_besides, phase_left, at_ckpt_left, copying_left}
use Rattle.ckpt_machine.specs.Machine.{Machine, ReplicaState, CallState}
use Rattle.ckpt_machine.specs.Shape.{Shape}
use Rattle.ckpt_machine.specs.Due.{driver_of}
use Rattle.ckpt_machine.proofs.CopyLeft.{lacked_few, lacked_fewer}
use Rattle.ckpt_machine.proofs.Served.{unserved-few}
use Rattle.ckpt_machine.proofs.StepsLeft.{positive}

-- ---- some are left

from_one : (n : ℕ) → 1 ≤ n + 1
from_one n = omega arith

making_left-from_one : (R : RecordState) (making : Option Making) → 1 ≤ making_left R making
making_left-from_one R None = omega arith
making_left-from_one R (Some making) = elim making.refused as (λ b. 1 ≤ cond b 1 (lacking R.up making.reserved + 1)) [ true ↦ omega arith | false ↦ from_one (lacking R.up making.reserved) ]

pub or_one-from_one : (n : ℕ) → 1 ≤ or_one n
or_one-from_one n = elim (n == 0) as (λ b. (n == 0) ≡ b → 1 ≤ cond b 1 n) [ true ↦ λ none. omega arith | false ↦ λ some. positive n some ] refl

update_left-from_one : (lacked had : ℕ) (owner : CallId) (met : Option CallId) (phase : UpdatePhase) → 1 ≤ update_left_by lacked had owner met phase
update_left-from_one lacked had owner met phase = or_one-from_one (at_nodes_left lacked had owner met phase)

active_left-from_one : (kind : ActiveKind) (marks : Option MarksMade) → 1 ≤ active_left kind marks
active_left-from_one (kinds.Weak n) None = omega arith
active_left-from_one (kinds.Weak n) (Some marks) = from_one _
active_left-from_one kind None = omega arith
active_left-from_one kind (Some marks) = from_one _

sync_left-from_one : (complete : List ℕ) (s : SyncState) (pulled : Option PulledAt) → 1 ≤ sync_left complete s pulled
sync_left-from_one complete s None = omega arith
sync_left-from_one complete s (Some pulled) = from_one _

setting_left-from_one : (call : CallId) (o : Option Entry) → 1 ≤ setting_left call o
setting_left-from_one call None = omega arith
setting_left-from_one call (Some e) = elim (is_held_by call e.hold) as (λ b. 1 ≤ cond b 1 2) [ true ↦ omega arith | false ↦ omega arith ]

kind_left-from_one : (o : Option Entry) (s : SyncState) (kind : SyncKind) → 1 ≤ kind_left o s kind
kind_left-from_one o s (Synchronize deadline) = sync_left-from_one (complete_of o) s s.pulled
kind_left-from_one o s (ActiveSet local) = setting_left-from_one s.call o

copying_left-from_one : (R : RecordState) (replicas : ℕ → ℕ → Option ReplicaState) (c : CopyState) (o : Option Copying) → 1 ≤ copying_left R replicas c o
copying_left-from_one R replicas c None = or_one-from_one (copied_within * lacked_besides c.node None R.entries)
copying_left-from_one R replicas c (Some at) = or_one-from_one (at_ckpt_left (entry_of at.ckpt R.entries) (replicas at.ckpt) c at.phase + copied_within * lacked_besides c.node (Some at.ckpt) R.entries)

-- at least one step is left of a call in hand
steps_left-from_one : (R : RecordState) (replicas : ℕ → ℕ → Option ReplicaState) (d : Driver) → 1 ≤ steps_left R replicas d
steps_left-from_one R replicas (drivers.Once x) = omega arith
steps_left-from_one R replicas (drivers.Open o) = making_left-from_one R o.making
steps_left-from_one R replicas (drivers.Update u) = update_left-from_one _ _ u.owner _ u.phase
steps_left-from_one R replicas (drivers.Active a) = active_left-from_one a.kind a.marks
steps_left-from_one R replicas (drivers.Sync s) = kind_left-from_one (entry_of s.ckpt R.entries) s s.kind
steps_left-from_one R replicas (drivers.Copy c) = copying_left-from_one R replicas c c.copying

-- ---- few are left

-- a call does not both lack and have a node
one_of : (none same : Bool) → cond (not none && not same) 1 0 + cond (not none && same) 1 0 ≤ 1
one_of true same = omega arith
one_of false true = omega arith
one_of false false = omega arith

one_more : (a b x y n : ℕ) → a + b ≤ 1 → x + y ≤ n → (a + x) + (b + y) ≤ n + 1
one_more a b x y n one few = omega (arith, one, few)

-- the nodes that a call lacks and those that it has are no more than the nodes
lacking_having : (nodes own : List ℕ) → lacking nodes own + having nodes own ≤ length nodes
lacking_having [] own = omega arith
lacking_having (n ∷ nodes) [] = omega arith
lacking_having (n ∷ nodes) (o ∷ own) =
    let few = one_more _ _ (lacking nodes own) (having nodes own) (length nodes) (one_of (n == 0) (n == o)) (lacking_having nodes own) in
    omega (arith, few)

-- there are eight nodes
up_length : (shapes : ℕ → Shape) (m : Machine) → InvariantIn shapes m → length m.cluster.up ≡ 8
up_length shapes m inv = inv.up

complete_length : (m : Machine) (k : ℕ) (sh : Shape) (e : Entry) (making : Option CallId) → IsGoodIn m k sh e making → length e.complete ≡ 8
complete_length m k sh e None good = good.nodes
complete_length m k sh e (Some call) good = ap length good.0.complete

pub complete_of-length : (shapes : ℕ → Shape) (m : Machine) (k : ℕ) → InvariantIn shapes m → (o : Option Entry) → entry_of k m.cluster.entries ≡ o → length (complete_of o) ≡ 8
complete_of-length shapes m k inv None is = refl
complete_of-length shapes m k inv (Some e) is = complete_length m k (shapes k) e e.making (inv.entries k e is)

-- so few steps are left
making_left-few : (R : RecordState) (making : Option Making) → length R.up ≡ 8 → making_left R making ≤ 66
making_left-few R None up = omega arith
making_left-few R (Some making) up = elim making.refused as (λ b. cond b 1 (lacking R.up making.reserved + 1) ≤ 66) [
  | true ↦ omega arith
  | false ↦ let few = lacking_having R.up making.reserved in omega (arith, few, up)
]

afresh_few : (nodes : ℕ) (stands : Bool) → nodes ≤ 8 → afresh nodes stands ≤ 41
afresh_few nodes true few = omega (arith, few)
afresh_few nodes false few = omega (arith, few)

unless_afresh_few : (had nodes steps : ℕ) (stands : Bool) → nodes ≤ 8 → steps ≤ 41 → unless_afresh had nodes stands steps ≤ 41
unless_afresh_few had nodes steps stands few rest = elim (had == 0) as (λ b. cond b (afresh nodes stands) steps ≤ 41) [ true ↦ afresh_few nodes stands few | false ↦ rest ]

claiming_few : (lacked had : ℕ) (third : Bool) → lacked + had ≤ 8 → claiming_left lacked had third ≤ 41
claiming_few lacked had true few = omega (arith, few)
claiming_few lacked had false few = omega (arith, few)

at_nodes_few : (lacked had : ℕ) (owner : CallId) (met : Option CallId) (phase : UpdatePhase) → lacked + had ≤ 8 → at_nodes_left lacked had owner met phase ≤ 41
at_nodes_few lacked had owner met Staging few = unless_afresh_few had lacked (2 * lacked + had) (is_some met) (omega (arith, few)) (omega (arith, few))
at_nodes_few lacked had owner met Committing few = omega (arith, few)
at_nodes_few lacked had owner met Claiming few = claiming_few lacked had (is_third owner met) few
at_nodes_few lacked had owner met Claimed few = unless_afresh_few had lacked (claiming_left lacked had (is_third owner met)) (is_some met) (omega (arith, few)) (claiming_few lacked had (is_third owner met) few)
at_nodes_few lacked had owner met Withdrawing few = unless_afresh_few had lacked (had + 2 * (lacked + had)) (is_some met) (omega (arith, few)) (omega (arith, few))
at_nodes_few lacked had owner met Resolving few = unless_afresh_few had lacked (had + 2 * (lacked + had)) (is_some met) (omega (arith, few)) (omega (arith, few))

at_most_or_one : (n : ℕ) → n ≤ 736 → or_one n ≤ 736
at_most_or_one n few = elim (n == 0) as (λ b. cond b 1 n ≤ 736) [ true ↦ omega arith | false ↦ few ]

or_one_few : (n : ℕ) → n ≤ 41 → or_one n ≤ 41
or_one_few n few = elim (n == 0) as (λ b. cond b 1 n ≤ 41) [ true ↦ omega arith | false ↦ few ]

pub update_few : (lacked had : ℕ) (owner : CallId) (met : Option CallId) (phase : UpdatePhase) → lacked + had ≤ 8 → update_left_by lacked had owner met phase ≤ 41
update_few lacked had owner met phase few = or_one_few (at_nodes_left lacked had owner met phase) (at_nodes_few lacked had owner met phase few)

-- an update has no more nodes than there are
pub nodes_few : (complete owned : List ℕ) → length complete ≡ 8 → lacking complete owned + having complete owned ≤ 8
nodes_few complete owned eight = let few = lacking_having complete owned in omega (arith, few, eight)

-- a weak write has its marks, each of at most 64 elements, and the end of its marks
active_few : (kind : ActiveKind) (marks : Option MarksMade) → MarksFit kind marks → active_left kind marks ≤ 66
active_few (kinds.Weak n) None few = omega (arith, few)
active_few (kinds.Weak n) (Some marks) few = let elements = few.0 in let left = few.1 in omega (arith, elements, left)
active_few kind None few = omega arith
active_few kind (Some marks) few = absurd few

sync_few : (complete : List ℕ) (s : SyncState) (pulled : Option PulledAt) → length complete ≡ 8 → sync_left complete s pulled ≤ 66
sync_few complete s None eight = omega arith
sync_few complete s (Some pulled) eight = let few = unserved-few complete s.served in omega (arith, few, eight)

setting_few : (call : CallId) (o : Option Entry) → setting_left call o ≤ 66
setting_few call None = omega arith
setting_few call (Some e) = elim (is_held_by call e.hold) as (λ b. cond b 1 2 ≤ 66) [ true ↦ omega arith | false ↦ omega arith ]

kind_few : (o : Option Entry) (s : SyncState) (kind : SyncKind) → length (complete_of o) ≡ 8 → kind_left o s kind ≤ 66
kind_few o s (Synchronize deadline) eight = sync_few (complete_of o) s s.pulled eight
kind_few o s (ActiveSet local) eight = setting_few s.call o

-- so few are left of a copying at one checkpoint
pub phase_few : (all : Bool) (left had : ℕ) (phase : CopyPhase) → left ≤ 41 → had ≤ 8 → phase_left all left had phase ≤ 46
phase_few true left had Reserved few nodes = omega (arith, few)
phase_few false left had Reserved few nodes = omega arith
phase_few all left had CopyStaging few nodes = omega (arith, few)
phase_few all left had (PulledActive generation) few nodes = omega arith
phase_few all left had PulledStaged few nodes = omega (arith, nodes)
phase_few all left had CopyCommitting few nodes = omega (arith, nodes)

-- and each other that its node lacks takes no more
copying_few : (R : RecordState) (replicas : ℕ → ℕ → Option ReplicaState) (c : CopyState) (o : Option Copying) → length R.entries ≤ 16 → ((k : ℕ) → length (complete_of (entry_of k R.entries)) ≡ 8) → copying_left R replicas c o ≤ 736
copying_few R replicas c None few eight =
    let lacked : lacked_besides c.node None R.entries ≤ length R.entries = lacked_few c.node None R.entries in
    at_most_or_one (copied_within * lacked_besides c.node None R.entries) (omega (arith, lacked, few))
copying_few R replicas c (Some at) few eight = by_entry (entry_of at.ckpt R.entries) refl
  where
    by_entry : (o : Option Entry) → entry_of at.ckpt R.entries ≡ o → or_one (at_ckpt_left o (replicas at.ckpt) c at.phase + copied_within * lacked_besides c.node (Some at.ckpt) R.entries) ≤ 736
    by_entry None gone =
        let lacked : lacked_besides c.node (Some at.ckpt) R.entries ≤ length R.entries = lacked_few c.node (Some at.ckpt) R.entries in
        at_most_or_one (0 + copied_within * lacked_besides c.node (Some at.ckpt) R.entries) (omega (arith, lacked, few))
    by_entry (Some e) there =
        let lacked : lacked_besides c.node (Some at.ckpt) R.entries + 1 ≤ length R.entries = lacked_fewer c.node at.ckpt R.entries e there in
        let nodes : length e.complete ≡ 8 = sym (ap (λ o. length (complete_of o)) there) ∙ eight at.ckpt in
        let all : lacking e.complete c.staging.owned + having e.complete c.staging.owned ≤ 8 = nodes_few e.complete c.staging.owned nodes in
        let left : update_left e.complete (replicas at.ckpt) c.staging ≤ 41 = update_few _ _ c.staging.owner _ c.staging.phase all in
        let had : having e.complete c.staging.owned ≤ 8 = omega (arith, all) in
        let here : phase_left (is_all e.attributes) (update_left e.complete (replicas at.ckpt) c.staging) (having e.complete c.staging.owned) at.phase ≤ 46 = phase_few (is_all e.attributes) _ _ at.phase left had in
        at_most_or_one (phase_left (is_all e.attributes) (update_left e.complete (replicas at.ckpt) c.staging) (having e.complete c.staging.owned) at.phase + copied_within * lacked_besides c.node (Some at.ckpt) R.entries) (omega (arith, lacked, few, here))

-- what drives a call has few elements left
abbrev HasFewLeft : Driver → Type 0
HasFewLeft (drivers.Active a) = MarksFit a.kind a.marks
HasFewLeft d = Unit {0}

has_few : (m : Machine) (shapes : ℕ → Shape) (s : CallState) (d : Driver) → IsInPlace m shapes s d → HasFewLeft d
has_few m shapes s (drivers.Active a) here = here.fit
has_few m shapes s (drivers.Once x) here = tt
has_few m shapes s (drivers.Open o) here = tt
has_few m shapes s (drivers.Update u) here = tt
has_few m shapes s (drivers.Sync u) here = tt
has_few m shapes s (drivers.Copy c) here = tt

steps_left-few : (R : RecordState) (replicas : ℕ → ℕ → Option ReplicaState) (d : Driver) → length R.up ≡ 8 → length R.entries ≤ 16 → ((k : ℕ) → length (complete_of (entry_of k R.entries)) ≡ 8) → HasFewLeft d → steps_left R replicas d ≤ most_steps d
steps_left-few R replicas (drivers.Once x) up entries complete few = omega arith
steps_left-few R replicas (drivers.Open o) up entries complete few = making_left-few R o.making up
steps_left-few R replicas (drivers.Update u) up entries complete few = update_few _ _ u.owner _ u.phase (nodes_few (complete_of (entry_of u.ckpt R.entries)) u.owned (complete u.ckpt))
steps_left-few R replicas (drivers.Active a) up entries complete few = active_few a.kind a.marks few
steps_left-few R replicas (drivers.Sync s) up entries complete few = kind_few (entry_of s.ckpt R.entries) s s.kind (complete s.ckpt)
steps_left-few R replicas (drivers.Copy c) up entries complete few = copying_few R replicas c c.copying entries complete

-- so they are of each call in hand
pub steps_are_few : StepsAreFew
steps_are_few m w s inv held = (steps_left-from_one m.cluster m.replicas (driver_of s), steps_left-few m.cluster m.replicas (driver_of s) (up_length inv.shapes m inv.holds) inv.holds.few (λ k. complete_of-length inv.shapes m k inv.holds (entry_of k m.cluster.entries) refl) (has_few m inv.shapes s (driver_of s) (inv.holds.hands w s held).here))
