-- Whose slots, marks, makings and holds there are: of calls in hand alone, so a call that has ended leaves none; but slots may be of a call that was
-- abandoned with its client. And which calls are in hand: such as began in the log and have not ended, so none that nobody began; and each asynchronous one
-- that is under way, so none is lost.
use Rattle.std.specs.Prelude.{◌≡◌, ◌⊎◌, ℕ, List, ◌∷◌, ◌++◌, Option, Some, IsSomeAnd, Contains, true, false, slice_index}
use Rattle.ckpt_types.specs.declared.identities.ActorName.{ActorName}
use Rattle.ckpt_types.specs.declared.identities.CallId.{CallId}
use Rattle.ckpt_types.specs.declared.identities.Who.{Who}
use Rattle.ckpt_types.specs.declared.operation.Op.{Op}
use Rattle.run_labels.specs.declared.labels.Label.{Label}
use Rattle.weak_marks.specs.Marks.{Marked}
use Rattle.call_dispatch.specs.declared.async_call.AsyncCall.{AsyncCall}
use Rattle.cluster_record.specs.declared.entries.Entry.{Entry}
use Rattle.cluster_record.specs.DueCopy.{lacks_replica}
use Rattle.cluster_record.specs.RecordState.{RecordState, entry_of, is_live, is_up}
use Rattle.ckpt_machine.specs.Acknowledged.{HasBegun}
use Rattle.ckpt_machine.specs.LastStep.{IsLastStep}
use Rattle.ckpt_machine.specs.Machine.{Machine, Staged, ReplicaState, CallState, who}
use Rattle.ckpt_machine.specs.Runs.{last}

-- the call is in hand, by whatever name
pub record IsCallInHand (m : Machine) (call : CallId) : Type 0 where
  pub name : Who
  pub state : CallState
  pub in_hand : m.in_hand name ≡ Some state
  pub call_is : state.call ≡ call

-- the call began in the log, and went on, whatever it asked for
pub record HasBegunIn (log : List Label) (call : CallId) : Type 0 where
  pub op : Op
  pub ckpt : Option ℕ
  pub begun : HasBegun log call op ckpt

-- no step of the call in the log has ended it
abbrev pub IsUnended : List Label → CallId → Type 0
IsUnended log call = (before behind : List Label) (l : Label) → log ≡ before ++ l ∷ behind → IsLastStep l call → ⊥

-- the call that is in hand under this name is one that goes on: it began in the log with the very operation that it has in hand, and went on, and no step of
-- it has ended it; and the name is the one by which it is stepped
pub record IsOngoing (log : List Label) (name : Who) (s : CallState) : Type 0 where
  pub ckpt : Option ℕ
  pub begun : HasBegun log s.call s.op ckpt
  pub unended : IsUnended log s.call
  pub name_is : name ≡ who s

-- the call was abandoned: it began in the log, and went on, and no step of it ended it; but it is neither in hand behind the log nor live
pub record WasAbandoned (log : List Label) (call : CallId) : Type 0 where
  pub began : HasBegunIn log call
  pub unended : IsUnended log call
  pub gone : IsCallInHand (last log) call → ⊥
  pub not_live : is_live (last log).cluster call ≡ false

-- the node is up with this incarnation, and lacks a replica of the checkpoint
abbrev pub IsReservedLate : RecordState → ℕ → ℕ → Entry → Type 0
IsReservedLate R r n e = (lacks_replica r e ≡ true) × (is_up r R ≡ true) × (n ≡ slice_index R.up r)

-- who owns a slot, and whose update is staged, is in hand or was abandoned; whose marks stand, and who makes or holds a checkpoint is in hand;
-- and what is reserved is for a checkpoint that such a call makes, or for one that a node lacks which is up
pub record OwnersInHand (log : List Label) : Type 0 where
  pub owners : (k r : ℕ) (x : ReplicaState) (slot : Staged) → (last log).replicas k r ≡ Some x → x.slot ≡ Some slot
      → IsCallInHand (last log) slot.owner ⊎ WasAbandoned log slot.owner
  pub origins : (k r : ℕ) (x : ReplicaState) (slot : Staged) → (last log).replicas k r ≡ Some x → x.slot ≡ Some slot
      → IsCallInHand (last log) slot.origin ⊎ WasAbandoned log slot.origin
  pub marks : (k r : ℕ) (x : ReplicaState) (marks : Marked) → (last log).replicas k r ≡ Some x → x.marks ≡ Some marks
      → IsCallInHand (last log) marks.call
  pub makes : (k : ℕ) (e : Entry) (call : CallId) → entry_of k (last log).cluster.entries ≡ Some e → e.making ≡ Some call
      → IsCallInHand (last log) call
  pub holds : (k : ℕ) (e : Entry) (call : CallId) → entry_of k (last log).cluster.entries ≡ Some e → e.hold ≡ Some call
      → IsCallInHand (last log) call
  pub reserves : (k r n : ℕ) → (last log).reserved k r ≡ Some n
      → IsSomeAnd (entry_of k (last log).cluster.entries) (λ e. IsSomeAnd e.making (IsCallInHand (last log)) ⊎ IsReservedLate (last log).cluster r n e)
  -- each call that is in hand began in the log, with the operation that it has in hand, and goes on
  pub ongoing : (name : Who) (s : CallState) → (last log).in_hand name ≡ Some s → IsOngoing log name s
  -- and an asynchronous call is in hand that its client is to be told of and that has not ended
  pub under_way : (a : ActorName) (c : AsyncCall) → Contains ((last log).pending a).unfinished c → IsCallInHand (last log) c.call

-- AT EVERY TIME OF A RUN: it is so after each front of the log
abbrev pub OwnersInHandThroughout : List Label → Type 0
OwnersInHandThroughout log = (front back : List Label) → log ≡ front ++ back → OwnersInHand front
