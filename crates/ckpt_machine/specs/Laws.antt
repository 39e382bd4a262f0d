-- What the law of the machine says.
use Rattle.std.specs.Prelude.{◌≡◌, ℕ, ◌+◌, ◌<◌, ◌≤◌, List, length, Option, Some, None, true}
use Rattle.ckpt_types.specs.declared.identities.CallId.{CallId}
use Rattle.ckpt_types.specs.declared.identities.Who.{Who}
use Rattle.node_msgs.specs.declared.steps.StepReply.{StepReply}
use Rattle.node_msgs.specs.declared.steps.Verb.{Verb}
use Rattle.node_msgs.specs.declared.details.Details.{Details}
use Rattle.run_labels.specs.declared.labels.Label.{Label}
use Rattle.run_labels.specs.declared.labels.Label.TheVariants as labels
use Rattle.ckpt_types.specs.declared.words.OpWord.{OpWord}
use Rattle.ckpt_types.specs.OpWord.{stepped_as}
use Rattle.cluster_record.specs.RecordState.{is_up}
use Rattle.cluster_record.specs.StepDone.{done_of, counting}
use Rattle.ckpt_machine.specs.Invariant.{Invariant}
use Rattle.ckpt_machine.specs.Driving.{driver_taken}
use Rattle.ckpt_machine.specs.Endings.{EndsKnown}
use Rattle.ckpt_machine.specs.Facts.{Facts}
use Rattle.ckpt_machine.specs.Failing.{failed_at}
use Rattle.ckpt_machine.specs.Guards.{Allowed}
use Rattle.ckpt_machine.specs.Left.{steps_left, most_steps}
use Rattle.ckpt_machine.specs.Machine.{Machine, CallState, empty_cluster}
use Rattle.ckpt_machine.specs.Promises.{KeepsPromises}
use Rattle.ckpt_machine.specs.Refusals.{IsRefusal, LeavesBy, unmade_swept}
use Rattle.ckpt_machine.specs.Runs.{last, IsRun, Counts}
use Rattle.ckpt_machine.specs.After.{after}
use Rattle.ckpt_machine.specs.Due.{IsDue, driver_of, counted_at}

-- the empty cluster has the invariant, and counts nothing
abbrev pub Starts : Type 0
Starts = Invariant empty_cluster × Counts empty_cluster 0

-- what is due is allowed, and leaves the invariant
abbrev pub IsLawful : Type 0
IsLawful = (m : Machine) (l : Label) → Invariant m → IsDue m l → Allowed m l × Invariant (after m l)

-- so after every run the invariant holds, and no more is counted than the run has labels
abbrev pub EachRunHas : Type 0
EachRunHas = (log : List Label) → IsRun log → Invariant (last log) × Counts (last log) (length log)

-- the invariant gives what the code relies on
abbrev pub GivesFacts : Type 0
GivesFacts = (m : Machine) → Invariant m → Facts m

-- where no count is above n, none is above n + 1 behind a due label
abbrev pub CountsUp : Type 0
CountsUp = (m : Machine) (l : Label) (n : ℕ) → Invariant m → IsDue m l → Counts m n → Counts (after m l) (n + 1)

-- a due step that does not end its call brings it nearer to its end
abbrev pub BringsNearer : Type 0
BringsNearer =
    (m : Machine) (call : CallId) (op : OpWord) (verb : Verb) (k r : Option ℕ) (reply : StepReply) (details : Details) (s : CallState) → Invariant m
    → IsDue m (labels.Stepped call op verb k r reply None details) → m.in_hand (stepped_as call op) ≡ Some s
    → let n = after m (labels.Stepped call op verb k r reply None details) in
    steps_left n.cluster n.replicas (driver_taken (counting (counted_at m verb k r reply) (done_of n.cluster verb k r reply)) (driver_of s))
    < steps_left m.cluster m.replicas (driver_of s)

-- of a call in hand at least one step is left: of an update on all replicas at most 41, of any other at most 66
abbrev pub StepsAreFew : Type 0
StepsAreFew =
    (m : Machine) (w : Who) (s : CallState) → Invariant m → m.in_hand w ≡ Some s
    → (1 ≤ steps_left m.cluster m.replicas (driver_of s)) × (steps_left m.cluster m.replicas (driver_of s) ≤ most_steps (driver_of s))

-- what is allowed and ends a call with a refusal leaves all as it was, but that its call has ended, and what it was making is undone
abbrev pub RefusalsLeave : Type 0
RefusalsLeave = (m : Machine) (l : Label) → Allowed m l → IsRefusal l → LeavesBy unmade_swept l m (after m l)

-- a call that is allowed to end was answered OK, was refused by a row that names its cause, or lacked the memory that it takes
abbrev pub EndsAsItMay : Type 0
EndsAsItMay = (m : Machine) (l : Label) → Allowed m l → EndsKnown l

-- behind the failure of a node that is up the invariant holds
abbrev pub FailuresKeep : Type 0
FailuresKeep = (m : Machine) (r : ℕ) → Invariant m → is_up r m.cluster ≡ true → Invariant (failed_at r m)

-- a claim about a log holds of each run
abbrev pub OfEachRun : (List Label → Type 0) → Type 0
OfEachRun P = (log : List Label) → IsRun log → P log

-- each run keeps all that a run promises
abbrev pub RunsKeepPromises : Type 0
RunsKeepPromises = OfEachRun KeepsPromises
