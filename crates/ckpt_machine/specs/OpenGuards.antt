-- Which steps of clients, makings and opens the machine allows, and of the end of a checkpoint's life, with their answers and causes.
use Rattle.std.specs.Prelude.{◌≡◌, ℕ, ◌+◌, ◌<◌, List, length, Option, Some, None, IsSome, IsSomeAnd, true, false, ◌==◌, slice_index}
use Rattle.ckpt_types.specs.declared.ais_error.AisError.TheVariants as errors
use Rattle.ckpt_types.specs.declared.answers.Answer.TheVariants as answers
use Rattle.ckpt_types.specs.declared.answers.Cause.TheVariants.{Holder}
use Rattle.ckpt_types.specs.declared.answers.Outcome.{Outcome}
use Rattle.ckpt_types.specs.declared.answers.Outcome.TheVariants.{Done, Refused, NoMemory}
use Rattle.ckpt_types.specs.declared.attributes.CreationAttributes.{CreationAttributes}
use Rattle.ckpt_types.specs.declared.identities.CallId.{CallId}
use Rattle.ckpt_types.specs.Limits.{clients_max, checkpoints_max}
use Rattle.node_msgs.specs.declared.steps.StepReply.{StepReply}
use Rattle.node_msgs.specs.declared.steps.StepReply.TheVariants as words
use Rattle.cluster_record.specs.declared.entries.Entry.{Entry}
use Rattle.cluster_record.specs.Calls.{same_call, client_of}
use Rattle.cluster_record.specs.Placement.{targets}
use Rattle.cluster_record.specs.RecordState.{entry_of, home_of, named, is_live, is_live_client, is_up}
use Rattle.cluster_record.specs.DueOpen.{accepts}
use Rattle.cluster_record.specs.Makings.{making_of}
use Rattle.ckpt_machine.specs.Machine.{Machine, CallState}
use Rattle.ckpt_machine.specs.Due.{rooms_of}
use Rattle.ckpt_machine.specs.GuardTerms.{IsInTime}

-- ---- clients, makings and opens

-- the client can become live on the node
pub record MayEnter (m : Machine) (c r : ℕ) : Type 0 where
  pub up : is_up r m.cluster ≡ true
  pub not_live : is_live_client c m.cluster ≡ false
  pub few : length m.cluster.clients < clients_max

-- a client becomes live, or its own memory is refused
abbrev pub EnterRow : Machine → ℕ → ℕ → StepReply → Option Outcome → Type 0
EnterRow m c r words.Ok end = MayEnter m c r × (end ≡ Some (Done answers.Version))
EnterRow m c r words.Memory end = MayEnter m c r × (end ≡ Some NoMemory)
EnterRow m c r reply end = ⊥

-- the checkpoint is what the call is making
abbrev pub IsMadeBy : Machine → CallId → ℕ → Type 0
IsMadeBy m call k = making_of call m.cluster ≡ Some k

-- a checkpoint of the name can be made, with this identity
pub record MayCreate (m : Machine) (s : CallState) (name : List ℕ) (a : Option CreationAttributes) (k : ℕ) : Type 0 where
  pub free : named name m.cluster.entries ≡ None
  pub asked : IsSome a
  pub in_time : IsInTime m s
  pub room : (rooms_of m s).handles ≡ true
  pub few : length m.cluster.entries < checkpoints_max
  pub next : k ≡ m.cluster.last_identity + 1

-- a checkpoint is in the making, or the memory for it is refused
abbrev pub CreateRow : Machine → CallState → List ℕ → Option CreationAttributes → ℕ → StepReply → Option Outcome → Type 0
CreateRow m s name a k words.Ok end = MayCreate m s name a k × (end ≡ None)
CreateRow m s name a k words.Memory end = MayCreate m s name a k × (end ≡ Some NoMemory)
CreateRow m s name a k reply end = ⊥

-- what the call is making is to be made on this node
abbrev pub IsTarget : Machine → CallState → ℕ → ℕ → Type 0
IsTarget m s k r =
    IsSomeAnd (entry_of k m.cluster.entries) (λ e. (slice_index (targets e.attributes (home_of (client_of s.call) m.cluster) m.cluster.up) r == 0) ≡ false)

-- a node on which it is to be made reserves for the making of the call, or is refused the memory where nothing is reserved there
abbrev pub ReserveRow : Machine → CallState → ℕ → ℕ → StepReply → Option Outcome → Type 0
ReserveRow m s k r words.Ok end = (is_up r m.cluster ≡ true) × IsMadeBy m s.call k × IsInTime m s × IsTarget m s k r × (end ≡ None)
ReserveRow m s k r words.Memory end =
    (is_up r m.cluster ≡ true) × IsMadeBy m s.call k × IsInTime m s × IsTarget m s k r × (m.reserved k r ≡ None) × (end ≡ None)
ReserveRow m s k r reply end = ⊥

-- every node on which it is to be made has reserved under its present incarnation
abbrev pub FinishRow : Machine → CallState → ℕ → StepReply → Option Outcome → Type 0
FinishRow m s k words.Ok end =
    IsMadeBy m s.call k × IsInTime m s × ((r : ℕ) → IsTarget m s k r → m.reserved k r ≡ Some (slice_index m.cluster.up r))
    × (end ≡ Some (Done (answers.Opened k)))
FinishRow m s k reply end = ⊥

-- what the call is making is undone
abbrev pub UndoRow : Machine → CallState → ℕ → StepReply → Option Outcome → Type 0
UndoRow m s k words.Ok end = IsMadeBy m s.call k × IsInTime m s × (end ≡ Some NoMemory)
UndoRow m s k reply end = ⊥

-- a checkpoint of this identity is made, and has the attributes asked for
pub record IsOpenable (a : Option CreationAttributes) (k : ℕ) (e : Entry) : Type 0 where
  pub identity : e.identity ≡ k
  pub made : e.making ≡ None
  pub accepted : accepts a e ≡ true

-- the checkpoint of the name can be opened
pub record MayOpen (m : Machine) (s : CallState) (name : List ℕ) (a : Option CreationAttributes) (k : ℕ) : Type 0 where
  pub there : IsSomeAnd (named name m.cluster.entries) (IsOpenable a k)
  pub in_time : IsInTime m s
  pub room : (rooms_of m s).handles ≡ true

-- the checkpoint of the name is in the making by another call, which is live; this one is to try again
pub record OpenHeld (m : Machine) (s : CallState) (name : List ℕ) (k : ℕ) (by : CallId) (end : Option Outcome) : Type 0 where
  pub there : IsSomeAnd (named name m.cluster.entries) (λ e. (e.identity ≡ k) × (e.making ≡ Some by))
  pub in_time : IsInTime m s
  pub live : is_live m.cluster by ≡ true
  pub another : same_call by s.call ≡ false
  pub answer : end ≡ Some (Refused errors.TryAgain (Holder by))

-- a checkpoint is opened, or the memory for that is refused; or another call is making it
abbrev pub OpenRow : Machine → CallState → List ℕ → Option CreationAttributes → ℕ → StepReply → Option Outcome → Type 0
OpenRow m s name a k words.Ok end = MayOpen m s name a k × (end ≡ Some (Done (answers.Opened k)))
OpenRow m s name a k words.Memory end = MayOpen m s name a k × (end ≡ Some NoMemory)
OpenRow m s name a k words.Refused end = (by : CallId) × OpenHeld m s name k by end
OpenRow m s name a k reply end = ⊥

-- ---- the end of a checkpoint's life

-- a client that is live leaves
abbrev pub LeaveRow : Machine → ℕ → StepReply → Option Outcome → Type 0
LeaveRow m c words.Ok end = (is_live_client c m.cluster ≡ true) × (end ≡ Some (Done answers.Nothing))
LeaveRow m c reply end = ⊥

-- the checkpoint of the handle is there
abbrev pub CloseRow : Machine → CallState → ℕ → StepReply → Option Outcome → Type 0
CloseRow m s k words.Ok end = (s.kept.ckpt ≡ Some k) × IsSome (entry_of k m.cluster.entries) × (end ≡ Some (Done answers.Nothing))
CloseRow m s k reply end = ⊥

-- the checkpoint of the name is made
pub record CanUnlink (k : ℕ) (e : Entry) : Type 0 where
  pub identity : e.identity ≡ k
  pub made : e.making ≡ None

-- the name of a checkpoint goes
abbrev pub UnlinkRow : Machine → List ℕ → ℕ → StepReply → Option Outcome → Type 0
UnlinkRow m name k words.Ok end = IsSomeAnd (named name m.cluster.entries) (CanUnlink k) × (end ≡ Some (Done answers.Nothing))
UnlinkRow m name k reply end = ⊥

-- the checkpoint of the handle is there and has a name
abbrev pub RetainRow : Machine → CallState → ℕ → StepReply → Option Outcome → Type 0
RetainRow m s k words.Ok end = (s.kept.ckpt ≡ Some k) × IsSomeAnd (entry_of k m.cluster.entries) (λ e. IsSome e.name) × (end ≡ Some (Done answers.Nothing))
RetainRow m s k reply end = ⊥
