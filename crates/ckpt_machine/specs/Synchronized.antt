-- What a synchronisation promises that was answered OK.
use Rattle.std.specs.Prelude.{◌≡◌, ◌≢◌, ◌⊎◌, ℕ, List, [], ◌∷◌, ◌++◌, length, Some, IsSome, IsSomeAnd, true, false}
use Rattle.ckpt_types.specs.declared.answers.Answer.{Answer}
use Rattle.ckpt_types.specs.declared.answers.Answer.TheVariants as answers
use Rattle.ckpt_types.specs.declared.answers.Outcome.TheVariants.{Done}
use Rattle.ckpt_types.specs.declared.identities.CallId.{CallId}
use Rattle.ckpt_types.specs.declared.operation.Op.{Op}
use Rattle.ckpt_types.specs.declared.operation.Op.TheVariants as ops
use Rattle.ckpt_types.specs.declared.words.OpWord.{OpWord}
use Rattle.ckpt_types.specs.declared.words.OpWord.TheVariants as opwords
use Rattle.ckpt_types.specs.OpWord.{word_of_op}
use Rattle.node_msgs.specs.declared.steps.StepReply.TheVariants as words
use Rattle.node_msgs.specs.declared.steps.Verb.TheVariants as verbs
use Rattle.run_labels.specs.declared.labels.Label.{Label}
use Rattle.run_labels.specs.declared.labels.Label.TheVariants as labels
use Rattle.cluster_record.specs.declared.entries.Entry.{Entry}
use Rattle.cluster_record.specs.Placement.{is_collocated}
use Rattle.cluster_record.specs.RecordState.{entry_of}
use Rattle.ckpt_machine.specs.ActiveGuards.{is_service}
use Rattle.ckpt_machine.specs.Acknowledged.{HasBegun}
use Rattle.ckpt_machine.specs.Machine.{Machine, Effect, ReplicaState}
use Rattle.ckpt_machine.specs.Replays.{IsPrefix}
use Rattle.ckpt_machine.specs.Runs.{last}

-- the word asks for a synchronisation, for which its client waits or not
abbrev pub IsSyncWord : OpWord → Type 0
IsSyncWord opwords.Sync = Unit {0}
IsSyncWord opwords.SyncAsync = Unit {0}
IsSyncWord word = ⊥

-- the label answers OK to this call, which asks for a synchronisation by its word, with this answer: by a step, or to one for which its client waits at
-- its beginning
abbrev pub Synchronizes : Label → CallId → Answer → Type 0
Synchronizes (labels.Began call (ops.Sync place timeout) (Some (Done answer)) details) d a = (call ≡ d) × (answer ≡ a)
Synchronizes (labels.Stepped call opwords.Sync verb k r reply (Some (Done answer)) details) d a = (call ≡ d) × (answer ≡ a)
Synchronizes (labels.Stepped call opwords.SyncAsync verb k r reply (Some (Done answer)) details) d a = (call ≡ d) × (answer ≡ a)
Synchronizes label d a = ⊥

-- the label is the pull of this call from a replica of a checkpoint on a node
abbrev pub IsPullOf : Label → CallId → ℕ → ℕ → Type 0
IsPullOf (labels.Stepped call word verbs.Pull (Some k) (Some r) words.Ok end details) d j q = (call ≡ d) × (k ≡ j) × (r ≡ q)
IsPullOf label d j q = ⊥

-- the label is a step by which this call serves a node: it pulls there, or installs what it has pulled, or finds that what is there is not older
abbrev pub IsServiceOf : Label → CallId → ℕ → ℕ → Type 0
IsServiceOf (labels.Stepped call word verb (Some k) (Some r) reply end details) d j q = (call ≡ d) × (k ≡ j) × (r ≡ q) × (is_service verb reply ≡ true)
IsServiceOf label d j q = ⊥

-- a step of the call in the log serves the node
pub record IsServedIn (log : List Label) (call : CallId) (k r : ℕ) : Type 0 where
  pub before : List Label
  pub behind : List Label
  pub step : Label
  pub log_is : log ≡ before ++ step ∷ behind
  pub step_is : IsServiceOf step call k r

-- no label of these tells the failure of this node
abbrev pub StaysUp : List Label → ℕ → Type 0
StaysUp [] r = Unit {0}
StaysUp (l ∷ ls) r = (l ≢ labels.Failed r true) × StaysUp ls r

-- a complete replica on the node is the one that was there in front of these labels: the node has stayed up since; or the checkpoint is not collocated,
-- so that no open makes another one there; or the node is the active, as it was then
abbrev pub KeepsReplica : Entry → ℕ → List Label → Type 0
KeepsReplica e r behind = StaysUp behind r ⊎ ((is_collocated e.attributes ≡ false) ⊎ (e.active ≡ Some r))

-- the call has served the node of this replica in the log; the replica has the checkpoint's generation; and where it is the one that was there then, it has
-- these effects first
pub record WasServed (log : List Label) (call : CallId) (k r : ℕ) (e : Entry) (x : ReplicaState) (pulled : List Effect) : Type 0 where
  pub served : IsServedIn log call k r
  pub generation : x.generation ≡ e.generation
  pub has : KeepsReplica e r served.behind → IsPrefix pulled x.effects

-- each complete replica of the checkpoint was served so
abbrev pub HaveFirst : Machine → List Label → CallId → ℕ → List Effect → Type 0
HaveFirst m log call k pulled =
    (e : Entry) (r : ℕ) (x : ReplicaState) → entry_of k m.cluster.entries ≡ Some e → m.replicas k r ≡ Some x → WasServed log call k r e x pulled

-- the call has pulled in the log from the active, and began in front of that with a synchronisation of this checkpoint; the answer tells how many effects
-- the active had then; and the checkpoint is there, and each complete replica of it has its generation, and these first, but for one of a collocated
-- checkpoint on a node that is not the active and has failed since the call served it, as an open may have made that anew
pub record IsSynchronized (log : List Label) (call : CallId) (answer : Answer) : Type 0 where
  pub op : Op
  pub asks : IsSyncWord (word_of_op op)
  pub ckpt : ℕ
  pub before : List Label
  pub behind : List Label
  pub pull : Label
  pub node : ℕ
  pub log_is : log ≡ before ++ pull ∷ behind
  pub begun : HasBegun before call op (Some ckpt)
  pub pull_is : IsPullOf pull call ckpt node
  pub active : IsSomeAnd (entry_of ckpt (last before).cluster.entries) (λ e. e.active ≡ Some node)
  pub source : ReplicaState
  pub there : (last before).replicas ckpt node ≡ Some source
  pub answer_is : answer ≡ answers.Pulled (length source.effects)
  pub stands : IsSome (entry_of ckpt (last log).cluster.entries)
  pub have : HaveFirst (last log) log call ckpt source.effects

-- WHAT A SYNCHRONISATION LEAVES: behind each label that answers OK to one
abbrev pub SynchronizedTell : List Label → Type 0
SynchronizedTell log =
    (front back : List Label) (l : Label) (call : CallId) (answer : Answer) → log ≡ front ++ l ∷ back → Synchronizes l call answer
    → IsSynchronized (front ++ l ∷ []) call answer
