-- An update that was answered OK, and where it is from then on.
use Rattle.std.specs.Prelude.{◌≡◌, ◌≢◌, ◌⊎◌, ℕ, List, [], ◌∷◌, ◌++◌, Option, Some, None, IfSome, true}
use Rattle.ckpt_types.specs.declared.answers.Outcome.{Outcome}
use Rattle.ckpt_types.specs.declared.answers.Outcome.TheVariants.{Done}
use Rattle.node_msgs.specs.declared.details.Details.{Details}
use Rattle.ckpt_types.specs.declared.identities.CallId.{CallId}
use Rattle.ckpt_types.specs.declared.operation.Op.{Op}
use Rattle.ckpt_types.specs.declared.update.Update.{Update}
use Rattle.run_labels.specs.declared.labels.Label.{Label}
use Rattle.run_labels.specs.declared.labels.Label.TheVariants as labels
use Rattle.ckpt_types.specs.declared.words.OpWord.{OpWord}
use Rattle.ckpt_types.specs.declared.words.OpWord.TheVariants as opwords
use Rattle.ckpt_types.specs.OpWord.{word_of_op}
use Rattle.cluster_record.specs.declared.entries.Entry.{Entry}
use Rattle.cluster_record.specs.RecordState.{entry_of}
use Rattle.ckpt_machine.specs.Machine.{Machine, ReplicaState}
use Rattle.cluster_record.specs.Placement.{is_all}
pub use Rattle.ckpt_machine.specs.Owned.{IsUpdateBy, HasUpdate}
use Rattle.ckpt_machine.specs.Runs.{last}
use Rattle.ckpt_types.specs.Asks.{update_of}
use Rattle.ckpt_machine.specs.After.{goes_on}
use Rattle.ckpt_machine.specs.Due.{asked_handle}
use Rattle.ckpt_machine.specs.Tables.{ckpt_of_handle}

-- ---- the answer, as a user sees it

-- the word asks for an update
abbrev pub IsUpdateWord : OpWord → Type 0
IsUpdateWord opwords.Create = Unit {0}
IsUpdateWord opwords.Delete = Unit {0}
IsUpdateWord opwords.Expire = Unit {0}
IsUpdateWord opwords.Write = Unit {0}
IsUpdateWord opwords.Over = Unit {0}
IsUpdateWord word = ⊥

-- the label answers OK to this call, which asks for an update by its word: at its beginning, or by a step, whichever that is
abbrev pub Acknowledges : Label → CallId → Type 0
Acknowledges (labels.Began call op (Some (Done answer)) details) d = (call ≡ d) × IsUpdateWord (word_of_op op)
Acknowledges (labels.Stepped call word verb k r reply (Some (Done answer)) details) d = (call ≡ d) × IsUpdateWord word
Acknowledges label d = ⊥

-- the checkpoint that the label of a step names
abbrev pub ckpt_named : Label → Option ℕ
ckpt_named (labels.Stepped call word verb k r reply end details) = k
ckpt_named label = None

-- ---- what the call asks for

-- the call began in the log and went on: with this operation, on the checkpoint of the handle for which its place stood then
pub record HasBegun (log : List Label) (call : CallId) (op : Op) (ckpt : Option ℕ) : Type 0 where
  pub before : List Label
  pub behind : List Label
  pub end : Option Outcome
  pub details : Details
  pub log_is : log ≡ before ++ labels.Began call op end details ∷ behind
  pub goes : goes_on (word_of_op op) end ≡ true
  pub ckpt_is : ckpt ≡ ckpt_of_handle (asked_handle (last before) call.actor op)

-- ---- what became of it

-- the node is one of those on which an update has to be: any, or where updates go to the active alone, the active
abbrev pub IsToHave : Option Entry → ℕ → Type 0
IsToHave None r = Unit {0}
IsToHave (Some e) r = (is_all e.attributes ≡ true) ⊎ (e.active ≡ Some r)

-- each complete replica of the checkpoint has the update by the call; where updates go to the active alone, the active's
abbrev pub IsOnItsReplicas : Machine → ℕ → CallId → Update → Type 0
IsOnItsReplicas m k call update =
    (r : ℕ) (x : ReplicaState) → m.replicas k r ≡ Some x → IsToHave (entry_of k m.cluster.entries) r → HasUpdate call update x.effects

-- the failure of this node is not that of the active of the checkpoint, or the updates of this go to all replicas
abbrev pub LeavesActive : Option Entry → ℕ → Type 0
LeavesActive o r = IfSome o (λ e. (is_all e.attributes ≡ true) ⊎ (e.active ≢ Some r))

-- no failure in these labels, behind that front, takes the node of the active of this checkpoint, whose updates go to the active alone
abbrev pub KeepsActive : List Label → List Label → ℕ → Type 0
KeepsActive front more k =
    (before behind : List Label) (r : ℕ) → more ≡ before ++ labels.Failed r true ∷ behind
    → LeavesActive (entry_of k (last (front ++ before)).cluster.entries) r

-- the call began in the log with an update, of the checkpoint that the label behind the log names, where it names one; and behind the labels that come
-- then, of which none takes the active away with its node, this update is on the replicas of that checkpoint on which it has to be
pub record IsAcknowledged (log : List Label) (l : Label) (call : CallId) (more : List Label) : Type 0 where
  pub op : Op
  pub asks : IsUpdateWord (word_of_op op)
  pub ckpt : ℕ
  pub begun : HasBegun log call op (Some ckpt)
  -- with no other operation, and on no other checkpoint
  pub once : (other : Op) (k : Option ℕ) → HasBegun log call other k → (other ≡ op) × (k ≡ Some ckpt)
  pub named : IfSome (ckpt_named l) (λ k. k ≡ ckpt)
  pub on_its : KeepsActive (log ++ l ∷ []) more ckpt → IsOnItsReplicas (last (log ++ l ∷ more)) ckpt call (update_of op)

-- WHAT WAS ANSWERED OK STAYS: after any label that answers OK to a call that asks for an update, and at every time from then on, each complete replica
-- of its checkpoint has the update; or where updates go to the active alone, the active's, as long as no failure takes the node of the active
abbrev pub AcknowledgedStay : List Label → Type 0
AcknowledgedStay log =
    (front more back : List Label) (l : Label) (call : CallId) → log ≡ front ++ l ∷ (more ++ back) → Acknowledges l call
    → IsAcknowledged front l call more
