-- Which labels the machine allows: the rows by verb, and all labels.
use Rattle.std.specs.Prelude.{◌≡◌, ◌⊎◌, ◌&&◌, ℕ, ◌<◌, ◌≤◌, List, Option, Some, None, Bool, ℤ}
use Rattle.ckpt_types.specs.declared.attributes.CreationAttributes.{CreationAttributes}
use Rattle.ckpt_types.specs.declared.identities.CallId.{CallId}
use Rattle.ckpt_types.specs.declared.calls.CallbackSet.{CallbackSet}
use Rattle.ckpt_types.specs.declared.calls.Version.{Version}
use Rattle.ckpt_types.specs.declared.update.ReadElement.{ReadElement}
use Rattle.ckpt_types.specs.declared.update.Update.{Update}
use Rattle.ckpt_types.specs.declared.update.Update.TheVariants as updates
use Rattle.ckpt_types.specs.Limits.{nodes_max}
use Rattle.node_msgs.specs.declared.details.Details.TheVariants as beside
use Rattle.ckpt_types.specs.declared.words.OpWord.{OpWord}
use Rattle.node_msgs.specs.declared.steps.Verb.{Verb}
use Rattle.node_msgs.specs.declared.steps.Verb.TheVariants as verbs
use Rattle.run_labels.specs.declared.labels.Label.{Label}
use Rattle.run_labels.specs.declared.labels.Label.TheVariants as labels
use Rattle.ckpt_types.specs.OpWord.{word_of_op, stepped_as}
use Rattle.cluster_record.specs.Calls.{client_of}
use Rattle.cluster_record.specs.RecordState.{no_nodes, IsMomentFrom}
use Rattle.ckpt_machine.specs.BeginRows.{IsAllowedBegin, IsAllowedWord}
use Rattle.ckpt_types.specs.Asks.{asked}
use Rattle.ckpt_types.specs.Asks as asks
use Rattle.ckpt_machine.specs.Machine.{Machine, CallState}
use Rattle.ckpt_machine.specs.Propagation.{pull_answer, put_answer}
use Rattle.ckpt_machine.specs.Listing.{listing_at}
use Rattle.ckpt_machine.specs.Due.{Told, MayFail}
use Rattle.ckpt_machine.specs.NodeJoins.{MayJoin}
use Rattle.ckpt_machine.specs.UpdateGuards.{ClaimRow, CommitRow, StageRow, WithdrawRow}
use Rattle.ckpt_machine.specs.ActiveGuards.{ActivateRow, ApplyRow, ElementRow, HoldRow, InstallRow, IterRow, MarkRow, NextRow, PullRow, ReadRow, StatusRow, UnmarkRow}
use Rattle.ckpt_machine.specs.OpenGuards.{CloseRow, CreateRow, EnterRow, FinishRow, LeaveRow, OpenRow, ReserveRow, RetainRow, UndoRow, UnlinkRow}
use Rattle.ckpt_machine.specs.CopyGuards.{CompleteRow, CopyPullRow, CopyReserveRow, copies_to, lacks_none}
use Rattle.ckpt_machine.specs.LookGuards.{LookRow, LookTold}

-- ---- any step

-- the label names a checkpoint and no node
abbrev pub AtCkpt : Option ℕ → Option ℕ → (ℕ → Type 0) → Type 0
AtCkpt (Some k) None P = P k
AtCkpt k r P = ⊥

-- the label names a checkpoint and a node
abbrev pub AtNode : Option ℕ → Option ℕ → (ℕ → ℕ → Type 0) → Type 0
AtNode (Some k) (Some r) P = P k r
AtNode k r P = ⊥

-- the label names neither a checkpoint nor a node
abbrev pub AtNone : Option ℕ → Option ℕ → Type 0 → Type 0
AtNone None None P = P
AtNone k r P = ⊥

-- the label names a node and no checkpoint
abbrev pub AtNodeAlone : Option ℕ → Option ℕ → (ℕ → Type 0) → Type 0
AtNodeAlone None (Some r) P = P r
AtNodeAlone k r P = ⊥

-- the call asks to open the checkpoint of a name, with these attributes
pub record AsksToOpen (s : CallState) (name : List ℕ) (a : Option CreationAttributes) : Type 0 where
  pub place : ℕ
  pub flags : ℕ
  pub timeout : Option ℤ
  pub asks : asked s.op ≡ asks.Open place name flags timeout a

-- so it does, and this holds of the name and the attributes
abbrev pub AsksOpen : CallState → (List ℕ → Option CreationAttributes → Type 0) → Type 0
AsksOpen s P = (name : List ℕ) × (a : Option CreationAttributes) × AsksToOpen s name a × P name a

-- the call asks for an update of which this holds
abbrev pub AsksChange : CallState → (Update → Type 0) → Type 0
AsksChange s P = (place : ℕ) × (update : Update) × (asked s.op ≡ asks.Change place update) × P update

-- the call asks for an update of which this holds, which ends it; or it is a copying, whose update changes nothing and ends it where its node lacks no other
-- checkpoint
abbrev pub AsksUpdate : Machine → CallState → (Update → (Bool → Bool) → Type 0) → Type 0
AsksUpdate m s P =
    AsksChange s (λ update. P update (λ last. last))
    ⊎ ((asked s.op ≡ asks.Copy) × P updates.Nothing (λ last. last && lacks_none m.cluster (copies_to s)))

-- THE ROWS: a verb, what the call asks for, and when its step is allowed, with which reply, end and details
abbrev pub Row : Machine → CallState → Verb → Told → Type 0
Row m s verbs.Enter t =
    AtNodeAlone t.ckpt t.node (λ r. (version : Version) × (callbacks : CallbackSet) × (asked s.op ≡ asks.Enter r version callbacks)
    × EnterRow m (client_of s.call) r t.reply t.end)
    × (t.details ≡ beside.Nothing)
Row m s verbs.Open t = AtCkpt t.ckpt t.node (λ k. AsksOpen s (λ name a. OpenRow m s name a k t.reply t.end)) × (t.details ≡ beside.Nothing)
Row m s verbs.Create t = AtCkpt t.ckpt t.node (λ k. AsksOpen s (λ name a. CreateRow m s name a k t.reply t.end)) × (t.details ≡ beside.Nothing)
Row m s verbs.Reserve t =
    AtNode t.ckpt t.node (λ k r. AsksOpen s (λ name a. ReserveRow m s k r t.reply t.end)
    ⊎ ((asked s.op ≡ asks.Copy) × CopyReserveRow m s k r t.reply t.end))
    × (t.details ≡ beside.Nothing)
Row m s verbs.Finish t = AtCkpt t.ckpt t.node (λ k. AsksOpen s (λ name a. FinishRow m s k t.reply t.end)) × (t.details ≡ beside.Nothing)
Row m s verbs.Undo t = AtCkpt t.ckpt t.node (λ k. AsksOpen s (λ name a. UndoRow m s k t.reply t.end)) × (t.details ≡ beside.Nothing)
Row m s verbs.Stage t = AtNode t.ckpt t.node (λ k r. AsksUpdate m s (λ update ends. StageRow m s update k r t.reply t.end)) × (t.details ≡ beside.Nothing)
Row m s verbs.Claim t = AtNode t.ckpt t.node (λ k r. AsksUpdate m s (λ update ends. ClaimRow m s k r t.reply t.end)) × (t.details ≡ beside.Nothing)
Row m s verbs.Withdraw t = AtNode t.ckpt t.node (λ k r. AsksUpdate m s (λ update ends. WithdrawRow m s k r t.reply t.end)) × (t.details ≡ beside.Nothing)
Row m s verbs.Commit t = AtNode t.ckpt t.node (λ k r. AsksUpdate m s (λ update ends. CommitRow m s.call update ends k r t.reply t.end t.details))
Row m s verbs.Apply t = AtNode t.ckpt t.node (λ k r. AsksChange s (λ update. ApplyRow m s update k r t t.reply))
Row m s verbs.Mark t = AtNode t.ckpt t.node (λ k r. AsksChange s (λ update. MarkRow m s update k r t t.reply))
Row m s verbs.Element t = AtNode t.ckpt t.node (λ k r. AsksChange s (λ update. ElementRow m s.call update k r t t.reply))
Row m s verbs.Unmark t = AtNode t.ckpt t.node (λ k r. AsksChange s (λ update. UnmarkRow m s.call update k r t t.reply))
Row m s verbs.Read t =
    AtNode t.ckpt t.node (λ k r. (place : ℕ) × (elements : List ReadElement) × (asked s.op ≡ asks.Read place elements) × ReadRow m elements k r t)
Row m s verbs.Status t = AtNode t.ckpt t.node (λ k r. (place : ℕ) × (asked s.op ≡ asks.Status place) × StatusRow m k r t.reply t.end t.details)
Row m s verbs.Iter t =
    AtNode t.ckpt t.node (λ k r. (iteration place chosen : ℕ) × (time : ℤ) × (asked s.op ≡ asks.Iterate iteration place chosen time)
    × IterRow m s k r t.reply t.end)
    × (t.details ≡ beside.Nothing)
Row m s verbs.Next t = AtNode t.ckpt t.node (λ k r. (iteration : ℕ) × (asked s.op ≡ asks.Next iteration) × NextRow m s k r t)
Row m s verbs.Pull t =
    AtNode t.ckpt t.node (λ k r. ((place : ℕ) × (timeout : Option ℤ) × (asked s.op ≡ asks.Synchronize place timeout) × PullRow m s k r t t.reply)
    ⊎ ((asked s.op ≡ asks.Copy) × CopyPullRow m s k r t t.reply))
    × (t.details ≡ beside.Nothing)
Row m s verbs.Install t =
    AtNode t.ckpt t.node (λ k r. (place : ℕ) × (timeout : Option ℤ) × (asked s.op ≡ asks.Synchronize place timeout) × InstallRow m s k r t t.reply)
    × (t.details ≡ beside.Nothing)
Row m s verbs.Hold t =
    AtNode t.ckpt t.node (λ k r. (place : ℕ) × (asked s.op ≡ asks.SetActive place) × HoldRow m s k r t t.reply) × (t.details ≡ beside.Nothing)
Row m s verbs.Activate t =
    AtNode t.ckpt t.node (λ k r. (place : ℕ) × (asked s.op ≡ asks.SetActive place) × ActivateRow m s k r t.reply t.end) × (t.details ≡ beside.Nothing)
Row m s verbs.Leave t = AtNone t.ckpt t.node ((asked s.op ≡ asks.Leave) × LeaveRow m (client_of s.call) t.reply t.end) × (t.details ≡ beside.Nothing)
Row m s verbs.Close t = AtCkpt t.ckpt t.node (λ k. (place : ℕ) × (asked s.op ≡ asks.Close place) × CloseRow m s k t.reply t.end) × (t.details ≡ beside.Nothing)
Row m s verbs.Unlink t =
    AtCkpt t.ckpt t.node (λ k. (name : List ℕ) × (asked s.op ≡ asks.Unlink name) × UnlinkRow m name k t.reply t.end) × (t.details ≡ beside.Nothing)
Row m s verbs.Retain t =
    AtCkpt t.ckpt t.node (λ k. (place : ℕ) × (duration : ℤ) × (asked s.op ≡ asks.Retain place duration) × RetainRow m s k t.reply t.end)
    × (t.details ≡ beside.Nothing)
Row m s verbs.Complete t =
    AtNode t.ckpt t.node (λ k r. (asked s.op ≡ asks.Copy) × CompleteRow m s k r t.reply t.end) × (t.details ≡ beside.Nothing)
Row m s verbs.Look t = (t.ckpt ≡ None) × (t.node ≡ None) × LookRow m s t.reply t.end × LookTold s t.end t.details

-- what is asked of a replica is asked of the checkpoint that the call keeps: on which it was begun, or for which its node has reserved
abbrev pub IsOnOwn : Verb → Option ℕ → Option ℕ → Type 0
IsOnOwn verbs.Stage ckpt own = ckpt ≡ own
IsOnOwn verbs.Claim ckpt own = ckpt ≡ own
IsOnOwn verbs.Withdraw ckpt own = ckpt ≡ own
IsOnOwn verbs.Commit ckpt own = ckpt ≡ own
IsOnOwn verbs.Apply ckpt own = ckpt ≡ own
IsOnOwn verbs.Mark ckpt own = ckpt ≡ own
IsOnOwn verbs.Element ckpt own = ckpt ≡ own
IsOnOwn verbs.Unmark ckpt own = ckpt ≡ own
IsOnOwn verbs.Read ckpt own = ckpt ≡ own
IsOnOwn verbs.Status ckpt own = ckpt ≡ own
IsOnOwn verbs.Iter ckpt own = ckpt ≡ own
IsOnOwn verbs.Next ckpt own = ckpt ≡ own
IsOnOwn verbs.Pull ckpt own = ckpt ≡ own
IsOnOwn verbs.Install ckpt own = ckpt ≡ own
IsOnOwn verbs.Hold ckpt own = ckpt ≡ own
IsOnOwn verbs.Activate ckpt own = ckpt ≡ own
IsOnOwn verbs.Complete ckpt own = ckpt ≡ own
IsOnOwn verb ckpt own = Unit {0}

-- a step is of the call that is in hand under this name, and its row holds
pub record IsAllowedStep (m : Machine) (call : CallId) (op : OpWord) (t : Told) : Type 0 where
  pub state : CallState
  pub in_hand : m.in_hand (stepped_as call op) ≡ Some state
  pub call_is : state.call ≡ call
  pub word : word_of_op state.op ≡ op
  pub own : IsOnOwn t.verb t.ckpt state.kept.ckpt
  pub row : Row m state t.verb t

-- from m the machine allows this label
abbrev pub Allowed : Machine → Label → Type 0
Allowed m (labels.Began call op end details) = IsAllowedBegin m call op end details
Allowed m (labels.Stepped call op verb k r reply end details) =
    IsAllowedStep m call op (record { verb = verb; ckpt = k; node = r; reply = reply; end = end; details = details })
Allowed m (labels.Word who word said) = IsAllowedWord m who word said
Allowed m (labels.Nodes n) = (0 < n) × (n ≤ nodes_max) × (m.cluster.last_incarnations ≡ no_nodes)
Allowed m (labels.Moved t) = IsMomentFrom m.cluster.moment t
Allowed m (labels.Failed r was_up) = MayFail m.cluster r was_up
Allowed m (labels.Joined r incarnation) = MayJoin m.cluster r incarnation
Allowed m (labels.Shown k replicas) = replicas ≡ listing_at m k
Allowed m (labels.Pulled k reply) = reply ≡ pull_answer m k
Allowed m (labels.Put k r reply) = reply ≡ put_answer m k r
