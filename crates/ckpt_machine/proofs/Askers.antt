-- Who may ask for what: a copying is a node's, and whatever else is asked for is a client's.
use Rattle.std.proofs.Common.{◌≡◌, ℕ, List, Option, Some, refl, sym, subst}
use Rattle.std.specs.Prelude.{◌<◌}
use Rattle.ckpt_types.specs.declared.identities.ActorName.{ActorName}
use Rattle.ckpt_types.specs.declared.identities.ActorName.TheVariants.{Client, Node}
use Rattle.ckpt_types.specs.declared.operation.Op.{Op}
use Rattle.ckpt_types.specs.declared.operation.Op.TheVariants as ops
use Rattle.ckpt_types.specs.declared.words.OpWord.TheVariants as opwords
use Rattle.ckpt_types.specs.Asks.{Ask, MayAsk, asked}
use Rattle.ckpt_types.specs.Asks as asks
use Rattle.ckpt_types.specs.Limits.{nodes_max}
use Rattle.ckpt_types.specs.OpWord.{word_of_op}
use Rattle.node_msgs.specs.declared.steps.StepReply.{StepReply}
use Rattle.node_msgs.specs.declared.steps.StepReply.TheVariants as words
use Rattle.node_msgs.specs.declared.steps.Verb.{Verb}
use Rattle.node_msgs.specs.declared.steps.Verb.TheVariants as verbs
use Rattle.cluster_record.specs.Calls.{IsClient, number_of}
use Rattle.cluster_record.specs.declared.entries.Entry.{Entry}
use Rattle.cluster_record.specs.DueCopy.{node_of}
use Rattle.cluster_record.specs.Makings.{makings_of}
use Rattle.cluster_record.specs.RecordState.{RecordState, home_of, is_live_client}
use Rattle.ckpt_machine.specs.After.{kept_by}
use Rattle.ckpt_machine.specs.Driving.{Kept}
use Rattle.ckpt_machine.specs.Due.{home_by, is_live_actor, kept_reserving, makings_by}
use Rattle.ckpt_machine.specs.Machine.{Machine, CallState}

-- a copying is asked for
abbrev pub IsCopyAsk : Ask → Type 0
IsCopyAsk asks.Copy = Unit {0}
IsCopyAsk ask = ⊥

pub copy_ask : (ask : Ask) → IsCopyAsk ask → ask ≡ asks.Copy
copy_ask asks.Copy is = refl
copy_ask ask is = absurd is

-- who asks for anything else is a client
pub asker_client : (a : ActorName) (ask : Ask) → MayAsk a ask → (IsCopyAsk ask → ⊥) → IsClient a
asker_client (Client c) asks.Copy may other = absurd may
asker_client (Client c) ask may other = may
asker_client (Node r) asks.Copy may other = absurd (other tt)
asker_client (Node r) ask may other = absurd may

-- one that the script may name
pub client_within : (c : ℕ) (ask : Ask) → MayAsk (Client c) ask → IsClient (Client c)
client_within c asks.Copy may = absurd may
client_within c ask may = may

-- and a client asks for nothing of that kind
pub client_asks : (a : ActorName) (ask : Ask) → MayAsk a ask → IsClient a → IsCopyAsk ask → ⊥
client_asks (Client c) asks.Copy may client copy = may
client_asks (Client c) ask may client copy = copy
client_asks (Node r) ask may client copy = client

-- a node that asks copies
pub asker_node : (r : ℕ) (ask : Ask) → MayAsk (Node r) ask → IsCopyAsk ask
asker_node r asks.Copy may = tt
asker_node r ask may = absurd may

pub node_within : (r : ℕ) (ask : Ask) → MayAsk (Node r) ask → r < nodes_max
node_within r asks.Copy may = may
node_within r ask may = absurd may

-- one operation alone asks for it
pub copy_op : (op : Op) → asked op ≡ asks.Copy → op ≡ ops.Copy
copy_op ops.Copy is = refl
copy_op op is = absurd (subst IsCopyAsk (sym is) tt)

-- so does its word
pub copy_word : (op : Op) → word_of_op op ≡ opwords.Copy → op ≡ ops.Copy
copy_word ops.Copy is = refl
copy_word op is = absurd (cc is)

-- a call that is no copying keeps what it kept, whatever its step
reserving : (ask : Ask) (k : ℕ) (R : RecordState) (kept : Kept) → (IsCopyAsk ask → ⊥) → kept_reserving ask k R kept ≡ kept
reserving asks.Copy k R kept other = absurd (other tt)
reserving ask k R kept other = refl

pub kept_still : (m : Machine) (s : CallState) (verb : Verb) (k : Option ℕ) (reply : StepReply) → (IsCopyAsk (asked s.op) → ⊥) → kept_by m s verb k reply ≡ s.kept
kept_still m s verbs.Reserve (Some k) words.Ok other = reserving (asked s.op) k m.cluster s.kept other
kept_still m s verb k reply other = refl

-- a client is live as the record tells, and its node is the one that this has for it
pub client_lives : (R : RecordState) (a : ActorName) → IsClient a → is_live_actor a R ≡ is_live_client (number_of a) R
client_lives R (Client c) client = refl
client_lives R (Node r) client = absurd client

pub client_home : (R : RecordState) (a : ActorName) → IsClient a → home_by a R ≡ home_of (number_of a) R
client_home R (Client c) client = refl
client_home R (Node r) client = absurd client

-- a node is that of its number
pub node_by_number : (a : ActorName) → MayAsk a asks.Copy → a ≡ Node (node_of a)
node_by_number (Client c) may = absurd may
node_by_number (Node r) may = refl

pub node_number : (a : ActorName) → MayAsk a asks.Copy → node_of a < nodes_max
node_number (Client c) may = absurd may
node_number (Node r) may = may

-- it makes what the record counts for its number
pub client_makings : (entries : List Entry) (a : ActorName) → IsClient a → makings_by a entries ≡ makings_of (number_of a) entries
client_makings entries (Client c) client = refl
client_makings entries (Node r) client = absurd client
