-- What a call keeps of a step: the step with its reply, and what it read of the record.
use Rattle.std.specs.Prelude.{ℕ, ◌+◌, List, [], ◌∷◌, Option, Some, None, Bool, false, not, ◌&&◌, ◌==◌, if◌then◌else◌, ℤ, slice_set, slice_index, ◌≡◌, ◌<◌}
use Rattle.ckpt_types.specs.declared.answers.Answer.TheVariants as answers
use Rattle.node_msgs.specs.declared.replies.Reply.{Reply}
use Rattle.node_msgs.specs.declared.replies.Reply.TheVariants as replies
use Rattle.node_msgs.specs.declared.steps.Verb.{Verb}
use Rattle.node_msgs.specs.declared.steps.StepReply.{StepReply}
use Rattle.node_msgs.specs.declared.steps.StepReply.TheVariants as words
use Rattle.cluster_record.specs.declared.entries.Entry.{Entry}
use Rattle.cluster_record.specs.RecordState.{RecordState, entry_of, complete_of, is_live, no_nodes}

-- a step that was made, as its driver is told of it
pub record StepDone : Type 0 where
  pub verb : Verb
  pub ckpt : Option ℕ
  pub node : Option ℕ
  pub reply : StepReply
  -- how many updates the replica has of which a slot was claimed, or that was pulled; 0 at any other step
  pub count : ℕ
  pub moment : ℤ
  -- the generation of the checkpoint, or 0
  pub generation : ℕ
  -- by node, the incarnation with which it was up, and with which it was complete, or 0
  pub up : List ℕ
  pub complete : List ℕ
  -- whether the call that the reply names was live
  pub live : Bool

-- by node, the incarnation with which it is complete for the step's checkpoint, or 0
abbrev pub complete_at : RecordState → Option ℕ → List ℕ
complete_at R None = no_nodes
complete_at R (Some k) = complete_of (entry_of k R.entries)

-- the generation of a checkpoint; 0 where it is gone
abbrev pub generation_in : Option Entry → ℕ
generation_in None = 0
generation_in (Some e) = e.generation

-- the generation of the step's checkpoint; 0 where it names none
abbrev pub generation_at : RecordState → Option ℕ → ℕ
generation_at R None = 0
generation_at R (Some k) = generation_in (entry_of k R.entries)

-- the reply names a call as holder, which is live
abbrev pub names_live : RecordState → StepReply → Bool
names_live R (words.Held by) = is_live R by
names_live R _ = false

-- a step of which the record tells the rest
abbrev pub done_of : RecordState → Verb → Option ℕ → Option ℕ → StepReply → StepDone
done_of R verb k r reply = record {
  verb = verb;
  ckpt = k;
  node = r;
  reply = reply;
  count = 0;
  moment = R.moment;
  generation = generation_at R k;
  up = R.up;
  complete = complete_at R k;
  live = names_live R reply;
}

-- the count that a reply tells: that of a slot that was claimed, or of what was pulled; 0 where it tells none
abbrev pub count_told : Reply → ℕ
count_told (replies.Claimed count) = count
count_told (replies.Done (answers.Pulled count)) = count
count_told reply = 0

-- the same, of a claim that told so many updates
abbrev pub counting : ℕ → StepDone → StepDone
counting n d = record d { count = n }

-- the node is among the first, with an incarnation that the second does not have there
abbrev pub lacks : ℕ → ℕ → Bool
lacks incarnation own = not (incarnation == 0) && not (incarnation == own)

-- the node is among the first, with the incarnation that the second has there
abbrev pub has : ℕ → ℕ → Bool
has incarnation own = not (incarnation == 0) && (incarnation == own)

-- the lowest of these nodes that the call lacks, counted from n
abbrev pub first_lacking : ℕ → List ℕ → List ℕ → Option ℕ
first_lacking n [] own = None
first_lacking n (c ∷ cs) [] = None
first_lacking n (c ∷ cs) (o ∷ os) = if lacks c o then Some n else first_lacking (n + 1) cs os

-- the higher node, where one was found; else this one, where it counts
abbrev pub or_here : Option ℕ → Bool → ℕ → Option ℕ
or_here (Some r) here n = Some r
or_here None here n = if here then Some n else None

-- the highest of these nodes that the call has
abbrev pub last_having : ℕ → List ℕ → List ℕ → Option ℕ
last_having n [] own = None
last_having n (c ∷ cs) [] = None
last_having n (c ∷ cs) (o ∷ os) = or_here (last_having (n + 1) cs os) (has c o) n

-- the call has none of the nodes above this one
abbrev pub HasNoneAbove : ℕ → List ℕ → Type 0
HasNoneAbove top own = (r : ℕ) → top < r → slice_index own r ≡ 0

-- a list by node with one node's incarnation set
abbrev pub set_node : Option ℕ → List ℕ → ℕ → List ℕ
set_node None own incarnation = own
set_node (Some r) own incarnation = slice_set own r incarnation

-- the incarnation that such a list has of a node, and 0 where there is no node
abbrev pub incarnation_of : Option ℕ → List ℕ → ℕ
incarnation_of None nodes = 0
incarnation_of (Some r) nodes = slice_index nodes r
