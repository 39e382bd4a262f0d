-- How a call that is in hand ends: by its own step, by the failure of a node, or, as an asynchronous one, with its client or its handle.
use Rattle.std.specs.Prelude.{◌≡◌, ℕ, List, ◌∷◌, ◌++◌, [], Some, true}
use Rattle.ckpt_types.specs.declared.identities.CallId.{CallId}
use Rattle.ckpt_types.specs.declared.identities.Who.{Who}
use Rattle.ckpt_types.specs.Asks.{asked}
use Rattle.ckpt_types.specs.OpWord.{is_async, stepped_as, word_of_op}
use Rattle.call_dispatch.specs.PendingCalls.{find_async}
use Rattle.node_msgs.specs.declared.steps.StepReply.{StepReply}
use Rattle.node_msgs.specs.declared.steps.StepReply.TheVariants as words
use Rattle.node_msgs.specs.declared.steps.Verb.{Verb}
use Rattle.node_msgs.specs.declared.steps.Verb.TheVariants as verbs
use Rattle.run_labels.specs.declared.labels.Label.{Label}
use Rattle.run_labels.specs.declared.labels.Label.TheVariants as labels
use Rattle.ckpt_machine.specs.After.{is_over}
use Rattle.ckpt_machine.specs.Failing.{is_abandoned}
use Rattle.ckpt_machine.specs.Machine.{Machine, CallState}
use Rattle.ckpt_machine.specs.Owners.{IsCallInHand}
use Rattle.ckpt_machine.specs.Runs.{last}
use Rattle.ckpt_machine.specs.Tables.{handle_closed}

-- the label is a step of this call, and tells its end
abbrev pub TellsEnd : Label → CallState → Type 0
TellsEnd (labels.Stepped call word verb k r reply (Some end) details) s = (call ≡ s.call) × (word ≡ word_of_op s.op)
TellsEnd label s = ⊥

-- the label tells the failure of a node that was up, by which this call is abandoned: its client was on the node, or it asked to become live there
abbrev pub IsAbandonedBy : Label → Machine → CallState → Type 0
IsAbandonedBy (labels.Failed r true) m s = is_abandoned m.cluster r s.call s.op ≡ true
IsAbandonedBy label m s = ⊥

-- a failure in the log has abandoned the call: it was in hand in front of the label that tells the failure of a node, and was abandoned by that
pub record IsAbandonedIn (log : List Label) (call : CallId) : Type 0 where
  pub before : List Label
  pub behind : List Label
  pub node : ℕ
  pub log_is : log ≡ before ++ labels.Failed node true ∷ behind
  pub name : Who
  pub state : CallState
  pub in_hand : (last before).in_hand name ≡ Some state
  pub call_is : state.call ≡ call
  pub abandoned : IsAbandonedBy (labels.Failed node true) (last before) state

-- the label is a step of this verb and this reply, of the call that is in hand as this
abbrev pub IsStepOf : Label → Machine → CallState → Verb → StepReply → Type 0
IsStepOf (labels.Stepped call word verb k r reply end details) m t v said =
    (m.in_hand (stepped_as call word) ≡ Some t) × (t.call ≡ call) × (verb ≡ v) × (reply ≡ said)
IsStepOf label m t v said = ⊥

-- the step closes a handle: the close of a handle in the record, or the look of one whose checkpoint is gone
abbrev pub Closes : Verb → StepReply → Type 0
Closes verbs.Close reply = reply ≡ words.Ok
Closes verbs.Look reply = reply ≡ words.Done
Closes verb reply = ⊥

-- what a step of another call of the same client takes away: all asynchronous calls, where the client leaves; and where it closes a handle, each
-- asynchronous synchronisation over this handle
pub data TakesAlong (m : Machine) (t : CallState) (verb : Verb) (reply : StepReply) (s : CallState) : Type 0 where
  leaves : verb ≡ verbs.Leave → reply ≡ words.Ok → TakesAlong m t verb reply s
  closes : (handle : ℕ) → Closes verb reply → handle_closed (asked t.op) (m.tables t.call.actor) ≡ Some handle
      → is_over handle (find_async s.call (m.pending s.call.actor).unfinished) ≡ true → TakesAlong m t verb reply s

-- an asynchronous call goes with its client or with its handle, by a step of its client's
pub record GoesAlong (m : Machine) (l : Label) (s : CallState) : Type 0 where
  pub async : is_async (word_of_op s.op) ≡ true
  pub other : CallState
  pub verb : Verb
  pub reply : StepReply
  pub step : IsStepOf l m other verb reply
  pub client : other.call.actor ≡ s.call.actor
  pub takes : TakesAlong m other verb reply s

-- how a call that was in hand in this state is so no more behind the label
pub data EndsBy (m : Machine) (l : Label) (s : CallState) : Type 0 where
  -- it has ended by its own step
  own_step : TellsEnd l s → EndsBy m l s
  -- it was abandoned by the failure of a node
  failure : IsAbandonedBy l m s → EndsBy m l s
  -- it went with its client or with its handle
  along : GoesAlong m l s → EndsBy m l s

-- EACH CALL ENDS IN ONE OF THESE WAYS, AND IN NO OTHER: at every label of the log, a call that is in hand in front of it and is not behind it
abbrev pub CallsEnd : List Label → Type 0
CallsEnd log = (front back : List Label) (l : Label) (w : Who) (s : CallState) → log ≡ front ++ l ∷ back
    → (last front).in_hand w ≡ Some s → (IsCallInHand (last (front ++ l ∷ [])) s.call → ⊥) → EndsBy (last front) l s
