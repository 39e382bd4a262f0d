-- No step of a call changes which nodes are up, nor from which of its calls on a node is.
use Rattle.std.proofs.Common.{◌≡◌, ℕ, List, Option, Some, None, refl}
use Rattle.ckpt_types.specs.declared.attributes.CreationAttributes.{CreationAttributes}
use Rattle.ckpt_types.specs.declared.identities.CallId.{CallId}
use Rattle.ckpt_types.specs.Asks.{Ask, asked}
use Rattle.ckpt_types.specs.Asks as asks
use Rattle.node_msgs.specs.declared.steps.Verb.{Verb}
use Rattle.node_msgs.specs.declared.steps.Verb.TheVariants as verbs
use Rattle.node_msgs.specs.declared.steps.StepReply.{StepReply}
use Rattle.node_msgs.specs.declared.steps.StepReply.TheVariants as words
use Rattle.cluster_record.specs.Makings.{making_of}
use Rattle.cluster_record.specs.RecordState.{RecordState, created_as}
use Rattle.ckpt_machine.specs.After.{changed, on_ok, on_look, at_some, change_replica, created_for, retained_for, without_making}
use Rattle.ckpt_machine.specs.Machine.{Machine, ReplicaState, CallState}

-- the same nodes are up, each from the same call on
pub record HasSameNodes (R S : RecordState) : Type 0 where
  pub up : S.up ≡ R.up
  pub first_calls : S.first_calls ≡ R.first_calls

module _ (m : Machine) where
  abbrev Stay : Machine → Type 0
  Stay n = HasSameNodes m.cluster n.cluster

  same : Stay m
  same = record { up = refl; first_calls = refl }

  created_stays : (call : CallId) (name : List ℕ) (a : Option CreationAttributes) → HasSameNodes m.cluster (created_as call name a m.cluster)
  created_stays call name None = same
  created_stays call name (Some a) = record { up = refl; first_calls = refl }

  created_for_stays : (call : CallId) (ask : Ask) → HasSameNodes m.cluster (created_for call ask m.cluster)
  created_for_stays call (asks.Open place name flags timeout a) = created_stays call name a
  created_for_stays call ask = same

  retained_for_stays : (ask : Ask) (k : ℕ) → HasSameNodes m.cluster (retained_for ask k m.cluster)
  retained_for_stays (asks.Retain place duration) k = record { up = refl; first_calls = refl }
  retained_for_stays ask k = same

  ok_stay : (reply : StepReply) (n : Machine) → Stay n → Stay (on_ok reply m n)
  ok_stay words.Ok n stay = stay
  ok_stay reply n stay = same

  look_stay : (reply : StepReply) (done refused : Machine) → Stay done → Stay refused → Stay (on_look reply m done refused)
  look_stay words.Done done refused after_done after_refused = after_done
  look_stay words.Refused done refused after_done after_refused = after_refused
  look_stay reply done refused after_done after_refused = same

  some_stay : (j : Option ℕ) (change : ℕ → Machine) → ((j : ℕ) → Stay (change j)) → Stay (at_some j m change)
  some_stay None change stay = same
  some_stay (Some j) change stay = stay j

  both_stay : (j q : Option ℕ) (change : ℕ → ℕ → Machine) → ((j q : ℕ) → Stay (change j q)) → Stay (at_some j m (λ j. at_some q m (change j)))
  both_stay j q change stay = some_stay j _ (λ j. some_stay q (change j) (stay j))

  replica_stay : (b : Machine) → Stay b → (j q : ℕ) (o : Option ReplicaState) (change : ReplicaState → ReplicaState) → Stay (change_replica b j q o change)
  replica_stay b stay j q None change = stay
  replica_stay b stay j q (Some x) change = stay

  replica_at : (reply : StepReply) (j q : Option ℕ) (change : ℕ → ℕ → ReplicaState → ReplicaState) → Stay (on_ok reply m (at_some j m (λ j. at_some q m (λ q. change_replica m j q (m.replicas j q) (change j q)))))
  replica_at reply j q change = ok_stay reply _ (both_stay j q _ (λ j q. replica_stay m same j q (m.replicas j q) (change j q)))

  making_stay : (j : Option ℕ) → Stay (without_making j m)
  making_stay None = same
  making_stay (Some j) = record { up = refl; first_calls = refl }

  pub nodes_stay : (s : CallState) (verb : Verb) (j q : Option ℕ) (reply : StepReply) → Stay (changed m s verb j q reply)
  nodes_stay s verbs.Enter j q reply = ok_stay reply _ (some_stay q _ (λ q. record { up = refl; first_calls = refl }))
  nodes_stay s verbs.Open j q reply = ok_stay reply _ (some_stay j _ (λ j. record { up = refl; first_calls = refl }))
  nodes_stay s verbs.Create j q reply = ok_stay reply _ (let made = created_for_stays s.call (asked s.op) in record { up = made.up; first_calls = made.first_calls })
  nodes_stay s verbs.Reserve j q reply = ok_stay reply _ (both_stay j q _ (λ j q. same))
  nodes_stay s verbs.Finish j q reply = ok_stay reply _ (some_stay j _ (λ j. record { up = refl; first_calls = refl }))
  nodes_stay s verbs.Undo j q reply = ok_stay reply _ (some_stay j _ (λ j. record { up = refl; first_calls = refl }))
  nodes_stay s verbs.Stage j q reply = replica_at reply j q _
  nodes_stay s verbs.Claim j q reply = replica_at reply j q _
  nodes_stay s verbs.Withdraw j q reply = replica_at reply j q _
  nodes_stay s verbs.Commit j q reply = replica_at reply j q _
  nodes_stay s verbs.Apply j q reply = replica_at reply j q _
  nodes_stay s verbs.Mark j q reply = replica_at reply j q _
  nodes_stay s verbs.Element j q reply = replica_at reply j q _
  nodes_stay s verbs.Unmark j q reply = replica_at reply j q _
  nodes_stay s verbs.Install j q reply = replica_at reply j q _
  nodes_stay s verbs.Hold j q reply = ok_stay reply _ (some_stay j _ (λ j. record { up = refl; first_calls = refl }))
  nodes_stay s verbs.Activate j q reply = ok_stay reply _ (both_stay j q _ (λ j q. replica_stay _ (record { up = refl; first_calls = refl }) j q _ _))
  nodes_stay s verbs.Complete j q reply = ok_stay reply _ (both_stay j q _ (λ j q. record { up = refl; first_calls = refl }))
  nodes_stay s verbs.Iter j q reply = ok_stay reply _ (both_stay j q _ (λ j q. same))
  nodes_stay s verbs.Next j q reply = ok_stay reply _ (both_stay j q _ (λ j q. same))
  nodes_stay s verbs.Leave j q reply = ok_stay reply _ (record { up = refl; first_calls = refl })
  nodes_stay s verbs.Close j q reply = ok_stay reply _ (some_stay j _ (λ j. record { up = refl; first_calls = refl }))
  nodes_stay s verbs.Unlink j q reply = ok_stay reply _ (some_stay j _ (λ j. record { up = refl; first_calls = refl }))
  nodes_stay s verbs.Retain j q reply = ok_stay reply _ (some_stay j _ (λ j. let made = retained_for_stays (asked s.op) j in record { up = made.up; first_calls = made.first_calls }))
  nodes_stay s verbs.Look j q reply = look_stay reply _ _ same (making_stay (making_of s.call m.cluster))
  nodes_stay s verb j q reply = same
