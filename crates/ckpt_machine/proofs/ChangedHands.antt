-- A claim about what is in hand, and about what clients are to be told of, holds behind what a step changes, where it holds behind the leave of a client and behind a handle that is closed.
use Rattle.std.proofs.Common.{ℕ, Option, Some, None, cond}
use Rattle.ckpt_types.specs.declared.identities.ActorName.{ActorName}
use Rattle.ckpt_types.specs.declared.identities.Who.{Who}
use Rattle.ckpt_types.specs.Asks.{asked}
use Rattle.call_dispatch.specs.PendingCalls.{PendingCalls, no_pending}
use Rattle.cluster_record.specs.Calls.{put_actor}
use Rattle.cluster_record.specs.Makings.{making_of}
use Rattle.cluster_record.specs.RecordState.{active_set}
use Rattle.node_msgs.specs.declared.steps.StepReply.{StepReply}
use Rattle.node_msgs.specs.declared.steps.StepReply.TheVariants as words
use Rattle.node_msgs.specs.declared.steps.Verb.{Verb}
use Rattle.node_msgs.specs.declared.steps.Verb.TheVariants as verbs
use Rattle.ckpt_machine.specs.Machine.{Machine, ReplicaState, CallState}
use Rattle.ckpt_machine.specs.After.{changed, change_replica, record_step, on_ok, on_look, at_some, without_making, goes_with, left_over}
use Rattle.ckpt_machine.specs.Tables.{handle_closed}
use Rattle.ckpt_machine.specs.Whose.{is_of}

module _ (P : (Who → Option CallState) → (ActorName → PendingCalls) → Type 0) (m : Machine) (here : P m.in_hand m.pending)
    (leaves : (a : ActorName) → P (λ w. cond (is_of a w) None (m.in_hand w)) (put_actor m.pending a no_pending))
    (closes : (handle : Option ℕ) (a : ActorName) → P (λ w. cond (goes_with handle a (m.pending a) w) None (m.in_hand w)) (put_actor m.pending a (left_over handle (m.pending a))))
  where
    -- it holds of this state
    abbrev Holds : Machine → Type 0
    Holds n = P n.in_hand n.pending

    where_ok : (reply : StepReply) (n : Machine) → Holds n → Holds (on_ok reply m n)
    where_ok words.Ok n then = then
    where_ok reply n then = here

    where_some : (o : Option ℕ) (f : ℕ → Machine) → ((k : ℕ) → Holds (f k)) → Holds (at_some o m f)
    where_some None f then = here
    where_some (Some k) f then = then k

    -- a replica changes, if there is one
    at_replica : (n : Machine) (k r : ℕ) (o : Option ReplicaState) (change : ReplicaState → ReplicaState) → Holds n → Holds (change_replica n k r o change)
    at_replica n k r None change then = then
    at_replica n k r (Some x) change then = then

    -- by a step that names its checkpoint and its node
    at_one : (reply : StepReply) (k r : Option ℕ) (change : ℕ → ℕ → ReplicaState → ReplicaState) → Holds (on_ok reply m (at_some k m (λ k. at_some r m (λ r. change_replica m k r (m.replicas k r) (change k r)))))
    at_one reply k r change = where_ok reply _ (where_some k _ (λ k. where_some r _ (λ r. at_replica m k r (m.replicas k r) (change k r) here)))

    -- the record alone changes, at a checkpoint that is named
    at_entry : (reply : StepReply) (k : Option ℕ) (f : ℕ → Machine) → ((k : ℕ) → Holds (f k)) → Holds (on_ok reply m (at_some k m f))
    at_entry reply k f then = where_ok reply _ (where_some k f then)

    where_look : (reply : StepReply) (done refused : Machine) → Holds done → Holds refused → Holds (on_look reply m done refused)
    where_look words.Done done refused then also = then
    where_look words.Refused done refused then also = also
    where_look reply done refused then also = here

    unmade : (k : Option ℕ) → Holds (without_making k m)
    unmade None = here
    unmade (Some k) = here

    -- where a handle is closed, the synchronisations over it go
    over_handle : (s : CallState) → P (λ w. cond (goes_with (handle_closed (asked s.op) (m.tables s.call.actor)) s.call.actor (m.pending s.call.actor) w) None (m.in_hand w)) (put_actor m.pending s.call.actor (left_over (handle_closed (asked s.op) (m.tables s.call.actor)) (m.pending s.call.actor)))
    over_handle s = closes (handle_closed (asked s.op) (m.tables s.call.actor)) s.call.actor

    -- whatever the step is
    pub changed_holds : (s : CallState) (verb : Verb) (k r : Option ℕ) (reply : StepReply) → Holds (changed m s verb k r reply)
    changed_holds s verbs.Enter k r reply = where_ok reply _ (where_some r _ (λ r. here))
    changed_holds s verbs.Leave k r reply = where_ok reply _ (leaves s.call.actor)
    changed_holds s verbs.Create k r reply = where_ok reply _ here
    changed_holds s verbs.Reserve k r reply = at_entry reply k _ (λ k. where_some r _ (λ r. here))
    changed_holds s verbs.Finish k r reply = at_entry reply k _ (λ k. here)
    changed_holds s verbs.Undo k r reply = at_entry reply k _ (λ k. here)
    changed_holds s verbs.Open k r reply = at_entry reply k _ (λ k. here)
    changed_holds s verbs.Close k r reply = at_entry reply k _ (λ k. over_handle s)
    changed_holds s verbs.Unlink k r reply = at_entry reply k _ (λ k. here)
    changed_holds s verbs.Retain k r reply = at_entry reply k _ (λ k. here)
    changed_holds s verbs.Stage k r reply = at_one reply k r _
    changed_holds s verbs.Claim k r reply = at_one reply k r _
    changed_holds s verbs.Withdraw k r reply = at_one reply k r _
    changed_holds s verbs.Commit k r reply = at_one reply k r _
    changed_holds s verbs.Apply k r reply = at_one reply k r _
    changed_holds s verbs.Mark k r reply = at_one reply k r _
    changed_holds s verbs.Element k r reply = at_one reply k r _
    changed_holds s verbs.Unmark k r reply = at_one reply k r _
    changed_holds s verbs.Install k r reply = at_one reply k r _
    changed_holds s verbs.Iter k r reply = at_entry reply k _ (λ k. where_some r _ (λ r. here))
    changed_holds s verbs.Next k r reply = at_entry reply k _ (λ k. where_some r _ (λ r. here))
    changed_holds s verbs.Hold k r reply = at_entry reply k _ (λ k. here)
    changed_holds s verbs.Activate k r reply = at_entry reply k _ (λ k. where_some r _ (λ r. at_replica (record_step (active_set k r) m) k r ((record_step (active_set k r) m).replicas k r) _ here))
    changed_holds s verbs.Complete k r reply = at_entry reply k _ (λ k. where_some r _ (λ r. here))
    changed_holds s verbs.Look k r reply = where_look reply _ _ (over_handle s) (unmade (making_of s.call m.cluster))
    changed_holds s verb k r reply = here
