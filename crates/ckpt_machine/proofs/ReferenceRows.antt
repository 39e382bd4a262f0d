-- Whatever step is allowed leaves as many handles as references.
use Rattle.std.proofs.Common.{◌≡◌, ℕ, Option, Some, None, refl, sym, ap, subst, ◌∙◌}
use Rattle.std.specs.Prelude.{slice_index}
use Rattle.ckpt_types.specs.declared.answers.Answer.{Answer}
use Rattle.ckpt_types.specs.declared.answers.Answer.TheVariants as answers
use Rattle.ckpt_types.specs.declared.answers.Outcome.{Outcome}
use Rattle.ckpt_types.specs.declared.answers.Outcome.TheVariants.{Done}
use Rattle.ckpt_types.specs.declared.identities.ActorName.TheVariants.{Client}
use Rattle.ckpt_types.specs.Asks.{Ask, MayAsk, asked}
use Rattle.ckpt_types.specs.Asks as asks
use Rattle.node_msgs.specs.declared.details.Details.{Details}
use Rattle.node_msgs.specs.declared.steps.StepReply.{StepReply}
use Rattle.node_msgs.specs.declared.steps.StepReply.TheVariants as words
use Rattle.node_msgs.specs.declared.steps.Verb.{Verb}
use Rattle.node_msgs.specs.declared.steps.Verb.TheVariants as verbs
use Rattle.cluster_record.specs.Calls.{IsClient, client_of}
use Rattle.cluster_record.specs.declared.entries.Entry.{Entry}
use Rattle.cluster_record.specs.Joining.{completed, completed_on}
use Rattle.cluster_record.specs.RecordState.{entry_of, named, entered, home_of, made_with, opened_with, unnamed, with_hold, with_active, active_set}
use Rattle.cluster_record.proofs.IdentityLaws.{entry_of-find}
use Rattle.cluster_record.proofs.JoinLaws.{rest_stays}
use Rattle.ckpt_machine.specs.After.{change_replica, changed, chosen_at, given_at, on_ok, at_some, record_step, staged_moment, with_closed, with_replica_copied}
use Rattle.ckpt_machine.specs.Due.{Told, ids_asked}
use Rattle.ckpt_machine.specs.Guards.{Row}
use Rattle.ckpt_machine.specs.Invariant.{InvariantIn}
use Rattle.ckpt_machine.specs.LookGuards.{LookRow, LookDone}
use Rattle.ckpt_machine.specs.Machine.{Machine, ReplicaState, CallState, who}
use Rattle.ckpt_machine.specs.OpenGuards.{IsOpenable, MayOpen}
use Rattle.ckpt_machine.specs.Seen.{seen_at}
use Rattle.ckpt_machine.specs.Shape.{Shape}
use Rattle.ckpt_machine.specs.Tables.{closing, registering, started, gone_on}
use Rattle.ckpt_machine.proofs.Askers.{IsCopyAsk, asker_client}
use Rattle.ckpt_machine.proofs.EndedTables.{started-handles, gone_on-handles}
use Rattle.ckpt_machine.proofs.HandleNumbers.{registering-same}
use Rattle.ckpt_machine.proofs.HeldIdentity.{with_hold-identity, with_active-identity}
use Rattle.ckpt_machine.proofs.Joining.{opened_with-identity}
use Rattle.ckpt_machine.proofs.OptionLemmas.{IsSomeAnd-at, what_is}
use Rattle.ckpt_machine.proofs.OwnMaking.{making_there}
use Rattle.ckpt_machine.proofs.ReferenceCounts.{alike, held_alike, led_alike, opened_more, made_more}
use Rattle.ckpt_machine.proofs.ReferenceSteps.{HasReferences, LeavesAs, as_it_was, swept_as_it_was, entry_leaves, undone_leaves, without_making_leaves, making_leaves, retaining_leaves, within, put_handles, tables_leave, opening_leaves, closing_leaves, gone_leaves, leaving_leaves}

module _ (m : Machine) (shapes : ℕ → Shape) (inv : InvariantIn shapes m) (has : HasReferences m) (Gone : ℕ → Type 0) (gone : (j : ℕ) → entry_of j m.cluster.entries ≡ None → Gone j) (s : CallState) (held : m.in_hand (who s) ≡ Some s) where
  abbrev Leaves : Machine → Type 0
  Leaves = LeavesAs m shapes inv has Gone gone

  -- nothing changes
  here : Leaves m
  here = as_it_was m shapes inv has Gone gone

  -- what is asked for by no node is asked for by a client
  client : (ask : Ask) → asked s.op ≡ ask → (IsCopyAsk ask → ⊥) → IsClient s.call.actor
  client ask is other = asker_client s.call.actor ask (subst (MayAsk s.call.actor) is (inv.hands (who s) s held).asker) other

  abbrev c : ℕ
  c = client_of s.call

  where_ok : (reply : StepReply) (n : Machine) → Leaves n → Leaves (on_ok reply m n)
  where_ok words.Ok n then = then
  where_ok reply n then = here

  where_some : (o : Option ℕ) (f : ℕ → Machine) → ((k : ℕ) → Leaves (f k)) → Leaves (at_some o m f)
  where_some None f then = here
  where_some (Some k) f then = then k

  where_both : (j q : Option ℕ) (f : ℕ → ℕ → Machine) → ((j q : ℕ) → Leaves (f j q)) → Leaves (at_some j m (λ j. at_some q m (f j)))
  where_both j q f then = where_some j _ (λ j. where_some q (f j) (then j))

  at_replica : (n : Machine) (k r : ℕ) (o : Option ReplicaState) (change : ReplicaState → ReplicaState) → Leaves n → Leaves (change_replica n k r o change)
  at_replica n k r None change then = then
  at_replica n k r (Some x) change then = then

  -- a replica changes
  at_one : (j q : Option ℕ) (reply : StepReply) (change : ℕ → ℕ → ReplicaState → ReplicaState) → Leaves (on_ok reply m (at_some j m (λ k. at_some q m (λ r. change_replica m k r (m.replicas k r) (change k r)))))
  at_one j q reply change = where_ok reply _ (where_both j q _ (λ k r. at_replica m k r (m.replicas k r) (change k r) here))

  -- a node is complete, and has a replica
  completed_leaves : (k r : ℕ) → Leaves (with_replica_copied s k r (staged_moment m k) (record_step (completed k r) m))
  completed_leaves k r =
      let n = slice_index m.cluster.up r in
      entry_leaves m shapes inv has Gone gone k (completed_on r n) (λ e. ap (λ (e : Entry). e.identity) (rest_stays r n e)) (λ e. alike e (completed_on r n e) (ap (λ (e : Entry). e.references) (rest_stays r n e)))

  module _ (end : Option Outcome) (details : Details) where
    -- the parts of the step
    abbrev told : Verb → Option ℕ → Option ℕ → StepReply → Told
    told verb j q reply = record { verb = verb; ckpt = j; node = q; reply = reply; end = end; details = details }

    finished_leaves : (k : ℕ) (q : Option ℕ) → Row m s verbs.Finish (told verbs.Finish (Some k) q words.Ok) → Leaves (changed m s verbs.Finish (Some k) q words.Ok)
    finished_leaves k None row =
        let asks_to = row.0.2 in
        let (e, found, making) = IsSomeAnd-at (entry_of k m.cluster.entries) (λ e. e.making ≡ Some s.call) (making_there m.cluster inv.rises s.call k row.0.3.0) in
        let is_client = client (asks.Open asks_to.place row.0.0 asks_to.flags asks_to.timeout row.0.1) asks_to.asks (λ copy. copy) in
        opening_leaves m shapes inv has Gone gone s is_client asks_to.place row.0.0 asks_to.flags asks_to.timeout row.0.1 asks_to.asks k (made_with (home_of c m.cluster) m.cluster.up c) e (λ e. refl) found
        (made_more (home_of c m.cluster) m.cluster.up c e (within m shapes inv has Gone gone s is_client k e found))
    finished_leaves k (Some q) row = absurd row.0

    opened_leaves : (k : ℕ) (q : Option ℕ) → Row m s verbs.Open (told verbs.Open (Some k) q words.Ok) → Leaves (changed m s verbs.Open (Some k) q words.Ok)
    opened_leaves k None row =
        let asks_to = row.0.2 in
        let may : MayOpen m s row.0.0 row.0.1 k = row.0.3.0 in
        let (e, named_so, openable) = IsSomeAnd-at (named row.0.0 m.cluster.entries) (IsOpenable row.0.1 k) may.there in
        let found : entry_of k m.cluster.entries ≡ Some e = ap (λ j. entry_of j m.cluster.entries) (sym openable.identity) ∙ entry_of-find _ m.cluster.entries e inv.rises named_so in
        let is_client = client (asks.Open asks_to.place row.0.0 asks_to.flags asks_to.timeout row.0.1) asks_to.asks (λ copy. copy) in
        opening_leaves m shapes inv has Gone gone s is_client asks_to.place row.0.0 asks_to.flags asks_to.timeout row.0.1 asks_to.asks k (opened_with (home_of c m.cluster) m.cluster.up c) e (opened_with-identity (home_of c m.cluster) m.cluster.up c) found
        (opened_more (home_of c m.cluster) m.cluster.up c e (within m shapes inv has Gone gone s is_client k e found))
    opened_leaves k (Some q) row = absurd row.0

    closed_leaves : (k : ℕ) (q : Option ℕ) → Row m s verbs.Close (told verbs.Close (Some k) q words.Ok) → Leaves (changed m s verbs.Close (Some k) q words.Ok)
    closed_leaves k None row =
        let (e, found) = what_is (entry_of k m.cluster.entries) row.0.2.1 in
        closing_leaves m shapes inv has Gone gone s (client (asks.Close row.0.0) row.0.1 (λ copy. copy)) held row.0.0 row.0.1 k row.0.2.0 e found
    closed_leaves k (Some q) row = absurd row.0

    undone_then : (k : ℕ) (q : Option ℕ) → Row m s verbs.Undo (told verbs.Undo (Some k) q words.Ok) → Leaves (changed m s verbs.Undo (Some k) q words.Ok)
    undone_then k None row = undone_leaves m shapes inv has Gone gone s.call k row.0.3.0
    undone_then k (Some q) row = absurd row.0

    -- a look that closes a handle does so of a checkpoint that is gone
    done_leaves : (ask : Ask) → asked s.op ≡ ask → (answer : Answer) → LookDone m s ask answer → Leaves (with_closed s m)
    done_leaves (asks.Close place) is answers.Nothing row =
        let (k, kept, none) = IsSomeAnd-at s.kept.ckpt (λ k. entry_of k m.cluster.entries ≡ None) row in
        gone_leaves m shapes inv has Gone gone s (client (asks.Close place) is (λ copy. copy)) held place is k kept none
    done_leaves (asks.Close place) is answer row = absurd row
    done_leaves ask is answer row = tables_leave m shapes inv has Gone gone s.call.actor (closing (asked s.op)) (ap (λ x. (closing x (m.tables s.call.actor)).handles) is)

    looked_leaves : LookRow m s words.Done end → Leaves (with_closed s m)
    looked_leaves row = by_end end row
      where
        by_end : (o : Option Outcome) → LookRow m s words.Done o → Leaves (with_closed s m)
        by_end (Some (Done answer)) row = done_leaves (asked s.op) refl answer row
        by_end (Some o) row = absurd row
        by_end None row = absurd row

    -- WHATEVER THE VERB IS
    pub changed_leaves : (verb : Verb) (j q : Option ℕ) (reply : StepReply) → Row m s verb (told verb j q reply) → Leaves (changed m s verb j q reply)
    changed_leaves verbs.Enter j q reply row = where_ok reply _ (where_some q _ (λ r. swept_as_it_was m shapes inv has Gone gone (entered c r s.call.number m.cluster) _ (λ d. put_handles m.tables s.call.actor (registering (asked s.op) (m.tables s.call.actor)) (registering-same (asked s.op) (m.tables s.call.actor)).handles (Client d)) refl))
    changed_leaves verbs.Leave None None reply row = where_ok reply _ (leaving_leaves m shapes inv has Gone gone s (client asks.Leave row.0.0 (λ copy. copy)))
    changed_leaves verbs.Leave j q reply row = absurd row.0
    changed_leaves verbs.Create j q reply row = where_ok reply _ (making_leaves m shapes inv has Gone gone s.call (asked s.op))
    changed_leaves verbs.Reserve j q reply row = where_ok reply _ (where_both j q _ (λ k r. here))
    changed_leaves verbs.Finish (Some k) q words.Ok row = finished_leaves k q row
    changed_leaves verbs.Finish None q words.Ok row = here
    changed_leaves verbs.Finish j q reply row = here
    changed_leaves verbs.Undo (Some k) q words.Ok row = undone_then k q row
    changed_leaves verbs.Undo None q words.Ok row = here
    changed_leaves verbs.Undo j q reply row = here
    changed_leaves verbs.Open (Some k) q words.Ok row = opened_leaves k q row
    changed_leaves verbs.Open None q words.Ok row = here
    changed_leaves verbs.Open j q reply row = here
    changed_leaves verbs.Close (Some k) q words.Ok row = closed_leaves k q row
    changed_leaves verbs.Close None q words.Ok row = here
    changed_leaves verbs.Close j q reply row = here
    changed_leaves verbs.Unlink j q reply row = where_ok reply _ (where_some j _ (λ k. entry_leaves m shapes inv has Gone gone k unnamed (λ e. refl) (λ e. alike e (unnamed e) refl)))
    changed_leaves verbs.Retain j q reply row = where_ok reply _ (where_some j _ (λ k. retaining_leaves m shapes inv has Gone gone (asked s.op) k))
    changed_leaves verbs.Stage j q reply row = at_one j q reply _
    changed_leaves verbs.Claim j q reply row = at_one j q reply _
    changed_leaves verbs.Withdraw j q reply row = at_one j q reply _
    changed_leaves verbs.Commit j q reply row = at_one j q reply _
    changed_leaves verbs.Apply j q reply row = at_one j q reply _
    changed_leaves verbs.Mark j q reply row = at_one j q reply _
    changed_leaves verbs.Element j q reply row = at_one j q reply _
    changed_leaves verbs.Unmark j q reply row = at_one j q reply _
    changed_leaves verbs.Install j q reply row = at_one j q reply _
    changed_leaves verbs.Iter j q reply row = where_ok reply _ (where_both j q _ (λ k r. tables_leave m shapes inv has Gone gone s.call.actor (started (asked s.op) s.kept.room (λ choice. chosen_at choice m.cluster.moment (seen_at m k r))) (started-handles (asked s.op) s.kept.room (λ choice. chosen_at choice m.cluster.moment (seen_at m k r)) (m.tables s.call.actor))))
    changed_leaves verbs.Next j q reply row = where_ok reply _ (where_both j q _ (λ k r. tables_leave m shapes inv has Gone gone s.call.actor (gone_on (asked s.op) (given_at (ids_asked m s) m.cluster.moment (seen_at m k r))) (gone_on-handles (asked s.op) (given_at (ids_asked m s) m.cluster.moment (seen_at m k r)) (m.tables s.call.actor))))
    changed_leaves verbs.Hold j q reply row = where_ok reply _ (where_some j _ (λ k. entry_leaves m shapes inv has Gone gone k (with_hold s.call) (with_hold-identity s.call) (held_alike s.call)))
    changed_leaves verbs.Activate j q reply row = where_ok reply _ (where_both j q _ (λ k r. at_replica (record_step (active_set k r) m) k r ((record_step (active_set k r) m).replicas k r) _ (entry_leaves m shapes inv has Gone gone k (with_active r) (with_active-identity r) (led_alike r))))
    changed_leaves verbs.Complete j q reply row = where_ok reply _ (where_both j q _ (λ k r. completed_leaves k r))
    changed_leaves verbs.Look j q words.Done row = looked_leaves row.2
    changed_leaves verbs.Look j q words.Refused row = without_making_leaves m shapes inv has Gone gone s.call
    changed_leaves verbs.Look j q reply row = here
    changed_leaves verb j q reply row = here
