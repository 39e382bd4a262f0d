-- What becomes of a checkpoint by any step but a completion, and as time goes on, as any relation of entries tells it that holds where one stays made, and where one gets an active.
use Rattle.std.proofs.Common.{◌≡◌, ℕ, ◌≤◌, Option, Some, None, not, ◌==◌, ℤ, refl, subst, arith}
use Rattle.node_msgs.specs.declared.steps.Verb.{Verb}
use Rattle.node_msgs.specs.declared.steps.Verb.TheVariants as verbs
use Rattle.node_msgs.specs.declared.steps.StepReply.{StepReply}
use Rattle.node_msgs.specs.declared.steps.StepReply.TheVariants as words
use Rattle.ckpt_types.specs.Asks.{asked}
use Rattle.cluster_record.specs.declared.entries.Entry.{Entry}
use Rattle.cluster_record.specs.Calls.{client_of}
use Rattle.cluster_record.specs.Identities.{IdentitiesRise}
use Rattle.cluster_record.specs.Makings.{making_of}
use Rattle.cluster_record.specs.Places.{change_key}
use Rattle.cluster_record.specs.RecordState.{RecordState, entry_of, identity_of, stays, swept, moved, entered, home_of, opened_with, unreferred, unnamed, departed, undone, finished, with_active, with_hold, active_set}
use Rattle.cluster_record.proofs.IdentityLaws.{KeepsIdentity, IdentitiesRise-change_key, IdentitiesRise-filter}
use Rattle.ckpt_machine.specs.After.{changed, on_ok, on_look, at_some, change_replica, created_for, retained_for, without_making}
use Rattle.ckpt_machine.specs.Invariant.{Invariant}
use Rattle.ckpt_machine.specs.Machine.{Machine, ReplicaState, CallState}
use Rattle.ckpt_machine.proofs.Entries.{ComesOf-change_key, ComesOf-filter}
use Rattle.ckpt_machine.proofs.HeldIdentity.{with_active-identity}
use Rattle.ckpt_machine.proofs.Joining.{opened_with-identity}
use Rattle.ckpt_machine.proofs.References.{released-identity}
use Rattle.ckpt_machine.proofs.StaysMade.{StaysMade, StaysMade-kept, MadeOn, held_made, held-identity, released_made, opened_made, same_on, changed_on, filter_on, departed_on, finished_on, created_for_on, retained_for_on, StepNeeds, StaysMade-same}

-- what a step makes of the record, of this checkpoint
pub record ComesOn (Rel : Entry → Entry → Type 0) (k : ℕ) (R S : RecordState) : Type 0 where
  pub last : R.last_identity ≤ S.last_identity
  pub rises : IdentitiesRise S.entries
  pub was : (f : Entry) → entry_of k S.entries ≡ Some f → (e : Entry) × (entry_of k R.entries ≡ Some e) × Rel e f

module _ (Rel : Entry → Entry → Type 0) (made_so : (e f : Entry) → StaysMade e f → Rel e f) (led_so : (r : ℕ) (e : Entry) → Rel e (with_active r e)) where
  same : (e : Entry) → Rel e e
  same e = made_so e e (StaysMade-same e)

  module _ (k : ℕ) (m : Machine) (given : k ≤ m.cluster.last_identity) (inv : Invariant m) where
    -- so it is of one machine behind another
    abbrev pub Goes : Machine → Type 0
    Goes n = ComesOn Rel k m.cluster n.cluster

    pub same_goes : Goes m
    same_goes = record { last = omega arith; rises = inv.holds.rises; was = λ f found. (f, found, same f) }

    pub made_goes : (S : RecordState) → MadeOn k m.cluster S → ComesOn Rel k m.cluster S
    made_goes S on = record { last = on.last; rises = on.rises; was = λ f found. (let (e, there, still) = on.made f found in (e, there, made_so e f still)) }

    -- where one entry is changed, which remains
    pub one_goes : (j : ℕ) (f : Entry → Entry) → KeepsIdentity f → ((e : Entry) → Rel e (f e)) → ComesOn Rel k m.cluster (record m.cluster { entries = change_key identity_of j f m.cluster.entries })
    one_goes j f keeps remains = record {
      last = omega arith;
      rises = IdentitiesRise-change_key f keeps j m.cluster.entries inv.holds.rises;
      was = ComesOf-change_key Rel same f keeps remains j m.cluster.entries k;
    }

    -- and where what is over is swept away behind it
    pub swept_goes : (S : RecordState) → ComesOn Rel k m.cluster S → ComesOn Rel k m.cluster (swept S)
    swept_goes S goes = record {
      last = goes.last;
      rises = IdentitiesRise-filter (stays S.moment) S.entries goes.rises;
      was = λ f found. (
          let (g, between, is) = ComesOf-filter (λ e f. e ≡ f) (λ e. refl) (stays S.moment) S.entries goes.rises k f found in
          let (e, there, remains) = goes.was g between in
          (e, there, subst (Rel e) is remains));
    }

    step_goes : (step : RecordState → RecordState) → MadeOn k m.cluster (step m.cluster) → ComesOn Rel k m.cluster (swept (step m.cluster))
    step_goes step on = swept_goes (step m.cluster) (made_goes (step m.cluster) on)

    entry_goes : (j : ℕ) (f : Entry → Entry) → KeepsIdentity f → ((e : Entry) → StaysMade e (f e)) → ComesOn Rel k m.cluster (swept (record m.cluster { entries = change_key identity_of j f m.cluster.entries }))
    entry_goes j f keeps made = swept_goes _ (made_goes _ (changed_on k m.cluster given inv.holds.rises inv.holds.up_to j f keeps made))

    undone_goes : (j : ℕ) → ComesOn Rel k m.cluster (swept (undone j m.cluster))
    undone_goes j = step_goes (undone j) (filter_on k m.cluster given inv.holds.rises inv.holds.up_to (λ e. not (e.identity == j)))

    -- what is done on OK alone, and at a checkpoint and a node that are named
    pub ok_goes : (reply : StepReply) (n : Machine) → Goes n → Goes (on_ok reply m n)
    ok_goes words.Ok n goes = goes
    ok_goes reply n goes = same_goes

    look_goes : (reply : StepReply) (done refused : Machine) → Goes done → Goes refused → Goes (on_look reply m done refused)
    look_goes words.Done done refused after_done after_refused = after_done
    look_goes words.Refused done refused after_done after_refused = after_refused
    look_goes reply done refused after_done after_refused = same_goes

    some_goes : (j : Option ℕ) (change : ℕ → Machine) → ((j : ℕ) → Goes (change j)) → Goes (at_some j m change)
    some_goes None change goes = same_goes
    some_goes (Some j) change goes = goes j

    pub both_go : (j q : Option ℕ) (change : ℕ → ℕ → Machine) → ((j q : ℕ) → Goes (change j q)) → Goes (at_some j m (λ j. at_some q m (change j)))
    both_go j q change goes = some_goes j _ (λ j. some_goes q (change j) (goes j))

    -- a replica that is changed leaves the record
    replica_goes : (b : Machine) → Goes b → (j q : ℕ) (o : Option ReplicaState) (change : ReplicaState → ReplicaState) → Goes (change_replica b j q o change)
    replica_goes b goes j q None change = goes
    replica_goes b goes j q (Some x) change = goes

    replica_at : (reply : StepReply) (j q : Option ℕ) (change : ℕ → ℕ → ReplicaState → ReplicaState) → Goes (on_ok reply m (at_some j m (λ j. at_some q m (λ q. change_replica m j q (m.replicas j q) (change j q)))))
    replica_at reply j q change = ok_goes reply _ (both_go j q _ (λ j q. replica_goes m same_goes j q (m.replicas j q) (change j q)))

    making_goes : (j : Option ℕ) → Goes (without_making j m)
    making_goes None = same_goes
    making_goes (Some j) = undone_goes j

    finished_goes : (s : CallState) (j q : Option ℕ) (reply : StepReply) → StepNeeds m.cluster s.call verbs.Finish j reply → Goes (changed m s verbs.Finish j q reply)
    finished_goes s (Some j) q words.Ok by = step_goes (finished j (client_of s.call)) (finished_on k m.cluster given inv.holds.rises inv.holds.up_to s.call j (client_of s.call) by)
    finished_goes s None q words.Ok by = same_goes
    finished_goes s j q reply by = same_goes

    -- where time goes on
    pub moved_goes : (t : ℤ) → ComesOn Rel k m.cluster (moved t m.cluster)
    moved_goes t = record {
      last = omega arith;
      rises = IdentitiesRise-filter (stays t) m.cluster.entries inv.holds.rises;
      was = ComesOf-filter Rel same (stays t) m.cluster.entries inv.holds.rises k;
    }

    -- any step but a completion
    pub changed_goes : (s : CallState) (verb : Verb) (j q : Option ℕ) (reply : StepReply) → (verb ≡ verbs.Complete → ⊥) → StepNeeds m.cluster s.call verb j reply → Goes (changed m s verb j q reply)
    changed_goes s verbs.Enter j q reply no_completion needs = ok_goes reply _ (some_goes q _ (λ q. step_goes (entered (client_of s.call) q s.call.number) (record { last = omega arith; rises = inv.holds.rises; made = (same_on k m.cluster given inv.holds.rises inv.holds.up_to).made })))
    changed_goes s verbs.Open j q reply no_completion needs = ok_goes reply _ (some_goes j _ (λ j. entry_goes j (opened_with (home_of (client_of s.call) m.cluster) m.cluster.up (client_of s.call)) (opened_with-identity (home_of (client_of s.call) m.cluster) m.cluster.up (client_of s.call)) (opened_made (home_of (client_of s.call) m.cluster) m.cluster.up (client_of s.call))))
    changed_goes s verbs.Create j q reply no_completion needs = ok_goes reply _ (step_goes (created_for s.call (asked s.op)) (created_for_on k m.cluster given inv.holds.rises inv.holds.up_to s.call (asked s.op)))
    changed_goes s verbs.Reserve j q reply no_completion needs = ok_goes reply _ (both_go j q _ (λ j q. same_goes))
    changed_goes s verbs.Finish j q reply no_completion needs = finished_goes s j q reply needs
    changed_goes s verbs.Undo j q reply no_completion needs = ok_goes reply _ (some_goes j _ undone_goes)
    changed_goes s verbs.Stage j q reply no_completion needs = replica_at reply j q _
    changed_goes s verbs.Claim j q reply no_completion needs = replica_at reply j q _
    changed_goes s verbs.Withdraw j q reply no_completion needs = replica_at reply j q _
    changed_goes s verbs.Commit j q reply no_completion needs = replica_at reply j q _
    changed_goes s verbs.Apply j q reply no_completion needs = replica_at reply j q _
    changed_goes s verbs.Mark j q reply no_completion needs = replica_at reply j q _
    changed_goes s verbs.Element j q reply no_completion needs = replica_at reply j q _
    changed_goes s verbs.Unmark j q reply no_completion needs = replica_at reply j q _
    changed_goes s verbs.Install j q reply no_completion needs = replica_at reply j q _
    changed_goes s verbs.Hold j q reply no_completion needs = ok_goes reply _ (some_goes j _ (λ j. entry_goes j (with_hold s.call) (held-identity s.call) (held_made s.call)))
    changed_goes s verbs.Activate j q reply no_completion needs = ok_goes reply _ (both_go j q _ (λ j q.
        let set = swept_goes (active_set j q m.cluster) (one_goes j (with_active q) (with_active-identity q) (led_so q)) in
        replica_goes _ set j q _ _))
    changed_goes s verbs.Complete j q reply no_completion needs = absurd (no_completion refl)
    changed_goes s verbs.Iter j q reply no_completion needs = ok_goes reply _ (both_go j q _ (λ j q. same_goes))
    changed_goes s verbs.Next j q reply no_completion needs = ok_goes reply _ (both_go j q _ (λ j q. same_goes))
    changed_goes s verbs.Leave j q reply no_completion needs = ok_goes reply _ (step_goes (departed (client_of s.call)) (departed_on k m.cluster given inv.holds.rises inv.holds.up_to (client_of s.call)))
    changed_goes s verbs.Close j q reply no_completion needs = ok_goes reply _ (some_goes j _ (λ j. entry_goes j (unreferred (client_of s.call) m.cluster.moment) (released-identity (client_of s.call) m.cluster.moment) (released_made (client_of s.call) m.cluster.moment)))
    changed_goes s verbs.Unlink j q reply no_completion needs = ok_goes reply _ (some_goes j _ (λ j. entry_goes j unnamed (λ e. refl) (λ e. StaysMade-kept e (unnamed e) refl refl refl refl refl refl)))
    changed_goes s verbs.Retain j q reply no_completion needs = ok_goes reply _ (some_goes j _ (λ j. step_goes (retained_for (asked s.op) j) (retained_for_on k m.cluster given inv.holds.rises inv.holds.up_to (asked s.op) j)))
    changed_goes s verbs.Look j q reply no_completion needs = look_goes reply _ _ same_goes (making_goes (making_of s.call m.cluster))
    changed_goes s verb j q reply no_completion needs = same_goes
