-- The calls of one step of the record, with any calls of others in hand: a close, an unlink, a setting of the retention, a client that leaves, and one that becomes live.
use Rattle.std.proofs.Common.{◌≡◌, ℕ, inl, inr, List, Option, Some, None, true, false, cond, ℤ, refl, sym, ap, subst, ◌∙◌}
use Rattle.std.specs.Prelude.{is_some, IsSome}
use Rattle.ckpt_types.specs.declared.ais_error.AisError.{AisError}
use Rattle.ckpt_types.specs.declared.ais_error.AisError.TheVariants.{NotExist, TryAgain, BadOperation}
use Rattle.ckpt_types.specs.declared.answers.Answer.TheVariants as answers
use Rattle.ckpt_types.specs.declared.answers.Cause.{Cause}
use Rattle.ckpt_types.specs.declared.answers.Cause.TheVariants.{Plain, Holder}
use Rattle.ckpt_types.specs.declared.answers.Outcome.TheVariants.{Done, Refused}
use Rattle.ckpt_types.specs.declared.identities.CallId.{CallId}
use Rattle.node_msgs.specs.declared.next.RecordStep.TheVariants as events
use Rattle.node_msgs.specs.declared.next.Next.TheVariants.{Event, End}
use Rattle.node_msgs.specs.declared.steps.Verb.TheVariants as verbs
use Rattle.node_msgs.specs.declared.steps.StepReply.TheVariants as words
use Rattle.cluster_record.specs.declared.entries.Entry.{Entry}
use Rattle.cluster_record.specs.Calls.{same_call, client_of}
use Rattle.cluster_record.specs.DueOnce.{OneStep, Enter, Leave, Close, Unlink, Retain, close_of, unlink_of, unlink_of_making, retain_of, once_next}
use Rattle.cluster_record.specs.LookUps.{identity_in}
use Rattle.cluster_record.specs.RecordState.{entry_of, named, is_live, unreferred, closed, unnamed, retaining}
use Rattle.cluster_record.proofs.IdentityLaws.{entry_of-find}
use Rattle.node_msgs.specs.declared.details.Details.TheVariants as beside
use Rattle.ckpt_types.specs.Asks.{asked, update_asked, is_async_ask}
use Rattle.ckpt_types.specs.Asks as asks
use Rattle.ckpt_machine.specs.Drivers as drivers
use Rattle.ckpt_machine.specs.InHand.{IsCloseAt, IsRetainAt, is_enter, IsInPlace}
use Rattle.ckpt_machine.specs.Invariant.{IsMaker, IsGoodIn, InvariantIn, Invariant}
use Rattle.ckpt_machine.specs.Machine.{Machine, CallState, who}
use Rattle.node_core.specs.Serving.{update_answer}
use Rattle.ckpt_machine.specs.After.{with_closed, record_step, retained_for}
use Rattle.ckpt_machine.specs.Due.{Told, IsDone, IsEvent, driver_of}
use Rattle.ckpt_machine.specs.LookGuards.{LookRefused, LookDone, UnlinkLook, RetainLook}
use Rattle.ckpt_machine.specs.OpenGuards.{CanUnlink}
use Rattle.ckpt_machine.specs.Shape.{Shape}
use Rattle.ckpt_machine.specs.Later.{IsLaterEntry}
use Rattle.ckpt_machine.proofs.Enter.{enter_goes}
use Rattle.ckpt_machine.proofs.Joining.{same_nodes-later}
use Rattle.ckpt_machine.proofs.PlainCalls.{is_plain, ending, maker_apart, plain_ends, look_goes, changed_keeps}
use Rattle.ckpt_machine.proofs.References.{released-identity, released-later}
use Rattle.ckpt_machine.proofs.Leaving.{leave_goes}
use Rattle.ckpt_machine.proofs.DroppedCalls.{without_those}
use Rattle.ckpt_machine.proofs.Closing.{goes, without_syncs_keep, held_still, closing_ends}
use Rattle.ckpt_machine.proofs.DueStep.{Goes}
use Rattle.ckpt_machine.proofs.OptionLemmas.{IsSomeAnd-from}
use Rattle.ckpt_machine.proofs.StepLabels.{IsEvent-told}
use Rattle.ckpt_machine.proofs.Whose.{other_call}

-- ---- changes that the invariant does not look at

unnamed-later : (up : List ℕ) (e : Entry) → IsLaterEntry up e (unnamed e)
unnamed-later up e = same_nodes-later up e (unnamed e) refl refl refl refl refl refl refl

retaining-later : (up : List ℕ) (duration : ℤ) (e : Entry) → IsLaterEntry up e (retaining duration e)
retaining-later up duration e = same_nodes-later up e (retaining duration e) refl refl refl refl refl refl refl

-- ---- a close

module _ (m : Machine) (shapes : ℕ → Shape) (inv : InvariantIn shapes m) (s : CallState) (k : ℕ) (held : m.in_hand (who s) ≡ Some s) (is : driver_of s ≡ drivers.Once (Close k)) where
  abbrev c : ℕ
  c = client_of s.call

  at_close : IsCloseAt s k
  at_close = subst (λ d. IsInPlace m shapes s d) is (inv.hands (who s) s held).here

  -- it is no asynchronous call
  plain_close : is_async_ask (asked s.op) ≡ false
  plain_close = ap is_async_ask at_close.asks

  -- without the asynchronous synchronisations over its handle
  abbrev without_syncs_then : Machine
  without_syncs_then = without_those (goes s m) m

  syncs_keep : InvariantIn shapes without_syncs_then
  syncs_keep = without_syncs_keep s m shapes inv held plain_close

  held_then : without_syncs_then.in_hand (who s) ≡ Some s
  held_then = held_still s m shapes inv held plain_close

  -- the handle goes once the call has ended
  closed_ends : Invariant (ending s (with_closed s (record_step (closed k c) m)))
  closed_ends =
      let n : Machine = record_step (closed k c) m in
      record {
        shapes = shapes;
        holds = closing_ends s m shapes inv held plain_close n.cluster n.replicas n.reserved n.snapshots
            (changed_keeps without_syncs_then shapes syncs_keep s held_then (ap (λ d. is_plain d s.snapshot) is) k (unreferred c m.cluster.moment) (released-identity c m.cluster.moment) (λ e found. released-later m.cluster.up c m.cluster.moment e));
      }

  -- also where it does nothing else
  gone_ends : Invariant (ending s (with_closed s m))
  gone_ends = record {
    shapes = shapes;
    holds = closing_ends s m shapes inv held plain_close m.cluster m.replicas m.reserved m.snapshots (plain_ends without_syncs_then shapes syncs_keep s held_then (ap (λ d. is_plain d s.snapshot) is));
  }

  close_event : (t : Told) (e : Entry) → entry_of k m.cluster.entries ≡ Some e → IsEvent m s events.Close t → Goes m s (driver_of s) t
  close_event t e found event = elim (IsEvent-told m s events.Close t (drivers.Once (Close k)) event is refl tt) [
    | inl ok ↦ subst (Goes m s (driver_of s)) (sym ok) (record {
      row = ((at_close.place, at_close.asks, (at_close.kept, ap is_some found, refl)), refl);
      holds = closed_ends;
      nearer = λ none. absurd (cc none);
    })
    | inr memory ↦ absurd (cc (memory.0))
  ]

  -- with nothing left to do it ends the handle
  close_look : (t : Told) → entry_of k m.cluster.entries ≡ None → IsDone m s (End (Done answers.Nothing)) t → Goes m s (driver_of s) t
  close_look t gone done = subst (Goes m s (driver_of s)) (sym done) (record {
    row = (refl, refl, subst (λ ask. LookDone m s ask (update_answer (update_asked ask))) (sym at_close.asks) (IsSomeAnd-from s.kept.ckpt (λ k. entry_of k m.cluster.entries ≡ None) k at_close.kept gone), refl);
    holds = gone_ends;
    nearer = λ none. absurd (cc none);
  })

  -- the next step of a close
  close_goes : (t : Told) → IsDone m s (close_of (entry_of k m.cluster.entries)) t → Goes m s (driver_of s) t
  close_goes t done = by_entry (entry_of k m.cluster.entries) refl done where
    by_entry : (o : Option Entry) → entry_of k m.cluster.entries ≡ o → IsDone m s (close_of o) t → Goes m s (driver_of s) t
    by_entry None gone done = close_look t gone done
    by_entry (Some e) found done = close_event t e found done

-- ---- an unlink

module _ (m : Machine) (shapes : ℕ → Shape) (inv : InvariantIn shapes m) (s : CallState) (name : List ℕ) (held : m.in_hand (who s) ≡ Some s) (is : driver_of s ≡ drivers.Once (Unlink name)) where
  at_unlink : asked s.op ≡ asks.Unlink name
  at_unlink = subst (λ d. IsInPlace m shapes s d) is (inv.hands (who s) s held).here

  module _ (e : Entry) (found : named name m.cluster.entries ≡ Some e) where
    unlink_event : (t : Told) → e.making ≡ None → IsEvent m s events.Unlink t → Goes m s (driver_of s) t
    unlink_event t made event = elim (IsEvent-told m s events.Unlink t (drivers.Once (Unlink name)) event is refl tt) [
      | inl ok ↦ subst (Goes m s (driver_of s)) (sym (ok ∙ (λ i. record { verb = verbs.Unlink; ckpt = identity_in (found i); node = None; reply = words.Ok; end = Some (Done answers.Nothing); details = beside.Nothing }))) (record {
        row = ((name, at_unlink, (IsSomeAnd-from (named name m.cluster.entries) (CanUnlink e.identity) e found (record { identity = refl; made = made }), refl)), refl);
        holds = record { shapes = shapes; holds = changed_keeps m shapes inv s held (ap (λ d. is_plain d s.snapshot) is) e.identity unnamed (λ x. refl) (λ e found. unnamed-later m.cluster.up e) };
        nearer = λ none. absurd (cc none);
      })
      | inr memory ↦ absurd (cc (memory.0))
    ]

    -- another call, which is live, is making it
    making_look : (by : CallId) → e.making ≡ Some by → UnlinkLook m s name TryAgain (Holder by)
    making_look by made_by =
        let there = entry_of-find _ m.cluster.entries e inv.rises found in
        let good : IsGoodIn m e.identity (shapes e.identity) e (Some by) = subst (IsGoodIn m e.identity (shapes e.identity) e) made_by (inv.entries e.identity e there) in
        let maker : IsMaker m e.identity by = good.1 in (
          IsSomeAnd-from (named name m.cluster.entries) (λ e. e.making ≡ Some by) e found made_by,
          ap (is_live m.cluster) (sym maker.call_is) ∙ (inv.hands (who maker.state) maker.state maker.in_hand).live (ap is_enter maker.driver_is),
          ap (λ (c : CallId). same_call c s.call) (sym maker.call_is) ∙ other_call m.in_hand m.pending m.next inv.calls (who maker.state) (who s) maker.state s maker.in_hand held (maker_apart m shapes inv s held (ap (λ d. is_plain d s.snapshot) is) e.identity by maker),
        )

  -- the next step of an unlink
  unlink_goes : (t : Told) → IsDone m s (unlink_of (named name m.cluster.entries)) t → Goes m s (driver_of s) t
  unlink_goes t done = by_entry (named name m.cluster.entries) refl done where
    refused : (error : AisError) (cause : Cause) → UnlinkLook m s name error cause → IsDone m s (End (Refused error cause)) t → Goes m s (driver_of s) t
    refused error cause look done = look_goes m shapes inv s held (ap (λ d. is_plain d s.snapshot) is) error cause t (subst (λ ask. LookRefused m s ask error cause) (sym at_unlink) look) done

    by_maker : (e : Entry) → named name m.cluster.entries ≡ Some e → (maker : Option CallId) → e.making ≡ maker → IsDone m s (unlink_of_making maker) t → Goes m s (driver_of s) t
    by_maker e found None made done = unlink_event e found t made done
    by_maker e found (Some by) made_by done = refused TryAgain (Holder by) (making_look e found by made_by) done

    by_entry : (o : Option Entry) → named name m.cluster.entries ≡ o → IsDone m s (unlink_of o) t → Goes m s (driver_of s) t
    by_entry None none done = refused NotExist Plain none done
    by_entry (Some e) found done = by_maker e found e.making refl done

-- ---- a setting of the retention

module _ (m : Machine) (shapes : ℕ → Shape) (inv : InvariantIn shapes m) (s : CallState) (k : ℕ) (duration : ℤ) (held : m.in_hand (who s) ≡ Some s) (is : driver_of s ≡ drivers.Once (Retain k duration)) where
  at_retain : IsRetainAt m s k duration
  at_retain = subst (λ d. IsInPlace m shapes s d) is (inv.hands (who s) s held).here

  retain_event : (t : Told) (e : Entry) → entry_of k m.cluster.entries ≡ Some e → is_some e.name ≡ true → IsEvent m s events.Retain t → Goes m s (driver_of s) t
  retain_event t e found has event = elim (IsEvent-told m s events.Retain t (drivers.Once (Retain k duration)) event is refl tt) [
    | inl ok ↦ subst (Goes m s (driver_of s)) (sym ok) (record {
      row = ((at_retain.place, duration, at_retain.asks, (at_retain.kept, IsSomeAnd-from (entry_of k m.cluster.entries) (λ e. IsSome e.name) e found has, refl)), refl);
      holds = subst (λ ask. Invariant (ending s (record_step (retained_for ask k) m))) (sym at_retain.asks)
          (record { shapes = shapes; holds = changed_keeps m shapes inv s held (ap (λ d. is_plain d s.snapshot) is) k (retaining duration) (λ x. refl) (λ e found. retaining-later m.cluster.up duration e) });
      nearer = λ none. absurd (cc none);
    })
    | inr memory ↦ absurd (cc (memory.0))
  ]

  -- the next step
  retain_goes : (t : Told) → IsDone m s (retain_of (entry_of k m.cluster.entries)) t → Goes m s (driver_of s) t
  retain_goes t done = by_entry (entry_of k m.cluster.entries) refl done where
    refused : (error : AisError) → RetainLook m (Some k) error Plain → IsDone m s (End (Refused error Plain)) t → Goes m s (driver_of s) t
    refused error look done = look_goes m shapes inv s held (ap (λ d. is_plain d s.snapshot) is) error Plain t (subst (λ ask. LookRefused m s ask error Plain) (sym at_retain.asks) (subst (λ o. RetainLook m o error Plain) (sym at_retain.kept) look)) done

    by_name : (e : Entry) → entry_of k m.cluster.entries ≡ Some e → (o : Option (List ℕ)) → e.name ≡ o → IsDone m s (cond (is_some o) (Event events.Retain) (End (Refused BadOperation Plain))) t → Goes m s (driver_of s) t
    by_name e found None none done = refused BadOperation (IsSomeAnd-from (entry_of k m.cluster.entries) (λ e. e.name ≡ None) e found none) done
    by_name e found (Some name) has done = retain_event t e found (ap is_some has) done

    by_entry : (o : Option Entry) → entry_of k m.cluster.entries ≡ o → IsDone m s (retain_of o) t → Goes m s (driver_of s) t
    by_entry None gone done = refused NotExist gone done
    by_entry (Some e) found done = by_name e found e.name refl done

-- ---- any of them

-- the next step of a call of one step
pub once_goes : (m : Machine) (shapes : ℕ → Shape) (inv : InvariantIn shapes m) (s : CallState) (x : OneStep) → m.in_hand (who s) ≡ Some s → driver_of s ≡ drivers.Once x → (t : Told) → IsDone m s (once_next m.cluster x) t → Goes m s (driver_of s) t
once_goes m shapes inv s (Enter r) held is t done = enter_goes m shapes inv s r held is t done
once_goes m shapes inv s Leave held is t done = leave_goes m shapes inv s held is t done
once_goes m shapes inv s (Close k) held is t done = close_goes m shapes inv s k held is t done
once_goes m shapes inv s (Unlink name) held is t done = unlink_goes m shapes inv s name held is t done
once_goes m shapes inv s (Retain k duration) held is t done = retain_goes m shapes inv s k duration held is t done
