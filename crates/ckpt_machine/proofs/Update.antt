-- The next step of an update: allowed, the invariant holds after it, and the call comes nearer to its end, whatever other calls are in hand, and whichever were.
use Rattle.std.proofs.Common.{◌≡◌, ◌≢◌, ℕ, Option, Some, None, Bool, true, false, cond, refl, sym, ap, subst, ◌∙◌}
use Rattle.std.proofs.lemmas.Option.{same_Some}
use Rattle.ckpt_types.specs.declared.ais_error.AisError.TheVariants.{NotExist}
use Rattle.ckpt_types.specs.declared.answers.Answer.TheVariants as answers
use Rattle.ckpt_types.specs.declared.answers.Cause.TheVariants.{Plain}
use Rattle.ckpt_types.specs.declared.answers.Outcome.TheVariants.{Done, Refused}
use Rattle.ckpt_types.specs.declared.identities.CallId.{CallId}
use Rattle.ckpt_types.specs.declared.identities.Who.{Who}
use Rattle.ckpt_types.specs.declared.update.Update.{Update}
use Rattle.ckpt_types.specs.Asks.{Ask, asked, update_of, update_asked, is_async_ask}
use Rattle.ckpt_types.specs.Asks as asks
use Rattle.cluster_record.specs.declared.calls.UpdatePhase.{UpdatePhase}
use Rattle.cluster_record.specs.declared.calls.UpdatePhase.TheVariants.{Staging, Committing, Claiming, Claimed, Withdrawing, Resolving}
use Rattle.cluster_record.specs.declared.entries.Entry.{Entry}
use Rattle.cluster_record.specs.DueUpdate.{UpdateState, by_phase, update_led, update_on, update_next}
use Rattle.cluster_record.specs.Makings.{making_of}
use Rattle.cluster_record.specs.RecordState.{entry_of}
use Rattle.cluster_record.specs.StepDone.{first_lacking, last_having}
use Rattle.node_msgs.specs.declared.next.Next.TheVariants.{Serve, End}
use Rattle.node_msgs.specs.declared.requests.Request.{Request}
use Rattle.node_msgs.specs.declared.steps.StepReply.TheVariants as words
use Rattle.node_msgs.specs.declared.steps.Verb.TheVariants as verbs
use Rattle.node_core.specs.Serving.{update_answer}
use Rattle.ckpt_machine.specs.After.{goes_with, kept_behind, left_in_hand, with_closed, without_making}
use Rattle.ckpt_machine.specs.Drivers.{update_in}
use Rattle.ckpt_machine.specs.Drivers as drivers
use Rattle.ckpt_machine.specs.Driving.{making_in}
use Rattle.ckpt_machine.specs.Due.{Told, IsDone, driver_of}
use Rattle.ckpt_machine.specs.GuardTerms.{owns_slot}
use Rattle.ckpt_machine.specs.InHand.{IsDoneIn, IsInPlace, IsUpdateIn, PhaseKeeps}
use Rattle.ckpt_machine.specs.Invariant.{InvariantIn, Invariant}
use Rattle.ckpt_machine.specs.LookGuards.{LookRefused, LookDone, ChangeLook, GoneLook, NoActiveLook, HasNoActive, IsUpdated}
use Rattle.ckpt_machine.specs.Machine.{Machine, ReplicaState, CallState, who}
use Rattle.ckpt_machine.specs.Owned.{HasUpdate}
use Rattle.ckpt_machine.specs.Shape.{Shape, IsShaped}
use Rattle.ckpt_machine.specs.Tables.{handle_closed}
use Rattle.ckpt_machine.proofs.Actors.{same_call-false}
use Rattle.ckpt_machine.proofs.Closing.{goes, closing_ends}
pub use Rattle.ckpt_machine.proofs.DueStep.{Moves, Goes}
use Rattle.ckpt_machine.proofs.DroppedCalls.{without_those}
use Rattle.ckpt_machine.proofs.OnComplete.{IfSome-more, on_complete}
use Rattle.ckpt_machine.proofs.OptionLemmas.{IsSomeAnd-from}
use Rattle.ckpt_machine.proofs.Owning.{replica_at, all_is, never_unled}
use Rattle.ckpt_machine.proofs.OwnMaking.{making_is}
use Rattle.ckpt_machine.proofs.PlainCalls.{ending}
use Rattle.ckpt_machine.proofs.Turns.{owns_none, end_holds, end_keeps}
use Rattle.ckpt_machine.proofs.UpdateMoves.{MovesAt, by_next, never_none}
use Rattle.ckpt_machine.proofs.UpdatesBy.{GoesByUpdate, change_asked, goes_update}

module _ (m : Machine) (shapes : ℕ → Shape) (inv : InvariantIn shapes m) (s : CallState) (u : UpdateState) (held : m.in_hand (who s) ≡ Some s) (is : driver_of s ≡ drivers.Update u) where
  abbrev z : Shape
  z = shapes u.ckpt

  does : update_in (driver_of s) ≡ Some u
  does = ap update_in is

  -- where its steps have led it
  at : IsUpdateIn m shapes s u
  at = subst (IsInPlace m shapes s) is (inv.hands (who s) s held).here

  -- what the operation asks for is its update
  asks_for : (place : ℕ) × (update : Update) × (asked s.op ≡ asks.Change place update)
  asks_for = change_asked s u (inv.hands (who s) s held).driven is at.asks

  asks_own : asked s.op ≡ asks.Change asks_for.0 (update_of s.op)
  asks_own = asks_for.2 ∙ ap (asks.Change asks_for.0) (sym (ap update_asked asks_for.2))

  -- ---- its checkpoint is gone

  change_gone : (b : Bool) → s.kept.ckpt ≡ Some u.ckpt → entry_of u.ckpt m.cluster.entries ≡ None → ChangeLook b m s NotExist Plain
  change_gone true kept gone = subst (λ o. GoneLook m o NotExist Plain) (sym kept) gone
  change_gone false kept gone = subst (λ o. NoActiveLook m o NotExist Plain) (sym kept) (subst (λ o. HasNoActive o) (sym gone) tt)

  gone_moves : (t : Told) → entry_of u.ckpt m.cluster.entries ≡ None → IsDone m s (End (Refused NotExist Plain)) t → Goes m s (drivers.Update u) t
  gone_moves t gone done =
      let none : making_of s.call m.cluster ≡ None = making_is m shapes inv s held ∙ ap making_in is in
      let was = at in
      subst (Goes m s (drivers.Update u)) (sym done) (record {
        row = (refl, refl, subst (λ (a : Ask). LookRefused m s a NotExist Plain) (sym asks_own) (change_gone s.kept.all was.kept gone), refl);
        holds = subst (λ k. let n = without_making k m in Invariant (left_in_hand n (kept_behind m s n.cluster verbs.Look None None words.Refused) (Some (Refused NotExist Plain)))) (sym none)
            (end_keeps m shapes inv s u held does at (λ e found. absurd (let w : None ≡ Some e = sym gone ∙ found in cc w)));
        nearer = λ none. absurd (cc none);
      })

  -- ---- it has committed, and its last slots went with their nodes

  module _ (e : Entry) (found : entry_of u.ckpt m.cluster.entries ≡ Some e) (phase : u.phase ≡ Committing) (none : last_having 0 e.complete u.owned ≡ None) where
    has_done : IsDoneIn z s
    has_done = subst (PhaseKeeps m z s u) phase (at.keeps e found)

    has_at : (q : ℕ) (o : Option CallId) → z.owners q ≡ o → (y : ReplicaState) → IsShaped z o y → (owns_slot s.call y.slot ≡ false) × HasUpdate s.call (update_of s.op) y.effects
    has_at q None owns y it = (ap (owns_slot s.call) it.slot, subst (HasUpdate s.call (update_of s.op)) (sym it.effects) has_done.free)
    has_at q (Some d) owns y it =
        let apart : d ≢ s.call = λ same. owns_none m shapes inv s u held does at e found none q (owns ∙ ap Some same) in
        (ap (owns_slot s.call) it.slot ∙ same_call-false d s.call apart, subst (HasUpdate s.call (update_of s.op)) (sym it.effects) (has_done.under q d owns apart))

    -- each complete replica has its update, and none has a slot of it
    updated : IsUpdated m s.call (update_of s.op) u.ckpt e
    updated = (
      all_is m shapes inv s u held does at e found,
      on_complete m u.ckpt e found (λ y. (owns_slot s.call y.slot ≡ false) × HasUpdate s.call (update_of s.op) y.effects) (λ q full. let (y, y_is, by) = replica_at m shapes inv s u held does at e found q full in
          IfSome-more (m.replicas u.ckpt q) (IsShaped z (z.owners q)) (λ y. (owns_slot s.call y.slot ≡ false) × HasUpdate s.call (update_of s.op) y.effects) (has_at q (z.owners q) refl) (IsSomeAnd-from (m.replicas u.ckpt q) (IsShaped z (z.owners q)) y y_is by)),
    )

    -- no synchronisation goes with it, as it ends no handle
    none_goes : (w : Who) → goes s m w ≡ false
    none_goes w = ap (λ a. goes_with (handle_closed a (m.tables s.call.actor)) s.call.actor (m.pending s.call.actor) w) asks_own

    nothing_gone : without_those (goes s m) m ≡ m
    nothing_gone = λ i. record m { in_hand = λ w. cond (none_goes w i) None (m.in_hand w) }

    ended : InvariantIn shapes (ending s m)
    ended = end_holds m shapes inv s u held does at (λ f f_found. subst (λ (g : Entry). last_having 0 g.complete u.owned ≡ None) (same_Some e f (sym found ∙ f_found)) none)

    done_holds : Invariant (ending s (with_closed s m))
    done_holds = record {
      shapes = shapes;
      holds = closing_ends s m shapes inv held (ap is_async_ask asks_own) m.cluster m.replicas m.reserved m.snapshots (subst (λ n. InvariantIn shapes (ending s n)) (sym nothing_gone) ended);
    }

    -- so it is answered OK by a look
    done_moves : (t : Told) → IsDone m s (End (Done answers.Nothing)) t → Goes m s (drivers.Update u) t
    done_moves t done = subst (Goes m s (drivers.Update u)) (sym done) (record {
      row = (
        refl,
        refl,
        subst (λ (a : Ask). LookDone m s a (update_answer (update_of s.op))) (sym asks_own)
            (refl, IsSomeAnd-from s.kept.ckpt _ u.ckpt at.kept (IsSomeAnd-from (entry_of u.ckpt m.cluster.entries) (IsUpdated m s.call (update_of s.op) u.ckpt) e found updated)),
        refl,
      );
      holds = done_holds;
      nearer = λ none. absurd (cc none);
    })

  -- ---- the whole

  -- what it makes of the steps of its update
  by_update : (e : Entry) → entry_of u.ckpt m.cluster.entries ≡ Some e → GoesByUpdate m shapes s u e
  by_update e found = goes_update m shapes s u is e found asks_for.0 asks_for.1 asks_for.2

  -- a step at a node
  step_goes : (e : Entry) (found : entry_of u.ckpt m.cluster.entries ≡ Some e) (ph : UpdatePhase) → u.phase ≡ ph → (first last_one : Option ℕ) → first_lacking 0 e.complete u.owned ≡ first → last_having 0 e.complete u.owned ≡ last_one → (r : ℕ) (request : Request) → by_phase u m.cluster.moment first last_one ph ≡ Serve r request → (t : Told) → IsDone m s (by_phase u m.cluster.moment first last_one ph) t → Goes m s (drivers.Update u) t
  step_goes e found ph phase first last_one lacked having r request serves t done = subst (λ d. Goes m s d t) is (subst (λ next. MovesAt m shapes inv s u held does at e found (by_update e found) next t) serves (by_next m shapes inv s u held does at e found (by_update e found) ph phase first last_one lacked having t done))

  -- or the look that ends one that commits
  module _ (e : Entry) (found : entry_of u.ckpt m.cluster.entries ≡ Some e) where
    abbrev last : Option ℕ
    last = last_having 0 e.complete u.owned

    goes_at : (ph : UpdatePhase) → u.phase ≡ ph → (first last_one : Option ℕ) → first_lacking 0 e.complete u.owned ≡ first → last ≡ last_one → (t : Told) → IsDone m s (by_phase u m.cluster.moment first last_one ph) t → Goes m s (drivers.Update u) t
    goes_at Committing phase first None lacked none t done = done_moves e found phase none t done
    goes_at Committing phase first (Some p) lacked some t done = step_goes e found Committing phase first (Some p) lacked some _ _ refl t done
    goes_at Staging phase (Some r) last_one lacked having t done = step_goes e found Staging phase (Some r) last_one lacked having _ _ refl t done
    goes_at Staging phase None (Some p) lacked some t done = step_goes e found Staging phase None (Some p) lacked some _ _ refl t done
    goes_at Staging phase None None lacked none t done = absurd (never_none m shapes inv s u held does at e found (by_update e found) lacked none)
    goes_at Claiming phase (Some r) last_one lacked having t done = step_goes e found Claiming phase (Some r) last_one lacked having _ _ refl t done
    goes_at Claiming phase None (Some p) lacked some t done = step_goes e found Claiming phase None (Some p) lacked some _ _ refl t done
    goes_at Claiming phase None None lacked none t done = absurd (never_none m shapes inv s u held does at e found (by_update e found) lacked none)
    goes_at Claimed phase (Some r) (Some p) lacked some t done = step_goes e found Claimed phase (Some r) (Some p) lacked some _ _ refl t done
    goes_at Claimed phase (Some r) None lacked none t done = step_goes e found Claimed phase (Some r) None lacked none _ _ refl t done
    goes_at Claimed phase None (Some p) lacked some t done = step_goes e found Claimed phase None (Some p) lacked some _ _ refl t done
    goes_at Claimed phase None None lacked none t done = absurd (never_none m shapes inv s u held does at e found (by_update e found) lacked none)
    goes_at Withdrawing phase first (Some p) lacked some t done = step_goes e found Withdrawing phase first (Some p) lacked some _ _ refl t done
    goes_at Withdrawing phase (Some r) None lacked none t done = step_goes e found Withdrawing phase (Some r) None lacked none _ _ refl t done
    goes_at Withdrawing phase None None lacked none t done = absurd (never_none m shapes inv s u held does at e found (by_update e found) lacked none)
    goes_at Resolving phase first (Some p) lacked some t done = step_goes e found Resolving phase first (Some p) lacked some _ _ refl t done
    goes_at Resolving phase (Some r) None lacked none t done = step_goes e found Resolving phase (Some r) None lacked none _ _ refl t done
    goes_at Resolving phase None None lacked none t done = absurd (never_none m shapes inv s u held does at e found (by_update e found) lacked none)

    there_moves : (active : Option ℕ) → e.active ≡ active → (t : Told) → IsDone m s (update_led u m.cluster.moment e active) t → Goes m s (drivers.Update u) t
    there_moves None none t done = absurd (never_unled m shapes inv s u held does at e found none)
    there_moves (Some active) led t done = goes_at u.phase refl (first_lacking 0 e.complete u.owned) last refl refl t done

  -- THE LAW OF UPDATES: each due step is allowed, the invariant holds after it, and the call comes nearer to its end
  pub update_goes : (t : Told) → IsDone m s (update_next m.cluster u) t → Goes m s (drivers.Update u) t
  update_goes t done = by_entry (entry_of u.ckpt m.cluster.entries) refl done
    where
      by_entry : (o : Option Entry) → entry_of u.ckpt m.cluster.entries ≡ o → IsDone m s (update_on u m.cluster.moment o) t → Goes m s (drivers.Update u) t
      by_entry None gone done = gone_moves t gone done
      by_entry (Some e) found done = there_moves e found e.active refl t done
