-- A copying pulls what the active has, where updates go to it alone.
use Rattle.std.specs.Option.{option_map}
use Rattle.std.proofs.Common.{◌≡◌, ℕ, inr, length, Option, Some, None, Bool, true, false, cond, ◌==◌, refl, sym, ap, subst, ◌∙◌, arith}
use Rattle.std.specs.Prelude.{IsSomeAnd}
use Rattle.std.proofs.lemmas.Option.{same_Some}
use Rattle.ckpt_types.specs.declared.ais_error.AisError.TheVariants.{TryAgain}
use Rattle.ckpt_types.specs.declared.answers.Answer.TheVariants as answers
use Rattle.ckpt_types.specs.declared.answers.Cause.TheVariants.{Generations, Holder}
use Rattle.ckpt_types.specs.declared.answers.Outcome.TheVariants.{Refused}
use Rattle.weak_marks.specs.Marks.{Marked, call_of}
use Rattle.cluster_record.specs.declared.copying.Copying.{Copying}
use Rattle.cluster_record.specs.declared.copying.CopyPhase.TheVariants.{Reserved, PulledActive}
use Rattle.cluster_record.specs.declared.entries.Entry.{Entry}
use Rattle.cluster_record.specs.Calls.{same_call}
use Rattle.cluster_record.specs.DueCopy.{CopyState, copy_next, copy_on, done_by, pulled_phase, with_phase}
use Rattle.cluster_record.specs.Placement.{is_all}
use Rattle.cluster_record.specs.RecordState.{entry_of}
use Rattle.cluster_record.specs.StepDone.{generation_in}
use Rattle.node_msgs.specs.declared.details.Details.TheVariants as beside
use Rattle.node_msgs.specs.declared.next.Next.TheVariants.{End, Event}
use Rattle.node_msgs.specs.declared.next.RecordStep.TheVariants as events
use Rattle.node_msgs.specs.declared.replies.Reply.TheVariants as replies
use Rattle.node_msgs.specs.declared.requests.Request.{Request}
use Rattle.node_msgs.specs.declared.requests.Request.TheVariants as requests
use Rattle.node_msgs.specs.declared.steps.Verb.TheVariants as verbs
use Rattle.node_msgs.specs.declared.steps.StepReply.TheVariants as words
use Rattle.node_core.specs.Seen.{record_seen}
use Rattle.node_core.specs.Serving.{details_at, pull_reply, reply_at}
use Rattle.ckpt_machine.specs.After.{left_in_hand}
use Rattle.ckpt_machine.specs.CopyGuards.{CopyPullHeld, CopyPullOk}
use Rattle.ckpt_machine.specs.Drivers as drivers
use Rattle.ckpt_machine.specs.Due.{IsServed, Told, details_due, driver_of, ended_details, payload_due}
use Rattle.ckpt_machine.specs.InHand.{IsCopiedSoFar, IsCopyIn, IsCopyingAt}
use Rattle.ckpt_machine.specs.Invariant.{Invariant, InvariantIn, IsGoodIn}
use Rattle.ckpt_machine.specs.Machine.{Machine, CallState, who}
use Rattle.ckpt_machine.specs.Propagation.{copied}
use Rattle.ckpt_machine.specs.Shape.{IsApart, IsSpread, Shape}
use Rattle.ckpt_machine.proofs.ActiveNode.{ActiveOf, active_seen, on_its_replica}
use Rattle.ckpt_machine.proofs.Actors.{same_call-false}
use Rattle.ckpt_machine.proofs.CopyFrame.{copy_ends}
use Rattle.ckpt_machine.proofs.CopyHand.{HasNone, its, its_at, none_owned}
use Rattle.ckpt_machine.proofs.Lacking.{lacked_parts}
use Rattle.ckpt_machine.proofs.DueStep.{Goes}
use Rattle.ckpt_machine.proofs.OnTheActive.{marker_live}
use Rattle.ckpt_machine.proofs.OptionLemmas.{IsSomeAnd-from}
use Rattle.ckpt_machine.proofs.StepLabels.{IsServed-told}
use Rattle.ckpt_machine.proofs.Whose.{same_state}
use Rattle.ckpt_machine.proofs.CopyNearer.{active_pull_nearer}
use Rattle.ckpt_machine.proofs.CopyPulled.{copy_then, pulled_keeps, state_then, then_machine}

module _ (m : Machine) (shapes : ℕ → Shape) (inv : InvariantIn shapes m) (s : CallState) (c : CopyState) (held : m.in_hand (who s) ≡ Some s) (is : driver_of s ≡ drivers.Copy c) (at : Copying) (some : c.copying ≡ Some at) (phase : at.phase ≡ Reserved) (led : ActiveOf m (shapes at.ckpt).marks at.ckpt) (alone : is_all led.entry.attributes ≡ false) where
  abbrev k : ℕ
  k = at.ckpt

  abbrev e : Entry
  e = led.entry

  own : IsCopyIn m shapes s c
  own = its m shapes inv s c held is

  there : IsCopyingAt m shapes s c at
  there = its_at m shapes inv s c held is at some

  so_far : IsCopiedSoFar m (shapes k) s c e Reserved
  so_far = subst (IsCopiedSoFar m (shapes k) s c e) phase (there.so_far e led.found)

  spread : IsSpread m k (shapes k) e
  spread = subst (IsGoodIn m k (shapes k) e) led.made (inv.entries k e led.found)

  -- it owns nothing
  none : HasNone m shapes inv s c held is
  none at_too f r some_too found_too all has = absurd (
      let at_is : at ≡ at_too = same_Some at at_too (sym some ∙ some_too) in
      let e_is : e ≡ f = same_Some e f (sym led.found ∙ ap (λ (a : Copying). entry_of a.ckpt m.cluster.entries) at_is ∙ found_too) in
      let w : false ≡ true = sym alone ∙ ap (λ (y : Entry). is_all y.attributes) e_is ∙ all in
      cc w)

  apart : IsApart (shapes k).marks led.replica
  apart = led.apart alone

  abbrev to_pull : Request
  to_pull = requests.Pull c.call k

  answered : (t : Told) (served : IsServed m s led.node to_pull t) (o : Option Marked) → (shapes k).marks ≡ o → served.answer ≡ pull_reply (call_of o) (length led.replica.effects)
  answered t served o stand =
      served.may
      ∙ ap (reply_at to_pull (payload_due m s) (record_seen m.cluster k led.node)) (active_seen m (shapes k).marks k led)
      ∙ ap (λ (marks : Option Marked). pull_reply (call_of marks) (length led.replica.effects)) (apart.marks_are ∙ stand)

  nothing_told : details_due m s to_pull led.node ≡ beside.Nothing
  nothing_told = ap (details_at to_pull (payload_due m s) (record_seen m.cluster k led.node)) (active_seen m (shapes k).marks k led)

  -- the call of the marks is another
  another : (marks : Marked) → (shapes k).marks ≡ Some marks → same_call marks.call s.call ≡ false
  another marks stand = same_call-false marks.call s.call (λ same.
      let by = spread.marked marks stand in
      let state : by.state ≡ s = same_state m.in_hand m.pending m.next inv.calls by.state s by.in_hand held (by.call_is ∙ same) in
      let w : drivers.Active by.driver ≡ drivers.Copy c = sym by.driver_is ∙ ap driver_of state ∙ is in
      cc w)

  pulled_holds : InvariantIn shapes (then_machine m shapes inv s c held is at e some led.found led.node led.replica led.there (PulledActive e.generation) (ap (pulled_phase e.generation) phase))
  pulled_holds = pulled_keeps m shapes inv s c held is at e some led.found led.node led.replica led.there (PulledActive e.generation) (ap (pulled_phase e.generation) phase)
      (λ all. absurd (let w : false ≡ true = sym alone ∙ all in cc w)) (
        record { lacks = so_far.0.lacks; reserved = so_far.0.reserved },
        record {
          alone = alone;
          pulled = IsSomeAnd-from (option_map copied (m.replicas k led.node)) (λ pulled. pulled.generation ≡ e.generation) (copied led.replica) (ap (option_map copied) led.there) led.generation;
          older = omega arith;
        },
      )
      (λ j q f found was owns by. absurd (none_owned m shapes inv s c held is none j q f found was owns))

  abbrev copying_then : CopyState
  copying_then = copy_then m shapes inv s c held is at e some led.found led.node led.replica led.there (PulledActive e.generation) (ap (pulled_phase e.generation) phase)

  -- it goes on to complete its node
  goes_on : done_by (copy_next m.cluster copying_then) ≡ None
  goes_on = ap (λ o. done_by (copy_on m.cluster copying_then (record at { phase = PulledActive e.generation }) o)) led.found ∙ by_generation (e.generation == e.generation)
    where
      by_generation : (b : Bool) → done_by (cond b (Event (events.Complete k c.node None)) (End (Refused TryAgain (Generations e.generation e.generation)))) ≡ None
      by_generation true = refl
      by_generation false = refl

  -- as the step tells it
  ends : done_by (copy_next m.cluster (record c { copying = with_phase (pulled_phase (generation_in (entry_of k m.cluster.entries))) c.copying })) ≡ None
  ends =
      (λ i. done_by (copy_next m.cluster (record c { copying = with_phase (pulled_phase (generation_in (led.found i))) (some i) })))
      ∙ ap (λ phase. done_by (copy_next m.cluster (record c { copying = Some (record at { phase = phase }) }))) (ap (pulled_phase e.generation) phase)
      ∙ goes_on

  pull_by : (t : Told) → IsServed m s led.node to_pull t → (o : Option Marked) → (shapes k).marks ≡ o → Goes m s (drivers.Copy c) t
  pull_by t served None stand = subst (Goes m s (drivers.Copy c)) (sym (IsServed-told m s led.node to_pull t (drivers.Copy c) (replies.Done (answers.Pulled (length led.replica.effects))) served is (answered t served None stand))) (record {
    row = (
      inr (own.asks, on_its_replica m (shapes k).marks k led (CopyPullOk _ led.node) (record { apart = (lacked_parts c.node e so_far.0.lacks).apart; active = led.active; unmarked = apart.marks_are ∙ stand; answer = ends })),
      ap (λ end. ended_details end (details_due m s to_pull led.node)) ends,
    );
    holds = subst (λ end. Invariant (left_in_hand m (state_then m shapes inv s c held is at e some led.found led.node led.replica led.there (PulledActive e.generation) (ap (pulled_phase e.generation) phase)) end)) (sym ends) (record { shapes = shapes; holds = pulled_holds });
    nearer = λ goes_on. active_pull_nearer m.cluster c at some e led.found m.replicas m.replicas (generation_in (entry_of k m.cluster.entries)) phase alone;
  })
  pull_by t served (Some marks) stand =
      let live = marker_live m shapes k marks inv (spread.marked marks stand) in
      subst (Goes m s (drivers.Copy c)) (sym (IsServed-told m s led.node to_pull t (drivers.Copy c) (replies.Held marks.call) served is (answered t served (Some marks) stand) ∙ (λ i. record { verb = verbs.Pull; ckpt = Some k; node = Some led.node; reply = words.Held marks.call; end = cond (live i) (Some (Refused TryAgain (Holder marks.call))) None; details = ended_details (cond (live i) (Some (Refused TryAgain (Holder marks.call))) None) (nothing_told i) }))) (record {
        row = (
          inr (
            own.asks,
            on_its_replica m (shapes k).marks k led (CopyPullHeld m s led.node marks.call _) (record {
              apart = (lacked_parts c.node e so_far.0.lacks).apart;
              active = led.active;
              held = record {
                marks = subst (λ o. IsSomeAnd o (λ (w : Marked). w.call ≡ marks.call)) (sym (apart.marks_are ∙ stand)) refl;
                another = another marks stand;
                live = live;
                answer = refl;
                told = refl;
              };
            }),
          ),
          refl,
        );
        holds = record { shapes = shapes; holds = copy_ends m shapes inv s c held is none };
        nearer = λ goes_on. absurd (cc goes_on);
      })

  -- THE PULL of the active: done, or the marks of another call hold it off
  pub pull_goes : (t : Told) → IsServed m s led.node to_pull t → Goes m s (drivers.Copy c) t
  pull_goes t served = pull_by t served (shapes k).marks refl
