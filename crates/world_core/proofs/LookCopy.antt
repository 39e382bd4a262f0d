-- A copying ends by a look: where its node lacks nothing, or where the generation is another than that of what it has pulled.
use Rattle.std.proofs.Common.{◌≡◌, ℕ, refl, sym, ap, subst, ◌∙◌}
use Rattle.std.specs.Prelude.{Option, Some, None}
use Rattle.ckpt_types.specs.declared.answers.Answer.TheVariants as answers
use Rattle.ckpt_types.specs.declared.answers.Outcome.{Outcome}
use Rattle.ckpt_types.specs.declared.answers.Outcome.TheVariants.{Done}
use Rattle.ckpt_types.specs.declared.identities.ActorName.{ActorName}
use Rattle.ckpt_types.specs.declared.identities.ActorName.TheVariants.{Node}
use Rattle.ckpt_types.specs.declared.identities.CallId.{CallId}
use Rattle.ckpt_types.specs.declared.identities.Who.{Who}
use Rattle.ckpt_types.specs.declared.identities.Who.TheVariants.{Actor}
use Rattle.ckpt_types.specs.declared.operation.Op.TheVariants as ops
use Rattle.ckpt_types.specs.declared.words.OpWord.TheVariants as opwords
use Rattle.ckpt_types.specs.Asks.{Ask, asked}
use Rattle.ckpt_types.specs.Asks as asks
use Rattle.ckpt_types.specs.OpWord.{word_of_op}
use Rattle.node_msgs.specs.declared.details.Details.TheVariants as beside
use Rattle.node_msgs.specs.declared.next.Next.TheVariants.{End}
use Rattle.node_msgs.specs.declared.steps.StepReply.{StepReply}
use Rattle.node_msgs.specs.declared.steps.Verb.TheVariants as verbs
use Rattle.run_labels.specs.declared.labels.Label.{Label}
use Rattle.run_labels.specs.declared.labels.Label.TheVariants.{Stepped}
use Rattle.cluster_record.specs.Makings.{making_of}
use Rattle.cluster_record.specs.StepDone.{counting, done_of}
use Rattle.ckpt_machine.specs.After.{changed, with_closed, with_tables, without_making, without_syncs}
use Rattle.ckpt_machine.specs.Driving.{driver_next, making_in}
use Rattle.ckpt_machine.specs.Due.{IsDone, look_details, look_end, look_word}
use Rattle.ckpt_machine.specs.Machine.{CallState, Machine}
use Rattle.ckpt_machine.specs.Tables.{closing, handle_closed}
use Rattle.ckpt_machine.proofs.ByActor.{put_actor-same}
use Rattle.client_calls.specs.CopyHands.{IsCopyHand}
use Rattle.client_calls.specs.MadeIds.{looked_details, looked_end}
use Rattle.client_calls.specs.Names.{client_by}
use Rattle.client_calls.specs.declared.in_hand.InHand.{InHand}
use Rattle.world_core.specs.declared.world.World.{World}
use Rattle.world_core.specs.Happenings.{IsNext, IsStep, rooms_at}
use Rattle.world_core.specs.HandsState.{hand_at, set_at}
use Rattle.world_core.specs.Shows.{Does, History, machine_of}
use Rattle.world_core.proofs.CallSteps.{IsKnown, pulled_by_client, step_before, step_under}
use Rattle.world_core.proofs.Freeing.{does_before}
use Rattle.world_core.proofs.Held.{copy_stays, driver_is, in_hand_is, next_for, state_in}
use Rattle.world_core.proofs.LookedEnds.{ends_as, tells_as}
use Rattle.world_core.proofs.MadeIds.{made_stays}
use Rattle.world_core.proofs.Maps.{hand_left}

-- a copying that has nothing left answers as what is next says
copy_ends : (o : Outcome) → looked_end ops.Copy o ≡ o
copy_ends (Done answers.Nothing) = refl
copy_ends (Done answers.Created) = refl
copy_ends (Done answer) = refl
copy_ends o = refl

-- and nothing is told beside that, where nothing was made
none_told : (o : Outcome) → looked_details o None ≡ beside.Nothing
none_told (Done answers.Created) = refl
none_told (Done answer) = refl
none_told o = refl

-- what asks for a copying closes no handle
closes_none : (m : Machine) (s : CallState) → asked s.op ≡ asks.Copy → with_closed s m ≡ m
closes_none m s copies =
    let a : ActorName = s.call.actor in
    ap (λ (ask : Ask). with_tables a (closing ask) (without_syncs (handle_closed ask (m.tables a)) a m)) copies
    ∙ (λ i. record m { pending = λ b. put_actor-same m.pending a (m.pending a) refl b i; tables = λ b. put_actor-same m.tables a (m.tables a) refl b i })

module _ (w : World) (n : ℕ) (o : Outcome) (hand : InHand) (held : hand_at w.hands (Actor (Node n)) ≡ Some hand) (its : IsNext w (Actor (Node n)) (End o)) (copies_is : IsCopyHand hand) where
  abbrev v : Who
  v = Actor (Node n)

  abbrev next : driver_next w.cluster (rooms_at w (client_by (Actor (Node n)))) hand.driver ≡ End o
  next = next_for w (Actor (Node n)) (End o) hand held its

  abbrev label : Label
  label = Stepped hand.call (word_of_op hand.op) verbs.Look None None (look_word o) (Some o) beside.Nothing

  -- the copying is in hand no more, and nothing else has changed
  abbrev behind : World
  behind = record w { hands = set_at w.hands (Actor (Node n)) None }

  -- so the machine's call is ended
  told_so : (h : History) → IsKnown w h → IsDone (machine_of w h) (state_in h v hand) (End o) (record { verb = verbs.Look; ckpt = None; node = None; reply = look_word o; end = Some o; details = beside.Nothing })
  told_so h is =
      let s : CallState = state_in h v hand in
      let end : look_end s o ≡ o = ends_as s o ∙ ap (λ op. looked_end op o) copies_is.op ∙ copy_ends o in
      let details : look_details s (look_end s o) ≡ beside.Nothing = sym (tells_as w v hand held h is o next) ∙ ap (looked_details (looked_end hand.op o)) copies_is.made ∙ none_told (looked_end hand.op o) in
      λ i. record { verb = verbs.Look; ckpt = None; node = None; reply = look_word o; end = Some (sym end i); details = sym details i }

  -- it is making nothing
  makes_none : (h : History) → IsKnown w h → making_of hand.call w.cluster ≡ None
  makes_none h is = is.facts.makes v (state_in h v hand) (in_hand_is w h v hand held) ∙ ap making_in (sym (driver_is w h v hand held is.fits) ∙ copies_is.driven)

  changes_none : (h : History) → IsKnown w h → (end : Outcome) → changed (machine_of w h) (state_in h v hand) verbs.Look None None (look_word end) ≡ machine_of w h
  changes_none h is (Done answer) = closes_none (machine_of w h) (state_in h v hand) (ap asked copies_is.op)
  changes_none h is end = ap (λ (making : Option ℕ). without_making making (machine_of w h)) (makes_none h is)

  look_does : Does w behind label
  look_does =
      does_before w behind label
      (step_before w v hand held w (λ h. h) verbs.Look None None (look_word o) (Some o) beside.Nothing 0 hand.snapshot hand.made (pulled_by_client v) (End o) next held (λ h. refl) (λ h is. record {
        done = told_so h is;
        change = changes_none h is o;
        fits = is.fits;
        count_is = refl;
        copy_is = copy_stays w h v hand held is.fits;
        made_is = made_stays w h v hand held is.fits verbs.Look None None (counting 0 (done_of w.cluster verbs.Look None None (look_word o))) refl tt;
      }))
      (λ m s f. s.holds)
      (λ m s f. s.keeps)
      (λ m s f. s.rooms)

  -- THE STEP, with the parts as the code names them
  pub looked_step : (call : CallId) (slot : Option InHand) (reply : StepReply) (told : Label) → call ≡ hand.call → slot ≡ None → reply ≡ look_word o → told ≡ Stepped call opwords.Copy verbs.Look None None reply (Some o) beside.Nothing →
      IsStep (Actor (Node n)) w (record w { hands = set_at w.hands (Actor (Node n)) slot }) told
  looked_step call slot reply told call_is slot_is reply_is label_is =
      let word_is : opwords.Copy ≡ word_of_op hand.op = ap word_of_op (sym copies_is.op) in
      let world_is : record w { hands = set_at w.hands v slot } ≡ behind = λ i. record w { hands = set_at w.hands v (slot_is i) } in
      let says : told ≡ label = label_is ∙ (λ i. Stepped (call_is i) (word_is i) verbs.Look None None (reply_is i) (Some o) beside.Nothing) in
      subst (λ (z : World × Label). IsStep (Actor (Node n)) w z.0 z.1) (λ i. (sym world_is i, sym says i))
      (step_under v w behind hand hand (word_of_op hand.op) verbs.Look None None (look_word o) (Some o) beside.Nothing held refl refl (hand_left w.hands v hand hand (Some o) held refl) look_does)
