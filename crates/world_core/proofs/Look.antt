-- A step whose answer the record alone decides.
use Rattle.std.proofs.Common.{◌≡◌, ℕ, Bool, true, false, cond, List, refl, sym, ap, subst, ◌∙◌}
use Rattle.std.specs.Prelude.{Option, Some, None, IsSomeAnd}
use Rattle.ckpt_types.specs.declared.answers.Outcome.{Outcome}
use Rattle.ckpt_types.specs.declared.answers.Outcome.TheVariants.{Done}
use Rattle.ckpt_types.specs.declared.identities.CallId.{CallId}
use Rattle.node_msgs.specs.declared.next.Next.{Next}
use Rattle.node_msgs.specs.declared.next.Next.TheVariants.{Event, End}
use Rattle.node_msgs.specs.declared.next.RecordStep.TheVariants.{Undo}
use Rattle.node_msgs.specs.declared.steps.StepReply.{StepReply}
use Rattle.node_msgs.specs.declared.steps.Verb.TheVariants as verbs
use Rattle.node_msgs.specs.declared.details.Details.{Details}
use Rattle.ckpt_types.specs.declared.operation.Op.{Op}
use Rattle.run_labels.specs.declared.labels.Label.{Label}
use Rattle.run_labels.specs.declared.labels.Label.TheVariants.{Stepped}
use Rattle.ckpt_types.specs.declared.words.OpWord.{OpWord}
use Rattle.ckpt_types.specs.OpWord.{word_of_op}
use Rattle.cluster_record.specs.declared.calls.Making.{Making}
use Rattle.cluster_record.specs.declared.entries.Entry.{Entry}
use Rattle.cluster_record.specs.DueOpen.{making_ckpt, reserve_or_finish, targets_of, on_making, by_making}
use Rattle.cluster_record.specs.Makings.{making_call, making_of, undone_by, making_undone}
use Rattle.cluster_record.specs.RecordState.{RecordState, entry_of, swept, undone}
use Rattle.cluster_record.specs.StepDone.{counting, done_of, first_lacking}
use Rattle.ckpt_types.specs.Asks.{asked}
use Rattle.ckpt_machine.specs.Drivers.{Driver, Rooms}
use Rattle.ckpt_machine.specs.Drivers as drivers
use Rattle.ckpt_machine.specs.Driving.{driver_next, making_in}
use Rattle.ckpt_machine.specs.Nodes.{replica_in}
use Rattle.ckpt_machine.specs.After.{changed, without_making}
use Rattle.ckpt_machine.specs.Due.{IsDone, look_word}
use Rattle.client_calls.specs.MadeIds.{looked_details, looked_end}
use Rattle.ckpt_machine.specs.Tables.{handle_closed}
use Rattle.ckpt_machine.proofs.Deadlines.{in_time-cases}
use Rattle.ckpt_machine.proofs.OwnMaking.{making_there}
use Rattle.client_calls.specs.declared.in_hand.InHand.{InHand}
use Rattle.world_core.specs.declared.world.World.{World}
use Rattle.world_core.specs.Freeing.{freed_world}
use Rattle.world_core.specs.Happenings.{IsStep, rooms_at}
use Rattle.world_core.specs.Settling.{looked, without_making_of}
use Rattle.world_core.specs.Shows.{IsShown, Does, History, machine_of}
use Rattle.client_calls.specs.TableState.{TableState}
use Rattle.world_core.specs.TablesState.{kept_by}
use Rattle.world_core.specs.Alone.{ended_at, ended_hands, going_with_look, gone_with}
use Rattle.world_core.proofs.AloneSteps.{MayGo, gone_fits, gone_here, gone_record, gone_set, gone_waited, rooms_gone}
use Rattle.world_core.proofs.CallSteps.{pulled_by_client, IsKnown, known, known_by, behind_step, step_before, step_told}
use Rattle.world_core.proofs.Freeing.{does_before, does_freed}
use Rattle.ckpt_machine.proofs.FreedNodes.{holds_behind}
use Rattle.ckpt_machine.proofs.Going.{unmade_goes}
use Rattle.world_core.proofs.Held.{client_is, copy_stays, state_in, in_hand_is, driver_is, name_is}
use Rattle.world_core.proofs.LookedEnds.{ends_as, tells_as, word_as}
use Rattle.world_core.proofs.MadeIds.{made_stays}
use Rattle.world_core.proofs.LiveRooms.{rooms_ended, rooms_looked}
use Rattle.world_core.proofs.Maps.{HasUnder, hand_left, under_other, under_own}
use Rattle.world_core.proofs.RecordEvent.{closing_shown}
use Rattle.world_core.proofs.TableFields.{client_same}
use Rattle.world_core.proofs.Recording.{with_effects, record_is, record_fits}
use Rattle.ckpt_machine.proofs.GoesAt.{GoesAt}
use Rattle.world_core.specs.HandsState.{HandsState, hand_at, set_at}
use Rattle.client_calls.specs.Names.{IsClientName, client_by}
use Rattle.ckpt_types.specs.declared.identities.Who.{Who}
use Rattle.ckpt_types.specs.declared.identities.Who.TheVariants.{Actor}
use Rattle.world_core.proofs.SnapshotRooms.{unmade_has}
use Rattle.world_core.proofs.WaitedFor.{may_look}

-- ---- what a call is making is undone by the look that ends it

-- it ends with no answer but a refusal
abbrev IsNoDone : Next → Type 0
IsNoDone (End (Done answer)) = ⊥
IsNoDone next = Unit {0}

late_next : (R : RecordState) (room : Rooms) (x : Driver) (k : ℕ) → making_in x ≡ Some k → IsNoDone (driver_next R room x)
late_next R room (drivers.Open o) k is = of_making o.making is where
  by_test : (m : Making) (b : Bool) (r : Option ℕ) → IsNoDone (cond b (Event Undo) (reserve_or_finish m.ckpt r))
  by_test m true r = tt
  by_test m false None = tt
  by_test m false (Some r) = tt

  of_making : (making : Option Making) → making_ckpt making ≡ Some k → IsNoDone (by_making R room.handles o making)
  of_making None is = absurd (cc is)
  of_making (Some m) is = in_time-cases IsNoDone o.deadline R.moment (on_making R o.ask m) (λ d is late. tt) (λ before. by_test m m.refused (first_lacking 0 (targets_of o.ask R) m.reserved))
late_next R room x k is = absurd (cc is)

-- nor where it is ended so
no_done : (op : Op) (o : Outcome) → IsNoDone (End o) → IsNoDone (End (looked_end op o))
no_done op (Done answer) is = absurd is
no_done op o is = tt

-- what is in the making by a call is undone
undone_made : (k : ℕ) (R : RecordState) (call : CallId) (e : Option Entry) → IsSomeAnd e (λ e. e.making ≡ Some call) → undone_by (making_call e) k R ≡ undone k R
undone_made k R call None made = absurd made
undone_made k R call (Some e) made = ap (λ o. undone_by o k R) made

-- of a client's call
module _ (w : World) (v : Who) (named : IsClientName v) (o : Outcome) (hand : InHand) (held : hand_at w.hands v ≡ Some hand) (next : driver_next w.cluster (rooms_at w (client_by v)) hand.driver ≡ End o) where
  -- how it ends the call, and what is told beside that
  abbrev e : Outcome
  e = looked_end hand.op o

  abbrev told : Details
  told = looked_details e hand.made

  abbrev label : Label
  label = Stepped hand.call (word_of_op hand.op) verbs.Look None None (look_word e) (Some e) told

  -- the handle that it closes, if it closes one
  abbrev closed : Option ℕ
  closed = handle_closed (asked hand.op) (kept_by w.tables (client_by v))

  -- the table is looked at
  abbrev settled : Outcome → World
  settled end = record w { tables = looked end (client_by v) hand.op w.tables }

  -- and the synchronisations go with the handle
  abbrev looked_world : Outcome → World
  looked_world end = gone_with (going_with_look end) (client_by v) closed (settled end)

  -- a call whose handle is closed is one that its client waits for
  closes_own : IsShown w → (end : Outcome) → MayGo (going_with_look end) closed v
  closes_own shown end =
      let is : IsKnown w shown.shows.history = known w shown in
      may_look (state_in shown.shows.history v hand) v (kept_by w.tables (client_by v)) end (name_is w shown.shows.history v hand held is.facts)

  -- so the call is in hand still
  stays_held : IsShown w → (end : Outcome) → hand_at (looked_world end).hands v ≡ Some hand
  stays_held shown end = gone_here (settled end) (client_by v) closed (going_with_look end) v (closes_own shown end) ∙ held

  -- what the call is making by its own steps is what is in the making by it
  makes : (h : History) → IsKnown w h → making_of hand.call w.cluster ≡ making_in hand.driver
  makes h is = is.facts.makes v (state_in h v hand) (in_hand_is w h v hand held) ∙ ap making_in (sym (driver_is w h v hand held is.fits))

  -- as the machine's call is ended
  told_so : (h : History) → IsKnown w h → IsDone (machine_of w h) (state_in h v hand) (End o) (record { verb = verbs.Look; ckpt = None; node = None; reply = look_word e; end = Some e; details = told })
  told_so h is = λ i. record { verb = verbs.Look; ckpt = None; node = None; reply = word_as hand.op o i; end = Some (sym (ends_as (state_in h v hand) o) i); details = tells_as w v hand held h is o next i }

  -- ---- where the call is making nothing

  look_changes : (h : History) → IsKnown w h → making_in hand.driver ≡ None → (end : Outcome) → changed (machine_of w h) (state_in h v hand) verbs.Look None None (look_word end) ≡ machine_of (looked_world end) h
  look_changes h is none (Done answer) = closing_shown w h (client_by v) (state_in h v hand) (client_is w h v hand held is.facts named)
  look_changes h is none end = ap (λ (making : Option ℕ). without_making making (machine_of w h)) (makes h is ∙ none) ∙ ap (λ tables. machine_of (record w { tables = tables }) h) (sym (client_same w.tables (client_by v) (λ t. t) (λ t. refl)))

  -- the world behind it
  abbrev done_world : World
  done_world = behind_step w v hand held (looked_world e) (λ h. h) verbs.Look None None (look_word e) (Some e) told 0 hand.snapshot hand.made (pulled_by_client v)

  look_does : making_in hand.driver ≡ None → IsShown w → Does w done_world label
  look_does none shown =
      does_before w done_world label
      (step_before w v hand held (looked_world e) (λ h. h) verbs.Look None None (look_word e) (Some e) told 0 hand.snapshot hand.made (pulled_by_client v) (End o) next (stays_held shown e) (λ h. refl)
      (λ h is. record {
        done = told_so h is;
        change = look_changes h is none e;
        fits = let f = is.fits in gone_fits (settled e) (client_by v) closed (going_with_look e) h (record { replicas = f.replicas; copies = f.copies; hands = f.hands });
        count_is = refl;
        copy_is = copy_stays w h v hand held is.fits;
        made_is = made_stays w h v hand held is.fits verbs.Look None None (counting 0 (done_of (looked_world e).cluster verbs.Look None None (look_word e))) refl tt;
      }))
      (λ m s f. s.holds) (λ m s f. s.keeps) (λ m s f. rooms_ended (looked_world e) w.cluster v (Some e) (rooms_gone (settled e) (client_by v) closed w.cluster (going_with_look e) (rooms_looked w w.cluster (client_by v) e hand.op s.rooms)))

  -- ---- where it is making a checkpoint

  module _ (k : ℕ) (making : making_in hand.driver ≡ Some k) where
    -- it is undone
    abbrev R : RecordState
    R = swept (undone k w.cluster)

    abbrev settled_there : Outcome → World
    settled_there end = record (settled end) { cluster = R }

    abbrev left_world : Outcome → World
    left_world end = gone_with (going_with_look end) (client_by v) closed (settled_there end)

    goes : (h : History) → IsKnown w h → (j q : ℕ) → GoesAt w.cluster.up j (entry_of j w.cluster.entries) (entry_of j R.entries) q (replica_in w.nodes j q) (replica_in w.nodes j q)
    goes h is = unmade_goes (machine_of w h) w.nodes (λ k r. refl) is.facts is.holds k

    late_changes : (h : History) → IsKnown w h → (end : Outcome) → IsNoDone (End end) → changed (machine_of w h) (state_in h v hand) verbs.Look None None (look_word end) ≡ machine_of (left_world end) (with_effects w h)
    late_changes h is (Done answer) refused = absurd refused
    late_changes h is end refused = ap (λ (making : Option ℕ). without_making making (machine_of w h)) (makes h is ∙ making) ∙ record_is w h R w.nodes w.snapshots (goes h is) refl is.keeps (λ j. refl)
        ∙ ap (λ tables. machine_of (record w { cluster = R; tables = tables }) (with_effects w h)) (sym (client_same w.tables (client_by v) (λ t. t) (λ t. refl)))

    abbrev late_world : World
    late_world = behind_step w v hand held (left_world e) (with_effects w) verbs.Look None None (look_word e) (Some e) told 0 hand.snapshot hand.made (pulled_by_client v)

    late_does : IsShown w → Does w (freed_world late_world) label
    late_does shown =
        does_freed w late_world label
        (step_before w v hand held (left_world e) (with_effects w) verbs.Look None None (look_word e) (Some e) told 0 hand.snapshot hand.made (pulled_by_client v) (End o) next (gone_here (settled_there e) (client_by v) closed (going_with_look e) v (closes_own shown e) ∙ held) (λ h. refl)
        (λ h is. record {
          done = told_so h is;
          change = late_changes h is e (no_done hand.op o (subst IsNoDone next (late_next w.cluster (rooms_at w (client_by v)) hand.driver k making)));
          fits = let f = record_fits w h R w.nodes w.snapshots (goes h is) refl is.keeps (λ j. refl) is.fits in gone_fits (settled_there e) (client_by v) closed (going_with_look e) (with_effects w h) (record { replicas = f.replicas; copies = f.copies; hands = f.hands });
          count_is = refl;
          copy_is = let stays = copy_stays w h v hand held is.fits in record { same = refl; room = stays.room; counts = stays.counts };
          made_is = made_stays w h v hand held is.fits verbs.Look None None (counting 0 (done_of (left_world e).cluster verbs.Look None None (look_word e))) refl tt;
        }))
        (λ m s f. holds_behind w.cluster R w.nodes w.nodes refl (goes s.history (known_by w m s f)) s.holds s.holds.once)
        (λ m s f. let is = known_by w m s f in unmade_has w.cluster w.snapshots is.keeps is.facts.rises is.facts.up_to k)
        (λ m s f. rooms_ended (left_world e) R v (Some e) (rooms_gone (settled_there e) (client_by v) closed R (going_with_look e) (rooms_looked w R (client_by v) e hand.op (λ d live. s.rooms d live))))

    -- it is in the making by the call
    own_making : IsShown w → making_undone k w.cluster ≡ undone k w.cluster
    own_making shown =
        let h = shown.shows.history in
        let is = known w shown in
        undone_made k w.cluster hand.call (entry_of k w.cluster.entries) (making_there w.cluster is.facts.rises hand.call k (makes h is ∙ making))

  -- ---- in either case

  -- what the code does before the making is undone
  abbrev ended_world : World
  ended_world = gone_with (going_with_look e) (client_by v) closed (record (settled e) { hands = set_at w.hands v None })

  ended_is : IsShown w → ended_world ≡ record (looked_world e) { hands = set_at (looked_world e).hands v None }
  ended_is shown = gone_set (settled e) (client_by v) closed (going_with_look e) v None (closes_own shown e)

  look_ends : (making : Option ℕ) → making_in hand.driver ≡ making → IsShown w → Does w (ended_at v (Some e) (without_making_of making ended_world)) label
  look_ends None none shown = subst (λ (x : World). Does w (ended_at v (Some e) x) label) (sym (ended_is shown)) (look_does none shown)
  look_ends (Some k) making shown =
      subst (λ (x : World). Does w (ended_at v (Some e) (freed_world x)) label)
      (sym ((λ i. record (ended_is shown i) { cluster = swept (own_making k making shown i) }) ∙ ap (λ (x : World). record x { hands = set_at x.hands v None }) (gone_record (settled e) (client_by v) closed (R k making) (going_with_look e)))) (late_does k making shown)

  -- the calls in hand are as they were where a making is undone
  unmade_hands : (making : Option ℕ) (x : World) → (without_making_of making x).hands ≡ x.hands
  unmade_hands None x = refl
  unmade_hands (Some k) x = refl

  under : (making : Option ℕ) → IsShown w → HasUnder (looked_world e).hands v None (ended_at v (Some e) (without_making_of making ended_world)).hands
  under making shown =
      subst (λ (hands : HandsState). HasUnder (looked_world e).hands v None (ended_hands v (Some e) hands)) (sym (unmade_hands making ended_world ∙ ap (λ (x : World). x.hands) (ended_is shown)))
      (hand_left (looked_world e).hands v hand hand (Some e) (stays_held shown e) refl)

  look_told : (making : Option ℕ) → making_in hand.driver ≡ making → IsShown w → IsStep v w (ended_at v (Some e) (without_making_of making ended_world)) label
  look_told making making_is shown =
      let new = ended_at v (Some e) (without_making_of making ended_world) in
      step_told v w new hand hand (word_of_op hand.op) verbs.Look None None (look_word e) (Some e) told held refl refl
      (under_own (looked_world e).hands new.hands v None (under making shown))
      (λ b other. under_other (looked_world e).hands new.hands v None (under making shown) (Actor b) other ∙ gone_waited (settled e) (client_by v) closed (going_with_look e) b)
      (look_ends making making_is shown)

  -- the call ends by a look at the record, and what it is making is undone, with the parts as the code names them
  pub look_is : (new : World) (making : Option ℕ) (tables : List TableState) (c : ℕ) (closed_as : Option ℕ) (op : OpWord) (reply : StepReply) (end : Outcome) (details : Details) → IsShown w → making ≡ making_in hand.driver → c ≡ client_by v → closed_as ≡ handle_closed (asked hand.op) (kept_by w.tables c) → tables ≡ looked end c hand.op w.tables → op ≡ word_of_op hand.op → reply ≡ look_word end → end ≡ looked_end hand.op o → details ≡ looked_details end hand.made →
      new ≡ ended_at v (Some end) (without_making_of making (gone_with (going_with_look end) c closed_as (record w { tables = tables; hands = set_at w.hands v None }))) → IsStep v w new (Stepped hand.call op verbs.Look None None reply (Some end) details)
  look_is new making tables c closed_as op reply end details shown making_is c_is closed_is tables_are op_is reply_is end_is details_is new_is = rw (new_is, closed_is, tables_are, c_is, op_is, reply_is, details_is, end_is) (look_told making (sym making_is) shown)
