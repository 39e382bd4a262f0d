-- A step of the record, whatever the step: done, or refused by the record or for the memory that it takes.
use Rattle.std.proofs.Common.{◌≡◌, inl, ℕ, List, length, true, false, refl, sym, ap, subst, ◌∙◌}
use Rattle.std.specs.Prelude.{Option, Some, None, IsSome, slice_get}
use Rattle.ckpt_types.specs.declared.answers.Outcome.{Outcome}
use Rattle.ckpt_types.specs.declared.identities.ActorName.{ActorName}
use Rattle.ckpt_machine.specs.Shown.{IsRoomToCopy}
use Rattle.ckpt_types.specs.declared.identities.ActorName.TheVariants.{Client}
use Rattle.node_msgs.specs.declared.next.RecordStep.{RecordStep}
use Rattle.node_msgs.specs.declared.next.RecordStep.TheVariants as events
use Rattle.node_msgs.specs.declared.next.Next.TheVariants.{Event}
use Rattle.node_msgs.specs.declared.steps.Verb.{Verb}
use Rattle.node_msgs.specs.declared.steps.StepReply.{StepReply}
use Rattle.node_msgs.specs.declared.steps.StepReply.TheVariants as words
use Rattle.node_msgs.specs.Steps.{event_verb}
use Rattle.node_msgs.specs.declared.details.Details.TheVariants as beside
use Rattle.run_labels.specs.declared.labels.Label.{Label}
use Rattle.run_labels.specs.declared.labels.Label.TheVariants.{Stepped}
use Rattle.ckpt_types.specs.OpWord.{word_of_op}
use Rattle.client_handles.specs.ClientState.{ClientState, emptied, has_handle_room}
use Rattle.cluster_record.specs.Calls.{number_of, client_of, left}
use Rattle.cluster_record.specs.DueOnce as once
use Rattle.cluster_record.specs.DueOpen.{OpenState}
use Rattle.cluster_record.specs.LookUps.{creation_flags_of}
use Rattle.cluster_record.specs.RecordState.{RecordState, entry_of, is_live_client}
use Rattle.ckpt_types.specs.Asks.{Ask, asked}
use Rattle.ckpt_types.specs.Asks as asks
use Rattle.ckpt_machine.specs.Drivers.{Driver}
use Rattle.ckpt_machine.specs.Drivers as drivers
use Rattle.ckpt_machine.specs.Driving.{Kept, driver_next, driver_taken, event_ckpt, event_node, event_end, event_refusal, step_end}
use Rattle.ckpt_machine.specs.Facts.{IsEventReady}
use Rattle.ckpt_machine.specs.Machine.{Machine, CallState, Effect, no_tables}
use Rattle.snap_copy.specs.Snapshots as copies
use Rattle.ckpt_machine.specs.After.{changed, pulled_by, with_closed, with_record, with_tables, without_calls, without_syncs}
use Rattle.ckpt_machine.specs.Due as dues
use Rattle.ckpt_machine.specs.Due.{Told, IsDone, IsEventAnswer, IsRecordAnswer, event_done, kept_off, driver_of}
use Rattle.replica.specs.Replicas.{Replica}
use Rattle.ckpt_machine.specs.Nodes.{replica_in, freed}
use Rattle.ckpt_machine.specs.Tables.{handle_closed, handle_given, closing, registering}
use Rattle.ckpt_machine.proofs.AskedFor.{DrivesFor, state_drives}
use Rattle.client_calls.specs.declared.in_hand.InHand.{InHand}
use Rattle.world_core.specs.declared.world.World.{World}
use Rattle.world_core.specs.Freeing.{freed_world}
use Rattle.world_core.specs.Happenings.{rooms_at, IsStep}
use Rattle.ckpt_machine.specs.Holding.{HoldsOnlyWhatStands}
use Rattle.world_core.specs.declared.snapshots.Background.{Background}
use Rattle.world_core.specs.Backgrounds.{pulled_in, snapshots_behind}
use Rattle.ckpt_machine.specs.RecordAfter.{event_after, nodes_behind}
use Rattle.ckpt_machine.specs.RecordReady.{IsPlain, IsRefusedWith, CanAdd, HasFound, IsRecordReady}
use Rattle.world_core.specs.Settling.{settled, CanSettle, CanGive}
use Rattle.world_core.specs.Shows.{Does, IsShown, History, HistoryFits, machine_of, tables_of, HasNumbersLeft}
use Rattle.world_core.specs.TablesState.{kept_by, at_client}
use Rattle.client_calls.specs.TableState.{TableState, with_client}
use Rattle.world_core.specs.Alone.{calls_gone, ended_at, going_with, gone_with, syncs_gone}
use Rattle.world_core.proofs.AloneSteps.{MayGo, all_gone, gone_fits, gone_here, gone_waited, rooms_gone, syncs_are, gone_set}
use Rattle.world_core.proofs.WaitedFor.{may_go_with}
use Rattle.world_core.proofs.CallSteps.{pulled_by_client, event_counts, event_keeps, event_pulls, IsKnown, known, known_by, behind_step, IsShownBehind, step_before, step_told, step_under}
use Rattle.world_core.proofs.Freeing.{does_before, does_freed}
use Rattle.ckpt_machine.proofs.FreedNodes.{holds_behind}
use Rattle.ckpt_machine.proofs.Going.{CompletesNone, event_goes, event_once, event_free, plain_completes}
use Rattle.ckpt_machine.proofs.KeptEntries.{event_up}
use Rattle.world_core.proofs.Held.{client_asks, copy_drives, copy_stays, number_by, state_in, in_hand_is, driver_is, name_is, actor_is, due_is}
use Rattle.world_core.proofs.MadeIds.{event_commits_none, made_stays}
use Rattle.world_core.specs.LiveRooms.{LiveHaveRoom, room_is_taken}
use Rattle.world_core.proofs.LiveRooms.{EntersWithRoom, rooms_ended, rooms_settled, rooms_after}
use Rattle.world_core.proofs.Recording.{with_effects, record_is, record_fits}
use Rattle.ckpt_machine.proofs.GoesAt.{GoesAt}
use Rattle.world_core.proofs.SnapshotRooms.{behind-pulled, event_has}
use Rattle.world_core.specs.HandsState.{HandsState, hand_at, set_at}
use Rattle.client_calls.specs.Names.{client_by}
use Rattle.ckpt_types.specs.declared.identities.Who.{Who}
use Rattle.world_core.proofs.TableFields.{change_is, client_same}
use Rattle.ckpt_types.specs.declared.words.OpWord.{OpWord}
use Rattle.cluster_record.specs.Makings.{makings_of}
use Rattle.cluster_record.specs.DueCopy.{CopyState}
use Rattle.cluster_record.specs.StepDone.{StepDone, counting, done_of}
use Rattle.client_calls.specs.HandSteps.{hand_taken}
use Rattle.ckpt_machine.proofs.Granted.{has_found}
use Rattle.ckpt_machine.proofs.OpenRoom.{open_room}
use Rattle.ckpt_machine.proofs.Readiness.{record_ready}
use Rattle.world_core.proofs.Maps.{HasUnder, hand_left, under_other, under_own}
use Rattle.ckpt_types.specs.declared.identities.Who.TheVariants.{Actor}
use Rattle.ckpt_machine.proofs.StepDone.{IsNotOk, besides, change_done, finishable_there, place_is_room, refused_leaves, refused_so}

-- ---- what it makes of the client's table

pub closing-none : (ask : Ask) → closing ask no_tables ≡ no_tables
closing-none (asks.Close place) = refl
closing-none ask = refl

-- ---- whose a step is

-- a copying's is a completion
copies_none : (m : Machine) (s : CallState) (c : CopyState) (step : RecordStep) → CompletesNone step → IsEventReady m s (drivers.Copy c) step → ⊥
copies_none m s c (events.Complete k r moment) none ready = none
copies_none m s c step none ready = ready

-- so any other step ends its call by itself
pub step_ends : (m : Machine) (s : CallState) (x : Driver) (step : RecordStep) (k : Option ℕ) → CompletesNone step → IsEventReady m s x step → (N : RecordState) (d : StepDone) → step_end N (driver_taken d x) step k ≡ event_end step k
step_ends m s (drivers.Copy c) step k none ready N d = absurd (copies_none m s c step none ready)
step_ends m s (drivers.Once x) step k none ready N d = refl
step_ends m s (drivers.Open o) step k none ready N d = refl
step_ends m s (drivers.Update u) step k none ready N d = refl
step_ends m s (drivers.Active a) step k none ready N d = refl
step_ends m s (drivers.Sync u) step k none ready N d = refl

-- s is the call of the client
module _ (w : World) (h : History) (c : ℕ) (s : CallState) (actor : s.call.actor ≡ Client c) where
  -- a change of what the client keeps, where it leaves a client as it is that keeps nothing
  pub table_changes : (change : ClientState → ClientState) → (slice_get w.tables c ≡ None → change no_tables ≡ no_tables) → with_tables s.call.actor change (machine_of w h) ≡ machine_of (record w { tables = at_client c (with_client change) w.tables }) h
  table_changes change none = ap (λ (a : ActorName). with_tables a change (machine_of w h)) actor ∙ change_is w h c change none

  -- where its room was taken there is a table
  has_table : room_is_taken (slice_get w.tables c) ≡ true → (X : Type 0) → slice_get w.tables c ≡ None → X
  has_table taken X none = let no : true ≡ false = sym taken ∙ ap room_is_taken none in absurd (cc no)

  -- where it leaves the client's table as it is
  table_stays : (change : TableState → TableState) → ((t : TableState) → change t ≡ t) → machine_of w h ≡ machine_of (record w { tables = at_client c change w.tables }) h
  table_stays change same = ap (λ tables. machine_of (record w { tables = tables }) h) (sym (client_same w.tables c change same))

  -- the handle that the call closes, if it closes one
  abbrev pub handle : Option ℕ
  handle = handle_closed (asked s.op) (kept_by w.tables c)

  -- it is closed, with the synchronisations over it
  pub closing_shown : with_closed s (machine_of w h) ≡ machine_of (syncs_gone c handle (record w { tables = at_client c (with_client (closing (asked s.op))) w.tables })) h
  closing_shown =
      ap (λ (a : ActorName). without_syncs (handle_closed (asked s.op) (tables_of w.tables a)) a (with_tables a (closing (asked s.op)) (machine_of w h))) actor
      ∙ ap (without_syncs handle (Client c)) (change_is w h c (closing (asked s.op)) (λ none. closing-none (asked s.op)))
      ∙ syncs_are (record w { tables = at_client c (with_client (closing (asked s.op))) w.tables }) h c handle

  leaving_shown : without_calls s.call.actor (with_tables s.call.actor emptied (machine_of w h)) ≡ machine_of (calls_gone c (record w { tables = at_client c (with_client emptied) w.tables })) h
  leaving_shown =
      ap (λ (a : ActorName). without_calls a (with_tables a emptied (machine_of w h))) actor
      ∙ ap (without_calls (Client c)) (change_is w h c emptied (λ none. refl))
      ∙ all_gone (record w { tables = at_client c (with_client emptied) w.tables }) h c

  settles : (step : RecordStep) (k : Option ℕ) → IsPlain step → CanSettle c s.op step w.tables →
      besides s step k (machine_of w h) ≡ machine_of (gone_with (going_with step) c handle (record w { tables = settled w.cluster c s.op step k w.tables })) h
  settles events.Enter k plain can = table_changes (registering (asked s.op)) (has_table can _)
  settles events.Open (Some k) plain can = table_changes (handle_given (asked s.op) k (creation_flags_of (entry_of k w.cluster.entries))) (has_table can.roomy _)
  settles events.Finish (Some k) plain can = table_changes (handle_given (asked s.op) k (creation_flags_of (entry_of k w.cluster.entries))) (has_table can.roomy _)
  settles events.Close k plain can = closing_shown
  settles events.Leave k plain can = leaving_shown
  settles (events.Hold r) k plain can = absurd plain
  settles (events.Activate r) k plain can = absurd plain
  settles (events.Complete q r moment) k plain can = absurd plain
  settles step k plain can = table_stays (λ t. t) (λ t. refl)

-- ---- the step as it is told

abbrev record_after : World → InHand → RecordStep → RecordState
record_after w hand step = event_after hand.call hand.driver step w.cluster

abbrev ckpt_in : World → InHand → RecordStep → Option ℕ
ckpt_in w hand step = event_ckpt w.cluster hand.driver step

-- the handle that its call closes, if it closes one
abbrev pub closed_in : World → Who → InHand → Option ℕ
closed_in w v hand = handle_closed (asked hand.op) (kept_by w.tables (client_by v))

-- the world with the record, the nodes, the snapshots and the client's table after it
abbrev pub settled_alone : World → Who → InHand → RecordStep → World
settled_alone w v hand step = let R = record_after w hand step in record w { cluster = R; nodes = nodes_behind hand.driver step w.cluster w.nodes; snapshots = snapshots_behind hand.driver step w.cluster w.snapshots; tables = settled R (client_by v) hand.op step (ckpt_in w hand step) w.tables }

-- and without the asynchronous calls that go with it
abbrev pub settled_world : World → Who → InHand → RecordStep → World
settled_world w v hand step = gone_with (going_with step) (client_by v) (closed_in w v hand) (settled_alone w v hand step)

module _ (w : World) (v : Who) (step : RecordStep) (hand : InHand) (held : hand_at w.hands v ≡ Some hand) (next : driver_next w.cluster (rooms_at w (client_by v)) hand.driver ≡ Event step) where
  abbrev verb : Verb
  verb = event_verb step

  abbrev R : RecordState
  R = record_after w hand step

  abbrev nodes : List (List Replica)
  nodes = nodes_behind hand.driver step w.cluster w.nodes

  abbrev backgrounds : List Background
  backgrounds = snapshots_behind hand.driver step w.cluster w.snapshots

  abbrev k : Option ℕ
  k = ckpt_in w hand step

  abbrev r : Option ℕ
  r = event_node hand.driver step

  abbrev end : Option Outcome
  end = event_end step k

  -- its label
  abbrev told : StepReply → Option Outcome → Label
  told reply end = Stepped hand.call (word_of_op hand.op) verb k r reply end beside.Nothing

  -- the world with the record behind it, and with the replica and the room for a snapshot that it adds
  abbrev pub recorded : World
  recorded = record w { cluster = R; nodes = nodes; snapshots = backgrounds }

  -- and its parts
  abbrev parts : StepReply → Option Outcome → Told
  parts reply end = record { verb = verb; ckpt = k; node = r; reply = reply; end = end; details = beside.Nothing }

  module _ (h : History) (is : IsKnown w h) where
    abbrev m : Machine
    m = machine_of w h

    abbrev s : CallState
    s = state_in h v hand

    driver : hand.driver ≡ driver_of s
    driver = driver_is w h v hand held is.fits

    -- what due of the record asks
    pub event_asks : IsEventReady m s hand.driver step
    event_asks = subst (λ (x : Driver). IsEventReady m s x step) (sym driver) (is.facts.events v s step (in_hand_is w h v hand held) (due_is w h v hand held is.facts is.fits (Event step) next))

    up : R.up ≡ w.cluster.up
    up = event_up w.cluster hand.call hand.driver step

    -- what was pulled is the same
    pulled : (j : ℕ) → pulled_in backgrounds j ≡ pulled_in w.snapshots j
    pulled = behind-pulled hand.call hand.driver step w.cluster w.snapshots

    -- its call is a client's, unless it is a completion
    pub client_steps : CompletesNone step → hand.call.actor ≡ Client (client_by v)
    client_steps none = client_asks w h v hand held is.facts (λ copies. let (c, drives) = copy_drives w h v hand held is.facts is.fits copies in copies_none m s c step none (subst (λ (x : Driver). IsEventReady m s x step) drives event_asks))

    -- and ends by it as the step does
    pub ends_so : CompletesNone step → (reply : StepReply) (end : Option Outcome) → event_done m s step (parts reply end) ≡ event_end step k
    ends_so none reply end = step_ends m s (driver_of s) step k none (subst (λ (x : Driver). IsEventReady m s x step) driver event_asks) (event_after s.call (driver_of s) step m.cluster) (dues.step_told m (parts reply end))

    module _ (none : CompletesNone step) (eight : length w.nodes ≡ 8) (granted : event_refusal w.cluster step hand.driver ≡ None) where
      -- each entry goes on
      pub goes : (j q : ℕ) → GoesAt w.cluster.up j (entry_of j w.cluster.entries) (entry_of j R.entries) q (replica_in w.nodes j q) (replica_in nodes j q)
      goes = event_goes (machine_of w h) w.nodes (λ k r. refl) is.facts is.holds hand.call s hand.driver step none eight granted event_asks

      -- and the nodes that are freed of the others hold only what stands
      pub holds_after : HoldsOnlyWhatStands R (freed R.entries nodes)
      holds_after = holds_behind w.cluster R w.nodes nodes up goes is.holds (event_once (machine_of w h) w.nodes (λ k r. refl) is.facts is.holds hand.call s hand.driver step none eight granted event_asks)

    -- no marks keep a plain one off
    plain_kept : (k : Option ℕ) (step : RecordStep) → IsPlain step → kept_off m k step ≡ None
    plain_kept k (events.Hold r) plain = absurd plain
    plain_kept None step plain = refl
    plain_kept (Some k) step plain = refl

    -- how it is told, and how it ends its call where it is done
    pub told_so : (reply : StepReply) (end : Option Outcome) → IsEventAnswer (kept_off m k step) (event_refusal w.cluster step hand.driver) (event_done m s step (parts reply end)) step (parts reply end) → IsDone m s (Event step) (parts reply end)
    told_so reply end answer = record {
      verb = refl;
      ckpt = ap (λ x. event_ckpt w.cluster x step) driver;
      node = ap (λ x. event_node x step) driver;
      details = refl;
      answer = subst (λ o. IsEventAnswer (kept_off m k step) o (event_done m s step (parts reply end)) step (parts reply end)) (ap (event_refusal w.cluster step) driver) answer;
    }

    plain_answer : (reply : StepReply) (end : Option Outcome) → IsPlain step → let finish = event_done m s step (parts reply end) in IsRecordAnswer (event_refusal w.cluster step hand.driver) finish step (parts reply end) → IsEventAnswer (kept_off m k step) (event_refusal w.cluster step hand.driver) finish step (parts reply end)
    plain_answer reply end plain answer = subst (λ o. IsEventAnswer o (event_refusal w.cluster step hand.driver) (event_done m s step (parts reply end)) step (parts reply end)) (sym (plain_kept k step plain)) answer

    -- what it makes of the machine, where the record has taken it
    pub done_changes : changed m s verb k r words.Ok ≡ besides s step k (with_record m (event_after hand.call hand.driver step w.cluster))
    done_changes = change_done m s is.facts.rises hand.driver step event_asks (subst (DrivesFor s.call (asked s.op)) (sym driver) (state_drives s (is.facts.driven v s (in_hand_is w h v hand held))))

    module _ (none : CompletesNone step) (eight : length w.nodes ≡ 8) (granted : event_refusal w.cluster step hand.driver ≡ None) where
      -- so the machine is shown where the record has taken the step
      pub done_beside : changed m s verb k r words.Ok ≡ besides s step k (machine_of recorded (with_effects w h))
      done_beside = done_changes ∙ ap (besides s step k) (record_is w h R nodes backgrounds (goes none eight granted) up is.keeps pulled)

      pub fits_recorded : HistoryFits recorded (with_effects w h)
      fits_recorded = record_fits w h R nodes backgrounds (goes none eight granted) up is.keeps pulled is.fits

    shown_done : length w.nodes ≡ 8 → event_refusal w.cluster step hand.driver ≡ None → IsPlain step → CanSettle (client_by v) hand.op step w.tables →
        IsShownBehind w v hand held (settled_world w v hand step) (with_effects w) verb k r words.Ok end beside.Nothing 0 hand.snapshot hand.made (pulled_by_client v) (Event step) h
    shown_done eight granted plain can = record {
      done = told_so words.Ok end (plain_answer words.Ok end plain (subst (λ o. IsRecordAnswer o (event_done m s step (parts words.Ok end)) step (parts words.Ok end)) (sym granted) (inl (refl, sym (ends_so (plain_completes step plain) words.Ok end)))));
      change = done_beside (plain_completes step plain) eight granted ∙ settles recorded (with_effects w h) (client_by v) s (client_steps (plain_completes step plain)) step k plain can;
      fits = let f = fits_recorded (plain_completes step plain) eight granted in gone_fits (settled_alone w v hand step) (client_by v) (closed_in w v hand) (going_with step) (with_effects w h) (record { replicas = f.replicas; copies = f.copies; hands = f.hands });
      count_is = event_counts m step k r words.Ok;
      copy_is = let copy = copy_stays w h v hand held is.fits in record { same = event_pulls m s step k r words.Ok plain; room = subst (λ (kept : Kept). IsRoomToCopy (asked hand.op) kept.declares hand.snapshot) (sym (event_keeps m s step k words.Ok)) copy.room; counts = copy.counts };
      made_is = made_stays w h v hand held is.fits verb k r (counting 0 (done_of (settled_world w v hand step).cluster verb k r words.Ok)) refl (event_commits_none step);
    }

  -- ---- the whole of a step, with what it tells

  -- it is done, and leaves these calls in hand, these tables, and this copy in its own hand; the nodes are freed of what is gone
  module _ (hands : HandsState) (tables : List TableState) (copy : Option copies.Snapshot) (pulled : History → Option (List Effect)) where
    abbrev behind : World
    behind = record recorded { hands = hands; tables = tables }

    pub done_does : CompletesNone step → length w.nodes ≡ 8 → event_refusal w.cluster step hand.driver ≡ None → hand_at hands v ≡ Some hand → ((h : History) → IsKnown w h → IsShownBehind w v hand held behind (with_effects w) verb k r words.Ok end beside.Nothing 0 copy hand.made pulled (Event step) h) →
        (LiveHaveRoom w.cluster w.tables → LiveHaveRoom R tables) → Does w (freed_world (behind_step w v hand held behind (with_effects w) verb k r words.Ok end beside.Nothing 0 copy hand.made pulled)) (told words.Ok end)
    done_does none eight granted still shown rooms = does_freed w (behind_step w v hand held behind (with_effects w) verb k r words.Ok end beside.Nothing 0 copy hand.made pulled) (told words.Ok end)
        (step_before w v hand held behind (with_effects w) verb k r words.Ok end beside.Nothing 0 copy hand.made pulled (Event step) next still (λ h. refl) shown)
        (λ m s f. holds_after s.history (known_by w m s f) none eight granted)
        (λ m s f. let is = known_by w m s f in event_has w.cluster w.snapshots is.keeps is.facts.rises is.facts.up_to hand.call hand.driver step)
        (λ m s f. rooms_ended behind R v end (rooms s.rooms))

  -- it is not done, and the call ends: nothing else changes
  pub ended_does : (reply : StepReply) (end : Outcome) → IsNotOk reply → ((h : History) → IsKnown w h → let m = machine_of w h in let s = state_in h v hand in (pulled_by m s verb k r reply ≡ s.snapshot) × IsEventAnswer (kept_off m k step) (event_refusal w.cluster step hand.driver) (event_done m s step (parts reply (Some end))) step (parts reply (Some end))) →
      Does w (ended_at v (Some end) (record w { hands = set_at w.hands v None })) (told reply (Some end))
  ended_does reply end not_ok answers = does_before w (ended_at v (Some end) (record w { hands = set_at w.hands v None })) (told reply (Some end))
      (step_before w v hand held w (λ h. h) verb k r reply (Some end) beside.Nothing 0 hand.snapshot hand.made (pulled_by_client v) (Event step) next held (λ h. refl) (λ h is. record {
        done = told_so h is reply (Some end) (answers h is).1;
        change = refused_leaves (machine_of w h) (state_in h v hand) step k r reply not_ok;
        fits = is.fits;
        count_is = event_counts (machine_of w h) step k r reply;
        copy_is = let copy = copy_stays w h v hand held is.fits in record { same = (answers h is).0; room = subst (λ (kept : Kept). IsRoomToCopy (asked hand.op) kept.declares hand.snapshot) (sym (event_keeps (machine_of w h) (state_in h v hand) step k reply)) copy.room; counts = copy.counts };
        made_is = made_stays w h v hand held is.fits verb k r (counting 0 (done_of w.cluster verb k r reply)) refl (event_commits_none step);
      }))
      (λ m s f. s.holds) (λ m s f. s.keeps) (λ m s f. rooms_ended w w.cluster v (Some end) s.rooms)

  -- the call is one that its client waits for, where others go with its step
  pub goes_own : IsShown w → MayGo (going_with step) (closed_in w v hand) v
  goes_own shown =
      let h : History = shown.shows.history in
      let is : IsKnown w h = known w shown in
      may_go_with (machine_of w h) (state_in h v hand) hand.driver step v (kept_by w.tables (client_by v)) (event_asks h is) (driver h is) (is.facts.driven v (state_in h v hand) (in_hand_is w h v hand held)) (name_is w h v hand held is.facts)

  -- what a due step asks
  pub event_ready : (shown : IsShown w) → let h = shown.shows.history in IsEventReady (machine_of w h) (state_in h v hand) hand.driver step
  event_ready shown = event_asks shown.shows.history (known w shown)

  -- a client that becomes live has its room
  pub enters : IsShown w → (step ≡ events.Enter → room_is_taken (slice_get w.tables (client_by v)) ≡ true) → EntersWithRoom hand.call hand.driver w.tables
  enters shown roomy = by_driver step hand.driver (event_ready shown) roomy where
    its : CallState
    its = state_in shown.shows.history v hand

    client : client_of hand.call ≡ client_by v
    client = ap number_of (actor_is w shown.shows.history v hand held (known w shown).facts) ∙ number_by v

    by_driver : (step : RecordStep) (x : Driver) → IsEventReady (machine_of w shown.shows.history) its x step → (step ≡ events.Enter → room_is_taken (slice_get w.tables (client_by v)) ≡ true) → EntersWithRoom hand.call x w.tables
    by_driver events.Enter (drivers.Once (once.Enter r)) _ roomy = subst (λ d. room_is_taken (slice_get w.tables d) ≡ true) (sym client) (roomy refl)
    by_driver step (drivers.Once (once.Enter r)) asks roomy = absurd asks
    by_driver step x _ roomy = tt

  -- the world behind it, before the nodes are freed
  abbrev pub done_world : World
  done_world = behind_step w v hand held (settled_world w v hand step) (with_effects w) verb k r words.Ok end beside.Nothing 0 hand.snapshot hand.made (pulled_by_client v)

  -- the step is done, and the nodes are freed of what is gone
  pub event_does : IsShown w → length w.nodes ≡ 8 → event_refusal w.cluster step hand.driver ≡ None → IsPlain step → CanSettle (client_by v) hand.op step w.tables → (step ≡ events.Enter → room_is_taken (slice_get w.tables (client_by v)) ≡ true) → Does w (freed_world done_world) (told words.Ok end)
  event_does shown eight granted plain can roomy =
      let behind = settled_world w v hand step in
      done_does behind.hands behind.tables hand.snapshot (pulled_by_client v) (plain_completes step plain) eight granted (gone_here (settled_alone w v hand step) (client_by v) (closed_in w v hand) (going_with step) v (goes_own shown) ∙ held) (λ h is. shown_done h is eight granted plain can)
      (λ rooms. rooms_gone (settled_alone w v hand step) (client_by v) (closed_in w v hand) R (going_with step) (rooms_settled w R (client_by v) R hand.op step k (rooms_after hand.call hand.driver step w.cluster w.tables (enters shown roomy) rooms)))

  -- it is refused, and the call ends
  pub refused_does : (reply : StepReply) (end : Outcome) → IsPlain step → IsRefusedWith (event_refusal w.cluster step hand.driver) step reply end → Does w (ended_at v (Some end) (record w { hands = set_at w.hands v None })) (told reply (Some end))
  refused_does reply end plain refused = let so = λ (finish : Option Outcome). refused_so (event_refusal w.cluster step hand.driver) finish step verb k r reply end refused in ended_does reply end (so None).0
      (λ h is. (event_pulls (machine_of w h) (state_in h v hand) step k r reply plain, plain_answer h is reply (Some end) plain (so (event_done (machine_of w h) (state_in h v hand) step (parts reply (Some end)))).1))

  -- ---- what the step asks, and what it makes of the world with the parts as the code names them

  module _ (shown : IsShown w) where
    -- an open in hand has room for the handle of what it is making, and its client has taken its room
    open_known : (o : OpenState) → hand.driver ≡ drivers.Open o → (IsSome o.making → has_handle_room (kept_by w.tables (client_by v)) ≡ true) × (room_is_taken (slice_get w.tables (client_by v)) ≡ true)
    open_known o drives =
        let h = shown.shows.history in
        let is : IsKnown w h = known w shown in
        let facts = is.facts.opens v (state_in h v hand) o (in_hand_is w h v hand held) (sym (driver_is w h v hand held is.fits) ∙ drives) in
        let actor : hand.call.actor ≡ Client (client_by v) = client_asks w h v hand held is.facts (λ copies. let (c, copying) = copy_drives w h v hand held is.facts is.fits copies in let other : drivers.Open o ≡ drivers.Copy c = sym drives ∙ copying in cc other) in
        (λ making. ap (λ (a : ActorName). has_handle_room (tables_of w.tables a)) (sym actor) ∙ facts.0 making, shown.shows.rooms (client_by v) (ap (λ (a : ActorName). is_live_client (number_of a) w.cluster) (sym actor) ∙ facts.1))

    can_give : (o : OpenState) → hand.driver ≡ drivers.Open o → HasNumbersLeft w → has_handle_room (kept_by w.tables (client_by v)) ≡ true → CanGive (client_by v) hand.op w.tables
    can_give o drives roomy room =
        let h = shown.shows.history in
        let is : IsKnown w h = known w shown in
        record { built = is.facts.built v (state_in h v hand) (in_hand_is w h v hand held); roomy = (open_known o drives).1; room = room; number = roomy.handles (client_by v) }

    abbrev IsReady : Driver → RecordStep → Type 0
    IsReady x step = let h = shown.shows.history in IsEventReady (machine_of w h) (state_in h v hand) x step

    by_step : (step : RecordStep) (x : Driver) → hand.driver ≡ x → (step ≡ events.Enter → room_is_taken (slice_get w.tables (client_by v)) ≡ true) → HasNumbersLeft w → driver_next w.cluster (rooms_at w (client_by v)) x ≡ Event step → event_refusal w.cluster step x ≡ None → IsReady x step → CanSettle (client_by v) hand.op step w.tables
    by_step events.Enter x drives has_room roomy next granted ready = has_room refl
    by_step events.Open (drivers.Open o) drives has_room roomy next granted ready = can_give o drives roomy (place_is_room (makings_of (client_by v) w.cluster.entries) (kept_by w.tables (client_by v)) (open_room w.cluster (rooms_at w (client_by v)).handles o next granted))
    by_step events.Finish (drivers.Open o) drives has_room roomy next granted ready = can_give o drives roomy ((open_known o drives).0 (finishable_there (machine_of w shown.shows.history) o.ask.client o.making ready.0))
    by_step events.Open (drivers.Once once.Leave) drives has_room roomy next granted ready = absurd ready
    by_step events.Open x drives has_room roomy next granted ready = absurd ready
    by_step events.Finish (drivers.Once once.Leave) drives has_room roomy next granted ready = absurd ready
    by_step events.Finish x drives has_room roomy next granted ready = absurd ready
    by_step step x drives has_room roomy next granted ready = tt

    -- what the step makes of the client's table can be made
    pub can_settle : event_refusal w.cluster step hand.driver ≡ None → HasNumbersLeft w → (step ≡ events.Enter → room_is_taken (slice_get w.tables (client_by v)) ≡ true) → CanSettle (client_by v) hand.op step w.tables
    can_settle granted roomy has_room = by_step step hand.driver refl has_room roomy next granted (event_ready shown)

    -- what the step asks of the record
    pub is_ready : event_refusal w.cluster step hand.driver ≡ None → HasNumbersLeft w → IsRecordReady hand.call w.cluster hand.driver step
    is_ready granted roomy = let h = shown.shows.history in record_ready (machine_of w h) (state_in h v hand) hand.driver step granted roomy.identity roomy.references (event_ready shown)

    -- where it opens a checkpoint, that is the one that was looked up
    pub is_found : (k : Option ℕ) → event_refusal w.cluster step hand.driver ≡ None → HasNumbersLeft w → k ≡ event_ckpt w.cluster hand.driver step → HasFound w.cluster hand.driver step k
    is_found k granted roomy is = has_found hand.call w.cluster hand.driver step k is (known w shown).facts.rises (is_ready granted roomy)

    -- what it adds, the node does not have yet
    pub can_add : event_refusal w.cluster step hand.driver ≡ None → CanAdd hand.driver step w.cluster w.nodes
    can_add granted =
        let h = shown.shows.history in
        let is : IsKnown w h = known w shown in
        event_free (machine_of w h) w.nodes (λ k r. refl) is.facts is.holds (state_in h v hand) hand.driver step granted (event_ready shown)

    -- ---- what it makes of the world, with the parts as the code names them

    -- where asynchronous calls go with the step, the place of its own is set all the same
    goes_apart : (place : Option InHand) → gone_with (going_with step) (client_by v) (closed_in w v hand) (record (settled_alone w v hand step) { hands = set_at w.hands v place }) ≡ record (settled_world w v hand step) { hands = set_at (settled_world w v hand step).hands v place }
    goes_apart place = gone_set (settled_alone w v hand step) (client_by v) (closed_in w v hand) (going_with step) v place (goes_own shown)

    -- the call is in hand till then
    stays_held : hand_at (settled_world w v hand step).hands v ≡ Some hand
    stays_held = gone_here (settled_alone w v hand step) (client_by v) (closed_in w v hand) (going_with step) v (goes_own shown) ∙ held

    -- ---- the step that is done

    abbrev its_end : Option Outcome
    its_end = end

    abbrev its_label : Label
    its_label = told words.Ok end

    abbrev its_taken : InHand
    its_taken = hand_taken (done_of R verb k r words.Ok) hand

    -- the world behind it
    abbrev its_world : World
    its_world = freed_world done_world

    event_told : event_refusal w.cluster step hand.driver ≡ None → IsPlain step → HasNumbersLeft w → (step ≡ events.Enter → room_is_taken (slice_get w.tables (client_by v)) ≡ true) → length w.nodes ≡ 8 →
        IsStep v w its_world its_label
    event_told granted plain roomy has_room eight =
        let G : HandsState = (settled_world w v hand step).hands in
        let under : HasUnder G v (left its_end its_taken) its_world.hands = hand_left G v hand its_taken its_end stays_held refl in
        step_told v w its_world hand its_taken (word_of_op hand.op) verb k r words.Ok end beside.Nothing held refl refl
        (under_own G its_world.hands v (left its_end its_taken) under)
        (λ b other. under_other G its_world.hands v (left its_end its_taken) under (Actor b) other ∙ gone_waited (settled_alone w v hand step) (client_by v) (closed_in w v hand) (going_with step) b)
        (event_does shown eight granted plain (can_settle granted roomy has_room) has_room)

    -- it is done, and the nodes are freed of what is gone
    pub event_step : (new : World) (R : RecordState) (nodes : List (List Replica)) (backgrounds : List Background) (tables : List TableState) (taken : InHand) (place : Option InHand) (c : ℕ) (closed : Option ℕ) (word : OpWord) (verb : Verb) (k r : Option ℕ) (end : Option Outcome) → event_refusal w.cluster step hand.driver ≡ None → IsPlain step → HasNumbersLeft w →
        (step ≡ events.Enter → room_is_taken (slice_get w.tables (client_by v)) ≡ true) → length w.nodes ≡ 8 → R ≡ event_after hand.call hand.driver step w.cluster → k ≡ event_ckpt w.cluster hand.driver step → r ≡ event_node hand.driver step → end ≡ event_end step k → tables ≡ settled R c hand.op step k w.tables →
        taken ≡ hand_taken (done_of R (event_verb step) k r words.Ok) hand → place ≡ left end taken → nodes ≡ nodes_behind hand.driver step w.cluster w.nodes → backgrounds ≡ snapshots_behind hand.driver step w.cluster w.snapshots → c ≡ client_by v → closed ≡ handle_closed (asked hand.op) (kept_by w.tables c) →
        new ≡ ended_at v end (freed_world (gone_with (going_with step) c closed (record w { cluster = R; nodes = nodes; snapshots = backgrounds; tables = tables; hands = set_at w.hands v place }))) → word ≡ word_of_op hand.op → verb ≡ event_verb step →
        IsStep v w new (Stepped hand.call word verb k r words.Ok end beside.Nothing)
    event_step new R nodes backgrounds tables taken place c closed word verb k r end granted plain roomy has_room eight R_is k_is r_is end_is tables_are taken_is place_is nodes_are backgrounds_are c_is closed_is new_is word_is verb_is =
        rw (new_is, closed_is, place_is, taken_is, tables_are, nodes_are, backgrounds_are, end_is, R_is, k_is, r_is, c_is, word_is, verb_is)
        (subst (λ (x : World). IsStep v w (ended_at v its_end (freed_world x)) its_label) (sym (goes_apart (left its_end its_taken))) (event_told granted plain roomy has_room eight))

    -- it is refused, by the record or for the memory that it takes, and the call ends
    pub refused_step : (new : World) (word : OpWord) (verb : Verb) (k r : Option ℕ) (reply : StepReply) (end : Outcome) → IsPlain step → IsRefusedWith (event_refusal w.cluster step hand.driver) step reply end → new ≡ ended_at v (Some end) (record w { hands = set_at w.hands v None }) →
        k ≡ event_ckpt w.cluster hand.driver step → r ≡ event_node hand.driver step → word ≡ word_of_op hand.op → verb ≡ event_verb step →
        IsStep v w new (Stepped hand.call word verb k r reply (Some end) beside.Nothing)
    refused_step new word verb k r reply end plain refused new_is k_is r_is word_is verb_is =
        step_under v w new hand hand word verb k r reply (Some end) beside.Nothing held refl refl
        (subst (λ (x : World). HasUnder w.hands v None x.hands) (sym new_is) (hand_left w.hands v hand hand (Some end) held refl))
        (rw (new_is, k_is, r_is, word_is, verb_is) (refused_does reply end plain refused))
