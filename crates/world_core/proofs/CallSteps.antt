-- A step of the call that is in hand under a name: that it is due, and what the world shows behind it.
use Rattle.std.proofs.Common.{◌≡◌, ℕ, List, ◌∷◌, refl, sym, ap, subst, ◌∙◌}
use Rattle.std.specs.Prelude.{Option, Some}
use Rattle.ckpt_types.specs.declared.answers.Outcome.{Outcome}
use Rattle.node_msgs.specs.declared.next.Next.{Next}
use Rattle.node_msgs.specs.declared.next.RecordStep.{RecordStep}
use Rattle.node_msgs.specs.declared.next.RecordStep.TheVariants as events
use Rattle.node_msgs.specs.Steps.{event_verb}
use Rattle.node_msgs.specs.declared.steps.Verb.{Verb}
use Rattle.node_msgs.specs.declared.steps.Verb.TheVariants as verbs
use Rattle.node_msgs.specs.declared.steps.StepReply.{StepReply}
use Rattle.node_msgs.specs.declared.steps.StepReply.TheVariants as words
use Rattle.ckpt_types.specs.Asks.{Ask, asked}
use Rattle.ckpt_types.specs.Asks as asks
use Rattle.cluster_record.specs.RecordState.{RecordState}
use Rattle.node_msgs.specs.declared.details.Details.{Details}
use Rattle.run_labels.specs.declared.labels.Label.{Label}
use Rattle.run_labels.specs.declared.labels.Label.TheVariants.{Stepped}
use Rattle.ckpt_types.specs.OpWord.{word_of_op}
use Rattle.ckpt_types.specs.declared.words.OpWord.{OpWord}
use Rattle.ckpt_types.specs.declared.identities.Who.TheVariants.{Actor}
use Rattle.cluster_record.specs.Calls.{left}
use Rattle.world_core.proofs.Maps.{HasUnder, under_own, under_other}
use Rattle.cluster_record.specs.StepDone.{StepDone, done_of, counting}
use Rattle.ckpt_machine.specs.Driving.{Kept, driver_next, driver_taken}
use Rattle.ckpt_machine.specs.Facts.{Facts}
use Rattle.ckpt_machine.specs.Machine.{Machine, CallState, Effect}
use Rattle.snap_copy.specs.Snapshots as copies
use Rattle.ckpt_machine.specs.After.{after, changed, created_by, kept_by, pulled_by, step_of, stepped}
use Rattle.ckpt_machine.specs.Due.{IsDue, IsDone, counted_at, kept_reserving}
use Rattle.client_calls.specs.declared.in_hand.InHand.{InHand}
use Rattle.world_core.specs.declared.world.World.{World}
use Rattle.world_core.specs.Happenings.{rooms_at, IsStep, KeepsOther}
use Rattle.world_core.specs.Backgrounds.{HaveRooms}
use Rattle.ckpt_machine.specs.Holding.{HoldsOnlyWhatStands}
use Rattle.ckpt_machine.specs.RecordReady.{IsPlain}
use Rattle.world_core.specs.Shows.{Does, Shows, IsShown, HistoryFits, History, machine_of, KeepsMade}
use Rattle.world_core.proofs.Freeing.{DoesBefore}
use Rattle.world_core.proofs.Held.{state_in, asker_is, in_hand_at, name_is, due_is, IsCopyBehind}
use Rattle.world_core.specs.HandsState.{hand_at}
use Rattle.client_calls.specs.Names.{client_by}
use Rattle.ckpt_types.specs.declared.identities.Who.{Who}
use Rattle.world_core.proofs.Told.{with_step, told_world, told_is, told_fits}

-- what is known of a world, and of a history with which it shows a state that has the facts
pub record IsKnown (w : World) (h : History) : Type 0 where
  pub facts : Facts (machine_of w h)
  pub fits : HistoryFits w h
  pub holds : HoldsOnlyWhatStands w.cluster w.nodes
  pub keeps : HaveRooms w.cluster.entries w.snapshots

pub known_by : (w : World) (m : Machine) (s : Shows w m) → Facts m → IsKnown w s.history
known_by w m s facts = record { facts = subst Facts s.same facts; fits = s.fits; holds = s.holds; keeps = s.keeps }

pub known : (w : World) (shown : IsShown w) → IsKnown w shown.shows.history
known w shown = known_by w shown.state shown.shows shown.facts

-- what the call of a name has pulled by this history
abbrev pub pulled_by_client : Who → History → Option (List Effect)
pulled_by_client v h = h.pulled v

-- a step is told by its label, and leaves the call in hand as `next` where it goes on
pub step_told : (v : Who) (old new : World) (hand next : InHand) (op : OpWord) (verb : Verb) (k r : Option ℕ) (reply : StepReply) (end : Option Outcome) (details : Details) → hand_at old.hands v ≡ Some hand → next.call ≡ hand.call → next.op ≡ hand.op →
    hand_at new.hands v ≡ left end next → KeepsOther v old new → Does old new (Stepped hand.call op verb k r reply end details) → IsStep v old new (Stepped hand.call op verb k r reply end details)
step_told v old new hand next op verb k r reply end details held same_call same_op here others does = record {
  hand = hand;
  held = held;
  op = op;
  verb = verb;
  ckpt = k;
  node = r;
  reply = reply;
  end = end;
  details = details;
  label_is = refl;
  next = next;
  same_call = same_call;
  same_op = same_op;
  here = here;
  others = others;
  does = does;
}

-- where nothing else that is in hand has changed
pub step_under : (v : Who) (old new : World) (hand next : InHand) (op : OpWord) (verb : Verb) (k r : Option ℕ) (reply : StepReply) (end : Option Outcome) (details : Details) → hand_at old.hands v ≡ Some hand → next.call ≡ hand.call → next.op ≡ hand.op →
    HasUnder old.hands v (left end next) new.hands → Does old new (Stepped hand.call op verb k r reply end details) → IsStep v old new (Stepped hand.call op verb k r reply end details)
step_under v old new hand next op verb k r reply end details held same_call same_op under does =
    step_told v old new hand next op verb k r reply end details held same_call same_op (under_own old.hands new.hands v (left end next) under) (λ b other. under_other old.hands new.hands v (left end next) under (Actor b) other) does

-- a step of the record tells no count
pub event_counts : (m : Machine) (step : RecordStep) (k r : Option ℕ) (reply : StepReply) → counted_at m (event_verb step) k r reply ≡ 0
event_counts m events.Enter k r reply = refl
event_counts m step k r reply = refl

-- nor what the call keeps of a checkpoint
pub event_keeps : (m : Machine) (s : CallState) (step : RecordStep) (k : Option ℕ) (reply : StepReply) → kept_by m s (event_verb step) k reply ≡ s.kept
event_keeps m s events.Enter k reply = refl
event_keeps m s step k reply = refl

-- whatever it keeps, its room for an iteration is the same
reserving_room : (ask : Ask) (k : ℕ) (R : RecordState) (kept : Kept) → (kept_reserving ask k R kept).room ≡ kept.room
reserving_room asks.Copy k R kept = refl
reserving_room ask k R kept = refl

kept_room : (m : Machine) (s : CallState) (verb : Verb) (k : Option ℕ) (reply : StepReply) → (kept_by m s verb k reply).room ≡ s.kept.room
kept_room m s verbs.Reserve (Some k) words.Ok = reserving_room (asked s.op) k m.cluster s.kept
kept_room m s verb k reply = refl

-- and a plain one pulls nothing
pub event_pulls : (m : Machine) (s : CallState) (step : RecordStep) (k r : Option ℕ) (reply : StepReply) → IsPlain step → pulled_by m s (event_verb step) k r reply ≡ s.snapshot
event_pulls m s (events.Hold q) k r reply plain = absurd plain
event_pulls m s step k r reply plain = refl

-- `behind` shows with the history `later` what the step changes, the call's own steps aside
-- and the call is told this count, has this copy in its hand, keeps this of what it has made, and has pulled these effects then; of its checkpoint it keeps what the machine says
module _ (w : World) (v : Who) (hand : InHand) (held : hand_at w.hands v ≡ Some hand) (behind : World) (later : History → History) (verb : Verb) (k r : Option ℕ) (reply : StepReply) (end : Option Outcome) (details : Details) (count : ℕ) (copy : Option copies.Snapshot) (kept : Option (List (List ℕ))) (pulled : History → Option (List Effect)) where
  abbrev label : Label
  label = Stepped hand.call (word_of_op hand.op) verb k r reply end details

  abbrev pub step_done : StepDone
  step_done = counting count (done_of behind.cluster verb k r reply)

  -- the world in which the call is told of it
  abbrev pub behind_step : World
  behind_step = told_world behind v hand copy kept step_done end

  -- with the history that the machine has then
  abbrev history_behind : History → History
  history_behind h = let m = machine_of w h in let s = state_in h v hand in with_step (later h) v (kept_by m s verb k reply) step_done (created_by m s verb k r) (pulled h)

  -- the step is the one that is next, and is so shown
  pub record IsShownBehind (next : Next) (h : History) : Type 0 where
    pub done : IsDone (machine_of w h) (state_in h v hand) next (record { verb = verb; ckpt = k; node = r; reply = reply; end = end; details = details })
    pub change : changed (machine_of w h) (state_in h v hand) verb k r reply ≡ machine_of behind (later h)
    pub fits : HistoryFits behind (later h)
    pub count_is : counted_at (machine_of w h) verb k r reply ≡ count
    pub copy_is : IsCopyBehind (kept_by (machine_of w h) (state_in h v hand) verb k reply) hand (pulled_by (machine_of w h) (state_in h v hand) verb k r reply) (pulled h) copy
    pub made_is : KeepsMade hand.op (driver_taken step_done hand.driver) (created_by (machine_of w h) (state_in h v hand) verb k r) kept

  module _ (next : Next) (next_is : driver_next w.cluster (rooms_at w (client_by v)) hand.driver ≡ next) (still : hand_at behind.hands v ≡ Some hand) (same : (h : History) → state_in h v hand ≡ state_in (later h) v hand) where
    due_step : (h : History) → IsKnown w h → IsShownBehind next h → IsDue (machine_of w h) label
    due_step h is step = record {
      state = state_in h v hand;
      in_hand = in_hand_at w h v hand held is.facts;
      call_is = refl;
      word = refl;
      done = subst (λ (n : Next). IsDone (machine_of w h) (state_in h v hand) n (record { verb = verb; ckpt = k; node = r; reply = reply; end = end; details = details })) (sym (due_is w h v hand held is.facts is.fits next next_is)) step.done;
    }

    after_is : (h : History) → IsKnown w h → IsShownBehind next h → after (machine_of w h) label ≡ machine_of behind_step (history_behind h)
    after_is h is step =
        let m = machine_of w h in
        let s = state_in h v hand in
        ap (λ (p : Option CallState). step_of m p verb k r reply end) (in_hand_at w h v hand held is.facts)
        ∙ (λ i. stepped (step.change i) (record (same h i) { steps = counting (step.count_is i) (done_of (step.change i).cluster verb k r reply) ∷ (same h i).steps; created = created_by m s verb k r; snapshot = pulled_by m s verb k r reply; kept = kept_by m s verb k reply }) end)
        ∙ told_is behind (later h) v hand (kept_by m s verb k reply) step_done (created_by m s verb k r) (pulled_by m s verb k r reply) (pulled h) copy kept end (name_is w h v hand held is.facts) (asker_is w h v hand held is.facts) step.fits still step.copy_is

    -- the step, before the nodes are freed
    pub step_before : ((h : History) → IsKnown w h → IsShownBehind next h) → DoesBefore w behind_step label
    step_before step = record {
      due_is = λ m s f. let is = known_by w m s f in subst (λ (m : Machine). IsDue m label) (sym s.same) (due_step s.history is (step s.history is));
      history = λ m s f. history_behind s.history;
      same = λ m s f. let is = known_by w m s f in ap (λ (m : Machine). after m label) s.same ∙ after_is s.history is (step s.history is);
      fits = λ m s f. let is = known_by w m s f in let behind_is = step s.history is in told_fits behind (later s.history) v hand _ step_done _ _ _ copy kept end (name_is w s.history v hand held is.facts) (asker_is w s.history v hand held is.facts) behind_is.fits still behind_is.copy_is (kept_room (machine_of w s.history) (state_in s.history v hand) verb k reply ∙ ap (λ (z : CallState). z.kept.room) (same s.history)) behind_is.made_is;
    }
