-- The completion of what the active had, where updates go to it alone: its row, and the invariant behind it.
use Rattle.std.proofs.Common.{◌≡◌, ℕ, ◌<◌, length, inl, inr, ◌∷◌, Option, Some, None, is_none, is_some, Bool, true, false, cond, ◌&&◌, ◌==◌, refl, sym, ap, subst, ◌∙◌}
use Rattle.std.specs.Prelude.{IsSomeAnd, slice_index}
use Rattle.std.proofs.lemmas.Bool.{eqb-true, eq-eqb}
use Rattle.ckpt_types.specs.declared.answers.Answer.TheVariants as answers
use Rattle.ckpt_types.specs.declared.answers.Outcome.{Outcome}
use Rattle.ckpt_types.specs.declared.answers.Outcome.TheVariants.{Done}
use Rattle.ckpt_types.specs.Attributes.{is_malformed}
use Rattle.ckpt_types.specs.declared.identities.CallId.{CallId}
use Rattle.ckpt_types.specs.declared.identities.Who.{Who}
use Rattle.weak_marks.specs.Marks.{Marked}
use Rattle.cluster_record.specs.declared.copying.Copying.{Copying}
use Rattle.cluster_record.specs.declared.copying.CopyPhase.TheVariants.{PulledActive}
use Rattle.cluster_record.specs.declared.entries.Entry.{Entry}
use Rattle.cluster_record.specs.Calls.{left}
use Rattle.cluster_record.specs.DueCopy.{CopyState, behind_completion, behind_completion_in, complete_taken, copy_next, done_by, lacks_replica, next_to_copy, reserve_next}
use Rattle.cluster_record.specs.Joining.{can_complete, completed}
use Rattle.cluster_record.specs.Placement.{is_all, is_collocated}
use Rattle.cluster_record.specs.RecordState.{RecordState, entry_of, is_up, swept}
use Rattle.cluster_record.specs.StepDone.{StepDone, done_of}
use Rattle.cluster_record.proofs.JoinLaws.{active_stays, generation_by_active}
use Rattle.node_msgs.specs.declared.next.RecordStep.{RecordStep}
use Rattle.node_msgs.specs.declared.next.RecordStep.TheVariants as events
use Rattle.node_msgs.specs.declared.steps.Verb.TheVariants as verbs
use Rattle.node_msgs.specs.declared.steps.StepReply.TheVariants as words
use Rattle.ckpt_machine.specs.After.{kept_behind, left_in_hand, record_step, replica_copied, slot_copied, staged_moment, with_replica_copied}
use Rattle.ckpt_machine.specs.CopyGuards.{CompleteOk, IsCurrent, completion_end, unless_lacking}
use Rattle.ckpt_machine.specs.Dead.{is_enter}
use Rattle.ckpt_machine.specs.Drivers as drivers
use Rattle.ckpt_machine.specs.Driving.{driver_taken}
use Rattle.ckpt_machine.specs.Due.{IsDriven, IsEvent, Told, driver_of}
use Rattle.ckpt_machine.specs.InHand.{IsCopiedSoFar, IsCopyIn, IsInHand, IsInPlace, is_held_by}
use Rattle.ckpt_machine.specs.Invariant.{Invariant, InvariantIn, IsGoodIn}
use Rattle.ckpt_machine.specs.Machine.{Machine, ReplicaState, Snapshot, CallState, who}
use Rattle.ckpt_machine.specs.Shape.{IsApart, IsCompleteOn, IsMarker, IsShapedBy, IsSpread, Shape, marks_at}
use Rattle.ckpt_machine.specs.Whose.{same_who}
use Rattle.ckpt_machine.proofs.ActiveBy.{active_by-complete}
use Rattle.ckpt_machine.proofs.CallsKept.{same_call-left}
use Rattle.ckpt_machine.proofs.CompletedEntry.{active_then, as_many_nodes, attributes_then, grows, hold_then, joined, other_then, rises, up_then, was_complete}
use Rattle.ckpt_machine.proofs.CompletedRecord.{can, completed_is, completed_machine, found_then, rises_then, within}
use Rattle.ckpt_machine.proofs.CompletedRecord as record_then
use Rattle.ckpt_machine.proofs.CompletingFrame.{completing_keeps, then_machine, then_shapes}
use Rattle.ckpt_machine.proofs.CopiesStay.{found_identity}
use Rattle.ckpt_machine.proofs.CopyHand.{its, its_at, other_node, up_own}
use Rattle.ckpt_machine.proofs.CopyNearer.{active_complete_nearer, completed_besides, not_lacked}
use Rattle.ckpt_machine.proofs.DueStep.{Goes}
use Rattle.ckpt_machine.proofs.Lacking.{IsLacked, lacked_parts}
use Rattle.ckpt_machine.proofs.Lives.{LivesOn}
use Rattle.ckpt_machine.proofs.MarksAt.{marks_at-apart}
use Rattle.ckpt_machine.proofs.NodeLists.{first_complete-there}
use Rattle.ckpt_machine.proofs.OptionLemmas.{IsSomeAnd-at, IsSomeAnd-from}
use Rattle.ckpt_machine.proofs.OtherCalls.{IsMarker-alike, LiesUnder-refl, LooksLater, home_stays}
use Rattle.ckpt_machine.proofs.StepLabels.{IsEvent-told}
use Rattle.ckpt_machine.proofs.Sync.{left_is}
use Rattle.ckpt_machine.proofs.Whose.{apart_states, put_who-other}

module _ (m : Machine) (shapes : ℕ → Shape) (inv : InvariantIn shapes m) (s : CallState) (c : CopyState) (held : m.in_hand (who s) ≡ Some s) (is : driver_of s ≡ drivers.Copy c) (at : Copying) (some : c.copying ≡ Some at) (e : Entry) (found : entry_of at.ckpt m.cluster.entries ≡ Some e)
    (generation : ℕ) (phase : at.phase ≡ PulledActive generation) (present : generation ≡ e.generation) where
  abbrev k : ℕ
  k = at.ckpt

  abbrev r : ℕ
  r = c.node

  own : IsCopyIn m shapes s c
  own = its m shapes inv s c held is

  so_far : IsCopiedSoFar m (shapes k) s c e (PulledActive generation)
  so_far = subst (IsCopiedSoFar m (shapes k) s c e) phase ((its_at m shapes inv s c held is at some).so_far e found)

  alone : is_all e.attributes ≡ false
  alone = so_far.1.alone

  lacks : lacks_replica r e ≡ true
  lacks = so_far.0.lacks

  lacked : IsLacked r e
  lacked = lacked_parts r e lacks

  up : is_up r m.cluster ≡ true
  up = up_own m shapes inv s c held is

  was : IsSpread m k (shapes k) e
  was = subst (IsGoodIn m k (shapes k) e) lacked.made (inv.entries k e found)

  -- what it has pulled
  pulled : (p : Snapshot) × (s.snapshot ≡ Some p) × (p.generation ≡ generation)
  pulled = IsSomeAnd-at s.snapshot (λ p. p.generation ≡ generation) so_far.1.pulled

  -- ---- the entry behind it

  abbrev n : ℕ
  n = record_then.n m shapes inv k r e found lacks up was

  abbrev f : Entry
  f = record_then.f m shapes inv k r e found lacks up was

  abbrev R : RecordState
  R = record_then.R m shapes inv k r e found lacks up was

  its_can : can_complete r n e ≡ true
  its_can = can m shapes inv k r e found lacks up was

  its_within : r < length e.complete
  its_within = within m shapes inv k r e found lacks up was

  same_lead : f.active ≡ e.active
  same_lead = active_stays r n e alone

  same_generation : f.generation ≡ e.generation
  same_generation = (generation_by_active r n e).0 same_lead

  f_alone : is_all f.attributes ≡ false
  f_alone = ap is_all (attributes_then r n e its_can its_within) ∙ alone

  -- the active is another node
  active_apart : f.active ≡ Some r → ⊥
  active_apart leads = let w : true ≡ false = sym lacked.none ∙ active_by-complete (is_collocated e.attributes) (is_all e.attributes) e.complete e.active was.active r (sym same_lead ∙ leads) in cc w

  -- the replica that is there then
  abbrev y : ReplicaState
  y = record { sections = pulled.0.sections; effects = pulled.0.effects; generation = f.generation; slot = slot_copied s.call (staged_moment m k) (is_all f.attributes); marks = None }

  y_apart : IsApart (marks_at f.active (shapes k).marks r) y
  y_apart = record { free = ap (slot_copied s.call (staged_moment m k)) f_alone; marks_are = sym (marks_at-apart f.active (shapes k).marks r active_apart) }

  -- ---- the call behind it

  abbrev complete_done : StepDone
  complete_done = done_of R verbs.Complete (Some k) (Some r) words.Ok

  abbrev state_then : CallState
  state_then = record s { steps = complete_done ∷ s.steps }

  abbrev copy_then : CopyState
  copy_then = record c { copying = None }

  -- it is at no checkpoint
  taken : (i : ℕ) → complete_taken i c words.Ok ≡ copy_then
  taken i = ap (behind_completion i c) some ∙ ap (behind_completion_in i c k) phase

  driver_then : driver_of state_then ≡ drivers.Copy copy_then
  driver_then = ap (driver_taken complete_done) is ∙ ap drivers.Copy (taken (slice_index R.up r))

  driven : IsDriven s
  driven = (inv.hands (who s) s held).driven

  -- how another call sees the checkpoint
  looks : (w : Who) (z : CallState) → same_who w (who s) ≡ false → m.in_hand w ≡ Some z → LooksLater m.cluster.up z (shapes k) e f
  looks w z other there = record {
    complete = λ all. absurd (let v : false ≡ true = sym alone ∙ all in cc v);
    grows = grows r n e its_can its_within;
    lacks = λ apart q actor free. ap (λ i. i == 0) (other_then r n e its_can its_within q (other_node m shapes inv s c held is w z other there q actor)) ∙ free;
    attributes = attributes_then r n e its_can its_within;
    rises = rises r n e its_can its_within;
    generation = λ marked. same_generation;
    active = λ same. same_lead;
    hold = ap (is_held_by z.call) (hold_then r n e its_can its_within);
  }

  module _ (end : Option Outcome) where
    -- the state behind it
    abbrev machine_then : Machine
    machine_then = then_machine m shapes inv s c held is at some e found lacks was y (shapes k) (left end state_then) (same_call-left s state_then end refl refl) (λ z there. subst IsDriven (left_is end state_then z there) driven)

    abbrev shapes_then : ℕ → Shape
    shapes_then = then_shapes m shapes inv s c held is at some e found lacks was y (shapes k) (left end state_then) (same_call-left s state_then end refl refl) (λ z there. subst IsDriven (left_is end state_then z there) driven)

    -- what is on each node
    replica_then : (q : ℕ) → IsCompleteOn f q → (b : Bool) → (q == r) ≡ b → IsSomeAnd (machine_then.replicas k q) (IsShapedBy (is_all f.attributes) (shapes k) f.active q)
    replica_then q complete true it =
        subst (λ q. IsSomeAnd (machine_then.replicas k q) (IsShapedBy (is_all f.attributes) (shapes k) f.active q)) (sym (eqb-true q r it))
        (IsSomeAnd-from (machine_then.replicas k r) (IsShapedBy (is_all f.attributes) (shapes k) f.active r) y (λ i. cond (eq-eqb k k refl i && eq-eqb r r refl i) (Some y) (m.replicas k r)) (subst (λ b. IsShapedBy b (shapes k) f.active r y) (sym f_alone) y_apart))
    replica_then q complete false elsewhere =
        subst (λ (z : Option ReplicaState × Bool × Option ℕ). IsSomeAnd z.0 (IsShapedBy z.1 (shapes k) z.2 q)) (λ i. (stays i, is_all (sym (attributes_then r n e its_can its_within) i), sym same_lead i))
        (was.replicas q (was_complete r n e its_can its_within q elsewhere complete))
      where
        stays : m.replicas k q ≡ machine_then.replicas k q
        stays = sym (ap (λ b. cond ((k == k) && b) (Some y) (m.replicas k q)) elsewhere ∙ by_test (k == k))
          where
            by_test : (b : Bool) → cond (b && false) (Some y) (m.replicas k q) ≡ m.replicas k q
            by_test true = refl
            by_test false = refl

    -- no call owns a slot there
    none_owned : {P : Type 0} → (q : ℕ) (d : CallId) → (shapes k).owners q ≡ Some d → P
    none_owned q d owns = absurd (let w : false ≡ true = sym alone ∙ was.all q d owns in cc w)

    marked_then : (marks : Marked) → IsMarker m k marks → IsMarker machine_then k marks
    marked_then marks by = IsMarker-alike m machine_then k marks by (put_who-other m.in_hand (who s) (left end state_then) (who by.state) (apart_states m.in_hand by.state s by.in_hand held (λ state. let w : drivers.Active by.driver ≡ drivers.Copy c = sym by.driver_is ∙ ap driver_of state ∙ is in cc w)))

    -- the checkpoint has a node more
    spread_then : LivesOn m machine_then → IsSpread machine_then k (shapes k) f
    spread_then lives = record {
      well_formed = ap is_malformed (attributes_then r n e its_can its_within) ∙ was.well_formed;
      nodes = as_many_nodes r n e its_can its_within ∙ was.nodes;
      some = first_complete-there 0 f.complete r (joined r n e its_can its_within);
      up = up_then r n e its_can its_within m.cluster.up refl was.up;
      active = active_then r n e its_can its_within was.active;
      replicas = λ q complete. replica_then q complete (q == r) refl;
      fits = λ q d owns. none_owned q d owns;
      all = λ q d owns. none_owned q d owns;
      complete = λ q d owns. none_owned q d owns;
      lowest = λ p q d below complete owns. none_owned q d owns;
      first = λ p q d below complete owns by. none_owned q d owns;
      owned = λ q d owns. none_owned q d owns;
      led = λ marks stand. ap is_some same_lead ∙ was.led marks stand;
      marked = λ marks stand. marked_then marks (was.marked marks stand);
      held = λ d holds. absurd (let w : true ≡ false = sym (was.held d (sym (hold_then r n e its_can its_within) ∙ holds)).collocated ∙ lacked.apart in cc w);
    }

    hand_then : IsInHand machine_then shapes_then (who s) state_then
    hand_then =
        let hand = inv.hands (who s) s held in
        record {
          whose = refl;
          asker = hand.asker;
          number = hand.number;
          built = hand.built;
          driven = hand.driven;
          live = λ other. hand.live (ap is_enter is);
          home = λ other. hand.home (ap is_enter is) ∙ sym (home_stays s.call.actor m.cluster R refl);
          here = subst (IsInPlace machine_then shapes_then state_then) (sym driver_then) (record { call = own.call; asks = own.asks; node = own.node; within = own.within; at = tt });
        }

    completed_holds : InvariantIn shapes_then machine_then
    completed_holds = completing_keeps m shapes inv s c held is at some e found lacks was y (shapes k) (left end state_then) (same_call-left s state_then end refl refl) (λ z there. subst IsDriven (left_is end state_then z there) driven)
        refl (λ z apart q. refl) (LiesUnder-refl (shapes k)) (λ z apart was_done. was_done) looks
        (λ z there. subst (IsInHand machine_then shapes_then (who s)) (left_is end state_then z there) hand_then) spread_then refl

  -- ---- the step

  -- how it ends the call
  ends : (Q : RecordState) (i : ℕ) → done_by (copy_next Q (complete_taken i c words.Ok)) ≡ unless_lacking Q r
  ends Q i = ap (λ d. done_by (copy_next Q d)) (taken i) ∙ by_next (next_to_copy r Q.entries)
    where
      by_next : (o : Option ℕ) → done_by (reserve_next r o) ≡ cond (is_none o) (Some (Done answers.Nothing)) None
      by_next None = refl
      by_next (Some j) = refl

  complete_ok : (end : Option Outcome) → end ≡ unless_lacking (swept (completed k r m.cluster)) r → CompleteOk m s k r end e
  complete_ok end is_end = record {
    lacks = lacks;
    reserved = ap (λ j. m.reserved j r) (sym (found_identity k m.cluster.entries e found)) ∙ so_far.0.reserved;
    pulled = IsSomeAnd-from s.snapshot (λ p. IsCurrent m s k e p (is_all e.attributes)) pulled.0 pulled.1 (subst (IsCurrent m s k e pulled.0) (sym alone) (pulled.2 ∙ present));
    answer = is_end ∙ ap (completion_end (swept (completed k r m.cluster)) r) (sym alone);
  }

  abbrev step : RecordStep
  step = events.Complete k r None

  -- how its label does
  abbrev end_told : Option Outcome
  end_told = done_by (copy_next (swept (completed k r m.cluster)) (complete_taken (slice_index m.cluster.up r) c words.Ok))

  -- the invariant holds behind it
  step_holds : (end : Option Outcome) → let N = with_replica_copied s k r (staged_moment m k) (record_step (completed k r) m) in Invariant (left_in_hand N (kept_behind m s N.cluster verbs.Complete (Some k) (Some r) words.Ok) end)
  step_holds end = subst (λ (N : Machine). Invariant (left_in_hand N (kept_behind m s N.cluster verbs.Complete (Some k) (Some r) words.Ok) end)) (sym (completed_is m shapes inv k r e found lacks up was s (staged_moment m k)))
      (subst (λ o. let N = completed_machine m shapes inv k r e found lacks up was (replica_copied s.call (staged_moment m k) (Some f) o) in Invariant (left_in_hand N (kept_behind m s N.cluster verbs.Complete (Some k) (Some r) words.Ok) end)) (sym pulled.1) (record { shapes = shapes_then end; holds = completed_holds end }))

  -- THE COMPLETION: the node has what the active had
  pub complete_goes : (t : Told) → IsEvent m s step t → Goes m s (drivers.Copy c) t
  complete_goes t event = elim (IsEvent-told m s step t (drivers.Copy c) event is refl tt) [
    | inl ok ↦ subst (Goes m s (drivers.Copy c)) (sym ok) (record {
      row = ((own.asks, (own.node, up, IsSomeAnd-from (entry_of k m.cluster.entries) (CompleteOk m s k r end_told) e found (complete_ok end_told (ends (swept (completed k r m.cluster)) (slice_index m.cluster.up r))))), refl);
      holds = step_holds end_told;
      nearer = λ goes_on. active_complete_nearer m.cluster (swept (completed k r m.cluster)) c at some e f found (found_then m shapes inv k r e found lacks up was) (completed_besides k r m.cluster inv.swept) _ m.replicas n generation phase (rises_then m shapes inv k r e found lacks up was) (not_lacked r f (joined r n e its_can its_within)) goes_on;
    })
    | inr memory ↦ absurd (cc memory.0)
  ]
