-- The completion of what is staged on all: the node has what lies under the slots, and a slot of the copying too; its row, and the invariant behind it.
use Rattle.std.proofs.Common.{◌≡◌, ◌≢◌, ◌⊎◌, ℕ, ◌<◌, ◌≤◌, length, inl, inr, ◌∷◌, Option, Some, None, is_some, Bool, true, false, cond, ◌&&◌, ◌==◌, refl, sym, ap, subst, ◌∙◌}
use Rattle.std.specs.Prelude.{IfSome, IsSomeAnd, slice_index}
use Rattle.std.proofs.lemmas.Bool.{eqb-true, eq-eqb}
use Rattle.std.proofs.lemmas.Option.{same_Some}
use Rattle.ckpt_types.specs.Asks.{asked, update_asked}
use Rattle.ckpt_types.specs.Attributes.{is_malformed}
use Rattle.ckpt_types.specs.Updates.{outcome}
use Rattle.ckpt_types.specs.declared.answers.Outcome.{Outcome}
use Rattle.ckpt_types.specs.declared.identities.CallId.{CallId}
use Rattle.ckpt_types.specs.declared.identities.Who.{Who}
use Rattle.ckpt_types.specs.declared.update.Update.TheVariants as updates
use Rattle.weak_marks.specs.Marks.{Marked}
use Rattle.cluster_record.specs.declared.calls.ActiveKind.{ActiveKind}
use Rattle.cluster_record.specs.declared.calls.ActiveKind.TheVariants as kinds
use Rattle.cluster_record.specs.declared.calls.MarksMade.{MarksMade}
use Rattle.cluster_record.specs.declared.copying.Copying.{Copying}
use Rattle.cluster_record.specs.declared.copying.CopyPhase.TheVariants.{PulledStaged}
use Rattle.cluster_record.specs.declared.copying.CopyPhase.TheVariants as phases
use Rattle.cluster_record.specs.declared.entries.Entry.{Entry}
use Rattle.cluster_record.specs.Calls.{left}
use Rattle.cluster_record.specs.DueCopy.{CopyState, behind_completion, behind_completion_in, complete_taken, copy_next, copy_on, done_by, lacks_replica, onward}
use Rattle.cluster_record.specs.DueUpdate.{UpdateState, update_joined}
use Rattle.cluster_record.specs.Joining.{can_complete, completed}
use Rattle.cluster_record.specs.Placement.{is_all, is_collocated}
use Rattle.cluster_record.specs.Places.{put}
use Rattle.cluster_record.specs.RecordState.{RecordState, entry_of, is_up, swept}
use Rattle.cluster_record.specs.StepDone.{StepDone, done_of, has}
use Rattle.node_msgs.specs.declared.next.RecordStep.{RecordStep}
use Rattle.node_msgs.specs.declared.next.RecordStep.TheVariants as events
use Rattle.node_msgs.specs.declared.steps.Verb.TheVariants as verbs
use Rattle.node_msgs.specs.declared.steps.StepReply.TheVariants as words
use Rattle.ckpt_machine.specs.After.{kept_behind, left_in_hand, record_step, replica_copied, slot_copied, staged_moment, with_replica_copied}
use Rattle.ckpt_machine.specs.CopyGuards.{CompleteOk, IsCurrent, IsPulledUnder, completion_end}
use Rattle.ckpt_machine.specs.Dead.{is_enter}
use Rattle.ckpt_machine.specs.Drivers.{update_in}
use Rattle.ckpt_machine.specs.Drivers as drivers
use Rattle.ckpt_machine.specs.Driving.{driver_taken}
use Rattle.ckpt_machine.specs.Due.{IsDriven, IsEvent, Told, driver_of}
use Rattle.ckpt_machine.specs.Facts.{HasAsMany}
use Rattle.ckpt_machine.specs.InHand.{IsActiveIn, IsCopiedSoFar, IsCopyIn, IsCopyingAt, IsDoneIn, IsInHand, IsInPlace, IsToCommit, IsUpdateIn, MarksFit, PhaseKeeps, is_held_by, is_marked_by}
use Rattle.ckpt_machine.specs.Invariant.{Invariant, InvariantIn, IsGoodIn}
use Rattle.ckpt_machine.specs.Machine.{Machine, ReplicaState, Snapshot, CallState, who}
use Rattle.ckpt_machine.specs.Shape.{IsCompleteOn, IsMarker, IsOwner, IsShaped, IsShapedBy, IsSpread, IsStaging, PhaseFits, Shape, is_owner}
use Rattle.ckpt_machine.specs.Whose.{same_who}
use Rattle.ckpt_machine.proofs.ActiveNode.{is_change, none_all}
use Rattle.ckpt_machine.proofs.Actors.{same_call-false, same_call-refl}
use Rattle.ckpt_machine.proofs.CallsKept.{apart_from, same_call-Some}
use Rattle.ckpt_machine.proofs.CompletedEntry.{active_then, as_many_nodes, attributes_then, grows, hold_then, joined, node_then, nodes_then, other_then, rises, same_active, up_then, was_complete}
use Rattle.ckpt_machine.proofs.CompletedRecord.{can, completed_is, completed_machine, entry_here, found_then, made_still, within}
use Rattle.ckpt_machine.proofs.CompletedRecord as record_then
use Rattle.ckpt_machine.proofs.CompletingFrame.{completing_keeps, then_machine, then_shapes}
use Rattle.ckpt_machine.proofs.CopiesStay.{found_identity}
use Rattle.ckpt_machine.proofs.CopyHand.{its, its_at, other_node, up_own}
use Rattle.ckpt_machine.proofs.CopyReserve.{staging_goes_on}
use Rattle.ckpt_machine.proofs.CopyNearer.{completed_besides, staged_complete_nearer}
use Rattle.ckpt_machine.proofs.DueStep.{Goes}
use Rattle.ckpt_machine.proofs.Lacking.{IsLacked, lacked_parts}
use Rattle.ckpt_machine.proofs.Lives.{LivesOn, held_not_dead}
use Rattle.ckpt_machine.proofs.NodeLists.{first_complete-some, first_complete-there, has-itself, index-other, index-set, length-slice_set}
use Rattle.ckpt_machine.proofs.OnComplete.{IfSome-more, on_complete}
use Rattle.ckpt_machine.proofs.OptionLemmas.{IfSome-from, IsSomeAnd-at, IsSomeAnd-from}
use Rattle.ckpt_machine.proofs.OtherCalls.{IsNewNode, LooksLater, home_stays}
use Rattle.ckpt_machine.proofs.Owning.{had_owned, own_phase}
use Rattle.ckpt_machine.proofs.StagedMoment.{moment_later}
use Rattle.ckpt_machine.proofs.StepLabels.{IsEvent-told}
use Rattle.ckpt_machine.proofs.UpdateIn.{does_staging}
use Rattle.ckpt_machine.proofs.Whose.{put_who-here}

-- no marks stand where updates are on all replicas
weak_alone : (kind : ActiveKind) (marks : MarksMade) → MarksFit kind (Some marks) → is_change kind ≡ true
weak_alone (kinds.Weak n) marks fit = refl
weak_alone kind marks fit = absurd fit

pub never_marked : (m : Machine) (shapes : ℕ → Shape) → InvariantIn shapes m → (k : ℕ) (e : Entry) → entry_of k m.cluster.entries ≡ Some e → is_all e.attributes ≡ true → (marks : Marked) → IsMarker m k marks → ⊥
never_marked m shapes inv k e found all marks by =
    let here : IsActiveIn m shapes by.state by.driver = subst (IsInPlace m shapes by.state) by.driver_is (inv.hands (who by.state) by.state by.in_hand).here in
    let fit : MarksFit by.driver.kind (Some by.made) = subst (MarksFit by.driver.kind) by.made_is here.fit in
    let alone : by.state.kept.all ≡ false = none_all by.state.kept.all by.state.kept.weak (asked by.state.op) by.driver.kind (weak_alone by.driver.kind by.made fit) here.kind in
    let same : by.state.kept.all ≡ is_all e.attributes = subst (λ o. IfSome o (λ (x : Entry). by.state.kept.all ≡ is_all x.attributes)) (ap (λ j. entry_of j m.cluster.entries) by.ckpt ∙ found) here.all in
    let w : false ≡ true = sym alone ∙ same ∙ all in
    cc w

-- a replica is as the shape says, where this changes owners alone
reshaped : (sh : Shape) (owners : ℕ → Option CallId) (o : Option CallId) (x : ReplicaState) → IsShaped sh o x → IsShaped (record sh { owners = owners }) o x
reshaped sh owners None x it = record { slot = it.slot; sections = it.sections; effects = it.effects; unmarked = it.unmarked }
reshaped sh owners (Some d) x it = record { slot = it.slot; sections = it.sections; effects = it.effects; unmarked = it.unmarked }

module _ (m : Machine) (shapes : ℕ → Shape) (inv : InvariantIn shapes m) (s : CallState) (c : CopyState) (held : m.in_hand (who s) ≡ Some s) (is : driver_of s ≡ drivers.Copy c) (at : Copying) (some : c.copying ≡ Some at) (e : Entry) (found : entry_of at.ckpt m.cluster.entries ≡ Some e) (phase : at.phase ≡ PulledStaged) where
  abbrev k : ℕ
  k = at.ckpt

  abbrev r : ℕ
  r = c.node

  -- its update
  abbrev u : UpdateState
  u = c.staging

  own : IsCopyIn m shapes s c
  own = its m shapes inv s c held is

  there : IsCopyingAt m shapes s c at
  there = its_at m shapes inv s c held is at some

  so_far : IsCopiedSoFar m (shapes k) s c e PulledStaged
  so_far = subst (IsCopiedSoFar m (shapes k) s c e) phase (there.so_far e found)

  all : is_all e.attributes ≡ true
  all = so_far.1.all

  lacks : lacks_replica r e ≡ true
  lacks = so_far.0.lacks

  lacked : IsLacked r e
  lacked = lacked_parts r e lacks

  up : is_up r m.cluster ≡ true
  up = up_own m shapes inv s c held is

  was : IsSpread m k (shapes k) e
  was = subst (IsGoodIn m k (shapes k) e) lacked.made (inv.entries k e found)

  -- what it has pulled
  pulled : (p : Snapshot) × (s.snapshot ≡ Some p) × ((p.sections ≡ (shapes k).sections) × (p.effects ≡ (shapes k).effects))
  pulled = IsSomeAnd-at s.snapshot (λ p. (p.sections ≡ (shapes k).sections) × (p.effects ≡ (shapes k).effects)) so_far.1.pulled

  -- ---- its update, and its slots

  staging : IsUpdateIn m shapes s u
  staging = there.update e found all

  does : update_in (driver_of s) ≡ Some u
  does = ap update_in is ∙ does_staging c at some

  found_staged : entry_of u.ckpt m.cluster.entries ≡ Some e
  found_staged = ap (λ j. entry_of j m.cluster.entries) there.ckpt ∙ found

  -- of each complete node, of which there is one
  owns : (q : ℕ) → IsCompleteOn e q → (shapes k).owners q ≡ Some s.call
  owns = so_far.1.owns

  one : (p : ℕ) × IsCompleteOn e p
  one = first_complete-some 0 e.complete was.some

  owner : IsOwner m k (shapes k) s.call
  owner = elim (was.owned one.0 s.call (owns one.0 one.1)) [
    | inl by ↦ by
    | inr left ↦ absurd (held_not_dead m shapes inv s held left.0)
  ]

  fits : IsStaging (shapes k) s u
  fits = subst (PhaseFits m (shapes k) s u) so_far.1.phase (subst (λ j. PhaseFits m (shapes j) s u u.phase) there.ckpt (own_phase m shapes inv s u held does staging e found_staged (subst (λ j. IsOwner m j (shapes j) s.call) (sym there.ckpt) owner)))

  -- they are of the moment that stands
  moment_is : staged_moment m k ≡ (shapes k).moment
  moment_is =
      ap (staged_moment m) (sym there.ckpt)
      ∙ moment_later m shapes inv s u held does staging e found_staged so_far.1.phase one.0 (had_owned m shapes inv s u held does staging e found_staged one.0 (ap (λ j. (shapes j).owners one.0) there.ckpt ∙ owns one.0 one.1))
      ∙ sym fits.moment

  -- which is the one that its update keeps
  pub kept_moment : staged_moment m k ≡ u.moment
  kept_moment = moment_is ∙ fits.moment

  -- a complete replica has as many effects as what it has pulled
  pub as_many_effects : (q : ℕ) × IsSomeAnd (m.replicas k q) (HasAsMany s.snapshot)
  as_many_effects =
      let (x, here, shaped) = IsSomeAnd-at (m.replicas k one.0) (IsShapedBy (is_all e.attributes) (shapes k) e.active one.0) (was.replicas one.0 one.1) in
      let it : IsShaped (shapes k) (Some s.call) x = subst (λ o. IsShaped (shapes k) o x) (owns one.0 one.1) (subst (λ b. IsShapedBy b (shapes k) e.active one.0 x) all shaped) in
      (one.0, IsSomeAnd-from (m.replicas k one.0) (HasAsMany s.snapshot) x here (IsSomeAnd-from s.snapshot (λ p. length x.effects ≡ length p.effects) pulled.0 pulled.1 (ap length (it.effects ∙ sym pulled.2.1))))

  -- its update changes nothing
  update_is : (shapes k).update ≡ updates.Nothing
  update_is = fits.update ∙ ap update_asked own.asks

  -- nobody owns a slot at its node
  none_here : (o : Option CallId) → (shapes k).owners r ≡ o → (shapes k).owners r ≡ None
  none_here None free = free
  none_here (Some d) owned = absurd (let w : true ≡ false = sym lacked.none ∙ was.complete r d owned in cc w)

  -- ---- the entry behind it

  abbrev n : ℕ
  n = record_then.n m shapes inv k r e found lacks up was

  abbrev f : Entry
  f = record_then.f m shapes inv k r e found lacks up was

  abbrev R : RecordState
  R = record_then.R m shapes inv k r e found lacks up was

  its_can : can_complete r n e ≡ true
  its_can = can m shapes inv k r e found lacks up was

  its_within : r < length e.complete
  its_within = within m shapes inv k r e found lacks up was

  f_all : is_all f.attributes ≡ true
  f_all = ap is_all (attributes_then r n e its_can its_within) ∙ all

  f_is : (g : Entry) → entry_of k R.entries ≡ Some g → f ≡ g
  f_is g g_there = same_Some f g (sym (entry_here m shapes inv k r e found lacks up was) ∙ g_there)

  -- ---- the shape behind it

  -- the slot of the node that joins is its own too
  abbrev sh : Shape
  sh = record (shapes k) { owners = put (shapes k).owners r (Some s.call) }

  owner_here : sh.owners r ≡ Some s.call
  owner_here = ap (λ b. cond b (Some s.call) ((shapes k).owners r)) (eq-eqb r r refl)

  owner_other : (q : ℕ) → (q == r) ≡ false → sh.owners q ≡ (shapes k).owners q
  owner_other q other = ap (λ b. cond b (Some s.call) ((shapes k).owners q)) other

  -- each complete node has a slot of it
  owns_then : (q : ℕ) → IsCompleteOn f q → sh.owners q ≡ Some s.call
  owns_then q complete = elim (q == r) as (λ b. (q == r) ≡ b → sh.owners q ≡ Some s.call) [
    | true ↦ λ it. ap sh.owners (eqb-true q r it) ∙ owner_here
    | false ↦ λ other. owner_other q other ∙ owns q (was_complete r n e its_can its_within q other complete)
  ] refl

  -- and no other call has one
  own_then : (q : ℕ) (d : CallId) → sh.owners q ≡ Some d → d ≡ s.call
  own_then q d owned = elim (q == r) as (λ b. (q == r) ≡ b → d ≡ s.call) [
    | true ↦ λ it. same_Some d s.call (sym owned ∙ ap sh.owners (eqb-true q r it) ∙ owner_here)
    | false ↦ λ other. fits.alone q d (sym (owner_other q other) ∙ owned)
  ] refl

  complete_then : (q : ℕ) (d : CallId) → sh.owners q ≡ Some d → IsCompleteOn f q
  complete_then q d owned = elim (q == r) as (λ b. (q == r) ≡ b → IsCompleteOn f q) [
    | true ↦ λ it. subst (IsCompleteOn f) (sym (eqb-true q r it)) (joined r n e its_can its_within)
    | false ↦ λ other. grows r n e its_can its_within q (was.complete q d (sym (owner_other q other) ∙ owned))
  ] refl

  -- to another call nothing has changed
  owners_alike : (z : CallState) → z.call ≢ s.call → (q : ℕ) → is_owner z.call (sh.owners q) ≡ is_owner z.call ((shapes k).owners q)
  owners_alike z apart q = elim (q == r) as (λ b. (q == r) ≡ b → is_owner z.call (cond b (Some s.call) ((shapes k).owners q)) ≡ is_owner z.call ((shapes k).owners q)) [
    | true ↦ λ it. same_call-false s.call z.call (λ same. apart (sym same)) ∙ sym (ap (is_owner z.call) (ap (shapes k).owners (eqb-true q r it) ∙ none_here ((shapes k).owners r) refl))
    | false ↦ λ other. refl
  ] refl

  done_alike : (z : CallState) → z.call ≢ s.call → IsDoneIn (shapes k) z → IsDoneIn sh z
  done_alike z apart has_done = record { free = has_done.free; under = λ q d owned other. has_done.under one.0 s.call (owns one.0 one.1) (λ same. apart (sym same)) }

  looks : (w : Who) (z : CallState) → same_who w (who s) ≡ false → m.in_hand w ≡ Some z → LooksLater m.cluster.up z (shapes k) e f
  looks w z other z_there = record {
    complete = λ all q complete. by_node q (q == r) refl;
    grows = grows r n e its_can its_within;
    lacks = λ apart q actor free. ap (λ i. i == 0) (other_then r n e its_can its_within q (other_node m shapes inv s c held is w z other z_there q actor)) ∙ free;
    attributes = attributes_then r n e its_can its_within;
    rises = rises r n e its_can its_within;
    generation = λ marked. by_marks (shapes k).marks refl marked;
    active = same_active r n e its_can its_within;
    hold = ap (is_held_by z.call) (hold_then r n e its_can its_within);
  }
    where
      not_its : is_owner z.call (Some s.call) ≡ false
      not_its = same_call-false s.call z.call (λ same. apart_from m.in_hand m.pending m.next inv.calls s held w z z_there other (sym same))

      by_node : (q : ℕ) (b : Bool) → (q == r) ≡ b → (slice_index f.complete q ≡ slice_index e.complete q) ⊎ IsNewNode m.cluster.up z (shapes k) e f q
      by_node q false elsewhere = inl (other_then r n e its_can its_within q elsewhere)
      by_node q true it = inr (subst (IsNewNode m.cluster.up z (shapes k) e f) (sym (eqb-true q r it)) (record {
        lacked = lacked.none;
        present = node_then r n e its_can its_within;
        unowned = ap (is_owner z.call) (none_here ((shapes k).owners r) refl);
        node = one.0;
        complete = one.1;
        free = ap (is_owner z.call) (owns one.0 one.1) ∙ not_its;
      }))

      by_marks : (o : Option Marked) → (shapes k).marks ≡ o → is_marked_by z.call o ≡ true → f.generation ≡ e.generation
      by_marks None none marked = absurd (cc marked)
      by_marks (Some marks) stand marked = absurd (never_marked m shapes inv k e found all marks (was.marked marks stand))

  -- ---- the replica that is there then

  abbrev y : ReplicaState
  y = record { sections = pulled.0.sections; effects = pulled.0.effects; generation = f.generation; slot = slot_copied s.call (staged_moment m k) (is_all f.attributes); marks = None }

  y_shaped : IsShaped sh (Some s.call) y
  y_shaped = record {
    slot = ap (slot_copied s.call (staged_moment m k)) f_all ∙ (λ i. Some (record { owner = s.call; origin = sym fits.origin i; update = sym update_is i; moment = moment_is i }));
    sections = pulled.2.0;
    effects = pulled.2.1;
    unmarked = refl;
  }

  -- ---- the call behind it

  abbrev complete_done : StepDone
  complete_done = done_of R verbs.Complete (Some k) (Some r) words.Ok

  abbrev state_then : CallState
  state_then = record s { steps = complete_done ∷ s.steps }

  abbrev update_then : UpdateState
  update_then = update_joined r n u

  abbrev copy_then : CopyState
  copy_then = record c { copying = Some (record { ckpt = k; phase = phases.Committing }); staging = update_then }

  -- its update has its node too, and is to be committed
  taken : complete_taken n c words.Ok ≡ copy_then
  taken = ap (behind_completion n c) some ∙ ap (behind_completion_in n c k) phase

  driver_then : driver_of state_then ≡ drivers.Copy copy_then
  driver_then = ap (driver_taken complete_done) is ∙ ap drivers.Copy taken

  driven : IsDriven s
  driven = (inv.hands (who s) s held).driven

  abbrev machine_then : Machine
  machine_then = then_machine m shapes inv s c held is at some e found lacks was y sh (Some state_then) (same_call-Some s state_then refl refl) (λ z z_there. subst IsDriven (same_Some state_then z z_there) driven)

  abbrev shapes_then : ℕ → Shape
  shapes_then = then_shapes m shapes inv s c held is at some e found lacks was y sh (Some state_then) (same_call-Some s state_then refl refl) (λ z z_there. subst IsDriven (same_Some state_then z z_there) driven)

  shape_here : shapes_then k ≡ sh
  shape_here = ap (λ b. cond b sh (shapes k)) (eq-eqb k k refl)

  -- it owns its slots
  owner_then : IsOwner machine_then k sh s.call
  owner_then = record {
    state = state_then;
    in_hand = put_who-here m.in_hand (who s) (Some state_then);
    call_is = refl;
    driver = update_then;
    driver_is = ap update_in driver_then;
    ckpt = there.ckpt;
    phase = subst (PhaseFits machine_then sh state_then update_then) (sym so_far.1.phase) (record { origin = fits.origin; update = fits.update; moment = fits.moment; undone = fits.undone; alone = own_then });
  }

  -- ---- the checkpoint behind it

  replica_then : (q : ℕ) → IsCompleteOn f q → (b : Bool) → (q == r) ≡ b → IsSomeAnd (machine_then.replicas k q) (IsShaped sh (sh.owners q))
  replica_then q complete true it =
      subst (λ q. IsSomeAnd (machine_then.replicas k q) (IsShaped sh (sh.owners q))) (sym (eqb-true q r it))
      (IsSomeAnd-from (machine_then.replicas k r) (IsShaped sh (sh.owners r)) y (λ i. cond (eq-eqb k k refl i && eq-eqb r r refl i) (Some y) (m.replicas k r)) (subst (λ o. IsShaped sh o y) (sym owner_here) y_shaped))
  replica_then q complete false elsewhere =
      let (x, here, shaped) = IsSomeAnd-at (m.replicas k q) (IsShapedBy (is_all e.attributes) (shapes k) e.active q) (was.replicas q (was_complete r n e its_can its_within q elsewhere complete)) in
      IsSomeAnd-from (machine_then.replicas k q) (IsShaped sh (sh.owners q)) x (stays ∙ here)
      (subst (λ o. IsShaped sh o x) (sym (owner_other q elsewhere)) (reshaped (shapes k) sh.owners ((shapes k).owners q) x (subst (λ b. IsShapedBy b (shapes k) e.active q x) all shaped)))
    where
      stays : machine_then.replicas k q ≡ m.replicas k q
      stays = ap (λ b. cond ((k == k) && b) (Some y) (m.replicas k q)) elsewhere ∙ by_test (k == k)
        where
          by_test : (b : Bool) → cond (b && false) (Some y) (m.replicas k q) ≡ m.replicas k q
          by_test true = refl
          by_test false = refl

  no_marks : {P : Type 0} → (marks : Marked) → (shapes k).marks ≡ Some marks → P
  no_marks marks stand = absurd (never_marked m shapes inv k e found all marks (was.marked marks stand))

  spread_then : LivesOn m machine_then → IsSpread machine_then k sh f
  spread_then lives = record {
    well_formed = ap is_malformed (attributes_then r n e its_can its_within) ∙ was.well_formed;
    nodes = as_many_nodes r n e its_can its_within ∙ was.nodes;
    some = first_complete-there 0 f.complete r (joined r n e its_can its_within);
    up = up_then r n e its_can its_within m.cluster.up refl was.up;
    active = active_then r n e its_can its_within was.active;
    replicas = λ q complete. subst (λ b. IsSomeAnd (machine_then.replicas k q) (IsShapedBy b sh f.active q)) (sym f_all) (replica_then q complete (q == r) refl);
    fits = λ q d owned. ap (λ a. outcome a sh.update sh.moment sh.sections) (attributes_then r n e its_can its_within) ∙ was.fits one.0 s.call (owns one.0 one.1);
    all = λ q d owned. f_all;
    complete = complete_then;
    lowest = λ p q d below complete owned. ap is_some (owns_then p complete);
    first = λ p q d below complete owned by. owns_then p complete ∙ ap Some (sym (own_then q d owned));
    owned = λ q d owned. inl (subst (IsOwner machine_then k sh) (sym (own_then q d owned)) owner_then);
    led = λ marks stand. no_marks marks stand;
    marked = λ marks stand. no_marks marks stand;
    held = λ d holds. absurd (let w : true ≡ false = sym (was.held d (sym (hold_then r n e its_can its_within) ∙ holds)).collocated ∙ lacked.apart in cc w);
  }

  -- ---- where the call is behind it

  joined_staged : (q : ℕ) → slice_index update_then.owned q ≡ cond (q == r) n (slice_index u.owned q)
  joined_staged q = elim (q == r) as (λ b. (q == r) ≡ b → slice_index update_then.owned q ≡ cond b n (slice_index u.owned q)) [
    | true ↦ λ it. ap (slice_index update_then.owned) (eqb-true q r it) ∙ index-set u.owned r n (subst (λ (size : ℕ). r < size) (was.nodes ∙ sym staging.nodes) its_within)
    | false ↦ λ other. index-other u.owned r q n other
  ] refl

  n_some : (n == 0) ≡ false
  n_some = ap (λ i. i == 0) (sym (node_then r n e its_can its_within)) ∙ joined r n e its_can its_within

  -- it owns the slots for which it keeps a node
  owns_staged : (q : ℕ) → IsCompleteOn f q → has (slice_index f.complete q) (slice_index update_then.owned q) ≡ is_owner s.call ((shapes_then u.ckpt).owners q)
  owns_staged q complete =
      ap (has (slice_index f.complete q)) (joined_staged q)
      ∙ by_node (q == r) refl
      ∙ sym (ap (is_owner s.call) (ap (λ j. (shapes_then j).owners q) there.ckpt ∙ ap (λ (x : Shape). x.owners q) shape_here))
    where
      by_node : (b : Bool) → (q == r) ≡ b → has (slice_index f.complete q) (cond b n (slice_index u.owned q)) ≡ is_owner s.call (cond b (Some s.call) ((shapes k).owners q))
      by_node true it = ap (λ i. has i n) (ap (slice_index f.complete) (eqb-true q r it) ∙ node_then r n e its_can its_within) ∙ has-itself n n_some ∙ sym (same_call-refl s.call)
      by_node false other =
          ap (λ i. has i (slice_index u.owned q)) (other_then r n e its_can its_within q other)
          ∙ staging.owns e found_staged q (was_complete r n e its_can its_within q other complete)
          ∙ ap (λ j. is_owner s.call ((shapes j).owners q)) there.ckpt

  within_staged : (q : ℕ) → has (slice_index m.cluster.up q) (slice_index update_then.owned q) ≡ true → IsCompleteOn f q
  within_staged q kept = by_node (q == r) refl (ap (has (slice_index m.cluster.up q)) (sym (joined_staged q)) ∙ kept)
    where
      by_node : (b : Bool) → (q == r) ≡ b → has (slice_index m.cluster.up q) (cond b n (slice_index u.owned q)) ≡ true → IsCompleteOn f q
      by_node true it kept = subst (IsCompleteOn f) (sym (eqb-true q r it)) (joined r n e its_can its_within)
      by_node false other kept = grows r n e its_can its_within q (staging.within e q found_staged kept)

  no_later_staged : (q : ℕ) → slice_index update_then.owned q ≤ slice_index m.cluster.last_incarnations q
  no_later_staged q = subst (λ (i : ℕ). i ≤ slice_index m.cluster.last_incarnations q) (sym (joined_staged q)) (by_node (q == r) refl)
    where
      by_node : (b : Bool) → (q == r) ≡ b → cond b n (slice_index u.owned q) ≤ slice_index m.cluster.last_incarnations q
      by_node true it = subst (λ (i : ℕ). n ≤ slice_index m.cluster.last_incarnations i) (sym (eqb-true q r it)) (inv.incarnations.no_later r)
      by_node false other = staging.no_later q

  -- what is found of the checkpoint is the entry with its node
  f_staged : (g : Entry) → entry_of u.ckpt R.entries ≡ Some g → f ≡ g
  f_staged g g_there = f_is g (ap (λ j. entry_of j R.entries) (sym there.ckpt) ∙ g_there)

  staging_then : IsUpdateIn machine_then shapes_then state_then update_then
  staging_then = record {
    call = staging.call;
    asks = staging.asks;
    kept = staging.kept;
    made = made_still m shapes inv k r e found lacks up was u.ckpt staging.made;
    all = IfSome-from (entry_of u.ckpt R.entries) (λ g. is_all g.attributes ≡ true) (λ g g_there. subst (λ (x : Entry). is_all x.attributes ≡ true) (f_staged g g_there) f_all);
    nodes = length-slice_set u.owned r n ∙ staging.nodes;
    owns = λ g g_there q complete. subst (λ (x : Entry). has (slice_index x.complete q) (slice_index update_then.owned q) ≡ is_owner s.call ((shapes_then u.ckpt).owners q)) (f_staged g g_there) (owns_staged q (subst (λ (x : Entry). IsCompleteOn x q) (sym (f_staged g g_there)) complete));
    keeps = λ g g_there. subst (PhaseKeeps machine_then (shapes_then u.ckpt) state_then update_then) (sym so_far.1.phase) tt;
    within = λ g q g_there kept. subst (λ (x : Entry). IsCompleteOn x q) (f_staged g g_there) (within_staged q kept);
    no_later = no_later_staged;
  }

  so_far_then : IsCopiedSoFar machine_then sh state_then copy_then f phases.Committing
  so_far_then = (f_all, subst (IsToCommit sh s.call f) (sym so_far.1.phase) owns_then, joined r n e its_can its_within)

  here_then : IsInPlace machine_then shapes_then state_then (drivers.Copy copy_then)
  here_then = record {
    call = own.call;
    asks = own.asks;
    node = own.node;
    within = own.within;
    at = record {
      ckpt = there.ckpt;
      kept = there.kept;
      made = made_still m shapes inv k r e found lacks up was k there.made;
      apart = IfSome-from (entry_of k R.entries) (λ g. is_collocated g.attributes ≡ false) (λ g g_there. subst (λ (x : Entry). is_collocated x.attributes ≡ false) (f_is g g_there) (ap is_collocated (attributes_then r n e its_can its_within) ∙ lacked.apart));
      declares = IfSome-from (entry_of k R.entries) (λ g. s.kept.declares ≡ Some g.attributes) (λ g g_there. subst (λ (x : Entry). s.kept.declares ≡ Some x.attributes) (f_is g g_there) (declared ∙ ap Some (sym (attributes_then r n e its_can its_within))));
      update = λ g g_there all. staging_then;
      so_far = λ g g_there. subst (λ (x : Shape). IsCopiedSoFar machine_then x state_then copy_then g phases.Committing) (sym shape_here) (subst (λ (x : Entry). IsCopiedSoFar machine_then sh state_then copy_then x phases.Committing) (f_is g g_there) so_far_then);
    };
  }
    where
      declared : s.kept.declares ≡ Some e.attributes
      declared = subst (λ o. IfSome o (λ (x : Entry). s.kept.declares ≡ Some x.attributes)) found there.declares

  hand_then : IsInHand machine_then shapes_then (who s) state_then
  hand_then =
      let hand = inv.hands (who s) s held in
      record {
        whose = refl;
        asker = hand.asker;
        number = hand.number;
        built = hand.built;
        driven = hand.driven;
        live = λ other. hand.live (ap is_enter is);
        home = λ other. hand.home (ap is_enter is) ∙ sym (home_stays s.call.actor m.cluster R refl);
        here = subst (IsInPlace machine_then shapes_then state_then) (sym driver_then) here_then;
      }

  completed_holds : InvariantIn shapes_then machine_then
  completed_holds = completing_keeps m shapes inv s c held is at some e found lacks was y sh (Some state_then) (same_call-Some s state_then refl refl) (λ z z_there. subst IsDriven (same_Some state_then z z_there) driven)
      refl owners_alike (record { sections = refl; effects = refl }) done_alike looks
      (λ z z_there. subst (IsInHand machine_then shapes_then (who s)) (same_Some state_then z z_there) hand_then) spread_then refl

  -- ---- the step

  -- each complete replica has its slot, and the effects of what it has pulled
  current : IsCurrent m s k e pulled.0 true
  current = on_complete m k e found (IsPulledUnder s.call (Some (record { owner = s.call; origin = s.call; update = updates.Nothing; moment = staged_moment m k })) pulled.0) (λ q complete.
      IfSome-more (m.replicas k q) (IsShapedBy (is_all e.attributes) (shapes k) e.active q) (IsPulledUnder s.call (Some (record { owner = s.call; origin = s.call; update = updates.Nothing; moment = staged_moment m k })) pulled.0)
      (λ x shaped. under q complete x (subst (λ b. IsShapedBy b (shapes k) e.active q x) all shaped)) (was.replicas q complete))
    where
      under : (q : ℕ) → IsCompleteOn e q → (x : ReplicaState) → IsShaped (shapes k) ((shapes k).owners q) x → IsPulledUnder s.call (Some (record { owner = s.call; origin = s.call; update = updates.Nothing; moment = staged_moment m k })) pulled.0 x
      under q complete x shaped =
          let it : IsShaped (shapes k) (Some s.call) x = subst (λ o. IsShaped (shapes k) o x) (owns q complete) shaped in
          record { slot = it.slot ∙ (λ i. Some (record { owner = s.call; origin = fits.origin i; update = update_is i; moment = sym moment_is i })); effects = it.effects ∙ sym pulled.2.1 }

  -- it goes on to commit
  ends : done_by (copy_next (swept (completed k r m.cluster)) (complete_taken n c words.Ok)) ≡ None
  ends =
      ap (λ d. done_by (copy_next (swept (completed k r m.cluster)) d)) taken
      ∙ ap (λ o. done_by (copy_on (swept (completed k r m.cluster)) copy_then (record { ckpt = k; phase = phases.Committing }) o)) (found_then m shapes inv k r e found lacks up was)
      ∙ staging_goes_on (swept (completed k r m.cluster)) update_then (onward (swept (completed k r m.cluster)) copy_then) so_far.1.phase

  abbrev end_told : Option Outcome
  end_told = done_by (copy_next (swept (completed k r m.cluster)) (complete_taken n c words.Ok))

  complete_ok : CompleteOk m s k r end_told e
  complete_ok = record {
    lacks = lacks;
    reserved = ap (λ j. m.reserved j r) (sym (found_identity k m.cluster.entries e found)) ∙ so_far.0.reserved;
    pulled = IsSomeAnd-from s.snapshot (λ p. IsCurrent m s k e p (is_all e.attributes)) pulled.0 pulled.1 (subst (IsCurrent m s k e pulled.0) (sym all) current);
    answer = ends ∙ ap (completion_end (swept (completed k r m.cluster)) r) (sym all);
  }

  abbrev step : RecordStep
  step = events.Complete k r (Some u.moment)

  -- the invariant holds behind it
  step_holds : let N = with_replica_copied s k r (staged_moment m k) (record_step (completed k r) m) in Invariant (left_in_hand N (kept_behind m s N.cluster verbs.Complete (Some k) (Some r) words.Ok) None)
  step_holds = subst (λ (N : Machine). Invariant (left_in_hand N (kept_behind m s N.cluster verbs.Complete (Some k) (Some r) words.Ok) None)) (sym (completed_is m shapes inv k r e found lacks up was s (staged_moment m k)))
      (subst (λ o. let N = completed_machine m shapes inv k r e found lacks up was (replica_copied s.call (staged_moment m k) (Some f) o) in Invariant (left_in_hand N (kept_behind m s N.cluster verbs.Complete (Some k) (Some r) words.Ok) None)) (sym pulled.1) (record { shapes = shapes_then; holds = completed_holds }))

  -- THE COMPLETION: the node has what is staged on all, and its slot
  pub staged_complete_goes : (t : Told) → IsEvent m s step t → Goes m s (drivers.Copy c) t
  staged_complete_goes t event = elim (IsEvent-told m s step t (drivers.Copy c) event is refl tt) [
    | inl ok ↦ subst (Goes m s (drivers.Copy c)) (sym ok) (record {
      row = ((own.asks, (own.node, up, IsSomeAnd-from (entry_of k m.cluster.entries) (CompleteOk m s k r end_told) e found complete_ok)), refl);
      holds = subst (λ end. let N = with_replica_copied s k r (staged_moment m k) (record_step (completed k r) m) in Invariant (left_in_hand N (kept_behind m s N.cluster verbs.Complete (Some k) (Some r) words.Ok) end)) (sym ends) step_holds;
      nearer = λ goes_on. staged_complete_nearer m.cluster (swept (completed k r m.cluster)) c at some e f found (found_then m shapes inv k r e found lacks up was) (completed_besides k r m.cluster inv.swept) _ m.replicas n phase (nodes_then r n e its_can its_within) (staging.nodes ∙ sym was.nodes) its_within n_some (eqb-true (slice_index e.complete r) 0 lacked.none);
    })
    | inr memory ↦ absurd (cc memory.0)
  ]
