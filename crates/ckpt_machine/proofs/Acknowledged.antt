-- What was answered OK is on every complete replica of its checkpoint, or where updates go to the active alone, on the active's; and it stays there, as long as no failure takes the active.
use Rattle.std.proofs.Common.{◌≡◌, ◌⊎◌, ℕ, inl, inr, List, [], ◌∷◌, ◌++◌, Option, Some, None, Bool, true, false, cond, refl, sym, ap, subst, ◌∙◌, append_assoc}
use Rattle.std.specs.Prelude.{IsSome, IfSome, IsSomeAnd}
use Rattle.std.proofs.lemmas.Bool.{and_parts}
use Rattle.std.proofs.lemmas.List.{append-nil}
use Rattle.std.proofs.lemmas.Option.{same_Some}
use Rattle.cluster_record.specs.declared.calls.UpdatePhase.{UpdatePhase}
use Rattle.cluster_record.specs.declared.calls.UpdatePhase.TheVariants.{Staging, Committing, Claiming, Claimed, Withdrawing, Resolving}
use Rattle.cluster_record.specs.DueOnce.{OneStep}
use Rattle.cluster_record.specs.DueSync.{SyncState}
use Rattle.cluster_record.specs.declared.calls.SyncKind.{SyncKind}
use Rattle.cluster_record.specs.declared.calls.SyncKind.TheVariants.{Synchronize, ActiveSet}
use Rattle.ckpt_types.specs.Asks as asking
use Rattle.cluster_record.specs.DueOnce as once
use Rattle.ckpt_machine.specs.Drivers as drivers
use Rattle.ckpt_machine.specs.Drivers.{Driver}
use Rattle.ckpt_machine.specs.InHand.{IsInPlace, IsOnceAt, IsSyncBy}
use Rattle.ckpt_machine.specs.LookGuards.{IsUpdated, LookDone}
use Rattle.ckpt_machine.proofs.Lives.{held_not_dead}
use Rattle.ckpt_machine.specs.Dead.{IsDead}
use Rattle.ckpt_machine.proofs.Dropped.{held_as, ended_none}
use Rattle.ckpt_types.specs.declared.answers.Answer.{Answer}
use Rattle.ckpt_types.specs.declared.answers.Outcome.{Outcome}
use Rattle.ckpt_types.specs.declared.answers.Outcome.TheVariants.{Done}
use Rattle.ckpt_types.specs.declared.attributes.CreationAttributes.{CreationAttributes}
use Rattle.ckpt_types.specs.declared.identities.CallId.{CallId}
use Rattle.ckpt_types.specs.declared.operation.Op.{Op}
use Rattle.ckpt_types.specs.declared.update.Update.{Update}
use Rattle.weak_marks.specs.Marks.{Marked}
use Rattle.node_msgs.specs.declared.steps.Verb.{Verb}
use Rattle.node_msgs.specs.declared.steps.Verb.TheVariants as verbs
use Rattle.node_msgs.specs.declared.steps.StepReply.{StepReply}
use Rattle.node_msgs.specs.declared.steps.StepReply.TheVariants as words
use Rattle.node_msgs.specs.declared.details.Details.{Details}
use Rattle.run_labels.specs.declared.labels.Label.{Label}
use Rattle.run_labels.specs.declared.labels.Label.TheVariants as labels
use Rattle.ckpt_types.specs.declared.words.OpWord.{OpWord}
use Rattle.ckpt_types.specs.OpWord.{word_of_op}
use Rattle.cluster_record.specs.declared.entries.Entry.{Entry}
use Rattle.cluster_record.specs.Places.{put2}
use Rattle.cluster_record.specs.RecordState.{entry_of, is_live}
use Rattle.ckpt_machine.specs.Acknowledged.{IsUpdateWord, Acknowledges, ckpt_named, HasBegun, HasUpdate, IsToHave, IsOnItsReplicas, LeavesActive, KeepsActive, AcknowledgedStay}
use Rattle.ckpt_machine.specs.AllOrNone.{OneUpdate, IsOfOne}
use Rattle.ckpt_types.specs.Asks.{asked, update_asked, update_of, Ask}
use Rattle.ckpt_machine.specs.Complete.{complete_replicas}
use Rattle.ckpt_machine.specs.Guards.{AsksChange, Allowed}
use Rattle.ckpt_machine.specs.ActiveGuards.{ApplyOk, AreMarksOf}
use Rattle.ckpt_machine.specs.UpdateGuards.{CommitOk, CommitRow, ends_update}
use Rattle.ckpt_machine.specs.Entries.{WasMade}
use Rattle.ckpt_machine.specs.GuardTerms.{OnEach, owns_slot}
use Rattle.ckpt_machine.specs.Invariant.{Invariant}
use Rattle.ckpt_machine.specs.Laws.{OfEachRun}
use Rattle.ckpt_machine.specs.Machine.{Machine, Applied, ReplicaState, Staged, CallState, who, empty_cluster}
use Rattle.cluster_record.specs.Placement.{is_all}
use Rattle.ckpt_machine.specs.Owned.{OwnsNothing}
use Rattle.ckpt_machine.specs.Runs.{last, IsRun}
use Rattle.node_core.specs.Serving.{update_answer}
use Rattle.ckpt_machine.specs.Shape.{IsCompleteOn, IsOwner, PhaseFits}
use Rattle.ckpt_machine.specs.After.{change_replica, with_committed, committed_slot, with_applied, having_taken, without_marks, marks_ended, effect_of, changed, stepped, step_of, after}
use Rattle.ckpt_machine.specs.Due.{Told, IsDue, driver_of}
use Rattle.ckpt_machine.proofs.Activating.{made_where_complete}
use Rattle.ckpt_machine.proofs.ActiveNode.{active_complete}
use Rattle.ckpt_machine.proofs.AllOrNone.{all_or_none}
use Rattle.ckpt_machine.proofs.Copying.{put2-here}
use Rattle.ckpt_machine.proofs.EntryLists.{entry_of-given}
use Rattle.ckpt_machine.proofs.Follows.{IsBare}
use Rattle.ckpt_machine.proofs.HasUpdates.{has_new}
use Rattle.ckpt_machine.proofs.Histories.{HasHistory, slot_owned, on_replica-there, on_active-there, keeps_history, run_history}
use Rattle.ckpt_machine.proofs.Lawful.{lawful}
use Rattle.ckpt_machine.proofs.OptionLemmas.{IsSomeAnd-at}
use Rattle.ckpt_machine.proofs.Actors.{same_call-true}
use Rattle.ckpt_machine.proofs.RefusedRuns.{owns_nothing}
use Rattle.ckpt_machine.proofs.Askers.{IsCopyAsk}
use Rattle.ckpt_machine.proofs.BegunBefore.{all_began, begun_on-other}
use Rattle.ckpt_machine.proofs.BegunOnce.{begins_once}
use Rattle.ckpt_machine.proofs.UpdateAnswers.{begin_not_done, IsTakenOn, done_by_taking, IsChange, changes, no_copying}
use Rattle.ckpt_machine.proofs.Whose.{one_call}
use Rattle.ckpt_machine.proofs.Runs.{last-push, run_before, run_front, IsRunFrom-back}
use Rattle.ckpt_machine.proofs.UpdateIn.{no_enter}
use Rattle.ckpt_machine.proofs.UpdateStays.{has_before, on_each_there, LabelLeaves, Stays, after_stays}

-- ---- the label that answers OK

-- the checkpoint of a call in hand that asks for an update was made
change_made : (m : Machine) (inv : Invariant m) (s : CallState) → m.in_hand (who s) ≡ Some s → (place : ℕ) (update : Update) → asked s.op ≡ asking.Change place update → (k : ℕ) → s.kept.ckpt ≡ Some k → WasMade m.cluster k
change_made m inv s held place update is k kept = by_driver (driver_of s) (inv.holds.hands (who s) s held).here
  where
    apart : {P : Type 0} (ask : Ask) → asked s.op ≡ ask → (asking.Change place update ≡ ask → ⊥) → P
    apart ask other never = absurd (never (sym is ∙ other))

    its : (j : ℕ) → s.kept.ckpt ≡ Some j → WasMade m.cluster j → WasMade m.cluster k
    its j at made = subst (WasMade m.cluster) (same_Some j k (sym at ∙ kept)) made

    by_once : (x : OneStep) → IsOnceAt m s x → WasMade m.cluster k
    by_once (once.Enter r) at = apart _ at.asks (λ w. cc w)
    by_once once.Leave at = apart _ at.asks (λ w. cc w)
    by_once (once.Close j) at = apart _ at.asks (λ w. cc w)
    by_once (once.Unlink name) at = apart _ at (λ w. cc w)
    by_once (once.Retain j duration) at = apart _ at.asks (λ w. cc w)

    by_sync : (u : SyncState) (kind : SyncKind) → IsSyncBy m s u kind → WasMade m.cluster k
    by_sync u (Synchronize deadline) at = apart _ at.asks (λ w. cc w)
    by_sync u (ActiveSet local) at = apart _ at.asks (λ w. cc w)

    by_driver : (d : Driver) → IsInPlace m inv.shapes s d → WasMade m.cluster k
    by_driver (drivers.Once x) at = by_once x at
    by_driver (drivers.Open o) at = apart _ at.asks.asks (λ w. cc w)
    by_driver (drivers.Update u) at = its u.ckpt at.kept at.made
    by_driver (drivers.Active a) at = its a.ckpt at.kept at.made
    by_driver (drivers.Sync u) at = by_sync u u.kind at
    by_driver (drivers.Copy c) at = apart _ at.asks (λ w. cc w)

-- where updates are on all replicas, one has the update and nothing staged, and the call owns nothing, all have it
module _ (m : Machine) (inv : Invariant m) (bare : IsBare m) (k r : ℕ) (call : CallId) (update : Update) (e : Entry) (found : entry_of k m.cluster.entries ≡ Some e) (made : e.making ≡ None) (all : is_all e.attributes ≡ true) (x : ReplicaState) (there : m.replicas k r ≡ Some x) (free : x.slot ≡ None) (has : HasUpdate call update x.effects) (owns : OwnsNothing m call) where
  on_each : (P : ReplicaState → Type 0) → OnEach P (complete_replicas m k) → (q : ℕ) (y : ReplicaState) → m.replicas k q ≡ Some y → P y
  on_each P each q y at = on_each_there m bare k P each q y at

  of_one : (one : OneUpdate) (done : Bool) → IsOfOne one done x None → (q : ℕ) (y : ReplicaState) → m.replicas k q ≡ Some y → (o : Option Staged) → y.slot ≡ o → IsOfOne one done y o → HasUpdate call update y.effects
  of_one one true first q y at None none second = subst (HasUpdate call update) (first.1 ∙ sym second.1) has
  of_one one false first q y at None none second = subst (HasUpdate call update) (first.1 ∙ sym second.1) has
  of_one one false first q y at (Some slot) staged second = subst (HasUpdate call update) (first.1 ∙ sym second.4) has
  of_one one true first q y at (Some slot) staged second =
      elim (has_before call update one.effects (Applied one.origin one.update one.moment) (subst (HasUpdate call update) first.1 has)) [
        | inl was ↦ subst (HasUpdate call update) (sym second.4) was
        | inr new ↦ absurd ((owns.slots k q y slot at staged).1 (second.0 ∙ new.0))
      ]

  on_every : (q : ℕ) (y : ReplicaState) → m.replicas k q ≡ Some y → HasUpdate call update y.effects
  on_every q y at = elim (all_or_none m inv k e found made all) [
    | inl equal ↦
        let first = on_each (λ z. (z.slot ≡ None) × (z.sections ≡ equal.sections) × (z.effects ≡ equal.effects)) equal.each r x there in
        let second = on_each (λ z. (z.slot ≡ None) × (z.sections ≡ equal.sections) × (z.effects ≡ equal.effects)) equal.each q y at in
        subst (HasUpdate call update) (first.2 ∙ sym second.2) has
    | inr of ↦
        let first = subst (IsOfOne of.one of.done x) free (on_each (λ z. IsOfOne of.one of.done z z.slot) of.each r x there) in
        of_one of.one of.done first q y at y.slot refl (on_each (λ z. IsOfOne of.one of.done z z.slot) of.each q y at)
  ]

-- an end that is there was due
ends_if : (b : Bool) (o p : Outcome) → Some o ≡ cond b (Some p) None → b ≡ true
ends_if true o p is = refl
ends_if false o p is = absurd (cc is)

-- what a commit leaves of a replica with a slot
committed_free : (a : CreationAttributes) (x : ReplicaState) (o : Option Staged) (slot : Staged) → o ≡ Some slot → (committed_slot a x o).slot ≡ None
committed_free a x None slot is = absurd (cc is)
committed_free a x (Some other) slot is = refl

committed_new : (a : CreationAttributes) (x : ReplicaState) (o : Option Staged) (slot : Staged) (d : CallId) (u : Update) → o ≡ Some slot → slot.origin ≡ d → slot.update ≡ u → HasUpdate d u (committed_slot a x o).effects
committed_new a x None slot d u is origin update = absurd (cc is)
committed_new a x (Some other) slot d u is origin update =
    let same = same_Some other slot is in
    has_new d u x.effects (effect_of other) (ap (λ (z : Staged). z.origin) same ∙ origin, ap (λ (z : Staged). z.update) same ∙ update)

-- what the end of a weak write leaves of a replica with its marks
unmarked_new : (x : ReplicaState) (o : Option Marked) (marks : Marked) (d : CallId) (u : Update) → o ≡ Some marks → marks.call ≡ d → marks.update ≡ u → HasUpdate d u (marks_ended x o).effects
unmarked_new x None marks d u is call update = absurd (cc is)
unmarked_new x (Some other) marks d u is call update =
    let same = same_Some other marks is in
    has_new d u x.effects (Applied other.call other.update other.moment) (ap (λ (z : Marked). z.call) same ∙ call, ap (λ (z : Marked). z.update) same ∙ update)

-- the checkpoint of which a node has a replica is made
is_made : (m : Machine) (inv : Invariant m) (bare : IsBare m) (k r : ℕ) (e : Entry) (x : ReplicaState) → entry_of k m.cluster.entries ≡ Some e → m.replicas k r ≡ Some x → e.making ≡ None
is_made m inv bare k r e x found there =
    let (f, at, complete) = IsSomeAnd-at (entry_of k m.cluster.entries) (λ e. IsCompleteOn e r) (bare.complete k r x there) in
    made_where_complete m inv k r e found (subst (λ e. IsCompleteOn e r) (same_Some f e (sym at ∙ found)) complete)

module _ (m : Machine) (inv : Invariant m) (history : HasHistory m) (d : CallId) (op : OpWord) (j r : ℕ) (answer : Answer) (details : Details) where
  -- a node has taken an update, and this ends the call
  abbrev label : Verb → Label
  label verb = labels.Stepped d op verb (Some j) (Some r) words.Ok (Some (Done answer)) details

  -- a replica is changed by the step that ends the call
  abbrev ended : CallState → ReplicaState → Machine
  ended s y = stepped (record m { replicas = put2 m.replicas j r (Some y) }) s (Some (Done answer))

  -- who owns a slot by a call in hand is that call
  own_owner : (s : CallState) → m.in_hand (who s) ≡ Some s → (x : ReplicaState) (slot : Staged) → m.replicas j r ≡ Some x → x.slot ≡ Some slot → slot.owner ≡ s.call → IsOwner m j (inv.shapes j) s.call
  own_owner s held x slot there staged owner =
      let (by, origin, update, owns) = slot_owned m inv.shapes inv.holds history.bare j r x slot there staged in
      elim by [
        | inl own ↦ subst (IsOwner m j (inv.shapes j)) owner own
        | inr left ↦ absurd (held_not_dead m inv.shapes inv.holds s held (subst (IsDead m) owner left.0))
      ]

  -- which is live
  own_live : (s : CallState) → IsOwner m j (inv.shapes j) s.call → is_live m.cluster s.call ≡ true
  own_live s own = ap (is_live m.cluster) (sym own.call_is) ∙ (inv.holds.hands (who own.state) own.state own.in_hand).live (no_enter (driver_of own.state) own.driver own.driver_is)

  -- what is staged by a call in hand, as its own, is its own update
  own_update : (s : CallState) → m.in_hand (who s) ≡ Some s → (x : ReplicaState) (slot : Staged) → m.replicas j r ≡ Some x → x.slot ≡ Some slot → slot.owner ≡ s.call → slot.origin ≡ s.call → slot.update ≡ update_of s.op
  own_update s held x slot there staged owner own_origin =
      let (by, origin, update, owns) = slot_owned m inv.shapes inv.holds history.bare j r x slot there staged in
      let own = own_owner s held x slot there staged owner in
      let state : own.state ≡ s = one_call m.in_hand m.pending m.next inv.holds.calls (who own.state) (who s) own.state s own.in_hand held own.call_is in
      update ∙ by_phase own (sym origin ∙ own_origin) own.driver.phase own.phase ∙ ap (λ (z : CallState). update_of z.op) state
    where
      never : IsDead m (inv.shapes j).origin → (inv.shapes j).origin ≡ s.call → {P : Type 0} → P
      never dead is = absurd (held_not_dead m inv.shapes inv.holds s held (subst (IsDead m) is dead))

      by_phase : (own : IsOwner m j (inv.shapes j) s.call) → (inv.shapes j).origin ≡ s.call → (ph : UpdatePhase) → PhaseFits m (inv.shapes j) own.state own.driver ph → (inv.shapes j).update ≡ update_of own.state.op
      by_phase own is Staging fits = fits.update
      by_phase own is Committing fits = fits.update
      by_phase own is Claiming fits = absurd fits
      by_phase own is Claimed fits = never fits.origin is
      by_phase own is Withdrawing fits = never fits.origin is
      by_phase own is Resolving fits = never fits.origin is

  -- it stays from a step on that leaves it on the replicas that are to have it
  ended_stays : (s : CallState) (e : Entry) (x y : ReplicaState) → entry_of j m.cluster.entries ≡ Some e → m.replicas j r ≡ Some x → (is_all e.attributes ≡ true) ⊎ IsSome e.active → IsOnItsReplicas (ended s y) j s.call (update_of s.op) → Stays j s.call (update_of s.op) (ended s y)
  ended_stays s e x y found there some its = record {
    given = entry_of-given m.cluster.last_identity j m.cluster.entries e inv.holds.up_to found;
    made = λ f at. subst (λ (z : Entry). z.making ≡ None) (same_Some e f (sym found ∙ at)) made;
    some = λ f at. subst (λ (z : Entry). (is_all z.attributes ≡ true) ⊎ IsSome z.active) (same_Some e f (sym found ∙ at)) some;
    led = λ f at q active. active_complete m inv.shapes j f q inv.holds at (subst (λ (z : Entry). z.making ≡ None) (same_Some e f (sym found ∙ at)) made) active;
    its = its;
  }
    where
      made : e.making ≡ None
      made = is_made m inv history.bare j r e x found there

  -- after a commit every replica has it
  committed_stays : (allowed : Allowed m (label verbs.Commit)) → IsDue m (label verbs.Commit) → IsUpdateWord op → Stays j d (update_of allowed.state.op) (after m (label verbs.Commit))
  committed_stays allowed due asks =
      let l = label verbs.Commit in
      let s = allowed.state in
      let u = update_of s.op in
      -- which an update does that is asked for
      let change : AsksChange s (λ w. CommitRow m s.call w (λ last. last) j r words.Ok (Some (Done answer)) details) = (elim allowed.row [
        | inl change ↦ change
        | inr copy ↦ absurd (subst IsChange copy.0 (changes s.op (subst IsUpdateWord (sym allowed.word) asks)))
      ]) in
      let w = change.1 in
      let held : m.in_hand (who s) ≡ Some s = held_as m d op s allowed.in_hand allowed.call_is allowed.word in
      let (e, x, found, there, row_of) = on_replica-there m j r (λ e x. (is_all e.attributes ≡ true) × CommitOk m s.call w (λ last. last) j r (Some (Done answer)) details x) change.3 in
      let ok : CommitOk m s.call w (λ last. last) j r (Some (Done answer)) details x = row_of.1 in
      let ends : ends_update s.call r ok.slot (complete_replicas m j) ≡ true = ends_if (ends_update s.call r ok.slot (complete_replicas m j)) (Done answer) (Done (update_answer w)) ok.answer in
      let origin : ok.slot.origin ≡ s.call = same_call-true ok.slot.origin s.call ((and_parts _ _ ends).0) in
      let y = with_committed (entry_of j m.cluster.entries) x in
      let y_is : y ≡ committed_slot e.attributes x x.slot = ap (λ o. with_committed o x) found in
      let n = ended s y in
      let is : after m l ≡ n = ap (λ o. step_of m o verbs.Commit (Some j) (Some r) words.Ok (Some (Done answer))) allowed.in_hand ∙ ap (λ o. stepped (change_replica m j r o (with_committed (entry_of j m.cluster.entries))) s (Some (Done answer))) there in
      let inv_n : Invariant n = subst Invariant is (lawful m l inv due).1 in
      let bare_n : IsBare n = subst IsBare is (keeps_history m l inv history allowed due).bare in
      let live : is_live m.cluster s.call ≡ true = own_live s (own_owner s held x ok.slot there ok.staged ok.owner) in
      let owns = owns_nothing n inv_n bare_n s.call (ended_none m.in_hand m.pending m.next inv.holds.calls s held m.in_hand (λ w z there. there)) (λ k q z slot c at staged of dead same. (let w : true ≡ false = sym live ∙ ap (is_live m.cluster) (sym same) ∙ dead.gone in cc w)) in
      let free : y.slot ≡ None = ap (λ (z : ReplicaState). z.slot) y_is ∙ committed_free e.attributes x x.slot ok.slot ok.staged in
      let has : HasUpdate s.call u y.effects = subst (λ (z : ReplicaState). HasUpdate s.call u z.effects) (sym y_is) (committed_new e.attributes x x.slot ok.slot s.call u ok.staged origin (own_update s held x ok.slot there ok.staged ok.owner origin)) in
      let made = is_made m inv history.bare j r e x found there in
      let every = on_every n inv_n bare_n j r s.call u e found made row_of.0 y (put2-here m.replicas j r (Some y)) free has owns in
      subst (λ c. Stays j c u (after m l)) allowed.call_is (subst (Stays j s.call u) (sym is) (ended_stays s e x y found there (inl row_of.0) (λ q z at to_have. every q z at)))

  -- where updates are on the active alone, which is this node, no other is to have it
  active_alone : (e : Entry) → is_all e.attributes ≡ false → e.active ≡ Some r → (q : ℕ) → IsToHave (Some e) q → r ≡ q
  active_alone e none active q (inl all) = absurd (let w : true ≡ false = sym all ∙ none in cc w)
  active_alone e none active q (inr at) = same_Some r q (sym active ∙ at)

  -- after a step that leaves it on the active, it stays
  active_stays : (verb : Verb) (allowed : Allowed m (label verb)) (change : ReplicaState → ReplicaState) → changed m allowed.state verb (Some j) (Some r) words.Ok ≡ change_replica m j r (m.replicas j r) change
      → (e : Entry) (x : ReplicaState) → entry_of j m.cluster.entries ≡ Some e → m.replicas j r ≡ Some x → is_all e.attributes ≡ false → e.active ≡ Some r → HasUpdate allowed.state.call (update_of allowed.state.op) (change x).effects → Stays j d (update_of allowed.state.op) (after m (label verb))
  active_stays verb allowed change does e x found there none active has =
      let l = label verb in
      let s = allowed.state in
      let u = update_of s.op in
      let y = change x in
      let is : after m l ≡ ended s y = ap (λ o. step_of m o verb (Some j) (Some r) words.Ok (Some (Done answer))) allowed.in_hand ∙ ap (λ n. stepped n s (Some (Done answer))) (does ∙ ap (λ o. change_replica m j r o change) there) in
      let its : IsOnItsReplicas (ended s y) j s.call u = λ q z at to_have.
      let node : r ≡ q = active_alone e none active q (subst (λ o. IsToHave o q) found to_have) in
      let same : y ≡ z = same_Some y z (sym (put2-here m.replicas j r (Some y)) ∙ ap (λ q. put2 m.replicas j r (Some y) j q) node ∙ at) in
      subst (λ (z : ReplicaState). HasUpdate s.call u z.effects) same has in
      subst (λ c. Stays j c u (after m l)) allowed.call_is (subst (Stays j s.call u) (sym is) (ended_stays s e x y found there (inr (subst IsSome (sym active) refl)) its))

  -- an update in one step
  applied_stays : (allowed : Allowed m (label verbs.Apply)) → Stays j d (update_of allowed.state.op) (after m (label verbs.Apply))
  applied_stays allowed =
      let s = allowed.state in
      let u = update_of s.op in
      let t : Told = record { verb = verbs.Apply; ckpt = Some j; node = Some r; reply = words.Ok; end = Some (Done answer); details = details } in
      let (e, x, found, there, none, active, row_of) = on_active-there m allowed.row.1 false j r (ApplyOk m allowed.row.1 t) allowed.row.3 in
      let y_is : having_taken e.attributes s.call u m.cluster.moment x ≡ with_applied s.call u m.cluster.moment (entry_of j m.cluster.entries) x = ap (λ o. with_applied s.call u m.cluster.moment o x) (sym found) in
      let has : HasUpdate s.call u (with_applied s.call u m.cluster.moment (entry_of j m.cluster.entries) x).effects = subst (λ (z : ReplicaState). HasUpdate s.call u z.effects) y_is (has_new s.call u x.effects (Applied s.call u m.cluster.moment) (refl, refl)) in
      active_stays verbs.Apply allowed (with_applied s.call u m.cluster.moment (entry_of j m.cluster.entries)) refl e x found there none active has

  -- the end of a weak write
  unmarked_stays : (allowed : Allowed m (label verbs.Unmark)) → Stays j d (update_of allowed.state.op) (after m (label verbs.Unmark))
  unmarked_stays allowed =
      let s = allowed.state in
      let w = allowed.row.1 in
      let (e, x, found, there, none, active, row_of) = on_active-there m w true j r (λ e x. IsSomeAnd x.marks (AreMarksOf s.call w false)) allowed.row.3.0 in
      let (marks, marked, own) = IsSomeAnd-at x.marks (AreMarksOf s.call w false) row_of in
      let update : marks.update ≡ update_of s.op = own.update_is ∙ sym (ap update_asked allowed.row.2) in
      active_stays verbs.Unmark allowed without_marks refl e x found there none active (unmarked_new x x.marks marks s.call (update_of s.op) marked own.call_is update)

-- ---- any label that answers OK

-- the call began with an update, of the checkpoint that the label names, where it names one, and the update stays from the label on
record IsTaken (log : List Label) (l : Label) (call : CallId) : Type 0 where
  op : Op
  asks : IsUpdateWord (word_of_op op)
  ckpt : ℕ
  begun : HasBegun log call op (Some ckpt)
  named : IfSome (ckpt_named l) (λ k. k ≡ ckpt)
  stay : Stays ckpt call (update_of op) (after (last log) l)

module _ (log : List Label) (run : IsRun log) (inv : Invariant (last log)) (history : HasHistory (last log)) where
  -- by the step that ends it, where it stays from that on
  taken : (d : CallId) (word : OpWord) (verb : Verb) (j r : ℕ) (answer : Answer) (details : Details) (allowed : Allowed (last log) (label (last log) inv history d word j r answer details verb)) → Some j ≡ allowed.state.kept.ckpt
      → IsUpdateWord word → Stays j d (update_of allowed.state.op) (after (last log) (label (last log) inv history d word j r answer details verb)) → IsTaken log (label (last log) inv history d word j r answer details verb) d
  taken d word verb j r answer details allowed own asks stay =
      let s = allowed.state in
      let held : (last log).in_hand (who s) ≡ Some s = held_as (last log) d word s allowed.in_hand allowed.call_is allowed.word in
      record {
        op = s.op;
        asks = subst IsUpdateWord (sym allowed.word) asks;
        ckpt = j;
        begun = subst (λ c. HasBegun log c s.op (Some j)) allowed.call_is (subst (HasBegun log s.call s.op) (begun_on-other (asked s.op) s.kept.ckpt (no_copying (asked s.op) (changes s.op (subst IsUpdateWord (sym allowed.word) asks))) ∙ sym own) (all_began log run s held));
        named = refl;
        stay = stay;
      }

  -- by a look, where each complete replica has it
  looked : (d : CallId) (word : OpWord) (k r : Option ℕ) (answer : Answer) (details : Details) (allowed : Allowed (last log) (labels.Stepped d word verbs.Look k r words.Done (Some (Done answer)) details)) → IsUpdateWord word → IsTaken log (labels.Stepped d word verbs.Look k r words.Done (Some (Done answer)) details) d
  looked d word k r answer details allowed asks = by_ask (asked s.op) refl (changes s.op (subst IsUpdateWord (sym allowed.word) asks)) allowed.row.2
    where
      m : Machine
      m = last log

      s : CallState
      s = allowed.state

      held : m.in_hand (who s) ≡ Some s
      held = held_as m d word s allowed.in_hand allowed.call_is allowed.word

      l : Label
      l = labels.Stepped d word verbs.Look k r words.Done (Some (Done answer)) details

      it_stays : (j : ℕ) → WasMade m.cluster j → (update : Update) → update ≡ update_of s.op → IsSomeAnd (entry_of j m.cluster.entries) (IsUpdated m s.call update j) → Stays j s.call (update_of s.op) (after m l)
      it_stays j was update same there =
          let (e, found, updated) = IsSomeAnd-at (entry_of j m.cluster.entries) (IsUpdated m s.call update j) there in
          let made : (f : Entry) → entry_of j m.cluster.entries ≡ Some f → f.making ≡ None = λ f at. subst (λ o. IfSome o (λ (z : Entry). z.making ≡ None)) at was.made in
          subst (λ o. Stays j s.call (update_of s.op) (step_of m o verbs.Look k r words.Done (Some (Done answer)))) (sym allowed.in_hand) (record {
            given = entry_of-given m.cluster.last_identity j m.cluster.entries e inv.holds.up_to found;
            made = made;
            some = λ f at. inl (ap (λ (z : Entry). is_all z.attributes) (same_Some f e (sym at ∙ found)) ∙ updated.0);
            led = λ f at q active. active_complete m inv.shapes j f q inv.holds at (made f at) active;
            its = λ q y at to_have. subst (λ u. HasUpdate s.call u y.effects) same (on_each_there m history.bare j (λ z. (owns_slot s.call z.slot ≡ false) × HasUpdate s.call update z.effects) updated.1 q y at).1;
          })

      by_ask : (ask : Ask) → asked s.op ≡ ask → IsChange ask → LookDone m s ask answer → IsTaken log l d
      by_ask (asking.Change place update) is change done =
          let (j, kept, there) = IsSomeAnd-at s.kept.ckpt (λ j. IsSomeAnd (entry_of j m.cluster.entries) (IsUpdated m s.call update j)) done.1 in
          record {
            op = s.op;
            asks = subst IsUpdateWord (sym allowed.word) asks;
            ckpt = j;
            begun = subst (λ c. HasBegun log c s.op (Some j)) allowed.call_is (subst (HasBegun log s.call s.op) (begun_on-other (asked s.op) s.kept.ckpt (subst IsCopyAsk is) ∙ kept) (all_began log run s held));
            named = subst (λ o. IfSome o (λ k. k ≡ j)) (sym allowed.row.0) tt;
            stay = subst (λ c. Stays j c (update_of s.op) (after m l)) allowed.call_is (it_stays j (change_made m inv s held place update is j kept) update (sym (ap update_asked is)) there);
          }
      by_ask ask is change done = absurd change

  -- a commit, a look that finds nothing left, an update in one step, or the end of a weak write, and no other
  answered : (d : CallId) (word : OpWord) (verb : Verb) (k r : Option ℕ) (reply : StepReply) (answer : Answer) (details : Details) → Allowed (last log) (labels.Stepped d word verb k r reply (Some (Done answer)) details) → IsDue (last log) (labels.Stepped d word verb k r reply (Some (Done answer)) details)
      → IsUpdateWord word → IsTakenOn verb k r reply → IsTaken log (labels.Stepped d word verb k r reply (Some (Done answer)) details) d
  answered d word verbs.Commit (Some j) (Some r) words.Ok answer details allowed due asks is = taken d word verbs.Commit j r answer details allowed allowed.own asks (committed_stays (last log) inv history d word j r answer details allowed due asks)
  answered d word verbs.Apply (Some j) (Some r) words.Ok answer details allowed due asks is = taken d word verbs.Apply j r answer details allowed allowed.own asks (applied_stays (last log) inv history d word j r answer details allowed)
  answered d word verbs.Unmark (Some j) (Some r) words.Ok answer details allowed due asks is = taken d word verbs.Unmark j r answer details allowed allowed.own asks (unmarked_stays (last log) inv history d word j r answer details allowed)
  answered d word verbs.Look k r words.Done answer details allowed due asks is = looked d word k r answer details allowed asks
  answered d word verb k r reply answer details allowed due asks is = absurd is

  acknowledged : (l : Label) → Allowed (last log) l → IsDue (last log) l → (call : CallId) → Acknowledges l call → IsTaken log l call
  acknowledged (labels.Began d op (Some (Done answer)) details) allowed due call acks = absurd (begin_not_done _ op answer acks.1 allowed.row)
  acknowledged (labels.Stepped d word verb k r reply (Some (Done answer)) details) allowed due call acks =
      let s = allowed.state in
      let by = done_by_taking (last log) s (subst IsUpdateWord (sym allowed.word) acks.1) answer verb k r reply details allowed.row in
      subst (IsTaken log (labels.Stepped d word verb k r reply (Some (Done answer)) details)) acks.0 (answered d word verb k r reply answer details allowed due acks.1 by)
  acknowledged l allowed due call acks = absurd acks

-- ---- at every time from then on

-- the first of these labels does not take the active
first_leaves : (front more : List Label) (l : Label) (k : ℕ) → KeepsActive front (l ∷ more) k → LabelLeaves (entry_of k (last front).cluster.entries) l
first_leaves front more (labels.Failed r true) k keeps = subst (λ log. LeavesActive (entry_of k (last log).cluster.entries) r) (append-nil front) (keeps [] more r refl)
first_leaves front more (labels.Failed r false) k keeps = tt
first_leaves front more l k keeps = tt

-- nor do the others
rest_keeps : (front more : List Label) (l : Label) (k : ℕ) → KeepsActive front (l ∷ more) k → KeepsActive (front ++ l ∷ []) more k
rest_keeps front more l k keeps before behind r is = subst (λ log. LeavesActive (entry_of k (last log).cluster.entries) r) (sym (append_assoc front (l ∷ []) before)) (keeps (l ∷ before) behind r (ap (λ ls. l ∷ ls) is))

-- what stays with each label stays as long as none takes the active
stays_along : (k : ℕ) (call : CallId) (update : Update) (front more : List Label) → IsRun (front ++ more) → KeepsActive front more k → Stays k call update (last front) → Stays k call update (last (front ++ more))
stays_along k call update front [] run keeps stay = subst (λ log. Stays k call update (last log)) (sym (append-nil front)) stay
stays_along k call update front (l ∷ more) run keeps stay =
    let there = IsRunFrom-back empty_cluster front (l ∷ more) run in
    let (inv, history) = run_history front (run_front (front ++ l ∷ more) front (l ∷ more) refl run) in
    let then = after_stays k call update (last front) stay inv history.bare l there.0 (first_leaves front more l k keeps) in
    let longer = append_assoc front (l ∷ []) more in
    subst (λ log. Stays k call update (last log)) longer (stays_along k call update (front ++ l ∷ []) more (subst IsRun (sym longer) run) (rest_keeps front more l k keeps) (subst (Stays k call update) (sym (last-push front l)) then))

-- THE LAW: what was answered OK stays
pub acknowledged_stay : OfEachRun AcknowledgedStay
acknowledged_stay log run front more back l call is acks =
    let (before, allowed, due) = run_before _ front l (run_front log (front ++ l ∷ []) (more ++ back) (is ∙ sym (append_assoc front (l ∷ []) (more ++ back))) run) in
    let (inv, history) = run_history front before in
    let first = acknowledged front before inv history l allowed due call acks in
    let longer = append_assoc front (l ∷ []) more in
    let through = subst IsRun (sym longer) (run_front log (front ++ l ∷ more) back (is ∙ sym (append_assoc front (l ∷ more) back)) run) in
    let here = subst (Stays first.ckpt call (update_of first.op)) (sym (last-push front l)) first.stay in
    record {
      op = first.op;
      asks = first.asks;
      ckpt = first.ckpt;
      begun = first.begun;
      once = λ other k begun. begins_once front before call first.op other (Some first.ckpt) k first.begun begun;
      named = first.named;
      -- and at every time from then on
      on_its = λ keeps. (subst (λ log. Stays first.ckpt call (update_of first.op) (last log)) longer (stays_along first.ckpt call (update_of first.op) (front ++ l ∷ []) more through keeps here)).its;
    }
