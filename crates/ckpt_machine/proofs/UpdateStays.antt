-- What an update does that is on each replica which is to have it stays there: behind each step, and behind any label that does not take the active.
use Rattle.std.proofs.Common.{◌≡◌, ◌⊎◌, ℕ, ◌+◌, ◌≤◌, inl, inr, List, [], ◌∷◌, ◌++◌, Option, Some, None, Bool, true, false, cond, not, ◌==◌, ◌&&◌, ℤ, refl, sym, ap, subst, ◌∙◌, arith, ◌<◌, length}
use Rattle.std.specs.Prelude.{◌≢◌, is_some, IsSome, slice_index}
use Rattle.std.proofs.lemmas.Bool.{eqb-true, and_parts}
use Rattle.std.proofs.lemmas.Option.{same_Some}
use Rattle.ckpt_machine.proofs.FailureLaw.{failures_keep}
use Rattle.ckpt_machine.proofs.Dropped.{held_as}
use Rattle.ckpt_types.specs.declared.identities.CallId.{CallId}
use Rattle.ckpt_types.specs.declared.update.Update.{Update}
use Rattle.weak_marks.specs.Marks.{Marked}
use Rattle.node_msgs.specs.declared.steps.Verb.{Verb}
use Rattle.node_msgs.specs.declared.steps.Verb.TheVariants as verbs
use Rattle.node_msgs.specs.declared.steps.StepReply.{StepReply}
use Rattle.node_msgs.specs.declared.steps.StepReply.TheVariants as words
use Rattle.run_labels.specs.declared.labels.Label.{Label}
use Rattle.run_labels.specs.declared.labels.Label.TheVariants as labels
use Rattle.cluster_record.specs.declared.entries.Entry.{Entry}
use Rattle.cluster_record.specs.Calls.{client_of}
use Rattle.cluster_record.specs.Makings.{making_of}
use Rattle.cluster_record.specs.Failing.{goes_with_node}
use Rattle.cluster_record.specs.Identities.{IdentitiesRise, AllUpTo}
use Rattle.cluster_record.specs.Places.{put2}
use Rattle.cluster_record.specs.RecordState.{RecordState, entry_of, complete_of, stays, swept, moved, entered, finished, home_of, opened_with, opened, closed, unlinked, unreferred, unnamed, departed, undone, with_hold, hold_set, active_set, is_up, first_complete}
use Rattle.cluster_record.proofs.IdentityLaws.{IdentitiesRise-filter}
use Rattle.ckpt_machine.specs.Acknowledged.{IsUpdateBy, HasUpdate, IsToHave, LeavesActive}
use Rattle.ckpt_types.specs.Asks.{asked, update_of}
use Rattle.ckpt_machine.specs.Guards.{IsOnOwn, Row, Allowed}
use Rattle.ckpt_machine.specs.Failing.{failed_at}
use Rattle.ckpt_machine.specs.Invariant.{Invariant}
use Rattle.ckpt_machine.specs.Listing.{is_active}
use Rattle.ckpt_machine.specs.Machine.{Machine, Applied, Broken, Effect, ReplicaState, Snapshot, Staged, CallState, who}
use Rattle.cluster_record.specs.Placement.{is_all, is_collocated}
use Rattle.ckpt_machine.specs.Propagation.{replica_from}
use Rattle.ckpt_machine.specs.Shape.{IsCompleteOn, IsShapedBy}
use Rattle.ckpt_machine.specs.After.{with_record, record_step, created_for, retained_for, change_replica, with_committed, committed_slot, with_applied, with_marks, with_next_element, without_marks, marks_ended, with_slot, with_claim, without_slot, effect_of, with_lead, changed, on_ok, on_look, without_making, at_some, replica_under, opened_state, step_of, staged_moment, after}
use Rattle.ckpt_machine.specs.Due.{Told, count_in}
use Rattle.ckpt_machine.proofs.HeldIn.{IsCopyOfActive}
use Rattle.ckpt_machine.proofs.Activating.{led_by, Leads, leader, with_leader, leader-cases, found_led, led_made, led_entry, after_activate}
use Rattle.ckpt_machine.proofs.ActiveNode.{active_complete}
use Rattle.ckpt_machine.proofs.Copying.{IsPutOn, not_active, after_pull, after_put, put2-cases}
use Rattle.ckpt_machine.proofs.Entries.{ComesOf-filter}
use Rattle.ckpt_machine.proofs.FailedEntries.{IsFailedEntry}
use Rattle.ckpt_machine.proofs.FailedHands.{was_entry}
use Rattle.ckpt_machine.proofs.FailedReplicas as failures
use Rattle.ckpt_machine.proofs.FailedReplicas.{Becomes, was_replica}
pub use Rattle.ckpt_machine.proofs.EachThere.{on_each_there}
use Rattle.ckpt_machine.proofs.Follows.{IsBare, element_effects}
use Rattle.ckpt_machine.proofs.HasUpdates.{has_more}
use Rattle.ckpt_machine.proofs.Installed.{after_install}
use Rattle.ckpt_machine.proofs.Joining.{all_apart, collocated_apart, opened_with-identity}
use Rattle.ckpt_machine.proofs.OptionLemmas.{IsSomeAnd-at, IfSome-at, what_is}
use Rattle.ckpt_machine.proofs.References.{released-identity}
use Rattle.ckpt_machine.proofs.StaysMade.{IsMadeAs, StaysMade, StaysMade-same, StaysMade-kept, held_made, held-identity, MadeOn, MadeOn-swept, released_made, opened_made, same_on, changed_on, filter_on, departed_on, finished_on, created_for_on, retained_for_on, StepNeeds, row_needs}
use Rattle.ckpt_types.specs.declared.update.Update.TheVariants as updates
use Rattle.cluster_record.specs.Joining.{can_complete}
use Rattle.cluster_record.proofs.JoinLaws.{active_stays}
use Rattle.ckpt_machine.specs.CopyGuards.{IsCurrent, IsPulledUnder}
use Rattle.ckpt_machine.proofs.ActiveBy.{active_by-complete, lowest_complete}
use Rattle.ckpt_machine.proofs.CompletedEntry.{active_then, attributes_then, making_then}
use Rattle.ckpt_machine.proofs.CompletedRecord.{can, within, entry_other}
use Rattle.ckpt_machine.proofs.Completions.{Brings, after_complete, brought-cases, entry-cases, entry_then, joined_entry, lacked, spread, with_brought}

-- ---- effects

-- one effect more is the new one, or was there
pub has_before : (d : CallId) (u : Update) (xs : List Effect) (new : Effect) → HasUpdate d u (xs ++ new ∷ []) → HasUpdate d u xs ⊎ IsUpdateBy d u new
has_before d u [] new (inl is) = inr is
has_before d u [] new (inr none) = absurd none
has_before d u (x ∷ xs) new (inl is) = inl (inl is)
has_before d u (x ∷ xs) new (inr more) = elim (has_before d u xs new more) [ inl was ↦ inl (inr was) | inr is ↦ inr is ]

-- a commit takes none away
committed_has : (o : Option Entry) (x : ReplicaState) (d : CallId) (u : Update) → HasUpdate d u x.effects → HasUpdate d u (with_committed o x).effects
committed_has None x d u has = has
committed_has (Some e) x d u has = by_slot x.slot
  where
    by_slot : (o : Option Staged) → HasUpdate d u (committed_slot e.attributes x o).effects
    by_slot None = has
    by_slot (Some slot) = has_more d u x.effects (effect_of slot ∷ []) has

-- nor does an update in one step
applied_has : (o : Option Entry) (by : CallId) (new : Update) (t : ℤ) (x : ReplicaState) (d : CallId) (u : Update) → HasUpdate d u x.effects → HasUpdate d u (with_applied by new t o x).effects
applied_has None by new t x d u has = has
applied_has (Some e) by new t x d u has = has_more d u x.effects (Applied by new t ∷ []) has

-- nor does the end of a weak write
unmarked_has : (x : ReplicaState) (d : CallId) (u : Update) → HasUpdate d u x.effects → HasUpdate d u (without_marks x).effects
unmarked_has x d u has = by_marks x.marks
  where
    by_marks : (o : Option Marked) → HasUpdate d u (marks_ended x o).effects
    by_marks None = has
    by_marks (Some marks) = has_more d u x.effects (Applied marks.call marks.update marks.moment ∷ []) has

-- a node that is to have its updates was to have them before
to_have_before : (e f : Entry) → IsMadeAs e f → (r : ℕ) → IsToHave (Some f) r → IsToHave (Some e) r
to_have_before e f same r (inl all) = inl (ap is_all (sym same.attributes) ∙ all)
to_have_before e f same r (inr active) = inr (sym same.active ∙ active)

-- and was complete: no node that is to have its updates is new
complete_before : (e f : Entry) → IsMadeAs e f → (r : ℕ) → (e.active ≡ Some r → IsCompleteOn e r) → IsToHave (Some e) r → IsCompleteOn f r → IsCompleteOn e r
complete_before e f still r led (inl all) complete = subst (λ (nodes : List ℕ). (slice_index nodes r == 0) ≡ false) (still.complete (all_apart e.attributes all)) complete
complete_before e f still r led (inr active) complete = led active

-- a checkpoint has its updates on all replicas, or has an active, as it did before
some_still : (e f : Entry) → IsMadeAs e f → (is_all e.attributes ≡ true) ⊎ IsSome e.active → (is_all f.attributes ≡ true) ⊎ IsSome f.active
some_still e f same (inl all) = inl (ap is_all same.attributes ∙ all)
some_still e f same (inr led) = inr (subst IsSome (sym same.active) led)

-- ---- a failure

-- the label leaves the checkpoint its active
abbrev pub LabelLeaves : Option Entry → Label → Type 0
LabelLeaves o (labels.Failed r true) = LeavesActive o r
LabelLeaves o l = Unit {0}

-- a node that is not the active's
not_its_node : (o : Option ℕ) (r : ℕ) → o ≢ Some r → is_active o r ≡ false
not_its_node None r other = refl
not_its_node (Some q) r other = by_test (q == r) refl
  where
    by_test : (b : Bool) → (q == r) ≡ b → b ≡ false
    by_test true same = absurd (other (ap Some (eqb-true q r same)))
    by_test false apart = refl

-- what the failure of another node than the active's leaves of an entry has the active that it had
still_led : (counts : ℕ → ℕ) (goes : ℕ → Bool) (r : ℕ) (e f : Entry) → IsFailedEntry counts goes r e f → is_all e.attributes ≡ false → (is_all e.attributes ≡ true) ⊎ (e.active ≢ Some r) → (e.active ≢ Some r) × (f.active ≡ e.active)
still_led counts goes r e f left alone (inl all) = absurd (let w : true ≡ false = sym all ∙ alone in cc w)
still_led counts goes r e f left alone (inr other) = (other, (left.led (not_its_node e.active r other)).0)

-- a node that is to have the updates was to have them
to_have_left : (e f : Entry) → f.attributes ≡ e.attributes → f.active ≡ e.active → (q : ℕ) → IsToHave (Some f) q → IsToHave (Some e) q
to_have_left e f declares active q (inl all) = inl (ap is_all (sym declares) ∙ all)
to_have_left e f declares active q (inr led) = inr (sym active ∙ led)

-- its updates go to all replicas, or it has an active, as before
some_left : (e f : Entry) → f.attributes ≡ e.attributes → f.active ≡ e.active → (is_all e.attributes ≡ true) ⊎ IsSome e.active → (is_all f.attributes ≡ true) ⊎ IsSome f.active
some_left e f declares active (inl all) = inl (ap is_all declares ∙ all)
some_left e f declares active (inr led) = inr (subst IsSome (sym active) led)

-- ---- the update stays

-- the checkpoint was given and, if it is there, is made, has its updates on all replicas or an active, and is complete on that; and each of its replicas that is to have the update has it
pub record StaysIn (k : ℕ) (call : CallId) (update : Update) (R : RecordState) (replicas : ℕ → ℕ → Option ReplicaState) : Type 0 where
  pub given : k ≤ R.last_identity
  pub made : (e : Entry) → entry_of k R.entries ≡ Some e → e.making ≡ None
  pub some : (e : Entry) → entry_of k R.entries ≡ Some e → (is_all e.attributes ≡ true) ⊎ IsSome e.active
  pub led : (e : Entry) → entry_of k R.entries ≡ Some e → (r : ℕ) → e.active ≡ Some r → IsCompleteOn e r
  pub its : (r : ℕ) (x : ReplicaState) → replicas k r ≡ Some x → IsToHave (entry_of k R.entries) r → HasUpdate call update x.effects

abbrev pub Stays : ℕ → CallId → Update → Machine → Type 0
Stays k call update m = StaysIn k call update m.cluster m.replicas

module _ (k : ℕ) (call : CallId) (update : Update) (m : Machine) (stay : Stays k call update m) where
  -- of a node that was complete the replica is as it was
  kept : (gone new : Bool) (x : ReplicaState) (old : Option ReplicaState) (y : ReplicaState) → (gone ≡ false → new ≡ false) → cond gone None (cond new (Some x) old) ≡ Some y → old ≡ Some y
  kept true new x old y was is = absurd (cc is)
  kept false true x old y was is = absurd (let w : true ≡ false = was refl in cc w)
  kept false false x old y was is = is

  -- a step of the record
  record_stays : (R : RecordState) → MadeOn k m.cluster R → Stays k call update (with_record m R)
  record_stays R on = record {
    given = (let a = on.last in let b = stay.given in omega (arith, a, b));
    made = λ f found. (let (e, was, keeps) = on.made f found in (keeps.made (stay.made e was)).made);
    some = λ f found. (let (e, was, keeps) = on.made f found in some_still e f (keeps.made (stay.made e was)) (stay.some e was));
    led = λ f found r active. (let (e, was, keeps) = on.made f found in let still = keeps.made (stay.made e was) in still.remains r (stay.led e was r (sym still.active ∙ active)));
    its = λ r y is to_have. had (entry_of k R.entries) refl r y is to_have;
  }
    where
      had : (o : Option Entry) → entry_of k R.entries ≡ o → (r : ℕ) (y : ReplicaState) → replica_under o (slice_index (complete_of (entry_of k m.cluster.entries)) r) r (m.replicas k r) ≡ Some y → IsToHave o r → HasUpdate call update y.effects
      had None found r y is to_have = absurd (cc is)
      had (Some f) found r y is to_have =
          let (e, was, keeps) = on.made f found in
          let still = keeps.made (stay.made e was) in
          let before : IsToHave (Some e) r = to_have_before e f still r to_have in
          let there : IsCompleteOn f r → (slice_index (complete_of (entry_of k m.cluster.entries)) r == 0) ≡ false = λ complete. subst (λ o. (slice_index (complete_of o) r == 0) ≡ false) (sym was) (complete_before e f still r (stay.led e was r) before complete) in
          let came : m.replicas k r ≡ Some y = kept (slice_index f.complete r == 0) (slice_index (complete_of (entry_of k m.cluster.entries)) r == 0) (opened_state f) (m.replicas k r) y there is in
          stay.its r y came (subst (λ o. IsToHave o r) (sym was) before)

  -- one replica changed, whose effects stay
  replica_stays : (j q : ℕ) (o : Option ReplicaState) → m.replicas j q ≡ o → (change : ReplicaState → ReplicaState) → ((x : ReplicaState) → HasUpdate call update x.effects → HasUpdate call update (change x).effects) → Stays k call update (change_replica m j q o change)
  replica_stays j q None there change more = stay
  replica_stays j q (Some x) there change more = record { given = stay.given; made = stay.made; some = stay.some; led = stay.led; its = its }
    where
      its : (r : ℕ) (y : ReplicaState) → put2 m.replicas j q (Some (change x)) k r ≡ Some y → IsToHave (entry_of k m.cluster.entries) r → HasUpdate call update y.effects
      its r y is to_have = elim ((k == j) && (r == q)) as (λ b. ((k == j) && (r == q)) ≡ b → cond b (Some (change x)) (m.replicas k r) ≡ Some y → HasUpdate call update y.effects) [
        | true ↦ λ at here.
            let (ckpt, node) = and_parts (k == j) (r == q) at in
            let was : m.replicas k q ≡ Some x = subst (λ i. m.replicas i q ≡ Some x) (sym (eqb-true k j ckpt)) there in
            let to_have_it = subst (λ r. IsToHave (entry_of k m.cluster.entries) r) (eqb-true r q node) to_have in
            subst (λ (z : ReplicaState). HasUpdate call update z.effects) (same_Some (change x) y here) (more x (stay.its q x was to_have_it))
        | false ↦ λ at other. stay.its r y other to_have
      ] refl is

  -- a snapshot goes to no replica that is to have the update
  put_stays : (j q : ℕ) (s : Snapshot) (x : ReplicaState) → IsPutOn m j q x → Stays k call update (record m { replicas = put2 m.replicas j q (Some (replica_from s x)) })
  put_stays j q s x on = record {
    given = stay.given;
    made = stay.made;
    some = stay.some;
    led = stay.led;
    its = λ r y is to_have. elim (put2-cases m.replicas j q (replica_from s x) k r y is) [
      | inl here ↦ absurd (not_its r (subst (λ o. IsToHave o r) (ap (λ k. entry_of k m.cluster.entries) (sym here.0) ∙ on.found) to_have) (subst (λ r. is_active on.entry.active r ≡ false) here.1 on.other))
      | inr was ↦ stay.its r y was.0 to_have
    ];
  }
    where
      not_its : (r : ℕ) → IsToHave (Some on.entry) r → is_active on.entry.active r ≡ false → ⊥
      not_its r (inl all) other = let w : true ≡ false = sym all ∙ on.alone in cc w
      not_its r (inr active) other = not_active on.entry.active r other active

  -- a node that leads anew has what the active had
  leads_stay : Invariant m → (s : CallState) (j q : ℕ) (lead : Leads m s j q) → Stays k call update (with_leader m s j q lead)
  leads_stay inv s j q lead = record {
    given = stay.given;
    made = λ g found. (let (e, was, goes) = led_made m inv s j q lead k g found in (goes.made (stay.made e was)).made);
    some = λ g found. elim (found_led m inv s j q lead k g found) [ inl here ↦ inr (subst (λ (o : Option ℕ). IsSome o) (sym (ap (λ (e : Entry). e.active) here.1)) refl) | inr was ↦ stay.some g was.1 ];
    led = λ g found r active. elim (found_led m inv s j q lead k g found) [
      | inl here ↦ (
          let node : q ≡ r = same_Some q r (sym (ap (λ (e : Entry). e.active) here.1) ∙ active) in
          subst (λ (g : Entry). IsCompleteOn g r) (sym here.1) (subst (IsCompleteOn lead.entry) node lead.complete))
      | inr was ↦ stay.led g was.1 r active
    ];
    its = λ r y is to_have. (
        let (g, found) = led_entry m inv s j q lead k r y is in
        by_place r y g found is (subst (λ o. IsToHave o r) found to_have));
  }
    where
      -- where there was an active, which has the update, what is in hand has it
      from_active : j ≡ k → IsCopyOfActive m s j lead.entry → HasUpdate call update (leader m s j q lead).effects
      from_active here (inl none) = absurd (by_some (stay.some lead.entry (ap (λ k. entry_of k m.cluster.entries) (sym here) ∙ lead.found)))
        where
          by_some : (is_all lead.entry.attributes ≡ true) ⊎ IsSome lead.entry.active → ⊥
          by_some (inl all) = let w : true ≡ false = sym all ∙ collocated_apart lead.entry.attributes lead.collocated in cc w
          by_some (inr led) = let w : is_some {T = ℕ} None ≡ true = subst (λ (o : Option ℕ). IsSome o) none led in cc w
      from_active here (inr copy) =
          let at : entry_of k m.cluster.entries ≡ Some lead.entry = ap (λ k. entry_of k m.cluster.entries) (sym here) ∙ lead.found in
          let has : HasUpdate call update copy.source.effects = stay.its copy.node copy.source (subst (λ k. m.replicas k copy.node ≡ Some copy.source) here copy.there) (subst (λ o. IsToHave o copy.node) (sym at) (inr copy.active)) in
          subst (λ o. HasUpdate call update (with_lead o (lead.entry.generation + 1) lead.replica).effects) (sym copy.in_hand) has

      -- the replica that leads, or another one
      by_place : (r : ℕ) (y : ReplicaState) (g : Entry) → entry_of k (with_leader m s j q lead).cluster.entries ≡ Some g → (with_leader m s j q lead).replicas k r ≡ Some y → IsToHave (Some g) r → HasUpdate call update y.effects
      by_place r y g found is to_have = elim (leader-cases m inv s j q lead k r y is) [
        | inl here ↦ subst (λ (z : ReplicaState). HasUpdate call update z.effects) here.2 (from_active here.0 lead.from)
        | inr was ↦ elim (found_led m inv s j q lead k g found) [
          | inl at ↦ absurd (not_led r (subst (λ g. IsToHave (Some g) r) at.1 to_have) (λ node. was.1 (sym at.0) node))
          | inr other ↦ stay.its r y was.0 (subst (λ o. IsToHave o r) (sym other.1) to_have)
        ]
      ]
        where
          not_led : (r : ℕ) → IsToHave (Some (led_by q lead.entry)) r → ((q ≡ r) → ⊥) → ⊥
          not_led r (inl all) apart = let w : true ≡ false = sym all ∙ collocated_apart lead.entry.attributes lead.collocated in cc w
          not_led r (inr active) apart = apart (same_Some q r active)

  -- a failure: where updates go to the active alone, of another node than the active's
  module _ (inv : Invariant m) (bare : IsBare m) (r : ℕ) (up : is_up r m.cluster ≡ true) (leaves : LeavesActive (entry_of k m.cluster.entries) r) where
    -- what the entry was: its updates are on all replicas, or it has the active that it had
    record WasLed (f : Entry) : Type 0 where
      e : Entry
      was : entry_of k m.cluster.entries ≡ Some e
      left : IsFailedEntry (λ q. count_in (m.replicas e.identity q)) (goes_with_node m.cluster r) r e f
      active : (is_all e.attributes ≡ true) ⊎ (f.active ≡ e.active)

    was_led : (f : Entry) → entry_of k (failed_at r m).cluster.entries ≡ Some f → WasLed f
    was_led f found =
        let it = was_entry m inv.shapes inv.holds r k f found in
        record { e = it.e; was = it.was; left = it.left; active = by_all (is_all it.e.attributes) it.e f refl it.left (IfSome-at (entry_of k m.cluster.entries) (λ e. (is_all e.attributes ≡ true) ⊎ (e.active ≢ Some r)) leaves it.e it.was) }
      where
        by_all : (b : Bool) (e f : Entry) → is_all e.attributes ≡ b → IsFailedEntry (λ q. count_in (m.replicas e.identity q)) (goes_with_node m.cluster r) r e f → (is_all e.attributes ≡ true) ⊎ (e.active ≢ Some r) → (is_all e.attributes ≡ true) ⊎ (f.active ≡ e.active)
        by_all true e f all left others = inl all
        by_all false e f alone left others = inr (still_led (λ q. count_in (m.replicas e.identity q)) (goes_with_node m.cluster r) r e f left alone others).1

    -- the replica has what it had
    has_left : (e f : Entry) (q : ℕ) (x y : ReplicaState) → Becomes m inv bare r e f q x y → HasUpdate call update x.effects → HasUpdate call update y.effects
    has_left e f q x y (failures.stays same) has = subst (λ (z : ReplicaState). HasUpdate call update z.effects) (sym same) has
    has_left e f q x y (failures.cut_short marks stand gone was led same is) has = subst (λ (z : ReplicaState). HasUpdate call update z.effects) (sym is) (has_more call update x.effects (Broken marks.call marks.update marks.moment marks.done ∷ []) has)
    has_left e f q x y (failures.leads was led none is) has = subst (λ (z : ReplicaState). HasUpdate call update z.effects) (sym is) has

    -- what is made then was made
    made_left : (f : Entry) → entry_of k (failed_at r m).cluster.entries ≡ Some f → f.making ≡ None
    made_left f found = let it = was_led f found in it.left.making ∙ stay.made it.e it.was

    -- each that is to have it was to have it
    before_left : (f : Entry) (it : WasLed f) (q : ℕ) → IsToHave (Some f) q → IsToHave (Some it.e) q
    before_left f it q to_have = elim it.active [ inl all ↦ inl all | inr same ↦ to_have_left it.e f it.left.attributes same q to_have ]

    -- there is an active, where there has to be
    some_then : (f : Entry) (it : WasLed f) → (is_all f.attributes ≡ true) ⊎ IsSome f.active
    some_then f it = elim it.active [ inl all ↦ inl (ap is_all it.left.attributes ∙ all) | inr same ↦ some_left it.e f it.left.attributes same (stay.some it.e it.was) ]

    failure_stays : Stays k call update (failed_at r m)
    failure_stays = record {
      given = stay.given;
      made = made_left;
      some = λ f found. some_then f (was_led f found);
      led = λ f found q active. (let then = failures_keep m r inv up in active_complete (failed_at r m) then.shapes k f q then.holds found (made_left f found) active);
      its = λ q y is to_have. (
          let it = was_replica m inv bare r k q y is in
          let at = was_led it.then it.found in
          let before : IsToHave (Some at.e) q = before_left it.then at q (subst (λ o. IsToHave o q) it.found to_have) in
          has_left it.before it.then q it.replica y it.becomes (stay.its q it.replica it.there (subst (λ o. IsToHave o q) (sym at.was) before)));
    }

  -- a copying brings the checkpoint to its node
  module _ (inv : Invariant m) (bare : IsBare m) (s : CallState) (j q : ℕ) (b : Brings m s j q) where
    -- the entry that was, and the one that is then
    abbrev e : Entry
    e = b.entry

    abbrev f : Entry
    f = joined_entry m inv s j q b

    can_be : can_complete q (slice_index m.cluster.up q) e ≡ true
    can_be = can m inv.shapes inv.holds j q e b.found b.lacks b.up (spread m inv s j q b)

    node_within : q < length e.complete
    node_within = within m inv.shapes inv.holds j q e b.found b.lacks b.up (spread m inv s j q b)

    declares : f.attributes ≡ e.attributes
    declares = attributes_then q (slice_index m.cluster.up q) e can_be node_within

    active_as : is_all e.attributes ≡ false → f.active ≡ e.active
    active_as alone = active_stays q (slice_index m.cluster.up q) e alone

    -- a node that is to have its updates was to have them
    then_to_have : (r : ℕ) → IsToHave (Some f) r → IsToHave (Some e) r
    then_to_have r (inl all) = inl (ap is_all (sym declares) ∙ all)
    then_to_have r (inr led) = by_all (is_all e.attributes) refl
      where
        by_all : (b : Bool) → is_all e.attributes ≡ b → IsToHave (Some e) r
        by_all true all = inl all
        by_all false alone = inr (sym (active_as alone) ∙ led)

    -- its updates are on all replicas, or it has an active, as before
    brought_some : (is_all e.attributes ≡ true) ⊎ IsSome e.active → (is_all f.attributes ≡ true) ⊎ IsSome f.active
    brought_some (inl all) = inl (ap is_all declares ∙ all)
    brought_some (inr led) = by_all (is_all e.attributes) refl
      where
        by_all : (b : Bool) → is_all e.attributes ≡ b → (is_all f.attributes ≡ true) ⊎ IsSome f.active
        by_all true all = inl (ap is_all declares ∙ all)
        by_all false alone = inr (subst IsSome (sym (active_as alone)) led)

    -- and an active is complete
    brought_led : (r : ℕ) → f.active ≡ Some r → IsCompleteOn f r
    brought_led r active = active_by-complete (is_collocated f.attributes) (is_all f.attributes) f.complete f.active (active_then q (slice_index m.cluster.up q) e can_be node_within (spread m inv s j q b).active) r active

    -- where the node is to have the updates, what was pulled has this one: each complete replica has what was pulled, and none but these is to have them
    pulled_has : entry_of k m.cluster.entries ≡ Some e → j ≡ k → IsToHave (Some f) q → HasUpdate call update b.pulled.effects
    pulled_has at same to_have = by_all (is_all e.attributes) refl b.current
      where
        alone_lacks : is_all e.attributes ≡ false → IsToHave (Some e) q → ⊥
        alone_lacks alone (inl all) = let w : true ≡ false = sym all ∙ alone in cc w
        alone_lacks alone (inr active) = let w : true ≡ false = sym (lacked m inv s j q b).none ∙ stay.led e at q active in cc w

        by_all : (b_all : Bool) → is_all e.attributes ≡ b_all → IsCurrent m s j e b.pulled b_all → HasUpdate call update b.pulled.effects
        by_all true all each =
            let good = spread m inv s j q b in
            let (p, lowest) = what_is (first_complete 0 e.complete) good.some in
            let (x, there, shaped) = IsSomeAnd-at (m.replicas j p) (IsShapedBy (is_all e.attributes) (inv.shapes j) e.active p) (good.replicas p (lowest_complete e.complete p lowest)) in
            let under = on_each_there m bare j (IsPulledUnder s.call (Some (record { owner = s.call; origin = s.call; update = updates.Nothing; moment = staged_moment m j })) b.pulled) each p x there in
            subst (HasUpdate call update) under.effects (stay.its p x (subst (λ i. m.replicas i p ≡ Some x) same there) (subst (λ o. IsToHave o p) (sym at) (inl all)))
        by_all false alone each = absurd (alone_lacks alone (then_to_have q to_have))

    -- so the node has it, where it is to have it
    brought_stays : Stays k call update (with_brought m inv s j q b)
    brought_stays = record {
      given = stay.given;
      made = λ g there. elim (entry-cases m inv s j q b k g there) [
        | inl here ↦ ap (λ (g : Entry). g.making) here.1 ∙ making_then q (slice_index m.cluster.up q) e can_be node_within ∙ (lacked m inv s j q b).made
        | inr was ↦ stay.made g was.1
      ];
      some = λ g there. elim (entry-cases m inv s j q b k g there) [
        | inl here ↦ subst (λ (g : Entry). (is_all g.attributes ≡ true) ⊎ IsSome g.active) (sym here.1) (brought_some (stay.some e (at here.0)))
        | inr was ↦ stay.some g was.1
      ];
      led = λ g there r active. elim (entry-cases m inv s j q b k g there) [
        | inl here ↦ subst (λ g. IsCompleteOn g r) (sym here.1) (brought_led r (ap (λ (g : Entry). g.active) (sym here.1) ∙ active))
        | inr was ↦ stay.led g was.1 r active
      ];
      its = λ r x is to_have. elim (brought-cases m inv s j q b k r x is) [
        | inl here ↦ (
            let to : IsToHave (Some f) q = subst (λ r. IsToHave (Some f) r) (sym here.1) (subst (λ o. IsToHave o r) (ap (λ i. entry_of i (with_brought m inv s j q b).cluster.entries) (sym here.0) ∙ entry_then m inv s j q b) to_have) in
            subst (λ (x : ReplicaState). HasUpdate call update x.effects) here.2 (pulled_has (at (sym here.0)) here.0 to))
        | inr was ↦ stay.its r x was.0 (before r to_have)
      ];
    }
      where
        at : k ≡ j → entry_of k m.cluster.entries ≡ Some e
        at same = ap (λ i. entry_of i m.cluster.entries) same ∙ b.found

        before : (r : ℕ) → IsToHave (entry_of k (with_brought m inv s j q b).cluster.entries) r → IsToHave (entry_of k m.cluster.entries) r
        before r to_have = elim (k == j) as (λ t. (k == j) ≡ t → IsToHave (entry_of k m.cluster.entries) r) [
          | true ↦ λ same.
              let here : k ≡ j = eqb-true k j same in
              subst (λ o. IsToHave o r) (sym (at here)) (then_to_have r (subst (λ o. IsToHave o r) (ap (λ i. entry_of i (with_brought m inv s j q b).cluster.entries) here ∙ entry_then m inv s j q b) to_have))
          | false ↦ λ apart. subst (λ o. IsToHave o r) (entry_other m inv.shapes inv.holds j q e b.found b.lacks b.up (spread m inv s j q b) k apart) to_have
        ] refl

  module _ (rises : IdentitiesRise m.cluster.entries) (up_to : AllUpTo m.cluster.last_identity m.cluster.entries) where
    step_stays : (step : RecordState → RecordState) → MadeOn k m.cluster (step m.cluster) → Stays k call update (record_step step m)
    step_stays step on = record_stays (swept (step m.cluster)) (MadeOn-swept k m.cluster (step m.cluster) on)

    undone_stays : (j : ℕ) → Stays k call update (record_step (undone j) m)
    undone_stays j = step_stays (undone j) (filter_on k m.cluster stay.given rises up_to (λ e. not (e.identity == j)))

    making_stays : (j : Option ℕ) → Stays k call update (without_making j m)
    making_stays None = stay
    making_stays (Some j) = undone_stays j

    -- what is done on OK alone, and at a checkpoint and a node that are named
    ok_stays : (reply : StepReply) (n : Machine) → Stays k call update n → Stays k call update (on_ok reply m n)
    ok_stays words.Ok n then = then
    ok_stays reply n then = stay

    look_stays : (reply : StepReply) (done refused : Machine) → Stays k call update done → Stays k call update refused → Stays k call update (on_look reply m done refused)
    look_stays words.Done done refused after_done after_refused = after_done
    look_stays words.Refused done refused after_done after_refused = after_refused
    look_stays reply done refused after_done after_refused = stay

    one_stays : (j : Option ℕ) (change : ℕ → Machine) → ((j : ℕ) → Stays k call update (change j)) → Stays k call update (at_some j m change)
    one_stays None change each = stay
    one_stays (Some j) change each = each j

    both_stay : (j q : Option ℕ) (change : ℕ → ℕ → Machine) → ((j q : ℕ) → Stays k call update (change j q)) → Stays k call update (at_some j m (λ j. at_some q m (change j)))
    both_stay j q change each = one_stays j _ (λ j. one_stays q (change j) (each j))

    -- what an installation, the setting of an active and a completion leave
    abbrev Installs : CallState → Verb → Option ℕ → Option ℕ → StepReply → Type 0
    Installs s verbs.Install j q reply = Stays k call update (changed m s verbs.Install j q reply)
    Installs s verbs.Activate j q reply = Stays k call update (changed m s verbs.Activate j q reply)
    Installs s verbs.Complete j q reply = Stays k call update (changed m s verbs.Complete j q reply)
    Installs s verb j q reply = Unit {0}

    installs : Invariant m → IsBare m → (s : CallState) → m.in_hand (who s) ≡ Some s → (verb : Verb) (j q : Option ℕ) (reply : StepReply) (t : Told) → IsOnOwn verb j s.kept.ckpt → Row m s verb (record t { verb = verb; ckpt = j; node = q; reply = reply }) → Installs s verb j q reply
    installs inv bare s held verbs.Install j q reply t own row = after_install (Stays k call update) m s t j q reply row stay (λ i r z x is in_hand over. put_stays i r z x over.on)
    installs inv bare s held verbs.Activate j q reply t own row = after_activate (Stays k call update) m inv bare s held t j q reply own row stay (λ i r on. record_stays (swept (active_set i r m.cluster)) (on k)) (leads_stay inv s)
    installs inv bare s held verbs.Complete j q reply t own row = after_complete (Stays k call update) m inv s held t j q reply own row stay (λ i r b. brought_stays inv bare s i r b)
    installs inv bare s held verb j q reply t own row = tt

    finished_stays : (s : CallState) (j q : Option ℕ) (reply : StepReply) → StepNeeds m.cluster s.call verbs.Finish j reply → Stays k call update (changed m s verbs.Finish j q reply)
    finished_stays s (Some j) q words.Ok by = step_stays (finished j (client_of s.call)) (finished_on k m.cluster stay.given rises up_to s.call j (client_of s.call) by)
    finished_stays s None q words.Ok by = stay
    finished_stays s j q reply by = stay

    -- any step
    changed_stays : (s : CallState) (verb : Verb) (j q : Option ℕ) (reply : StepReply) → StepNeeds m.cluster s.call verb j reply → Installs s verb j q reply → Stays k call update (changed m s verb j q reply)
    changed_stays s verbs.Enter j q reply needs done = ok_stays reply _ (one_stays q _ (λ q. step_stays (entered (client_of s.call) q s.call.number) (record { last = omega arith; rises = rises; made = (same_on k m.cluster stay.given rises up_to).made })))
    changed_stays s verbs.Open j q reply needs done = ok_stays reply _ (one_stays j _ (λ j. step_stays (opened j (client_of s.call)) (changed_on k m.cluster stay.given rises up_to j (opened_with (home_of (client_of s.call) m.cluster) m.cluster.up (client_of s.call)) (opened_with-identity (home_of (client_of s.call) m.cluster) m.cluster.up (client_of s.call)) (opened_made (home_of (client_of s.call) m.cluster) m.cluster.up (client_of s.call)))))
    changed_stays s verbs.Create j q reply needs done = ok_stays reply _ (step_stays (created_for s.call (asked s.op)) (created_for_on k m.cluster stay.given rises up_to s.call (asked s.op)))
    changed_stays s verbs.Reserve j q reply needs done = ok_stays reply _ (both_stay j q _ (λ j q. record { given = stay.given; made = stay.made; some = stay.some; led = stay.led; its = stay.its }))
    changed_stays s verbs.Finish j q reply needs done = finished_stays s j q reply needs
    changed_stays s verbs.Undo j q reply needs done = ok_stays reply _ (one_stays j _ undone_stays)
    changed_stays s verbs.Stage j q reply needs done = ok_stays reply _ (both_stay j q _ (λ j q. replica_stays j q (m.replicas j q) refl (with_slot s.call (update_of s.op) (staged_moment m j)) (λ x has. has)))
    changed_stays s verbs.Claim j q reply needs done = ok_stays reply _ (both_stay j q _ (λ j q. replica_stays j q (m.replicas j q) refl (with_claim s.call) (λ x has. has)))
    changed_stays s verbs.Withdraw j q reply needs done = ok_stays reply _ (both_stay j q _ (λ j q. replica_stays j q (m.replicas j q) refl without_slot (λ x has. has)))
    changed_stays s verbs.Commit j q reply needs done = ok_stays reply _ (both_stay j q _ (λ j q. replica_stays j q (m.replicas j q) refl (with_committed (entry_of j m.cluster.entries)) (λ x has. committed_has (entry_of j m.cluster.entries) x call update has)))
    changed_stays s verbs.Apply j q reply needs done = ok_stays reply _ (both_stay j q _ (λ j q. replica_stays j q (m.replicas j q) refl (with_applied s.call (update_of s.op) m.cluster.moment (entry_of j m.cluster.entries))
        (λ x has. applied_has (entry_of j m.cluster.entries) s.call (update_of s.op) m.cluster.moment x call update has)))
    changed_stays s verbs.Mark j q reply needs done = ok_stays reply _ (both_stay j q _ (λ j q. replica_stays j q (m.replicas j q) refl (with_marks s.call (update_of s.op) m.cluster.moment) (λ x has. has)))
    changed_stays s verbs.Element j q reply needs done = ok_stays reply _ (both_stay j q _ (λ j q. replica_stays j q (m.replicas j q) refl (with_next_element (entry_of j m.cluster.entries)) (λ x has. subst (HasUpdate call update) (sym (element_effects (entry_of j m.cluster.entries) x)) has)))
    changed_stays s verbs.Unmark j q reply needs done = ok_stays reply _ (both_stay j q _ (λ j q. replica_stays j q (m.replicas j q) refl without_marks (λ x has. unmarked_has x call update has)))
    changed_stays s verbs.Iter j q reply needs done = ok_stays reply _ (both_stay j q _ (λ j q. stay))
    changed_stays s verbs.Next j q reply needs done = ok_stays reply _ (both_stay j q _ (λ j q. stay))
    changed_stays s verbs.Leave j q reply needs done = ok_stays reply _ (step_stays (departed (client_of s.call)) (departed_on k m.cluster stay.given rises up_to (client_of s.call)))
    changed_stays s verbs.Close j q reply needs done = ok_stays reply _ (one_stays j _ (λ j. step_stays (closed j (client_of s.call))
        (changed_on k m.cluster stay.given rises up_to j (unreferred (client_of s.call) m.cluster.moment) (released-identity (client_of s.call) m.cluster.moment) (released_made (client_of s.call) m.cluster.moment))))
    changed_stays s verbs.Unlink j q reply needs done = ok_stays reply _ (one_stays j _ (λ j. step_stays (unlinked j) (changed_on k m.cluster stay.given rises up_to j unnamed (λ e. refl) (λ e. StaysMade-kept e (unnamed e) refl refl refl refl refl refl))))
    changed_stays s verbs.Retain j q reply needs done = ok_stays reply _ (one_stays j _ (λ j. step_stays (retained_for (asked s.op) j) (retained_for_on k m.cluster stay.given rises up_to (asked s.op) j)))
    changed_stays s verbs.Look j q reply needs done = look_stays reply _ _ stay (making_stays (making_of s.call m.cluster))
    changed_stays s verbs.Install j q reply needs done = done
    changed_stays s verbs.Hold j q reply needs done = ok_stays reply _ (one_stays j _ (λ j. step_stays (hold_set j s.call) (changed_on k m.cluster stay.given rises up_to j (with_hold s.call) (held-identity s.call) (held_made s.call))))
    changed_stays s verbs.Activate j q reply needs done = done
    changed_stays s verbs.Complete j q reply needs done = done
    changed_stays s verb j q reply needs done = stay

  -- any label that is allowed, and does not take the active
  pub after_stays : Invariant m → IsBare m → (l : Label) → Allowed m l → LabelLeaves (entry_of k m.cluster.entries) l → Stays k call update (after m l)
  after_stays inv bare (labels.Began d op end details) allowed leaves = record { given = stay.given; made = stay.made; some = stay.some; led = stay.led; its = stay.its }
  after_stays inv bare (labels.Stepped d op verb j q reply end details) allowed leaves =
      let s = allowed.state in
      let held : m.in_hand (who s) ≡ Some s = held_as m d op s allowed.in_hand allowed.call_is allowed.word in
      let then = changed_stays inv.holds.rises inv.holds.up_to s verb j q reply (row_needs m inv s verb j q reply end details allowed.row) (installs inv.holds.rises inv.holds.up_to inv bare s held verb j q reply (record { verb = verb; ckpt = j; node = q; reply = reply; end = end; details = details }) allowed.own allowed.row) in
      subst (λ o. Stays k call update (step_of m o verb j q reply end)) (sym allowed.in_hand) (record { given = then.given; made = then.made; some = then.some; led = then.led; its = then.its })
  after_stays inv bare (labels.Word by line said) allowed leaves = stay
  after_stays inv bare (labels.Nodes n) allowed leaves = record { given = stay.given; made = stay.made; some = stay.some; led = stay.led; its = stay.its }
  after_stays inv bare (labels.Moved t) allowed leaves = record_stays (moved t m.cluster) (record { last = omega arith; rises = IdentitiesRise-filter (stays t) m.cluster.entries inv.holds.rises; made = ComesOf-filter StaysMade StaysMade-same (stays t) m.cluster.entries inv.holds.rises k })
  after_stays inv bare (labels.Shown j replicas) allowed leaves = stay
  after_stays inv bare (labels.Pulled j reply) allowed leaves = after_pull (Stays k call update) m j reply allowed stay (λ x from none. stay)
  after_stays inv bare (labels.Put j q reply) allowed leaves = after_put (Stays k call update) m j q reply stay (λ s x copied on. put_stays j q s x on)
  after_stays inv bare (labels.Failed r true) allowed leaves = failure_stays inv bare r allowed.1 leaves
  after_stays inv bare (labels.Failed r false) allowed leaves = stay
  after_stays inv bare (labels.Joined r (Some incarnation)) allowed leaves = record { given = stay.given; made = stay.made; some = stay.some; led = stay.led; its = stay.its }
  after_stays inv bare (labels.Joined r None) allowed leaves = stay
