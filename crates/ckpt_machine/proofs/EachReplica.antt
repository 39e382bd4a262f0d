-- What is said of a replica by its checkpoint's entry and its node, and of a snapshot by that entry, and what keeps it at each step: then it holds of each replica and each snapshot, in a hand too, in every state of a run. And where updates go to the active alone, no other replica and no snapshot of its generation is ahead of it.
use Rattle.std.proofs.Common.{◌≡◌, ◌⊎◌, inl, inr, ℕ, ◌+◌, ◌≤◌, List, [], ◌∷◌, ◌++◌, Option, Some, None, Bool, true, false, cond, not, ◌==◌, refl, sym, ap, subst, ◌∙◌, append_assoc, arith}
use Rattle.std.specs.Option.{option_map}
use Rattle.std.specs.Prelude.{IsSome, IsSomeAnd, IfSome, slice_index}
use Rattle.std.proofs.lemmas.List.{append-nil}
use Rattle.std.proofs.lemmas.Option.{same_Some}
use Rattle.ckpt_machine.proofs.Dropped.{held_as}
use Rattle.ckpt_types.specs.declared.answers.Outcome.{Outcome}
use Rattle.ckpt_types.specs.declared.identities.CallId.{CallId}
use Rattle.ckpt_types.specs.declared.operation.Op.{Op}
use Rattle.ckpt_types.specs.declared.update.Update.{Update}
use Rattle.ckpt_types.specs.Asks.{Ask, asked, update_asked, update_of}
use Rattle.ckpt_types.specs.Asks as asks
use Rattle.weak_marks.specs.Marks.{Marked}
use Rattle.node_msgs.specs.declared.steps.Verb.{Verb}
use Rattle.node_msgs.specs.declared.steps.Verb.TheVariants as verbs
use Rattle.node_msgs.specs.declared.steps.StepReply.{StepReply}
use Rattle.node_msgs.specs.declared.steps.StepReply.TheVariants as words
use Rattle.run_labels.specs.declared.labels.Label.{Label}
use Rattle.run_labels.specs.declared.labels.Label.TheVariants as labels
use Rattle.ckpt_types.specs.declared.attributes.CreationAttributes.{CreationAttributes}
use Rattle.cluster_record.specs.Placement.{is_collocated, is_all}
use Rattle.cluster_record.specs.declared.entries.Entry.{Entry}
use Rattle.cluster_record.specs.Calls.{client_of, left}
use Rattle.cluster_record.specs.Makings.{making_of}
use Rattle.cluster_record.specs.Places.{change_key, put, put2}
use Rattle.cluster_record.specs.RecordState.{RecordState, entry_of, identity_of, complete_of, stays, swept, moved, entered, finished, home_of, opened_with, unreferred, unnamed, departed, undone, with_hold, hold_set, active_set}
use Rattle.cluster_record.proofs.IdentityLaws.{IdentitiesRise-filter}
use Rattle.ckpt_machine.specs.Beginning.{update_is_bad}
use Rattle.ckpt_machine.specs.BeginRows.{has_bad_arguments}
use Rattle.ckpt_machine.specs.Guards.{AsksUpdate, IsOnOwn, Row, Allowed}
use Rattle.ckpt_machine.specs.ActiveGuards.{ApplyOk, MarkOk, AreMarksOf, PullOk, HoldOk}
use Rattle.ckpt_machine.specs.CopyGuards.{CopyPullOk}
use Rattle.ckpt_machine.specs.InHand.{IsUpdateAsk}
use Rattle.ckpt_machine.specs.UpdateGuards.{ClaimRow, CommitOk, CommitRow, StageRow, WithdrawRow}
use Rattle.ckpt_machine.specs.GuardTerms.{OnAll, OnActive}
use Rattle.ckpt_machine.specs.Invariant.{Invariant}
use Rattle.ckpt_machine.specs.Machine.{Machine, Effect, Applied, ReplicaState, Snapshot, CallState, who}
use Rattle.ckpt_machine.specs.Options.{is_weak, is_by_element}
use Rattle.ckpt_machine.specs.Propagation.{copied, replica_from}
use Rattle.ckpt_machine.specs.Replays.{IsPrefix}
use Rattle.ckpt_machine.specs.Runs.{last, IsRun}
use Rattle.ckpt_machine.specs.Shape.{IsApart, IsShapedBy}
use Rattle.ckpt_machine.specs.After.{with_record, record_step, created_for, retained_for, change_replica, with_committed, with_applied, with_slot, with_marks, next_element_written, with_next_element, marks_ended, without_marks, changed, on_ok, on_look, without_making, at_some, replica_under, opened_state, pulled_by, kept_behind, kept_by, step_of, call_begun, after_beginning, staged_moment, after, with_closed, with_claim, without_slot}
use Rattle.ckpt_machine.specs.Due.{Told, IsDone, IsDue, due}
use Rattle.ckpt_machine.proofs.Activating.{Leads, leader, with_leader, led_by, led_goes, found_led, led_made, led_entry, leader-cases, after_activate}
use Rattle.ckpt_machine.proofs.ActiveNode.{active_complete}
use Rattle.ckpt_machine.proofs.Askers.{IsCopyAsk}
use Rattle.ckpt_machine.proofs.BegunBefore.{AllBegan, HasBegunAs, began_more, each_began, was_asked}
use Rattle.ckpt_machine.proofs.CompletedEach.{completed_each}
use Rattle.ckpt_machine.proofs.Completions.{after_complete}
use Rattle.ckpt_machine.proofs.EachKept.{is_free-for, follows_as, made_where_complete_at, entry_there, same_identity, copied_there, stayed, snapshot_goes, copy_goes, hand_goes}
pub use Rattle.ckpt_machine.proofs.EachKept.{FollowsBy, IsAhead, IsPulledOf, EachIn, IsKeptWhen, IsKept}
use Rattle.ckpt_machine.proofs.Copying.{IsOfSource, IsPulledFrom, IsPutOn, TakesOver, not_active, after_pull, after_put_over, put-cases, put2-cases}
use Rattle.ckpt_machine.proofs.Entries.{ComesOf-filter}
use Rattle.ckpt_machine.proofs.EntryLists.{entry_of-given}
use Rattle.ckpt_machine.proofs.FailedEach.{failed_each}
use Rattle.ckpt_machine.proofs.Follows.{under, snapshot_was, element_effects}
use Rattle.ckpt_machine.proofs.GoodArguments.{HaveGoodArguments, good_arguments}
use Rattle.ckpt_machine.proofs.Generations.{generation_there}
use Rattle.ckpt_machine.proofs.Histories.{HasHistory, shaped_there, on_replica-there, follows, run_history}
use Rattle.ckpt_machine.proofs.Installed.{after_install}
use Rattle.ckpt_machine.proofs.Joining.{collocated_apart, opened_with-identity}
use Rattle.ckpt_machine.proofs.OneReplica.{IsBehindFront, ComesNext, StepsWhen, IsActiveOf, CanBeMarked, IsMarkedFor, Grows, committed_generation, element_generation, committed_more, grows_same}
use Rattle.ckpt_machine.proofs.OptionLemmas.{IsSomeAnd-at, IsSomeAnd-from, IfSome-from, IfSome-at}
use Rattle.ckpt_machine.proofs.OwnMaking.{making_there}
pub use Rattle.ckpt_machine.proofs.PulledInHand.{PulledInHand}
use Rattle.ckpt_machine.proofs.PulledInHand.{begun_empty}
use Rattle.ckpt_machine.proofs.Prefixes.{prefix_of_same, prefix_of_none, prefix_then}
use Rattle.ckpt_machine.proofs.References.{released-identity}
use Rattle.ckpt_machine.proofs.Refusing.{by_update}
use Rattle.ckpt_machine.proofs.Runs.{along}
use Rattle.ckpt_machine.proofs.Starting.{first_kept}
use Rattle.ckpt_machine.proofs.Sync.{left_is}
use Rattle.ckpt_machine.specs.Whose.{put_who}
use Rattle.ckpt_types.specs.declared.identities.Who.{Who}
use Rattle.ckpt_types.specs.OpWord.{stepped_as, word_of_op}
use Rattle.ckpt_machine.proofs.Whose.{put_who-cases}
use Rattle.ckpt_machine.proofs.StaysMade.{StaysMade, StaysMade-same, StaysMade-kept, GoesOnMade, StaysMade-goes, held_made, held-identity, released_made, opened_made, MadeOn, MadeOn-swept, changed_on, filter_on, departed_on, created_for_on, retained_for_on, finished_on}
use Rattle.ckpt_machine.proofs.MarksAt.{none_elsewhere}

-- ---- what is kept

module _ (Q : Option Entry → ℕ → ReplicaState → Type 0) (S : Entry → Snapshot → Type 0) where
  -- so it is in a state
  abbrev pub Each : Machine → Type 0
  Each m = EachIn Q S m.cluster.last_identity m.cluster.entries m.replicas m.snapshots m.in_hand

  -- a call in hand that asks for this may have this snapshot
  record MayHaveIn (last : ℕ) (entries : List Entry) (replicas : ℕ → ℕ → Option ReplicaState) (ask : Ask) (k : ℕ) (s : Snapshot) : Type 0 where
    given : k ≤ last
    so : IfSome (entry_of k entries) (λ e. IsPulledOf ask e s × S e s)
    behind : (r : ℕ) (e : Entry) (y : ReplicaState) → entry_of k entries ≡ Some e → is_all e.attributes ≡ false → e.active ≡ Some r → replicas k r ≡ Some y → s.generation ≡ e.generation → IsPrefix s.effects y.effects

  abbrev MayHave : Machine → Ask → ℕ → Snapshot → Type 0
  MayHave n ask k s = MayHaveIn n.cluster.last_identity n.cluster.entries n.replicas ask k s

  -- a call in hand may have what one has
  still_has : (n : Machine) → Each n → (k : ℕ) (s : Snapshot) (has : PulledInHand n.in_hand k s) → MayHave n (asked has.state.op) k s
  still_has n each k s has = record {
    given = (each.in_hand k s has).0;
    so = (each.in_hand k s has).1;
    behind = λ r e y found alone active at. (each.ahead k r e y found alone active at).in_hand s has;
  }

  -- it holds with other calls in hand, which have what they may
  hands_each : (n : Machine) → Each n → (hands : Who → Option CallState) → ((k : ℕ) (s : Snapshot) (has : PulledInHand hands k s) → MayHave n (asked has.state.op) k s) → Each (record n { in_hand = hands })
  hands_each n each hands may = record {
    replica = each.replica;
    snapshot = each.snapshot;
    in_hand = λ k s has. ((may k s has).given, (may k s has).so);
    ahead = λ k r e y found alone active at. (
        let before = each.ahead k r e y found alone active at in
        record { replica = before.replica; snapshot = before.snapshot; in_hand = λ s has. (may k s has).behind r e y found alone active at });
  }

  -- the replica of a node that was complete was there
  was_there : (o : Option Entry) (before r : ℕ) (old : Option ReplicaState) (y : ReplicaState) → (before == 0) ≡ false → replica_under o before r old ≡ Some y → old ≡ Some y
  was_there None before r old y complete is = absurd (cc is)
  was_there (Some e) before r old y complete is = elim (slice_index e.complete r == 0) as (λ b. cond b None (cond (before == 0) (Some (opened_state e)) old) ≡ Some y → old ≡ Some y) [
    | true ↦ λ none. absurd (cc none)
    | false ↦ λ some. subst (λ b. cond b (Some (opened_state e)) old ≡ Some y) complete some
  ] is

  module _ (When : Machine → Type 0) (log : List Label) (kept : IsKeptWhen Q S When log) (m : Machine) (when : When m) (began : AllBegan log m) (at_front : IsBehindFront log m) (inv : Invariant m) (history : HasHistory m) (arguments : HaveGoodArguments m) (each : Each m) where
    -- it holds after a step, of what was in hand before it
    abbrev EachHeld : Machine → Type 0
    EachHeld n = EachIn Q S n.cluster.last_identity n.cluster.entries n.replicas n.snapshots m.in_hand

    -- a step of the record: a replica was there, of a checkpoint that is made, or is as its opening makes it
    record_each : (R : RecordState) → ((k : ℕ) → k ≤ m.cluster.last_identity → MadeOn k m.cluster R) → Each (with_record m R)
    record_each R on = record { replica = replica; snapshot = snapshot_goes Q S When log kept m inv history each R last comes; in_hand = hand_goes Q S When log kept m inv history each R last comes; ahead = ahead }
      where
        -- what was made stays so
        still_made : (k : ℕ) (e f : Entry) → entry_of k m.cluster.entries ≡ Some e → entry_of k R.entries ≡ Some f → StaysMade e f
        still_made k e f there found =
            let (g, before, made) = (on k (entry_of-given m.cluster.last_identity k m.cluster.entries e inv.holds.up_to there)).made f found in
            subst (λ e. StaysMade e f) (same_Some g e (sym before ∙ there)) made

        last : (k : ℕ) → k ≤ m.cluster.last_identity → m.cluster.last_identity ≤ R.last_identity
        last k given = (on k given).last

        comes : (k : ℕ) → k ≤ m.cluster.last_identity → (f : Entry) → entry_of k R.entries ≡ Some f → (e : Entry) × (entry_of k m.cluster.entries ≡ Some e) × GoesOnMade e f
        comes k given f found = let (e, was, made) = (on k given).made f found in (e, was, StaysMade-goes e f made)

        replica : (k r : ℕ) (x : ReplicaState) → replica_under (entry_of k R.entries) (slice_index (complete_of (entry_of k m.cluster.entries)) r) r (m.replicas k r) ≡ Some x → Q (entry_of k R.entries) r x
        replica k r x is = by_entry (entry_of k R.entries) refl is
          where
            by_entry : (o : Option Entry) → entry_of k R.entries ≡ o → replica_under o (slice_index (complete_of (entry_of k m.cluster.entries)) r) r (m.replicas k r) ≡ Some x → Q o r x
            by_entry None found none = absurd (cc none)
            by_entry (Some f) found here = elim (slice_index f.complete r == 0) as (λ b. cond b None (cond (slice_index (complete_of (entry_of k m.cluster.entries)) r == 0) (Some (opened_state f)) (m.replicas k r)) ≡ Some x → Q (Some f) r x) [
              | true ↦ λ none. absurd (cc none)
              | false ↦ λ some. elim (slice_index (complete_of (entry_of k m.cluster.entries)) r == 0) as (λ b. cond b (Some (opened_state f)) (m.replicas k r) ≡ Some x → Q (Some f) r x) [
                | true ↦ λ new. subst (Q (Some f) r) (same_Some (opened_state f) x new) (kept.opened f r)
                | false ↦ λ old. stayed Q S When log kept m inv history each R last comes k r x f found old
              ] some
            ] here

        -- where the checkpoint was made, its active and its generation are as they were
        ahead_still : (k r : ℕ) (e f : Entry) (y : ReplicaState) → entry_of k m.cluster.entries ≡ Some e → e.making ≡ None → entry_of k R.entries ≡ Some f → is_all f.attributes ≡ false → f.active ≡ Some r
            → replica_under (entry_of k R.entries) (slice_index (complete_of (entry_of k m.cluster.entries)) r) r (m.replicas k r) ≡ Some y → IsAhead k (is_collocated f.attributes) f.generation m.replicas m.snapshots m.in_hand y
        ahead_still k r e f y there made found alone active is =
            let still = (still_made k e f there found).made made in
            let led : e.active ≡ Some r = sym still.active ∙ active in
            let complete : (slice_index (complete_of (entry_of k m.cluster.entries)) r == 0) ≡ false = subst (λ o. (slice_index (complete_of o) r == 0) ≡ false) (sym there) (active_complete m inv.shapes k e r inv.holds there made led) in
            subst (λ (z : CreationAttributes × ℕ). IsAhead k (is_collocated z.0) z.1 m.replicas m.snapshots m.in_hand y) (λ i. (sym still.attributes i, sym still.generation i)) (each.ahead k r e y there (ap is_all (sym still.attributes) ∙ alone) led (was_there (entry_of k R.entries) (slice_index (complete_of (entry_of k m.cluster.entries)) r) r (m.replicas k r) y complete is))

        ahead : (k r : ℕ) (f : Entry) (y : ReplicaState) → entry_of k R.entries ≡ Some f → is_all f.attributes ≡ false → f.active ≡ Some r → (with_record m R).replicas k r ≡ Some y → IsAhead k (is_collocated f.attributes) f.generation (with_record m R).replicas (with_record m R).snapshots m.in_hand y
        ahead k r f y found alone active is = record {
          replica = λ q x at present. elim (under (entry_of k R.entries) (slice_index (complete_of (entry_of k m.cluster.entries)) q) q (m.replicas k q) x at).1 [
            | inl was ↦ (let (e, there, made) = entry_there m inv history k q x was in (ahead_still k r e f y there made found alone active is).replica q x was present)
            | inr none ↦ prefix_of_none x.effects y.effects none
          ];
          snapshot = λ s at.
              let was = (IsSomeAnd-at (entry_of k R.entries) (λ e. m.snapshots k ≡ Some s) (snapshot_was (entry_of k R.entries) (m.snapshots k) s at)).2 in
              let (e, there, is_so) = copied_there Q S When log kept m inv history each k s was in
              (ahead_still k r e f y there is_so.0.source.made found alone active is).snapshot s was;
          in_hand = λ s has.
              let (given, so) = each.in_hand k s has in
              let (e, there, stays) = (on k given).made f found in
              let is_so = IfSome-at (entry_of k m.cluster.entries) (λ e. IsPulledOf (asked has.state.op) e s × S e s) so e there in
              (ahead_still k r e f y there is_so.0.made found alone active is).in_hand s has;
        }

    step_each : (step : RecordState → RecordState) → ((k : ℕ) → k ≤ m.cluster.last_identity → MadeOn k m.cluster (step m.cluster)) → Each (record_step step m)
    step_each step on = record_each (swept (step m.cluster)) (λ k given. MadeOn-swept k m.cluster (step m.cluster) (on k given))

    undone_each : (j : ℕ) → Each (record_step (undone j) m)
    undone_each j = step_each (undone j) (λ k given. filter_on k m.cluster given inv.holds.rises inv.holds.up_to (λ e. not (e.identity == j)))

    making_each : (j : Option ℕ) → EachHeld (without_making j m)
    making_each None = each
    making_each (Some j) = undone_each j

    -- what a replica becomes: what is said holds of it, and it has its effects still
    record BecomesThere (k r : ℕ) (x y : ReplicaState) : Type 0 where
      so : Q (entry_of k m.cluster.entries) r y
      grows : Grows m k r x y

    -- one replica changed
    replica_each : (k r : ℕ) (o : Option ReplicaState) → m.replicas k r ≡ o → (change : ReplicaState → ReplicaState) → ((x : ReplicaState) → m.replicas k r ≡ Some x → BecomesThere k r x (change x)) → EachHeld (change_replica m k r o change)
    replica_each k r None there change becomes = each
    replica_each k r (Some x) there change becomes = record {
      replica = λ j q z is. elim (put2-cases m.replicas k r (change x) j q z is) [
        | inl here ↦ subst (Q (entry_of j m.cluster.entries) q) here.2 (subst (λ q. Q (entry_of j m.cluster.entries) q (change x)) here.1 (subst (λ j. Q (entry_of j m.cluster.entries) r (change x)) here.0 so))
        | inr was ↦ each.replica j q z was.0
      ];
      snapshot = each.snapshot;
      in_hand = each.in_hand;
      ahead = λ j q e y found alone active is. elim (put2-cases m.replicas k r (change x) j q y is) [
        | inl here ↦ subst (IsAhead j (is_collocated e.attributes) e.generation (put2 m.replicas k r (Some (change x))) m.snapshots m.in_hand) here.2 (subst (λ j. IsAhead j (is_collocated e.attributes) e.generation (put2 m.replicas k r (Some (change x))) m.snapshots m.in_hand (change x)) here.0 (own e (ap (λ j. entry_of j m.cluster.entries) here.0 ∙ found) alone (active ∙ ap Some (sym here.1))))
        | inr was ↦ others j q e y found alone active was.0 was.1
      ];
    }
      where
        so : Q (entry_of k m.cluster.entries) r (change x)
        so = (becomes x there).so

        grows : Grows m k r x (change x)
        grows = (becomes x there).grows

        -- the active itself
        own : (e : Entry) → entry_of k m.cluster.entries ≡ Some e → is_all e.attributes ≡ false → e.active ≡ Some r → IsAhead k (is_collocated e.attributes) e.generation (put2 m.replicas k r (Some (change x))) m.snapshots m.in_hand (change x)
        own e found alone active =
            let before = each.ahead k r e x found alone active there in
            record {
              replica = λ q z at present. elim (put2-cases m.replicas k r (change x) k q z at) [
                | inl here ↦ prefix_of_same z.effects (change x).effects (ap (λ (z : ReplicaState). z.effects) here.2)
                | inr was ↦ prefix_then z.effects x.effects (change x).effects (before.replica q z was.0 present) grows.more
              ];
              snapshot = λ s at present. prefix_then s.effects x.effects (change x).effects (before.snapshot s at present) grows.more;
              in_hand = λ s has present. prefix_then s.effects x.effects (change x).effects (before.in_hand s has present) grows.more;
            }

        -- another one is the active, or it is of another checkpoint
        others : (j q : ℕ) (e : Entry) (y : ReplicaState) → entry_of j m.cluster.entries ≡ Some e → is_all e.attributes ≡ false → e.active ≡ Some q → m.replicas j q ≡ Some y → ((k ≡ j) → (r ≡ q) → ⊥) → IsAhead j (is_collocated e.attributes) e.generation (put2 m.replicas k r (Some (change x))) m.snapshots m.in_hand y
        others j q e y found alone active at other =
            let before = each.ahead j q e y found alone active at in
            record {
              replica = λ p z there_then present. elim (put2-cases m.replicas k r (change x) j p z there_then) [
                | inl here ↦ elim (grows.other e (ap (λ k. entry_of k m.cluster.entries) here.0 ∙ found) alone) [
                  | inl led ↦ absurd (other here.0 (same_Some r q (sym led ∙ active)))
                  | inr same ↦ subst (λ xs. IsPrefix xs y.effects) (sym same ∙ ap (λ (z : ReplicaState). z.effects) here.2) (before.replica r x (subst (λ j. m.replicas j r ≡ Some x) here.0 there) (follows_as (is_collocated e.attributes) e.generation x z (sym grows.generation ∙ ap (λ (z : ReplicaState). z.generation) here.2) present))
                ]
                | inr was ↦ before.replica p z was.0 present
              ];
              snapshot = before.snapshot;
              in_hand = before.in_hand;
            }

    -- a snapshot of the active
    pulled_each : (k : ℕ) (x : ReplicaState) → IsPulledFrom m k x → x.marks ≡ None → Each (record m { snapshots = put m.snapshots k (Some (copied x)) })
    pulled_each k x from none = record {
      replica = each.replica;
      snapshot = λ j s is. elim (put-cases m.snapshots k (copied x) j s is) [
        | inl here ↦ subst (λ s. IsSomeAnd (entry_of j m.cluster.entries) (λ e. IsOfSource e s × S e s)) here.1 (subst (λ j. IsSomeAnd (entry_of j m.cluster.entries) (λ e. IsOfSource e (copied x) × S e (copied x))) here.0 own)
        | inr was ↦ each.snapshot j s was
      ];
      in_hand = each.in_hand;
      ahead = λ j r e y found alone active at.
          let before = each.ahead j r e y found alone active at in
          record {
            replica = before.replica;
            snapshot = λ s is present. elim (put-cases m.snapshots k (copied x) j s is) [
              | inl here ↦ subst (λ (s : Snapshot). IsPrefix s.effects y.effects) here.1 (before.replica from.node x (subst (λ j. m.replicas j from.node ≡ Some x) here.0 from.there) (inr (ap (λ (s : Snapshot). s.generation) here.1 ∙ present)))
              | inr was ↦ before.snapshot s was present
            ];
            in_hand = before.in_hand;
          };
    }
      where
        own : IsSomeAnd (entry_of k m.cluster.entries) (λ e. IsOfSource e (copied x) × S e (copied x))
        own = IsSomeAnd-from (entry_of k m.cluster.entries) (λ e. IsOfSource e (copied x) × S e (copied x)) from.entry from.found
            (record { source = from.source; within = (generation_there m inv k from.node from.entry x from.found from.there).within; led = λ present. subst IsSome (sym from.active) refl }, kept.pulled from.entry from.node x none (subst (λ o. Q o from.node x) from.found (each.replica k from.node x from.there)))

    -- a call in hand may have what is the background snapshot of a checkpoint that is there
    copied_may : (ask : Ask) (k : ℕ) (s : Snapshot) (e : Entry) → entry_of k m.cluster.entries ≡ Some e → m.snapshots k ≡ Some s → MayHave m ask k s
    copied_may ask k s e found is = record {
      given = entry_of-given m.cluster.last_identity k m.cluster.entries e inv.holds.up_to found;
      so = (let (f, there, is_so) = IsSomeAnd-at (entry_of k m.cluster.entries) (λ e. IsOfSource e s × S e s) (each.snapshot k s is) in subst (λ o. IfSome o (λ e. IsPulledOf ask e s × S e s)) (sym there) (record { made = is_so.0.source.made; source = λ which. is_so.0 }, is_so.1));
      behind = λ r f y at alone active there. (each.ahead k r f y at alone active there).snapshot s is;
    }

    -- on what a snapshot is put nothing is staged, and no marks stand
    put_apart : (k r : ℕ) (x : ReplicaState) (on : IsPutOn m k r x) → IsApart None x
    put_apart k r x on =
        let shaped = (shaped_there m inv.shapes inv.holds history.bare k r x on.entry on.there on.found).shaped in
        subst (λ marks. IsApart marks x) (none_elsewhere on.entry.active (inv.shapes k).marks r on.other) (subst (λ all. IsShapedBy all (inv.shapes k) on.entry.active r x) on.alone shaped)

    -- a replica that takes a snapshot
    put_each : (ask : Ask) (k r : ℕ) (s : Snapshot) (x : ReplicaState) → MayHave m ask k s → TakesOver m k r s x → Each (record m { replicas = put2 m.replicas k r (Some (replica_from s x)) })
    put_each ask k r s x may over = record {
      replica = λ j q z at. elim (put2-cases m.replicas k r (replica_from s x) j q z at) [
        | inl here ↦ subst (Q (entry_of j m.cluster.entries) q) here.2 (subst (λ q. Q (entry_of j m.cluster.entries) q (replica_from s x)) here.1 (subst (λ j. Q (entry_of j m.cluster.entries) r (replica_from s x)) here.0 own))
        | inr was ↦ each.replica j q z was.0
      ];
      snapshot = each.snapshot;
      in_hand = each.in_hand;
      ahead = λ j q e y found alone active at. elim (put2-cases m.replicas k r (replica_from s x) j q y at) [
        | inl here ↦ absurd (
            let same : e ≡ on.entry = same_Some e on.entry (sym found ∙ ap (λ k. entry_of k m.cluster.entries) (sym here.0) ∙ on.found) in
            not_active on.entry.active r on.other (ap (λ (e : Entry). e.active) (sym same) ∙ active ∙ ap Some (sym here.1)))
        | inr was ↦ (
            let before = each.ahead j q e y found alone active was.0 in
            record {
              replica = λ p z there present. elim (put2-cases m.replicas k r (replica_from s x) j p z there) [
                | inl here ↦ (
                    let same : e ≡ on.entry = same_Some e on.entry (sym found ∙ ap (λ k. entry_of k m.cluster.entries) (sym here.0) ∙ on.found) in
                    subst (λ (z : ReplicaState). IsPrefix z.effects y.effects) here.2 ((subst (λ j. MayHave m ask j s) here.0 may).behind q e y found alone active was.0 (over.present ∙ ap (λ (e : Entry). e.generation) (sym same))))
                | inr was ↦ before.replica p z was.0 present
              ];
              snapshot = before.snapshot;
              in_hand = before.in_hand;
            })
      ];
    }
      where
        on : IsPutOn m k r x
        on = over.on

        own : Q (entry_of k m.cluster.entries) r (replica_from s x)
        own =
            let apart = put_apart k r x on in
            let is_so = IfSome-at (entry_of k m.cluster.entries) (λ e. IsPulledOf ask e s × S e s) may.so on.entry on.found in
            subst (λ o. Q o r (replica_from s x)) (sym on.found) (kept.put on.entry r s x over.present apart.free apart.marks_are is_so.1 (subst (λ o. Q o r x) on.found (each.replica k r x on.there)))

    -- what a call may have, it may have behind a step of the record that leaves what is made as it was
    still_may : (R : RecordState) → ((k : ℕ) → k ≤ m.cluster.last_identity → MadeOn k m.cluster R) → (ask : Ask) (k : ℕ) (s : Snapshot) → MayHave m ask k s → MayHave (with_record m R) ask k s
    still_may R on ask k s may = record {
      given = (let given = may.given in let later = (on k given).last in omega (arith, given, later));
      so = copy_goes Q S When log kept m inv history each R (λ k given. (on k given).last) (λ k given f found. (let (e, was, made) = (on k given).made f found in (e, was, StaysMade-goes e f made))) ask k s may.given may.so;
      behind = λ r f y found alone active at present. (
          let (e, there, stays) = (on k may.given).made f found in
          let made = (IfSome-at (entry_of k m.cluster.entries) (λ e. IsPulledOf ask e s × S e s) may.so e there).0.made in
          let still = stays.made made in
          let led : e.active ≡ Some r = sym still.active ∙ active in
          let complete : (slice_index (complete_of (entry_of k m.cluster.entries)) r == 0) ≡ false = subst (λ o. (slice_index (complete_of o) r == 0) ≡ false) (sym there) (active_complete m inv.shapes k e r inv.holds there made led) in
          may.behind r e y there (ap is_all (sym still.attributes) ∙ alone) led (was_there (entry_of k R.entries) (slice_index (complete_of (entry_of k m.cluster.entries)) r) r (m.replicas k r) y complete at) (present ∙ still.generation));
    }

    -- a node that leads its checkpoint anew
    leads_each : (s : CallState) (k r : ℕ) (lead : Leads m s k r) → Each (with_leader m s k r lead)
    leads_each s k r lead = record { replica = replica; snapshot = snapshot_goes Q S When log kept m inv history each n.cluster last comes; in_hand = hand_goes Q S When log kept m inv history each n.cluster last comes; ahead = ahead }
      where
        n : Machine
        n = with_leader m s k r lead

        last : (k : ℕ) → k ≤ m.cluster.last_identity → m.cluster.last_identity ≤ n.cluster.last_identity
        last k given = omega arith

        comes : (j : ℕ) → j ≤ m.cluster.last_identity → (f : Entry) → entry_of j n.cluster.entries ≡ Some f → (e : Entry) × (entry_of j m.cluster.entries ≡ Some e) × GoesOnMade e f
        comes j given f found = led_made m inv s k r lead j f found

        -- what is in the hand of the call is so
        copied_so : IfSome s.snapshot (S lead.entry)
        copied_so = IfSome-from s.snapshot (S lead.entry) (λ z is. (
            let has : PulledInHand m.in_hand k z = record { name = (who s); state = s; in_hand = lead.held; ckpt = lead.ckpt; snapshot = is } in
            (IfSome-at (entry_of k m.cluster.entries) (λ e. IsPulledOf (asked s.op) e z × S e z) (each.in_hand k z has).1 lead.entry lead.found).1))

        -- the replica that leads
        own : Q (entry_of k n.cluster.entries) r (leader m s k r lead)
        own =
            let apart = put_apart k r lead.replica (record { entry = lead.entry; found = lead.found; alone = collocated_apart lead.entry.attributes lead.collocated; other = lead.other; there = lead.there }) in
            subst (λ o. Q o r (leader m s k r lead)) (sym lead.set) (kept.led lead.entry (led_by r lead.entry) r s.snapshot lead.replica (same_identity m inv history n.cluster k lead.entry (led_by r lead.entry) lead.found lead.set) (led_goes r lead.entry) lead.made (is_free-for s.snapshot lead.replica apart.free) apart.marks_are copied_so (subst (λ o. Q o r lead.replica) lead.found (each.replica k r lead.replica lead.there)))

        replica : (j q : ℕ) (z : ReplicaState) → n.replicas j q ≡ Some z → Q (entry_of j n.cluster.entries) q z
        replica j q z is = elim (leader-cases m inv s k r lead j q z is) [
          | inl here ↦ subst (Q (entry_of j n.cluster.entries) q) here.2 (subst (λ q. Q (entry_of j n.cluster.entries) q (leader m s k r lead)) here.1 (subst (λ j. Q (entry_of j n.cluster.entries) r (leader m s k r lead)) here.0 own))
          | inr was ↦ (let (g, found) = led_entry m inv s k r lead j q z is in subst (λ o. Q o q z) (sym found) (stayed Q S When log kept m inv history each n.cluster last comes j q z g found was.0))
        ]

        -- nothing else is of the generation of what is led
        none_other : (g : ℕ) → g ≤ lead.entry.generation → g ≡ lead.entry.generation + 1 → ⊥
        none_other g within is = omega (arith, within, is)

        -- of the checkpoint that the node leads
        led_ahead : (y : ReplicaState) → n.replicas k r ≡ Some y → IsAhead k (is_collocated lead.entry.attributes) (lead.entry.generation + 1) n.replicas n.snapshots n.in_hand y
        led_ahead y is = record {
          replica = λ q z at present. elim (leader-cases m inv s k r lead k q z at) [
            | inl here ↦ prefix_of_same z.effects y.effects (ap (λ (z : ReplicaState). z.effects) (same_Some y z (sym is ∙ ap (n.replicas k) here.1 ∙ at)))
            | inr was ↦ elim present [
              | inl apart ↦ absurd (let w : true ≡ false = sym lead.collocated ∙ apart in cc w)
              | inr present ↦ absurd (none_other z.generation (generation_there m inv k q lead.entry z lead.found was.0).within present)
            ]
          ];
          snapshot = λ z at present. (
              let (f, found, was) = IsSomeAnd-at (entry_of k n.cluster.entries) (λ e. m.snapshots k ≡ Some z) (snapshot_was (entry_of k n.cluster.entries) (m.snapshots k) z at) in
              let (e, there, is_so) = copied_there Q S When log kept m inv history each k z was in
              absurd (none_other z.generation (subst (λ (e : Entry). z.generation ≤ e.generation) (same_Some e lead.entry (sym there ∙ lead.found)) is_so.0.within) present));
          in_hand = λ z has present. absurd (none_other z.generation ((IfSome-at (entry_of k m.cluster.entries) (λ e. IsPulledOf (asked has.state.op) e z × S e z) (each.in_hand k z has).1 lead.entry lead.found).0.source (inl (collocated_apart lead.entry.attributes lead.collocated))).within present);
        }

        -- and of any other
        other_ahead : (j q : ℕ) (g : Entry) (y : ReplicaState) → ((j ≡ k) → ⊥) → entry_of j m.cluster.entries ≡ Some g → is_all g.attributes ≡ false → g.active ≡ Some q → n.replicas j q ≡ Some y → IsAhead j (is_collocated g.attributes) g.generation n.replicas n.snapshots n.in_hand y
        other_ahead j q g y other found alone active is =
            let before = each.ahead j q g y found alone active (as_it_was q y is) in
            record {
              replica = λ p z at present. before.replica p z (as_it_was p z at) present;
              snapshot = λ z at present. before.snapshot z (IsSomeAnd-at (entry_of j n.cluster.entries) (λ e. m.snapshots j ≡ Some z) (snapshot_was (entry_of j n.cluster.entries) (m.snapshots j) z at)).2 present;
              in_hand = before.in_hand;
            }
          where
            as_it_was : (p : ℕ) (z : ReplicaState) → n.replicas j p ≡ Some z → m.replicas j p ≡ Some z
            as_it_was p z at = elim (leader-cases m inv s k r lead j p z at) [ inl here ↦ absurd (other (sym here.0)) | inr was ↦ was.0 ]

        ahead : (j q : ℕ) (g : Entry) (y : ReplicaState) → entry_of j n.cluster.entries ≡ Some g → is_all g.attributes ≡ false → g.active ≡ Some q → n.replicas j q ≡ Some y → IsAhead j (is_collocated g.attributes) g.generation n.replicas n.snapshots n.in_hand y
        ahead j q g y found alone active is = elim (found_led m inv s k r lead j g found) [
          | inl here ↦ (
              let node : r ≡ q = same_Some r q (sym (ap (λ (e : Entry). e.active) here.1) ∙ active) in
              let at : n.replicas k r ≡ Some y = ap (n.replicas k) node ∙ ap (λ j. n.replicas j q) (sym here.0) ∙ is in
              subst (λ (e : Entry). IsAhead j (is_collocated e.attributes) e.generation n.replicas n.snapshots n.in_hand y) (sym here.1) (subst (λ j. IsAhead j (is_collocated lead.entry.attributes) (lead.entry.generation + 1) n.replicas n.snapshots n.in_hand y) (sym here.0) (led_ahead y at)))
          | inr was ↦ other_ahead j q g y was.0 was.1 alone active is
        ]

    -- what is done on OK alone, and at a checkpoint and a node that are named
    ok_each : (reply : StepReply) (n : Machine) → EachHeld n → EachHeld (on_ok reply m n)
    ok_each words.Ok n then = then
    ok_each reply n then = each

    look_each : (reply : StepReply) (done refused : Machine) → EachHeld done → EachHeld refused → EachHeld (on_look reply m done refused)
    look_each words.Done done refused after_done after_refused = after_done
    look_each words.Refused done refused after_done after_refused = after_refused
    look_each reply done refused after_done after_refused = each

    one_each : (j : Option ℕ) (change : ℕ → Machine) → ((j : ℕ) → EachHeld (change j)) → EachHeld (at_some j m change)
    one_each None change then = each
    one_each (Some j) change then = then j

    both_each : (j q : Option ℕ) (change : ℕ → ℕ → Machine) → ((j q : ℕ) → EachHeld (change j q)) → EachHeld (at_some j m (λ j. at_some q m (change j)))
    both_each j q change then = one_each j _ (λ j. one_each q (change j) (then j))

    -- one entry changed, that stays made
    entry_each : (j : ℕ) (f : RecordState → Entry → Entry) → ((e : Entry) → (f m.cluster e).identity ≡ e.identity) → ((e : Entry) → StaysMade e (f m.cluster e)) → Each (record_step (λ R. record R { entries = change_key identity_of j (f R) R.entries }) m)
    entry_each j f keeps made = step_each (λ R. record R { entries = change_key identity_of j (f R) R.entries }) (λ k given. changed_on k m.cluster given inv.holds.rises inv.holds.up_to j (f m.cluster) keeps made)

    -- where a step is done on a replica, it leaves what is kept
    abbrev Becomes : Option ℕ → Option ℕ → StepReply → (ℕ → ReplicaState → ReplicaState) → Type 0
    Becomes (Some k) (Some r) words.Ok change = (x : ReplicaState) → m.replicas k r ≡ Some x → BecomesThere k r x (change k x)
    Becomes k r reply change = Unit {0}

    -- what a step of a call needs: what it finishes was in the making by it, and on the replica on which it is taken it leaves what is kept, as an installation, the setting of an active and a completion do
    abbrev Needs : CallState → Verb → Option ℕ → Option ℕ → StepReply → Type 0
    Needs s verbs.Finish (Some j) q words.Ok = IsSomeAnd (entry_of j m.cluster.entries) (λ e. e.making ≡ Some s.call)
    Needs s verbs.Stage k r reply = Becomes k r reply (λ k. with_slot s.call (update_of s.op) (staged_moment m k))
    Needs s verbs.Claim k r reply = Becomes k r reply (λ k. with_claim s.call)
    Needs s verbs.Withdraw k r reply = Becomes k r reply (λ k. without_slot)
    Needs s verbs.Commit k r reply = Becomes k r reply (λ k. with_committed (entry_of k m.cluster.entries))
    Needs s verbs.Apply k r reply = Becomes k r reply (λ k. with_applied s.call (update_of s.op) m.cluster.moment (entry_of k m.cluster.entries))
    Needs s verbs.Mark k r reply = Becomes k r reply (λ k. with_marks s.call (update_of s.op) m.cluster.moment)
    Needs s verbs.Element k r reply = Becomes k r reply (λ k. with_next_element (entry_of k m.cluster.entries))
    Needs s verbs.Unmark k r reply = Becomes k r reply (λ k. without_marks)
    Needs s verbs.Install k r reply = EachHeld (changed m s verbs.Install k r reply)
    Needs s verbs.Activate k r reply = EachHeld (changed m s verbs.Activate k r reply)
    Needs s verbs.Complete k r reply = EachHeld (changed m s verbs.Complete k r reply)
    Needs s verb k r reply = Unit {0}

    finished_each : (s : CallState) (j q : Option ℕ) (reply : StepReply) → Needs s verbs.Finish j q reply → EachHeld (changed m s verbs.Finish j q reply)
    finished_each s (Some j) q words.Ok by = step_each (finished j (client_of s.call)) (λ k given. finished_on k m.cluster given inv.holds.rises inv.holds.up_to s.call j (client_of s.call) by)
    finished_each s None q words.Ok by = each
    finished_each s j q reply by = each

    becomes_each : (k r : Option ℕ) (reply : StepReply) (change : ℕ → ReplicaState → ReplicaState) → Becomes k r reply change → EachHeld (on_ok reply m (at_some k m (λ k. at_some r m (λ r. change_replica m k r (m.replicas k r) (change k)))))
    becomes_each (Some k) (Some r) words.Ok change becomes = replica_each k r (m.replicas k r) refl (change k) becomes
    becomes_each (Some k) None words.Ok change becomes = each
    becomes_each None r words.Ok change becomes = each
    becomes_each k r reply change becomes = each

    -- any step
    changed_each : (s : CallState) (verb : Verb) (j q : Option ℕ) (reply : StepReply) → Needs s verb j q reply → EachHeld (changed m s verb j q reply)
    changed_each s verbs.Enter j q reply needs = ok_each reply _ (one_each q _ (λ q. step_each (entered (client_of s.call) q s.call.number) (λ k given. record { last = omega arith; rises = inv.holds.rises; made = λ f found. (f, found, StaysMade-same f) })))
    changed_each s verbs.Open j q reply needs = ok_each reply _ (one_each j _ (λ j. entry_each j (λ R. opened_with (home_of (client_of s.call) R) R.up (client_of s.call)) (opened_with-identity (home_of (client_of s.call) m.cluster) m.cluster.up (client_of s.call)) (opened_made (home_of (client_of s.call) m.cluster) m.cluster.up (client_of s.call))))
    changed_each s verbs.Create j q reply needs = ok_each reply _ (step_each (created_for s.call (asked s.op)) (λ k given. created_for_on k m.cluster given inv.holds.rises inv.holds.up_to s.call (asked s.op)))
    changed_each s verbs.Reserve j q reply needs = ok_each reply _ (both_each j q _ (λ j q. each))
    changed_each s verbs.Finish j q reply needs = finished_each s j q reply needs
    changed_each s verbs.Undo j q reply needs = ok_each reply _ (one_each j _ undone_each)
    changed_each s verbs.Stage j q reply needs = becomes_each j q reply _ needs
    changed_each s verbs.Claim j q reply needs = becomes_each j q reply _ needs
    changed_each s verbs.Withdraw j q reply needs = becomes_each j q reply _ needs
    changed_each s verbs.Commit j q reply needs = becomes_each j q reply _ needs
    changed_each s verbs.Apply j q reply needs = becomes_each j q reply _ needs
    changed_each s verbs.Mark j q reply needs = becomes_each j q reply _ needs
    changed_each s verbs.Element j q reply needs = becomes_each j q reply _ needs
    changed_each s verbs.Unmark j q reply needs = becomes_each j q reply _ needs
    changed_each s verbs.Install j q reply needs = needs
    changed_each s verbs.Hold j q reply needs = ok_each reply _ (one_each j _ (λ j. entry_each j (λ R. with_hold s.call) (held-identity s.call) (held_made s.call)))
    changed_each s verbs.Activate j q reply needs = needs
    changed_each s verbs.Complete j q reply needs = needs
    changed_each s verbs.Iter j q reply needs = ok_each reply _ (both_each j q _ (λ j q. each))
    changed_each s verbs.Next j q reply needs = ok_each reply _ (both_each j q _ (λ j q. each))
    changed_each s verbs.Leave j q reply needs = ok_each reply _ (step_each (departed (client_of s.call)) (λ k given. departed_on k m.cluster given inv.holds.rises inv.holds.up_to (client_of s.call)))
    changed_each s verbs.Close j q reply needs = ok_each reply _ (one_each j _ (λ j. entry_each j (λ R. unreferred (client_of s.call) R.moment) (released-identity (client_of s.call) m.cluster.moment) (released_made (client_of s.call) m.cluster.moment)))
    changed_each s verbs.Unlink j q reply needs = ok_each reply _ (one_each j _ (λ j. entry_each j (λ R. unnamed) (λ e. refl) (λ e. StaysMade-kept e (unnamed e) refl refl refl refl refl refl)))
    changed_each s verbs.Retain j q reply needs = ok_each reply _ (one_each j _ (λ j. step_each (retained_for (asked s.op) j) (λ k given. retained_for_on k m.cluster given inv.holds.rises inv.holds.up_to (asked s.op) j)))
    changed_each s verbs.Look j q reply needs = look_each reply (with_closed s m) (without_making (making_of s.call m.cluster) m) each (making_each (making_of s.call m.cluster))
    changed_each s verb j q reply needs = each

    steps_on : (s : CallState) → m.in_hand (who s) ≡ Some s → (t : Told) → IsDone m s (due m s) t → (verb : Verb) → t.verb ≡ verb → (k r : ℕ) (x : ReplicaState) → m.replicas k r ≡ Some x → Some k ≡ s.kept.ckpt → IsUpdateAsk (asked s.op) → StepsWhen When log m s verb k r x
    steps_on s held t done verb is k r x there own asks_it = record {
      inv = inv;
      history = history;
      at = at_front;
      held = held;
      there = there;
      told = t;
      verb_is = is;
      done = done;
      asks = asks_it;
      kept = sym own;
      asked = was_asked log s k (began s held) (sym own) asks_it;
      when = when;
    }

    -- what is asked for in a row
    change_asks : (s : CallState) (place : ℕ) (update : Update) → asked s.op ≡ asks.Change place update → IsUpdateAsk (asked s.op)
    change_asks s place update is = subst IsUpdateAsk (sym is) tt

    update_asks : (s : CallState) (P : Update → (Bool → Bool) → Type 0) → AsksUpdate m s P → IsUpdateAsk (asked s.op)
    update_asks s P (inl change) = change_asks s change.0 change.1 change.2
    update_asks s P (inr copies) = subst IsUpdateAsk (sym copies.0) tt

    -- what a row says of the active and its replica
    on_active-there : (update : Update) (by_element : Bool) (k r : ℕ) (P : Entry → ReplicaState → Type 0) → OnActive m update by_element k r P → (x : ReplicaState) → m.replicas k r ≡ Some x → (e : Entry) × IsActiveOf m k r e × (is_by_element (is_weak e.attributes) update ≡ by_element) × P e x
    on_active-there update by_element k r P on x there =
        let (e, y, found, at, facts) = on_replica-there m k r (λ e x. (is_all e.attributes ≡ false) × (e.active ≡ Some r) × (e.hold ≡ None) × (is_by_element (is_weak e.attributes) update ≡ by_element) × P e x) on in
        (e, record { found = found; alone = facts.0; active = facts.1 }, facts.3, subst (P e) (same_Some y x (sym at ∙ there)) facts.4)

    committed_needs : (s : CallState) (k r : ℕ) (x : ReplicaState) (update : Update) (ends : Bool → Bool) (t : Told) → StepsWhen When log m s verbs.Commit k r x → OnAll m k r (λ e x. CommitOk m s.call update ends k r t.end t.details x) → BecomesThere k r x (with_committed (entry_of k m.cluster.entries) x)
    committed_needs s k r x update ends t step on =
        let (e, y, found, at, facts) = on_replica-there m k r (λ e x. (is_all e.attributes ≡ true) × CommitOk m s.call update ends k r t.end t.details x) on in
        record {
          so = subst (λ o. Q o r (with_committed o x)) (sym found) (kept.committed m s k r x e step (record { found = found; all = facts.0 }) (subst (λ o. Q o r x) found (each.replica k r x step.there)));
          grows = record {
            generation = committed_generation (entry_of k m.cluster.entries) x;
            more = committed_more (entry_of k m.cluster.entries) x;
            other = λ f is alone. absurd (let w : true ≡ false = sym facts.0 ∙ ap (λ (e : Entry). is_all e.attributes) (same_Some e f (sym found ∙ is)) ∙ alone in cc w);
          };
        }

    module _ (s : CallState) (k r : ℕ) (x : ReplicaState) (there : m.replicas k r ≡ Some x) (place : ℕ) (update : Update) (asks_is : asked s.op ≡ asks.Change place update) where
      -- the update that a row names is the call's own
      own : update ≡ update_of s.op
      own = sym (ap update_asked asks_is)

      -- by the entry of its checkpoint
      there_by : (e : Entry) → entry_of k m.cluster.entries ≡ Some e → Q (Some e) r x
      there_by e found = subst (λ o. Q o r x) found (each.replica k r x there)

      -- it is the active, and has an effect more
      grows_active : (e : Entry) (y : ReplicaState) (new : List Effect) → IsActiveOf m k r e → y.effects ≡ x.effects ++ new → y.generation ≡ x.generation → Grows m k r x y
      grows_active e y new active is generation = record { generation = generation; more = (new, is); other = λ f found alone. inl (ap (λ (e : Entry). e.active) (same_Some f e (sym found ∙ active.found)) ∙ active.active) }

      applied_needs : (t : Told) → StepsWhen When log m s verbs.Apply k r x → OnActive m update false k r (ApplyOk m update t) → BecomesThere k r x (with_applied s.call (update_of s.op) m.cluster.moment (entry_of k m.cluster.entries) x)
      applied_needs t step on =
          let (e, active, at_once, ok) = on_active-there update false k r (ApplyOk m update t) on x there in
          record {
            so = subst (λ o. Q o r (with_applied s.call (update_of s.op) m.cluster.moment o x)) (sym active.found) (kept.applied m s k r x e step active ok.unmarked (there_by e active.found));
            grows = grows_active e _ (Applied s.call (update_of s.op) m.cluster.moment ∷ []) active (ap (λ o. (with_applied s.call (update_of s.op) m.cluster.moment o x).effects) active.found) (ap (λ o. (with_applied s.call (update_of s.op) m.cluster.moment o x).generation) active.found);
          }

      marked_needs : (t : Told) → StepsWhen When log m s verbs.Mark k r x → OnActive m update true k r (MarkOk m update t) → BecomesThere k r x (with_marks s.call (update_of s.op) m.cluster.moment x)
      marked_needs t step on =
          let (e, active, by_element, ok) = on_active-there update true k r (MarkOk m update t) on x there in
          let good : update_is_bad update ≡ false = sym (ap has_bad_arguments asks_is) ∙ arguments s step.held in
          let can : CanBeMarked e update m.cluster.moment x = record { none = ok.unmarked; by_element = by_element; good = good; fits = ok.fits } in
          record {
            so = subst (λ o. Q o r (with_marks s.call (update_of s.op) m.cluster.moment x)) (sym active.found) (kept.marked m s k r x e step active (subst (λ update. CanBeMarked e update m.cluster.moment x) own can) (there_by e active.found));
            grows = grows_same m k r x _ refl refl;
          }

      -- the marks that stand there
      marks_there : (left : Bool) → OnActive m update true k r (λ e x. IsSomeAnd x.marks (AreMarksOf s.call update left)) → (e : Entry) × (marks : Marked) × IsActiveOf m k r e × IsMarkedFor s.call (update_of s.op) left x marks
      marks_there left on =
          let (e, active, by_element, stand) = on_active-there update true k r (λ e x. IsSomeAnd x.marks (AreMarksOf s.call update left)) on x there in
          let (marks, is, are) = IsSomeAnd-at x.marks (AreMarksOf s.call update left) stand in
          (e, marks, active, record { stand = is; are = subst (λ update. AreMarksOf s.call update left marks) own are })

      element_needs : StepsWhen When log m s verbs.Element k r x → OnActive m update true k r (λ e x. IsSomeAnd x.marks (AreMarksOf s.call update true)) → BecomesThere k r x (with_next_element (entry_of k m.cluster.entries) x)
      element_needs step on =
          let (e, marks, active, stand) = marks_there true on in
          let then = kept.element m s k r x e marks step active stand (there_by e active.found) in
          record {
            so = subst (λ o. Q o r (with_next_element o x)) (sym active.found) (subst (λ marks. Q (Some e) r (next_element_written e.attributes x marks)) (sym stand.stand) then);
            grows = grows_same m k r x _ (element_effects (entry_of k m.cluster.entries) x) (element_generation (entry_of k m.cluster.entries) x);
          }

      unmarked_needs : StepsWhen When log m s verbs.Unmark k r x → OnActive m update true k r (λ e x. IsSomeAnd x.marks (AreMarksOf s.call update false)) → BecomesThere k r x (without_marks x)
      unmarked_needs step on =
          let (e, marks, active, stand) = marks_there false on in
          let then = kept.unmarked m s k r x e marks step active stand (there_by e active.found) in
          record {
            so = subst (λ o. Q o r (without_marks x)) (sym active.found) (subst (λ marks. Q (Some e) r (marks_ended x marks)) (sym stand.stand) then);
            grows = grows_active e _ (Applied marks.call marks.update marks.moment ∷ []) active (ap (λ marks. (marks_ended x marks).effects) stand.stand) (ap (λ marks. (marks_ended x marks).generation) stand.stand);
          }

    -- what it needs is in its row
    row_needs : (s : CallState) → m.in_hand (who s) ≡ Some s → (t : Told) → IsDone m s (due m s) t → (verb : Verb) (k r : Option ℕ) (reply : StepReply) → t.verb ≡ verb → IsOnOwn verb k s.kept.ckpt → Row m s verb (record t { verb = verb; ckpt = k; node = r; reply = reply }) → Needs s verb k r reply
    row_needs s held t done verbs.Finish (Some j) None words.Ok verb _ row = making_there m.cluster inv.holds.rises s.call j row.0.3.0
    row_needs s held t done verbs.Finish (Some j) (Some q) words.Ok verb _ row = absurd row.0
    row_needs s held t done verbs.Stage (Some k) (Some r) words.Ok verb own row = λ x there. record { so = kept.staged m s k r x (steps_on s held t done verbs.Stage verb k r x there own (update_asks s (λ update ends. StageRow m s update k r words.Ok t.end) row.0)) (each.replica k r x there); grows = grows_same m k r x _ refl refl }
    row_needs s held t done verbs.Claim (Some k) (Some r) words.Ok verb own row = λ x there. record { so = kept.claimed m s k r x (steps_on s held t done verbs.Claim verb k r x there own (update_asks s (λ update ends. ClaimRow m s k r words.Ok t.end) row.0)) (each.replica k r x there); grows = grows_same m k r x _ refl refl }
    row_needs s held t done verbs.Withdraw (Some k) (Some r) words.Ok verb own row = λ x there. record { so = kept.withdrawn m s k r x (steps_on s held t done verbs.Withdraw verb k r x there own (update_asks s (λ update ends. WithdrawRow m s k r words.Ok t.end) row.0)) (each.replica k r x there); grows = grows_same m k r x _ refl refl }
    row_needs s held t done verbs.Commit (Some k) (Some r) words.Ok verb own row = λ x there. by_update m s (λ update ends. CommitRow m s.call update ends k r words.Ok t.end t.details) row (λ update ends on. committed_needs s k r x update ends t (steps_on s held t done verbs.Commit verb k r x there own (update_asks s (λ update ends. CommitRow m s.call update ends k r words.Ok t.end t.details) row)) on)
    row_needs s held t done verbs.Apply (Some k) (Some r) words.Ok verb own row = λ x there. applied_needs s k r x there row.0 row.1 row.2 (record t { verb = verbs.Apply; ckpt = Some k; node = Some r; reply = words.Ok }) (steps_on s held t done verbs.Apply verb k r x there own (change_asks s row.0 row.1 row.2)) row.3
    row_needs s held t done verbs.Mark (Some k) (Some r) words.Ok verb own row = λ x there. marked_needs s k r x there row.0 row.1 row.2 (record t { verb = verbs.Mark; ckpt = Some k; node = Some r; reply = words.Ok }) (steps_on s held t done verbs.Mark verb k r x there own (change_asks s row.0 row.1 row.2)) row.3
    row_needs s held t done verbs.Element (Some k) (Some r) words.Ok verb own row = λ x there. element_needs s k r x there row.0 row.1 row.2 (steps_on s held t done verbs.Element verb k r x there own (change_asks s row.0 row.1 row.2)) row.3.0
    row_needs s held t done verbs.Unmark (Some k) (Some r) words.Ok verb own row = λ x there. unmarked_needs s k r x there row.0 row.1 row.2 (steps_on s held t done verbs.Unmark verb k r x there own (change_asks s row.0 row.1 row.2)) row.3.0
    row_needs s held t done verbs.Install j q reply verb own row = after_install EachHeld m s t j q reply row each (λ k r z x is in_hand over. (
        put_each (asked s.op) k r z x (still_has m each k z (record { name = (who s); state = s; in_hand = held; ckpt = sym own ∙ is; snapshot = in_hand })) over))
    row_needs s held t done verbs.Activate j q reply verb own row = after_activate EachHeld m inv history.bare s held t j q reply own row each (λ k r on. record_each (swept (active_set k r m.cluster)) (λ j given. on j)) (leads_each s)
    row_needs s held t done verbs.Complete j q reply verb own row = after_complete EachHeld m inv s held t j q reply own row each (λ k r brings. completed_each Q S When log kept m inv history each s k r brings)
    row_needs s held t done verb k r reply verb_is _ row = tt

    -- a call may have a copy of what the active has, where no marks stand; where updates go to all replicas, a copying may
    active_may : (ask : Ask) (j q : ℕ) (e : Entry) (x : ReplicaState) → entry_of j m.cluster.entries ≡ Some e → m.replicas j q ≡ Some x → (is_all e.attributes ≡ false) ⊎ IsCopyAsk ask → e.active ≡ Some q → x.marks ≡ None → MayHave m ask j (copied x)
    active_may ask j q e x found there which active none =
        let made = made_where_complete_at m inv history j q x e found there in
        let source = λ (alone : is_all e.attributes ≡ false). (let of : IsOfSource e (copied x) = record { source = record { made = made; alone = alone }; within = (generation_there m inv j q e x found there).within; led = λ present. subst IsSome (sym active) refl } in of) in
        record {
          given = entry_of-given m.cluster.last_identity j m.cluster.entries e inv.holds.up_to found;
          so = subst (λ o. IfSome o (λ e. IsPulledOf ask e (copied x) × S e (copied x))) (sym found) (record { made = made; source = λ of. source (alone_by which of) }, kept.pulled e q x none (subst (λ o. Q o q x) found (each.replica j q x there)));
          behind = λ r f y at alone active here present. (each.ahead j r f y at alone active here).replica q x there (inr present);
        }
      where
        alone_by : (is_all e.attributes ≡ false) ⊎ IsCopyAsk ask → (is_all e.attributes ≡ false) ⊎ (IsCopyAsk ask → ⊥) → is_all e.attributes ≡ false
        alone_by (inl alone) of = alone
        alone_by (inr copies) (inl alone) = alone
        alone_by (inr copies) (inr other) = absurd (other copies)

    -- so it may have what it keeps of that, of the checkpoint that it keeps
    kept_may : (n : Machine) (s : CallState) (j q k : ℕ) (x : ReplicaState) (z : Snapshot) → Some j ≡ s.kept.ckpt → m.replicas j q ≡ Some x → s.kept.ckpt ≡ Some k → option_map copied (m.replicas j q) ≡ Some z → MayHave n (asked s.op) j (copied x) → MayHave n (asked s.op) k z
    kept_may n s j q k x z own there ckpt is may = subst (MayHave n (asked s.op) k) (same_Some (copied x) z (sym (ap (option_map copied) there) ∙ is)) (subst (λ j. MayHave n (asked s.op) j (copied x)) (same_Some j k (own ∙ ckpt)) may)

    -- what a call has in hand behind a step, by its pull, by its hold or from before, it may have
    pulled_may : (s : CallState) → m.in_hand (who s) ≡ Some s → (t : Told) (verb : Verb) (j q : Option ℕ) (reply : StepReply) → IsOnOwn verb j s.kept.ckpt → Row m s verb (record t { verb = verb; ckpt = j; node = q; reply = reply })
        → EachHeld (changed m s verb j q reply) → (k : ℕ) (z : Snapshot) → (kept_by m s verb j reply).ckpt ≡ Some k → pulled_by m s verb j q reply ≡ Some z → MayHave (changed m s verb j q reply) (asked s.op) k z
    pulled_may s held t verbs.Pull (Some j) (Some q) words.Ok own row then k z ckpt is = elim row.0 [
      | inl syncs ↦ (
          let (e, x, found, there, ok) = on_replica-there m j q (PullOk m s q (record t { verb = verbs.Pull; ckpt = Some j; node = Some q; reply = words.Ok })) syncs.3 in
          kept_may m s j q k x z own there ckpt is (active_may (asked s.op) j q e x found there (inl ok.alone) ok.active ok.unmarked))
      | inr copies ↦ (
          let (e, x, found, there, ok) = on_replica-there m j q (CopyPullOk (record t { verb = verbs.Pull; ckpt = Some j; node = Some q; reply = words.Ok }) q) copies.1 in
          kept_may m s j q k x z own there ckpt is (active_may (asked s.op) j q e x found there (inr (subst IsCopyAsk (sym copies.0) tt)) ok.active ok.unmarked))
    ]
    pulled_may s held t verbs.Hold (Some j) (Some q) words.Ok own row then k z ckpt is =
        let (e, x, found, there, ok) = on_replica-there m j q (HoldOk s q t.end) row.0.2 in
        let may = active_may (asked s.op) j q e x found there (inl (collocated_apart e.attributes ok.collocated)) ok.active ok.unmarked in
        let on : (k : ℕ) → k ≤ m.cluster.last_identity → MadeOn k m.cluster (swept (hold_set j s.call m.cluster)) = λ k given. MadeOn-swept k m.cluster (hold_set j s.call m.cluster) (changed_on k m.cluster given inv.holds.rises inv.holds.up_to j (with_hold s.call) (held-identity s.call) (held_made s.call)) in
        kept_may (record_step (hold_set j s.call) m) s j q k x z own there ckpt is (still_may (swept (hold_set j s.call m.cluster)) on (asked s.op) j (copied x) may)
    pulled_may s held t verbs.Reserve j q words.Ok own row then k z ckpt none = absurd (cc none)
    pulled_may s held t verbs.Reserve None q reply own row then k z ckpt is = still_has (record m { in_hand = m.in_hand }) then k z (record { name = who s; state = s; in_hand = held; ckpt = ckpt; snapshot = is })
    pulled_may s held t verbs.Reserve (Some j) q reply own row then k z ckpt is = still_has (record m { in_hand = m.in_hand }) then k z (record { name = who s; state = s; in_hand = held; ckpt = ckpt; snapshot = is })
    pulled_may s held t verb j q reply _ row then k z ckpt is = still_has (record (changed m s verb j q reply) { in_hand = m.in_hand }) then k z (record { name = who s; state = s; in_hand = held; ckpt = ckpt; snapshot = is })

    -- a step leaves in the hand of its call what this may have
    stepped_each : (s : CallState) → m.in_hand (who s) ≡ Some s → (t : Told) → IsOnOwn t.verb t.ckpt s.kept.ckpt → Row m s t.verb t → (end : Option Outcome) → EachHeld (changed m s t.verb t.ckpt t.node t.reply) → Each (step_of m (Some s) t.verb t.ckpt t.node t.reply end)
    stepped_each s held t own row end then = hands_each (record n { in_hand = m.in_hand }) then (put_who n.in_hand (who s) (left end behind)) may
      where
        n : Machine
        n = changed m s t.verb t.ckpt t.node t.reply

        behind : CallState
        behind = kept_behind m s n.cluster t.verb t.ckpt t.node t.reply

        was : (w : Who) (z : CallState) → n.in_hand w ≡ Some z → m.in_hand w ≡ Some z
        was = (follows m inv history s held t row).in_hand

        may : (k : ℕ) (z : Snapshot) (has : PulledInHand (put_who n.in_hand (who s) (left end behind)) k z) → MayHave n (asked has.state.op) k z
        may k z has = elim (put_who-cases n.in_hand (who s) (left end behind) has.name has.state has.in_hand) [
          | inl own_hand ↦ (
              let is = left_is end behind has.state own_hand.1 in
              subst (λ (y : CallState). MayHave n (asked y.op) k z) is (pulled_may s held t t.verb t.ckpt t.node t.reply own row then k z (ap (λ (z : CallState). z.kept.ckpt) is ∙ has.ckpt) (ap (λ (z : CallState). z.snapshot) is ∙ has.snapshot)))
          | inr other ↦ still_has (record n { in_hand = m.in_hand }) then k z (record { name = has.name; state = has.state; in_hand = was has.name has.state other.1; ckpt = has.ckpt; snapshot = has.snapshot })
        ]

    -- a call that begins has nothing in hand
    begun_each : (call : CallId) (op : Op) (end : Option Outcome) → Each (after_beginning m call op end)
    begun_each call op end = hands_each m each (put_who m.in_hand (stepped_as call (word_of_op op)) begun) (λ k z has. elim (put_who-cases m.in_hand (stepped_as call (word_of_op op)) begun has.name has.state has.in_hand) [
      | inl own ↦ absurd (begun_empty end call op (first_kept m call op) has.state z own.1 has.snapshot)
      | inr other ↦ still_has m each k z (record { name = has.name; state = has.state; in_hand = other.1; ckpt = has.ckpt; snapshot = has.snapshot })
    ])
      where
        begun : Option CallState
        begun = call_begun end call op (first_kept m call op)

    -- any label that comes next, and is allowed and due
    pub after_each : (l : Label) → ComesNext log m at_front l → Allowed m l → IsDue m l → Each (after m l)
    after_each (labels.Began d op end details) next allowed is = begun_each d op end
    after_each (labels.Stepped d op verb j q reply end details) next allowed step =
        let s = step.state in
        let t : Told = record { verb = verb; ckpt = j; node = q; reply = reply; end = end; details = details } in
        let held : m.in_hand (who s) ≡ Some s = held_as m d op s step.in_hand step.call_is step.word in
        let same : allowed.state ≡ s = same_Some allowed.state s (sym allowed.in_hand ∙ step.in_hand) in
        let row = subst (λ z. Row m z verb t) same allowed.row in
        let own = subst (λ (z : CallState). IsOnOwn verb j z.kept.ckpt) same allowed.own in
        subst (λ o. Each (step_of m o verb j q reply end)) (sym step.in_hand) (stepped_each s held t own row end (changed_each s verb j q reply (row_needs s held t step.done verb j q reply refl own row)))
    after_each (labels.Word by line said) next allowed is = each
    after_each (labels.Nodes n) next allowed is = each
    after_each (labels.Moved t) next allowed is = record_each (moved t m.cluster) (λ k given. record { last = omega arith; rises = IdentitiesRise-filter (stays t) m.cluster.entries inv.holds.rises; made = ComesOf-filter StaysMade StaysMade-same (stays t) m.cluster.entries inv.holds.rises k })
    after_each (labels.Shown j replicas) next allowed is = each
    after_each (labels.Failed r true) next allowed is = failed_each Q S When log kept m inv history each at_front r next
    after_each (labels.Failed r false) next allowed is = each
    after_each (labels.Joined r (Some incarnation)) next allowed is = each
    after_each (labels.Joined r None) next allowed is = each
    after_each (labels.Pulled k reply) next allowed is = after_pull Each m k reply is each (pulled_each k)
    after_each (labels.Put k r reply) next allowed is = after_put_over Each m k r reply is each (λ s x at over. put_each asks.Copy k r s x (copied_may asks.Copy k s over.on.entry over.on.found at) over)

  -- so it holds in a run; that a call began stands in the whole log
  pub run_each : (log : List Label) → IsKept Q S log → IsRun log → Each (last log)
  run_each log kept run = along (λ front m. (rest : List Label) → log ≡ front ++ rest → Each m) goes_on [] log run
      (λ rest is. record { replica = λ k r x is. absurd (cc is); snapshot = λ k s is. absurd (cc is); in_hand = λ k s has. absurd (let none = has.in_hand in cc none); ahead = λ k r e y found. absurd (cc found) })
      [] (sym (append-nil log))
    where
      goes_on : (front : List Label) (l : Label) → IsRun front → Allowed (last front) l → IsDue (last front) l → ((rest : List Label) → log ≡ front ++ rest → Each (last front)) → (rest : List Label) → log ≡ (front ++ l ∷ []) ++ rest → Each (after (last front) l)
      goes_on front l before allowed due each rest is =
          let log_is : log ≡ front ++ l ∷ rest = is ∙ append_assoc front (l ∷ []) rest in
          let (inv, history) = run_history front before in
          let began : AllBegan log (last front) = λ s held. subst (λ (log : List Label). HasBegunAs log s.call s.op s.kept.ckpt) (sym log_is) (began_more front (l ∷ rest) s.call s.op s.kept.ckpt (each_began front before s held)) in
          after_each (λ m. Unit {0}) log kept (last front) tt began (record { front = front; rest = l ∷ rest; log_is = log_is; state_is = refl }) inv history (good_arguments front before) (each (l ∷ rest) log_is) l (rest, refl) allowed due

-- where nothing is said
kept_nothing : (log : List Label) → IsKept (λ o r x. Unit {0}) (λ e s. Unit {0}) log
kept_nothing log = record {
  opened = λ e r. tt;
  stays = λ e f r x same stays made is. tt;
  stays_copied = λ e f s same stays made is. tt;
  led = λ e f r o x same goes made free none copied is. tt;
  pulled = λ e r x none is. tt;
  put = λ e r s x present free none copied is. tt;
  completed = λ e f r call t s same goes made copied like. tt;
  staged = λ m s k r x step is. tt;
  claimed = λ m s k r x step is. tt;
  withdrawn = λ m s k r x step is. tt;
  committed = λ m s k r x e step all is. tt;
  applied = λ m s k r x e step active none is. tt;
  marked = λ m s k r x e step active can is. tt;
  element = λ m s k r x e marks step active stand is. tt;
  unmarked = λ m s k r x e marks step active stand is. tt;
  broken_off = λ e r x marks stand free none abandoned is. tt;
}

-- each snapshot is of a checkpoint that is made, and no replica and no snapshot is ahead of the active
pub run_copies : (log : List Label) → IsRun log → Each (λ o r x. Unit {0}) (λ e s. Unit {0}) (last log)
run_copies log run = run_each (λ o r x. Unit {0}) (λ e s. Unit {0}) log (kept_nothing log) run
