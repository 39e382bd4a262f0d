-- Any label keeps it; so it holds in a run, with the invariant.
use Rattle.std.proofs.Common.{[], ◌≡◌, ◌⊎◌, ℕ, ◌+◌, ◌<◌, inl, inr, List, Option, Some, None, Bool, true, false, cond, ◌==◌, ℤ, refl, sym, ap, subst, ◌∙◌, arith}
use Rattle.std.specs.Prelude.{IsSomeAnd}
use Rattle.std.proofs.lemmas.Option.{same_Some}
use Rattle.ckpt_types.specs.declared.answers.Outcome.{Outcome}
use Rattle.ckpt_types.specs.declared.identities.CallId.{CallId}
use Rattle.ckpt_types.specs.declared.identities.Who.{Who}
use Rattle.ckpt_types.specs.declared.operation.Op.{Op}
use Rattle.weak_marks.specs.Marks.{Marked}
use Rattle.run_labels.specs.declared.labels.Label.{Label}
use Rattle.run_labels.specs.declared.labels.Label.TheVariants as labels
use Rattle.cluster_record.specs.Calls.{same_actor, put_actor, left}
use Rattle.cluster_record.specs.Failing.{goes_with_node}
use Rattle.cluster_record.specs.Places.{put, put2}
use Rattle.cluster_record.specs.RecordState.{entry_of, is_live, first_nodes, moved}
use Rattle.ckpt_machine.specs.Drivers.{Driver}
use Rattle.ckpt_machine.specs.Guards.{IsOnOwn, Row, Allowed}
use Rattle.ckpt_machine.specs.InHand.{IsInPlace, IsCopyIn}
use Rattle.ckpt_machine.specs.Invariant.{Invariant}
use Rattle.ckpt_machine.specs.Dead.{is_enter}
use Rattle.ckpt_machine.specs.Failing.{failed_at, is_of_node}
use Rattle.ckpt_machine.specs.NodeJoins.{joined_at}
use Rattle.ckpt_machine.specs.Machine.{Machine, Broken, ReplicaState, Snapshot, CallState, who}
use Rattle.ckpt_machine.specs.Owned.{HasEffect}
use Rattle.ckpt_machine.specs.Propagation.{copied, replica_from}
use Rattle.ckpt_machine.specs.Shape.{IsCompleteOn, IsMarker}
use Rattle.ckpt_machine.specs.After.{after_beginning, reservation_under, with_record, call_begun, step_of, after}
use Rattle.ckpt_machine.specs.Due.{IsDue, driver_of, count_in}
use Rattle.ckpt_machine.proofs.FailedHands.{WasEntry, was_entry}
use Rattle.ckpt_machine.proofs.FailedMade.{failed_remains}
use Rattle.ckpt_machine.proofs.StepsRemain.{moved_goes}
use Rattle.ckpt_machine.proofs.Runs.{along}
use Rattle.ckpt_machine.proofs.Copying.{IsPulledFrom, after_pull, after_put, put-cases}
use Rattle.ckpt_machine.proofs.FailedCalls.{left_is, left_stays}
use Rattle.ckpt_machine.proofs.FailedClients.{live_staying}
use Rattle.ckpt_machine.proofs.FailedReplicas.{Becomes, stays, cut_short, leads, WasReplica, was_replica}
use Rattle.ckpt_machine.proofs.Follows.{IsIncomplete, IsBare, Has, HasCopied, HasInHand, ReplicasFollow, record_follows, replica_follows, effect_more, reserved_under, snapshot_was}
use Rattle.ckpt_machine.specs.Runs.{last, IsRun}
use Rattle.ckpt_machine.proofs.Lawful.{lawful}
use Rattle.ckpt_machine.proofs.Start.{invariant_empty}
use Rattle.ckpt_machine.proofs.Starting.{first_kept, begun_as}
use Rattle.ckpt_machine.proofs.Actors.{same_actor-true}
use Rattle.ckpt_types.specs.OpWord.{stepped_as, word_of_op}
use Rattle.ckpt_machine.proofs.Dropped.{held_as}
use Rattle.ckpt_machine.proofs.Whose.{put_who-cases, one_call}
use Rattle.ckpt_machine.proofs.OptionLemmas.{IsSomeAnd-at, IsSomeAnd-from}
pub use Rattle.ckpt_machine.proofs.HasHistory.{either_copy, none_alone, due_request, HasHistory, IsCommittingAt, HasBrought, HasCommitted, commits_by, commit, gone, unled, nothing_left, making_incomplete, on_replica-there, on_active-there}
use Rattle.ckpt_machine.proofs.HasHistory.{history_empty, none_alone, RecordRemains, committed_still}
pub use Rattle.ckpt_machine.proofs.StepHistory.{Commits, Applies, IsTaken, follows, had}
use Rattle.ckpt_machine.proofs.StepHistory.{step_history}
pub use Rattle.ckpt_machine.proofs.ShapedReplicas.{IsUpdater, shaped_there, slot_owned, slot_calls, marks_owned}

-- ---- any label

begun_history : (m : Machine) → HasHistory m → (call : CallId) (op : Op) (end : Option Outcome) → call.number ≡ m.next call.actor → HasHistory (after_beginning m call op end)
begun_history m history call op end number = record {
  bare = history.bare;
  given = λ k r d has. number_later d (history.given k r d (record { replica = has.replica; there = has.there; effect = has.effect }));
  commits = λ k r z in_hand has. elim (put_who-cases m.in_hand (stepped_as call (word_of_op op)) (call_begun end call op (first_kept m call op)) (who z) z in_hand) [
    | inl own ↦ (
        let was : Has m k r z.call = record { replica = has.replica; there = has.there; effect = has.effect } in
        let below : call.number < m.next call.actor = history.given k r call (subst (Has m k r) (sym (begun_is z own.1)) was) in
        absurd (omega (arith, below, number)))
    | inr other ↦ history.commits k r z other.1 (record { replica = has.replica; there = has.there; effect = has.effect })
  ];
  given_copied = λ k d has. number_later d (history.given_copied k d (record { snapshot = has.snapshot; there = has.there; effect = has.effect }));
  ended_copied = λ k z in_hand has. elim (put_who-cases m.in_hand (stepped_as call (word_of_op op)) (call_begun end call op (first_kept m call op)) (who z) z in_hand) [
    | inl own ↦ (
        let was : HasCopied m k z.call = record { snapshot = has.snapshot; there = has.there; effect = has.effect } in
        let below : call.number < m.next call.actor = history.given_copied k call (subst (HasCopied m k) (sym (begun_is z own.1)) was) in
        omega (arith, below, number))
    | inr other ↦ history.ended_copied k z other.1 (record { snapshot = has.snapshot; there = has.there; effect = has.effect })
  ];
  given_pulled = λ d has. number_later d (history.given_pulled d (was_pulled d has));
  ended_pulled = λ z in_hand has apart. elim (put_who-cases m.in_hand (stepped_as call (word_of_op op)) (call_begun end call op (first_kept m call op)) (who z) z in_hand) [
    | inl own ↦ begun_pulled z own.1 has
    | inr other ↦ history.ended_pulled z other.1 (was_pulled z.call has) apart
  ];
  commits_pulled = λ k z in_hand has copies ckpt. elim (put_who-cases m.in_hand (stepped_as call (word_of_op op)) (call_begun end call op (first_kept m call op)) (who z) z in_hand) [
    | inl own ↦ absurd (begun_pulled z own.1 has)
    | inr other ↦ history.commits_pulled k z other.1 (was_pulled z.call has) copies ckpt
  ];
}
  where
    -- a call that begins has nothing in its hand
    was_held : (d : CallId) (has : HasInHand (after_beginning m call op end) d) → m.in_hand has.name ≡ Some has.state
    was_held d has = elim (put_who-cases m.in_hand (stepped_as call (word_of_op op)) (call_begun end call op (first_kept m call op)) has.name has.state has.held) [
      | inl own ↦ (
          let (driver, starts, same) = begun_as end call op (first_kept m call op) has.state own.1 in
          absurd (let w : None ≡ Some has.snapshot = ap (λ (z : CallState). z.snapshot) same ∙ has.there in cc w))
      | inr other ↦ other.1
    ]

    was_pulled : (d : CallId) → HasInHand (after_beginning m call op end) d → HasInHand m d
    was_pulled d has = record { name = has.name; state = has.state; held = was_held d has; snapshot = has.snapshot; there = has.there; effect = has.effect }

    number_later : (d : CallId) → d.number < m.next d.actor → d.number < put_actor m.next call.actor (m.next call.actor + 1) d.actor
    number_later d below = by_test (same_actor d.actor call.actor) refl
      where
        by_test : (b : Bool) → same_actor d.actor call.actor ≡ b → d.number < cond b (m.next call.actor + 1) (m.next d.actor)
        by_test false other = below
        by_test true same = let it : m.next d.actor ≡ m.next call.actor = ap m.next (same_actor-true d.actor call.actor same) in omega (arith, below, it)

    begun_is : (z : CallState) → call_begun end call op (first_kept m call op) ≡ Some z → call ≡ z.call
    begun_is z is = let (d, starts, same) = begun_as end call op (first_kept m call op) z is in ap (λ (z : CallState). z.call) same

    -- and no hand has an effect of it
    begun_pulled : (z : CallState) → call_begun end call op (first_kept m call op) ≡ Some z → HasInHand (after_beginning m call op end) z.call → ⊥
    begun_pulled z is has =
        let below : call.number < m.next call.actor = history.given_pulled call (subst (HasInHand m) (sym (begun_is z is)) (was_pulled z.call has)) in
        omega (arith, below, number)

moved_history : (m : Machine) → Invariant m → HasHistory m → (t : ℤ) → HasHistory (with_record m (moved t m.cluster))
moved_history m inv history t = record {
  bare = follows.bare;
  given = λ k r d has. history.given k r d (before k r d has);
  commits = λ k r s held has. still k (driver_of s) (history.commits k r s held (before k r s.call has));
  given_copied = λ k d has. history.given_copied k d (copied_before k d has);
  ended_copied = λ k s held has. history.ended_copied k s held (copied_before k s.call has);
  given_pulled = λ d has. history.given_pulled d (hands_before d has);
  ended_pulled = λ s held has apart. history.ended_pulled s held (hands_before s.call has) apart;
  commits_pulled = λ k s held has copies ckpt. still k (driver_of s) (history.commits_pulled k s held (hands_before s.call has) copies ckpt);
}
  where
    remains : RecordRemains (λ q. ⊥) m.cluster (moved t m.cluster)
    remains = record { last = omega arith; was = λ k given. (moved_goes k m given inv t).was }

    still : (k : ℕ) (d : Driver) → HasCommitted m.cluster k d → HasCommitted (moved t m.cluster) k d
    still k d = committed_still (λ q. ⊥) m.cluster (moved t m.cluster) remains k d (λ c is none. none)

    follows : ReplicasFollow m (λ k d. ⊥) (with_record m (moved t m.cluster))
    follows = record_follows m history.bare (λ k d. ⊥) (moved t m.cluster)

    before : (k r : ℕ) (d : CallId) → Has (with_record m (moved t m.cluster)) k r d → Has m k r d
    before k r d has = elim (follows.effects k r has.replica d has.there has.effect) [ inl was ↦ was | inr none ↦ absurd none ]

    copied_before : (k : ℕ) (d : CallId) → HasCopied (with_record m (moved t m.cluster)) k d → HasCopied m k d
    copied_before k d has = record { snapshot = has.snapshot; there = follows.copies k has.snapshot has.there; effect = has.effect }

    hands_before : (d : CallId) → HasInHand (with_record m (moved t m.cluster)) d → HasInHand m d
    hands_before d has = record { name = has.name; state = has.state; held = has.held; snapshot = has.snapshot; there = has.there; effect = has.effect }

-- a snapshot of the active has the effects of the active
pulled_history : (m : Machine) → Invariant m → HasHistory m → (k : ℕ) (x : ReplicaState) → IsPulledFrom m k x → HasHistory (record m { snapshots = put m.snapshots k (Some (copied x)) })
pulled_history m inv history k x from = record {
  bare = history.bare;
  given = λ j r d has. history.given j r d (record { replica = has.replica; there = has.there; effect = has.effect });
  commits = λ j r s held has. history.commits j r s held (record { replica = has.replica; there = has.there; effect = has.effect });
  given_copied = λ j d has. elim (before j d has) [ inl was ↦ history.given_copied j d was | inr new ↦ history.given j from.node d new.1 ];
  ended_copied = λ j s held has. elim (before j s.call has) [ inl was ↦ history.ended_copied j s held was | inr new ↦ none_alone m inv history k from.node s held (IsSomeAnd-from (entry_of k m.cluster.entries) _ from.entry from.found from.source.alone) (subst (λ j. Has m j from.node s.call) (sym new.0) new.1) ];
  given_pulled = λ d has. history.given_pulled d (same_hand d has);
  ended_pulled = λ s held has apart. history.ended_pulled s held (same_hand s.call has) apart;
  commits_pulled = λ j s held has copies ckpt. history.commits_pulled j s held (same_hand s.call has) copies ckpt;
}
  where
    same_hand : (d : CallId) → HasInHand (record m { snapshots = put m.snapshots k (Some (copied x)) }) d → HasInHand m d
    same_hand d has = record { name = has.name; state = has.state; held = has.held; snapshot = has.snapshot; there = has.there; effect = has.effect }

    before : (j : ℕ) (d : CallId) → HasCopied (record m { snapshots = put m.snapshots k (Some (copied x)) }) j d → HasCopied m j d ⊎ ((k ≡ j) × Has m j from.node d)
    before j d has = elim (put-cases m.snapshots k (copied x) j has.snapshot has.there) [
      | inl here ↦ inr (here.0, record { replica = x; there = subst (λ j. m.replicas j from.node ≡ Some x) here.0 from.there; effect = subst (λ (z : Snapshot). HasEffect d z.effects) (sym here.1) has.effect })
      | inr was ↦ inl (record { snapshot = has.snapshot; there = was; effect = has.effect })
    ]

-- a replica that takes the snapshot has its effects
put_history : (m : Machine) → HasHistory m → (k r : ℕ) (s : Snapshot) (x : ReplicaState) → m.snapshots k ≡ Some s → m.replicas k r ≡ Some x → HasHistory (record m { replicas = put2 m.replicas k r (Some (replica_from s x)) })
put_history m history k r s x is there = record {
  bare = follows.bare;
  given = λ j q d has. elim (before j q d has) [ inl was ↦ history.given j q d was | inr copied ↦ history.given_copied j d copied ];
  commits = λ j q z held has. elim (before j q z.call has) [ inl was ↦ history.commits j q z held was | inr copied ↦ absurd (history.ended_copied j z held copied) ];
  given_copied = λ j d has. history.given_copied j d (record { snapshot = has.snapshot; there = has.there; effect = has.effect });
  ended_copied = λ j z held has. history.ended_copied j z held (record { snapshot = has.snapshot; there = has.there; effect = has.effect });
  given_pulled = λ d has. history.given_pulled d (same_hand d has);
  ended_pulled = λ z held has apart. history.ended_pulled z held (same_hand z.call has) apart;
  commits_pulled = λ j z held has copies ckpt. history.commits_pulled j z held (same_hand z.call has) copies ckpt;
}
  where
    same_hand : (d : CallId) → HasInHand (record m { replicas = put2 m.replicas k r (Some (replica_from s x)) }) d → HasInHand m d
    same_hand d has = record { name = has.name; state = has.state; held = has.held; snapshot = has.snapshot; there = has.there; effect = has.effect }

    follows : ReplicasFollow m (HasCopied m) (record m { replicas = put2 m.replicas k r (Some (replica_from s x)) })
    follows = replica_follows m history.bare (HasCopied m) k r x (replica_from s x) there (λ d has. inr (record { snapshot = s; there = is; effect = has }))

    before : (j q : ℕ) (d : CallId) → Has (record m { replicas = put2 m.replicas k r (Some (replica_from s x)) }) j q d → Has m j q d ⊎ HasCopied m j d
    before j q d has = follows.effects j q has.replica d has.there has.effect

-- ---- the failure of a node

module _ (m : Machine) (inv : Invariant m) (history : HasHistory m) (r : ℕ) where
  -- the machine behind it
  abbrev behind : Machine
  behind = failed_at r m

  -- a weak write of the call was cut short: it was in hand, and is not live
  record IsCutShort (d : CallId) : Type 0 where
    k : ℕ
    marks : Marked
    marker : IsMarker m k marks
    call : marks.call ≡ d
    gone : is_live behind.cluster d ≡ false

  -- a replica has an effect of a call of which it had one, or whose weak write was cut short
  had_then : (k q : ℕ) (d : CallId) → Has behind k q d → Has m k q d ⊎ IsCutShort d
  had_then k q d has = by_what it.becomes
    where
      it : WasReplica m inv history.bare r k q has.replica
      it = was_replica m inv history.bare r k q has.replica has.there

      by_what : Becomes m inv history.bare r it.before it.then q it.replica has.replica → Has m k q d ⊎ IsCutShort d
      by_what (stays same) = inl (record { replica = it.replica; there = it.there; effect = subst (λ (x : ReplicaState). HasEffect d x.effects) same has.effect })
      by_what (leads it_was led none same) = inl (record { replica = it.replica; there = it.there; effect = subst (λ (x : ReplicaState). HasEffect d x.effects) same has.effect })
      by_what (cut_short marks stand dead was_led led generation same) = elim (effect_more d it.replica.effects (Broken marks.call marks.update marks.moment marks.done) (subst (λ (x : ReplicaState). HasEffect d x.effects) same has.effect)) [
        | inl was ↦ inl (record { replica = it.replica; there = it.there; effect = was })
        | inr new ↦ inr (record { k = k; marks = marks; marker = marks_owned m inv.shapes inv.holds history.bare k q it.replica marks it.there stand; call = new; gone = subst (λ d. is_live behind.cluster d ≡ false) new dead })
      ]

  -- such a call has begun
  cut_short_given : (d : CallId) → IsCutShort d → d.number < m.next d.actor
  cut_short_given d cut =
      let by = cut.marker in
      subst (λ (d : CallId). d.number < m.next d.actor) (by.call_is ∙ cut.call) (inv.holds.hands (who by.state) by.state by.in_hand).number

  -- and is in hand no more
  cut_short_ended : (s : CallState) → behind.in_hand (who s) ≡ Some s → IsCutShort s.call → ⊥
  cut_short_ended s left cut =
      let (held, others) = left_is m inv.shapes inv.holds r (who s) s left in
      let hand = inv.holds.hands (who s) s held in
      let by = cut.marker in
      let same : s ≡ by.state = one_call m.in_hand m.pending m.next inv.holds.calls (who s) (who by.state) s by.state held by.in_hand (sym (by.call_is ∙ cut.call)) in
      let live_was : is_live m.cluster s.call ≡ true = hand.live (ap (λ (z : CallState). is_enter (driver_of z)) same ∙ ap is_enter by.driver_is) in
      let live : is_live behind.cluster s.call ≡ true = live_staying (λ k q. count_in (m.replicas k q)) r m.cluster s.call (left_stays m inv.shapes inv.holds r s others) ∙ live_was in
      let w : true ≡ false = sym live ∙ cut.gone in cc w

  -- a snapshot is of a checkpoint that is there still, and was there
  copied_then : (k : ℕ) (d : CallId) → HasCopied behind k d → HasCopied m k d
  copied_then k d has = record { snapshot = has.snapshot; there = (IsSomeAnd-at (entry_of k behind.cluster.entries) (λ e. m.snapshots k ≡ Some has.snapshot) (snapshot_was (entry_of k behind.cluster.entries) (m.snapshots k) has.snapshot has.there)).2; effect = has.effect }

  -- a call that is left was in hand
  held_then : (w : Who) (s : CallState) → behind.in_hand w ≡ Some s → m.in_hand w ≡ Some s
  held_then w s left = (left_is m inv.shapes inv.holds r w s left).0

  abbrev pulled_then : (d : CallId) → HasInHand behind d → HasInHand m d
  pulled_then d has = record { name = has.name; state = has.state; held = held_then has.name has.state has.held; snapshot = has.snapshot; there = has.there; effect = has.effect }

  -- it has its replicas and reservations where they may be
  bare_then : IsBare behind
  bare_then = record {
    complete = λ k q y there. (let it = was_replica m inv history.bare r k q y there in IsSomeAnd-from (entry_of k behind.cluster.entries) (λ e. IsCompleteOn e q) it.then it.found it.complete);
    reserves = λ k q i is. elim (q == r) as (λ b. cond b None (reservation_under (entry_of k behind.cluster.entries) q (m.reserved k q)) ≡ Some i → IsSomeAnd (entry_of k behind.cluster.entries) (λ e. IsIncomplete e q)) [
      | true ↦ λ gone. absurd (cc gone)
      | false ↦ λ some. reserved_under (entry_of k behind.cluster.entries) q (m.reserved k q) i some
    ] is;
  }

  -- what was made remains, but on the node that fails
  remains_then : RecordRemains (λ q. (q == r) ≡ true) m.cluster behind.cluster
  remains_then = record {
    last = omega arith;
    was = λ k given f found. (
        let it : WasEntry m inv.shapes inv.holds r k f = was_entry m inv.shapes inv.holds r k f found in
        (it.e, it.was, λ made. failed_remains (λ q. count_in (m.replicas it.e.identity q)) (goes_with_node m.cluster r) r it.e f it.left));
  }

  -- so a call that is left, which is not of that node, commits as it did
  still_then : (s : CallState) → behind.in_hand (who s) ≡ Some s → (k : ℕ) → HasCommitted m.cluster k (driver_of s) → HasCommitted behind.cluster k (driver_of s)
  still_then s left k = committed_still (λ q. (q == r) ≡ true) m.cluster behind.cluster remains_then k (driver_of s) (λ c is same. (
      let (held, others) = left_is m inv.shapes inv.holds r (who s) s left in
      let at : IsCopyIn m inv.shapes s c = subst (IsInPlace m inv.shapes s) is (inv.holds.hands (who s) s held).here in
      let w : true ≡ false = sym same ∙ ap (is_of_node m.cluster r) (sym at.node) ∙ left_stays m inv.shapes inv.holds r s others in
      cc w))

  -- so it is behind the failure as it was
  failed_history : HasHistory behind
  failed_history = record {
    bare = bare_then;
    given = λ k q d has. elim (had_then k q d has) [ inl was ↦ history.given k q d was | inr cut ↦ cut_short_given d cut ];
    commits = λ k q s left has. elim (had_then k q s.call has) [ inl was ↦ still_then s left k (history.commits k q s (held_then (who s) s left) was) | inr cut ↦ absurd (cut_short_ended s left cut) ];
    given_copied = λ k d has. history.given_copied k d (copied_then k d has);
    ended_copied = λ k s left has. history.ended_copied k s (held_then (who s) s left) (copied_then k s.call has);
    given_pulled = λ d has. history.given_pulled d (pulled_then d has);
    ended_pulled = λ s left has apart. history.ended_pulled s (held_then (who s) s left) (pulled_then s.call has) apart;
    commits_pulled = λ k s left has copies ckpt. still_then s left k (history.commits_pulled k s (held_then (who s) s left) (pulled_then s.call has) copies ckpt);
  }

-- it is so whichever nodes are up
nodes_history : (m : Machine) → HasHistory m → (up first_calls last_incarnations : List ℕ) → HasHistory (record m { cluster = record m.cluster { up = up; first_calls = first_calls; last_incarnations = last_incarnations } })
nodes_history m history up first_calls last_incarnations = record {
  bare = record { complete = history.bare.complete; reserves = history.bare.reserves };
  given = λ k r d has. history.given k r d (record { replica = has.replica; there = has.there; effect = has.effect });
  commits = λ k r s held has. same_committed k (driver_of s) (history.commits k r s held (record { replica = has.replica; there = has.there; effect = has.effect }));
  given_copied = λ k d has. history.given_copied k d (record { snapshot = has.snapshot; there = has.there; effect = has.effect });
  ended_copied = λ k s held has. history.ended_copied k s held (record { snapshot = has.snapshot; there = has.there; effect = has.effect });
  given_pulled = λ d has. history.given_pulled d (same_hand d has);
  ended_pulled = λ s held has apart. history.ended_pulled s held (same_hand s.call has) apart;
  commits_pulled = λ k s held has copies ckpt. same_committed k (driver_of s) (history.commits_pulled k s held (same_hand s.call has) copies ckpt);
}
  where
    n : Machine
    n = record m { cluster = record m.cluster { up = up; first_calls = first_calls; last_incarnations = last_incarnations } }

    same_committed : (k : ℕ) (d : Driver) → HasCommitted m.cluster k d → HasCommitted n.cluster k d
    same_committed k d (inl at) = inl at
    same_committed k d (inr was) = inr (record { copy = was.copy; driver_is = was.driver_is; given = was.given; there = was.there; commits = was.commits })

    same_hand : (d : CallId) → HasInHand n d → HasInHand m d
    same_hand d has = record { name = has.name; state = has.state; held = has.held; snapshot = has.snapshot; there = has.there; effect = has.effect }

-- what is allowed and due keeps it
pub keeps_history : (m : Machine) (l : Label) → Invariant m → HasHistory m → Allowed m l → IsDue m l → HasHistory (after m l)
keeps_history m (labels.Began call op end details) inv history allowed is = begun_history m history call op end is.number
keeps_history m (labels.Stepped call op verb k r reply end details) inv history allowed step =
    let held : m.in_hand (who step.state) ≡ Some step.state = held_as m call op step.state step.in_hand step.call_is step.word in
    let same : allowed.state ≡ step.state = same_Some allowed.state step.state (sym allowed.in_hand ∙ step.in_hand) in
    subst (λ o. HasHistory (step_of m o verb k r reply end)) (sym step.in_hand) (step_history m inv history step.state held _ (subst (λ z. Row m z verb _) same allowed.row) (subst (λ (z : CallState). IsOnOwn verb k z.kept.ckpt) same allowed.own) end refl step.done)
keeps_history m (labels.Word by word said) inv history allowed is = history
keeps_history m (labels.Nodes n) inv history allowed is = nodes_history m history (first_nodes n) (first_nodes n) (first_nodes n)
keeps_history m (labels.Moved t) inv history allowed is = moved_history m inv history t
keeps_history m (labels.Failed r true) inv history allowed is = failed_history m inv history r
keeps_history m (labels.Failed r false) inv history allowed is = history
keeps_history m (labels.Joined r (Some incarnation)) inv history allowed is = nodes_history m history (joined_at r m).cluster.up (joined_at r m).cluster.first_calls (joined_at r m).cluster.last_incarnations
keeps_history m (labels.Joined r None) inv history allowed is = history
keeps_history m (labels.Shown k replicas) inv history allowed is = history
keeps_history m (labels.Pulled k reply) inv history allowed is = after_pull HasHistory m k reply is history (λ x from none. pulled_history m inv history k x from)
keeps_history m (labels.Put k r reply) inv history allowed is = after_put HasHistory m k r reply history (λ s x copied on. put_history m history k r s x copied on.there)

-- so it holds in a run, with the invariant
pub run_history : (log : List Label) → IsRun log → Invariant (last log) × HasHistory (last log)
run_history log run = along (λ log m. Invariant m × HasHistory m) (λ front l before allowed due had. ((lawful (last front) l had.0 due).1, keeps_history (last front) l had.0 had.1 allowed due)) [] log run (invariant_empty, history_empty)
