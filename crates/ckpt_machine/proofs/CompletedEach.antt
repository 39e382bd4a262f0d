-- What is kept of each replica and each snapshot, in a hand too, is so where a copying has brought a checkpoint to its node: what the node has then is no more than what the active has, where updates go to that alone, and else what each other replica has.
use Rattle.std.proofs.Common.{◌≡◌, ℕ, ◌≤◌, List, inl, inr, Option, Some, Bool, true, false, sym, ap, subst, ◌∙◌, arith}
use Rattle.std.specs.Prelude.{slice_index}
use Rattle.ckpt_types.specs.Asks.{asked}
use Rattle.ckpt_types.specs.declared.attributes.CreationAttributes.{CreationAttributes}
use Rattle.run_labels.specs.declared.labels.Label.{Label}
use Rattle.cluster_record.specs.declared.entries.Entry.{Entry}
use Rattle.cluster_record.specs.Placement.{is_all, is_collocated}
use Rattle.cluster_record.specs.RecordState.{RecordState, entry_of, first_complete}
use Rattle.ckpt_machine.specs.After.{staged_moment}
use Rattle.ckpt_machine.specs.CopyGuards.{IsCurrent}
use Rattle.ckpt_machine.specs.Invariant.{Invariant}
use Rattle.ckpt_machine.specs.Machine.{Machine, ReplicaState, Snapshot, CallState, who}
use Rattle.ckpt_machine.specs.Replays.{IsPrefix}
use Rattle.ckpt_machine.specs.Shape.{IsCompleteOn}
use Rattle.ckpt_machine.proofs.ActiveBy.{lowest_complete}
use Rattle.ckpt_machine.proofs.ActiveNode.{active_complete}
use Rattle.ckpt_machine.proofs.CompletedMade.{completed_alone, completed_goes}
use Rattle.ckpt_machine.proofs.CompletedRecord.{found_still}
use Rattle.ckpt_machine.proofs.Completions.{Brings, brought, brought-cases, brought_made, entry-cases, entry_then, joined_entry, lacked, spread, with_brought}
use Rattle.ckpt_machine.proofs.EachThere.{on_each_there}
use Rattle.ckpt_machine.proofs.EachKept.{FollowsBy, IsAhead, EachIn, IsKeptWhen, IsPulledOf, IsStagedLike, entry_there, hand_goes, same_identity, snapshot_goes, stayed}
use Rattle.ckpt_machine.proofs.Follows.{snapshot_was}
use Rattle.ckpt_machine.proofs.Histories.{HasHistory}
use Rattle.ckpt_machine.proofs.OptionLemmas.{IsSomeAnd-at, IfSome-at, what_is}
use Rattle.ckpt_machine.proofs.PulledInHand.{PulledInHand}
use Rattle.ckpt_machine.proofs.StaysMade.{GoesOnMade}

module _ (Q : Option Entry → ℕ → ReplicaState → Type 0) (S : Entry → Snapshot → Type 0) (When : Machine → Type 0) (log : List Label) (kept : IsKeptWhen Q S When log) (m : Machine) (inv : Invariant m) (history : HasHistory m) (each : EachIn Q S m.cluster.last_identity m.cluster.entries m.replicas m.snapshots m.in_hand) (s : CallState) (k r : ℕ) (b : Brings m s k r) where
  -- the machine behind the completion
  abbrev n : Machine
  n = with_brought m inv s k r b

  -- its record
  abbrev R : RecordState
  R = n.cluster

  -- the entry behind it
  abbrev f : Entry
  f = joined_entry m inv s k r b

  goes : GoesOnMade b.entry f
  goes = completed_goes r (slice_index m.cluster.up r) b.entry

  -- no identity is given
  last : (j : ℕ) → j ≤ m.cluster.last_identity → m.cluster.last_identity ≤ R.last_identity
  last j given = omega arith

  comes : (j : ℕ) → j ≤ m.cluster.last_identity → (g : Entry) → entry_of j R.entries ≡ Some g → (e : Entry) × (entry_of j m.cluster.entries ≡ Some e) × GoesOnMade e g
  comes j given g found = brought_made m inv s k r b j g found

  -- what it has in its hand
  abbrev in_its_hand : PulledInHand m.in_hand k b.pulled
  in_its_hand = record { name = who s; state = s; in_hand = b.held; ckpt = b.ckpt; snapshot = b.in_hand }

  its_so : IsPulledOf (asked s.op) b.entry b.pulled × S b.entry b.pulled
  its_so = IfSome-at (entry_of k m.cluster.entries) (λ e. IsPulledOf (asked s.op) e b.pulled × S e b.pulled) (each.in_hand k b.pulled in_its_hand).1 b.entry b.found

  -- ---- what the node has

  -- where updates go to all replicas, the lowest complete one has the call's slot, and the same effects
  staged_like : (all : Bool) → is_all b.entry.attributes ≡ all → IsStagedLike Q b.entry s.call (staged_moment m k) b.pulled all
  staged_like false alone = tt
  staged_like true all =
      let good = spread m inv s k r b in
      let (q, first) = what_is (first_complete 0 b.entry.complete) good.some in
      let complete : IsCompleteOn b.entry q = lowest_complete b.entry.complete q first in
      let (y, at, shaped) = IsSomeAnd-at (m.replicas k q) _ (good.replicas q complete) in
      let under = on_each_there m history.bare k _ (subst (IsCurrent m s k b.entry b.pulled) all b.current) q y at in
      (q, y, subst (λ o. Q o q y) b.found (each.replica k q y at), under.slot, under.effects)

  own : Q (Some f) r (brought m inv s k r b)
  own = kept.completed b.entry f r s.call (staged_moment m k) b.pulled (same_identity m inv history R k b.entry f b.found (entry_then m inv s k r b)) goes (lacked m inv s k r b).made its_so.1
      (staged_like (is_all f.attributes) (ap is_all (sym goes.attributes)))

  replica : (j q : ℕ) (z : ReplicaState) → n.replicas j q ≡ Some z → Q (entry_of j R.entries) q z
  replica j q z at = elim (brought-cases m inv s k r b j q z at) [
    | inl here ↦ subst (Q (entry_of j R.entries) q) here.2 (subst (λ q. Q (entry_of j R.entries) q (brought m inv s k r b)) here.1 (subst (λ j. Q (entry_of j R.entries) r (brought m inv s k r b)) here.0 (subst (λ o. Q o r (brought m inv s k r b)) (sym (entry_then m inv s k r b)) own)))
    | inr was ↦ (
        let (e, there, made) = entry_there m inv history j q z was.0 in
        let (g, found) = what_is (entry_of j R.entries) (found_still m inv.shapes inv.holds k r b.entry b.found b.lacks b.up (spread m inv s k r b) j e there) in
        subst (λ o. Q o q z) (sym found) (stayed Q S When log kept m inv history each R last comes j q z g found was.0))
  ]

  -- ---- what is ahead

  -- of the checkpoint that it has brought, the active is as it was
  module _ (alone : is_all f.attributes ≡ false) where
    was_alone : is_all b.entry.attributes ≡ false
    was_alone = ap is_all (sym goes.attributes) ∙ alone

    led : f.active ≡ b.entry.active
    led = (completed_alone r (slice_index m.cluster.up r) b.entry was_alone).0

    same_generation : f.generation ≡ b.entry.generation
    same_generation = (completed_alone r (slice_index m.cluster.up r) b.entry was_alone).1

    -- so it is another node
    not_led : f.active ≡ Some r → ⊥
    not_led active =
        let complete : IsCompleteOn b.entry r = active_complete m inv.shapes k b.entry r inv.holds b.found (lacked m inv s k r b).made (sym led ∙ active) in
        let w : true ≡ false = sym (lacked m inv s k r b).none ∙ complete in
        cc w

    module _ (q : ℕ) (y : ReplicaState) (active : f.active ≡ Some q) (at : m.replicas k q ≡ Some y) where
      before : IsAhead k (is_collocated b.entry.attributes) b.entry.generation m.replicas m.snapshots m.in_hand y
      before = each.ahead k q b.entry y b.found was_alone (sym led ∙ active) at

      follows_before : (z : ReplicaState) → FollowsBy (is_collocated f.attributes) f.generation z → FollowsBy (is_collocated b.entry.attributes) b.entry.generation z
      follows_before z follows = subst (λ (u : CreationAttributes × ℕ). FollowsBy (is_collocated u.0) u.1 z) (λ i. (goes.attributes i, same_generation i)) follows

      ahead_of_it : IsAhead k (is_collocated f.attributes) f.generation n.replicas n.snapshots n.in_hand y
      ahead_of_it = record {
        replica = λ p z there follows. elim (brought-cases m inv s k r b k p z there) [
          | inl here ↦ subst (λ (z : ReplicaState). IsPrefix z.effects y.effects) here.2 (before.in_hand b.pulled in_its_hand (subst (IsCurrent m s k b.entry b.pulled) was_alone b.current))
          | inr was ↦ before.replica p z was.0 (follows_before z follows)
        ];
        snapshot = λ z there present. before.snapshot z (copy_was z there) (present ∙ same_generation);
        in_hand = λ z has present. before.in_hand z has (present ∙ same_generation);
      }
        where
          copy_was : (z : Snapshot) → n.snapshots k ≡ Some z → m.snapshots k ≡ Some z
          copy_was z there = (IsSomeAnd-at (entry_of k R.entries) (λ e. m.snapshots k ≡ Some z) (snapshot_was (entry_of k R.entries) (m.snapshots k) z there)).2

  -- of any other it is so still
  other_ahead : (j q : ℕ) (g : Entry) (y : ReplicaState) → (j ≡ k → ⊥) → entry_of j m.cluster.entries ≡ Some g → is_all g.attributes ≡ false → g.active ≡ Some q → m.replicas j q ≡ Some y → IsAhead j (is_collocated g.attributes) g.generation n.replicas n.snapshots n.in_hand y
  other_ahead j q g y other found alone active at =
      let was = each.ahead j q g y found alone active at in
      record {
        replica = λ p z there follows. elim (brought-cases m inv s k r b j p z there) [ inl here ↦ absurd (other (sym here.0)) | inr z_was ↦ was.replica p z z_was.0 follows ];
        snapshot = λ z there present. was.snapshot z (IsSomeAnd-at (entry_of j R.entries) (λ e. m.snapshots j ≡ Some z) (snapshot_was (entry_of j R.entries) (m.snapshots j) z there)).2 present;
        in_hand = was.in_hand;
      }

  ahead : (j q : ℕ) (g : Entry) (y : ReplicaState) → entry_of j R.entries ≡ Some g → is_all g.attributes ≡ false → g.active ≡ Some q → n.replicas j q ≡ Some y → IsAhead j (is_collocated g.attributes) g.generation n.replicas n.snapshots n.in_hand y
  ahead j q g y found alone active at = elim (entry-cases m inv s k r b j g found) [
    | inl here ↦ (
        let alone_then : is_all f.attributes ≡ false = ap (λ (e : Entry). is_all e.attributes) (sym here.1) ∙ alone in
        let active_then : f.active ≡ Some q = ap (λ (e : Entry). e.active) (sym here.1) ∙ active in
        elim (brought-cases m inv s k r b j q y at) [
          | inl new ↦ absurd (not_led alone_then (active_then ∙ ap Some (sym new.1)))
          | inr was ↦ subst (λ (e : Entry). IsAhead j (is_collocated e.attributes) e.generation n.replicas n.snapshots n.in_hand y) (sym here.1) (subst (λ j. IsAhead j (is_collocated f.attributes) f.generation n.replicas n.snapshots n.in_hand y) (sym here.0)
              (ahead_of_it alone_then q y active_then (ap (λ j. m.replicas j q) (sym here.0) ∙ was.0)))
        ])
    | inr other ↦ elim (brought-cases m inv s k r b j q y at) [
      | inl new ↦ absurd (other.0 (sym new.0))
      | inr was ↦ other_ahead j q g y other.0 other.1 alone active was.0
    ]
  ]

  -- so it holds behind the completion
  pub completed_each : EachIn Q S R.last_identity R.entries n.replicas n.snapshots n.in_hand
  completed_each = record {
    replica = replica;
    snapshot = snapshot_goes Q S When log kept m inv history each R last comes;
    in_hand = hand_goes Q S When log kept m inv history each R last comes;
    ahead = ahead;
  }
