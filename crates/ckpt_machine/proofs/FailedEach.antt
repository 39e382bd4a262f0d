-- What is kept of each replica and each snapshot, in a hand too, is so behind the failure of a node: a replica stays, has its weak write cut short, or leads its checkpoint with what it has, which is no less than what any other replica there has.
use Rattle.std.proofs.Common.{◌≡◌, ℕ, ◌+◌, ◌≤◌, List, [], ◌∷◌, ◌++◌, inl, inr, length, Option, Some, None, Bool, true, false, cond, refl, sym, ap, subst, ◌∙◌, arith}
use Rattle.std.specs.Prelude.{IsSome, IsSomeAnd}
use Rattle.std.proofs.lemmas.Option.{same_Some}
use Rattle.ckpt_types.specs.declared.attributes.CreationAttributes.{CreationAttributes}
use Rattle.ckpt_types.specs.Asks.{asked}
use Rattle.weak_marks.specs.Marks.{Marked}
use Rattle.run_labels.specs.declared.labels.Label.{Label}
use Rattle.run_labels.specs.declared.labels.Label.TheVariants as labels
use Rattle.cluster_record.specs.declared.entries.Entry.{Entry}
use Rattle.cluster_record.specs.Failing.{goes_with_node, most_updated, next_active}
use Rattle.cluster_record.specs.Placement.{is_collocated, is_all}
use Rattle.cluster_record.specs.RecordState.{RecordState, entry_of, identity_of, first_complete, is_active, is_live}
use Rattle.ckpt_machine.specs.CallsEnd.{IsAbandonedBy, IsAbandonedIn}
use Rattle.ckpt_machine.specs.Dead.{is_enter}
use Rattle.ckpt_machine.specs.Drivers as drivers
use Rattle.ckpt_machine.specs.Failing.{failed_at}
use Rattle.ckpt_machine.specs.Invariant.{Invariant}
use Rattle.ckpt_machine.specs.Machine.{Machine, Broken, ReplicaState, Snapshot, who}
use Rattle.ckpt_machine.specs.Owned.{HasEffect}
use Rattle.ckpt_machine.specs.Replays.{IsPrefix}
use Rattle.ckpt_machine.specs.Shape.{IsCompleteOn, IsMarker}
use Rattle.ckpt_machine.specs.Due.{count_in}
use Rattle.ckpt_machine.proofs.ActiveNode.{active_complete}
use Rattle.ckpt_machine.proofs.Copying.{IsOfSource}
use Rattle.ckpt_machine.proofs.EachKept.{FollowsBy, IsAhead, IsPulledOf, EachIn, IsKeptWhen, follows_as, copied_there, snapshot_goes, hand_goes}
use Rattle.ckpt_machine.proofs.EntryLists.{find_key-key}
use Rattle.ckpt_machine.proofs.FailedActive.{active_is, most-greatest}
use Rattle.ckpt_machine.proofs.FailedCalls.{gone_abandoned, left_is}
use Rattle.ckpt_machine.proofs.FailedHands.{WasEntry, was_entry}
use Rattle.ckpt_machine.proofs.FailedMade.{failed_goes}
use Rattle.ckpt_machine.proofs.FailedReplicas.{Becomes, stays, cut_short, leads, WasReplica, was_replica}
use Rattle.ckpt_machine.proofs.Follows.{snapshot_was}
use Rattle.ckpt_machine.proofs.Histories.{HasHistory}
use Rattle.ckpt_machine.proofs.OneReplica.{IsBehindFront, ComesNext}
use Rattle.ckpt_machine.proofs.OptionLemmas.{IsSomeAnd-at, IfSome-at}
use Rattle.ckpt_machine.proofs.Prefixes.{prefix_of_same, prefix_then, prefix_longer}
use Rattle.ckpt_machine.proofs.Propagated.{complete_there}
use Rattle.ckpt_machine.proofs.PulledInHand.{PulledInHand}
use Rattle.ckpt_machine.proofs.ShapedReplicas.{marks_owned}
use Rattle.ckpt_machine.proofs.StaysMade.{GoesOnMade}

-- the next active of a checkpoint that is not on all replicas, where there is one, is that with the most updates, and the checkpoint is not collocated
next_most : (counts : ℕ → ℕ) (a : CreationAttributes) (cs : List ℕ) (q : ℕ) → is_all a ≡ false → next_active counts a cs ≡ Some q → (is_collocated a ≡ false) × (most_updated counts 0 cs ≡ Some q)
next_most counts a cs q alone is = by_kind (is_collocated a) (sym (ap (λ b. cond (is_collocated a) None (cond b (first_complete 0 cs) (most_updated counts 0 cs))) alone) ∙ is)
  where
    by_kind : (b : Bool) → cond b None (most_updated counts 0 cs) ≡ Some q → (b ≡ false) × (most_updated counts 0 cs ≡ Some q)
    by_kind true none = absurd (cc none)
    by_kind false most = (refl, most)

module _ (Q : Option Entry → ℕ → ReplicaState → Type 0) (S : Entry → Snapshot → Type 0) (When : Machine → Type 0) (log : List Label) (kept : IsKeptWhen Q S When log) (m : Machine) (inv : Invariant m) (history : HasHistory m) (each : EachIn Q S m.cluster.last_identity m.cluster.entries m.replicas m.snapshots m.in_hand) (at_front : IsBehindFront log m) (r : ℕ) (next : ComesNext log m at_front (labels.Failed r true)) where
  -- the machine behind the failure
  abbrev n : Machine
  n = failed_at r m

  -- its record
  abbrev R : RecordState
  R = n.cluster

  -- how many updates the replicas have
  abbrev counts : ℕ → ℕ → ℕ
  counts k q = count_in (m.replicas k q)

  -- what a replica there was
  abbrev Was : ℕ → ℕ → ReplicaState → Type 0
  Was k q y = WasReplica m inv history.bare r k q y

  -- each that is there was one
  was : (k q : ℕ) (y : ReplicaState) → n.replicas k q ≡ Some y → Was k q y
  was k q y there = was_replica m inv history.bare r k q y there

  -- no identity is given
  last : (k : ℕ) → k ≤ m.cluster.last_identity → m.cluster.last_identity ≤ R.last_identity
  last k given = omega arith

  -- a checkpoint that is there was there, and goes on made
  comes : (k : ℕ) → k ≤ m.cluster.last_identity → (f : Entry) → entry_of k R.entries ≡ Some f → (e : Entry) × (entry_of k m.cluster.entries ≡ Some e) × GoesOnMade e f
  comes k given f found =
      let it : WasEntry m inv.shapes inv.holds r k f = was_entry m inv.shapes inv.holds r k f found in
      (it.e, it.was, failed_goes (counts it.e.identity) (goes_with_node m.cluster r) r it.e f it.left)

  -- a snapshot that is there was there
  copy_was : (k : ℕ) (s : Snapshot) → n.snapshots k ≡ Some s → m.snapshots k ≡ Some s
  copy_was k s is = (IsSomeAnd-at (entry_of k R.entries) (λ e. m.snapshots k ≡ Some s) (snapshot_was (entry_of k R.entries) (m.snapshots k) s is)).2

  -- a snapshot in the hand of a call that is left was there
  abbrev hand_was : (k : ℕ) (s : Snapshot) → PulledInHand n.in_hand k s → PulledInHand m.in_hand k s
  hand_was k s has = record { name = has.name; state = has.state; in_hand = (left_is m inv.shapes inv.holds r has.name has.state has.in_hand).0; ckpt = has.ckpt; snapshot = has.snapshot }

  -- the call of the marks on a replica has no effect there, since it doesn't commit
  marks_fresh : (k q : ℕ) (x : ReplicaState) (marks : Marked) → m.replicas k q ≡ Some x → x.marks ≡ Some marks → HasEffect marks.call x.effects → ⊥
  marks_fresh k q x marks there stand has =
      let by : IsMarker m k marks = marks_owned m inv.shapes inv.holds history.bare k q x marks there stand in
      elim (history.commits k q by.state by.in_hand (record { replica = x; there = there; effect = subst (λ d. HasEffect d x.effects) (sym by.call_is) has })) [
        | inl at ↦ (let w : drivers.Update at.update ≡ drivers.Active by.driver = sym at.driver_is ∙ by.driver_is in cc w)
        | inr brought ↦ (let w : drivers.Copy brought.copy ≡ drivers.Active by.driver = sym brought.driver_is ∙ by.driver_is in cc w)
      ]

  -- and where it is not live behind the failure, it is abandoned by that
  marks_abandoned : (k q : ℕ) (x : ReplicaState) (marks : Marked) → m.replicas k q ≡ Some x → x.marks ≡ Some marks → is_live R marks.call ≡ false → IsAbandonedIn log marks.call
  marks_abandoned k q x marks there stand gone =
      let by : IsMarker m k marks = marks_owned m inv.shapes inv.holds history.bare k q x marks there stand in
      let live : is_live m.cluster by.state.call ≡ true = (inv.holds.hands (who by.state) by.state by.in_hand).live (ap is_enter by.driver_is) in
      record {
        before = at_front.front;
        behind = next.0;
        node = r;
        log_is = at_front.log_is ∙ ap (λ (xs : List Label). at_front.front ++ xs) next.1;
        name = who by.state;
        state = by.state;
        in_hand = ap (λ (m : Machine). m.in_hand (who by.state)) (sym at_front.state_is) ∙ by.in_hand;
        call_is = by.call_is;
        abandoned = subst (λ (m : Machine). IsAbandonedBy (labels.Failed r true) m by.state) at_front.state_is (gone_abandoned m inv.shapes inv.holds r by.state live (ap (is_live R) by.call_is ∙ gone));
      }

  -- ---- each replica

  module _ (k q : ℕ) (y : ReplicaState) (it : Was k q y) where
    -- its checkpoint goes on made
    goes_made : GoesOnMade it.before it.then
    goes_made = failed_goes (counts it.before.identity) (goes_with_node m.cluster r) r it.before it.then it.left

    -- what was said of it
    so_before : Q (Some it.before) q it.replica
    so_before = subst (λ o. Q o q it.replica) it.was (each.replica k q it.replica it.there)

    -- is so still
    so_still : Q (Some it.then) q it.replica
    so_still = kept.stays it.before it.then q it.replica it.left.identity goes_made it.made so_before

    -- of what it becomes
    so_then : Becomes m inv history.bare r it.before it.then q it.replica y → Q (Some it.then) q y
    so_then (stays same) = subst (Q (Some it.then) q) (sym same) so_still
    so_then (cut_short marks stand gone was_led led generation same) = subst (Q (Some it.then) q) (sym same) (kept.broken_off it.then q it.replica marks stand (it.free marks stand) (marks_fresh k q it.replica marks it.there stand) (marks_abandoned k q it.replica marks it.there stand gone) so_still)
    so_then (leads it_was led none same) = subst (Q (Some it.then) q) (sym same) (kept.led it.before it.then q None it.replica it.left.identity goes_made it.made tt none tt so_before)

    -- it has its effects still
    more_then : Becomes m inv history.bare r it.before it.then q it.replica y → IsPrefix it.replica.effects y.effects
    more_then (stays same) = prefix_of_same it.replica.effects y.effects (ap (λ (x : ReplicaState). x.effects) same)
    more_then (cut_short marks stand gone was_led led generation same) = (Broken marks.call marks.update marks.moment marks.done ∷ [], ap (λ (x : ReplicaState). x.effects) same)
    more_then (leads it_was led none same) = prefix_of_same it.replica.effects y.effects (ap (λ (x : ReplicaState). x.effects) same)

    -- and no more, where the active was on the node that failed
    same_then : is_active it.before.active r ≡ true → Becomes m inv history.bare r it.before it.then q it.replica y → y.effects ≡ it.replica.effects
    same_then gone (stays same) = ap (λ (x : ReplicaState). x.effects) same
    same_then gone (cut_short marks stand dead was_led led generation same) = absurd (let w : true ≡ false = sym gone ∙ ap (λ o. is_active o r) was_led ∙ it.elsewhere in cc w)
    same_then gone (leads it_was led none same) = ap (λ (x : ReplicaState). x.effects) same

  -- so what was said of it is so of what it becomes
  replica_then : (k q : ℕ) (y : ReplicaState) → n.replicas k q ≡ Some y → Q (entry_of k R.entries) q y
  replica_then k q y there = let it : Was k q y = was k q y there in subst (λ o. Q o q y) (sym it.found) (so_then k q y it it.becomes)

  -- ---- what is ahead

  module _ (k q : ℕ) (f : Entry) (y : ReplicaState) (found : entry_of k R.entries ≡ Some f) (alone : is_all f.attributes ≡ false) (active : f.active ≡ Some q) (at : n.replicas k q ≡ Some y) where
    -- the checkpoint was there
    it : WasEntry m inv.shapes inv.holds r k f
    it = was_entry m inv.shapes inv.holds r k f found

    -- and so was the replica that is the active's then
    y_was : Was k q y
    y_was = was k q y at

    -- the entry before is that of each replica
    before_is : (p : ℕ) (z : ReplicaState) (w : Was k p z) → w.before ≡ it.e
    before_is p z w = same_Some w.before it.e (sym w.was ∙ it.was)

    -- its updates went to the active alone
    alone_before : is_all it.e.attributes ≡ false
    alone_before = ap is_all (sym it.left.attributes) ∙ alone

    -- where the active stays
    module _ (stays_led : is_active it.e.active r ≡ false) where
      -- it was the active
      led_before : it.e.active ≡ Some q
      led_before = sym (it.left.led stays_led).0 ∙ active

      -- of the same generation
      same_generation : f.generation ≡ it.e.generation
      same_generation = (it.left.led stays_led).1

      -- and none was ahead of it
      before : IsAhead k (is_collocated it.e.attributes) it.e.generation m.replicas m.snapshots m.in_hand y_was.replica
      before = each.ahead k q it.e y_was.replica it.was alone_before led_before y_was.there

      -- it has its effects still
      more : IsPrefix y_was.replica.effects y.effects
      more = more_then k q y y_was y_was.becomes

      -- so a replica that follows it has only what it has first: a weak write that was cut short was its own
      replica_stays : (p : ℕ) (z : ReplicaState) (there : n.replicas k p ≡ Some z) → FollowsBy (is_collocated f.attributes) f.generation z → (w : Was k p z) → Becomes m inv history.bare r w.before w.then p w.replica z → IsPrefix z.effects y.effects
      replica_stays p z there follows w (stays same) =
          let follows_before : FollowsBy (is_collocated it.e.attributes) it.e.generation z = subst (λ (u : CreationAttributes × ℕ). FollowsBy (is_collocated u.0) u.1 z) (λ i. (it.left.attributes i, same_generation i)) follows in
          let followed = before.replica p w.replica w.there (follows_as (is_collocated it.e.attributes) it.e.generation w.replica z (ap (λ (x : ReplicaState). x.generation) (sym same)) follows_before) in
          prefix_then z.effects y_was.replica.effects y.effects (subst (λ (x : ReplicaState). IsPrefix x.effects y_was.replica.effects) (sym same) followed) more
      replica_stays p z there follows w (cut_short marks stand dead was_led led generation same) =
          let node : q ≡ p = same_Some q p (sym led_before ∙ ap (λ (e : Entry). e.active) (sym (before_is p z w)) ∙ was_led) in
          prefix_of_same z.effects y.effects (ap (λ (x : ReplicaState). x.effects) (same_Some y z (sym at ∙ ap (n.replicas k) node ∙ there)))
      replica_stays p z there follows w (leads it_was led none same) = absurd (let v : true ≡ false = sym it_was ∙ ap (λ (e : Entry). is_active e.active r) (before_is p z w) ∙ stays_led in cc v)

      -- none is ahead of it
      ahead_stays : IsAhead k (is_collocated f.attributes) f.generation n.replicas n.snapshots n.in_hand y
      ahead_stays = record {
        replica = λ p z there follows. let w : Was k p z = was k p z there in replica_stays p z there follows w w.becomes;
        snapshot = λ s there present. prefix_then s.effects y_was.replica.effects y.effects (before.snapshot s (copy_was k s there) (present ∙ same_generation)) more;
        in_hand = λ s has present. prefix_then s.effects y_was.replica.effects y.effects (before.in_hand s (hand_was k s has) (present ∙ same_generation)) more;
      }

    -- where it was on the node that failed
    module _ (gone : is_active it.e.active r ≡ true) where
      -- the generation rises
      risen : f.generation ≡ it.e.generation + 1
      risen = (it.left.gone gone).1

      -- the checkpoint is not collocated, and the active is that with the most updates
      most : (is_collocated it.e.attributes ≡ false) × (most_updated (counts it.e.identity) 0 f.complete ≡ Some q)
      most = next_most (counts it.e.identity) it.e.attributes f.complete q alone_before (sym (it.left.gone gone).0 ∙ active)

      -- the replica that was the active's was there
      old_there : (v : ReplicaState) × (m.replicas k r ≡ Some v)
      old_there = by_replica (m.replicas k r) refl (complete_there m inv.shapes inv.holds k r it.e it.was (active_complete m inv.shapes k it.e r inv.holds it.was (ap (λ (e : Entry). e.making) (sym (before_is q y y_was)) ∙ y_was.made) (active_is it.e.active r gone)))
        where
          by_replica : (o : Option ReplicaState) → m.replicas k r ≡ o → IsSome o → (v : ReplicaState) × (m.replicas k r ≡ Some v)
          by_replica None is none = absurd (cc none)
          by_replica (Some v) is some = (v, is)

      -- and had first what each other one had
      old_first : (p : ℕ) (z : ReplicaState) (w : Was k p z) → IsPrefix w.replica.effects old_there.0.effects
      old_first p z w = (each.ahead k r it.e old_there.0 it.was alone_before (active_is it.e.active r gone) old_there.1).replica p w.replica w.there (inl most.0)

      -- so many effects the replica has
      count_was : (p : ℕ) (z : ReplicaState) (w : Was k p z) → counts it.e.identity p ≡ length w.replica.effects
      count_was p z w = ap (λ i. count_in (m.replicas i p)) (find_key-key identity_of k m.cluster.entries it.e it.was) ∙ ap count_in w.there

      -- of which the one with the most updates has no fewer
      no_more : (p : ℕ) (z : ReplicaState) (w : Was k p z) → length w.replica.effects ≤ length y_was.replica.effects
      no_more p z w =
          let complete : IsCompleteOn f p = subst (λ e. IsCompleteOn e p) (same_Some w.then f (sym w.found ∙ found)) w.complete in
          let few : counts it.e.identity (0 + p) ≤ counts it.e.identity q = subst (λ o. IsSomeAnd o (λ q. counts it.e.identity (0 + p) ≤ counts it.e.identity q)) most.1 (most-greatest (counts it.e.identity) 0 f.complete p complete) in
          let own : counts it.e.identity (0 + p) ≡ length w.replica.effects = ap (counts it.e.identity) (let same : 0 + p ≡ p = omega arith in same) ∙ count_was p z w in
          let its : counts it.e.identity q ≡ length y_was.replica.effects = count_was q y y_was in
          omega (arith, few, own, its)

      -- each has the effects that it had
      effects_same : (p : ℕ) (z : ReplicaState) (w : Was k p z) → z.effects ≡ w.replica.effects
      effects_same p z w = same_then k p z w (ap (λ (e : Entry). is_active e.active r) (before_is p z w) ∙ gone) w.becomes

      -- no snapshot is of the risen generation
      none_risen : (s : Snapshot) → IsOfSource it.e s → s.generation ≡ f.generation → ⊥
      none_risen s of present = let within : s.generation ≤ it.e.generation = of.within in let up : f.generation ≡ it.e.generation + 1 = risen in let now : s.generation ≡ f.generation = present in omega (arith, within, up, now)

      -- so none is ahead of the new active
      ahead_gone : IsAhead k (is_collocated f.attributes) f.generation n.replicas n.snapshots n.in_hand y
      ahead_gone = record {
        replica = λ p z there follows.
            let w : Was k p z = was k p z there in
            let first = prefix_longer w.replica.effects y_was.replica.effects old_there.0.effects (old_first p z w) (old_first q y y_was) (no_more p z w) in
            subst (λ xs. IsPrefix xs y.effects) (sym (effects_same p z w)) (subst (IsPrefix w.replica.effects) (sym (effects_same q y y_was)) first);
        snapshot = λ s there present.
            let (e, was, is_so) = copied_there Q S When log kept m inv history each k s (copy_was k s there) in
            absurd (none_risen s (subst (λ e. IsOfSource e s) (same_Some e it.e (sym was ∙ it.was)) is_so.0) present);
        in_hand = λ s has present. absurd (none_risen s ((IfSome-at (entry_of k m.cluster.entries) (λ e. IsPulledOf (asked has.state.op) e s × S e s) (each.in_hand k s (hand_was k s has)).1 it.e it.was).0.source (inl alone_before)) present);
      }

    -- whether the active stays or not
    ahead_then : IsAhead k (is_collocated f.attributes) f.generation n.replicas n.snapshots n.in_hand y
    ahead_then = by_active (is_active it.e.active r) refl
      where
        by_active : (b : Bool) → is_active it.e.active r ≡ b → IsAhead k (is_collocated f.attributes) f.generation n.replicas n.snapshots n.in_hand y
        by_active true gone = ahead_gone gone
        by_active false stays_led = ahead_stays stays_led

  -- so it holds behind the failure
  pub failed_each : EachIn Q S n.cluster.last_identity n.cluster.entries n.replicas n.snapshots n.in_hand
  failed_each = record {
    replica = replica_then;
    snapshot = snapshot_goes Q S When log kept m inv history each R last comes;
    in_hand = λ k s has. hand_goes Q S When log kept m inv history each R last comes k s (hand_was k s has);
    ahead = ahead_then;
  }
