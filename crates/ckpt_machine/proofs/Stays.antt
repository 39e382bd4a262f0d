-- What is there stays: whatever the label, a replica that is there goes on from what it had, unless it is replaced; and it goes with its node or its checkpoint alone.
use Rattle.std.proofs.Common.{◌≡◌, ◌≢◌, ◌⊎◌, ℕ, ◌<◌, ◌≤◌, inl, inr, List, [], ◌∷◌, ◌++◌, Option, Some, None, Bool, true, false, cond, ◌==◌, ◌&&◌, nat_lt, refl, sym, ap, subst, ◌∙◌, append_assoc, arith}
use Rattle.std.specs.Option.{option_map}
use Rattle.std.specs.Prelude.{IsSomeAnd, slice_index}
use Rattle.std.proofs.lemmas.Bool.{eqb-true, eq-eqb, and_parts, ltb-true, ltb-false}
use Rattle.std.proofs.lemmas.Option.{same_Some}
use Rattle.ckpt_types.specs.declared.answers.Outcome.{Outcome}
use Rattle.ckpt_types.specs.declared.identities.CallId.{CallId}
use Rattle.ckpt_types.specs.declared.words.OpWord.{OpWord}
use Rattle.ckpt_types.specs.Asks.{asked, update_of}
use Rattle.node_msgs.specs.declared.details.Details.{Details}
use Rattle.node_msgs.specs.declared.steps.Verb.{Verb}
use Rattle.node_msgs.specs.declared.steps.Verb.TheVariants as verbs
use Rattle.node_msgs.specs.declared.steps.StepReply.{StepReply}
use Rattle.node_msgs.specs.declared.steps.StepReply.TheVariants as words
use Rattle.run_labels.specs.declared.labels.Label.{Label}
use Rattle.run_labels.specs.declared.labels.Label.TheVariants as labels
use Rattle.run_labels.specs.declared.labels.PutReply.{PutReply}
use Rattle.run_labels.specs.declared.labels.PutReply.TheVariants as puts
use Rattle.cluster_record.specs.declared.entries.Entry.{Entry}
use Rattle.cluster_record.specs.Calls.{client_of}
use Rattle.cluster_record.specs.Makings.{making_of}
use Rattle.cluster_record.specs.Placement.{is_all}
use Rattle.cluster_record.specs.Places.{put2}
use Rattle.cluster_record.specs.RecordState.{RecordState, entry_of, complete_of, swept, moved, entered, finished, opened, closed, unlinked, departed, undone, hold_set, active_set}
use Rattle.ckpt_machine.specs.After.{after, changed, change_replica, with_record, record_step, created_for, retained_for, with_committed, with_applied, with_slot, with_claim, without_slot, with_marks, with_next_element, without_marks, with_installed, with_lead, on_ok, on_look, at_some, without_making, staged_moment, step_of}
use Rattle.ckpt_machine.specs.ActiveGuards.{ActivateOk}
use Rattle.ckpt_machine.specs.Due.{Told}
use Rattle.ckpt_machine.specs.Failing.{failed_at, replica_left}
use Rattle.ckpt_machine.specs.Guards.{Allowed, IsOnOwn, Row}
use Rattle.ckpt_machine.specs.Invariant.{Invariant}
use Rattle.ckpt_machine.specs.Laws.{OfEachRun}
use Rattle.ckpt_machine.specs.Machine.{Machine, ReplicaState, CallState, who}
use Rattle.ckpt_machine.specs.Propagation.{replica_from}
use Rattle.ckpt_machine.specs.Replays.{IsPrefix}
use Rattle.ckpt_machine.specs.Runs.{last, IsRun}
use Rattle.ckpt_machine.specs.Shape.{IsCompleteOn}
use Rattle.ckpt_machine.specs.Stays.{Replaces, IsOlder, ReplicasStay}
use Rattle.ckpt_machine.specs.Under.{replicas_under, replica_under}
use Rattle.cluster_record.specs.StepDone.{generation_in}
use Rattle.ckpt_machine.proofs.Completions.{Brings, after_complete, brought, none_before, with_brought}
use Rattle.ckpt_machine.proofs.Copying.{after_pull, after_put}
use Rattle.ckpt_machine.proofs.CopyingHands.{LeavesCopying}
use Rattle.ckpt_machine.proofs.Dropped.{held_as}
use Rattle.ckpt_machine.proofs.EachReplica.{run_copies}
use Rattle.ckpt_machine.proofs.EntryLists.{entry_of-given}
use Rattle.ckpt_machine.proofs.Follows.{IsBare, element_effects}
use Rattle.ckpt_machine.proofs.Generations.{generation_there}
use Rattle.ckpt_machine.proofs.Growing.{GrowsTo, GoesOnIn, gone_by, applied_grows, unmarked_grows, left_more, under_stays}
use Rattle.ckpt_machine.proofs.Histories.{HasHistory, run_history}
use Rattle.ckpt_machine.proofs.Installed.{install_over}
use Rattle.ckpt_machine.proofs.Joining.{collocated_apart}
use Rattle.ckpt_machine.proofs.LabelsLeave.{label_leaves}
use Rattle.ckpt_machine.proofs.OneReplica.{committed_more}
use Rattle.ckpt_machine.proofs.OptionLemmas.{IsSomeAnd-at, IsSomeAnd-from}
use Rattle.ckpt_machine.proofs.Prefixes.{prefix_same, prefix_of_same}
use Rattle.ckpt_machine.proofs.Runs.{last-push, run_before, run_front}
use Rattle.ckpt_machine.proofs.ShapedReplicas.{made_where_complete}
use Rattle.ckpt_machine.proofs.StaysMade.{GoesOnMade}

-- ---- what one label makes of one replica

module _ (m : Machine) (inv : Invariant m) (bare : IsBare m) (k r : ℕ) (x : ReplicaState) (there : m.replicas k r ≡ Some x) where
  -- its checkpoint is there, and complete on its node
  entry_there : (e : Entry) × (entry_of k m.cluster.entries ≡ Some e) × IsCompleteOn e r
  entry_there = IsSomeAnd-at (entry_of k m.cluster.entries) (λ e. IsCompleteOn e r) (bare.complete k r x there)

  -- what stands in its place has its effects first, or has taken its place so
  abbrev GoesOnAs : Type 0 → ReplicaState → Type 0
  GoesOnAs Taken y = IsPrefix x.effects y.effects ⊎ Taken

  -- where the checkpoint is there in this state, and complete on the node, such a replica is
  abbrev StaysIn : Type 0 → Machine → Type 0
  StaysIn Taken n = (f : Entry) → entry_of k n.cluster.entries ≡ Some f → IsCompleteOn f r → IsSomeAnd (n.replicas k r) (GoesOnAs Taken)

  module _ (Taken : Type 0) where
    -- as it was
    still : (o : Option ReplicaState) → o ≡ Some x → IsSomeAnd o (GoesOnAs Taken)
    still o at = IsSomeAnd-from o (GoesOnAs Taken) x at (inl (prefix_same x.effects))

    -- nothing is changed
    same_stays : StaysIn Taken m
    same_stays f found complete = still (m.replicas k r) there

    -- the record is changed
    under_is : (R : RecordState) (f : Entry) → entry_of k R.entries ≡ Some f → IsCompleteOn f r → replicas_under m.cluster R m.replicas k r ≡ Some x
    under_is R f found complete =
        let (e, was, complete_then) = entry_there in
        let was_complete : (slice_index (complete_of (entry_of k m.cluster.entries)) r == 0) ≡ false = ap (λ o. slice_index (complete_of o) r == 0) was ∙ complete_then in
        ap (λ o. replica_under o (slice_index (complete_of (entry_of k m.cluster.entries)) r) r (m.replicas k r)) found
        ∙ under_stays f (slice_index (complete_of (entry_of k m.cluster.entries)) r) r (m.replicas k r) complete was_complete
        ∙ there

    record_stays : (R : RecordState) → StaysIn Taken (with_record m R)
    record_stays R f found complete = still ((with_record m R).replicas k r) (under_is R f found complete)

    step_stays : (step : RecordState → RecordState) → StaysIn Taken (record_step step m)
    step_stays step = record_stays (swept (step m.cluster))

    -- a replica is put somewhere
    put_there : (replicas : ℕ → ℕ → Option ReplicaState) → IsSomeAnd (replicas k r) (GoesOnAs Taken) → (j q : ℕ) (z : ReplicaState) → (k ≡ j → r ≡ q → GoesOnAs Taken z) → IsSomeAnd (put2 replicas j q (Some z) k r) (GoesOnAs Taken)
    put_there replicas before j q z takes = elim ((k == j) && (r == q)) as (λ b. ((k == j) && (r == q)) ≡ b → IsSomeAnd (cond b (Some z) (replicas k r)) (GoesOnAs Taken)) [
      | true ↦ λ here. (let (ckpt, node) = and_parts (k == j) (r == q) here in takes (eqb-true k j ckpt) (eqb-true r q node))
      | false ↦ λ other. before
    ] refl

    -- a replica is changed, if there is one, in such a state
    change_stays : (n : Machine) → StaysIn Taken n → (j q : ℕ) (o : Option ReplicaState) (change : ReplicaState → ReplicaState) → ((z : ReplicaState) → o ≡ Some z → k ≡ j → r ≡ q → GoesOnAs Taken (change z)) → StaysIn Taken (change_replica n j q o change)
    change_stays n before j q None change takes = before
    change_stays n before j q (Some z) change takes = λ f found complete. put_there n.replicas (before f found complete) j q (change z) (takes z refl)

    -- and one that grows
    grown_stays : (j q : ℕ) (change : ReplicaState → ReplicaState) → ((z : ReplicaState) → IsPrefix z.effects (change z).effects) → StaysIn Taken (change_replica m j q (m.replicas j q) change)
    grown_stays j q change grows = change_stays m same_stays j q (m.replicas j q) change (λ z at ckpt node.
        let is : z ≡ x = same_Some z x (sym at ∙ (λ i. m.replicas (sym ckpt i) (sym node i)) ∙ there) in
        inl (subst (λ (y : ReplicaState). IsPrefix y.effects (change z).effects) is (grows z)))

    -- what is done on OK alone, and at a checkpoint and a node that are named
    ok_stays : (reply : StepReply) (n : Machine) → StaysIn Taken n → StaysIn Taken (on_ok reply m n)
    ok_stays words.Ok n then = then
    ok_stays reply n then = same_stays

    look_stays : (reply : StepReply) (done refused : Machine) → StaysIn Taken done → StaysIn Taken refused → StaysIn Taken (on_look reply m done refused)
    look_stays words.Done done refused after_done after_refused = after_done
    look_stays words.Refused done refused after_done after_refused = after_refused
    look_stays reply done refused after_done after_refused = same_stays

    one_stays : (j : Option ℕ) (change : ℕ → Machine) → ((j : ℕ) → StaysIn Taken (change j)) → StaysIn Taken (at_some j m change)
    one_stays None change then = same_stays
    one_stays (Some j) change then = then j

    both_stay : (j q : Option ℕ) (change : ℕ → ℕ → Machine) → ((j q : ℕ) → StaysIn Taken (change j q)) → StaysIn Taken (at_some j m (λ j. at_some q m (change j)))
    both_stay j q change then = one_stays j _ (λ j. one_stays q (change j) (then j))

    -- one replica changed by a step that is done
    changed_stays : (j q : Option ℕ) (reply : StepReply) (change : ℕ → ReplicaState → ReplicaState) → ((j : ℕ) (z : ReplicaState) → IsPrefix z.effects (change j z).effects) → StaysIn Taken (on_ok reply m (at_some j m (λ j. at_some q m (λ q. change_replica m j q (m.replicas j q) (change j)))))
    changed_stays j q reply change grows = ok_stays reply _ (both_stay j q _ (λ j q. grown_stays j q (change j) (grows j)))

    -- one entry changed
    entry_stays : (step : ℕ → RecordState → RecordState) (j : Option ℕ) (reply : StepReply) → StaysIn Taken (on_ok reply m (at_some j m (λ j. record_step (step j) m)))
    entry_stays step j reply = ok_stays reply _ (one_stays j _ (λ j. step_stays (step j)))

    -- a making is undone
    making_stays : (j : Option ℕ) → StaysIn Taken (without_making j m)
    making_stays None = same_stays
    making_stays (Some j) = step_stays (undone j)

    -- what is told of an installation, of the setting of an active and of a completion
    abbrev Takes : CallState → Verb → Option ℕ → Option ℕ → StepReply → Type 0
    Takes s verbs.Install j q reply = StaysIn Taken (changed m s verbs.Install j q reply)
    Takes s verbs.Activate j q reply = StaysIn Taken (changed m s verbs.Activate j q reply)
    Takes s verbs.Complete j q reply = StaysIn Taken (changed m s verbs.Complete j q reply)
    Takes s verb j q reply = Unit {0}

    -- any step
    steps_stay : (s : CallState) (verb : Verb) (j q : Option ℕ) (reply : StepReply) → Takes s verb j q reply → StaysIn Taken (changed m s verb j q reply)
    steps_stay s verbs.Enter j q reply done = ok_stays reply _ (one_stays q _ (λ q. step_stays (entered (client_of s.call) q s.call.number)))
    steps_stay s verbs.Open j q reply done = ok_stays reply _ (one_stays j _ (λ j. step_stays (opened j (client_of s.call))))
    steps_stay s verbs.Create j q reply done = ok_stays reply _ (step_stays (created_for s.call (asked s.op)))
    steps_stay s verbs.Reserve j q reply done = ok_stays reply _ (both_stay j q _ (λ j q. same_stays))
    steps_stay s verbs.Finish j q reply done = ok_stays reply _ (one_stays j _ (λ j. step_stays (finished j (client_of s.call))))
    steps_stay s verbs.Undo j q reply done = entry_stays undone j reply
    steps_stay s verbs.Stage j q reply done = changed_stays j q reply (λ j. with_slot s.call (update_of s.op) (staged_moment m j)) (λ j z. prefix_same z.effects)
    steps_stay s verbs.Claim j q reply done = changed_stays j q reply (λ j. with_claim s.call) (λ j z. prefix_same z.effects)
    steps_stay s verbs.Withdraw j q reply done = changed_stays j q reply (λ j. without_slot) (λ j z. prefix_same z.effects)
    steps_stay s verbs.Commit j q reply done = changed_stays j q reply (λ j. with_committed (entry_of j m.cluster.entries)) (λ j z. committed_more (entry_of j m.cluster.entries) z)
    steps_stay s verbs.Apply j q reply done = changed_stays j q reply (λ j. with_applied s.call (update_of s.op) m.cluster.moment (entry_of j m.cluster.entries)) (λ j z. (applied_grows (entry_of j m.cluster.entries) s.call (update_of s.op) m.cluster.moment z).1)
    steps_stay s verbs.Mark j q reply done = changed_stays j q reply (λ j. with_marks s.call (update_of s.op) m.cluster.moment) (λ j z. prefix_same z.effects)
    steps_stay s verbs.Element j q reply done = changed_stays j q reply (λ j. with_next_element (entry_of j m.cluster.entries)) (λ j z. prefix_of_same z.effects (with_next_element (entry_of j m.cluster.entries) z).effects (element_effects (entry_of j m.cluster.entries) z))
    steps_stay s verbs.Unmark j q reply done = changed_stays j q reply (λ j. without_marks) (λ j z. (unmarked_grows z).1)
    steps_stay s verbs.Install j q reply done = done
    steps_stay s verbs.Hold j q reply done = entry_stays (λ j. hold_set j s.call) j reply
    steps_stay s verbs.Activate j q reply done = done
    steps_stay s verbs.Complete j q reply done = done
    steps_stay s verbs.Iter j q reply done = ok_stays reply _ (both_stay j q _ (λ j q. same_stays))
    steps_stay s verbs.Next j q reply done = ok_stays reply _ (both_stay j q _ (λ j q. same_stays))
    steps_stay s verbs.Leave j q reply done = ok_stays reply _ (step_stays (departed (client_of s.call)))
    steps_stay s verbs.Close j q reply done = ok_stays reply _ (one_stays j _ (λ j. step_stays (closed j (client_of s.call))))
    steps_stay s verbs.Unlink j q reply done = entry_stays unlinked j reply
    steps_stay s verbs.Retain j q reply done = entry_stays (retained_for (asked s.op)) j reply
    steps_stay s verbs.Look j q reply done = look_stays reply _ _ same_stays (making_stays (making_of s.call m.cluster))
    steps_stay s verb j q reply done = same_stays

    -- a copying brings a checkpoint to its node, which had none of it
    brought_stays : (s : CallState) (j q : ℕ) (b : Brings m s j q) → StaysIn Taken (with_brought m inv s j q b)
    brought_stays s j q b f found complete = put_there m.replicas (still (m.replicas k r) there) j q (brought m inv s j q b) (λ ckpt node. absurd (none_before m inv s j q b bare x ((λ i. m.replicas (sym ckpt i) (sym node i)) ∙ there)))

    -- a node fails: what another one has stays, and a weak write there may be cut short
    failed_stays : (p : ℕ) → StaysIn Taken (failed_at p m)
    failed_stays p f found complete =
        let R : RecordState = (failed_at p m).cluster in
        IsSomeAnd-from ((failed_at p m).replicas k r) (GoesOnAs Taken) (replica_left R k r x) (ap (option_map (replica_left R k r)) (under_is R f found complete)) (inl (left_more R (entry_of k R.entries) r x))

  -- ---- a label that replaces it

  -- its checkpoint has its updates on the active alone
  abbrev IsAlone : Type 0
  IsAlone = IsSomeAnd (entry_of k m.cluster.entries) (λ e. is_all e.attributes ≡ false)

  -- as one does whose entry is found under another number that is the same
  alone_by : (j : ℕ) (e : Entry) → k ≡ j → entry_of j m.cluster.entries ≡ Some e → is_all e.attributes ≡ false → IsAlone
  alone_by j e same found alone = IsSomeAnd-from (entry_of k m.cluster.entries) (λ e. is_all e.attributes ≡ false) e (ap (λ k. entry_of k m.cluster.entries) same ∙ found) alone

  -- the label replaces the replica, and it is of such a checkpoint
  abbrev IsReplaced : Label → Type 0
  IsReplaced l = Replaces l k r × IsAlone

  module _ (s : CallState) (held : m.in_hand (who s) ≡ Some s) (call : CallId) (op : OpWord) (end : Option Outcome) (details : Details) where
    -- the label of the step
    abbrev l_of : Verb → Option ℕ → Option ℕ → StepReply → Label
    l_of verb j q reply = labels.Stepped call op verb j q reply end details

    -- and what it tells
    abbrev t_of : Verb → Option ℕ → Option ℕ → StepReply → Told
    t_of verb j q reply = record { verb = verb; ckpt = j; node = q; reply = reply; end = end; details = details }

    -- an installation, the setting of an active, or a completion
    takes : (verb : Verb) (j q : Option ℕ) (reply : StepReply) → IsOnOwn verb j s.kept.ckpt → Row m s verb (t_of verb j q reply) → Takes (IsReplaced (l_of verb j q reply)) s verb j q reply
    takes verbs.Install (Some j) (Some q) words.Ok own row =
        change_stays (IsReplaced (l_of verbs.Install (Some j) (Some q) words.Ok)) m (same_stays (IsReplaced (l_of verbs.Install (Some j) (Some q) words.Ok))) j q (m.replicas j q) (with_installed s.snapshot) (λ z at ckpt node.
        let (place, timeout, asks_is, installs) = row.0 in
        let (pulled, in_hand, over) = install_over m s j q (t_of verbs.Install (Some j) (Some q) words.Ok) installs z at in
        inr ((sym ckpt, sym node), alone_by j over.on.entry ckpt over.on.found over.on.alone))
    takes verbs.Install (Some j) None words.Ok own row = same_stays (IsReplaced (l_of verbs.Install (Some j) None words.Ok))
    takes verbs.Install None q words.Ok own row = same_stays (IsReplaced (l_of verbs.Install None q words.Ok))
    takes verbs.Install j q reply own row = same_stays (IsReplaced (l_of verbs.Install j q reply))
    takes verbs.Activate (Some j) (Some q) words.Ok own row =
        let n : Machine = record_step (active_set j q) m in
        change_stays (IsReplaced (l_of verbs.Activate (Some j) (Some q) words.Ok)) n (step_stays (IsReplaced (l_of verbs.Activate (Some j) (Some q) words.Ok)) (active_set j q)) j q (n.replicas j q) (with_lead s.snapshot (generation_in (entry_of j n.cluster.entries))) (λ z at ckpt node.
        let (place, asks_is, on) = row.0 in
        let (e, found, ok) = IsSomeAnd-at (entry_of j m.cluster.entries) (ActivateOk s q end) on in
        inr ((sym ckpt, sym node), alone_by j e ckpt found (collocated_apart e.attributes ok.collocated)))
    takes verbs.Activate (Some j) None words.Ok own row = same_stays (IsReplaced (l_of verbs.Activate (Some j) None words.Ok))
    takes verbs.Activate None q words.Ok own row = same_stays (IsReplaced (l_of verbs.Activate None q words.Ok))
    takes verbs.Activate j q reply own row = same_stays (IsReplaced (l_of verbs.Activate j q reply))
    takes verbs.Complete j q reply own row =
        after_complete (StaysIn (IsReplaced (l_of verbs.Complete j q reply))) m inv s held (t_of verbs.Complete j q reply) j q reply own row (same_stays (IsReplaced (l_of verbs.Complete j q reply))) (brought_stays (IsReplaced (l_of verbs.Complete j q reply)) s)
    takes verb j q reply own row = tt

  -- a put
  put_stays : (j q : ℕ) (reply : PutReply) → StaysIn (IsReplaced (labels.Put j q reply)) (after m (labels.Put j q reply))
  put_stays j q (puts.Ok count) = after_put (StaysIn (IsReplaced (labels.Put j q (puts.Ok count)))) m j q (puts.Ok count) (same_stays (IsReplaced (labels.Put j q (puts.Ok count))))
      (λ s z at on f found complete. put_there (IsReplaced (labels.Put j q (puts.Ok count))) m.replicas (still (IsReplaced (labels.Put j q (puts.Ok count))) (m.replicas k r) there) j q (replica_from s z) (λ ckpt node. inr ((sym ckpt, sym node), alone_by j on.entry ckpt on.found on.alone)))
  put_stays j q reply = same_stays (IsReplaced (labels.Put j q reply))

  -- whatever the label is
  after_stays : (l : Label) → Allowed m l → StaysIn (IsReplaced l) (after m l)
  after_stays (labels.Began call op end details) allowed = same_stays (IsReplaced (labels.Began call op end details))
  after_stays (labels.Stepped call op verb j q reply end details) allowed =
      let s = allowed.state in
      let held : m.in_hand (who s) ≡ Some s = held_as m call op s allowed.in_hand allowed.call_is allowed.word in
      subst (λ o. StaysIn (IsReplaced (labels.Stepped call op verb j q reply end details)) (step_of m o verb j q reply end)) (sym allowed.in_hand)
      (steps_stay (IsReplaced (labels.Stepped call op verb j q reply end details)) s verb j q reply (takes s held call op end details verb j q reply allowed.own allowed.row))
  after_stays (labels.Word by word said) allowed = same_stays (IsReplaced (labels.Word by word said))
  after_stays (labels.Nodes n) allowed = same_stays (IsReplaced (labels.Nodes n))
  after_stays (labels.Moved t) allowed = record_stays (IsReplaced (labels.Moved t)) (moved t m.cluster)
  after_stays (labels.Failed p true) allowed = failed_stays (IsReplaced (labels.Failed p true)) p
  after_stays (labels.Failed p false) allowed = same_stays (IsReplaced (labels.Failed p false))
  after_stays (labels.Joined p (Some incarnation)) allowed = same_stays (IsReplaced (labels.Joined p (Some incarnation)))
  after_stays (labels.Joined p None) allowed = same_stays (IsReplaced (labels.Joined p None))
  after_stays (labels.Shown j replicas) allowed = same_stays (IsReplaced (labels.Shown j replicas))
  after_stays (labels.Pulled j reply) allowed = after_pull (StaysIn (IsReplaced (labels.Pulled j reply))) m j reply allowed (same_stays (IsReplaced (labels.Pulled j reply))) (λ z from none. same_stays (IsReplaced (labels.Pulled j reply)))
  after_stays (labels.Put j q reply) allowed = put_stays j q reply

-- ---- the node that goes

-- either the label tells the failure of this node, or no node goes by it, or another one
fails_or_stays : (l : Label) (r : ℕ) → (l ≡ labels.Failed r true) ⊎ (gone_by l ≢ Some r)
fails_or_stays (labels.Failed p true) r = by_test (p == r) refl
  where
    by_test : (b : Bool) → (p == r) ≡ b → (labels.Failed p true ≡ labels.Failed r true) ⊎ (Some p ≢ Some r)
    by_test true same = inl (ap (λ p. labels.Failed p true) (eqb-true p r same))
    by_test false other = inr (λ same. let w : true ≡ false = sym (ap (λ p. p == r) (same_Some p r same) ∙ eq-eqb r r refl) ∙ other in cc w)
fails_or_stays l r = inr (λ gone. cc gone)

-- where it replaces a replica, none goes
replaces_stays : (l : Label) (k r : ℕ) → Replaces l k r → gone_by l ≢ Some r
replaces_stays (labels.Failed p true) k r none = absurd none
replaces_stays l k r replaced = λ gone. cc gone

-- ---- a label of a run

module _ (front : List Label) (l : Label) (run : IsRun (front ++ l ∷ [])) (k r : ℕ) (x : ReplicaState) (there : (last front).replicas k r ≡ Some x) where
  -- in front of it
  abbrev m : Machine
  m = last front

  -- and behind it
  abbrev n : Machine
  n = after m l

  before : IsRun front
  before = (run_before _ front l run).0

  allowed : Allowed m l
  allowed = (run_before _ front l run).1

  inv : Invariant m
  inv = (run_history front before).0

  history : HasHistory m
  history = (run_history front before).1

  leaves : LeavesCopying m l n.cluster n.replicas n.in_hand
  leaves = label_leaves m inv history (run_copies front before) l allowed (run_before _ front l run).2

  -- the entry in front of it
  at : (e : Entry) × (entry_of k m.cluster.entries ≡ Some e) × IsCompleteOn e r
  at = entry_there m inv history.bare k r x there

  abbrev e : Entry
  e = at.0

  made : e.making ≡ None
  made = made_where_complete m inv k r e at.1 at.2

  goes_on : GoesOnIn m k (gone_by l) n.cluster n.replicas
  goes_on = leaves.goes k (entry_of-given m.cluster.last_identity k m.cluster.entries e inv.holds.up_to at.1)

  -- what stands in the place of the replica
  stays_then : (f : Entry) → entry_of k n.cluster.entries ≡ Some f → IsCompleteOn f r → IsSomeAnd (n.replicas k r) (λ y. IsPrefix x.effects y.effects ⊎ (Replaces l k r × IsAlone m inv history.bare k r x there))
  stays_then = after_stays m inv history.bare k r x there l allowed

  -- it goes with its node or its checkpoint
  goes_with_either : n.replicas k r ≡ None → (l ≡ labels.Failed r true) ⊎ (entry_of k n.cluster.entries ≡ None)
  goes_with_either gone = by_entry (entry_of k n.cluster.entries) refl
    where
      by_entry : (o : Option Entry) → entry_of k n.cluster.entries ≡ o → (l ≡ labels.Failed r true) ⊎ (o ≡ None)
      by_entry None none = inr refl
      by_entry (Some f) found = elim (fails_or_stays l r) [
        | inl fails ↦ inl fails
        | inr stays ↦ absurd (
            subst (λ o. IsSomeAnd o (λ (y : ReplicaState). IsPrefix x.effects y.effects ⊎ (Replaces l k r × IsAlone m inv history.bare k r x there))) gone
            (stays_then f found (leaves.remains k r e f at.1 found made stays at.2)))
      ]

  -- else it has its effects still, or is replaced, and was older
  grows_or_older : (y : ReplicaState) (f : Entry) → n.replicas k r ≡ Some y → entry_of k n.cluster.entries ≡ Some f → IsCompleteOn f r → IsPrefix x.effects y.effects ⊎ (Replaces l k r × IsOlder n k x)
  grows_or_older y f then found complete =
      let (z, z_is, goes) = IsSomeAnd-at (n.replicas k r) (λ y. IsPrefix x.effects y.effects ⊎ (Replaces l k r × IsAlone m inv history.bare k r x there)) (stays_then f found complete) in
      elim goes [
        | inl more ↦ inl (subst (λ (y : ReplicaState). IsPrefix x.effects y.effects) (same_Some z y (sym z_is ∙ then)) more)
        | inr replaced ↦ by_age replaced.0 replaced.1 (nat_lt x.generation f.generation) refl
      ]
    where
      -- the entry is the one that was
      goes_made : GoesOnMade e f
      goes_made = let (g, was, goes) = goes_on.made f found in subst (λ g. GoesOnMade g f) (same_Some g e (sym was ∙ at.1)) goes

      by_age : Replaces l k r → IsAlone m inv history.bare k r x there → (b : Bool) → nat_lt x.generation f.generation ≡ b → IsPrefix x.effects y.effects ⊎ (Replaces l k r × IsOlder n k x)
      by_age replaces alone true older =
          let (g, was, apart) = IsSomeAnd-at (entry_of k m.cluster.entries) (λ e. is_all e.attributes ≡ false) alone in
          let apart_then : is_all f.attributes ≡ false = ap is_all goes_made.attributes ∙ ap (λ (e : Entry). is_all e.attributes) (same_Some e g (sym at.1 ∙ was)) ∙ apart in
          inr (replaces, IsSomeAnd-from (entry_of k n.cluster.entries) (λ e. (is_all e.attributes ≡ false) × (x.generation < e.generation)) f found (apart_then, ltb-true x.generation f.generation older))
      by_age replaces alone false other =
          let not_below : f.generation ≤ x.generation = ltb-false x.generation f.generation other in
          let within : x.generation ≤ e.generation = (generation_there m inv k r e x at.1 there).within in
          let rises : e.generation ≤ f.generation = (goes_made.made made).generation in
          let same : f.generation ≡ e.generation = omega (arith, not_below, within, rises) in
          let own : x.generation ≡ e.generation = omega (arith, not_below, within, rises) in
          let (z, z_is, grows) = IsSomeAnd-at (n.replicas k r) (GrowsTo x) (goes_on.replica r x e f (replaces_stays l k r replaces) at.1 found same there own) in
          inl (subst (λ (y : ReplicaState). IsPrefix x.effects y.effects) (same_Some z y (sym z_is ∙ then)) grows.1)

-- THE LAW: at each label of a run
pub replicas_stay : OfEachRun ReplicasStay
replicas_stay log run = record {
  grows = λ front back l k r x y is there then.
      let until : IsRun (front ++ l ∷ []) = to_label front back l is in
      let (f, found, complete) = IsSomeAnd-at (entry_of k (last (front ++ l ∷ [])).cluster.entries) (λ e. IsCompleteOn e r) ((run_history (front ++ l ∷ []) until).1.bare.complete k r y then) in
      let behind : last (front ++ l ∷ []) ≡ after (last front) l = last-push front l in
      subst (λ n. IsPrefix x.effects y.effects ⊎ (Replaces l k r × IsOlder n k x)) (sym behind)
      (grows_or_older front l until k r x there y f (ap (λ (n : Machine). n.replicas k r) (sym behind) ∙ then) (ap (λ (n : Machine). entry_of k n.cluster.entries) (sym behind) ∙ found) complete);
  goes = λ front back l k r x is there gone.
      let behind : last (front ++ l ∷ []) ≡ after (last front) l = last-push front l in
      subst (λ (n : Machine). (l ≡ labels.Failed r true) ⊎ (entry_of k n.cluster.entries ≡ None)) (sym behind)
      (goes_with_either front l (to_label front back l is) k r x there (ap (λ (n : Machine). n.replicas k r) (sym behind) ∙ gone));
}
  where
    to_label : (front back : List Label) (l : Label) → log ≡ front ++ l ∷ back → IsRun (front ++ l ∷ [])
    to_label front back l is = run_front log (front ++ l ∷ []) back (is ∙ sym (append_assoc front (l ∷ []) back)) run
