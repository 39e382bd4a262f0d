-- What a label leaves of checkpoints, of the nodes that are complete for them, and of copyings in hand.
use Rattle.std.proofs.Common.{◌≡◌, ◌≢◌, ◌⊎◌, ℕ, ◌≤◌, inl, inr, List, Option, Some, None, Bool, true, false, cond, ◌==◌, ℤ, refl, sym, ap, subst, ◌∙◌}
use Rattle.std.specs.Prelude.{slice_index, slice_set}
use Rattle.std.proofs.lemmas.Bool.{eqb-true}
use Rattle.std.proofs.lemmas.Option.{same_Some}
use Rattle.node_msgs.specs.declared.steps.StepReply.{StepReply}
use Rattle.node_msgs.specs.declared.steps.Verb.{Verb}
use Rattle.node_msgs.specs.declared.steps.Verb.TheVariants as verbs
use Rattle.run_labels.specs.declared.labels.Label.{Label}
use Rattle.run_labels.specs.declared.labels.Label.TheVariants as labels
use Rattle.cluster_record.specs.declared.entries.Entry.{Entry}
use Rattle.cluster_record.specs.Placement.{is_all, is_collocated}
use Rattle.cluster_record.specs.RecordState.{RecordState, entry_of, can_lead, generation_under, moved, with_active}
use Rattle.ckpt_machine.specs.After.{after, changed, step_of}
use Rattle.ckpt_machine.specs.CopyGuards.{IsCurrent}
use Rattle.ckpt_machine.specs.Due.{IsDue, Told}
use Rattle.ckpt_machine.specs.Failing.{failed_at}
use Rattle.ckpt_machine.specs.Guards.{Allowed, IsOnOwn, Row}
use Rattle.ckpt_machine.specs.Invariant.{Invariant}
use Rattle.ckpt_machine.specs.Machine.{Machine, ReplicaState, CallState, who}
use Rattle.ckpt_machine.specs.Shape.{IsCompleteOn}
use Rattle.ckpt_machine.proofs.Askers.{IsCopyAsk}
use Rattle.ckpt_machine.proofs.CompletedMade.{completed_placed}
use Rattle.ckpt_machine.proofs.Completions.{Brings, after_complete, entry-cases, joined_entry, lacked, with_brought}
use Rattle.ckpt_machine.proofs.Copying.{after_pull, after_put, put2-here}
use Rattle.ckpt_machine.proofs.CopyingHands.{IsCompletedNow, LeavesCopying}
use Rattle.ckpt_machine.proofs.CopyingLeft.{copying_had, not_gone}
use Rattle.ckpt_machine.proofs.Dropped.{held_as}
use Rattle.ckpt_machine.proofs.EachReplica.{Each}
use Rattle.ckpt_machine.proofs.EntryLists.{entry_of-given}
use Rattle.ckpt_machine.proofs.FailedHands.{was_entry}
use Rattle.ckpt_machine.proofs.Growing.{after_goes, gone_by}
use Rattle.ckpt_machine.proofs.Histories.{HasHistory}
use Rattle.ckpt_machine.proofs.NodeGone.{complete_was, complete_still}
use Rattle.ckpt_machine.proofs.StaysMade.{StaysMade, StepNeeds, row_needs}
use Rattle.ckpt_machine.proofs.StepsMade as made
use Rattle.ckpt_machine.proofs.StepsRemain as remaining

-- ---- nodes that are complete

-- where it was made and is not collocated, it is on no further node
abbrev IsPlacedAs : Entry → Entry → Type 0
IsPlacedAs e f = e.making ≡ None → is_collocated e.attributes ≡ false → (r : ℕ) → IsCompleteOn f r → IsCompleteOn e r

stays_placed : (e f : Entry) → StaysMade e f → IsPlacedAs e f
stays_placed e f stays made apart r there = subst (λ (nodes : List ℕ). (slice_index nodes r == 0) ≡ false) ((stays.made made).complete apart) there

led_placed : (r : ℕ) (e : Entry) → IsPlacedAs e (with_active r e)
led_placed r e made apart q = by (can_lead r e)
  where
    by : (b : Bool) → IsCompleteOn (cond b (record e { active = Some r; generation = generation_under r e; hold = None }) e) q → IsCompleteOn e q
    by true there = there
    by false there = there

module _ (m : Machine) (inv : Invariant m) where
  -- each node that was complete for a checkpoint that was made is so still, but for one that goes
  abbrev Remain : Option ℕ → RecordState → Type 0
  Remain gone R = (k r : ℕ) (e f : Entry) → entry_of k m.cluster.entries ≡ Some e → entry_of k R.entries ≡ Some f → e.making ≡ None → gone ≢ Some r → IsCompleteOn e r → IsCompleteOn f r

  -- and each that is complete for one which is not collocated was so, or its copying completes it now
  abbrev Placed : RecordState → (ℕ → ℕ → Option ReplicaState) → Type 0
  Placed R replicas = (k r : ℕ) (e f : Entry) → entry_of k m.cluster.entries ≡ Some e → entry_of k R.entries ≡ Some f → e.making ≡ None → is_collocated e.attributes ≡ false → IsCompleteOn f r → IsCompleteOn e r ⊎ IsCompletedNow m k r e f replicas

  -- both, of a machine
  abbrev Leave : Option ℕ → Machine → Type 0
  Leave gone n = Remain gone n.cluster × Placed n.cluster n.replicas

  -- where entries are as they were
  same_leave : (gone : Option ℕ) (R : RecordState) (replicas : ℕ → ℕ → Option ReplicaState) → R.entries ≡ m.cluster.entries → Remain gone R × Placed R replicas
  same_leave _ R replicas same = (
    λ k r e f there found made stays complete. subst (λ e. IsCompleteOn e r) (is k e f there found) complete,
    λ k r e f there found made apart complete. inl (subst (λ e. IsCompleteOn e r) (sym (is k e f there found)) complete),
  )
    where
      is : (k : ℕ) (e f : Entry) → entry_of k m.cluster.entries ≡ Some e → entry_of k R.entries ≡ Some f → e ≡ f
      is k e f there found = same_Some e f (sym there ∙ ap (entry_of k) (sym same) ∙ found)

  -- a checkpoint that is there was given
  given : (k : ℕ) (e : Entry) → entry_of k m.cluster.entries ≡ Some e → k ≤ m.cluster.last_identity
  given k e there = entry_of-given m.cluster.last_identity k m.cluster.entries e inv.holds.up_to there

  -- ---- a step

  -- what is complete then
  remain_by : (S : RecordState) → ((k : ℕ) → k ≤ m.cluster.last_identity → made.ComesOn remaining.Remains k m.cluster S) → Remain None S
  remain_by S comes k r e f there found made stays complete =
      let (g, was, remains) = (comes k (given k e there)).was f found in
      let same : g ≡ e = same_Some g e (sym was ∙ there) in
      (remains (ap (λ (e : Entry). e.making) same ∙ made)).complete r (λ none. none) (subst (λ e. IsCompleteOn e r) (sym same) complete)

  placed_by : (S : RecordState) (replicas : ℕ → ℕ → Option ReplicaState) → ((k : ℕ) → k ≤ m.cluster.last_identity → made.ComesOn IsPlacedAs k m.cluster S) → Placed S replicas
  placed_by S replicas comes k r e f there found made apart complete =
      let (g, was, placed) = (comes k (given k e there)).was f found in
      let same : g ≡ e = same_Some g e (sym was ∙ there) in
      inl (subst (λ e. IsCompleteOn e r) same (placed (ap (λ (e : Entry). e.making) same ∙ made) (ap (λ (e : Entry). is_collocated e.attributes) same ∙ apart) r complete))

  -- a copying completes one
  brought_placed : (s : CallState) (j q : ℕ) (b : Brings m s j q) → Placed (with_brought m inv s j q b).cluster (with_brought m inv s j q b).replicas
  brought_placed s j q b k r e f there found made apart complete = elim (entry-cases m inv s j q b k f found) [
    | inr was ↦ inl (subst (λ e. IsCompleteOn e r) (same_Some f e (sym was.1 ∙ there)) complete)
    | inl here ↦ (
        let e_is : b.entry ≡ e = same_Some b.entry e (sym b.found ∙ ap (λ k. entry_of k m.cluster.entries) (sym here.0) ∙ there) in
        elim (completed_placed q (slice_index m.cluster.up q) b.entry r (subst (λ f. IsCompleteOn f r) here.1 complete)) [
          | inl before ↦ inl (subst (λ e. IsCompleteOn e r) e_is before)
          | inr node ↦ inr (
              subst (λ r. IsCompletedNow m k r e f (with_brought m inv s j q b).replicas) (sym node)
              (subst (λ k. IsCompletedNow m k q e f (with_brought m inv s j q b).replicas) (sym here.0) (now s j q b e f e_is here.1)))
        ])
  ]
    where
      present : (all : Bool) (s : CallState) (j q : ℕ) (b : Brings m s j q) → IsCurrent m s j b.entry b.pulled all → all ≡ false → b.pulled.generation ≡ b.entry.generation
      present true s j q b current alone = absurd (cc alone)
      present false s j q b current alone = current

      now : (s : CallState) (j q : ℕ) (b : Brings m s j q) (e f : Entry) → b.entry ≡ e → f ≡ joined_entry m inv s j q b → IsCompletedNow m j q e f (with_brought m inv s j q b).replicas
      now s j q b e f e_is f_is = record {
        lacked = λ there. (let w : true ≡ false = sym (lacked m inv s j q b).none ∙ ap (λ (e : Entry). slice_index e.complete q == 0) e_is ∙ there in cc w);
        pulled = b.pulled;
        call = s.call;
        own = b.actor;
        copying = record { state = s; in_hand = b.held; asks = subst IsCopyAsk (sym b.asks) tt; call_is = refl; ckpt = b.ckpt; snapshot = b.in_hand };
        present = λ alone. present (is_all b.entry.attributes) s j q b b.current (ap (λ (e : Entry). is_all e.attributes) e_is ∙ alone) ∙ ap (λ (e : Entry). e.generation) e_is;
        replica = _;
        there = put2-here m.replicas j q _;
        effects = refl;
        generation = ap (λ (e : Entry). e.generation) (sym f_is);
      }

  module _ (s : CallState) (held : m.in_hand (who s) ≡ Some s) (t : Told) where
    -- the parts of the step
    abbrev t_of : Verb → Option ℕ → Option ℕ → StepReply → Told
    t_of verb j q reply = record t { verb = verb; ckpt = j; node = q; reply = reply }

    step_placed : (verb : Verb) (j q : Option ℕ) (reply : StepReply) → IsOnOwn verb j s.kept.ckpt → Row m s verb (t_of verb j q reply) → StepNeeds m.cluster s.call verb j reply → Placed (changed m s verb j q reply).cluster (changed m s verb j q reply).replicas
    step_placed verbs.Complete j q reply own row needs = after_complete (λ n. Placed n.cluster n.replicas) m inv s held t j q reply own row (same_leave None m.cluster m.replicas refl).1 (brought_placed s)
    step_placed verb j q reply own row needs = placed_by (changed m s verb j q reply).cluster (changed m s verb j q reply).replicas (λ k given. made.changed_goes IsPlacedAs stays_placed led_placed k m given inv s verb j q reply (λ is. cc is) needs)

    -- whatever the step is
    step_leaves : (verb : Verb) (j q : Option ℕ) (reply : StepReply) → IsOnOwn verb j s.kept.ckpt → Row m s verb (t_of verb j q reply) → Leave None (changed m s verb j q reply)
    step_leaves verb j q reply own row =
        let needs = row_needs m inv s verb j q reply t.end t.details row in
        (remain_by (changed m s verb j q reply).cluster (λ k given. remaining.changed_goes k m given inv s verb j q reply needs), step_placed verb j q reply own row needs)

  -- ---- any label

  -- time goes on
  moved_leaves : (n : Machine) (t : ℤ) → n.cluster ≡ moved t m.cluster → Leave None n
  moved_leaves n t is = (
    subst (Remain None) (sym is) (remain_by (moved t m.cluster) (λ k given. remaining.moved_goes k m given inv t)),
    subst (λ R. Placed R n.replicas) (sym is) (placed_by (moved t m.cluster) n.replicas (λ k given. made.moved_goes IsPlacedAs stays_placed led_placed k m given inv t)),
  )

  -- a node fails
  failed_leaves : (r : ℕ) → Leave (Some r) (failed_at r m)
  failed_leaves r = (
    (λ k q e f there found made stays complete.
        let it = was_entry m inv.shapes inv.holds r k f found in
        let nodes : f.complete ≡ slice_set e.complete r 0 = it.left.complete ∙ ap (λ (e : Entry). slice_set e.complete r 0) (same_Some it.e e (sym it.was ∙ there)) in
        subst (λ (cs : List ℕ). (slice_index cs q == 0) ≡ false) (sym nodes) (complete_still e.complete r q (other q stays) complete)),
    (λ k q e f there found made apart complete.
        let it = was_entry m inv.shapes inv.holds r k f found in
        let nodes : f.complete ≡ slice_set e.complete r 0 = it.left.complete ∙ ap (λ (e : Entry). slice_set e.complete r 0) (same_Some it.e e (sym it.was ∙ there)) in
        inl (complete_was e.complete r q (subst (λ (cs : List ℕ). (slice_index cs q == 0) ≡ false) nodes complete)).1),
  )
    where
      other : (q : ℕ) → Some r ≢ Some q → (q == r) ≡ false
      other q stays = elim (q == r) as (λ b. (q == r) ≡ b → (q == r) ≡ false) [
        | true ↦ λ same. absurd (stays (ap Some (sym (eqb-true q r same))))
        | false ↦ λ apart. apart
      ] refl

  label_leaves_nodes : (l : Label) → Allowed m l → IsDue m l → Leave (gone_by l) (after m l)
  label_leaves_nodes (labels.Began call op end details) allowed due = same_leave None (after m (labels.Began call op end details)).cluster (after m (labels.Began call op end details)).replicas refl
  label_leaves_nodes (labels.Stepped call op verb j q reply end details) allowed due =
      let s = allowed.state in
      let held : m.in_hand (who s) ≡ Some s = held_as m call op s allowed.in_hand allowed.call_is allowed.word in
      let leaves = step_leaves s held (record { verb = verb; ckpt = j; node = q; reply = reply; end = end; details = details }) verb j q reply allowed.own allowed.row in
      subst (λ o. Leave None (step_of m o verb j q reply end)) (sym allowed.in_hand) (leaves.0, leaves.1)
  label_leaves_nodes (labels.Word by line said) allowed due = same_leave None m.cluster m.replicas refl
  label_leaves_nodes (labels.Nodes n) allowed due = same_leave None (after m (labels.Nodes n)).cluster (after m (labels.Nodes n)).replicas refl
  label_leaves_nodes (labels.Moved t) allowed due = moved_leaves (after m (labels.Moved t)) t refl
  label_leaves_nodes (labels.Shown k replicas) allowed due = same_leave None m.cluster m.replicas refl
  label_leaves_nodes (labels.Pulled k reply) allowed due = after_pull (Leave None) m k reply allowed (same_leave None m.cluster m.replicas refl) (λ x from none. same_leave None m.cluster _ refl)
  label_leaves_nodes (labels.Put k r reply) allowed due = after_put (Leave None) m k r reply (same_leave None m.cluster m.replicas refl) (λ s x copied on. same_leave None m.cluster _ refl)
  label_leaves_nodes (labels.Failed r true) allowed due = failed_leaves r
  label_leaves_nodes (labels.Failed r false) allowed due = same_leave None m.cluster m.replicas refl
  label_leaves_nodes (labels.Joined r (Some incarnation)) allowed due = same_leave None (after m (labels.Joined r (Some incarnation))).cluster (after m (labels.Joined r (Some incarnation))).replicas refl
  label_leaves_nodes (labels.Joined r None) allowed due = same_leave None m.cluster m.replicas refl

-- WHATEVER THE LABEL IS
pub label_leaves : (m : Machine) → Invariant m → HasHistory m → Each (λ o r x. Unit {0}) (λ e s. Unit {0}) m → (l : Label) → Allowed m l → IsDue m l → LeavesCopying m l (after m l).cluster (after m l).replicas (after m l).in_hand
label_leaves m inv history each l allowed due =
    let leaves = label_leaves_nodes m inv l allowed due in
    record {
      goes = λ k given. after_goes m inv history.bare each k given l allowed;
      remains = leaves.0;
      placed = leaves.1;
      copies = λ call k y has. copying_had m inv history call k y l allowed due has;
      away = λ call k r y has actor. not_gone m inv history call k y r actor l has;
    }
