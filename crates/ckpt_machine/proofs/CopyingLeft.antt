-- Of a copying that is in hand behind a label: its node has not gone by that, and it has of a checkpoint what it had, or has pulled it by the label.
use Rattle.std.proofs.Common.{◌≡◌, ◌≢◌, ◌⊎◌, ℕ, inl, inr, Option, Some, None, true, false, ◌==◌, refl, sym, ap, subst, ◌∙◌}
use Rattle.std.specs.Option.{option_map}
use Rattle.std.proofs.lemmas.Bool.{eq-eqb}
use Rattle.std.proofs.lemmas.Option.{same_Some}
use Rattle.ckpt_types.specs.declared.answers.Outcome.{Outcome}
use Rattle.ckpt_types.specs.declared.identities.ActorName.TheVariants.{Node}
use Rattle.ckpt_types.specs.declared.identities.CallId.{CallId}
use Rattle.ckpt_types.specs.declared.words.OpWord.{OpWord}
use Rattle.ckpt_types.specs.Asks.{asked}
use Rattle.ckpt_types.specs.OpWord.{stepped_as, word_of_op}
use Rattle.node_msgs.specs.declared.details.Details.{Details}
use Rattle.node_msgs.specs.declared.steps.StepReply.{StepReply}
use Rattle.node_msgs.specs.declared.steps.StepReply.TheVariants as words
use Rattle.node_msgs.specs.declared.steps.Verb.{Verb}
use Rattle.node_msgs.specs.declared.steps.Verb.TheVariants as verbs
use Rattle.run_labels.specs.declared.labels.Label.{Label}
use Rattle.run_labels.specs.declared.labels.Label.TheVariants as labels
use Rattle.cluster_record.specs.Calls.{left}
use Rattle.ckpt_machine.specs.After.{after, call_begun, changed, kept_behind, kept_by, pulled_by, step_of}
use Rattle.ckpt_machine.specs.CopyGuards.{CopyPullOk}
use Rattle.ckpt_machine.specs.Due.{IsDue, Told}
use Rattle.ckpt_machine.specs.Failing.{is_of_node}
use Rattle.ckpt_machine.specs.Guards.{Allowed, IsOnOwn, Row}
use Rattle.ckpt_machine.specs.Invariant.{Invariant}
use Rattle.ckpt_machine.specs.Machine.{Machine, Snapshot, CallState, who}
use Rattle.ckpt_machine.specs.Propagation.{copied}
use Rattle.ckpt_machine.proofs.Askers.{IsCopyAsk}
use Rattle.ckpt_machine.proofs.CopyingHands.{HasInCopying, IsPulledNow}
use Rattle.ckpt_machine.proofs.Dropped.{held_as}
use Rattle.ckpt_machine.proofs.FailedCalls.{left_is, left_stays}
use Rattle.ckpt_machine.proofs.Growing.{gone_by}
use Rattle.ckpt_machine.proofs.Histories.{HasHistory, follows, on_replica-there}
use Rattle.ckpt_machine.proofs.Quiet.{quiet}
use Rattle.ckpt_machine.proofs.Starting.{begun_as, first_kept}
use Rattle.ckpt_machine.proofs.Sync.{left_is as left_state}
use Rattle.ckpt_machine.proofs.Whose.{put_who-cases}

module _ (m : Machine) (inv : Invariant m) (history : HasHistory m) (c : CallId) (k : ℕ) (y : Snapshot) where
  -- it has what it had, or has pulled it by the label
  abbrev Had : Label → Type 0
  Had l = HasInCopying m.in_hand c k y ⊎ IsPulledNow m l c k y

  -- ---- its own step

  module _ (s : CallState) (held : m.in_hand (who s) ≡ Some s) (copies : IsCopyAsk (asked s.op)) (call_is : s.call ≡ c) (d : CallId) (step_of_it : s.call ≡ d) (op : OpWord) (end : Option Outcome) (details : Details) where
    -- the parts of the step
    abbrev t_of : Verb → Option ℕ → Option ℕ → StepReply → Told
    t_of verb j q reply = record { verb = verb; ckpt = j; node = q; reply = reply; end = end; details = details }

    abbrev l_of : Verb → Option ℕ → Option ℕ → StepReply → Label
    l_of verb j q reply = labels.Stepped d op verb j q reply end details

    -- what it keeps behind it is this
    abbrev Keeps : Verb → Option ℕ → Option ℕ → StepReply → Type 0
    Keeps verb j q reply = ((kept_by m s verb j reply).ckpt ≡ Some k) × (pulled_by m s verb j q reply ≡ Some y)

    -- where it has kept it
    as_before : (l : Label) → s.kept.ckpt ≡ Some k → s.snapshot ≡ Some y → Had l
    as_before l ckpt snapshot = inl (record { state = s; in_hand = held; asks = copies; call_is = call_is; ckpt = ckpt; snapshot = snapshot })

    -- where it has pulled it
    by_pull : (j q : ℕ) → Some j ≡ s.kept.ckpt → Row m s verbs.Pull (t_of verbs.Pull (Some j) (Some q) words.Ok) → Keeps verbs.Pull (Some j) (Some q) words.Ok → Had (l_of verbs.Pull (Some j) (Some q) words.Ok)
    by_pull j q own row keeps = elim row.0 [
      | inl sync ↦ absurd (subst IsCopyAsk sync.2 copies)
      | inr copy ↦ (
          let (e, x, found, there, ok) = on_replica-there m j q (CopyPullOk (t_of verbs.Pull (Some j) (Some q) words.Ok) q) copy.1 in
          let y_is : copied x ≡ y = same_Some (copied x) y (sym (ap (option_map copied) there) ∙ keeps.1) in
          let now : IsPulledNow m (l_of verbs.Pull (Some j) (Some q) words.Ok) c j y = (record { entry = e; found = found; node = q; pull = (sym step_of_it ∙ call_is, refl, refl); replica = x; there = there; active = λ alone. ok.active; effects = ap (λ (z : Snapshot). z.effects) y_is; sections = ap (λ (z : Snapshot). z.sections) y_is }) in
          inr (subst (λ k. IsPulledNow m (l_of verbs.Pull (Some j) (Some q) words.Ok) c k y) (same_Some j k (own ∙ keeps.0)) now))
    ]

    by_step : (verb : Verb) (j q : Option ℕ) (reply : StepReply) → IsOnOwn verb j s.kept.ckpt → Row m s verb (t_of verb j q reply) → Keeps verb j q reply → Had (l_of verb j q reply)
    by_step verbs.Reserve j q words.Ok own row keeps = absurd (let none = keeps.1 in cc none)
    by_step verbs.Reserve (Some j) q reply own row keeps = as_before _ keeps.0 keeps.1
    by_step verbs.Reserve None q reply own row keeps = as_before _ keeps.0 keeps.1
    by_step verbs.Pull (Some j) (Some q) words.Ok own row keeps = by_pull j q own row keeps
    by_step verbs.Pull (Some j) None words.Ok own row keeps = absurd row.0
    by_step verbs.Pull None q words.Ok own row keeps = absurd row.0
    by_step verbs.Hold (Some j) (Some q) words.Ok own row keeps = absurd (subst IsCopyAsk row.0.1 copies)
    by_step verbs.Hold (Some j) None words.Ok own row keeps = absurd row.0
    by_step verbs.Hold None q words.Ok own row keeps = absurd row.0
    by_step verb j q reply own row keeps = as_before _ keeps.0 keeps.1

  -- ---- any label

  -- a call that begins has nothing of it
  begun_none : (has : Option Snapshot) → None ≡ has → has ≡ Some y → ⊥
  begun_none has none some = let w : None ≡ Some y = none ∙ some in cc w

  pub copying_had : (l : Label) → Allowed m l → IsDue m l → HasInCopying (after m l).in_hand c k y → Had l
  copying_had (labels.Began call op end details) allowed due has = elim (put_who-cases m.in_hand (stepped_as call (word_of_op op)) (call_begun end call op (first_kept m call op)) (who has.state) has.state has.in_hand) [
    | inl own ↦ (let (d, driven, same) = begun_as end call op (first_kept m call op) has.state own.1 in absurd (begun_none has.state.snapshot (ap (λ (z : CallState). z.snapshot) same) has.snapshot))
    | inr other ↦ inl (record { state = has.state; in_hand = other.1; asks = has.asks; call_is = has.call_is; ckpt = has.ckpt; snapshot = has.snapshot })
  ]
  copying_had (labels.Stepped call op verb j q reply end details) allowed due has =
      let t : Told = record { verb = verb; ckpt = j; node = q; reply = reply; end = end; details = details } in
      let s = due.state in
      let held : m.in_hand (who s) ≡ Some s = held_as m call op s due.in_hand due.call_is due.word in
      let same : allowed.state ≡ s = same_Some allowed.state s (sym allowed.in_hand ∙ due.in_hand) in
      let row : Row m s verb t = subst (λ z. Row m z verb t) same allowed.row in
      let own : IsOnOwn verb j s.kept.ckpt = subst (λ (z : CallState). IsOnOwn verb j z.kept.ckpt) same allowed.own in
      let n : Machine = changed m s verb j q reply in
      let behind : CallState = kept_behind m s n.cluster verb j q reply in
      let z = has.state in
      let there = subst (λ o. (step_of m o verb j q reply end).in_hand (who z) ≡ Some z) due.in_hand has.in_hand in
      elim (put_who-cases n.in_hand (who s) (left end behind) (who z) z there) [
        | inl here ↦ (
            let it : behind ≡ z = left_state end behind z here.1 in
            by_step s held (subst (λ (z : CallState). IsCopyAsk (asked z.op)) (sym it) has.asks) (ap (λ (z : CallState). z.call) it ∙ has.call_is) call due.call_is op end details verb j q reply own row
            (ap (λ (z : CallState). z.kept.ckpt) it ∙ has.ckpt, ap (λ (z : CallState). z.snapshot) it ∙ has.snapshot))
        | inr other ↦ inl (record { state = z; in_hand = (follows m inv history s held t row).in_hand (who z) z other.1; asks = has.asks; call_is = has.call_is; ckpt = has.ckpt; snapshot = has.snapshot })
      ]
  copying_had l allowed due has = inl (record { state = has.state; in_hand = (quiet m inv l tt due).held (who has.state) has.state has.in_hand; asks = has.asks; call_is = has.call_is; ckpt = has.ckpt; snapshot = has.snapshot })

  -- a node that fails has no copying behind that
  pub not_gone : (r : ℕ) → c.actor ≡ Node r → (l : Label) → HasInCopying (after m l).in_hand c k y → gone_by l ≢ Some r
  not_gone r actor (labels.Failed q true) has gone =
      let left = left_is m inv.shapes inv.holds q (who has.state) has.state has.in_hand in
      let apart : is_of_node m.cluster q has.state.call.actor ≡ false = left_stays m inv.shapes inv.holds q has.state left.1 in
      let same : (r == q) ≡ true = eq-eqb r q (sym (same_Some q r gone)) in
      let w : true ≡ false = sym same ∙ ap (is_of_node m.cluster q) (sym (ap (λ (d : CallId). d.actor) has.call_is ∙ actor)) ∙ apart in
      cc w
  not_gone r actor l has gone = cc gone
