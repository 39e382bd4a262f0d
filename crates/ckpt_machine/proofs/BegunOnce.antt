-- A call begins once in a run: the number that it takes is not given again.
use Rattle.std.proofs.Common.{◌≡◌, ◌⊎◌, ℕ, ◌+◌, ◌<◌, ◌≤◌, inl, inr, List, [], ◌∷◌, ◌++◌, Option, Some, Bool, true, false, cond, refl, sym, ap, subst, ◌∙◌, append_assoc, arith}
use Rattle.std.proofs.lemmas.Option.{same_Some}
use Rattle.ckpt_machine.proofs.Dropped.{held_as}
use Rattle.node_msgs.specs.declared.details.Details.{Details}
use Rattle.ckpt_types.specs.declared.answers.Outcome.{Outcome}
use Rattle.ckpt_types.specs.declared.identities.ActorName.{ActorName}
use Rattle.ckpt_types.specs.Asks.{asked}
use Rattle.ckpt_types.specs.declared.identities.CallId.{CallId}
use Rattle.ckpt_types.specs.declared.operation.Op.{Op}
use Rattle.ckpt_types.specs.declared.words.OpWord.{OpWord}
use Rattle.node_msgs.specs.declared.steps.StepReply.{StepReply}
use Rattle.node_msgs.specs.declared.steps.StepReply.TheVariants as words
use Rattle.node_msgs.specs.declared.steps.Verb.{Verb}
use Rattle.node_msgs.specs.declared.steps.Verb.TheVariants as verbs
use Rattle.run_labels.specs.declared.labels.Label.{Label}
use Rattle.run_labels.specs.declared.labels.Label.TheVariants as labels
use Rattle.cluster_record.specs.Calls.{same_actor, put_actor}
use Rattle.ckpt_machine.specs.Acknowledged.{HasBegun}
use Rattle.ckpt_machine.specs.Guards.{Allowed, Row}
use Rattle.ckpt_machine.specs.Invariant.{Invariant}
use Rattle.ckpt_machine.specs.Machine.{Machine, who}
use Rattle.ckpt_machine.specs.Runs.{last, IsRun}
use Rattle.ckpt_machine.specs.Synchronized.{IsPullOf}
use Rattle.ckpt_machine.specs.After.{step_of, after}
use Rattle.ckpt_machine.specs.Due.{IsDue, asked_handle}
use Rattle.ckpt_machine.specs.Tables.{ckpt_of_handle}
use Rattle.ckpt_machine.proofs.Actors.{same_actor-true}
use Rattle.ckpt_machine.proofs.BegunBefore.{all_began, begun_more, begun_on}
use Rattle.ckpt_machine.proofs.Quiet.{quiet}
use Rattle.ckpt_machine.proofs.Histories.{HasHistory, follows, run_history}
use Rattle.ckpt_machine.proofs.ByActor.{put_actor-here}
use Rattle.ckpt_machine.proofs.Runs.{along, last-push, run_before, run_front}

-- ---- the number of an actor's next call

-- where it counts up it grows
counted_up : (m : Machine) (b a : ActorName) → m.next a ≤ put_actor m.next b (m.next b + 1) a
counted_up m b a = by_test (same_actor a b) refl
  where
    by_test : (t : Bool) → same_actor a b ≡ t → m.next a ≤ cond t (m.next b + 1) (m.next a)
    by_test false other = omega arith
    by_test true same = let it : m.next a ≡ m.next b = ap m.next (same_actor-true a b same) in omega (arith, it)

-- no label lets it fall
pub next_after : (m : Machine) (l : Label) → Invariant m → HasHistory m → Allowed m l → IsDue m l → (a : ActorName) → m.next a ≤ (after m l).next a
next_after m (labels.Began call op end details) inv history allowed due a = counted_up m call.actor a
next_after m (labels.Stepped call op verb k r reply end details) inv history allowed due a =
    let s = due.state in
    let held : m.in_hand (who s) ≡ Some s = held_as m call op s due.in_hand due.call_is due.word in
    let same : allowed.state ≡ s = same_Some allowed.state s (sym allowed.in_hand ∙ due.in_hand) in
    let then = follows m inv history s held (record { verb = verb; ckpt = k; node = r; reply = reply; end = end; details = details }) (subst (λ z. Row m z verb _) same allowed.row) in
    let it : (after m (labels.Stepped call op verb k r reply end details)).next a ≡ m.next a = ap (λ o. (step_of m o verb k r reply end).next a) due.in_hand ∙ then.next a in
    omega (arith, it)
next_after m l inv history allowed due a = let same = ap (λ (f : ActorName → ℕ). f a) (quiet m inv l tt due).next in omega (arith, same)

-- ---- a call that has begun

module _ (log before behind : List Label) (call : CallId) (op : Op) (end : Option Outcome) (details : Details) (is : log ≡ before ++ labels.Began call op end details ∷ behind) (run : IsRun log) where
  abbrev l : Label
  l = labels.Began call op end details

  pub until : IsRun before × Allowed (last before) l × IsDue (last before) l
  until = run_before _ before l (run_front log (before ++ l ∷ []) behind (is ∙ sym (append_assoc before (l ∷ []) behind)) run)

  -- it took the number that was next
  pub took : call.number ≡ (last before).next call.actor
  took = until.2.number

  -- and the next one is above it from then on
  passed : call.number < (last log).next call.actor
  passed =
      let log_is : log ≡ (before ++ l ∷ []) ++ behind = is ∙ sym (append_assoc before (l ∷ []) behind) in
      let first : (after (last before) l).next call.actor ≡ (last before).next call.actor + 1 = put_actor-here (last before).next call.actor ((last before).next call.actor + 1) in
      let took_it = took in
      subst (λ (xs : List Label). call.number < (last xs).next call.actor) (sym log_is) (along (λ log m. call.number < m.next call.actor) rises (before ++ l ∷ []) behind (subst IsRun log_is run)
      (subst (λ (m : Machine). call.number < m.next call.actor) (sym (last-push before l)) (omega (arith, took_it, first))))
    where
      rises : (front : List Label) (l : Label) → IsRun front → Allowed (last front) l → IsDue (last front) l → call.number < (last front).next call.actor → call.number < (after (last front) l).next call.actor
      rises front l before allowed due below =
          let (inv, history) = run_history front before in
          let then : (last front).next call.actor ≤ (after (last front) l).next call.actor = next_after (last front) l inv history allowed due call.actor in
          omega (arith, below, then)

-- ---- where two labels stand in a log

abbrev pub Stand : List Label → List Label → Label → Label → Type 0
Stand xs ys x y = ((xs ≡ ys) × (x ≡ y)) ⊎ (((cs : List Label) × (ys ≡ xs ++ x ∷ cs)) ⊎ ((cs : List Label) × (xs ≡ ys ++ y ∷ cs)))

-- they are one, or one stands in front of the other
pub stand : (xs ys : List Label) (x y : Label) (us vs : List Label) → xs ++ x ∷ us ≡ ys ++ y ∷ vs → Stand xs ys x y
stand [] [] x y us vs is = inl (refl, (let head : x ≡ y = cc is in head))
stand [] (z ∷ ys) x y us vs is = inr (inl (ys, ap (λ (w : Label). w ∷ ys) (let head : z ≡ x = cc is in head)))
stand (z ∷ xs) [] x y us vs is = inr (inr (xs, ap (λ (w : Label). w ∷ xs) (let head : z ≡ y = cc is in head)))
stand (z ∷ xs) (w ∷ ys) x y us vs is =
    let head : z ≡ w = cc is in
    let tail : xs ++ x ∷ us ≡ ys ++ y ∷ vs = cc is in
    elim (stand xs ys x y us vs tail) [
      | inl same ↦ inl ((λ i. head i ∷ same.0 i), same.1)
      | inr (inl later) ↦ inr (inl (later.0, (λ i. sym head i ∷ later.1 i)))
      | inr (inr sooner) ↦ inr (inr (sooner.0, (λ i. head i ∷ sooner.1 i)))
    ]

-- so a call begins once, with one operation and on one checkpoint
pub begins_once : (log : List Label) → IsRun log → (call : CallId) (op other : Op) (k j : Option ℕ) → HasBegun log call op k → HasBegun log call other j → (other ≡ op) × (j ≡ k)
begins_once log run call op other k j one two = elim (stand one.before two.before (labels.Began call op one.end one.details) (labels.Began call other two.end two.details) one.behind two.behind (sym one.log_is ∙ two.log_is)) [
  | inl same ↦ (
      let ops : other ≡ op = (let both = same.1 in cc both) in
      (ops, two.ckpt_is ∙ ap (λ (xs : List Label). ckpt_of_handle (asked_handle (last xs) call.actor other)) (sym same.0) ∙ ap (λ (o : Op). ckpt_of_handle (asked_handle (last one.before) call.actor o)) ops ∙ sym one.ckpt_is))
  | inr (inl later) ↦ (
      let run_two = (until log two.before two.behind call other two.end two.details two.log_is run).0 in
      let above : call.number < (last two.before).next call.actor = passed two.before one.before later.0 call op one.end one.details later.1 run_two in
      let taken : call.number ≡ (last two.before).next call.actor = took log two.before two.behind call other two.end two.details two.log_is run in
      absurd (omega (arith, above, taken)))
  | inr (inr sooner) ↦ (
      let run_one = (until log one.before one.behind call op one.end one.details one.log_is run).0 in
      let above : call.number < (last one.before).next call.actor = passed one.before two.before sooner.0 call other two.end two.details sooner.1 run_one in
      let taken : call.number ≡ (last one.before).next call.actor = took log one.before one.behind call op one.end one.details one.log_is run in
      absurd (omega (arith, above, taken)))
]

-- a call that takes a step began in front of it
pub step_begun : (log : List Label) → IsRun log → (before behind : List Label) (d : CallId) (word : OpWord) (verb : Verb) (j q : Option ℕ) (reply : StepReply) (end : Option Outcome) (details : Details) (call : CallId) → log ≡ before ++ labels.Stepped d word verb j q reply end details ∷ behind → d ≡ call
    → (op : Op) (ckpt : Option ℕ) → HasBegun log call op ckpt → HasBegun before call op ckpt
step_begun log run before behind d word verb j q reply end details call is same op ckpt begun =
    let step : Label = labels.Stepped d word verb j q reply end details in
    let (front, allowed, due) = run_before _ before step (run_front log (before ++ step ∷ []) behind (is ∙ sym (append_assoc before (step ∷ []) behind)) run) in
    let s = due.state in
    let held : (last before).in_hand (who s) ≡ Some s = held_as (last before) d word s due.in_hand due.call_is due.word in
    let first : HasBegun before call s.op (begun_on (asked s.op) s.kept.ckpt) = subst (λ c. HasBegun before c s.op (begun_on (asked s.op) s.kept.ckpt)) (due.call_is ∙ same) (all_began before front s held) in
    let longer : HasBegun log call s.op (begun_on (asked s.op) s.kept.ckpt) = subst (λ (xs : List Label). HasBegun xs call s.op (begun_on (asked s.op) s.kept.ckpt)) (sym is) (begun_more before (step ∷ behind) call s.op (begun_on (asked s.op) s.kept.ckpt) first) in
    let one = begins_once log run call op s.op ckpt (begun_on (asked s.op) s.kept.ckpt) begun longer in
    subst (λ (o : Op). HasBegun before call o ckpt) one.0 (subst (HasBegun before call s.op) one.1 first)

-- so one that has pulled began in front of its pull
pub pull_begun : (log : List Label) → IsRun log → (before behind : List Label) (pull : Label) (call : CallId) (k r : ℕ) → log ≡ before ++ pull ∷ behind → IsPullOf pull call k r → (op : Op) (ckpt : Option ℕ) → HasBegun log call op ckpt → HasBegun before call op ckpt
pull_begun log run before behind (labels.Stepped d word verbs.Pull (Some j) (Some q) words.Ok end details) call k r is of op ckpt begun = step_begun log run before behind d word verbs.Pull (Some j) (Some q) words.Ok end details call is of.0 op ckpt begun
pull_begun log run before behind l call k r is of op ckpt begun = absurd of

-- the number of a call that has begun is below that of its actor's next
pub begun_below : (log : List Label) → IsRun log → (call : CallId) (op : Op) (k : Option ℕ) → HasBegun log call op k → call.number < (last log).next call.actor
begun_below log run call op k begun = passed log begun.before begun.behind call op begun.end begun.details begun.log_is run

-- and so is that of one that has taken a step
pub step_below : (log : List Label) → IsRun log → (before behind : List Label) (d : CallId) (word : OpWord) (verb : Verb) (j q : Option ℕ) (reply : StepReply) (end : Option Outcome) (details : Details) (call : CallId) → log ≡ before ++ labels.Stepped d word verb j q reply end details ∷ behind → d ≡ call
    → call.number < (last log).next call.actor
step_below log run before behind d word verb j q reply end details call is same =
    let step : Label = labels.Stepped d word verb j q reply end details in
    let (front, allowed, due) = run_before _ before step (run_front log (before ++ step ∷ []) behind (is ∙ sym (append_assoc before (step ∷ []) behind)) run) in
    let s = due.state in
    let held : (last before).in_hand (who s) ≡ Some s = held_as (last before) d word s due.in_hand due.call_is due.word in
    let first : HasBegun before call s.op (begun_on (asked s.op) s.kept.ckpt) = subst (λ c. HasBegun before c s.op (begun_on (asked s.op) s.kept.ckpt)) (due.call_is ∙ same) (all_began before front s held) in
    begun_below log run call s.op (begun_on (asked s.op) s.kept.ckpt) (subst (λ (xs : List Label). HasBegun xs call s.op (begun_on (asked s.op) s.kept.ckpt)) (sym is) (begun_more before (step ∷ behind) call s.op (begun_on (asked s.op) s.kept.ckpt) first))
