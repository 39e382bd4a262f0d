-- No replica and no snapshot has two effects of one call, and none has an effect of the call whose update is staged on it.
use Rattle.std.proofs.Common.{◌≡◌, ℕ, inl, inr, List, [], ◌∷◌, ◌++◌, Option, Some, None, Bool, true, false, ℤ, refl, sym, ap, subst, ◌∙◌}
use Rattle.std.specs.Prelude.{IfSome}
use Rattle.std.proofs.lemmas.Option.{same_Some}
use Rattle.ckpt_types.specs.declared.attributes.CreationAttributes.{CreationAttributes}
use Rattle.ckpt_types.specs.declared.identities.CallId.{CallId}
use Rattle.ckpt_types.specs.Asks.{update_of}
use Rattle.node_msgs.specs.declared.next.Next.TheVariants.{Serve}
use Rattle.node_msgs.specs.declared.steps.Verb.TheVariants as verbs
use Rattle.run_labels.specs.declared.labels.Label.{Label}
use Rattle.cluster_record.specs.declared.calls.UpdatePhase.TheVariants.{Committing}
use Rattle.cluster_record.specs.declared.entries.Entry.{Entry}
use Rattle.cluster_record.specs.DueCopy.{copy_next}
use Rattle.cluster_record.specs.DueUpdate.{UpdateState, update_led, update_on, by_phase, commit_at}
use Rattle.cluster_record.specs.RecordState.{entry_of}
use Rattle.cluster_record.specs.StepDone.{first_lacking, last_having}
use Rattle.ckpt_machine.proofs.EachKept.{IsFreeFor, IsStagedLike, having_copied}
use Rattle.ckpt_machine.specs.Drivers.{update_in}
use Rattle.ckpt_machine.specs.Drivers as drivers
use Rattle.ckpt_machine.specs.Driving.{driver_next}
use Rattle.ckpt_machine.specs.Failing.{broken}
use Rattle.ckpt_machine.specs.Invariant.{Invariant}
use Rattle.ckpt_machine.specs.Machine.{Machine, Effect, Applied, Broken, Staged, ReplicaState, Snapshot, CallState, who}
use Rattle.cluster_record.specs.Placement.{is_all}
use Rattle.ckpt_machine.specs.Owned.{IsEffectOf, HasEffect}
use Rattle.ckpt_machine.specs.Replays.{call_of_effect, EachCallOnce}
use Rattle.ckpt_machine.specs.Runs.{last, IsRun}
use Rattle.ckpt_machine.specs.Shape.{IsShapedBy}
use Rattle.ckpt_machine.specs.After.{having_taken, committed_slot, marks_ended, with_lead, effect_of, staged_moment}
use Rattle.ckpt_machine.specs.Due.{Told, IsDone, due, driver_of, rooms_of}
use Rattle.ckpt_machine.proofs.EachReplica.{IsKept, run_each}
use Rattle.ckpt_machine.proofs.Follows.{IsBare, effect_more}
use Rattle.ckpt_machine.proofs.CopyCommits.{committing_commits, update_at}
use Rattle.ckpt_machine.proofs.Histories.{due_request, none_alone, shaped_there}
use Rattle.ckpt_machine.proofs.OneReplica.{StepsOn, claimed_was}
use Rattle.ckpt_machine.proofs.OptionLemmas.{IsSomeAnd-from}
use Rattle.ckpt_machine.proofs.UpdateIn.{IsUpdateVerb, does_staging, update_due, update_kept}

-- ---- effects

-- whose an effect is, it is of
pub effect_own : (d : CallId) (x : Effect) → IsEffectOf d x → call_of_effect x ≡ d
effect_own d (Applied call update t) is = is
effect_own d (Broken call update t done) is = is

-- one more, of a call that had none
once_more : (xs : List Effect) (new : Effect) → EachCallOnce xs → (HasEffect (call_of_effect new) xs → ⊥) → EachCallOnce (xs ++ new ∷ [])
once_more [] new once none = (λ has. has, tt)
once_more (x ∷ xs) new once none = (first, once_more xs new once.1 (λ has. none (inr has)))
  where
    first : HasEffect (call_of_effect x) (xs ++ new ∷ []) → ⊥
    first has = elim (effect_more (call_of_effect x) xs new has) [
      | inl was ↦ once.0 was
      | inr is ↦ none (inl (own x (sym (effect_own (call_of_effect x) new is))))
    ]
      where
        own : (x : Effect) → call_of_effect x ≡ call_of_effect new → IsEffectOf (call_of_effect new) x
        own (Applied call update t) is = is
        own (Broken call update t done) is = is

-- ---- a replica

-- no call has two of its effects, and none is of the call whose update is staged on it
pub record IsOnce (x : ReplicaState) : Type 0 where
  pub each : EachCallOnce x.effects
  pub fresh : (slot : Staged) → x.slot ≡ Some slot → HasEffect slot.origin x.effects → ⊥

-- behind a commit
committed_once : (a : CreationAttributes) (x : ReplicaState) → IsOnce x → IsOnce (committed_slot a x x.slot)
committed_once a x once = by_slot x.slot refl
  where
    by_slot : (o : Option Staged) → x.slot ≡ o → IsOnce (committed_slot a x o)
    by_slot None is = once
    by_slot (Some slot) is = record { each = once_more x.effects (effect_of slot) once.each (once.fresh slot is); fresh = λ other none. absurd (cc none) }

-- with an effect more, of a call of which it had none, where nothing is staged
one_effect_more : (x y : ReplicaState) (new : Effect) → y.effects ≡ x.effects ++ new ∷ [] → y.slot ≡ None → (HasEffect (call_of_effect new) x.effects → ⊥) → IsOnce x → IsOnce y
one_effect_more x y new effects free none once = record {
  each = subst EachCallOnce (sym effects) (once_more x.effects new once.each none);
  fresh = λ slot staged. absurd (let w : None ≡ Some slot = sym free ∙ staged in cc w);
}

-- one that a copying has brought to its node has the slot and the effects of another
copied_once : (e f : Entry) (call : CallId) (t : ℤ) (s : Snapshot) (all : Bool) → EachCallOnce s.effects → IsStagedLike (λ o r x. IsOnce x) e call t s all → IsOnce (having_copied call t f s all)
copied_once e f call t s false each like = record { each = each; fresh = λ slot none. absurd (cc none) }
copied_once e f call t s true each (q, y, was, slot, effects) = record { each = each; fresh = λ z is has. was.fresh z (slot ∙ is) (subst (HasEffect z.origin) (sym effects) has) }

-- where nothing is staged, a replica that leads with what is in hand
led_once : (o : Option Snapshot) (g : ℕ) (x : ReplicaState) → IsFreeFor o x → IfSome o (λ s. EachCallOnce s.effects) → IsOnce x → IsOnce (with_lead o g x)
led_once None g x free none once = record { each = once.each; fresh = once.fresh }
led_once (Some s) g x free copied once = record { each = copied; fresh = λ slot staged. absurd (let w : None ≡ Some slot = sym free ∙ staged in cc w) }

-- ---- a step of the call

-- one that commits takes no step but a commit and a look
data CommitsOrLooks (t : Told) : Type 0 where
  commit : t.verb ≡ verbs.Commit → CommitsOrLooks t
  look : t.verb ≡ verbs.Look → CommitsOrLooks t

commits_or_looks : (m : Machine) (s : CallState) (u : UpdateState) (t : Told) → driver_of s ≡ drivers.Update u → u.phase ≡ Committing → IsDone m s (due m s) t → CommitsOrLooks t
commits_or_looks m s u t is phase done = by_entry (entry_of u.ckpt m.cluster.entries) (subst (λ d. IsDone m s (driver_next m.cluster (rooms_of m s) d) t) is done)
  where
    at : (last : Option ℕ) → IsDone m s (commit_at u last) t → CommitsOrLooks t
    at None looked = look (ap (λ (t : Told). t.verb) looked)
    at (Some r) served = commit served.verb

    by_active : (e : Entry) (active : Option ℕ) → IsDone m s (update_led u m.cluster.moment e active) t → CommitsOrLooks t
    by_active e None looked = look (ap (λ (t : Told). t.verb) looked)
    by_active e (Some active) step =
        at (last_having 0 e.complete u.owned)
        (subst (λ ph. IsDone m s (by_phase u m.cluster.moment (first_lacking 0 e.complete u.owned) (last_having 0 e.complete u.owned) ph) t) phase step)

    by_entry : (o : Option Entry) → IsDone m s (update_on u m.cluster.moment o) t → CommitsOrLooks t
    by_entry None looked = look (ap (λ (t : Told). t.verb) looked)
    by_entry (Some e) step = by_active e e.active step

-- so a replica on which a call stages its update has no effect of it
none_staged : (log : List Label) (m : Machine) (s : CallState) (k r : ℕ) (x : ReplicaState) → StepsOn log m s verbs.Stage k r x → HasEffect s.call x.effects → ⊥
none_staged log m s k r x step has = elim (step.history.commits k r s step.held (record { replica = x; there = step.there; effect = has })) [
  | inl at ↦ elim (commits_or_looks m s at.update step.told at.driver_is at.phase step.done) [
    | commit is ↦ (let w : verbs.Stage ≡ verbs.Commit = sym step.verb_is ∙ is in cc w)
    | look is ↦ (let w : verbs.Stage ≡ verbs.Look = sym step.verb_is ∙ is in cc w)
  ]
  | inr brought ↦ (
      let of : IsUpdateVerb step.told.verb = subst IsUpdateVerb (sym step.verb_is) tt in
      let (node, request, next, verb) = due_request m s step.told step.done of in
      let served : copy_next m.cluster brought.copy ≡ Serve node request = ap (driver_next m.cluster (rooms_of m s)) (sym brought.driver_is) ∙ next in
      let (at, some) = update_at m.cluster brought.copy node request served (subst IsUpdateVerb verb of) in
      let does : update_in (driver_of s) ≡ Some brought.copy.staging = ap update_in brought.driver_is ∙ does_staging brought.copy at some in
      let kept : s.kept.ckpt ≡ Some brought.copy.staging.ckpt = update_kept m step.inv.shapes s (driver_of s) brought.copy.staging (step.inv.holds.hands (who s) s step.held).here does in
      let phase = brought.commits brought.copy.staging does (same_Some brought.copy.staging.ckpt k (sym kept ∙ step.kept)) in
      let w : verbs.Stage ≡ verbs.Commit = sym step.verb_is ∙ verb ∙ committing_commits m.cluster brought.copy.staging node request phase (update_due m.cluster (rooms_of m s) (driver_of s) brought.copy.staging node request (subst IsUpdateVerb verb of) does next) in
      cc w)
]

-- where updates are on the active alone, nothing is staged
pub alone_free : (m : Machine) → Invariant m → IsBare m → (k r : ℕ) (x : ReplicaState) (e : Entry) → m.replicas k r ≡ Some x → entry_of k m.cluster.entries ≡ Some e → is_all e.attributes ≡ false → x.slot ≡ None
alone_free m inv bare k r x e there found alone = (subst (λ all. IsShapedBy all (inv.shapes k) e.active r x) alone (shaped_there m inv.shapes inv.holds bare k r x e there found).shaped).free

-- ---- every step

-- it is so of each replica, whatever its checkpoint declares
kept_once : (log : List Label) → IsKept (λ o r x. IsOnce x) (λ e s. EachCallOnce s.effects) log
kept_once log = record {
  opened = λ e r. record { each = tt; fresh = λ slot none. absurd (cc none) };
  stays = λ e f r x same stays made once. once;
  stays_copied = λ e f s same stays made once. once;
  led = λ e f r o x same goes made free none copied once. led_once o f.generation x free copied once;
  pulled = λ e r x none once. once.each;
  put = λ e r s x present free none copied once. record { each = copied; fresh = λ slot staged. absurd (let w : None ≡ Some slot = sym free ∙ staged in cc w) };
  completed = λ e f r call t s same goes made copied like. copied_once e f call t s (is_all f.attributes) copied like;
  staged = λ m s k r x step once. record {
    each = once.each;
    fresh = λ slot is has.
        let same = same_Some (record { owner = s.call; origin = s.call; update = update_of s.op; moment = staged_moment m k }) slot is in
        none_staged log m s k r x step (subst (λ d. HasEffect d x.effects) (sym (ap (λ (z : Staged). z.origin) same)) has);
  };
  claimed = λ m s k r x step once. record { each = once.each; fresh = λ slot is has. (let (old, was, origin, update) = claimed_was s.call x.slot slot is in once.fresh old was (subst (λ d. HasEffect d x.effects) (sym origin) has)) };
  withdrawn = λ m s k r x step once. record { each = once.each; fresh = λ slot none. absurd (cc none) };
  committed = λ m s k r x e step all once. committed_once e.attributes x once;
  applied = λ m s k r x e step active none once.
      let y = having_taken e.attributes s.call (update_of s.op) m.cluster.moment x in
      one_effect_more x y (Applied s.call (update_of s.op) m.cluster.moment) refl (alone_free m step.inv step.history.bare k r x e step.there active.found active.alone) (λ has. none_alone m step.inv step.history k r s step.held (IsSomeAnd-from (entry_of k m.cluster.entries) _ e active.found active.alone) (record { replica = x; there = step.there; effect = has })) once;
  -- a weak write is no effect until its end
  marked = λ m s k r x e step active can once. record { each = once.each; fresh = once.fresh };
  element = λ m s k r x e marks step active stand once. record { each = once.each; fresh = once.fresh };
  unmarked = λ m s k r x e marks step active stand once.
      let none = λ (has : HasEffect s.call x.effects). none_alone m step.inv step.history k r s step.held (IsSomeAnd-from (entry_of k m.cluster.entries) _ e active.found active.alone) (record { replica = x; there = step.there; effect = has }) in
      one_effect_more x (marks_ended x (Some marks)) (Applied marks.call marks.update marks.moment) refl (alone_free m step.inv step.history.bare k r x e step.there active.found active.alone) (λ has. none (subst (λ d. HasEffect d x.effects) stand.are.call_is has)) once;
  broken_off = λ e r x marks stand free none abandoned once. one_effect_more x (broken marks x) (Broken marks.call marks.update marks.moment marks.done) refl free none once;
}

-- THE LAW: no replica has two effects of one call
pub run_once : (log : List Label) → IsRun log → (k r : ℕ) (x : ReplicaState) → (last log).replicas k r ≡ Some x → EachCallOnce x.effects
run_once log run k r x there = ((run_each (λ o r x. IsOnce x) (λ e s. EachCallOnce s.effects) log (kept_once log) run).replica k r x there).each
