-- The effects of each replica keep the order of the calls, in every state of a run; and so do those of each snapshot.
use Rattle.std.proofs.Common.{◌≡◌, ◌⊎◌, ℕ, ◌+◌, inl, inr, List, [], ◌∷◌, ◌++◌, Option, Some, None, IfSome, Bool, cond, true, false, ℤ, refl, sym, ap, subst, ◌∙◌}
use Rattle.std.proofs.lemmas.Option.{same_Some}
use Rattle.ckpt_types.specs.declared.attributes.CreationAttributes.{CreationAttributes}
use Rattle.ckpt_types.specs.declared.identities.CallId.{CallId}
use Rattle.ckpt_types.specs.Asks.{update_of}
use Rattle.node_msgs.specs.declared.steps.Verb.{Verb}
use Rattle.run_labels.specs.declared.labels.Label.{Label}
use Rattle.weak_marks.specs.Marks.{Marked, is_left, with_next_done}
use Rattle.cluster_record.specs.declared.entries.Entry.{Entry}
use Rattle.cluster_record.specs.Placement.{is_all}
use Rattle.ckpt_machine.proofs.EachKept.{IsFreeFor, IsStagedLike, having_copied}
use Rattle.ckpt_machine.specs.After.{having_taken, committed_slot, next_element_written, marks_ended, with_lead, effect_of, staged_moment}
use Rattle.ckpt_machine.specs.Failing.{broken}
use Rattle.ckpt_machine.specs.InOrder.{EndsBefore, StandsBefore, KeepOrder, EffectsKeepOrder}
use Rattle.ckpt_machine.specs.Laws.{OfEachRun}
use Rattle.ckpt_machine.specs.Machine.{Machine, Effect, Applied, Broken, Staged, ReplicaState, Snapshot, CallState}
use Rattle.ckpt_machine.specs.Owned.{IsEffectOf, HasEffect}
use Rattle.ckpt_machine.specs.Propagation.{replica_from}
use Rattle.ckpt_machine.specs.Replays.{call_of_effect}
use Rattle.ckpt_machine.specs.Runs.{IsRun}
use Rattle.ckpt_machine.proofs.EachReplica.{IsKept, run_each}
use Rattle.ckpt_machine.proofs.EffectsOnce.{effect_own, alone_free}
use Rattle.ckpt_machine.proofs.EndedCalls.{not_ended_before}
use Rattle.ckpt_machine.proofs.Follows.{effect_more}
use Rattle.ckpt_machine.proofs.OneReplica.{StepsOn, claimed_was}
use Rattle.ckpt_machine.proofs.Replaying.{all_unmarked}
use Rattle.ckpt_machine.proofs.Runs.{run_front}

-- ---- effects

-- the call had not ended before any of those began that have these effects
abbrev IsBehindAll : List Label → CallId → List Effect → Type 0
IsBehindAll log c xs = (d : CallId) → HasEffect d xs → EndsBefore log c d → ⊥

-- behind one effect more, one of a call stands in front of one of another as before, or this is the new one
stands_more : (d c : CallId) (xs : List Effect) (new : Effect) → StandsBefore d c (xs ++ new ∷ []) → StandsBefore d c xs ⊎ (HasEffect d xs × IsEffectOf c new)
stands_more d c [] new (inl here) = absurd here.1
stands_more d c [] new (inr none) = absurd none
stands_more d c (x ∷ xs) new (inl here) = elim (effect_more c xs new here.1) [ inl was ↦ inl (inl (here.0, was)) | inr is ↦ inr (inl here.0, is) ]
stands_more d c (x ∷ xs) new (inr later) = elim (stands_more d c xs new later) [ inl was ↦ inl (inr was) | inr now ↦ inr (inr now.0, now.1) ]

-- so the order is kept where the new one is of such a call
order_more : (log : List Label) (xs : List Effect) (new : Effect) → KeepOrder log xs → IsBehindAll log (call_of_effect new) xs → KeepOrder log (xs ++ new ∷ [])
order_more log xs new order after c d ends stands = elim (stands_more d c xs new stands) [
  | inl was ↦ order c d ends was
  | inr now ↦ after d now.0 (subst (λ c. EndsBefore log c d) (sym (effect_own c new now.1)) ends)
]

-- ---- a replica

-- its effects keep the order, and so they do with what is staged on it, or marked
record IsOrdered (log : List Label) (x : ReplicaState) : Type 0 where
  order : KeepOrder log x.effects
  staged : (slot : Staged) → x.slot ≡ Some slot → IsBehindAll log slot.origin x.effects
  marked : (marks : Marked) → x.marks ≡ Some marks → IsBehindAll log marks.call x.effects

-- where nothing is staged and none marked
ordered_alone : (log : List Label) (x : ReplicaState) → x.slot ≡ None → x.marks ≡ None → KeepOrder log x.effects → IsOrdered log x
ordered_alone log x free none order = record {
  order = order;
  staged = λ slot is. absurd (let w : None ≡ Some slot = sym free ∙ is in cc w);
  marked = λ marks is. absurd (let w : None ≡ Some marks = sym none ∙ is in cc w);
}

-- with an effect more, of such a call
ordered_more : (log : List Label) (x y : ReplicaState) (new : Effect) → y.effects ≡ x.effects ++ new ∷ [] → y.slot ≡ None → y.marks ≡ None → IsBehindAll log (call_of_effect new) x.effects → IsOrdered log x → IsOrdered log y
ordered_more log x y new effects free none after was = ordered_alone log y free none (subst (KeepOrder log) (sym effects) (order_more log x.effects new was.order after))

-- behind a commit, where none is marked
committed_ordered : (log : List Label) (a : CreationAttributes) (x : ReplicaState) → x.marks ≡ None → IsOrdered log x → IsOrdered log (committed_slot a x x.slot)
committed_ordered log a x none was = by_slot x.slot refl
  where
    by_slot : (o : Option Staged) → x.slot ≡ o → IsOrdered log (committed_slot a x o)
    by_slot None is = was
    by_slot (Some slot) is = ordered_more log x (committed_slot a x (Some slot)) (effect_of slot) refl refl none (was.staged slot is) was

-- one that leads with what is in hand
led_ordered : (log : List Label) (o : Option Snapshot) (g : ℕ) (x : ReplicaState) → IsFreeFor o x → x.marks ≡ None → IfSome o (λ s. KeepOrder log s.effects) → IsOrdered log x → IsOrdered log (with_lead o g x)
led_ordered log None g x free none copied was = record { order = was.order; staged = was.staged; marked = was.marked }
led_ordered log (Some s) g x free none copied was = ordered_alone log (with_lead (Some s) g x) free none copied

-- one that a copying has brought to its node has the slot and the effects of another
copied_ordered : (log : List Label) (e f : Entry) (call : CallId) (t : ℤ) (s : Snapshot) (all : Bool) → KeepOrder log s.effects → IsStagedLike (λ o r x. IsOrdered log x) e call t s all → IsOrdered log (having_copied call t f s all)
copied_ordered log e f call t s false order like = ordered_alone log (having_copied call t f s false) refl refl order
copied_ordered log e f call t s true order (q, y, was, slot, effects) = record {
  order = order;
  staged = λ z is. subst (IsBehindAll log z.origin) effects (was.staged z (slot ∙ is));
  marked = λ marks none. absurd (cc none);
}

-- behind the next element of a weak write
element_ordered : (log : List Label) (a : CreationAttributes) (x : ReplicaState) (marks : Marked) → x.marks ≡ Some marks → is_left marks ≡ true → IsOrdered log x → IsOrdered log (next_element_written a x (Some marks))
element_ordered log a x marks stand left was = record {
  order = was.order;
  staged = was.staged;
  marked = λ other is.
      let next : Marked = record marks { done = marks.done + 1 } in
      let then : with_next_done (Some marks) ≡ Some next = ap (λ b. cond b (Some next) (Some marks)) left in
      let same : next ≡ other = same_Some next other (sym then ∙ is) in
      subst (λ c. IsBehindAll log c x.effects) (ap (λ (z : Marked). z.call) same) (was.marked marks stand);
}

-- a call in hand had not ended before any of those began that have effects on the replica
in_hand_behind : (log : List Label) → IsRun log → (m : Machine) (s : CallState) (verb : Verb) (k r : ℕ) (x : ReplicaState) → StepsOn log m s verb k r x → IsBehindAll log s.call x.effects
in_hand_behind log run m s verb k r x step d has = not_ended_before log run m step.at s step.held d (step.history.given k r d (record { replica = x; there = step.there; effect = has }))

-- ---- every step

kept_order : (log : List Label) → IsRun log → IsKept (λ o r x. IsOrdered log x) (λ e s. KeepOrder log s.effects) log
kept_order log run = record {
  opened = λ e r. record { order = λ c d ends none. none; staged = λ slot none. absurd (cc none); marked = λ marks none. absurd (cc none) };
  stays = λ e f r x same stays made was. was;
  stays_copied = λ e f s same stays made was. was;
  led = λ e f r o x same goes made free none copied was. led_ordered log o f.generation x free none copied was;
  pulled = λ e r x none was. was.order;
  put = λ e r s x present free none copied was. ordered_alone log (replica_from s x) free none copied;
  completed = λ e f r call t s same goes made copied like. copied_ordered log e f call t s (is_all f.attributes) copied like;
  staged = λ m s k r x step was. record {
    order = was.order;
    staged = λ slot is.
        let same = same_Some (record { owner = s.call; origin = s.call; update = update_of s.op; moment = staged_moment m k }) slot is in
        subst (λ c. IsBehindAll log c x.effects) (ap (λ (z : Staged). z.origin) same) (in_hand_behind log run m s _ k r x step);
    marked = was.marked;
  };
  claimed = λ m s k r x step was. record { order = was.order; staged = λ slot is. (let (old, old_is, origin, update) = claimed_was s.call x.slot slot is in subst (λ c. IsBehindAll log c x.effects) origin (was.staged old old_is)); marked = was.marked };
  withdrawn = λ m s k r x step was. record { order = was.order; staged = λ slot none. absurd (cc none); marked = was.marked };
  committed = λ m s k r x e step all was. committed_ordered log e.attributes x (all_unmarked m step.inv step.history.bare k r x e step.there all.found all.all) was;
  applied = λ m s k r x e step active none was.
      ordered_more log x (having_taken e.attributes s.call (update_of s.op) m.cluster.moment x) (Applied s.call (update_of s.op) m.cluster.moment) refl (alone_free m step.inv step.history.bare k r x e step.there active.found active.alone) none (in_hand_behind log run m s _ k r x step) was;
  -- the marks are of the call that is in hand
  marked = λ m s k r x e step active can was. record {
    order = was.order;
    staged = was.staged;
    marked = λ marks is.
        let same = same_Some (record { call = s.call; update = update_of s.op; moment = m.cluster.moment; done = 0; generation = x.generation }) marks is in
        subst (λ c. IsBehindAll log c x.effects) (ap (λ (z : Marked). z.call) same) (in_hand_behind log run m s _ k r x step);
  };
  element = λ m s k r x e marks step active stand was. element_ordered log e.attributes x marks stand.stand stand.are.left_is was;
  unmarked = λ m s k r x e marks step active stand was.
      ordered_more log x (marks_ended x (Some marks)) (Applied marks.call marks.update marks.moment) refl (alone_free m step.inv step.history.bare k r x e step.there active.found active.alone) refl (was.marked marks stand.stand) was;
  broken_off = λ e r x marks stand free none abandoned was. ordered_more log x (broken marks x) (Broken marks.call marks.update marks.moment marks.done) refl free refl (was.marked marks stand) was;
}

-- THE LAW: the effects of each replica keep the order of the calls
pub effects_keep_order : OfEachRun EffectsKeepOrder
effects_keep_order log run front back is k r x there =
    let before = run_front log front back is run in
    ((run_each (λ o r x. IsOrdered front x) (λ e s. KeepOrder front s.effects) front (kept_order front before) before).replica k r x there).order
