-- Each effect of each replica, and what is staged and marked there, is of a call that began with this very update, of this checkpoint.
use Rattle.std.proofs.Common.{◌≡◌, ℕ, ◌+◌, inl, inr, List, [], ◌∷◌, ◌++◌, Option, Some, None, Bool, true, false, cond, ℤ, refl, sym, ap, subst, ◌∙◌}
use Rattle.std.specs.Prelude.{IfSome}
use Rattle.std.proofs.lemmas.Option.{same_Some}
use Rattle.ckpt_types.specs.declared.attributes.CreationAttributes.{CreationAttributes}
use Rattle.ckpt_types.specs.Asks.{update_of}
use Rattle.run_labels.specs.declared.labels.Label.{Label}
use Rattle.weak_marks.specs.Marks.{Marked, is_left}
use Rattle.cluster_record.specs.declared.entries.Entry.{Entry}
use Rattle.cluster_record.specs.Placement.{is_all}
use Rattle.cluster_record.specs.RecordState.{entry_of, identity_of}
use Rattle.ckpt_types.specs.declared.identities.CallId.{CallId}
use Rattle.ckpt_types.specs.declared.update.Update.{Update}
use Rattle.ckpt_machine.proofs.OneReplica.{claimed_was}
use Rattle.ckpt_machine.specs.Laws.{OfEachRun}
use Rattle.ckpt_machine.specs.Failing.{broken}
use Rattle.ckpt_machine.specs.Options.{is_weak, is_by_element}
use Rattle.ckpt_machine.specs.Machine.{Machine, Effect, Applied, Broken, Staged, ReplicaState, Snapshot}
use Rattle.ckpt_machine.specs.Runs.{last, IsRun}
use Rattle.ckpt_machine.specs.Shape.{IsCompleteOn}
use Rattle.ckpt_machine.specs.Propagation.{replica_from}
use Rattle.ckpt_machine.specs.After.{opened_state, having_taken, committed_slot, next_element_written, marks_ended, with_lead, with_marks, effect_of, staged_moment}
use Rattle.ckpt_machine.specs.WasAsked.{WasAskedFor, WasAsked, EffectWasAsked, EachWasAsked, HasOnlyAsked, OnlyAskedThroughout}
use Rattle.ckpt_machine.proofs.Copying.{IsOfSource}
use Rattle.ckpt_machine.proofs.EachKept.{IsStagedLike, having_copied}
use Rattle.ckpt_machine.proofs.EachReplica.{IsKept, Each, run_each}
use Rattle.ckpt_machine.proofs.EntryLists.{find_key-key}
use Rattle.ckpt_machine.proofs.Histories.{run_history}
use Rattle.ckpt_machine.proofs.OptionLemmas.{IsSomeAnd-at}
use Rattle.ckpt_machine.proofs.Runs.{run_front}

-- one effect more
asked_more : (log : List Label) (k : ℕ) (xs : List Effect) (new : Effect) → EachWasAsked log k xs → EffectWasAsked log k new → EachWasAsked log k (xs ++ new ∷ [])
asked_more log k [] new all is = (is, tt)
asked_more log k (x ∷ xs) new all is = (all.0, asked_more log k xs new all.1 is)

module _ (log : List Label) where
  -- by the entry of its checkpoint, where this is there
  abbrev IsAskedIn : Option Entry → ReplicaState → Type 0
  IsAskedIn o x = (e : Entry) → o ≡ Some e → HasOnlyAsked log e.identity x

  abbrev IsAskedCopy : Entry → Snapshot → Type 0
  IsAskedCopy e s = EachWasAsked log e.identity s.effects

  -- nothing is staged behind a commit, and what was is an effect
  committed_asked : (a : CreationAttributes) (k : ℕ) (x : ReplicaState) → HasOnlyAsked log k x → HasOnlyAsked log k (committed_slot a x x.slot)
  committed_asked a k x was = by_slot x.slot refl
    where
      by_slot : (o : Option Staged) → x.slot ≡ o → HasOnlyAsked log k (committed_slot a x o)
      by_slot None is = was
      by_slot (Some slot) is = record { effects = asked_more log k x.effects (effect_of slot) was.effects (was.staged slot is); staged = λ other none. absurd (cc none); marked = was.marked }

  -- an element that is done leaves the marks the same call's, of the same write
  element_asked : (a : CreationAttributes) (k : ℕ) (x : ReplicaState) (marks : Marked) → x.marks ≡ Some marks → HasOnlyAsked log k x → HasOnlyAsked log k (next_element_written a x (Some marks))
  element_asked a k x marks stand was = record { effects = was.effects; staged = was.staged; marked = by_left (is_left marks) }
    where
      own : WasAskedFor log k marks.call marks.update
      own = was.marked marks stand

      by_left : (b : Bool) (other : Marked) → cond b (Some (record marks { done = marks.done + 1 })) (Some marks) ≡ Some other → WasAskedFor log k other.call other.update
      by_left true other is = subst (λ (z : Marked). WasAskedFor log k z.call z.update) (same_Some (record marks { done = marks.done + 1 }) other is) own
      by_left false other is = subst (λ (z : Marked). WasAskedFor log k z.call z.update) (same_Some marks other is) own

  -- a call of which there are marks was asked for what they are of, since a copying does nothing that is done element by element
  marks_asked : (weak : Bool) (k : ℕ) (call : CallId) (update : Update) → is_by_element weak update ≡ true → WasAsked log k call update → WasAskedFor log k call update
  marks_asked weak k call update by_element (inl asked) = asked
  marks_asked weak k call update by_element (inr copying) = absurd (let w : false ≡ true = ap (is_by_element weak) (sym copying.update_is) ∙ by_element in cc w)

  -- a replica leads with what is in hand, or with what it has
  led_asked : (k : ℕ) (o : Option Snapshot) (g : ℕ) (x : ReplicaState) → IfSome o (λ s. EachWasAsked log k s.effects) → HasOnlyAsked log k x → HasOnlyAsked log k (with_lead o g x)
  led_asked k None g x copied was = record { effects = was.effects; staged = was.staged; marked = was.marked }
  led_asked k (Some s) g x copied was = record { effects = copied; staged = was.staged; marked = was.marked }

  -- what is said of a replica is so of the entry that is found
  asked_as : (e : Entry) (x : ReplicaState) → HasOnlyAsked log e.identity x → IsAskedIn (Some e) x
  asked_as e x was f is = subst (λ (e : Entry). HasOnlyAsked log e.identity x) (same_Some e f is) was

  -- and of one with the same identity
  asked_still : (e f : Entry) (x : ReplicaState) → f.identity ≡ e.identity → HasOnlyAsked log e.identity x → HasOnlyAsked log f.identity x
  asked_still e f x same was = subst (λ k. HasOnlyAsked log k x) (sym same) was

  -- the checkpoint of an entry that is found
  its_own : (m : Machine) (k : ℕ) (e : Entry) → entry_of k m.cluster.entries ≡ Some e → k ≡ e.identity
  its_own m k e found = sym (find_key-key identity_of k m.cluster.entries e found)

  -- one that a copying has brought to its node has the slot of another
  copied_asked : (e f : Entry) (call : CallId) (t : ℤ) (s : Snapshot) (all : Bool) → EachWasAsked log e.identity s.effects → IsStagedLike (λ o r x. IsAskedIn o x) e call t s all → HasOnlyAsked log e.identity (having_copied call t f s all)
  copied_asked e f call t s false copied like = record { effects = copied; staged = λ slot none. absurd (cc none); marked = λ marks none. absurd (cc none) }
  copied_asked e f call t s true copied (q, y, was, slot, effects) = record { effects = copied; staged = λ z is. (was e refl).staged z (slot ∙ is); marked = λ marks none. absurd (cc none) }

  kept_asked : IsKept (λ o r x. IsAskedIn o x) IsAskedCopy log
  kept_asked = record {
    opened = λ e r. asked_as e (opened_state e) (record { effects = tt; staged = λ slot none. absurd (cc none); marked = λ marks none. absurd (cc none) });
    stays = λ e f r x same stays made was. asked_as f x (asked_still e f x same (was e refl));
    stays_copied = λ e f s same stays made was. subst (λ k. EachWasAsked log k s.effects) (sym same) was;
    led = λ e f r o x same goes made free none copied was. asked_as f (with_lead o f.generation x) (asked_still e f (with_lead o f.generation x) same (led_asked e.identity o f.generation x copied (was e refl)));
    pulled = λ e r x none was. (was e refl).effects;
    put = λ e r s x present free none copied was. asked_as e (replica_from s x) (let it = was e refl in record { effects = copied; staged = it.staged; marked = it.marked });
    completed = λ e f r call t s same goes made copied like. asked_as f (having_copied call t f s (is_all f.attributes)) (asked_still e f (having_copied call t f s (is_all f.attributes)) same (copied_asked e f call t s (is_all f.attributes) copied like));
    staged = λ m s k r x step was e found. (
        let it = was e found in
        record {
          effects = it.effects;
          staged = λ slot is. (
              let new : Staged = record { owner = s.call; origin = s.call; update = update_of s.op; moment = staged_moment m k } in
              subst (λ (z : Staged). WasAsked log e.identity z.origin z.update) (same_Some new slot is) (subst (λ k. WasAsked log k s.call (update_of s.op)) (its_own m k e found) step.asked));
          marked = it.marked;
        });
    claimed = λ m s k r x step was e found. (
        let it = was e found in
        record {
          effects = it.effects;
          staged = λ slot is. (let (old, old_is, origin, update) = claimed_was s.call x.slot slot is in subst (λ (z : CallId × Update). WasAsked log e.identity z.0 z.1) (λ i. (origin i, update i)) (it.staged old old_is));
          marked = it.marked;
        });
    withdrawn = λ m s k r x step was e found. (let it = was e found in record { effects = it.effects; staged = λ slot none. absurd (cc none); marked = it.marked });
    committed = λ m s k r x e step all was. asked_as e (committed_slot e.attributes x x.slot) (committed_asked e.attributes e.identity x (was e refl));
    applied = λ m s k r x e step active none was. asked_as e (having_taken e.attributes s.call (update_of s.op) m.cluster.moment x) (
        let it = was e refl in
        record { effects = asked_more log e.identity x.effects (Applied s.call (update_of s.op) m.cluster.moment) it.effects (subst (λ k. WasAsked log k s.call (update_of s.op)) (its_own m k e active.found) step.asked); staged = it.staged; marked = it.marked });
    marked = λ m s k r x e step active can was. asked_as e (with_marks s.call (update_of s.op) m.cluster.moment x) (
        let it = was e refl in
        record {
          effects = it.effects;
          staged = it.staged;
          marked = λ marks is. (
              let new : Marked = record { call = s.call; update = update_of s.op; moment = m.cluster.moment; done = 0; generation = x.generation } in
              subst (λ (z : Marked). WasAskedFor log e.identity z.call z.update) (same_Some new marks is) (marks_asked (is_weak e.attributes) e.identity s.call (update_of s.op) can.by_element (subst (λ k. WasAsked log k s.call (update_of s.op)) (its_own m k e active.found) step.asked)));
        });
    element = λ m s k r x e marks step active stand was. asked_as e (next_element_written e.attributes x (Some marks)) (element_asked e.attributes e.identity x marks stand.stand (was e refl));
    unmarked = λ m s k r x e marks step active stand was. asked_as e (marks_ended x (Some marks)) (
        let it = was e refl in
        record { effects = asked_more log e.identity x.effects (Applied marks.call marks.update marks.moment) it.effects (inl (it.marked marks stand.stand)); staged = it.staged; marked = λ other none. absurd (cc none) });
    broken_off = λ e r x marks stand free none abandoned was. asked_as e (broken marks x) (
        let it = was e refl in
        record { effects = asked_more log e.identity x.effects (Broken marks.call marks.update marks.moment marks.done) it.effects (it.marked marks stand); staged = it.staged; marked = λ other none. absurd (cc none) });
  }

-- THE LAW: after each front of a run
pub only_asked : OfEachRun OnlyAskedThroughout
only_asked log run front back is = record { replicas = replicas; snapshots = snapshots }
  where
    before : IsRun front
    before = run_front log front back is run

    each : Each (λ o r x. IsAskedIn front o x) (IsAskedCopy front) (last front)
    each = run_each (λ o r x. IsAskedIn front o x) (IsAskedCopy front) front (kept_asked front) before

    replicas : (k r : ℕ) (x : ReplicaState) → (last front).replicas k r ≡ Some x → HasOnlyAsked front k x
    replicas k r x there =
        let (inv, history) = run_history front before in
        let (e, found, complete) = IsSomeAnd-at (entry_of k (last front).cluster.entries) (λ e. IsCompleteOn e r) (history.bare.complete k r x there) in
        subst (λ k. HasOnlyAsked front k x) (sym (its_own front (last front) k e found)) (each.replica k r x there e found)

    snapshots : (k : ℕ) (s : Snapshot) → (last front).snapshots k ≡ Some s → EachWasAsked front k s.effects
    snapshots k s there =
        let (e, found, so) = IsSomeAnd-at (entry_of k (last front).cluster.entries) (λ e. IsOfSource e s × IsAskedCopy front e s) (each.snapshot k s there) in
        subst (λ k. EachWasAsked front k s.effects) (sym (its_own front (last front) k e found)) so.1
