-- Each replica is the replay of its effects, in every state of a run, with the elements that are done of a weak write that is under way; and so is each snapshot, without these.
use Rattle.std.proofs.Common.{◌≡◌, List, [], ◌∷◌, ◌++◌, ◌∙◌, ℕ, ◌+◌, length, take, Option, Some, None, IfSome, Bool, true, false, cond, ℤ, refl, sym, ap, subst}
use Rattle.std.specs.Prelude.{IsOk}
use Rattle.std.proofs.lemmas.Bool.{ltb-false}
use Rattle.std.proofs.lemmas.List.{take_all}
use Rattle.std.proofs.lemmas.Option.{same_Some}
use Rattle.ckpt_types.specs.declared.attributes.CreationAttributes.{CreationAttributes}
use Rattle.ckpt_types.specs.declared.identities.CallId.{CallId}
use Rattle.ckpt_types.specs.declared.update.IoElement.{IoElement}
use Rattle.ckpt_types.specs.declared.update.Update.{Update}
use Rattle.ckpt_types.specs.declared.update.Update.TheVariants as updates
use Rattle.ckpt_types.specs.Asks.{update_of}
use Rattle.ckpt_types.specs.Sections.{Section, opening}
use Rattle.ckpt_types.specs.Updates.{outcome}
use Rattle.run_labels.specs.declared.labels.Label.{Label}
use Rattle.weak_marks.specs.Marks.{Marked, elements_in, is_left, with_next_done}
use Rattle.replica.specs.Replicas.{first_written, elements_left, all_corrupted}
use Rattle.cluster_record.specs.declared.entries.Entry.{Entry}
use Rattle.cluster_record.specs.RecordState.{entry_of}
use Rattle.ckpt_machine.specs.Beginning.{update_is_bad}
use Rattle.ckpt_machine.specs.Invariant.{Invariant}
use Rattle.ckpt_machine.specs.Failing.{broken}
use Rattle.ckpt_machine.specs.Machine.{Machine, Effect, Applied, Broken, Staged, ReplicaState, Snapshot}
use Rattle.ckpt_machine.specs.Options.{is_by_element}
use Rattle.cluster_record.specs.Placement.{is_all}
use Rattle.ckpt_machine.specs.Propagation.{replica_from}
use Rattle.ckpt_machine.specs.Replays.{each_done, effect_done, effects_done, replay, with_marked, IsReplay}
use Rattle.ckpt_machine.specs.Runs.{last, IsRun}
use Rattle.ckpt_machine.specs.Shape.{IsShapedBy}
use Rattle.ckpt_machine.specs.After.{opened_state, having_taken, committed_slot, with_marks, next_element_written, marks_ended, with_lead}
use Rattle.ckpt_machine.proofs.EachKept.{having_copied}
use Rattle.ckpt_machine.proofs.EachReplica.{IsKept, run_each}
use Rattle.ckpt_machine.proofs.ElementsDone.{each_done-next, each_done-write}
use Rattle.ckpt_machine.proofs.Follows.{IsBare}
use Rattle.ckpt_machine.proofs.Histories.{shaped_there}
use Rattle.ckpt_machine.proofs.OneReplica.{CanBeMarked}
use Rattle.ckpt_machine.proofs.StaysMade.{GoesOnMade}

-- the last effect is done last
effects_done-last : (a : CreationAttributes) (effects : List Effect) (new : Effect) (sections : List Section) → effects_done a (effects ++ new ∷ []) sections ≡ effect_done a new (effects_done a effects sections)
effects_done-last a [] new sections = refl
effects_done-last a (effect ∷ effects) new sections = effects_done-last a effects new (effect_done a effect sections)

-- ---- a replica

-- a weak write is under way, of one element or more, with an outcome on what the effects leave
record IsUnderWay (e : Entry) (effects : List Effect) (marks : Marked) : Type 0 where
  first : IoElement
  others : List IoElement
  write : marks.update ≡ updates.Write (first ∷ others)
  fits : IsOk (outcome e.attributes marks.update marks.moment (replay e.attributes e.made effects))

-- the replica is the replay by this entry, and so is the weak write on it, where one is under way
record IsReplayed (e : Entry) (x : ReplicaState) : Type 0 where
  replays : IsReplay e x
  marked : IfSome x.marks (IsUnderWay e x.effects)

-- where no marks stand, the sections are what the effects leave
replay_there : (e : Entry) (x : ReplicaState) → x.marks ≡ None → IsReplayed e x → x.sections ≡ replay e.attributes e.made x.effects
replay_there e x none was = was.replays ∙ ap (λ marks. with_marked e.attributes marks (replay e.attributes e.made x.effects)) none

-- what no marks stand on is replayed, where it is the replay
replayed : (e : Entry) (x : ReplicaState) → x.marks ≡ None → x.sections ≡ replay e.attributes e.made x.effects → IsReplayed e x
replayed e x none is = record {
  replays = is ∙ sym (ap (λ marks. with_marked e.attributes marks (replay e.attributes e.made x.effects)) none);
  marked = subst (λ marks. IfSome marks (IsUnderWay e x.effects)) (sym none) tt;
}

-- ---- an update that is done at once

-- what has taken an update is the replay with that update more
taken_replay : (e : Entry) (call : CallId) (update : Update) (t : ℤ) (x : ReplicaState) → x.marks ≡ None → IsReplayed e x → IsReplayed e (having_taken e.attributes call update t x)
taken_replay e call update t x none was = replayed e (having_taken e.attributes call update t x) none (ap (effect_done e.attributes (Applied call update t)) (replay_there e x none was) ∙ sym (effects_done-last e.attributes x.effects (Applied call update t) (opening e.attributes e.made)))

-- a commit takes what is staged, if anything is
committed_replay : (e : Entry) (x : ReplicaState) (o : Option Staged) → x.marks ≡ None → IsReplayed e x → IsReplayed e (committed_slot e.attributes x o)
committed_replay e x None none was = was
committed_replay e x (Some slot) none was =
    let taken = taken_replay e slot.origin slot.update slot.moment x none was in
    record { replays = taken.replays; marked = taken.marked }

-- ---- a weak write

-- it has elements
write_of : (weak : Bool) (update : Update) → is_by_element weak update ≡ true → update_is_bad update ≡ false → (e : IoElement) × (elements : List IoElement) × (update ≡ updates.Write (e ∷ elements))
write_of weak (updates.Write []) by_element good = absurd (cc good)
write_of weak (updates.Write (e ∷ elements)) by_element good = (e, elements, refl)
write_of weak update by_element good = absurd (cc by_element)

-- its marks alone leave the sections
marked_replay : (e : Entry) (call : CallId) (update : Update) (t : ℤ) (x : ReplicaState) → CanBeMarked e update t x → IsReplayed e x → IsReplayed e (with_marks call update t x)
marked_replay e call update t x can was =
    let there = replay_there e x can.none was in
    let (first, others, write) = write_of _ update can.by_element can.good in
    record {
      replays = there;
      marked = record { first = first; others = others; write = write; fits = subst (λ sections. IsOk (outcome e.attributes update t sections)) there can.fits };
    }

module _ (e : Entry) (x : ReplicaState) (marks : Marked) (stand : x.marks ≡ Some marks) (was : IsReplayed e x) where
  -- what the effects leave
  abbrev under : List Section
  under = replay e.attributes e.made x.effects

  abbrev elements : List IoElement
  elements = elements_in marks.update

  way : IsUnderWay e x.effects marks
  way = subst (λ o. IfSome o (IsUnderWay e x.effects)) stand was.marked

  there : x.sections ≡ each_done e.attributes marks.moment (take marks.done elements) under
  there = was.replays ∙ ap (λ o. with_marked e.attributes o under) stand

  -- the next element is one more that is done
  element_replay : is_left marks ≡ true → IsReplayed e (next_element_written e.attributes x (Some marks))
  element_replay left =
      let next : Marked = record marks { done = marks.done + 1 } in
      let then : with_next_done (Some marks) ≡ Some next = ap (λ b. cond b (Some next) (Some marks)) left in
      record {
        replays = ap (first_written e.attributes marks.moment (elements_left marks)) there ∙ each_done-next e.attributes marks.moment marks.done elements under ∙ sym (ap (λ o. with_marked e.attributes o under) then);
        marked = subst (λ o. IfSome o (IsUnderWay e x.effects)) (sym then) (record { first = way.first; others = way.others; write = way.write; fits = way.fits });
      }

  -- all of them are what the write makes at once, which is an effect then
  unmarked_replay : is_left marks ≡ false → IsReplayed e (marks_ended x (Some marks))
  unmarked_replay none =
      let all : take marks.done elements ≡ elements = take_all marks.done elements (ltb-false marks.done (length elements) none) in
      let at_once = each_done-write e.attributes marks.moment marks.update way.first way.others under way.write way.fits in
      let then = effects_done-last e.attributes x.effects (Applied marks.call marks.update marks.moment) (opening e.attributes e.made) in
      replayed e (marks_ended x (Some marks)) refl (there ∙ ap (λ done. each_done e.attributes marks.moment done under) all ∙ at_once ∙ sym then)

  -- cut short, its sections are corrupted, which is an effect then
  broken_replay : IsReplayed e (broken marks x)
  broken_replay = replayed e (broken marks x) refl (ap (all_corrupted elements) there ∙ sym (effects_done-last e.attributes x.effects (Broken marks.call marks.update marks.moment marks.done) (opening e.attributes e.made)))

-- ---- every step

-- what declares the same, from the same moment, has the same replay
replay_kept : (e f : Entry) → GoesOnMade e f → (x : ReplicaState) → IsReplayed e x → IsReplayed f x
replay_kept e f keeps x was = record {
  replays = was.replays
      ∙ ap (λ a. with_marked a x.marks (replay a e.made x.effects)) (sym keeps.attributes)
      ∙ ap (λ t. with_marked f.attributes x.marks (replay f.attributes t x.effects)) (sym keeps.since);
  marked = by_marks x.marks was.marked;
}
  where
    by_marks : (o : Option Marked) → IfSome o (IsUnderWay e x.effects) → IfSome o (IsUnderWay f x.effects)
    by_marks None was = tt
    by_marks (Some marks) was = record {
      first = was.first;
      others = was.others;
      write = was.write;
      fits =
          subst (λ t. IsOk (outcome f.attributes marks.update marks.moment (replay f.attributes t x.effects))) (sym keeps.since)
          (subst (λ a. IsOk (outcome a marks.update marks.moment (replay a e.made x.effects))) (sym keeps.attributes) was.fits);
    }

-- where updates are on all replicas, no marks stand
pub all_unmarked : (m : Machine) → Invariant m → IsBare m → (k r : ℕ) (x : ReplicaState) (e : Entry) → m.replicas k r ≡ Some x → entry_of k m.cluster.entries ≡ Some e → is_all e.attributes ≡ true → x.marks ≡ None
all_unmarked m inv bare k r x e there found all = (subst (λ all. IsShapedBy all (inv.shapes k) e.active r x) all (shaped_there m inv.shapes inv.holds bare k r x e there found).shaped).unmarked

-- it is replayed by the entry of its checkpoint, where this is there
abbrev IsReplayedIn : Option Entry → ReplicaState → Type 0
IsReplayedIn o x = (e : Entry) → o ≡ Some e → IsReplayed e x

-- a snapshot is the replay of its effects
abbrev IsReplayedCopy : Entry → Snapshot → Type 0
IsReplayedCopy e s = s.sections ≡ replay e.attributes e.made s.effects

-- by what declares the same, from the same moment
copy_kept : (e f : Entry) (s : Snapshot) → GoesOnMade e f → IsReplayedCopy e s → IsReplayedCopy f s
copy_kept e f s keeps was = was ∙ ap (λ a. replay a e.made s.effects) (sym keeps.attributes) ∙ ap (λ t. replay f.attributes t s.effects) (sym keeps.since)

-- a replica on which no marks stand leads with what is in hand
led_replay : (e f : Entry) → GoesOnMade e f → (o : Option Snapshot) (x : ReplicaState) → x.marks ≡ None → IfSome o (IsReplayedCopy e) → IsReplayed e x → IsReplayed f (with_lead o f.generation x)
led_replay e f goes None x none copied was = let then = replay_kept e f goes x was in record { replays = then.replays; marked = then.marked }
led_replay e f goes (Some s) x none copied was = replayed f (with_lead (Some s) f.generation x) none (copy_kept e f s goes copied)

kept_replay : (log : List Label) → IsKept (λ o r x. IsReplayedIn o x) IsReplayedCopy log
kept_replay log = record {
  opened = λ e r f found. subst (λ f. IsReplayed f (opened_state e)) (same_Some e f found) (record { replays = refl; marked = tt });
  stays = λ e f r x identity stays made was g found. subst (λ g. IsReplayed g x) (same_Some f g found) (replay_kept e f stays x (was e refl));
  stays_copied = λ e f s identity stays made was. copy_kept e f s stays was;
  led = λ e f r o x identity goes made free none copied was g found. subst (λ g. IsReplayed g (with_lead o f.generation x)) (same_Some f g found) (led_replay e f goes o x none copied (was e refl));
  pulled = λ e r x none was. replay_there e x none (was e refl);
  put = λ e r s x present free none copied was f found. subst (λ f. IsReplayed f (replica_from s x)) (same_Some e f found) (replayed e (replica_from s x) none copied);
  completed = λ e f r call t s identity goes made copied like g found. subst (λ g. IsReplayed g (having_copied call t f s (is_all f.attributes))) (same_Some f g found) (replayed f (having_copied call t f s (is_all f.attributes)) refl (copy_kept e f s goes copied));
  staged = λ m s k r x step was e found. (let it = was e found in record { replays = it.replays; marked = it.marked });
  claimed = λ m s k r x step was e found. (let it = was e found in record { replays = it.replays; marked = it.marked });
  withdrawn = λ m s k r x step was e found. (let it = was e found in record { replays = it.replays; marked = it.marked });
  committed = λ m s k r x e step all was f found. subst (λ f. IsReplayed f (committed_slot e.attributes x x.slot)) (same_Some e f found) (committed_replay e x x.slot (all_unmarked m step.inv step.history.bare k r x e step.there all.found all.all) (was e refl));
  applied = λ m s k r x e step active none was f found. subst (λ f. IsReplayed f (having_taken e.attributes s.call (update_of s.op) m.cluster.moment x)) (same_Some e f found) (taken_replay e s.call (update_of s.op) m.cluster.moment x none (was e refl));
  marked = λ m s k r x e step active can was f found. subst (λ f. IsReplayed f (with_marks s.call (update_of s.op) m.cluster.moment x)) (same_Some e f found) (marked_replay e s.call (update_of s.op) m.cluster.moment x can (was e refl));
  element = λ m s k r x e marks step active stand was f found. subst (λ f. IsReplayed f (next_element_written e.attributes x (Some marks))) (same_Some e f found) (element_replay e x marks stand.stand (was e refl) stand.are.left_is);
  unmarked = λ m s k r x e marks step active stand was f found. subst (λ f. IsReplayed f (marks_ended x (Some marks))) (same_Some e f found) (unmarked_replay e x marks stand.stand (was e refl) stand.are.left_is);
  broken_off = λ e r x marks stand free none abandoned was f found. subst (λ f. IsReplayed f (broken marks x)) (same_Some e f found) (broken_replay e x marks stand (was e refl));
}

-- THE LAW: each replica is the replay of its effects
pub run_replays : (log : List Label) → IsRun log → (k r : ℕ) (e : Entry) (x : ReplicaState) → entry_of k (last log).cluster.entries ≡ Some e → (last log).replicas k r ≡ Some x → IsReplay e x
run_replays log run k r e x found there = ((run_each (λ o r x. IsReplayedIn o x) IsReplayedCopy log (kept_replay log) run).replica k r x there e found).replays
