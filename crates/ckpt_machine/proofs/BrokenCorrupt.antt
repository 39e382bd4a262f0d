-- Only a weak write that was cut short leaves sections corrupted, and only a failure cuts one short, after each front of a run.
use Rattle.std.proofs.Common.{◌≡◌, ℕ, List, [], ◌∷◌, Option, Some, None, All, sym, subst}
use Rattle.std.specs.Prelude.{IfSome}
use Rattle.std.proofs.lemmas.List.{append-nil}
use Rattle.std.proofs.lemmas.List.Elements.{All-cons, All-contains, All-nil, All-push}
use Rattle.ckpt_types.specs.declared.attributes.CreationAttributes.{CreationAttributes}
use Rattle.ckpt_types.specs.declared.sections.SectionState.TheVariants.{Corrupted}
use Rattle.ckpt_types.specs.Asks.{update_of}
use Rattle.run_labels.specs.declared.labels.Label.{Label}
use Rattle.ckpt_machine.specs.After.{committed_slot, effect_of, with_lead}
use Rattle.ckpt_machine.specs.BrokenCorrupt.{EachBrokenWasCutShort, EachCorruptedIsNamed, IsNamedByBroken, OnlyBrokenCorrupt}
use Rattle.ckpt_machine.specs.CallsEnd.{IsAbandonedIn}
use Rattle.ckpt_machine.specs.Laws.{OfEachRun}
use Rattle.ckpt_machine.specs.Machine.{Effect, Applied, Broken, Staged, ReplicaState, Snapshot}
use Rattle.ckpt_machine.specs.Replays.{EffectsTellThroughout}
use Rattle.ckpt_machine.specs.Runs.{last, IsRun}
use Rattle.ckpt_machine.specs.WasAsked.{EachWasAsked, EffectWasAsked}
use Rattle.ckpt_machine.proofs.CorruptedSections.{replay_corrupted}
use Rattle.ckpt_machine.proofs.CutShort.{cut_short}
use Rattle.ckpt_machine.proofs.EachReplica.{IsKept, run_each}
use Rattle.ckpt_machine.proofs.EffectsTell.{effects_tell}
use Rattle.ckpt_machine.proofs.Histories.{run_history}
use Rattle.ckpt_machine.proofs.OnlyAsked.{only_asked}
use Rattle.ckpt_machine.proofs.Runs.{run_front}
use Rattle.ckpt_machine.proofs.ShapedReplicas.{entry_there}

-- ---- whose the weak writes are that were cut short

module _ (log : List Label) where
  -- the effect is no such write, or its call was abandoned by a failure in the log
  abbrev IsOfAbandoned : Effect → Type 0
  IsOfAbandoned (Applied call update moment) = Unit {0}
  IsOfAbandoned (Broken call update moment done) = IsAbandonedIn log call

  abbrev EachOfAbandoned : List Effect → Type 0
  EachOfAbandoned effects = All IsOfAbandoned effects

  -- what was staged is no such write
  committed_abandoned : (a : CreationAttributes) (x : ReplicaState) → EachOfAbandoned x.effects → EachOfAbandoned (committed_slot a x x.slot).effects
  committed_abandoned a x was = by_slot x.slot
    where
      by_slot : (o : Option Staged) → EachOfAbandoned (committed_slot a x o).effects
      by_slot None = was
      by_slot (Some slot) = All-push IsOfAbandoned x.effects (effect_of slot) was tt

  -- a replica leads with what is in hand, or with what it has
  led_abandoned : (o : Option Snapshot) (g : ℕ) (x : ReplicaState) → IfSome o (λ s. EachOfAbandoned s.effects) → EachOfAbandoned x.effects → EachOfAbandoned (with_lead o g x).effects
  led_abandoned None g x copied was = was
  led_abandoned (Some s) g x copied was = copied

  kept_abandoned : IsKept (λ o r x. EachOfAbandoned x.effects) (λ e s. EachOfAbandoned s.effects) log
  kept_abandoned = record {
    opened = λ e r. All-nil IsOfAbandoned;
    stays = λ e f r x same stays made was. was;
    stays_copied = λ e f s same stays made was. was;
    led = λ e f r o x same goes made free none copied was. led_abandoned o f.generation x copied was;
    pulled = λ e r x none was. was;
    put = λ e r s x present free none copied was. copied;
    completed = λ e f r call t s same goes made copied like. copied;
    staged = λ m s k r x step was. was;
    claimed = λ m s k r x step was. was;
    withdrawn = λ m s k r x step was. was;
    committed = λ m s k r x e step all was. committed_abandoned e.attributes x was;
    applied = λ m s k r x e step active none was. All-push IsOfAbandoned x.effects (Applied s.call (update_of s.op) m.cluster.moment) was tt;
    marked = λ m s k r x e step active can was. was;
    element = λ m s k r x e marks step active stand was. was;
    unmarked = λ m s k r x e marks step active stand was. All-push IsOfAbandoned x.effects (Applied marks.call marks.update marks.moment) was tt;
    broken_off = λ e r x marks stand free none abandoned was. All-push IsOfAbandoned x.effects (Broken marks.call marks.update marks.moment marks.done) was abandoned;
  }

-- each effect is of a call that was asked for it
all_asked : (log : List Label) (k : ℕ) (effects : List Effect) → EachWasAsked log k effects → All (EffectWasAsked log k) effects
all_asked log k [] each = All-nil (EffectWasAsked log k)
all_asked log k (x ∷ effects) each = All-cons (EffectWasAsked log k) x effects each.0 (all_asked log k effects each.1)

-- so each of these writes is of a call that was cut short
broken_cut_short : (log : List Label) → IsRun log → (k r : ℕ) (x : ReplicaState) → (last log).replicas k r ≡ Some x → EachBrokenWasCutShort log x.effects
broken_cut_short log run k r x there call update moment done among =
    let asked = ((only_asked log run log [] (sym (append-nil log))).replicas k r x there).effects in
    let each = (run_each (λ o r x. EachOfAbandoned log x.effects) (λ e s. EachOfAbandoned log s.effects) log (kept_abandoned log) run).replica k r x there in
    cut_short log run k call update (All-contains (IsOfAbandoned log) x.effects (Broken call update moment done) each among) (All-contains (EffectWasAsked log k) x.effects (Broken call update moment done) (all_asked log k x.effects asked) among)

-- ---- which sections are corrupted

-- where each replica is the replay of its effects, each corrupted section is named by one
named_by_broken : (log : List Label) → IsRun log → EffectsTellThroughout log → (k r : ℕ) (x : ReplicaState) → (last log).replicas k r ≡ Some x → EachCorruptedIsNamed x
named_by_broken log run tells k r x there s among corrupted =
    let (inv, history) = run_history log run in
    let (e, found, complete) = entry_there (last log) inv.shapes inv.holds history.bare k r x there in
    let replays = (tells log [] (sym (append-nil log))).replays k r e x found there in
    All-contains (λ s. s.state ≡ Corrupted → IsNamedByBroken s.id x.effects) x.sections s (subst (All (λ s. s.state ≡ Corrupted → IsNamedByBroken s.id x.effects)) (sym replays) (replay_corrupted e.attributes e.made x.marks x.effects)) among corrupted

-- THE LAW: only a weak write that was cut short leaves sections corrupted, and only a failure cuts one short
pub only_broken_corrupt : OfEachRun OnlyBrokenCorrupt
only_broken_corrupt log run front back is k r x there =
    let before = run_front log front back is run in
    record { named = named_by_broken front before (effects_tell front before) k r x there; cut_short = broken_cut_short front before k r x there }
