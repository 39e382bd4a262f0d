-- Whatever step is taken, a checkpoint that is there behind it was there, if its identity was given; and one that was made remains: it declares the same, and is complete where it was.
use Rattle.std.proofs.Common.{◌≡◌, ℕ, ◌≤◌, Option, Some, None, Bool, true, false, cond, ℤ, refl}
use Rattle.std.specs.Prelude.{slice_index}
use Rattle.node_msgs.specs.declared.steps.Verb.{Verb}
use Rattle.node_msgs.specs.declared.steps.Verb.TheVariants as verbs
use Rattle.node_msgs.specs.declared.steps.StepReply.{StepReply}
use Rattle.node_msgs.specs.declared.steps.StepReply.TheVariants as words
use Rattle.cluster_record.specs.declared.entries.Entry.{Entry}
use Rattle.cluster_record.specs.Joining.{completed, completed_on}
use Rattle.cluster_record.specs.RecordState.{RecordState, stays, swept, moved, can_lead, generation_under, with_active}
use Rattle.cluster_record.proofs.KeptLaws.{completed_on-keeps}
use Rattle.ckpt_machine.specs.After.{changed}
use Rattle.ckpt_machine.specs.Invariant.{Invariant}
use Rattle.ckpt_machine.specs.Machine.{Machine, CallState}
use Rattle.ckpt_machine.proofs.CompletedMade.{completed_remains}
use Rattle.ckpt_machine.proofs.StaysMade.{StaysMade, RemainsBut, StepNeeds}
use Rattle.ckpt_machine.proofs.StepsMade as made
use Rattle.ckpt_machine.proofs.StepsMade.{ComesOn}

-- it remains, where it was made, on all its nodes
abbrev pub Remains : Entry → Entry → Type 0
Remains e f = e.making ≡ None → RemainsBut (λ q. ⊥) e f

remains_same : (e : Entry) → Remains e e
remains_same e made = record { made = λ made. made; attributes = refl; complete = λ r stays there. there }

-- one that stays made does so
stays_remains : (e f : Entry) → StaysMade e f → Remains e f
stays_remains e f stays made = let still = stays.made made in record { made = λ made. still.made; attributes = still.attributes; complete = λ r not_gone there. still.remains r there }

-- an active leaves the nodes
led_remains : (r : ℕ) (e : Entry) → Remains e (with_active r e)
led_remains r e made = by (can_lead r e)
  where
    by : (b : Bool) → RemainsBut (λ q. ⊥) e (cond b (record e { active = Some r; generation = generation_under r e; hold = None }) e)
    by true = record { made = λ made. made; attributes = refl; complete = λ q not_gone there. there }
    by false = record { made = λ made. made; attributes = refl; complete = λ q not_gone there. there }

module _ (k : ℕ) (m : Machine) (given : k ≤ m.cluster.last_identity) (inv : Invariant m) where
  -- so it is of one machine behind another
  abbrev pub RemainsOn : RecordState → RecordState → Type 0
  RemainsOn R S = ComesOn Remains k R S

  -- where time goes on
  pub moved_goes : (t : ℤ) → RemainsOn m.cluster (moved t m.cluster)
  moved_goes t = made.moved_goes Remains stays_remains led_remains k m given inv t

  completed_on_goes : (j q : ℕ) → RemainsOn m.cluster (swept (completed j q m.cluster))
  completed_on_goes j q =
      made.swept_goes Remains stays_remains led_remains k m given inv (completed j q m.cluster)
      (made.one_goes Remains stays_remains led_remains k m given inv j (completed_on q (slice_index m.cluster.up q)) (completed_on-keeps q (slice_index m.cluster.up q)).1 (λ e made. completed_remains q (slice_index m.cluster.up q) e))

  completed_goes : (s : CallState) (j q : Option ℕ) (reply : StepReply) → RemainsOn m.cluster (changed m s verbs.Complete j q reply).cluster
  completed_goes s (Some j) (Some q) words.Ok = completed_on_goes j q
  completed_goes s (Some j) None words.Ok = made.same_goes Remains stays_remains led_remains k m given inv
  completed_goes s None q words.Ok = made.same_goes Remains stays_remains led_remains k m given inv
  completed_goes s j q reply = made.same_goes Remains stays_remains led_remains k m given inv

  -- any step
  pub changed_goes : (s : CallState) (verb : Verb) (j q : Option ℕ) (reply : StepReply) → StepNeeds m.cluster s.call verb j reply → RemainsOn m.cluster (changed m s verb j q reply).cluster
  changed_goes s verbs.Complete j q reply needs = completed_goes s j q reply
  changed_goes s verb j q reply needs = made.changed_goes Remains stays_remains led_remains k m given inv s verb j q reply (λ is. cc is) needs
