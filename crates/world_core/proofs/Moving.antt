-- The moment: how the world shows that it is set, and that nothing else changes it.
use Rattle.std.proofs.Common.{◌≡◌, inl, inr, ℕ, ◌≤◌, Option, Some, None, Bool, true, false, List, length, ℤ, refl, sym, ap, subst, ◌∙◌}
use Rattle.std.specs.Prelude.{filter, nat_lt}
use Rattle.std.proofs.lemmas.Bool.{cases_lt, lt-ltb}
use Rattle.ckpt_types.specs.declared.answers.Outcome.{Outcome}
use Rattle.ckpt_types.specs.declared.identities.ActorName.{ActorName}
use Rattle.ckpt_types.specs.declared.identities.CallId.{CallId}
use Rattle.ckpt_types.specs.declared.identities.Who.{Who}
use Rattle.ckpt_types.specs.OpWord.{stepped_as}
use Rattle.ckpt_types.specs.declared.operation.Op.{Op}
use Rattle.node_msgs.specs.declared.steps.Verb.{Verb}
use Rattle.node_msgs.specs.declared.steps.Verb.TheVariants as verbs
use Rattle.node_msgs.specs.declared.steps.StepReply.{StepReply}
use Rattle.node_msgs.specs.declared.steps.StepReply.TheVariants as words
use Rattle.run_labels.specs.declared.labels.Label.{Label}
use Rattle.run_labels.specs.declared.labels.Label.TheVariants as labels
use Rattle.cluster_record.specs.Makings.{making_of}
use Rattle.cluster_record.specs.declared.entries.Entry.{Entry}
use Rattle.cluster_record.specs.RecordState.{RecordState, entry_of, stays, active_set, IsMomentFrom, moved}
use Rattle.cluster_record.specs.StepDone.{generation_in}
use Rattle.ckpt_types.specs.Asks.{Ask, asked}
use Rattle.ckpt_types.specs.Asks as asks
use Rattle.ckpt_machine.specs.Facts.{Facts}
use Rattle.ckpt_machine.specs.Machine.{Machine, ReplicaState, Snapshot, CallState}
use Rattle.ckpt_machine.specs.Nodes.{replica_in}
use Rattle.ckpt_machine.specs.After.{without_making, change_replica, created_for, retained_for, record_step, with_lead, led_from, changed, step_of, after}
use Rattle.ckpt_machine.specs.Due.{IsDue}
use Rattle.client_calls.specs.declared.in_hand.InHand.{InHand}
use Rattle.world_core.specs.declared.world.Event.{Event}
use Rattle.world_core.specs.declared.world.Event.TheVariants as happenings
use Rattle.world_core.specs.declared.world.World.{World}
use Rattle.world_core.specs.Backgrounds.{HaveRooms}
use Rattle.world_core.specs.Freeing.{freed_world}
use Rattle.ckpt_machine.specs.Holding.{HoldsOnlyWhatStands}
use Rattle.world_core.specs.Happenings.{SetsMoment}
use Rattle.world_core.specs.Runs.{Answers, AnswersBegin, AnswersStep, IsShownOf, IsPulledOf, IsPutOf, moment_of}
use Rattle.world_core.specs.Shows.{Does, Shows, History, machine_of}
use Rattle.world_core.specs.HandsState.{hand_at}
use Rattle.ckpt_machine.proofs.Copying.{after_pull, after_put}
use Rattle.world_core.proofs.Freeing.{DoesBefore, does_before, does_freed}
use Rattle.ckpt_machine.proofs.FreedNodes.{holds_behind}
use Rattle.ckpt_machine.proofs.Going.{goes_kept}
use Rattle.ckpt_machine.proofs.KeptEntries.{left_whole, sight, kept_filter}
use Rattle.world_core.proofs.Recording.{with_effects, record_is, record_fits}
use Rattle.ckpt_machine.proofs.GoesAt.{GoesAt}
use Rattle.world_core.proofs.SnapshotRooms.{moved_has}

-- ---- the moment is set

-- each entry is left as it was, or swept away
moved_goes : (w : World) (h : History) (t : ℤ) → Facts (machine_of w h) → (k r : ℕ) → GoesAt w.cluster.up k (entry_of k w.cluster.entries) (entry_of k (moved t w.cluster).entries) r (replica_in w.nodes k r) (replica_in w.nodes k r)
moved_goes w h t facts k r = goes_kept w.cluster.up k (entry_of k w.cluster.entries) (entry_of k (filter (stays t) w.cluster.entries)) r (replica_in w.nodes k r) (replica_in w.nodes k r) refl ((kept_filter sight (stays t) w.cluster.entries facts.rises).each k)

-- a world whose record is at another moment, and swept, before the nodes are freed
moved_before : (w : World) (t : ℤ) → IsMomentFrom w.cluster.moment t → DoesBefore w (record w { cluster = moved t w.cluster }) (labels.Moved t)
moved_before w t may = record {
  due_is = λ m s f. subst (λ (m : Machine). IsMomentFrom m.cluster.moment t) (sym s.same) may;
  history = λ m s f. with_effects w s.history;
  same = λ m s f. ap (λ m. after m (labels.Moved t)) s.same ∙ record_is w s.history (moved t w.cluster) w.nodes w.snapshots (moved_goes w s.history t (subst Facts s.same f)) refl s.keeps (λ k. refl);
  fits = λ m s f. record_fits w s.history (moved t w.cluster) w.nodes w.snapshots (moved_goes w s.history t (subst Facts s.same f)) refl s.keeps (λ k. refl) s.fits;
}

-- and behind that
moved_done : (w : World) (t : ℤ) (R : RecordState) → IsMomentFrom w.cluster.moment t → R ≡ moved t w.cluster → Does w (freed_world (record w { cluster = R })) (labels.Moved t)
moved_done w t R may R_is = subst (λ (R : RecordState). Does w (freed_world (record w { cluster = R })) (labels.Moved t)) (sym R_is)
    (does_freed w (record w { cluster = moved t w.cluster }) (labels.Moved t) (moved_before w t may)
    (λ m s f. holds_behind w.cluster (moved t w.cluster) w.nodes w.nodes refl (moved_goes w s.history t (subst Facts s.same f)) s.holds s.holds.once)
    (λ m s f. let facts = subst Facts s.same f in moved_has w.cluster w.snapshots s.keeps facts.rises facts.up_to t)
    (λ m s f. s.rooms))

-- and where none is gone by that, nothing is freed
moved_kept : (w : World) (t : ℤ) (R : RecordState) → IsMomentFrom w.cluster.moment t → R ≡ moved t w.cluster → filter (stays t) w.cluster.entries ≡ w.cluster.entries → Does w (record w { cluster = R }) (labels.Moved t)
moved_kept w t R may R_is all = subst (λ (R : RecordState). Does w (record w { cluster = R }) (labels.Moved t)) (sym R_is)
    (does_before w (record w { cluster = moved t w.cluster }) (labels.Moved t) (moved_before w t may)
    (λ m s f. subst (λ (entries : List Entry). HoldsOnlyWhatStands (record w.cluster { moment = t; entries = entries }) w.nodes) (sym all)
    (record { each = λ r x at. let held = s.holds.each r x at in record { up = held.up; stands = held.stands }; once = s.holds.once }))
    (λ m s f. subst (λ (entries : List Entry). HaveRooms entries w.snapshots) (sym all) s.keeps)
    (λ m s f. s.rooms))

-- the moment is set, with the label as the code names it, and where a checkpoint is gone by that, the nodes are freed of it
pub sets_moment : (w : World) (t u : ℤ) (R : RecordState) (freed_of : World) → u ≡ t → IsMomentFrom w.cluster.moment t → R ≡ moved u w.cluster → freed_of ≡ freed_world (record w { cluster = R }) → SetsMoment t w freed_of (labels.Moved u)
sets_moment w t u R freed_of same may R_is freed_is = record {
  label_is = ap labels.Moved same;
  hands = ap (λ (v : World). v.hands) freed_is;
  does = subst (λ (v : World). Does w v (labels.Moved u)) (sym freed_is)
      (moved_done w u R (subst (IsMomentFrom w.cluster.moment) (sym same) may) R_is);
}

-- what is not less is as much at least
not_less : (a b : ℕ) → nat_lt a b ≡ false → b ≤ a
not_less a b none = elim (cases_lt a b) [ inl lt ↦ absurd (let it : false ≡ true = sym none ∙ lt-ltb a b lt in cc it) | inr ge ↦ ge ]

-- and where none is, that is all
pub sets_moment_alone : (w : World) (t u : ℤ) (R : RecordState) (left_of : World) → u ≡ t → IsMomentFrom w.cluster.moment t → R ≡ moved u w.cluster → nat_lt (length R.entries) (length w.cluster.entries) ≡ false → left_of ≡ record w { cluster = R } → SetsMoment t w left_of (labels.Moved u)
sets_moment_alone w t u R left_of same may R_is none left_is =
    let left : length w.cluster.entries ≤ length (filter (stays u) w.cluster.entries) = subst (λ (R : RecordState). length w.cluster.entries ≤ length R.entries) R_is (not_less (length R.entries) (length w.cluster.entries) none) in
    record {
      label_is = ap labels.Moved same;
      hands = ap (λ (v : World). v.hands) left_is;
      does = subst (λ (v : World). Does w v (labels.Moved u)) (sym left_is)
          (moved_kept w u R (subst (IsMomentFrom w.cluster.moment) (sym same) may) R_is (left_whole (stays u) w.cluster.entries left));
    }

-- ---- the moment after a label

-- only one label sets it
abbrev pub moment_after : Label → ℤ → ℤ
moment_after (labels.Moved t) before = t
moment_after label before = before

-- the record is at the moment at which it was
abbrev SameMoment : Machine → Machine → Type 0
SameMoment m n = n.cluster.moment ≡ m.cluster.moment

without_making-moment : (m : Machine) (k : Option ℕ) → SameMoment m (without_making k m)
without_making-moment m None = refl
without_making-moment m (Some k) = refl

change_replica-moment : (m : Machine) (k r : ℕ) (x : Option ReplicaState) (change : ReplicaState → ReplicaState) → SameMoment m (change_replica m k r x change)
change_replica-moment m k r None change = refl
change_replica-moment m k r (Some x) change = refl

created_for-moment : (call : CallId) (ask : Ask) (R : RecordState) → (created_for call ask R).moment ≡ R.moment
created_for-moment call (asks.Open place name flags timeout None) R = refl
created_for-moment call (asks.Open place name flags timeout (Some a)) R = refl
created_for-moment call ask R = refl

retained_for-moment : (ask : Ask) (k : ℕ) (R : RecordState) → (retained_for ask k R).moment ≡ R.moment
retained_for-moment (asks.Retain place duration) k R = refl
retained_for-moment ask k R = refl

led_from-moment : (m : Machine) (snapshot : Option Snapshot) (k r : ℕ) → SameMoment m (led_from snapshot k r (record_step (active_set k r) m))
led_from-moment m snapshot k r = let led = record_step (active_set k r) m in change_replica-moment led k r (led.replicas k r) (with_lead snapshot (generation_in (entry_of k led.cluster.entries)))

-- but for what a change of the record or of a replica is by cases, by computation
changed-moment : (m : Machine) (s : CallState) (verb : Verb) (reply : StepReply) (k r : Option ℕ) → SameMoment m (changed m s verb k r reply)
changed-moment m s verbs.Create words.Ok k r = created_for-moment s.call (asked s.op) m.cluster
changed-moment m s verbs.Retain words.Ok (Some k) r = retained_for-moment (asked s.op) k m.cluster
changed-moment m s verbs.Stage words.Ok (Some k) (Some r) = change_replica-moment m k r (m.replicas k r) _
changed-moment m s verbs.Claim words.Ok (Some k) (Some r) = change_replica-moment m k r (m.replicas k r) _
changed-moment m s verbs.Commit words.Ok (Some k) (Some r) = change_replica-moment m k r (m.replicas k r) _
changed-moment m s verbs.Withdraw words.Ok (Some k) (Some r) = change_replica-moment m k r (m.replicas k r) _
changed-moment m s verbs.Apply words.Ok (Some k) (Some r) = change_replica-moment m k r (m.replicas k r) _
changed-moment m s verbs.Mark words.Ok (Some k) (Some r) = change_replica-moment m k r (m.replicas k r) _
changed-moment m s verbs.Element words.Ok (Some k) (Some r) = change_replica-moment m k r (m.replicas k r) _
changed-moment m s verbs.Unmark words.Ok (Some k) (Some r) = change_replica-moment m k r (m.replicas k r) _
changed-moment m s verbs.Install words.Ok (Some k) (Some r) = change_replica-moment m k r (m.replicas k r) _
changed-moment m s verbs.Activate words.Ok (Some k) (Some r) = led_from-moment m s.snapshot k r
changed-moment m s verbs.Look words.Refused k r = without_making-moment m (making_of s.call m.cluster)
changed-moment m s verb words.Ok (Some k) (Some r) = refl
changed-moment m s verb words.Ok (Some k) None = refl
changed-moment m s verb words.Ok None (Some r) = refl
changed-moment m s verb words.Ok None None = refl
changed-moment m s verb reply k r = refl

step_of-moment : (m : Machine) (o : Option CallState) (verb : Verb) (k r : Option ℕ) (reply : StepReply) (end : Option Outcome) → SameMoment m (step_of m o verb k r reply end)
step_of-moment m None verb k r reply end = refl
step_of-moment m (Some s) verb k r reply end = changed-moment m s verb reply k r

-- THE LAW: in the state after a label the moment is the one that the label set, or the one before it
pub after-moment : (m : Machine) (l : Label) → IsDue m l → (after m l).cluster.moment ≡ moment_after l m.cluster.moment
after-moment m (labels.Stepped call op verb k r reply end details) due = step_of-moment m (m.in_hand (stepped_as call op)) verb k r reply end
after-moment m (labels.Moved t) due = refl
after-moment m (labels.Pulled k reply) due = after_pull (SameMoment m) m k reply due refl (λ x from none. refl)
after-moment m (labels.Put k r reply) due = after_put (SameMoment m) m k r reply refl (λ s x copied on. refl)
after-moment m (labels.Failed r true) due = refl
after-moment m (labels.Failed r false) due = refl
after-moment m (labels.Joined r (Some incarnation)) due = refl
after-moment m (labels.Joined r None) due = refl
after-moment m l due = refl

-- ---- the moment after an event

begin-moment : (a : ActorName) (op : Op) (old new : World) (label : Label) (before : ℤ) → AnswersBegin a op old new label → moment_after label before ≡ before
begin-moment a op old new (labels.Moved t) before answers = absurd answers
begin-moment a op old new label before answers = refl

step-moment : (who : Who) (finish : Bool) (hand : Option InHand) (old new : World) (label : Label) (before : ℤ) → AnswersStep who finish hand old new label → moment_after label before ≡ before
step-moment who finish None old new (labels.Moved t) before answers = absurd answers
step-moment who finish (Some h) old new (labels.Moved t) before answers = absurd answers
step-moment who finish None old new label before answers = refl
step-moment who finish (Some h) old new label before answers = refl

listed-moment : (k : ℕ) (label : Label) (before : ℤ) → IsShownOf k label → moment_after label before ≡ before
listed-moment k (labels.Moved t) before is = absurd is
listed-moment k label before is = refl

pull-moment : (k : ℕ) (label : Label) (before : ℤ) → IsPulledOf k label → moment_after label before ≡ before
pull-moment k (labels.Moved t) before is = absurd is
pull-moment k label before is = refl

put_of-moment : (k r : ℕ) (label : Label) (before : ℤ) → IsPutOf k r label → moment_after label before ≡ before
put_of-moment k r (labels.Moved t) before is = absurd is
put_of-moment k r label before is = refl

-- a label that answers an event sets the moment as the event does
pub answers-moment : (event : Event) (old new : World) (label : Label) (before : ℤ) → Answers event old new label → moment_after label before ≡ moment_of event before
answers-moment (happenings.Nodes n) old new label before answers = ap (λ l. moment_after l before) answers.0
answers-moment (happenings.Begin a op) old new label before answers = begin-moment a op old new label before answers
answers-moment (happenings.Step who finish) old new label before answers = step-moment who finish (hand_at old.hands who) old new label before answers
answers-moment (happenings.At t) old new label before answers = ap (λ l. moment_after l before) answers.0
answers-moment (happenings.Show k) old new label before answers = listed-moment k label before answers.0
answers-moment (happenings.Pull k) old new label before answers = pull-moment k label before answers.0
answers-moment (happenings.Put k r) old new label before answers = put_of-moment k r label before answers.0
answers-moment (happenings.Fail r) old new label before answers = ap (λ l. moment_after l before) answers.0
answers-moment (happenings.Join r) old new label before answers = ap (λ l. moment_after l before) answers.0

-- and so the world shows it
pub shown-moment : (event : Event) (old new : World) (label : Label) (m : Machine) → Shows old m → Facts m → Does old new label → Answers event old new label → new.cluster.moment ≡ moment_of event old.cluster.moment
shown-moment event old new label m shows facts does answers =
    let now : (after m label).cluster.moment ≡ new.cluster.moment = ap (λ (x : Machine). x.cluster.moment) (does.shows m shows facts).same in
    let before : m.cluster.moment ≡ old.cluster.moment = ap (λ (x : Machine). x.cluster.moment) shows.same in
    sym now ∙ after-moment m label (does.due_is m shows facts) ∙ ap (moment_after label) before ∙ answers-moment event old new label old.cluster.moment answers
