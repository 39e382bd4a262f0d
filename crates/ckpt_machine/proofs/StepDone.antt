-- What a step of the record makes of the machine, done or refused, by what drives its call.
use Rattle.std.proofs.Common.{◌≡◌, inl, inr, ℕ, ℤ, Bool, cond, length, true, false, refl, sym, ap, subst, ◌∙◌, ◌+◌, arith}
use Rattle.std.specs.Option.{option_map}
use Rattle.std.proofs.lemmas.Option.{same_Some}
use Rattle.std.specs.Prelude.{Option, Some, None, IsSome, IsSomeAnd, Result, Ok, Err, is_err, OnOk, OnErr}
use Rattle.ckpt_types.specs.declared.answers.Outcome.{Outcome}
use Rattle.ckpt_types.specs.declared.identities.CallId.{CallId}
use Rattle.ckpt_types.specs.declared.update.Update.TheVariants as updates
use Rattle.node_msgs.specs.declared.next.RecordStep.{RecordStep}
use Rattle.node_msgs.specs.declared.next.RecordStep.TheVariants as events
use Rattle.node_msgs.specs.declared.steps.Verb.{Verb}
use Rattle.node_msgs.specs.declared.steps.StepReply.{StepReply}
use Rattle.node_msgs.specs.declared.steps.StepReply.TheVariants as words
use Rattle.node_msgs.specs.Steps.{event_verb}
use Rattle.node_msgs.specs.declared.details.Details.TheVariants as beside
use Rattle.client_handles.specs.ClientState.{ClientState, emptied, has_handle_room}
use Rattle.cluster_record.specs.declared.calls.Making.{Making}
use Rattle.cluster_record.specs.declared.entries.Entry.{Entry}
use Rattle.cluster_record.specs.Calls.{client_of}
use Rattle.cluster_record.specs.DueOnce as once
use Rattle.cluster_record.specs.DueOpen.{making_ckpt}
use Rattle.cluster_record.specs.Identities.{IdentitiesRise}
use Rattle.cluster_record.specs.LookUps.{at_ckpt, identity_in}
use Rattle.cluster_record.specs.Placement.{is_all}
use Rattle.cluster_record.specs.Places.{put2}
use Rattle.cluster_record.specs.RecordState.{RecordState, entry_of, named, opened, finished, undone, unlinked, swept}
use Rattle.ckpt_types.specs.Asks.{asked}
use Rattle.ckpt_machine.specs.Drivers.{Driver}
use Rattle.ckpt_machine.specs.Drivers as drivers
use Rattle.ckpt_machine.specs.Driving.{event_ckpt, event_node}
use Rattle.ckpt_machine.specs.Facts.{IsCompletable, IsEventReady, IsFinishable}
use Rattle.ckpt_machine.specs.Machine.{Machine, CallState, ReplicaState, Snapshot, Staged}
use Rattle.ckpt_machine.specs.After.{at_some, changed, led_from, created_for, retained_for, record_step, replica_copied, slot_copied, staged_moment, with_closed, with_given, with_record, with_tables, without_calls}
use Rattle.ckpt_machine.specs.Due.{IsRecordAnswer}
use Rattle.ckpt_machine.specs.Tables.{registering, has_place}
use Rattle.ckpt_machine.proofs.AskedFor.{DrivesFor}
use Rattle.ckpt_machine.specs.RecordAfter.{event_after}
use Rattle.ckpt_machine.specs.RecordReady.{IsRefusedWith}
use Rattle.ckpt_machine.proofs.KeptEntries.{IsKept, declared, event_declared}
use Rattle.ckpt_machine.proofs.LentReplicas.{has_one}
use Rattle.ckpt_machine.proofs.OptionLemmas.{IsSomeAnd-at}
use Rattle.std.proofs.lemmas.Bool.{lt-ltb, ltb-true}
use Rattle.ckpt_types.specs.Limits.{handles_max}

-- ---- what is there of what a step is about

identity_there : (P : Entry → Type 0) (e : Option Entry) → IsSomeAnd e P → IsSome (identity_in e)
identity_there P None there = absurd there
identity_there P (Some e) there = refl

pub finishable_there : (m : Machine) (c : ℕ) (making : Option Making) → IsFinishable m c making → IsSome making
finishable_there m c None ready = absurd ready
finishable_there m c (Some making) ready = refl

ckpt_there : (making : Option Making) → IsSome making → IsSome (making_ckpt making)
ckpt_there None there = absurd (cc there)
ckpt_there (Some making) there = refl

-- what is said of a result, where it is known which it is
pub when_ok : {T E : Type 0} (P : Type 0) (r : Result T E) → is_err r ≡ false → OnOk r P → P
when_ok P (Ok x) is h = h
when_ok P (Err e) is h = absurd cc

pub when_err : {T E : Type 0} (P : Type 0) (r : Result T E) → is_err r ≡ true → OnErr r P → P
when_err P (Ok x) is h = absurd cc
when_err P (Err e) is h = h

-- where there is a place for one handle more beside those in the making, there is room for it
pub place_is_room : (making : ℕ) (t : ClientState) → has_place making t ≡ true → has_handle_room t ≡ true
place_is_room making t place = let few = ltb-true (length t.handles + making) handles_max place in lt-ltb (length t.handles) handles_max (omega (arith, few))

-- ---- what it makes of the machine, by its driver

-- the slot of a copying, at this moment
abbrev pub slot_at : CallId → Option ℤ → Option Staged
slot_at call moment = option_map (λ t. record { owner = call; origin = call; update = updates.Nothing; moment = t }) moment

-- the replica that a completion gives its node: what was pulled, in the present generation, with this slot
abbrev pub replica_given : CallId → Option ℤ → Option Entry → Option Snapshot → Option ReplicaState
replica_given call moment (Some e) (Some pulled) = Some (record { sections = pulled.sections; effects = pulled.effects; generation = e.generation; slot = slot_at call moment; marks = None })
replica_given call moment e pulled = None

-- beside the record: of the client's tables and of its asynchronous calls, of the replica that leads, or of the one that comes to be complete
abbrev pub besides : CallState → RecordStep → Option ℕ → Machine → Machine
besides s events.Enter k m = with_tables s.call.actor (registering (asked s.op)) m
besides s events.Open k m = at_some k m (λ k. with_given s k m)
besides s events.Finish k m = at_some k m (λ k. with_given s k m)
besides s events.Close k m = with_closed s m
besides s events.Leave k m = without_calls s.call.actor (with_tables s.call.actor emptied m)
besides s (events.Activate r) k m = at_some k m (λ k. led_from s.snapshot k r m)
besides s (events.Complete k r moment) at m = record m { replicas = put2 m.replicas k r (replica_given s.call moment (entry_of k m.cluster.entries) s.snapshot) }
besides s step k m = m

module _ (m : Machine) (s : CallState) where
  -- a step at the checkpoint that the label names
  step_at : (change : ℕ → RecordState → RecordState) (k : Option ℕ) → IsSome k → at_some k m (λ k. record_step (change k) m) ≡ with_record m (swept (at_ckpt k m.cluster (λ k. change k m.cluster)))
  step_at change None there = absurd (cc there)
  step_at change (Some k) there = refl

  -- for the client of the call, which gets a handle of it
  given_at : (change : ℕ → ℕ → RecordState → RecordState) (c : ℕ) (k : Option ℕ) → c ≡ client_of s.call → IsSome k →
      (let after = with_record m (swept (at_ckpt k m.cluster (λ k. change k c m.cluster))) in at_some k m (λ k. with_given s k (record_step (change k (client_of s.call)) m)) ≡ at_some k after (λ k. with_given s k after))
  given_at change c None client there = absurd (cc there)
  given_at change c (Some k) client there = λ i. with_given s k (record_step (change k (sym client i)) m)

  -- a completion gives that replica, since the checkpoint declares what it did
  given_copied : (k : ℕ) (moment : Option ℤ) (e : Entry) (o : Option Entry) → moment ≡ cond (is_all e.attributes) (Some (staged_moment m k)) None → IsKept (Some e.attributes) (option_map declared o) → replica_copied s.call (staged_moment m k) o s.snapshot ≡ replica_given s.call moment o s.snapshot
  given_copied k moment e None moment_is kept = refl
  given_copied k moment e (Some f) moment_is (inl gone) = absurd (cc gone)
  given_copied k moment e (Some f) moment_is (inr same) = by_snapshot s.snapshot where
    slot_is : slot_copied s.call (staged_moment m k) (is_all f.attributes) ≡ slot_at s.call moment
    slot_is = ap (λ a. slot_copied s.call (staged_moment m k) (is_all a)) (same_Some f.attributes e.attributes same) ∙ by_all (is_all e.attributes) ∙ ap (slot_at s.call) (sym moment_is) where
      by_all : (b : Bool) → slot_copied s.call (staged_moment m k) b ≡ slot_at s.call (cond b (Some (staged_moment m k)) None)
      by_all true = refl
      by_all false = refl

    by_snapshot : (pulled : Option Snapshot) → replica_copied s.call (staged_moment m k) (Some f) pulled ≡ replica_given s.call moment (Some f) pulled
    by_snapshot None = refl
    by_snapshot (Some pulled) = λ i. Some (record { sections = pulled.sections; effects = pulled.effects; generation = f.generation; slot = slot_is i; marks = None })

  -- the label alone tells what the driver makes of the record
  pub change_done : IdentitiesRise m.cluster.entries → (x : Driver) (step : RecordStep) → IsEventReady m s x step → DrivesFor s.call (asked s.op) x →
      changed m s (event_verb step) (event_ckpt m.cluster x step) (event_node x step) words.Ok ≡ besides s step (event_ckpt m.cluster x step) (with_record m (event_after s.call x step m.cluster))
  change_done rises (drivers.Once (once.Enter r)) events.Enter ready drives = refl
  change_done rises (drivers.Once once.Leave) events.Leave ready drives = refl
  change_done rises (drivers.Once (once.Close k)) events.Close ready drives = refl
  change_done rises (drivers.Once (once.Unlink name)) events.Unlink ready drives = step_at unlinked (identity_in (named name m.cluster.entries)) (identity_there _ (named name m.cluster.entries) ready)
  change_done rises (drivers.Once (once.Retain k duration)) events.Retain ready drives = ap (λ ask. record_step (retained_for ask k) m) drives.asks
  change_done rises (drivers.Open o) events.Create ready drives = ap (λ ask. record_step (created_for s.call ask) m) drives.asks
  change_done rises (drivers.Open o) events.Open ready drives = given_at opened o.ask.client (identity_in (named o.ask.name m.cluster.entries)) drives.client (identity_there _ (named o.ask.name m.cluster.entries) ready.0)
  change_done rises (drivers.Open o) events.Finish ready drives = given_at finished o.ask.client (making_ckpt o.making) drives.client (ckpt_there o.making (finishable_there m o.ask.client o.making ready.0))
  change_done rises (drivers.Open o) events.Undo ready drives = step_at undone (making_ckpt o.making) (ckpt_there o.making (has_one o.making _ ready.0))
  change_done rises (drivers.Sync u) (events.Hold r) ready drives = refl
  change_done rises (drivers.Sync u) (events.Activate r) ready drives = refl
  change_done rises (drivers.Copy c) (events.Complete k r moment) ready drives =
      let (e, found, can) = IsSomeAnd-at (entry_of k m.cluster.entries) (IsCompletable m s k r moment) ready.4 in
      let after = with_record m (event_after s.call (drivers.Copy c) (events.Complete k r moment) m.cluster) in
      let kept : IsKept (option_map declared (entry_of k m.cluster.entries)) (option_map declared (entry_of k after.cluster.entries)) = ((event_declared m.cluster s.call (drivers.Copy c) (events.Complete k r moment)).3 rises).each k in
      ap (λ y. record after { replicas = put2 after.replicas k r y }) (given_copied k moment e (entry_of k after.cluster.entries) can.moment_is (subst (λ o. IsKept o (option_map declared (entry_of k after.cluster.entries))) (ap (option_map declared) found) kept))
  change_done rises x step ready drives = absurd ready

-- ---- where it is refused

-- it is not done
abbrev pub IsNotOk : StepReply → Type 0
IsNotOk words.Ok = ⊥
IsNotOk reply = Unit {0}

pub refused_leaves : (m : Machine) (s : CallState) (step : RecordStep) (k r : Option ℕ) (reply : StepReply) → IsNotOk reply → changed m s (event_verb step) k r reply ≡ m
refused_leaves m s events.Enter k r words.Ok not_ok = absurd not_ok
refused_leaves m s step k r words.Ok not_ok = absurd not_ok
refused_leaves m s events.Enter k r reply not_ok = refl
refused_leaves m s step k r reply not_ok = refl

-- a step that is refused, or lacks its memory, is told so
pub refused_so : (refusal finish : Option Outcome) (step : RecordStep) (verb : Verb) (k r : Option ℕ) (reply : StepReply) (end : Outcome) → IsRefusedWith refusal step reply end → IsNotOk reply × IsRecordAnswer refusal finish step (record { verb = verb; ckpt = k; node = r; reply = reply; end = Some end; details = beside.Nothing })
refused_so (Some why) finish step verb k r words.Refused end refused = (tt, (refl, ap Some refused))
refused_so None finish step verb k r words.Memory end refused = (tt, inr (refused.0, refl, ap Some refused.1))
refused_so refusal finish step verb k r reply end refused = absurd refused
