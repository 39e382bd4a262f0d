-- What a call that does an update makes of each step of that, by what drives it: whether a commit ends it, where it is then, and that it comes nearer to its end.
use Rattle.std.proofs.Common.{◌≡◌, ◌≢◌, ◌⊎◌, ℕ, ◌+◌, ◌<◌, ◌≤◌, inl, inr, List, [], ◌∷◌, length, Option, Some, None, is_some, Bool, false, not, ◌&&◌, cond, refl, sym, ap, subst, ◌∙◌}
use Rattle.std.proofs.lemmas.Option.{same_Some}
use Rattle.ckpt_types.specs.declared.answers.Answer.{Answer}
use Rattle.ckpt_types.specs.declared.answers.Outcome.TheVariants.{Done}
use Rattle.ckpt_types.specs.declared.answers.Outcome.{Outcome}
use Rattle.ckpt_types.specs.declared.update.Update.{Update}
use Rattle.ckpt_types.specs.Asks.{Ask, asked, update_of, update_asked}
use Rattle.ckpt_types.specs.Asks as asks
use Rattle.cluster_record.specs.declared.calls.UpdatePhase.{UpdatePhase}
use Rattle.cluster_record.specs.declared.calls.UpdatePhase.TheVariants.{Staging, Committing, Claiming, Claimed, Withdrawing, Resolving}
use Rattle.cluster_record.specs.declared.entries.Entry.{Entry}
use Rattle.cluster_record.specs.DueUpdate.{UpdateState, commit_end, committing, done_end_by, done_if_none, update_taken}
use Rattle.cluster_record.specs.RecordState.{entry_of, complete_of}
use Rattle.cluster_record.specs.StepDone.{StepDone, first_lacking, last_having}
use Rattle.node_msgs.specs.declared.steps.Verb.{Verb}
use Rattle.node_msgs.specs.declared.steps.Verb.TheVariants as verbs
use Rattle.node_core.specs.Serving.{update_answer}
use Rattle.ckpt_machine.specs.CopyGuards.{copies_to, lacks_none}
use Rattle.ckpt_machine.specs.Drivers.{Driver}
use Rattle.ckpt_machine.specs.Drivers as drivers
use Rattle.ckpt_machine.specs.Driving.{done_end, driver_start, driver_state, driver_taken}
use Rattle.ckpt_machine.specs.Due.{driver_of, IsDriven}
use Rattle.ckpt_machine.specs.Guards.{AsksUpdate}
use Rattle.ckpt_machine.specs.InHand.{IsToCommit, IsUpdateAsk}
use Rattle.ckpt_machine.specs.Left.{having, lacking, owner_met, steps_left, update_left, update_left_by}
use Rattle.ckpt_machine.specs.Machine.{Machine, ReplicaState, CallState}
use Rattle.ckpt_machine.specs.Shape.{Shape}
use Rattle.ckpt_machine.proofs.BehindStep.{IsOwnCommit, IsPlacedBehind, placed_update}
use Rattle.ckpt_machine.proofs.NodeLists.{last_having-is}
use Rattle.ckpt_machine.proofs.StepsLeft.{commit_nearer, having-some}
use Rattle.ckpt_machine.proofs.UpdateIn.{IsUpdateVerb}

-- an update is asked for, which ends with its last commit; or it is a copying, which ends with that where its node lacks no other checkpoint
abbrev pub IsAskedFor : Machine → CallState → (Bool → Bool) → Type 0
IsAskedFor m s ends =
    ((place : ℕ) × (update : Update) × (asked s.op ≡ asks.Change place update) × (ends ≡ λ last. last))
    ⊎ ((asked s.op ≡ asks.Copy) × (ends ≡ λ last. last && lacks_none m.cluster (copies_to s)))

-- what the row of a step asks of the call
pub asks_update : (m : Machine) (s : CallState) (ends : Bool → Bool) → IsAskedFor m s ends → (P : Update → (Bool → Bool) → Type 0) → P (update_of s.op) ends → AsksUpdate m s P
asks_update m s ends (inl it) P p = inl (it.0, update_of s.op, it.2 ∙ ap (asks.Change it.0) (sym (ap update_asked it.2)), subst (P (update_of s.op)) it.3 p)
asks_update m s ends (inr it) P p = inr (it.0, subst (λ update. P update (λ last. last && lacks_none m.cluster (copies_to s))) (ap update_asked it.0) (subst (P (update_of s.op)) it.1 p))

-- a commit that is not its last ends nothing
pub never_ends : (m : Machine) (s : CallState) (ends : Bool → Bool) → IsAskedFor m s ends → ends false ≡ false
never_ends m s ends (inl it) = ap (λ (f : Bool → Bool). f false) it.3
never_ends m s ends (inr it) = ap (λ (f : Bool → Bool). f false) it.1

-- how a commit of its own ends the call, behind which it has this of its nodes
abbrev pub commits_as : CallState → (Bool → Bool) → Option ℕ → Option Outcome
commits_as s ends left = cond (ends (not (is_some left))) (Some (Done (update_answer (update_of s.op)))) None

-- behind a step of its update this is so of the update, whose checkpoint stays
pub record IsThen (u : UpdateState) (step : StepDone) (v : UpdateState) : Type 0 where
  pub of : IsUpdateVerb step.verb
  pub update : update_taken step u ≡ v
  pub ckpt : v.ckpt ≡ u.ckpt

-- what a call makes of the steps of its update, on a checkpoint that is there
pub record GoesByUpdate (m : Machine) (shapes : ℕ → Shape) (s : CallState) (u : UpdateState) (e : Entry) : Type 0 where
  pub ends : Bool → Bool
  pub asks_for : IsAskedFor m s ends
  pub placed : IsPlacedBehind m shapes s u
  -- a step that is no commit of its own ends nothing where it is done, and brings the call nearer to its end as it does its update
  pub goes_on : (step : StepDone) (v : UpdateState) (answer : Answer) → IsThen u step v → v.phase ≢ Committing → (IsToCommit (shapes u.ckpt) s.call e u.phase → ⊥)
      → done_end m.cluster step answer (driver_taken step (driver_of s)) ≡ None
  pub nearer : (f : ℕ → ℕ → Option ReplicaState) (step : StepDone) (v : UpdateState) → IsThen u step v → v.phase ≢ Committing → (IsToCommit (shapes u.ckpt) s.call e u.phase → ⊥)
      → update_left e.complete (f u.ckpt) v < update_left e.complete (m.replicas u.ckpt) u → steps_left m.cluster f (driver_taken step (driver_of s)) < steps_left m.cluster m.replicas (driver_of s)
  -- a commit of its own ends it with the last, or brings it nearer to its end
  pub commit_ends : (step : StepDone) (v : UpdateState) → IsThen u step v → step.verb ≡ verbs.Commit → step.complete ≡ e.complete → v.phase ≡ Committing → IsOwnCommit e u
      → done_end m.cluster step (update_answer (update_of s.op)) (driver_taken step (driver_of s)) ≡ commits_as s ends (last_having 0 e.complete v.owned)
  pub commit_goes : (f : ℕ → ℕ → Option ReplicaState) (step : StepDone) (v : UpdateState) → IsThen u step v → v.phase ≡ Committing → IsOwnCommit e u
      → length v.owned ≡ length e.complete → having e.complete v.owned + 1 ≡ having e.complete u.owned → commits_as s ends (last_having 0 e.complete v.owned) ≡ None
      → steps_left m.cluster f (driver_taken step (driver_of s)) < steps_left m.cluster m.replicas (driver_of s)

-- ---- an update

-- a copying drives the call
abbrev IsCopying : Driver → Type 0
IsCopying (drivers.Copy c) = Unit {0}
IsCopying driver = ⊥

-- so it does behind any steps
taken_copies : (d : StepDone) (x : Driver) → IsCopying x → IsCopying (driver_taken d x)
taken_copies d (drivers.Copy c) copies = tt
taken_copies d (drivers.Once x) copies = absurd copies
taken_copies d (drivers.Open o) copies = absurd copies
taken_copies d (drivers.Update u) copies = absurd copies
taken_copies d (drivers.Active a) copies = absurd copies
taken_copies d (drivers.Sync u) copies = absurd copies

still_copies : (begun : Driver) (steps : List StepDone) → IsCopying begun → IsCopying (driver_state begun steps)
still_copies begun [] copies = copies
still_copies begun (d ∷ steps) copies = taken_copies d (driver_state begun steps) (still_copies begun steps copies)

-- a call that an update drives asks for one
pub change_asked : (s : CallState) (u : UpdateState) → IsDriven s → driver_of s ≡ drivers.Update u → IsUpdateAsk (asked s.op) → (place : ℕ) × (update : Update) × (asked s.op ≡ asks.Change place update)
change_asked s u driven is = by_ask (asked s.op) refl
  where
    by_ask : (ask : Ask) → asked s.op ≡ ask → IsUpdateAsk ask → (place : ℕ) × (update : Update) × (asked s.op ≡ asks.Change place update)
    by_ask (asks.Change place update) asks_is of = (place, update, asks_is)
    by_ask asks.Copy asks_is of = absurd (
        let begun : IsCopying s.begun = subst IsCopying (same_Some _ s.begun (sym (ap (λ ask. driver_start s.call ask s.kept) asks_is) ∙ driven)) tt in
        subst IsCopying is (still_copies s.begun s.steps begun))
    by_ask ask asks_is of = absurd of

module _ (m : Machine) (shapes : ℕ → Shape) (s : CallState) (u : UpdateState) (is : driver_of s ≡ drivers.Update u) (e : Entry) (found : entry_of u.ckpt m.cluster.entries ≡ Some e) where
  driver_then : (step : StepDone) (v : UpdateState) → IsThen u step v → driver_taken step (driver_of s) ≡ drivers.Update v
  driver_then step v then_is = ap (driver_taken step) is ∙ ap drivers.Update then_is.update

  -- what is no commit of its own ends nothing
  none_ends : (step : StepDone) (answer : Answer) (v : UpdateState) → v.phase ≢ Committing → (verb : Verb) → done_end_by step answer v verb ≡ None
  none_ends step answer v other verbs.Commit = by_phase v.phase other where
    by_phase : (ph : UpdatePhase) → ph ≢ Committing → commit_end ph answer (last_having 0 step.complete v.owned) ≡ None
    by_phase Committing own = absurd (own refl)
    by_phase Staging own = refl
    by_phase Claiming own = refl
    by_phase Claimed own = refl
    by_phase Withdrawing own = refl
    by_phase Resolving own = refl
  none_ends step answer v other verb = refl

  -- so many steps are left of it
  left_of : (f : ℕ → ℕ → Option ReplicaState) (v : UpdateState) → v.ckpt ≡ u.ckpt → steps_left m.cluster f (drivers.Update v) ≡ update_left e.complete (f u.ckpt) v
  left_of f v ckpt = ap (λ k. update_left (complete_of (entry_of k m.cluster.entries)) (f k) v) ckpt ∙ ap (λ o. update_left (complete_of o) (f u.ckpt) v) found

  less : (f : ℕ → ℕ → Option ReplicaState) (step : StepDone) (v : UpdateState) → IsThen u step v → update_left e.complete (f u.ckpt) v < update_left e.complete (m.replicas u.ckpt) u → steps_left m.cluster f (driver_taken step (driver_of s)) < steps_left m.cluster m.replicas (driver_of s)
  less f step v then_is fewer = subst (λ (n : ℕ). n < steps_left m.cluster m.replicas (driver_of s)) (sym (ap (steps_left m.cluster f) (driver_then step v then_is) ∙ left_of f v then_is.ckpt))
      (subst (λ (n : ℕ). update_left e.complete (f u.ckpt) v < n) (sym (ap (steps_left m.cluster m.replicas) is ∙ left_of m.replicas u refl)) fewer)

  done_as : (answer : Answer) (last : Option ℕ) → done_if_none answer last ≡ cond (not (is_some last)) (Some (Done answer)) None
  done_as answer None = refl
  done_as answer (Some r) = refl

  -- it commits its own
  own_phase : IsOwnCommit e u → committing u.phase ≡ Committing
  own_phase own = elim own.by [ inl it ↦ ap committing it.0 | inr phase ↦ ap committing phase ]

  some_left : (answer : Answer) (v : UpdateState) → length v.owned ≡ length e.complete → (last : Option ℕ) → last_having 0 e.complete v.owned ≡ last → cond (not (is_some last)) (Some (Done answer)) None ≡ None → 1 ≤ having e.complete v.owned
  some_left answer v same None none goes = absurd (cc goes)
  some_left answer v same (Some r) some goes = let it = last_having-is 0 e.complete v.owned r same some in having-some e.complete v.owned it.place same it.had

  -- WHAT AN UPDATE MAKES OF ITS STEPS: it ends with the last commit of its own
  pub goes_update : (place : ℕ) (update : Update) → asked s.op ≡ asks.Change place update → GoesByUpdate m shapes s u e
  goes_update place update asks_is = record {
    ends = λ last. last;
    asks_for = inl (place, update, asks_is, refl);
    placed = placed_update m shapes s u is;
    goes_on = λ step v answer then_is other apart. ap (done_end m.cluster step answer) (driver_then step v then_is) ∙ none_ends step answer v other step.verb;
    nearer = λ f step v then_is other apart. less f step v then_is;
    commit_ends = λ step v then_is verb complete phase own.
        ap (done_end m.cluster step (update_answer (update_of s.op))) (driver_then step v then_is)
        ∙ ap (done_end_by step (update_answer (update_of s.op)) v) verb
        ∙ (λ i. commit_end (phase i) (update_answer (update_of s.op)) (last_having 0 (complete i) v.owned))
        ∙ done_as (update_answer (update_of s.op)) (last_having 0 e.complete v.owned);
    commit_goes = λ f step v then_is phase own same fewer goes.
        less f step v then_is (commits_nearer f v phase own fewer (some_left (update_answer (update_of s.op)) v same (last_having 0 e.complete v.owned) refl goes));
  }
    where
      commits_nearer : (f : ℕ → ℕ → Option ReplicaState) (v : UpdateState) → v.phase ≡ Committing → IsOwnCommit e u → having e.complete v.owned + 1 ≡ having e.complete u.owned → 1 ≤ having e.complete v.owned → update_left e.complete (f u.ckpt) v < update_left e.complete (m.replicas u.ckpt) u
      commits_nearer f v phase own fewer some = subst (λ ph. update_left_by (lacking e.complete v.owned) (having e.complete v.owned) v.owner (owner_met (f u.ckpt) (first_lacking 0 e.complete v.owned)) ph < update_left e.complete (m.replicas u.ckpt) u) (sym phase)
          (commit_nearer (lacking e.complete u.owned) (having e.complete u.owned) (having e.complete v.owned) (lacking e.complete v.owned) u.owner v.owner (owner_met (m.replicas u.ckpt) (first_lacking 0 e.complete u.owned)) (owner_met (f u.ckpt) (first_lacking 0 e.complete v.owned)) u.phase (own_phase own) fewer some)
