-- An update that a failure has abandoned while it was in hand has begun, is ended by no step, and is neither in hand nor live.
use Rattle.std.proofs.Common.{◌≡◌, ◌<◌, ℕ, List, [], ◌∷◌, ◌++◌, Some, true, false, refl, sym, ap, subst, ◌∙◌, append_assoc}
use Rattle.ckpt_types.specs.declared.identities.CallId.{CallId}
use Rattle.ckpt_types.specs.declared.operation.Op.{Op}
use Rattle.ckpt_types.specs.declared.update.Update.{Update}
use Rattle.ckpt_types.specs.Asks.{Ask, asked}
use Rattle.ckpt_types.specs.Asks as asks
use Rattle.ckpt_types.specs.OpWord.{word_of_op}
use Rattle.run_labels.specs.declared.labels.Label.{Label}
use Rattle.run_labels.specs.declared.labels.Label.TheVariants as labels
use Rattle.cluster_record.specs.Calls.{IsClient}
use Rattle.ckpt_machine.specs.Acknowledged.{HasBegun, IsUpdateWord}
use Rattle.ckpt_machine.specs.After.{after}
use Rattle.ckpt_machine.specs.BrokenCorrupt.{WasCutShort}
use Rattle.ckpt_machine.specs.CallsEnd.{IsAbandonedIn}
use Rattle.ckpt_machine.specs.Dead.{IsDead}
use Rattle.ckpt_machine.specs.Failing.{enters_on, is_abandoned}
use Rattle.ckpt_machine.specs.InHand.{IsInHand}
use Rattle.ckpt_machine.specs.Invariant.{Invariant}
use Rattle.ckpt_machine.specs.Machine.{Machine, CallState, empty_cluster, who}
use Rattle.ckpt_machine.specs.Runs.{last, IsRun}
use Rattle.ckpt_machine.specs.WasAsked.{WasAskedFor}
use Rattle.ckpt_machine.proofs.Askers.{asker_client}
use Rattle.ckpt_machine.proofs.BegunBefore.{all_began, begun_more, begun_on}
use Rattle.ckpt_machine.proofs.BegunOnce.{begins_once}
use Rattle.ckpt_machine.proofs.DeadCalls.{dead_after}
use Rattle.ckpt_machine.proofs.EndedCalls.{IsOver, never_ended, over_then}
use Rattle.ckpt_machine.proofs.FailedCalls.{abandoned_dead, by_client, left_is}
use Rattle.ckpt_machine.proofs.Histories.{run_history}
use Rattle.ckpt_machine.proofs.Runs.{along, last-push, run_before, run_front}
use Rattle.ckpt_machine.proofs.UpdateAnswers.{IsChange, changes, no_copying}
use Rattle.ckpt_machine.proofs.Whose.{one_call}

-- what asks for an update is no Initialize
enters_nothing : (r : ℕ) (ask : Ask) → IsChange ask → enters_on r ask ≡ false
enters_nothing r (asks.Change place update) change = refl
enters_nothing r ask change = absurd change

module _ (log : List Label) (run : IsRun log) (k : ℕ) (call : CallId) (update : Update) (by : IsAbandonedIn log call) (was_asked : WasAskedFor log k call update) where
  -- the label that tells the failure
  abbrev l : Label
  l = labels.Failed by.node true

  -- the state in front of it
  abbrev m : Machine
  m = last by.before

  log_is : log ≡ (by.before ++ l ∷ []) ++ by.behind
  log_is = by.log_is ∙ sym (append_assoc by.before (l ∷ []) by.behind)

  before : IsRun by.before
  before = (run_before empty_cluster by.before l (run_front log (by.before ++ l ∷ []) by.behind log_is run)).0

  inv : Invariant m
  inv = (run_history by.before before).0

  hand : IsInHand m inv.shapes by.name by.state
  hand = inv.holds.hands by.name by.state by.in_hand

  -- it is in hand under its own name
  held : m.in_hand (who by.state) ≡ Some by.state
  held = ap m.in_hand hand.whose ∙ by.in_hand

  -- it began in front of the failure, with the operation that it has in hand
  begun : HasBegun log call by.state.op (begun_on (asked by.state.op) by.state.kept.ckpt)
  begun = subst (λ c. HasBegun log c by.state.op (begun_on (asked by.state.op) by.state.kept.ckpt)) by.call_is (
      subst (λ (xs : List Label). HasBegun xs by.state.call by.state.op (begun_on (asked by.state.op) by.state.kept.ckpt)) (sym by.log_is)
      (begun_more by.before (l ∷ by.behind) by.state.call by.state.op (begun_on (asked by.state.op) by.state.kept.ckpt) (all_began by.before before by.state held)))

  -- which asks for an update, so it is a client's
  change : IsChange (asked by.state.op)
  change = changes by.state.op (subst (λ (op : Op). IsUpdateWord (word_of_op op)) (begins_once log run call by.state.op was_asked.op (begun_on (asked by.state.op) by.state.kept.ckpt) (Some k) begun was_asked.begun).0 was_asked.asks)

  client : IsClient by.state.call.actor
  client = asker_client by.state.call.actor (asked by.state.op) hand.asker (no_copying (asked by.state.op) change)

  -- behind the failure the call is in hand no more
  over : IsOver call (last (by.before ++ l ∷ []))
  over = subst (IsOver call) (sym (last-push by.before l)) (record {
    below = subst (λ (c : CallId). c.number < m.next c.actor) by.call_is hand.number;
    none = λ w z held same.
        let (was, stays) = left_is m inv.shapes inv.holds by.node w z held in
        let state : z ≡ by.state = one_call m.in_hand m.pending m.next inv.holds.calls w by.name z by.state was by.in_hand (same ∙ sym by.call_is) in
        let v : true ≡ false = sym by.abandoned ∙ ap (λ (z : CallState). is_abandoned m.cluster by.node z.call z.op) (sym state) ∙ stays in
        cc v;
  })

  -- and dead
  dead : IsDead (last (by.before ++ l ∷ [])) call
  dead = subst (λ n. IsDead n call) (sym (last-push by.before l)) (subst (IsDead (after m l)) by.call_is (
      abandoned_dead m inv.shapes inv.holds by.node by.name by.state by.in_hand (sym (by_client m inv.shapes inv.holds by.node by.state (enters_nothing by.node (asked by.state.op) change)) ∙ by.abandoned)))

  -- so it is from then on
  over_still : IsOver call (last log)
  over_still = subst (λ (xs : List Label). IsOver call (last xs)) (sym log_is) (over_then (by.before ++ l ∷ []) by.behind (subst IsRun log_is run) call over)

  dead_still : IsDead (last log) call
  dead_still = subst (λ (xs : List Label). IsDead (last xs) call) (sym log_is) (
      along (λ front m. IsDead m call) (λ front l before allowed due dead. let (inv, history) = run_history front before in dead_after (last front) inv history call (subst (λ (c : CallId). IsClient c.actor) by.call_is client) dead l allowed due)
      (by.before ++ l ∷ []) by.behind (subst IsRun log_is run) dead)

  -- THE LAW: so it was cut short
  pub cut_short : WasCutShort log call
  cut_short = record {
    failure = by;
    abandoned = record {
      began = record { op = by.state.op; ckpt = begun_on (asked by.state.op) by.state.kept.ckpt; begun = begun };
      unended = never_ended log run by.before by.behind l by.log_is call (record { name = by.name; state = by.state; in_hand = by.in_hand; call_is = by.call_is }) (λ none. none) over;
      gone = λ held. over_still.none held.name held.state held.in_hand held.call_is;
      not_live = dead_still.gone;
    };
  }
