-- A run goes on by one label, and what the code may rely on in the world after it: by the law of the machine.
use Rattle.std.proofs.Common.{◌≡◌, ℕ, ◌+◌, ◌*◌, ◌-◌, ◌<◌, ◌≤◌, ◌^◌, List, [], ◌∷◌, ◌++◌, length, Option, Some, None, refl, sym, ap, subst, ◌∙◌, arith}
use Rattle.std.specs.Option.{option_map}
use Rattle.std.proofs.lemmas.Option.{same_Some}
use Rattle.ckpt_types.specs.declared.identities.CallId.{CallId}
use Rattle.replica.specs.Replicas.{Replica}
use Rattle.stage_slot.specs.Slots.{Slot}
use Rattle.ckpt_types.specs.declared.answers.Outcome.{Outcome}
use Rattle.ckpt_types.specs.declared.identities.ActorName.TheVariants.{Client, Node}
use Rattle.ckpt_types.specs.declared.identities.Who.{Who}
use Rattle.node_msgs.specs.declared.details.Details.{Details}
use Rattle.ckpt_types.specs.declared.words.OpWord.{OpWord}
use Rattle.ckpt_types.specs.OpWord.{stepped_as}
use Rattle.node_msgs.specs.declared.steps.Verb.{Verb}
use Rattle.node_msgs.specs.declared.steps.StepReply.{StepReply}
use Rattle.run_labels.specs.declared.labels.Label.{Label}
use Rattle.run_labels.specs.declared.labels.Label.TheVariants.{Stepped}
use Rattle.client_calls.specs.declared.in_hand.InHand.{InHand}
use Rattle.cluster_record.specs.Calls.{left}
use Rattle.cluster_record.specs.declared.copying.Copying.{Copying}
use Rattle.cluster_record.specs.declared.copying.CopyPhase.{CopyPhase}
use Rattle.cluster_record.specs.declared.entries.Entry.{Entry}
use Rattle.cluster_record.specs.DueCopy.{CopyState}
use Rattle.cluster_record.specs.DueUpdate.{UpdateState}
use Rattle.cluster_record.specs.Placement.{is_all}
use Rattle.cluster_record.specs.RecordState.{RecordState, complete_of, entry_of}
use Rattle.cluster_record.specs.StepDone.{done_of, counting, first_lacking}
use Rattle.ckpt_machine.specs.Driving.{driver_taken}
use Rattle.ckpt_machine.specs.Drivers.{Driver}
use Rattle.ckpt_machine.specs.Drivers as drivers
use Rattle.ckpt_machine.specs.Invariant.{Invariant}
use Rattle.ckpt_machine.specs.Laws.{IsLawful, EachRunHas, GivesFacts, BringsNearer, StepsAreFew}
use Rattle.ckpt_machine.specs.Left.{at_ckpt_left, copied_within, copying_left, having, lacked_besides, lacking, most_steps, or_one, owner_met, phase_left, slot_owner, steps_left, update_left, update_left_by}
use Rattle.ckpt_machine.specs.Machine.{Machine, CallState, Effect, ReplicaState, Staged, who}
use Rattle.ckpt_machine.specs.Runs.{Counts, last}
use Rattle.ckpt_machine.specs.After.{changed, kept_behind, step_of, after}
use Rattle.ckpt_machine.specs.Due.{driver_of, counted_at}
use Rattle.ckpt_machine.specs.Whose.{put_who}
use Rattle.ckpt_machine.proofs.Runs.{last-push, run_more}
use Rattle.ckpt_machine.proofs.Whose.{put_who-here}
use Rattle.world_core.specs.declared.world.World.{World}
use Rattle.world_core.specs.HandsState.{hand_at}
use Rattle.world_core.specs.Runs.{IsRunTo}
use Rattle.world_core.specs.Shows.{Does, History, Shows, IsShown, HasNumbersLeft, machine_of}
use Rattle.ckpt_machine.specs.Shown.{FitsReplica, complete_replica, shown_replica, shown_slot}
use Rattle.world_core.specs.StepsLeft.{hand_left, hand_most, left_of, most_left, replicas_seen}
use Rattle.world_core.proofs.Held.{state_in, in_hand_is, driver_is}

-- the world after a log shows the state after it
pub shown : EachRunHas → GivesFacts → (w : World) (log : List Label) → IsRunTo w log → IsShown w
shown runs facts w log to = record { state = last log; shows = to.shows; facts = facts (last log) (runs log to.run).0 }

-- a step that does its label adds it to the run
pub goes_on : IsLawful → EachRunHas → GivesFacts → (w w' : World) (log : List Label) (l : Label) → IsRunTo w log → Does w w' l → IsRunTo w' (log ++ l ∷ [])
goes_on lawful runs facts w w' log l to does =
    let inv = (runs log to.run).0 in
    let known = facts (last log) inv in
    let due = does.due_is (last log) to.shows known in
    record { run = run_more log l to.run (lawful (last log) l inv due).0 due; shows = subst (Shows w') (sym (last-push log l)) (does.shows (last log) to.shows known) }

-- ---- what is left depends on the owners of slots alone

-- they are the same, whatever effects and origins are shown
owner_same : (E F : List Effect) (o p : CallId) (y : Option Replica) → slot_owner (shown_replica E o y) ≡ slot_owner (shown_replica F p y)
owner_same E F o p None = refl
owner_same E F o p (Some x) = by_slot x.slot where
  by_slot : (slot : Option Slot) → option_map (λ (z : Staged). z.owner) (shown_slot o slot) ≡ option_map (λ (z : Staged). z.owner) (shown_slot p slot)
  by_slot None = refl
  by_slot (Some slot) = refl

met_same : (a b : ℕ → Option ReplicaState) → ((r : ℕ) → slot_owner (a r) ≡ slot_owner (b r)) → (first : Option ℕ) → owner_met a first ≡ owner_met b first
met_same a b same None = refl
met_same a b same (Some r) = same r

update_same : (complete : List ℕ) (a b : ℕ → Option ReplicaState) (u : UpdateState) → ((r : ℕ) → slot_owner (a r) ≡ slot_owner (b r)) → update_left complete a u ≡ update_left complete b u
update_same complete a b u same = ap (λ met. update_left_by (lacking complete u.owned) (having complete u.owned) u.owner met u.phase) (met_same a b same (first_lacking 0 complete u.owned))

-- so it is at the checkpoint that a copying is at
copied_same : (e : Option Entry) (a b : ℕ → Option ReplicaState) (c : CopyState) (phase : CopyPhase) → ((r : ℕ) → slot_owner (a r) ≡ slot_owner (b r)) → at_ckpt_left e a c phase ≡ at_ckpt_left e b c phase
copied_same None a b c phase same = refl
copied_same (Some e) a b c phase same = ap (λ left. phase_left (is_all e.attributes) left (having e.complete c.staging.owned) phase) (update_same e.complete a b c.staging same)

copying_same : (R : RecordState) (a b : ℕ → ℕ → Option ReplicaState) → ((k r : ℕ) → slot_owner (a k r) ≡ slot_owner (b k r)) → (c : CopyState) (at : Option Copying) → copying_left R a c at ≡ copying_left R b c at
copying_same R a b same c None = refl
copying_same R a b same c (Some at) = ap (λ left. or_one (left + copied_within * lacked_besides c.node (Some at.ckpt) R.entries)) (copied_same (entry_of at.ckpt R.entries) (a at.ckpt) (b at.ckpt) c at.phase (same at.ckpt))

left_same : (R : RecordState) (a b : ℕ → ℕ → Option ReplicaState) → ((k r : ℕ) → slot_owner (a k r) ≡ slot_owner (b k r)) → (x : Driver) → steps_left R a x ≡ steps_left R b x
left_same R a b same (drivers.Update u) = update_same (complete_of (entry_of u.ckpt R.entries)) (a u.ckpt) (b u.ckpt) u (same u.ckpt)
left_same R a b same (drivers.Once x) = refl
left_same R a b same (drivers.Open o) = refl
left_same R a b same (drivers.Active x) = refl
left_same R a b same (drivers.Sync s) = refl
left_same R a b same (drivers.Copy c) = copying_same R a b same c c.copying

-- so it is told of the nodes, as of the machine
left_seen : (w : World) (h : History) (x : Driver) → steps_left w.cluster (machine_of w h).replicas x ≡ steps_left w.cluster (replicas_seen w) x
left_seen w h x = left_same w.cluster (machine_of w h).replicas (replicas_seen w) (λ k r. owner_same (h.effects k r) [] (h.origins k r) (record { actor = Client 0; number = 0 }) (complete_replica w.cluster w.nodes k r)) x

-- ---- a step brings its call nearer to its end

-- after a step that does not end it a call is in hand with this step more
step_of-in_hand : (m : Machine) (s : CallState) (v : Who) (verb : Verb) (k r : Option ℕ) (reply : StepReply) → who s ≡ v
    → (let n = step_of m (Some s) verb k r reply None in n.in_hand v ≡ Some (kept_behind m s n.cluster verb k r reply))
step_of-in_hand m s v verb k r reply is =
    let n = changed m s verb k r reply in
    let next = kept_behind m s n.cluster verb k r reply in
    subst (λ u. put_who n.in_hand (who s) (Some next) u ≡ Some next) is (put_who-here n.in_hand (who s) (Some next))

module _ (runs : EachRunHas) (facts : GivesFacts) (brings : BringsNearer) (few : StepsAreFew) (w w' : World) (log : List Label) (v : Who) (hand next : InHand) (held : hand_at w.hands v ≡ Some hand) (to : IsRunTo w log) where
  abbrev m : Machine
  m = last log

  abbrev s : CallState
  s = state_in to.shows.history v hand

  here : m.in_hand v ≡ Some s
  here = ap (λ (m : Machine). m.in_hand v) to.shows.same ∙ in_hand_is w to.shows.history v hand held

  before : steps_left m.cluster m.replicas (driver_of s) ≡ left_of w v
  before =
      ap (steps_left m.cluster m.replicas) (sym (driver_is w to.shows.history v hand held to.shows.fits))
      ∙ ap (λ (m : Machine). steps_left m.cluster m.replicas hand.driver) to.shows.same
      ∙ left_seen w to.shows.history hand.driver
      ∙ ap (hand_left w.cluster (replicas_seen w)) (sym held)

  -- after a step fewer steps are left of its call, and none where it has ended
  pub nearer : (op : OpWord) (verb : Verb) (k r : Option ℕ) (reply : StepReply) (end : Option Outcome) (details : Details) → Does w w' (Stepped hand.call op verb k r reply end details) → hand_at w'.hands v ≡ left end next → left_of w' v < left_of w v
  nearer op verb k r reply (Some o) details does then =
      let some : 1 ≤ left_of w v = subst (λ n. 1 ≤ n) before (few m v s (runs log to.run).0 here).0 in
      subst (λ p. hand_left w'.cluster (replicas_seen w') p < left_of w v) (sym then) (omega (arith, some))
  nearer op verb k r reply None details does then =
      let known = facts m (runs log to.run).0 in
      let due = does.due_is m to.shows known in
      let name : stepped_as hand.call op ≡ v = known.calls.one_name (stepped_as hand.call op) v due.state s due.in_hand here due.call_is in
      let under : m.in_hand (stepped_as hand.call op) ≡ Some s = ap m.in_hand name ∙ here in
      let new = does.shows m to.shows known in
      let m' = after m (Stepped hand.call op verb k r reply None details) in
      let goes : m'.in_hand v ≡ Some (kept_behind m s m'.cluster verb k r reply)
      = subst (λ o. let n = step_of m o verb k r reply None in n.in_hand v ≡ Some (kept_behind m s n.cluster verb k r reply)) (sym under) (step_of-in_hand m s v verb k r reply (known.callers v s here)) in
      let told = counting (counted_at m verb k r reply) (done_of m'.cluster verb k r reply) in
      let driver : next.driver ≡ driver_taken told (driver_of s)
      = driver_is w' new.history v next then new.fits
      ∙ ap driver_of (same_Some (state_in new.history v next) (kept_behind m s m'.cluster verb k r reply) (sym (in_hand_is w' new.history v next then) ∙ sym (ap (λ (m : Machine). m.in_hand v) new.same) ∙ goes)) in
      let now : steps_left m'.cluster m'.replicas (driver_taken told (driver_of s)) ≡ left_of w' v
      = ap (steps_left m'.cluster m'.replicas) (sym driver) ∙ ap (λ (m : Machine). steps_left m.cluster m.replicas next.driver) new.same ∙ left_seen w' new.history next.driver ∙ ap (hand_left w'.cluster (replicas_seen w')) (sym then) in
      subst (λ n. n < left_of w v) now (subst (λ n. steps_left m'.cluster m'.replicas (driver_taken told (driver_of s)) < n) before (brings m hand.call op verb k r reply details s (runs log to.run).0 due under))

-- ---- few steps are left of a call

-- after any run, of the call of a name
pub few_left : EachRunHas → StepsAreFew → (w : World) (log : List Label) (v : Who) → IsRunTo w log → left_of w v ≤ most_left w v
few_left runs few w log v to = by_hand (hand_at w.hands v) refl
  where
    by_hand : (o : Option InHand) → hand_at w.hands v ≡ o → left_of w v ≤ most_left w v
    by_hand None held = subst (λ p. hand_left w.cluster (replicas_seen w) p ≤ hand_most p) (sym held) (omega arith)
    by_hand (Some hand) held =
        let h = to.shows.history in
        let few = (few (machine_of w h) v (state_in h v hand) (subst Invariant to.shows.same (runs log to.run).0) (in_hand_is w h v hand held)).1 in
        subst (λ p. hand_left w.cluster (replicas_seen w) p ≤ hand_most p) (sym held)
        (subst (λ n. n ≤ most_steps hand.driver) (left_seen w h hand.driver) (subst (λ (d : Driver). steps_left w.cluster (machine_of w h).replicas d ≤ most_steps d) (sym (driver_is w h v hand held to.shows.fits)) few))

-- ---- no count is at its end

-- after few labels
pub roomy : EachRunHas → (w : World) (log : List Label) → IsRunTo w log → length log < 2 ^ 32 - 2 → HasNumbersLeft w
roomy runs w log to few =
    let h = to.shows.history in
    let counts : Counts (machine_of w h) (length log) = subst (λ (m : Machine). Counts m (length log)) to.shows.same (runs log to.run).1 in
    record {
      next = λ c. let n = counts.next (Client c) in omega (arith, n, few);
      copies = λ r. let n = counts.next (Node r) in omega (arith, n, few);
      handles = λ c. let n = counts.last_handles (Client c) in omega (arith, n, few);
      iterations = λ c. let n = counts.last_iterations (Client c) in omega (arith, n, few);
      updates = λ k r x is.
          let n = counts.effects k r _ (ap (shown_replica (h.effects k r) (h.origins k r)) is) in
          let e = (subst (FitsReplica k (entry_of k w.cluster.entries) (h.effects k r)) is (to.shows.fits.replicas k r)).2 in
          omega (arith, n, e, few);
      identity = let n = counts.identity in omega (arith, n, few);
      generations = λ k e is. let n = counts.generations k e is in omega (arith, n, few);
      references = λ k e c is. let n = counts.references k e c is in omega (arith, n, few);
      incarnations = λ r. let n = counts.incarnations r in omega (arith, n, few);
    }
