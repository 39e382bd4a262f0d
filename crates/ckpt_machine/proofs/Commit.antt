-- A commit of the call's own update: at its highest node, with more to come or as the last.
use Rattle.std.proofs.Common.{◌≡◌, ◌⊎◌, ℕ, ◌<◌, inl, inr, List, [], ◌∷◌, ◌++◌, Some, None, Bool, true, false, cond, ℤ, refl, sym, ap, subst, ◌∙◌}
use Rattle.std.specs.Prelude.{slice_index, slice_set}
use Rattle.std.proofs.lemmas.Option.{same_Some}
use Rattle.ckpt_types.specs.declared.identities.CallId.{CallId}
use Rattle.ckpt_types.specs.declared.identities.Who.{Who}
use Rattle.ckpt_types.specs.declared.update.Update.{Update}
use Rattle.ckpt_types.specs.Asks.{update_of}
use Rattle.ckpt_types.specs.Updates.{outcome}
use Rattle.cluster_record.specs.declared.calls.UpdatePhase.TheVariants.{Committing}
use Rattle.cluster_record.specs.declared.entries.Entry.{Entry}
use Rattle.cluster_record.specs.DueUpdate.{UpdateState, committing}
use Rattle.cluster_record.specs.Places.{put2}
use Rattle.cluster_record.specs.RecordState.{entry_of}
use Rattle.cluster_record.specs.StepDone.{StepDone, done_of, has, last_having}
use Rattle.node_msgs.specs.declared.steps.Verb.TheVariants as verbs
use Rattle.node_msgs.specs.declared.steps.StepReply.TheVariants as words
use Rattle.replica.specs.Replicas.{or_same}
use Rattle.ckpt_machine.specs.Drivers.{update_in}
use Rattle.ckpt_machine.specs.InHand.{IsUpdateIn}
use Rattle.ckpt_machine.specs.Invariant.{InvariantIn, Invariant}
use Rattle.ckpt_machine.specs.Machine.{Machine, Effect, Applied, ReplicaState, CallState, who}
use Rattle.ckpt_machine.specs.Owned.{HasUpdate}
use Rattle.ckpt_machine.specs.Shape.{Shape, IsCompleteOn, IsShaped, AreOwn, IsSpread, effects_by}
use Rattle.ckpt_machine.specs.Due.{driver_of}
use Rattle.ckpt_machine.specs.After.{committed_slot, created_by}
use Rattle.ckpt_machine.specs.Whose.{put_who, same_who}
use Rattle.ckpt_machine.proofs.BehindStep.{IsBehind, IsOwnCommit, IsPlacedBehind, does_then}
use Rattle.ckpt_machine.proofs.Owning.{spread, all_is}
use Rattle.ckpt_machine.proofs.LetGo.{after_it, own_r, owner_cases, let_go_keeps}
use Rattle.ckpt_machine.proofs.Turns.{end_keeps}
use Rattle.ckpt_machine.proofs.UpdateIn.{update_there}
use Rattle.ckpt_machine.proofs.Whose.{put_who-here}

-- the last is of the call
HasUpdate-last : (c : CallId) (update : Update) (xs : List Effect) (o : CallId) (v : Update) (t : ℤ) → o ≡ c → v ≡ update → HasUpdate c update (xs ++ Applied o v t ∷ [])
HasUpdate-last c update [] o v t own same = inl (own, same)
HasUpdate-last c update (x ∷ xs) o v t own same = inr (HasUpdate-last c update xs o v t own same)

-- what is in the front is in the whole
pub HasUpdate-front : (c : CallId) (update : Update) (xs ys : List Effect) → HasUpdate c update xs → HasUpdate c update (xs ++ ys)
HasUpdate-front c update [] ys it = absurd it
HasUpdate-front c update (x ∷ xs) ys it = elim it [ inl here ↦ inl here | inr rest ↦ inr (HasUpdate-front c update xs ys rest) ]

-- of two changes under one name the later stands
put_who-twice : {X : Type 0} (f : Who → X) (w : Who) (x y : X) → put_who (put_who f w x) w y ≡ put_who f w y
put_who-twice f w x y = λ i v. at_name v i
  where
    at_name : (v : Who) → put_who (put_who f w x) w y v ≡ put_who f w y v
    at_name v = elim (same_who v w) as (λ b. cond b y (cond b x (f v)) ≡ cond b y (f v)) [ true ↦ refl | false ↦ refl ]

module _ (m : Machine) (shapes : ℕ → Shape) (inv : InvariantIn shapes m) (s : CallState) (u : UpdateState) (held : m.in_hand (who s) ≡ Some s) (is : update_in (driver_of s) ≡ Some u) (at : IsUpdateIn m shapes s u)
    (e : Entry) (found : entry_of u.ckpt m.cluster.entries ≡ Some e) (r : ℕ) (had : has (slice_index e.complete r) (slice_index u.owned r) ≡ true) (behind : (q : ℕ) → r < q → has (slice_index e.complete q) (slice_index u.owned q) ≡ false)
    (x : ReplicaState) (there : m.replicas u.ckpt r ≡ Some x) (shaped : IsShaped (shapes u.ckpt) (Some s.call) x)
    (origin : (shapes u.ckpt).origin ≡ s.call) (update : (shapes u.ckpt).update ≡ update_of s.op) (alone : AreOwn (shapes u.ckpt) s.call) (rest : ((shapes u.ckpt).done ≡ true) ⊎ ((q : ℕ) → IsCompleteOn e q → (shapes u.ckpt).owners q ≡ Some s.call)) (phase : committing u.phase ≡ Committing)
    (placed : IsPlacedBehind m shapes s u) (own : IsOwnCommit e u) where
  abbrev z : Shape
  z = shapes u.ckpt

  abbrev was : IsSpread m u.ckpt z e
  was = spread m shapes inv s u held is at e found

  done_free : (q : ℕ) → IsCompleteOn e q → z.owners q ≡ None → z.done ≡ true
  done_free q full none = elim rest [
    | inl is_done ↦ is_done
    | inr all ↦ absurd (let w : None ≡ Some s.call = sym none ∙ all q full in cc w)
  ]

  abbrev pub commit_done : StepDone
  commit_done = done_of m.cluster verbs.Commit (Some u.ckpt) (Some r) words.Ok

  abbrev pub committed_state : CallState
  committed_state = record s { steps = commit_done ∷ s.steps; created = created_by m s verbs.Commit (Some u.ckpt) (Some r) }

  abbrev then_driver : UpdateState
  then_driver = record u { owned = slice_set u.owned r 0; phase = Committing }

  committed_is : IsBehind s u committed_state then_driver
  committed_is = record { step = commit_done; of = tt; call = refl; op = refl; kept = refl; begun = refl; steps = refl; update = ap (λ ph. record u { owned = slice_set u.owned r 0; phase = ph }) phase }

  abbrev pub committed : ReplicaState
  committed = committed_slot e.attributes x (Some (record { owner = s.call; origin = z.origin; update = z.update; moment = z.moment }))

  shaped_committed : IsShaped (after_it m shapes inv s u held is at e found r had behind alone x there true) None committed
  shaped_committed = record {
    slot = refl;
    sections = (let outcome_is = ap (outcome e.attributes z.update z.moment) shaped.sections ∙ was.fits r s.call (own_r m shapes inv s u held is at e found r had behind alone x there true) in ap (λ o. or_same o x.sections) outcome_is);
    effects = ap (λ es. es ++ Applied z.origin z.update z.moment ∷ []) shaped.effects;
    unmarked = shaped.unmarked;
  }

  others : (q : ℕ) → IsCompleteOn e q → z.owners q ≡ None → (w : ReplicaState) → IsShaped z None w → IsShaped (after_it m shapes inv s u held is at e found r had behind alone x there true) None w
  others q full none w it = let is_done = done_free q full none in record {
    slot = it.slot;
    sections = it.sections ∙ ap (λ b. cond b z.outcome z.sections) is_done;
    effects = it.effects ∙ ap (λ b. cond b (z.effects ++ Applied z.origin z.update z.moment ∷ []) z.effects) is_done;
    unmarked = it.unmarked;
  }

  has_still : (c : CallState) → HasUpdate c.call (update_of c.op) (effects_by z None) → HasUpdate c.call (update_of c.op) (z.effects ++ Applied z.origin z.update z.moment ∷ [])
  has_still c it = by_done z.done it
    where
      by_done : (b : Bool) → HasUpdate c.call (update_of c.op) (cond b (z.effects ++ Applied z.origin z.update z.moment ∷ []) z.effects) → HasUpdate c.call (update_of c.op) (z.effects ++ Applied z.origin z.update z.moment ∷ [])
      by_done true it = it
      by_done false it = HasUpdate-front c.call (update_of c.op) z.effects (Applied z.origin z.update z.moment ∷ []) it

  left : (q : ℕ) (c : CallId) → (after_it m shapes inv s u held is at e found r had behind alone x there true).owners q ≡ Some c → c ≡ s.call
  left q c has_it = (owner_cases m shapes inv s u held is at e found r had behind alone x there true q c has_it).2

  abbrev pub then_machine : Machine
  then_machine = record m { replicas = put2 m.replicas u.ckpt r (Some committed); in_hand = put_who m.in_hand (who s) (Some committed_state) }

  -- THE LAW OF A COMMIT, with more to come
  pub commit_keeps : Invariant then_machine
  commit_keeps = let_go_keeps m shapes inv s u held is at e found r had behind alone x there true committed refl shaped_committed others has_still committed_state Committing committed_is
      (record { origin = origin; update = update; is_done = refl; alone = left })
      (record { free = HasUpdate-last s.call (update_of s.op) z.effects z.origin z.update z.moment origin update; under = λ q c has_it apart. absurd (apart (left q c has_it)) })
      placed (λ f f_found. inl (refl, subst (λ (g : Entry). IsOwnCommit g u) (same_Some e f (sym found ∙ f_found)) own))

  -- behind it the update is where it has led it
  at_then : (shapes' : ℕ → Shape) → InvariantIn shapes' then_machine → IsUpdateIn then_machine shapes' committed_state then_driver
  at_then shapes' kept = update_there then_machine shapes' committed_state (driver_of committed_state) then_driver (kept.hands (who s) committed_state (put_who-here m.in_hand (who s) (Some committed_state))).here (does_then m shapes s u is committed_state then_driver committed_is) e found (all_is m shapes inv s u held is at e found)

  -- THE LAW OF THE LAST COMMIT: the call may end by it
  pub last_commit_keeps : last_having 0 e.complete (slice_set u.owned r 0) ≡ None → Invariant (record m { replicas = put2 m.replicas u.ckpt r (Some committed); in_hand = put_who m.in_hand (who s) None })
  last_commit_keeps none =
      let kept = commit_keeps in
      subst (λ f. Invariant (record m { replicas = put2 m.replicas u.ckpt r (Some committed); in_hand = f })) (put_who-twice m.in_hand (who s) (Some committed_state) None)
      (end_keeps then_machine kept.shapes kept.holds committed_state then_driver (put_who-here m.in_hand (who s) (Some committed_state)) (does_then m shapes s u is committed_state then_driver committed_is) (at_then kept.shapes kept.holds)
      (λ f f_found. subst (λ (g : Entry). last_having 0 g.complete (slice_set u.owned r 0) ≡ None) (same_Some e f (sym found ∙ f_found)) none))
