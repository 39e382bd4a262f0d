-- The machine's maps, changed at one place.
use Rattle.std.proofs.Common.{◌≡◌, ◌≢◌, ℕ, Bool, true, false, List, refl, sym, ap, subst, ◌∙◌, cond}
use Rattle.std.specs.Prelude.{Option, Some, None, slice_get}
use Rattle.client_calls.specs.declared.in_hand.InHand.{InHand}
use Rattle.cluster_record.specs.Calls.{left}
use Rattle.cluster_record.specs.Places.{or_none}
use Rattle.cluster_record.specs.StepDone.{StepDone}
use Rattle.ckpt_machine.specs.Machine.{Effect}
use Rattle.world_core.specs.Shows.{Beginning, History, shown_hand, hand_of, FitsHand}
use Rattle.world_core.specs.HandsState.{HandsState, hand_at, set_at}
use Rattle.world_core.proofs.HandLaws.{client_set, ended-at, next_set, node_set}
use Rattle.world_core.specs.Alone.{ended_at, ended_hands}
use Rattle.world_core.specs.declared.world.World.{World}
use Rattle.ckpt_types.specs.declared.answers.Outcome.{Outcome}
use Rattle.ckpt_types.specs.declared.identities.ActorName.TheVariants.{Client, Node}
use Rattle.ckpt_types.specs.declared.identities.Who.{Who}
use Rattle.ckpt_types.specs.declared.identities.Who.TheVariants.{Actor, Call}
use Rattle.ckpt_machine.specs.Whose.{same_who, put_who}
use Rattle.ckpt_machine.proofs.Whose.{put_who-here, put_who-other, same_who-false}

-- ---- the calls in hand

-- under this name the new calls in hand have this, and under any other what the old ones have
abbrev pub HasUnder : HandsState → Who → Option InHand → HandsState → Type 0
HasUnder old v p new = (u : Who) → hand_at new u ≡ put_who (hand_at old) v p u

-- so it has that one
pub under_own : (old new : HandsState) (v : Who) (p : Option InHand) → HasUnder old v p new → hand_at new v ≡ p
under_own old new v p under = under v ∙ put_who-here (hand_at old) v p

-- and the others stay
pub under_other : (old new : HandsState) (v : Who) (p : Option InHand) → HasUnder old v p new → (u : Who) → u ≢ v → hand_at new u ≡ hand_at old u
under_other old new v p under u other = under u ∙ put_who-other (hand_at old) v p u (same_who-false u v other)

-- an actor whose call is in hand has a place
place_there : (o : Option (Option InHand)) (hand : InHand) → or_none o ≡ Some hand → o ≡ Some (Some hand)
place_there None hand held = absurd (cc held)
place_there (Some x) hand held = ap Some held

-- a call that goes on, or has ended, is so behind its step, under its name
pub hand_left : (hands : HandsState) (v : Who) (hand next : InHand) (end : Option Outcome) → hand_at hands v ≡ Some hand → next.call ≡ hand.call → HasUnder hands v (left end next) (ended_hands v end (set_at hands v (left end next)))
hand_left hands (Actor (Client c)) hand next end held same = client_set hands c (Some hand) (place_there (slice_get hands.clients c) hand held) (left end next)
hand_left hands (Actor (Node r)) hand next end held same = node_set hands r (Some hand) (place_there (slice_get hands.nodes r) hand held) (left end next)
hand_left hands (Call call) hand next None held same = next_set call hands hand next held same
hand_left hands (Call call) hand next (Some end) held same = ended-at call hands

-- where it goes on the world is as it was
pub ended_going : (v : Who) (w : World) → ended_at v None w ≡ w
ended_going (Actor a) w = refl
ended_going (Call call) w = refl

-- ---- and as the machine has them

hand_case : (b : Bool) (k l : Beginning) (new old : List StepDone) (made before : Option (List ℕ)) (copy had : Option (List Effect)) (p o : Option InHand) →
    cond b (shown_hand k new made copy p) (shown_hand l old before had o) ≡ shown_hand (cond b k l) (cond b new old) (cond b made before) (cond b copy had) (cond b p o)
hand_case true k l new old made before copy had p o = refl
hand_case false k l new old made before copy had p o = refl

fits_hand_case : (b : Bool) (k l : Beginning) (new old : List StepDone) (made before : Option (List ℕ)) (copy had : Option (List Effect)) (p o : Option InHand) → FitsHand k new made copy p → FitsHand l old before had o → FitsHand (cond b k l) (cond b new old) (cond b made before) (cond b copy had) (cond b p o)
fits_hand_case true k l new old made before copy had p o h g = h
fits_hand_case false k l new old made before copy had p o h g = g

-- the history in which the call of a name began so, has these steps, has created this, and has pulled these effects
abbrev pub told_as : History → Who → Beginning → List StepDone → Option (List ℕ) → Option (List Effect) → History
told_as h v began steps created pulled = record h { beginnings = put_who h.beginnings v began; steps = put_who h.steps v steps; created = put_who h.created v created; pulled = put_who h.pulled v pulled }

module _ (h : History) (old new : HandsState) (v : Who) (p : Option InHand) (under : HasUnder old v p new) (began : Beginning) (steps : List StepDone) where
  -- the calls in hand, where that of a name is another now
  pub put_hand : (made : Option (List ℕ)) (copy : Option (List Effect)) (u : Who) → put_who (hand_of h old) v (shown_hand began steps made copy p) u ≡ hand_of (told_as h v began steps made copy) new u
  put_hand made copy u =
      hand_case (same_who u v) began (h.beginnings u) steps (h.steps u) made (h.created u) copy (h.pulled u) p (hand_at old u)
      ∙ ap (shown_hand (put_who h.beginnings v began u) (put_who h.steps v steps u) (put_who h.created v made u) (put_who h.pulled v copy u)) (sym (under u))

  -- and how they fit
  pub fits_hand : (made : Option (List ℕ)) (copy : Option (List Effect)) → FitsHand began steps made copy p → ((u : Who) → FitsHand (h.beginnings u) (h.steps u) (h.created u) (h.pulled u) (hand_at old u)) →
      (u : Who) → FitsHand (put_who h.beginnings v began u) (put_who h.steps v steps u) (put_who h.created v made u) (put_who h.pulled v copy u) (hand_at new u)
  fits_hand made copy one all u =
      subst (FitsHand (put_who h.beginnings v began u) (put_who h.steps v steps u) (put_who h.created v made u) (put_who h.pulled v copy u)) (sym (under u))
      (fits_hand_case (same_who u v) began (h.beginnings u) steps (h.steps u) made (h.created u) copy (h.pulled u) p (hand_at old u) one (all u))
