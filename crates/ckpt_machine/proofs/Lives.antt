-- Who is dead and live behind a step, and which nodes are up.
use Rattle.std.proofs.Common.{◌≡◌, ℕ, ◌<◌, inl, inr, List, [], ◌∷◌, Option, Some, None, Bool, true, false, ◌==◌, refl, sym, ap, subst, ◌∙◌, arith}
use Rattle.std.specs.Prelude.{IfSome, slice_index}
use Rattle.ckpt_types.specs.declared.identities.ActorName.{ActorName}
use Rattle.ckpt_types.specs.declared.identities.CallId.{CallId}
use Rattle.ckpt_types.specs.declared.identities.Who.{Who}
use Rattle.ckpt_types.specs.Asks.{Ask, asked}
use Rattle.ckpt_types.specs.Asks as asks
use Rattle.cluster_record.specs.RecordState.{is_live}
use Rattle.cluster_record.specs.StepDone.{StepDone}
use Rattle.ckpt_machine.specs.Dead.{is_enter, IsDead}
use Rattle.ckpt_machine.specs.Drivers.{Driver}
use Rattle.ckpt_machine.specs.Drivers as drivers
use Rattle.ckpt_machine.specs.Driving.{Kept, on_kept, driver_start, driver_state, driver_taken, kind_of_change, change_start}
use Rattle.ckpt_machine.specs.InHand.{IsInHand}
use Rattle.ckpt_machine.specs.Invariant.{InvariantIn}
use Rattle.ckpt_machine.specs.Machine.{Machine, CallState, who}
use Rattle.ckpt_machine.specs.Shape.{Shape, IsOwner}
use Rattle.ckpt_machine.specs.Due.{IsDriven, driver_of}
use Rattle.ckpt_machine.specs.Whose.{put_who}
use Rattle.ckpt_machine.proofs.CallsKept.{IsSameCall}
use Rattle.ckpt_machine.proofs.UpdateIn.{no_enter}
use Rattle.ckpt_machine.proofs.Whose.{put_who-cases, put_who-here}

-- n follows on m: a dead call is dead still, whoever owns a slot is live, and a node that was up is up
pub record LivesOn (m n : Machine) : Type 0 where
  pub dead : (d : CallId) → IsDead m d → IsDead n d
  pub owners : (k : ℕ) (sh : Shape) (d : CallId) → IsOwner n k sh d → is_live n.cluster d ≡ true
  pub up : (r : ℕ) → (slice_index m.cluster.up r == 0) ≡ false → slice_index n.cluster.up r ≡ slice_index m.cluster.up r

-- ---- what drives an Initialize

-- it is asked for
abbrev pub asks_enter : Ask → Bool
asks_enter (asks.Enter r version callbacks) = true
asks_enter ask = false

kept_enters : (o : Option ℕ) (start : ℕ → Driver) → ((k : ℕ) → is_enter (start k) ≡ false) → IfSome (on_kept o start) (λ d. is_enter d ≡ false)
kept_enters None start each = tt
kept_enters (Some k) start each = each k

start_enters : (call : CallId) (ask : Ask) (kept : Kept) → IfSome (driver_start call ask kept) (λ d. is_enter d ≡ asks_enter ask)
start_enters call (asks.Enter r version callbacks) kept = refl
start_enters call asks.Leave kept = refl
start_enters call (asks.Open place name flags timeout a) kept = refl
start_enters call (asks.Close place) kept = kept_enters kept.ckpt _ (λ k. refl)
start_enters call (asks.Unlink name) kept = refl
start_enters call (asks.Retain place duration) kept = kept_enters kept.ckpt _ (λ k. refl)
start_enters call (asks.Change place update) kept = by_all kept.all
  where
    by_all : (all : Bool) → IfSome (change_start call all (kind_of_change kept.weak update) kept.ckpt) (λ d. is_enter d ≡ false)
    by_all true = kept_enters kept.ckpt _ (λ k. refl)
    by_all false = kept_enters kept.ckpt _ (λ k. refl)
start_enters call (asks.Read place elements) kept = kept_enters kept.ckpt _ (λ k. refl)
start_enters call (asks.Status place) kept = kept_enters kept.ckpt _ (λ k. refl)
start_enters call (asks.Iterate iteration place chosen time) kept = kept_enters kept.ckpt _ (λ k. refl)
start_enters call (asks.Next iteration) kept = kept_enters kept.ckpt _ (λ k. refl)
start_enters call (asks.Synchronize place timeout) kept = kept_enters kept.ckpt _ (λ k. refl)
start_enters call (asks.SetActive place) kept = kept_enters kept.ckpt _ (λ k. refl)
start_enters call asks.Copy kept = refl
start_enters call ask kept = tt

taken_enters : (d : StepDone) (x : Driver) → is_enter (driver_taken d x) ≡ is_enter x
taken_enters d (drivers.Once x) = refl
taken_enters d (drivers.Open o) = refl
taken_enters d (drivers.Update u) = refl
taken_enters d (drivers.Active a) = refl
taken_enters d (drivers.Sync u) = refl
taken_enters d (drivers.Copy c) = refl

pub steps_enter : (begun : Driver) (steps : List StepDone) → is_enter (driver_state begun steps) ≡ is_enter begun
steps_enter begun [] = refl
steps_enter begun (d ∷ steps) = taken_enters d (driver_state begun steps) ∙ steps_enter begun steps

pub state_enters : (s : CallState) → IsDriven s → is_enter (driver_of s) ≡ asks_enter (asked s.op)
state_enters s driven = steps_enter s.begun s.steps ∙ subst (λ o. IfSome o (λ d. is_enter d ≡ asks_enter (asked s.op))) driven (start_enters s.call (asked s.op) s.kept)

-- ---- steps that leave who is live, the nodes and the numbers as they are

-- each Initialize that is in hand was so
abbrev pub EntersWere : Machine → Machine → Type 0
EntersWere m n = (w : Who) (z : CallState) → n.in_hand w ≡ Some z → is_enter (driver_of z) ≡ true → (y : CallState) × (m.in_hand w ≡ Some y) × (is_enter (driver_of y) ≡ true) × (z.call ≡ y.call)

-- so it was where all that is in hand was
pub enters-fewer : (m n : Machine) → ((w : Who) (z : CallState) → n.in_hand w ≡ Some z → m.in_hand w ≡ Some z) → EntersWere m n
enters-fewer m n was w z at enter = (z, was w z at, enter, refl)

-- or where another state of one call is left, or none
pub enters-one : (m n : Machine) (s : CallState) → m.in_hand (who s) ≡ Some s → IsDriven s → (o : Option CallState) → IsSameCall s o → ((z : CallState) → o ≡ Some z → IsDriven z) → ((w : Who) → n.in_hand w ≡ put_who m.in_hand (who s) o w) → EntersWere m n
enters-one m n s held driven o same drives one w z at enter = elim (put_who-cases m.in_hand (who s) o w z (sym (one w) ∙ at)) [
  | inl here ↦ (
      let entered : is_enter (driver_of s) ≡ true = state_enters s driven ∙ ap (λ op. asks_enter (asked op)) (sym (same z here.1).1) ∙ sym (state_enters z (drives z here.1)) ∙ enter in
      (s, ap m.in_hand here.0 ∙ held, entered, (same z here.1).0))
  | inr other ↦ (z, other.1, enter, refl)
]

-- a dead call is dead still
pub dead_on : (m n : Machine) → ((d : CallId) → is_live n.cluster d ≡ is_live m.cluster d) → n.next ≡ m.next → EntersWere m n → (d : CallId) → IsDead m d → IsDead n d
dead_on m n live next were d dead = record {
  begun = subst (λ (f : ActorName → ℕ). d.number < f d.actor) (sym next) dead.begun;
  gone = live d ∙ dead.gone;
  before = λ w z at actor enter.
      let (y, was, entered, same) = were w z at enter in
      subst (λ (c : CallId). d.number < c.number) (sym same) (dead.before w y was (ap (λ (c : CallId). c.actor) (sym same) ∙ actor) entered);
}

module _ (m n : Machine) (shapes then_shapes : ℕ → Shape) (inv : InvariantIn shapes m) (live : (d : CallId) → is_live n.cluster d ≡ is_live m.cluster d) (up : n.cluster.up ≡ m.cluster.up) (next : n.next ≡ m.next) (hands : (w : Who) (z : CallState) → n.in_hand w ≡ Some z → IsInHand n then_shapes w z) where
  lives_on : EntersWere m n → LivesOn m n
  lives_on were = record {
    dead = dead_on m n live next were;
    owners = λ k sh d own. ap (is_live n.cluster) (sym own.call_is) ∙ (hands (who own.state) own.state own.in_hand).live (no_enter (driver_of own.state) own.driver own.driver_is);
    up = λ r there. ap (λ nodes. slice_index nodes r) up;
  }

  -- where all that is in hand was
  pub lives_on-fewer : ((w : Who) (z : CallState) → n.in_hand w ≡ Some z → m.in_hand w ≡ Some z) → LivesOn m n
  lives_on-fewer was = lives_on (enters-fewer m n was)

  -- where another state of one call is left, or none
  pub lives_on-one : (s : CallState) → m.in_hand (who s) ≡ Some s → (o : Option CallState) → IsSameCall s o → ((w : Who) → n.in_hand w ≡ put_who m.in_hand (who s) o w) → LivesOn m n
  lives_on-one s held o same one = lives_on (enters-one m n s held (inv.hands (who s) s held).driven o same (λ z is. (hands (who s) z (one (who s) ∙ put_who-here m.in_hand (who s) o ∙ is)).driven) one)

-- a call in hand is not dead
pub held_not_dead : (m : Machine) (shapes : ℕ → Shape) → InvariantIn shapes m → (z : CallState) → m.in_hand (who z) ≡ Some z → IsDead m z.call → ⊥
held_not_dead m shapes inv z at dead = by_enter (is_enter (driver_of z)) refl
  where
    by_enter : (b : Bool) → is_enter (driver_of z) ≡ b → ⊥
    by_enter true enters = let below : z.call.number < z.call.number = dead.before (who z) z at refl enters in omega (arith, below)
    by_enter false other = let w : true ≡ false = sym ((inv.hands (who z) z at).live other) ∙ dead.gone in cc w
