-- The asynchronous calls of one client, each in its place.
use Rattle.std.specs.Prelude.{◌≡◌, ℕ, ◌<◌, length, List, [], ◌∷◌, filter, not, Option, Some, None, Bool, false, if◌then◌else◌, slice_get, slice_set}
use Rattle.ckpt_types.specs.declared.identities.CallId.{CallId}
use Rattle.ckpt_types.specs.declared.identities.Who.{Who}
use Rattle.ckpt_types.specs.declared.identities.Who.TheVariants.{Call}
use Rattle.cluster_record.specs.Calls.{same_call}
use Rattle.client_calls.specs.declared.in_hand.InHand.{InHand}

-- the place has this call
abbrev pub has_call : CallId → Option InHand → Bool
has_call call None = false
has_call call (Some h) = same_call h.call call

-- the first that is this call
abbrev pub found_alone : CallId → List (Option InHand) → Option InHand
found_alone call [] = None
found_alone call (x ∷ xs) = if has_call call x then x else found_alone call xs

-- another in its place
abbrev pub changed_alone : CallId → Option InHand → List (Option InHand) → List (Option InHand)
changed_alone call o [] = []
changed_alone call o (x ∷ xs) = if has_call call x then o ∷ xs else x ∷ changed_alone call o xs

-- the place has it, and to set it is to put another there
pub record IsPlaceOf (call : CallId) (xs : List (Option InHand)) (place : ℕ) : Type 0 where
  pub within : place < length xs
  pub there : slice_get xs place ≡ Some (found_alone call xs)
  pub set : (o : Option InHand) → changed_alone call o xs ≡ slice_set xs place o

-- the place has another call
abbrev pub has_other : CallId → Option InHand → Bool
has_other call None = false
has_other call (Some h) = not (same_call h.call call)

-- the place has an asynchronous call for whose name a test holds
abbrev pub meets : (Who → Bool) → Option InHand → Bool
meets test None = false
meets test (Some h) = test (Call h.call)

-- without the calls for which it holds
abbrev pub without_met : (Who → Bool) → List (Option InHand) → List (Option InHand)
without_met test xs = filter (λ x. not (meets test x)) xs
