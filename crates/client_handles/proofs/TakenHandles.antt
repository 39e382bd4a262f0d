-- With a handle more, each place stands for the handle and the iteration that it did: the new number is above all that places
-- were set to. Of handles it is handle_at-taken of ClientLaws.
use Rattle.std.proofs.Common.{◌≡◌, ℕ, ◌≤◌, Option, Some, None, IsSome, refl, arith}
use Rattle.std.specs.Option.{option_and_then}
use Rattle.ckpt_types.specs.declared.open_flags.OpenFlags.{OpenFlags}
use Rattle.client_handles.specs.ClientState.{ClientState, iteration_number, goes_over, handle_numbered, iteration_at, iterated_at, kept_at, taken, HasIterations, IsOver, IsValid}
use Rattle.client_handles.specs.declared.begun.BegunIteration.{BegunIteration}
use Rattle.client_handles.specs.declared.handle_view.HandleView.{HandleView}
use Rattle.client_handles.proofs.ClientLaws.{handle_numbered-taken_other, number-given}
use Rattle.client_handles.proofs.NumberedLaws.{numbered-All}

module _ (id : ℕ) (flags : OpenFlags) (creation_flags : ℕ) (s : ClientState) (is : IsValid s) where
  open_case : (number : ℕ) (o : Option HandleView) → handle_numbered number s.handles ≡ o → IsSome o → handle_numbered number (taken id flags creation_flags s).handles ≡ handle_numbered number s.handles
  open_case number None found opened = absurd cc
  open_case number (Some h) found opened =
      let low : number ≤ s.last_number = (number-given number s h is found).1 in
      handle_numbered-taken_other id flags creation_flags s is number (λ e. omega (arith, e, low))

  -- a handle that is open is found by its number as before
  pub handle_numbered-taken_open : (number : ℕ) → IsSome (handle_numbered number s.handles) → handle_numbered number (taken id flags creation_flags s).handles ≡ handle_numbered number s.handles
  handle_numbered-taken_open number opened = open_case number (handle_numbered number s.handles) refl opened

  over_case : (place : ℕ) (o : Option BegunIteration) → iteration_at place s ≡ o →
      option_and_then (λ (it : BegunIteration). handle_numbered (goes_over it) (taken id flags creation_flags s).handles) o ≡ option_and_then (λ (it : BegunIteration). handle_numbered (goes_over it) s.handles) o
  over_case place None stands = refl
  over_case place (Some it) stands =
      let has : HasIterations s = is.iterations in
      handle_numbered-taken_open (goes_over it) (numbered-All iteration_number (IsOver s.handles) _ s.iterations it has.over_open stands)
