-- Which calls may move no byte.
use Rattle.std.specs.Prelude.{◌≡◌, ℕ, ◌<◌, ◌↔◌, List, [], length, Option, IfSome, Result, IfOk}

-- where it is told what is left, a read with room gives nothing exactly where nothing is left
abbrev pub EndsExactly : {E : Type 0} → Option (List ℕ) → Result ℕ E → List ℕ → Type 0
EndsExactly left result buf = IfOk result (λ count. 0 < length buf → IfSome left (λ bytes. (count ≡ 0) ↔ (bytes ≡ [])))

-- a write of a piece that is not empty takes a byte of it, if it does not fail
abbrev pub TakesSome : {E : Type 0} → Result ℕ E → List ℕ → Type 0
TakesSome result piece = IfOk result (λ count. 0 < length piece → 0 < count)
