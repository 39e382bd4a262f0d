-- Spellings, taken apart at their first byte or their dot.
use Rattle.std.proofs.Common.{◌≡◌, ap, ℕ, ◌-◌, ◌^◌, Bool, ◌==◌, ◌∷◌, ◌++◌, pos, arith, if◌then◌else◌, codes, decimal}
use Rattle.std.specs.Ordering.{int_eq}
use Rattle.std.proofs.lemmas.List.{append_assoc}
use Rattle.ckpt_types.specs.declared.calls.Version.{Version}
use Rattle.ckpt_types.specs.declared.identities.CallId.{CallId}
use Rattle.ckpt_types.specs.Spelling.{actor_text, call_text, time_text, version_text}

pub call_spelled : (call : CallId) → call_text call ≡ actor_text call.actor ++ 46 ∷ decimal call.number
call_spelled call = append_assoc (actor_text call.actor) (codes ".") (decimal call.number)

pub version_spelled : (v : Version) → version_text v ≡ v.release ∷ 46 ∷ (decimal v.major ++ 46 ∷ decimal v.minor)
version_spelled v = append_assoc (v.release ∷ 46 ∷ decimal v.major) (codes ".") (decimal v.minor)

int_eq-pos : (n m : ℕ) → int_eq (pos n) (pos m) ≡ (n == m)
int_eq-pos n m = grind arith

pub time_spelled : (n : ℕ) → time_text (pos n) ≡ (if n == 2 ^ 63 - 1 then codes "end" else decimal n)
time_spelled n = ap (λ (b : Bool). if b then codes "end" else decimal n) (int_eq-pos n (2 ^ 63 - 1))
