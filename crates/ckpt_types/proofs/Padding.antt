-- An identifier as it is kept: bytes written over the front of 256 zeros.
use Rattle.std.proofs.Common.{◌≡◌, ◌+◌, ◌-◌, ◌≤◌, ◌++◌, ℕ, List, length, drop, replicate, ap, ◌∙◌, arith, refl, length-append}
use Rattle.std.proofs.lemmas.List.{drop-replicate, length-replicate, drop_at}
use Rattle.ckpt_types.specs.SectionId.{IsPadded}

pub IsPadded-written_front : (bytes all : List ℕ) → length bytes ≤ 256 → all ≡ bytes ++ drop (length bytes) (replicate 256 0) → IsPadded (record { bytes = all; len = length bytes })
IsPadded-written_front bytes all within is =
    let rest : drop (length bytes) (replicate {A = ℕ} 256 0) ≡ replicate {A = ℕ} (256 - length bytes) 0 = drop-replicate (length bytes) 256 0 in
    let written : all ≡ bytes ++ replicate (256 - length bytes) 0 = is ∙ ap (λ behind. bytes ++ behind) rest in
    let len : length all ≡ length bytes + (256 - length bytes) = ap length written ∙ length-append bytes (replicate {A = ℕ} (256 - length bytes) 0) ∙ ap (λ n. length bytes + n) (length-replicate {A = ℕ} (256 - length bytes) 0) in
    record {
      whole = omega arith;
      within = within;
      zeros = ap (drop (length bytes)) written ∙ drop_at bytes _ (length bytes) refl;
    }
