-- The sections of the first heads, and of one more.
use Rattle.std.proofs.Common.{◌≡◌, ℕ, suc, ◌+◌, ◌<◌, List, [], ◌∷◌, ◌++◌, length, take, get_or, ap, ◌∙◌, sym, arith}
use Rattle.std.specs.Int.{int_min}
use Rattle.std.proofs.Math.Seq.{take-suc}
use Rattle.std.proofs.lemmas.List.{map-append}
use Rattle.ckpt_types.specs.Sections.{earliest_expiration}
use Rattle.ckpt_types.proofs.Expirations.{earliest_expiration-push}
use Rattle.snap_copy.specs.Heads.{section_in, sections_in}
use Rattle.snap_copy.specs.declared.heads.Head.{Head}

-- the sections of the first heads, and of the next one
sections_in-next : (bytes : List ℕ) (heads : List Head) (i : ℕ) (h : Head) → i < length heads → h ≡ get_or heads i h → sections_in bytes (take (i + 1) heads) ≡ sections_in bytes (take i heads) ++ section_in bytes h ∷ []
sections_in-next bytes heads i h there is =
    let next : i + 1 ≡ suc i = omega arith in
    ap (λ n. sections_in bytes (take n heads)) next
    ∙ ap (sections_in bytes) (take-suc heads i h there ∙ ap (λ x. take i heads ++ x ∷ []) (sym is))
    ∙ map-append (section_in bytes) (take i heads) (h ∷ [])

-- the earliest expiration of the first ones, and of the next one
pub earliest_expiration-heads : (bytes : List ℕ) (heads : List Head) (i : ℕ) (h : Head) → i < length heads → h ≡ get_or heads i h → earliest_expiration (sections_in bytes (take (i + 1) heads)) ≡ int_min (earliest_expiration (sections_in bytes (take i heads))) h.expiration
earliest_expiration-heads bytes heads i h there is =
    ap earliest_expiration (sections_in-next bytes heads i h there is) ∙ earliest_expiration-push (sections_in bytes (take i heads)) (section_in bytes h)
