-- Where a search of the heads, one by one, finds an identifier.
use Rattle.std.proofs.Common.{◌≡◌, ℕ, zero, suc, ◌<◌, List, [], ◌∷◌, length, take, get_or, slice_get, Option, Some, None, option_map, Bool, true, false, cond, sym, ap, subst, refl, arith}
use Rattle.std.specs.Prelude.{MatchOption}
use Rattle.std.proofs.lemmas.Option.{none-some}
use Rattle.ckpt_types.specs.Sections.{Section, is_named, place_of, section_at}
use Rattle.ckpt_types.proofs.Presence.{section_at-place_of, section_at-no_place}
use Rattle.snap_copy.specs.Heads.{section_in, sections_in}
use Rattle.snap_copy.specs.declared.heads.Head.{Head}

-- a place behind a first section that is another's, told by the place behind
step_further : (named : Bool) (front all next : Option ℕ) → cond named (Some 0) (option_map suc front) ≡ None → (front ≡ None → all ≡ next) → cond named (Some 0) (option_map suc all) ≡ option_map suc next
step_further true front all next none rest = absurd (none-some 0 (sym none))
step_further false None all next none rest = ap (option_map suc) (rest refl)
step_further false (Some i) all next none rest = absurd (none-some (suc i) (sym none))

-- an identifier that none of the first has, and the next one has, is there
pub place_of-here : (id bytes : List ℕ) (heads : List Head) (i : ℕ) (h : Head) → i < length heads → h ≡ get_or heads i h → place_of id (sections_in bytes (take i heads)) ≡ None → is_named id (section_in bytes h) ≡ true → place_of id (sections_in bytes heads) ≡ Some i
place_of-here id bytes [] i h there is none named = absurd (omega arith)
place_of-here id bytes (x ∷ heads) zero h there is none named =
    let first : is_named id (section_in bytes x) ≡ true = subst (λ y. is_named id (section_in bytes y) ≡ true) is named in
    rw first
place_of-here id bytes (x ∷ heads) (suc i) h there is none named =
    step_further (is_named id (section_in bytes x)) (place_of id (sections_in bytes (take i heads))) (place_of id (sections_in bytes heads)) (Some i) none (λ before. place_of-here id bytes heads i h (omega arith) is before named)

-- an identifier that none of the first has, nor the next one, has none of both
pub place_of-not_here : (id bytes : List ℕ) (heads : List Head) (i : ℕ) (h : Head) → i < length heads → h ≡ get_or heads i h → place_of id (sections_in bytes (take i heads)) ≡ None → is_named id (section_in bytes h) ≡ false → place_of id (sections_in bytes (take (suc i) heads)) ≡ None
place_of-not_here id bytes [] i h there is none other = absurd (omega arith)
place_of-not_here id bytes (x ∷ heads) zero h there is none other =
    let first : is_named id (section_in bytes x) ≡ false = subst (λ y. is_named id (section_in bytes y) ≡ false) is other in
    rw first
place_of-not_here id bytes (x ∷ heads) (suc i) h there is none other =
    step_further (is_named id (section_in bytes x)) (place_of id (sections_in bytes (take i heads))) (place_of id (sections_in bytes (take (suc i) heads))) None none (λ before. place_of-not_here id bytes heads i h (omega arith) is before other)
