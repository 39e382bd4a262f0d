-- The marks of a node, where they stand on the active.
use Rattle.std.proofs.Common.{◌≡◌, ℕ, Option, Some, None, Bool, true, false, cond, ◌==◌, refl, sym, ap, ◌∙◌}
use Rattle.std.proofs.lemmas.Bool.{eqb-true, eq-eqb}
use Rattle.weak_marks.specs.Marks.{Marked}
use Rattle.ckpt_machine.specs.Listing.{is_active}
use Rattle.ckpt_machine.specs.Shape.{marks_at}
use Rattle.ckpt_machine.proofs.EntryLists.{eqb-comm}

-- the active has them
pub marks_here : (active : Option ℕ) (marks : Option Marked) (r : ℕ) → active ≡ Some r → marks_at active marks r ≡ marks
marks_here active marks r is = ap (λ o. marks_at o marks r) is ∙ ap (λ b. cond b marks None) (eq-eqb r r refl)

-- where there are none, no node has any
pub none_marked : (active : Option ℕ) (r : ℕ) → marks_at active None r ≡ None
none_marked None r = refl
none_marked (Some a) r = elim (r == a) as (λ b. cond {A = Option Marked} b None None ≡ None) [ true ↦ refl | false ↦ refl ]

-- and no other node has them
pub none_elsewhere : (active : Option ℕ) (marks : Option Marked) (r : ℕ) → is_active active r ≡ false → marks_at active marks r ≡ None
none_elsewhere None marks r other = refl
none_elsewhere (Some a) marks r other = ap (λ b. cond b marks None) (eqb-comm r a ∙ other)

-- so a node that is not the active has none
pub marks_at-apart : (active : Option ℕ) (marks : Option Marked) (r : ℕ) → (active ≡ Some r → ⊥) → marks_at active marks r ≡ None
marks_at-apart None marks r apart = refl
marks_at-apart (Some a) marks r apart = by_test (r == a) refl
  where
    by_test : (b : Bool) → (r == a) ≡ b → cond (r == a) marks None ≡ None
    by_test true same = absurd (apart (ap Some (sym (eqb-true r a same))))
    by_test false other = ap (λ b. cond b marks None) other
