-- A background snapshot by its place in the list.
use Rattle.std.proofs.Common.{◌≡◌, ℕ, List, subst}
use Rattle.std.specs.Prelude.{Option, Some, None, IsSomeAnd, slice_index_or}
use Rattle.cluster_record.specs.Places.{find_key, place_key}
use Rattle.cluster_record.proofs.AtKeys.{element_at, none_at}
use Rattle.world_core.specs.declared.snapshots.Background.{Background}
use Rattle.world_core.specs.Backgrounds.{background_key}

module _ (k : ℕ) (xs : List Background) (o : Option ℕ) (from : o ≡ place_key background_key k xs) (P : Background → Type 0) where
  -- what holds of the one of a checkpoint holds of the one at its place
  pub holds_at : (i : ℕ) (d : Background) → o ≡ Some i → IsSomeAnd (find_key background_key k xs) P → P (slice_index_or xs i d)
  holds_at i d e there = subst (λ (b : Option Background). IsSomeAnd b P) (element_at background_key k xs o from i d e) there

  -- where there is one, it has a place
  pub has_place : o ≡ None → IsSomeAnd (find_key background_key k xs) P → ⊥
  has_place e there = subst (λ (b : Option Background). IsSomeAnd b P) (none_at background_key k xs o from e) there
