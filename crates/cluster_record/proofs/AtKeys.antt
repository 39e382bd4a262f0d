-- The element at the place of a key is the key's.
use Rattle.std.proofs.Common.{◌≡◌, ℕ, List, sym, ap, ◌∙◌}
use Rattle.std.specs.Prelude.{Option, Some, None, slice_index_or}
use Rattle.std.proofs.lemmas.Option.{get_or_from_slice_get}
use Rattle.cluster_record.specs.Places.{find_key, place_key}
use Rattle.cluster_record.proofs.Places.{found_key, not_found}

module _ {X : Type 0} (key : X → ℕ) (k : ℕ) (xs : List X) (o : Option ℕ) (from : o ≡ place_key key k xs) where
  -- what is read at the key's place is the key's element
  pub element_at : (i : ℕ) (d : X) → o ≡ Some i → find_key key k xs ≡ Some (slice_index_or xs i d)
  element_at i d e = let f = found_key key k xs i (sym from ∙ e) in f.1.found ∙ ap Some (sym (get_or_from_slice_get xs i f.0 d f.1.at))

  -- a key with no place has no element
  pub none_at : o ≡ None → find_key key k xs ≡ None
  none_at e = not_found key k 0 xs (sym from ∙ e)
