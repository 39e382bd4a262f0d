-- What is told of a client's table that stands at its place.
use Rattle.std.proofs.Common.{◌≡◌, ℕ, ◌<◌, List, length, Some, ap}
use Rattle.std.specs.Prelude.{slice_get, slice_index_or, slice_set}
use Rattle.std.proofs.lemmas.Option.{slice_get-get_or}
use Rattle.client_calls.specs.TableState.{TableState, kept_in}
use Rattle.world_core.specs.TablesState.{kept_by, table_changed, at_client}

module _ (tables : List TableState) (c : ℕ) (t : TableState) (within : c < length tables) where
  there : slice_get tables c ≡ Some (slice_index_or tables c t)
  there = slice_get-get_or tables c t within

  -- what it keeps
  pub kept_is : kept_by tables c ≡ (slice_index_or tables c t).client
  kept_is = ap kept_in there

  -- the tables with it changed
  pub changed_is : (change : TableState → TableState) → at_client c change tables ≡ slice_set tables c (change (slice_index_or tables c t))
  changed_is change = ap (table_changed c change tables) there
