-- What a log has, and for how many labels more it has room.
use Rattle.std.specs.Prelude.{ℕ, List}
use Rattle.run_labels.specs.declared.labels.Label.{Label}

-- the labels that are there, and the room for more of them
pub record KeptLabels : Type 0 where
  pub labels : List Label
  pub spare : ℕ
