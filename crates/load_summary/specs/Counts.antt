-- How labels are counted, a code's count at the place of its number.
use Rattle.std.specs.Prelude.{◌≡◌, ℕ, ◌+◌, List, Option, Some, None, length, slice_index, slice_set, count_by}
use Rattle.ckpt_types.specs.AisError.{code_of}
use Rattle.ckpt_types.specs.declared.ais_error.AisError.{AisError}
use Rattle.run_labels.specs.declared.labels.Label.{Label}
use Rattle.load_summary.specs.Summary.{ends_with}

-- at the place of each code stands how many of the labels end a call with it
pub record CountsCodes (log : List Label) (counts : List ℕ) : Type 0 where
  pub length : length counts ≡ 28
  pub each : (error : AisError) → slice_index counts (code_of error) ≡ count_by (ends_with error) log

-- the counts with one more at a code, where there is one
abbrev pub counted_in : List ℕ → Option AisError → List ℕ
counted_in counts None = counts
counted_in counts (Some error) = slice_set counts (code_of error) (slice_index counts (code_of error) + 1)
