-- Where strings lie in one buffer.
use Rattle.std.specs.Prelude.{◌≡◌, ◌≢◌, ◌+◌, ◌<◌, ◌≤◌, ◌⊎◌, ℕ, List, All, map, length, take, drop, slice_index_or}
use Rattle.section_store.specs.declared.extents.Extent.{Extent}

-- the string that lies there
abbrev pub bytes_at : List ℕ → Extent → List ℕ
bytes_at buffer e = take e.len (drop e.start buffer)

-- the strings that lie in a buffer, in the order of their places
abbrev pub strings_in : List ℕ → List Extent → List (List ℕ)
strings_in buffer extents = map (bytes_at buffer) extents

-- the extent of a place where no string is
abbrev pub no_extent : Extent
no_extent = record { start = 0; len = 0; place = 0 }

-- where the string of a place lies
abbrev pub extent_at : ℕ → List Extent → Extent
extent_at place extents = slice_index_or extents place no_extent

-- where a string ends
abbrev pub end_of : Extent → ℕ
end_of e = e.start + e.len

-- two strings share no byte: one ends before the other starts
abbrev pub AreApart : Extent → Extent → Type 0
AreApart a b = (end_of a ≤ b.start) ⊎ (end_of b ≤ a.start)

-- strings lie before an end, those of different places share no byte, and an empty one starts at 0
pub record AreLaid (end : ℕ) (extents : List Extent) : Type 0 where
  pub within : All (λ e. end_of e ≤ end) extents
  pub apart : (j k : ℕ) (d : Extent) → j ≢ k → j < length extents → k < length extents → AreApart (slice_index_or extents j d) (slice_index_or extents k d)
  pub empty : All (λ e. e.len ≡ 0 → e.start ≡ 0) extents
