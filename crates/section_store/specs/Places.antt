-- Where a section stands among the others, and the change of the one at a place.
use Rattle.std.specs.Prelude.{ℕ, zero, suc, List, [], ◌∷◌, length, take, ℤ}
use Rattle.std.specs.Ordering.{match_ordering}
use Rattle.ckpt_types.specs.Sections.{Section, id_cmp, present}

-- how many sections stand before the place of that identifier
abbrev pub count_below : List ℕ → List Section → ℕ
count_below id [] = 0
count_below id (s ∷ sections) = match_ordering (id_cmp id s.id) 0 0 (suc (count_below id sections))

-- how many of the sections before a place are present: where the next one stands among those that are present
abbrev pub place_among_present : ℤ → ℕ → List Section → ℕ
place_among_present t place sections = length (present t (take place sections))

-- the sections with the one at a place changed
abbrev pub changed_at : (Section → Section) → ℕ → List Section → List Section
changed_at change place [] = []
changed_at change zero (s ∷ sections) = change s ∷ sections
changed_at change (suc place) (s ∷ sections) = s ∷ changed_at change place sections
