-- What a check asks of the sections that are present.
use Rattle.std.specs.Prelude.{ℕ, ℤ, List, Option, None, if◌then◌else◌}
use Rattle.std.specs.Option.{option_map}
use Rattle.ckpt_types.specs.Sections.{Section, section_at, is_taken, place_of, present, size_of}

-- how many bytes the section of that identifier has
abbrev pub size_at : List ℕ → List Section → Option ℕ
size_at id sections = option_map size_of (section_at id sections)

-- where the section of that identifier stands among all, where it is present at the moment
abbrev pub place_present : List ℕ → ℤ → List Section → Option ℕ
place_present id t sections = if is_taken id (present t sections) then place_of id sections else None
