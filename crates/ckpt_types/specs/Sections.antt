-- The sections of a checkpoint: a finite map from identifier to section, as the list of the sections in
-- the order of their identifiers.
use Rattle.std.specs.Prelude.{◌≡◌, ℕ, suc, ◌≤◌, List, [], ◌∷◌, length, filter, find, sum_by, All, Option, Some, None, is_some, Bool, not, nat_eq, ◌==◌, if◌then◌else◌, ℤ, int_lt}
use Rattle.std.specs.Int.{int_min}
use Rattle.std.specs.Option.{option_map}
use Rattle.std.specs.Ordering.{nat_cmp, match_ordering}
use Rattle.std.specs.declared.cmp.Ordering.{Ordering}
use Rattle.std.specs.declared.cmp.Ordering.TheVariants.{Less}
use Rattle.std.specs.Cmp.Lexicographic.{pointwise, slice_cmp}
use Rattle.ckpt_types.specs.declared.attributes.CreationAttributes.{CreationAttributes}
use Rattle.ckpt_types.specs.declared.sections.SectionState.{SectionState}
use Rattle.ckpt_types.specs.declared.sections.SectionState.TheVariants.{Valid}
use Rattle.ckpt_types.specs.declared.sections.SectionRef.{SectionRef}
use Rattle.ckpt_types.specs.Limits.{end_of_time}

-- a section: its identifier and bytes, from when on it is absent, its state, when its bytes were last updated
pub record Section : Type 0 where
  pub id : List ℕ
  pub bytes : List ℕ
  pub expiration : ℤ
  pub state : SectionState
  pub last_update : ℤ

-- the section that is lent
abbrev pub section_of : SectionRef → Section
section_of lent = record { id = lent.id.now; bytes = lent.bytes.now; expiration = lent.expiration; state = lent.state; last_update = lent.last_update }

-- the order of identifiers: by their bytes, a proper prefix first
abbrev pub id_cmp : List ℕ → List ℕ → Ordering
id_cmp = slice_cmp nat_cmp

-- the section has this identifier
abbrev pub is_named : List ℕ → Section → Bool
is_named id s = pointwise nat_eq s.id id

-- the section of that identifier
abbrev pub section_at : List ℕ → List Section → Option Section
section_at id sections = find (is_named id) sections

-- some section has that identifier
abbrev pub is_taken : List ℕ → List Section → Bool
is_taken id sections = is_some (section_at id sections)

-- the place of the section of that identifier, counted from 0
abbrev pub place_of : List ℕ → List Section → Option ℕ
place_of id [] = None
place_of id (s ∷ sections) = if is_named id s then Some 0 else option_map suc (place_of id sections)

-- the identifier stands before those of all these sections
abbrev pub IsBelowAll : List ℕ → List Section → Type 0
IsBelowAll id [] = Unit {0}
IsBelowAll id (s ∷ sections) = (id_cmp id s.id ≡ Less) × IsBelowAll id sections

-- the identifiers rise, so each stands once
abbrev pub Rises : List Section → Type 0
Rises [] = Unit {0}
Rises (s ∷ sections) = IsBelowAll s.id sections × Rises sections

-- the sections with this one, which takes the place of the one with its identifier
abbrev pub with_section : Section → List Section → List Section
with_section new [] = new ∷ []
with_section new (s ∷ sections) = match_ordering (id_cmp new.id s.id) (new ∷ s ∷ sections) (new ∷ sections) (s ∷ with_section new sections)

-- the sections without the one of that identifier
abbrev pub without_section : List ℕ → List Section → List Section
without_section id sections = filter (λ s. not (is_named id s)) sections

-- a section is present while its expiration is above the moment
abbrev pub is_present : ℤ → Section → Bool
is_present t s = int_lt t s.expiration

-- the sections that are present at a moment; every call treats the others as absent
abbrev pub present : ℤ → List Section → List Section
present t sections = filter (is_present t) sections

-- the section, where it is present
abbrev pub where_present : ℤ → Option Section → Option Section
where_present t None = None
where_present t (Some s) = if is_present t s then Some s else None

-- the one section of a checkpoint that may have only one
abbrev pub default_section : ℤ → Section
default_section made = record { id = []; bytes = []; expiration = end_of_time; state = Valid; last_update = made }

-- what a checkpoint has when it is made: the default section where it may have only one, else nothing
abbrev pub opening : CreationAttributes → ℤ → List Section
opening a made = if a.max_sections == 1 then default_section made ∷ [] else []

-- how many bytes a section has
abbrev pub size_of : Section → ℕ
size_of s = length s.bytes

-- how many bytes the sections have together
abbrev pub memory_used : List Section → ℕ
memory_used sections = sum_by size_of sections

-- the least expiration of the sections, the end of time where there is none
abbrev pub earliest_expiration : List Section → ℤ
earliest_expiration [] = end_of_time
earliest_expiration (s ∷ sections) = int_min s.expiration (earliest_expiration sections)

-- the sections keep to what was declared
pub record Fits (a : CreationAttributes) (sections : List Section) : Type 0 where
  pub few : length sections ≤ a.max_sections
  pub small : All (λ s. size_of s ≤ a.max_section_size) sections
  pub named_short : All (λ s. length s.id ≤ a.max_section_id_size) sections
  pub within : memory_used sections ≤ a.checkpoint_size
  pub default_only : a.max_sections ≡ 1 → All (λ s. s.id ≡ []) sections
