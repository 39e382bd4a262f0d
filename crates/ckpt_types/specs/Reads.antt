-- What a read gives, which sections an iteration goes over, and what a status tells.
use Rattle.std.specs.Prelude.{ℕ, ◌+◌, List, [], ◌∷◌, length, take, drop, map, filter, Option, Some, None, Result, Ok, Bool, true, false, ◌==◌, nat_lt, if◌then◌else◌, ℤ, int_le}
use Rattle.std.specs.Ordering.{int_eq}
use Rattle.ckpt_types.specs.declared.ais_error.AisError.TheVariants.{InvalidParam}
use Rattle.ckpt_types.specs.declared.attributes.CreationAttributes.{CreationAttributes}
use Rattle.ckpt_types.specs.declared.sections.CheckpointDescriptor.{CheckpointDescriptor}
use Rattle.ckpt_types.specs.declared.sections.Choice.{Choice}
use Rattle.ckpt_types.specs.declared.sections.SectionDescriptor.{SectionDescriptor}
use Rattle.ckpt_types.specs.declared.sections.SectionState.{SectionState}
use Rattle.ckpt_types.specs.declared.sections.SectionState.TheVariants.{Valid, Corrupted}
use Rattle.ckpt_types.specs.declared.update.ReadElement.{ReadElement}
use Rattle.ckpt_types.specs.Limits.{end_of_time, sections_forever, sections_leq_expiration_time, sections_geq_expiration_time, sections_corrupted, sections_any}
use Rattle.ckpt_types.specs.Sections.{Section, section_at, present, size_of, memory_used}
use Rattle.ckpt_types.specs.Updates.{Refusal, refuse_at, on_section, and_then}

-- the bytes of one element: from its offset on, at most its length of them
abbrev pub piece_read : ℕ → ReadElement → List Section → Result (List ℕ) Refusal
piece_read place e sections =
    on_section place (section_at e.id sections) (λ s.
    if nat_lt (size_of s) e.offset then refuse_at place InvalidParam
    else Ok (take e.len (drop e.offset s.bytes)))

-- the bytes of each element, or the first refusal; the elements are numbered from a place on
abbrev pub pieces_read : ℕ → List ReadElement → List Section → Result (List (List ℕ)) Refusal
pieces_read place [] sections = Ok []
pieces_read place (e ∷ elements) sections =
    and_then (piece_read place e sections) (λ piece. and_then (pieces_read (place + 1) elements sections) (λ pieces. Ok (piece ∷ pieces)))

-- the bytes of each element, or the refusal of the first that is refused; a corrupted section can be read
abbrev pub read : List ReadElement → ℤ → List Section → Result (List (List ℕ)) Refusal
read elements t sections = pieces_read 0 elements (present t sections)

-- a write into the section was cut short
abbrev pub is_corrupted : SectionState → Bool
is_corrupted Valid = false
is_corrupted Corrupted = true

-- the choice takes the section
abbrev pub chooses : Choice → Section → Bool
chooses choice s =
    if choice.chosen == sections_forever then int_eq s.expiration end_of_time
    else if choice.chosen == sections_leq_expiration_time then int_le s.expiration choice.time
    else if choice.chosen == sections_geq_expiration_time then int_le choice.time s.expiration
    else if choice.chosen == sections_corrupted then is_corrupted s.state
    else choice.chosen == sections_any

-- the identifiers that an iteration keeps, in their order
abbrev pub chosen : Choice → ℤ → List Section → List (List ℕ)
chosen choice t sections = map (λ s. s.id) (filter (chooses choice) (present t sections))

-- the section that an iteration gives next, and the identifiers that it keeps behind it
pub record NextGiven : Type 0 where
  pub section : Section
  pub rest : List (List ℕ)

-- this section where it is present, and the identifiers behind it; else what a later identifier gives
abbrev pub given_first : List (List ℕ) → Option Section → Option NextGiven → Option NextGiven
given_first rest None later = later
given_first rest (Some s) later = Some (record { section = s; rest = rest })

-- the first of the kept identifiers whose section is present; nothing where none is
abbrev pub given : List (List ℕ) → ℤ → List Section → Option NextGiven
given [] t sections = None
given (id ∷ rest) t sections = given_first rest (section_at id (present t sections)) (given rest t sections)

-- what is told of a section
abbrev pub description : Section → SectionDescriptor
description s = record { id = s.id; expiration = s.expiration; size = size_of s; state = s.state; last_update = s.last_update }

-- what is told of a checkpoint
abbrev pub status : CreationAttributes → ℤ → List Section → CheckpointDescriptor
status a t sections = record { attributes = a; number_of_sections = length (present t sections); memory_used = memory_used (present t sections) }
