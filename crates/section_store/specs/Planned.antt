-- Where an update goes: for each section that it changes, the place among those that are present, and the size behind the change.
use Rattle.std.specs.Prelude.{◌≡◌, ℕ, ◌+◌, max, All, List, [], ◌∷◌, length, slice_get, Option, Some, None, unwrap_or, Result, Ok, Err, Bool, true, nat_le, ◌==◌, if◌then◌else◌, ℤ}
use Rattle.ckpt_types.specs.declared.attributes.CreationAttributes.{CreationAttributes}
use Rattle.ckpt_types.specs.declared.update.IoElement.{IoElement}
use Rattle.ckpt_types.specs.declared.update.Update.{Update}
use Rattle.ckpt_types.specs.declared.update.Update.TheVariants as updates
use Rattle.ckpt_types.specs.Limits.{vector_max}
use Rattle.ckpt_types.specs.Sections.{Section, section_at, place_of, present, size_of}
use Rattle.ckpt_types.specs.Updates.{Refusal, new_id, element_written, outcome}
use Rattle.section_store.specs.Places.{place_among_present}
use Rattle.section_store.specs.declared.plan.Planned.{Planned}

-- the sections that an update leaves, or those before it where it is refused
abbrev pub left_by : List Section → Result (List Section) Refusal → List Section
left_by before (Ok after) = after
left_by before (Err refusal) = before

-- how many bytes a section has that may be there
abbrev pub size_found : Option Section → ℕ
size_found None = 0
size_found (Some s) = size_of s

-- where the section of an identifier stands, and how many bytes it has
abbrev pub planned_at : List ℕ → List Section → Planned
planned_at id sections = record { place = unwrap_or (place_of id sections) 0; size = size_found (section_at id sections) }

-- each element of a write, over the sections that it leaves
abbrev pub planned_elements : CreationAttributes → ℤ → List IoElement → List Section → List Planned
planned_elements a t [] sections = []
planned_elements a t (e ∷ elements) sections =
    let after = left_by sections (element_written a t 0 e sections) in
    planned_at e.id after ∷ planned_elements a t elements after

-- the plan of an update: an entry for each element of a write, one for any other change, where the section stands behind it;
-- a section that goes has no bytes then
abbrev pub planned : CreationAttributes → Update → ℤ → List Section → List Planned
planned a (updates.Write elements) t sections = planned_elements a t elements (present t sections)
planned a (updates.Overwrite id bytes) t sections = planned_at id (left_by sections (outcome a (updates.Overwrite id bytes) t sections)) ∷ []
planned a (updates.Create new expiration bytes) t sections = planned_at (new_id new (present t sections)) (left_by sections (outcome a (updates.Create new expiration bytes) t sections)) ∷ []
planned a (updates.Delete id) t sections = record { place = unwrap_or (place_of id (present t sections)) 0; size = 0 } ∷ []
planned a (updates.SetExpiration id expiration) t sections = planned_at id (left_by sections (outcome a (updates.SetExpiration id expiration) t sections)) ∷ []
planned a updates.Nothing t sections = []

-- a plan has room for the update: it is no write of more than 64 elements
abbrev pub is_short : Update → Bool
is_short (updates.Write elements) = nat_le (length elements) vector_max
is_short other = true

-- the size that is planned last for the section at a place, or else this one
abbrev pub size_planned : ℕ → ℕ → List Planned → ℕ
size_planned place size [] = size
size_planned place size (entry ∷ plan) = size_planned place (if entry.place == place then entry.size else size) plan

-- the entry of one element more, whose section stands at a place among all: it has as many bytes as before, or ends where the element ends
abbrev pub next_planned : ℤ → IoElement → ℕ → List Section → List Planned → Planned
next_planned t e place sections plan =
    let there = place_among_present t place sections in
    record { place = there; size = max (size_planned there (size_found (slice_get sections place)) plan) (e.offset + length e.bytes) }

-- each section that is planned keeps its size: the entry has the one of the section at its place
abbrev pub KeepSizes : List Section → List Planned → Type 0
KeepSizes sections plan = All (λ entry. entry.size ≡ size_found (slice_get sections entry.place)) plan
