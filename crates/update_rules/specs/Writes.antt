-- A write, as it is followed without making the sections: what its first elements leave, and where it goes to first.
use Rattle.std.specs.Prelude.{ℕ, ◌+◌, max, List, [], ◌∷◌, length, Option, Some, None, Result, Ok, Err, nat_eq, if◌then◌else◌, ℤ}
use Rattle.std.specs.Cmp.Lexicographic.{pointwise}
use Rattle.ckpt_types.specs.declared.update.IoElement.{IoElement}
use Rattle.ckpt_types.specs.Sections.{Section, section_at, with_section, memory_used}
use Rattle.ckpt_types.specs.declared.update.Update.{Update}
use Rattle.ckpt_types.specs.declared.update.Update.TheVariants as updates
use Rattle.ckpt_types.specs.Updates.{Refusal, written, first_place}
use Rattle.update_rules.specs.declared.refused.Refused.{Refused}
use Rattle.update_rules.specs.Told.{refused_of}

-- the sections with an element's data in the section that was found for it
abbrev pub with_data : ℤ → IoElement → List Section → Option Section → List Section
with_data t e sections None = sections
with_data t e sections (Some s) = with_section (record s { bytes = written s.bytes e.offset e.bytes; last_update = t }) sections

-- the sections with an element written, whether it is refused or not
abbrev pub with_element : ℤ → IoElement → List Section → List Section
with_element t e sections = with_data t e sections (section_at e.id sections)

-- the sections with the elements written in order
abbrev pub with_elements : ℤ → List IoElement → List Section → List Section
with_elements t [] sections = sections
with_elements t (e ∷ elements) sections = with_elements t elements (with_element t e sections)

-- where an element's data ends in its section
abbrev pub element_end : IoElement → ℕ
element_end e = e.offset + length e.bytes

-- where it ends in the section of that identifier: 0 where it is of another
abbrev pub end_in : List ℕ → IoElement → ℕ
end_in id e = if pointwise nat_eq e.id id then element_end e else 0

-- where the last of the elements' data ends in the section of that identifier
abbrev pub last_end_in : List ℕ → List IoElement → ℕ
last_end_in id [] = 0
last_end_in id (e ∷ elements) = max (end_in id e) (last_end_in id elements)

-- how many bytes the sections have together, or the refusal
abbrev pub measured : Result (List Section) Refusal → Result ℕ Refused
measured (Ok sections) = Ok (memory_used sections)
measured (Err refusal) = Err (refused_of refusal)

-- where the section stands that a write goes to first, 0 for any other update
abbrev pub placed_first : Update → List Section → ℕ
placed_first (updates.Write elements) sections = first_place elements sections
placed_first other sections = 0
