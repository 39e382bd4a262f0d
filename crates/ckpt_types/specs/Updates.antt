-- What an update makes of the sections at a moment: the sections after it, or its first refusal.
use Rattle.std.specs.Prelude.{ℕ, zero, suc, ◌+◌, ◌-◌, List, [], ◌∷◌, ◌++◌, length, take, drop, replicate, find, unwrap_or, Option, Some, None, Result, Ok, Err, Bool, not, ◌||◌, ◌==◌, nat_lt, nat_le, if◌then◌else◌, ℤ, int_le}
use Rattle.std.specs.Int.{to_be_bytes, w64}
use Rattle.ckpt_types.specs.declared.ais_error.AisError.{AisError}
use Rattle.ckpt_types.specs.declared.ais_error.AisError.TheVariants.{NotExist, Exist, InvalidParam, NoSpace}
use Rattle.ckpt_types.specs.declared.attributes.CreationAttributes.{CreationAttributes}
use Rattle.ckpt_types.specs.declared.sections.SectionState.TheVariants.{Valid}
use Rattle.ckpt_types.specs.declared.update.IoElement.{IoElement}
use Rattle.ckpt_types.specs.declared.update.NewId.{NewId}
use Rattle.ckpt_types.specs.declared.update.NewId.TheVariants.{Given, Generated}
use Rattle.ckpt_types.specs.declared.update.Update.{Update}
use Rattle.ckpt_types.specs.declared.update.Update.TheVariants as updates
use Rattle.ckpt_types.specs.Limits.{generated_id_bytes}
use Rattle.ckpt_types.specs.Sections.{Section, section_at, place_of, is_taken, with_section, without_section, present, memory_used}

-- why an update or a read is refused: the error, and for a vector the index of the refused element, from 0
pub record Refusal : Type 0 where
  pub error : AisError
  pub index : ℕ

-- a refusal that is about no element of a vector
abbrev pub refuse : {A : Type 0} → AisError → Result A Refusal
refuse error = Err (record { error = error; index = 0 })

-- the element at a place is refused
abbrev pub refuse_at : {A : Type 0} → ℕ → AisError → Result A Refusal
refuse_at place error = Err (record { error = error; index = place })

-- goes on with the section, where it is there
abbrev pub on_section : {A : Type 0} → ℕ → Option Section → (Section → Result A Refusal) → Result A Refusal
on_section place None go_on = refuse_at place NotExist
on_section place (Some s) go_on = go_on s

-- goes on with a value, where there was no refusal
abbrev pub and_then : {A B : Type 0} → Result A Refusal → (A → Result B Refusal) → Result B Refusal
and_then (Ok x) go_on = go_on x
and_then (Err refusal) go_on = Err refusal

-- the sections are more than the checkpoint was declared to have
abbrev pub outgrows : CreationAttributes → List Section → Bool
outgrows a sections = nat_lt a.checkpoint_size (memory_used sections)

-- ---- identifiers that the service makes

-- the identifier of a number: its 8 bytes, the highest first
abbrev pub numbered_id : ℕ → List ℕ
numbered_id n = to_be_bytes w64 n

-- so many numbers, from this one on
abbrev pub numbers_from : ℕ → ℕ → List ℕ
numbers_from n zero = []
numbers_from n (suc count) = n ∷ numbers_from (n + 1) count

-- the least number from 1 whose identifier no section has; one of the first length + 1 numbers is free
abbrev pub free_number : List Section → ℕ
free_number sections = unwrap_or (find (λ n. not (is_taken (numbered_id n) sections)) (numbers_from 1 (length sections + 1))) 0

-- the identifier that the service makes for a new section
abbrev pub generated_id : List Section → List ℕ
generated_id sections = numbered_id (free_number sections)

-- the identifier of a new section
abbrev pub new_id : NewId → List Section → List ℕ
new_id (Given id) sections = id
new_id Generated sections = generated_id sections

-- the identifier is empty or too long, or the declared length leaves no room for a generated one
abbrev pub is_bad_id : CreationAttributes → NewId → Bool
is_bad_id a (Given id) = (length id == 0) || nat_lt a.max_section_id_size (length id)
is_bad_id a Generated = nat_lt a.max_section_id_size generated_id_bytes

-- ---- the updates, each over the sections that are present

-- a new section, which is valid
abbrev pub section_created : CreationAttributes → NewId → ℤ → List ℕ → ℤ → List Section → Result (List Section) Refusal
section_created a new expiration bytes t sections =
    let after = with_section (record { id = new_id new sections; bytes = bytes; expiration = expiration; state = Valid; last_update = t }) sections in
    if a.max_sections == 1 then refuse Exist
    else if is_bad_id a new || int_le expiration t || nat_lt a.max_section_size (length bytes) then refuse InvalidParam
    else if is_taken (new_id new sections) sections then refuse Exist
    else if nat_le a.max_sections (length sections) || outgrows a after then refuse NoSpace
    else Ok after

-- the section goes
abbrev pub section_deleted : CreationAttributes → List ℕ → List Section → Result (List Section) Refusal
section_deleted a id sections =
    if a.max_sections == 1 then refuse InvalidParam
    else on_section 0 (section_at id sections) (λ s. Ok (without_section id sections))

-- the section expires at another moment; its last update stays
abbrev pub expiration_set : CreationAttributes → List ℕ → ℤ → ℤ → List Section → Result (List Section) Refusal
expiration_set a id expiration t sections =
    if a.max_sections == 1 then refuse InvalidParam
    else on_section 0 (section_at id sections) (λ s.
    if int_le expiration t then refuse InvalidParam
    else Ok (with_section (record s { expiration = expiration }) sections))

-- the section has these bytes and is valid
abbrev pub overwritten : CreationAttributes → List ℕ → List ℕ → ℤ → List Section → Result (List Section) Refusal
overwritten a id bytes t sections =
    on_section 0 (section_at id sections) (λ s.
    let after = with_section (record s { bytes = bytes; state = Valid; last_update = t }) sections in
    if nat_lt a.max_section_size (length bytes) then refuse InvalidParam
    else if outgrows a after then refuse NoSpace
    else Ok after)

-- bytes with zeros behind them, up to a length
abbrev pub padded : List ℕ → ℕ → List ℕ
padded bytes n = bytes ++ replicate (n - length bytes) 0

-- bytes with data written at an offset, and zeros in a gap before it
abbrev pub written : List ℕ → ℕ → List ℕ → List ℕ
written old offset bytes =
    let end = offset + length bytes in
    take offset (padded old end) ++ bytes ++ drop end (padded old end)

-- one element of a write: the section has its data, and stays valid or corrupted
abbrev pub element_written : CreationAttributes → ℤ → ℕ → IoElement → List Section → Result (List Section) Refusal
element_written a t place e sections =
    on_section place (section_at e.id sections) (λ s.
    let after = with_section (record s { bytes = written s.bytes e.offset e.bytes; last_update = t }) sections in
    if nat_lt a.max_section_size (e.offset + length e.bytes) then refuse_at place InvalidParam
    else if outgrows a after then refuse_at place NoSpace
    else Ok after)

-- where the section stands that the first element goes to, 0 where there is no element or no such section
abbrev pub first_place : List IoElement → List Section → ℕ
first_place [] sections = 0
first_place (e ∷ elements) sections = unwrap_or (place_of e.id sections) 0

-- the elements in order, each over the sections that the earlier ones left
abbrev pub elements_written : CreationAttributes → ℤ → ℕ → List IoElement → List Section → Result (List Section) Refusal
elements_written a t place [] sections = Ok sections
elements_written a t place (e ∷ elements) sections = and_then (element_written a t place e sections) (elements_written a t (place + 1) elements)

-- the sections after an update at a moment, or its refusal
abbrev pub outcome : CreationAttributes → Update → ℤ → List Section → Result (List Section) Refusal
outcome a (updates.Write elements) t sections = elements_written a t 0 elements (present t sections)
outcome a (updates.Overwrite id bytes) t sections = overwritten a id bytes t (present t sections)
outcome a (updates.Create new expiration bytes) t sections = section_created a new expiration bytes t (present t sections)
outcome a (updates.Delete id) t sections = section_deleted a id (present t sections)
outcome a (updates.SetExpiration id expiration) t sections = expiration_set a id expiration t (present t sections)
outcome a updates.Nothing t sections = Ok (present t sections)
