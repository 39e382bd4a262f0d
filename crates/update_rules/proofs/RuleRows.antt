-- Worked examples of what a check answers, each by computation. More rows on what an update makes of the sections, and on
-- what refuses it, stand in Rows of ckpt_types, and are not told again here.
use Rattle.std.proofs.Common.{◌≡◌, ℕ, List, [], ◌∷◌, codes, pos, Result, Ok, Err, refl}
use Rattle.std.specs.Prelude.{ℤ}
use Rattle.ckpt_types.specs.declared.ais_error.AisError.{AisError}
use Rattle.ckpt_types.specs.declared.ais_error.AisError.TheVariants.{Exist, InvalidParam, NoSpace, NotExist}
use Rattle.ckpt_types.specs.declared.attributes.CreationAttributes.{CreationAttributes}
use Rattle.ckpt_types.specs.declared.sections.SectionState.TheVariants.{Valid}
use Rattle.ckpt_types.specs.declared.update.IoElement.{IoElement}
use Rattle.ckpt_types.specs.declared.update.NewId.TheVariants.{Given}
use Rattle.ckpt_types.specs.declared.update.ReadElement.{ReadElement}
use Rattle.ckpt_types.specs.declared.update.Update.{Update}
use Rattle.ckpt_types.specs.declared.update.Update.TheVariants as updates
use Rattle.ckpt_types.specs.Limits.{wr_all_replicas, end_of_time}
use Rattle.ckpt_types.specs.Reads.{read}
use Rattle.ckpt_types.specs.Sections.{Section}
use Rattle.ckpt_types.specs.Updates.{outcome}
use Rattle.update_rules.specs.declared.refused.Refused.{Refused}
use Rattle.update_rules.specs.Told.{check_answer}

-- ---- the words of the examples

-- two sections of at most 8 bytes, so many bytes together
abbrev two_of_8 : ℕ → CreationAttributes
two_of_8 size = record { creation_flags = wr_all_replicas; checkpoint_size = size; retention_duration = pos 0; max_sections = 2; max_section_size = 8; max_section_id_size = 8 }

-- a valid section that expires at a moment
abbrev until : ℤ → List ℕ → List ℕ → Section
until t id bytes = record { id = id; bytes = bytes; expiration = t; state = Valid; last_update = pos 0 }

-- an element of a write, and of a read
abbrev element : List ℕ → ℕ → List ℕ → IoElement
element id offset bytes = record { id = id; offset = offset; bytes = bytes }

abbrev from : List ℕ → ℕ → ReadElement
from id offset = record { id = id; offset = offset; len = 16 }

-- a new section
abbrev create : List ℕ → ℤ → List ℕ → Update
create id expiration bytes = updates.Create (Given id) expiration bytes

-- what the checks answer at a moment
abbrev checks : CreationAttributes → List Section → ℤ → Update → Result (Unit {0}) Refused
checks a sections t update = check_answer (outcome a update t sections)

abbrev checks_read : List Section → ℤ → List ReadElement → Result (Unit {0}) Refused
checks_read sections t elements = check_answer (read elements t sections)

-- an error, with an index
abbrev refused : AisError → ℕ → Result (Unit {0}) Refused
refused error index = Err (record { error = error; index = index })

-- ---- writes: of 10 bytes together, of which `b` has three

abbrev with_123 : List Section
with_123 = until end_of_time (codes "a") [] ∷ until end_of_time (codes "b") (codes "123") ∷ []

pub elements_fit_together : checks (two_of_8 10) with_123 (pos 0) (updates.Write (element (codes "a") 0 (codes "12345") ∷ element (codes "a") 5 (codes "67") ∷ [])) ≡ Ok tt
elements_fit_together = refl

-- what the first element takes is gone for the second
pub second_element_has_no_space : checks (two_of_8 10) with_123 (pos 0) (updates.Write (element (codes "a") 0 (codes "1234567") ∷ element (codes "a") 7 (codes "8") ∷ [])) ≡ refused NoSpace 1
second_element_has_no_space = refl

-- ---- overwrites: of 10 bytes together, all of which are there, two of them until 30

abbrev full_until_30 : List Section
full_until_30 = until end_of_time (codes "a") (codes "12345678") ∷ until (pos 30) (codes "b") (codes "12") ∷ []

pub as_many_bytes_fit : checks (two_of_8 10) full_until_30 (pos 29) (updates.Overwrite (codes "b") (codes "xy")) ≡ Ok tt
as_many_bytes_fit = refl

pub one_more_has_no_space : checks (two_of_8 10) full_until_30 (pos 29) (updates.Overwrite (codes "b") (codes "123")) ≡ refused NoSpace 0
one_more_has_no_space = refl

pub section_has_a_size_of_its_own : checks (two_of_8 10) full_until_30 (pos 29) (updates.Overwrite (codes "a") (codes "123456789")) ≡ refused InvalidParam 0
section_has_a_size_of_its_own = refl

pub expired_section_is_not_overwritten : checks (two_of_8 10) full_until_30 (pos 30) (updates.Overwrite (codes "b") (codes "xy")) ≡ refused NotExist 0
expired_section_is_not_overwritten = refl

-- ---- creations: two sections are there at 10, and one at 20

abbrev two_until_20 : List Section
two_until_20 = until (pos 20) (codes "a") (codes "x") ∷ until end_of_time (codes "b") (codes "y") ∷ []

pub empty_identifier_is_for_the_default_section : checks (two_of_8 16) [] (pos 10) (create [] (pos 20) (codes "x")) ≡ refused InvalidParam 0
empty_identifier_is_for_the_default_section = refl

-- both come before the number of sections
pub expiration_comes_before_space : checks (two_of_8 16) two_until_20 (pos 10) (create (codes "c") (pos 10) (codes "z")) ≡ refused InvalidParam 0
expiration_comes_before_space = refl

pub identifier_comes_before_space : checks (two_of_8 16) two_until_20 (pos 10) (create (codes "a") (pos 20) (codes "x")) ≡ refused Exist 0
identifier_comes_before_space = refl

pub no_third_section : checks (two_of_8 16) two_until_20 (pos 10) (create (codes "c") end_of_time (codes "z")) ≡ refused NoSpace 0
no_third_section = refl

pub what_expires_leaves_its_place : checks (two_of_8 16) two_until_20 (pos 20) (create (codes "c") end_of_time (codes "z")) ≡ Ok tt
what_expires_leaves_its_place = refl

-- ---- other updates, at 19

abbrev one_until_20 : List Section
one_until_20 = until (pos 20) (codes "a") (codes "x") ∷ []

-- existence comes before the expiration
pub expiration_of_what_is_not_there : checks (two_of_8 16) one_until_20 (pos 19) (updates.SetExpiration (codes "b") (pos 19)) ≡ refused NotExist 0
expiration_of_what_is_not_there = refl

pub nothing_is_never_refused : checks (two_of_8 16) one_until_20 (pos 19) updates.Nothing ≡ Ok tt
nothing_is_never_refused = refl

-- ---- reads at 19: of eight bytes that expire at 20

abbrev eight_until_20 : List Section
eight_until_20 = until (pos 20) (codes "a") (codes "abcdefgh") ∷ until end_of_time (codes "b") [] ∷ []

pub read_up_to_the_end : checks_read eight_until_20 (pos 19) (from (codes "a") 0 ∷ from (codes "a") 8 ∷ []) ≡ Ok tt
read_up_to_the_end = refl

pub read_past_the_end_has_its_index : checks_read eight_until_20 (pos 19) (from (codes "a") 0 ∷ from (codes "a") 9 ∷ []) ≡ refused InvalidParam 1
read_past_the_end_has_its_index = refl

pub first_refused_read_is_told : checks_read eight_until_20 (pos 19) (from (codes "c") 0 ∷ from (codes "a") 9 ∷ []) ≡ refused NotExist 0
first_refused_read_is_told = refl

pub expired_section_is_not_read : checks_read eight_until_20 (pos 20) (from (codes "a") 0 ∷ []) ≡ refused NotExist 0
expired_section_is_not_read = refl
