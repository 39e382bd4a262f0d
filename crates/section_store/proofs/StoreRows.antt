-- Worked examples of what a store holds, each by computation: what has expired makes room, and its number is made again. More
-- rows on updates stand in Rows of ckpt_types.
use Rattle.std.proofs.Common.{◌≡◌, ℕ, List, [], ◌∷◌, map, codes, pos, Result, Ok, refl}
use Rattle.std.specs.Prelude.{ℤ}
use Rattle.ckpt_types.specs.declared.attributes.CreationAttributes.{CreationAttributes}
use Rattle.ckpt_types.specs.declared.sections.SectionState.{SectionState}
use Rattle.ckpt_types.specs.declared.sections.SectionState.TheVariants.{Valid, Corrupted}
use Rattle.ckpt_types.specs.declared.update.NewId.TheVariants.{Generated}
use Rattle.ckpt_types.specs.declared.update.Update.TheVariants as updates
use Rattle.ckpt_types.specs.Limits.{wr_all_replicas, end_of_time}
use Rattle.ckpt_types.specs.Reads.{read, status}
use Rattle.ckpt_types.specs.Sections.{Section, opening, present}
use Rattle.ckpt_types.specs.Updates.{Refusal, generated_id, outcome}
use Rattle.section_store.specs.Planned.{planned}
use Rattle.section_store.specs.StoreState.{with_corrupted}

-- ---- the words of the examples

-- 8 bytes in so many sections of at most so many bytes
abbrev eight_in : ℕ → ℕ → CreationAttributes
eight_in sections each = record { creation_flags = wr_all_replicas; checkpoint_size = 8; retention_duration = pos 0; max_sections = sections; max_section_size = each; max_section_id_size = 8 }

-- the identifier of 8 bytes that the service makes of a number
abbrev numbered : ℕ → List ℕ
numbered n = 0 ∷ 0 ∷ 0 ∷ 0 ∷ 0 ∷ 0 ∷ 0 ∷ n ∷ []

-- ---- a gap before what is written is zeros, and a corrupted section keeps all but its state

abbrev default_section : SectionState → Section
default_section state = record { id = []; bytes = 0 ∷ 0 ∷ codes "ab"; expiration = end_of_time; state = state; last_update = pos 7 }

pub gap_is_zeros : outcome (eight_in 1 8) (updates.Write (record { id = []; offset = 2; bytes = codes "ab" } ∷ [])) (pos 7) (opening (eight_in 1 8) (pos 5)) ≡ Ok (default_section Valid ∷ [])
gap_is_zeros = refl

pub gap_can_be_read : read (record { id = []; offset = 1; len = 2 } ∷ []) (pos 7) (default_section Valid ∷ []) ≡ Ok ((0 ∷ 97 ∷ []) ∷ [])
gap_can_be_read = refl

pub corrupted_alone : with_corrupted [] (default_section Valid ∷ []) ≡ default_section Corrupted ∷ []
corrupted_alone = refl

-- ---- two sections of at most 4 bytes, made at 6: the second until 10

abbrev made_at : ℕ → ℤ → List ℕ → ℕ → Section
made_at n expiration bytes t = record { id = numbered n; bytes = bytes; expiration = expiration; state = Valid; last_update = pos t }

abbrev second_until_10 : List Section
second_until_10 = made_at 1 end_of_time (codes "abcd") 6 ∷ made_at 2 (pos 10) (codes "efgh") 6 ∷ []

-- what a creation makes, under an identifier that the service makes
abbrev creates : ℤ → List ℕ → ℤ → List Section → Result (List Section) Refusal
creates expiration bytes t sections = outcome (eight_in 2 4) (updates.Create Generated expiration bytes) t sections

pub both_are_numbered : creates (pos 10) (codes "efgh") (pos 6) (made_at 1 end_of_time (codes "abcd") 6 ∷ []) ≡ Ok second_until_10
both_are_numbered = refl

-- at 9 and at 10
pub expired_section_is_not_told : map (λ t. status (eight_in 2 4) t second_until_10) (pos 9 ∷ pos 10 ∷ [])
    ≡ record { attributes = eight_in 2 4; number_of_sections = 2; memory_used = 8 } ∷ record { attributes = eight_in 2 4; number_of_sections = 1; memory_used = 4 } ∷ []
expired_section_is_not_told = refl

pub what_has_expired_makes_room : creates end_of_time (codes "ijkl") (pos 10) second_until_10 ≡ Ok (made_at 1 end_of_time (codes "abcd") 6 ∷ made_at 2 end_of_time (codes "ijkl") 10 ∷ [])
what_has_expired_makes_room = refl

-- ---- the least free number: the first section is there until 10

abbrev first_until_10 : List Section
first_until_10 = made_at 1 (pos 10) (codes "abcd") 6 ∷ []

-- the identifier that the service makes for a new section at a moment
abbrev next_id : List Section → ℤ → List ℕ
next_id sections t = generated_id (present t sections)

-- at 9 and at 10
pub expired_number_is_made_again : map (next_id first_until_10) (pos 9 ∷ pos 10 ∷ []) ≡ numbered 2 ∷ numbered 1 ∷ []
expired_number_is_made_again = refl

-- a second one is there; then the first goes
abbrev with_second : List Section
with_second = made_at 1 (pos 10) (codes "abcd") 6 ∷ made_at 2 end_of_time (codes "efgh") 6 ∷ []

pub third_number : next_id with_second (pos 9) ≡ numbered 3
third_number = refl

pub first_goes : outcome (eight_in 2 4) (updates.Delete (numbered 1)) (pos 9) with_second ≡ Ok (made_at 2 end_of_time (codes "efgh") 6 ∷ [])
first_goes = refl

pub deleted_number_is_made_again : next_id (made_at 2 end_of_time (codes "efgh") 6 ∷ []) (pos 9) ≡ numbered 1
deleted_number_is_made_again = refl

-- ---- the plan of a write of two elements to the second section, at 10, where the first is absent: it has place 0 then

abbrev absent_at_10 : List Section
absent_at_10 = made_at 1 (pos 10) (codes "ab") 6 ∷ made_at 2 end_of_time (codes "ef") 6 ∷ []

pub both_elements_are_planned : planned (eight_in 2 4) (updates.Write (record { id = numbered 2; offset = 3; bytes = codes "h" } ∷ record { id = numbered 2; offset = 0; bytes = codes "e" } ∷ [])) (pos 10) absent_at_10
    ≡ record { place = 0; size = 4 } ∷ record { place = 0; size = 4 } ∷ []
both_elements_are_planned = refl

-- at 9 it has place 1, and another write of one byte leaves its size
pub one_element_is_planned : planned (eight_in 2 4) (updates.Write (record { id = numbered 2; offset = 0; bytes = codes "e" } ∷ [])) (pos 9) absent_at_10 ≡ record { place = 1; size = 2 } ∷ []
one_element_is_planned = refl
