-- Worked examples of the definitions on sections, updates and reads, each by computation. A state has a
-- name where the next example goes on from it.
use Rattle.std.proofs.Common.{◌≡◌, ℕ, List, [], ◌∷◌, ◌++◌, replicate, pos, Some, None, Ok, codes, refl}
use Rattle.ckpt_types.specs.declared.ais_error.AisError.TheVariants.{Exist, InvalidParam, NoSpace, NotExist}
use Rattle.ckpt_types.specs.declared.attributes.CreationAttributes.{CreationAttributes}
use Rattle.ckpt_types.specs.declared.sections.Choice.{Choice}
use Rattle.ckpt_types.specs.declared.sections.SectionState.TheVariants as states
use Rattle.ckpt_types.specs.declared.update.IoElement.{IoElement}
use Rattle.ckpt_types.specs.declared.update.NewId.TheVariants.{Given, Generated}
use Rattle.ckpt_types.specs.declared.update.ReadElement.{ReadElement}
use Rattle.ckpt_types.specs.declared.update.Update.{Update}
use Rattle.ckpt_types.specs.declared.update.Update.TheVariants as updates
use Rattle.ckpt_types.specs.Limits.{wr_all_replicas, end_of_time, sections_any, sections_corrupted, sections_forever, sections_geq_expiration_time, sections_leq_expiration_time}
use Rattle.ckpt_types.specs.Reads.{chosen, description, given, read, status}
use Rattle.ckpt_types.specs.Sections.{Section, opening, earliest_expiration}
use Rattle.ckpt_types.specs.Updates.{generated_id, outcome, refuse, refuse_at}

-- ---- the words of the examples

-- a checkpoint of so many bytes, sections, and bytes in a section, with identifiers of up to 8 bytes
abbrev checkpoint : ℕ → ℕ → ℕ → CreationAttributes
checkpoint size sections each = record { creation_flags = wr_all_replicas; checkpoint_size = size; retention_duration = pos 0; max_sections = sections; max_section_size = each; max_section_id_size = 8 }

-- a valid section that never expires, last updated at moment 0
abbrev plain_section : List ℕ → List ℕ → Section
plain_section id bytes = record { id = id; bytes = bytes; expiration = end_of_time; state = states.Valid; last_update = pos 0 }

abbrev updated_at : ℕ → Section → Section
updated_at t s = record s { last_update = pos t }

abbrev expires_at : ℕ → Section → Section
expires_at t s = record s { expiration = pos t }

abbrev as_corrupted : Section → Section
as_corrupted s = record s { state = states.Corrupted }

-- an element of a write
abbrev put_into : List ℕ → ℕ → List ℕ → IoElement
put_into id offset bytes = record { id = id; offset = offset; bytes = bytes }

-- an element of a read
abbrev from : List ℕ → ℕ → ℕ → ReadElement
from id offset len = record { id = id; offset = offset; len = len }

-- a write of one element
abbrev write : List ℕ → ℕ → List ℕ → Update
write id offset bytes = updates.Write (put_into id offset bytes ∷ [])

-- a new section of that identifier, which never expires
abbrev create : List ℕ → List ℕ → Update
create id bytes = updates.Create (Given id) end_of_time bytes

-- a new section of a generated identifier, which never expires
abbrev create_generated : Update
create_generated = updates.Create Generated end_of_time []

-- the identifier of 8 bytes whose last is n, and the others zeros
abbrev id_of_number : ℕ → List ℕ
id_of_number n = replicate 7 0 ++ n ∷ []

abbrev choice : ℕ → ℕ → Choice
choice which time = record { chosen = which; time = pos time }

-- ---- writes of one section: of at most 8 bytes

abbrev two_of_eight : CreationAttributes
two_of_eight = checkpoint 16 2 8

abbrev with_abc : List Section
with_abc = plain_section (codes "a") (codes "abc") ∷ []

abbrev with_abcd : List Section
with_abcd = plain_section (codes "a") (codes "abcd") ∷ []

abbrev with_a_gap : List Section
with_a_gap = plain_section (codes "a") (codes "abcd" ++ 0 ∷ codes "f") ∷ []

abbrev with_two_gaps : List Section
with_two_gaps = plain_section (codes "a") (codes "abcd" ++ 0 ∷ codes "f" ++ 0 ∷ codes "h") ∷ []

pub create_makes_a_valid_section : outcome two_of_eight (create (codes "a") (codes "abc")) (pos 0) [] ≡ Ok with_abc
create_makes_a_valid_section = refl

pub write_behind_the_end_makes_it_longer : outcome two_of_eight (write (codes "a") 3 (codes "d")) (pos 0) with_abc ≡ Ok with_abcd
write_behind_the_end_makes_it_longer = refl

pub gap_is_zeros : outcome two_of_eight (write (codes "a") 5 (codes "f")) (pos 0) with_abcd ≡ Ok with_a_gap
gap_is_zeros = refl

pub write_up_to_the_section_size : outcome two_of_eight (write (codes "a") 7 (codes "h")) (pos 0) with_a_gap ≡ Ok with_two_gaps
write_up_to_the_section_size = refl

pub no_write_past_the_section_size : outcome two_of_eight (write (codes "a") 8 (codes "i")) (pos 0) with_two_gaps ≡ refuse_at 0 InvalidParam
no_write_past_the_section_size = refl

-- ---- reads

pub read_stops_at_the_end : read (from (codes "a") 0 16 ∷ []) (pos 0) with_two_gaps ≡ Ok ((codes "abcd" ++ 0 ∷ codes "f" ++ 0 ∷ codes "h") ∷ [])
read_stops_at_the_end = refl

pub read_at_the_end_is_empty : read (from (codes "a") 8 1 ∷ []) (pos 0) with_two_gaps ≡ Ok ([] ∷ [])
read_at_the_end_is_empty = refl

pub read_past_the_end_is_refused : read (from (codes "a") 9 1 ∷ []) (pos 0) with_two_gaps ≡ refuse_at 0 InvalidParam
read_past_the_end_is_refused = refl

-- ---- vectors

abbrev with_two : List Section
with_two = plain_section (codes "a") (codes "aa") ∷ plain_section (codes "b") (codes "bb") ∷ []

pub refused_vector_names_its_element : outcome two_of_eight (updates.Write (put_into (codes "a") 0 (codes "X") ∷ put_into (codes "b") 0 (codes "Y") ∷ put_into (codes "c") 0 (codes "Z") ∷ [])) (pos 0) with_two
    ≡ refuse_at 2 NotExist
refused_vector_names_its_element = refl

pub first_refused_element_is_named : outcome two_of_eight (updates.Write (put_into (codes "a") 0 (codes "X") ∷ put_into (codes "b") 8 (codes "Y") ∷ put_into (codes "c") 0 (codes "Z") ∷ [])) (pos 0) with_two
    ≡ refuse_at 1 InvalidParam
first_refused_element_is_named = refl

pub read_gives_a_piece_for_each_element : read (from (codes "a") 0 2 ∷ from (codes "b") 0 2 ∷ []) (pos 0) with_two ≡ Ok (codes "aa" ∷ codes "bb" ∷ [])
read_gives_a_piece_for_each_element = refl

pub refused_read_names_its_element : read (from (codes "a") 0 2 ∷ from (codes "c") 0 2 ∷ []) (pos 0) with_two ≡ refuse_at 1 NotExist
refused_read_names_its_element = refl

pub elements_go_in_order : outcome two_of_eight (updates.Write (put_into (codes "a") 0 (codes "abcd") ∷ put_into (codes "a") 2 (codes "xy") ∷ [])) (pos 0) (plain_section (codes "a") [] ∷ [])
    ≡ Ok (plain_section (codes "a") (codes "abxy") ∷ [])
elements_go_in_order = refl

-- ---- space: 10 bytes in 2 sections of at most 8

abbrev ten_bytes : CreationAttributes
ten_bytes = checkpoint 10 2 8

abbrev with_eight_bytes : List Section
with_eight_bytes = plain_section (codes "a") (codes "12345678") ∷ []

abbrev with_ten_bytes : List Section
with_ten_bytes = plain_section (codes "a") (codes "12345678") ∷ plain_section (codes "b") (codes "12") ∷ []

pub just_fits : outcome ten_bytes (create (codes "b") (codes "12")) (pos 0) with_eight_bytes ≡ Ok with_ten_bytes
just_fits = refl

pub create_has_no_space_where_one_byte_too_many : outcome ten_bytes (create (codes "b") (codes "123")) (pos 0) with_eight_bytes ≡ refuse NoSpace
create_has_no_space_where_one_byte_too_many = refl

pub write_has_no_space_where_one_byte_too_many : outcome ten_bytes (write (codes "b") 2 (codes "3")) (pos 0) with_ten_bytes ≡ refuse_at 0 NoSpace
write_has_no_space_where_one_byte_too_many = refl

pub overwrite_has_no_space_where_one_byte_too_many : outcome ten_bytes (updates.Overwrite (codes "b") (codes "123")) (pos 0) with_ten_bytes ≡ refuse NoSpace
overwrite_has_no_space_where_one_byte_too_many = refl

-- ---- the default section: 4 bytes in 1 section of at most 8

abbrev four_bytes : CreationAttributes
four_bytes = checkpoint 4 1 8

abbrev with_four_bytes : List Section
with_four_bytes = plain_section [] (codes "abcd") ∷ []

pub checkpoint_of_one_section_begins_with_it : opening four_bytes (pos 0) ≡ plain_section [] [] ∷ []
checkpoint_of_one_section_begins_with_it = refl

pub checkpoint_of_two_sections_begins_with_none : opening two_of_eight (pos 0) ≡ []
checkpoint_of_two_sections_begins_with_none = refl

pub default_section_fills_up : outcome four_bytes (write [] 0 (codes "abcd")) (pos 0) (opening four_bytes (pos 0)) ≡ Ok with_four_bytes
default_section_fills_up = refl

pub default_section_outgrows_its_checkpoint : outcome four_bytes (write [] 4 (codes "e")) (pos 0) with_four_bytes ≡ refuse_at 0 NoSpace
default_section_outgrows_its_checkpoint = refl

-- the section's own limit is tried before that of the checkpoint
pub section_size_comes_before_space : outcome four_bytes (write [] 8 (codes "f")) (pos 0) with_four_bytes ≡ refuse_at 0 InvalidParam
section_size_comes_before_space = refl

pub default_section_only-create : outcome four_bytes (create (codes "a") []) (pos 0) with_four_bytes ≡ refuse Exist
default_section_only-create = refl

pub default_section_only-delete : outcome four_bytes (updates.Delete []) (pos 0) with_four_bytes ≡ refuse InvalidParam
default_section_only-delete = refl

pub default_section_only-expire : outcome four_bytes (updates.SetExpiration [] end_of_time) (pos 0) with_four_bytes ≡ refuse InvalidParam
default_section_only-expire = refl

-- ---- expiration

abbrev expiring : List Section
expiring = updated_at 10 (expires_at 20 (plain_section (codes "a") (codes "x"))) ∷ []

abbrev expiring_and_y : List Section
expiring_and_y = updated_at 10 (expires_at 20 (plain_section (codes "a") (codes "x"))) ∷ updated_at 10 (plain_section (codes "b") (codes "y")) ∷ []

pub expiration_must_be_above_the_moment : outcome two_of_eight (updates.Create (Given (codes "a")) (pos 10) []) (pos 10) [] ≡ refuse InvalidParam
expiration_must_be_above_the_moment = refl

pub section_is_made_with_its_expiration : outcome two_of_eight (updates.Create (Given (codes "a")) (pos 20) (codes "x")) (pos 10) [] ≡ Ok expiring
section_is_made_with_its_expiration = refl

pub as_many_sections_as_declared : outcome two_of_eight (create (codes "b") (codes "y")) (pos 10) expiring ≡ Ok expiring_and_y
as_many_sections_as_declared = refl

pub no_space_for_one_section_too_many : outcome two_of_eight (create (codes "c") (codes "z")) (pos 10) expiring_and_y ≡ refuse NoSpace
no_space_for_one_section_too_many = refl

pub section_is_there_until_it_expires : read (from (codes "a") 0 1 ∷ []) (pos 19) expiring_and_y ≡ Ok (codes "x" ∷ [])
section_is_there_until_it_expires = refl

pub expired_section_can_not_be_read : read (from (codes "a") 0 1 ∷ []) (pos 20) expiring_and_y ≡ refuse_at 0 NotExist
expired_section_can_not_be_read = refl

pub expired_section_does_not_count : outcome two_of_eight (create (codes "c") (codes "z")) (pos 20) expiring_and_y
    ≡ Ok (updated_at 10 (plain_section (codes "b") (codes "y")) ∷ updated_at 20 (plain_section (codes "c") (codes "z")) ∷ [])
expired_section_does_not_count = refl

pub new_expiration_leaves_the_last_update : outcome two_of_eight (updates.SetExpiration (codes "a") (pos 30)) (pos 15) expiring ≡ Ok (updated_at 10 (expires_at 30 (plain_section (codes "a") (codes "x"))) ∷ [])
new_expiration_leaves_the_last_update = refl

pub new_expiration_must_be_above_the_moment : outcome two_of_eight (updates.SetExpiration (codes "a") (pos 15)) (pos 15) expiring ≡ refuse InvalidParam
new_expiration_must_be_above_the_moment = refl

-- ---- generated identifiers: 64 bytes in 4 sections of at most 16

abbrev four_of_sixteen : CreationAttributes
four_of_sixteen = checkpoint 64 4 16

pub first_generated_number_is_1 : outcome four_of_sixteen create_generated (pos 0) [] ≡ Ok (plain_section (id_of_number 1) [] ∷ [])
first_generated_number_is_1 = refl

pub next_generated_number_is_2 : outcome four_of_sixteen create_generated (pos 0) (plain_section (id_of_number 1) [] ∷ []) ≡ Ok (plain_section (id_of_number 1) [] ∷ plain_section (id_of_number 2) [] ∷ [])
next_generated_number_is_2 = refl

pub number_1_is_deleted : outcome four_of_sixteen (updates.Delete (id_of_number 1)) (pos 0) (plain_section (id_of_number 1) [] ∷ plain_section (id_of_number 2) [] ∷ []) ≡ Ok (plain_section (id_of_number 2) [] ∷ [])
number_1_is_deleted = refl

pub generated_number_is_used_again_after_a_delete : outcome four_of_sixteen create_generated (pos 0) (plain_section (id_of_number 2) [] ∷ []) ≡ Ok (plain_section (id_of_number 1) [] ∷ plain_section (id_of_number 2) [] ∷ [])
generated_number_is_used_again_after_a_delete = refl

pub generated_is_least : generated_id (plain_section (id_of_number 2) [] ∷ []) ≡ id_of_number 1
generated_is_least = refl

pub generated_needs_room_for_8_bytes : outcome (record two_of_eight { max_section_id_size = 7 }) create_generated (pos 0) [] ≡ refuse InvalidParam
generated_needs_room_for_8_bytes = refl

-- ---- iterations and status: 64 bytes in 8 sections of at most 8

abbrev eight_of_eight : CreationAttributes
eight_of_eight = checkpoint 64 8 8

abbrev any : Choice
any = choice sections_any 0

abbrev four : List Section
four = plain_section (codes "a") [] ∷ plain_section (codes "b") [] ∷ plain_section (codes "c") [] ∷ plain_section (codes "d") [] ∷ []

abbrev without_b : List Section
without_b = plain_section (codes "a") [] ∷ plain_section (codes "c") [] ∷ plain_section (codes "d") [] ∷ []

abbrev without_b_and_c : List Section
without_b_and_c = plain_section (codes "a") [] ∷ plain_section (codes "d") [] ∷ []

abbrev with_c_again : List Section
with_c_again = plain_section (codes "a") [] ∷ plain_section (codes "c") (codes "q") ∷ plain_section (codes "d") [] ∷ []

abbrev with_e_too : List Section
with_e_too = plain_section (codes "a") [] ∷ plain_section (codes "c") (codes "q") ∷ plain_section (codes "d") [] ∷ plain_section (codes "e") [] ∷ []

pub iteration_in_byte_order : chosen any (pos 0) four ≡ codes "a" ∷ codes "b" ∷ codes "c" ∷ codes "d" ∷ []
iteration_in_byte_order = refl

pub iteration_gives_the_first : given (codes "a" ∷ codes "b" ∷ codes "c" ∷ codes "d" ∷ []) (pos 0) four ≡ Some (record { section = plain_section (codes "a") []; rest = codes "b" ∷ codes "c" ∷ codes "d" ∷ [] })
iteration_gives_the_first = refl

pub deleted_section_goes : outcome eight_of_eight (updates.Delete (codes "b")) (pos 0) four ≡ Ok without_b
deleted_section_goes = refl

pub next_deleted_section_goes : outcome eight_of_eight (updates.Delete (codes "c")) (pos 0) without_b ≡ Ok without_b_and_c
next_deleted_section_goes = refl

pub section_is_not_deleted_twice : outcome eight_of_eight (updates.Delete (codes "b")) (pos 0) without_b ≡ refuse NotExist
section_is_not_deleted_twice = refl

pub prefix_comes_first : outcome eight_of_eight (create (codes "ab") []) (pos 0) without_b_and_c ≡ Ok (plain_section (codes "a") [] ∷ plain_section (codes "ab") [] ∷ plain_section (codes "d") [] ∷ [])
prefix_comes_first = refl

pub deleted_section_can_be_made_again : outcome eight_of_eight (create (codes "c") (codes "q")) (pos 0) without_b_and_c ≡ Ok with_c_again
deleted_section_can_be_made_again = refl

pub section_is_not_made_twice : outcome eight_of_eight (create (codes "c") []) (pos 0) with_c_again ≡ refuse Exist
section_is_not_made_twice = refl

pub last_section_is_made_behind : outcome eight_of_eight (create (codes "e") []) (pos 0) with_c_again ≡ Ok with_e_too
last_section_is_made_behind = refl

-- the section that was made again before its turn is given
pub iteration_skips_a_deleted_section : given (codes "b" ∷ codes "c" ∷ codes "d" ∷ []) (pos 0) with_e_too ≡ Some (record { section = plain_section (codes "c") (codes "q"); rest = codes "d" ∷ [] })
iteration_skips_a_deleted_section = refl

pub iteration_gives_the_last : given (codes "d" ∷ []) (pos 0) with_e_too ≡ Some (record { section = plain_section (codes "d") []; rest = [] })
iteration_gives_the_last = refl

pub identifier_that_was_not_kept_is_not_given : given [] (pos 0) with_e_too ≡ None
identifier_that_was_not_kept_is_not_given = refl

pub description_tells_the_size : description (plain_section (codes "c") (codes "q")) ≡ record { id = codes "c"; expiration = end_of_time; size = 1; state = states.Valid; last_update = pos 0 }
description_tells_the_size = refl

pub status_counts_present_sections : status two_of_eight (pos 19) expiring_and_y ≡ record { attributes = two_of_eight; number_of_sections = 2; memory_used = 2 }
status_counts_present_sections = refl

pub status_leaves_out_an_expired_section : status two_of_eight (pos 20) expiring_and_y ≡ record { attributes = two_of_eight; number_of_sections = 1; memory_used = 1 }
status_leaves_out_an_expired_section = refl

pub earliest_expiration_is_the_least : earliest_expiration expiring_and_y ≡ pos 20
earliest_expiration_is_the_least = refl

pub nothing_expires_where_there_is_no_section : earliest_expiration [] ≡ end_of_time
nothing_expires_where_there_is_no_section = refl

pub forever_chooses_what_never_expires : chosen (choice sections_forever 0) (pos 10) expiring_and_y ≡ codes "b" ∷ []
forever_chooses_what_never_expires = refl

pub leq_chooses_what_expires_at_the_time : chosen (choice sections_leq_expiration_time 20) (pos 10) expiring_and_y ≡ codes "a" ∷ []
leq_chooses_what_expires_at_the_time = refl

pub geq_leaves_out_what_expires_before_the_time : chosen (choice sections_geq_expiration_time 21) (pos 10) expiring_and_y ≡ codes "b" ∷ []
geq_leaves_out_what_expires_before_the_time = refl

-- ---- corrupted sections

abbrev both_corrupted : List Section
both_corrupted = as_corrupted (plain_section (codes "a") (codes "XXaa")) ∷ as_corrupted (plain_section (codes "b") (codes "bbbb")) ∷ []

abbrev one_valid_again : List Section
one_valid_again = plain_section (codes "a") (codes "cc") ∷ as_corrupted (plain_section (codes "b") (codes "bbbb")) ∷ []

abbrev corrupted_ones : Choice
corrupted_ones = choice sections_corrupted 0

pub iteration_finds_the_corrupted : chosen corrupted_ones (pos 0) both_corrupted ≡ codes "a" ∷ codes "b" ∷ []
iteration_finds_the_corrupted = refl

pub a_corrupted_section_can_be_read : read (from (codes "a") 0 4 ∷ from (codes "b") 0 4 ∷ []) (pos 0) both_corrupted ≡ Ok (codes "XXaa" ∷ codes "bbbb" ∷ [])
a_corrupted_section_can_be_read = refl

pub a_corrupted_section_stays_corrupted_by_a_write : outcome four_of_sixteen (write (codes "b") 0 (codes "Y")) (pos 0) both_corrupted
    ≡ Ok (as_corrupted (plain_section (codes "a") (codes "XXaa")) ∷ as_corrupted (plain_section (codes "b") (codes "Ybbb")) ∷ [])
a_corrupted_section_stays_corrupted_by_a_write = refl

pub a_corrupted_section_is_valid_after_an_overwrite : outcome four_of_sixteen (updates.Overwrite (codes "a") (codes "cc")) (pos 0) both_corrupted ≡ Ok one_valid_again
a_corrupted_section_is_valid_after_an_overwrite = refl

pub iteration_finds_the_one_that_is_still_corrupted : chosen corrupted_ones (pos 0) one_valid_again ≡ codes "b" ∷ []
iteration_finds_the_one_that_is_still_corrupted = refl
