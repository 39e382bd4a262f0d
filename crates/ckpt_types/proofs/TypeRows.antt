-- Creation attributes, open flags, identifiers, names and codes, each row by computation.
use Rattle.std.proofs.Common.{◌≡◌, refl, ℕ, ◌^◌, ◌-◌, ◌+◌, ◌≤◌, true, false, List, [], ◌∷◌, map, replicate, Ok, Err, Less, codes, pos, negsuc, arith}
use Rattle.ckpt_types.specs.declared.ais_error.AisError.{AisError}
use Rattle.ckpt_types.specs.declared.ais_error.AisError.TheVariants as errors
use Rattle.ckpt_types.specs.declared.attributes.CreationAttributes.{CreationAttributes}
use Rattle.ckpt_types.specs.AisError.{code_of, error_text}
use Rattle.ckpt_types.specs.Attributes.{checked, same_but_retention, open_flags_of}
use Rattle.ckpt_types.specs.Limits.{wr_all_replicas, wr_active_replica, wr_active_replica_weak, checkpoint_collocated, name_max, section_id_max}
use Rattle.ckpt_types.specs.Sections.{id_cmp}

-- ---- creation attributes

-- 16 bytes in 2 sections of at most 8, on all replicas
abbrev plain : CreationAttributes
plain = record { creation_flags = wr_all_replicas; checkpoint_size = 16; retention_duration = pos 0; max_sections = 2; max_section_size = 8; max_section_id_size = 8 }

-- these attributes pass their check
abbrev Pass : CreationAttributes → Type 0
Pass a = checked a ≡ Ok tt

-- these attributes are refused
abbrev Fail : CreationAttributes → Type 0
Fail a = checked a ≡ Err errors.InvalidParam

abbrev flagged : ℕ → CreationAttributes
flagged flags = record plain { creation_flags = flags }

well_formed : Pass plain
well_formed = refl

active : Pass (flagged wr_active_replica)
active = refl

weak_and_collocated : Pass (flagged (wr_active_replica_weak + checkpoint_collocated))
weak_and_collocated = refl

no_option : Fail (flagged checkpoint_collocated)
no_option = refl

two_options : Fail (flagged (wr_all_replicas + wr_active_replica))
two_options = refl

an_unknown_flag : Fail (flagged (wr_active_replica + 16))
an_unknown_flag = refl

all_and_collocated : Fail (flagged (wr_all_replicas + checkpoint_collocated))
all_and_collocated = refl

-- these attributes, with other sizes of a checkpoint and of identifiers
abbrev sized : ℕ → ℕ → CreationAttributes
sized size id_size = record plain { checkpoint_size = size; max_section_id_size = id_size }

-- with other numbers and sizes of sections
abbrev with_sections : ℕ → ℕ → CreationAttributes
with_sections count size = record plain { max_sections = count; max_section_size = size }

no_bytes : Fail (sized 0 8)
no_bytes = refl

no_sections : Fail (with_sections 0 8)
no_sections = refl

one_byte_too_many : Fail (sized 17 8)
one_byte_too_many = refl

a_negative_retention : Fail (record plain { retention_duration = negsuc 0 })
a_negative_retention = refl

identifiers_of_64_bytes : Pass (sized 16 64)
identifiers_of_64_bytes = refl

identifiers_of_65_bytes : Fail (sized 16 65)
identifiers_of_65_bytes = refl

a_mebibyte_in_1024_sections : Pass (with_sections 1024 1024)
a_mebibyte_in_1024_sections = refl

one_section_too_many : Fail (with_sections 1025 8)
one_section_too_many = refl

a_product_of_96_bits : Fail (with_sections 1024 (2 ^ 64 - 1))
a_product_of_96_bits = refl

another_retention_is_left_aside : same_but_retention plain (record plain { retention_duration = pos 9 }) ≡ true
another_retention_is_left_aside = refl

another_size_is_not : same_but_retention plain (sized 15 8) ≡ false
another_size_is_not = refl

-- ---- open flags

no_open_flag : open_flags_of 0 ≡ Err errors.BadFlags
no_open_flag = refl

an_unknown_open_flag : open_flags_of 8 ≡ Err errors.BadFlags
an_unknown_open_flag = refl

open_flags_2_and_4 : open_flags_of 6 ≡ Ok (record { read = false; write = true; create = true })
open_flags_2_and_4 = refl

-- ---- identifiers and names

-- identifiers are in the order of their bytes, a proper prefix first
identifiers_in_order : map (λ (pair : List ℕ × List ℕ). id_cmp pair.0 pair.1) (([], codes "a") ∷ (codes "a", codes "ab") ∷ (codes "ab", codes "b") ∷ []) ≡ replicate 3 Less
identifiers_in_order = refl

an_identifier_of_256_bytes : 256 ≤ section_id_max
an_identifier_of_256_bytes = omega arith

no_identifier_of_257_bytes : (257 ≤ section_id_max) → ⊥
no_identifier_of_257_bytes few = omega (arith, few)

-- what a name is asked for, by its length
abbrev FitsName : ℕ → Type 0
FitsName len = (1 ≤ len) × (len ≤ name_max)

no_name_of_0_bytes : FitsName 0 → ⊥
no_name_of_0_bytes fits = let some = fits.0 in omega (arith, some)

a_name_of_1_byte : FitsName 1
a_name_of_1_byte = (omega arith, omega arith)

a_name_of_256_bytes : FitsName 256
a_name_of_256_bytes = (omega arith, omega arith)

no_name_of_257_bytes : FitsName 257 → ⊥
no_name_of_257_bytes fits = let few = fits.1 in omega (arith, few)

-- ---- codes

-- the standard's number and word
abbrev told : AisError → ℕ × List ℕ
told error = (code_of error, error_text error)

codes_are_those_of_the_standard : map told (errors.Ok ∷ errors.TryAgain ∷ errors.InvalidParam ∷ errors.NotExist ∷ errors.NoSpace ∷ errors.NoResources ∷ errors.NoSections ∷ [])
    ≡ (1, codes "OK") ∷ (6, codes "TRY_AGAIN") ∷ (7, codes "INVALID_PARAM") ∷ (12, codes "NOT_EXIST") ∷ (15, codes "NO_SPACE") ∷ (18, codes "NO_RESOURCES") ∷ (27, codes "NO_SECTIONS") ∷ []
codes_are_those_of_the_standard = refl
