-- What is told of the updates that have no vector, in terms of sizes and of bytes together.
use Rattle.std.proofs.Common.{◌≡◌, ℕ, ◌+◌, ◌<◌, ◌≤◌, List, length, Some, Ok, Err, true, false, nat_lt, nat_le, ◌||◌, ◌≢◌, int_lt, int_le, if◌then◌else◌, ℤ, ◌∙◌, refl, arith}
use Rattle.std.proofs.lemmas.Bool.{lt-ltb, le-ltb, ne_eqb}
use Rattle.std.proofs.lemmas.Int.{ints}
use Rattle.ckpt_types.specs.declared.ais_error.AisError.TheVariants.{InvalidParam, NoSpace}
use Rattle.ckpt_types.specs.declared.attributes.CreationAttributes.{CreationAttributes}
use Rattle.ckpt_types.specs.declared.sections.SectionState.TheVariants.{Valid}
use Rattle.ckpt_types.specs.declared.update.NewId.{NewId}
use Rattle.ckpt_types.specs.Sections.{Section, is_taken, Rises, with_section, memory_used, size_of}
use Rattle.ckpt_types.specs.Updates.{refuse, new_id, is_bad_id, section_created, overwritten}
use Rattle.update_rules.specs.Present.{size_at}
use Rattle.update_rules.specs.Told.{check_answer}
use Rattle.update_rules.proofs.Sizes.{size_at-Some, two_conditions, nat_lt_alike, memory_used-with_section_free, memory_used-in_place}

-- what is told of a creation that only want of room can refuse
pub check_answer-section_created : (a : CreationAttributes) (new : NewId) (expiration : ℤ) (bytes : List ℕ) (t : ℤ) (sections : List Section) → Rises sections → a.max_sections ≢ 1 → is_bad_id a new ≡ false → int_lt t expiration ≡ true → length bytes ≤ a.max_section_size → is_taken (new_id new sections) sections ≡ false → check_answer (section_created a new expiration bytes t sections) ≡ (if nat_le a.max_sections (length sections) || nat_lt a.checkpoint_size (memory_used sections + length bytes) then Err (record { error = NoSpace; index = 0 }) else Ok tt)
check_answer-section_created a new expiration bytes t sections rises many good later short free =
    let not_now : int_le expiration t ≡ false = grind (arith, ints) in
    let placed : Section = record { id = new_id new sections; bytes = bytes; expiration = expiration; state = Valid; last_update = t } in
    rw (ne_eqb a.max_sections 1 many, good, not_now, le-ltb a.max_section_size (length bytes) short, free, memory_used-with_section_free placed sections rises free)
    (elim (nat_le a.max_sections (length sections) || nat_lt a.checkpoint_size (memory_used sections + length bytes)) as (λ b. check_answer (if b then refuse NoSpace else Ok (with_section placed sections)) ≡ (if b then Err (record { error = NoSpace; index = 0 }) else Ok tt)) [ true ↦ refl | false ↦ refl ])

-- what is told of an overwrite, by the size that the section has
check_answer-overwritten : (a : CreationAttributes) (id bytes : List ℕ) (t : ℤ) (sections : List Section) (size : ℕ) → Rises sections → size_at id sections ≡ Some size → check_answer (overwritten a id bytes t sections) ≡ (if nat_lt a.max_section_size (length bytes) then Err (record { error = InvalidParam; index = 0 }) else if nat_lt (a.checkpoint_size + size) (memory_used sections + length bytes) then Err (record { error = NoSpace; index = 0 }) else Ok tt)
check_answer-overwritten a id bytes t sections size rises is =
    let (s, there, has) = size_at-Some id sections size is in
    let placed : Section = record s { bytes = bytes; state = Valid; last_update = t } in
    let sum : memory_used (with_section placed sections) + size_of s ≡ memory_used sections + length bytes = memory_used-in_place placed s id sections rises there refl in
    let test : nat_lt a.checkpoint_size (memory_used (with_section placed sections)) ≡ nat_lt (a.checkpoint_size + size) (memory_used sections + length bytes) = nat_lt_alike _ _ _ _ (λ h. omega arith) (λ h. omega arith) in
    rw (there, test) (two_conditions check_answer (nat_lt a.max_section_size (length bytes)) (nat_lt (a.checkpoint_size + size) (memory_used sections + length bytes)) _ _ _)

-- an overwrite with too many bytes beside the others' is refused
pub check_answer-overwritten-full : (a : CreationAttributes) (id bytes : List ℕ) (t : ℤ) (sections : List Section) (size used : ℕ) → Rises sections → size_at id sections ≡ Some size → used ≡ memory_used sections → length bytes ≤ a.max_section_size → a.checkpoint_size + size < used + length bytes → check_answer (overwritten a id bytes t sections) ≡ Err (record { error = NoSpace; index = 0 })
check_answer-overwritten-full a id bytes t sections size used rises is sum short full =
    check_answer-overwritten a id bytes t sections size rises is
    ∙ rw (le-ltb a.max_section_size (length bytes) short, lt-ltb (a.checkpoint_size + size) (memory_used sections + length bytes) (omega arith)) refl

-- an overwrite with few enough bytes is not refused
pub check_answer-overwritten-fine : (a : CreationAttributes) (id bytes : List ℕ) (t : ℤ) (sections : List Section) (size used : ℕ) → Rises sections → size_at id sections ≡ Some size → used ≡ memory_used sections → length bytes ≤ a.max_section_size → used + length bytes ≤ a.checkpoint_size + size → check_answer (overwritten a id bytes t sections) ≡ Ok tt
check_answer-overwritten-fine a id bytes t sections size used rises is sum short fits =
    check_answer-overwritten a id bytes t sections size rises is
    ∙ rw (le-ltb a.max_section_size (length bytes) short, le-ltb (a.checkpoint_size + size) (memory_used sections + length bytes) (omega arith)) refl
