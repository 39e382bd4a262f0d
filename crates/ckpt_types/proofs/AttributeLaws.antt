-- What the check of creation attributes means: which attributes pass it, which creation flags pass, and
-- what open flags stand for.
use Rattle.std.proofs.Common.{◌≡◌, ◌↔◌, ℕ, ◌+◌, ◌≤◌, List, [], ◌∷◌, All, Contains, Bool, true, false, not, ◌||◌, ◌==◌, eqb, nat_lt, if◌then◌else◌, pos, int_lt, Ok, Err, refl, sym, ap, ◌∙◌, inl, inr, arith}
use Rattle.std.specs.List.{list_any}
use Rattle.std.proofs.lemmas.Bool.{or_parts, or_from, ltb-false, eqb-true, eqb-false, le-ltb, ne_eqb, not-false, cases_Bool, cond-true, cond-false, agree_below_at}
use Rattle.std.proofs.lemmas.Int.{ints}
use Rattle.std.proofs.lemmas.Map.Views.{Contains-from_any, exact_unsigned_eq}
use Rattle.std.proofs.lemmas.List.Elements.{All-contains, All-from_recursion}
use Rattle.ckpt_types.specs.declared.ais_error.AisError.TheVariants.{BadFlags}
use Rattle.ckpt_types.specs.declared.open_flags.OpenFlags.{OpenFlags}
use Rattle.ckpt_types.specs.declared.attributes.CreationAttributes.{CreationAttributes}
use Rattle.ckpt_types.specs.Limits.{checkpoint_read, checkpoint_write, checkpoint_create, open_flags_all, wr_all_replicas, wr_active_replica, wr_active_replica_weak, checkpoint_collocated, creation_flags_all, declared_bytes_max, sections_max, declared_id_max}
use Rattle.ckpt_types.specs.Attributes.{IsWellFormed, is_malformed, has_flag, has_malformed_flags, has_malformed_sizes, declared_bytes, has_bad_open_flags, open_flags_of}

-- attributes that pass the check keep to the rules
pub IsWellFormed-from_check : (a : CreationAttributes) → is_malformed a ≡ false → IsWellFormed a
IsWellFormed-from_check a passes =
    let all = or_parts (has_malformed_flags a.creation_flags || has_malformed_sizes a) (int_lt a.retention_duration (pos 0)) passes in
    let front = or_parts (has_malformed_flags a.creation_flags) (has_malformed_sizes a) all.0 in
    let id_bytes = or_parts _ (nat_lt declared_id_max a.max_section_id_size) front.1 in
    let sections = or_parts _ (nat_lt sections_max a.max_sections) id_bytes.0 in
    let bytes = or_parts _ (nat_lt declared_bytes_max (declared_bytes a)) sections.0 in
    let cover = or_parts _ (nat_lt (declared_bytes a) a.checkpoint_size) bytes.0 in
    let no_id_bytes = or_parts _ (a.max_section_id_size == 0) cover.0 in
    let no_section_bytes = or_parts _ (a.max_section_size == 0) no_id_bytes.0 in
    let nothing = or_parts (a.checkpoint_size == 0) (a.max_sections == 0) no_section_bytes.0 in
    record {
      flags = front.0;
      some_bytes = omega (arith, eqb-false _ _ nothing.0);
      some_sections = omega (arith, eqb-false _ _ nothing.1);
      some_section_bytes = omega (arith, eqb-false _ _ no_section_bytes.1);
      some_id_bytes = omega (arith, eqb-false _ _ no_id_bytes.1);
      covered = ltb-false _ _ cover.1;
      few_bytes = ltb-false _ _ bytes.1;
      few_sections = ltb-false _ _ sections.1;
      few_id_bytes = ltb-false _ _ id_bytes.1;
      retention = grind (arith, ints);
    }

-- attributes that keep to the rules pass the check
pub is_malformed-from_IsWellFormed : (a : CreationAttributes) → IsWellFormed a → is_malformed a ≡ false
is_malformed-from_IsWellFormed a keeps =
    let retention : int_lt a.retention_duration (pos 0) ≡ false = grind (arith, ints, keeps.retention) in
    let nothing : ((a.checkpoint_size == 0) || (a.max_sections == 0)) ≡ false = or_from _ _ (ne_eqb a.checkpoint_size 0 (λ e. omega arith)) (ne_eqb a.max_sections 0 (λ e. omega arith)) in
    let no_section_bytes = or_from _ (a.max_section_size == 0) nothing (ne_eqb a.max_section_size 0 (λ e. omega arith)) in
    let no_id_bytes = or_from _ (a.max_section_id_size == 0) no_section_bytes (ne_eqb a.max_section_id_size 0 (λ e. omega arith)) in
    let cover = or_from _ (nat_lt (declared_bytes a) a.checkpoint_size) no_id_bytes (le-ltb _ _ keeps.covered) in
    let bytes = or_from _ (nat_lt declared_bytes_max (declared_bytes a)) cover (le-ltb _ _ keeps.few_bytes) in
    let sections = or_from _ (nat_lt sections_max a.max_sections) bytes (le-ltb _ _ keeps.few_sections) in
    let sizes : has_malformed_sizes a ≡ false = or_from _ (nat_lt declared_id_max a.max_section_id_size) sections (le-ltb _ _ keeps.few_id_bytes) in
    or_from _ _ (or_from _ _ keeps.flags sizes) retention

-- ---- creation flags

-- the creation flags that pass: one update option, and collocated with any option but all replicas
abbrev pub passing_flags : List ℕ
passing_flags = wr_all_replicas ∷ wr_active_replica ∷ wr_active_replica_weak ∷ (wr_active_replica + checkpoint_collocated) ∷ (wr_active_replica_weak + checkpoint_collocated) ∷ []

-- the creation flags that pass, as numbers
pub passing_flags-are : passing_flags ≡ 1 ∷ 2 ∷ 4 ∷ 10 ∷ 12 ∷ []
passing_flags-are = refl

-- the flags are among those that pass
abbrev is_passing : ℕ → Bool
is_passing flags = list_any (eqb flags) passing_flags

-- creation flags that pass are among these
pub passing_flags-only : (flags : ℕ) → has_malformed_flags flags ≡ false → Contains passing_flags flags
passing_flags-only flags passes =
    let known : nat_lt creation_flags_all flags ≡ false = (or_parts _ _ (or_parts _ _ passes).0).0 in
    let few : flags ≤ creation_flags_all = ltb-false _ _ known in
    let agree : has_malformed_flags flags ≡ not (is_passing flags) = agree_below_at has_malformed_flags (λ n. not (is_passing n)) 16 flags refl (omega arith) in
    Contains-from_any {eq = eqb} exact_unsigned_eq flags passing_flags (not-false (is_passing flags) (sym agree ∙ passes))

-- each of these creation flags passes
pub has_malformed_flags-passing : (flags : ℕ) → Contains passing_flags flags → has_malformed_flags flags ≡ false
has_malformed_flags-passing flags among =
    let all : All (λ n. has_malformed_flags n ≡ false) passing_flags = All-from_recursion (λ n. has_malformed_flags n ≡ false) passing_flags (refl, (refl, (refl, (refl, (refl, tt))))) in
    All-contains (λ n. has_malformed_flags n ≡ false) passing_flags flags all among

-- ---- open flags

-- the bits of what a checkpoint is opened for
abbrev pub bits_of : OpenFlags → ℕ
bits_of flags = (if flags.read then checkpoint_read else 0) + (if flags.write then checkpoint_write else 0) + (if flags.create then checkpoint_create else 0)

-- the flags that the bits name
abbrev flags_named : ℕ → OpenFlags
flags_named bits = record { read = has_flag bits checkpoint_read; write = has_flag bits checkpoint_write; create = has_flag bits checkpoint_create }

-- bits of known flags are the bits of the flags that they name
bits_of-named : (bits : ℕ) → bits ≤ open_flags_all → bits ≡ bits_of (flags_named bits)
bits_of-named bits few = eqb-true _ _ (agree_below_at (λ n. n == bits_of (flags_named n)) (λ n. true) 8 bits refl (omega arith))

-- flags that are told from bits tell the bits
bits_from_flags : (bits : ℕ) (flags : OpenFlags) → open_flags_of bits ≡ Ok flags → (1 ≤ bits) × (bits ≤ open_flags_all) × (bits ≡ bits_of flags)
bits_from_flags bits flags told =
    elim (cases_Bool (has_bad_open_flags bits)) [
      | inl bad ↦ let refused : Err BadFlags ≡ Ok flags = sym (cond-true (has_bad_open_flags bits) (Err BadFlags) (Ok (flags_named bits)) bad) ∙ told in absurd (cc)
      | inr good ↦
          let parts = or_parts (bits == 0) (nat_lt open_flags_all bits) good in
          let few : bits ≤ open_flags_all = ltb-false _ _ parts.1 in
          let some : bits ≡ 0 → ⊥ = eqb-false _ _ parts.0 in
          let done : Ok (flags_named bits) ≡ Ok flags = sym (cond-false (has_bad_open_flags bits) (Err BadFlags) (Ok (flags_named bits)) good) ∙ told in
          let same : flags_named bits ≡ flags = cc in
          (omega arith, few, bits_of-named bits few ∙ ap bits_of same)
    ]

-- the bits of some flags tell the flags
flags_from_bits : (read write create : Bool) → 1 ≤ bits_of (record { read = read; write = write; create = create }) → open_flags_of (bits_of (record { read = read; write = write; create = create })) ≡ Ok (record { read = read; write = write; create = create })
flags_from_bits true true true some = refl
flags_from_bits true true false some = refl
flags_from_bits true false true some = refl
flags_from_bits true false false some = refl
flags_from_bits false true true some = refl
flags_from_bits false true false some = refl
flags_from_bits false false true some = refl
flags_from_bits false false false some = absurd (omega arith)

-- open flags are told from exactly their bits
pub open_flags_of-Ok : (bits : ℕ) (flags : OpenFlags) → (open_flags_of bits ≡ Ok flags) ↔ ((1 ≤ bits) × (bits ≤ open_flags_all) × (bits ≡ bits_of flags))
open_flags_of-Ok bits flags =
    (bits_from_flags bits flags, λ told. let some : 1 ≤ bits_of flags = omega arith in rw told.2 (flags_from_bits flags.read flags.write flags.create some))
