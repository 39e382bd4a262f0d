-- What creation attributes and open flags may be: the rules of the standard, and this profile's limits.
use Rattle.std.specs.Prelude.{◌≡◌, ℕ, ◌+◌, ◌*◌, ◌≤◌, Bool, false, not, ◌&&◌, ◌||◌, ◌==◌, nat_lt, if◌then◌else◌, pos, ◌≤ℤ◌, int_lt, bit_and, Result, Ok, Err}
use Rattle.ckpt_types.specs.declared.ais_error.AisError.{AisError}
use Rattle.ckpt_types.specs.declared.ais_error.AisError.TheVariants.{InvalidParam, BadFlags}
use Rattle.ckpt_types.specs.declared.attributes.CreationAttributes.{CreationAttributes}
use Rattle.ckpt_types.specs.declared.open_flags.OpenFlags.{OpenFlags}
use Rattle.ckpt_types.specs.Limits.{wr_all_replicas, wr_active_replica, wr_active_replica_weak, checkpoint_collocated, creation_flags_all, declared_bytes_max, sections_max, declared_id_max, checkpoint_read, checkpoint_write, checkpoint_create, open_flags_all}

-- the flag is among the flags
abbrev pub has_flag : ℕ → ℕ → Bool
has_flag flags flag = not (bit_and flags flag == 0)

-- how often the flag is among the flags: once, or not at all
abbrev pub times_named : ℕ → ℕ → ℕ
times_named flags flag = if has_flag flags flag then 1 else 0

-- how many of the three update options the flags name
abbrev pub options_named : ℕ → ℕ
options_named flags = times_named flags wr_all_replicas + times_named flags wr_active_replica + times_named flags wr_active_replica_weak

-- an unknown flag, not just one update option, or collocated with all replicas
abbrev pub has_malformed_flags : ℕ → Bool
has_malformed_flags flags =
    nat_lt creation_flags_all flags
    || not (options_named flags == 1)
    || (has_flag flags wr_all_replicas && has_flag flags checkpoint_collocated)

-- the most bytes that the declared sections can have
abbrev pub declared_bytes : CreationAttributes → ℕ
declared_bytes a = a.max_sections * a.max_section_size

-- a size or a number of 0, a checkpoint larger than its sections, or a limit of the service passed
abbrev pub has_malformed_sizes : CreationAttributes → Bool
has_malformed_sizes a =
    (a.checkpoint_size == 0)
    || (a.max_sections == 0)
    || (a.max_section_size == 0)
    || (a.max_section_id_size == 0)
    || nat_lt (declared_bytes a) a.checkpoint_size
    || nat_lt declared_bytes_max (declared_bytes a)
    || nat_lt sections_max a.max_sections
    || nat_lt declared_id_max a.max_section_id_size

-- attributes that no checkpoint may be made with: for their flags, their sizes, or a retention below 0
abbrev pub is_malformed : CreationAttributes → Bool
is_malformed a = has_malformed_flags a.creation_flags || has_malformed_sizes a || int_lt a.retention_duration (pos 0)

-- what the check of the attributes answers
abbrev pub checked : CreationAttributes → Result (Unit {0}) AisError
checked a = if is_malformed a then Err InvalidParam else Ok tt

-- the attributes are the same, the retention left aside
abbrev pub same_but_retention : CreationAttributes → CreationAttributes → Bool
same_but_retention a b =
    (a.creation_flags == b.creation_flags)
    && (a.checkpoint_size == b.checkpoint_size)
    && (a.max_sections == b.max_sections)
    && (a.max_section_size == b.max_section_size)
    && (a.max_section_id_size == b.max_section_id_size)

-- an update is on all replicas before it is answered; else on the active alone
abbrev pub is_all : CreationAttributes → Bool
is_all a = a.creation_flags == wr_all_replicas

-- what attributes that pass the check keep to
pub record IsWellFormed (a : CreationAttributes) : Type 0 where
  pub flags : has_malformed_flags a.creation_flags ≡ false
  pub some_bytes : 1 ≤ a.checkpoint_size
  pub some_sections : 1 ≤ a.max_sections
  pub some_section_bytes : 1 ≤ a.max_section_size
  pub some_id_bytes : 1 ≤ a.max_section_id_size
  pub covered : a.checkpoint_size ≤ declared_bytes a
  pub few_bytes : declared_bytes a ≤ declared_bytes_max
  pub few_sections : a.max_sections ≤ sections_max
  pub few_id_bytes : a.max_section_id_size ≤ declared_id_max
  pub retention : pos 0 ≤ℤ a.retention_duration

-- no flag, or an unknown one
abbrev pub has_bad_open_flags : ℕ → Bool
has_bad_open_flags bits = (bits == 0) || nat_lt open_flags_all bits

-- what is opened for, or that the flags are bad
abbrev pub open_flags_of : ℕ → Result OpenFlags AisError
open_flags_of bits =
    if has_bad_open_flags bits then Err BadFlags
    else Ok (record { read = has_flag bits checkpoint_read; write = has_flag bits checkpoint_write; create = has_flag bits checkpoint_create })
