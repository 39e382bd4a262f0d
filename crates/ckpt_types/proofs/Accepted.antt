-- What is so of an update that is not refused, and what it leaves.
use Rattle.std.proofs.Common.{◌≡◌, ◌≢◌, ℕ, ◌+◌, ◌<◌, ◌≤◌, List, length, Option, Some, None, Result, Ok, Err, Bool, true, false, ◌||◌, ◌==◌, nat_lt, if◌then◌else◌, ℤ, int_le, subst, refl}
use Rattle.std.proofs.lemmas.Bool.{or_parts, ltb-false, leb-false, eqb-false}
use Rattle.ckpt_types.specs.declared.attributes.CreationAttributes.{CreationAttributes}
use Rattle.ckpt_types.specs.declared.sections.SectionState.TheVariants.{Valid}
use Rattle.ckpt_types.specs.declared.update.IoElement.{IoElement}
use Rattle.ckpt_types.specs.declared.update.NewId.{NewId}
use Rattle.ckpt_types.specs.Sections.{Section, section_at, is_taken, with_section, without_section, memory_used}
use Rattle.ckpt_types.specs.Updates.{Refusal, on_section, and_then, outgrows, new_id, is_bad_id, section_created, section_deleted, expiration_set, overwritten, written, element_written}

-- ---- what went on where there is an answer

-- the test did not refuse
pub if-Ok : {A : Type 0} (test : Bool) (refusal : Refusal) (r : Result A Refusal) (after : A) → (if test then Err refusal else r) ≡ Ok after → (test ≡ false) × (r ≡ Ok after)
if-Ok true refusal r after e = absurd (cc e)
if-Ok false refusal r after e = (refl, e)

-- one value is the other where both are the answer
pub accepted_same : {A : Type 0} (x y : A) → ◌≡◌ {A = Result A Refusal} (Ok x) (Ok y) → x ≡ y
accepted_same x y e = cc e

-- the last test did not refuse, and this is the answer
pub if-Ok_last : {A : Type 0} (test : Bool) (refusal : Refusal) (x after : A) → (if test then Err refusal else Ok x) ≡ Ok after → (test ≡ false) × (x ≡ after)
if-Ok_last true refusal x after e = absurd (cc e)
if-Ok_last false refusal x after e = (refl, accepted_same x after e)

-- what does not outgrow keeps to the declared bytes
within_at : (a : CreationAttributes) (placed after : List Section) → outgrows a placed ≡ false → placed ≡ after → memory_used after ≤ a.checkpoint_size
within_at a placed after fit left = subst (λ sections. memory_used sections ≤ a.checkpoint_size) left (ltb-false a.checkpoint_size (memory_used placed) fit)

-- the section was there
pub on_section-Ok : {A : Type 0} (place : ℕ) (found : Option Section) (go_on : Section → Result A Refusal) (after : A) → on_section place found go_on ≡ Ok after → (s : Section) × (found ≡ Some s) × (go_on s ≡ Ok after)
on_section-Ok place None go_on after e = absurd (cc e)
on_section-Ok place (Some s) go_on after e = (s, refl, e)

-- the first step was not refused
pub and_then-Ok : {A B : Type 0} (first : Result A Refusal) (go_on : A → Result B Refusal) (after : B) → and_then first go_on ≡ Ok after → (x : A) × (first ≡ Ok x) × (go_on x ≡ Ok after)
and_then-Ok (Ok x) go_on after e = (x, refl, e)
and_then-Ok (Err refusal) go_on after e = absurd (cc e)

-- ---- the updates

-- a section was made
pub record IsCreated (a : CreationAttributes) (new : NewId) (expiration : ℤ) (bytes : List ℕ) (t : ℤ) (sections after : List Section) : Type 0 where
  pub many : a.max_sections ≢ 1
  pub good_id : is_bad_id a new ≡ false
  pub later : int_le expiration t ≡ false
  pub small : length bytes ≤ a.max_section_size
  pub free : is_taken (new_id new sections) sections ≡ false
  pub room : length sections < a.max_sections
  pub within : memory_used after ≤ a.checkpoint_size
  pub left : with_section (record { id = new_id new sections; bytes = bytes; expiration = expiration; state = Valid; last_update = t }) sections ≡ after

-- a section was taken away
pub record IsDeleted (a : CreationAttributes) (id : List ℕ) (sections after : List Section) : Type 0 where
  pub many : a.max_sections ≢ 1
  pub gone : Section
  pub there : section_at id sections ≡ Some gone
  pub left : without_section id sections ≡ after

-- a section was given another expiration
pub record IsExpirationSet (a : CreationAttributes) (id : List ℕ) (expiration t : ℤ) (sections after : List Section) : Type 0 where
  pub many : a.max_sections ≢ 1
  pub was : Section
  pub there : section_at id sections ≡ Some was
  pub later : int_le expiration t ≡ false
  pub left : with_section (record was { expiration = expiration }) sections ≡ after

-- a section was overwritten
pub record IsOverwritten (a : CreationAttributes) (id bytes : List ℕ) (t : ℤ) (sections after : List Section) : Type 0 where
  pub was : Section
  pub there : section_at id sections ≡ Some was
  pub small : length bytes ≤ a.max_section_size
  pub within : memory_used after ≤ a.checkpoint_size
  pub left : with_section (record was { bytes = bytes; state = Valid; last_update = t }) sections ≡ after

-- an element was written
pub record IsElementWritten (a : CreationAttributes) (t : ℤ) (e : IoElement) (sections after : List Section) : Type 0 where
  pub was : Section
  pub there : section_at e.id sections ≡ Some was
  pub small : e.offset + length e.bytes ≤ a.max_section_size
  pub within : memory_used after ≤ a.checkpoint_size
  pub left : with_section (record was { bytes = written was.bytes e.offset e.bytes; last_update = t }) sections ≡ after

-- a creation that is not refused
pub section_created-Ok : (a : CreationAttributes) (new : NewId) (expiration : ℤ) (bytes : List ℕ) (t : ℤ) (sections after : List Section) → section_created a new expiration bytes t sections ≡ Ok after → IsCreated a new expiration bytes t sections after
section_created-Ok a new expiration bytes t sections after e =
    let (many, e1) = if-Ok (a.max_sections == 1) _ _ after e in
    let (given, e2) = if-Ok (is_bad_id a new || int_le expiration t || nat_lt a.max_section_size (length bytes)) _ _ after e1 in
    let (free, e3) = if-Ok (is_taken (new_id new sections) sections) _ _ after e2 in
    let (room, left) = if-Ok_last _ _ _ after e3 in
    let (id_later, small) = or_parts _ _ given in
    let (good_id, later) = or_parts _ _ id_later in
    let (places, bytes_fit) = or_parts _ _ room in
    record {
      many = eqb-false a.max_sections 1 many;
      good_id = good_id;
      later = later;
      small = ltb-false a.max_section_size (length bytes) small;
      free = free;
      room = leb-false a.max_sections (length sections) places;
      within = within_at a _ after bytes_fit left;
      left = left;
    }

-- a deletion that is not refused
pub section_deleted-Ok : (a : CreationAttributes) (id : List ℕ) (sections after : List Section) → section_deleted a id sections ≡ Ok after → IsDeleted a id sections after
section_deleted-Ok a id sections after e =
    let (many, e1) = if-Ok (a.max_sections == 1) _ _ after e in
    let (gone, there, e2) = on_section-Ok 0 (section_at id sections) _ after e1 in
    record { many = eqb-false a.max_sections 1 many; gone = gone; there = there; left = accepted_same _ after e2 }

-- another expiration that is not refused
pub expiration_set-Ok : (a : CreationAttributes) (id : List ℕ) (expiration t : ℤ) (sections after : List Section) → expiration_set a id expiration t sections ≡ Ok after → IsExpirationSet a id expiration t sections after
expiration_set-Ok a id expiration t sections after e =
    let (many, e1) = if-Ok (a.max_sections == 1) _ _ after e in
    let (was, there, e2) = on_section-Ok 0 (section_at id sections) _ after e1 in
    let (later, left) = if-Ok_last (int_le expiration t) _ _ after e2 in
    record { many = eqb-false a.max_sections 1 many; was = was; there = there; later = later; left = left }

-- an overwrite that is not refused
pub overwritten-Ok : (a : CreationAttributes) (id bytes : List ℕ) (t : ℤ) (sections after : List Section) → overwritten a id bytes t sections ≡ Ok after → IsOverwritten a id bytes t sections after
overwritten-Ok a id bytes t sections after e =
    let (was, there, e1) = on_section-Ok 0 (section_at id sections) _ after e in
    let (small, e2) = if-Ok (nat_lt a.max_section_size (length bytes)) _ _ after e1 in
    let (bytes_fit, left) = if-Ok_last _ _ _ after e2 in
    record { was = was; there = there; small = ltb-false a.max_section_size (length bytes) small; within = within_at a _ after bytes_fit left; left = left }

-- a written element that is not refused
pub element_written-Ok : (a : CreationAttributes) (t : ℤ) (place : ℕ) (e : IoElement) (sections after : List Section) → element_written a t place e sections ≡ Ok after → IsElementWritten a t e sections after
element_written-Ok a t place e sections after is =
    let (was, there, e1) = on_section-Ok place (section_at e.id sections) _ after is in
    let (small, e2) = if-Ok (nat_lt a.max_section_size (e.offset + length e.bytes)) _ _ after e1 in
    let (bytes_fit, left) = if-Ok_last _ _ _ after e2 in
    record { was = was; there = there; small = ltb-false a.max_section_size (e.offset + length e.bytes) small; within = within_at a _ after bytes_fit left; left = left }
