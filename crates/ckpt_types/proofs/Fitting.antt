-- What an update leaves: the identifiers rise still, and the sections still keep to what was declared.
use Rattle.std.proofs.Common.{◌≡◌, ℕ, ◌+◌, ◌≤◌, max, List, [], ◌∷◌, length, filter, Some, Ok, is_some, Bool, true, false, cond, not, ◌==◌, ℤ, sym, ap, ◌∙◌, subst, refl, arith}
use Rattle.std.proofs.lemmas.Bool.{ltb-false, or_parts, eqb-true}
use Rattle.std.proofs.lemmas.List.{length-append, length-take, length-drop, length-replicate}
use Rattle.std.proofs.lemmas.List.Elements.{All-nil, All-cons, All-filter}
use Rattle.ckpt_types.specs.declared.attributes.CreationAttributes.{CreationAttributes}
use Rattle.ckpt_types.specs.declared.sections.SectionState.TheVariants.{Valid}
use Rattle.ckpt_types.specs.declared.update.IoElement.{IoElement}
use Rattle.ckpt_types.specs.declared.update.NewId.{NewId}
use Rattle.ckpt_types.specs.declared.update.NewId.TheVariants.{Given, Generated}
use Rattle.ckpt_types.specs.declared.update.Update.{Update}
use Rattle.ckpt_types.specs.declared.update.Update.TheVariants as updates
use Rattle.ckpt_types.specs.Sections.{Section, Rises, Fits, section_at, with_section, without_section, is_present, present, opening, default_section, memory_used, size_of, is_named}
use Rattle.ckpt_types.specs.Updates.{new_id, is_bad_id, written, element_written, elements_written, outcome}
use Rattle.ckpt_types.proofs.Accepted.{IsCreated, IsExpirationSet, IsOverwritten, IsElementWritten, and_then-Ok, section_created-Ok, section_deleted-Ok, expiration_set-Ok, overwritten-Ok, element_written-Ok, accepted_same}
use Rattle.ckpt_types.proofs.Numbering.{length-generated_id}
use Rattle.ckpt_types.proofs.Presence.{section_at-named, All-section_at, Rises-present, memory_used-filter-le}
use Rattle.ckpt_types.proofs.Placing.{Rises-with_section, Rises-without_section, All-with_section, length-with_section_taken, length-with_section_free, memory_used-with_section_over}
use Rattle.ckpt_types.proofs.Lists.{length-filter_le}

-- ---- the order

-- what the elements of a write leave rises
pub Rises-elements_written : (a : CreationAttributes) (t : ℤ) (place : ℕ) (elements : List IoElement) (sections after : List Section) → Rises sections → elements_written a t place elements sections ≡ Ok after → Rises after
Rises-elements_written a t place [] sections after rises is = subst Rises (accepted_same sections after is) rises
Rises-elements_written a t place (e ∷ elements) sections after rises is =
    let (next, first, rest) = and_then-Ok (element_written a t place e sections) (elements_written a t (place + 1) elements) after is in
    let here = element_written-Ok a t place e sections next first in
    Rises-elements_written a t (place + 1) elements next after (subst Rises here.left (Rises-with_section _ sections rises)) rest

-- what an update leaves rises
pub Rises-outcome : (a : CreationAttributes) (u : Update) (t : ℤ) (sections after : List Section) → Rises sections → outcome a u t sections ≡ Ok after → Rises after
Rises-outcome a (updates.Write elements) t sections after rises is = Rises-elements_written a t 0 elements (present t sections) after (Rises-present t sections rises) is
Rises-outcome a (updates.Overwrite id bytes) t sections after rises is =
    let over = overwritten-Ok a id bytes t (present t sections) after is in
    subst Rises over.left (Rises-with_section _ (present t sections) (Rises-present t sections rises))
Rises-outcome a (updates.Create new expiration bytes) t sections after rises is =
    let made = section_created-Ok a new expiration bytes t (present t sections) after is in
    subst Rises made.left (Rises-with_section _ (present t sections) (Rises-present t sections rises))
Rises-outcome a (updates.Delete id) t sections after rises is =
    let gone = section_deleted-Ok a id (present t sections) after is in
    subst Rises gone.left (Rises-without_section id (present t sections) (Rises-present t sections rises))
Rises-outcome a (updates.SetExpiration id expiration) t sections after rises is =
    let put = expiration_set-Ok a id expiration t (present t sections) after is in
    subst Rises put.left (Rises-with_section _ (present t sections) (Rises-present t sections rises))
Rises-outcome a updates.Nothing t sections after rises is = subst Rises (accepted_same (present t sections) after is) (Rises-present t sections rises)

-- what a checkpoint has when it is made rises
pub Rises-opening : (a : CreationAttributes) (made : ℤ) → Rises (opening a made)
Rises-opening a made = elim (a.max_sections == 1) as (λ b. Rises (cond b (default_section made ∷ []) [])) [ true ↦ (tt, tt) | false ↦ tt ]

-- ---- what was declared

-- what keeps to what was declared does still where sections are left out
pub Fits-filter : (a : CreationAttributes) (p : Section → Bool) (sections : List Section) → Fits a sections → Fits a (filter p sections)
Fits-filter a p sections fits =
    record {
      few = omega (arith, length-filter_le p sections, fits.few);
      small = All-filter p (λ s. size_of s ≤ a.max_section_size) sections fits.small;
      named_short = All-filter p (λ s. length s.id ≤ a.max_section_id_size) sections fits.named_short;
      within = omega (arith, memory_used-filter-le p sections, fits.within);
      default_only = λ one. All-filter p (λ s. s.id ≡ []) sections (fits.default_only one);
    }

-- those present keep to what was declared
pub Fits-present : (a : CreationAttributes) (t : ℤ) (sections : List Section) → Fits a sections → Fits a (present t sections)
Fits-present a t sections fits = Fits-filter a (is_present t) sections fits

-- those left where one is taken away keep to what was declared
pub Fits-without_section : (a : CreationAttributes) (id : List ℕ) (sections : List Section) → Fits a sections → Fits a (without_section id sections)
Fits-without_section a id sections fits = Fits-filter a (λ s. not (is_named id s)) sections fits

-- a section in another's place keeps to what was declared, where it is small enough and all have few enough bytes
pub Fits-with_section_over : (a : CreationAttributes) (new was : Section) (sections : List Section) → Rises sections → Fits a sections → section_at new.id sections ≡ Some was → size_of new ≤ a.max_section_size → memory_used (with_section new sections) ≤ a.checkpoint_size → Fits a (with_section new sections)
Fits-with_section_over a new was sections rises fits there small within =
    let named : was.id ≡ new.id = section_at-named new.id sections was there in
    let short : length was.id ≤ a.max_section_id_size = All-section_at (λ s. length s.id ≤ a.max_section_id_size) new.id sections was fits.named_short there in
    record {
      few = rw (length-with_section_taken new sections rises (ap is_some there)) fits.few;
      small = All-with_section (λ s. size_of s ≤ a.max_section_size) new sections small fits.small;
      named_short = All-with_section (λ s. length s.id ≤ a.max_section_id_size) new sections (subst (λ id. length id ≤ a.max_section_id_size) named short) fits.named_short;
      within = within;
      default_only = λ one. All-with_section (λ s. s.id ≡ []) new sections (sym named ∙ All-section_at (λ s. s.id ≡ []) new.id sections was (fits.default_only one) there) (fits.default_only one);
    }

-- a section in the place of the one found keeps to what was declared, told of what is left
Fits-with_section_left : (a : CreationAttributes) (new was : Section) (id : List ℕ) (sections after : List Section) → Rises sections → Fits a sections → section_at id sections ≡ Some was → new.id ≡ was.id → size_of new ≤ a.max_section_size → with_section new sections ≡ after → memory_used after ≤ a.checkpoint_size → Fits a after
Fits-with_section_left a new was id sections after rises fits there same small left within =
    let found : section_at new.id sections ≡ Some was = ap (λ x. section_at x sections) (same ∙ section_at-named id sections was there) ∙ there in
    subst (Fits a) left (Fits-with_section_over a new was sections rises fits found small (subst (λ s. memory_used s ≤ a.checkpoint_size) (sym left) within))

-- the identifier of a new section is as short as was declared
pub length-new_id-le : (a : CreationAttributes) (new : NewId) (sections : List Section) → is_bad_id a new ≡ false → length (new_id new sections) ≤ a.max_section_id_size
length-new_id-le a (Given id) sections good = ltb-false a.max_section_id_size (length id) ((or_parts _ _ good).1)
length-new_id-le a Generated sections good = rw (length-generated_id sections) (ltb-false a.max_section_id_size 8 good)

-- a section more keeps to what was declared
pub Fits-section_created : (a : CreationAttributes) (new : NewId) (expiration : ℤ) (bytes : List ℕ) (t : ℤ) (sections after : List Section) → Rises sections → Fits a sections → IsCreated a new expiration bytes t sections after → Fits a after
Fits-section_created a new expiration bytes t sections after rises fits is =
    let section : Section = record { id = new_id new sections; bytes = bytes; expiration = expiration; state = Valid; last_update = t } in
    let more : length (with_section section sections) ≡ length sections + 1 = length-with_section_free section sections rises is.free in
    let within : memory_used (with_section section sections) ≤ a.checkpoint_size = subst (λ s. memory_used s ≤ a.checkpoint_size) (sym is.left) is.within in
    subst (Fits a) is.left (record {
      few = omega (arith, more, is.room);
      small = All-with_section (λ s. size_of s ≤ a.max_section_size) section sections is.small fits.small;
      named_short = All-with_section (λ s. length s.id ≤ a.max_section_id_size) section sections (length-new_id-le a new sections is.good_id) fits.named_short;
      within = within;
      default_only = λ one. absurd (is.many one);
    })

-- an overwritten section keeps to what was declared
pub Fits-overwritten : (a : CreationAttributes) (id bytes : List ℕ) (t : ℤ) (sections after : List Section) → Rises sections → Fits a sections → IsOverwritten a id bytes t sections after → Fits a after
Fits-overwritten a id bytes t sections after rises fits is =
    let was = is.was in
    Fits-with_section_left a (record was { bytes = bytes; state = Valid; last_update = t }) was id sections after rises fits is.there refl is.small is.left is.within

-- how long the bytes of a section are once others are written into them
pub length-written : (old : List ℕ) (offset : ℕ) (bytes : List ℕ) → length (written old offset bytes) ≡ max (length old) (offset + length bytes)
length-written old offset bytes = simp (length-append, length-take, length-drop, length-replicate) (omega arith)

-- a section into which bytes were written keeps to what was declared
pub Fits-element_written : (a : CreationAttributes) (t : ℤ) (e : IoElement) (sections after : List Section) → Rises sections → Fits a sections → IsElementWritten a t e sections after → Fits a after
Fits-element_written a t e sections after rises fits is =
    let was = is.was in
    let before : size_of was ≤ a.max_section_size = All-section_at (λ s. size_of s ≤ a.max_section_size) e.id sections was fits.small is.there in
    let small : length (written was.bytes e.offset e.bytes) ≤ a.max_section_size = omega (arith, length-written was.bytes e.offset e.bytes, before, is.small) in
    Fits-with_section_left a (record was { bytes = written was.bytes e.offset e.bytes; last_update = t }) was e.id sections after rises fits is.there refl small is.left is.within

-- a section that expires at another moment keeps to what was declared
pub Fits-expiration_set : (a : CreationAttributes) (id : List ℕ) (expiration t : ℤ) (sections after : List Section) → Rises sections → Fits a sections → IsExpirationSet a id expiration t sections after → Fits a after
Fits-expiration_set a id expiration t sections after rises fits is =
    let was = is.was in
    let new : Section = record was { expiration = expiration } in
    let there : section_at new.id sections ≡ Some was = ap (λ x. section_at x sections) (section_at-named id sections was is.there) ∙ is.there in
    let before : size_of was ≤ a.max_section_size = All-section_at (λ s. size_of s ≤ a.max_section_size) id sections was fits.small is.there in
    let same : memory_used (with_section new sections) + size_of was ≡ memory_used sections + size_of was = memory_used-with_section_over new was sections rises there in
    subst (Fits a) is.left (Fits-with_section_over a new was sections rises fits there before (omega (arith, same, fits.within)))

-- what the elements of a write leave keeps to what was declared
pub Fits-elements_written : (a : CreationAttributes) (t : ℤ) (place : ℕ) (elements : List IoElement) (sections after : List Section) → Rises sections → Fits a sections → elements_written a t place elements sections ≡ Ok after → Fits a after
Fits-elements_written a t place [] sections after rises fits is = subst (Fits a) (accepted_same sections after is) fits
Fits-elements_written a t place (e ∷ elements) sections after rises fits is =
    let (next, first, rest) = and_then-Ok (element_written a t place e sections) (elements_written a t (place + 1) elements) after is in
    let here = element_written-Ok a t place e sections next first in
    Fits-elements_written a t (place + 1) elements next after (subst Rises here.left (Rises-with_section _ sections rises)) (Fits-element_written a t e sections next rises fits here) rest

-- what an update leaves keeps to what was declared
pub Fits-outcome : (a : CreationAttributes) (u : Update) (t : ℤ) (sections after : List Section) → Rises sections → Fits a sections → outcome a u t sections ≡ Ok after → Fits a after
Fits-outcome a (updates.Write elements) t sections after rises fits is = Fits-elements_written a t 0 elements (present t sections) after (Rises-present t sections rises) (Fits-present a t sections fits) is
Fits-outcome a (updates.Overwrite id bytes) t sections after rises fits is = Fits-overwritten a id bytes t (present t sections) after (Rises-present t sections rises) (Fits-present a t sections fits) (overwritten-Ok a id bytes t (present t sections) after is)
Fits-outcome a (updates.Create new expiration bytes) t sections after rises fits is = Fits-section_created a new expiration bytes t (present t sections) after (Rises-present t sections rises) (Fits-present a t sections fits) (section_created-Ok a new expiration bytes t (present t sections) after is)
Fits-outcome a (updates.Delete id) t sections after rises fits is = subst (Fits a) (section_deleted-Ok a id (present t sections) after is).left (Fits-without_section a id (present t sections) (Fits-present a t sections fits))
Fits-outcome a (updates.SetExpiration id expiration) t sections after rises fits is = Fits-expiration_set a id expiration t (present t sections) after (Rises-present t sections rises) (Fits-present a t sections fits) (expiration_set-Ok a id expiration t (present t sections) after is)
Fits-outcome a updates.Nothing t sections after rises fits is = subst (Fits a) (accepted_same (present t sections) after is) (Fits-present a t sections fits)

-- nothing keeps to whatever was declared
pub Fits-none : (a : CreationAttributes) → Fits a []
Fits-none a = record {
  few = omega arith;
  small = All-nil (λ s. size_of s ≤ a.max_section_size);
  named_short = All-nil (λ s. length s.id ≤ a.max_section_id_size);
  within = omega arith;
  default_only = λ one. All-nil (λ s. s.id ≡ []);
}

-- the default section alone keeps to what was declared, where one section was declared or more
pub Fits-default_section : (a : CreationAttributes) (made : ℤ) → 1 ≤ a.max_sections → Fits a (default_section made ∷ [])
Fits-default_section a made some = record {
  few = some;
  small = All-cons (λ s. size_of s ≤ a.max_section_size) (default_section made) [] (omega arith) (All-nil (λ s. size_of s ≤ a.max_section_size));
  named_short = All-cons (λ s. length s.id ≤ a.max_section_id_size) (default_section made) [] (omega arith) (All-nil (λ s. length s.id ≤ a.max_section_id_size));
  within = omega arith;
  default_only = λ one. All-cons (λ s. s.id ≡ []) (default_section made) [] refl (All-nil (λ s. s.id ≡ []));
}

-- what a checkpoint has when it is made keeps to what was declared
pub Fits-opening : (a : CreationAttributes) (made : ℤ) → Fits a (opening a made)
Fits-opening a made =
    elim (a.max_sections == 1) as (λ b. a.max_sections == 1 ≡ b → Fits a (cond b (default_section made ∷ []) [])) [
      | true ↦ λ one. Fits-default_section a made (let is : a.max_sections ≡ 1 = eqb-true a.max_sections 1 one in omega arith)
      | false ↦ λ more. Fits-none a
    ] refl
