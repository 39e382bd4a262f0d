-- Worked examples of what an iteration chooses and gives, each by computation. The story of one over sections that come and
-- go stands in Rows of ckpt_types, and is not told again here.
use Rattle.std.proofs.Common.{◌≡◌, ℕ, List, [], ◌∷◌, codes, pos, Ok, Err, refl}
use Rattle.std.specs.Prelude.{ℤ}
use Rattle.ckpt_types.specs.declared.sections.Choice.{Choice}
use Rattle.ckpt_types.specs.declared.sections.SectionState.{SectionState}
use Rattle.ckpt_types.specs.declared.sections.SectionState.TheVariants.{Valid, Corrupted}
use Rattle.ckpt_types.specs.Limits.{end_of_time, sections_any, sections_corrupted, sections_forever, sections_geq_expiration_time, sections_leq_expiration_time}
use Rattle.ckpt_types.specs.Reads.{chosen, given}
use Rattle.ckpt_types.specs.Sections.{Section}
use Rattle.section_iter.specs.KeptIds.{KeptIds}
use Rattle.section_iter.specs.Next.{given_answer, kept_after}

-- ---- the words of the examples

abbrev section : List ℕ → List ℕ → ℤ → SectionState → Section
section id bytes expiration state = record { id = id; bytes = bytes; expiration = expiration; state = state; last_update = pos 0 }

abbrev choice : ℕ → ℕ → Choice
choice which time = record { chosen = which; time = pos time }

-- ---- choices, at 10: `a` never expires, `b` at 20, `c` at 30, and `d` has expired just then; `b` is corrupted

abbrev a_to_d : List Section
a_to_d = section (codes "a") [] end_of_time Valid ∷ section (codes "b") [] (pos 20) Corrupted ∷ section (codes "c") [] (pos 30) Valid ∷ section (codes "d") [] (pos 10) Valid ∷ []

abbrev chosen_at_10 : Choice → List (List ℕ)
chosen_at_10 which = chosen which (pos 10) a_to_d

pub what_never_expires : chosen_at_10 (choice sections_forever 0) ≡ codes "a" ∷ []
what_never_expires = refl

pub what_expires_at_20_or_before : chosen_at_10 (choice sections_leq_expiration_time 20) ≡ codes "b" ∷ []
what_expires_at_20_or_before = refl

pub what_expires_at_30_or_later : chosen_at_10 (choice sections_geq_expiration_time 30) ≡ codes "a" ∷ codes "c" ∷ []
what_expires_at_30_or_later = refl

pub what_is_corrupted : chosen_at_10 (choice sections_corrupted 0) ≡ codes "b" ∷ []
what_is_corrupted = refl

pub all_that_are_present : chosen_at_10 (choice sections_any 0) ≡ codes "a" ∷ codes "b" ∷ codes "c" ∷ []
all_that_are_present = refl

pub there_is_no_sixth_choice : chosen_at_10 (choice 6 0) ≡ []
there_is_no_sixth_choice = refl

-- ---- identifiers of up to 8 bytes

abbrev of_8_bytes : List Section
of_8_bytes = section [] [] end_of_time Valid ∷ section (codes "12345678") (codes "x") end_of_time Valid ∷ section (codes "1234567a") [] end_of_time Valid ∷ section (codes "2") [] end_of_time Valid ∷ []

pub identifiers_in_byte_order : chosen (choice sections_any 0) (pos 10) of_8_bytes ≡ [] ∷ codes "12345678" ∷ codes "1234567a" ∷ codes "2" ∷ []
identifiers_in_byte_order = refl

-- ---- what is kept where nothing is given: both sections have expired at 20, and are there at 19

abbrev two_until_20 : List Section
two_until_20 = section (codes "a") (codes "x") (pos 20) Valid ∷ section (codes "b") (codes "y") (pos 20) Valid ∷ []

abbrev keeps_both : KeptIds
keeps_both = record { ids = codes "a" ∷ codes "b" ∷ []; room = record { ids = 8; id_size = 8 } }

pub none_is_present : given_answer (given keeps_both.ids (pos 20) two_until_20) ≡ Err (record {})
none_is_present = refl

pub nothing_given_drops_nothing : kept_after keeps_both (given keeps_both.ids (pos 20) two_until_20) ≡ keeps_both
nothing_given_drops_nothing = refl

pub first_is_given : given_answer (given keeps_both.ids (pos 19) two_until_20) ≡ Ok (record { id = codes "a"; expiration = pos 20; size = 1; state = Valid; last_update = pos 0 })
first_is_given = refl

abbrev keeps_b : KeptIds
keeps_b = kept_after keeps_both (given keeps_both.ids (pos 19) two_until_20)

pub then_the_second : given_answer (given keeps_b.ids (pos 19) two_until_20) ≡ Ok (record { id = codes "b"; expiration = pos 20; size = 1; state = Valid; last_update = pos 0 })
then_the_second = refl

abbrev keeps_none : KeptIds
keeps_none = kept_after keeps_b (given keeps_b.ids (pos 19) two_until_20)

pub then_none : given_answer (given keeps_none.ids (pos 19) two_until_20) ≡ Err (record {})
then_none = refl
