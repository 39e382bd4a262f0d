use Rattle.std.proofs.Common.{◌≡◌, ℕ, ◌+◌, ◌^◌, ◌<◌, ◌≤◌, true, false, ℤ, List, length, is_some, w64, to_z, of_z, ap, ◌∙◌, sym, subst, inl, inr, arith, rules}
use Rattle.std.proofs.lemmas.Bool.{true≢false, cases_eq}
use Rattle.std.proofs.lemmas.Int.{to_z-of_z}
use Rattle.ckpt_types.specs.Sections.{Section, is_taken, present}
use Rattle.ckpt_types.specs.Updates.{free_number, numbered_id}
use Rattle.ckpt_types.proofs.Numbering.{free_number-free, free_number-least, free_number-le}
use Rattle.ckpt_types.proofs.Presence.{length-present-le}
use Rattle.section_store.specs.Summary.{AreTaken}
use Rattle.section_store.proofs.SummaryLemmas.{AreTaken-le}
use Rattle.section_store.proofs.identifiers.free_number.Goals as goal

-- a number that is taken is not the free one
taken_below : (sections : List Section) (n : ℕ) → length sections + 1 < 2 ^ 64 → n ≤ free_number sections → is_taken (numbered_id n) sections ≡ true → n < free_number sections
taken_below sections n few le taken = elim (cases_eq n (free_number sections)) [
  | inl same ↦ absurd (true≢false (sym taken ∙ ap (λ m. is_taken (numbered_id m) sections) same ∙ free_number-free sections few))
  | inr other ↦ omega arith
]

-- a number that is not taken is the free one, where no lower one is free
free_here : (sections : List Section) (n : ℕ) → 1 ≤ n → n ≤ free_number sections → is_taken (numbered_id n) sections ≡ false → n ≡ free_number sections
free_here sections n first le free = elim (cases_eq n (free_number sections)) [
  | inl same ↦ same
  | inr other ↦ absurd (true≢false (sym (free_number-least sections n first (omega arith)) ∙ free))
]

-- few sections are present where few are kept
few_present : (t : ℤ) (sections : List Section) → length sections + 1 < 2 ^ 64 → length (present t sections) + 1 < 2 ^ 64
few_present t sections few = omega (arith, length-present-le t sections)

pub loop-place-init : goal.loop-place-init
loop-place-init c =
    let few : length c.args.kept.now.sections + 1 < 2 ^ 64 = omega (arith, c.requires.few) in
    let t = to_z w64 (of_z w64 c.args.now) in
    let taken = subst (λ m. AreTaken c.args.first (present m c.args.kept.now.sections)) (sym (to_z-of_z w64 c.args.now c.ranges.now)) c.requires.taken in
    record { first = taken.counted; least = AreTaken-le c.args.first (present t c.args.kept.now.sections) (few_present t c.args.kept.now.sections few) taken }

-- the number that was tried is below the free one
tried_below : (c : goal.In-Some) → c.loop-place.number < free_number (present (to_z w64 (of_z w64 c.args.now)) c.args.kept.now.sections)
tried_below c =
    let few : length c.args.kept.now.sections + 1 < 2 ^ 64 = omega (arith, c.requires.few) in
    let t = to_z w64 (of_z w64 c.args.now) in
    let sections = present t c.args.kept.now.sections in
    let taken : is_taken (numbered_id c.loop-place.number) sections ≡ true = sym c.place_taken.ensures.taken ∙ ap is_some c.in-Some.is in
    taken_below sections c.loop-place.number (few_present t c.args.kept.now.sections few) c.loop-place.invariant.least taken

pub overflow_add-number : goal.overflow_add-number
overflow_add-number c =
    let few : length c.args.kept.now.sections + 1 < 2 ^ 64 = omega (arith, c.requires.few) in
    let t = to_z w64 (of_z w64 c.args.now) in
    let sections = present t c.args.kept.now.sections in
    let all : length sections + 1 < 2 ^ 64 = few_present t c.args.kept.now.sections few in
    let below : c.loop-place.number + 1 < 2 ^ 64 = omega (arith, tried_below c, free_number-le sections) in
    search (rules, below)

pub loop-place-smaller : goal.loop-place-smaller
loop-place-smaller c = let below = tried_below c in omega arith

pub loop-place-preserved : goal.loop-place-preserved
loop-place-preserved c = let below = tried_below c in record { first = omega arith; least = omega arith }

pub returns : goal.returns
returns c =
    let moment : to_z w64 (of_z w64 c.args.now) ≡ c.args.now = to_z-of_z w64 c.args.now c.ranges.now in
    let sections = present (to_z w64 (of_z w64 c.args.now)) c.args.kept.now.sections in
    let free : is_taken (numbered_id c.loop-place.number) sections ≡ false = sym c.place_taken.ensures.taken ∙ ap is_some c.in_default.is in
    let here : c.loop-place.number ≡ free_number sections = free_here sections c.loop-place.number c.loop-place.invariant.first c.loop-place.invariant.least free in
    here ∙ ap (λ t. free_number (present t c.args.kept.now.sections)) moment
