-- Identifiers one behind another: with one more, and the room for them.
use Rattle.std.proofs.Common.{◌≡◌, ℕ, ◌+◌, ◌*◌, ◌≤◌, ◌<◌, List, [], ◌∷◌, ◌++◌, length, slice_get, Some, sym, ap, subst, ◌∙◌, arith, length-append, add-one}
use Rattle.std.specs.List.{All}
use Rattle.std.proofs.Math.Nat.{suc-mul, mul-le-mul_right}
use Rattle.std.proofs.lemmas.List.Elements.{All-push, All-get_or}
use Rattle.std.proofs.lemmas.Option.{slice_get_within, get_or_from_slice_get}
use Rattle.ckpt_types.specs.Ends.{AreEnds}
use Rattle.ckpt_types.specs.Sections.{Section}
use Rattle.ckpt_types.proofs.EndsLemmas.{AreEnds-push, pieces_between-push}
use Rattle.section_iter.specs.Ids.{ids_in, AreIds}

abbrev pub IsShort : List ℕ → Type 0
IsShort id = length id ≤ 256

-- an identifier stands behind the others
pub record IsPushed (ends bytes id more_ends more_bytes : List ℕ) : Type 0 where
  pub bytes_are : more_bytes ≡ bytes ++ id
  pub ends_are : more_ends ≡ ends ++ length more_bytes ∷ []

module _ (ends bytes id more_ends more_bytes : List ℕ) (are : AreIds ends bytes) (pushed : IsPushed ends bytes id more_ends more_bytes) where
  longer : length more_bytes ≡ length bytes + length id
  longer = ap length pushed.bytes_are ∙ length-append bytes id

  pub ids_in-pushed : ids_in more_ends more_bytes ≡ ids_in ends bytes ++ id ∷ []
  ids_in-pushed =
      (λ i. ids_in ((pushed.ends_are ∙ ap (λ n. ends ++ n ∷ []) longer) i) (pushed.bytes_are i))
      ∙ pieces_between-push 0 ends bytes id are.follow

  pub AreIds-pushed : length id ≤ 256 → AreIds more_ends more_bytes
  AreIds-pushed short = record {
    follow = subst (λ es. AreEnds 0 es (length more_bytes)) (sym pushed.ends_are) (AreEnds-push 0 ends (length bytes) (length more_bytes) are.follow (omega (arith, longer)));
    short = subst (All IsShort) (sym ids_in-pushed) (All-push IsShort (ids_in ends bytes) id are.short short);
  }

-- ---- the room

-- one section more
next_place : (size place : ℕ) → (place + 1) * size ≡ place * size + size
next_place size place = ap (λ n. n * size) (add-one place) ∙ suc-mul place size

-- the room for as many sections as come is the room for those before and one more
pub room_for_one : (size place count : ℕ) → place < count → place * size + size ≤ count * size
room_for_one size place count more = subst (λ n. n ≤ count * size) (next_place size place) (mul-le-mul_right size (omega arith))

-- with one identifier more no more bytes are there than of one section more
pub bytes_within : (size place used len : ℕ) → used ≤ place * size → len ≤ size → used + len ≤ (place + 1) * size
bytes_within size place used len within short = omega (arith, next_place size place)

-- as many are there as before
pub bytes_before : (size place used : ℕ) → used ≤ place * size → used ≤ (place + 1) * size
bytes_before size place used within = omega (arith, next_place size place)

-- a section among those whose identifiers are short has a short one
pub short_at : (size : ℕ) (sections : List Section) (place : ℕ) (s : Section) → All (λ (s : Section). length s.id ≤ size) sections → slice_get sections place ≡ Some s → length s.id ≤ size
short_at size sections place s short there =
    subst (λ (s : Section). length s.id ≤ size) (get_or_from_slice_get sections place s s there) (All-get_or (λ (s : Section). length s.id ≤ size) sections place s (slice_get_within sections place s there) short)
