-- Pieces that stand one behind another: one more at the end, and the one at a place.
use Rattle.std.proofs.Common.{◌≡◌, ℕ, zero, suc, ◌+◌, ◌-◌, ◌≤◌, ◌<◌, List, [], ◌∷◌, ◌++◌, length, take, drop, Some, refl, sym, ap, ◌∙◌, arith, length-append, length-drop}
use Rattle.std.proofs.lemmas.List.{take-append-le, drop-append-le, drop_at, take_all}
use Rattle.std.specs.Prelude.{slice_get, slice_index}
use Rattle.ckpt_types.specs.Ends.{pieces_between, start_before, AreEnds, ends_of, pieces_in, ArePieces}

-- an end behind the last
pub AreEnds-push : (start : ℕ) (ends : List ℕ) (len more : ℕ) → AreEnds start ends len → len ≤ more → AreEnds start (ends ++ more ∷ []) more
AreEnds-push start [] len more are le = (omega arith, refl)
AreEnds-push start (end ∷ ends) len more are le = (are.0, AreEnds-push end ends len more are.1 le)

-- the pieces begin within the bytes
pub AreEnds-start : (start : ℕ) (ends : List ℕ) (len : ℕ) → AreEnds start ends len → start ≤ len
AreEnds-start start [] len are = omega arith
AreEnds-start start (end ∷ ends) len are = let le = AreEnds-start end ends len are.1 in omega arith

-- with bytes behind, the pieces stay, and one more has those bytes
pub pieces_between-push : (start : ℕ) (ends bytes piece : List ℕ) → AreEnds start ends (length bytes)
    → pieces_between start (ends ++ (length bytes + length piece) ∷ []) (bytes ++ piece) ≡ pieces_between start ends bytes ++ piece ∷ []
pieces_between-push start [] bytes piece are =
    ap (λ p. p ∷ []) (ap (take (length bytes + length piece - start)) (drop_at bytes piece start (sym are)) ∙ take_all (length bytes + length piece - start) piece (omega arith))
pieces_between-push start (end ∷ ends) bytes piece are =
    let within = AreEnds-start end ends (length bytes) are.1 in
    let front : take (end - start) (drop start (bytes ++ piece)) ≡ take (end - start) (drop start bytes) =
    ap (take (end - start)) (drop-append-le start bytes piece (omega arith)) ∙ take-append-le (end - start) (drop start bytes) piece (omega (arith, length-drop start bytes)) in
    λ i. front i ∷ pieces_between-push end ends bytes piece are.1 i

-- the piece at a place begins where the one before ends
pub slice_get-pieces_between : (start : ℕ) (ends bytes : List ℕ) (i : ℕ) → i < length ends
    → slice_get (pieces_between start ends bytes) i ≡ Some (take (slice_index ends i - start_before start ends i) (drop (start_before start ends i) bytes))
slice_get-pieces_between start [] bytes i there = absurd (omega arith)
slice_get-pieces_between start (end ∷ ends) bytes zero there = refl
slice_get-pieces_between start (end ∷ ends) bytes (suc zero) there = slice_get-pieces_between end ends bytes zero (omega arith)
slice_get-pieces_between start (end ∷ ends) bytes (suc (suc i)) there = slice_get-pieces_between end ends bytes (suc i) (omega arith)

-- a piece ends where it begins or later
pub start_before-le : (start : ℕ) (ends : List ℕ) (len i : ℕ) → AreEnds start ends len → i < length ends → start_before start ends i ≤ slice_index ends i
start_before-le start [] len i are there = absurd (omega arith)
start_before-le start (end ∷ ends) len zero are there = are.0
start_before-le start (end ∷ ends) len (suc zero) are there = start_before-le end ends len zero are.1 (omega arith)
start_before-le start (end ∷ ends) len (suc (suc i)) are there = start_before-le end ends len (suc i) are.1 (omega arith)

-- a piece ends within the bytes
pub slice_index-le : (start : ℕ) (ends : List ℕ) (len i : ℕ) → AreEnds start ends len → i < length ends → slice_index ends i ≤ len
slice_index-le start [] len i are there = absurd (omega arith)
slice_index-le start (end ∷ ends) len zero are there = AreEnds-start end ends len are.1
slice_index-le start (end ∷ ends) len (suc i) are there = slice_index-le end ends len i are.1 (omega arith)

-- there are as many pieces as ends
pub length-pieces_between : (start : ℕ) (ends bytes : List ℕ) → length (pieces_between start ends bytes) ≡ length ends
length-pieces_between start [] bytes = refl
length-pieces_between start (end ∷ ends) bytes = ap suc (length-pieces_between end ends bytes)

-- ---- pieces that are kept by their number and by the ends of all but the last

-- where there is a piece, its end is behind those before
pub ends_of-some : (count : ℕ) (breaks : List ℕ) (len : ℕ) → 1 ≤ count → ends_of count breaks len ≡ breaks ++ len ∷ []
ends_of-some zero breaks len some = absurd (omega arith)
ends_of-some (suc count) breaks len some = refl

-- there are as many ends as pieces
pub length-ends_of : (count : ℕ) (breaks : List ℕ) (len : ℕ) → length breaks ≡ count - 1 → length (ends_of count breaks len) ≡ count
length-ends_of zero breaks len many = refl
length-ends_of (suc count) breaks len many =
    let all : length (breaks ++ len ∷ []) ≡ length breaks + 1 = length-append breaks (len ∷ []) in
    omega arith

-- one more piece ends with the bytes, and the others as they did
pub ends_of-push : (count : ℕ) (breaks : List ℕ) (len more : ℕ) → ends_of (count + 1) (ends_of count breaks len) more ≡ ends_of count breaks len ++ more ∷ []
ends_of-push count breaks len more = ends_of-some (count + 1) (ends_of count breaks len) more (omega arith)

pub length-pieces_in : (count : ℕ) (breaks bytes : List ℕ) → ArePieces count breaks (length bytes) → length (pieces_in count breaks bytes) ≡ count
length-pieces_in count breaks bytes are =
    length-pieces_between 0 (ends_of count breaks (length bytes)) bytes ∙ length-ends_of count breaks (length bytes) are.many

-- a piece begins where the one before ends, also where one more end stands behind
pub start_before-append : (start : ℕ) (breaks : List ℕ) (len i : ℕ) → i ≤ length breaks → start_before start (breaks ++ len ∷ []) i ≡ start_before start breaks i
start_before-append start breaks len zero there = refl
start_before-append start [] len (suc i) there = absurd (omega arith)
start_before-append start (end ∷ breaks) len (suc zero) there = refl
start_before-append start (end ∷ breaks) len (suc (suc i)) there = start_before-append start breaks len (suc i) (omega arith)

-- the bytes of the piece at a place
pub record IsPart (breaks bytes : List ℕ) (place start end : ℕ) : Type 0 where
  pub begins : start ≤ end
  pub ends : end ≤ length bytes
  pub piece : slice_get (pieces_between 0 (breaks ++ length bytes ∷ []) bytes) place ≡ Some (take (end - start) (drop start bytes))

pub IsPart-at : (breaks bytes : List ℕ) (place start end : ℕ) → AreEnds 0 (breaks ++ length bytes ∷ []) (length bytes) → place ≤ length breaks
    → start ≡ start_before 0 breaks place → end ≡ slice_index (breaks ++ length bytes ∷ []) place → IsPart breaks bytes place start end
IsPart-at breaks bytes place start end are there starts ends =
    let all : List ℕ = breaks ++ length bytes ∷ [] in
    let count : length all ≡ length breaks + 1 = length-append breaks (length bytes ∷ []) in
    let within : place < length all = omega arith in
    let first : start ≡ start_before 0 all place = starts ∙ sym (start_before-append 0 breaks (length bytes) place there) in
    record {
      begins = rw (first, ends) (start_before-le 0 all (length bytes) place are within);
      ends = rw ends (slice_index-le 0 all (length bytes) place are within);
      piece = rw (first, ends) (slice_get-pieces_between 0 all bytes place within);
    }
