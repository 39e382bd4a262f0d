-- What a read gives, element by element.
use Rattle.std.proofs.Common.{◌≡◌, ℕ, zero, suc, ◌+◌, ◌-◌, ◌<◌, ◌≤◌, List, [], ◌∷◌, ◌++◌, length, take, drop, get_or, Some, Result, Ok, Err, nat_lt, ℤ, sum_by, sym, ap, ◌∙◌, refl, arith, length-append, append_assoc, drop-cons}
use Rattle.std.specs.Prelude.{IsOk, IfOk}
use Rattle.std.specs.Result.{result_unwrap_or}
use Rattle.std.proofs.lemmas.Bool.{ltb-false}
use Rattle.std.proofs.lemmas.List.{take-append-drop}
use Rattle.std.proofs.lemmas.List.Sums.{sum_by-append, sum_by-cons}
use Rattle.ckpt_types.specs.declared.update.ReadElement.{ReadElement}
use Rattle.ckpt_types.specs.Buffer.{Buffer, with_piece}
use Rattle.ckpt_types.specs.Reads.{piece_read, pieces_read, read}
use Rattle.ckpt_types.specs.Sections.{Section, Rises, section_at, present, size_of}
use Rattle.ckpt_types.specs.Updates.{Refusal, and_then}
use Rattle.ckpt_types.proofs.Accepted.{on_section-Ok, and_then-Ok, if-Ok_last, accepted_same}
use Rattle.ckpt_types.proofs.Presence.{section_at-present, where_present-Some}
use Rattle.section_store.proofs.Placed.{Ok_from_IsOk}
use Rattle.section_store.specs.StoreState.{with_pieces}

-- ---- one element

-- what an element reads that is not refused
pub record ReadsPiece (e : ReadElement) (sections : List Section) (piece : List ℕ) : Type 0 where
  pub of : Section
  pub there : section_at e.id sections ≡ Some of
  pub within : e.offset ≤ size_of of
  pub is : take e.len (drop e.offset of.bytes) ≡ piece

pub piece_read-Ok : (place : ℕ) (e : ReadElement) (sections : List Section) (piece : List ℕ) → piece_read place e sections ≡ Ok piece → ReadsPiece e sections piece
piece_read-Ok place e sections piece is =
    let (s, there, e1) = on_section-Ok place (section_at e.id sections) _ piece is in
    let (within, given) = if-Ok_last (nat_lt (size_of s) e.offset) _ _ piece e1 in
    record { of = s; there = there; within = ltb-false (size_of s) e.offset within; is = given }

-- what an element reads of the section found
pub piece_read-Some : (place : ℕ) (e : ReadElement) (sections : List Section) (s : Section) → section_at e.id sections ≡ Some s → e.offset ≤ size_of s → piece_read place e sections ≡ Ok (take e.len (drop e.offset s.bytes))
piece_read-Some place e sections s there within = rw there (grind arith)

-- an element that reads at one place of a vector reads the same at another
pub piece_read-any_place : (place other : ℕ) (e : ReadElement) (sections : List Section) (piece : List ℕ) → piece_read place e sections ≡ Ok piece → piece_read other e sections ≡ Ok piece
piece_read-any_place place other e sections piece is =
    let reads = piece_read-Ok place e sections piece is in
    piece_read-Some other e sections reads.of reads.there reads.within ∙ ap Ok reads.is

-- ---- all elements

-- what the first element reads, and the others
pub record ReadsFirst (place : ℕ) (e : ReadElement) (elements : List ReadElement) (sections : List Section) (pieces : List (List ℕ)) : Type 0 where
  pub piece : List ℕ
  pub others : List (List ℕ)
  pub first : piece_read place e sections ≡ Ok piece
  pub rest : pieces_read (place + 1) elements sections ≡ Ok others
  pub is : piece ∷ others ≡ pieces

pub pieces_read-cons : (place : ℕ) (e : ReadElement) (elements : List ReadElement) (sections : List Section) (pieces : List (List ℕ)) → pieces_read place (e ∷ elements) sections ≡ Ok pieces → ReadsFirst place e elements sections pieces
pieces_read-cons place e elements sections pieces is =
    let (piece, first, e1) = and_then-Ok (piece_read place e sections) (λ piece. and_then (pieces_read (place + 1) elements sections) (λ others. Ok (piece ∷ others))) pieces is in
    let (others, rest, e2) = and_then-Ok (pieces_read (place + 1) elements sections) (λ others. Ok (piece ∷ others)) pieces e1 in
    record { piece = piece; others = others; first = first; rest = rest; is = accepted_same _ pieces e2 }

-- an element gives a piece
pub length-pieces_read : (place : ℕ) (elements : List ReadElement) (sections : List Section) (pieces : List (List ℕ)) → pieces_read place elements sections ≡ Ok pieces → length pieces ≡ length elements
length-pieces_read place [] sections pieces is = ap length (sym (accepted_same [] pieces is))
length-pieces_read place (e ∷ elements) sections pieces is =
    let reads = pieces_read-cons place e elements sections pieces is in
    ap length (sym reads.is) ∙ ap suc (length-pieces_read (place + 1) elements sections reads.others reads.rest)

-- what is read of those present is read of all
pub pieces_read-present : (t : ℤ) (place : ℕ) (elements : List ReadElement) (sections : List Section) (pieces : List (List ℕ)) → Rises sections → pieces_read place elements (present t sections) ≡ Ok pieces → pieces_read place elements sections ≡ Ok pieces
pieces_read-present t place [] sections pieces rises is = is
pieces_read-present t place (e ∷ elements) sections pieces rises is =
    let reads = pieces_read-cons place e elements (present t sections) pieces is in
    let here = piece_read-Ok place e (present t sections) reads.piece reads.first in
    let found : section_at e.id sections ≡ Some here.of = (where_present-Some t (section_at e.id sections) here.of (sym (section_at-present t e.id sections rises) ∙ here.there)).0 in
    let first : piece_read place e sections ≡ Ok reads.piece = piece_read-Some place e sections here.of found here.within ∙ ap Ok here.is in
    let rest = pieces_read-present t (place + 1) elements sections reads.others rises reads.rest in
    rw (first, rest) (ap Ok reads.is)

-- ---- the buffer

-- a piece behind others
pub with_pieces-push : (pieces : List (List ℕ)) (piece : List ℕ) (b : Buffer) → with_piece piece (with_pieces pieces b) ≡ with_pieces (pieces ++ piece ∷ []) b
with_pieces-push pieces piece b =
    let all : (b.pieces ++ pieces) ++ piece ∷ [] ≡ b.pieces ++ (pieces ++ piece ∷ []) = append_assoc b.pieces pieces (piece ∷ []) in
    let places : b.spare_pieces - length pieces - 1 ≡ b.spare_pieces - length (pieces ++ piece ∷ []) = omega (arith, length-append pieces (piece ∷ [])) in
    let bytes : b.spare_bytes - sum_by length pieces - length piece ≡ b.spare_bytes - sum_by length (pieces ++ piece ∷ []) = omega (arith, sum_by-append length pieces (piece ∷ [])) in
    λ i. record { pieces = all i; spare_pieces = places i; spare_bytes = bytes i }

-- the first elements of a list, and one more
pub take-more : {A : Type 0} (xs : List A) (i : ℕ) (x : A) (rest : List A) → drop i xs ≡ x ∷ rest → take (suc i) xs ≡ take i xs ++ x ∷ []
take-more [] zero x rest is = absurd (cc is)
take-more [] (suc i) x rest is = absurd (cc is)
take-more (y ∷ xs) zero x rest is = cc is
take-more (y ∷ xs) (suc i) x rest is = ap (λ zs. y ∷ zs) (take-more xs i x rest is)

-- what is behind one more
pub drop-more : {A : Type 0} (xs : List A) (i : ℕ) (x : A) (rest : List A) → drop i xs ≡ x ∷ rest → drop (suc i) xs ≡ rest
drop-more [] zero x rest is = absurd (cc is)
drop-more [] (suc i) x rest is = absurd (cc is)
drop-more (y ∷ xs) zero x rest is = cc is
drop-more (y ∷ xs) (suc i) x rest is = drop-more xs i x rest is

-- what is so of the value that is there
pub IfOk-unwrap_or : {A : Type 0} (r : Result A Refusal) (P : A → Type 0) (other : A) → IsOk r → IfOk r P → P (result_unwrap_or r other)
IfOk-unwrap_or (Ok x) P other is holds = holds
IfOk-unwrap_or (Err e) P other is holds = absurd (cc is)

-- what is so of the value that is taken is so where there is one
pub IfOk-from_unwrap_or : {A : Type 0} (r : Result A Refusal) (P : A → Type 0) (other : A) → P (result_unwrap_or r other) → IfOk r P
IfOk-from_unwrap_or (Ok x) P other holds = holds
IfOk-from_unwrap_or (Err e) P other holds = tt

-- what is there is Ok
pub Ok-unwrap_or : {A : Type 0} (r : Result A Refusal) (other : A) → IsOk r → r ≡ Ok (result_unwrap_or r other)
Ok-unwrap_or (Ok x) other is = refl
Ok-unwrap_or (Err e) other is = absurd (cc is)

-- one element further on in a read
pub record ReadsOn (elements : List ReadElement) (sections : List Section) (all : List (List ℕ)) (i : ℕ) (piece : List ℕ) : Type 0 where
  pub next : drop i all ≡ piece ∷ drop (suc i) all
  pub given : take (suc i) all ≡ take i all ++ piece ∷ []
  pub rest : pieces_read (i + 1) (drop (suc i) elements) sections ≡ Ok (drop (suc i) all)

pub pieces_read-drop : (elements : List ReadElement) (sections : List Section) (all : List (List ℕ)) (i : ℕ) (e : ReadElement) (piece : List ℕ) → i < length elements → e ≡ get_or elements i e
    → pieces_read i (drop i elements) sections ≡ Ok (drop i all) → piece_read 0 e sections ≡ Ok piece → ReadsOn elements sections all i piece
pieces_read-drop elements sections all i e piece there is going here =
    let first : drop i elements ≡ e ∷ drop (suc i) elements = drop-cons elements i e there ∙ ap (λ x. x ∷ drop (suc i) elements) (sym is) in
    let reads = pieces_read-cons i e (drop (suc i) elements) sections (drop i all) (ap (λ xs. pieces_read i xs sections) (sym first) ∙ going) in
    let same : reads.piece ≡ piece = accepted_same _ piece (sym (piece_read-any_place i 0 e sections reads.piece reads.first) ∙ here) in
    let now : drop i all ≡ piece ∷ reads.others = sym reads.is ∙ ap (λ p. p ∷ reads.others) same in
    let behind : drop (suc i) all ≡ reads.others = drop-more all i piece reads.others now in
    record {
      next = now ∙ ap (λ xs. piece ∷ xs) (sym behind);
      given = take-more all i piece reads.others now;
      rest = reads.rest ∙ ap Ok (sym behind);
    }

-- the next piece has room where all have
pub piece-fits : (all : List (List ℕ)) (i : ℕ) (piece : List ℕ) (spare : ℕ) → drop i all ≡ piece ∷ drop (suc i) all → sum_by length all ≤ spare → length piece ≤ spare - sum_by length (take i all)
piece-fits all i piece spare next room =
    let halves : sum_by length all ≡ sum_by length (take i all) + sum_by length (drop i all) = ap (sum_by length) (sym (take-append-drop i all)) ∙ sum_by-append length (take i all) (drop i all) in
    let first : sum_by length (drop i all) ≡ length piece + sum_by length (drop (suc i) all) = ap (sum_by length) next ∙ sum_by-cons length piece (drop (suc i) all) in
    omega arith

-- where a read is not refused, it reads of those present what it reads of all
pub read-all : (t : ℤ) (elements : List ReadElement) (sections : List Section) → Rises sections → IsOk (read elements t sections) → read elements t sections ≡ pieces_read 0 elements sections
read-all t elements sections rises readable =
    let (pieces, is) = Ok_from_IsOk (read elements t sections) readable in
    is ∙ sym (pieces_read-present t 0 elements sections pieces rises is)
