-- How many bytes a read gives.
use Rattle.std.proofs.Common.{ℕ, ◌+◌, ◌≤◌, List, [], ◌∷◌, length, take, drop, arith}
use Rattle.std.specs.Prelude.{sum_by, Option, Some, None, Result, Ok, Err, IfOk, Bool, true, false, nat_lt, if◌then◌else◌, ℤ}
use Rattle.std.proofs.lemmas.List.{length-take}
use Rattle.std.proofs.lemmas.List.Sums.{sum_by-cons}
use Rattle.ckpt_types.specs.declared.ais_error.AisError.TheVariants.{InvalidParam}
use Rattle.ckpt_types.specs.declared.update.ReadElement.{ReadElement}
use Rattle.ckpt_types.specs.Sections.{Section, section_at, present, size_of}
use Rattle.ckpt_types.specs.Updates.{Refusal, refuse_at, on_section, and_then}
use Rattle.ckpt_types.specs.Reads.{piece_read, pieces_read, read}
use Rattle.node_core.specs.Lending.{bytes_asked}

piece_taken : (n : ℕ) (xs : List ℕ) → length (take n xs) ≤ n
piece_taken n xs = grind (arith, length-take)

by_size : (place : ℕ) (e : ReadElement) (bytes : List ℕ) (b : Bool) → IfOk (if b then refuse_at place InvalidParam else Ok (take e.len bytes)) (λ piece. length piece ≤ e.len)
by_size place e bytes true = tt
by_size place e bytes false = piece_taken e.len bytes

by_section : (place : ℕ) (e : ReadElement) (o : Option Section) → IfOk (on_section place o (λ s. if nat_lt (size_of s) e.offset then refuse_at place InvalidParam else Ok (take e.len (drop e.offset s.bytes)))) (λ piece. length piece ≤ e.len)
by_section place e None = tt
by_section place e (Some s) = by_size place e (drop e.offset s.bytes) (nat_lt (size_of s) e.offset)

-- a piece is no longer than its element asks
pub length-piece_read : (place : ℕ) (e : ReadElement) (sections : List Section) → IfOk (piece_read place e sections) (λ piece. length piece ≤ e.len)
length-piece_read place e sections = by_section place e (section_at e.id sections)

one_piece_more : (e : ReadElement) (elements : List ReadElement) (piece : Result (List ℕ) Refusal) (pieces : Result (List (List ℕ)) Refusal) → IfOk piece (λ piece. length piece ≤ e.len) → IfOk pieces (λ pieces. sum_by length pieces ≤ bytes_asked elements) →
    IfOk (and_then piece (λ piece. and_then pieces (λ pieces. Ok (piece ∷ pieces)))) (λ pieces. sum_by length pieces ≤ bytes_asked (e ∷ elements))
one_piece_more e elements (Ok piece) (Ok pieces) one rest = omega (arith, sum_by-cons (length {A = ℕ}) piece pieces, sum_by-cons (λ (e : ReadElement). e.len) e elements, one, rest)
one_piece_more e elements (Ok piece) (Err why) one rest = tt
one_piece_more e elements (Err why) pieces one rest = tt

pieces_within : (place : ℕ) (elements : List ReadElement) (sections : List Section) → IfOk (pieces_read place elements sections) (λ pieces. sum_by length pieces ≤ bytes_asked elements)
pieces_within place [] sections = omega arith
pieces_within place (e ∷ elements) sections = one_piece_more e elements (piece_read place e sections) (pieces_read (place + 1) elements sections) (length-piece_read place e sections) (pieces_within (place + 1) elements sections)

roomier : (o : Result (List (List ℕ)) Refusal) (n room : ℕ) → n ≤ room → IfOk o (λ pieces. sum_by length pieces ≤ n) → IfOk o (λ pieces. sum_by length pieces ≤ room)
roomier (Ok pieces) n room h within = omega arith
roomier (Err why) n room h within = tt

-- the pieces of a read are together no longer than its elements ask: they fit where that fits
pub sum_by-read : (elements : List ReadElement) (t : ℤ) (sections : List Section) (room : ℕ) → bytes_asked elements ≤ room → IfOk (read elements t sections) (λ pieces. sum_by length pieces ≤ room)
sum_by-read elements t sections room h = roomier (read elements t sections) (bytes_asked elements) room h (pieces_within 0 elements (present t sections))
