-- A piece more in a buffer: it keeps to its room, and shows the piece behind the others.
use Rattle.std.proofs.Common.{◌≡◌, ℕ, ◌+◌, ◌-◌, ◌≤◌, List, [], ◌∷◌, ◌++◌, length, sym, ap, ◌∙◌, subst, arith, length-append}
use Rattle.std.specs.Prelude.{vec_capacity}
use Rattle.ckpt_types.specs.declared.piece_room.PieceRoom.TheInside.{Inside}
use Rattle.ckpt_types.specs.Buffer.{with_piece}
use Rattle.ckpt_types.specs.Ends.{AreEnds, ends_of, pieces_between, pieces_in, ArePieces}
use Rattle.ckpt_types.specs.PieceRoom.{IsRoomy, buffer_of}
use Rattle.ckpt_types.proofs.EndsLemmas.{AreEnds-push, pieces_between-push, ends_of-push, length-ends_of}

-- the fields after a push
pub record Pushes (old new : Inside) (piece : List ℕ) : Type 0 where
  pub place : 1 ≤ old.max_pieces - old.count
  pub room : length piece ≤ old.max_bytes - length old.bytes.bytes
  pub bytes : new.bytes.bytes ≡ old.bytes.bytes ++ piece
  pub breaks : new.breaks.items ≡ ends_of old.count old.breaks.items (length old.bytes.bytes)
  pub count : new.count ≡ old.count + 1
  pub bytes_capacity : old.bytes.capacity ≤ new.bytes.capacity
  pub breaks_capacity : vec_capacity new.breaks ≡ vec_capacity old.breaks
  pub max_bytes : new.max_bytes ≡ old.max_bytes
  pub max_pieces : new.max_pieces ≡ old.max_pieces

bytes_after : (old new : Inside) (piece : List ℕ) → Pushes old new piece → length new.bytes.bytes ≡ length old.bytes.bytes + length piece
bytes_after old new piece p = ap length p.bytes ∙ length-append old.bytes.bytes piece

-- the ends of the pieces are those before, and that of all bytes
ends_after : (old new : Inside) (piece : List ℕ) → Pushes old new piece
    → ends_of new.count new.breaks.items (length new.bytes.bytes) ≡ ends_of old.count old.breaks.items (length old.bytes.bytes) ++ length new.bytes.bytes ∷ []
ends_after old new piece p =
    ap (λ n. ends_of n new.breaks.items (length new.bytes.bytes)) p.count
    ∙ ap (λ breaks. ends_of (old.count + 1) breaks (length new.bytes.bytes)) p.breaks
    ∙ ends_of-push old.count old.breaks.items (length old.bytes.bytes) (length new.bytes.bytes)

ArePieces-push : (old new : Inside) (piece : List ℕ) → Pushes old new piece → ArePieces old.count old.breaks.items (length old.bytes.bytes)
    → ArePieces new.count new.breaks.items (length new.bytes.bytes)
ArePieces-push old new piece p are =
    let longer = bytes_after old new piece p in
    let behind : AreEnds 0 (ends_of old.count old.breaks.items (length old.bytes.bytes) ++ length new.bytes.bytes ∷ []) (length new.bytes.bytes) =
    AreEnds-push 0 (ends_of old.count old.breaks.items (length old.bytes.bytes)) (length old.bytes.bytes) (length new.bytes.bytes) are.ends (omega arith) in
    let Stand : List ℕ → Type 0 = λ ends. AreEnds 0 ends (length new.bytes.bytes) in
    let broken : length new.breaks.items ≡ old.count = ap length p.breaks ∙ length-ends_of old.count old.breaks.items (length old.bytes.bytes) are.many in
    let count = p.count in
    record {
      ends = subst Stand (sym (ends_after old new piece p)) behind;
      many = omega arith;
    }

pub IsRoomy-push : (old new : Inside) (piece : List ℕ) → Pushes old new piece → IsRoomy old → IsRoomy new
IsRoomy-push old new piece p roomy =
    let longer = bytes_after old new piece p in
    let count = p.count in
    let rest = roomy.bytes_declared in
    let rest2 = roomy.pieces_declared in
    let rest3 = roomy.bytes_taken in
    let rest4 = roomy.breaks_taken in
    record {
      pieces = ArePieces-push old new piece p roomy.pieces;
      bytes_declared = omega arith;
      pieces_declared = omega arith;
      bytes_taken = omega arith;
      breaks_taken = omega arith;
    }

pub buffer_of-push : (old new : Inside) (piece : List ℕ) → Pushes old new piece → IsRoomy old → buffer_of new ≡ with_piece piece (buffer_of old)
buffer_of-push old new piece p roomy =
    let longer = bytes_after old new piece p in
    let count = p.count in
    let before = ends_of old.count old.breaks.items (length old.bytes.bytes) in
    let pieces : pieces_in new.count new.breaks.items new.bytes.bytes ≡ pieces_in old.count old.breaks.items old.bytes.bytes ++ piece ∷ [] =
    ap (λ ends. pieces_between 0 ends new.bytes.bytes) (ends_after old new piece p ∙ ap (λ n. before ++ n ∷ []) longer)
    ∙ ap (pieces_between 0 (before ++ (length old.bytes.bytes + length piece) ∷ [])) p.bytes
    ∙ pieces_between-push 0 before old.bytes.bytes piece roomy.pieces.ends in
    let spare_pieces : new.max_pieces - new.count ≡ old.max_pieces - old.count - 1 = omega arith in
    let spare_bytes : new.max_bytes - length new.bytes.bytes ≡ old.max_bytes - length old.bytes.bytes - length piece = omega arith in
    λ i. record { pieces = pieces i; spare_pieces = spare_pieces i; spare_bytes = spare_bytes i }
