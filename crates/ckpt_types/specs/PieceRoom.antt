-- How pieces are kept in room that was taken: one behind another, with the ends of all but the last.
use Rattle.std.specs.Prelude.{◌-◌, ◌≤◌, length, vec_capacity}
use Rattle.ckpt_types.specs.Buffer.{Buffer}
use Rattle.ckpt_types.specs.Ends.{pieces_in, ArePieces}
use Rattle.ckpt_types.specs.declared.piece_room.PieceRoom.TheInside.{Inside}

-- the pieces stand within the room that was taken
pub record IsRoomy (b : Inside) : Type 0 where
  pub pieces : ArePieces b.count b.breaks.items (length b.bytes.bytes)
  pub bytes_declared : length b.bytes.bytes ≤ b.max_bytes
  pub pieces_declared : b.count ≤ b.max_pieces
  pub bytes_taken : b.max_bytes ≤ b.bytes.capacity
  pub breaks_taken : b.max_pieces - 1 ≤ vec_capacity b.breaks

-- the room as contracts see it: its pieces, and for how many more pieces and bytes there is room
abbrev pub buffer_of : Inside → Buffer
buffer_of b = record {
  pieces = pieces_in b.count b.breaks.items b.bytes.bytes;
  spare_pieces = b.max_pieces - b.count;
  spare_bytes = b.max_bytes - length b.bytes.bytes;
}
