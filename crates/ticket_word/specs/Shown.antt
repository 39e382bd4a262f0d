-- How a word and its seats show themselves.
use Rattle.std.specs.Prelude.{◌≡◌, []}
use Rattle.ticket_word.specs.Seats.{WordName, SeatState}
use Rattle.ticket_word.specs.declared.seat.TicketSeat.TheInside as seat
use Rattle.ticket_word.specs.declared.word.TicketWord.TheInside as word

-- a seat as contracts see it
abbrev pub seat_shown : seat.Inside → SeatState
seat_shown s = record {
  word = record { table = s.seat.table_id; total = s.seat.me.0.total };
  tickets = s.seat.me.0.tickets;
  allowance = s.seat.me.0.allowance;
}

-- it holds no slot, since the table has none
abbrev pub HoldsNoSlot : seat.Inside → Type 0
HoldsNoSlot s = s.seat.me.1 ≡ []

-- a word as contracts see it
abbrev pub word_shown : word.Inside → WordName
word_shown w = record { table = w.table.shared.table_id; total = w.table.shared.key }

-- its table is one word, and no slot
abbrev pub IsOneWord : word.Inside → Type 0
IsOneWord w = (w.table.shared.table_id.words ≡ 1) × (w.table.shared.table_id.slots ≡ 0)
