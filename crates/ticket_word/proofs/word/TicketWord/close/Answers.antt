use Rattle.std.proofs.Common.{◌≡◌, ◌+◌, ◌∙◌, length, sym, ap, subst}
use Rattle.ticket_word.specs.Seats.{SeatState, WordName, AreAllBelow}
use Rattle.ticket_word.proofs.Steps.{has_all}
use Rattle.ticket_word.proofs.word.TicketWord.close.Goals as goal

has_them : (c : goal.After-free) → AreAllBelow c.word-drawn.result c.args.seat.tickets × (c.word-drawn.result ≡ length c.args.seat.tickets)
has_them c =
    let total = ap (λ (w : WordName). w.total) c.self.view_is in
    subst (λ (s : SeatState). (length s.tickets + s.allowance ≡ c.args.self.total) → AreAllBelow c.word-drawn.result s.tickets × (c.word-drawn.result ≡ length s.tickets)) c.seat.view_is
    (λ all. has_all _ _ _ _ _ _ c.close_with-closed.ensures.values.2 (all ∙ sym total) c.word-drawn.ensures) c.requires.all

pub returns-clause-each : goal.returns-clause-each
returns-clause-each c = (has_them c).0

pub returns-clause-count : goal.returns-clause-count
returns-clause-count c = (has_them c).1
