-- What becomes of a seat by a draw, and by a label.
use Rattle.std.proofs.Common.{◌≡◌, ℕ, ◌+◌, ◌-◌, ◌*◌, ◌<◌, ◌≤◌, List, [], ◌∷◌, ◌++◌, length, arith, refl, sym, ap, ◌∙◌, subst, length-append}
use Rattle.std.specs.Prelude.{All}
use Rattle.run_labels.specs.declared.labels.Label.{Label}
use Rattle.shared_nodes.specs.Trails.{KeptTrail, tickets_of}
use Rattle.shared_nodes.specs.declared.trail.Noted.{Noted}
use Rattle.ticket_word.specs.Seats.{SeatState, drawn_by}
use Rattle.client_seats.specs.SeatState.{KeptSeat}
use Rattle.client_seats.specs.Seats.{labels_left, labels_max, noted, with_label, HasDrawn, IsReady}

tickets_of_more : (notes : List Noted) (note : Noted) → tickets_of (notes ++ note ∷ []) ≡ tickets_of notes ++ note.ticket ∷ []
tickets_of_more [] note = refl
tickets_of_more (n ∷ notes) note = ap (λ (tickets : List ℕ). n.ticket ∷ tickets) (tickets_of_more notes note)

-- a seat that is ready, and has a label left, draws a ticket
pub drawn_ready : (s : KeptSeat) (ticket : ℕ) → IsReady s → 0 < labels_left s → All (λ other. other < ticket) s.tickets.tickets → HasDrawn (record s { tickets = drawn_by s.tickets ticket }) ticket
drawn_ready s ticket ready left above =
    let more : length (s.tickets.tickets ++ ticket ∷ []) ≡ length s.tickets.tickets + 1 = length-append s.tickets.tickets (ticket ∷ []) in
    let may : labels_left s ≤ s.tickets.allowance = ready.may in
    let sum : length s.tickets.tickets + s.tickets.allowance ≡ labels_max * s.made = ready.sum in
    record {
      drawn = ap (λ l. l ++ ticket ∷ []) ready.tied;
      above = subst (λ l. All (λ other. other < ticket) l) ready.tied above;
      left = left;
      room = ready.room;
      may = omega (arith, may, left);
      sum = omega (arith, more, sum, may, left);
    }

-- one that has drawn a ticket is ready again where its label stands behind the others, and it may still add fewer
pub ready_noted : (s new : KeptSeat) (ticket : ℕ) (label : Label) → HasDrawn s ticket → new.trail ≡ with_label ticket label s.trail → new.tickets ≡ s.tickets → new.made ≡ s.made
    → labels_left new < labels_left s → IsReady new
ready_noted s new ticket label has trail tickets made fewer =
    let notes : tickets_of new.trail.notes ≡ tickets_of s.trail.notes ++ ticket ∷ [] = ap (λ (t : KeptTrail). tickets_of t.notes) trail ∙ tickets_of_more s.trail.notes (noted ticket label) in
    let spare : new.trail.spare ≡ s.trail.spare - 1 = ap (λ (t : KeptTrail). t.spare) trail in
    let same : new.tickets.tickets ≡ s.tickets.tickets = ap (λ (t : SeatState). t.tickets) tickets in
    let many : length new.tickets.tickets ≡ length s.tickets.tickets = ap length same in
    let allowed : new.tickets.allowance ≡ s.tickets.allowance = ap (λ (t : SeatState). t.allowance) tickets in
    let room : labels_left s ≤ s.trail.spare = has.room in
    let may : labels_left s ≤ s.tickets.allowance + 1 = has.may in
    let sum : length s.tickets.tickets + s.tickets.allowance ≡ labels_max * s.made = has.sum in
    record {
      tied = same ∙ has.drawn ∙ sym notes;
      room = omega (arith, room, spare, fewer);
      may = omega (arith, allowed, may, fewer);
      sum = omega (arith, many, allowed, made, sum);
    }
