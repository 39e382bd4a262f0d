use Rattle.std.proofs.Common.{◌≡◌, sym, ap, subst, ◌∙◌, rules}
use Rattle.std.specs.Prelude.{Option, Some, IfSome}
use Rattle.ckpt_types.specs.declared.operation.Op.{Op}
use Rattle.client_calls.specs.TableState.{TableState}
use Rattle.cluster_record.specs.Calls.{left}
use Rattle.client_seats.specs.SeatState.{KeptCall, KeptSeat}
use Rattle.client_seats.specs.SeatView.{seat_shown}
use Rattle.client_seats.specs.Seats.{with_label, IsSeatOf, IsUnderWay}
use Rattle.client_seats.specs.Told.{call_told, event_label, table_told, IsDueFor, IsTold, MayGiveBy}
use Rattle.client_seats.proofs.TellLaws.{may_give, told_seat}
use Rattle.client_seats.proofs.seat.ClientSeat.told.Goals as goal

pub tell_table-requires-clause-may : goal.tell_table-requires-clause-may
tell_table-requires-clause-may c =
    let s = seat_shown c.self.inside in
    let held : s.call ≡ Some c.in-Some.call = c.in-Some.is in
    let op : c.call-2.inside.hand.op ≡ c.in-Some.call.hand.op = ap (λ (x : KeptCall). x.hand.op) c.call-2.view_is ∙ ap (λ (x : KeptCall). x.hand.op) c.tell_call-end.ensures.new in
    let due = subst (λ (o : Option KeptCall). IsDueFor s o c.args.step c.args.reply) held (subst (λ (s : KeptSeat). IsDueFor s s.call c.args.step c.args.reply) (sym c.self.view_is) c.requires.due) in
    let under = subst (λ (o : Option KeptCall). IfSome o (IsUnderWay s.client s.calls s.table)) held c.self.invariant.call in
    subst (λ (x : Op). MayGiveBy x c.args.step c.args.reply s.table) (sym op) (may_give s c.in-Some.call c.args.step c.args.reply c.self.invariant under held due)

pub invariant_of-self : goal.invariant_of-self
invariant_of-self c =
    let s = seat_shown c.self.inside in
    let R = c.args.seen.now in
    let end = c.tell_call-end.result in
    let held : s.call ≡ Some c.in-Some.call = c.in-Some.is in
    let op : c.call-2.inside.hand.op ≡ c.in-Some.call.hand.op = ap (λ (x : KeptCall). x.hand.op) c.call-2.view_is ∙ ap (λ (x : KeptCall). x.hand.op) c.tell_call-end.ensures.new in
    let due = subst (λ (o : Option KeptCall). IsDueFor s o c.args.step c.args.reply) held (subst (λ (s : KeptSeat). IsDueFor s s.call c.args.step c.args.reply) (sym c.self.view_is) c.requires.due) in
    let under = subst (λ (o : Option KeptCall). IfSome o (IsUnderWay s.client s.calls s.table)) held c.self.invariant.call in
    let table = c.tell_table.ensures ∙ ap (λ (x : Op). table_told R x c.args.step c.args.ckpt c.args.reply end s.table) op in
    let call = c.let_go.ensures ∙ ap (left end) c.tell_call-end.ensures.new in
    subst (λ (t : TableState). IsSeatOf (record s { table = t; call = c.let_go.new.place })) (sym table)
    (subst (λ (k : Option KeptCall). IsSeatOf (record s { table = table_told R c.in-Some.call.hand.op c.args.step c.args.ckpt c.args.reply end s.table; call = k })) (sym call)
    (told_seat R s c.in-Some.call c.args.step c.args.ckpt c.args.reply end c.self.invariant under held due c.tell_call-end.ensures.end))

pub returns-clause-told : goal.returns-clause-told
returns-clause-told c =
    let s = seat_shown c.self.inside in
    let R = c.args.seen.now in
    let end = c.tell_call-end.result in
    let held = c.in-Some.call in
    let op : c.call-2.inside.hand.op ≡ held.hand.op = ap (λ (x : KeptCall). x.hand.op) c.call-2.view_is ∙ ap (λ (x : KeptCall). x.hand.op) c.tell_call-end.ensures.new in
    let table = c.tell_table.ensures ∙ ap (λ (x : Op). table_told R x c.args.step c.args.ckpt c.args.reply end s.table) op in
    let call = c.let_go.ensures ∙ ap (left end) c.tell_call-end.ensures.new in
    let label : c.stepped.result ≡ event_label held c.args.step c.args.ckpt c.args.reply end = search rules in
    let seat : c.note.new.self ≡ record s {
      table = table_told R held.hand.op c.args.step c.args.ckpt c.args.reply end s.table;
      call = left end (call_told R c.args.reply held);
      trail = with_label c.args.ticket (event_label held c.args.step c.args.ckpt c.args.reply end) s.trail;
    } = c.note.ensures ∙ (λ i. record s { table = table i; call = call i; trail = with_label c.args.ticket (label i) s.trail }) in
    subst (λ (old : KeptSeat). IsTold R c.args.step c.args.ckpt c.args.reply c.args.ticket old c.note.new.self end) c.self.view_is
    (record { call = held; in_hand = c.in-Some.is; answer = c.tell_call-end.ensures.end; seat = seat })
