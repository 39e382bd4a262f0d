use Rattle.std.proofs.Common.{◌≡◌, ◌≤◌, length, sum_by, sym, subst}
use Rattle.std.specs.Prelude.{IsOk, IfOk}
use Rattle.section_store.specs.StoreState.{with_pieces}
use Rattle.section_store.proofs.Reading.{read-all}
use Rattle.section_store.proofs.store.Store.read_into.Goals as goal

pub read_all-requires-clause-readable : goal.read_all-requires-clause-readable
read_all-requires-clause-readable c = subst IsOk (read-all c.args.now c.args.elements.now c.self.inside.kept.sections c.self.invariant.rises (rw (← c.self.view_is) at c.requires.readable)) (rw (← c.self.view_is) at c.requires.readable)

pub read_all-requires-clause-room : goal.read_all-requires-clause-room
read_all-requires-clause-room c =
    subst (λ r. IfOk r (λ pieces. sum_by length pieces ≤ c.args.out.now.spare_bytes)) (read-all c.args.now c.args.elements.now c.self.inside.kept.sections c.self.invariant.rises (rw (← c.self.view_is) at c.requires.readable)) (rw (← c.self.view_is) at c.requires.room)

pub returns : goal.returns
returns c =
    let readable = rw (← c.self.view_is) at c.requires.readable in
    let same = read-all c.args.now c.args.elements.now c.self.inside.kept.sections c.self.invariant.rises readable in
    rw (← c.self.view_is) (subst (λ r. IfOk r (λ pieces. c.read_all.new.out ≡ with_pieces pieces c.args.out.now)) (sym same) c.read_all.ensures)
