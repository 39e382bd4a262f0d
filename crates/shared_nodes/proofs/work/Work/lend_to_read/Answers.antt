use Rattle.std.proofs.Common.{◌≡◌, ◌-◌, ◌<◌, ap, arith, ◌∙◌}
use Rattle.std.specs.Prelude.{Some, vec_len}
use Rattle.ckpt_types.specs.Asks.{elements_of}
use Rattle.ckpt_types.specs.Buffer.{Buffer}
use Rattle.shared_nodes.specs.Works.{read_buffer}
use Rattle.shared_nodes.proofs.Handing.{read_kept, read_lent, some_left}
use Rattle.shared_nodes.proofs.work.Work.lend_to_read.Goals as goal

pub returns-clause-lent : goal.returns-clause-lent
returns-clause-lent c =
    let alike = c.in-Some.ensures.alike (elements_of c.self.inside.op) c.self.invariant.elements in
    let some : 0 < vec_len c.self.inside.reads = some_left _ _ c.is_empty.ensures c.if-is_empty.false in
    let buffer : Buffer = read_buffer c.self.inside.op in
    let room : c.pop-read.result ≡ Some buffer = c.pop-read.ensures.value buffer some ∙ ap (λ (b : Buffer). Some b) (c.self.invariant.reads (vec_len c.self.inside.reads - 1) buffer (omega (arith, some))) in
    c.lent_of.ensures ∙ read_lent _ c.args.self.now _ _ c.self.view_is c.in-Some.ensures.many some alike.0 room

pub returns-clause-beside : goal.returns-clause-beside
returns-clause-beside c =
    let alike = c.in-Some.ensures.alike (elements_of c.self.inside.op) c.self.invariant.elements in
    read_kept _ c.args.self.now _ c.self.view_is c.in-Some.ensures.many (some_left _ _ c.is_empty.ensures c.if-is_empty.false) alike.1
