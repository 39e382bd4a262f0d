use Rattle.std.proofs.Common.{sym, ap, ◌∙◌, ◌≡◌, ◌+◌, arith}
use Rattle.std.specs.Prelude.{is_some}
use Rattle.cluster_record.proofs.NoneAbove.{last_having-behind}
use Rattle.cluster_record.proofs.by_node.has_any.Goals as goal

pub returns : goal.returns
returns c =
    let end : c.loop-r.r ≡ c.args.top + 1 = omega arith in
    sym (ap is_some (last_having-behind c.loop-r.r c.loop-r.r c.args.nodes.now c.args.own.now (λ q from. c.requires.none q (omega (arith, end, from)))))
    ∙ c.loop-r.invariant
