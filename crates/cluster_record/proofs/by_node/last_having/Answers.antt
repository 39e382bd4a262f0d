use Rattle.std.proofs.Common.{◌≡◌, ℕ, suc, ◌+◌, ◌-◌, drop, None, sym, subst, ◌∙◌, arith}
use Rattle.cluster_record.specs.StepDone.{last_having}
use Rattle.cluster_record.proofs.NoneAbove.{last_having-behind, last_having-highest}
use Rattle.cluster_record.proofs.by_node.last_having.Goals as goal

pub loop-r-init : goal.loop-r-init
loop-r-init c = last_having-behind (c.args.top + 1) (c.args.top + 1) c.args.nodes.now c.args.own.now (λ q from. c.requires.none q (omega (arith, from)))

pub returns-then-has-clause-value : goal.returns-then-has-clause-value
returns-then-has-clause-value c =
    let here : c.loop-r.r ≡ suc (c.loop-r.r - 1) = omega arith in
    let behind = subst (λ (i : ℕ). last_having i (drop i c.args.nodes.now) (drop i c.args.own.now) ≡ None) here c.loop-r.invariant in
    sym (last_having-highest (c.loop-r.r - 1) 0 (suc (c.loop-r.r - 1)) (c.loop-r.r - 1) c.args.nodes.now c.args.own.now (omega arith) (omega arith) behind (sym c.has.ensures ∙ c.if-has.true))
