use Rattle.std.proofs.Common.{◌≡◌, ◌++◌, ◌∷◌, [], sym, ap, subst, ◌∙◌, arith}
use Rattle.ckpt_machine.specs.Nodes.{nodes_shown, StandByNumber}
use Rattle.cluster_nodes.proofs.Numbered.{nodes_from, first_nodes-next, numbered_first, shown_first}
use Rattle.cluster_nodes.proofs.nodes.new_nodes.Goals as goal

pub loop-r-preserved : goal.loop-r-preserved
loop-r-preserved c =
    c.in_ok-push.ensures.items
    ∙ (λ i. c.loop-r.invariant i ++ c.in_ok-new.ensures i ∷ [])
    ∙ first_nodes-next c.loop-r.r

pub returns-clause-shown : goal.returns-clause-shown
returns-clause-shown c =
    let all : c.loop-r.r ≡ 8 = omega arith in
    ap nodes_shown c.loop-r.invariant ∙ ap (λ n. nodes_shown (nodes_from n)) all ∙ shown_first

pub returns-clause-numbered : goal.returns-clause-numbered
returns-clause-numbered c =
    let all : c.loop-r.r ≡ 8 = omega arith in
    subst StandByNumber (sym (c.loop-r.invariant ∙ ap nodes_from all)) numbered_first
