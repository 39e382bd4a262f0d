use Rattle.std.proofs.Common.{◌≡◌, length, arith, sym, ap, subst, ◌∙◌}
use Rattle.std.proofs.lemmas.List.{with_items_is}
use Rattle.std.proofs.lemmas.Result.{on_ok_weaker, on_err_weaker}
use Rattle.ckpt_machine.specs.Nodes.{nodes_shown, with_added, StandByNumber}
use Rattle.cluster_nodes.proofs.nodes.Nodes.add.Goals as goal

pub returns-clause-ok : goal.returns-clause-ok
returns-clause-ok c =
    let full : length c.add_to.new.nodes ≡ c.self.inside.list.len = omega (arith, ap length c.as_mut_slice.ensures.value) in
    on_ok_weaker c.add_to.result (λ added. ap nodes_shown (with_items_is c.self.inside.list c.add_to.new.nodes full) ∙ added ∙ ap (with_added c.args.entry.now c.args.r) (ap nodes_shown c.as_mut_slice.ensures.value ∙ c.self.view_is)) c.add_to.ensures.ok

pub returns-clause-err : goal.returns-clause-err
returns-clause-err c =
    let full : length c.add_to.new.nodes ≡ c.self.inside.list.len = omega (arith, ap length c.as_mut_slice.ensures.value) in
    on_err_weaker c.add_to.result (λ same. ap nodes_shown (with_items_is c.self.inside.list c.add_to.new.nodes full) ∙ same ∙ ap nodes_shown c.as_mut_slice.ensures.value ∙ c.self.view_is) c.add_to.ensures.err

pub invariant_of-self : goal.invariant_of-self
invariant_of-self c =
    let full : length c.add_to.new.nodes ≡ c.self.inside.list.len = omega (arith, ap length c.as_mut_slice.ensures.value) in
    subst StandByNumber (sym (with_items_is c.self.inside.list c.add_to.new.nodes full)) c.add_to.ensures.numbered
