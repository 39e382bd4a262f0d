use Rattle.std.proofs.Common.{rules, sym, ap, ◌∙◌}
use Rattle.std.proofs.lemmas.Fn.{filter_same}
use Rattle.std.specs.List.{list_all}
use Rattle.node_core.specs.Nodes.{is_there}
use Rattle.node_core.proofs.Staying.{filter-all}
use Rattle.node_core.proofs.replicas.keep_there.Goals as goal

pub returns-then-all_there : goal.returns-then-all_there
returns-then-all_there c =
    let p = is_there c.args.seen.now.entries in
    sym (filter-all p c.args.replicas.now.items (sym (ap (list_all p) c.as_slice.ensures.value) ∙ sym c.all_there.ensures ∙ c.if-all_there.true))

pub returns : goal.returns
returns c = filter_same _ _ _ (λ x b f' k. search rules) _ _ c.retain.ensures.filtered
