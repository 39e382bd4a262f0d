use Rattle.std.proofs.Common.{◌≡◌, ◌++◌, ◌∷◌, [], arith, ap, ◌∙◌}
use Rattle.std.specs.Prelude.{replicate}
use Rattle.std.proofs.lemmas.List.{replicate-append-replicate}
use Rattle.client_calls.specs.NewTable.{new_table}
use Rattle.world_core.proofs.tables.new_tables.Goals as goal

pub loop-n-preserved : goal.loop-n-preserved
loop-n-preserved c = c.push_reserved.ensures.items ∙ (λ i. c.loop-n.invariant i ++ c.new.ensures i ∷ []) ∙ replicate-append-replicate c.loop-n._n 1 new_table

pub returns : goal.returns
returns c =
    let all : c.loop-n._n ≡ 100 = omega arith in
    c.loop-n.invariant ∙ ap (λ n. replicate n new_table) all
