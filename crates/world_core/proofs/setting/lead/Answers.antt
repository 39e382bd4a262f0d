use Rattle.std.proofs.Common.{None, Some, slice_index, sym, ap, ◌∙◌}
use Rattle.std.proofs.lemmas.Bool.{ne_eqb}
use Rattle.cluster_record.specs.RecordState.{entry_of}
use Rattle.ckpt_machine.specs.Leading.{leading, nodes_led}
use Rattle.ckpt_machine.proofs.LentReplicas.{led_as, left_as, unchanged}
use Rattle.world_core.proofs.setting.lead.Goals as goal

-- without a replica nothing changes
pub returns-in_default-find : goal.returns-in_default-find
returns-in_default-find c =
    let o = entry_of c.args.ckpt c.args.cluster.now.entries in
    let e = c.in-Some.entry.now in
    sym (unchanged c.args.nodes.now c.args.ckpt c.args.r (leading None e.generation) c.in_default-find.ensures)
    ∙ led_as c.args.nodes.now c.args.ckpt c.args.r o e c.in-Some.ensures.found None (ne_eqb (slice_index e.complete c.args.r) 0 c.if-entry-r-eq0.false)
    ∙ ap (λ held. nodes_led c.args.ckpt c.args.r held o c.args.nodes.now) (sym c.in-None.is)

pub returns-in-Some-find : goal.returns-in-Some-find
returns-in-Some-find c =
    let o = entry_of c.args.ckpt c.args.cluster.now.entries in
    let e = c.in-Some.entry.now in
    left_as c.args.nodes.now c.args.ckpt c.args.r c.at.result.now c.at.ensures.value (leading None e.generation) c.lead.new.self c.lead.ensures
    ∙ led_as c.args.nodes.now c.args.ckpt c.args.r o e c.in-Some.ensures.found None (ne_eqb (slice_index e.complete c.args.r) 0 c.if-entry-r-eq0.false)
    ∙ ap (λ held. nodes_led c.args.ckpt c.args.r held o c.args.nodes.now) (sym c.in-None.is)

pub returns-in-Some-held : goal.returns-in-Some-held
returns-in-Some-held c =
    let o = entry_of c.args.ckpt c.args.cluster.now.entries in
    let e = c.in-Some.entry.now in
    left_as c.args.nodes.now c.args.ckpt c.args.r c.at-in-Some-held.result.now c.at-in-Some-held.ensures.value (leading (Some c.in-Some-held.snap) e.generation) c.complete_from.new.self c.complete_from.ensures
    ∙ led_as c.args.nodes.now c.args.ckpt c.args.r o e c.in-Some.ensures.found (Some c.in-Some-held.snap) (ne_eqb (slice_index e.complete c.args.r) 0 c.if-entry-r-eq0.false)
    ∙ ap (λ held. nodes_led c.args.ckpt c.args.r held o c.args.nodes.now) (sym c.in-Some-held.is)
