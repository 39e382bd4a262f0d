use Rattle.std.proofs.Common.{◌∙◌, slice_index}
use Rattle.std.proofs.lemmas.Bool.{ne_eqb}
use Rattle.cluster_record.specs.RecordState.{entry_of}
use Rattle.ckpt_machine.proofs.LentReplicas.{left_as}
use Rattle.world_core.specs.Copying.{copied_over}
use Rattle.world_core.proofs.CopiedNodes.{copied_as}
use Rattle.world_core.proofs.copying.complete.Goals as goal

pub returns : goal.returns
returns c =
    let o = entry_of c.args.ckpt c.args.cluster.now.entries in
    let e = c.in-Some-Some.entry.now in
    let s = c.in-Some-Some.snap in
    left_as c.args.nodes.now c.args.ckpt c.args.r c.at-replica.result.now c.at-replica.ensures.value (copied_over c.args.call c.args.moment e.generation s) c.take_copy.new.replica c.take_copy.ensures
    ∙ copied_as c.args.nodes.now c.args.ckpt c.args.r c.args.call c.args.moment o e c.in-Some-Some.ensures.found c.args.pulled.now s c.in-Some-Some.is-1 (ne_eqb (slice_index e.complete c.args.r) 0 c.if-entry-r-eq0.false)
