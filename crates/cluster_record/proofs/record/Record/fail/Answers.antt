use Rattle.std.proofs.Common.{slice_set, sym, ap, subst, ◌∙◌}
use Rattle.cluster_record.specs.Counts.{count_told}
use Rattle.cluster_record.specs.Failing.{goes_with_node, without_replicas, failed}
use Rattle.cluster_record.specs.RecordReady.{CanSetActive}
use Rattle.cluster_record.specs.RecordState.{RecordState, entry_of}
use Rattle.cluster_record.specs.RecordView.{record_of}
use Rattle.cluster_record.proofs.FailLaws.{cut_off-rises}
use Rattle.cluster_record.proofs.record.Record.fail.Goals as goal

pub lose_replicas-requires : goal.lose_replicas-requires
lose_replicas-requires c =
    let inside = c.self.inside in
    let down : RecordState = record (record_of inside) { up = slice_set inside.up c.args.node 0 } in
    λ k. subst (λ (R : RecordState). CanSetActive (entry_of k R.entries)) (sym c.cut_off.ensures) (cut_off-rises (goes_with_node down c.args.node) down c.self.invariant.entries.order (λ k. subst (λ (R : RecordState). CanSetActive (entry_of k R.entries)) (sym c.self.view_is) (c.requires.generations k)) k)

pub returns : goal.returns
returns c =
    let counts = count_told c.args.counts.now in
    c.lose_replicas.ensures ∙ ap (without_replicas counts c.args.node) c.cut_off.ensures ∙ ap (failed counts c.args.node) c.self.view_is
