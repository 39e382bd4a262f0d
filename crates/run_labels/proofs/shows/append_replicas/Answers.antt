use Rattle.std.proofs.Common.{◌++◌, ap, ◌∙◌}
use Rattle.run_labels.specs.Shows.{replica_line}
use Rattle.run_labels.proofs.EachText.{append-flat_map-item}
use Rattle.run_labels.proofs.shows.append_replicas.Goals as goal

pub loop-replica-preserved : goal.loop-replica-preserved
loop-replica-preserved c =
    let replica = c.replica-item.result in
    let line = replica_line c.args.ckpt in
    c.in_ok-append_replica.ensures
    ∙ ap (λ out. out ++ line replica) c.loop-replica.invariant
    ∙ append-flat_map-item line c.args.out.now.items c.args.replicas.now c.loop-replica.replica-index replica c.loop-replica-test.true c.replica-item.is
