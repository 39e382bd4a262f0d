use Rattle.cluster_record.proofs.Places.{changes_at}
use Rattle.node_core.specs.Changing.{taken_lent, TakesLent}
use Rattle.node_core.specs.Nodes.{replica_key}
use Rattle.node_core.proofs.AtPlaces.{has_place, holds_at}
use Rattle.node_core.proofs.changing.take_at.Goals as goal

pub unreachable-requires : goal.unreachable-requires
unreachable-requires c = has_place c.args.ckpt c.args.replicas.now c.place_of.result c.place_of.ensures.place (TakesLent c.args.lent.now) c.in_default.is c.requires

pub take_lent-requires : goal.take_lent-requires
take_lent-requires c = holds_at c.args.ckpt c.args.replicas.now c.place_of.result c.place_of.ensures.place (TakesLent c.args.lent.now) c.in-Some.i c.index-replicas-i.result c.in-Some.is c.requires

pub returns : goal.returns
returns c = changes_at replica_key c.args.ckpt (taken_lent c.args.generation c.args.lent.now.snap) c.args.replicas.now c.place_of.result c.place_of.ensures.place c.in-Some.i c.index-replicas-i.result c.take_lent.new.replica c.in-Some.is c.take_lent.ensures
