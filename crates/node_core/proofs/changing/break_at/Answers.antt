use Rattle.cluster_record.proofs.Places.{changes_at, changes_none}
use Rattle.replica.specs.Replicas.{Replica, abandoned}
use Rattle.node_core.specs.Nodes.{replica_key}
use Rattle.node_core.proofs.changing.break_at.Goals as goal

pub returns-in_default : goal.returns-in_default
returns-in_default c =
    changes_none replica_key c.args.ckpt (λ (x : Replica). abandoned x x.marks) c.args.replicas.now c.place_of.result c.place_of.ensures.place c.in_default.is

pub returns : goal.returns
returns c =
    changes_at replica_key c.args.ckpt (λ (x : Replica). abandoned x x.marks) c.args.replicas.now c.place_of.result c.place_of.ensures.place c.in-Some.i c.index-replicas-i.result c.weak_abandon.new.self c.in-Some.is c.weak_abandon.ensures
