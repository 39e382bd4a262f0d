use Rattle.std.specs.Prelude.{IfSome, ◌<◌, length}
use Rattle.std.proofs.Common.{IsSome, sym, subst, ◌∙◌}
use Rattle.cluster_record.proofs.Places.{found_key}
use Rattle.cluster_record.proofs.AtKeys.{none_at}
use Rattle.node_core.specs.Nodes.{replica_key}
use Rattle.node_core.proofs.replicas.place_there.Goals as goal

pub unreachable-requires : goal.unreachable-requires
unreachable-requires c = let there = subst IsSome (none_at replica_key c.args.ckpt c.args.replicas.now c.place_of.result c.place_of.ensures.place c.in_default.is) c.requires.there in cc

pub returns : goal.returns
returns c =
    let g = found_key replica_key c.args.ckpt c.args.replicas.now c.in-Some.place (sym c.place_of.ensures.place ∙ c.in-Some.is) in
    record {
      within = subst (λ o. IfSome o (λ i. i < length c.args.replicas.now)) c.in-Some.is c.place_of.ensures.within;
      there = g.1.found ∙ sym g.1.at;
      set = λ x. g.1.changes (λ z. x);
    }
