use Rattle.std.proofs.Common.{sym, subst}
use Rattle.cluster_record.specs.Failing.{TellsOthers}
use Rattle.world_core.proofs.FailedWorld.{shown_tells}
use Rattle.world_core.proofs.world.World.lose.Goals as goal

pub fail-requires-clause-counts : goal.fail-requires-clause-counts
fail-requires-clause-counts c = subst (λ told. TellsOthers told c.args.r c.args.self.now.cluster.entries) (sym c.counts_of-counts.ensures) (shown_tells c.args.self.now c.args.r c.requires.shown)
