use Rattle.std.proofs.Common.{ap, arith}
use Rattle.cluster_record.specs.Makings.{makings_of}
use Rattle.cluster_record.proofs.MakingCounts.{makings_of-few}
use Rattle.cluster_record.proofs.record.Record.makings.Goals as goal

pub returns-clause-few : goal.returns-clause-few
returns-clause-few c = omega (arith, c.makings_in.ensures, ap (makings_of c.args.client) c.as_slice.ensures.value, makings_of-few c.args.client c.self.inside.entries.items, c.self.invariant.entries.few)
