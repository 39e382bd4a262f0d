use Rattle.std.proofs.Common.{◌≡◌, drop}
use Rattle.cluster_record.specs.Counts.{count_told}
use Rattle.cluster_record.specs.Failing.{most_updated}
use Rattle.cluster_record.proofs.leaders.most_updated.Given as goal

abbrev pub invariant-loop-r : goal.invariant-loop-r
invariant-loop-r l = l.most ≡ most_updated (count_told l.counts l.ckpt) l.r (drop l.r l.complete)
