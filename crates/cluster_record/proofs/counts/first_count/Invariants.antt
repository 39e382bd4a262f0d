use Rattle.std.proofs.Common.{◌≡◌, drop}
use Rattle.cluster_record.specs.Counts.{count_told}
use Rattle.cluster_record.proofs.counts.first_count.Given as goal

abbrev pub invariant-loop-each : goal.invariant-loop-each
invariant-loop-each l = count_told (drop l.each-index l.told) l.ckpt l.node ≡ count_told l.told l.ckpt l.node
