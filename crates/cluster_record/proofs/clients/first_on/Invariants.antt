use Rattle.std.proofs.Common.{◌≡◌, drop}
use Rattle.cluster_record.specs.Failing.{first_on}
use Rattle.cluster_record.proofs.clients.first_on.Given as goal

abbrev pub invariant-loop-live : goal.invariant-loop-live
invariant-loop-live l = first_on l.node (drop l.live-index l.clients) ≡ first_on l.node l.clients
