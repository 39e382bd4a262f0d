use Rattle.std.proofs.Common.{rules}
use Rattle.cluster_record.proofs.leaders.with_more.Goals as goal

pub returns-in-Some : goal.returns-in-Some
returns-in-Some c = search rules
