use Rattle.std.proofs.Common.{rules}
use Rattle.cluster_record.proofs.joining.lead_lowest.Goals as goal

pub returns-after-not-is_active : goal.returns-after-not-is_active
returns-after-not-is_active c = search rules
