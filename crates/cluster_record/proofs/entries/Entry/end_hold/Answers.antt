use Rattle.std.proofs.Common.{rules}
use Rattle.cluster_record.proofs.entries.Entry.end_hold.Goals as goal

pub returns-then-is_call_of : goal.returns-then-is_call_of
returns-then-is_call_of c = search rules

pub returns-else-is_call_of : goal.returns-else-is_call_of
returns-else-is_call_of c = search rules
