use Rattle.std.proofs.Common.{rules}
use Rattle.cluster_record.proofs.record.Record.answer_free.Goals as goal

pub returns : goal.returns
returns c = search rules
