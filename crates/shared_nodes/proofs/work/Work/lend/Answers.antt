use Rattle.std.proofs.Common.{rules}
use Rattle.shared_nodes.proofs.work.Work.lend.Goals as goal

pub returns-in-Stage-clause-beside : goal.returns-in-Stage-clause-beside
returns-in-Stage-clause-beside c = search rules

pub returns-in-Stage-clause-kept : goal.returns-in-Stage-clause-kept
returns-in-Stage-clause-kept c = search rules
