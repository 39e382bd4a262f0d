use Rattle.std.proofs.Common.{rules}
use Rattle.node_msgs.proofs.next.RecordStep.verb.Goals as goal

pub returns-in-Undo : goal.returns-in-Undo
returns-in-Undo c = search rules
