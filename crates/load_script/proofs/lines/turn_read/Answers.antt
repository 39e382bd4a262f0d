use Rattle.std.proofs.Common.{rules}
use Rattle.load_script.proofs.lines.turn_read.Goals as goal

pub returns : goal.returns
returns c = search rules
