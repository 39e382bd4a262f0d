use Rattle.std.proofs.Common.{rules}
use Rattle.load_script.proofs.lines.turn_written.Goals as goal

pub returns : goal.returns
returns c = search rules
