use Rattle.std.proofs.Common.{rules}
use Rattle.load_script.proofs.lines.checkpoint_opened.Goals as goal

pub returns : goal.returns
returns c = search rules
