use Rattle.std.proofs.Common.{rules}
use Rattle.load_script.proofs.generating.load_lines.Goals as goal

pub returns : goal.returns
returns c = search rules
