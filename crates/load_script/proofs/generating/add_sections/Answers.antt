use Rattle.std.proofs.Common.{rules}
use Rattle.load_script.proofs.generating.add_sections.Goals as goal

pub returns : goal.returns
returns c = search rules
