use Rattle.std.proofs.Common.{rules}
use Rattle.load_summary.proofs.telling.append_code.Goals as goal

pub returns : goal.returns
returns c = search rules
