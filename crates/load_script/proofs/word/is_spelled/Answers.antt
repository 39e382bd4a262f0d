use Rattle.std.proofs.Common.{rules}
use Rattle.load_script.proofs.word.is_spelled.Goals as goal

pub returns : goal.returns
returns c = search rules
