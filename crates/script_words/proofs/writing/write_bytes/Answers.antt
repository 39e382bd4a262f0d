use Rattle.std.proofs.lemmas.Grind.{common_steps}
use Rattle.std.proofs.Common.{arith}
use Rattle.script_words.proofs.writing.write_bytes.Goals as goal

pub returns : goal.returns
returns c = grind (arith, common_steps)
