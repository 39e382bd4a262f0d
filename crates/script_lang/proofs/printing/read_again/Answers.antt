use Rattle.script_lang.proofs.Again.{script_again}
use Rattle.script_lang.proofs.printing.read_again.Goals as goal

pub returns : goal.returns
returns c = script_again
