use Rattle.script_lang.proofs.Fitting.{text_again}
use Rattle.script_lang.proofs.printing.print.Goals as goal

pub returns-clause-again : goal.returns-clause-again
returns-clause-again c = text_again c.args.script.now c.spell.result c.spell.ensures
