use Rattle.script_lang.proofs.Fitting.{parses_script, parses_built}
use Rattle.script_lang.proofs.parser.parse.Goals as goal

pub returns-clause-script : goal.returns-clause-script
returns-clause-script c = parses_script c.args.bytes.now c.parse_exactly.result c.parse_exactly.ensures

pub returns-clause-built : goal.returns-clause-built
returns-clause-built c = parses_built c.args.bytes.now c.parse_exactly.result c.parse_exactly.ensures
