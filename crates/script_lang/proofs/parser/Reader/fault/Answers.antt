use Rattle.std.proofs.Common.{rules}
use Rattle.script_lang.proofs.parser.Reader.fault.Goals as goal

pub returns : goal.returns
returns c = search rules
