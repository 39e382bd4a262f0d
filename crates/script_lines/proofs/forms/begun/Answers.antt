use Rattle.std.proofs.Common.{rules}
use Rattle.script_lines.proofs.forms.begun.Goals as goal

pub returns-in-Call : goal.returns-in-Call
returns-in-Call c = search rules
