use Rattle.std.proofs.Common.{rules}
use Rattle.script_words.proofs.reading.begins_well.Goals as goal

pub returns-in-48 : goal.returns-in-48
returns-in-48 c = search rules
