use Rattle.std.proofs.Common.{rules, ◌<◌, length}
use Rattle.script_lines.proofs.Texts.{no_words}
use Rattle.script_lines.proofs.reading.read_line.Goals as goal

pub returns-in_default : goal.returns-in_default
returns-in_default c = let none : length c.args.words.now < 1 = search rules in no_words c.args.words.now none
