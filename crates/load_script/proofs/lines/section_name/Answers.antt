use Rattle.std.proofs.Common.{rules}
use Rattle.load_script.proofs.Names.{section_name-is}
use Rattle.load_script.proofs.lines.section_name.Goals as goal

pub returns : goal.returns
returns c = rw (section_name-is c.args.section c.requires) (search rules)
