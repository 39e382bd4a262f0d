use Rattle.script_lang.proofs.Texts.{line_there, last_line}
use Rattle.script_lang.proofs.reading.first_line.Goals as goal

pub returns-then-end-text-clause-first : goal.returns-then-end-text-clause-first
returns-then-end-text-clause-first c = line_there c.args.text.now c.found_or_len-end.result c.requires c.found_or_len-end.ensures.value c.if-end-text.true

pub returns-else-end-text-clause-first : goal.returns-else-end-text-clause-first
returns-else-end-text-clause-first c = last_line c.args.text.now c.found_or_len-end.result c.requires c.found_or_len-end.ensures.value c.if-end-text.false
