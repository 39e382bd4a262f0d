use Rattle.script_lang.proofs.Texts.{word_cut, word_uncut}
use Rattle.script_lang.proofs.reading.first_word.Goals as goal

pub returns-then-end-line-clause-some : goal.returns-then-end-line-clause-some
returns-then-end-line-clause-some c = word_cut c.args.line.now c.space_or_len-end.result c.space_or_len-end.ensures.value c.if-end-line.true

pub returns-else-end-line-clause-none : goal.returns-else-end-line-clause-none
returns-else-end-line-clause-none c = word_uncut c.args.line.now c.space_or_len-end.result c.space_or_len-end.ensures.value c.if-end-line.false
