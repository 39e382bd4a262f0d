use Rattle.script_words.specs.Words.{is_dot}
use Rattle.script_words.proofs.Places.{cut_there, nothing_cut}
use Rattle.script_words.proofs.reading.at_dot.Goals as goal

pub returns-then-end-word : goal.returns-then-end-word
returns-then-end-word c = cut_there is_dot c.args.word.now c.place_of-end.result c.place_of-end.ensures.value c.if-end-word.true

pub returns-else-end-word : goal.returns-else-end-word
returns-else-end-word c = nothing_cut is_dot c.args.word.now c.place_of-end.result c.place_of-end.ensures.value c.if-end-word.false
