use Rattle.std.proofs.Common.{ap, ◌∙◌, arith}
use Rattle.std.specs.List.{list_all}
use Rattle.script_words.specs.Words.{is_graphic}
use Rattle.script_words.proofs.Ends.{ends_pass}
use Rattle.script_words.proofs.reading.all_graphic.Goals as goal

pub returns-then-text : goal.returns-then-text
returns-then-text c =
    let front = c.each_graphic.ensures ∙ ap (list_all is_graphic) c.split_at.ensures.front in
    let back = c.each_graphic-then-text.ensures ∙ ap (list_all is_graphic) c.split_at-then-text.ensures.back in
    rw (front, back) (ends_pass is_graphic 16 c.args.text.now (omega (arith, c.if-text-ge-BLOCK.true)) (omega (arith, c.if-text.true)))
