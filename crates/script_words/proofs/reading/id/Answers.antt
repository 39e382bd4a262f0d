use Rattle.std.proofs.Common.{rules, sym, ◌∙◌, ap, codes, Ok, ◌≡◌}
use Rattle.script_words.specs.Words.{read_word, an_id}
use Rattle.script_words.proofs.Fits.{default_id}
use Rattle.script_words.proofs.reading.id.Goals as goal

pub returns-then-is_x : goal.returns-then-is_x
returns-then-is_x c =
    let same : c.args.word.now ≡ codes "x" = search rules in
    ap (λ w. read_word an_id w) same ∙ default_id ∙ ap (λ id. Ok id) (sym c.default.ensures)
