use Rattle.std.proofs.Common.{◌≡◌, ◌++◌, ap, rules, ◌∙◌}
use Rattle.std.proofs.lemmas.List.{map-append}
use Rattle.std.proofs.lemmas.Iterator.{items_from_drains}
use Rattle.std.proofs.lemmas.Iterator.Consumers.{YieldsList-at}
use Rattle.std.proofs.lemmas.Iterator.Splits.{YieldsList-from_slice_split}
use Rattle.script_lines.specs.Table.{texts}
use Rattle.script_lang.specs.Grammar.{is_space, words_of}
use Rattle.script_lang.proofs.reading.words_in.Goals as goal

pub returns : goal.returns
returns c =
    let front = c.args.front.now in
    let placed : c.extend_from_slice.new.self.items ≡ front = c.in_ok-extend_from_slice.ensures.items ∙ ap (λ ws. ws ++ front) c.in_ok-words.ensures.items in
    let ran = c.in_ok-extend.ensures.ran in
    let read : texts ran.1 ≡ words_of c.args.rest.now = items_from_drains ran.1 (ran.4.1.0, ran.4.1.1, λ u. (ran.4.0, ran.4.1.2)) (YieldsList-at ran.2 (YieldsList-from_slice_split _ is_space c.args.rest.now c.split.ensures.rest c.split.ensures.done c.split.ensures.closure (λ x r q k. search rules))) in
    ap texts (ran.3.0 ∙ ap (λ ws. ws ++ ran.1) placed) ∙ map-append (λ w. w.now) front ran.1 ∙ ap (λ ws. texts front ++ ws) read
