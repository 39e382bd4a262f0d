use Rattle.std.proofs.Common.{rules, ◌≡◌, ◌∷◌, ◌-◌, ◌∙◌, ap, sym, take, drop, length}
use Rattle.script_lines.proofs.Groups.{rest_from}
use Rattle.script_lang.proofs.Plain.{quoted_word, write_behind}
use Rattle.script_lang.proofs.quick.quick_write.Goals as goal

pub returns : goal.returns
returns c =
    let last = c.in-Some.front.last.now in
    let is : last ≡ 39 ∷ drop 1 last = search rules in
    let cut : last ≡ 39 ∷ take (length last - 1) (drop 1 last) = is ∙ ap (λ w. 39 ∷ w) (sym (rest_from last 1)) in
    let told = quoted_word last (take (length last - 1) (drop 1 last)) c.in-Ok-quoted.bytes cut c.in-Ok-quoted.ensures in
    rw (c.in_ok-update.ensures, c.one.ensures) (write_behind c.args.text.now c.in-Some.front c.in-Ok.id c.in-Ok-quoted.bytes c.in-Some.ensures c.in-Ok.ensures told.0 told.1, tt)
