use Rattle.std.proofs.Common.{◌++◌, ap, sym, ◌∙◌}
use Rattle.std.proofs.lemmas.Fmt.{decimal_digit}
use Rattle.run_labels.proofs.digits.push_one.Goals as goal

pub returns-clause-items : goal.returns-clause-items
returns-clause-items c = c.push_reserved.ensures.items ∙ ap (λ digits. c.args.out.now.items ++ digits) (sym (decimal_digit c.args.number c.requires.number))
