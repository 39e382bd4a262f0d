use Rattle.std.proofs.Common.{◌≡◌, ◌∙◌, sym, ap, decimal, arith}
use Rattle.std.proofs.lemmas.Bool.{false≢true}
use Rattle.load_script.proofs.Spelled.{none_read, number_read}
use Rattle.load_script.proofs.word.turns_in.Goals as goal

pub returns-in_default-clause-none : goal.returns-in_default-clause-none
returns-in_default-clause-none c = λ turns spells. none_read c.args.word.now turns c.from_str_radix.result _ c.from_str_radix.ensures.value c.in_default.is spells

pub returns-then-turns-lt1-clause-none : goal.returns-then-turns-lt1-clause-none
returns-then-turns-lt1-clause-none c = λ turns spells.
    let same : c.in-Ok.turns ≡ turns = number_read c.args.word.now turns c.in-Ok.turns c.from_str_radix.result c.from_str_radix.ensures.value c.in-Ok.is spells in
    absurd (omega (arith, same, spells.1, c.if-turns-lt1.true))

pub returns-then-turns-gt-LOAD_MAX-clause-none : goal.returns-then-turns-gt-LOAD_MAX-clause-none
returns-then-turns-gt-LOAD_MAX-clause-none c = λ turns spells.
    let same : c.in-Ok.turns ≡ turns = number_read c.args.word.now turns c.in-Ok.turns c.from_str_radix.result c.from_str_radix.ensures.value c.in-Ok.is spells in
    absurd (omega (arith, same, spells.2, c.if-turns-gt-LOAD_MAX.true))

pub returns-else-is_spelled-clause-none : goal.returns-else-is_spelled-clause-none
returns-else-is_spelled-clause-none c = λ turns spells.
    let same : c.in-Ok.turns ≡ turns = number_read c.args.word.now turns c.in-Ok.turns c.from_str_radix.result c.from_str_radix.ensures.value c.in-Ok.is spells in
    absurd (false≢true (c.if-is_spelled.ensures.1 (spells.0 ∙ ap decimal (sym same))))
