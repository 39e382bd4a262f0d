use Rattle.std.proofs.Common.{arith, length}
use Rattle.script_lang.proofs.Texts.{first_place}
use Rattle.script_lang.proofs.reading.found_or_len.Goals as goal

pub returns-in-Some-clause-value : goal.returns-in-Some-clause-value
returns-in-Some-clause-value c =
    let found = c.in-Some.ensures in
    first_place c.args.byte c.args.text.now c.in-Some.end (omega (arith, found.0.high)) (λ k lt. found.0.before k (omega arith) lt) (λ lt. found.1)

pub returns-in-None-clause-value : goal.returns-in-None-clause-value
returns-in-None-clause-value c = first_place c.args.byte c.args.text.now (length c.args.text.now) (omega arith) (λ k lt. c.in-None.ensures k (omega arith) lt) (λ lt. absurd (omega (arith, lt)))
