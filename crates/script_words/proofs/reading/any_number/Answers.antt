use Rattle.std.proofs.Common.{arith, rules, ◌≡◌, refl, nat_le, ◌&&◌, true, false}
use Rattle.script_words.proofs.Numbers.{number_is}
use Rattle.script_words.proofs.reading.any_number.Goals as goal

pub returns-then-n-high-clause-exact : goal.returns-then-n-high-clause-exact
returns-then-n-high-clause-exact c =
    let some = c.in_ok-n.ensures.some in
    let inside : (nat_le c.args.low c.in_ok-n.n && nat_le c.in_ok-n.n c.args.high) ≡ true = grind (arith, c.if-low-n.true, c.if-n-high.true) in
    rw (number_is c.args.low c.args.high c.in_ok-n.n c.args.word.now (search rules) some.0 some.1, inside) refl

pub returns-else-low-n-clause-exact : goal.returns-else-low-n-clause-exact
returns-else-low-n-clause-exact c =
    let some = c.in_ok-n.ensures.some in
    let outside : (nat_le c.args.low c.in_ok-n.n && nat_le c.in_ok-n.n c.args.high) ≡ false = grind (arith, c.else-low-n.either) in
    rw (number_is c.args.low c.args.high c.in_ok-n.n c.args.word.now (search rules) some.0 some.1, outside) refl
