use Rattle.std.proofs.Common.{arith, rules, get_or, ◌≡◌, ◌≤◌, ◌+◌, ◌*◌, ◌-◌, ◌^◌, true}
use Rattle.std.specs.Char.{is_ascii_digit}
use Rattle.script_words.proofs.Numbers.{no_digit, too_large, one_digit_more}
use Rattle.script_words.proofs.reading.long_value.Goals as goal

pub returns-then-not-is_ascii_digit-clause-none : goal.returns-then-not-is_ascii_digit-clause-none
returns-then-not-is_ascii_digit-clause-none c = no_digit c.args.digits.now c.loop-digit.digit-index c.loop-digit-test.true (search rules)

pub returns-in_err-checked_mul-clause-none : goal.returns-in_err-checked_mul-clause-none
returns-in_err-checked_mul-clause-none c =
    let d : is_ascii_digit (get_or c.args.digits.now c.loop-digit.digit-index 0) ≡ true = search rules in
    let large : 2 ^ 64 ≤ c.loop-digit.value * 10 + (get_or c.args.digits.now c.loop-digit.digit-index 0 - 48) = grind arith in
    rw c.from_residual.ensures (λ _. too_large c.args.digits.now c.loop-digit.digit-index c.loop-digit.value c.loop-digit-test.true d c.loop-digit.invariant.value large)

pub returns-in_err-value-clause-none : goal.returns-in_err-value-clause-none
returns-in_err-value-clause-none c =
    let d : is_ascii_digit (get_or c.args.digits.now c.loop-digit.digit-index 0) ≡ true = search rules in
    let large : 2 ^ 64 ≤ c.loop-digit.value * 10 + (get_or c.args.digits.now c.loop-digit.digit-index 0 - 48) = grind arith in
    rw c.from_residual-in_err-value.ensures (λ _. too_large c.args.digits.now c.loop-digit.digit-index c.loop-digit.value c.loop-digit-test.true d c.loop-digit.invariant.value large)

pub loop-digit-preserved : goal.loop-digit-preserved
loop-digit-preserved c =
    let d : is_ascii_digit (get_or c.args.digits.now c.loop-digit.digit-index 0) ≡ true = search rules in
    let next : c.in_ok-value.value ≡ c.loop-digit.value * 10 + (get_or c.args.digits.now c.loop-digit.digit-index 0 - 48) = grind arith in
    one_digit_more c.args.digits.now c.loop-digit.digit-index c.loop-digit.value c.in_ok-value.value c.loop-digit-test.true d c.loop-digit.invariant.digits c.loop-digit.invariant.value next
