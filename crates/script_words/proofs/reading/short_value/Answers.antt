use Rattle.std.proofs.Common.{arith, rules, refl, ◌≡◌, ◌<◌, ◌^◌, true, slice_index_or}
use Rattle.std.specs.Char.{is_ascii_digit}
use Rattle.script_words.proofs.Numbers.{no_digit, one_digit_more, small_yet, value_digit}
use Rattle.script_words.proofs.reading.short_value.Goals as goal

pub returns-then-not-is_ascii_digit-clause-none : goal.returns-then-not-is_ascii_digit-clause-none
returns-then-not-is_ascii_digit-clause-none c = no_digit c.args.digits.now c.loop-digit.digit-index c.loop-digit-test.true (search rules)

pub overflow_mul-value : goal.overflow_mul-value
overflow_mul-value c =
    let small : c.loop-digit.value < 10 ^ 18 = small_yet c.args.digits.now c.loop-digit.digit-index c.loop-digit.value c.loop-digit-test.true c.requires c.loop-digit.invariant.digits c.loop-digit.invariant.value in
    omega (arith, small)

pub overflow_add-value : goal.overflow_add-value
overflow_add-value c =
    let small : c.loop-digit.value < 10 ^ 18 = small_yet c.args.digits.now c.loop-digit.digit-index c.loop-digit.value c.loop-digit-test.true c.requires c.loop-digit.invariant.digits c.loop-digit.invariant.value in
    let d : is_ascii_digit (slice_index_or c.args.digits.now c.loop-digit.digit-index 0) ≡ true = search rules in
    let digit = value_digit (slice_index_or c.args.digits.now c.loop-digit.digit-index 0) d in
    omega (arith, small, digit.0, digit.1)

pub loop-digit-preserved : goal.loop-digit-preserved
loop-digit-preserved c =
    let d : is_ascii_digit (slice_index_or c.args.digits.now c.loop-digit.digit-index 0) ≡ true = search rules in
    one_digit_more c.args.digits.now c.loop-digit.digit-index c.loop-digit.value _ c.loop-digit-test.true d c.loop-digit.invariant.digits c.loop-digit.invariant.value refl
