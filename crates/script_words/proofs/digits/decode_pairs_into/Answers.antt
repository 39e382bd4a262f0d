use Rattle.std.proofs.Common.{arith, ◌+◌, ◌*◌, slice_index}
use Rattle.hex.proofs.Pairs.{decode_step, decode_done}
use Rattle.script_words.proofs.Pairs.{pair_ok, pair_refused}
use Rattle.script_words.proofs.digits.decode_pairs_into.Goals as goal

pub returns-then-high-gt15-clause-no : goal.returns-then-high-gt15-clause-no
returns-then-high-gt15-clause-no c =
    pair_refused c.args.digits.now c.loop-i.out c.loop-i.i c.digit_value-high.result c.digit_value-low.result (omega (arith, c.requires, c.loop-i-test.true)) c.then-high-gt15.either
    c.digit_value-high.ensures.digit c.digit_value-high.ensures.none c.digit_value-low.ensures.none c.loop-i.invariant

pub loop-i-preserved : goal.loop-i-preserved
loop-i-preserved c =
    decode_step c.args.digits.now c.loop-i.out c.loop-i.i _ (omega (arith, c.requires, c.loop-i-test.true)) (omega (arith, c.loop-i.auto.out, c.loop-i-test.true))
    (pair_ok (slice_index c.args.digits.now (2 * c.loop-i.i)) (slice_index c.args.digits.now (2 * c.loop-i.i + 1)) (2 * c.loop-i.i) c.digit_value-high.result c.digit_value-low.result (c.digit_value-high.ensures.digit c.if-high-gt15.false) (c.digit_value-low.ensures.digit c.if-low-gt15.false)) c.loop-i.invariant

pub returns-clause-yes : goal.returns-clause-yes
returns-clause-yes c =
    decode_done c.args.digits.now c.loop-i.out c.loop-i.i (omega (arith, c.loop-i.auto.out, c.loop-i-test.false)) (omega (arith, c.requires, c.loop-i-test.false)) c.loop-i.invariant
