use Rattle.std.proofs.Common.{arith, length-set}
use Rattle.hex.specs.Hex.{lower_digits}
use Rattle.hex.proofs.Pairs.{encode_step, encode_done}
use Rattle.run_labels.proofs.digits.encode_into.Goals as goal

pub loop-i-preserved : goal.loop-i-preserved
loop-i-preserved c =
    let before = c.loop-i.invariant in
    record {
      done = encode_step lower_digits c.args.bytes.now c.loop-i.digits c.loop-i.i _ _ c.loop-i-test.true (omega (arith, before.places, c.loop-i-test.true)) c.digits_of-high.ensures.high c.digits_of-high.ensures.low before.done;
      places = simp length-set before.places;
    }

pub returns : goal.returns
returns c = encode_done lower_digits c.args.bytes.now c.loop-i.digits c.loop-i.i c.loop-i-test.false c.loop-i.invariant.places c.loop-i.invariant.done
