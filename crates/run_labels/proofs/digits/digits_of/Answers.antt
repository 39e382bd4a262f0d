use Rattle.std.proofs.Common.{arith}
use Rattle.run_labels.proofs.Encoded.{high_digit, low_digit}
use Rattle.run_labels.proofs.digits.digits_of.Goals as goal

pub returns-clause-high : goal.returns-clause-high
returns-clause-high c = rw (c.from.ensures, c.from-2.ensures) (high_digit c.args.byte (omega (arith, c.ranges.byte.fits)))

pub returns-clause-low : goal.returns-clause-low
returns-clause-low c = rw (c.from.ensures, c.from-2.ensures) (low_digit c.args.byte (omega (arith, c.ranges.byte.fits)))
