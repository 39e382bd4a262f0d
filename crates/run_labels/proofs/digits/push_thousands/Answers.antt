use Rattle.std.proofs.Common.{arith}
use Rattle.run_labels.proofs.Decimals.{last_digit}
use Rattle.run_labels.proofs.digits.push_thousands.Goals as goal

pub returns-else-number-lt1000-clause-items : goal.returns-else-number-lt1000-clause-items
returns-else-number-lt1000-clause-items c = last_digit c.args.out.now.items _ _ c.args.number (omega (arith, c.if-number-lt1000.false)) (omega (arith, c.requires.number)) c.push_hundreds-else-number-lt1000.ensures.items c.push_last.ensures.items
