use Rattle.std.proofs.Common.{arith}
use Rattle.run_labels.proofs.Decimals.{last_digit}
use Rattle.run_labels.proofs.digits.push_hundreds.Goals as goal

pub returns-else-number-lt100-clause-items : goal.returns-else-number-lt100-clause-items
returns-else-number-lt100-clause-items c = last_digit c.args.out.now.items _ _ c.args.number (omega (arith, c.if-number-lt100.false)) (omega (arith, c.requires.number)) c.push_tens-else-number-lt100.ensures.items c.push_last.ensures.items
