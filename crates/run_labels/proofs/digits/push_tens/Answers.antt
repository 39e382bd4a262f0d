use Rattle.std.proofs.Common.{arith}
use Rattle.run_labels.proofs.Decimals.{last_digit}
use Rattle.run_labels.proofs.digits.push_tens.Goals as goal

pub returns-else-number-lt10-clause-items : goal.returns-else-number-lt10-clause-items
returns-else-number-lt10-clause-items c = last_digit c.args.out.now.items _ _ c.args.number (omega (arith, c.if-number-lt10.false)) (omega (arith, c.requires.number)) c.push_one-else-number-lt10.ensures.items c.push_last.ensures.items
