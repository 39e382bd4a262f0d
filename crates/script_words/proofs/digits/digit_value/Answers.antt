use Rattle.std.proofs.Common.{rules, ◌<◌}
use Rattle.script_words.proofs.Pairs.{table_value, some_value, no_value}
use Rattle.script_words.proofs.digits.digit_value.Goals as goal

pub returns-clause-digit : goal.returns-clause-digit
returns-clause-digit c = let small : c.args.byte < 256 = search rules in λ le. some_value _ _ (table_value c.args.byte small) le

pub returns-clause-none : goal.returns-clause-none
returns-clause-none c = let small : c.args.byte < 256 = search rules in λ lt. no_value c.args.byte _ (table_value c.args.byte small) lt
