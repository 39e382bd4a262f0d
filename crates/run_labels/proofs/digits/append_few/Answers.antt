use Rattle.std.proofs.Common.{rules, ◌≡◌, length}
use Rattle.run_labels.proofs.Encoded.{none_encoded}
use Rattle.run_labels.proofs.digits.append_few.Goals as goal

pub returns-then-is_empty : goal.returns-then-is_empty
returns-then-is_empty c = let none : length c.args.bytes.now ≡ 0 = search rules in none_encoded c.args.out.now.items c.args.bytes.now none
