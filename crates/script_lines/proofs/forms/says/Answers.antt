use Rattle.std.proofs.Common.{◌≡◌, arith, length}
use Rattle.script_lines.proofs.Saying.{same_bytes}
use Rattle.script_lines.proofs.forms.says.Goals as goal

pub returns : goal.returns
returns c =
    let len : length c.args.text.now ≡ length c.args.word.now = omega (arith, c.if-text-word.false) in
    same_bytes c.args.text.now c.args.word.now len (λ k lt. c.loop-i.invariant k (omega (arith, len, lt, c.loop-i-test.false)))
