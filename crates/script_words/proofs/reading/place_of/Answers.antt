use Rattle.std.proofs.Common.{arith, rules, sym, ◌==◌, ℕ}
use Rattle.std.proofs.lemmas.List.Sums.{position_or_len_is}
use Rattle.script_words.proofs.reading.place_of.Goals as goal

pub returns-then-b-byte-clause-value : goal.returns-then-b-byte-clause-value
returns-then-b-byte-clause-value c = sym (position_or_len_is (λ (b : ℕ). b == c.args.byte) c.args.text.now c.loop-i.i 0 (omega arith) c.loop-i.invariant (λ _. search rules))

pub returns-clause-value : goal.returns-clause-value
returns-clause-value c = sym (position_or_len_is (λ (b : ℕ). b == c.args.byte) c.args.text.now _ 0 (omega arith) (search rules) (λ h. absurd (omega (arith, h))))
