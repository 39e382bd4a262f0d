use Rattle.std.proofs.Common.{◌≡◌, ◌+◌, ◌++◌, take, vec_len, vec_capacity}
use Rattle.run_labels.proofs.fronts.push_letters.Given as goal

abbrev pub invariant-loop-letter : goal.invariant-loop-letter
invariant-loop-letter l = record {
  items : l.out.items ≡ l.initial.out.items ++ take l.letter-index l.letters;
  len : vec_len l.out ≡ vec_len l.initial.out + l.letter-index;
  capacity : vec_capacity l.out ≡ vec_capacity l.initial.out;
}
