-- What each line writes is its spelling: the words of the callee's clause, told by its variant.
use Rattle.std.proofs.Common.{rules}
use Rattle.script_lines.specs.Spelling.{written_line}
use Rattle.script_lines.proofs.printing.write_words.Goals as goal

pub returns-in-Copy : goal.returns-in-Copy
unfolding written_line
returns-in-Copy c = rw c.in-Copy.is (search rules)

pub returns-in-Fail : goal.returns-in-Fail
unfolding written_line
returns-in-Fail c = rw c.in-Fail.is (search rules)

pub returns-in-Join : goal.returns-in-Join
unfolding written_line
returns-in-Join c = rw c.in-Join.is (search rules)

pub returns-in-Pull : goal.returns-in-Pull
unfolding written_line
returns-in-Pull c = rw c.in-Pull.is (search rules)

pub returns-in-Propagate : goal.returns-in-Propagate
unfolding written_line
returns-in-Propagate c = rw c.in-Propagate.is (search rules)

pub returns-in-Show : goal.returns-in-Show
unfolding written_line
returns-in-Show c = rw c.in-Show.is (search rules)
