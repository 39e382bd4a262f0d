-- What each call writes is its line: the words of the callee's clause, told by its variant.
use Rattle.std.proofs.Common.{rules}
use Rattle.script_lines.specs.Spelling.{written_call, written_update}
use Rattle.script_lines.proofs.call_printing.write_call.Goals as goal

pub returns-in-Close : goal.returns-in-Close
unfolding written_call
returns-in-Close c = rw c.in-Close.is (search rules)

pub returns-in-Active : goal.returns-in-Active
unfolding written_call
returns-in-Active c = rw c.in-Active.is (search rules)

pub returns-in-Status : goal.returns-in-Status
unfolding written_call
returns-in-Status c = rw c.in-Status.is (search rules)

pub returns-in-Next : goal.returns-in-Next
unfolding written_call
returns-in-Next c = rw c.in-Next.is (search rules)

pub returns-in-EndIter : goal.returns-in-EndIter
unfolding written_call
returns-in-EndIter c = rw c.in-EndIter.is (search rules)

pub returns-in-Retain : goal.returns-in-Retain
unfolding written_call
returns-in-Retain c = rw c.in-Retain.is (search rules)

pub returns-in-Sync : goal.returns-in-Sync
unfolding written_call
returns-in-Sync c = rw c.in-Sync.is (search rules)

pub returns-in-Create : goal.returns-in-Create
unfolding written_call written_update
returns-in-Create c = rw c.in-Create.is (search rules)

pub returns-in-Delete : goal.returns-in-Delete
unfolding written_call written_update
returns-in-Delete c = rw c.in-Delete.is (search rules)

pub returns-in-Expire : goal.returns-in-Expire
unfolding written_call written_update
returns-in-Expire c = rw c.in-Expire.is (search rules)

pub returns-in-Write : goal.returns-in-Write
unfolding written_call written_update
returns-in-Write c = rw c.in-Write.is (search rules)

pub returns-in-Over : goal.returns-in-Over
unfolding written_call written_update
returns-in-Over c = rw c.in-Over.is (search rules)
