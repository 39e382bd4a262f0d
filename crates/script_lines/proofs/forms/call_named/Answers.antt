use Rattle.script_lines.specs.Table.{said_by}
use Rattle.script_lines.proofs.forms.call_named.Goals as goal

pub returns-in-Close : goal.returns-in-Close
unfolding said_by
returns-in-Close c = rw c.in-Close.is (c.handle_line.ensures)

pub returns-in-Retain : goal.returns-in-Retain
unfolding said_by
returns-in-Retain c = rw c.in-Retain.is (c.timed_line.ensures)

pub returns-in-Active : goal.returns-in-Active
unfolding said_by
returns-in-Active c = rw c.in-Active.is (c.handle_line-in-Active.ensures)

pub returns-in-Status : goal.returns-in-Status
unfolding said_by
returns-in-Status c = rw c.in-Status.is (c.handle_line-in-Status.ensures)

pub returns-in-Next : goal.returns-in-Next
unfolding said_by
returns-in-Next c = rw c.in-Next.is (c.iteration_line.ensures)

pub returns-in-EndIter : goal.returns-in-EndIter
unfolding said_by
returns-in-EndIter c = rw c.in-EndIter.is (c.iteration_line-in-EndIter.ensures)

pub returns-in-Sync : goal.returns-in-Sync
unfolding said_by
returns-in-Sync c = rw c.in-Sync.is (c.timed_line-in-Sync.ensures)
