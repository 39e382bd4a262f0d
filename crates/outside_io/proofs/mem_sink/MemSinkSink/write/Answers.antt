use Rattle.std.proofs.Common.{rules}
use Rattle.outside_io.proofs.mem_sink.MemSinkSink.write.Goals as goal

pub returns-then-fails-clause-refused : goal.returns-then-fails-clause-refused
returns-then-fails-clause-refused c = search rules

pub append_front-requires-clause-fits : goal.append_front-requires-clause-fits
append_front-requires-clause-fits c = search rules

pub invariant_of-self-2 : goal.invariant_of-self-2
invariant_of-self-2 c = search rules

pub returns-clause-refused : goal.returns-clause-refused
returns-clause-refused c = search rules

pub returns-clause-fits : goal.returns-clause-fits
returns-clause-fits c = search rules
