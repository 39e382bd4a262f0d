use Rattle.std.proofs.Common.{sym}
use Rattle.std.proofs.lemmas.List.{take-append-drop, drop-drop}
use Rattle.outside_io.proofs.front.copy_from.Goals as goal

-- the front of the buffer is the front of what was left, and the rest of it stays
pub returns-clause-consumed : goal.returns-clause-consumed
returns-clause-consumed c =
    rw (c.copy_front.ensures.front, c.split_at.ensures.back, ← drop-drop c.copy_front.result c.args.given c.args.contents.now) (sym (take-append-drop _ _))
