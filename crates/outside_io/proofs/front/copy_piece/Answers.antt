use Rattle.std.proofs.Common.{arith, sym, ◌≤◌}
use Rattle.std.proofs.lemmas.List.{take-append-drop, take-take, drop-drop}
use Rattle.outside_io.proofs.front.copy_piece.Goals as goal

-- the front of the buffer is the front of what was left, of which it had at most the first piece
pub returns-clause-consumed : goal.returns-clause-consumed
returns-clause-consumed c =
    let few : c.copy_front.result ≤ c.min.result = grind arith in
    rw (
      c.copy_front.ensures.front,
      c.split_at-2.ensures.front,
      take-take c.copy_front.result c.min.result _ few,
      c.split_at.ensures.back,
      ← drop-drop c.copy_front.result c.args.given c.args.contents.now,
    ) (sym (take-append-drop _ _))
