use Rattle.load_script.specs.Load.{turn_written}
use Rattle.load_script.proofs.Turns.{map-numbers-next}
use Rattle.load_script.proofs.generating.add_writes.Goals as goal

pub loop-turn-preserved : goal.loop-turn-preserved
loop-turn-preserved c =
    rw (c.in_ok-push.ensures.items, c.loop-turn.invariant, c.in_ok-turn_written.ensures) (map-numbers-next turn_written c.args.lines.now.items c.loop-turn.turn)
