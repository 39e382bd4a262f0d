use Rattle.std.proofs.Common.{arith}
use Rattle.session_run.proofs.Playable.{playable}
use Rattle.command_run.proofs.running.play_script.Goals as goal

-- a script of what is built can be played
pub session-requires-clause-form : goal.session-requires-clause-form
session-requires-clause-form g c κs within = playable _ c.requires.built.0

-- and has few lines
pub session-requires-clause-lines : goal.session-requires-clause-lines
session-requires-clause-lines g c κs within = omega (arith, c.requires.built.1)
