-- What a replica has is told by its effects, after each front of a run.
use Rattle.ckpt_machine.specs.Laws.{OfEachRun}
use Rattle.ckpt_machine.specs.Replays.{EffectsTellThroughout}
use Rattle.ckpt_machine.proofs.ActiveAhead.{run_prefix}
use Rattle.ckpt_machine.proofs.EffectsOnce.{run_once}
use Rattle.ckpt_machine.proofs.Replaying.{run_replays}
use Rattle.ckpt_machine.proofs.Runs.{run_front}

pub effects_tell : OfEachRun EffectsTellThroughout
effects_tell log run front back is =
    let before = run_front log front back is run in
    record { replays = run_replays front before; once = run_once front before; prefix = run_prefix front before }
