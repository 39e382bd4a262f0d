use Rattle.std.proofs.Common.{Bool, subst}
use Rattle.command_run.specs.Ending.{Plays}
use Rattle.command_run.specs.Headline.{asks_steps, printed}
use Rattle.command_run.proofs.Played.{nothing_ran, not_kept, played, unread}
use Rattle.command_run.proofs.running.run_script.Goals as goal

-- nothing was played
pub returns-in-Err-clause-run : goal.returns-in-Err-clause-run
returns-in-Err-clause-run g c = nothing_ran c.world_law.ensures.begins (g.W.Cluster.shown c.args.world.now) c.args.log.now.labels c.requires.world c.requires.log

pub returns-in-Err-clause-told : goal.returns-in-Err-clause-told
returns-in-Err-clause-told g c =
    let log = c.args.log.now.labels in
    unread c.args.words.now c.requires.words _ _ _ log (printed (asks_steps c.args.words.now) log) c.in-Err.status c.in-Err.ensures c.requires.log

-- the script was played
pub returns-clause-kept : goal.returns-clause-kept
returns-clause-kept g c = not_kept _ _ _ _ _ _ _ _ c.play_script-status.result c.play_script-status.ensures.plays

pub returns-clause-told : goal.returns-clause-told
returns-clause-told g c =
    let held = g.K.Sink.held in
    let faults = g.K.Sink.faults in
    let log = c.play_script-status.new.log.labels in
    played c.args.words.now c.requires.words _ _ _ _ c.in-Ok.script log (printed (asks_steps c.args.words.now) log) c.play_script-status.result c.in-Ok.ensures.0
    (subst (λ (steps : Bool). Plays c.in-Ok.script log (held c.args.sink.now) (held c.play_script-status.new.sink) (printed steps log)
    (faults c.args.sink.now) (faults c.play_script-status.new.sink) c.play_script-status.result) c.wants_steps.ensures c.play_script-status.ensures.plays)
