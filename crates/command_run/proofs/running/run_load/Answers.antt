use Rattle.std.proofs.Common.{List, subst}
use Rattle.command_run.specs.Ending.{Plays, end_of}
use Rattle.command_run.proofs.Loaded.{loaded}
use Rattle.command_run.proofs.Played.{nothing_ran}
use Rattle.load_summary.specs.Summary.{summary}
use Rattle.script_lines.specs.declared.lines.Line.{Line}
use Rattle.command_run.proofs.running.run_load.Goals as goal

-- there was no memory for the load
pub returns-in-Err-clause-run : goal.returns-in-Err-clause-run
returns-in-Err-clause-run g c = nothing_ran c.world_law.ensures.begins (g.W.Cluster.shown c.args.world.now) c.args.log.now.labels c.requires.world c.requires.log

-- the load was played
pub returns-clause-told : goal.returns-clause-told
returns-clause-told g c = λ source.
    let held = g.K.Sink.held in
    let faults = g.K.Sink.faults in
    let log = c.play_script-status.new.log.labels in
    let status = c.play_script-status.result in
    loaded c.args.words.now c.args.turns c.requires.words source (end_of (held c.args.sink.now) (faults c.args.sink.now)) (end_of (held c.play_script-status.new.sink) (faults c.play_script-status.new.sink)) log (summary log) status
    (subst (λ (script : List Line). Plays script log (held c.args.sink.now) (held c.play_script-status.new.sink) (summary log) (faults c.args.sink.now) (faults c.play_script-status.new.sink) status) c.in-Ok.ensures.generated c.play_script-status.ensures.plays)
