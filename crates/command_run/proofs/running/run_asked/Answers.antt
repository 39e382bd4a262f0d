use Rattle.std.proofs.Common.{List, ℕ, ap, subst, sym}
use Rattle.command_run.specs.Ending.{Tells, end_of}
use Rattle.command_run.specs.Headline.{text_of}
use Rattle.command_run.proofs.Asked.{is_run, load_form, run_form}
use Rattle.command_run.proofs.running.run_asked.Goals as goal

-- of a load its summary is told
pub returns-in-Some-clause-told : goal.returns-in-Some-clause-told
returns-in-Some-clause-told g c =
    let words = c.args.words.now in
    let log = c.run_load.new.log.labels in
    let source = end_of (g.S.Source.left c.args.source.now) (g.S.Source.faults c.args.source.now) in
    subst (λ (lines : List ℕ). Tells words source source (end_of (g.K.Sink.held c.args.sink.now) (g.K.Sink.faults c.args.sink.now)) (end_of (g.K.Sink.held c.run_load.new.sink) (g.K.Sink.faults c.run_load.new.sink)) log lines c.run_load.result)
    (sym (ap (λ form. text_of form log) (load_form words c.in-Some.turns c.in-Some.ensures.asked))) (c.run_load.ensures.told source)

-- and of a run its lines
pub returns-in-None-clause-told : goal.returns-in-None-clause-told
returns-in-None-clause-told g c =
    let words = c.args.words.now in
    let log = c.run_script.new.log.labels in
    subst (λ (lines : List ℕ). Tells words (end_of (g.S.Source.left c.args.source.now) (g.S.Source.faults c.args.source.now)) (end_of (g.S.Source.left c.run_script.new.source) (g.S.Source.faults c.run_script.new.source))
    (end_of (g.K.Sink.held c.args.sink.now) (g.K.Sink.faults c.args.sink.now)) (end_of (g.K.Sink.held c.run_script.new.sink) (g.K.Sink.faults c.run_script.new.sink)) log lines c.run_script.result)
    (sym (ap (λ form. text_of form log) (run_form words (is_run words c.requires.words c.in-None.ensures.none)))) c.run_script.ensures.told
