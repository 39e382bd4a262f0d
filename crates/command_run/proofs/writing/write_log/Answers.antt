use Rattle.std.proofs.Common.{subst, sym}
use Rattle.std.specs.Prelude.{OnErr}
use Rattle.command_run.specs.Headline.{WritesPart, text_of}
use Rattle.command_run.specs.declared.writing.Form.{Form}
use Rattle.command_run.proofs.writing.write_log.Goals as goal

pub returns-in-Summary-clause-part : goal.returns-in-Summary-clause-part
returns-in-Summary-clause-part g c =
    let held = g.K.Sink.held in
    subst (λ (form : Form). OnErr c.write_summary.result (WritesPart (held c.args.sink.now) (held c.write_summary.new.sink) (text_of form c.args.log.now.labels))) (sym c.in-Summary.is) c.write_summary.ensures.part
