use Rattle.std.proofs.Common.{List, ℕ, ◌∙◌, subst}
use Rattle.command_run.specs.Headline.{WritesPart}
use Rattle.command_run.proofs.writing.write_summary.Goals as goal

-- a front of the text was written
pub returns-clause-part : goal.returns-clause-part
returns-clause-part g c =
    let held = g.K.Sink.held in
    subst (λ (text : List ℕ). WritesPart (held c.args.sink.now) (held c.write_all.new.sink) text) (c.as_slice.ensures ∙ c.in-Ok.ensures) c.in-Err.ensures.part
