use Rattle.std.proofs.Common.{sym, ◌∙◌}
use Rattle.cluster_record.specs.RecordState.{home_of, named}
use Rattle.cluster_record.proofs.RefusalLaws.{open_answer-made}
use Rattle.cluster_record.proofs.record.Record.open.Goals as goal

pub refer-requires-clause-made : goal.refer-requires-clause-made
refer-requires-clause-made c =
    let R = c.args.self.now in
    let opened = open_answer-made R c.args.ask.attrs (home_of c.args.ask.client R) (named c.args.ask.name R.entries) c.in-Opened.identity c.in-Opened.field-1 (sym c.open_answer-answer.ensures ∙ c.in-Opened.is) in
    (c.args.ask.name, opened.1, opened.0)
