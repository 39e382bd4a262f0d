use Rattle.std.proofs.Common.{ap, ◌∙◌}
use Rattle.name_table.specs.Table.{found}
use Rattle.cluster_record.specs.LookUps.{identity_in}
use Rattle.cluster_record.specs.RecordState.{RecordState, named}
use Rattle.cluster_record.proofs.NameLaws.{found-named}
use Rattle.cluster_record.proofs.record.Record.find.Goals as goal

pub returns : goal.returns
returns c =
    c.look_up.ensures.found ∙ ap (found c.args.name.now) c.self.invariant.names ∙ found-named c.args.name.now c.self.inside.entries.items
    ∙ ap (λ (R : RecordState). identity_in (named c.args.name.now R.entries)) c.self.view_is
