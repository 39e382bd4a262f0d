use Rattle.std.proofs.Common.{sym, ap, ◌∙◌}
use Rattle.cluster_record.specs.Places.{find_key}
use Rattle.cluster_record.specs.RecordState.{client_key}
use Rattle.cluster_record.proofs.ClientLaws.{live_within}
use Rattle.cluster_record.proofs.record.Record.home_of.Goals as goal

pub returns-in-Some-clause-within : goal.returns-in-Some-clause-within
returns-in-Some-clause-within c =
    (live_within c.args.client c.self.inside.clients.items c.in-Some.live c.self.invariant.clients (ap (find_key client_key c.args.client) (sym c.as_slice.ensures.value) ∙ sym c.find_client.ensures ∙ c.in-Some.is)).1
