use Rattle.std.proofs.Common.{◌≡◌, drop}
use Rattle.cluster_record.specs.Places.{find_key}
use Rattle.cluster_record.specs.RecordState.{client_key}
use Rattle.cluster_record.proofs.clients.find_client.Given as goal

abbrev pub invariant-loop-live : goal.invariant-loop-live
invariant-loop-live l = find_key client_key l.client (drop l.live-index l.clients) ≡ find_key client_key l.client l.clients
