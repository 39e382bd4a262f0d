-- What the failure of a node makes of the world.
use Rattle.std.specs.Prelude.{ℕ, Bool, List, map}
use Rattle.cluster_record.specs.Counts.{count_told}
use Rattle.cluster_record.specs.Failing.{failed, goes_with_node}
use Rattle.cluster_record.specs.RecordState.{RecordState, swept}
use Rattle.ckpt_machine.specs.CountsTold.{counts_of}
use Rattle.ckpt_machine.specs.Nodes.{nodes_left}
use Rattle.client_calls.specs.Abandoning.{calls_left, place_left, table_left}
use Rattle.client_calls.specs.TableState.{TableState}
use Rattle.world_core.specs.Backgrounds.{backgrounds_left}
use Rattle.ckpt_machine.specs.ByNumber.{each_by_number}
use Rattle.world_core.specs.HandsState.{HandsState}
use Rattle.world_core.specs.declared.world.World.{World}

-- the tables behind it
abbrev pub tables_left : (ℕ → Bool) → List TableState → List TableState
tables_left goes tables = each_by_number (table_left goes) 0 tables

-- the calls in hand behind it, by the record before
abbrev pub hands_left : RecordState → ℕ → HandsState → HandsState
hands_left R r hands = record {
  clients = map (place_left R r) hands.clients;
  alone = each_by_number (calls_left (goes_with_node R r)) 0 hands.alone;
  nodes = map (place_left R r) hands.nodes;
}

-- the record behind it, swept, by the counts of the replicas before
abbrev pub record_left : ℕ → World → RecordState
record_left r w = swept (failed (count_told (counts_of w.nodes w.cluster.entries)) r w.cluster)

-- THE FAILURE OF A NODE, of the world: the calls that are abandoned go, the node's copying among them, and the handles of its clients; the record has it; each node loses
-- what goes with it; and so do the background snapshots
abbrev pub failed_world : ℕ → World → World
failed_world r w = record {
  cluster = record_left r w;
  nodes = nodes_left (record_left r w) r w.nodes;
  snapshots = backgrounds_left (record_left r w).entries w.snapshots;
  tables = tables_left (goes_with_node w.cluster r) w.tables;
  hands = hands_left w.cluster r w.hands;
  numbers = w.numbers;
}
