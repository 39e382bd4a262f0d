-- How the record is kept: room for all clients and checkpoints is taken at the start, and the table of names has the names of
-- the entries. The entries are in rising order of identity, up to the one last given, and each name stands once.
use Rattle.std.specs.Prelude.{◌≡◌, ◌≤◌, ℕ, List, length, All, ℤ, pos, vec_capacity}
use Rattle.ckpt_types.specs.Limits.{clients_max, checkpoints_max}
use Rattle.name_table.specs.Table.{EachOnce}
use Rattle.cluster_record.specs.declared.entries.Entry.{Entry}
use Rattle.cluster_record.specs.Identities.{IdentitiesRise, AllUpTo}
use Rattle.cluster_record.specs.Kept.{IsKeptEntry, AreKeptClients}
use Rattle.cluster_record.specs.NamesOf.{names_of}
use Rattle.cluster_record.specs.RecordState.{RecordState, IsMomentFrom}
use Rattle.cluster_record.specs.declared.record.Record.TheInside.{Inside}

-- the record as contracts see it
abbrev pub record_of : Inside → RecordState
record_of r = record {
  up = r.up;
  first_calls = r.first_calls;
  last_incarnations = r.last_incarnations;
  last_identity = r.last_identity;
  moment = r.moment;
  clients = r.clients.items;
  entries = r.entries.items;
}

-- the entries at the moment t, where the identity last given is the last
pub record AreKeptEntries (t : ℤ) (last : ℕ) (entries : List Entry) : Type 0 where
  pub each : All (IsKeptEntry t) entries
  pub few : length entries ≤ checkpoints_max
  pub order : IdentitiesRise entries
  pub given : AllUpTo last entries
  pub each_once : EachOnce (names_of entries)

-- what always holds of the fields of a record
pub record IsKept (r : Inside) : Type 0 where
  pub clients_room : clients_max ≤ vec_capacity r.clients
  pub entries_room : checkpoints_max ≤ vec_capacity r.entries
  pub moment : IsMomentFrom (pos 0) r.moment
  pub clients : AreKeptClients r.clients.items
  pub few_clients : length r.clients.items ≤ clients_max
  pub entries : AreKeptEntries r.moment r.last_identity r.entries.items
  pub names : r.names ≡ names_of r.entries.items
