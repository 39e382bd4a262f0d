-- What travels beside a request.
use Rattle.std.specs.Prelude.{ℕ, List, [], Option, Some, None}
use Rattle.ckpt_types.specs.declared.update.ReadElement.{ReadElement}
use Rattle.ckpt_types.specs.declared.update.Update.{Update}
use Rattle.ckpt_types.specs.declared.update.Update.TheVariants as updates
use Rattle.section_iter.specs.KeptIds.{KeptIds}
use Rattle.snap_copy.specs.Snapshots.{Snapshot}
use Rattle.node_core.specs.declared.lent.Lent.{Lent}

-- the update of a stage, the elements of a read, the identifiers that an iteration has left to give, and the snapshot that is pulled or installed
pub record Payload : Type 0 where
  pub update : Update
  pub elements : List ReadElement
  pub ids : List (List ℕ)
  pub snapshot : Option Snapshot

-- an update that is lent, or the one that changes nothing
abbrev pub update_or : Option Update → Update
update_or None = updates.Nothing
update_or (Some update) = update

-- elements that are lent, or none
abbrev pub elements_or : Option (List ReadElement) → List ReadElement
elements_or None = []
elements_or (Some elements) = elements

-- the identifiers of an iteration that is lent
abbrev pub ids_or : Option KeptIds → List (List ℕ)
ids_or None = []
ids_or (Some kept) = kept.ids

-- what is lent
abbrev pub payload_of : Lent → Payload
payload_of lent = record { update = update_or lent.update; elements = elements_or lent.vector; ids = ids_or lent.iteration; snapshot = lent.snap }

-- an update, and nothing else
abbrev pub update_alone : Update → Payload
update_alone update = record { update = update; elements = []; ids = []; snapshot = None }

-- nothing travels beside it
abbrev pub no_payload : Payload
no_payload = update_alone updates.Nothing
