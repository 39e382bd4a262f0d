-- What a call lends to a request out of what it has, what the journal keeps of it, and what is left.
use Rattle.std.specs.Prelude.{◌≡◌, ◌-◌, ◌≤◌, Some, None, IsSome, IsSomeAnd, nat_lt, ◌&&◌, if◌then◌else◌}
use Rattle.ckpt_types.specs.declared.operation.Op.{Op}
use Rattle.ckpt_types.specs.declared.update.NewId.{NewId}
use Rattle.ckpt_types.specs.Asks.{update_of, elements_of}
use Rattle.ckpt_types.specs.Limits.{declared_id_max}
use Rattle.node_msgs.specs.declared.requests.Request.{Request}
use Rattle.node_msgs.specs.declared.requests.Request.TheVariants as requests
use Rattle.node_core.specs.declared.lent.Lent.{Lent}
use Rattle.node_core.specs.Lending.{nothing_lent, id_length, HasRoomForId, HasRoomToRead, HasRoomToTell}
use Rattle.shared_nodes.specs.declared.kept.Kept.{Kept}
use Rattle.shared_nodes.specs.declared.kept.Kept.TheVariants as kept
use Rattle.shared_nodes.specs.Works.{KeptWork, id_buffer, read_buffer}

-- what is lent to a request, what the journal keeps of it, and what the call has behind it
pub record Portion : Type 0 where
  pub lent : Lent
  pub kept : Kept
  pub left : KeptWork

-- nothing is lent, nothing is kept, and all is left
abbrev pub no_portion : KeptWork → Portion
no_portion w = record { lent = nothing_lent; kept = kept.Nothing; left = w }

-- two shares of the update, one lent and one kept, if they are there
abbrev pub update_portion : KeptWork → Portion
update_portion w =
    if nat_lt 1 w.updates
    then record {
      lent = record nothing_lent { update = Some (update_of w.op) };
      kept = kept.Update (update_of w.op);
      left = record w { updates = w.updates - 2 };
    }
    else no_portion w

-- the same, with a buffer for the identifier that an update in one step tells
abbrev pub apply_portion : KeptWork → Portion
apply_portion w =
    if nat_lt 1 w.updates && nat_lt 0 w.ids
    then record {
      lent = record nothing_lent { update = Some (update_of w.op); read = Some (id_buffer w.op) };
      kept = kept.Update (update_of w.op);
      left = record w { updates = w.updates - 2; ids = w.ids - 1 };
    }
    else no_portion w

-- a buffer for the identifier that a commit tells
abbrev pub commit_portion : KeptWork → Portion
commit_portion w =
    if nat_lt 0 w.ids
    then record { lent = record nothing_lent { read = Some (id_buffer w.op) }; kept = kept.Nothing; left = record w { ids = w.ids - 1 } }
    else no_portion w

-- two shares of the elements, one lent and one kept, with a buffer for what they may give
abbrev pub read_portion : KeptWork → Portion
read_portion w =
    if nat_lt 1 w.elements && nat_lt 0 w.reads
    then record {
      lent = record nothing_lent { vector = Some (elements_of w.op); read = Some (read_buffer w.op) };
      kept = kept.Elements (elements_of w.op);
      left = record w { elements = w.elements - 2; reads = w.reads - 1 };
    }
    else no_portion w

-- the place for a status, if it is there
abbrev pub status_portion : KeptWork → Portion
status_portion w = record { lent = record nothing_lent { status = w.status }; kept = kept.Nothing; left = record w { status = None } }

-- the place for the next section of an iteration, if it is there
abbrev pub section_portion : KeptWork → Portion
section_portion w = record { lent = record nothing_lent { section = w.section }; kept = kept.Nothing; left = record w { section = None } }

-- WHAT A CALL LENDS TO A REQUEST, an iteration and a snapshot aside: where less is left than the request wants, as where the call is of another operation,
-- nothing; and nothing to a request that wants nothing
abbrev pub portion : Request → KeptWork → Portion
portion (requests.Stage call k t) w = update_portion w
portion (requests.Apply call k) w = apply_portion w
portion (requests.Mark call k) w = update_portion w
portion (requests.Commit call k) w = commit_portion w
portion (requests.Read k) w = read_portion w
portion (requests.Status k) w = status_portion w
portion (requests.Next call k) w = section_portion w
portion request w = no_portion w

-- ---- what a request wants

-- as much is left as a request wants
abbrev pub HasFor : Request → KeptWork → Type 0
HasFor (requests.Stage call k t) w = 2 ≤ w.updates
HasFor (requests.Apply call k) w = (2 ≤ w.updates) × (1 ≤ w.ids)
HasFor (requests.Mark call k) w = 2 ≤ w.updates
HasFor (requests.Commit call k) w = 1 ≤ w.ids
HasFor (requests.Read k) w = (2 ≤ w.elements) × (1 ≤ w.reads)
HasFor (requests.Status k) w = IsSome w.status
HasFor (requests.Next call k) w = IsSome w.section
HasFor request w = Unit {0}

-- the update of the operation, with room for the identifier that it tells
pub record IsUpdateLent (op : Op) (lent : Lent) : Type 0 where
  pub update : lent.update ≡ Some (update_of op)
  pub room : HasRoomToTell (update_of op) lent.read

-- room for the identifier that the operation's update tells, and for any that a checkpoint may declare: what is committed may be another call's
pub record IsRoomLent (op : Op) (lent : Lent) : Type 0 where
  pub own : HasRoomToTell (update_of op) lent.read
  pub declared : (new : NewId) → id_length new ≤ declared_id_max → IsSomeAnd lent.read (HasRoomForId new)

-- the elements of the operation, with an empty buffer that has room for what they may give
pub record IsReadLent (op : Op) (lent : Lent) : Type 0 where
  pub vector : lent.vector ≡ Some (elements_of op)
  pub room : IsSomeAnd lent.read (HasRoomToRead (elements_of op))

-- what is lent serves a request, an iteration and a snapshot aside: the update of the operation, that with room for an identifier, such room alone, what a
-- read wants, or a place for a status or for a section
abbrev pub IsLentFor : Op → Request → Lent → Type 0
IsLentFor op (requests.Stage call k t) lent = lent.update ≡ Some (update_of op)
IsLentFor op (requests.Apply call k) lent = IsUpdateLent op lent
IsLentFor op (requests.Mark call k) lent = lent.update ≡ Some (update_of op)
IsLentFor op (requests.Commit call k) lent = IsRoomLent op lent
IsLentFor op (requests.Read k) lent = IsReadLent op lent
IsLentFor op (requests.Status k) lent = IsSome lent.status
IsLentFor op (requests.Next call k) lent = IsSome lent.section
IsLentFor op request lent = Unit {0}
