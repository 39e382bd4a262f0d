-- What a caller lends to a request, so that the step takes no memory.
use Rattle.std.specs.Prelude.{◌≡◌, ℕ, ◌≤◌, List, [], length, sum_by, Option, Some, None, IsSome, IsSomeAnd}
use Rattle.ckpt_types.specs.declared.update.NewId.{NewId}
use Rattle.ckpt_types.specs.declared.update.NewId.TheVariants.{Given, Generated}
use Rattle.ckpt_types.specs.declared.update.ReadElement.{ReadElement}
use Rattle.ckpt_types.specs.declared.update.Update.{Update}
use Rattle.ckpt_types.specs.declared.update.Update.TheVariants as updates
use Rattle.ckpt_types.specs.Buffer.{Buffer}
use Rattle.ckpt_types.specs.Limits.{generated_id_bytes}
use Rattle.ckpt_types.specs.Sections.{Fits}
use Rattle.section_iter.specs.Room.{IsRoomFor}
use Rattle.node_msgs.specs.declared.requests.Request.{Request}
use Rattle.node_msgs.specs.declared.requests.Request.TheVariants as requests
use Rattle.stage_slot.specs.Slots.{Slot}
use Rattle.replica.specs.Replicas.{Replica, IsWrite}
use Rattle.node_core.specs.declared.lent.Lent.{Lent}

-- nothing is lent: all places are empty
abbrev pub nothing_lent : Lent
nothing_lent = record {
  read = None;
  vector = None;
  update = None;
  iteration = None;
  snap = None;
  status = None;
  section = None;
}

-- how many bytes the elements of a read ask for at most
abbrev pub bytes_asked : List ReadElement → ℕ
bytes_asked elements = sum_by (λ e. e.len) elements

-- an empty buffer with room for what the elements may give
pub record HasRoomToRead (elements : List ReadElement) (read : Buffer) : Type 0 where
  pub empty : read.pieces ≡ []
  pub places : length elements ≤ read.spare_pieces
  pub bytes : bytes_asked elements ≤ read.spare_bytes

-- how long the identifier of a new section is
abbrev pub id_length : NewId → ℕ
id_length (Given id) = length id
id_length Generated = generated_id_bytes

-- the update creates a section that is named so
abbrev pub Creates : NewId → Update → Type 0
Creates new (updates.Create named expiration bytes) = named ≡ new
Creates new update = ⊥

-- an empty buffer with room for the identifier of a new section
pub record HasRoomForId (new : NewId) (read : Buffer) : Type 0 where
  pub empty : read.pieces ≡ []
  pub places : 1 ≤ read.spare_pieces
  pub bytes : id_length new ≤ read.spare_bytes

-- a creation tells an identifier, and a buffer with room for it is lent; any other update tells none
abbrev pub HasRoomToTell : Update → Option Buffer → Type 0
HasRoomToTell (updates.Create new expiration bytes) read = IsSomeAnd read (HasRoomForId new)
HasRoomToTell update read = Unit {0}

-- the commit of what is staged has it
abbrev pub HasRoomToCommit : Option Slot → Option Buffer → Type 0
HasRoomToCommit None read = Unit {0}
HasRoomToCommit (Some slot) read = HasRoomToTell slot.update read

-- what a request to a replica uses is lent: the update of a stage, of an update in one step, or of a weak write, room for the identifier that one in one
-- step or a commit tells, the elements and the buffer of a read, a place for a status, an iteration with room for all identifiers, a place for the
-- section that it gives, a snapshot with room for what is pulled, and one that keeps to what is declared where it is installed
abbrev pub HasLent : Request → Lent → Replica → Type 0
HasLent (requests.Stage call k t) lent x = IsSome lent.update
HasLent (requests.Commit call k) lent x = HasRoomToCommit x.slot lent.read
HasLent (requests.Apply call k) lent x = IsSomeAnd lent.update (λ update. HasRoomToTell update lent.read)
HasLent (requests.Mark call k) lent x = IsSomeAnd lent.update IsWrite
HasLent (requests.Read k) lent x = IsSomeAnd lent.vector (λ elements. IsSomeAnd lent.read (HasRoomToRead elements))
HasLent (requests.Status k) lent x = IsSome lent.status
HasLent (requests.Iterate call k choice) lent x = IsSomeAnd lent.iteration (λ kept. IsRoomFor x.attributes kept.room)
HasLent (requests.Next call k) lent x = IsSome lent.iteration × IsSome lent.section
HasLent (requests.Pull call k) lent x = IsSomeAnd lent.snap (λ s. Fits s.attributes x.sections)
HasLent (requests.Install call k) lent x = IsSomeAnd lent.snap (λ s. Fits x.attributes s.sections)
HasLent request lent x = Unit {0}
