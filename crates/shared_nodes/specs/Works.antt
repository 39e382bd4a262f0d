-- What a call takes before it begins.
use Rattle.std.specs.Prelude.{◌≡◌, ℕ, [], length, Option, None, IsSome, nat_lt, if◌then◌else◌}
use Rattle.ckpt_types.specs.declared.operation.Op.{Op}
use Rattle.ckpt_types.specs.declared.sections.CheckpointDescriptor.{CheckpointDescriptor}
use Rattle.ckpt_types.specs.declared.sections.SectionDescriptor.{SectionDescriptor}
use Rattle.ckpt_types.specs.declared.update.NewId.TheVariants.{Given}
use Rattle.ckpt_types.specs.declared.update.Update.{Update}
use Rattle.ckpt_types.specs.declared.update.Update.TheVariants as updates
use Rattle.ckpt_types.specs.Asks.{Ask, asked, update_of, elements_of}
use Rattle.ckpt_types.specs.Asks as asks
use Rattle.ckpt_types.specs.Buffer.{Buffer}
use Rattle.ckpt_types.specs.Limits.{declared_id_max}
use Rattle.node_core.specs.Lending.{bytes_asked}

-- the operation; how many shares of its update are there, how many buffers for an identifier that a commit tells, how many shares of its elements, and how
-- many buffers for what a read gives; and places for a status and for a section
pub record KeptWork : Type 0 where
  pub op : Op
  pub updates : ℕ
  pub ids : ℕ
  pub elements : ℕ
  pub reads : ℕ
  pub status : Option CheckpointDescriptor
  pub section : Option SectionDescriptor

-- for each of at most 512 steps one share of an update is lent, and one is kept beside the step
abbrev pub update_shares_max : ℕ
update_shares_max = 1024

-- a read is one step
abbrev pub read_shares_max : ℕ
read_shares_max = 2

-- on each of 8 nodes a call commits what it has staged, and before that what another has that is gone
abbrev pub commits_max : ℕ
commits_max = 16

-- an empty buffer
abbrev pub empty_buffer : ℕ → ℕ → Buffer
empty_buffer pieces bytes = record { pieces = []; spare_pieces = pieces; spare_bytes = bytes }

-- how long an identifier may be that an update tells: as long as any that is declared, or as the one that it gives
abbrev pub longest_id : Update → ℕ
longest_id (updates.Create (Given id) expiration bytes) = if nat_lt declared_id_max (length id) then length id else declared_id_max
longest_id update = declared_id_max

-- an empty buffer for the identifier that a commit tells
abbrev pub id_buffer : Op → Buffer
id_buffer op = empty_buffer 1 (longest_id (update_of op))

-- an empty buffer for all that the elements of a read may give
abbrev pub read_buffer : Op → Buffer
read_buffer op = empty_buffer (length (elements_of op)) (bytes_asked (elements_of op))

-- an operation, and nothing for it
abbrev pub work_alone : Op → KeptWork
work_alone op = record { op = op; updates = 0; ids = 0; elements = 0; reads = 0; status = None; section = None }

-- what a call that asks for this wants, but for the room that depends on what its checkpoint declares: an update its shares, and room for an identifier at
-- each commit; a read the shares of its elements and one buffer; a status, and the next section of an iteration, a place for it; anything else nothing
abbrev pub IsFurnishedFor : Ask → Op → KeptWork → Type 0
IsFurnishedFor (asks.Change place update) op w = w ≡ record (work_alone op) { updates = update_shares_max; ids = commits_max }
IsFurnishedFor (asks.Read place elements) op w = w ≡ record (work_alone op) { elements = read_shares_max; reads = 1 }
IsFurnishedFor (asks.Status place) op w = IsSome w.status × (w ≡ record (work_alone op) { status = w.status })
IsFurnishedFor (asks.Next iteration) op w = IsSome w.section × (w ≡ record (work_alone op) { section = w.section })
IsFurnishedFor ask op w = w ≡ work_alone op

-- the same of an operation
abbrev pub IsFurnished : Op → KeptWork → Type 0
IsFurnished op w = IsFurnishedFor (asked op) op w
