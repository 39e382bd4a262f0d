-- What an operation asks for: the five updates ask alike, and an asynchronous call asks for what its like asks, with no timeout.
use Rattle.std.specs.Prelude.{◌≡◌, ◌≢◌, ℕ, ◌+◌, ◌<◌, List, [], Option, Some, None, Bool, true, false, ℤ}
use Rattle.ckpt_types.specs.declared.attributes.CreationAttributes.{CreationAttributes}
use Rattle.ckpt_types.specs.declared.calls.CallbackSet.{CallbackSet}
use Rattle.ckpt_types.specs.declared.calls.Version.{Version}
use Rattle.ckpt_types.specs.declared.identities.ActorName.{ActorName}
use Rattle.ckpt_types.specs.declared.identities.ActorName.TheVariants as actors
use Rattle.ckpt_types.specs.declared.operation.Op.{Op}
use Rattle.ckpt_types.specs.declared.operation.Op.TheVariants as ops
use Rattle.ckpt_types.specs.declared.update.ReadElement.{ReadElement}
use Rattle.ckpt_types.specs.declared.update.Update.{Update}
use Rattle.ckpt_types.specs.declared.update.Update.TheVariants as updates
use Rattle.ckpt_types.specs.Limits.{places_max, nodes_max, client_numbers}

-- what a call asks for; of places, that of the handle stands first, and that of an iteration before it
pub data Ask : Type 0 where
  -- to be live on a node, by a version of the service, with callbacks
  Enter : ℕ → Version → CallbackSet → Ask
  -- a handle of the checkpoint of a name: its place, the name, the flags, the timeout, which an asynchronous open has not, and the attributes with which it is made
  Open : ℕ → List ℕ → ℕ → Option ℤ → Option CreationAttributes → Ask
  -- an update of the sections
  Change : ℕ → Update → Ask
  -- what these elements have
  Read : ℕ → List ReadElement → Ask
  -- the status of the checkpoint
  Status : ℕ → Ask
  -- an iteration over the sections that a choice and a time name
  Iterate : ℕ → ℕ → ℕ → ℤ → Ask
  -- the next section of an iteration
  Next : ℕ → Ask
  -- the end of an iteration
  EndIteration : ℕ → Ask
  -- the end of a handle
  Close : ℕ → Ask
  -- another retention of the checkpoint
  Retain : ℕ → ℤ → Ask
  -- the end of a name
  Unlink : List ℕ → Ask
  -- to be live no more
  Leave : Ask
  -- what the active has on each complete replica, with a timeout, which an asynchronous synchronisation has not
  Synchronize : ℕ → Option ℤ → Ask
  -- the client's node as the active
  SetActive : ℕ → Ask
  -- the callbacks of asynchronous calls that have ended, by the flags one or all
  Dispatch : ℕ → Ask
  -- a replica of each checkpoint that a node lacks, which has come back
  Copy : Ask

-- WHAT AN OPERATION ASKS FOR
abbrev pub asked : Op → Ask
asked (ops.Client r version callbacks) = Enter r version callbacks
asked (ops.Open place name flags timeout a) = Open place name flags (Some timeout) a
asked (ops.OpenAsync place invocation name flags a) = Open place name flags None a
asked (ops.Create place update) = Change place update
asked (ops.Delete place update) = Change place update
asked (ops.Expire place update) = Change place update
asked (ops.Write place update) = Change place update
asked (ops.Over place update) = Change place update
asked (ops.Read place elements) = Read place elements
asked (ops.Status place) = Status place
asked (ops.Iter iteration place chosen time) = Iterate iteration place chosen time
asked (ops.Next iteration) = Next iteration
asked (ops.EndIter iteration) = EndIteration iteration
asked (ops.Close place) = Close place
asked (ops.Retain place duration) = Retain place duration
asked (ops.Unlink name) = Unlink name
asked ops.Finalize = Leave
asked (ops.Sync place timeout) = Synchronize place (Some timeout)
asked (ops.SyncAsync place invocation) = Synchronize place None
asked (ops.Active place) = SetActive place
asked (ops.Dispatch flags) = Dispatch flags
asked ops.Copy = Copy

-- the update that is asked for
abbrev pub update_asked : Ask → Update
update_asked (Change place update) = update
update_asked ask = updates.Nothing

-- the update of an operation
abbrev pub update_of : Op → Update
update_of op = update_asked (asked op)

-- the elements that are asked for
abbrev pub elements_asked : Ask → List ReadElement
elements_asked (Read place elements) = elements
elements_asked ask = []

-- the elements of a read
abbrev pub elements_of : Op → List ReadElement
elements_of op = elements_asked (asked op)

-- an iteration that is started takes room for the identifiers that it keeps; a synchronisation and the setting of an active take it for a snapshot, and a
-- copying for what is the same at each checkpoint
abbrev pub takes_room : Ask → Bool
takes_room (Iterate iteration place chosen time) = true
takes_room (Synchronize place timeout) = true
takes_room (SetActive place) = true
takes_room Copy = true
takes_room ask = false

-- ---- asynchronous calls

-- it is of an asynchronous call: it waits for nothing, and goes on by itself
abbrev pub is_async_ask : Ask → Bool
is_async_ask (Open place name flags None a) = true
is_async_ask (Synchronize place None) = true
is_async_ask ask = false

-- the invocation by which its client knows an asynchronous call
abbrev pub invocation_of : Op → ℕ
invocation_of (ops.OpenAsync place invocation name flags a) = invocation
invocation_of (ops.SyncAsync place invocation) = invocation
invocation_of op = 0

-- ---- the operations that are built

-- what is asked for is built, and names a node and places that there are
abbrev pub IsBuiltAsk : Ask → Type 0
IsBuiltAsk (Enter r version callbacks) = r < nodes_max
IsBuiltAsk (Open place name flags timeout a) = place < places_max
IsBuiltAsk (Change place update) = place < places_max
IsBuiltAsk (Read place elements) = place < places_max
IsBuiltAsk (Status place) = place < places_max
IsBuiltAsk (Iterate iteration place chosen time) = (iteration < places_max) × (place < places_max)
IsBuiltAsk (Next iteration) = iteration < places_max
IsBuiltAsk (EndIteration iteration) = iteration < places_max
IsBuiltAsk (Close place) = place < places_max
IsBuiltAsk (Retain place duration) = place < places_max
IsBuiltAsk (Unlink name) = Unit {0}
IsBuiltAsk Leave = Unit {0}
IsBuiltAsk (Synchronize place timeout) = place < places_max
IsBuiltAsk (SetActive place) = place < places_max
IsBuiltAsk (Dispatch flags) = Unit {0}
IsBuiltAsk Copy = Unit {0}

-- the operation is one that is built
abbrev pub IsBuilt : Op → Type 0
IsBuilt op = IsBuiltAsk (asked op)

-- ---- who may ask

-- a client, one of those that the script may name, asks for anything but a copying; a node for that alone
abbrev pub MayAsk : ActorName → Ask → Type 0
MayAsk (actors.Client c) Copy = ⊥
MayAsk (actors.Client c) ask = c < client_numbers
MayAsk (actors.Node r) Copy = r < nodes_max
MayAsk (actors.Node r) ask = ⊥
