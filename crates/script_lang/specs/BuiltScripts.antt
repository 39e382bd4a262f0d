-- What is asked for in a script of the forms that are built.
use Rattle.std.specs.Prelude.{ℕ, ◌^◌, ◌-◌, ◌<◌, ◌≤◌, ⊤, List, [], ◌∷◌, length, ℤ, pos, nat_abs, ◌≤ℤ◌, Option, Some, None, sum_by}
use Rattle.std.specs.List.{All}
use Rattle.ckpt_types.specs.declared.attributes.CreationAttributes.{CreationAttributes}
use Rattle.ckpt_types.specs.declared.identities.ActorName.{ActorName}
use Rattle.ckpt_types.specs.declared.identities.ActorName.TheVariants as actor
use Rattle.ckpt_types.specs.declared.identities.Who.{Who}
use Rattle.ckpt_types.specs.declared.operation.Op.{Op}
use Rattle.ckpt_types.specs.declared.operation.Op.TheVariants as ops
use Rattle.ckpt_types.specs.declared.update.IoElement.{IoElement}
use Rattle.ckpt_types.specs.declared.update.ReadElement.{ReadElement}
use Rattle.ckpt_types.specs.declared.update.Update.{Update}
use Rattle.ckpt_types.specs.declared.update.Update.TheVariants as updates
use Rattle.ckpt_types.specs.Asks.{MayAsk, asked, IsBuilt}
use Rattle.ckpt_types.specs.Limits.{nodes_max, section_id_max, line_elements_max, line_steps_max, script_reads_max, script_lines_max, end_of_time}
use Rattle.script_words.specs.Fitting.{IsNewId, IsTime, IsVersion, IsWho}
use Rattle.script_lines.specs.declared.lines.Line.{Line}
use Rattle.script_lines.specs.declared.lines.Line.TheVariants as lines
use Rattle.script_lang.specs.Grammar.{moment_behind}

-- flags and a number of sections of 32 bits, and sizes of 64 bits
pub record HasNumbersInRange (a : CreationAttributes) : Type 0 where
  pub flags : a.creation_flags < 2 ^ 32
  pub sections : a.max_sections < 2 ^ 32
  pub size : a.checkpoint_size < 2 ^ 64
  pub section_size : a.max_section_size < 2 ^ 64
  pub id_size : a.max_section_id_size < 2 ^ 64

-- no attributes, or such
abbrev pub HaveNumbersInRange : Option CreationAttributes → Type 0
HaveNumbersInRange None = ⊤
HaveNumbersInRange (Some a) = HasNumbersInRange a

-- an offset of 64 bits, and an identifier that is not too long
abbrev pub IsIoElement : IoElement → Type 0
IsIoElement e = (e.offset < 2 ^ 64) × (length e.id ≤ section_id_max)

-- an offset of 64 bits, an identifier that is not too long, and no more bytes to read than a script may ask for
abbrev pub IsReadElement : ReadElement → Type 0
IsReadElement e = (e.offset < 2 ^ 64) × (e.len ≤ script_reads_max) × (length e.id ≤ section_id_max)

-- a write of one or more elements, no more than a line can give
abbrev pub AreWrites : Update → Type 0
AreWrites (updates.Write elements) = (0 < length elements) × (length elements ≤ line_elements_max) × All IsIoElement elements
AreWrites _ = ⊥

-- one or more elements of a read, no more than a line can give, which ask for no more bytes together than a script may
abbrev pub AreReads : List ReadElement → Type 0
AreReads elements = (0 < length elements) × (length elements ≤ line_elements_max) × All IsReadElement elements × (sum_by (λ e. e.len) elements ≤ script_reads_max)

-- a new section, under an identifier that is not too long or one that the service makes
abbrev pub IsCreation : Update → Type 0
IsCreation (updates.Create id expiration bytes) = IsNewId id × IsTime expiration
IsCreation _ = ⊥

-- a section is taken away
abbrev pub IsDeletion : Update → Type 0
IsDeletion (updates.Delete id) = length id ≤ section_id_max
IsDeletion _ = ⊥

-- a section expires at another time
abbrev pub IsExpirationSetting : Update → Type 0
IsExpirationSetting (updates.SetExpiration id expiration) = (length id ≤ section_id_max) × IsTime expiration
IsExpirationSetting _ = ⊥

-- other bytes for a section
abbrev pub IsOverwriting : Update → Type 0
IsOverwriting (updates.Overwrite id bytes) = length id ≤ section_id_max
IsOverwriting _ = ⊥

-- the values of a call are in their ranges, and its update is of its own kind
abbrev pub HasValuesInRange : Op → Type 0
HasValuesInRange (ops.Client node version callbacks) = IsVersion version
HasValuesInRange (ops.Open place name flags timeout attributes) = (flags < 2 ^ 32) × HaveNumbersInRange attributes
HasValuesInRange (ops.OpenAsync place invocation name flags attributes) = (invocation < 2 ^ 64) × (flags < 2 ^ 32) × HaveNumbersInRange attributes
HasValuesInRange (ops.Retain place duration) = IsTime duration
HasValuesInRange (ops.Create place update) = IsCreation update
HasValuesInRange (ops.Delete place update) = IsDeletion update
HasValuesInRange (ops.Expire place update) = IsExpirationSetting update
HasValuesInRange (ops.Iter iteration place chosen time) = chosen < 2 ^ 64
HasValuesInRange (ops.Write place update) = AreWrites update
HasValuesInRange (ops.Over place update) = IsOverwriting update
HasValuesInRange (ops.Read place elements) = AreReads elements
HasValuesInRange (ops.Sync place timeout) = IsTime timeout
HasValuesInRange (ops.SyncAsync place invocation) = invocation < 2 ^ 64
HasValuesInRange (ops.Dispatch flags) = flags < 2 ^ 32
HasValuesInRange _ = ⊤

-- a call of a client, or the copying of a node, of an operation that is built, with its values in their ranges
abbrev pub IsBuiltCall : ActorName → Op → Type 0
IsBuiltCall a op = MayAsk a (asked op) × IsBuilt op × HasValuesInRange op

-- whose call may be stepped: a client's or a node's, for the one that it has in hand, or a call of a client by its number
abbrev pub IsStepped : Who → Type 0
IsStepped who = IsWho who

-- at this moment, a call of a client, or the copying of a node, stepped to its end or only begun; steps of a call, so many or to its end; a moment that is no earlier,
-- before the end of time; a snapshot pulled, put at one of the nodes, or propagated to all; the replicas of a checkpoint; or a node that fails or joins
abbrev pub IsBuiltLine : ℤ → Line → Type 0
IsBuiltLine t (lines.Call client op) = IsBuiltCall (actor.Client client) op
IsBuiltLine t (lines.Begin a op) = IsBuiltCall a op
IsBuiltLine t (lines.Copy r) = r < nodes_max
IsBuiltLine t (lines.Step who steps) = IsStepped who × (0 < steps) × (steps ≤ line_steps_max)
IsBuiltLine t (lines.Finish who) = IsStepped who
IsBuiltLine t (lines.At u) = (t ≤ℤ u) × (u ≤ℤ pos (nat_abs end_of_time - 1))
IsBuiltLine t (lines.Pull k) = ⊤
IsBuiltLine t (lines.Put k r) = r < nodes_max
IsBuiltLine t (lines.Propagate k) = ⊤
IsBuiltLine t (lines.Show k) = ⊤
IsBuiltLine t (lines.Fail r) = r < nodes_max
IsBuiltLine t (lines.Join r) = r < nodes_max
IsBuiltLine t _ = ⊥

-- from this moment on, each line at the moment that those before it leave
abbrev pub AreBuiltLines : ℤ → List Line → Type 0
AreBuiltLines t [] = ⊤
AreBuiltLines t (x ∷ xs) = IsBuiltLine t x × AreBuiltLines (moment_behind t x) xs

-- the first nodes come up, as many as there may be
abbrev pub AreFirstNodes : Line → Type 0
AreFirstNodes (lines.Nodes count) = (0 < count) × (count ≤ nodes_max)
AreFirstNodes _ = ⊥

-- the nodes first, and then lines as above alone, from the moment 0 on; or nothing
abbrev pub AreNodesFirst : List Line → Type 0
AreNodesFirst [] = ⊤
AreNodesFirst (x ∷ xs) = AreFirstNodes x × AreBuiltLines (pos 0) xs

-- A SCRIPT OF WHAT IS BUILT, of no more lines than a script may have
abbrev pub IsBuiltScript : List Line → Type 0
IsBuiltScript xs = AreNodesFirst xs × (length xs ≤ script_lines_max)
