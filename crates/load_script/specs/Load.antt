-- The generated load: four clients, each on a node of its own, write and read the sections of one checkpoint, and a node fails in between.
use Rattle.std.specs.Prelude.{◌≡◌, ◌≤◌, ℕ, zero, suc, ◌+◌, ◌*◌, ◌/◌, ◌%◌, List, [], ◌∷◌, ◌++◌, map, Some, None, false, codes, decimal}
use Rattle.std.specs.Int.{to_be_bytes, w64}
use Rattle.ckpt_types.specs.declared.attributes.CreationAttributes.{CreationAttributes}
use Rattle.ckpt_types.specs.declared.identities.ActorName.TheVariants as actors
use Rattle.ckpt_types.specs.declared.identities.Who.TheVariants as whose
use Rattle.ckpt_types.specs.declared.operation.Op.{Op}
use Rattle.ckpt_types.specs.declared.operation.Op.TheVariants as ops
use Rattle.ckpt_types.specs.declared.update.NewId.TheVariants as new_ids
use Rattle.ckpt_types.specs.declared.update.Update.TheVariants as updates
use Rattle.ckpt_types.specs.Limits.{end_of_time, wr_all_replicas}
use Rattle.script_lines.specs.declared.lines.Line.{Line}
use Rattle.script_lines.specs.declared.lines.Line.TheVariants as lines

-- the most writes of a load, and the most reads
abbrev pub load_max : ℕ
load_max = 4000

-- the word says this number of writes: its decimal digits, with no zero in front
abbrev pub SpellsTurns : List ℕ → ℕ → Type 0
SpellsTurns word turns = (word ≡ decimal turns) × (1 ≤ turns) × (turns ≤ load_max)

-- the numbers from 0 on, so many of them
abbrev pub numbers : ℕ → List ℕ
numbers zero = []
numbers (suc n) = numbers n ++ n ∷ []

-- the checkpoint has room for 64 sections of 1,024 bytes, and its updates go to all replicas
abbrev pub load_attributes : CreationAttributes
load_attributes = record { creation_flags = wr_all_replicas; checkpoint_size = 65536; retention_duration = end_of_time; max_sections = 64; max_section_size = 1024; max_section_id_size = 8 }

-- the name of a section: `s00`, `s01` and so on, with two digits
abbrev pub section_name : ℕ → List ℕ
section_name section = codes "s" ++ decimal (section / 10) ++ decimal (section % 10)

-- `client c2 n2 B.2.2 none`: a client becomes live on the node of its number
abbrev pub client_comes : ℕ → Line
client_comes client = lines.Call client (ops.Client client (record { release = 66; major = 2; minor = 2 }) (record { opens = false; syncs = false }))

-- `open c0 h0 'all 7 end` and the attributes: the first client makes the checkpoint
abbrev pub checkpoint_made : Line
checkpoint_made = lines.Call 0 (ops.Open 0 (codes "all") 7 end_of_time (Some load_attributes))

-- `open c2 h0 'all 3 end`: another client opens it, to read and to write
abbrev pub checkpoint_opened : ℕ → Line
checkpoint_opened client = lines.Call client (ops.Open 0 (codes "all") 3 end_of_time None)

-- the nodes come up, the clients on them, and each has the checkpoint open
abbrev pub opening_lines : List Line
opening_lines = lines.Nodes 4 ∷ map client_comes (numbers 4) ++ checkpoint_made ∷ checkpoint_opened 1 ∷ checkpoint_opened 2 ∷ checkpoint_opened 3 ∷ []

-- `create c0 h0 's07 end x`: a section is made, empty
abbrev pub section_made : ℕ → Line
section_made section = lines.Call 0 (ops.Create 0 (updates.Create (new_ids.Given (section_name section)) end_of_time []))

-- one element is written: these bytes from an offset on
abbrev pub one_written : ℕ → ℕ → List ℕ → Op
one_written section offset bytes = ops.Write 0 (updates.Write (record { id = section_name section; offset = offset; bytes = bytes } ∷ []))

-- the clients take turns to write: the number of the turn, in eight bytes with the highest first
abbrev pub turn_written : ℕ → Line
turn_written turn = lines.Call (turn % 4) (one_written (7 * turn % 32) (13 * turn % 1000) (to_be_bytes w64 turn))

-- `begin write c0 h0 's00 0 'zz`, `step c0 6`, `fail n0`, `join n0`, `copy n0`: a node fails under a write, comes back, and copies what it lacks
abbrev pub failure_lines : List Line
failure_lines =
    lines.Begin (actors.Client 0) (one_written 0 0 (codes "zz"))
    ∷ lines.Step (whose.Actor (actors.Client 0)) 6
    ∷ lines.Fail 0
    ∷ lines.Join 0
    ∷ lines.Copy 0
    ∷ []

-- the clients whose nodes did not fail take turns to read: a section from its first byte on
abbrev pub turn_read : ℕ → Line
turn_read turn = lines.Call (1 + turn % 3) (ops.Read 0 (record { id = section_name (5 * turn % 32); offset = 0; len = 1024 } ∷ []))

-- THE GENERATED LOAD of so many writes and as many reads
abbrev pub generated : ℕ → List Line
generated turns = opening_lines ++ map section_made (numbers 32) ++ map turn_written (numbers turns) ++ failure_lines ++ map turn_read (numbers turns)
