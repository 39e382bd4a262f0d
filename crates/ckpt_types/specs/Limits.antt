-- The numbers of the standard and of this profile, each once: flags, choices, the end of time, and the limits of the
-- service, of its scripts and of its runs.
use Rattle.std.specs.Prelude.{ℕ, ◌+◌, ◌-◌, ◌*◌, ◌^◌, ℤ, pos}

-- ---- creation flags, of the standard

-- an update is done when every replica has it
abbrev pub wr_all_replicas : ℕ
wr_all_replicas = 1

-- an update is done when the active replica has it
abbrev pub wr_active_replica : ℕ
wr_active_replica = 2

-- as the active replica's, and a write that is cut short may leave its sections corrupted
abbrev pub wr_active_replica_weak : ℕ
wr_active_replica_weak = 4

-- replicas are on the nodes that opened the checkpoint
abbrev pub checkpoint_collocated : ℕ
checkpoint_collocated = 8

-- all creation flags together
abbrev pub creation_flags_all : ℕ
creation_flags_all = 15

-- ---- open flags, of the standard

-- the handle may read
abbrev pub checkpoint_read : ℕ
checkpoint_read = 1

-- the handle may write
abbrev pub checkpoint_write : ℕ
checkpoint_write = 2

-- the checkpoint is made where it is missing
abbrev pub checkpoint_create : ℕ
checkpoint_create = 4

-- all open flags together
abbrev pub open_flags_all : ℕ
open_flags_all = 7

-- ---- dispatch flags, of the standard

-- one callback is given
abbrev pub dispatch_one : ℕ
dispatch_one = 1

-- all callbacks are given that are there
abbrev pub dispatch_all : ℕ
dispatch_all = 2

-- ---- choices of an iteration, of the standard

-- the sections that never expire
abbrev pub sections_forever : ℕ
sections_forever = 1

-- those that expire at the time or before
abbrev pub sections_leq_expiration_time : ℕ
sections_leq_expiration_time = 2

-- those that expire at the time or later
abbrev pub sections_geq_expiration_time : ℕ
sections_geq_expiration_time = 3

-- the corrupted ones
abbrev pub sections_corrupted : ℕ
sections_corrupted = 4

-- all of them
abbrev pub sections_any : ℕ
sections_any = 5

-- ---- time and versions, of the standard

-- the greatest time, which no moment is: as an expiration it means never
abbrev pub end_of_time : ℤ
end_of_time = pos (2 ^ 63 - 1)

-- the letter of the release, `B`
abbrev pub release : ℕ
release = 66

-- the first and the last major version of the release that is spoken
abbrev pub major_min : ℕ
major_min = 1

-- the last of them, which is also the one that is answered
abbrev pub major_max : ℕ
major_max = 2

-- the minor version that is answered
abbrev pub minor_answered : ℕ
minor_answered = 2

-- ---- limits of this profile: what may be declared and asked for

-- the most bytes of a checkpoint's name
abbrev pub name_max : ℕ
name_max = 256

-- the most bytes of a section's identifier in a call
abbrev pub section_id_max : ℕ
section_id_max = 256

-- the most bytes that the sections of a checkpoint are declared to have
abbrev pub declared_bytes_max : ℕ
declared_bytes_max = 1048576

-- the most sections that a checkpoint is declared to have
abbrev pub sections_max : ℕ
sections_max = 1024

-- the most bytes that identifiers are declared to have
abbrev pub declared_id_max : ℕ
declared_id_max = 64

-- the bytes of an identifier that the service makes
abbrev pub generated_id_bytes : ℕ
generated_id_bytes = 8

-- the most elements of a write or a read
abbrev pub vector_max : ℕ
vector_max = 64

-- ---- limits of this profile: how many there are of each

-- nodes, n0 to n7
abbrev pub nodes_max : ℕ
nodes_max = 8

-- numbers of clients, c0 to c99
abbrev pub client_numbers : ℕ
client_numbers = 100

-- one more than the last checkpoint that a word says, K1 to K9999
abbrev pub ckpt_numbers : ℕ
ckpt_numbers = 10000

-- live clients
abbrev pub clients_max : ℕ
clients_max = 64

-- checkpoints, those in the making and the unlinked ones among them
abbrev pub checkpoints_max : ℕ
checkpoints_max = 16

-- places of a client's handles, h0 to h99, and as many of its iterations, i0 to i99
abbrev pub places_max : ℕ
places_max = 100

-- handles of a client
abbrev pub handles_max : ℕ
handles_max = 32

-- iterations of a client
abbrev pub iterations_max : ℕ
iterations_max = 8

-- a client has at most so many asynchronous calls that were not dispatched
abbrev pub pending_max : ℕ
pending_max = 16

-- ---- limits of this profile: scripts

-- the most bytes of a script
abbrev pub script_bytes_max : ℕ
script_bytes_max = 262144

-- the most lines of a script
abbrev pub script_lines_max : ℕ
script_lines_max = 10000

-- the most bytes that all reads of a script ask for together
abbrev pub script_reads_max : ℕ
script_reads_max = 16777216

-- the most lines that show a checkpoint
abbrev pub script_shows_max : ℕ
script_shows_max = 16

-- the most lines of a block that threads run
abbrev pub block_lines_max : ℕ
block_lines_max = 256

-- the most elements that a line can give to a write or a read
abbrev pub line_elements_max : ℕ
line_elements_max = 256

-- the most steps that a line can ask for
abbrev pub line_steps_max : ℕ
line_steps_max = 1000000

-- the most lines of a script that can be played
abbrev pub played_lines_max : ℕ
played_lines_max = 2000000

-- ---- limits of this profile: what a run says

-- the most labels that a line of a script gives
abbrev pub line_labels_max : ℕ
line_labels_max = 1000

-- the most labels that a line gives, of the lines that are built: a copying begins, and takes at most 46 steps at each checkpoint
abbrev pub built_line_labels : ℕ
built_line_labels = 46 * checkpoints_max + 1

-- the most bytes that a show lists of a section, its first ones
abbrev pub listed_bytes_max : ℕ
listed_bytes_max = 16
