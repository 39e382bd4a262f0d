-- Each number that the code has is the number of its definition.
use Rattle.std.proofs.Common.{◌≡◌, refl}
use Rattle.ckpt_types.specs.declared.limits.TheConstants.{WR_ALL_REPLICAS, WR_ACTIVE_REPLICA, WR_ACTIVE_REPLICA_WEAK, CHECKPOINT_COLLOCATED, CREATION_FLAGS_ALL, CHECKPOINT_READ, CHECKPOINT_WRITE, CHECKPOINT_CREATE, OPEN_FLAGS_ALL, SECTIONS_FOREVER, SECTIONS_LEQ_EXPIRATION_TIME, SECTIONS_GEQ_EXPIRATION_TIME, SECTIONS_CORRUPTED, SECTIONS_ANY, NEVER, RELEASE, MAJOR_MIN, MAJOR_MAX, MINOR_ANSWERED, NAME_MAX, SECTION_ID_MAX, DECLARED_BYTES_MAX, SECTIONS_MAX, DECLARED_ID_MAX, GENERATED_ID_BYTES, VECTOR_MAX, NODES_MAX, CLIENT_NUMBERS, CKPT_NUMBERS, CLIENTS_MAX, CHECKPOINTS_MAX, PLACES_MAX, HANDLES_MAX, ITERATIONS_MAX, PENDING_MAX, DISPATCH_ONE, DISPATCH_ALL, SCRIPT_BYTES_MAX, SCRIPT_LINES_MAX, SCRIPT_READS_MAX, SCRIPT_SHOWS_MAX, BLOCK_LINES_MAX, LINE_ELEMENTS_MAX, LINE_STEPS_MAX, LISTED_BYTES_MAX}
use Rattle.ckpt_types.specs.Limits.{wr_all_replicas, wr_active_replica, wr_active_replica_weak, checkpoint_collocated, creation_flags_all, checkpoint_read, checkpoint_write, checkpoint_create, open_flags_all, sections_forever, sections_leq_expiration_time, sections_geq_expiration_time, sections_corrupted, sections_any, end_of_time, release, major_min, major_max, minor_answered, name_max, section_id_max, declared_bytes_max, sections_max, declared_id_max, generated_id_bytes, vector_max, nodes_max, client_numbers, ckpt_numbers, clients_max, checkpoints_max, places_max, handles_max, iterations_max, pending_max, dispatch_one, dispatch_all, script_bytes_max, script_lines_max, script_reads_max, script_shows_max, block_lines_max, line_elements_max, line_steps_max, listed_bytes_max}

WR_ALL_REPLICAS-is : WR_ALL_REPLICAS ≡ wr_all_replicas
WR_ALL_REPLICAS-is = refl

WR_ACTIVE_REPLICA-is : WR_ACTIVE_REPLICA ≡ wr_active_replica
WR_ACTIVE_REPLICA-is = refl

WR_ACTIVE_REPLICA_WEAK-is : WR_ACTIVE_REPLICA_WEAK ≡ wr_active_replica_weak
WR_ACTIVE_REPLICA_WEAK-is = refl

CHECKPOINT_COLLOCATED-is : CHECKPOINT_COLLOCATED ≡ checkpoint_collocated
CHECKPOINT_COLLOCATED-is = refl

CREATION_FLAGS_ALL-is : CREATION_FLAGS_ALL ≡ creation_flags_all
CREATION_FLAGS_ALL-is = refl

CHECKPOINT_READ-is : CHECKPOINT_READ ≡ checkpoint_read
CHECKPOINT_READ-is = refl

CHECKPOINT_WRITE-is : CHECKPOINT_WRITE ≡ checkpoint_write
CHECKPOINT_WRITE-is = refl

CHECKPOINT_CREATE-is : CHECKPOINT_CREATE ≡ checkpoint_create
CHECKPOINT_CREATE-is = refl

OPEN_FLAGS_ALL-is : OPEN_FLAGS_ALL ≡ open_flags_all
OPEN_FLAGS_ALL-is = refl

SECTIONS_FOREVER-is : SECTIONS_FOREVER ≡ sections_forever
SECTIONS_FOREVER-is = refl

SECTIONS_LEQ_EXPIRATION_TIME-is : SECTIONS_LEQ_EXPIRATION_TIME ≡ sections_leq_expiration_time
SECTIONS_LEQ_EXPIRATION_TIME-is = refl

SECTIONS_GEQ_EXPIRATION_TIME-is : SECTIONS_GEQ_EXPIRATION_TIME ≡ sections_geq_expiration_time
SECTIONS_GEQ_EXPIRATION_TIME-is = refl

SECTIONS_CORRUPTED-is : SECTIONS_CORRUPTED ≡ sections_corrupted
SECTIONS_CORRUPTED-is = refl

SECTIONS_ANY-is : SECTIONS_ANY ≡ sections_any
SECTIONS_ANY-is = refl

NEVER-is : NEVER ≡ end_of_time
NEVER-is = refl

RELEASE-is : RELEASE ≡ release
RELEASE-is = refl

MAJOR_MIN-is : MAJOR_MIN ≡ major_min
MAJOR_MIN-is = refl

MAJOR_MAX-is : MAJOR_MAX ≡ major_max
MAJOR_MAX-is = refl

MINOR_ANSWERED-is : MINOR_ANSWERED ≡ minor_answered
MINOR_ANSWERED-is = refl

NAME_MAX-is : NAME_MAX ≡ name_max
NAME_MAX-is = refl

SECTION_ID_MAX-is : SECTION_ID_MAX ≡ section_id_max
SECTION_ID_MAX-is = refl

DECLARED_BYTES_MAX-is : DECLARED_BYTES_MAX ≡ declared_bytes_max
DECLARED_BYTES_MAX-is = refl

SECTIONS_MAX-is : SECTIONS_MAX ≡ sections_max
SECTIONS_MAX-is = refl

DECLARED_ID_MAX-is : DECLARED_ID_MAX ≡ declared_id_max
DECLARED_ID_MAX-is = refl

GENERATED_ID_BYTES-is : GENERATED_ID_BYTES ≡ generated_id_bytes
GENERATED_ID_BYTES-is = refl

VECTOR_MAX-is : VECTOR_MAX ≡ vector_max
VECTOR_MAX-is = refl

NODES_MAX-is : NODES_MAX ≡ nodes_max
NODES_MAX-is = refl

CLIENT_NUMBERS-is : CLIENT_NUMBERS ≡ client_numbers
CLIENT_NUMBERS-is = refl

CKPT_NUMBERS-is : CKPT_NUMBERS ≡ ckpt_numbers
CKPT_NUMBERS-is = refl

CLIENTS_MAX-is : CLIENTS_MAX ≡ clients_max
CLIENTS_MAX-is = refl

CHECKPOINTS_MAX-is : CHECKPOINTS_MAX ≡ checkpoints_max
CHECKPOINTS_MAX-is = refl

PLACES_MAX-is : PLACES_MAX ≡ places_max
PLACES_MAX-is = refl

HANDLES_MAX-is : HANDLES_MAX ≡ handles_max
HANDLES_MAX-is = refl

ITERATIONS_MAX-is : ITERATIONS_MAX ≡ iterations_max
ITERATIONS_MAX-is = refl

SCRIPT_BYTES_MAX-is : SCRIPT_BYTES_MAX ≡ script_bytes_max
SCRIPT_BYTES_MAX-is = refl

SCRIPT_LINES_MAX-is : SCRIPT_LINES_MAX ≡ script_lines_max
SCRIPT_LINES_MAX-is = refl

SCRIPT_READS_MAX-is : SCRIPT_READS_MAX ≡ script_reads_max
SCRIPT_READS_MAX-is = refl

SCRIPT_SHOWS_MAX-is : SCRIPT_SHOWS_MAX ≡ script_shows_max
SCRIPT_SHOWS_MAX-is = refl

BLOCK_LINES_MAX-is : BLOCK_LINES_MAX ≡ block_lines_max
BLOCK_LINES_MAX-is = refl

LINE_ELEMENTS_MAX-is : LINE_ELEMENTS_MAX ≡ line_elements_max
LINE_ELEMENTS_MAX-is = refl

LINE_STEPS_MAX-is : LINE_STEPS_MAX ≡ line_steps_max
LINE_STEPS_MAX-is = refl

LISTED_BYTES_MAX-is : LISTED_BYTES_MAX ≡ listed_bytes_max
LISTED_BYTES_MAX-is = refl

PENDING_MAX-is : PENDING_MAX ≡ pending_max
PENDING_MAX-is = refl

DISPATCH_ONE-is : DISPATCH_ONE ≡ dispatch_one
DISPATCH_ONE-is = refl

DISPATCH_ALL-is : DISPATCH_ALL ≡ dispatch_all
DISPATCH_ALL-is = refl
