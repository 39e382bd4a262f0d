use Rattle.std.proofs.Common.{to_z, of_z, w64}
use Rattle.node_core.proofs.Pieces.{sum_by-read}
use Rattle.node_core.proofs.reads.read_whole.Goals as goal

pub read_into-requires-clause-room : goal.read_into-requires-clause-room
read_into-requires-clause-room c = sum_by-read c.args.elements.now (to_z w64 (of_z w64 c.args.now)) c.args.store.now.sections c.args.out.now.spare_bytes c.requires.room.bytes
