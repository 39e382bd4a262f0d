use Rattle.std.proofs.Common.{to_z, of_z, w64, subst}
use Rattle.std.specs.Prelude.{IsSomeAnd}
use Rattle.node_core.specs.Lending.{HasRoomToRead}
use Rattle.node_core.proofs.Pieces.{sum_by-read}
use Rattle.node_core.proofs.reads.read_into.Goals as goal

pub read_into-requires-clause-room : goal.read_into-requires-clause-room
read_into-requires-clause-room c =
    let room : HasRoomToRead c.args.elements.now c.in-Some.read = subst (λ o. IsSomeAnd o (HasRoomToRead c.args.elements.now)) c.in-Some.is c.requires.room in
    sum_by-read c.args.elements.now (to_z w64 (of_z w64 c.args.now)) c.args.store.now.sections c.in-Some.read.spare_bytes room.bytes
