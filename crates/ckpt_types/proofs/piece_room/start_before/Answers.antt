use Rattle.std.proofs.Common.{rules}
use Rattle.ckpt_types.proofs.piece_room.start_before.Goals as goal

pub returns-else-place-eq0 : goal.returns-else-place-eq0
returns-else-place-eq0 c = search rules
