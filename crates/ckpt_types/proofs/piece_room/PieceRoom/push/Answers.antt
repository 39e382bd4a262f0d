use Rattle.std.proofs.Common.{rules, ap, ◌∙◌, ◌+◌}
use Rattle.ckpt_types.specs.declared.piece_room.PieceRoom.TheInside.{Inside}
use Rattle.ckpt_types.specs.Buffer.{with_piece}
use Rattle.ckpt_types.proofs.Pushing.{Pushes, IsRoomy-push, buffer_of-push}
use Rattle.ckpt_types.proofs.piece_room.PieceRoom.push.Goals as goal

pub invariant_of-self : goal.invariant_of-self
invariant_of-self c = IsRoomy-push c.self.inside _ c.args.piece.now (search rules) c.self.invariant

pub returns : goal.returns
returns c =
    let new : Inside = record { bytes = c.push.new.self; breaks = c.end_last.new.breaks; count = c.self.inside.count + 1; max_bytes = c.self.inside.max_bytes; max_pieces = c.self.inside.max_pieces } in
    let pushes : Pushes c.self.inside new c.args.piece.now = search rules in
    buffer_of-push c.self.inside new c.args.piece.now pushes c.self.invariant ∙ ap (with_piece c.args.piece.now) c.self.view_is
