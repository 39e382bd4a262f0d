use Rattle.std.proofs.Common.{sym, ap, ◌∙◌}
use Rattle.cluster_record.specs.RecordState.{RecordState, swept}
use Rattle.world_core.specs.Freeing.{freed_world}
use Rattle.world_core.specs.Settling.{without_making_of}
use Rattle.world_core.proofs.world.World.unmake.Goals as goal

pub returns-in-Some : goal.returns-in-Some
returns-in-Some c =
    let w = c.args.self.now in
    c.free_gone.ensures.new
    ∙ ap (λ (R : RecordState). freed_world (record w { cluster = R })) (c.sweep.ensures ∙ ap swept c.undo_create.ensures)
    ∙ ap (λ making. without_making_of making w) (sym c.in-Some.is)
