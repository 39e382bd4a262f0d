use Rattle.std.proofs.Common.{rules}
use Rattle.world_core.proofs.TableSteps.{pending_is}
use Rattle.world_core.proofs.world.World.callbacks_told.Goals as goal

pub callbacks_given-requires : goal.callbacks_given-requires
callbacks_given-requires c = search rules

pub returns : goal.returns
returns c = let pending = pending_is c.args.self.now.tables c.args.c c.get-table.result.now c.get-table.ensures in search (rules, pending)
