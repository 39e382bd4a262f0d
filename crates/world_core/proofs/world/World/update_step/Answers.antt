use Rattle.std.proofs.Common.{refl, sym, subst}
use Rattle.std.specs.Prelude.{IsSome}
use Rattle.world_core.proofs.world.World.update_step.Goals as goal

pub driven_step-requires-clause-held : goal.driven_step-requires-clause-held
driven_step-requires-clause-held c = subst IsSome (sym c.requires.next.held) refl
