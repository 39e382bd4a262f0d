use Rattle.std.proofs.Common.{sym, ◌∙◌}
use Rattle.world_core.proofs.FailedWorld.{fails}
use Rattle.world_core.proofs.world.World.fail.Goals as goal
use Rattle.world_core.proofs.world.World.fail.Goals.{then-was_up, else-was_up}

pub returns : goal.returns
returns c = record {
  label = _;
  labels = c.push.ensures.labels;
  is = elim c.if-was_up.branch [
    | then-was_up v ↦ fails c.args.self.now c.args.r _ c.if-was_up.self c.requires.node c.is_up-was_up.ensures (λ up. v.self-is ∙ v.lose.ensures) (λ down. absurd (let clash = sym v.if-was_up.true ∙ down in cc clash))
    | else-was_up v ↦ fails c.args.self.now c.args.r _ c.if-was_up.self c.requires.node c.is_up-was_up.ensures (λ up. absurd (let clash = sym up ∙ v.if-was_up.false in cc clash)) (λ down. v.self-is)
  ];
}
