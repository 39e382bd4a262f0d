use Rattle.std.proofs.Common.{w64, sym, ◌∙◌}
use Rattle.std.proofs.lemmas.Int.{to_z-of_z}
use Rattle.world_core.proofs.Moving.{sets_moment, sets_moment_alone}
use Rattle.world_core.proofs.world.World.at.Goals as goal
use Rattle.world_core.proofs.world.World.at.Goals.{then-set_moment, else-set_moment}

pub returns : goal.returns
returns c =
    let t_is = to_z-of_z w64 c.args.t c.ranges.t in
    record {
      label = _;
      labels = c.push.ensures.labels;
      is = elim c.if-set_moment.branch [
        | then-set_moment v ↦ sets_moment c.args.self.now c.args.t _ c.set_moment.new.self c.if-set_moment.self t_is c.requires.moment c.set_moment.ensures.new (v.self-is ∙ v.free_gone.ensures.new)
        | else-set_moment v ↦ sets_moment_alone c.args.self.now c.args.t _ c.set_moment.new.self c.if-set_moment.self t_is c.requires.moment c.set_moment.ensures.new (sym c.set_moment.ensures.gone ∙ v.if-set_moment.false) v.self-is
      ];
    }
