use Rattle.std.proofs.Common.{subst}
use Rattle.world_core.proofs.BeginCopy.{copying_begins}
use Rattle.world_core.specs.Copying.{IsCopyPut}
use Rattle.world_core.specs.declared.world.World.{World}
use Rattle.world_core.proofs.world.World.begin_copy.Goals as goal

pub returns : goal.returns
returns c =
    let w = c.args.self.now in
    record {
      label = _;
      labels = c.push-2.ensures.labels;
      is = copying_begins w c.args.r c.requires.node c.in_default.ensures.0 c.in_default.ensures.1 c.next_copy-call.ensures.there c.next_copy-call.result c.put_copy-end.result c.put_copy-end.new.self c.next_copy-call.ensures.call
          (subst (λ (x : World). IsCopyPut c.args.r c.next_copy-call.result c.put_copy-end.result x c.put_copy-end.new.self) c.next_copy-call.ensures.new c.put_copy-end.ensures);
    }
