use Rattle.std.proofs.Common.{refl}
use Rattle.cluster_record.specs.Joining.{completed_on}
use Rattle.cluster_record.proofs.EntryLaws.{completed_on-kept}
use Rattle.cluster_record.proofs.KeptLaws.{kept-changed, completed_on-keeps}
use Rattle.cluster_record.proofs.record.Record.complete.Goals as goal

pub invariant_of-self : goal.invariant_of-self
invariant_of-self c =
    let keeps = completed_on-keeps c.args.node c.incarnation_at.result in
    kept-changed c.self.inside _ (completed_on c.args.node c.incarnation_at.result) c.args.ckpt c.self.invariant keeps.0 keeps.1 (λ e there is. completed_on-kept c.self.inside.moment e is c.args.node c.incarnation_at.result) c.change_entry.ensures.items c.change_entry.ensures.capacity refl
