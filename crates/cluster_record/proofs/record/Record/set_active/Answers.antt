use Rattle.std.proofs.Common.{refl}
use Rattle.cluster_record.specs.RecordState.{with_active}
use Rattle.cluster_record.proofs.EntryLaws.{with_active-kept}
use Rattle.cluster_record.proofs.KeptLaws.{kept-changed, with_active-keeps}
use Rattle.cluster_record.proofs.record.Record.set_active.Goals as goal

pub invariant_of-self : goal.invariant_of-self
invariant_of-self c =
    let keeps = with_active-keeps c.args.node in
    kept-changed c.self.inside _ (with_active c.args.node) c.args.identity c.self.invariant keeps.0 keeps.1 (λ e there is. with_active-kept c.self.inside.moment e is c.args.node) c.change_entry.ensures.items c.change_entry.ensures.capacity refl
