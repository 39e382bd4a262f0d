use Rattle.std.proofs.Common.{refl}
use Rattle.cluster_record.specs.RecordState.{with_hold}
use Rattle.cluster_record.proofs.EntryLaws.{with_hold-kept}
use Rattle.cluster_record.proofs.KeptLaws.{kept-changed, with_hold-keeps}
use Rattle.cluster_record.proofs.record.Record.hold.Goals as goal

pub invariant_of-self : goal.invariant_of-self
invariant_of-self c =
    let keeps = with_hold-keeps c.args.call in
    kept-changed c.self.inside _ (with_hold c.args.call) c.args.identity c.self.invariant keeps.0 keeps.1 (λ e there is. with_hold-kept c.self.inside.moment e is c.args.call) c.change_entry.ensures.items c.change_entry.ensures.capacity refl
