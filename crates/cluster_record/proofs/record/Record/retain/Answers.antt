use Rattle.std.proofs.Common.{refl, w64}
use Rattle.std.proofs.lemmas.Int.{to_z-of_z}
use mir.Val.{SFits}
use Rattle.cluster_record.specs.RecordState.{retaining}
use Rattle.cluster_record.proofs.EntryLaws.{retaining-kept}
use Rattle.cluster_record.proofs.KeptLaws.{kept-changed}
use Rattle.cluster_record.proofs.record.Record.retain.Goals as goal

pub invariant_of-self : goal.invariant_of-self
invariant_of-self c =
    let fits : SFits w64 c.args.duration = c.ranges.duration in
    kept-changed c.self.inside _ (retaining c.args.duration) c.args.identity c.self.invariant (λ e. refl) (λ e. refl) (λ e there is. retaining-kept c.self.inside.moment e is c.args.duration c.requires.duration) (simp to_z-of_z at c.change_entry.ensures.items) c.change_entry.ensures.capacity refl
