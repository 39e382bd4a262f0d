use Rattle.std.proofs.Common.{w64, refl, rules}
use Rattle.std.proofs.lemmas.Int.{to_z-of_z}
use mir.Val.{SFits}
use Rattle.cluster_record.specs.RecordState.{unreferred}
use Rattle.cluster_record.proofs.EntryLaws.{released-kept}
use Rattle.cluster_record.proofs.KeptLaws.{kept-changed, released-keeps}
use Rattle.cluster_record.proofs.record.Record.close.Goals as goal

pub invariant_of-self : goal.invariant_of-self
invariant_of-self c =
    let fits : SFits w64 c.self.inside.moment = search rules in
    let keeps = released-keeps c.args.client c.self.inside.moment in
    kept-changed c.self.inside _ (unreferred c.args.client c.self.inside.moment) c.args.identity c.self.invariant keeps.0 keeps.1 (λ e there is. released-kept c.self.inside.moment e is c.args.client) (simp to_z-of_z at c.change_entry.ensures.items) c.change_entry.ensures.capacity refl
