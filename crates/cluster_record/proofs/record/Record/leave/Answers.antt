use Rattle.std.proofs.Common.{refl, rules, w64}
use Rattle.std.proofs.lemmas.Int.{to_z-of_z}
use mir.Val.{SFits}
use Rattle.cluster_record.specs.declared.record.Record.TheInside.{Inside}
use Rattle.cluster_record.specs.RecordView.{IsKept}
use Rattle.cluster_record.specs.RecordState.{released_all}
use Rattle.cluster_record.proofs.EachChanged.{All-any}
use Rattle.cluster_record.proofs.EntryLaws.{released_all-kept}
use Rattle.cluster_record.proofs.KeptLaws.{kept-times, kept-left, kept-each, kept-clients_left, released_all-keeps}
use Rattle.cluster_record.proofs.record.Record.leave.Goals as goal

pub invariant_of-self : goal.invariant_of-self
invariant_of-self c =
    let fits : SFits w64 c.self.inside.moment = search rules in
    let moment = c.self.inside.moment in
    let client = c.args.client in
    let keeps = released_all-keeps client moment in
    let without : Inside = record c.self.inside { clients = c.take_out.new.clients } in
    let left : Inside = record without { entries = c.keep_only.new.entries; names = c.keep_only.new.names } in
    let kept : IsKept without = kept-clients_left c.self.inside without _ c.self.invariant c.take_out.ensures.items c.take_out.ensures.capacity refl in
    let kept : IsKept left = kept-left without left _ kept c.keep_only.ensures.items c.keep_only.ensures.capacity c.keep_only.ensures.names refl in
    kept-each left _ (released_all client moment) kept keeps.0 keeps.1 (λ e is. released_all-kept moment e is client) (simp to_z-of_z at c.change_each.ensures.items) c.change_each.ensures.capacity refl

pub keep_only-requires : goal.keep_only-requires
keep_only-requires c = kept-times c.self.inside c.self.invariant

pub change_each-requires : goal.change_each-requires
change_each-requires c = All-any _ (λ e. tt) _
