use Rattle.std.proofs.Common.{◌≡◌, length, Some, refl, sym, ap, ◌∙◌, rules}
use Rattle.ckpt_types.specs.Limits.{nodes_max}
use Rattle.cluster_record.specs.Makings.{making_call}
use Rattle.cluster_record.specs.RecordState.{RecordState, entry_of}
use Rattle.cluster_record.proofs.EntryLaws.{made_with-kept}
use Rattle.cluster_record.proofs.KeptLaws.{kept-changed, maker_refers}
use Rattle.cluster_record.proofs.record.Record.finish_create.Goals as goal

pub invariant_of-self : goal.invariant_of-self
invariant_of-self c =
    let few : length c.self.inside.up ≡ nodes_max = search rules in
    kept-changed c.self.inside _ _ c.args.identity c.self.invariant (λ e. refl) (λ e. refl) (λ e there is. made_with-kept c.self.inside.moment e is _ c.self.inside.up _ few) c.change_entry.ensures.items c.change_entry.ensures.capacity refl

pub change_entry-requires : goal.change_entry-requires
change_entry-requires c =
    let entries = c.self.inside.entries.items in
    let is : making_call (entry_of c.args.identity entries) ≡ Some c.in-Some.call = ap (λ (R : RecordState). making_call (entry_of c.args.identity R.entries)) c.self.view_is ∙ sym c.making_call.ensures ∙ c.in-Some.is in
    maker_refers c.self.inside.moment c.args.identity c.number_of-client.result entries c.self.invariant.entries.each c.in-Some.call is
