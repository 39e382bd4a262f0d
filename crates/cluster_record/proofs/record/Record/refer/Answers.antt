use Rattle.std.proofs.Common.{◌≡◌, Some, None, refl, sym, ap, ◌∙◌}
use Rattle.cluster_record.specs.LookUps.{identity_in}
use Rattle.cluster_record.specs.Makings.{making_call}
use Rattle.cluster_record.specs.RecordState.{RecordState, entry_of, named}
use Rattle.cluster_record.proofs.EntryLaws.{opened_with-kept}
use Rattle.cluster_record.proofs.KeptLaws.{kept-changed, opened_with-keeps}
use Rattle.cluster_record.proofs.NameLaws.{named-entry}
use Rattle.cluster_record.proofs.record.Record.refer.Goals as goal

pub invariant_of-self : goal.invariant_of-self
invariant_of-self c =
    let (name, named_is, made_is) = c.requires.made in
    let entries = c.self.inside.entries.items in
    let is : identity_in (named name entries) ≡ Some c.args.identity = ap (λ (R : RecordState). identity_in (named name R.entries)) c.self.view_is ∙ named_is in
    let made : making_call (entry_of c.args.identity entries) ≡ None =
    ap making_call (named-entry name entries c.args.identity c.self.invariant.entries.order (sym is)) ∙ ap (λ (R : RecordState). making_call (named name R.entries)) c.self.view_is ∙ made_is
    in
    let keeps = opened_with-keeps c.home_of.result c.self.inside.up c.args.client in
    kept-changed c.self.inside _ _ c.args.identity c.self.invariant keeps.0 keeps.1 (λ e there is. opened_with-kept c.self.inside.moment e is _ c.self.inside.up c.args.client (sym (ap making_call there) ∙ made)) c.change_entry.ensures.items c.change_entry.ensures.capacity refl
