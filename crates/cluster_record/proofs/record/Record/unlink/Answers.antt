use Rattle.std.proofs.Common.{◌≡◌, Some, None, refl, sym, ap, ◌∙◌}
use Rattle.cluster_record.specs.LookUps.{identity_in}
use Rattle.cluster_record.specs.Makings.{making_call}
use Rattle.cluster_record.specs.Refusals.{unlinkable}
use Rattle.cluster_record.specs.RecordState.{RecordState, entry_of, named}
use Rattle.cluster_record.proofs.EntryLaws.{unnamed-kept}
use Rattle.cluster_record.proofs.KeptLaws.{kept-unnamed}
use Rattle.cluster_record.proofs.NameLaws.{named-entry}
use Rattle.cluster_record.proofs.RefusalLaws.{unlinkable-Ok, unlinkable-made}
use Rattle.cluster_record.proofs.record.Record.unlink.Goals as goal

pub invariant_of-self : goal.invariant_of-self
invariant_of-self c =
    let name = c.args.name.now in
    let k = c.in_ok-identity.identity in
    let entries = c.self.inside.entries.items in
    let answered = ap (λ (R : RecordState). unlinkable (named name R.entries)) c.self.view_is ∙ sym c.unlinkable.ensures ∙ c.in_ok-identity.was in
    let is : identity_in (named name entries) ≡ Some k = unlinkable-Ok (named name entries) k answered in
    let made : making_call (entry_of k entries) ≡ None = ap making_call (named-entry name entries k c.self.invariant.entries.order (sym is)) ∙ unlinkable-made (named name entries) k answered in
    kept-unnamed c.self.inside _ name k c.self.invariant is (λ e there kept. unnamed-kept c.self.inside.moment e kept (sym (ap making_call there) ∙ made)) c.change_entry.ensures.items c.change_entry.ensures.capacity c.unlink.ensures.unlinked refl
