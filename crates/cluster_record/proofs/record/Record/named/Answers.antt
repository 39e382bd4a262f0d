use Rattle.std.proofs.Common.{◌≡◌, All, sym, ap, subst, ◌∙◌}
use Rattle.std.specs.Prelude.{Some, None, MatchOption}
use Rattle.cluster_record.specs.Kept.{IsKeptEntry}
use Rattle.cluster_record.specs.LookUps.{identity_in}
use Rattle.cluster_record.specs.RecordState.{RecordState, entry_of, named}
use Rattle.cluster_record.proofs.KeptLaws.{found-kept, found-own}
use Rattle.cluster_record.proofs.NameLaws.{named-entry}
use Rattle.cluster_record.proofs.record.Record.named.Goals as goal

pub returns-in-Some-clause-found : goal.returns-in-Some-clause-found
returns-in-Some-clause-found c =
    let es = c.self.inside.entries.items in
    let name = c.args.name.now in
    let kept : es ≡ c.args.self.now.entries = ap (λ (R : RecordState). R.entries) c.self.view_is in
    let is : Some c.in-Some.identity ≡ identity_in (named name es) = sym c.in-Some.is ∙ c.find.ensures ∙ sym (ap (λ es. identity_in (named name es)) kept) in
    let there = ap (entry_of c.in-Some.identity) c.as_slice.ensures.value ∙ named-entry name es c.in-Some.identity c.self.invariant.entries.order is ∙ ap (named name) kept in
    subst (λ o. MatchOption c.find_entry.result (o ≡ None) (λ entry. o ≡ Some entry.now)) there c.find_entry.ensures

pub returns-in-Some-clause-kept : goal.returns-in-Some-clause-kept
returns-in-Some-clause-kept c =
    let R = c.args.self.now in
    let all : All (IsKeptEntry R.moment) R.entries = subst (λ (R : RecordState). All (IsKeptEntry R.moment) R.entries) c.self.view_is c.self.invariant.entries.each in
    found-kept R.moment c.in-Some.identity R.entries c.find_entry.result all
    (subst (λ entries. MatchOption c.find_entry.result (entry_of c.in-Some.identity entries ≡ None) (λ entry. entry_of c.in-Some.identity entries ≡ Some entry.now)) (c.as_slice.ensures.value ∙ ap (λ (R : RecordState). R.entries) c.self.view_is) c.find_entry.ensures)

pub returns-in-Some-clause-own : goal.returns-in-Some-clause-own
returns-in-Some-clause-own c =
    let entries = c.args.self.now.entries in
    found-own c.in-Some.identity entries c.find_entry.result
    (subst (λ entries. MatchOption c.find_entry.result (entry_of c.in-Some.identity entries ≡ None) (λ entry. entry_of c.in-Some.identity entries ≡ Some entry.now)) (c.as_slice.ensures.value ∙ ap (λ (R : RecordState). R.entries) c.self.view_is) c.find_entry.ensures)
