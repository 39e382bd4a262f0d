use Rattle.std.proofs.Common.{◌≡◌, All, Some, None, ap, subst, ◌∙◌}
use Rattle.std.specs.Prelude.{MatchOption}
use Rattle.cluster_record.specs.Kept.{IsKeptEntry}
use Rattle.cluster_record.specs.RecordState.{RecordState, entry_of}
use Rattle.cluster_record.proofs.KeptLaws.{found-kept}
use Rattle.cluster_record.proofs.record.Record.entry.Goals as goal

pub returns-clause-kept : goal.returns-clause-kept
returns-clause-kept c =
    let R = c.args.self.now in
    let all : All (IsKeptEntry R.moment) R.entries = subst (λ (R : RecordState). All (IsKeptEntry R.moment) R.entries) c.self.view_is c.self.invariant.entries.each in
    found-kept R.moment c.args.identity R.entries c.find_entry.result all
    (subst (λ entries. MatchOption c.find_entry.result (entry_of c.args.identity entries ≡ None) (λ entry. entry_of c.args.identity entries ≡ Some entry.now)) (c.as_slice.ensures.value ∙ ap (λ (R : RecordState). R.entries) c.self.view_is) c.find_entry.ensures)
