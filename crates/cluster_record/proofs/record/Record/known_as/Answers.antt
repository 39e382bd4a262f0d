use Rattle.std.proofs.Common.{◌≡◌, Some, sym, ap, subst, ◌∙◌}
use Rattle.name_table.specs.Table.{EachOnce}
use Rattle.cluster_record.specs.NamesOf.{names_of}
use Rattle.cluster_record.specs.RecordState.{RecordState, entry_of}
use Rattle.cluster_record.proofs.NameLaws.{named-known}
use Rattle.cluster_record.proofs.record.Record.known_as.Goals as goal

pub returns-then-has_name : goal.returns-then-has_name
returns-then-has_name c =
    let es = c.args.self.now.entries in
    let kept : c.self.inside.entries.items ≡ es = ap (λ (R : RecordState). R.entries) c.self.view_is in
    let once : EachOnce (names_of es) = subst (λ es. EachOnce (names_of es)) kept c.self.invariant.entries.each_once in
    let there : entry_of c.in-Some.identity es ≡ Some c.in-Some-find_entry.entry.now = ap (entry_of c.in-Some.identity) (sym kept) ∙ ap (entry_of c.in-Some.identity) (sym c.as_slice.ensures.value) ∙ c.in-Some-find_entry.ensures in
    named-known c.args.name.now es c.in-Some.identity c.in-Some-find_entry.entry.now once there (sym c.has_name.ensures ∙ c.if-has_name.true)
