use Rattle.std.proofs.Common.{◌≡◌, sym, ap, ◌∙◌}
use Rattle.std.specs.List.{list_all}
use Rattle.cluster_record.specs.Numbers.{entry_may_rise}
use Rattle.cluster_record.specs.RecordState.{RecordState}
use Rattle.cluster_record.proofs.NumberLaws.{may_refer, may_set_active}
use Rattle.cluster_record.proofs.record.Record.numbers_left.Goals as goal

pub returns-then-self-lt4294967295-clause-references : goal.returns-then-self-lt4294967295-clause-references
returns-then-self-lt4294967295-clause-references c =
    let kept : c.args.self.now.entries ≡ c.as_slice.result.now = ap (λ (R : RecordState). R.entries) (sym c.self.view_is) ∙ sym c.as_slice.ensures.value in
    λ left client k. may_refer c.args.self.now.entries (ap (list_all entry_may_rise) kept ∙ sym c.if-not-entries_may_rise.ensures) client k

pub returns-then-self-lt4294967295-clause-generations : goal.returns-then-self-lt4294967295-clause-generations
returns-then-self-lt4294967295-clause-generations c =
    let kept : c.args.self.now.entries ≡ c.as_slice.result.now = ap (λ (R : RecordState). R.entries) (sym c.self.view_is) ∙ sym c.as_slice.ensures.value in
    λ left k. may_set_active c.args.self.now.entries (ap (list_all entry_may_rise) kept ∙ sym c.if-not-entries_may_rise.ensures) k
