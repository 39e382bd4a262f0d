use Rattle.std.proofs.Common.{◌≡◌, refl, sym, ap, subst}
use Rattle.cluster_record.specs.declared.record.Record.TheInside.{Inside}
use Rattle.cluster_record.specs.Counts.{count_told}
use Rattle.cluster_record.specs.Failing.{survives, entry_failed}
use Rattle.cluster_record.specs.RecordReady.{CanSetActive}
use Rattle.cluster_record.specs.RecordState.{RecordState, entry_of}
use Rattle.cluster_record.specs.RecordView.{IsKept}
use Rattle.cluster_record.proofs.EntryLaws.{entry_failed-kept}
use Rattle.cluster_record.proofs.FailLaws.{all_rise}
use Rattle.cluster_record.proofs.KeptLaws.{kept-times, kept-left, kept-each, entry_failed-keeps}
use Rattle.cluster_record.proofs.record.Record.lose_replicas.Goals as goal

pub change_each-requires : goal.change_each-requires
change_each-requires c =
    let kept : c.args.self.now.entries ≡ c.self.inside.entries.items = ap (λ (R : RecordState). R.entries) (sym c.self.view_is) in
    all_rise c.self.inside.entries.items c.self.invariant.entries.order (λ k. subst (λ es. CanSetActive (entry_of k es)) kept (c.requires k))

pub keep_only-requires : goal.keep_only-requires
keep_only-requires c =
    let counts = count_told c.args.counts.now in
    let keeps = entry_failed-keeps counts c.args.node in
    let failed : Inside = record c.self.inside { entries = c.change_each.new.entries } in
    kept-times failed (kept-each c.self.inside failed (λ e. entry_failed (counts e.identity) c.args.node e) c.self.invariant keeps.0 keeps.1 (λ e is. entry_failed-kept (counts e.identity) c.args.node c.self.inside.moment e is) c.change_each.ensures.items c.change_each.ensures.capacity refl)

pub invariant_of-self : goal.invariant_of-self
invariant_of-self c =
    let counts = count_told c.args.counts.now in
    let keeps = entry_failed-keeps counts c.args.node in
    let failed : Inside = record c.self.inside { entries = c.change_each.new.entries } in
    let kept : IsKept failed = kept-each c.self.inside failed (λ e. entry_failed (counts e.identity) c.args.node e) c.self.invariant keeps.0 keeps.1 (λ e is. entry_failed-kept (counts e.identity) c.args.node c.self.inside.moment e is) c.change_each.ensures.items c.change_each.ensures.capacity refl in
    kept-left failed _ survives kept c.keep_only.ensures.items c.keep_only.ensures.capacity c.keep_only.ensures.names refl
