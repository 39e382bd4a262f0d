use Rattle.std.proofs.Common.{◌+◌, ◌<◌, ◌≤◌, Some, length, sym, ap, ◌∙◌, arith}
use Rattle.std.specs.Prelude.{slice_set}
use Rattle.cluster_record.specs.Changes.{changed_by, CanChange}
use Rattle.cluster_record.proofs.EachChanged.{changed_from, changed_from-start, changed_from-next, changed_from-end, All-here, All-behind}
use Rattle.cluster_record.proofs.entries.change_in.Goals as goal

pub loop-entry-init : goal.loop-entry-init
loop-entry-init c = record {
  items = changed_from-start (changed_by c.args.change) c.args.entries.now;
  can = c.requires;
}

pub change-requires : goal.change-requires
change-requires c =
    let i = c.loop-entry.entry-index in
    let entries = c.loop-entry.entries in
    let within : i < length entries = omega (arith, c.loop-entry-test.true, c.loop-entry.auto.entries) in
    All-here (λ e. CanChange c.args.change (Some e)) i entries c.entry-item.result within c.loop-entry.invariant.can

pub loop-entry-preserved : goal.loop-entry-preserved
loop-entry-preserved c =
    let f = changed_by c.args.change in
    let i = c.loop-entry.entry-index in
    let entries = c.loop-entry.entries in
    let within : i < length entries = omega (arith, c.loop-entry-test.true, c.loop-entry.auto.entries) in
    record {
      items = ap (λ y. changed_from f (i + 1) (slice_set entries i y)) c.change.ensures ∙ changed_from-next f c.entry-item.result i entries within ∙ c.loop-entry.invariant.items;
      can = All-behind (λ e. CanChange c.args.change (Some e)) i entries _ within c.loop-entry.invariant.can;
    }

pub returns : goal.returns
returns c =
    let i = c.loop-entry.entry-index in
    let entries = c.loop-entry.entries in
    let through : length entries ≤ i = omega (arith, c.loop-entry-test.false, c.loop-entry.auto.entries) in
    sym (changed_from-end (changed_by c.args.change) i entries through) ∙ c.loop-entry.invariant.items
