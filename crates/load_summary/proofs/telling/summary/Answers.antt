use Rattle.std.proofs.Common.{◌∙◌, ap, count_by, subst}
use Rattle.load_summary.specs.Counts.{CountsCodes}
use Rattle.load_summary.specs.Summary.{ends_call, is_step}
use Rattle.load_summary.proofs.Counted.{lines_counted, summary_told}
use Rattle.load_summary.proofs.telling.summary.Goals as goal

pub returns : goal.returns
returns c =
    let log = c.args.log.now.labels in
    let counted = c.count_labels-totals.ensures in
    let codes = subst (λ labels. CountsCodes labels c.count_labels-totals.new.by_code) c.as_slice.ensures counted.codes in
    summary_told log _ _ _ _ _ _ _ c.new-out.ensures.items c.in_ok-append_count.ensures c.in_ok-append_codes.ensures (c.from_vec.ensures ∙ c.in_ok-append_count-2.ensures)
    (counted.calls ∙ ap (λ labels. count_by ends_call labels) c.as_slice.ensures) (lines_counted log c.count_labels-totals.new.by_code codes) (counted.steps ∙ ap (λ labels. count_by is_step labels) c.as_slice.ensures)
