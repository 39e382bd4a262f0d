use Rattle.std.proofs.Common.{◌≤◌, ℕ, ◌+◌, length, take, refl, sym, ap, subst, ◌∙◌}
use Rattle.std.proofs.lemmas.Option.{slice_get_read}
use Rattle.std.proofs.Math.Nat.{le_trans}
use Rattle.std.specs.Io.KnownBytes.{Appends}
use Rattle.command_run.specs.Headline.{WritesPart, printed}
use Rattle.command_run.proofs.Written.{Wrote, wrote_next, wrote_front, wrote_no_more, wrote_text, at_error, at_ok}
use Rattle.command_run.proofs.writing.write_lines.Goals as goal
use Rattle.command_run.proofs.writing.write_lines.Goals.{then-len-ge-PIECE+else-is_err-2, else-len-ge-PIECE}

pub returns-then-is_err-clause-part : goal.returns-then-is_err-clause-part
returns-then-is_err-clause-part g c =
    wrote_no_more c.args.steps _ _ _ c.args.labels.now c.loop-label.label-index c.loop-label.invariant.wrote

pub returns-then-is_err-2-clause-part : goal.returns-then-is_err-2-clause-part
returns-then-is_err-2-clause-part g c =
    let held = g.K.Sink.held in
    let labels = c.args.labels.now in
    let next = wrote_next c.args.steps _ _ _ _ labels c.loop-label.label-index c.label-item.result
    (slice_get_read labels (length labels) c.loop-label.label-index c.label-item.result refl c.loop-label-test.true c.label-item.is)
    (at_ok c.append_label.result c.if-is_err.ensures.value c.append_label.ensures) c.loop-label.invariant.wrote in
    let part = at_error c.write_all.result c.if-is_err-2.ensures.value c.write_all.ensures.part in
    wrote_front c.args.steps _ _ _ _ labels (c.loop-label.label-index + 1) next
    (subst (WritesPart (held c.loop-label.sink) (held c.write_all.new.sink)) c.as_slice.ensures.value part)

pub loop-label-preserved : goal.loop-label-preserved
loop-label-preserved g c =
    let held = g.K.Sink.held in
    let labels = c.args.labels.now in
    let i : ℕ = c.loop-label.label-index in
    let next = wrote_next c.args.steps (held c.args.sink.now) (held c.loop-label.sink) c.loop-label.text.items c.append_label.new.text.items labels i c.label-item.result
    (slice_get_read labels (length labels) i c.label-item.result refl c.loop-label-test.true c.label-item.is)
    (at_ok c.append_label.result c.if-is_err.ensures.value c.append_label.ensures) c.loop-label.invariant.wrote in
    elim c.if-len-ge-PIECE.branch [
      | then-len-ge-PIECE+else-is_err-2 w ↦
          let lines = printed c.args.steps (take (i + 1) labels) in
          let all = at_ok w.write_all.result w.if-is_err-2.ensures.value w.write_all.ensures.written in
          let wrote = wrote_text (held c.args.sink.now) (held c.loop-label.sink) (held w.write_all.new.sink) c.append_label.new.text.items lines next
          (subst (Appends (held c.loop-label.sink) (held w.write_all.new.sink)) w.as_slice.ensures.value all) in
          record {
            later = subst (λ sink. g.K.Sink.faults c.args.sink.now ≤ g.K.Sink.faults sink) (sym w.sink-is) (le_trans c.loop-label.invariant.later w.write_all.ensures.later);
            wrote = subst (λ sink. Wrote (held c.args.sink.now) (held sink) c.if-len-ge-PIECE.text.items lines) (sym w.sink-is)
                (subst (λ text. Wrote (held c.args.sink.now) (held w.write_all.new.sink) text lines) (sym (ap (λ t. t.items) w.text-is ∙ w.clear.ensures.items)) wrote);
          }
      | else-len-ge-PIECE w ↦ record {
        later = subst (λ sink. g.K.Sink.faults c.args.sink.now ≤ g.K.Sink.faults sink) (sym w.sink-is) c.loop-label.invariant.later;
        wrote = subst (λ sink. Wrote (held c.args.sink.now) (held sink) c.if-len-ge-PIECE.text.items (printed c.args.steps (take (i + 1) labels))) (sym w.sink-is)
            (subst (λ text. Wrote (held c.args.sink.now) (held c.loop-label.sink) text (printed c.args.steps (take (i + 1) labels))) (sym (ap (λ t. t.items) w.text-is)) next);
      }
    ]

pub returns-then-is_err-3-clause-part : goal.returns-then-is_err-3-clause-part
returns-then-is_err-3-clause-part g c =
    let held = g.K.Sink.held in
    let part = at_error c.write_all-2.result c.if-is_err-3.ensures.value c.write_all-2.ensures.part in
    wrote_front c.args.steps _ _ _ _ c.args.labels.now c.loop-label.label-index c.loop-label.invariant.wrote
    (subst (WritesPart (held c.loop-label.sink) (held c.write_all-2.new.sink)) c.as_slice-2.ensures.value part)
