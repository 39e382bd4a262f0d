use Rattle.std.proofs.Common.{arith, refl, subst}
use Rattle.std.proofs.lemmas.Grind.{common_steps}
use Rattle.std.proofs.lemmas.List.{take_all}
use Rattle.load_summary.specs.Counts.{CountsCodes}
use Rattle.load_summary.specs.Summary.{ends_call, is_step}
use Rattle.load_summary.proofs.Counted.{codes_more, codes_start, one_more}
use Rattle.load_summary.proofs.counting.count_labels.Goals as goal

pub loop-label-init : goal.loop-label-init
loop-label-init c = record { calls = refl; steps = refl; codes = codes_start c.args.labels.now c.args.by_code.now c.requires }

pub loop-label-preserved : goal.loop-label-preserved
loop-label-preserved c =
    let labels = c.args.labels.now in
    let i = c.loop-label.label-index in
    let label = c.label-item.result in
    record {
      calls = one_more ends_call labels i label c.loop-label.calls c.count_end-calls.result c.loop-label-test.true c.label-item.is c.loop-label.invariant.calls c.count_end-calls.ensures.ends;
      steps = one_more is_step labels i label c.loop-label.steps c.count_step-steps.result c.loop-label-test.true c.label-item.is c.loop-label.invariant.steps c.count_step-steps.ensures;
      codes = codes_more labels i label c.loop-label.by_code c.count_end-calls.new.by_code c.loop-label-test.true c.label-item.is c.loop-label.invariant.codes c.count_end-calls.ensures.counted;
    }

pub returns-clause-calls : goal.returns-clause-calls
returns-clause-calls c = grind (arith, common_steps)

pub returns-clause-codes : goal.returns-clause-codes
returns-clause-codes c =
    subst (λ labels. CountsCodes labels c.loop-label.by_code) (take_all c.loop-label.label-index c.args.labels.now c.loop-label-test.false) c.loop-label.invariant.codes
