use Rattle.std.proofs.Common.{◌++◌, ◌∷◌, [], arith, sym, ◌∙◌}
use Rattle.std.proofs.lemmas.List.{take_all, take_more}
use Rattle.cluster_record.proofs.entries.copy_entries.Goals as goal

pub loop-entry-preserved : goal.loop-entry-preserved
loop-entry-preserved c = record {
  copied = c.push_reserved.ensures.items ∙ (λ i. c.loop-entry.invariant.copied i ++ (c.copy.ensures ∙ c.entry-item.is) i ∷ []) ∙ sym (take_more c.args.entries.now c.loop-entry.entry-index _ c.loop-entry-test.true);
  room = omega arith;
}

pub returns-clause-items : goal.returns-clause-items
returns-clause-items c = c.loop-entry.invariant.copied ∙ take_all c.loop-entry.entry-index c.args.entries.now c.loop-entry-test.false
