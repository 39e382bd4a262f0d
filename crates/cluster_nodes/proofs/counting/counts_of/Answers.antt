use Rattle.std.proofs.Common.{◌+◌, ◌*◌, ◌≤◌, ◌++◌, length, drop, arith, append_assoc, sym, ap, ◌∙◌}
use Rattle.ckpt_machine.specs.CountsTold.{counts_from, counts_of}
use Rattle.ckpt_machine.proofs.FailedCounts.{counts_next}
use Rattle.cluster_nodes.proofs.counting.counts_of.Goals as goal

pub loop-place-preserved : goal.loop-place-preserved
loop-place-preserved c =
    let nodes = c.args.nodes.now in
    let es = c.args.cluster.now.entries in
    let e = c.in-Some.entry.now in
    let i = c.loop-place.place in
    let few : length c.loop-place.told ≤ 8 * i = c.loop-place.invariant.few in
    let more = c.tell_counts.ensures.few in
    record {
      left = ap (λ xs. xs ++ counts_of nodes (drop (i + 1) es)) c.tell_counts.ensures.told
          ∙ append_assoc c.loop-place.told (counts_from nodes e.identity 0 e.complete) (counts_of nodes (drop (i + 1) es))
          ∙ ap (λ xs. c.loop-place.told ++ xs) (sym (counts_next nodes es i e c.in-Some.ensures.at))
          ∙ c.loop-place.invariant.left;
      few = omega (arith, few, more);
    }
