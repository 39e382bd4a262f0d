use Rattle.std.proofs.Common.{◌≡◌, ◌<◌, length, Some, sym, ap, subst, ◌∙◌}
use Rattle.cluster_record.specs.Failing.{first_on, cut_off, goes_with_node, holds_ended}
use Rattle.cluster_record.specs.RecordState.{RecordState, departed}
use Rattle.cluster_record.proofs.CutOffLaws.{cut_off-end, cut_off-next, fewer-clients}
use Rattle.cluster_record.proofs.record.Record.cut_off.Goals as goal

pub loop-client-smaller : goal.loop-client-smaller
loop-client-smaller c =
    let R = c.loop-client.self in
    let client = c.in-Some.client in
    let is : first_on c.args.node R.clients ≡ Some client = sym c.first_on.ensures.first ∙ c.in-Some.is in
    let after : c.end_holds.new.self ≡ holds_ended client (departed client R) = c.end_holds.ensures ∙ ap (holds_ended client) c.leave.ensures in
    subst (λ (after : RecordState). length after.clients < length R.clients) (sym after) (fewer-clients c.args.node client R is)

pub loop-client-preserved : goal.loop-client-preserved
loop-client-preserved c =
    let R = c.loop-client.self in
    let client = c.in-Some.client in
    let is : first_on c.args.node R.clients ≡ Some client = sym c.first_on.ensures.first ∙ c.in-Some.is in
    let after : c.end_holds.new.self ≡ holds_ended client (departed client R) = c.end_holds.ensures ∙ ap (holds_ended client) c.leave.ensures in
    ap (λ (R : RecordState). cut_off (goes_with_node R c.args.node) R) after ∙ cut_off-next c.args.node client R c.first_on.ensures.each_once is ∙ c.loop-client.invariant

pub returns : goal.returns
returns c = sym (cut_off-end c.args.node c.loop-client.self (sym c.first_on.ensures.first ∙ c.in_default.is)) ∙ c.loop-client.invariant
