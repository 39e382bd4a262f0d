use Rattle.std.proofs.Common.{◌≡◌, length, ap, arith, rules}
use Rattle.std.proofs.lemmas.Fn.{filter_same}
use Rattle.std.proofs.lemmas.Option.{IfSome_then}
use Rattle.call_dispatch.specs.PendingCalls.{find_async, is_call, other_calls}
use Rattle.call_dispatch.proofs.FoundLaws.{fewer-others}
use Rattle.call_dispatch.proofs.kept.forget_unfinished.Goals as goal

pub returns-clause-items : goal.returns-clause-items
returns-clause-items c = filter_same _ _ _ (λ kept b f' k. search rules) _ _ c.retain.ensures.filtered

pub returns-clause-fewer : goal.returns-clause-fewer
returns-clause-fewer c =
    let left : length c.retain.new.self.items ≡ length (other_calls c.args.call c.args.calls.now.items) = ap length (returns-clause-items c) in
    IfSome_then (find_async c.args.call c.args.calls.now.items) (fewer-others (λ kept. is_call c.args.call kept.call) c.args.calls.now.items) (λ x fewer. omega (arith, fewer, left))
