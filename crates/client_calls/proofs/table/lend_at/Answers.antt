use Rattle.std.proofs.Common.{rules, ◌≡◌}
use Rattle.client_handles.specs.ClientState.{kept_at}
use Rattle.client_calls.proofs.LentPlaces.{IsLent-where_kept}
use Rattle.client_calls.proofs.table.lend_at.Goals as goal

pub returns-clause-out : goal.returns-clause-out
returns-clause-out c =
    let kept : c.ok.result ≡ kept_at c.args.place c.args.client.now = search rules in
    IsLent-where_kept c.args.place c.args.client.now c.lend_iteration.new.self c.ok.result kept c.lend_iteration.ensures.lent
