use Rattle.std.proofs.Common.{rules}
use Rattle.client_handles.proofs.client.Client.bind_open.Goals as goal

pub returns-then-is_some : goal.returns-then-is_some
returns-then-is_some c = search rules
