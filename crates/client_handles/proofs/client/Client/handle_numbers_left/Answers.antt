use Rattle.std.proofs.Common.{rules}
use Rattle.client_handles.proofs.client.Client.handle_numbers_left.Goals as goal

pub returns : goal.returns
returns c = search rules
