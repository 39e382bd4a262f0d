use Rattle.std.proofs.Common.{rules}
use Rattle.client_handles.proofs.client.Client.iteration_room.Goals as goal

pub returns : goal.returns
returns c = search rules
