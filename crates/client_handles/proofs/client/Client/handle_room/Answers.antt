use Rattle.std.proofs.Common.{rules}
use Rattle.client_handles.proofs.ClientLemmas.{IsValid-shown}
use Rattle.client_handles.proofs.client.Client.handle_room.Goals as goal

pub returns-clause-valid : goal.returns-clause-valid
returns-clause-valid c = rw (← c.self.view_is) (IsValid-shown c.self.inside c.self.invariant)

pub returns-clause-room : goal.returns-clause-room
returns-clause-room c = search rules
