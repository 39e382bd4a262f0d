use Rattle.client_handles.proofs.ClientLemmas.{IsValid-shown}
use Rattle.client_handles.proofs.client.Client.handles_open.Goals as goal

pub returns-clause-valid : goal.returns-clause-valid
returns-clause-valid c = rw (← c.self.view_is) (IsValid-shown c.self.inside c.self.invariant)
