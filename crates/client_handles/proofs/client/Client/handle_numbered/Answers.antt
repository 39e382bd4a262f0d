use Rattle.client_handles.proofs.ClientLemmas.{handle_numbered-told}
use Rattle.client_handles.proofs.client.Client.handle_numbered.Goals as goal

pub returns : goal.returns
returns c = rw (← c.self.view_is) (handle_numbered-told c.self.inside c.self.invariant c.args.handle c.handle_of.result c.handle_of.ensures.found c.handle_of.ensures.absent)
