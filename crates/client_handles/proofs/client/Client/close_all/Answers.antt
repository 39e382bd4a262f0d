use Rattle.client_handles.proofs.ClientLemmas.{client_of-emptied, IsSound-emptied}
use Rattle.client_handles.proofs.client.Client.close_all.Goals as goal

pub invariant_of-self : goal.invariant_of-self
invariant_of-self c = IsSound-emptied c.self.inside c.self.invariant c.clear.new.self c.end_all.new.begun c.clear.ensures.empty c.end_all.ensures.items c.clear.ensures.capacity c.end_all.ensures.capacity

pub returns : goal.returns
returns c = rw (← c.self.view_is) (client_of-emptied c.self.inside c.self.invariant c.clear.new.self c.end_all.new.begun c.clear.ensures.empty c.end_all.ensures.items)
