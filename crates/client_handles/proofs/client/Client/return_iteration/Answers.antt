use Rattle.std.proofs.Common.{Some}
use Rattle.client_handles.proofs.ClientLemmas.{client_of-kept, IsSound-kept}
use Rattle.client_handles.proofs.client.Client.return_iteration.Goals as goal

pub invariant_of-self : goal.invariant_of-self
invariant_of-self c =
    let found = rw c.as_slice.ensures.value at c.in-Some.ensures.found in
    IsSound-kept c.self.inside c.self.invariant c.args.place c.in-Some.at found (Some c.args.iteration) c.keep.new.begun c.keep.ensures.items c.keep.ensures.capacity

pub returns : goal.returns
returns c =
    let found = rw c.as_slice.ensures.value at c.in-Some.ensures.found in
    rw (← c.self.view_is) (client_of-kept c.self.inside c.self.invariant c.args.place c.in-Some.at found (Some c.args.iteration) c.keep.new.begun c.keep.ensures.items)
