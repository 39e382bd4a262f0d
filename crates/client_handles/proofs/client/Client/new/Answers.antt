use Rattle.client_handles.proofs.ClientLemmas.{IsSound-new}
use Rattle.client_handles.proofs.client.Client.new.Goals as goal

pub invariant_of-result : goal.invariant_of-result
invariant_of-result c =
    IsSound-new _ _ _ _ c.in_ok-with_capacity.ensures.empty c.no_places.ensures c.in_ok-with_capacity-2.ensures.items c.in_ok-with_capacity.ensures.capacity c.in_ok-with_capacity-2.ensures.capacity
