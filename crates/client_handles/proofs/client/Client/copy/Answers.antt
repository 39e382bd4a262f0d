use Rattle.std.proofs.Common.{◌∙◌}
use Rattle.client_handles.proofs.ClientLemmas.{IsSound-copied}
use Rattle.client_handles.proofs.client.Client.copy.Goals as goal

pub invariant_of-result : goal.invariant_of-result
invariant_of-result c =
    IsSound-copied c.self.inside c.self.invariant _ c.in_ok-copy_of_begun.field-0 c.in_ok-copy_of.ensures.slots (c.in_ok-copy_of_begun.ensures.items ∙ c.as_slice.ensures.value) c.in_ok-copy_of.ensures.room c.in_ok-copy_of_begun.ensures.capacity
