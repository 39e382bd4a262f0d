use Rattle.std.proofs.Common.{◌≡◌, ap, ◌∙◌}
use Rattle.client_handles.specs.Client.{client_shown}
use Rattle.client_handles.specs.ClientState.{goes_over, released}
use Rattle.client_handles.specs.Numbered.{without}
use Rattle.client_handles.proofs.ClientLemmas.{client_of-removed, IsSound-removed, released-absent}
use Rattle.client_handles.proofs.client.Client.release.Goals as goal

pub invariant_of-self : goal.invariant_of-self
invariant_of-self c =
    let is : c.remove.result.handle ≡ c.args.handle = rw c.remove.ensures.value at c.in-Some.ensures.found in
    let left : c.end_over.new.begun.items ≡ without goes_over c.remove.result.handle c.self.inside.iterations.items = rw is c.end_over.ensures.items in
    IsSound-removed c.self.inside c.self.invariant _ _ _ c.remove.ensures.value c.remove.ensures.updates c.end_over.new.begun left c.remove.ensures.capacity c.remove.ensures.len c.end_over.ensures.capacity

pub returns-in-Some : goal.returns-in-Some
returns-in-Some c =
    let is : c.remove.result.handle ≡ c.args.handle = rw c.remove.ensures.value at c.in-Some.ensures.found in
    let left : c.end_over.new.begun.items ≡ without goes_over c.remove.result.handle c.self.inside.iterations.items = rw is c.end_over.ensures.items in
    rw (← c.self.view_is)
    (client_of-removed c.self.inside c.self.invariant _ _ _ c.remove.ensures.value c.remove.ensures.updates c.end_over.new.begun left
    ∙ ap (λ n. released n (client_shown c.self.inside)) is)

pub returns-in_default : goal.returns-in_default
returns-in_default c = rw (← c.self.view_is) (released-absent c.self.inside c.self.invariant c.args.handle c.in_default.ensures.absent)
