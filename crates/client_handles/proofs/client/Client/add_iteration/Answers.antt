use Rattle.std.proofs.Common.{◌≡◌, IsSome, true, ap, sym, subst, ◌∙◌}
use Rattle.client_handles.specs.Client.{client_shown}
use Rattle.client_handles.specs.ClientState.{ClientState, handle_numbered, has_iteration_room}
use Rattle.client_handles.proofs.ClientLemmas.{IsSound-added}
use Rattle.client_handles.proofs.client.Client.add_iteration.Goals as goal

pub invariant_of-self : goal.invariant_of-self
invariant_of-self c =
    let room : has_iteration_room (client_shown c.self.inside) ≡ true = ap has_iteration_room c.self.view_is ∙ sym c.iteration_room.ensures ∙ c.if-not-iteration_room.false in
    let opened : IsSome (handle_numbered c.args.handle (client_shown c.self.inside).handles) = subst (λ (s : ClientState). IsSome (handle_numbered c.args.handle s.handles)) (sym c.self.view_is) c.requires.opened in
    IsSound-added c.self.inside c.self.invariant c.args.place c.args.handle c.args.iteration c.push_reserved.new.self c.push_reserved.ensures.items c.push_reserved.ensures.capacity c.requires.place opened room
