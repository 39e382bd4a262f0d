use Rattle.std.proofs.Common.{◌≡◌, Some, None, ap}
use Rattle.std.proofs.lemmas.List.{map-set}
use Rattle.client_handles.specs.Client.{bound_number, client_shown}
use Rattle.client_handles.specs.ClientState.{handle_numbered}
use Rattle.client_handles.proofs.ClientLemmas.{handle_numbered-absent, kept_under, IsSound-set}
use Rattle.client_handles.proofs.client.Client.bind.Goals as goal

pub unreachable-requires : goal.unreachable-requires
unreachable-requires c =
    let none : handle_numbered c.args.handle c.args.self.now.handles ≡ None =
    rw (← c.self.view_is) (handle_numbered-absent c.self.inside c.self.invariant c.args.handle c.in_default.ensures.absent) in
    let h = rw none at c.requires.opened in
    cc

pub invariant_of-self : goal.invariant_of-self
invariant_of-self c =
    let (h, there, is) = kept_under c.self.inside.handles c.in-Some.key c.args.handle c.in-Some.ensures.found in
    IsSound-set c.self.inside c.self.invariant c.args.place c.in-Some.key h c.args.handle c.requires.place there is

pub returns : goal.returns
returns c =
    rw (← c.self.view_is) (ap (λ ps. record (client_shown c.self.inside) { places = ps }) (map-set bound_number c.self.inside.places c.args.place (Some (record { key = c.in-Some.key; number = c.args.handle }))))
