use Rattle.std.proofs.Common.{◌≡◌, Some}
use Rattle.std.specs.Option.{option_map}
use Rattle.client_handles.specs.Client.{client_shown}
use Rattle.client_handles.specs.ClientState.{goes_over, iteration_at}
use Rattle.client_handles.proofs.ClientLemmas.{iterated-open, iterated_handle-found, IsValid-shown}
use Rattle.client_handles.proofs.client.Client.iteration_handle.Goals as goal

pub returns-in_default-clause-valid : goal.returns-in_default-clause-valid
returns-in_default-clause-valid c = rw (← c.self.view_is) (IsValid-shown c.self.inside c.self.invariant)

pub unreachable-requires : goal.unreachable-requires
unreachable-requires c =
    let over : Some c.in-Some.handle ≡ option_map goes_over (iteration_at c.args.place (client_shown c.self.inside)) = rw c.number_at-number.ensures at (rw c.as_slice.ensures.value at c.in-Some.ensures) in
    iterated-open c.self.inside c.self.invariant c.args.place c.in-Some.handle over c.in_default-handle_of.ensures.absent

pub returns-clause-answer : goal.returns-clause-answer
returns-clause-answer c =
    let over : Some c.in-Some.handle ≡ option_map goes_over (iteration_at c.args.place (client_shown c.self.inside)) = rw c.number_at-number.ensures at (rw c.as_slice.ensures.value at c.in-Some.ensures) in
    let (key, at, is) = c.in-Some-handle_of.ensures.found in
    rw (← c.self.view_is) (iterated_handle-found c.self.inside c.self.invariant c.args.place c.in-Some.handle over key c.in-Some-handle_of.opened at is)

pub returns-clause-valid : goal.returns-clause-valid
returns-clause-valid c = rw (← c.self.view_is) (IsValid-shown c.self.inside c.self.invariant)
