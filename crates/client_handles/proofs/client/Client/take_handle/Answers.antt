use Rattle.std.proofs.Common.{◌≡◌, ◌+◌, ◌<◌, length, ap, ◌∙◌, sym, refl, arith, true}
use Rattle.std.proofs.lemmas.Bool.{ltb-true}
use Rattle.ckpt_types.specs.Limits.{handles_max}
use Rattle.client_handles.specs.Client.{client_shown}
use Rattle.client_handles.specs.ClientState.{has_handle_room}
use Rattle.client_handles.proofs.ClientLemmas.{handles_up_to-inserted, numbered-inserted, IsSound-inserted}
use Rattle.client_handles.proofs.client.Client.take_handle.Goals as goal

pub invariant_of-self : goal.invariant_of-self
invariant_of-self c =
    let room : has_handle_room (client_shown c.self.inside) ≡ true = ap has_handle_room c.self.view_is ∙ sym c.if-not-handle_room.ensures.room in
    let few : length (client_shown c.self.inside).handles < handles_max = ltb-true _ _ room in
    IsSound-inserted c.self.inside c.self.invariant _ _ _ c.insert_reserved.ensures.was_vacant c.insert_reserved.ensures.updates refl c.insert_reserved.ensures.capacity c.insert_reserved.ensures.len (omega (arith, c.self.invariant.counted))

pub returns-clause-taken : goal.returns-clause-taken
returns-clause-taken c =
    rw (← c.self.view_is)
    (ap (λ hs. record (client_shown c.self.inside) { last_number = c.self.inside.last_number + 1; handles = hs })
    (handles_up_to-inserted c.self.inside c.self.invariant _ _ _ c.insert_reserved.ensures.was_vacant c.insert_reserved.ensures.updates refl))

pub returns-clause-opened : goal.returns-clause-opened
returns-clause-opened c = numbered-inserted c.self.inside c.self.invariant _ _ _ c.insert_reserved.ensures.was_vacant c.insert_reserved.ensures.updates refl
