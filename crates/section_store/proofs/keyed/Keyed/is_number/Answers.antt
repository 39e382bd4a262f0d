use Rattle.std.proofs.Common.{◌≡◌, length, nat_eq, ap, ◌∙◌, sym}
use Rattle.section_store.specs.Keys.{key_of}
use Rattle.section_store.proofs.KeyLemmas.{is_numbered_id}
use Rattle.section_store.proofs.keyed.Keyed.is_number.Goals as goal

pub returns-then-self-number : goal.returns-then-self-number
returns-then-self-number c =
    let number = c.args.number in
    let id = c.self.inside.id in
    let key : number ≡ key_of id = sym c.if-self-number.true ∙ c.self.invariant.key in
    rw (← c.self.view_is) (ap (λ bytes. nat_eq (length bytes) 8) c.as_slice.ensures ∙ is_numbered_id id number c.self.invariant.bytes key)
