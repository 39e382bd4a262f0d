-- What is taken out of the work of a call is the portion of its request.
use Rattle.std.proofs.Common.{◌≡◌, ℕ, ◌<◌, ◌≤◌, Bool, true, false, arith, refl, subst}
use Rattle.std.specs.Prelude.{List, Option, Some, nat_lt, ◌==◌}
use Rattle.std.proofs.lemmas.Bool.Decides.{nat_tests}
use Rattle.ckpt_types.specs.declared.update.ReadElement.{ReadElement}
use Rattle.ckpt_types.specs.declared.update.Update.{Update}
use Rattle.ckpt_types.specs.Asks.{update_of, elements_of}
use Rattle.ckpt_types.specs.Buffer.{Buffer}
use Rattle.node_core.specs.Lending.{nothing_lent}
use Rattle.shared_nodes.specs.declared.kept.Kept.TheVariants as kept
use Rattle.shared_nodes.specs.Portions.{apply_portion, read_portion, update_portion}
use Rattle.shared_nodes.specs.Works.{KeptWork, id_buffer, read_buffer}

above_none : (n : ℕ) → 1 ≤ n → nat_lt 0 n ≡ true
above_none n le = grind (arith, nat_tests, le)

pub some_left : (n : ℕ) (empty : Bool) → empty ≡ (n == 0) → empty ≡ false → 0 < n
some_left n empty tells is = grind (arith, nat_tests, tells, is)

-- a share of the update
pub update_lent : (w now : KeptWork) (share : Update) → w ≡ now → nat_lt 1 w.updates ≡ true → share ≡ update_of w.op → record nothing_lent { update = Some share } ≡ (update_portion now).lent
update_lent w now share is many same = subst (λ (n : KeptWork). record nothing_lent { update = Some share } ≡ (update_portion n).lent) is (rw (many, same) refl)

pub update_kept : (w now : KeptWork) (share : Update) → w ≡ now → nat_lt 1 w.updates ≡ true → share ≡ update_of w.op → kept.Update share ≡ (update_portion now).kept
update_kept w now share is many same = subst (λ (n : KeptWork). kept.Update share ≡ (update_portion n).kept) is (rw (many, same) refl)

-- the same, with a buffer for an identifier
pub apply_lent : (w now : KeptWork) (share : Update) (read : Option Buffer) → w ≡ now → nat_lt 1 w.updates ≡ true → 0 < w.ids → share ≡ update_of w.op → read ≡ Some (id_buffer w.op) → record nothing_lent { update = Some share; read = read } ≡ (apply_portion now).lent
apply_lent w now share read is many some same room =
    subst (λ (n : KeptWork). record nothing_lent { update = Some share; read = read } ≡ (apply_portion n).lent) is (rw (many, above_none w.ids some, same, room) refl)

pub apply_kept : (w now : KeptWork) (share : Update) → w ≡ now → nat_lt 1 w.updates ≡ true → 0 < w.ids → share ≡ update_of w.op → kept.Update share ≡ (apply_portion now).kept
apply_kept w now share is many some same = subst (λ (n : KeptWork). kept.Update share ≡ (apply_portion n).kept) is (rw (many, above_none w.ids some, same) refl)

-- a share of the elements, with a buffer for what they give
pub read_lent : (w now : KeptWork) (share : List ReadElement) (read : Option Buffer) → w ≡ now → nat_lt 1 w.elements ≡ true → 0 < w.reads → share ≡ elements_of w.op → read ≡ Some (read_buffer w.op) → record nothing_lent { vector = Some share; read = read } ≡ (read_portion now).lent
read_lent w now share read is many some same room =
    subst (λ (n : KeptWork). record nothing_lent { vector = Some share; read = read } ≡ (read_portion n).lent) is (rw (many, above_none w.reads some, same, room) refl)

pub read_kept : (w now : KeptWork) (share : List ReadElement) → w ≡ now → nat_lt 1 w.elements ≡ true → 0 < w.reads → share ≡ elements_of w.op → kept.Elements share ≡ (read_portion now).kept
read_kept w now share is many some same = subst (λ (n : KeptWork). kept.Elements share ≡ (read_portion n).kept) is (rw (many, above_none w.reads some, same) refl)
