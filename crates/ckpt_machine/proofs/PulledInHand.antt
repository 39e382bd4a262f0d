-- What a call in hand has pulled.
use Rattle.std.proofs.Common.{◌≡◌, ℕ, Option, Some, None, ap, ◌∙◌}
use Rattle.ckpt_types.specs.declared.answers.Outcome.{Outcome}
use Rattle.ckpt_types.specs.declared.identities.CallId.{CallId}
use Rattle.ckpt_types.specs.declared.identities.Who.{Who}
use Rattle.ckpt_types.specs.declared.operation.Op.{Op}
use Rattle.ckpt_machine.specs.After.{call_begun}
use Rattle.ckpt_machine.specs.Driving.{Kept}
use Rattle.ckpt_machine.specs.Machine.{Snapshot, CallState}
use Rattle.ckpt_machine.proofs.Starting.{begun_as}

-- a call in hand, on this checkpoint, has pulled this snapshot
pub record PulledInHand (hands : Who → Option CallState) (k : ℕ) (s : Snapshot) : Type 0 where
  pub name : Who
  pub state : CallState
  pub in_hand : hands name ≡ Some state
  pub ckpt : state.kept.ckpt ≡ Some k
  pub snapshot : state.snapshot ≡ Some s

-- a call that has begun has pulled nothing
pub begun_empty : (end : Option Outcome) (call : CallId) (op : Op) (kept : Kept) (z : CallState) (s : Snapshot) → call_begun end call op kept ≡ Some z → z.snapshot ≡ Some s → ⊥
begun_empty end call op kept z s is pulled = let (d, driven, same) = begun_as end call op kept z is in let w : None ≡ Some s = ap (λ (z : CallState). z.snapshot) same ∙ pulled in cc w
