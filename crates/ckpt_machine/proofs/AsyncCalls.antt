-- Which calls are asynchronous: by what is asked for, and by the name under which one is in hand.
use Rattle.std.proofs.Common.{◌≡◌, ℕ, None, true, false, refl, sym, ap, ◌∙◌}
use Rattle.ckpt_types.specs.declared.identities.Who.TheVariants.{Actor}
use Rattle.ckpt_types.specs.Asks.{asked, is_async_ask}
use Rattle.ckpt_types.specs.OpWord.{is_async, word_of_op}
use Rattle.cluster_record.specs.DueOnce.{OneStep, Enter, Leave, Close, Unlink, Retain}
use Rattle.ckpt_machine.specs.Drivers.{Driver}
use Rattle.ckpt_machine.specs.Drivers as drivers
use Rattle.ckpt_machine.specs.InHand.{enters, is_enter, IsOnceAt, IsInPlace}
use Rattle.ckpt_machine.specs.Shape.{Shape}
use Rattle.ckpt_machine.specs.Machine.{Machine, CallState, who}
use Rattle.ckpt_machine.proofs.PlainCalls.{ending}
use Rattle.ckpt_machine.proofs.Whose.{put_who-here}
use Rattle.ckpt_machine.proofs.AsyncNames.{async_asked, own_name}

-- once it has ended, its actor waits for none
pub ended_idle : (m : Machine) (s : CallState) → is_async_ask (asked s.op) ≡ false → (ending s m).in_hand (Actor s.call.actor) ≡ None
ended_idle m s plain = ap (ending s m).in_hand (sym (own_name s plain)) ∙ put_who-here m.in_hand (who s) None

-- it is no Initialize
pub async_no_enter : (m : Machine) (shapes : ℕ → Shape) (z : CallState) → is_async (word_of_op z.op) ≡ true → (d : Driver) → IsInPlace m shapes z d → is_enter d ≡ false
async_no_enter m shapes z async (drivers.Once x) at = by_step x at
  where
    by_step : (x : OneStep) → IsOnceAt m z x → enters x ≡ false
    by_step (Enter r) at = absurd (let w : false ≡ true = sym (ap is_async_ask at.asks) ∙ sym (async_asked z.op) ∙ async in cc w)
    by_step Leave at = refl
    by_step (Close k) at = refl
    by_step (Unlink name) at = refl
    by_step (Retain k duration) at = refl
async_no_enter m shapes z async (drivers.Open o) at = refl
async_no_enter m shapes z async (drivers.Update u) at = refl
async_no_enter m shapes z async (drivers.Active a) at = refl
async_no_enter m shapes z async (drivers.Sync u) at = refl
async_no_enter m shapes z async (drivers.Copy c) at = refl
