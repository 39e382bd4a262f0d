-- Which calls are asynchronous: by what is asked for, and by the name under which one is in hand.
use Rattle.std.proofs.Common.{◌≡◌, ℕ, Option, Some, None, Bool, true, false, refl, sym, ◌∙◌}
use Rattle.ckpt_types.specs.declared.identities.ActorName.{ActorName}
use Rattle.ckpt_types.specs.declared.identities.CallId.{CallId}
use Rattle.ckpt_types.specs.declared.identities.Who.TheVariants.{Actor}
use Rattle.ckpt_types.specs.declared.identities.Who.TheVariants as whos
use Rattle.ckpt_types.specs.declared.operation.Op.{Op}
use Rattle.ckpt_types.specs.declared.operation.Op.TheVariants as ops
use Rattle.ckpt_types.specs.Asks.{asked, is_async_ask}
use Rattle.ckpt_types.specs.OpWord.{is_async, word_of_op}
use Rattle.call_dispatch.specs.PendingCalls.{PendingCalls}
use Rattle.ckpt_machine.specs.After.{goes_with}
use Rattle.ckpt_machine.specs.Machine.{CallState, who}
use Rattle.ckpt_machine.proofs.Whose.{stepped_as-plain, stepped_as-async}

-- an operation is asynchronous as what it asks for is
pub async_asked : (op : Op) → is_async (word_of_op op) ≡ is_async_ask (asked op)
async_asked (ops.OpenAsync place invocation name flags a) = refl
async_asked (ops.SyncAsync place invocation) = refl
async_asked (ops.Open place name flags timeout a) = refl
async_asked (ops.Sync place timeout) = refl
async_asked op = refl

-- what asks for no asynchronous call is none
pub plain_asked : (op : Op) → is_async_ask (asked op) ≡ false → is_async (word_of_op op) ≡ false
plain_asked op plain = async_asked op ∙ plain

-- such a call is in hand under the name of its actor
pub own_name : (s : CallState) → is_async_ask (asked s.op) ≡ false → who s ≡ Actor s.call.actor
own_name s plain = stepped_as-plain s.call (word_of_op s.op) (plain_asked s.op plain)

-- what is in hand under the name of a call is that one, which is asynchronous
pub async_named : (s : CallState) (call : CallId) → who s ≡ whos.Call call → (is_async (word_of_op s.op) ≡ true) × (s.call ≡ call)
async_named s call name = by_word (is_async (word_of_op s.op)) refl
  where
    by_word : (b : Bool) → is_async (word_of_op s.op) ≡ b → (is_async (word_of_op s.op) ≡ true) × (s.call ≡ call)
    by_word false plain = absurd (let w : Actor s.call.actor ≡ whos.Call call = sym (stepped_as-plain s.call (word_of_op s.op) plain) ∙ name in cc w)
    by_word true async = (async, (let w : whos.Call s.call ≡ whos.Call call = sym (stepped_as-async s.call (word_of_op s.op) async) ∙ name in cc w))

-- no call that is stepped by its actor's name goes with a handle
pub goes_with-actor : (handle : Option ℕ) (a : ActorName) (p : PendingCalls) (b : ActorName) → goes_with handle a p (Actor b) ≡ false
goes_with-actor None a p b = refl
goes_with-actor (Some handle) a p b = refl
