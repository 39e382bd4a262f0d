-- A call that leaves, or closes a handle, is one that its client waits for, and no asynchronous one.
use Rattle.std.proofs.Common.{◌≡◌, ℕ, List, [], ◌∷◌, Option, Some, None, true, refl, sym, subst, ◌∙◌}
use Rattle.std.specs.Prelude.{IfSome}
use Rattle.ckpt_types.specs.declared.answers.Outcome.{Outcome}
use Rattle.ckpt_types.specs.declared.answers.Outcome.TheVariants.{Done}
use Rattle.ckpt_types.specs.declared.identities.CallId.{CallId}
use Rattle.ckpt_types.specs.declared.identities.Who.{Who}
use Rattle.ckpt_types.specs.declared.identities.Who.TheVariants.{Actor, Call}
use Rattle.ckpt_types.specs.declared.operation.Op.{Op}
use Rattle.ckpt_types.specs.declared.operation.Op.TheVariants as ops
use Rattle.ckpt_types.specs.Asks.{Ask, asked, is_async_ask}
use Rattle.ckpt_types.specs.Asks as asks
use Rattle.ckpt_types.specs.OpWord.{is_async, word_of_op}
use Rattle.node_msgs.specs.declared.next.RecordStep.{RecordStep}
use Rattle.node_msgs.specs.declared.next.RecordStep.TheVariants as events
use Rattle.client_handles.specs.ClientState.{ClientState}
use Rattle.cluster_record.specs.StepDone.{StepDone}
use Rattle.ckpt_machine.specs.Drivers.{Driver}
use Rattle.ckpt_machine.specs.Drivers as drivers
use Rattle.ckpt_machine.specs.Driving.{Kept, on_kept, driver_start, driver_state, driver_taken}
use Rattle.ckpt_machine.specs.Facts.{IsEventReady}
use Rattle.ckpt_machine.specs.Machine.{Machine, CallState, who}
use Rattle.ckpt_machine.specs.Due.{IsDriven, driver_of}
use Rattle.ckpt_machine.specs.Tables.{handle_closed}
use Rattle.ckpt_machine.proofs.AsyncNames.{async_asked, async_named}
use Rattle.world_core.specs.Alone.{Syncs, going_with, going_with_look}
use Rattle.world_core.proofs.AloneSteps.{IsWaitedFor, MayGo}

waited_for : (s : CallState) (v : Who) → who s ≡ v → (is_async (word_of_op s.op) ≡ true → ⊥) → IsWaitedFor v
waited_for s (Actor a) name waited = tt
waited_for s (Call call) name waited = absurd (waited (async_named s call name).0)

-- ---- one that closes a handle

closes_waited : (op : Op) (t : ClientState) (handle : ℕ) → handle_closed (asked op) t ≡ Some handle → is_async (word_of_op op) ≡ true → ⊥
closes_waited (ops.Close place) t handle closes async = cc async
closes_waited op t handle closes async = cc closes

may_close : (s : CallState) (v : Who) (t : ClientState) → who s ≡ v → MayGo Syncs (handle_closed (asked s.op) t) v
may_close s v t name = by_handle (handle_closed (asked s.op) t) refl
  where
    by_handle : (o : Option ℕ) → handle_closed (asked s.op) t ≡ o → MayGo Syncs o v
    by_handle None closes = tt
    by_handle (Some handle) closes = waited_for s v name (closes_waited s.op t handle closes)

-- by a look
pub may_look : (s : CallState) (v : Who) (t : ClientState) (end : Outcome) → who s ≡ v → MayGo (going_with_look end) (handle_closed (asked s.op) t) v
may_look s v t (Done answer) name = may_close s v t name
may_look s v t end name = tt

-- ---- one that leaves

-- it is done in one step
abbrev IsOnce : Driver → Type 0
IsOnce (drivers.Once x) = Unit {0}
IsOnce driver = ⊥

kept_once : (start : ℕ → Driver) → ((k : ℕ) → IsOnce (start k) → ⊥) → (o : Option ℕ) → IfSome (on_kept o start) (λ x. IsOnce x → ⊥)
kept_once start each None = tt
kept_once start each (Some k) = each k

-- and no asynchronous call is
start_once : (call : CallId) (ask : Ask) (kept : Kept) → is_async_ask ask ≡ true → IfSome (driver_start call ask kept) (λ x. IsOnce x → ⊥)
start_once call (asks.Open place name flags None a) kept async = λ is. is
start_once call (asks.Synchronize place None) kept async = kept_once _ (λ k is. is) kept.ckpt
start_once call ask kept async = absurd (cc async)

taken_once : (d : StepDone) (x : Driver) → IsOnce (driver_taken d x) → IsOnce x
taken_once d (drivers.Once x) is = tt
taken_once d x is = is

state_once : (begun : Driver) (steps : List StepDone) → IsOnce (driver_state begun steps) → IsOnce begun
state_once begun [] is = is
state_once begun (d ∷ steps) is = state_once begun steps (taken_once d (driver_state begun steps) is)

once_waited : (s : CallState) → IsDriven s → IsOnce (driver_of s) → is_async (word_of_op s.op) ≡ true → ⊥
once_waited s driven is async =
    let begins : IfSome (Some s.begun) (λ x. IsOnce x → ⊥) = subst (λ o. IfSome o (λ x. IsOnce x → ⊥)) driven (start_once s.call (asked s.op) s.kept (sym (async_asked s.op) ∙ async)) in
    begins (state_once s.begun s.steps is)

leaves_once : (m : Machine) (s : CallState) (x : Driver) → IsEventReady m s x events.Leave → IsOnce x
leaves_once m s (drivers.Once x) ready = tt
leaves_once m s x ready = absurd ready

-- ---- any step of the record

pub may_go_with : (m : Machine) (s : CallState) (x : Driver) (step : RecordStep) (v : Who) (t : ClientState) → IsEventReady m s x step → x ≡ driver_of s → IsDriven s → who s ≡ v → MayGo (going_with step) (handle_closed (asked s.op) t) v
may_go_with m s x events.Leave v t ready driver driven name = waited_for s v name (once_waited s driven (subst IsOnce driver (leaves_once m s x ready)))
may_go_with m s x events.Close v t ready driver driven name = may_close s v t name
may_go_with m s x step v t ready driver driven name = tt
