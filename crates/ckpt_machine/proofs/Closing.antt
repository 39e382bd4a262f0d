-- A handle ends, and the asynchronous synchronisations over it go with it, which own nothing; what holds of all other calls stays.
use Rattle.std.proofs.Common.{◌≡◌, ℕ, Option, Some, None, Bool, true, false, cond, ℤ, refl, sym, ap, subst, ◌∙◌}
use Rattle.std.specs.Prelude.{IsSomeAnd}
use Rattle.std.proofs.lemmas.Bool.{and_parts}
use Rattle.ckpt_types.specs.declared.identities.ActorName.{ActorName}
use Rattle.ckpt_types.specs.declared.identities.CallId.{CallId}
use Rattle.ckpt_types.specs.declared.identities.Who.{Who}
use Rattle.ckpt_types.specs.declared.identities.Who.TheVariants.{Actor}
use Rattle.ckpt_types.specs.declared.identities.Who.TheVariants as whos
use Rattle.ckpt_types.specs.declared.operation.Op.{Op}
use Rattle.ckpt_types.specs.declared.operation.Op.TheVariants as ops
use Rattle.ckpt_types.specs.Asks.{asked, is_async_ask}
use Rattle.ckpt_types.specs.Asks as asks
use Rattle.ckpt_types.specs.OpWord.{is_async, word_of_op}
use Rattle.call_dispatch.specs.PendingCalls.{find_async, is_sync}
use Rattle.call_dispatch.specs.declared.async_call.AsyncCall.{AsyncCall}
use Rattle.cluster_record.specs.Calls.{same_actor, put_actor}
use Rattle.cluster_record.specs.declared.calls.SyncKind.{SyncKind}
use Rattle.cluster_record.specs.declared.calls.SyncKind.TheVariants.{Synchronize, ActiveSet}
use Rattle.cluster_record.specs.DueSync.{SyncState}
use Rattle.cluster_record.specs.RecordState.{RecordState}
use Rattle.ckpt_machine.specs.Drivers.{Driver}
use Rattle.ckpt_machine.specs.Drivers as drivers
use Rattle.ckpt_machine.specs.InHand.{active_kind, IsSyncBy, IsInPlace, IsUpdateAsk}
use Rattle.ckpt_machine.specs.Invariant.{IsKeptOf, AreCalls, InvariantIn}
use Rattle.ckpt_machine.specs.Machine.{Machine, ReplicaState, Snapshot, CallState, who}
use Rattle.ckpt_machine.specs.Shape.{Shape}
use Rattle.ckpt_machine.specs.After.{kind_of, is_over, goes_with, left_over, with_closed}
use Rattle.ckpt_machine.specs.Due.{driver_of}
use Rattle.ckpt_machine.specs.Tables.{handle_closed}
use Rattle.ckpt_machine.proofs.Actors.{same_actor-true}
use Rattle.ckpt_machine.proofs.AsyncCalls.{ended_idle}
use Rattle.ckpt_machine.proofs.AsyncNames.{own_name, async_named, goes_with-actor}
use Rattle.ckpt_machine.proofs.CallsPending.{calls_closed}
use Rattle.ckpt_machine.proofs.DroppedCalls.{without_those, dropped_keeps, pending_keeps}
use Rattle.ckpt_machine.proofs.EndedTables.{closing_keeps}
use Rattle.ckpt_machine.proofs.FewerCalls.{calls_fewer}
use Rattle.ckpt_machine.proofs.OptionLemmas.{IsSomeAnd-at}
use Rattle.ckpt_machine.proofs.PlainCalls.{is_plain, is_plain_sync, ending, left_other}

-- ---- a synchronisation owns nothing

-- an asynchronous call that is kept as one synchronises
sync_asked : (op : Op) → is_async (word_of_op op) ≡ true → is_sync (kind_of op) ≡ true → (place : ℕ) × (asked op ≡ asks.Synchronize place None)
sync_asked (ops.OpenAsync place invocation name flags a) async sync = absurd (cc sync)
sync_asked (ops.SyncAsync place invocation) async sync = (place, refl)
sync_asked op async sync = absurd (cc async)

module _ (m : Machine) (shapes : ℕ → Shape) (z : CallState) (place : ℕ) (timeout : Option ℤ) (is : asked z.op ≡ asks.Synchronize place timeout) where
  by_kind : (u : SyncState) (kind : SyncKind) → IsSyncBy m z u kind → is_plain_sync kind z.snapshot ≡ true
  by_kind u (Synchronize deadline) at = refl
  by_kind u (ActiveSet local) at = absurd (let w : asks.Synchronize place timeout ≡ asks.SetActive at.place = sym is ∙ at.asks in cc w)

  sync_plain : (d : Driver) → IsInPlace m shapes z d → is_plain d z.snapshot ≡ true
  sync_plain (drivers.Once x) at = refl
  sync_plain (drivers.Open o) at = let open_asks = at.asks in absurd (let w : asks.Synchronize place timeout ≡ asks.Open open_asks.place o.ask.name open_asks.flags open_asks.timeout o.ask.attrs = sym is ∙ open_asks.asks in cc w)
  sync_plain (drivers.Update u) at = absurd (subst IsUpdateAsk is at.asks)
  sync_plain (drivers.Active a) at = absurd (let w : None ≡ Some a.kind = ap (active_kind z.kept.all z.kept.weak) (sym is) ∙ at.kind in cc w)
  sync_plain (drivers.Sync u) at = by_kind u u.kind at
  sync_plain (drivers.Copy c) at = absurd (let w : asks.Synchronize place timeout ≡ asks.Copy = sym is ∙ at.asks in cc w)

-- ---- those that go with a handle

-- what is over a handle is a synchronisation
is_over-sync : (handle : ℕ) (o : Option AsyncCall) → is_over handle o ≡ true → IsSomeAnd o (λ c. is_sync c.kind ≡ true)
is_over-sync handle None over = absurd (cc over)
is_over-sync handle (Some c) over = (and_parts (is_sync c.kind) _ over).0

module _ (m : Machine) (shapes : ℕ → Shape) (inv : InvariantIn shapes m) (handle : Option ℕ) (a : ActorName) where
  over_plain : (w : Who) (z : CallState) → m.in_hand w ≡ Some z → goes_with handle a (m.pending a) w ≡ true → is_plain (driver_of z) z.snapshot ≡ true
  over_plain w z at goes = by_handle handle w z at goes
    where
      by_call : (number : ℕ) (call : CallId) (z : CallState) → m.in_hand (whos.Call call) ≡ Some z → goes_with (Some number) a (m.pending a) (whos.Call call) ≡ true → is_plain (driver_of z) z.snapshot ≡ true
      by_call number call z at goes =
          let was = inv.hands (whos.Call call) z at in
          let (async, call_is) = async_named z call was.whose in
          let (own, over) = and_parts (same_actor call.actor a) (is_over number (find_async call (m.pending a).unfinished)) goes in
          let (c, found, kept) = IsSomeAnd-at (find_async z.call (m.pending z.call.actor).unfinished) (IsKeptOf z) (inv.calls.kept (whos.Call call) z at async) in
          let here : find_async call (m.pending a).unfinished ≡ Some c = (λ i. find_async (sym call_is i) (m.pending (sym (ap (λ (x : CallId). x.actor) call_is ∙ same_actor-true call.actor a own) i)).unfinished) ∙ found in
          let sync : is_sync c.kind ≡ true = subst (λ o. IsSomeAnd o (λ (c : AsyncCall). is_sync c.kind ≡ true)) here (is_over-sync number (find_async call (m.pending a).unfinished) over) in
          let (place, is) = sync_asked z.op async (ap is_sync (sym kept.kind) ∙ sync) in
          sync_plain m shapes z place None is (driver_of z) was.here

      by_handle : (handle : Option ℕ) (w : Who) (z : CallState) → m.in_hand w ≡ Some z → goes_with handle a (m.pending a) w ≡ true → is_plain (driver_of z) z.snapshot ≡ true
      by_handle None w z at goes = absurd (cc goes)
      by_handle (Some number) (Actor b) z at goes = absurd (cc goes)
      by_handle (Some number) (whos.Call call) z at goes = by_call number call z at goes

-- ---- a call that ends its handle

module _ (s : CallState) where
  -- it goes with the handle that the call ends
  abbrev pub goes : Machine → Who → Bool
  goes n w = goes_with (handle_closed (asked s.op) (n.tables s.call.actor)) s.call.actor (n.pending s.call.actor) w

  module _ (m : Machine) (shapes : ℕ → Shape) (inv : InvariantIn shapes m) (held : m.in_hand (who s) ≡ Some s) (plain : is_async_ask (asked s.op) ≡ false) where
    -- without those
    pub without_syncs_keep : InvariantIn shapes (without_those (goes m) m)
    without_syncs_keep = dropped_keeps m shapes inv (goes m) (over_plain m shapes inv (handle_closed (asked s.op) (m.tables s.call.actor)) s.call.actor)

    -- the call is no asynchronous one, so it is left
    pub held_still : (without_those (goes m) m).in_hand (who s) ≡ Some s
    held_still = ap (λ b. cond b None (m.in_hand (who s))) (ap (goes m) (own_name s plain) ∙ goes_with-actor (handle_closed (asked s.op) (m.tables s.call.actor)) s.call.actor (m.pending s.call.actor) s.call.actor) ∙ held

    -- those that are left are not dispatched
    calls_then : AreCalls (ending s (without_those (goes m) m)).in_hand (put_actor m.pending s.call.actor (left_over (handle_closed (asked s.op) (m.tables s.call.actor)) (m.pending s.call.actor))) m.next
    calls_then = calls_fewer (without_those (goes m) m).in_hand (ending s (without_those (goes m) m)).in_hand _ m.next (λ w z left. left_other s (without_those (goes m) m) w z left (λ other at. at))
        (calls_closed m.in_hand m.pending m.next inv.calls (handle_closed (asked s.op) (m.tables s.call.actor)) s.call.actor (λ w z at. (inv.hands w z at).whose))

    -- the handle goes once the call has ended, whatever it has made of the record
    module _ (cluster : RecordState) (replicas : ℕ → ℕ → Option ReplicaState) (reserved : ℕ → ℕ → Option ℕ) (snapshots : ℕ → Option Snapshot) where
      abbrev pub then_record : Machine → Machine
      then_record n = record n { cluster = cluster; replicas = replicas; reserved = reserved; snapshots = snapshots }

      pub closing_ends : InvariantIn shapes (ending s (then_record (without_those (goes m) m))) → InvariantIn shapes (ending s (with_closed s (then_record m)))
      closing_ends ended = closing_keeps _ shapes (pending_keeps (ending s (then_record (without_those (goes m) m))) shapes ended _ calls_then) s.call.actor (ended_idle (without_those (goes m) m) s plain) (asked s.op)
