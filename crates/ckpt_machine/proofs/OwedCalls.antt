-- What the labels of a log tell of asynchronous calls, and what the state keeps of them: each that is under way began in the log so, and those that have ended and are not dispatched are just what their clients are owed.
use Rattle.std.proofs.Common.{◌<◌, map, cond, refl, ◌≡◌, ℕ, List, Option, Some, true, false}
use Rattle.std.specs.Prelude.{Contains}
use Rattle.ckpt_types.specs.declared.calls.AsyncKind.TheVariants as kinds
use Rattle.ckpt_types.specs.declared.identities.ActorName.{ActorName}
use Rattle.ckpt_types.specs.declared.identities.CallId.{CallId}
use Rattle.ckpt_types.specs.declared.identities.Who.{Who}
use Rattle.ckpt_types.specs.declared.operation.Op.{Op}
use Rattle.ckpt_types.specs.declared.operation.Op.TheVariants as ops
use Rattle.call_dispatch.specs.PendingCalls.{PendingCalls}
use Rattle.call_dispatch.specs.declared.async_call.AsyncCall.{AsyncCall}
use Rattle.client_handles.specs.ClientState.{ClientState, handle_at}
use Rattle.client_handles.specs.declared.handle_view.HandleView.{HandleView}
use Rattle.cluster_record.specs.Calls.{put_actor, same_actor}
use Rattle.ckpt_machine.specs.Callbacks.{Owing, BegunCall, OwedCallback}
use Rattle.ckpt_machine.specs.Machine.{Machine, CallState}
use Rattle.ckpt_machine.proofs.OwedLists.{owed_of}

-- ---- what the labels tell

-- an asynchronous call is kept as it began, with this operation, and over this handle
abbrev pub IsAskedAs : Op → Option ℕ → AsyncCall → Type 0
IsAskedAs (ops.OpenAsync place invocation name flags a) handle c = (c.kind ≡ kinds.Open place) × (c.invocation ≡ invocation)
IsAskedAs (ops.SyncAsync place invocation) handle c = (c.kind ≡ kinds.Sync) × (c.invocation ≡ invocation) × (handle ≡ Some c.handle)
IsAskedAs op handle c = ⊥

-- one under way began so, and goes on
pub record HasBegunAs (t : Owing) (c : AsyncCall) : Type 0 where
  pub begun : BegunCall
  pub found : t.going c.call ≡ Some begun
  pub kept : IsAskedAs begun.op begun.handle c

-- the place stands for a handle, which is this one
abbrev pub StandsFor : ℕ → ClientState → Option ℕ → Type 0
StandsFor place tables handle = (h : HandleView) × (handle_at place tables ≡ Some h) × (handle ≡ Some h.handle)

-- a call in hand began with its operation, and goes on; where this is a close, its place still stands for the handle for which it stood then
pub record HasBegunIn (t : Owing) (tables : ActorName → ClientState) (s : CallState) : Type 0 where
  pub begun : BegunCall
  pub found : t.going s.call ≡ Some begun
  pub op : begun.op ≡ s.op
  pub stands : (place : ℕ) → s.op ≡ ops.Close place → StandsFor place (tables s.call.actor) begun.handle

-- ALL THAT IS KEPT OF CALLS IS WHAT THE LABELS TELL
pub record TellsCalls (t : Owing) (in_hand : Who → Option CallState) (pending : ActorName → PendingCalls) (tables : ActorName → ClientState) (next : ActorName → ℕ) : Type 0 where
  -- what goes on has a number that was given
  pub below : (call : CallId) (b : BegunCall) → t.going call ≡ Some b → call.number < next call.actor
  pub hands : (w : Who) (s : CallState) → in_hand w ≡ Some s → HasBegunIn t tables s
  pub under_way : (a : ActorName) (c : AsyncCall) → Contains (pending a).unfinished c → HasBegunAs t c
  pub owed : (a : ActorName) → map owed_of (pending a).finished ≡ t.owed a

abbrev pub Tells : Owing → Machine → Type 0
Tells t m = TellsCalls t m.in_hand m.pending m.tables m.next

-- ---- one label more

-- an asynchronous call under way goes on, where its name does
pub begun_as_still : (t u : Owing) (c : AsyncCall) (was : HasBegunAs t c) → u.going c.call ≡ Some was.begun → HasBegunAs u c
begun_as_still t u c was still = record { begun = was.begun; found = still; kept = was.kept }

-- so does a call in hand, with tables in which its place stands for its handle, where it is a close
pub begun_in_still : (t u : Owing) (tables then : ActorName → ClientState) (s : CallState) (was : HasBegunIn t tables s) → u.going s.call ≡ Some was.begun
    → ((place : ℕ) → s.op ≡ ops.Close place → (h : HandleView) → handle_at place (tables s.call.actor) ≡ Some h → handle_at place (then s.call.actor) ≡ Some h) → HasBegunIn u then s
begun_in_still t u tables then s was goes still = record {
  begun = was.begun;
  found = goes;
  op = was.op;
  stands = λ place is. let (h, at, same) = was.stands place is in (h, still place is h at, same);
}

-- what each is owed, where that and those that have ended change alike of one actor
pub owed_put : (pending : ActorName → PendingCalls) (owed : ActorName → List OwedCallback) (a : ActorName) (p : PendingCalls) (os : List OwedCallback)
    → ((b : ActorName) → same_actor b a ≡ false → map owed_of (pending b).finished ≡ owed b) → map owed_of p.finished ≡ os → (b : ActorName) → map owed_of (put_actor pending a p b).finished ≡ put_actor owed a os b
owed_put pending owed a p os others own b = elim (same_actor b a) as (λ t. same_actor b a ≡ t → map owed_of (cond t p (pending b)).finished ≡ cond t os (owed b)) [
  | true ↦ λ same. own
  | false ↦ λ other. others b other
] refl
