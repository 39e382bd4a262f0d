-- What is known of a beginning by its answer: whether its call goes on, with what drives it, and what stands beside the answer.
use Rattle.std.proofs.Common.{◌≡◌, inl, inr, ℕ, ◌<◌, map, Bool, true, false, Option, Some, None, refl, sym, ap, subst, ◌∙◌}
use Rattle.std.specs.Prelude.{is_none, is_some, IfSome, IsSome, slice_get}
use Rattle.ckpt_types.specs.declared.answers.Answer.{Answer}
use Rattle.ckpt_types.specs.declared.answers.Answer.TheVariants as answers
use Rattle.ckpt_types.specs.declared.answers.Given.{Given}
use Rattle.ckpt_types.specs.declared.answers.Outcome.{Outcome}
use Rattle.ckpt_types.specs.declared.answers.Outcome.TheVariants.{Done}
use Rattle.ckpt_types.specs.declared.identities.CallId.{CallId}
use Rattle.ckpt_types.specs.declared.operation.Op.{Op}
use Rattle.ckpt_types.specs.declared.operation.Op.TheVariants as ops
use Rattle.ckpt_types.specs.Asks.{Ask, asked, IsBuilt}
use Rattle.ckpt_types.specs.Limits.{pending_max}
use Rattle.ckpt_types.specs.OpWord.{is_async, word_of_op}
use Rattle.call_dispatch.specs.PendingCalls.{PendingCalls, callback_of, given_by, is_pending, pending_count}
use Rattle.node_msgs.specs.declared.details.Details.{Details}
use Rattle.node_msgs.specs.declared.details.Details.TheVariants as beside
use Rattle.client_handles.specs.declared.handle_view.HandleView.{HandleView}
use Rattle.cluster_record.specs.RecordState.{is_live_client}
use Rattle.ckpt_machine.specs.Beginning.{Standing, begin_end, callbacks_told}
use Rattle.ckpt_machine.specs.BeginRows.{has_bad_handle, HasPlaceFor, IsGivenBy, BeginRow}
use Rattle.ckpt_machine.specs.Driving.{driver_start}
use Rattle.ckpt_machine.specs.Facts.{Facts}
use Rattle.ckpt_machine.specs.After.{goes_on}
use Rattle.ckpt_machine.specs.Due.{IsBeginEnd, is_unrefused, kept_at_beginning, standing_of}
use Rattle.ckpt_machine.specs.Tables.{handle_asked}
use Rattle.ckpt_machine.proofs.AsyncNames.{async_asked}
use Rattle.ckpt_machine.proofs.BeginRows.{row_of}
use Rattle.ckpt_machine.proofs.Starting.{live_client, begun_passed, goes_on_driven}
use Rattle.world_core.specs.declared.world.World.{World}
use Rattle.world_core.specs.Answering.{IsAnsweredAtOnce, IsNextBegun}
use Rattle.world_core.specs.LiveRooms.{room_is_taken}
use Rattle.world_core.specs.Shows.{IsShown, machine_of}
use Rattle.world_core.specs.TablesState.{standing_in, pending_by}
use Rattle.client_calls.specs.TableState.{TableState, pending_in, CanBegin}
use Rattle.world_core.proofs.Begin.{is_begun}
use Rattle.world_core.proofs.NewCalls.{new_pending}

-- ---- what goes on is driven

pub starts : (w : World) (c : ℕ) (call : CallId) (op : Op) (h : Option HandleView) (end : Option Outcome) (details : Details) → IsShown w → IsNextBegun w c call op h end → details ≡ callbacks_told end (asked op) (pending_by w.tables c) → goes_on (word_of_op op) end ≡ true
    → IsSome (driver_start call (asked op) (kept_at_beginning w.cluster call.actor h))
starts w c call op h end details shown is told goes =
    let m = machine_of w shown.shows.history in
    let (d, driven) = goes_on_driven w.cluster call.actor (standing_of m call.actor op) call (asked op) (begun_passed m call op end details (is_begun w c call op h end details is told shown.shows.history) goes) in
    let same : handle_asked (asked op) (m.tables call.actor) ≡ h = ap (λ (x : CallId). handle_asked (asked op) (m.tables x.actor)) is.call_is ∙ sym is.handle in
    ap is_some (ap (λ o. driver_start call (asked op) (kept_at_beginning w.cluster call.actor o)) (sym same) ∙ driven)

-- ---- an operation that is no asynchronous one

-- it does not go on where it is answered
pub not_async : (op : Op) → ((place invocation : ℕ) (name : _) (flags : ℕ) (a : _) → op ≡ ops.OpenAsync place invocation name flags a → ⊥) → ((place invocation : ℕ) → op ≡ ops.SyncAsync place invocation → ⊥) → is_async (word_of_op op) ≡ false
not_async (ops.OpenAsync place invocation name flags a) no_open no_sync = absurd (no_open place invocation name flags a refl)
not_async (ops.SyncAsync place invocation) no_open no_sync = absurd (no_sync place invocation refl)
not_async op no_open no_sync = refl

-- and nothing stands beside its answer, where it is no dispatch
pub no_callbacks : (op : Op) → ((flags : ℕ) → op ≡ ops.Dispatch flags → ⊥) → (end : Option Outcome) (p : PendingCalls) → callbacks_told end (asked op) p ≡ beside.Nothing
no_callbacks (ops.Dispatch flags) other end p = absurd (other flags refl)
no_callbacks op other None p = refl
no_callbacks op other (Some (Done answer)) p = refl
no_callbacks op other (Some end) p = refl

-- a dispatch has the callbacks beside it that it gives
pub dispatch_told : (answer : Answer) (op : Op) (flags : ℕ) (p : PendingCalls) → op ≡ ops.Dispatch flags → callbacks_told (Some (Done answer)) (asked op) p ≡ beside.Callbacks (map callback_of (given_by flags p))
dispatch_told answer op flags p is = ap (λ op. callbacks_told (Some (Done answer)) (asked op) p) is

-- what is answered does not go on
pub plain_ends : (end : Outcome) (op : Op) → is_async (word_of_op op) ≡ false → goes_on (word_of_op op) (Some end) ≡ false
plain_ends (Done answer) op plain = plain
plain_ends end op plain = refl

-- ---- what is refused, or lacks its memory

pub refused_ends : (end : Outcome) → ((answer : Answer) → end ≡ Done answer → ⊥) → (op : Op) → goes_on (word_of_op op) (Some end) ≡ false
refused_ends (Done answer) other op = absurd (other answer refl)
refused_ends end other op = refl

pub refused_told : (end : Outcome) → ((answer : Answer) → end ≡ Done answer → ⊥) → (ask : Ask) (p : PendingCalls) → callbacks_told (Some end) ask p ≡ beside.Nothing
refused_told (Done answer) other ask p = absurd (other answer refl)
refused_told end other ask p = refl

-- where it is answered OK, it would not be refused
pub was_unrefused : (ask : Ask) (due : Option Outcome) (answer : Answer) → IsBeginEnd ask due (Some (Done answer)) → is_unrefused due ≡ true
was_unrefused ask due answer (inl same) = ap is_unrefused (sym same)
was_unrefused ask due answer (inr memory) = memory.1

-- ---- an asynchronous call

-- nothing stands beside its answer
pub told_alone : (op : Op) → is_async (word_of_op op) ≡ true → (end : Option Outcome) (p : PendingCalls) → callbacks_told end (asked op) p ≡ beside.Nothing
told_alone op async = no_callbacks op (λ flags is. (let it : false ≡ true = ap (λ op. is_async (word_of_op op)) (sym is) ∙ async in cc it))

-- its client is live, where no handle is bad
async_live : (op : Op) (live : Bool) (h : Option HandleView) → is_async (word_of_op op) ≡ true → has_bad_handle live h (asked op) ≡ false → live ≡ true
async_live (ops.OpenAsync place invocation name flags a) live h async good = (live_client live false good).0
async_live (ops.SyncAsync place invocation) live h async good = (live_client live (is_none h) good).0
async_live op live h async good = absurd (cc async)

-- it is no dispatch
no_dispatch : (p : PendingCalls) (op : Op) (given : Given) → is_async (word_of_op op) ≡ true → IsGivenBy p (asked op) given → ⊥
no_dispatch p (ops.Dispatch flags) given async is = cc async
no_dispatch p op given async is = is

module _ (st : Standing) (op : Op) (built : IsBuilt op) (async : is_async (word_of_op op) ≡ true) where
  -- it is answered OK by this alone
  answer_by_row : (answer : Answer) → BeginRow st (asked op) (Some (Done answer)) → answer ≡ answers.Nothing
  answer_by_row answers.Nothing row = refl
  answer_by_row (answers.Dispatched given) row = absurd (no_dispatch st.pending op given async row.1)
  answer_by_row answer row = absurd row

  pub answer_alone : (answer : Answer) → IsBeginEnd (asked op) (begin_end st (asked op)) (Some (Done answer)) → answer ≡ answers.Nothing
  answer_alone answer is = answer_by_row answer (row_of st (asked op) built (Some (Done answer)) is)

  -- then its client is live, and there is room for it among those that are not dispatched
  pub live_with_room : IsBeginEnd (asked op) (begin_end st (asked op)) (Some (Done answers.Nothing)) → (st.live ≡ true) × (pending_count st.pending < pending_max)
  live_with_room is =
      let row = row_of st (asked op) built (Some (Done answers.Nothing)) is in
      (async_live op st.live st.handle async row.0.handle, subst (λ b. HasPlaceFor b st.pending) (sym (async_asked op) ∙ async) row.2)

-- answered OK, it is answered by this alone
pub alone_at_once : (w : World) (c : ℕ) (call : CallId) (op : Op) (h : Option HandleView) (end : Outcome) (answer : Answer) → is_async (word_of_op op) ≡ true → end ≡ Done answer → IsAnsweredAtOnce w c call op h end → IsAnsweredAtOnce w c call op h (Done answers.Nothing)
alone_at_once w c call op h end answer async done is =
    let st = standing_in (is_live_client c w.cluster) h c w.tables in
    let nothing = answer_alone st op is.built async answer (subst (λ e. IsBeginEnd (asked op) (begin_end st (asked op)) (Some e)) done is.end_is) in
    subst (IsAnsweredAtOnce w c call op h) (done ∙ ap Done nothing) is

-- its client's table can take it
pub can_alone : (w : World) (c : ℕ) (call : CallId) (op : Op) (h : Option HandleView) → IsShown w → IsAnsweredAtOnce w c call op h (Done answers.Nothing) → is_async (word_of_op op) ≡ true → IfSome (slice_get w.tables c) (CanBegin (Some (Done answers.Nothing)) call op)
can_alone w c call op h shown is async = by_table (slice_get w.tables c) refl where
  by_table : (o : Option TableState) → slice_get w.tables c ≡ o → IfSome o (CanBegin (Some (Done answers.Nothing)) call op)
  by_table None table = tt
  by_table (Some t) table = λ again.
      let (live, room) = live_with_room (standing_in (is_live_client c w.cluster) h c w.tables) op is.built async is.end_is in
      let calls : pending_by w.tables c ≡ t.pending = ap pending_in table in
      record {
        roomy = ap room_is_taken (sym table) ∙ shown.shows.rooms c live;
        new = (λ i. is_pending (is.call_is i) (sym calls i)) ∙ new_pending w shown.shows.history (subst Facts shown.shows.same shown.facts) c;
        room = subst (λ p. pending_count p < pending_max) calls room;
      }
