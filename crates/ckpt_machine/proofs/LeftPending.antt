-- What a step leaves of the asynchronous calls that are not dispatched, and of the handles for which places stand: all, but where a call closes a handle or lets its client leave.
use Rattle.std.proofs.Common.{◌≡◌, ◌⊎◌, ℕ, ℤ, Bool, inl, inr, List, [], ◌∷◌, Option, Some, None, true, false, cond, refl, sym, ap, subst, ◌∙◌}
use Rattle.std.specs.Option.{option_map}
use Rattle.ckpt_types.specs.declared.ais_error.AisError.{AisError}
use Rattle.ckpt_types.specs.declared.answers.Answer.{Answer}
use Rattle.ckpt_types.specs.declared.answers.Answer.TheVariants as answers
use Rattle.ckpt_types.specs.declared.answers.Cause.{Cause}
use Rattle.ckpt_types.specs.declared.answers.Outcome.{Outcome}
use Rattle.ckpt_types.specs.declared.answers.Outcome.TheVariants.{Done, Refused}
use Rattle.ckpt_types.specs.declared.attributes.CreationAttributes.{CreationAttributes}
use Rattle.ckpt_types.specs.declared.identities.ActorName.{ActorName}
use Rattle.ckpt_types.specs.declared.identities.Who.{Who}
use Rattle.ckpt_types.specs.declared.open_flags.OpenFlags.{OpenFlags}
use Rattle.ckpt_types.specs.declared.operation.Op.{Op}
use Rattle.ckpt_types.specs.declared.operation.Op.TheVariants as ops
use Rattle.ckpt_types.specs.declared.sections.Choice.{Choice}
use Rattle.ckpt_types.specs.declared.update.Update.{Update}
use Rattle.ckpt_types.specs.Asks as asks
use Rattle.ckpt_types.specs.Asks.{Ask, asked, is_async_ask}
use Rattle.ckpt_types.specs.Attributes.{open_flags_of}
use Rattle.ckpt_types.specs.Reads.{NextGiven}
use Rattle.section_iter.specs.declared.room.Room.{Room}
use Rattle.node_msgs.specs.declared.details.Details.{Details}
use Rattle.node_msgs.specs.declared.steps.StepReply.{StepReply}
use Rattle.node_msgs.specs.declared.steps.StepReply.TheVariants as words
use Rattle.node_msgs.specs.declared.steps.Verb.{Verb}
use Rattle.node_msgs.specs.declared.steps.Verb.TheVariants as verbs
use Rattle.call_dispatch.specs.PendingCalls.{PendingCalls, no_pending}
use Rattle.client_handles.specs.ClientState.{ClientState, handle_at, handle_number, next_handle, taken}
use Rattle.client_handles.specs.declared.handle_view.HandleView.{HandleView}
use Rattle.cluster_record.specs.Calls.{same_actor, client_of, put_actor}
use Rattle.cluster_record.specs.Makings.{making_of}
use Rattle.cluster_record.specs.RecordState.{RecordState, entered, finished, opened, active_set}
use Rattle.ckpt_machine.specs.After.{changed, change_replica, record_step, on_ok, at_some, without_making, goes_with, left_over}
use Rattle.ckpt_machine.specs.Due.{Told}
use Rattle.ckpt_machine.specs.ActiveGuards.{PullRow}
use Rattle.ckpt_machine.specs.CopyGuards.{CopyPullRow, CopyReserveRow}
use Rattle.ckpt_machine.specs.Guards.{AsksOpen, AsksToOpen, AsksUpdate, Row}
use Rattle.ckpt_machine.specs.LookGuards.{LookRow, LookDone, LookRefused}
use Rattle.ckpt_machine.specs.Machine.{Machine, ReplicaState, CallState}
use Rattle.ckpt_machine.specs.OpenGuards.{ReserveRow}
use Rattle.ckpt_machine.specs.Tables.{tables_given, tables_done, flags_or_none, started, gone_on, closing, handle_closed}
use Rattle.ckpt_machine.specs.UpdateGuards.{ClaimRow, CommitRow, StageRow, WithdrawRow}
use Rattle.ckpt_machine.specs.Whose.{is_of}
use Rattle.ckpt_machine.proofs.ByActor.{put_actor-here, put_actor-other, put_actor-same}
use Rattle.ckpt_machine.proofs.KeptLists.{found_front}
use Rattle.ckpt_machine.proofs.Refusing.{at_node, at_node_alone, row_at_ckpt}

-- ---- what is asked

-- neither the end of a handle nor that of a client
abbrev pub AsksOther : Ask → Type 0
AsksOther (asks.Close place) = ⊥
AsksOther asks.Leave = ⊥
AsksOther ask = Unit {0}

asks_other : (ask : Ask) → AsksOther ask ⊎ (AsksOther ask → ⊥)
asks_other (asks.Close place) = inr (λ other. other)
asks_other asks.Leave = inr (λ other. other)
asks_other ask = inl tt

-- the step is neither a close nor a leave, nor a look, by which a handle may be closed
abbrev IsOther : Verb → Type 0
IsOther verbs.Close = ⊥
IsOther verbs.Leave = ⊥
IsOther verbs.Look = ⊥
IsOther verb = Unit {0}

-- the operation is this close, or a Finalize
close_asked : (op : Op) (place : ℕ) → asked op ≡ asks.Close place → op ≡ ops.Close place
close_asked (ops.Close other) place is = ap ops.Close (let same : other ≡ place = cc is in same)
close_asked op place is = absurd (cc is)

leave_asked : (op : Op) → asked op ≡ asks.Leave → op ≡ ops.Finalize
leave_asked ops.Finalize is = refl
leave_asked op is = absurd (cc is)

-- ---- a place that stands for a handle

-- it stands for the same one then
abbrev pub StandsStill : ClientState → ClientState → Type 0
StandsStill t u = (place : ℕ) (h : HandleView) → handle_at place t ≡ Some h → handle_at place u ≡ Some h

stands_as_it_is : (t : ClientState) → StandsStill t t
stands_as_it_is t place h at = at

-- where it has one handle more
stands_taken : (k : ℕ) (flags : OpenFlags) (creation_flags : ℕ) (t : ClientState) → StandsStill t (taken k flags creation_flags t)
stands_taken k flags creation_flags t place h at = found_front _ t.handles (next_handle k flags creation_flags t ∷ []) h at

-- what a step of the record makes of the tables of a client whose call is asynchronous, unless it takes all
stands_done : (R : RecordState) (ask : Ask) → is_async_ask ask ≡ true → (verb : Verb) → IsOther verb → (k : Option ℕ) (t : ClientState) → StandsStill t (tables_done R ask verb k t)
stands_done R (asks.Open place name flags None a) async verb other k t = by_verb verb other k
  where
    given : (k : Option ℕ) → StandsStill t (tables_given R (asks.Open place name flags None a) k t)
    given None = stands_as_it_is t
    given (Some k) = stands_taken k (flags_or_none (open_flags_of flags)) _ t

    by_verb : (verb : Verb) → IsOther verb → (k : Option ℕ) → StandsStill t (tables_done R (asks.Open place name flags None a) verb k t)
    by_verb verbs.Open other k = given k
    by_verb verbs.Finish other k = given k
    by_verb verbs.Leave other k = absurd other
    by_verb verb other k = stands_as_it_is t
stands_done R (asks.Synchronize place None) async verb other k t = by_verb verb other k
  where
    given : (k : Option ℕ) → StandsStill t (tables_given R (asks.Synchronize place None) k t)
    given None = stands_as_it_is t
    given (Some k) = stands_as_it_is t

    by_verb : (verb : Verb) → IsOther verb → (k : Option ℕ) → StandsStill t (tables_done R (asks.Synchronize place None) verb k t)
    by_verb verbs.Open other k = given k
    by_verb verbs.Finish other k = given k
    by_verb verbs.Leave other k = absurd other
    by_verb verb other k = stands_as_it_is t
stands_done R ask async verb other k t = absurd (cc async)

-- no asynchronous call starts an iteration, or goes on with one
stands_started : (ask : Ask) → is_async_ask ask ≡ true → (room : Room) (chosen_by : Choice → List (List ℕ)) (t : ClientState) → StandsStill t (started ask room chosen_by t)
stands_started (asks.Iterate iteration place chosen time) async room chosen_by t = absurd (cc async)
stands_started ask async room chosen_by t = stands_as_it_is t

stands_gone_on : (ask : Ask) → is_async_ask ask ≡ true → (next : Option NextGiven) (t : ClientState) → StandsStill t (gone_on ask next t)
stands_gone_on (asks.Next iteration) async next t = absurd (cc async)
stands_gone_on ask async next t = stands_as_it_is t

-- ---- a step

module _ (m : Machine) (s : CallState) where
  abbrev a : ActorName
  a = s.call.actor

  -- what other clients keep stays
  abbrev pub KeepsOthers : (ActorName → ClientState) → Type 0
  KeepsOthers tables = (b : ActorName) → same_actor b a ≡ false → tables b ≡ m.tables b

  -- so do the calls that are not dispatched; and where the call is asynchronous, each place of its client that stands for a handle stands for it still
  pub record AreLeft (pending : ActorName → PendingCalls) (tables : ActorName → ClientState) : Type 0 where
    pub same : pending ≡ m.pending
    pub others : KeepsOthers tables
    pub own : is_async_ask (asked s.op) ≡ true → StandsStill (m.tables a) (tables a)

  abbrev Stays : Machine → Type 0
  Stays n = AreLeft n.pending n.tables

  stays : AreLeft m.pending m.tables
  stays = record { same = refl; others = λ b other. refl; own = λ async. stands_as_it_is (m.tables a) }

  -- where the tables of its client change
  own_change : (change : ClientState → ClientState) → (is_async_ask (asked s.op) ≡ true → StandsStill (m.tables a) (change (m.tables a))) → AreLeft m.pending (put_actor m.tables a (change (m.tables a)))
  own_change change own = record {
    same = refl;
    others = λ b other. put_actor-other m.tables a (change (m.tables a)) b other;
    own = λ async. subst (StandsStill (m.tables a)) (sym (put_actor-here m.tables a (change (m.tables a)))) (own async);
  }

  -- by a step of the record
  recorded : (R : RecordState) (verb : Verb) → IsOther verb → (k : Option ℕ) → AreLeft m.pending (put_actor m.tables a (tables_done R (asked s.op) verb k (m.tables a)))
  recorded R verb other k = own_change (tables_done R (asked s.op) verb k) (λ async. stands_done R (asked s.op) async verb other k (m.tables a))

  where_ok : (reply : StepReply) (n : Machine) → Stays n → Stays (on_ok reply m n)
  where_ok words.Ok n then = then
  where_ok reply n then = stays

  where_some : (o : Option ℕ) (f : ℕ → Machine) → ((k : ℕ) → Stays (f k)) → Stays (at_some o m f)
  where_some None f then = stays
  where_some (Some k) f then = then k

  at_replica : (n : Machine) (k r : ℕ) (o : Option ReplicaState) (change : ReplicaState → ReplicaState) → Stays n → Stays (change_replica n k r o change)
  at_replica n k r None change then = then
  at_replica n k r (Some x) change then = then

  at_one : (reply : StepReply) (k r : Option ℕ) (change : ℕ → ℕ → ReplicaState → ReplicaState) → Stays (on_ok reply m (at_some k m (λ k. at_some r m (λ r. change_replica m k r (m.replicas k r) (change k r)))))
  at_one reply k r change = where_ok reply _ (where_some k _ (λ k. where_some r _ (λ r. at_replica m k r (m.replicas k r) (change k r) stays)))

  at_entry : (reply : StepReply) (k : Option ℕ) (f : ℕ → Machine) → ((k : ℕ) → Stays (f k)) → Stays (on_ok reply m (at_some k m f))
  at_entry reply k f then = where_ok reply _ (where_some k f then)

  unmade : (k : Option ℕ) → Stays (without_making k m)
  unmade None = stays
  unmade (Some k) = stays

  -- by any other step all of it is left
  other_stays : (verb : Verb) → IsOther verb → (k r : Option ℕ) (reply : StepReply) → Stays (changed m s verb k r reply)
  other_stays verbs.Enter other k r reply = where_ok reply _ (where_some r _ (λ r. recorded (record_step (entered (client_of s.call) r s.call.number) m).cluster verbs.Enter tt k))
  other_stays verbs.Leave other k r reply = absurd other
  other_stays verbs.Create other k r reply = where_ok reply _ stays
  other_stays verbs.Reserve other k r reply = at_entry reply k _ (λ k. where_some r _ (λ r. stays))
  other_stays verbs.Finish other k r reply = at_entry reply k _ (λ k. recorded (record_step (finished k (client_of s.call)) m).cluster verbs.Open tt (Some k))
  other_stays verbs.Undo other k r reply = at_entry reply k _ (λ k. stays)
  other_stays verbs.Open other k r reply = at_entry reply k _ (λ k. recorded (record_step (opened k (client_of s.call)) m).cluster verbs.Open tt (Some k))
  other_stays verbs.Close other k r reply = absurd other
  other_stays verbs.Unlink other k r reply = at_entry reply k _ (λ k. stays)
  other_stays verbs.Retain other k r reply = at_entry reply k _ (λ k. stays)
  other_stays verbs.Stage other k r reply = at_one reply k r _
  other_stays verbs.Claim other k r reply = at_one reply k r _
  other_stays verbs.Withdraw other k r reply = at_one reply k r _
  other_stays verbs.Commit other k r reply = at_one reply k r _
  other_stays verbs.Apply other k r reply = at_one reply k r _
  other_stays verbs.Mark other k r reply = at_one reply k r _
  other_stays verbs.Element other k r reply = at_one reply k r _
  other_stays verbs.Unmark other k r reply = at_one reply k r _
  other_stays verbs.Install other k r reply = at_one reply k r _
  other_stays verbs.Iter other k r reply = at_entry reply k _ (λ k. where_some r _ (λ r. own_change (started (asked s.op) s.kept.room _) (λ async. stands_started (asked s.op) async s.kept.room _ (m.tables a))))
  other_stays verbs.Next other k r reply = at_entry reply k _ (λ k. where_some r _ (λ r. own_change (gone_on (asked s.op) _) (λ async. stands_gone_on (asked s.op) async _ (m.tables a))))
  other_stays verbs.Hold other k r reply = at_entry reply k _ (λ k. stays)
  other_stays verbs.Activate other k r reply = at_entry reply k _ (λ k. where_some r _ (λ r. at_replica (record_step (active_set k r) m) k r ((record_step (active_set k r) m).replicas k r) _ stays))
  other_stays verbs.Complete other k r reply = at_entry reply k _ (λ k. where_some r _ (λ r. stays))
  other_stays verbs.Look other k r reply = absurd other
  other_stays verb other k r reply = stays

  -- ---- by its row

  -- a call that takes any other step asks neither for the end of a handle nor for that of its client
  module _ (not_other : AsksOther (asked s.op) → ⊥) where
    asks_none : (ask : Ask) → asked s.op ≡ ask → AsksOther ask → ⊥
    asks_none ask is other = not_other (subst AsksOther (sym is) other)

    asks_no_open : (name : List ℕ) (attributes : Option CreationAttributes) → AsksToOpen s name attributes → ⊥
    asks_no_open name attributes is = asks_none (asks.Open is.place name is.flags is.timeout attributes) is.asks tt

    asks_no_update : (P : Update → (Bool → Bool) → Type 0) → AsksUpdate m s P → ⊥
    asks_no_update P (inl p) = asks_none _ p.2 tt
    asks_no_update P (inr p) = asks_none _ p.0 tt

    reserve_asks : (k r : ℕ) (reply : StepReply) (end : Option Outcome) → AsksOpen s (λ name a. ReserveRow m s k r reply end) ⊎ ((asked s.op ≡ asks.Copy) × CopyReserveRow m s k r reply end) → ⊥
    reserve_asks k r reply end (inl p) = asks_no_open p.0 p.1 p.2
    reserve_asks k r reply end (inr p) = asks_none _ p.0 tt

    pull_asks : (k r : ℕ) (t : Told) → ((place : ℕ) × (timeout : Option ℤ) × (asked s.op ≡ asks.Synchronize place timeout) × PullRow m s k r t t.reply) ⊎ ((asked s.op ≡ asks.Copy) × CopyPullRow m s k r t t.reply) → ⊥
    pull_asks k r t (inl p) = asks_none _ p.2 tt
    pull_asks k r t (inr p) = asks_none _ p.0 tt

    other_asks : (verb : Verb) (t : Told) → IsOther verb → Row m s verb t → ⊥
    other_asks verbs.Enter t other row = at_node_alone t.ckpt t.node _ row.0 (λ r p. asks_none _ p.2 tt)
    other_asks verbs.Leave t other row = other
    other_asks verbs.Open t other row = row_at_ckpt t.ckpt t.node _ row.0 (λ k p. asks_no_open p.0 p.1 p.2)
    other_asks verbs.Create t other row = row_at_ckpt t.ckpt t.node _ row.0 (λ k p. asks_no_open p.0 p.1 p.2)
    other_asks verbs.Reserve t other row = at_node t.ckpt t.node _ row.0 (λ k r p. reserve_asks k r t.reply t.end p)
    other_asks verbs.Finish t other row = row_at_ckpt t.ckpt t.node _ row.0 (λ k p. asks_no_open p.0 p.1 p.2)
    other_asks verbs.Undo t other row = row_at_ckpt t.ckpt t.node _ row.0 (λ k p. asks_no_open p.0 p.1 p.2)
    other_asks verbs.Close t other row = other
    other_asks verbs.Unlink t other row = row_at_ckpt t.ckpt t.node _ row.0 (λ k p. asks_none _ p.1 tt)
    other_asks verbs.Retain t other row = row_at_ckpt t.ckpt t.node _ row.0 (λ k p. asks_none _ p.2 tt)
    other_asks verbs.Stage t other row = at_node t.ckpt t.node _ row.0 (λ k r p. asks_no_update (λ update ends. StageRow m s update k r t.reply t.end) p)
    other_asks verbs.Claim t other row = at_node t.ckpt t.node _ row.0 (λ k r p. asks_no_update (λ update ends. ClaimRow m s k r t.reply t.end) p)
    other_asks verbs.Withdraw t other row = at_node t.ckpt t.node _ row.0 (λ k r p. asks_no_update (λ update ends. WithdrawRow m s k r t.reply t.end) p)
    other_asks verbs.Commit t other row = at_node t.ckpt t.node _ row (λ k r p. asks_no_update (λ update ends. CommitRow m s.call update ends k r t.reply t.end t.details) p)
    other_asks verbs.Apply t other row = at_node t.ckpt t.node _ row (λ k r p. asks_none _ p.2 tt)
    other_asks verbs.Mark t other row = at_node t.ckpt t.node _ row (λ k r p. asks_none _ p.2 tt)
    other_asks verbs.Element t other row = at_node t.ckpt t.node _ row (λ k r p. asks_none _ p.2 tt)
    other_asks verbs.Unmark t other row = at_node t.ckpt t.node _ row (λ k r p. asks_none _ p.2 tt)
    other_asks verbs.Read t other row = at_node t.ckpt t.node _ row (λ k r p. asks_none _ p.2 tt)
    other_asks verbs.Status t other row = at_node t.ckpt t.node _ row (λ k r p. asks_none _ p.1 tt)
    other_asks verbs.Iter t other row = at_node t.ckpt t.node _ row.0 (λ k r p. asks_none _ p.4 tt)
    other_asks verbs.Next t other row = at_node t.ckpt t.node _ row (λ k r p. asks_none _ p.1 tt)
    other_asks verbs.Pull t other row = at_node t.ckpt t.node _ row.0 (λ k r p. pull_asks k r t p)
    other_asks verbs.Install t other row = at_node t.ckpt t.node _ row.0 (λ k r p. asks_none _ p.2 tt)
    other_asks verbs.Hold t other row = at_node t.ckpt t.node _ row.0 (λ k r p. asks_none _ p.1 tt)
    other_asks verbs.Activate t other row = at_node t.ckpt t.node _ row.0 (λ k r p. asks_none _ p.1 tt)
    other_asks verbs.Complete t other row = at_node t.ckpt t.node _ row.0 (λ k r p. asks_none _ p.0 tt)
    other_asks verbs.Look t other row = other

  -- the number of the handle for which a place of its client stands
  abbrev pub number_at : ℕ → Option ℕ
  number_at place = option_map handle_number (handle_at place (m.tables a))

  -- the calls in hand, and those that are not dispatched, without what goes with a handle
  abbrev pub hands_without : Option ℕ → Who → Option CallState
  hands_without handle = λ w. cond (goes_with handle a (m.pending a) w) None (m.in_hand w)

  abbrev pub pending_without : Option ℕ → ActorName → PendingCalls
  pending_without handle = put_actor m.pending a (left_over handle (m.pending a))

  -- WHAT A STEP LEAVES of the calls in hand and of what clients keep: all; or it closes a handle, or lets its client leave, and ends its call with OK
  pub data StepLeaves (in_hand : Who → Option CallState) (pending : ActorName → PendingCalls) (tables : ActorName → ClientState) (end : Option Outcome) : Type 0 where
    leaves_all : AsksOther (asked s.op) → AreLeft pending tables → StepLeaves in_hand pending tables end
    closes : (place : ℕ) → s.op ≡ ops.Close place → in_hand ≡ hands_without (number_at place) → pending ≡ pending_without (number_at place) → KeepsOthers tables → end ≡ Some (Done answers.Nothing) → StepLeaves in_hand pending tables end
    lets_leave : s.op ≡ ops.Finalize → (in_hand ≡ λ w. cond (is_of a w) None (m.in_hand w)) → pending ≡ put_actor m.pending a no_pending → KeepsOthers tables → end ≡ Some (Done answers.Nothing) → StepLeaves in_hand pending tables end

  abbrev pub Leaves : Verb → Option ℕ → Option ℕ → StepReply → Option Outcome → Type 0
  Leaves verb k r reply end = let n = changed m s verb k r reply in StepLeaves n.in_hand n.pending n.tables end

  -- what is left where a call closes the handle that it asks for, if it does
  abbrev tables_closed : Ask → ActorName → ClientState
  tables_closed ask = put_actor m.tables a (closing ask (m.tables a))

  abbrev Closed : Option Outcome → Type 0
  Closed end = let handle = handle_closed (asked s.op) (m.tables a) in StepLeaves (hands_without handle) (pending_without handle) (tables_closed (asked s.op)) end

  -- it closes one
  closed : (place : ℕ) → asked s.op ≡ asks.Close place → (end : Option Outcome) → end ≡ Some (Done answers.Nothing) → Closed end
  closed place is end ends =
      let handle_is : handle_closed (asked s.op) (m.tables a) ≡ number_at place = ap (λ ask. handle_closed ask (m.tables a)) is in
      closes place (close_asked s.op place is) (ap hands_without handle_is) (ap pending_without handle_is) (λ b other. put_actor-other m.tables a (closing (asked s.op) (m.tables a)) b other) ends

  -- it closes none
  none_closed : (ask : Ask) → asked s.op ≡ ask → AsksOther ask → handle_closed ask (m.tables a) ≡ None → closing ask (m.tables a) ≡ m.tables a → (end : Option Outcome) → Closed end
  none_closed ask is other none same end = leaves_all (subst AsksOther (sym is) other) (subst (λ (ask : Ask). AreLeft (pending_without (handle_closed ask (m.tables a))) (tables_closed ask)) (sym is) left)
    where
      pending_same : pending_without (handle_closed ask (m.tables a)) ≡ m.pending
      pending_same = ap pending_without none ∙ (λ i b. put_actor-same m.pending a (m.pending a) refl b i)

      tables_same : tables_closed ask ≡ m.tables
      tables_same = λ i b. put_actor-same m.tables a (closing ask (m.tables a)) same b i

      left : AreLeft (pending_without (handle_closed ask (m.tables a))) (tables_closed ask)
      left = subst (λ p. AreLeft p (tables_closed ask)) (sym pending_same) (subst (AreLeft m.pending) (sym tables_same) stays)

  left_by : (k r : Option ℕ) (reply : StepReply) (end : Option Outcome) (details : Details) → Row m s verbs.Leave (record { verb = verbs.Leave; ckpt = k; node = r; reply = reply; end = end; details = details }) → Leaves verbs.Leave k r reply end
  left_by None None words.Ok end details row = lets_leave (leave_asked s.op row.0.0) refl refl (λ b other. put_actor-other m.tables a _ b other) row.0.1.1
  left_by None None reply end details row = absurd row.0.1
  left_by None (Some r) reply end details row = absurd row.0
  left_by (Some k) r reply end details row = absurd row.0

  closed_by : (k r : Option ℕ) (reply : StepReply) (end : Option Outcome) (details : Details) → Row m s verbs.Close (record { verb = verbs.Close; ckpt = k; node = r; reply = reply; end = end; details = details }) → Leaves verbs.Close k r reply end
  closed_by (Some k) None words.Ok end details row = closed row.0.0 row.0.1 end row.0.2.2
  closed_by (Some k) None reply end details row = absurd row.0.2
  closed_by (Some k) (Some r) reply end details row = absurd row.0
  closed_by None r reply end details row = absurd row.0

  -- a look with which nothing is left to do closes a handle, where its call asks for that, and else nothing
  looked_done : (answer : Answer) → LookDone m s (asked s.op) answer → Leaves verbs.Look None None words.Done (Some (Done answer))
  looked_done answer done = by_ask (asked s.op) refl answer done
    where
      by_ask : (ask : Ask) → asked s.op ≡ ask → (answer : Answer) → LookDone m s ask answer → Closed (Some (Done answer))
      by_ask (asks.Close place) is answers.Nothing done = closed place is (Some (Done answers.Nothing)) refl
      by_ask (asks.Synchronize place timeout) is answer done = none_closed (asks.Synchronize place timeout) is tt refl refl (Some (Done answer))
      by_ask (asks.Change place update) is answer done = none_closed (asks.Change place update) is tt refl refl (Some (Done answer))
      by_ask asks.Copy is answer done = none_closed asks.Copy is tt refl refl (Some (Done answer))
      by_ask ask is answer done = absurd done

  -- and one that refuses its call is of neither
  looked_refused : (error : AisError) (cause : Cause) → LookRefused m s (asked s.op) error cause → AsksOther (asked s.op)
  looked_refused error cause refused = by_ask (asked s.op) error cause refused
    where
      by_ask : (ask : Ask) (error : AisError) (cause : Cause) → LookRefused m s ask error cause → AsksOther ask
      by_ask (asks.Close place) error cause refused = refused
      by_ask asks.Leave error cause refused = refused
      by_ask ask error cause refused = tt

  looked_by : (k r : Option ℕ) (reply : StepReply) (end : Option Outcome) → LookRow m s reply end → Leaves verbs.Look k r reply end
  looked_by k r words.Done (Some (Done answer)) row = looked_done answer row
  looked_by k r words.Refused (Some (Refused error cause)) row = leaves_all (looked_refused error cause row) (unmade (making_of s.call m.cluster))
  looked_by k r reply end row = absurd row

  pub step_leaves : (verb : Verb) (k r : Option ℕ) (reply : StepReply) (end : Option Outcome) (details : Details) → Row m s verb (record { verb = verb; ckpt = k; node = r; reply = reply; end = end; details = details }) → Leaves verb k r reply end
  step_leaves verbs.Leave k r reply end details row = left_by k r reply end details row
  step_leaves verbs.Close k r reply end details row = closed_by k r reply end details row
  step_leaves verbs.Look k r reply end details row = looked_by k r reply end row.2
  step_leaves verb k r reply end details row = by_ask tt (asks_other (asked s.op))
    where
      t : Told
      t = record { verb = verb; ckpt = k; node = r; reply = reply; end = end; details = details }

      by_ask : IsOther verb → AsksOther (asked s.op) ⊎ (AsksOther (asked s.op) → ⊥) → Leaves verb k r reply end
      by_ask other (inl asks) = leaves_all asks (other_stays verb other k r reply)
      by_ask other (inr not) = absurd (other_asks not verb t other row)
