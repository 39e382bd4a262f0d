-- A refusal leaves the record, the replicas, and the tables as they were.
use Rattle.node_msgs.specs.declared.details.Details.{Details}
use Rattle.ckpt_types.specs.Reads.{NextGiven, given}
use Rattle.cluster_record.specs.Calls.{left}
use Rattle.ckpt_machine.specs.Driving.{Kept, refused_cause}
use Rattle.cluster_record.specs.Makings.{making_of}
use Rattle.std.proofs.Common.{◌≡◌, ◌⊎◌, inl, inr, ℕ, List, length, Option, Some, None, Bool, true, false, cond, ◌&&◌, refl, sym, ap, subst, ◌∙◌, IsSomeAnd}
use Rattle.ckpt_types.specs.declared.ais_error.AisError.{AisError}
use Rattle.ckpt_types.specs.declared.ais_error.AisError.TheVariants.{TryAgain}
use Rattle.ckpt_types.specs.declared.answers.Answer.{Answer}
use Rattle.ckpt_types.specs.declared.answers.Answer.TheVariants as answers
use Rattle.ckpt_types.specs.declared.answers.Cause.{Cause}
use Rattle.ckpt_types.specs.declared.answers.Cause.TheVariants.{Holder}
use Rattle.ckpt_types.specs.declared.answers.Outcome.{Outcome}
use Rattle.ckpt_types.specs.declared.answers.Outcome.TheVariants.{Done, Refused, NoMemory}
use Rattle.ckpt_types.specs.declared.attributes.CreationAttributes.{CreationAttributes}
use Rattle.ckpt_types.specs.declared.update.Update.{Update}
use Rattle.ckpt_types.specs.declared.update.Update.TheVariants as updates
use Rattle.node_msgs.specs.declared.steps.Verb.{Verb}
use Rattle.node_msgs.specs.declared.steps.Verb.TheVariants as verbs
use Rattle.node_msgs.specs.declared.steps.StepReply.{StepReply}
use Rattle.node_msgs.specs.declared.steps.StepReply.TheVariants as words
use Rattle.ckpt_types.specs.declared.operation.Op.{Op}
use Rattle.ckpt_types.specs.declared.identities.CallId.{CallId}
use Rattle.ckpt_types.specs.declared.words.OpWord.{OpWord}
use Rattle.run_labels.specs.declared.labels.Label.{Label}
use Rattle.run_labels.specs.declared.labels.Label.TheVariants as labels
use Rattle.client_handles.specs.ClientState.{ClientState}
use Rattle.cluster_record.specs.declared.entries.Entry.{Entry}
use Rattle.cluster_record.specs.Joining.{completed}
use Rattle.cluster_record.specs.RecordState.{RecordState, entry_of, swept}
use Rattle.ckpt_types.specs.Asks.{Ask, asked}
use Rattle.ckpt_types.specs.Asks as asks
use Rattle.node_core.specs.Serving.{update_answer}
use Rattle.ckpt_machine.specs.Machine.{Machine, ReplicaState, CallState, who}
use Rattle.ckpt_machine.specs.After.{changed, call_begun, pending_begun, handle_opened, with_pending, stepped, step_of, after, without_making, kept_behind}
use Rattle.ckpt_machine.specs.Due.{asked_handle, ids_asked, Told}
use Rattle.ckpt_machine.specs.Tables.{ended_at_once}
use Rattle.ckpt_machine.specs.Complete.{complete_replicas}
use Rattle.ckpt_machine.specs.Options.{is_weak, is_by_element}
use Rattle.cluster_record.specs.Placement.{is_all}
use Rattle.cluster_record.specs.StepDone.{StepDone}
use Rattle.ckpt_machine.specs.CopyGuards.{CompleteOk, CopyReserveRow, completion_end, copies_to, lacks_none}
use Rattle.ckpt_machine.specs.Guards.{AtCkpt, AtNode, AtNodeAlone, AtNone, Row, Allowed, AsksOpen, AsksToOpen, AsksUpdate}
use Rattle.ckpt_machine.specs.LookGuards.{LookRow}
use Rattle.ckpt_machine.specs.OpenGuards.{ReserveRow, UndoRow}
use Rattle.ckpt_machine.specs.ActiveGuards.{HoldOk, ActivateOk, ActiveRefused, ActiveHeld, BeginsOnActive, ApplyOk, MarkOk, IterOk, NextOk, NextAnswer, InstallOk, steps_with, all_served, unless_unserved}
use Rattle.ckpt_machine.specs.UpdateGuards.{StageRow, ClaimOk, ClaimRow, CommitOk, CommitRow, WithdrawOk, WithdrawRow, ends_update}
use Rattle.ckpt_machine.specs.GuardTerms.{OnReplica, OnAll, OnActive}
use Rattle.ckpt_machine.specs.Refusals.{IsRefused, IsRefusal, LeavesAll, UndoesOwn, LeavesBy, end_kept, unmade_swept}
use Rattle.std.specs.Prelude.{if◌then◌else◌}
use Rattle.call_dispatch.specs.PendingCalls.{PendingCalls, ended_in}
use Rattle.client_handles.specs.declared.handle_view.HandleView.{HandleView}
use Rattle.ckpt_types.specs.OpWord.{word_of_op, is_async, stepped_as}
use Rattle.ckpt_machine.proofs.Whose.{put_who-other, put_who-here}
use Rattle.ckpt_machine.proofs.ByActor.{put_actor-same}

-- ---- what is not so

pub row_at_ckpt : (k r : Option ℕ) (P : ℕ → Type 0) → AtCkpt k r P → ((k : ℕ) → P k → ⊥) → ⊥
row_at_ckpt (Some k) None P p not_so = not_so k p
row_at_ckpt (Some k) (Some r) P p not_so = p
row_at_ckpt None r P p not_so = p

pub at_node : (k r : Option ℕ) (P : ℕ → ℕ → Type 0) → AtNode k r P → ((k r : ℕ) → P k r → ⊥) → ⊥
at_node (Some k) (Some r) P p not_so = not_so k r p
at_node (Some k) None P p not_so = p
at_node None r P p not_so = p

pub at_none : (k r : Option ℕ) (P : Type 0) → AtNone k r P → (P → ⊥) → ⊥
at_none None None P p not_so = not_so p
at_none None (Some r) P p not_so = p
at_none (Some k) r P p not_so = p

pub at_node_alone : (k r : Option ℕ) (P : ℕ → Type 0) → AtNodeAlone k r P → ((r : ℕ) → P r → ⊥) → ⊥
at_node_alone None (Some r) P p not_so = not_so r p
at_node_alone None None P p not_so = p
at_node_alone (Some k) r P p not_so = p

pub none_of_some : {X : Type 0} (o : Option X) (P : X → Type 0) → IsSomeAnd o P → ((x : X) → P x → ⊥) → ⊥
none_of_some (Some x) P p not_so = not_so x p
none_of_some None P p not_so = absurd p

pub on_replica : (m : Machine) (k r : ℕ) (P : Entry → ReplicaState → Type 0) → OnReplica m k r P → ((e : Entry) (x : ReplicaState) → P e x → ⊥) → ⊥
on_replica m k r P p not_so = none_of_some (entry_of k m.cluster.entries) (λ e. IsSomeAnd (m.replicas k r) (P e)) p (λ e p. none_of_some (m.replicas k r) (P e) p (λ x p. not_so e x p))

pub on_all : (m : Machine) (k r : ℕ) (P : Entry → ReplicaState → Type 0) → OnAll m k r P → ((e : Entry) (x : ReplicaState) → P e x → ⊥) → ⊥
on_all m k r P p not_so = on_replica m k r (λ e x. (is_all e.attributes ≡ true) × P e x) p (λ e x p. not_so e x p.1)

pub on_active_replica : (m : Machine) (update : Update) (by_element : Bool) (k r : ℕ) (P : Entry → ReplicaState → Type 0) → OnActive m update by_element k r P → ((e : Entry) (x : ReplicaState) → P e x → ⊥) → ⊥
on_active_replica m update by_element k r P p not_so = on_replica m k r (λ e x. (is_all e.attributes ≡ false) × (e.active ≡ Some r) × (e.hold ≡ None) × (is_by_element (is_weak e.attributes) update ≡ by_element) × P e x) p (λ e x p. not_so e x p.4)

-- an update that begins on the active goes ahead, or ends its call with a refusal
pub begins_on_active : (m : Machine) (s : CallState) (update : Update) (by_element : Bool) (k r : ℕ) (t : Told) (Ahead : Entry → ReplicaState → Type 0) (reply : StepReply) → BeginsOnActive m s update by_element k r t Ahead reply
    → (reply ≡ words.Ok → (e : Entry) (x : ReplicaState) → Ahead e x → ⊥) → ((error : AisError) (cause : Cause) → t.end ≡ Some (Refused error cause) → ⊥) → ⊥
begins_on_active m s update by_element k r t Ahead words.Ok row ahead refused = on_active_replica m update by_element k r Ahead row (ahead refl)
begins_on_active m s update by_element k r t Ahead words.Refused row ahead refused = on_active_replica m update by_element k r (ActiveRefused m s update t) row (λ e x (by : ActiveRefused m s update t e x). refused by.why.error (refused_cause s.op by.why.index) by.answer)
begins_on_active m s update by_element k r t Ahead (words.Held by) row ahead refused = on_active_replica m update by_element k r (λ e x. ActiveHeld m s.call by t x) row (λ e x (held : ActiveHeld m s.call by t x). refused TryAgain (Holder by) held.answer)
begins_on_active m s update by_element k r t Ahead reply row ahead refused = absurd row

-- an update that is asked for, or the one of a copying
pub by_update : {C : Type 0} (m : Machine) (s : CallState) (P : Update → (Bool → Bool) → Type 0) → AsksUpdate m s P → ((update : Update) (ends : Bool → Bool) → P update ends → C) → C
by_update m s P (inl p) what = what p.1 (λ last. last) p.3
by_update m s P (inr p) what = what updates.Nothing (λ last. last && lacks_none m.cluster (copies_to s)) p.1

-- ---- an end that is no refusal

no_refusal_done : (end : Option Outcome) (answer : Answer) → end ≡ Some (Done answer) → IsRefused end → ⊥
no_refusal_done end answer is refused = subst IsRefused is refused

no_refusal_yet : (end : Option Outcome) → end ≡ None → IsRefused end → ⊥
no_refusal_yet end is refused = subst IsRefused is refused

pub no_refusal_committed : (b : Bool) (answer : Answer) (end : Option Outcome) → end ≡ cond b (Some (Done answer)) None → IsRefused end → ⊥
no_refusal_committed true answer end is refused = no_refusal_done end answer is refused
no_refusal_committed false answer end is refused = no_refusal_yet end is refused

-- a synchronisation that has served a node refuses nothing
pub no_refusal_unserved : (steps : List StepDone) (complete : List ℕ) (count : ℕ) (end : Option Outcome) → end ≡ unless_unserved steps complete count → IsRefused end → ⊥
no_refusal_unserved steps complete count end is refused = no_refusal_committed (all_served steps 0 complete) (answers.Pulled count) end is refused

-- a completion refuses nothing
pub no_refusal_completed : (R : RecordState) (r : ℕ) (all : Bool) (end : Option Outcome) → end ≡ completion_end R r all → IsRefused end → ⊥
no_refusal_completed R r true end is refused = no_refusal_yet end is refused
no_refusal_completed R r false end is refused = no_refusal_committed (lacks_none R r) answers.Nothing end is refused

-- no commit refuses
pub commit_ends : (m : Machine) (call : CallId) (update : Update) (ends : Bool → Bool) (k r : ℕ) (end : Option Outcome) (details : Details) → OnAll m k r (λ e x. CommitOk m call update ends k r end details x) → IsRefused end → ⊥
commit_ends m call update ends k r end details row refused = on_all m k r (λ e x. CommitOk m call update ends k r end details x) row (λ e x (ok : CommitOk m call update ends k r end details x). no_refusal_committed (ends (ends_update call r ok.slot (complete_replicas m k))) (update_answer update) end ok.answer refused)

-- nor does an update that is applied, or makes its marks
apply_ends : (m : Machine) (update : Update) (k r : ℕ) (t : Told) → OnActive m update false k r (ApplyOk m update t) → IsRefused t.end → ⊥
apply_ends m update k r t row refused = on_active_replica m update false k r (ApplyOk m update t) row (λ e x (ok : ApplyOk m update t e x). no_refusal_done t.end (update_answer update) ok.answer refused)

mark_ends : (m : Machine) (update : Update) (k r : ℕ) (t : Told) → OnActive m update true k r (MarkOk m update t) → IsRefused t.end → ⊥
mark_ends m update k r t row refused = on_active_replica m update true k r (MarkOk m update t) row (λ e x (ok : MarkOk m update t e x). no_refusal_yet t.end ok.answer refused)

given_next : (next : Option NextGiven) (end : Option Outcome) (details : Details) → NextAnswer next words.Ok end details → IsRefused end → ⊥
given_next (Some next) end details answer refused = no_refusal_done end answers.Section answer.0 refused
given_next None end details answer refused = answer

-- a look with nothing left to do
no_refusal_looked : (m : Machine) (s : CallState) (end : Option Outcome) → LookRow m s words.Done end → IsRefused end → ⊥
no_refusal_looked m s (Some (Done answer)) row refused = refused
no_refusal_looked m s (Some (Refused error cause)) row refused = row
no_refusal_looked m s (Some o) row refused = absurd row
no_refusal_looked m s None row refused = refused

-- the step undoes no making
abbrev UndoesNone : Verb → Type 0
UndoesNone verbs.Look = ⊥
UndoesNone verbs.Undo = ⊥
UndoesNone verb = Unit {0}

-- a step that ends its call with a refusal changes nothing, unless it undoes a making
changed_same : (m : Machine) (s : CallState) (verb : Verb) (k r : Option ℕ) (reply : StepReply) (end : Option Outcome) (details : Details)
    → Row m s verb (record { verb = verb; ckpt = k; node = r; reply = reply; end = end; details = details }) → IsRefused end → UndoesNone verb → changed m s verb k r reply ≡ m
changed_same m s verbs.Enter k r words.Ok end details row refused looks = absurd (at_node_alone k r _ row.0 (λ q p. no_refusal_done end answers.Version p.3.1 refused))
changed_same m s verbs.Enter k r reply end details row refused looks = refl
changed_same m s verbs.Open k r words.Ok end details row refused looks = absurd (row_at_ckpt k r _ row.0 (λ k p. no_refusal_done end (answers.Opened k) p.3.1 refused))
changed_same m s verbs.Open k r reply end details row refused looks = refl
changed_same m s verbs.Create k r words.Ok end details row refused looks = absurd (row_at_ckpt k r _ row.0 (λ k p. no_refusal_yet end p.3.1 refused))
changed_same m s verbs.Create k r reply end details row refused looks = refl
changed_same m s verbs.Reserve k r words.Ok end details row refused looks = absurd (at_node k r _ row.0 (λ k r p. reserved p)) where
  reserved : {k r : ℕ} → AsksOpen s (λ name a. ReserveRow m s k r words.Ok end) ⊎ ((asked s.op ≡ asks.Copy) × CopyReserveRow m s k r words.Ok end) → ⊥
  reserved (inl p) = no_refusal_yet end p.3.4 refused
  reserved (inr p) = no_refusal_yet end p.1.1 refused
changed_same m s verbs.Reserve k r reply end details row refused looks = refl
changed_same m s verbs.Finish k r words.Ok end details row refused looks = absurd (row_at_ckpt k r _ row.0 (λ k p. no_refusal_done end (answers.Opened k) p.3.3 refused))
changed_same m s verbs.Finish k r reply end details row refused looks = refl
changed_same m s verbs.Undo k r reply end details row refused looks = absurd looks
changed_same m s verbs.Stage k r words.Ok end details row refused looks = absurd (at_node k r _ row.0 (λ k r p. by_update m s (λ update ends. StageRow m s update k r words.Ok end) p (λ update ends row. no_refusal_yet end row.1 refused)))
changed_same m s verbs.Stage k r reply end details row refused looks = refl
changed_same m s verbs.Claim k r words.Ok end details row refused looks = absurd (at_node k r _ row.0 (λ k r p. by_update m s (λ update ends. ClaimRow m s k r words.Ok end) p (λ update ends row. on_all m k r (λ e x. ClaimOk m s.call end x) row (λ e x (ok : ClaimOk m s.call end x). no_refusal_yet end ok.answer refused))))
changed_same m s verbs.Claim k r reply end details row refused looks = refl
changed_same m s verbs.Withdraw k r words.Ok end details row refused looks = absurd (at_node k r _ row.0 (λ k r p. by_update m s (λ update ends. WithdrawRow m s k r words.Ok end) p (λ update ends row. on_all m k r (λ e x. WithdrawOk m s.call k end x) row (λ e x (ok : WithdrawOk m s.call k end x). no_refusal_yet end ok.answer refused))))
changed_same m s verbs.Withdraw k r reply end details row refused looks = refl
changed_same m s verbs.Commit k r words.Ok end details row refused looks = absurd (at_node k r _ row (λ k r p. by_update m s (λ update ends. CommitRow m s.call update ends k r words.Ok end details) p (λ update ends row. commit_ends m s.call update ends k r end details row refused)))
changed_same m s verbs.Commit k r reply end details row refused looks = refl
changed_same m s verbs.Apply k r words.Ok end details row refused looks =
    let t : Told = record { verb = verbs.Apply; ckpt = k; node = r; reply = words.Ok; end = end; details = details } in
    absurd (at_node k r _ row (λ k r p. apply_ends m p.1 k r t p.3 refused))
changed_same m s verbs.Apply k r reply end details row refused looks = refl
changed_same m s verbs.Mark k r words.Ok end details row refused looks =
    let t : Told = record { verb = verbs.Mark; ckpt = k; node = r; reply = words.Ok; end = end; details = details } in
    absurd (at_node k r _ row (λ k r p. mark_ends m p.1 k r t p.3 refused))
changed_same m s verbs.Mark k r reply end details row refused looks = refl
changed_same m s verbs.Element k r words.Ok end details row refused looks = absurd (at_node k r _ row (λ k r p. no_refusal_yet end p.3.1 refused))
changed_same m s verbs.Element k r reply end details row refused looks = refl
changed_same m s verbs.Unmark k r words.Ok end details row refused looks = absurd (at_node k r _ row (λ k r p. no_refusal_done end answers.Nothing p.3.1 refused))
changed_same m s verbs.Unmark k r reply end details row refused looks = refl
changed_same m s verbs.Read k r reply end details row refused looks = refl
changed_same m s verbs.Pull k r reply end details row refused looks = refl
changed_same m s verbs.Install k r words.Ok end details row refused looks =
    let t : Told = record { verb = verbs.Install; ckpt = k; node = r; reply = words.Ok; end = end; details = details } in
    absurd (at_node k r _ row.0 (λ k r p. on_replica m k r (InstallOk m s r t true) p.3 (λ e x (ok : InstallOk m s r t true e x). no_refusal_unserved (steps_with m s t) e.complete (length ok.pulled.effects) end ok.answer refused)))
changed_same m s verbs.Install k r reply end details row refused looks = refl
changed_same m s verbs.Hold k r words.Ok end details row refused looks = absurd (at_node k r _ row.0 (λ k r p. on_replica m k r (HoldOk s r end) p.2 (λ e x (ok : HoldOk s r end e x). no_refusal_yet end ok.answer refused)))
changed_same m s verbs.Hold k r reply end details row refused looks = refl
changed_same m s verbs.Activate k r words.Ok end details row refused looks = absurd (at_node k r _ row.0 (λ k r p. none_of_some (entry_of k m.cluster.entries) (ActivateOk s r end) p.2 (λ e (ok : ActivateOk s r end e). no_refusal_done end answers.Nothing ok.answer refused)))
changed_same m s verbs.Activate k r reply end details row refused looks = refl
changed_same m s verbs.Status k r reply end details row refused looks = refl
changed_same m s verbs.Iter k r words.Ok end details row refused looks = absurd (at_node k r _ row.0 (λ k r p. on_replica m k r (IterOk m s r end) p.5 (λ e x (ok : IterOk m s r end e x). no_refusal_done end answers.Nothing ok.answer refused)))
changed_same m s verbs.Iter k r reply end details row refused looks = refl
changed_same m s verbs.Next k r words.Ok end details row refused looks =
    let t : Told = record { verb = verbs.Next; ckpt = k; node = r; reply = words.Ok; end = end; details = details } in
    absurd (at_node k r _ row (λ k r p. on_replica m k r (NextOk m s r t) p.2 (λ e x (ok : NextOk m s r t e x). given_next (given (ids_asked m s) m.cluster.moment x.sections) end details ok.answer refused)))
changed_same m s verbs.Next k r reply end details row refused looks = refl
changed_same m s verbs.Leave k r words.Ok end details row refused looks = absurd (at_none k r _ row.0 (λ p. no_refusal_done end answers.Nothing p.1.1 refused))
changed_same m s verbs.Leave k r reply end details row refused looks = refl
changed_same m s verbs.Close k r words.Ok end details row refused looks = absurd (row_at_ckpt k r _ row.0 (λ k p. no_refusal_done end answers.Nothing p.2.2 refused))
changed_same m s verbs.Close k r reply end details row refused looks = refl
changed_same m s verbs.Unlink k r words.Ok end details row refused looks = absurd (row_at_ckpt k r _ row.0 (λ k p. no_refusal_done end answers.Nothing p.2.1 refused))
changed_same m s verbs.Unlink k r reply end details row refused looks = refl
changed_same m s verbs.Retain k r words.Ok end details row refused looks = absurd (row_at_ckpt k r _ row.0 (λ k p. no_refusal_done end answers.Nothing p.3.2 refused))
changed_same m s verbs.Retain k r reply end details row refused looks = refl
changed_same m s verbs.Complete k r words.Ok end details row refused looks = absurd (at_node k r _ row.0 (λ k r p. none_of_some (entry_of k m.cluster.entries) (CompleteOk m s k r end) p.1.2 (λ e (ok : CompleteOk m s k r end e). no_refusal_completed (swept (completed k r m.cluster)) r (is_all e.attributes) end ok.answer refused)))
changed_same m s verbs.Complete k r reply end details row refused looks = refl
changed_same m s verbs.Look k r reply end details row refused looks = absurd looks

-- ---- what is left

-- a call that is refused is in hand no more
pub left_none : (end : Option Outcome) (s : CallState) → IsRefused end → left end s ≡ None
left_none (Some o) s refused = refl
left_none None s refused = absurd refused

-- nor is one that is refused at its beginning
pub none_begun : (end : Option Outcome) (call : CallId) (op : Op) (kept : Kept) → IsRefused end → call_begun end call op kept ≡ None
none_begun (Some (Refused error cause)) call op kept refused = refl
none_begun (Some NoMemory) call op kept refused = refl
none_begun (Some o) call op kept refused = absurd refused
none_begun None call op kept refused = absurd refused

-- and none of its kind is under way then, nor is any given
begins_no_other : (end : Option Outcome) (call : CallId) (op : Op) (h : Option HandleView) (p : PendingCalls) → IsRefused end → pending_begun end call op h p ≡ p
begins_no_other (Some (Refused error cause)) call op h p refused = refl
begins_no_other (Some NoMemory) call op h p refused = refl
begins_no_other (Some o) call op h p refused = absurd refused
begins_no_other None call op h p refused = absurd refused

-- an open that is refused has opened no handle
opens_none : (o : Outcome) (t : ClientState) → IsRefused (Some o) → handle_opened o t ≡ None
opens_none (Refused error cause) t refused = refl
opens_none NoMemory t refused = refl
opens_none o t refused = absurd refused

leaves_step : (m n : Machine) (s : CallState) (end : Option Outcome) → n ≡ m → IsRefused end → LeavesAll (who s) (end_kept s.call (word_of_op s.op) end m) (stepped n s end)
leaves_step m n s None same refused = absurd refused
leaves_step m n s (Some o) same refused = record {
  cluster = ap (λ (x : Machine). x.cluster) same;
  replicas = λ k r. ap (λ (x : Machine). x.replicas k r) same;
  reserved = λ k r. ap (λ (x : Machine). x.reserved k r) same;
  snapshots = λ k. ap (λ (x : Machine). x.snapshots k) same;
  tables = λ a. ap (λ (x : Machine). x.tables a) same;
  pending = λ a. ap (λ h. (kept_so h n).pending a) (opens_none o (n.tables s.call.actor) refused) ∙ ap (λ (x : Machine). (kept_so None x).pending a) same;
  next = λ a. ap (λ (x : Machine). x.next a) same;
  others = λ w other. put_who-other n.in_hand (who s) _ w other ∙ ap (λ (x : Machine). x.in_hand w) same;
  ended = put_who-here n.in_hand (who s) _;
}
  where
    -- its end is kept where it is an asynchronous one, with the handle that it has opened
    kept_so : Option ℕ → Machine → Machine
    kept_so h x = with_pending s.call.actor (λ p. if is_async (word_of_op s.op) then ended_in s.call h o p else p) x

-- the state after a step of a call that is in hand
abbrev stepped_behind : Machine → CallState → Verb → Option ℕ → Option ℕ → StepReply → Option Outcome → Machine
stepped_behind m s verb k r reply end = step_of m (Some s) verb k r reply end

-- the state after a look that undoes this making
abbrev looked_behind : Machine → CallState → Option ℕ → Option ℕ → Option Outcome → Option ℕ → Machine
looked_behind m s k r end making = let n = without_making making m in stepped n (kept_behind m s n.cluster verbs.Look k r words.Refused) end

-- a look that refuses leaves all, or undoes what its call was making
leaves_look : (m : Machine) (s : CallState) (k r : Option ℕ) (reply : StepReply) (end : Option Outcome) → LookRow m s reply end → IsRefused end → LeavesAll (who s) (end_kept s.call (word_of_op s.op) end m) (stepped_behind m s verbs.Look k r reply end) ⊎ UndoesOwn unmade_swept s.call (word_of_op s.op) end m (stepped_behind m s verbs.Look k r reply end)
leaves_look m s k r words.Done end row refused = absurd (no_refusal_looked m s end row refused)
leaves_look m s k r words.Refused end row refused = by_making (making_of s.call m.cluster) refl
  where
    by_making : (making : Option ℕ) → making_of s.call m.cluster ≡ making → LeavesAll (who s) (end_kept s.call (word_of_op s.op) end m) (looked_behind m s k r end making) ⊎ UndoesOwn unmade_swept s.call (word_of_op s.op) end m (looked_behind m s k r end making)
    by_making None is = inl (leaves_step m m (kept_behind m s m.cluster verbs.Look k r words.Refused) end refl refused)
    by_making (Some j) is = inr (record { ckpt = j; own = is; rest = leaves_step (unmade_swept j m) (unmade_swept j m) (kept_behind m s (unmade_swept j m).cluster verbs.Look k r words.Refused) end refl refused })
leaves_look m s k r reply end row refused = absurd row

leaves_undo : (m : Machine) (s : CallState) (k r : Option ℕ) (reply : StepReply) (end : Option Outcome) → AtCkpt k r (λ k. (name : List ℕ) × (a : Option CreationAttributes) × AsksToOpen s name a × UndoRow m s k reply end) → IsRefused end → UndoesOwn unmade_swept s.call (word_of_op s.op) end m (stepped_behind m s verbs.Undo k r reply end)
leaves_undo m s (Some k) None words.Ok end row refused = record { ckpt = k; own = row.3.0; rest = leaves_step (unmade_swept k m) (unmade_swept k m) (kept_behind m s (unmade_swept k m).cluster verbs.Undo (Some k) None words.Ok) end refl refused }
leaves_undo m s (Some k) None reply end row refused = absurd row.3
leaves_undo m s (Some k) (Some r) reply end row refused = absurd row
leaves_undo m s None r reply end row refused = absurd row

-- a refused beginning ends no iteration, and gives no callback
refusal_ends_none : (end : Option Outcome) (ask : Ask) (p : PendingCalls) (t : ClientState) → IsRefused end → ended_at_once end ask p t ≡ t
refusal_ends_none (Some (Refused error cause)) ask p t refused = refl
refusal_ends_none (Some NoMemory) ask p t refused = refl
refusal_ends_none (Some o) ask p t refused = absurd refused
refusal_ends_none None ask p t refused = absurd refused

-- where the call that steps is the one in hand
leaves_at : (m : Machine) (call : CallId) (op : OpWord) (verb : Verb) (k r : Option ℕ) (reply : StepReply) (end : Option Outcome) (P : CallId → OpWord → Machine → Type 0) (s : CallState) → m.in_hand (stepped_as call op) ≡ Some s → s.call ≡ call → word_of_op s.op ≡ op
    → P s.call (word_of_op s.op) (stepped_behind m s verb k r reply end) → P call op (step_of m (m.in_hand (stepped_as call op)) verb k r reply end)
leaves_at m call op verb k r reply end P s here call_is word_is p =
    subst (λ (o : Option CallState). P call op (step_of m o verb k r reply end)) (sym here)
    (subst (λ (w : OpWord). P call w (stepped_behind m s verb k r reply end)) word_is (subst (λ (d : CallId). P d (word_of_op s.op) (stepped_behind m s verb k r reply end)) call_is p))

step_leaves : (m : Machine) (call : CallId) (op : OpWord) (verb : Verb) (k r : Option ℕ) (reply : StepReply) (end : Option Outcome) (details : Details)
    → Allowed m (labels.Stepped call op verb k r reply end details) → IsRefused end → LeavesBy unmade_swept (labels.Stepped call op verb k r reply end details) m (after m (labels.Stepped call op verb k r reply end details))
step_leaves m call op verbs.Look k r reply end details allowed refused =
    leaves_at m call op verbs.Look k r reply end (λ d w n. LeavesAll (stepped_as d w) (end_kept d w end m) n ⊎ UndoesOwn unmade_swept d w end m n) allowed.state allowed.in_hand allowed.call_is allowed.word (leaves_look m allowed.state k r reply end allowed.row.2 refused)
step_leaves m call op verbs.Undo k r reply end details allowed refused =
    leaves_at m call op verbs.Undo k r reply end (λ d w n. UndoesOwn unmade_swept d w end m n) allowed.state allowed.in_hand allowed.call_is allowed.word (leaves_undo m allowed.state k r reply end allowed.row.0 refused)
step_leaves m call op verb k r reply end details allowed refused =
    let s = allowed.state in
    let n = changed m s verb k r reply in
    leaves_at m call op verb k r reply end (λ d w n. LeavesAll (stepped_as d w) (end_kept d w end m) n) s allowed.in_hand allowed.call_is allowed.word (leaves_step m n (kept_behind m s n.cluster verb k r reply) end (changed_same m s verb k r reply end details allowed.row refused tt) refused)

-- THE LAW: a label that the machine allows and that ends a call with a refusal leaves all as it was, but for the call and a making of its own
pub refusal_leaves : (m : Machine) (l : Label) → Allowed m l → IsRefusal l → LeavesBy unmade_swept l m (after m l)
refusal_leaves m (labels.Began call op end details) allowed refused = record {
  cluster = refl;
  replicas = λ k r. refl;
  reserved = λ k r. refl;
  snapshots = λ k. refl;
  tables = put_actor-same m.tables call.actor _ (refusal_ends_none end (asked op) (m.pending call.actor) (m.tables call.actor) refused);
  pending = put_actor-same m.pending call.actor _ (begins_no_other end call op (asked_handle m call.actor op) (m.pending call.actor) refused);
  next = λ a. refl;
  others = λ w other. put_who-other m.in_hand (stepped_as call (word_of_op op)) _ w other;
  ended = put_who-here m.in_hand (stepped_as call (word_of_op op)) _ ∙ none_begun end call op _ refused;
}
refusal_leaves m (labels.Stepped call op verb k r reply end details) allowed refused = step_leaves m call op verb k r reply end details allowed refused
refusal_leaves m l allowed refused = absurd refused
