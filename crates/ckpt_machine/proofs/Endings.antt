-- A call ends only with an answer that it may have.
use Rattle.std.proofs.Common.{◌≡◌, ℕ, ℤ, ◌⊎◌, inl, inr, List, length, Option, Some, None, Bool, true, false, cond, refl, sym, ap, subst, ◌∙◌}
use Rattle.std.specs.Prelude.{IfSome}
use Rattle.ckpt_types.specs.declared.identities.CallId.{CallId}
use Rattle.ckpt_types.specs.declared.ais_error.AisError.{AisError}
use Rattle.ckpt_types.specs.declared.ais_error.AisError.TheVariants as errors
use Rattle.ckpt_types.specs.declared.answers.Answer.{Answer}
use Rattle.ckpt_types.specs.declared.answers.Answer.TheVariants as answers
use Rattle.ckpt_types.specs.declared.answers.Cause.{Cause}
use Rattle.ckpt_types.specs.declared.answers.Cause.TheVariants.{Plain, Index, Holder}
use Rattle.ckpt_types.specs.declared.answers.Outcome.{Outcome}
use Rattle.ckpt_types.specs.declared.answers.Outcome.TheVariants.{Done, Refused, NoMemory}
use Rattle.ckpt_types.specs.declared.attributes.CreationAttributes.{CreationAttributes}
use Rattle.ckpt_types.specs.declared.operation.Op.{Op}
use Rattle.ckpt_types.specs.declared.operation.Op.TheVariants as ops
use Rattle.ckpt_types.specs.declared.update.ReadElement.{ReadElement}
use Rattle.ckpt_types.specs.Reads.{NextGiven, given}
use Rattle.node_msgs.specs.declared.steps.StepReply.{StepReply}
use Rattle.node_msgs.specs.declared.steps.StepReply.TheVariants as words
use Rattle.node_msgs.specs.declared.steps.Verb.{Verb}
use Rattle.node_msgs.specs.declared.steps.Verb.TheVariants as verbs
use Rattle.node_msgs.specs.declared.details.Details.{Details}
use Rattle.run_labels.specs.declared.labels.Label.TheVariants as labels
use Rattle.ckpt_types.specs.declared.words.OpWord.{OpWord}
use Rattle.ckpt_types.specs.OpWord.{word_of_op}
use Rattle.cluster_record.specs.Calls.{client_of}
use Rattle.cluster_record.specs.Joining.{completed}
use Rattle.cluster_record.specs.Placement.{is_all}
use Rattle.cluster_record.specs.RecordState.{RecordState, entry_of, is_live, swept}
use Rattle.ckpt_types.specs.declared.update.Update.{Update}
use Rattle.ckpt_types.specs.Asks.{Ask, asked}
use Rattle.ckpt_types.specs.Asks as asks
use Rattle.ckpt_machine.specs.Beginning.{takes_memory_at_once, Standing}
use Rattle.ckpt_machine.specs.BeginRows.{BeginRow}
use Rattle.ckpt_machine.specs.Complete.{complete_replicas}
use Rattle.ckpt_machine.specs.Driving.{refused_cause}
use Rattle.ckpt_machine.specs.Endings.{may_lack_memory, IsEndOf}
use Rattle.ckpt_machine.specs.CopyGuards.{CompleteOk, CompleteRow, CopyPullHeld, CopyPullOk, CopyPullRow, CopyReserveRow, completion_end, lacks_none}
use Rattle.ckpt_machine.specs.Guards.{AsksOpen, AsksToOpen, Row}
use Rattle.ckpt_machine.specs.LookGuards.{LookRow}
use Rattle.ckpt_machine.specs.OpenGuards.{EnterRow, CreateRow, ReserveRow, FinishRow, UndoRow, OpenHeld, OpenRow, LeaveRow, CloseRow, UnlinkRow, RetainRow}
use Rattle.ckpt_machine.specs.ActiveGuards.{HoldRow, HoldOk, HoldKeptOff, ActivateRow, ActivateOk, all_served, steps_with, PullOk, PullHeld, PullRow, InstallOk, InstallRow, ApplyOk, ApplyRow, MarkOk, MarkRow, ElementRow, UnmarkRow, ReadRow, StatusOk, StatusRow, IterOk, IterRow, NextOk, NextAnswer}
use Rattle.ckpt_machine.specs.UpdateGuards.{ClaimFree, ClaimOk, ClaimRow, CommitOk, CommitRow, StageHeld, StageRefused, StageRow, WithdrawOk, WithdrawRow, ends_update}
use Rattle.ckpt_machine.specs.Laws.{EndsAsItMay}
use Rattle.ckpt_machine.specs.Machine.{Machine, CallState}
use Rattle.node_core.specs.Serving.{update_answer}
use Rattle.ckpt_machine.specs.Due.{Told, ids_asked}
use Rattle.ckpt_machine.proofs.Refusing.{none_of_some, row_at_ckpt, at_node, at_none, at_node_alone, on_replica, on_all, begins_on_active, by_update}

-- ---- which calls take memory

-- an Initialize, an open, the start of an iteration, what has a snapshot in hand, and a copying
abbrev may_lack : Ask → Bool
may_lack (asks.Enter r version callbacks) = true
may_lack (asks.Open place name flags timeout a) = true
may_lack (asks.Iterate iteration place chosen time) = true
may_lack (asks.Synchronize place timeout) = true
may_lack (asks.SetActive place) = true
may_lack asks.Copy = true
may_lack ask = false

-- each has such a word
lacks_memory : (op : Op) → may_lack (asked op) ≡ true → may_lack_memory (word_of_op op) ≡ true
lacks_memory (ops.Client r version callbacks) is = refl
lacks_memory (ops.Open place name flags timeout a) is = refl
lacks_memory (ops.OpenAsync place invocation name flags a) is = refl
lacks_memory (ops.Iter iteration place chosen time) is = refl
lacks_memory (ops.Sync place timeout) is = refl
lacks_memory (ops.SyncAsync place invocation) is = refl
lacks_memory (ops.Active place) is = refl
lacks_memory ops.Copy is = refl
lacks_memory op is = absurd (cc is)

open_lacks : (s : CallState) (name : List ℕ) (a : Option CreationAttributes) → AsksToOpen s name a → may_lack_memory (word_of_op s.op) ≡ true
open_lacks s name a opens = lacks_memory s.op (ap may_lack opens.asks)

room_lacks : (ask : Ask) → takes_memory_at_once ask ≡ true → may_lack ask ≡ true
room_lacks (asks.Open place name flags timeout a) takes = refl
room_lacks (asks.Iterate iteration place chosen time) takes = refl
room_lacks (asks.Synchronize place timeout) takes = refl
room_lacks (asks.SetActive place) takes = refl
room_lacks asks.Copy takes = refl
room_lacks ask takes = absurd (cc takes)

-- ---- an end that is none of the word

-- the call ends, and as no call of its word may
abbrev EndsAmiss : OpWord → Option Outcome → Type 0
EndsAmiss word None = ⊥
EndsAmiss word (Some (Done answer)) = ⊥
EndsAmiss word (Some (Refused error cause)) = ⊥
EndsAmiss word (Some NoMemory) = may_lack_memory word ≡ false
EndsAmiss word (Some outcome) = Unit {0}

is_true : (b : Bool) → (b ≡ false → ⊥) → b ≡ true
is_true true not_so = refl
is_true false not_so = absurd (not_so refl)

-- what does not end amiss ends as it may
not_amiss : (word : OpWord) (end : Option Outcome) → (EndsAmiss word end → ⊥) → IfSome end (IsEndOf word)
not_amiss word None not_so = tt
not_amiss word (Some (Done answer)) not_so = tt
not_amiss word (Some (Refused error cause)) not_so = tt
not_amiss word (Some NoMemory) not_so = is_true (may_lack_memory word) not_so
not_amiss word (Some outcome) not_so = absurd (not_so tt)

-- a look answers OK or refuses
look_not_amiss : (m : Machine) (s : CallState) (word : OpWord) (reply : StepReply) (end : Option Outcome) → LookRow m s reply end → EndsAmiss word end → ⊥
look_not_amiss m s word words.Refused (Some (Refused error cause)) row amiss = amiss
look_not_amiss m s word words.Done (Some (Done answer)) row amiss = amiss
look_not_amiss m s word reply end row amiss = absurd row

-- ---- by the row of each verb

module _ (m : Machine) (s : CallState) (end : Option Outcome) (amiss : EndsAmiss (word_of_op s.op) end) where
  goes_on : end ≡ None → ⊥
  goes_on is = subst (EndsAmiss (word_of_op s.op)) is amiss

  done : (answer : Answer) → end ≡ Some (Done answer) → ⊥
  done answer is = subst (EndsAmiss (word_of_op s.op)) is amiss

  refused : (error : AisError) (cause : Cause) → end ≡ Some (Refused error cause) → ⊥
  refused error cause is = subst (EndsAmiss (word_of_op s.op)) is amiss

  lacked : may_lack_memory (word_of_op s.op) ≡ true → end ≡ Some NoMemory → ⊥
  lacked may is = let never : may_lack_memory (word_of_op s.op) ≡ false = subst (EndsAmiss (word_of_op s.op)) is amiss in
      let both : true ≡ false = sym may ∙ never in cc both

  committed : (b : Bool) (answer : Answer) → end ≡ cond b (Some (Done answer)) None → ⊥
  committed true answer is = done answer is
  committed false answer is = goes_on is

  held_off : (b : Bool) (by : CallId) → end ≡ cond b (Some (Refused errors.TryAgain (Holder by))) None → ⊥
  held_off true by is = refused errors.TryAgain (Holder by) is
  held_off false by is = goes_on is

  enter_ends : (c r : ℕ) (reply : StepReply) → may_lack_memory (word_of_op s.op) ≡ true → EnterRow m c r reply end → ⊥
  enter_ends c r words.Ok may row = done answers.Version row.1
  enter_ends c r words.Memory may row = lacked may row.1
  enter_ends c r reply may row = absurd row

  open_ends : (name : List ℕ) (a : Option CreationAttributes) (k : ℕ) (reply : StepReply) → may_lack_memory (word_of_op s.op) ≡ true → OpenRow m s name a k reply end → ⊥
  open_ends name a k words.Ok may row = done (answers.Opened k) row.1
  open_ends name a k words.Memory may row = lacked may row.1
  open_ends name a k words.Refused may row = let held : OpenHeld m s name k row.0 end = row.1 in refused errors.TryAgain (Holder row.0) held.answer
  open_ends name a k reply may row = absurd row

  create_ends : (name : List ℕ) (a : Option CreationAttributes) (k : ℕ) (reply : StepReply) → may_lack_memory (word_of_op s.op) ≡ true → CreateRow m s name a k reply end → ⊥
  create_ends name a k words.Ok may row = goes_on row.1
  create_ends name a k words.Memory may row = lacked may row.1
  create_ends name a k reply may row = absurd row

  reserve_ends : (k r : ℕ) (reply : StepReply) → ReserveRow m s k r reply end → ⊥
  reserve_ends k r words.Ok row = goes_on row.4
  reserve_ends k r words.Memory row = goes_on row.5
  reserve_ends k r reply row = absurd row

  finish_ends : (k : ℕ) (reply : StepReply) → FinishRow m s k reply end → ⊥
  finish_ends k words.Ok row = done (answers.Opened k) row.3
  finish_ends k reply row = absurd row

  undo_ends : (k : ℕ) (reply : StepReply) → may_lack_memory (word_of_op s.op) ≡ true → UndoRow m s k reply end → ⊥
  undo_ends k words.Ok may row = lacked may row.2
  undo_ends k reply may row = absurd row

  stage_ends : (update : Update) (k r : ℕ) (reply : StepReply) → StageRow m s update k r reply end → ⊥
  stage_ends update k r words.Ok row = goes_on row.1
  stage_ends update k r words.Refused row = on_all m k r (StageRefused m s update k end) row (λ e x (by : StageRefused m s update k end e x). refused by.why.error (refused_cause s.op by.why.index) by.answer)
  stage_ends update k r (words.Held by) row = on_all m k r (λ e x. StageHeld m s.call by end x) row (λ e x (held : StageHeld m s.call by end x). held_off (is_live m.cluster by) by held.answer)
  stage_ends update k r reply row = absurd row

  claim_ends : (k r : ℕ) (reply : StepReply) → ClaimRow m s k r reply end → ⊥
  claim_ends k r words.Ok row = on_all m k r (λ e x. ClaimOk m s.call end x) row (λ e x (ok : ClaimOk m s.call end x). goes_on ok.answer)
  claim_ends k r (words.Free count) row = on_all m k r (λ e x. ClaimFree count end x) row (λ e x (free : ClaimFree count end x). goes_on free.answer)
  claim_ends k r (words.Held by) row = on_all m k r (λ e x. StageHeld m s.call by end x) row (λ e x (held : StageHeld m s.call by end x). held_off (is_live m.cluster by) by held.answer)
  claim_ends k r reply row = absurd row

  withdraw_ends : (k r : ℕ) (reply : StepReply) → WithdrawRow m s k r reply end → ⊥
  withdraw_ends k r words.Ok row = on_all m k r (λ e x. WithdrawOk m s.call k end x) row (λ e x (ok : WithdrawOk m s.call k end x). goes_on ok.answer)
  withdraw_ends k r reply row = absurd row

  commit_ends : (update : Update) (ends : Bool → Bool) (k r : ℕ) (reply : StepReply) (details : Details) → CommitRow m s.call update ends k r reply end details → ⊥
  commit_ends update ends k r words.Ok details row = on_all m k r (λ e x. CommitOk m s.call update ends k r end details x) row (λ e x (ok : CommitOk m s.call update ends k r end details x). committed (ends (ends_update s.call r ok.slot (complete_replicas m k))) (update_answer update) ok.answer)
  commit_ends update ends k r reply details row = absurd row

  apply_ends : (update : Update) (k r : ℕ) (t : Told) (reply : StepReply) → t.end ≡ end → ApplyRow m s update k r t reply → ⊥
  apply_ends update k r t reply is row = begins_on_active m s update false k r t (ApplyOk m update t) reply row (λ ahead e x (ok : ApplyOk m update t e x). done (update_answer update) (sym is ∙ ok.answer)) (λ error cause ends. refused error cause (sym is ∙ ends))

  mark_ends : (update : Update) (k r : ℕ) (t : Told) (reply : StepReply) → t.end ≡ end → MarkRow m s update k r t reply → ⊥
  mark_ends update k r t reply is row = begins_on_active m s update true k r t (MarkOk m update t) reply row (λ ahead e x (ok : MarkOk m update t e x). goes_on (sym is ∙ ok.answer)) (λ error cause ends. refused error cause (sym is ∙ ends))

  element_ends : (update : Update) (k r : ℕ) (t : Told) (reply : StepReply) → t.end ≡ end → ElementRow m s.call update k r t reply → ⊥
  element_ends update k r t words.Ok is row = goes_on (sym is ∙ row.1)
  element_ends update k r t reply is row = absurd row

  unmark_ends : (update : Update) (k r : ℕ) (t : Told) (reply : StepReply) → t.end ≡ end → UnmarkRow m s.call update k r t reply → ⊥
  unmark_ends update k r t words.Ok is row = done answers.Nothing (sym is ∙ row.1)
  unmark_ends update k r t reply is row = absurd row

  read_ends : (elements : List ReadElement) (k r : ℕ) (ckpt place : Option ℕ) (reply : StepReply) (details : Details) → ReadRow m elements k r (record { verb = verbs.Read; ckpt = ckpt; node = place; reply = reply; end = end; details = details }) → ⊥
  read_ends elements k r ckpt place words.Ok details row = on_replica m k r _ row (λ e x answer. done answers.Pieces answer.1.3)
  read_ends elements k r ckpt place words.Refused details row = on_replica m k r _ row (λ e x answer. let why = answer.1.0 in refused why.error (Index why.index) answer.1.3)
  read_ends elements k r ckpt place reply details row = on_replica m k r _ row (λ e x answer. absurd answer.1)

  pull_ends : (k r : ℕ) (t : Told) (reply : StepReply) → t.end ≡ end → PullRow m s k r t reply → ⊥
  pull_ends k r t words.Ok is row = on_replica m k r (PullOk m s r t) row (λ e x (ok : PullOk m s r t e x). committed (all_served (steps_with m s t) 0 e.complete) (answers.Pulled (length x.effects)) (sym is ∙ ok.answer))
  pull_ends k r t (words.Held by) is row = on_replica m k r (PullHeld m s r by t) row (λ e x (held : PullHeld m s r by t e x). refused errors.TryAgain (Holder by) (sym is ∙ held.held.answer))
  pull_ends k r t reply is row = absurd row

  -- of a copying
  copy_reserve_ends : (k r : ℕ) (reply : StepReply) → may_lack_memory (word_of_op s.op) ≡ true → CopyReserveRow m s k r reply end → ⊥
  copy_reserve_ends k r words.Ok may row = goes_on row.1
  copy_reserve_ends k r words.Memory may row = lacked may row.1
  copy_reserve_ends k r reply may row = absurd row

  copy_pull_ends : (k r : ℕ) (t : Told) (reply : StepReply) → t.end ≡ end → CopyPullRow m s k r t reply → ⊥
  copy_pull_ends k r t words.Ok is row = on_replica m k r (CopyPullOk t r) row (λ e x (ok : CopyPullOk t r e x). goes_on (sym is ∙ ok.answer))
  copy_pull_ends k r t (words.Held by) is row = on_replica m k r (CopyPullHeld m s r by t) row (λ e x (held : CopyPullHeld m s r by t e x). refused errors.TryAgain (Holder by) (sym is ∙ held.held.answer))
  copy_pull_ends k r t reply is row = absurd row

  completed_ends : (R : RecordState) (r : ℕ) (all : Bool) → end ≡ completion_end R r all → ⊥
  completed_ends R r true is = goes_on is
  completed_ends R r false is = committed (lacks_none R r) answers.Nothing is

  complete_ends : (k r : ℕ) (reply : StepReply) → CompleteRow m s k r reply end → ⊥
  complete_ends k r words.Ok row = none_of_some (entry_of k m.cluster.entries) (CompleteOk m s k r end) row.2 (λ e (ok : CompleteOk m s k r end e). completed_ends (swept (completed k r m.cluster)) r (is_all e.attributes) ok.answer)
  complete_ends k r reply row = absurd row

  install_ends : (k r : ℕ) (t : Told) (reply : StepReply) → t.end ≡ end → InstallRow m s k r t reply → ⊥
  install_ends k r t words.Ok is row = on_replica m k r (InstallOk m s r t true) row (λ e x (ok : InstallOk m s r t true e x). committed (all_served (steps_with m s t) 0 e.complete) (answers.Pulled (length ok.pulled.effects)) (sym is ∙ ok.answer))
  install_ends k r t words.Older is row = on_replica m k r (InstallOk m s r t false) row (λ e x (ok : InstallOk m s r t false e x). committed (all_served (steps_with m s t) 0 e.complete) (answers.Pulled (length ok.pulled.effects)) (sym is ∙ ok.answer))
  install_ends k r t reply is row = absurd row

  hold_ends : (k r : ℕ) (t : Told) (reply : StepReply) → t.end ≡ end → HoldRow m s k r t reply → ⊥
  hold_ends k r t words.Ok is row = on_replica m k r (HoldOk s r t.end) row (λ e x (ok : HoldOk s r t.end e x). goes_on (sym is ∙ ok.answer))
  hold_ends k r t (words.Held by) is row = on_replica m k r (HoldKeptOff m s r by t) row (λ e x (kept : HoldKeptOff m s r by t e x). refused errors.TryAgain (Holder by) (sym is ∙ kept.held.answer))
  hold_ends k r t reply is row = absurd row

  activate_ends : (k r : ℕ) (reply : StepReply) → ActivateRow m s k r reply end → ⊥
  activate_ends k r words.Ok row = none_of_some (entry_of k m.cluster.entries) (ActivateOk s r end) row (λ e (ok : ActivateOk s r end e). done answers.Nothing ok.answer)
  activate_ends k r reply row = absurd row

  status_ends : (k r : ℕ) (reply : StepReply) (details : Details) → StatusRow m k r reply end details → ⊥
  status_ends k r words.Ok details row = on_replica m k r (StatusOk m r end details) row (λ e x (ok : StatusOk m r end details e x). done answers.Status ok.answer)
  status_ends k r reply details row = absurd row

  iter_ends : (k r : ℕ) (reply : StepReply) → IterRow m s k r reply end → ⊥
  iter_ends k r words.Ok row = on_replica m k r (IterOk m s r end) row (λ e x (ok : IterOk m s r end e x). done answers.Nothing ok.answer)
  iter_ends k r reply row = absurd row

  given_ends : (next : Option NextGiven) (reply : StepReply) (details : Details) → NextAnswer next reply end details → ⊥
  given_ends (Some next) words.Ok details answer = done answers.Section answer.0
  given_ends None words.Refused details answer = refused errors.NoSections Plain answer.0
  given_ends next reply details answer = absurd answer

  leave_ends : (c : ℕ) (reply : StepReply) → LeaveRow m c reply end → ⊥
  leave_ends c words.Ok row = done answers.Nothing row.1
  leave_ends c reply row = absurd row

  close_ends : (k : ℕ) (reply : StepReply) → CloseRow m s k reply end → ⊥
  close_ends k words.Ok row = done answers.Nothing row.2
  close_ends k reply row = absurd row

  unlink_ends : (name : List ℕ) (k : ℕ) (reply : StepReply) → UnlinkRow m name k reply end → ⊥
  unlink_ends name k words.Ok row = done answers.Nothing row.1
  unlink_ends name k reply row = absurd row

  retain_ends : (k : ℕ) (reply : StepReply) → RetainRow m s k reply end → ⊥
  retain_ends k words.Ok row = done answers.Nothing row.2
  retain_ends k reply row = absurd row

  -- no step that is allowed ends its call amiss
  row_ends : (verb : Verb) (k r : Option ℕ) (reply : StepReply) (details : Details) → Row m s verb (record { verb = verb; ckpt = k; node = r; reply = reply; end = end; details = details }) → ⊥
  row_ends verbs.Enter k r reply details row = at_node_alone k r _ row.0 (λ q p. enter_ends (client_of s.call) q reply (lacks_memory s.op (ap may_lack p.2)) p.3)
  row_ends verbs.Open k r reply details row = row_at_ckpt k r _ row.0 (λ k p. open_ends p.0 p.1 k reply (open_lacks s p.0 p.1 p.2) p.3)
  row_ends verbs.Create k r reply details row = row_at_ckpt k r _ row.0 (λ k p. create_ends p.0 p.1 k reply (open_lacks s p.0 p.1 p.2) p.3)
  row_ends verbs.Reserve k r reply details row = at_node k r _ row.0 (λ k r p. any_reserve_ends k r p) where
    any_reserve_ends : (k r : ℕ) → AsksOpen s (λ name a. ReserveRow m s k r reply end) ⊎ ((asked s.op ≡ asks.Copy) × CopyReserveRow m s k r reply end) → ⊥
    any_reserve_ends k r (inl p) = reserve_ends k r reply p.3
    any_reserve_ends k r (inr p) = copy_reserve_ends k r reply (lacks_memory s.op (ap may_lack p.0)) p.1
  row_ends verbs.Finish k r reply details row = row_at_ckpt k r _ row.0 (λ k p. finish_ends k reply p.3)
  row_ends verbs.Undo k r reply details row = row_at_ckpt k r _ row.0 (λ k p. undo_ends k reply (open_lacks s p.0 p.1 p.2) p.3)
  row_ends verbs.Stage k r reply details row = at_node k r _ row.0 (λ k r p. by_update m s (λ update ends. StageRow m s update k r reply end) p (λ update ends row. stage_ends update k r reply row))
  row_ends verbs.Claim k r reply details row = at_node k r _ row.0 (λ k r p. by_update m s (λ update ends. ClaimRow m s k r reply end) p (λ update ends row. claim_ends k r reply row))
  row_ends verbs.Withdraw k r reply details row = at_node k r _ row.0 (λ k r p. by_update m s (λ update ends. WithdrawRow m s k r reply end) p (λ update ends row. withdraw_ends k r reply row))
  row_ends verbs.Commit k r reply details row = at_node k r _ row (λ k r p. by_update m s (λ update ends. CommitRow m s.call update ends k r reply end details) p (λ update ends row. commit_ends update ends k r reply details row))
  row_ends verbs.Apply k r reply details row = at_node k r _ row (λ q n p. apply_ends p.1 q n (record { verb = verbs.Apply; ckpt = k; node = r; reply = reply; end = end; details = details }) reply refl p.3)
  row_ends verbs.Mark k r reply details row = at_node k r _ row (λ q n p. mark_ends p.1 q n (record { verb = verbs.Mark; ckpt = k; node = r; reply = reply; end = end; details = details }) reply refl p.3)
  row_ends verbs.Element k r reply details row = at_node k r _ row (λ q n p. element_ends p.1 q n (record { verb = verbs.Element; ckpt = k; node = r; reply = reply; end = end; details = details }) reply refl p.3)
  row_ends verbs.Unmark k r reply details row = at_node k r _ row (λ q n p. unmark_ends p.1 q n (record { verb = verbs.Unmark; ckpt = k; node = r; reply = reply; end = end; details = details }) reply refl p.3)
  row_ends verbs.Read k r reply details row = at_node k r _ row (λ q n p. read_ends p.1 q n k r reply details p.3)
  row_ends verbs.Status k r reply details row = at_node k r _ row (λ k r p. status_ends k r reply details p.2)
  row_ends verbs.Iter k r reply details row = at_node k r _ row.0 (λ k r p. iter_ends k r reply p.5)
  row_ends verbs.Next k r reply details row =
      let t : Told = record { verb = verbs.Next; ckpt = k; node = r; reply = reply; end = end; details = details } in
      at_node k r _ row (λ k r p. on_replica m k r (NextOk m s r t) p.2 (λ e x (ok : NextOk m s r t e x). given_ends (given (ids_asked m s) m.cluster.moment x.sections) reply details ok.answer))
  row_ends verbs.Pull k r reply details row = at_node k r _ row.0 (λ q n p. any_pull_ends q n (record { verb = verbs.Pull; ckpt = k; node = r; reply = reply; end = end; details = details }) refl p) where
    any_pull_ends : (q n : ℕ) (t : Told) → t.end ≡ end → ((place : ℕ) × (timeout : Option ℤ) × (asked s.op ≡ asks.Synchronize place timeout) × PullRow m s q n t reply) ⊎ ((asked s.op ≡ asks.Copy) × CopyPullRow m s q n t reply) → ⊥
    any_pull_ends q n t is (inl p) = pull_ends q n t reply is p.3
    any_pull_ends q n t is (inr p) = copy_pull_ends q n t reply is p.1
  row_ends verbs.Install k r reply details row = at_node k r _ row.0 (λ q n p. install_ends q n (record { verb = verbs.Install; ckpt = k; node = r; reply = reply; end = end; details = details }) reply refl p.3)
  row_ends verbs.Hold k r reply details row = at_node k r _ row.0 (λ q n p. hold_ends q n (record { verb = verbs.Hold; ckpt = k; node = r; reply = reply; end = end; details = details }) reply refl p.2)
  row_ends verbs.Activate k r reply details row = at_node k r _ row.0 (λ k r p. activate_ends k r reply p.2)
  row_ends verbs.Leave k r reply details row = at_none k r _ row.0 (λ p. leave_ends (client_of s.call) reply p.1)
  row_ends verbs.Close k r reply details row = row_at_ckpt k r _ row.0 (λ k p. close_ends k reply p.2)
  row_ends verbs.Unlink k r reply details row = row_at_ckpt k r _ row.0 (λ k p. unlink_ends p.0 k reply p.2)
  row_ends verbs.Retain k r reply details row = row_at_ckpt k r _ row.0 (λ k p. retain_ends k reply p.3)
  row_ends verbs.Look k r reply details row = look_not_amiss m s (word_of_op s.op) reply end row.2 amiss
  row_ends verbs.Complete k r reply details row = at_node k r _ row.0 (λ k r p. complete_ends k r reply p.1)

-- ---- the law

-- a beginning may lack memory where it takes the room of an iteration or of a snapshot
begin_ends : (st : Standing) (op : Op) (end : Option Outcome) → BeginRow st (asked op) end → IfSome end (IsEndOf (word_of_op op))
begin_ends st op None row = tt
begin_ends st op (Some (Done answer)) row = tt
begin_ends st op (Some (Refused error cause)) row = tt
begin_ends st op (Some NoMemory) row = lacks_memory op (room_lacks (asked op) row.1)
begin_ends st op (Some outcome) row = absurd row

-- THE LAW: a label that the machine allows ends a call only as it may
pub ends_as_it_may : EndsAsItMay
ends_as_it_may m (labels.Began call op end details) allowed = begin_ends _ op end allowed.row
ends_as_it_may m (labels.Stepped call word verb k r reply end details) allowed =
    let s = allowed.state in
    subst (λ (w : OpWord). IfSome end (IsEndOf w)) allowed.word (not_amiss (word_of_op s.op) end (λ amiss. row_ends m s end amiss verb k r reply details allowed.row))
ends_as_it_may m l allowed = tt
