-- An update is answered OK by a commit, or by a look that finds nothing left of it, or on the active alone where it is applied in one step, or its weak write has been done: by no other step, and not at its beginning.
use Rattle.std.proofs.Common.{◌≡◌, ℕ, ℤ, ◌⊎◌, inl, inr, Option, Some, None, Bool, cond, true, false, refl, sym, subst, ◌∙◌}
use Rattle.ckpt_types.specs.declared.ais_error.AisError.{AisError}
use Rattle.ckpt_types.specs.declared.ais_error.AisError.TheVariants.{TryAgain}
use Rattle.ckpt_types.specs.declared.answers.Answer.{Answer}
use Rattle.ckpt_types.specs.declared.answers.Answer.TheVariants as answers
use Rattle.ckpt_types.specs.declared.answers.Cause.{Cause}
use Rattle.ckpt_types.specs.declared.answers.Cause.TheVariants.{Holder}
use Rattle.ckpt_types.specs.declared.answers.Outcome.TheVariants.{Done, Refused, NoMemory}
use Rattle.ckpt_types.specs.declared.update.Update.{Update}
use Rattle.ckpt_types.specs.declared.operation.Op.{Op}
use Rattle.ckpt_types.specs.declared.operation.Op.TheVariants as ops
use Rattle.ckpt_types.specs.declared.answers.Given.{Given}
use Rattle.call_dispatch.specs.PendingCalls.{PendingCalls}
use Rattle.node_msgs.specs.declared.steps.StepReply.{StepReply}
use Rattle.node_msgs.specs.declared.steps.StepReply.TheVariants as words
use Rattle.node_msgs.specs.declared.steps.Verb.{Verb}
use Rattle.node_msgs.specs.declared.steps.Verb.TheVariants as verbs
use Rattle.node_msgs.specs.declared.details.Details.{Details}
use Rattle.ckpt_types.specs.OpWord.{word_of_op}
use Rattle.cluster_record.specs.RecordState.{is_live}
use Rattle.ckpt_types.specs.declared.identities.CallId.{CallId}
use Rattle.ckpt_machine.specs.Acknowledged.{IsUpdateWord}
use Rattle.ckpt_types.specs.Asks.{Ask, asked}
use Rattle.ckpt_types.specs.Asks as asks
use Rattle.ckpt_machine.specs.BeginRows.{ends_at_once, IsGivenBy, BeginRow}
use Rattle.ckpt_machine.specs.Beginning.{Standing}
use Rattle.ckpt_machine.specs.Driving.{refused_cause}
use Rattle.ckpt_machine.specs.CopyGuards.{CopyPullRow, CopyReserveRow}
use Rattle.ckpt_machine.specs.Guards.{AtNode, AsksOpen, AsksUpdate, Row}
use Rattle.ckpt_machine.specs.LookGuards.{LookRow}
use Rattle.ckpt_machine.specs.ActiveGuards.{ApplyOk, MarkOk, MarkRow, ElementRow, PullRow}
use Rattle.ckpt_machine.specs.OpenGuards.{ReserveRow}
use Rattle.ckpt_machine.specs.UpdateGuards.{StageRefused, StageHeld, StageRow, CommitRow, ClaimOk, ClaimFree, ClaimRow, WithdrawOk, WithdrawRow}
use Rattle.ckpt_machine.specs.Machine.{Machine, CallState}
use Rattle.ckpt_machine.specs.Due.{Told}
use Rattle.ckpt_machine.proofs.Askers.{IsCopyAsk}
use Rattle.ckpt_machine.proofs.Refusing.{row_at_ckpt, at_node, at_none, at_node_alone, on_all, begins_on_active, by_update}

-- ---- an update asks for no other thing

-- what is asked for is an update
abbrev pub IsChange : Ask → Type 0
IsChange (asks.Change place update) = Unit {0}
IsChange ask = ⊥

pub changes : (op : Op) → IsUpdateWord (word_of_op op) → IsChange (asked op)
changes (ops.Create place update) is = tt
changes (ops.Delete place update) is = tt
changes (ops.Expire place update) is = tt
changes (ops.Write place update) is = tt
changes (ops.Over place update) is = tt
changes op is = absurd is

-- which is no copying
pub no_copying : (ask : Ask) → IsChange ask → IsCopyAsk ask → ⊥
no_copying (asks.Change place update) change copies = copies
no_copying ask change copies = change

-- ---- a beginning

no_end_at_once : (ask : Ask) → IsChange ask → ends_at_once ask ≡ true → ⊥
no_end_at_once (asks.Change place update) change is = cc is
no_end_at_once ask change is = absurd change

no_dispatch : (p : PendingCalls) (ask : Ask) (given : Given) → IsChange ask → IsGivenBy p ask given → ⊥
no_dispatch p (asks.Dispatch flags) given change is = change
no_dispatch p ask given change is = absurd is

-- no beginning answers an update OK
pub begin_not_done : (st : Standing) (op : Op) (answer : Answer) → IsUpdateWord (word_of_op op) → BeginRow st (asked op) (Some (Done answer)) → ⊥
begin_not_done st op answers.Nothing word row = no_end_at_once (asked op) (changes op word) row.1
begin_not_done st op (answers.Dispatched given) word row = no_dispatch st.pending (asked op) given (changes op word) row.1
begin_not_done st op answer word row = absurd row

-- ---- a step

-- a node has taken an update: what was staged there, or in one step, or element by element; or nothing is left of it
abbrev pub IsTakenOn : Verb → Option ℕ → Option ℕ → StepReply → Type 0
IsTakenOn verbs.Commit (Some k) (Some r) words.Ok = Unit {0}
IsTakenOn verbs.Apply (Some k) (Some r) words.Ok = Unit {0}
IsTakenOn verbs.Unmark (Some k) (Some r) words.Ok = Unit {0}
IsTakenOn verbs.Look k r words.Done = Unit {0}
IsTakenOn verb k r reply = ⊥

module _ (m : Machine) (s : CallState) (word : IsUpdateWord (word_of_op s.op)) (answer : Answer) where
  -- it asks for nothing else
  no_other : (ask : Ask) → asked s.op ≡ ask → IsChange ask
  no_other ask is = subst IsChange is (changes s.op word)

  goes_on : Some (Done answer) ≡ None → ⊥
  goes_on is = cc is

  refused : (error : AisError) (cause : Cause) → Some (Done answer) ≡ Some (Refused error cause) → ⊥
  refused error cause is = cc is

  lacked : Some (Done answer) ≡ Some NoMemory → ⊥
  lacked is = cc is

  -- a look that answers it OK finds nothing left of it
  look_done : (k r : Option ℕ) (reply : StepReply) → LookRow m s reply (Some (Done answer)) → IsTakenOn verbs.Look k r reply
  look_done k r words.Done row = tt
  look_done k r reply row = absurd row

  -- one that is held off is not answered OK
  held_off : (b : Bool) (by : CallId) → Some (Done answer) ≡ cond b (Some (Refused TryAgain (Holder by))) None → ⊥
  held_off true by is = refused TryAgain (Holder by) is
  held_off false by is = goes_on is

  stage_not_done : (update : Update) (k r : ℕ) (reply : StepReply) → StageRow m s update k r reply (Some (Done answer)) → ⊥
  stage_not_done update k r words.Ok row = goes_on row.1
  stage_not_done update k r words.Refused row = on_all m k r (StageRefused m s update k (Some (Done answer))) row (λ e x (by : StageRefused m s update k (Some (Done answer)) e x). refused by.why.error (refused_cause s.op by.why.index) by.answer)
  stage_not_done update k r (words.Held by) row = on_all m k r (λ e x. StageHeld m s.call by (Some (Done answer)) x) row (λ e x (held : StageHeld m s.call by (Some (Done answer)) x). held_off (is_live m.cluster by) by held.answer)
  stage_not_done update k r reply row = absurd row

  -- nor does a claim or a withdrawal answer it
  claim_not_done : (k r : ℕ) (reply : StepReply) → ClaimRow m s k r reply (Some (Done answer)) → ⊥
  claim_not_done k r words.Ok row = on_all m k r (λ e x. ClaimOk m s.call (Some (Done answer)) x) row (λ e x (ok : ClaimOk m s.call (Some (Done answer)) x). goes_on ok.answer)
  claim_not_done k r (words.Free count) row = on_all m k r (λ e x. ClaimFree count (Some (Done answer)) x) row (λ e x (free : ClaimFree count (Some (Done answer)) x). goes_on free.answer)
  claim_not_done k r (words.Held by) row = on_all m k r (λ e x. StageHeld m s.call by (Some (Done answer)) x) row (λ e x (held : StageHeld m s.call by (Some (Done answer)) x). held_off (is_live m.cluster by) by held.answer)
  claim_not_done k r reply row = absurd row

  withdraw_not_done : (k r : ℕ) (reply : StepReply) → WithdrawRow m s k r reply (Some (Done answer)) → ⊥
  withdraw_not_done k r words.Ok row = on_all m k r (λ e x. WithdrawOk m s.call k (Some (Done answer)) x) row (λ e x (ok : WithdrawOk m s.call k (Some (Done answer)) x). goes_on ok.answer)
  withdraw_not_done k r reply row = absurd row

  commit_done : (k r : Option ℕ) (reply : StepReply) (details : Details) → AtNode k r (λ k r. AsksUpdate m s (λ update ends. CommitRow m s.call update ends k r reply (Some (Done answer)) details)) → IsTakenOn verbs.Commit k r reply
  commit_done (Some k) (Some r) words.Ok details row = tt
  commit_done (Some k) (Some r) reply details row = absurd (by_update m s (λ update ends. CommitRow m s.call update ends k r reply (Some (Done answer)) details) row (λ update ends row. row))
  commit_done (Some k) None reply details row = absurd row
  commit_done None r reply details row = absurd row

  -- one that is refused, or held off, is not answered OK
  apply_done : (k r : Option ℕ) (reply : StepReply) (details : Details) → Row m s verbs.Apply (record { verb = verbs.Apply; ckpt = k; node = r; reply = reply; end = Some (Done answer); details = details }) → IsTakenOn verbs.Apply k r reply
  apply_done (Some k) (Some r) words.Ok details row = tt
  apply_done (Some k) (Some r) reply details row =
      let t : Told = record { verb = verbs.Apply; ckpt = Some k; node = Some r; reply = reply; end = Some (Done answer); details = details } in
      absurd (begins_on_active m s row.1 false k r t (ApplyOk m row.1 t) reply row.3 (λ ahead e x ok. cc ahead) refused)
  apply_done (Some k) None reply details row = absurd row
  apply_done None r reply details row = absurd row

  -- nor is a weak write that makes its marks, or goes on
  mark_not_done : (update : Update) (k r : ℕ) (t : Told) (reply : StepReply) → t.end ≡ Some (Done answer) → MarkRow m s update k r t reply → ⊥
  mark_not_done update k r t reply is row = begins_on_active m s update true k r t (MarkOk m update t) reply row (λ ahead e x (ok : MarkOk m update t e x). goes_on (sym is ∙ ok.answer)) (λ error cause ends. refused error cause (sym is ∙ ends))

  element_not_done : (update : Update) (k r : ℕ) (t : Told) (reply : StepReply) → t.end ≡ Some (Done answer) → ElementRow m s.call update k r t reply → ⊥
  element_not_done update k r t words.Ok is row = goes_on (sym is ∙ row.1)
  element_not_done update k r t reply is row = absurd row

  unmark_done : (k r : Option ℕ) (reply : StepReply) (details : Details) → Row m s verbs.Unmark (record { verb = verbs.Unmark; ckpt = k; node = r; reply = reply; end = Some (Done answer); details = details }) → IsTakenOn verbs.Unmark k r reply
  unmark_done (Some k) (Some r) words.Ok details row = tt
  unmark_done (Some k) (Some r) reply details row = absurd row.3
  unmark_done (Some k) None reply details row = absurd row
  unmark_done None r reply details row = absurd row

  -- a step that answers an update OK is a commit, or applies it, or ends its weak write, or finds nothing left of it
  pub done_by_taking : (verb : Verb) (k r : Option ℕ) (reply : StepReply) (details : Details) → Row m s verb (record { verb = verb; ckpt = k; node = r; reply = reply; end = Some (Done answer); details = details }) → IsTakenOn verb k r reply
  done_by_taking verbs.Commit k r reply details row = commit_done k r reply details row
  done_by_taking verbs.Apply k r reply details row = apply_done k r reply details row
  done_by_taking verbs.Unmark k r reply details row = unmark_done k r reply details row
  done_by_taking verbs.Mark k r reply details row = at_node k r _ row (λ q n p. mark_not_done p.1 q n (record { verb = verbs.Mark; ckpt = k; node = r; reply = reply; end = Some (Done answer); details = details }) reply refl p.3)
  done_by_taking verbs.Element k r reply details row = at_node k r _ row (λ q n p. element_not_done p.1 q n (record { verb = verbs.Element; ckpt = k; node = r; reply = reply; end = Some (Done answer); details = details }) reply refl p.3)
  done_by_taking verbs.Enter k r reply details row = at_node_alone k r _ row.0 (λ q p. no_other _ p.2)
  done_by_taking verbs.Open k r reply details row = row_at_ckpt k r _ row.0 (λ k p. no_other _ p.2.asks)
  done_by_taking verbs.Create k r reply details row = row_at_ckpt k r _ row.0 (λ k p. no_other _ p.2.asks)
  done_by_taking verbs.Reserve k r reply details row = at_node k r _ row.0 (λ k r p. reserve_not_asked k r p) where
    reserve_not_asked : (k r : ℕ) → AsksOpen s (λ name a. ReserveRow m s k r reply (Some (Done answer))) ⊎ ((asked s.op ≡ asks.Copy) × CopyReserveRow m s k r reply (Some (Done answer))) → ⊥
    reserve_not_asked k r (inl p) = no_other _ p.2.asks
    reserve_not_asked k r (inr p) = no_other _ p.0
  done_by_taking verbs.Finish k r reply details row = row_at_ckpt k r _ row.0 (λ k p. no_other _ p.2.asks)
  done_by_taking verbs.Undo k r reply details row = row_at_ckpt k r _ row.0 (λ k p. no_other _ p.2.asks)
  done_by_taking verbs.Stage k r reply details row = at_node k r _ row.0 (λ k r p. by_update m s (λ update ends. StageRow m s update k r reply (Some (Done answer))) p (λ update ends row. stage_not_done update k r reply row))
  done_by_taking verbs.Read k r reply details row = at_node k r _ row (λ k r p. no_other _ p.2)
  done_by_taking verbs.Status k r reply details row = at_node k r _ row (λ k r p. no_other _ p.1)
  done_by_taking verbs.Iter k r reply details row = at_node k r _ row.0 (λ k r p. no_other _ p.4)
  done_by_taking verbs.Next k r reply details row = at_node k r _ row (λ k r p. no_other _ p.1)
  done_by_taking verbs.Pull k r reply details row = at_node k r _ row.0 (λ q n p. pull_not_asked q n (record { verb = verbs.Pull; ckpt = k; node = r; reply = reply; end = Some (Done answer); details = details }) p) where
    pull_not_asked : (k r : ℕ) (t : Told) → ((place : ℕ) × (timeout : Option ℤ) × (asked s.op ≡ asks.Synchronize place timeout) × PullRow m s k r t reply) ⊎ ((asked s.op ≡ asks.Copy) × CopyPullRow m s k r t reply) → ⊥
    pull_not_asked k r t (inl p) = no_other _ p.2
    pull_not_asked k r t (inr p) = no_other _ p.0
  done_by_taking verbs.Install k r reply details row = at_node k r _ row.0 (λ k r p. no_other _ p.2)
  done_by_taking verbs.Hold k r reply details row = at_node k r _ row.0 (λ k r p. no_other _ p.1)
  done_by_taking verbs.Activate k r reply details row = at_node k r _ row.0 (λ k r p. no_other _ p.1)
  done_by_taking verbs.Leave k r reply details row = at_none k r _ row.0 (λ p. no_other _ p.0)
  done_by_taking verbs.Close k r reply details row = row_at_ckpt k r _ row.0 (λ k p. no_other _ p.1)
  done_by_taking verbs.Unlink k r reply details row = row_at_ckpt k r _ row.0 (λ k p. no_other _ p.1)
  done_by_taking verbs.Retain k r reply details row = row_at_ckpt k r _ row.0 (λ k p. no_other _ p.2)
  done_by_taking verbs.Claim k r reply details row = at_node k r _ row.0 (λ k r p. by_update m s (λ update ends. ClaimRow m s k r reply (Some (Done answer))) p (λ update ends row. claim_not_done k r reply row))
  done_by_taking verbs.Withdraw k r reply details row = at_node k r _ row.0 (λ k r p. by_update m s (λ update ends. WithdrawRow m s k r reply (Some (Done answer))) p (λ update ends row. withdraw_not_done k r reply row))
  done_by_taking verbs.Complete k r reply details row = at_node k r _ row.0 (λ k r p. no_other _ p.0)
  done_by_taking verbs.Look k r reply details row = look_done k r reply row.2
