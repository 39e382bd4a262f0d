-- A call that goes on behind its beginning is in hand, and something drives it.
use Rattle.std.proofs.Common.{◌≡◌, ℕ, Option, Some, None, Bool, true, false, cond, not, ◌||◌, refl, sym, ap, ◌∙◌}
use Rattle.std.specs.Option.{option_map}
use Rattle.std.specs.Prelude.{is_none}
use Rattle.std.proofs.lemmas.Option.{same_Some}
use Rattle.ckpt_types.specs.declared.answers.Answer.TheVariants as answers
use Rattle.ckpt_types.specs.declared.answers.Outcome.{Outcome}
use Rattle.ckpt_types.specs.declared.answers.Outcome.TheVariants.{Done, Refused, NoMemory}
use Rattle.ckpt_types.specs.declared.identities.ActorName.{ActorName}
use Rattle.ckpt_types.specs.declared.identities.CallId.{CallId}
use Rattle.ckpt_types.specs.declared.operation.Op.{Op}
use Rattle.ckpt_types.specs.declared.operation.Op.TheVariants as ops
use Rattle.node_msgs.specs.declared.details.Details.{Details}
use Rattle.client_handles.specs.declared.handle_view.HandleView.{HandleView}
use Rattle.cluster_record.specs.RecordState.{RecordState}
use Rattle.ckpt_types.specs.Asks.{Ask, asked}
use Rattle.ckpt_types.specs.Asks as asks
use Rattle.ckpt_types.specs.OpWord.{is_async, word_of_op, stepped_as}
use Rattle.ckpt_machine.specs.Beginning.{Standing}
use Rattle.ckpt_machine.specs.BeginRows.{goes_on_behind, MeetsNoRefusal, BeginRow}
use Rattle.ckpt_machine.specs.Drivers.{Driver}
use Rattle.ckpt_machine.specs.Driving.{Kept, on_kept, driver_start, change_start, kind_of_change}
use Rattle.ckpt_machine.specs.Machine.{Machine, CallState}
use Rattle.ckpt_machine.specs.After.{goes_on, started_call, call_begun, after_beginning}
use Rattle.ckpt_machine.specs.Due.{asked_handle, kept_at_beginning, IsBegun, standing_of}
use Rattle.ckpt_machine.specs.Tables.{ckpt_of_handle}
use Rattle.ckpt_machine.proofs.BeginRows.{row_of}
use Rattle.ckpt_machine.proofs.Whose.{put_who-here}

-- ---- what a beginning that goes on has passed

-- the client is live, and nothing else is bad of the handle
pub live_client : (live bad : Bool) → (not live || bad) ≡ false → (live ≡ true) × (bad ≡ false)
live_client true bad good = (refl, good)
live_client false bad good = absurd (cc good)

-- the place stands for one
pub handle_there : (h : Option HandleView) → is_none h ≡ false → (x : HandleView) × (h ≡ Some x)
handle_there None good = absurd (cc good)
handle_there (Some x) good = (x, refl)

-- it takes steps, as neither the end of an iteration nor a dispatch does
abbrev pub takes_steps : Ask → Bool
takes_steps (asks.EndIteration iteration) = false
takes_steps (asks.Dispatch flags) = false
takes_steps ask = true

-- a call that goes on has met no refusal, and takes steps
pub record HasPassed (st : Standing) (ask : Ask) : Type 0 where
  pub unrefused : MeetsNoRefusal st ask
  pub takes : takes_steps ask ≡ true

-- what goes on unanswered takes steps
behind_takes : (ask : Ask) → goes_on_behind ask ≡ true → takes_steps ask ≡ true
behind_takes (asks.EndIteration iteration) goes = absurd (cc goes)
behind_takes (asks.Dispatch flags) goes = absurd (cc goes)
behind_takes ask goes = refl

-- so does an asynchronous call
async_takes : (op : Op) → is_async (word_of_op op) ≡ true → takes_steps (asked op) ≡ true
async_takes (ops.OpenAsync place invocation name flags a) async = refl
async_takes (ops.SyncAsync place invocation) async = refl
async_takes op async = absurd (cc async)

-- by its row
pub row_passed : (st : Standing) (op : Op) (end : Option Outcome) → BeginRow st (asked op) end → goes_on (word_of_op op) end ≡ true → HasPassed st (asked op)
row_passed st op None row goes = record { unrefused = row.0; takes = behind_takes (asked op) row.1 }
row_passed st op (Some (Done answers.Nothing)) row goes = record { unrefused = row.0; takes = async_takes op goes }
row_passed st op (Some (Done (answers.Dispatched given))) row goes = record { unrefused = row.0; takes = async_takes op goes }
row_passed st op (Some (Refused error cause)) row goes = absurd (cc goes)
row_passed st op (Some NoMemory) row goes = absurd (cc goes)
row_passed st op end row goes = absurd row

-- where it is due
pub begun_passed : (m : Machine) (call : CallId) (op : Op) (end : Option Outcome) (details : Details) → IsBegun m call op end details → goes_on (word_of_op op) end ≡ true → HasPassed (standing_of m call.actor op) (asked op)
begun_passed m call op end details is = row_passed (standing_of m call.actor op) op end (row_of (standing_of m call.actor op) (asked op) is.built end is.answer)

-- ---- what drives it

-- one on a handle keeps the checkpoint of it
kept_starts : (live : Bool) (h : Option HandleView) (start : ℕ → Driver) → (not live || is_none h) ≡ false → (d : Driver) × (on_kept (ckpt_of_handle h) start ≡ Some d)
kept_starts live None start good = absurd (let missing = (live_client live true good).1 in cc missing)
kept_starts live (Some x) start good = (start x.id, refl)

-- what is asked for, and has passed, drives a call
pub goes_on_driven : (R : RecordState) (a : ActorName) (st : Standing) (call : CallId) (ask : Ask) → HasPassed st ask → (d : Driver) × (driver_start call ask (kept_at_beginning R a st.handle) ≡ Some d)
goes_on_driven R a st call (asks.Enter r version callbacks) passed = (_, refl)
goes_on_driven R c st call (asks.Open place name flags timeout a) passed = (_, refl)
goes_on_driven R a st call (asks.Change place update) passed = by_all (kept_at_beginning R a st.handle).all
  where
    by_all : (all : Bool) → (d : Driver) × (change_start call all (kind_of_change (kept_at_beginning R a st.handle).weak update) (ckpt_of_handle st.handle) ≡ Some d)
    by_all true = kept_starts st.live st.handle _ passed.unrefused.handle
    by_all false = kept_starts st.live st.handle _ passed.unrefused.handle
goes_on_driven R a st call (asks.Read place elements) passed = kept_starts st.live st.handle _ passed.unrefused.handle
goes_on_driven R a st call (asks.Status place) passed = kept_starts st.live st.handle _ passed.unrefused.handle
goes_on_driven R a st call (asks.Iterate iteration place chosen time) passed = kept_starts st.live st.handle _ passed.unrefused.handle
goes_on_driven R a st call (asks.Next iteration) passed = kept_starts st.live st.handle _ passed.unrefused.handle
goes_on_driven R a st call (asks.EndIteration iteration) passed = absurd (let none = passed.takes in cc none)
goes_on_driven R a st call (asks.Close place) passed = kept_starts st.live st.handle _ passed.unrefused.handle
goes_on_driven R a st call (asks.Retain place duration) passed = kept_starts st.live st.handle _ passed.unrefused.handle
goes_on_driven R a st call (asks.Unlink name) passed = (_, refl)
goes_on_driven R a st call asks.Leave passed = (_, refl)
goes_on_driven R a st call (asks.Synchronize place timeout) passed = kept_starts st.live st.handle _ passed.unrefused.handle
goes_on_driven R a st call (asks.SetActive place) passed = kept_starts st.live st.handle _ passed.unrefused.handle
goes_on_driven R a st call (asks.Dispatch flags) passed = absurd (let none = passed.takes in cc none)
goes_on_driven R a st call asks.Copy passed = (_, refl)

-- ---- in hand behind its beginning

-- what a call keeps that begins in this state
abbrev pub first_kept : Machine → CallId → Op → Kept
first_kept m call op = kept_at_beginning m.cluster call.actor (asked_handle m call.actor op)

-- where it goes on and something drives it, it is in hand with that
pub driven_begun : (end : Option Outcome) (call : CallId) (op : Op) (kept : Kept) (d : Driver) → goes_on (word_of_op op) end ≡ true → driver_start call (asked op) kept ≡ Some d → call_begun end call op kept ≡ Some (started_call call op kept d)
driven_begun end call op kept d goes driven = ap (λ b. cond b (option_map (started_call call op kept) (driver_start call (asked op) kept)) None) goes ∙ ap (option_map (started_call call op kept)) driven

-- where it does not, it is not
pub none_begun : (end : Option Outcome) (call : CallId) (op : Op) (kept : Kept) → goes_on (word_of_op op) end ≡ false → call_begun end call op kept ≡ None
none_begun end call op kept ends = ap (λ b. cond b (option_map (started_call call op kept) (driver_start call (asked op) kept)) None) ends

-- one that is in hand behind its beginning goes on
pub begun_goes : (end : Option Outcome) (call : CallId) (op : Op) (kept : Kept) (s : CallState) → call_begun end call op kept ≡ Some s → goes_on (word_of_op op) end ≡ true
begun_goes end call op kept s is = by_test (goes_on (word_of_op op) end) is where
  by_test : (b : Bool) → cond b (option_map (started_call call op kept) (driver_start call (asked op) kept)) None ≡ Some s → b ≡ true
  by_test true is = refl
  by_test false is = absurd (cc is)

-- and is as it began, with what drives it
pub begun_as : (end : Option Outcome) (call : CallId) (op : Op) (kept : Kept) (s : CallState) → call_begun end call op kept ≡ Some s
    → (d : Driver) × (driver_start call (asked op) kept ≡ Some d) × (started_call call op kept d ≡ s)
begun_as end call op kept s is = by_driver (driver_start call (asked op) kept) refl (sym (ap (λ b. cond b (option_map (started_call call op kept) (driver_start call (asked op) kept)) None) (begun_goes end call op kept s is)) ∙ is) where
  by_driver : (o : Option Driver) → driver_start call (asked op) kept ≡ o → option_map (started_call call op kept) o ≡ Some s
      → (d : Driver) × (driver_start call (asked op) kept ≡ Some d) × (started_call call op kept d ≡ s)
  by_driver None starts is = absurd (cc is)
  by_driver (Some d) starts is = (d, starts, same_Some (started_call call op kept d) s is)

-- A CALL THAT GOES ON IS IN HAND, AND DRIVEN
pub goes_on_in_hand : (m : Machine) (call : CallId) (op : Op) (end : Option Outcome) (details : Details) → IsBegun m call op end details → goes_on (word_of_op op) end ≡ true
    → (d : Driver) × (driver_start call (asked op) (first_kept m call op) ≡ Some d) × ((after_beginning m call op end).in_hand (stepped_as call (word_of_op op)) ≡ Some (started_call call op (first_kept m call op) d))
goes_on_in_hand m call op end details is goes =
    let (d, driven) = goes_on_driven m.cluster call.actor (standing_of m call.actor op) call (asked op) (begun_passed m call op end details is goes) in
    (d, driven, put_who-here m.in_hand (stepped_as call (word_of_op op)) (call_begun end call op (first_kept m call op)) ∙ driven_begun end call op (first_kept m call op) d goes driven)
