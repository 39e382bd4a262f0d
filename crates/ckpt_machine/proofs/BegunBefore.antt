-- Each call in hand began in the log before: with its operation, and on the checkpoint that it keeps.
use Rattle.std.proofs.Common.{◌≡◌, ◌⊎◌, ℕ, inl, inr, List, [], ◌∷◌, ◌++◌, Option, Some, None, refl, sym, ap, subst, ◌∙◌, append_assoc}
use Rattle.std.specs.Prelude.{IfSome}
use Rattle.std.proofs.lemmas.Option.{same_Some}
use Rattle.ckpt_machine.proofs.Dropped.{held_as}
use Rattle.ckpt_machine.proofs.Whose.{put_who-cases}
use Rattle.node_msgs.specs.declared.details.Details.{Details}
use Rattle.node_msgs.specs.declared.steps.StepReply.{StepReply}
use Rattle.node_msgs.specs.declared.steps.StepReply.TheVariants as words
use Rattle.node_msgs.specs.declared.steps.Verb.{Verb}
use Rattle.node_msgs.specs.declared.steps.Verb.TheVariants as verbs
use Rattle.ckpt_types.specs.declared.words.OpWord.{OpWord}
use Rattle.ckpt_types.specs.declared.words.OpWord.TheVariants as opwords
use Rattle.ckpt_types.specs.declared.operation.Op.TheVariants as ops
use Rattle.ckpt_types.specs.declared.update.Update.TheVariants as updates
use Rattle.ckpt_types.specs.Asks.{Ask, asked, update_of}
use Rattle.ckpt_types.specs.Asks as asks
use Rattle.ckpt_types.specs.OpWord.{word_of_op, stepped_as}
use Rattle.client_handles.specs.ClientState.{ClientState}
use Rattle.ckpt_machine.specs.After.{call_begun, kept_behind, kept_by, changed, step_of, after}
use Rattle.ckpt_types.specs.declared.answers.Outcome.{Outcome}
use Rattle.ckpt_types.specs.declared.identities.CallId.{CallId}
use Rattle.ckpt_types.specs.declared.operation.Op.{Op}
use Rattle.run_labels.specs.declared.labels.Label.{Label}
use Rattle.run_labels.specs.declared.labels.Label.TheVariants as labels
use Rattle.cluster_record.specs.Calls.{left}
use Rattle.ckpt_machine.specs.Acknowledged.{HasBegun, IsUpdateWord}
use Rattle.ckpt_machine.specs.Driving.{Kept}
use Rattle.ckpt_machine.specs.Guards.{Allowed, Row}
use Rattle.ckpt_machine.specs.InHand.{IsUpdateAsk}
use Rattle.ckpt_machine.specs.Invariant.{Invariant}
use Rattle.ckpt_machine.specs.Machine.{Machine, CallState, who}
use Rattle.ckpt_machine.specs.Runs.{last, IsRun}
use Rattle.cluster_record.specs.RecordState.{RecordState}
use Rattle.ckpt_machine.specs.Tables.{ckpt_of_handle, handle_asked}
use Rattle.ckpt_machine.specs.WasAsked.{IsStepAt, WasAsked}
use Rattle.ckpt_machine.specs.Due.{IsDue, kept_reserving}
use Rattle.ckpt_machine.proofs.Askers.{IsCopyAsk, copy_ask, copy_op, kept_still}
use Rattle.ckpt_machine.proofs.OptionLemmas.{IfSome-at, IfSome-from}
use Rattle.ckpt_machine.proofs.Quiet.{quiet}
use Rattle.ckpt_machine.proofs.Histories.{run_history, HasHistory, either_copy, follows}
use Rattle.ckpt_machine.proofs.Runs.{along}
use Rattle.ckpt_machine.proofs.Starting.{first_kept, begun_as, begun_goes}

-- the checkpoint on which a call began, which keeps this one: a copying began on none
abbrev pub begun_on : Ask → Option ℕ → Option ℕ
begun_on asks.Copy k = None
begun_on ask k = k

-- any other call on the one that it keeps
pub begun_on-other : (ask : Ask) (k : Option ℕ) → (IsCopyAsk ask → ⊥) → begun_on ask k ≡ k
begun_on-other asks.Copy k other = absurd (other tt)
begun_on-other ask k other = refl

-- the call is a copying that has reserved for this checkpoint by a step in the log
pub record HasReservedIn (log : List Label) (call : CallId) (k : ℕ) : Type 0 where
  pub before : List Label
  pub behind : List Label
  pub step : Label
  pub log_is : log ≡ before ++ step ∷ behind
  pub reserved : IsStepAt step call k

-- a call with this operation, which keeps this checkpoint, began in the log; and a copying has reserved for it there
pub record HasBegunAs (log : List Label) (call : CallId) (op : Op) (ckpt : Option ℕ) : Type 0 where
  pub begun : HasBegun log call op (begun_on (asked op) ckpt)
  pub reserved : IsCopyAsk (asked op) → IfSome ckpt (HasReservedIn log call)

-- each call that this state has in hand began in the log
abbrev pub AllBegan : List Label → Machine → Type 0
AllBegan log m = (s : CallState) → m.in_hand (who s) ≡ Some s → HasBegunAs log s.call s.op s.kept.ckpt

-- so it was asked for the update that it does there
pub was_asked : (log : List Label) (s : CallState) (k : ℕ) → HasBegunAs log s.call s.op s.kept.ckpt → s.kept.ckpt ≡ Some k → IsUpdateAsk (asked s.op) → WasAsked log k s.call (update_of s.op)
was_asked log s k began kept asks_it = by_op s.op began.begun began.reserved asks_it
  where
    for_it : (op : Op) → IsUpdateWord (word_of_op op) → (IsCopyAsk (asked op) → ⊥) → HasBegun log s.call op (begun_on (asked op) s.kept.ckpt) → WasAsked log k s.call (update_of op)
    for_it op word other begun = inl (record { op = op; asks = word; begun = subst (HasBegun log s.call op) (begun_on-other (asked op) s.kept.ckpt other ∙ kept) begun; update_is = refl })

    copies : HasBegun log s.call ops.Copy None → IfSome s.kept.ckpt (HasReservedIn log s.call) → WasAsked log k s.call updates.Nothing
    copies begun reserved =
        let step = IfSome-at s.kept.ckpt (HasReservedIn log s.call) reserved k kept in
        inr (record { begun = begun; before = step.before; behind = step.behind; step = step.step; log_is = step.log_is; reserved = step.reserved; update_is = refl })

    by_op : (op : Op) → HasBegun log s.call op (begun_on (asked op) s.kept.ckpt) → (IsCopyAsk (asked op) → IfSome s.kept.ckpt (HasReservedIn log s.call)) → IsUpdateAsk (asked op) → WasAsked log k s.call (update_of op)
    by_op ops.Copy begun reserved is = copies begun (reserved tt)
    by_op (ops.Create p u) begun reserved is = for_it (ops.Create p u) tt (λ none. none) begun
    by_op (ops.Delete p u) begun reserved is = for_it (ops.Delete p u) tt (λ none. none) begun
    by_op (ops.Expire p u) begun reserved is = for_it (ops.Expire p u) tt (λ none. none) begun
    by_op (ops.Write p u) begun reserved is = for_it (ops.Write p u) tt (λ none. none) begun
    by_op (ops.Over p u) begun reserved is = for_it (ops.Over p u) tt (λ none. none) begun
    by_op op begun reserved is = absurd is

-- it did so in a longer log too
pub begun_longer : (log : List Label) (l : Label) (call : CallId) (op : Op) (k : Option ℕ) → HasBegun log call op k → HasBegun (log ++ l ∷ []) call op k
begun_longer log l call op k begun = record {
  before = begun.before;
  behind = begun.behind ++ l ∷ [];
  end = begun.end;
  details = begun.details;
  log_is = ap (λ (xs : List Label). xs ++ l ∷ []) begun.log_is ∙ append_assoc begun.before (labels.Began call op begun.end begun.details ∷ begun.behind) (l ∷ []);
  goes = begun.goes;
  ckpt_is = begun.ckpt_is;
}

-- and in one that goes on from it
pub begun_more : (log more : List Label) (call : CallId) (op : Op) (k : Option ℕ) → HasBegun log call op k → HasBegun (log ++ more) call op k
begun_more log more call op k begun = record {
  before = begun.before;
  behind = begun.behind ++ more;
  end = begun.end;
  details = begun.details;
  log_is = ap (λ (xs : List Label). xs ++ more) begun.log_is ∙ append_assoc begun.before (labels.Began call op begun.end begun.details ∷ begun.behind) more;
  goes = begun.goes;
  ckpt_is = begun.ckpt_is;
}

-- as it has reserved there
reserved_more : (log more : List Label) (call : CallId) (k : ℕ) → HasReservedIn log call k → HasReservedIn (log ++ more) call k
reserved_more log more call k has = record {
  before = has.before;
  behind = has.behind ++ more;
  step = has.step;
  log_is = ap (λ (xs : List Label). xs ++ more) has.log_is ∙ append_assoc has.before (has.step ∷ has.behind) more;
  reserved = has.reserved;
}

pub began_more : (log more : List Label) (call : CallId) (op : Op) (ckpt : Option ℕ) → HasBegunAs log call op ckpt → HasBegunAs (log ++ more) call op ckpt
began_more log more call op ckpt began = record {
  begun = begun_more log more call op (begun_on (asked op) ckpt) began.begun;
  reserved = λ copies. IfSome-from ckpt (HasReservedIn (log ++ more) call) (λ k is. reserved_more log more call k (IfSome-at ckpt (HasReservedIn log call) (began.reserved copies) k is));
}

-- a call that begins and goes on begins there
begins_there : (log : List Label) (call : CallId) (op : Op) (end : Option Outcome) (details : Details) (s : CallState) → call_begun end call op (first_kept (last log) call op) ≡ Some s → HasBegunAs (log ++ labels.Began call op end details ∷ []) s.call s.op s.kept.ckpt
begins_there log call op end details s is =
    let (d, driven, same) = begun_as end call op (first_kept (last log) call op) s is in
    subst (λ (z : CallState). HasBegunAs (log ++ labels.Began call op end details ∷ []) z.call z.op z.kept.ckpt) same (record {
      begun = record { before = log; behind = []; end = end; details = details; log_is = refl; goes = begun_goes end call op (first_kept (last log) call op) s is; ckpt_is = on_its (asked op) };
      reserved = λ copies. none_yet (asked op) copies;
    })
  where
    t : ClientState
    t = (last log).tables call.actor

    on_its : (ask : Ask) → begun_on ask (ckpt_of_handle (handle_asked ask t)) ≡ ckpt_of_handle (handle_asked ask t)
    on_its asks.Copy = refl
    on_its ask = refl

    none_yet : (ask : Ask) → IsCopyAsk ask → IfSome (ckpt_of_handle (handle_asked ask t)) (HasReservedIn (log ++ labels.Began call op end details ∷ []) call)
    none_yet asks.Copy copies = tt
    none_yet ask none = absurd none

-- what a call keeps behind a step is what it kept, or it has reserved for this checkpoint
kept-cases : (m : Machine) (s : CallState) (verb : Verb) (k : Option ℕ) (reply : StepReply) → (kept_by m s verb k reply ≡ s.kept) ⊎ ((j : ℕ) × (verb ≡ verbs.Reserve) × (k ≡ Some j) × (reply ≡ words.Ok) × (kept_by m s verb k reply ≡ kept_reserving (asked s.op) j m.cluster s.kept))
kept-cases m s verbs.Reserve (Some j) words.Ok = inr (j, refl, refl, refl, refl)
kept-cases m s verbs.Reserve (Some j) reply = inl refl
kept-cases m s verbs.Reserve None reply = inl refl
kept-cases m s verb k reply = inl refl

module _ (log : List Label) (inv : Invariant (last log)) (history : HasHistory (last log)) (began : AllBegan log (last log)) where
  longer : (l : Label) → AllBegan (log ++ l ∷ []) (last log)
  longer l s held = began_more log (l ∷ []) s.call s.op s.kept.ckpt (began s held)

  -- a call that takes a step has begun, with what it keeps behind that
  step_began : (s : CallState) (call : CallId) (op : OpWord) (verb : Verb) (k r : Option ℕ) (reply : StepReply) (end : Option Outcome) (details : Details) → (last log).in_hand (who s) ≡ Some s → s.call ≡ call → word_of_op s.op ≡ op
      → HasBegunAs (log ++ labels.Stepped call op verb k r reply end details ∷ []) s.call s.op (kept_by (last log) s verb k reply).ckpt
  step_began s call op verb k r reply end details held call_is word = elim (kept-cases (last log) s verb k reply) [
    | inl same ↦ subst (λ (kept : Kept). HasBegunAs (log ++ l ∷ []) s.call s.op kept.ckpt) (sym same) (longer l s held)
    | inr (j, verb_is, k_is, reply_is, kept_is) ↦ by_copy (either_copy (asked s.op)) j verb_is k_is reply_is kept_is
  ]
    where
      l : Label
      l = labels.Stepped call op verb k r reply end details

      by_copy : IsCopyAsk (asked s.op) ⊎ (IsCopyAsk (asked s.op) → ⊥) → (j : ℕ) → verb ≡ verbs.Reserve → k ≡ Some j → reply ≡ words.Ok → kept_by (last log) s verb k reply ≡ kept_reserving (asked s.op) j (last log).cluster s.kept → HasBegunAs (log ++ l ∷ []) s.call s.op (kept_by (last log) s verb k reply).ckpt
      by_copy (inr other) j verb_is k_is reply_is kept_is = subst (λ (kept : Kept). HasBegunAs (log ++ l ∷ []) s.call s.op kept.ckpt) (sym (kept_still (last log) s verb k reply other)) (longer l s held)
      by_copy (inl copies) j verb_is k_is reply_is kept_is =
          let asks_is : asked s.op ≡ asks.Copy = copy_ask (asked s.op) copies in
          let now : (kept_by (last log) s verb k reply).ckpt ≡ Some j = ap (λ (kept : Kept). kept.ckpt) kept_is ∙ ap (λ ask. (kept_reserving ask j (last log).cluster s.kept).ckpt) asks_is in
          let word_is : op ≡ opwords.Copy = sym word ∙ ap word_of_op (copy_op s.op asks_is) in
          record {
            begun = subst (HasBegun (log ++ l ∷ []) s.call s.op) (ap (λ ask. begun_on ask s.kept.ckpt) asks_is ∙ sym (ap (λ ask. begun_on ask (kept_by (last log) s verb k reply).ckpt) asks_is)) (longer l s held).begun;
            reserved = λ it. subst (λ o. IfSome o (HasReservedIn (log ++ l ∷ []) s.call)) (sym now) (record { before = log; behind = []; step = l; log_is = refl; reserved = (sym call_is, word_is, verb_is, k_is, reply_is) });
          }

  -- a call that goes on after a step is the one that took it
  left_same : (behind : List Label) (s : CallState) (verb : Verb) (k r : Option ℕ) (reply : StepReply) (R : RecordState) (end : Option Outcome) (z : CallState) → HasBegunAs behind s.call s.op (kept_by (last log) s verb k reply).ckpt → left end (kept_behind (last log) s R verb k r reply) ≡ Some z → HasBegunAs behind z.call z.op z.kept.ckpt
  left_same behind s verb k r reply R None z begun is = subst (λ (z : CallState). HasBegunAs behind z.call z.op z.kept.ckpt) (same_Some (kept_behind (last log) s R verb k r reply) z is) begun
  left_same behind s verb k r reply R (Some e) z begun is = absurd (cc is)

  -- after any label that is allowed and due
  after_began : (l : Label) → Allowed (last log) l → IsDue (last log) l → AllBegan (log ++ l ∷ []) (after (last log) l)
  after_began (labels.Began call op end details) allowed due s held =
      elim (put_who-cases (last log).in_hand (stepped_as call (word_of_op op)) (call_begun end call op (first_kept (last log) call op)) (who s) s held) [
        | inl own ↦ begins_there log call op end details s own.1
        | inr other ↦ longer (labels.Began call op end details) s other.1
      ]
  after_began (labels.Stepped call op verb k r reply end details) allowed due z in_hand =
      let s = due.state in
      let held : (last log).in_hand (who s) ≡ Some s = held_as (last log) call op s due.in_hand due.call_is due.word in
      let same : allowed.state ≡ s = same_Some allowed.state s (sym allowed.in_hand ∙ due.in_hand) in
      let then = follows (last log) inv history s held (record { verb = verb; ckpt = k; node = r; reply = reply; end = end; details = details }) (subst (λ z. Row (last log) z verb _) same allowed.row) in
      let there = subst (λ o. (step_of (last log) o verb k r reply end).in_hand (who z) ≡ Some z) due.in_hand in_hand in
      let R : RecordState = (changed (last log) s verb k r reply).cluster in
      elim (put_who-cases (changed (last log) s verb k r reply).in_hand (who s) (left end (kept_behind (last log) s R verb k r reply)) (who z) z there) [
        | inl own ↦ left_same (log ++ labels.Stepped call op verb k r reply end details ∷ []) s verb k r reply R end z (step_began s call op verb k r reply end details held due.call_is due.word) own.1
        | inr other ↦ longer (labels.Stepped call op verb k r reply end details) z (then.in_hand (who z) z other.1)
      ]
  after_began l allowed due s held = longer l s ((quiet (last log) inv l tt due).held (who s) s held)

-- so in a run
pub each_began : (log : List Label) → IsRun log → AllBegan log (last log)
each_began log run = along AllBegan (λ front l before allowed due began. let (inv, history) = run_history front before in after_began front inv history began l allowed due) [] log run (λ s held. absurd (cc held))

pub all_began : (log : List Label) → IsRun log → (s : CallState) → (last log).in_hand (who s) ≡ Some s → HasBegun log s.call s.op (begun_on (asked s.op) s.kept.ckpt)
all_began log run s held = (each_began log run s held).begun
