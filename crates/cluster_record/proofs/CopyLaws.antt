-- That an end with OK leaves a copying nothing to copy, and which steps of the record it takes.
use Rattle.std.proofs.Common.{◌≡◌, ℕ, Bool, true, false, cond, List, [], ◌∷◌, ◌==◌, ℤ, refl, sym, ap, subst, ◌∙◌}
use Rattle.std.specs.Prelude.{All, Option, Some, None, find, slice_index}
use Rattle.std.proofs.lemmas.Bool.{eqb-true, eq-eqb}
use Rattle.std.proofs.lemmas.List.Elements.{All-nil, All-cons}
use Rattle.std.proofs.lemmas.Option.{same_Some}
use Rattle.ckpt_types.specs.declared.ais_error.AisError.TheVariants.{TryAgain}
use Rattle.ckpt_types.specs.declared.answers.Answer.{Answer}
use Rattle.ckpt_types.specs.declared.answers.Cause.TheVariants.{Generations}
use Rattle.ckpt_types.specs.declared.answers.Outcome.TheVariants.{Done, Refused}
use Rattle.ckpt_types.specs.declared.identities.CallId.{CallId}
use Rattle.node_msgs.specs.declared.next.Next.{Next}
use Rattle.node_msgs.specs.declared.next.Next.TheVariants.{Serve, Event, End}
use Rattle.node_msgs.specs.declared.next.RecordStep.{RecordStep}
use Rattle.node_msgs.specs.declared.next.RecordStep.TheVariants as events
use Rattle.node_msgs.specs.declared.replies.Reply.{Reply}
use Rattle.node_msgs.specs.declared.replies.Reply.TheVariants as replies
use Rattle.node_msgs.specs.Steps.{verb_of, word_of}
use Rattle.node_msgs.specs.declared.steps.Verb.{Verb}
use Rattle.node_msgs.specs.declared.steps.Verb.TheVariants as verbs
use Rattle.node_msgs.specs.declared.steps.StepReply.{StepReply}
use Rattle.node_msgs.specs.declared.steps.StepReply.TheVariants as words
use Rattle.cluster_record.specs.declared.calls.UpdatePhase.{UpdatePhase}
use Rattle.cluster_record.specs.declared.calls.UpdatePhase.TheVariants as updating
use Rattle.cluster_record.specs.declared.copying.Copying.{Copying}
use Rattle.cluster_record.specs.declared.copying.CopyPhase.{CopyPhase}
use Rattle.cluster_record.specs.declared.copying.CopyPhase.TheVariants.{Reserved, Staging, PulledActive, PulledStaged, Committing}
use Rattle.cluster_record.specs.declared.entries.Entry.{Entry}
use Rattle.cluster_record.specs.DueCopy.{CopyState, copy_told, complete_in, behind_completion, behind_completion_in, complete_done, complete_taken, copy_end, copy_outcome, copy_outcome_by, copy_told_by, done_by, lacks_replica, pull_taken, copy_at, copy_next, copy_on, copy_taken, copy_taken_by, next_to_copy, onward, phase_next, pull_at, reserve_next, reserve_taken, reserved_next, staged_next, staging_next, unless_done}
use Rattle.cluster_record.specs.DueUpdate.{UpdateState, all_staged, by_phase, claim_at, commit_at, commit_first, stage_at, update_led, update_next, update_on}
use Rattle.cluster_record.specs.Ends.{refused_end, served_done}
use Rattle.cluster_record.specs.LookUps.{identity_in}
use Rattle.cluster_record.specs.Placement.{is_all}
use Rattle.cluster_record.specs.RecordState.{RecordState, entry_of, first_complete}
use Rattle.cluster_record.specs.StepDone.{StepDone, done_of, first_lacking, last_having, names_live}

-- ---- its end

-- where it ends with OK by a look, its node lacks no replica
abbrev EndsOk : Next → Type 0
EndsOk (End (Done answer)) = Unit {0}
EndsOk next = ⊥

abbrev LacksNone : RecordState → CopyState → Next → Type 0
LacksNone R s next = EndsOk next → next_to_copy s.node R.entries ≡ None

reserve-ok : (r : ℕ) (first : Option ℕ) → EndsOk (reserve_next r first) → first ≡ None
reserve-ok r None ok = refl
reserve-ok r (Some k) ok = absurd ok

onward-ok : (R : RecordState) (s : CopyState) → LacksNone R s (onward R s)
onward-ok R s = reserve-ok s.node (next_to_copy s.node R.entries)

own-ok : (R : RecordState) (s : CopyState) (next : Next) → LacksNone R s (unless_done (onward R s) next)
own-ok R s (End (Done answer)) = onward-ok R s
own-ok R s next = λ ok. absurd ok

pull-ok : (R : RecordState) (s : CopyState) (k : ℕ) (at : Option ℕ) → LacksNone R s (pull_at s.call k at)
pull-ok R s k None ok = absurd ok
pull-ok R s k (Some r) ok = absurd ok

reserved-ok : (R : RecordState) (s : CopyState) (k : ℕ) (e : Entry) (all : Bool) → LacksNone R s (reserved_next R s k e all)
reserved-ok R s k e true = own-ok R s (update_next R s.staging)
reserved-ok R s k e false = pull-ok R s k e.active

staged-ok : (R : RecordState) (s : CopyState) (k : ℕ) (e : Entry) (all : Bool) → LacksNone R s (staged_next R s k e all)
staged-ok R s k e true = pull-ok R s k (first_complete 0 e.complete)
staged-ok R s k e false = own-ok R s (update_next R s.staging)

never_ok : (s : CopyState) (k pulled present : ℕ) (same : Bool) → EndsOk (cond same (Event (events.Complete k s.node None)) (End (Refused TryAgain (Generations pulled present)))) → ⊥
never_ok s k pulled present true ok = ok
never_ok s k pulled present false ok = ok

phase-ok : (R : RecordState) (s : CopyState) (k : ℕ) (e : Entry) (phase : CopyPhase) → LacksNone R s (phase_next R s k e phase)
phase-ok R s k e Reserved = reserved-ok R s k e (is_all e.attributes)
phase-ok R s k e Staging = staged-ok R s k e (all_staged R s.staging)
phase-ok R s k e (PulledActive generation) = λ ok. absurd (never_ok s k generation e.generation (generation == e.generation) ok)
phase-ok R s k e PulledStaged = λ ok. absurd ok
phase-ok R s k e Committing = own-ok R s (update_next R s.staging)

on-ok : (R : RecordState) (s : CopyState) (c : Copying) (found : Option Entry) → LacksNone R s (copy_on R s c found)
on-ok R s c None = onward-ok R s
on-ok R s c (Some e) = phase-ok R s c.ckpt e c.phase

at-ok : (R : RecordState) (s : CopyState) (at : Option Copying) → LacksNone R s (copy_at R s at)
at-ok R s None = onward-ok R s
at-ok R s (Some c) = on-ok R s c (entry_of c.ckpt R.entries)

-- so it is by any look
pub look-ok : (R : RecordState) (s : CopyState) (answer : Answer) → copy_next R s ≡ End (Done answer) → next_to_copy s.node R.entries ≡ None
look-ok R s answer is = at-ok R s s.copying (subst EndsOk (sym is) tt)

-- no step of it changes its node
reserve-node : (s : CopyState) (k : Option ℕ) (reply : StepReply) → (reserve_taken s k reply).node ≡ s.node
reserve-node s None reply = refl
reserve-node s (Some k) words.Ok = refl
reserve-node s (Some k) reply = refl

pull-node : (generation : ℕ) (s : CopyState) (reply : StepReply) → (pull_taken generation s reply).node ≡ s.node
pull-node generation s words.Ok = refl
pull-node generation s reply = refl

behind-node : (incarnation : ℕ) (s : CopyState) (at : Option Copying) → (behind_completion incarnation s at).node ≡ s.node
behind-node incarnation s None = refl
behind-node incarnation s (Some c) = by_phase c.phase where
  by_phase : (phase : CopyPhase) → (behind_completion_in incarnation s c.ckpt phase).node ≡ s.node
  by_phase PulledStaged = refl
  by_phase phase = refl

complete-node : (incarnation : ℕ) (s : CopyState) (reply : StepReply) → (complete_taken incarnation s reply).node ≡ s.node
complete-node incarnation s words.Ok = behind-node incarnation s s.copying
complete-node incarnation s reply = refl

taken-node : (d : StepDone) (s : CopyState) (verb : Verb) → (copy_taken_by d s verb).node ≡ s.node
taken-node d s verbs.Reserve = reserve-node s d.ckpt d.reply
taken-node d s verbs.Pull = pull-node d.generation s d.reply
taken-node d s verbs.Complete = complete-node (slice_index d.up s.node) s d.reply
taken-node d s verb = refl

told-node : (R : RecordState) (reply : Reply) (s : CopyState) (next : Next) → (copy_told_by R reply s next).node ≡ s.node
told-node R reply s (Serve r request) = taken-node (served_done R request r reply) s (verb_of request)
told-node R reply s (Event step) = taken-node (complete_done R s reply) s verbs.Complete
told-node R reply s (End outcome) = refl

-- no refusal is an end with OK
refused-ok : (live : Bool) (reply : Reply) (answer : Answer) → refused_end live reply ≡ Some (Done answer) → ⊥
refused-ok true (replies.Held by) answer ok = absurd (cc ok)
refused-ok false (replies.Held by) answer ok = absurd (cc ok)
refused-ok live reply answer ok = absurd (cc ok)

done_by-ok : (next : Next) (answer : Answer) → done_by next ≡ Some (Done answer) → EndsOk next
done_by-ok (End (Done given)) answer ok = tt
done_by-ok next answer ok = absurd (cc ok)

end-ok : (R : RecordState) (reply : Reply) (s : CopyState) (answer : Answer) → copy_end R reply s ≡ Some (Done answer) → next_to_copy s.node R.entries ≡ None
end-ok R (replies.Done given) s answer ok = at-ok R s s.copying (done_by-ok (copy_next R s) answer ok)
end-ok R replies.NoMemory s answer ok = absurd (cc ok)
end-ok R reply s answer ok = absurd (refused-ok (names_live R (word_of reply)) reply answer ok)

-- where a copying ends with OK, its node lacks no replica
pub outcome-ok : (R : RecordState) (reply : Reply) (s : CopyState) (answer : Answer) → copy_outcome R reply s ≡ Some (Done answer) → next_to_copy s.node R.entries ≡ None
outcome-ok R reply s answer = by_next (copy_next R s) refl where
  by_next : (next : Next) → copy_next R s ≡ next → copy_outcome_by R reply s next ≡ Some (Done answer) → next_to_copy s.node R.entries ≡ None
  by_next (End outcome) is ok = look-ok R s answer (is ∙ ap End (same_Some outcome (Done answer) ok))
  by_next next is ok =
      ap (λ r. next_to_copy r R.entries) (sym (told-node R reply s next))
      ∙ end-ok R reply (copy_told_by R reply s next) answer ok

-- and then each checkpoint that is made and is not collocated is complete there
pub lacks_none : (r : ℕ) (es : List Entry) → next_to_copy r es ≡ None → All (λ e. lacks_replica r e ≡ false) es
lacks_none r [] none = All-nil (λ e. lacks_replica r e ≡ false)
lacks_none r (e ∷ es) none =
    elim (lacks_replica r e) as (λ b. lacks_replica r e ≡ b → identity_in (cond b (Some e) (find (lacks_replica r) es)) ≡ None → All (λ e. lacks_replica r e ≡ false) (e ∷ es)) [
      | true ↦ λ lacks none. absurd (cc none)
      | false ↦ λ has none. All-cons (λ e. lacks_replica r e ≡ false) e es has (lacks_none r es none)
    ] refl none

-- ---- its steps of the record

-- an update takes none
abbrev IsNoEvent : Next → Type 0
IsNoEvent (Event step) = ⊥
IsNoEvent next = Unit {0}

commit-none : (u : UpdateState) (last : Option ℕ) → IsNoEvent (commit_at u last) × IsNoEvent (commit_first u last)
commit-none u None = (tt, tt)
commit-none u (Some r) = (tt, tt)

stage-none : (u : UpdateState) (now : ℤ) (first last : Option ℕ) → IsNoEvent (stage_at u now first last)
stage-none u now None last = (commit-none u last).1
stage-none u now (Some r) last = tt

claim-none : (u : UpdateState) (first last : Option ℕ) → IsNoEvent (claim_at u first last)
claim-none u None last = (commit-none u last).1
claim-none u (Some r) last = tt

phase-none : (u : UpdateState) (now : ℤ) (first last : Option ℕ) (phase : UpdatePhase) → IsNoEvent (by_phase u now first last phase)
phase-none u now first last updating.Staging = stage-none u now first last
phase-none u now first last updating.Committing = (commit-none u last).0
phase-none u now first last updating.Claiming = claim-none u first last
phase-none u now first None updating.Claimed = stage-none u now first None
phase-none u now first (Some r) updating.Claimed = claim-none u first (Some r)
phase-none u now first None updating.Withdrawing = stage-none u now first None
phase-none u now first (Some r) updating.Withdrawing = tt
phase-none u now first None updating.Resolving = stage-none u now first None
phase-none u now first (Some r) updating.Resolving = (commit-none u (Some r)).0

update-none : (R : RecordState) (u : UpdateState) → IsNoEvent (update_next R u)
update-none R u = by_entry (entry_of u.ckpt R.entries) where
  by_active : (e : Entry) (active : Option ℕ) → IsNoEvent (update_led u R.moment e active)
  by_active e None = tt
  by_active e (Some r) = phase-none u R.moment (first_lacking 0 e.complete u.owned) (last_having 0 e.complete u.owned) u.phase

  by_entry : (found : Option Entry) → IsNoEvent (update_on u R.moment found)
  by_entry None = tt
  by_entry (Some e) = by_active e e.active

onward-none : (R : RecordState) (s : CopyState) → IsNoEvent (onward R s)
onward-none R s = by_first (next_to_copy s.node R.entries) where
  by_first : (first : Option ℕ) → IsNoEvent (reserve_next s.node first)
  by_first None = tt
  by_first (Some k) = tt

own-none : (R : RecordState) (s : CopyState) → IsNoEvent (staging_next R s)
own-none R s = by_next (update_next R s.staging) (update-none R s.staging) where
  by_next : (next : Next) → IsNoEvent next → IsNoEvent (unless_done (onward R s) next)
  by_next (End (Done answer)) none = onward-none R s
  by_next next none = none

pull-none : (call : CallId) (k : ℕ) (at : Option ℕ) → IsNoEvent (pull_at call k at)
pull-none call k None = tt
pull-none call k (Some r) = tt

reserved-none : (R : RecordState) (s : CopyState) (k : ℕ) (e : Entry) (all : Bool) → IsNoEvent (reserved_next R s k e all)
reserved-none R s k e true = own-none R s
reserved-none R s k e false = pull-none s.call k e.active

staged-none : (R : RecordState) (s : CopyState) (k : ℕ) (e : Entry) (all : Bool) → IsNoEvent (staged_next R s k e all)
staged-none R s k e true = pull-none s.call k (first_complete 0 e.complete)
staged-none R s k e false = own-none R s

never-event : (next : Next) (step : RecordStep) → IsNoEvent next → next ≡ Event step → ⊥
never-event next step none is = subst IsNoEvent is none

-- a completion of a checkpoint that is there, at its node: of what is staged on all, with the moment of its slots; of what the active had, in the
-- generation of the pull
abbrev pub IsCompletion : CopyState → ℕ → Entry → CopyPhase → RecordStep → Type 0
IsCompletion s k e PulledStaged step = step ≡ events.Complete k s.node (Some s.staging.moment)
IsCompletion s k e (PulledActive generation) step = (generation ≡ e.generation) × (step ≡ events.Complete k s.node None)
IsCompletion s k e phase step = ⊥

-- of the checkpoint that it is at
pub record Completes (R : RecordState) (s : CopyState) (step : RecordStep) : Type 0 where
  pub copying : Copying
  pub entry_there : Entry
  pub at : s.copying ≡ Some copying
  pub there : entry_of copying.ckpt R.entries ≡ Some entry_there
  pub is : IsCompletion s copying.ckpt entry_there copying.phase step

complete-is : (s : CopyState) (k : ℕ) (e : Entry) (generation : ℕ) (step : RecordStep) → complete_in s k generation e.generation ≡ Event step → IsCompletion s k e (PulledActive generation) step
complete-is s k e generation step =
    elim (generation == e.generation) as (λ b. (generation == e.generation) ≡ b → cond b (Event (events.Complete k s.node None)) (End (Refused TryAgain (Generations generation e.generation))) ≡ Event step → IsCompletion s k e (PulledActive generation) step) [
      | true ↦ λ same is. (eqb-true generation e.generation same, sym (cc is))
      | false ↦ λ other is. absurd (cc is)
    ] refl

phase-is : (R : RecordState) (s : CopyState) (k : ℕ) (e : Entry) (phase : CopyPhase) (step : RecordStep) → phase_next R s k e phase ≡ Event step → IsCompletion s k e phase step
phase-is R s k e Reserved step is = never-event (reserved_next R s k e (is_all e.attributes)) step (reserved-none R s k e (is_all e.attributes)) is
phase-is R s k e Staging step is = never-event (staged_next R s k e (all_staged R s.staging)) step (staged-none R s k e (all_staged R s.staging)) is
phase-is R s k e (PulledActive generation) step is = complete-is s k e generation step is
phase-is R s k e PulledStaged step is = sym (cc is)
phase-is R s k e Committing step is = never-event (staging_next R s) step (own-none R s) is

-- EACH STEP OF THE RECORD that is next is such a completion
pub event-completes : (R : RecordState) (s : CopyState) (step : RecordStep) → copy_next R s ≡ Event step → Completes R s step
event-completes R s step next = by_copying s.copying refl next where
  by_entry : (c : Copying) (found : Option Entry) → s.copying ≡ Some c → entry_of c.ckpt R.entries ≡ found → copy_on R s c found ≡ Event step → Completes R s step
  by_entry c None at gone next = absurd (never-event (onward R s) step (onward-none R s) next)
  by_entry c (Some e) at there next = record { copying = c; entry_there = e; at = at; there = there; is = phase-is R s c.ckpt e c.phase step next }

  by_copying : (at : Option Copying) → s.copying ≡ at → copy_at R s at ≡ Event step → Completes R s step
  by_copying None none next = absurd (never-event (onward R s) step (onward-none R s) next)
  by_copying (Some c) at next = by_entry c (entry_of c.ckpt R.entries) at refl next

-- and it is next by the record behind it too, where the checkpoint is there and, if the active was pulled, is in the generation of before
again : (R : RecordState) (s : CopyState) (k : ℕ) (e f : Entry) (phase : CopyPhase) (step : RecordStep) → IsCompletion s k e phase step → f.generation ≡ e.generation → phase_next R s k f phase ≡ Event step
again R s k e f PulledStaged step is same = ap Event (sym is)
again R s k e f (PulledActive generation) step is same = ap (λ b. cond b (Event (events.Complete k s.node None)) (End (Refused TryAgain (Generations generation f.generation)))) (eq-eqb generation f.generation (is.0 ∙ sym same)) ∙ ap Event (sym is.1)
again R s k e f phase step is same = absurd is

pub completes-again : (R : RecordState) (s : CopyState) (step : RecordStep) (now_is : Completes R s step) (then_is : RecordState) (f : Entry) → entry_of now_is.copying.ckpt then_is.entries ≡ Some f → f.generation ≡ now_is.entry_there.generation → copy_next then_is s ≡ Event step
completes-again R s step now_is then_is f there same =
    ap (copy_at then_is s) now_is.at
    ∙ ap (copy_on then_is s now_is.copying) there
    ∙ again then_is s now_is.copying.ckpt now_is.entry_there f now_is.copying.phase step now_is.is same

-- so what it keeps behind it, told by the record behind, is what it keeps of the step as it was made, where the same nodes are up
pub completes-told : (R : RecordState) (s : CopyState) (step : RecordStep) (now_is : Completes R s step) (then_is : RecordState) (f : Entry) (reply : Reply) → entry_of now_is.copying.ckpt then_is.entries ≡ Some f → f.generation ≡ now_is.entry_there.generation → then_is.up ≡ R.up → copy_told then_is reply s ≡ copy_taken (done_of R verbs.Complete (Some now_is.copying.ckpt) (Some s.node) (word_of reply)) s
completes-told R s step now_is then_is f reply there same up =
    ap (copy_told_by then_is reply s) (completes-again R s step now_is then_is f there same)
    ∙ ap (λ nodes. complete_taken (slice_index nodes s.node) s (word_of reply)) up
