-- Which steps of a copying are those of its update, and what such a step leaves.
use Rattle.std.proofs.Common.{◌≡◌, ℕ, Bool, true, false, cond, ◌==◌, refl, sym, ap, subst, ◌∙◌}
use Rattle.std.specs.Prelude.{Option, Some, None}
use Rattle.ckpt_types.specs.declared.ais_error.AisError.TheVariants.{TryAgain}
use Rattle.ckpt_types.specs.declared.answers.Cause.TheVariants.{Generations}
use Rattle.ckpt_types.specs.declared.answers.Outcome.TheVariants.{Done, Refused}
use Rattle.ckpt_types.specs.declared.identities.CallId.{CallId}
use Rattle.node_msgs.specs.declared.next.Next.{Next}
use Rattle.node_msgs.specs.declared.next.Next.TheVariants.{Serve, Event, End}
use Rattle.node_msgs.specs.declared.next.RecordStep.TheVariants as events
use Rattle.node_msgs.specs.declared.replies.Reply.{Reply}
use Rattle.node_msgs.specs.declared.requests.Request.{Request}
use Rattle.node_msgs.specs.declared.requests.Request.TheVariants as requests
use Rattle.node_msgs.specs.Steps.{verb_of}
use Rattle.cluster_record.specs.declared.copying.Copying.{Copying}
use Rattle.cluster_record.specs.declared.copying.CopyPhase.{CopyPhase}
use Rattle.cluster_record.specs.declared.copying.CopyPhase.TheVariants.{Reserved, Staging, PulledActive, PulledStaged, Committing}
use Rattle.cluster_record.specs.declared.entries.Entry.{Entry}
use Rattle.cluster_record.specs.DueCopy.{CopyState, copy_at, copy_next, copy_on, copy_taken, copy_taken_by, next_to_copy, onward, phase_next, pull_at, reserve_next, reserved_next, staged_next, staging_next, staging_phase, unless_done, with_phase}
use Rattle.cluster_record.specs.DueUpdate.{UpdateState, all_staged, update_next, update_taken}
use Rattle.cluster_record.specs.Ends.{served_done, update_told, update_told_by}
use Rattle.cluster_record.specs.Placement.{is_all}
use Rattle.cluster_record.specs.RecordState.{RecordState, entry_of, first_complete}
use Rattle.cluster_record.specs.StepDone.{StepDone}

-- ---- the steps of its update

-- a request that is no reservation and no pull
abbrev pub IsOfStaging : Request → Type 0
IsOfStaging (requests.Reserve k) = ⊥
IsOfStaging (requests.Pull call k) = ⊥
IsOfStaging request = Unit {0}

abbrev ServesStaging : Next → Type 0
ServesStaging (Serve r request) = IsOfStaging request
ServesStaging next = ⊥

-- such a request is what the update does next
abbrev FromStaging : RecordState → CopyState → Next → Type 0
FromStaging R s next = ServesStaging next → update_next R s.staging ≡ next

never_onward : (r : ℕ) (first : Option ℕ) → ServesStaging (reserve_next r first) → ⊥
never_onward r None of = of
never_onward r (Some k) of = of

onward-staging : (R : RecordState) (s : CopyState) → FromStaging R s (onward R s)
onward-staging R s of = absurd (never_onward s.node (next_to_copy s.node R.entries) of)

pull-staging : (R : RecordState) (s : CopyState) (k : ℕ) (at : Option ℕ) → FromStaging R s (pull_at s.call k at)
pull-staging R s k None of = absurd of
pull-staging R s k (Some r) of = absurd of

own-staging : (R : RecordState) (s : CopyState) → FromStaging R s (staging_next R s)
own-staging R s = by_next (update_next R s.staging) where
  by_next : (next : Next) → ServesStaging (unless_done (onward R s) next) → next ≡ unless_done (onward R s) next
  by_next (End (Done answer)) of = absurd (never_onward s.node (next_to_copy s.node R.entries) of)
  by_next next of = refl

reserved-staging : (R : RecordState) (s : CopyState) (k : ℕ) (e : Entry) (all : Bool) → FromStaging R s (reserved_next R s k e all)
reserved-staging R s k e true = own-staging R s
reserved-staging R s k e false = pull-staging R s k e.active

staged-staging : (R : RecordState) (s : CopyState) (k : ℕ) (e : Entry) (all : Bool) → FromStaging R s (staged_next R s k e all)
staged-staging R s k e true = pull-staging R s k (first_complete 0 e.complete)
staged-staging R s k e false = own-staging R s

never_completed : (s : CopyState) (k pulled present : ℕ) (same : Bool) → ServesStaging (cond same (Event (events.Complete k s.node None)) (End (Refused TryAgain (Generations pulled present)))) → ⊥
never_completed s k pulled present true of = of
never_completed s k pulled present false of = of

phase-staging : (R : RecordState) (s : CopyState) (k : ℕ) (e : Entry) (phase : CopyPhase) → FromStaging R s (phase_next R s k e phase)
phase-staging R s k e Reserved = reserved-staging R s k e (is_all e.attributes)
phase-staging R s k e Staging = staged-staging R s k e (all_staged R s.staging)
phase-staging R s k e (PulledActive generation) = λ of. absurd (never_completed s k generation e.generation (generation == e.generation) of)
phase-staging R s k e PulledStaged = λ of. absurd of
phase-staging R s k e Committing = own-staging R s

on-staging : (R : RecordState) (s : CopyState) (c : Copying) (found : Option Entry) → FromStaging R s (copy_on R s c found)
on-staging R s c None = onward-staging R s
on-staging R s c (Some e) = phase-staging R s c.ckpt e c.phase

at-staging : (R : RecordState) (s : CopyState) (at : Option Copying) → FromStaging R s (copy_at R s at)
at-staging R s None = onward-staging R s
at-staging R s (Some c) = on-staging R s c (entry_of c.ckpt R.entries)

-- what is asked of a node, and is no reservation and no pull, is what the update does next
pub next-staging : (R : RecordState) (s : CopyState) (r : ℕ) (request : Request) → copy_next R s ≡ Serve r request → IsOfStaging request → update_next R s.staging ≡ Serve r request
next-staging R s r request is of = at-staging R s s.copying (subst ServesStaging (sym is) of) ∙ is

-- what is neither a reservation nor a pull is of that kind
pub neither-staging : (request : Request) → ((k : ℕ) → request ≡ requests.Reserve k → ⊥) → ((call : CallId) (k : ℕ) → request ≡ requests.Pull call k → ⊥) → IsOfStaging request
neither-staging (requests.Reserve k) no_reserve no_pull = absurd (no_reserve k refl)
neither-staging (requests.Pull call k) no_reserve no_pull = absurd (no_pull call k refl)
neither-staging request no_reserve no_pull = tt

-- the copying behind a step of its update
abbrev pub staging_told : CopyState → UpdateState → CopyState
staging_told s u = record s { copying = with_phase staging_phase s.copying; staging = u }

taken-staging : (d : StepDone) (s : CopyState) (request : Request) → IsOfStaging request → copy_taken_by d s (verb_of request) ≡ staging_told s (update_taken d s.staging)
taken-staging d s (requests.Reserve k) of = absurd of
taken-staging d s (requests.Pull call k) of = absurd of
taken-staging d s request of = refl

-- behind such a step it keeps what its update keeps behind the reply
pub told-staging : (R : RecordState) (reply : Reply) (s : CopyState) (r : ℕ) (request : Request) → copy_next R s ≡ Serve r request → IsOfStaging request → staging_told s (update_told R reply s.staging) ≡ copy_taken (served_done R request r reply) s
told-staging R reply s r request is of =
    ap (λ next. staging_told s (update_told_by R reply s.staging next)) (next-staging R s r request is of)
    ∙ sym (taken-staging (served_done R request r reply) s request of)
