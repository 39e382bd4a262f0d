-- A due request is of the call itself: a law of the definitions.
use Rattle.cluster_record.specs.declared.calls.ActiveKind.{ActiveKind}
use Rattle.cluster_record.specs.declared.calls.ActiveKind.TheVariants as kinds
use Rattle.ckpt_machine.specs.Drivers.{Rooms, Driver}
use Rattle.std.proofs.Common.{◌≡◌, ℕ, List, [], ◌∷◌, Bool, true, false, cond, ◌==◌, refl, subst, ◌∙◌}
use Rattle.std.specs.Prelude.{Option, Some, None, IfSome, slice_index}
use Rattle.ckpt_types.specs.declared.identities.CallId.{CallId}
use Rattle.ckpt_types.specs.Asks.{Ask, asked}
use Rattle.ckpt_types.specs.Asks as asks
use Rattle.node_msgs.specs.declared.requests.Request.{Request}
use Rattle.node_msgs.specs.declared.requests.Request.TheVariants.{Stage, Commit, Mark, Element, Unmark, Claim}
use Rattle.node_msgs.specs.declared.next.Next.{Next}
use Rattle.node_msgs.specs.declared.next.Next.TheVariants.{Serve, Event, End}
use Rattle.node_msgs.specs.declared.steps.Verb.{Verb}
use Rattle.node_msgs.specs.declared.steps.Verb.TheVariants as verbs
use Rattle.node_msgs.specs.declared.steps.StepReply.{StepReply}
use Rattle.node_msgs.specs.declared.steps.StepReply.TheVariants as words
use Rattle.ckpt_machine.specs.Drivers as drivers
use Rattle.cluster_record.specs.declared.copying.Copying.{Copying}
use Rattle.cluster_record.specs.declared.copying.CopyPhase.{CopyPhase}
use Rattle.cluster_record.specs.declared.copying.CopyPhase.TheVariants.{PulledStaged}
use Rattle.cluster_record.specs.DueCopy.{CopyState, behind_completion, behind_completion_in, complete_taken, copy_taken_by, pull_taken, reserve_taken}
use Rattle.cluster_record.specs.DueUpdate.{UpdateState, update_taken_by}
use Rattle.cluster_record.specs.RecordState.{RecordState}
use Rattle.cluster_record.specs.StepDone.{StepDone}
use Rattle.ckpt_machine.specs.Driving.{Kept, on_kept, driver_start, driver_state, driver_taken, driver_next, change_start, kind_of_change}
use Rattle.cluster_record.specs.DueActive.{weak_request, request_by, active_request}
use Rattle.cluster_record.specs.declared.calls.MarksMade.{MarksMade}
use Rattle.ckpt_machine.specs.Machine.{CallState}
use Rattle.ckpt_machine.specs.Due.{IsDriven, driver_of}
use Rattle.ckpt_machine.proofs.NextOf.{OfAsked, OfCopying, next_of}
use Rattle.ckpt_machine.proofs.OptionLemmas.{IfSome-from}

-- a request that a call makes in its own name
abbrev pub IsOwn : CallId → Request → Type 0
IsOwn c (Stage call k t) = call ≡ c
IsOwn c (Commit call k) = call ≡ c
IsOwn c (Claim call k owner) = call ≡ c
IsOwn c (Mark call k) = call ≡ c
IsOwn c (Element call k) = call ≡ c
IsOwn c (Unmark call k) = call ≡ c
IsOwn c request = Unit {0}

-- what is next is asked in the call's own name
abbrev Asks : CallId → Next → Type 0
Asks c (Serve r request) = IsOwn c request
Asks c (Event step) = Unit {0}
Asks c (End o) = Unit {0}

-- a driver of an update, of a call to the active or of a copying is the call's, and so is the update of a copying
abbrev Of : CallId → Driver → Type 0
Of c (drivers.Update u) = u.call ≡ c
Of c (drivers.Active a) = a.call ≡ c
Of c (drivers.Copy x) = (x.call ≡ c) × (x.staging.call ≡ c)
Of c driver = Unit {0}

taken_call : (d : StepDone) (u : UpdateState) (verb : Verb) (reply : StepReply) → (update_taken_by (record d { reply = reply }) u verb).call ≡ u.call
taken_call d u verbs.Stage words.Ok = refl
taken_call d u verbs.Stage (words.Held by) = refl
taken_call d u verbs.Stage reply = refl
taken_call d u verbs.Claim words.Ok = refl
taken_call d u verbs.Claim (words.Held by) = refl
taken_call d u verbs.Claim (words.Free count) = refl
taken_call d u verbs.Claim reply = refl
taken_call d u verbs.Withdraw words.Ok = refl
taken_call d u verbs.Withdraw reply = refl
taken_call d u verbs.Commit words.Ok = refl
taken_call d u verbs.Commit reply = refl
taken_call d u verb reply = refl

-- a copying, and its update
abbrev IsOfCall : CallId → CopyState → Type 0
IsOfCall call x = (x.call ≡ call) × (x.staging.call ≡ call)

reserve_call : (x : CopyState) (k : Option ℕ) (reply : StepReply) (call : CallId) → IsOfCall call x → IsOfCall call (reserve_taken x k reply)
reserve_call x (Some k) words.Ok call is = (is.0, is.0)
reserve_call x (Some k) reply call is = is
reserve_call x None reply call is = is

pull_call : (generation : ℕ) (x : CopyState) (reply : StepReply) (call : CallId) → IsOfCall call x → IsOfCall call (pull_taken generation x reply)
pull_call generation x words.Ok call is = is
pull_call generation x reply call is = is

completion_call : (incarnation : ℕ) (x : CopyState) (k : ℕ) (phase : CopyPhase) (call : CallId) → IsOfCall call x → IsOfCall call (behind_completion_in incarnation x k phase)
completion_call incarnation x k PulledStaged call is = is
completion_call incarnation x k phase call is = is

behind_call : (incarnation : ℕ) (x : CopyState) (o : Option Copying) (call : CallId) → IsOfCall call x → IsOfCall call (behind_completion incarnation x o)
behind_call incarnation x None call is = is
behind_call incarnation x (Some at) call is = completion_call incarnation x at.ckpt at.phase call is

complete_call : (incarnation : ℕ) (x : CopyState) (reply : StepReply) (call : CallId) → IsOfCall call x → IsOfCall call (complete_taken incarnation x reply)
complete_call incarnation x words.Ok call is = behind_call incarnation x x.copying call is
complete_call incarnation x reply call is = is

copy_call : (d : StepDone) (x : CopyState) (verb : Verb) (call : CallId) → IsOfCall call x → IsOfCall call (copy_taken_by d x verb)
copy_call d x verbs.Reserve call is = reserve_call x d.ckpt d.reply call is
copy_call d x verbs.Pull call is = pull_call d.generation x d.reply call is
copy_call d x verbs.Complete call is = complete_call (slice_index d.up x.node) x d.reply call is
copy_call d x verb call is = (is.0, taken_call d x.staging d.verb d.reply ∙ is.1)

of_kept : (c : CallId) (o : Option ℕ) (start : ℕ → Driver) → ((k : ℕ) → Of c (start k)) → IfSome (on_kept o start) (Of c)
of_kept c None start h = tt
of_kept c (Some k) start h = h k

of_start : (call : CallId) (ask : Ask) (kept : Kept) → IfSome (driver_start call ask kept) (Of call)
of_start call (asks.Change place update) kept = by_all kept.all
  where
    by_all : (all : Bool) → IfSome (change_start call all (kind_of_change kept.weak update) kept.ckpt) (Of call)
    by_all true = of_kept call kept.ckpt _ (λ k. refl)
    by_all false = of_kept call kept.ckpt _ (λ k. refl)
of_start call (asks.Read place elements) kept = of_kept call kept.ckpt _ (λ k. refl)
of_start call (asks.Status place) kept = of_kept call kept.ckpt _ (λ k. refl)
of_start call (asks.Iterate iteration place chosen time) kept = of_kept call kept.ckpt _ (λ k. refl)
of_start call (asks.Next iteration) kept = of_kept call kept.ckpt _ (λ k. refl)
of_start call (asks.Close place) kept = of_kept call kept.ckpt _ (λ k. tt)
of_start call (asks.Retain place duration) kept = of_kept call kept.ckpt _ (λ k. tt)
of_start call (asks.Synchronize place timeout) kept = of_kept call kept.ckpt _ (λ k. tt)
of_start call (asks.SetActive place) kept = of_kept call kept.ckpt _ (λ k. tt)
of_start call asks.Copy kept = (refl, refl)
of_start call ask kept = tt

of_taken : (call : CallId) (d : StepDone) (x : Driver) → Of call x → Of call (driver_taken d x)
of_taken call d (drivers.Update u) h = taken_call d u d.verb d.reply ∙ h
of_taken call d (drivers.Active a) h = h
of_taken call d (drivers.Copy x) h = copy_call d x d.verb call h
of_taken call d x h = tt

of_steps : (call : CallId) (begun : Driver) (steps : List StepDone) → Of call begun → Of call (driver_state begun steps)
of_steps call begun [] h = h
of_steps call begun (d ∷ steps) h = of_taken call d (driver_state begun steps) (of_steps call begun steps h)

-- so is what drives a call now
of_state : (s : CallState) → IsDriven s → Of s.call (driver_of s)
of_state s driven = of_steps s.call s.begun s.steps (subst (λ o. IfSome o (Of s.call)) driven (of_start s.call (asked s.op) s.kept))

-- a call to the active is its own too: a weak write meets its own marks
own_weak : (call : CallId) (k : ℕ) (marks : Option MarksMade) → IsOwn call (weak_request call k marks)
own_weak call k None = refl
own_weak call k (Some marks) = by_left (marks.left == 0)
  where
    by_left : (b : Bool) → IsOwn call (cond b (Unmark call k) (Element call k))
    by_left true = refl
    by_left false = refl

own_kind : (call : CallId) (k : ℕ) (kind : ActiveKind) (marks : Option MarksMade) → IsOwn call (request_by call k kind marks)
own_kind call k kinds.Apply marks = tt
own_kind call k (kinds.Weak n) marks = own_weak call k marks
own_kind call k kinds.Read marks = tt
own_kind call k kinds.Status marks = tt
own_kind call k (kinds.Iterate choice) marks = tt
own_kind call k kinds.Next marks = tt

own_asked : (c : CallId) (x : Driver) → Of c x → OfAsked (Asks c) x
own_asked c (drivers.Update u) is = (λ r t. is, λ r. is, λ r. is, λ r. tt)
own_asked c (drivers.Active a) is = λ r. subst (λ d. IsOwn d (active_request a)) is (own_kind a.call a.ckpt a.kind a.marks)
own_asked c (drivers.Sync u) is = (λ r. tt, λ r. tt, λ r. tt, λ r. tt)
own_asked c (drivers.Copy x) is = IfSome-from x.copying (OfCopying (Asks c) x) (λ at some. record {
  update = (λ r t. is.1, λ r. is.1, λ r. is.1, λ r. tt);
  pulls = λ r. tt;
  completes = λ moment. tt;
})
own_asked c x is = tt

-- what a call asks a node, it asks as itself
pub own_request : (R : RecordState) (room : Rooms) (s : CallState) (r : ℕ) (request : Request) → IsDriven s → driver_next R room (driver_of s) ≡ Serve r request → IsOwn s.call request
own_request R room s r request driven e = subst (Asks s.call) e (next_of (Asks s.call) (λ o. tt) (λ step none. tt) (λ r k. tt) R room (driver_of s) (own_asked s.call (driver_of s) (of_state s driven)))
