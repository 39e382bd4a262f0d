-- How a look ends a call, and what it tells beside that: of an update of which nothing is left what its last commit would have.
use Rattle.std.proofs.Common.{◌≡◌, ◌⊎◌, inl, inr, ℕ, ℤ, Bool, true, false, cond, List, [], ◌∷◌, refl, sym, ap, subst, ◌∙◌}
use Rattle.std.specs.Prelude.{Option, Some, None, IfSome, is_some, length, nat_le, not, ◌&&◌, ◌==◌}
use Rattle.ckpt_types.specs.declared.ais_error.AisError.{AisError}
use Rattle.ckpt_types.specs.declared.ais_error.AisError.TheVariants.{Timeout}
use Rattle.ckpt_types.specs.declared.answers.Answer.TheVariants as answers
use Rattle.ckpt_types.specs.declared.answers.Cause.{Cause}
use Rattle.ckpt_types.specs.declared.answers.Cause.TheVariants.{Deadline}
use Rattle.ckpt_types.specs.declared.answers.Outcome.{Outcome}
use Rattle.ckpt_types.specs.declared.answers.Outcome.TheVariants.{Done, Refused}
use Rattle.ckpt_types.specs.declared.attributes.CreationAttributes.{CreationAttributes}
use Rattle.ckpt_types.specs.declared.calls.OpenAsk.{OpenAsk}
use Rattle.ckpt_types.specs.declared.identities.CallId.{CallId}
use Rattle.ckpt_types.specs.declared.identities.Who.{Who}
use Rattle.ckpt_types.specs.declared.operation.Op.{Op}
use Rattle.ckpt_types.specs.declared.update.Update.{Update}
use Rattle.ckpt_types.specs.declared.update.Update.TheVariants as updates
use Rattle.ckpt_types.specs.Asks.{Ask, asked, update_asked, update_of}
use Rattle.ckpt_types.specs.Asks as asks
use Rattle.node_msgs.specs.declared.next.Next.{Next}
use Rattle.node_msgs.specs.declared.next.Next.TheVariants.{Serve, Event, End}
use Rattle.node_msgs.specs.declared.next.RecordStep.{RecordStep}
use Rattle.node_msgs.specs.declared.next.RecordStep.TheVariants as events
use Rattle.node_msgs.specs.declared.requests.Request.{Request}
use Rattle.node_core.specs.Serving.{update_answer}
use Rattle.cluster_record.specs.Calls.{same_call}
use Rattle.cluster_record.specs.declared.calls.Making.{Making}
use Rattle.cluster_record.specs.declared.calls.MarksMade.{MarksMade}
use Rattle.cluster_record.specs.declared.calls.PulledAt.{PulledAt}
use Rattle.cluster_record.specs.declared.calls.SyncKind.{SyncKind}
use Rattle.cluster_record.specs.declared.calls.SyncKind.TheVariants.{Synchronize, ActiveSet}
use Rattle.cluster_record.specs.declared.calls.UpdatePhase.{UpdatePhase}
use Rattle.cluster_record.specs.declared.calls.UpdatePhase.TheVariants.{Staging, Committing, Claiming, Claimed, Withdrawing, Resolving}
use Rattle.cluster_record.specs.declared.entries.Entry.{Entry}
use Rattle.cluster_record.specs.DueActive.{ActiveState, active_on, active_request, is_update, on_active, starts_iteration, unless_changed, unless_on_hold}
use Rattle.cluster_record.specs.DueOnce.{OneStep, once_next, close_of, unlink_of_making, unlink_of, retain_of}
use Rattle.cluster_record.specs.DueOnce as once
use Rattle.cluster_record.specs.DueOpen.{OpenState, accepts, by_making, create_next, entry_by, entry_next, in_time, on_making, on_named, reserve_or_finish, targets_of}
use Rattle.cluster_record.specs.DueSync.{SyncState, first_unserved, install_next, kind_next, lead_next, sync_on, synchronize_next, unless_held, unless_stale}
use Rattle.cluster_record.specs.declared.copying.CopyPhase.{CopyPhase}
use Rattle.cluster_record.specs.declared.copying.CopyPhase.TheVariants as phases
use Rattle.cluster_record.specs.declared.copying.Copying.{Copying}
use Rattle.cluster_record.specs.DueCopy.{CopyState, copy_at, copy_on, next_to_copy, onward, phase_next, pull_at, reserve_next, reserved_next, staged_next, staging_next, unless_done}
use Rattle.cluster_record.specs.Placement.{is_all}
use Rattle.cluster_record.specs.DueUpdate.{UpdateState, all_staged, by_phase, claim_at, commit_at, stage_at, update_led, update_next, update_on}
use Rattle.cluster_record.specs.RecordState.{RecordState, entry_of, first_complete, named}
use Rattle.cluster_record.specs.StepDone.{StepDone, first_lacking, last_having}
use Rattle.ckpt_machine.specs.Drivers.{Driver, Rooms}
use Rattle.ckpt_machine.specs.Drivers as drivers
use Rattle.ckpt_machine.specs.Driving.{Kept, change_start, driver_next, driver_start, driver_state, driver_taken, kind_of_change, on_kept}
use Rattle.ckpt_machine.specs.Due.{IsDriven, driver_of, look_details, look_end, look_word}
use Rattle.ckpt_machine.specs.Machine.{CallState}
use Rattle.ckpt_machine.proofs.Deadlines.{in_time-cases}
use Rattle.client_calls.specs.declared.in_hand.InHand.{InHand}
use Rattle.client_calls.specs.MadeIds.{looked_details, looked_end}
use Rattle.client_calls.specs.Names.{client_by}
use Rattle.client_calls.specs.UpdateSteps.{is_creation}
use Rattle.world_core.specs.declared.world.World.{World}
use Rattle.world_core.specs.HandsState.{hand_at}
use Rattle.world_core.specs.Happenings.{rooms_at}
use Rattle.world_core.specs.Shows.{HasCommitted, History}
use Rattle.world_core.proofs.CallSteps.{IsKnown}
use Rattle.world_core.proofs.Held.{driver_is, hand_fits, in_hand_is, state_in}

-- ---- what drives a creation

-- an update of all replicas, or a call to the active
abbrev IsChanging : Driver → Type 0
IsChanging (drivers.Update u) = Unit {0}
IsChanging (drivers.Active a) = Unit {0}
IsChanging driver = ⊥

kept_changing : (o : Option ℕ) (start : ℕ → Driver) → ((k : ℕ) → IsChanging (start k)) → IfSome (on_kept o start) IsChanging
kept_changing None start each = tt
kept_changing (Some k) start each = each k

start_changing : (call : CallId) (ask : Ask) (kept : Kept) → is_creation (update_asked ask) ≡ true → IfSome (driver_start call ask kept) IsChanging
start_changing call (asks.Change place update) kept creates = by_all kept.all where
  by_all : (all : Bool) → IfSome (change_start call all (kind_of_change kept.weak update) kept.ckpt) IsChanging
  by_all true = kept_changing kept.ckpt _ (λ k. tt)
  by_all false = kept_changing kept.ckpt _ (λ k. tt)
start_changing call asks.Leave kept creates = absurd (cc creates)
start_changing call ask kept creates = absurd (cc creates)

taken_changing : (d : StepDone) (x : Driver) → IsChanging x → IsChanging (driver_taken d x)
taken_changing d (drivers.Update u) is = tt
taken_changing d (drivers.Active a) is = tt
taken_changing d x is = absurd is

state_changing : (begun : Driver) (steps : List StepDone) → IsChanging begun → IsChanging (driver_state begun steps)
state_changing begun [] is = is
state_changing begun (d ∷ steps) is = taken_changing d (driver_state begun steps) (state_changing begun steps is)

creation_changing : (s : CallState) → IsDriven s → is_creation (update_of s.op) ≡ true → IsChanging (driver_of s)
creation_changing s driven creates = state_changing s.begun s.steps (subst (λ o. IfSome o IsChanging) driven (start_changing s.call (asked s.op) s.kept creates))

-- ---- what a look may say

-- what holds of all that is next but an end, and of each refusal
module _ (P : Next → Type 0) (refused : (error : AisError) (cause : Cause) → P (End (Refused error cause))) (steps : (step : RecordStep) → P (Event step)) (serves : (r : ℕ) (request : Request) → P (Serve r request)) where
  either : (b : Bool) (x y : Next) → P x → P y → P (cond b x y)
  either true x y first second = first
  either false x y first second = second

  timely : (deadline : Option ℤ) (moment : ℤ) (next : Next) → P next → P (in_time deadline moment next)
  timely deadline moment next goes = in_time-cases P deadline moment next (λ d is late. refused Timeout (Deadline d moment)) (λ before. goes)

  -- holds of an open
  of_entry : (room : Bool) (a : Option CreationAttributes) (e : Entry) (making : Option CallId) → P (entry_by making room a e)
  of_entry room a e (Some call) = steps events.Open
  of_entry room a e None = either (not (accepts a e)) _ _ (refused _ _) (either (not room) _ _ (refused _ _) (steps events.Open))

  of_named : (R : RecordState) (room : Bool) (deadline : Option ℤ) (a : Option CreationAttributes) (e : Option Entry) → P (on_named R room deadline a e)
  of_named R room deadline None None = refused _ _
  of_named R room deadline (Some a) None = timely deadline R.moment (create_next R room) (either (not room) _ _ (refused _ _) (either (nat_le 16 (length R.entries)) _ _ (refused _ _) (steps events.Create)))
  of_named R room deadline a (Some e) = timely deadline R.moment (entry_next room a e) (of_entry room a e e.making)

  of_reserve : (k : ℕ) (r : Option ℕ) → P (reserve_or_finish k r)
  of_reserve k None = steps events.Finish
  of_reserve k (Some r) = serves r _

  of_making : (R : RecordState) (ask : OpenAsk) (m : Making) → P (on_making R ask m)
  of_making R ask m = either m.refused _ _ (steps events.Undo) (of_reserve m.ckpt (first_lacking 0 (targets_of ask R) m.reserved))

  of_open : (R : RecordState) (room : Bool) (o : OpenState) (m : Option Making) → P (by_making R room o m)
  of_open R room o None = of_named R room o.deadline o.ask.attrs (named o.ask.name R.entries)
  of_open R room o (Some m) = timely o.deadline R.moment (on_making R o.ask m) (of_making R o.ask m)

  -- and of a call to the active
  of_marks : (marks : Option MarksMade) (generation : ℕ) (next : Next) → P next → P (unless_changed marks generation next)
  of_marks None generation next goes = goes
  of_marks (Some marks) generation next goes = either (marks.generation == generation) _ _ goes (refused _ _)

  of_hold : (a : ActiveState) (hold : Option CallId) (next : Next) → P next → P (unless_on_hold a.kind hold next)
  of_hold a None next goes = goes
  of_hold a (Some holder) next goes = either (is_update a.kind) _ _ (refused _ _) goes

  of_led : (room : Bool) (a : ActiveState) (generation : ℕ) (hold : Option CallId) (r : Option ℕ) → P (on_active room a generation hold r)
  of_led room a generation hold None = refused _ _
  of_led room a generation hold (Some r) = either (starts_iteration a.kind && not room) _ _ (refused _ _) (of_hold a hold (unless_changed a.marks generation (Serve r (active_request a))) (of_marks a.marks generation (Serve r (active_request a)) (serves r (active_request a))))

  of_active : (room : Bool) (a : ActiveState) (e : Option Entry) → P (active_on room a e)
  of_active room a None = refused _ _
  of_active room a (Some e) = of_led room a e.generation e.hold e.active

  -- and of an update that has not committed
  staging : (u : UpdateState) (now : ℤ) (first last : Option ℕ) → P (stage_at u now first last)
  staging u now (Some r) last = serves r _
  staging u now None None = refused _ _
  staging u now None (Some r) = serves r _

  claiming : (u : UpdateState) (first last : Option ℕ) → P (claim_at u first last)
  claiming u (Some r) last = serves r _
  claiming u None None = refused _ _
  claiming u None (Some r) = serves r _

  of_phase : (u : UpdateState) (now : ℤ) (first last : Option ℕ) (phase : UpdatePhase) → (phase ≡ Committing) ⊎ P (by_phase u now first last phase)
  of_phase u now first last Staging = inr (staging u now first last)
  of_phase u now first last Committing = inl refl
  of_phase u now first last Claiming = inr (claiming u first last)
  of_phase u now first None Claimed = inr (staging u now first None)
  of_phase u now first (Some p) Claimed = inr (claiming u first (Some p))
  of_phase u now first None Withdrawing = inr (staging u now first None)
  of_phase u now first (Some p) Withdrawing = inr (serves p _)
  of_phase u now first None Resolving = inr (staging u now first None)
  of_phase u now first (Some p) Resolving = inr (serves p _)

  of_update : (u : UpdateState) (now : ℤ) (e : Option Entry) → (u.phase ≡ Committing) ⊎ P (update_on u now e)
  of_update u now None = inr (refused _ _)
  of_update u now (Some e) = by_active e.active where
    by_active : (active : Option ℕ) → (u.phase ≡ Committing) ⊎ P (update_led u now e active)
    by_active None = inr (refused _ _)
    by_active (Some active) = of_phase u now (first_lacking 0 e.complete u.owned) (last_having 0 e.complete u.owned) u.phase

  -- and where it holds of these ends too, it holds of any call
  module _ (none : P (End (Done answers.Nothing))) (pulled : (n : ℕ) → P (End (Done (answers.Pulled n)))) where
    of_unlink : (e : Option Entry) → P (unlink_of e)
    of_unlink None = refused _ _
    of_unlink (Some e) = by_maker e.making where
      by_maker : (making : Option CallId) → P (unlink_of_making making)
      by_maker None = steps events.Unlink
      by_maker (Some call) = refused _ _

    of_retain : (e : Option Entry) → P (retain_of e)
    of_retain None = refused _ _
    of_retain (Some e) = either (is_some e.name) _ _ (steps events.Retain) (refused _ _)

    of_close : (e : Option Entry) → P (close_of e)
    of_close None = none
    of_close (Some e) = steps events.Close

    of_once : (R : RecordState) (x : OneStep) → P (once_next R x)
    of_once R (once.Enter r) = either (nat_le 64 (length R.clients)) _ _ (refused _ _) (steps events.Enter)
    of_once R once.Leave = steps events.Leave
    of_once R (once.Close k) = of_close (entry_of k R.entries)
    of_once R (once.Unlink name) = of_unlink (named name R.entries)
    of_once R (once.Retain k duration) = of_retain (entry_of k R.entries)

    of_install : (u : SyncState) (count : ℕ) (r : Option ℕ) → P (install_next u.call u.ckpt count r)
    of_install u count None = pulled count
    of_install u count (Some r) = serves r _

    of_pulled : (u : SyncState) (e : Entry) (r : ℕ) (p : Option PulledAt) → P (unless_stale u e r p)
    of_pulled u e r None = serves r _
    of_pulled u e r (Some p) = either (p.generation == e.generation) _ _ (of_install u p.count (first_unserved 0 e.complete u.served)) (refused _ _)

    of_synchronize : (R : RecordState) (u : SyncState) (deadline : Option ℤ) (e : Entry) (r : Option ℕ) → P (synchronize_next R u deadline e r)
    of_synchronize R u deadline e None = refused _ _
    of_synchronize R u deadline e (Some r) = timely deadline R.moment (unless_stale u e r u.pulled) (of_pulled u e r u.pulled)

    of_lead : (local : ℕ) (active : Option ℕ) → P (lead_next local active)
    of_lead local None = steps (events.Activate local)
    of_lead local (Some r) = either (r == local) _ _ (steps (events.Activate local)) (steps (events.Hold r))

    of_held : (u : SyncState) (local : ℕ) (active : Option ℕ) (hold : Option CallId) → P (unless_held u.call local active hold)
    of_held u local active None = of_lead local active
    of_held u local active (Some holder) = either (same_call holder u.call) _ _ (steps (events.Activate local)) (refused _ _)

    of_kind : (R : RecordState) (u : SyncState) (e : Entry) (kind : SyncKind) → P (kind_next R u e kind)
    of_kind R u e (Synchronize deadline) = of_synchronize R u deadline e e.active
    of_kind R u e (ActiveSet local) = of_held u local e.active e.hold

    of_sync : (R : RecordState) (u : SyncState) (e : Option Entry) → P (sync_on R u e)
    of_sync R u None = refused _ _
    of_sync R u (Some e) = of_kind R u e u.kind

    committing : (u : UpdateState) (last : Option ℕ) → P (commit_at u last)
    committing u None = none
    committing u (Some r) = serves r _

    of_each : (u : UpdateState) (now : ℤ) (first last : Option ℕ) (phase : UpdatePhase) → P (by_phase u now first last phase)
    of_each u now first last Committing = committing u last
    of_each u now first last Staging = staging u now first last
    of_each u now first last Claiming = claiming u first last
    of_each u now first None Claimed = staging u now first None
    of_each u now first (Some p) Claimed = claiming u first (Some p)
    of_each u now first None Withdrawing = staging u now first None
    of_each u now first (Some p) Withdrawing = serves p _
    of_each u now first None Resolving = staging u now first None
    of_each u now first (Some p) Resolving = serves p _

    of_whole : (u : UpdateState) (now : ℤ) (e : Option Entry) → P (update_on u now e)
    of_whole u now None = refused _ _
    of_whole u now (Some e) = by_active e.active where
      by_active : (active : Option ℕ) → P (update_led u now e active)
      by_active None = refused _ _
      by_active (Some active) = of_each u now (first_lacking 0 e.complete u.owned) (last_having 0 e.complete u.owned) u.phase

    -- and of a copying
    of_lacked : (c : CopyState) (first : Option ℕ) → P (reserve_next c.node first)
    of_lacked c None = none
    of_lacked c (Some k) = serves c.node _

    of_onward : (R : RecordState) (c : CopyState) → P (onward R c)
    of_onward R c = of_lacked c (next_to_copy c.node R.entries)

    of_pull : (c : CopyState) (k : ℕ) (r : Option ℕ) → P (pull_at c.call k r)
    of_pull c k None = refused _ _
    of_pull c k (Some r) = serves r _

    of_done : (behind next : Next) → P behind → P next → P (unless_done behind next)
    of_done behind (End (Done answer)) goes its = goes
    of_done behind next goes its = its

    of_staging : (R : RecordState) (c : CopyState) → P (staging_next R c)
    of_staging R c = of_done (onward R c) (update_next R c.staging) (of_onward R c) (of_whole c.staging R.moment (entry_of c.staging.ckpt R.entries))

    of_reserved : (R : RecordState) (c : CopyState) (k : ℕ) (e : Entry) (all : Bool) → P (reserved_next R c k e all)
    of_reserved R c k e true = of_staging R c
    of_reserved R c k e false = of_pull c k e.active

    of_staged : (R : RecordState) (c : CopyState) (k : ℕ) (e : Entry) (all : Bool) → P (staged_next R c k e all)
    of_staged R c k e true = of_pull c k (first_complete 0 e.complete)
    of_staged R c k e false = of_staging R c

    of_copy_phase : (R : RecordState) (c : CopyState) (k : ℕ) (e : Entry) (phase : CopyPhase) → P (phase_next R c k e phase)
    of_copy_phase R c k e phases.Reserved = of_reserved R c k e (is_all e.attributes)
    of_copy_phase R c k e phases.Staging = of_staged R c k e (all_staged R c.staging)
    of_copy_phase R c k e (phases.PulledActive generation) = either (generation == e.generation) _ _ (steps _) (refused _ _)
    of_copy_phase R c k e phases.PulledStaged = steps _
    of_copy_phase R c k e phases.Committing = of_staging R c

    of_copy_on : (R : RecordState) (c : CopyState) (at : Copying) (e : Option Entry) → P (copy_on R c at e)
    of_copy_on R c at None = of_onward R c
    of_copy_on R c at (Some e) = of_copy_phase R c at.ckpt e at.phase

    of_copy : (R : RecordState) (c : CopyState) (at : Option Copying) → P (copy_at R c at)
    of_copy R c None = of_onward R c
    of_copy R c (Some at) = of_copy_on R c at (entry_of at.ckpt R.entries)

    of_next : (R : RecordState) (rooms : Rooms) (x : Driver) → P (driver_next R rooms x)
    of_next R rooms (drivers.Once x) = of_once R x
    of_next R rooms (drivers.Open o) = of_open R rooms.handles o o.making
    of_next R rooms (drivers.Update u) = of_whole u R.moment (entry_of u.ckpt R.entries)
    of_next R rooms (drivers.Active a) = of_active rooms.iterations a (entry_of a.ckpt R.entries)
    of_next R rooms (drivers.Sync u) = of_sync R u (entry_of u.ckpt R.entries)
    of_next R rooms (drivers.Copy c) = of_copy R c c.copying

-- ---- no look says by itself that a section was made

abbrev IsNoCreation : Next → Type 0
IsNoCreation (End (Done answers.Created)) = ⊥
IsNoCreation next = Unit {0}

no_creation : (R : RecordState) (rooms : Rooms) (x : Driver) → IsNoCreation (driver_next R rooms x)
no_creation R rooms x = of_next IsNoCreation (λ error cause. tt) (λ step. tt) (λ r request. tt) tt (λ n. tt) R rooms x

-- ---- of what drives a creation, only an update that has committed has nothing left

abbrev HasMore : Next → Type 0
HasMore (End (Done answers.Nothing)) = ⊥
HasMore next = Unit {0}

left_by : (R : RecordState) (rooms : Rooms) (x : Driver) → IsChanging x → driver_next R rooms x ≡ End (Done answers.Nothing) → HasCommitted x
left_by R rooms (drivers.Update u) is next = elim (of_update HasMore (λ error cause. tt) (λ step. tt) (λ r request. tt) u R.moment (entry_of u.ckpt R.entries)) [
  | inl committed ↦ committed
  | inr more ↦ absurd (subst HasMore next more)
]
left_by R rooms (drivers.Active a) is next = absurd (subst HasMore next (of_active HasMore (λ error cause. tt) (λ step. tt) (λ r request. tt) rooms.iterations a (entry_of a.ckpt R.entries)))
left_by R rooms x is next = absurd is

-- ---- how a look ends a call

-- as the machine's call is ended
pub ends_as : (s : CallState) (o : Outcome) → look_end s o ≡ looked_end s.op o
ends_as s (Done answers.Nothing) = refl
ends_as s (Done answers.Created) = refl
ends_as s (Done answer) = refl
ends_as s o = refl

pub word_as : (op : Op) (o : Outcome) → look_word (looked_end op o) ≡ look_word o
word_as op (Done answers.Nothing) = refl
word_as op (Done answers.Created) = refl
word_as op (Done answer) = refl
word_as op o = refl

-- and what is told beside it
module _ (w : World) (v : Who) (hand : InHand) (held : hand_at w.hands v ≡ Some hand) (h : History) (is : IsKnown w h) where
  abbrev s : CallState
  s = state_in h v hand

  tells_by : (o : Outcome) → driver_next w.cluster (rooms_at w (client_by v)) hand.driver ≡ End o → looked_details (looked_end hand.op o) hand.made ≡ look_details s (looked_end hand.op o)
  tells_by (Done answers.Nothing) next = by_update (update_of hand.op) refl where
    by_update : (u : Update) → update_of hand.op ≡ u → looked_details (Done (update_answer u)) hand.made ≡ look_details s (Done (update_answer u))
    by_update (updates.Create new expiration bytes) same =
        let creates : is_creation (update_of hand.op) ≡ true = ap is_creation same in
        let changing : IsChanging hand.driver = subst IsChanging (sym (driver_is w h v hand held is.fits)) (creation_changing s (is.facts.driven v s (in_hand_is w h v hand held)) creates) in
        (hand_fits w h v hand held is.fits).made (left_by w.cluster (rooms_at w (client_by v)) hand.driver changing next) creates
    by_update (updates.Delete id) same = refl
    by_update u same = refl
  tells_by (Done answers.Created) next = absurd (subst IsNoCreation next (no_creation w.cluster (rooms_at w (client_by v)) hand.driver))
  tells_by (Done answer) next = refl
  tells_by o next = refl

  pub tells_as : (o : Outcome) → driver_next w.cluster (rooms_at w (client_by v)) hand.driver ≡ End o → looked_details (looked_end hand.op o) hand.made ≡ look_details s (look_end s o)
  tells_as o next = tells_by o next ∙ ap (look_details s) (sym (ends_as s o))
