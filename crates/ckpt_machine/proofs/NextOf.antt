-- What is next of a call: a look, a step of the record, a reservation, or what its driver asks of a replica.
use Rattle.ckpt_machine.specs.Drivers.{Rooms, Driver}
use Rattle.std.proofs.Common.{◌≡◌, ℕ, Bool, true, false, ℤ, cond, sym, subst, ◌==◌}
use Rattle.std.specs.Prelude.{Option, Some, None, IfSome, is_some, not, ◌&&◌, nat_le, length}
use Rattle.ckpt_types.specs.declared.answers.Outcome.{Outcome}
use Rattle.ckpt_types.specs.declared.answers.Outcome.TheVariants.{Done}
use Rattle.ckpt_types.specs.declared.attributes.CreationAttributes.{CreationAttributes}
use Rattle.ckpt_types.specs.declared.identities.CallId.{CallId}
use Rattle.node_msgs.specs.declared.requests.Request.TheVariants.{Reserve, Stage, Claim, Commit, Withdraw, Pull, Install, Unmark, Element}
use Rattle.node_msgs.specs.declared.next.RecordStep.{RecordStep}
use Rattle.node_msgs.specs.declared.next.RecordStep.TheVariants.{Enter, Leave, Open, Create, Finish, Undo, Close, Unlink, Retain, Hold, Activate, Complete}
use Rattle.node_msgs.specs.declared.next.Next.{Next}
use Rattle.node_msgs.specs.declared.next.Next.TheVariants.{Serve, Event, End}
use Rattle.ckpt_machine.specs.Drivers as drivers
use Rattle.cluster_record.specs.declared.calls.ActiveKind.{ActiveKind}
use Rattle.cluster_record.specs.declared.calls.ActiveKind.TheVariants as kinds
use Rattle.cluster_record.specs.declared.calls.Making.{Making}
use Rattle.cluster_record.specs.declared.calls.MarksMade.{MarksMade}
use Rattle.cluster_record.specs.declared.calls.PulledAt.{PulledAt}
use Rattle.cluster_record.specs.declared.calls.SyncKind.{SyncKind}
use Rattle.cluster_record.specs.declared.calls.SyncKind.TheVariants.{Synchronize, ActiveSet}
use Rattle.cluster_record.specs.declared.copying.Copying.{Copying}
use Rattle.cluster_record.specs.declared.copying.CopyPhase.{CopyPhase}
use Rattle.cluster_record.specs.declared.copying.CopyPhase.TheVariants as phases
use Rattle.cluster_record.specs.Calls.{same_call}
use Rattle.cluster_record.specs.DueCopy.{CopyState, copy_at, copy_on, next_to_copy, onward, phase_next, pull_at, reserve_next, reserved_next, staged_next, staging_next, unless_done}
use Rattle.cluster_record.specs.DueSync.{SyncState, first_unserved, install_next, unless_stale, lead_next, unless_held, synchronize_next, kind_next, sync_on}
use Rattle.cluster_record.specs.DueOpen.{OpenState, accepts, create_next, entry_by, entry_next, on_named, reserve_or_finish, targets_of, on_making, by_making}
use Rattle.cluster_record.specs.DueActive.{ActiveState, unless_changed, unless_on_hold, is_update, on_active, active_on, active_request, request_by, starts_iteration, weak_request}
use Rattle.cluster_record.specs.declared.entries.Entry.{Entry}
use Rattle.cluster_record.specs.DueUpdate.{UpdateState, all_staged, claim_at, commit_at, commit_first, stage_at, by_phase, update_led, update_next, update_on}
use Rattle.cluster_record.specs.declared.calls.UpdatePhase.{UpdatePhase}
use Rattle.cluster_record.specs.declared.calls.UpdatePhase.TheVariants.{Staging, Committing, Claiming, Claimed, Withdrawing, Resolving}
use Rattle.cluster_record.specs.Placement.{is_all}
use Rattle.cluster_record.specs.RecordState.{RecordState, entry_of, first_complete, named}
use Rattle.cluster_record.specs.StepDone.{first_lacking, last_having}
use Rattle.ckpt_machine.specs.Driving.{driver_next}
use Rattle.ckpt_types.specs.declared.calls.OpenAsk.{OpenAsk}
use Rattle.cluster_record.specs.DueOnce.{OneStep, once_next, close_of, unlink_of_making, unlink_of, retain_of}
use Rattle.cluster_record.specs.DueOnce as once
use Rattle.ckpt_machine.proofs.Deadlines.{in_time-either}

-- what an update asks of a replica has it
abbrev pub OfUpdate : (Next → Type 0) → UpdateState → Type 0
OfUpdate P u = ((r : ℕ) (t : ℤ) → P (Serve r (Stage u.call u.ckpt t))) × ((r : ℕ) → P (Serve r (Commit u.call u.ckpt))) × ((r : ℕ) → P (Serve r (Claim u.call u.ckpt u.owner))) × ((r : ℕ) → P (Serve r (Withdraw u.call u.ckpt)))

-- what a copying asks at this checkpoint has it: the steps of its update, its pull and its completion
pub record OfCopying (P : Next → Type 0) (c : CopyState) (at : Copying) : Type 0 where
  pub update : OfUpdate P c.staging
  pub pulls : (r : ℕ) → P (Serve r (Pull c.call at.ckpt))
  pub completes : (moment : Option ℤ) → P (Event (Complete at.ckpt c.node moment))

-- what a driver asks of a replica has it, and the steps of the setting of an active, and of a copying
abbrev pub OfAsked : (Next → Type 0) → Driver → Type 0
OfAsked P (drivers.Update u) = OfUpdate P u
OfAsked P (drivers.Active a) = (r : ℕ) → P (Serve r (active_request a))
OfAsked P (drivers.Sync u) = ((r : ℕ) → P (Serve r (Pull u.call u.ckpt))) × ((r : ℕ) → P (Serve r (Install u.call u.ckpt))) × ((r : ℕ) → P (Event (Hold r))) × ((r : ℕ) → P (Event (Activate r)))
OfAsked P (drivers.Copy c) = IfSome c.copying (OfCopying P c)
OfAsked P driver = Unit {0}

-- a step of the record that names no node of a checkpoint
abbrev pub NamesNone : RecordStep → Type 0
NamesNone (Hold r) = ⊥
NamesNone (Activate r) = ⊥
NamesNone (Complete k r moment) = ⊥
NamesNone step = Unit {0}

-- an open makes a checkpoint, and a copying a replica; no other call reserves anything
abbrev pub IsNoMaker : Driver → Type 0
IsNoMaker (drivers.Open o) = ⊥
IsNoMaker (drivers.Copy c) = ⊥
IsNoMaker driver = Unit {0}

module _ (P : Next → Type 0) (ends : (o : Outcome) → P (End o)) (steps : (step : RecordStep) → NamesNone step → P (Event step)) where
  by_two : (a b : Bool) (x y : Outcome) (step : RecordStep) → NamesNone step → P (cond a (End x) (cond b (End y) (Event step)))
  by_two true b x y step none = ends x
  by_two false true x y step none = ends y
  by_two false false x y step none = steps step none

  by_one : (a : Bool) (x : Outcome) (step : RecordStep) → NamesNone step → P (cond a (End x) (Event step))
  by_one true x step none = ends x
  by_one false x step none = steps step none

  -- ---- an open

  of_entry : (room : Bool) (a : Option CreationAttributes) (e : Entry) (making : Option CallId) → P (entry_by making room a e)
  of_entry room a e (Some call) = steps Open tt
  of_entry room a e None = by_two (not (accepts a e)) (not room) _ _ Open tt

  of_named : (R : RecordState) (room : Bool) (deadline : Option ℤ) (a : Option CreationAttributes) (e : Option Entry) → P (on_named R room deadline a e)
  of_named R room deadline None None = ends _
  of_named R room deadline (Some a) None = in_time-either P deadline R.moment (create_next R room) ends (by_two (not room) (nat_le 16 (length R.entries)) _ _ Create tt)
  of_named R room deadline a (Some e) = in_time-either P deadline R.moment (entry_next room a e) ends (of_entry room a e e.making)

  module _ (reserves : (r k : ℕ) → P (Serve r (Reserve k))) where
    of_reserve : (k : ℕ) (r : Option ℕ) → P (reserve_or_finish k r)
    of_reserve k None = steps Finish tt
    of_reserve k (Some r) = reserves r k

    of_making : (R : RecordState) (ask : OpenAsk) (m : Making) → P (on_making R ask m)
    of_making R ask m = by_test m.refused where
      by_test : (b : Bool) → P (cond b (Event Undo) (reserve_or_finish m.ckpt (first_lacking 0 (targets_of ask R) m.reserved)))
      by_test true = steps Undo tt
      by_test false = of_reserve m.ckpt (first_lacking 0 (targets_of ask R) m.reserved)

    of_open : (R : RecordState) (room : Bool) (o : OpenState) (m : Option Making) → P (by_making R room o m)
    of_open R room o None = of_named R room o.deadline o.ask.attrs (named o.ask.name R.entries)
    of_open R room o (Some m) = in_time-either P o.deadline R.moment (on_making R o.ask m) ends (of_making R o.ask m)

  -- ---- an update

  module _ (u : UpdateState) (stages : (r : ℕ) (t : ℤ) → P (Serve r (Stage u.call u.ckpt t))) (commits : (r : ℕ) → P (Serve r (Commit u.call u.ckpt))) (claims : (r : ℕ) → P (Serve r (Claim u.call u.ckpt u.owner))) (withdraws : (r : ℕ) → P (Serve r (Withdraw u.call u.ckpt))) where
    of_commit : (last : Option ℕ) → P (commit_at u last)
    of_commit None = ends _
    of_commit (Some r) = commits r

    of_first : (last : Option ℕ) → P (commit_first u last)
    of_first None = ends _
    of_first (Some r) = commits r

    of_stage : (moment : ℤ) (first last : Option ℕ) → P (stage_at u moment first last)
    of_stage moment (Some r) last = stages r _
    of_stage moment None last = of_first last

    of_claim : (first last : Option ℕ) → P (claim_at u first last)
    of_claim None last = of_first last
    of_claim (Some r) last = claims r

    of_phase : (moment : ℤ) (first last : Option ℕ) (phase : UpdatePhase) → P (by_phase u moment first last phase)
    of_phase moment first last Staging = of_stage moment first last
    of_phase moment first last Committing = of_commit last
    of_phase moment first last Claiming = of_claim first last
    of_phase moment first None Claimed = of_stage moment first None
    of_phase moment first (Some r) Claimed = of_claim first (Some r)
    of_phase moment first None Withdrawing = of_stage moment first None
    of_phase moment first (Some r) Withdrawing = withdraws r
    of_phase moment first None Resolving = of_stage moment first None
    of_phase moment first (Some r) Resolving = of_commit (Some r)

    of_led : (moment : ℤ) (e : Entry) (active : Option ℕ) → P (update_led u moment e active)
    of_led moment e None = ends _
    of_led moment e (Some active) = of_phase moment (first_lacking 0 e.complete u.owned) (last_having 0 e.complete u.owned) u.phase

    of_update : (moment : ℤ) (e : Option Entry) → P (update_on u moment e)
    of_update moment None = ends _
    of_update moment (Some e) = of_led moment e e.active

  -- ---- a call to the active

  of_active : (room : Bool) (a : ActiveState) (e : Option Entry) → ((r : ℕ) → P (Serve r (active_request a))) → P (active_on room a e)
  of_active room a None asks = ends _
  of_active room a (Some e) asks = at e.generation e.hold e.active where
    by_generation : (b : Bool) (x : Outcome) (r : ℕ) → P (cond b (Serve r (active_request a)) (End x))
    by_generation true x r = asks r
    by_generation false x r = ends x

    by_marks : (marks : Option MarksMade) (generation r : ℕ) → P (unless_changed marks generation (Serve r (active_request a)))
    by_marks None generation r = asks r
    by_marks (Some marks) generation r = by_generation (marks.generation == generation) _ r

    by_update : (b : Bool) (x : Outcome) (generation r : ℕ) → P (cond b (End x) (unless_changed a.marks generation (Serve r (active_request a))))
    by_update true x generation r = ends x
    by_update false x generation r = by_marks a.marks generation r

    by_hold : (generation : ℕ) (hold : Option CallId) (r : ℕ) → P (unless_on_hold a.kind hold (unless_changed a.marks generation (Serve r (active_request a))))
    by_hold generation None r = by_marks a.marks generation r
    by_hold generation (Some holder) r = by_update (is_update a.kind) _ generation r

    by_test : (b : Bool) (x : Outcome) (generation : ℕ) (hold : Option CallId) (r : ℕ) → P (cond b (End x) (unless_on_hold a.kind hold (unless_changed a.marks generation (Serve r (active_request a)))))
    by_test true x generation hold r = ends x
    by_test false x generation hold r = by_hold generation hold r

    at : (generation : ℕ) (hold : Option CallId) (r : Option ℕ) → P (on_active room a generation hold r)
    at generation hold None = ends _
    at generation hold (Some r) = by_test (starts_iteration a.kind && not room) _ generation hold r

  -- ---- a synchronisation, and the setting of an active

  module _ (R : RecordState) (u : SyncState) (pulls : (r : ℕ) → P (Serve r (Pull u.call u.ckpt))) (installs : (r : ℕ) → P (Serve r (Install u.call u.ckpt))) (holds : (r : ℕ) → P (Event (Hold r))) (activates : (r : ℕ) → P (Event (Activate r))) where
    of_install : (count : ℕ) (r : Option ℕ) → P (install_next u.call u.ckpt count r)
    of_install count None = ends _
    of_install count (Some r) = installs r

    of_pulled : (e : Entry) (r : ℕ) (p : Option PulledAt) → P (unless_stale u e r p)
    of_pulled e r None = pulls r
    of_pulled e r (Some p) = by_test (p.generation == e.generation) _
      where
        by_test : (b : Bool) (x : Outcome) → P (cond b (install_next u.call u.ckpt p.count (first_unserved 0 e.complete u.served)) (End x))
        by_test true x = of_install p.count (first_unserved 0 e.complete u.served)
        by_test false x = ends x

    of_synchronize : (deadline : Option ℤ) (e : Entry) (r : Option ℕ) → P (synchronize_next R u deadline e r)
    of_synchronize deadline e None = ends _
    of_synchronize deadline e (Some r) = in_time-either P deadline R.moment (unless_stale u e r u.pulled) ends (of_pulled e r u.pulled)

    of_lead : (local : ℕ) (active : Option ℕ) → P (lead_next local active)
    of_lead local None = activates local
    of_lead local (Some r) = by_test (r == local)
      where
        by_test : (b : Bool) → P (cond b (Event (Activate local)) (Event (Hold r)))
        by_test true = activates local
        by_test false = holds r

    of_hold : (local : ℕ) (active : Option ℕ) (hold : Option CallId) → P (unless_held u.call local active hold)
    of_hold local active None = of_lead local active
    of_hold local active (Some holder) = by_test (same_call holder u.call) _
      where
        by_test : (b : Bool) (x : Outcome) → P (cond b (Event (Activate local)) (End x))
        by_test true x = activates local
        by_test false x = ends x

    of_kind : (e : Entry) (kind : SyncKind) → P (kind_next R u e kind)
    of_kind e (Synchronize deadline) = of_synchronize deadline e e.active
    of_kind e (ActiveSet local) = of_hold local e.active e.hold

    of_sync : (e : Option Entry) → P (sync_on R u e)
    of_sync None = ends _
    of_sync (Some e) = of_kind e u.kind

  -- ---- a call of one step

  of_close : (e : Option Entry) → P (close_of e)
  of_close None = ends _
  of_close (Some e) = steps Close tt

  of_unlink : (e : Option Entry) → P (unlink_of e)
  of_unlink None = ends _
  of_unlink (Some e) = by_maker e.making where
    by_maker : (making : Option CallId) → P (unlink_of_making making)
    by_maker None = steps Unlink tt
    by_maker (Some call) = ends _

  of_retain : (e : Option Entry) → P (retain_of e)
  of_retain None = ends _
  of_retain (Some e) = by_test (is_some e.name) _ where
    by_test : (b : Bool) (x : Outcome) → P (cond b (Event Retain) (End x))
    by_test true x = steps Retain tt
    by_test false x = ends x

  -- ---- a copying

  module _ (reserves : (r k : ℕ) → P (Serve r (Reserve k))) (R : RecordState) (c : CopyState) where
    of_next_lacked : (first : Option ℕ) → P (reserve_next c.node first)
    of_next_lacked None = ends _
    of_next_lacked (Some k) = reserves c.node k

    of_onward : P (onward R c)
    of_onward = of_next_lacked (next_to_copy c.node R.entries)

    module _ (at : Copying) (asks : OfCopying P c at) where
      of_pull_at : (o : Option ℕ) → P (pull_at c.call at.ckpt o)
      of_pull_at None = ends _
      of_pull_at (Some r) = asks.pulls r

      of_unless_done : (next : Next) → P next → P (unless_done (onward R c) next)
      of_unless_done (End (Done answer)) has = of_onward
      of_unless_done next has = has

      of_staging : P (staging_next R c)
      of_staging = of_unless_done (update_next R c.staging) (of_update c.staging asks.update.0 asks.update.1 asks.update.2 asks.update.3 R.moment (entry_of c.staging.ckpt R.entries))

      of_reserved : (e : Entry) (all : Bool) → P (reserved_next R c at.ckpt e all)
      of_reserved e true = of_staging
      of_reserved e false = of_pull_at e.active

      of_staged : (e : Entry) (all : Bool) → P (staged_next R c at.ckpt e all)
      of_staged e true = of_pull_at (first_complete 0 e.complete)
      of_staged e false = of_staging

      of_completion : (b : Bool) (x : Outcome) → P (cond b (Event (Complete at.ckpt c.node None)) (End x))
      of_completion true x = asks.completes None
      of_completion false x = ends x

      of_copy_phase : (e : Entry) (phase : CopyPhase) → P (phase_next R c at.ckpt e phase)
      of_copy_phase e phases.Reserved = of_reserved e (is_all e.attributes)
      of_copy_phase e phases.Staging = of_staged e (all_staged R c.staging)
      of_copy_phase e (phases.PulledActive generation) = of_completion (generation == e.generation) _
      of_copy_phase e phases.PulledStaged = asks.completes _
      of_copy_phase e phases.Committing = of_staging

      of_copy_on : (e : Option Entry) → P (copy_on R c at e)
      of_copy_on None = of_onward
      of_copy_on (Some e) = of_copy_phase e at.phase

    of_copy : (o : Option Copying) → IfSome o (OfCopying P c) → P (copy_at R c o)
    of_copy None asks = of_onward
    of_copy (Some at) asks = of_copy_on at asks (entry_of at.ckpt R.entries)

  -- ---- any call

  of_once : (R : RecordState) (x : OneStep) → P (once_next R x)
  of_once R (once.Enter r) = by_one (nat_le 64 (length R.clients)) _ Enter tt
  of_once R once.Leave = steps Leave tt
  of_once R (once.Close k) = of_close (entry_of k R.entries)
  of_once R (once.Unlink name) = of_unlink (named name R.entries)
  of_once R (once.Retain k duration) = of_retain (entry_of k R.entries)

  -- any but an open and a copying reserves nothing
  pub next_unreserved : (R : RecordState) (room : Rooms) (x : Driver) → IsNoMaker x → OfAsked P x → P (driver_next R room x)
  next_unreserved R room (drivers.Once x) no_maker asks = of_once R x
  next_unreserved R room (drivers.Update u) no_maker asks = of_update u asks.0 asks.1 asks.2 asks.3 R.moment (entry_of u.ckpt R.entries)
  next_unreserved R room (drivers.Active a) no_maker asks = of_active room.iterations a (entry_of a.ckpt R.entries) asks
  next_unreserved R room (drivers.Sync u) no_maker asks = of_sync R u asks.0 asks.1 asks.2 asks.3 (entry_of u.ckpt R.entries)
  next_unreserved R room x no_maker asks = absurd no_maker

  pub next_of : ((r k : ℕ) → P (Serve r (Reserve k))) → (R : RecordState) (room : Rooms) (x : Driver) → OfAsked P x → P (driver_next R room x)
  next_of reserves R room (drivers.Open o) asks = of_open reserves R room.handles o o.making
  next_of reserves R room (drivers.Copy c) asks = of_copy reserves R c c.copying asks
  next_of reserves R room (drivers.Once x) asks = next_unreserved R room (drivers.Once x) tt asks
  next_of reserves R room (drivers.Update u) asks = next_unreserved R room (drivers.Update u) tt asks
  next_of reserves R room (drivers.Active a) asks = next_unreserved R room (drivers.Active a) tt asks
  next_of reserves R room (drivers.Sync u) asks = next_unreserved R room (drivers.Sync u) tt asks

-- ---- who reserves

-- a node is to reserve
abbrev IsReservation : Next → Type 0
IsReservation (Serve r (Reserve k)) = Unit {0}
IsReservation next = ⊥

marks_no_reservation : (call : CallId) (k r : ℕ) (marks : Option MarksMade) → IsReservation (Serve r (weak_request call k marks)) → ⊥
marks_no_reservation call k r None is = is
marks_no_reservation call k r (Some marks) is = by_left (marks.left == 0) is where
  by_left : (b : Bool) → IsReservation (Serve r (cond b (Unmark call k) (Element call k))) → ⊥
  by_left true is = is
  by_left false is = is

kind_no_reservation : (call : CallId) (k r : ℕ) (kind : ActiveKind) (marks : Option MarksMade) → IsReservation (Serve r (request_by call k kind marks)) → ⊥
kind_no_reservation call k r (kinds.Weak n) marks is = marks_no_reservation call k r marks is
kind_no_reservation call k r kind marks is = is

no_reservation : (x : Driver) → IsNoMaker x → OfAsked (λ next. IsReservation next → ⊥) x
no_reservation (drivers.Once x) no_maker = tt
no_reservation (drivers.Update u) no_maker = (λ r t is. is, λ r is. is, λ r is. is, λ r is. is)
no_reservation (drivers.Active a) no_maker = λ r. kind_no_reservation a.call a.ckpt r a.kind a.marks
no_reservation (drivers.Sync u) no_maker = (λ r is. is, λ r is. is, λ r is. is, λ r is. is)
no_reservation x no_maker = absurd no_maker

-- an open does, or a copying, and no other call
pub reserved_by : (R : RecordState) (room : Rooms) (x : Driver) (r k : ℕ) → driver_next R room x ≡ Serve r (Reserve k) → IsNoMaker x → ⊥
reserved_by R room x r k next no_maker = next_unreserved (λ next. IsReservation next → ⊥) (λ o is. is) (λ step none is. is) R room x no_maker (no_reservation x no_maker) (subst IsReservation (sym next) tt)
