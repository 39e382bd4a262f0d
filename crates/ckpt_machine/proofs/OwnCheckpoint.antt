-- What a call asks_own of a replica it asks_own of the checkpoint that it was begun on.
use Rattle.cluster_record.specs.RecordState.{RecordState}
use Rattle.cluster_record.specs.DueSync.{SyncState}
use Rattle.cluster_record.specs.declared.calls.SyncKind.{SyncKind}
use Rattle.cluster_record.specs.declared.calls.SyncKind.TheVariants.{Synchronize, ActiveSet}
use Rattle.std.proofs.Common.{◌≡◌, ℕ, Option, Some, None, Bool, true, false, cond, ◌==◌, refl, sym, ap, subst, ◌∙◌}
use Rattle.node_msgs.specs.Requests.{ckpt_of}
use Rattle.node_msgs.specs.Steps.{verb_of, event_verb}
use Rattle.node_msgs.specs.declared.next.Next.{Next}
use Rattle.node_msgs.specs.declared.next.Next.TheVariants.{Serve, Event, End}
use Rattle.node_msgs.specs.declared.next.RecordStep.{RecordStep}
use Rattle.node_msgs.specs.declared.next.RecordStep.TheVariants as events
use Rattle.node_msgs.specs.declared.requests.Request.TheVariants as requests
use Rattle.cluster_record.specs.declared.calls.ActiveKind.{ActiveKind}
use Rattle.cluster_record.specs.declared.calls.MarksMade.{MarksMade}
use Rattle.cluster_record.specs.declared.calls.ActiveKind.TheVariants as kinds
use Rattle.cluster_record.specs.DueActive.{weak_request, active_request, request_by}
use Rattle.ckpt_machine.specs.Guards.{IsOnOwn}
use Rattle.ckpt_machine.specs.Machine.{Machine, CallState}
use Rattle.ckpt_machine.specs.Due.{Told, IsDone, driver_of}
use Rattle.ckpt_types.specs.declared.identities.CallId.{CallId}
use Rattle.ckpt_machine.specs.Drivers.{Driver, Rooms}
use Rattle.ckpt_machine.specs.Drivers as drivers
use Rattle.ckpt_machine.specs.Driving.{event_ckpt, driver_next}
use Rattle.ckpt_machine.specs.InHand.{IsSyncBy, IsCopyingAt, IsInPlace}
use Rattle.ckpt_machine.specs.Shape.{Shape}
use Rattle.ckpt_machine.proofs.NextOf.{OfAsked, OfCopying, NamesNone, next_of}
use Rattle.ckpt_machine.proofs.OptionLemmas.{IfSome-at, IfSome-from}

-- what is next of a driver asks so
abbrev IsAskedOf : RecordState → Driver → Option ℕ → Next → Type 0
IsAskedOf R d own (Serve r request) = IsOnOwn (verb_of request) (Some (ckpt_of request)) own
IsAskedOf R d own (Event step) = IsOnOwn (event_verb step) (event_ckpt R d step) own
IsAskedOf R d own (End o) = Unit {0}

-- a step of the record asks no replica, unless it sets an active or completes one
no_event : (step : RecordStep) (ckpt own : Option ℕ) → NamesNone step → IsOnOwn (event_verb step) ckpt own
no_event events.Enter ckpt own none = tt
no_event events.Leave ckpt own none = tt
no_event events.Open ckpt own none = tt
no_event events.Create ckpt own none = tt
no_event events.Finish ckpt own none = tt
no_event events.Undo ckpt own none = tt
no_event events.Close ckpt own none = tt
no_event events.Unlink ckpt own none = tt
no_event events.Retain ckpt own none = tt
no_event (events.Hold r) ckpt own none = absurd none
no_event (events.Activate r) ckpt own none = absurd none
no_event (events.Complete k r t) ckpt own none = absurd none

-- so does the label of it
pub own_told : (m : Machine) (s : CallState) (next : Next) (t : Told) → IsAskedOf m.cluster (driver_of s) s.kept.ckpt next → IsDone m s next t → IsOnOwn t.verb t.ckpt s.kept.ckpt
own_told m s (Serve r request) t asked done = subst (λ verb. IsOnOwn verb t.ckpt s.kept.ckpt) (sym done.verb) (subst (λ ckpt. IsOnOwn (verb_of request) ckpt s.kept.ckpt) (sym done.ckpt) asked)
own_told m s (Event step) t asked done = subst (λ verb. IsOnOwn verb t.ckpt s.kept.ckpt) (sym done.verb) (subst (λ ckpt. IsOnOwn (event_verb step) ckpt s.kept.ckpt) (sym done.ckpt) asked)
own_told m s (End o) t asked done = subst (λ (t : Told). IsOnOwn t.verb t.ckpt s.kept.ckpt) (sym done) tt

-- ---- what a driver asks_own

weak_asks : (R : RecordState) (d : Driver) (call : CallId) (k r : ℕ) (marks : Option MarksMade) → IsAskedOf R d (Some k) (Serve r (weak_request call k marks))
weak_asks R d call k r None = refl
weak_asks R d call k r (Some marks) = by_left (marks.left == 0)
  where
    by_left : (b : Bool) → IsAskedOf R d (Some k) (Serve r (cond b (requests.Unmark call k) (requests.Element call k)))
    by_left true = refl
    by_left false = refl

kind_asks : (R : RecordState) (d : Driver) (call : CallId) (k r : ℕ) (kind : ActiveKind) (marks : Option MarksMade) → IsAskedOf R d (Some k) (Serve r (request_by call k kind marks))
kind_asks R d call k r kinds.Apply marks = refl
kind_asks R d call k r (kinds.Weak n) marks = weak_asks R d call k r marks
kind_asks R d call k r kinds.Read marks = refl
kind_asks R d call k r kinds.Status marks = refl
kind_asks R d call k r (kinds.Iterate choice) marks = refl
kind_asks R d call k r kinds.Next marks = refl

-- a synchronisation and the setting of an active keep their checkpoint
sync_kept : (m : Machine) (s : CallState) (u : SyncState) (kind : SyncKind) → IsSyncBy m s u kind → s.kept.ckpt ≡ Some u.ckpt
sync_kept m s u (Synchronize deadline) at = at.kept
sync_kept m s u (ActiveSet local) at = at.kept

-- an update, a call to the active, what brings its sections to others and a copying that is at a checkpoint are of the one that their call keeps
asks_own : (m : Machine) (shapes : ℕ → Shape) (s : CallState) (d : Driver) → IsInPlace m shapes s d → OfAsked (IsAskedOf m.cluster d s.kept.ckpt) d
asks_own m shapes s (drivers.Update u) at = (λ r t. sym at.kept, λ r. sym at.kept, λ r. sym at.kept, λ r. sym at.kept)
asks_own m shapes s (drivers.Active a) at = λ r. subst (λ own. IsAskedOf m.cluster (drivers.Active a) own (Serve r (active_request a))) (sym at.kept) (kind_asks m.cluster (drivers.Active a) a.call a.ckpt r a.kind a.marks)
asks_own m shapes s (drivers.Sync u) at = let kept = sync_kept m s u u.kind at in (λ r. sym kept, λ r. sym kept, λ r. sym kept, λ r. sym kept)
asks_own m shapes s (drivers.Copy c) at = IfSome-from c.copying (OfCopying (IsAskedOf m.cluster (drivers.Copy c) s.kept.ckpt) c) (λ here some.
    let there : IsCopyingAt m shapes s c here = IfSome-at c.copying (IsCopyingAt m shapes s c) at.at here some in
    let staged : Some c.staging.ckpt ≡ s.kept.ckpt = ap Some there.ckpt ∙ sym there.kept in
    record {
      update = (λ r t. staged, λ r. staged, λ r. staged, λ r. staged);
      pulls = λ r. sym there.kept;
      completes = λ moment. sym there.kept;
    })
asks_own m shapes s (drivers.Once x) at = tt
asks_own m shapes s (drivers.Open o) at = tt

-- so a due step is on it
pub own_step : (m : Machine) (shapes : ℕ → Shape) (s : CallState) (room : Rooms) (t : Told) → IsInPlace m shapes s (driver_of s) → IsDone m s (driver_next m.cluster room (driver_of s)) t → IsOnOwn t.verb t.ckpt s.kept.ckpt
own_step m shapes s room t at done = own_told m s (driver_next m.cluster room (driver_of s)) t (next_of (IsAskedOf m.cluster (driver_of s) s.kept.ckpt) (λ o. tt) (λ step none. no_event step (event_ckpt m.cluster (driver_of s) step) s.kept.ckpt none) (λ r k. tt) m.cluster room (driver_of s) (asks_own m shapes s (driver_of s) at)) done
