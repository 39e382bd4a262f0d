-- The update on all replicas that a call does: one of its own, or that of a copying which is at a checkpoint.
use Rattle.std.proofs.Common.{◌≡◌, ◌⊎◌, inl, inr, ℕ, Option, Some, None, true, false, refl, sym, ap, subst, ◌∙◌}
use Rattle.std.specs.Prelude.{IfSome}
use Rattle.std.proofs.lemmas.Option.{same_Some}
use Rattle.ckpt_types.specs.Asks.{Ask, asked, is_async_ask}
use Rattle.ckpt_types.specs.Asks as asks
use Rattle.node_msgs.specs.declared.next.Next.TheVariants.{Serve}
use Rattle.node_msgs.specs.declared.requests.Request.{Request}
use Rattle.node_msgs.specs.declared.requests.Request.TheVariants as requests
use Rattle.node_msgs.specs.declared.steps.Verb.{Verb}
use Rattle.node_msgs.specs.declared.steps.Verb.TheVariants as verbs
use Rattle.node_msgs.specs.Steps.{verb_of}
use Rattle.cluster_record.specs.declared.copying.Copying.{Copying}
use Rattle.cluster_record.specs.declared.copying.CopyPhase.{CopyPhase}
use Rattle.cluster_record.specs.declared.entries.Entry.{Entry}
use Rattle.cluster_record.specs.DueActive.{ActiveState}
use Rattle.cluster_record.specs.DueCopy.{CopyState, copy_taken_by, staging_phase, with_phase}
use Rattle.cluster_record.specs.DueOnce.{OneStep}
use Rattle.cluster_record.specs.DueOpen.{OpenState}
use Rattle.cluster_record.specs.DueSync.{SyncState}
use Rattle.cluster_record.specs.DueUpdate.{UpdateState, update_next, update_taken}
use Rattle.cluster_record.specs.Placement.{is_all}
use Rattle.cluster_record.specs.RecordState.{RecordState, entry_of}
use Rattle.cluster_record.specs.StepDone.{StepDone}
use Rattle.cluster_record.proofs.CopyStaging.{IsOfStaging, next-staging}
use Rattle.ckpt_machine.specs.Dead.{is_enter}
use Rattle.ckpt_machine.specs.Drivers.{Driver, Rooms, staging_at, update_in}
use Rattle.ckpt_machine.specs.Drivers as drivers
use Rattle.ckpt_machine.specs.Driving.{driver_next, driver_taken}
use Rattle.ckpt_machine.specs.InHand.{IsCopyingAt, IsInPlace, IsUpdateAsk, IsUpdateIn}
use Rattle.ckpt_machine.specs.Machine.{Machine, CallState}
use Rattle.ckpt_machine.specs.Shape.{Shape}

-- ---- which calls do one

-- a copying is at a checkpoint, where it does this update
pub record IsStagingAt (c : CopyState) (u : UpdateState) : Type 0 where
  pub at : Copying
  pub copying : c.copying ≡ Some at
  pub staging : c.staging ≡ u

staging_is : (c : CopyState) (u : UpdateState) (o : Option Copying) → c.copying ≡ o → staging_at o c.staging ≡ Some u → IsStagingAt c u
staging_is c u None none is = absurd (cc is)
staging_is c u (Some at) some is = record { at = at; copying = some; staging = same_Some c.staging u is }

-- an update drives such a call, or a copying that is at a checkpoint
pub does_update : (d : Driver) (u : UpdateState) → update_in d ≡ Some u → (d ≡ drivers.Update u) ⊎ ((c : CopyState) × (d ≡ drivers.Copy c) × IsStagingAt c u)
does_update (drivers.Update v) u is = inl (ap drivers.Update (same_Some v u is))
does_update (drivers.Copy c) u is = inr (c, refl, staging_is c u c.copying refl is)
does_update (drivers.Once x) u is = absurd (cc is)
does_update (drivers.Open o) u is = absurd (cc is)
does_update (drivers.Active a) u is = absurd (cc is)
does_update (drivers.Sync v) u is = absurd (cc is)

-- a copying that is so does it
pub does_staging : (c : CopyState) (at : Copying) → c.copying ≡ Some at → update_in (drivers.Copy c) ≡ Some c.staging
does_staging c at some = ap (λ o. staging_at o c.staging) some

-- no other driver does any
pub once_apart : (d : Driver) (u : UpdateState) (x : OneStep) → update_in d ≡ Some u → d ≡ drivers.Once x → ⊥
once_apart d u x does is = let none : None ≡ Some u = ap update_in (sym is) ∙ does in cc none

pub open_apart : (d : Driver) (u : UpdateState) (o : OpenState) → update_in d ≡ Some u → d ≡ drivers.Open o → ⊥
open_apart d u o does is = let none : None ≡ Some u = ap update_in (sym is) ∙ does in cc none

pub active_apart : (d : Driver) (u : UpdateState) (a : ActiveState) → update_in d ≡ Some u → d ≡ drivers.Active a → ⊥
active_apart d u a does is = let none : None ≡ Some u = ap update_in (sym is) ∙ does in cc none

pub sync_apart : (d : Driver) (u : UpdateState) (v : SyncState) → update_in d ≡ Some u → d ≡ drivers.Sync v → ⊥
sync_apart d u v does is = let none : None ≡ Some u = ap update_in (sym is) ∙ does in cc none

-- so it drives no Initialize
pub no_enter : (d : Driver) (u : UpdateState) → update_in d ≡ Some u → is_enter d ≡ false
no_enter (drivers.Update v) u is = refl
no_enter (drivers.Copy c) u is = refl
no_enter (drivers.Open o) u is = refl
no_enter (drivers.Active a) u is = refl
no_enter (drivers.Sync v) u is = refl
no_enter (drivers.Once x) u is = absurd (cc is)

-- a call does one update
pub one_update : (d e : Driver) (u v : UpdateState) → d ≡ e → update_in d ≡ Some u → update_in e ≡ Some v → u ≡ v
one_update d e u v same does does_too = same_Some u v (sym does ∙ ap update_in same ∙ does_too)

-- ---- behind a step of it

-- a step of an update
abbrev pub IsUpdateVerb : Verb → Type 0
IsUpdateVerb verbs.Stage = Unit {0}
IsUpdateVerb verbs.Claim = Unit {0}
IsUpdateVerb verbs.Withdraw = Unit {0}
IsUpdateVerb verbs.Commit = Unit {0}
IsUpdateVerb verb = ⊥

-- a copying is further at its checkpoint, and its update is as behind such a step
pub copy_staging : (d : StepDone) (c : CopyState) (verb : Verb) → IsUpdateVerb verb → copy_taken_by d c verb ≡ record c { copying = with_phase staging_phase c.copying; staging = update_taken d c.staging }
copy_staging d c verbs.Stage of = refl
copy_staging d c verbs.Claim of = refl
copy_staging d c verbs.Withdraw of = refl
copy_staging d c verbs.Commit of = refl
copy_staging d c verb of = absurd of

-- it is at the same one
pub still_at : (change : CopyPhase → CopyPhase) (o : Option Copying) (u v : UpdateState) (w : UpdateState) → staging_at o u ≡ Some w → staging_at (with_phase change o) v ≡ Some v
still_at change None u v w is = absurd (cc is)
still_at change (Some at) u v w is = refl

-- so the call does the update that this is behind the step
pub update_behind : (d : StepDone) (x : Driver) (u : UpdateState) → IsUpdateVerb d.verb → update_in x ≡ Some u → update_in (driver_taken d x) ≡ Some (update_taken d u)
update_behind d (drivers.Update v) u of is = ap (λ w. Some (update_taken d w)) (same_Some v u is)
update_behind d (drivers.Copy c) u of is =
    let at = staging_is c u c.copying refl is in
    ap (λ c. update_in (drivers.Copy c)) (copy_staging d c d.verb of)
    ∙ still_at staging_phase c.copying c.staging (update_taken d c.staging) u is
    ∙ ap (λ w. Some (update_taken d w)) at.staging
update_behind d (drivers.Once x) u of is = absurd (cc is)
update_behind d (drivers.Open o) u of is = absurd (cc is)
update_behind d (drivers.Active a) u of is = absurd (cc is)
update_behind d (drivers.Sync v) u of is = absurd (cc is)

-- ---- what is next of it

-- a request of an update
abbrev pub IsUpdateRequest : Request → Type 0
IsUpdateRequest request = IsUpdateVerb (verb_of request)

-- which is no reservation and no pull
pub of_staging : (request : Request) → IsUpdateRequest request → IsOfStaging request
of_staging (requests.Reserve k) of = absurd of
of_staging (requests.Pull call k) of = absurd of
of_staging request of = tt

-- such a request, where it is due of a call that does an update, is what this does next
pub update_due : (R : RecordState) (rooms : Rooms) (d : Driver) (u : UpdateState) (r : ℕ) (request : Request) → IsUpdateRequest request → update_in d ≡ Some u → driver_next R rooms d ≡ Serve r request → update_next R u ≡ Serve r request
update_due R rooms (drivers.Update v) u r request of does next = ap (update_next R) (sym (same_Some v u does)) ∙ next
update_due R rooms (drivers.Copy c) u r request of does next =
    let at = staging_is c u c.copying refl does in
    ap (update_next R) (sym at.staging) ∙ next-staging R c r request next (of_staging request of)
update_due R rooms (drivers.Once x) u r request of does next = absurd (cc does)
update_due R rooms (drivers.Open o) u r request of does next = absurd (cc does)
update_due R rooms (drivers.Active a) u r request of does next = absurd (cc does)
update_due R rooms (drivers.Sync v) u r request of does next = absurd (cc does)

-- ---- where it is

-- a copying that is at a checkpoint is where its steps have led it there
pub copying_there : (m : Machine) (shapes : ℕ → Shape) (s : CallState) (c : CopyState) (at : Copying) → c.copying ≡ Some at → IsInPlace m shapes s (drivers.Copy c) → IsCopyingAt m shapes s c at
copying_there m shapes s c at some here = subst (λ o. IfSome o (IsCopyingAt m shapes s c)) some here.at

-- where updates are on all replicas, the update of a call in hand is so
pub update_there : (m : Machine) (shapes : ℕ → Shape) (s : CallState) (d : Driver) (u : UpdateState) → IsInPlace m shapes s d → update_in d ≡ Some u → (e : Entry) → entry_of u.ckpt m.cluster.entries ≡ Some e → is_all e.attributes ≡ true → IsUpdateIn m shapes s u
update_there m shapes s (drivers.Update v) u here does e found all = subst (IsUpdateIn m shapes s) (same_Some v u does) here
update_there m shapes s (drivers.Copy c) u here does e found all =
    let at = staging_is c u c.copying refl does in
    let there = copying_there m shapes s c at.at at.copying here in
    let ckpt : at.at.ckpt ≡ u.ckpt = sym there.ckpt ∙ ap (λ (v : UpdateState). v.ckpt) at.staging in
    subst (IsUpdateIn m shapes s) at.staging (there.update e (ap (λ k. entry_of k m.cluster.entries) ckpt ∙ found) all)
update_there m shapes s (drivers.Once x) u here does e found all = absurd (cc does)
update_there m shapes s (drivers.Open o) u here does e found all = absurd (cc does)
update_there m shapes s (drivers.Active a) u here does e found all = absurd (cc does)
update_there m shapes s (drivers.Sync v) u here does e found all = absurd (cc does)

-- it is of the checkpoint that the call keeps, whose entry was made
pub update_kept : (m : Machine) (shapes : ℕ → Shape) (s : CallState) (d : Driver) (u : UpdateState) → IsInPlace m shapes s d → update_in d ≡ Some u → s.kept.ckpt ≡ Some u.ckpt
update_kept m shapes s (drivers.Update v) u here does = here.kept ∙ ap (λ (v : UpdateState). Some v.ckpt) (same_Some v u does)
update_kept m shapes s (drivers.Copy c) u here does =
    let at = staging_is c u c.copying refl does in
    let there = copying_there m shapes s c at.at at.copying here in
    there.kept ∙ ap Some (sym there.ckpt ∙ ap (λ (v : UpdateState). v.ckpt) at.staging)
update_kept m shapes s (drivers.Once x) u here does = absurd (cc does)
update_kept m shapes s (drivers.Open o) u here does = absurd (cc does)
update_kept m shapes s (drivers.Active a) u here does = absurd (cc does)
update_kept m shapes s (drivers.Sync v) u here does = absurd (cc does)

-- it is no asynchronous call
update_ask_plain : (ask : Ask) → IsUpdateAsk ask → is_async_ask ask ≡ false
update_ask_plain (asks.Change place update) is = refl
update_ask_plain asks.Copy is = refl
update_ask_plain ask is = absurd is

pub update_plain : (m : Machine) (shapes : ℕ → Shape) (s : CallState) (d : Driver) (u : UpdateState) → IsInPlace m shapes s d → update_in d ≡ Some u → is_async_ask (asked s.op) ≡ false
update_plain m shapes s (drivers.Update v) u here does = update_ask_plain (asked s.op) here.asks
update_plain m shapes s (drivers.Copy c) u here does = ap is_async_ask here.asks
update_plain m shapes s (drivers.Once x) u here does = absurd (cc does)
update_plain m shapes s (drivers.Open o) u here does = absurd (cc does)
update_plain m shapes s (drivers.Active a) u here does = absurd (cc does)
update_plain m shapes s (drivers.Sync v) u here does = absurd (cc does)
