-- What drives a call is what its operation asks for, by the call's own steps alone.
use Rattle.std.proofs.Common.{◌≡◌, ℕ, List, [], ◌∷◌, Option, Some, None, Bool, true, false, ℤ, refl, ap, sym, subst, ◌∙◌}
use Rattle.std.specs.Prelude.{IfSome}
use Rattle.std.proofs.lemmas.Option.{same_Some}
use Rattle.ckpt_types.specs.declared.calls.OpenAsk.{OpenAsk}
use Rattle.ckpt_types.specs.declared.identities.CallId.{CallId}
use Rattle.node_msgs.specs.declared.steps.Verb.{Verb}
use Rattle.node_msgs.specs.declared.steps.Verb.TheVariants as verbs
use Rattle.node_msgs.specs.declared.steps.StepReply.{StepReply}
use Rattle.node_msgs.specs.declared.steps.StepReply.TheVariants as words
use Rattle.cluster_record.specs.declared.calls.Making.{Making}
use Rattle.cluster_record.specs.Calls.{client_of}
use Rattle.cluster_record.specs.DueCopy.{CopyState, copy_begun, copy_taken}
use Rattle.cluster_record.specs.DueOnce as once
use Rattle.cluster_record.specs.DueOpen.{OpenState, create_taken, with_making, reserve_taken, open_taken_by}
use Rattle.cluster_record.specs.DueUpdate.{update_begun}
use Rattle.cluster_record.specs.StepDone.{StepDone}
use Rattle.ckpt_types.specs.Asks.{Ask, asked}
use Rattle.ckpt_types.specs.Asks as asks
use Rattle.ckpt_machine.specs.Drivers.{Driver}
use Rattle.ckpt_machine.specs.Drivers as drivers
use Rattle.ckpt_machine.specs.Driving.{Kept, on_kept, driver_start, driver_state, driver_taken, kind_of_change, change_start}
use Rattle.ckpt_machine.specs.Machine.{CallState}
use Rattle.ckpt_machine.specs.Due.{IsDriven, driver_of}

-- an open is of this call and its client, and of the name and the attributes that are asked for
pub record IsOpenFor (call : CallId) (ask : Ask) (o : OpenState) : Type 0 where
  pub place : ℕ
  pub flags : ℕ
  pub timeout : Option ℤ
  pub asks : ask ≡ asks.Open place o.ask.name flags timeout o.ask.attrs
  pub call_is : o.call ≡ call
  pub client : o.ask.client ≡ client_of call

-- a retention is set to the duration that is asked for
pub record IsRetentionFor (ask : Ask) (duration : ℤ) : Type 0 where
  pub place : ℕ
  pub asks : ask ≡ asks.Retain place duration

-- a driver does what is asked for
abbrev pub DrivesFor : CallId → Ask → Driver → Type 0
DrivesFor call ask (drivers.Open o) = IsOpenFor call ask o
DrivesFor call ask (drivers.Once (once.Retain k duration)) = IsRetentionFor ask duration
DrivesFor call ask (drivers.Copy c) = ask ≡ asks.Copy
DrivesFor call ask driver = Unit {0}

-- ---- at the beginning

-- one that wants a checkpoint, where it keeps one
kept_drives : (call : CallId) (ask : Ask) (o : Option ℕ) (start : ℕ → Driver) → ((k : ℕ) → DrivesFor call ask (start k)) → IfSome (on_kept o start) (DrivesFor call ask)
kept_drives call ask None start each = tt
kept_drives call ask (Some k) start each = each k

-- what drives one that asks for this, where anything does
start_drives : (call : CallId) (ask : Ask) (kept : Kept) → IfSome (driver_start call ask kept) (DrivesFor call ask)
start_drives call (asks.Open place name flags timeout a) kept = record { place = place; flags = flags; timeout = timeout; asks = refl; call_is = refl; client = refl }
start_drives call (asks.Retain place duration) kept = kept_drives call (asks.Retain place duration) kept.ckpt _ (λ k. record { place = place; asks = refl })
start_drives call (asks.Change place update) kept = by_all kept.all
  where
    by_all : (all : Bool) → IfSome (change_start call all (kind_of_change kept.weak update) kept.ckpt) (DrivesFor call (asks.Change place update))
    by_all true = kept_drives call (asks.Change place update) kept.ckpt _ (λ k. tt)
    by_all false = kept_drives call (asks.Change place update) kept.ckpt _ (λ k. tt)
start_drives call (asks.Read place elements) kept = kept_drives call (asks.Read place elements) kept.ckpt _ (λ k. tt)
start_drives call (asks.Status place) kept = kept_drives call (asks.Status place) kept.ckpt _ (λ k. tt)
start_drives call (asks.Iterate iteration place chosen time) kept = kept_drives call (asks.Iterate iteration place chosen time) kept.ckpt _ (λ k. tt)
start_drives call (asks.Next iteration) kept = kept_drives call (asks.Next iteration) kept.ckpt _ (λ k. tt)
start_drives call (asks.Close place) kept = kept_drives call (asks.Close place) kept.ckpt _ (λ k. tt)
start_drives call (asks.Synchronize place timeout) kept = kept_drives call (asks.Synchronize place timeout) kept.ckpt _ (λ k. tt)
start_drives call (asks.SetActive place) kept = kept_drives call (asks.SetActive place) kept.ckpt _ (λ k. tt)
start_drives call asks.Copy kept = refl
start_drives call ask kept = tt

-- ---- behind a step

-- an open of the same call asks for the same
record AsksAlike (o p : OpenState) : Type 0 where
  call : p.call ≡ o.call
  ask : p.ask ≡ o.ask

making_alike : (o : OpenState) (making : Option Making) (change : Making → Making) → AsksAlike o (with_making o making change)
making_alike o None change = record { call = refl; ask = refl }
making_alike o (Some making) change = record { call = refl; ask = refl }

create_alike : (d : StepDone) (o : OpenState) (reply : StepReply) → AsksAlike o (create_taken d o reply)
create_alike d o words.Ok = record { call = refl; ask = refl }
create_alike d o reply = record { call = refl; ask = refl }

reserve_alike : (d : StepDone) (o : OpenState) (reply : StepReply) → AsksAlike o (reserve_taken d o reply)
reserve_alike d o words.Ok = making_alike o o.making _
reserve_alike d o words.Memory = making_alike o o.making _
reserve_alike d o reply = record { call = refl; ask = refl }

taken_alike : (d : StepDone) (o : OpenState) (verb : Verb) → AsksAlike o (open_taken_by d o verb)
taken_alike d o verbs.Create = create_alike d o d.reply
taken_alike d o verbs.Reserve = reserve_alike d o d.reply
taken_alike d o verb = record { call = refl; ask = refl }

taken_drives : (call : CallId) (ask : Ask) (d : StepDone) (x : Driver) → DrivesFor call ask x → DrivesFor call ask (driver_taken d x)
taken_drives call ask d (drivers.Once x) drives = drives
taken_drives call ask d (drivers.Open o) drives =
    let alike = taken_alike d o d.verb in
    record {
      place = drives.place;
      flags = drives.flags;
      timeout = drives.timeout;
      asks = subst (λ (a : OpenAsk). ask ≡ asks.Open drives.place a.name drives.flags drives.timeout a.attrs) (sym alike.ask) drives.asks;
      call_is = alike.call ∙ drives.call_is;
      client = ap (λ (a : OpenAsk). a.client) alike.ask ∙ drives.client;
    }
taken_drives call ask d (drivers.Update u) drives = tt
taken_drives call ask d (drivers.Active a) drives = tt
taken_drives call ask d (drivers.Sync u) drives = tt
taken_drives call ask d (drivers.Copy c) drives = drives

-- ---- in any state of a call

steps_drive : (call : CallId) (ask : Ask) (begun : Driver) (steps : List StepDone) → DrivesFor call ask begun → DrivesFor call ask (driver_state begun steps)
steps_drive call ask begun [] drives = drives
steps_drive call ask begun (d ∷ steps) drives = taken_drives call ask d (driver_state begun steps) (steps_drive call ask begun steps drives)

-- a copying's driver is a copying behind each step
copy_steps : (c : CopyState) (steps : List StepDone) → (x : CopyState) × (driver_state (drivers.Copy c) steps ≡ drivers.Copy x)
copy_steps c [] = (c, refl)
copy_steps c (d ∷ steps) = let (x, is) = copy_steps c steps in (copy_taken d x, ap (driver_taken d) is)

-- so it is in any state of one
pub copy_driven : (s : CallState) → IsDriven s → asked s.op ≡ asks.Copy → (c : CopyState) × (driver_of s ≡ drivers.Copy c)
copy_driven s driven copies =
    let start : CopyState = copy_begun s.call (update_begun s.call 0) in
    let begun : drivers.Copy start ≡ s.begun = same_Some (drivers.Copy start) s.begun (ap (λ ask. driver_start s.call ask s.kept) (sym copies) ∙ driven) in
    let (x, is) = copy_steps start s.steps in
    (x, ap (λ d. driver_state d s.steps) (sym begun) ∙ is)

-- where its steps have led it
pub state_drives : (s : CallState) → IsDriven s → DrivesFor s.call (asked s.op) (driver_of s)
state_drives s driven = steps_drive s.call (asked s.op) s.begun s.steps (subst (λ o. IfSome o (DrivesFor s.call (asked s.op))) driven (start_drives s.call (asked s.op) s.kept))
