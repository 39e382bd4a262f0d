-- Refusals of the record.
use Rattle.std.specs.Prelude.{ℕ, length, nat_le, Option, Some, None, is_some, if◌then◌else◌, Result, Ok, Err}
use Rattle.ckpt_types.specs.declared.ais_error.AisError.{AisError}
use Rattle.ckpt_types.specs.declared.ais_error.AisError.TheVariants.{NoResources, NotExist, TryAgain, BadOperation}
use Rattle.ckpt_types.specs.declared.answers.Cause.TheVariants.{Plain, Count, Holder}
use Rattle.ckpt_types.specs.declared.identities.CallId.{CallId}
use Rattle.cluster_record.specs.declared.entries.Entry.{Entry}
use Rattle.ckpt_types.specs.Limits.{clients_max}
use Rattle.cluster_record.specs.declared.record.RecordRefused.{RecordRefused}
use Rattle.cluster_record.specs.Calls.{same_call}
use Rattle.cluster_record.specs.RecordState.{RecordState, can_be_held}

-- all of so many places are taken
abbrev pub all_taken : ℕ → RecordRefused
all_taken n = record { error = NoResources; cause = Count n }

-- a client more becomes live where not all places are taken
abbrev pub enter_answer : RecordState → Result (Unit {0}) RecordRefused
enter_answer R = if nat_le clients_max (length R.clients) then Err (all_taken clients_max) else Ok tt

-- a refusal that says all
abbrev pub plainly : AisError → RecordRefused
plainly error = record { error = error; cause = Plain }

-- another call is making the checkpoint, or holds it
abbrev pub held_by : CallId → RecordRefused
held_by call = record { error = TryAgain; cause = Holder call }

-- what is not in the making
abbrev pub unless_making : {X : Type 0} → Option CallId → X → Result X RecordRefused
unless_making None x = Ok x
unless_making (Some call) x = Err (held_by call)

-- an unlink is for the checkpoint that has the name, unless it is in the making
abbrev pub unlinkable : Option Entry → Result ℕ RecordRefused
unlinkable None = Err (plainly NotExist)
unlinkable (Some e) = unless_making e.making e.identity

-- what an unlink answers: that it was done, or why the checkpoint keeps its name
abbrev pub unlink_answer : Option Entry → Result (Unit {0}) RecordRefused
unlink_answer None = Err (plainly NotExist)
unlink_answer (Some e) = unless_making e.making tt

-- the retention is set of a checkpoint that has a name
abbrev pub retain_answer : Option Entry → Result (Unit {0}) RecordRefused
retain_answer None = Err (plainly NotExist)
retain_answer (Some e) = if is_some e.name then Ok tt else Err (plainly BadOperation)

-- a hold that stands is the call's own, or refuses it
abbrev pub unless_another_holds : CallId → Option CallId → Result (Unit {0}) RecordRefused
unless_another_holds call None = Ok tt
unless_another_holds call (Some holder) = if same_call holder call then Ok tt else Err (held_by holder)

-- what a hold by this call answers: that it is done, or which other call holds the checkpoint; what can't be held is done at once
abbrev pub hold_answer : CallId → Option Entry → Result (Unit {0}) RecordRefused
hold_answer call None = Ok tt
hold_answer call (Some e) = if can_be_held e then unless_another_holds call e.hold else Ok tt
