-- An open as one step of the record: what it answers, and what the record becomes.
use Rattle.std.specs.Prelude.{ℕ, ◌+◌, length, Option, Some, None, not, nat_le, if◌then◌else◌, Result, Ok, Err}
use Rattle.ckpt_types.specs.declared.ais_error.AisError.TheVariants.{NotExist, Exist}
use Rattle.ckpt_types.specs.declared.attributes.CreationAttributes.{CreationAttributes}
use Rattle.ckpt_types.specs.declared.calls.OpenAsk.{OpenAsk}
use Rattle.ckpt_types.specs.declared.identities.CallId.{CallId}
use Rattle.ckpt_types.specs.Limits.{checkpoints_max}
use Rattle.cluster_record.specs.declared.entries.Entry.{Entry}
use Rattle.cluster_record.specs.declared.opening.OpenAnswer.{OpenAnswer}
use Rattle.cluster_record.specs.declared.opening.OpenAnswer.TheVariants.{Opened, Made, Refused}
use Rattle.cluster_record.specs.DueOpen.{accepts}
use Rattle.cluster_record.specs.Refusals.{plainly, held_by, all_taken}
use Rattle.cluster_record.specs.Placement.{adds}
use Rattle.cluster_record.specs.RecordState.{RecordState, home_of, named, created_by_ask, opened}

-- what is in the making is not opened by another call, and what is there only with the attributes that it has
abbrev pub answer_by : Option CallId → Option CreationAttributes → ℕ → Entry → OpenAnswer
answer_by (Some call) a opener e = Refused (held_by call)
answer_by None a opener e = if not (accepts a e) then Refused (plainly Exist) else Opened e.identity (adds e.attributes opener e.complete)

-- what an open from this node gets of the checkpoint that has its name
abbrev pub answer_of : Option CreationAttributes → ℕ → Entry → OpenAnswer
answer_of a opener e = answer_by e.making a opener e

-- of a name that no checkpoint has: one is made where attributes are given, and room is left
abbrev pub answer_free : RecordState → Option CreationAttributes → OpenAnswer
answer_free R None = Refused (plainly NotExist)
answer_free R (Some a) = if nat_le checkpoints_max (length R.entries) then Refused (all_taken checkpoints_max) else Made (R.last_identity + 1)

-- what an open gets of its name, whether a checkpoint has it or not
abbrev pub answer_named : RecordState → Option CreationAttributes → ℕ → Option Entry → OpenAnswer
answer_named R a opener None = answer_free R a
answer_named R a opener (Some e) = answer_of a opener e

-- what an open answers
abbrev pub open_answer : RecordState → OpenAsk → OpenAnswer
open_answer R ask = answer_named R ask.attrs (home_of ask.client R) (named ask.name R.entries)

-- what the record becomes by the answer of an open; a refusal leaves it as it was
abbrev pub after_answer : CallId → OpenAsk → RecordState → OpenAnswer → RecordState
after_answer call ask R (Opened k added) = opened k ask.client R
after_answer call ask R (Made k) = created_by_ask call ask R
after_answer call ask R (Refused refused) = R

-- what the record becomes by an open
abbrev pub after_open : CallId → OpenAsk → RecordState → RecordState
after_open call ask R = after_answer call ask R (open_answer R ask)

-- what is found of a name by its entry: no checkpoint, or this one; or the call that is making it
abbrev pub found_by : ℕ → Option CallId → Result (Option ℕ) CallId
found_by k None = Ok (Some k)
found_by k (Some call) = Err call

-- what an open finds of its name
abbrev pub found_in : Option Entry → Result (Option ℕ) CallId
found_in None = Ok None
found_in (Some e) = found_by e.identity e.making
