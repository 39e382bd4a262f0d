-- How the end of a call is printed.
use Rattle.std.specs.Prelude.{ℕ, List, [], ◌++◌, Option, Some, None, if◌then◌else◌, codes, decimal}
use Rattle.std.specs.List.{flat_map}
use Rattle.ckpt_types.specs.declared.ais_error.AisError.{AisError}
use Rattle.ckpt_types.specs.declared.ais_error.AisError.TheVariants as errors
use Rattle.ckpt_types.specs.declared.answers.Answer.{Answer}
use Rattle.ckpt_types.specs.declared.answers.Answer.TheVariants as answers
use Rattle.ckpt_types.specs.declared.answers.Cause.{Cause}
use Rattle.ckpt_types.specs.declared.answers.Cause.TheVariants as causes
use Rattle.ckpt_types.specs.declared.answers.Outcome.{Outcome}
use Rattle.ckpt_types.specs.declared.answers.Outcome.TheVariants as outcomes
use Rattle.ckpt_types.specs.declared.attributes.CreationAttributes.{CreationAttributes}
use Rattle.ckpt_types.specs.declared.identities.CallId.{CallId}
use Rattle.ckpt_types.specs.declared.sections.CheckpointDescriptor.{CheckpointDescriptor}
use Rattle.ckpt_types.specs.declared.sections.SectionDescriptor.{SectionDescriptor}
use Rattle.ckpt_types.specs.AisError.{error_text}
use Rattle.ckpt_types.specs.Limits.{release, major_max, minor_answered}
use Rattle.node_msgs.specs.declared.details.Details.{Details}
use Rattle.node_msgs.specs.declared.details.Details.TheVariants as beside
use Rattle.ckpt_types.specs.declared.words.OpWord.{OpWord}
use Rattle.ckpt_types.specs.OpWord.{op_text, is_async}
use Rattle.ckpt_types.specs.Spelling.{version_text, call_text, ckpt_text, time_text, bytes_text}
use Rattle.run_labels.specs.Words.{state_text}

-- the version that the service speaks
unfoldable pub spoken_text : List ℕ
spoken_text = codes " " ++ version_text (record { release = release; major = major_max; minor = minor_answered })

-- what shows that a refusal is right
abbrev pub cause_text : Cause → List ℕ
cause_text causes.Plain = []
cause_text (causes.Index index) = codes " " ++ decimal index
cause_text (causes.Holder call) = codes " " ++ call_text call
cause_text (causes.Generations known present) = codes " " ++ decimal known ++ codes " " ++ decimal present
cause_text (causes.Deadline deadline moment) = codes " " ++ time_text deadline ++ codes " " ++ time_text moment
cause_text (causes.Count count) = codes " " ++ decimal count

-- a refusal of the version tells the one that the service speaks
unfoldable pub told_version : AisError → List ℕ
told_version errors.Version = spoken_text
told_version _ = []

-- one piece
abbrev pub piece_text : List ℕ → List ℕ
piece_text piece = codes " " ++ bytes_text piece

-- what an iteration tells of a section beside its identifier
abbrev pub facts_text : SectionDescriptor → List ℕ
facts_text section =
    codes " " ++ time_text section.expiration
    ++ codes " " ++ decimal section.size
    ++ codes " " ++ state_text section.state
    ++ codes " " ++ time_text section.last_update

-- what an iteration tells of a section
abbrev pub section_text : SectionDescriptor → List ℕ
section_text section = piece_text section.id ++ facts_text section

-- what a checkpoint is declared to have
abbrev pub attributes_text : CreationAttributes → List ℕ
attributes_text attributes =
    codes " " ++ decimal attributes.creation_flags
    ++ codes " " ++ decimal attributes.checkpoint_size
    ++ codes " " ++ time_text attributes.retention_duration
    ++ codes " " ++ decimal attributes.max_sections
    ++ codes " " ++ decimal attributes.max_section_size
    ++ codes " " ++ decimal attributes.max_section_id_size

-- the status of a checkpoint
abbrev pub status_text : CheckpointDescriptor → List ℕ
status_text status =
    attributes_text status.attributes
    ++ codes " " ++ decimal status.number_of_sections
    ++ codes " " ++ decimal status.memory_used

-- what is told beside an answer; callbacks have lines of their own
abbrev pub details_text : Details → List ℕ
details_text beside.Nothing = []
details_text (beside.Pieces pieces) = flat_map piece_text pieces
details_text (beside.Section section) = section_text section
details_text (beside.Status status) = status_text status
details_text (beside.Callbacks callbacks) = []

-- the details of an answer, behind `OK`
abbrev pub answer_text : Answer → Details → List ℕ
answer_text answers.Nothing details = []
answer_text answers.Version details = spoken_text
answer_text (answers.Opened ckpt) details = codes " " ++ ckpt_text ckpt
answer_text answers.Created details = details_text details
answer_text answers.Pieces details = details_text details
answer_text answers.Section details = details_text details
answer_text answers.Status details = details_text details
answer_text (answers.Pulled count) details = codes " " ++ decimal count
answer_text (answers.Dispatched given) details = codes " " ++ decimal given.given ++ codes " " ++ decimal given.left

-- the front of a result line: `c0.5 write`
abbrev pub head_text : CallId → OpWord → List ℕ
head_text call op = call_text call ++ codes " " ++ op_text op

-- that a call was done, and its answer, to the end of the line
abbrev pub answered_text : Answer → Details → List ℕ
answered_text answer details = codes " OK" ++ answer_text answer details ++ codes "\n"

-- that a call was refused, and why, to the end of the line
abbrev pub refused_text : AisError → Cause → List ℕ
refused_text error cause = codes " " ++ error_text error ++ told_version error ++ cause_text cause ++ codes "\n"

-- the line of a call that ended, behind its front; one that was abandoned or not begun has none
abbrev pub outcome_line : List ℕ → Outcome → Details → List ℕ
outcome_line front (outcomes.Done answer) details = front ++ answered_text answer details
outcome_line front (outcomes.Refused error cause) details = front ++ refused_text error cause
outcome_line front outcomes.NoMemory details = front ++ refused_text errors.NoMemory causes.Plain
outcome_line front outcomes.Abandoned details = []
outcome_line front outcomes.Busy details = []
outcome_line front outcomes.Astray details = []

-- the result line of a call that ended
abbrev pub result_line : CallId → OpWord → Outcome → Details → List ℕ
result_line call op outcome details = outcome_line (head_text call op) outcome details

-- the result line, where the call has ended
abbrev pub end_text : CallId → OpWord → Option Outcome → Details → List ℕ
end_text call op None details = []
end_text call op (Some outcome) details = result_line call op outcome details

-- the result line of a call that ended by a step; an asynchronous one answers when it begins, and its end has no line
abbrev pub stepped_end_text : CallId → OpWord → Option Outcome → Details → List ℕ
stepped_end_text call op end details = if is_async op then [] else end_text call op end details
