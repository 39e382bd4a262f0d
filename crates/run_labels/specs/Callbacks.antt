-- The lines of the callbacks that a dispatch gives.
use Rattle.std.specs.Prelude.{ℕ, List, [], ◌++◌, Option, Some, Bool, true, false, if◌then◌else◌, codes, decimal, slice_get}
use Rattle.std.specs.List.{flat_map}
use Rattle.std.specs.Option.{option_map}
use Rattle.ckpt_types.specs.declared.answers.Outcome.{Outcome}
use Rattle.ckpt_types.specs.declared.answers.Outcome.TheVariants as ends
use Rattle.ckpt_types.specs.declared.calls.AsyncKind.{AsyncKind}
use Rattle.ckpt_types.specs.declared.calls.AsyncKind.TheVariants as kinds
use Rattle.ckpt_types.specs.declared.calls.Callback.{Callback}
use Rattle.ckpt_types.specs.declared.identities.ActorName.{ActorName}
use Rattle.ckpt_types.specs.declared.operation.Op.{Op}
use Rattle.ckpt_types.specs.declared.operation.Op.TheVariants as ops
use Rattle.ckpt_types.specs.declared.words.OpWord.{OpWord}
use Rattle.ckpt_types.specs.declared.words.OpWord.TheVariants as words
use Rattle.ckpt_types.specs.OpWord.{op_text}
use Rattle.ckpt_types.specs.Spelling.{actor_text}
use Rattle.node_msgs.specs.declared.details.Details.{Details}
use Rattle.node_msgs.specs.declared.details.Details.TheVariants as beside
use Rattle.run_labels.specs.declared.labels.Label.{Label}
use Rattle.run_labels.specs.declared.labels.Label.TheVariants as labels
use Rattle.run_labels.specs.Outcomes.{outcome_line}

-- a callback is told by the word of the call that waits for the same
abbrev pub callback_word : AsyncKind → OpWord
callback_word (kinds.Open place) = words.Open
callback_word kinds.Sync = words.Sync

-- the front of a callback's line: `c0 callback sync 9`
abbrev pub callback_head : ActorName → Callback → List ℕ
callback_head client callback = actor_text client ++ codes " callback " ++ op_text (callback_word callback.kind) ++ codes " " ++ decimal callback.invocation

-- `c0 callback sync 9 OK 1`
abbrev pub callback_line : ActorName → Callback → List ℕ
callback_line client callback = outcome_line (callback_head client callback) callback.outcome beside.Nothing

-- the lines of the callbacks that a client is told, in their order
abbrev pub told_callbacks : ActorName → Details → List ℕ
told_callbacks client (beside.Callbacks callbacks) = flat_map (callback_line client) callbacks
told_callbacks client _ = []

-- an operation is a dispatch, and it was done
abbrev pub is_answered_dispatch : Op → Option Outcome → Bool
is_answered_dispatch (ops.Dispatch flags) (Some (ends.Done answer)) = true
is_answered_dispatch _ _ = false

-- the lines of the callbacks of a label: those that an answered dispatch gives, and none of any other label
abbrev pub callback_lines : Label → List ℕ
callback_lines (labels.Began call op end details) = if is_answered_dispatch op end then told_callbacks call.actor details else []
callback_lines _ = []

-- the lines of the callbacks of the label at a place of a log
abbrev pub callback_lines_at : List Label → ℕ → Option (List ℕ)
callback_lines_at log place = option_map callback_lines (slice_get log place)
