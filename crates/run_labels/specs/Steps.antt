-- The lines of steps, which are printed only where they are asked for.
use Rattle.std.specs.Prelude.{ℕ, ℤ, List, [], ◌++◌, Option, Some, None, Bool, if◌then◌else◌, codes, decimal}
use Rattle.ckpt_types.specs.declared.identities.CallId.{CallId}
use Rattle.node_msgs.specs.declared.steps.StepReply.{StepReply}
use Rattle.node_msgs.specs.declared.steps.StepReply.TheVariants as replies
use Rattle.ckpt_types.specs.declared.words.OpWord.{OpWord}
use Rattle.node_msgs.specs.declared.steps.Verb.{Verb}
use Rattle.ckpt_types.specs.declared.words.FirstWord.TheVariants as first
use Rattle.ckpt_types.specs.FirstWord.{begin_text, first_word_text}
use Rattle.ckpt_types.specs.OpWord.{op_text}
use Rattle.ckpt_types.specs.Spelling.{node_text, ckpt_text, call_text, time_text}
use Rattle.run_labels.specs.Words.{verb_text}

-- how a step was answered
abbrev pub reply_text : StepReply → List ℕ
reply_text replies.Ok = codes "ok"
reply_text replies.Done = codes "done"
reply_text (replies.Held call) = codes "held " ++ call_text call
reply_text (replies.Free count) = codes "free " ++ decimal count
reply_text replies.Refused = codes "refused"
reply_text replies.Older = codes "older"
reply_text replies.Memory = codes "memory"

-- the checkpoint of a step, where it has one
abbrev pub step_ckpt_text : Option ℕ → List ℕ
step_ckpt_text None = []
step_ckpt_text (Some ckpt) = codes " " ++ ckpt_text ckpt

-- the node of a step, where it has one
abbrev pub step_node_text : Option ℕ → List ℕ
step_node_text None = []
step_node_text (Some node) = codes " " ++ node_text node

-- the checkpoint and the node of a step, where it has them
abbrev pub step_place_text : Option ℕ → Option ℕ → List ℕ
step_place_text ckpt node = step_ckpt_text ckpt ++ step_node_text node

-- which call steps, and what it does
abbrev pub step_front : CallId → Verb → List ℕ
step_front call verb = codes "+ " ++ call_text call ++ codes " " ++ verb_text verb

-- `+ c0.5 stage K1 n0 ok`
abbrev pub step_line : CallId → Verb → Option ℕ → Option ℕ → StepReply → List ℕ
step_line call verb ckpt node reply =
    step_front call verb ++ step_place_text ckpt node
    ++ codes " " ++ reply_text reply ++ codes "\n"

-- `+ c0.5 begin write`
abbrev pub begin_line : CallId → OpWord → List ℕ
begin_line call op = codes "+ " ++ call_text call ++ codes " " ++ begin_text ++ codes " " ++ op_text op ++ codes "\n"

-- `+ at 5`
abbrev pub moment_line : ℤ → List ℕ
moment_line moment = codes "+ " ++ first_word_text first.At ++ codes " " ++ time_text moment ++ codes "\n"

-- a line that is printed only where steps are asked for
abbrev pub where_asked : Bool → List ℕ → List ℕ
where_asked steps line = if steps then line else []
