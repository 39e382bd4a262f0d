-- The text of a run.
use Rattle.std.specs.Prelude.{ℕ, List, [], ◌++◌, Bool}
use Rattle.std.specs.List.{flat_map}
use Rattle.run_labels.specs.declared.labels.Label.{Label}
use Rattle.run_labels.specs.declared.labels.Label.TheVariants as labels
use Rattle.run_labels.specs.Callbacks.{callback_lines}
use Rattle.run_labels.specs.Events.{fail_line, join_line, pull_line, put_line, word_line}
use Rattle.ckpt_types.specs.OpWord.{word_of_op}
use Rattle.run_labels.specs.Outcomes.{end_text, stepped_end_text}
use Rattle.run_labels.specs.Shows.{shown_lines}
use Rattle.run_labels.specs.Steps.{step_line, begin_line, moment_line, where_asked}

-- what a label prints in front of its callbacks: the line of its step where steps are asked for, then its own lines
abbrev pub line_of : Bool → Label → List ℕ
line_of steps (labels.Began call op end details) = where_asked steps (begin_line call (word_of_op op)) ++ end_text call (word_of_op op) end details
line_of steps (labels.Stepped call op verb ckpt node reply end details) = where_asked steps (step_line call verb ckpt node reply) ++ stepped_end_text call op end details
line_of steps (labels.Failed node failed) = fail_line node failed
line_of steps (labels.Joined node incarnation) = join_line node incarnation
line_of steps (labels.Moved moment) = where_asked steps (moment_line moment)
line_of steps (labels.Pulled ckpt reply) = pull_line ckpt reply
line_of steps (labels.Put ckpt node reply) = put_line ckpt node reply
line_of steps (labels.Shown ckpt replicas) = shown_lines ckpt replicas
line_of steps (labels.Word who line said) = word_line who line said
line_of steps (labels.Nodes count) = []

-- what a log prints: the lines of each label, and behind them those of its callbacks
abbrev pub lines_of : Bool → List Label → List ℕ
lines_of steps log = flat_map (λ label. line_of steps label ++ callback_lines label) log
