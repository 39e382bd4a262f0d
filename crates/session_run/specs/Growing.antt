-- How a log grows while a line is played.
use Rattle.std.specs.Prelude.{◌≡◌, ◌<◌, ◌≤◌, ℕ, zero, suc, List, [], ◌++◌, length, Option, Some, None, ℤ}
use Rattle.ckpt_types.specs.Limits.{nodes_max}
use Rattle.script_lines.specs.declared.lines.Line.{Line}
use Rattle.script_lines.specs.declared.lines.Line.TheVariants as lines
use Rattle.run_labels.specs.declared.labels.Label.{Label}
use Rattle.client_calls.specs.declared.in_hand.InHand.{InHand}
use Rattle.session_run.specs.Follows.{StepsToEnd, StepsUpTo}
use Rattle.session_run.specs.Playable.{IsPlayableLine, ArePlayable, IsPlayable}
use Rattle.session_run.specs.Puts.{ArePuts}

-- the log is longer by labels that have this
abbrev pub GrowsBy : List Label → List Label → (List Label → Type 0) → Type 0
GrowsBy old new P = (more : List Label) × (new ≡ old ++ more) × P more

-- with a few labels behind it, at most one for each node, the log is longer by labels that have this
abbrev pub GrowsTowards : List Label → List Label → (List Label → Type 0) → Type 0
GrowsTowards old new P = (end : List Label) × (length end ≤ nodes_max) × GrowsBy old (new ++ end) P

-- with puts at the nodes that are left behind it, the log is longer by puts at these nodes
abbrev pub GrowsToPuts : ℕ → List ℕ → List ℕ → List Label → List Label → Type 0
GrowsToPuts k left nodes old new = (more : List Label) → ArePuts k left more → GrowsBy old (new ++ more) (ArePuts k nodes)

-- the steps that are left of a call in hand, if there is one
abbrev pub IsFinish : Option InHand → List Label → Type 0
IsFinish None more = more ≡ []
IsFinish (Some h) more = StepsToEnd h.call None more

-- so many steps of a call in hand, if there is one
abbrev pub IsStepping : ℕ → Option InHand → List Label → Type 0
IsStepping n None more = more ≡ []
IsStepping n (Some h) more = StepsUpTo h.call n None more

-- the lines that are left behind so many, at a moment: all of a script, or those that come with the nodes up
abbrev pub AreLeft : ℕ → ℤ → List Line → Type 0
AreLeft zero t lines = IsPlayable lines
AreLeft (suc i) t lines = ArePlayable t lines

-- the line can be played at a moment, after a log
abbrev pub CanPlay : ℤ → List Label → Line → Type 0
CanPlay t log (lines.Nodes n) = (0 < n) × (n ≤ nodes_max) × (log ≡ [])
CanPlay t log line = IsPlayableLine t line
