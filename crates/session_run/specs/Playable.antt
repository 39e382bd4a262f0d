-- Which scripts can be played so far: calls of clients and copyings of nodes in any order, of up to eight nodes.
use Rattle.std.specs.Prelude.{List, [], ◌∷◌, ◌<◌, ℤ, pos}
use Rattle.ckpt_types.specs.declared.identities.ActorName.TheVariants.{Client}
use Rattle.ckpt_types.specs.Asks.{MayAsk, asked, IsBuilt}
use Rattle.ckpt_types.specs.Limits.{nodes_max}
use Rattle.script_lines.specs.declared.lines.Line.{Line}
use Rattle.script_lines.specs.declared.lines.Line.TheVariants as lines
use Rattle.script_lang.specs.BuiltScripts.{AreFirstNodes}
use Rattle.script_lang.specs.Grammar.{moment_behind}
use Rattle.cluster_record.specs.RecordState.{IsMomentFrom}
use Rattle.world_core.specs.Runs.{MayBeStepped}

-- at this moment the line can be played with the nodes up: a call of a client, or the copying of a node, whole or only begun; steps of either; a moment that does not go back; a
-- pull, a put at one of the nodes, or a propagation; a show; or the failure or the join of one of the nodes
abbrev pub IsPlayableLine : ℤ → Line → Type 0
IsPlayableLine t (lines.Call c op) = MayAsk (Client c) (asked op) × IsBuilt op
IsPlayableLine t (lines.Begin a op) = MayAsk a (asked op) × IsBuilt op
IsPlayableLine t (lines.Copy r) = r < nodes_max
IsPlayableLine t (lines.Step who steps) = MayBeStepped who × (0 < steps)
IsPlayableLine t (lines.Finish who) = MayBeStepped who
IsPlayableLine t (lines.At u) = IsMomentFrom t u
IsPlayableLine t (lines.Pull k) = Unit {0}
IsPlayableLine t (lines.Put k r) = r < nodes_max
IsPlayableLine t (lines.Propagate k) = Unit {0}
IsPlayableLine t (lines.Show k) = Unit {0}
IsPlayableLine t (lines.Fail r) = r < nodes_max
IsPlayableLine t (lines.Join r) = r < nodes_max
IsPlayableLine t line = ⊥

-- each of the lines can be played at the moment at which it comes, the first at this one
abbrev pub ArePlayable : ℤ → List Line → Type 0
ArePlayable t [] = Unit {0}
ArePlayable t (line ∷ rest) = IsPlayableLine t line × ArePlayable (moment_behind t line) rest

-- A SCRIPT THAT CAN BE PLAYED: the nodes come up first, and then come such lines from the moment 0; or nothing comes
abbrev pub IsPlayable : List Line → Type 0
IsPlayable [] = Unit {0}
IsPlayable (line ∷ rest) = AreFirstNodes line × ArePlayable (pos 0) rest
