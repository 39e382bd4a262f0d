use Rattle.std.proofs.Common.{◌≡◌, ◌*◌, ◌≤◌, List, [], ◌++◌, length, drop, pos}
use Rattle.ckpt_types.specs.Limits.{built_line_labels}
use Rattle.run_labels.specs.declared.labels.Label.{Label}
use Rattle.ckpt_machine.specs.Runs.{last}
use Rattle.world_core.specs.Runs.{IsRunTo}
use Rattle.session_run.specs.Follows.{FollowsFrom, Follows}
use Rattle.session_run.specs.Growing.{AreLeft}
use Rattle.session_run.proofs.playing.play.Given as goal

abbrev pub invariant-loop-line : goal.invariant-loop-line
invariant-loop-line g l = record {
  run : IsRunTo (g.W.Cluster.shown l.world) l.log.labels;
  few : length l.log.labels ≤ built_line_labels * l.line-index;
  form : AreLeft l.line-index (g.W.Cluster.shown l.world).cluster.moment (drop l.line-index l.lines);
  start : l.line-index ≡ 0 → (g.W.Cluster.shown l.world).cluster.moment ≡ pos 0;
  first : l.line-index ≡ 0 → l.log.labels ≡ [];
  follows : (more : List Label) → FollowsFrom (last l.log.labels) (drop l.line-index l.lines) more → Follows l.lines (l.log.labels ++ more);
}
