use Rattle.std.proofs.Common.{◌≡◌, ◌+◌, ◌≤◌, List, ◌++◌, length}
use Rattle.run_labels.specs.declared.labels.Label.{Label}
use Rattle.world_core.specs.Runs.{IsRunTo}
use Rattle.world_core.specs.StepsLeft.{left_of}
use Rattle.world_core.specs.HandsState.{hand_at}
use Rattle.session_run.specs.Growing.{GrowsBy, IsFinish}
use Rattle.session_run.proofs.calls.finish.Given as goal

abbrev pub invariant-stepping : goal.invariant-stepping
invariant-stepping g l = record {
  run : IsRunTo (g.W.Cluster.shown l.world) l.log.labels;
  few : length l.log.labels + left_of (g.W.Cluster.shown l.world) l.fn.who ≤ length l.initial.log.labels + left_of (g.W.Cluster.shown l.initial.world) l.fn.who;
  moment : (g.W.Cluster.shown l.world).cluster.moment ≡ (g.W.Cluster.shown l.initial.world).cluster.moment;
  steps : (more : List Label) → IsFinish (hand_at (g.W.Cluster.shown l.world).hands l.fn.who) more → GrowsBy l.initial.log.labels (l.log.labels ++ more) (IsFinish (hand_at (g.W.Cluster.shown l.initial.world).hands l.fn.who));
}

abbrev pub decreases-stepping : goal.decreases-stepping
decreases-stepping g l = left_of (g.W.Cluster.shown l.world) l.fn.who
