use Rattle.std.proofs.Common.{◌≡◌, ◌+◌, ◌-◌, ◌≤◌, List, ◌++◌, length}
use Rattle.run_labels.specs.declared.labels.Label.{Label}
use Rattle.world_core.specs.Runs.{IsRunTo}
use Rattle.world_core.specs.StepsLeft.{left_of}
use Rattle.world_core.specs.HandsState.{hand_at}
use Rattle.session_run.specs.Growing.{GrowsBy, IsStepping}
use Rattle.session_run.proofs.calls.steps.Given as goal

abbrev pub invariant-loop-done : goal.invariant-loop-done
invariant-loop-done g l = record {
  run : IsRunTo (g.W.Cluster.shown l.world) l.log.labels;
  few : length l.log.labels + left_of (g.W.Cluster.shown l.world) l.who ≤ length l.initial.log.labels + left_of (g.W.Cluster.shown l.initial.world) l.who;
  moment : (g.W.Cluster.shown l.world).cluster.moment ≡ (g.W.Cluster.shown l.initial.world).cluster.moment;
  steps : (more : List Label) → IsStepping (l.most - l._done) (hand_at (g.W.Cluster.shown l.world).hands l.who) more → GrowsBy l.initial.log.labels (l.log.labels ++ more) (IsStepping l.most (hand_at (g.W.Cluster.shown l.initial.world).hands l.who));
}
