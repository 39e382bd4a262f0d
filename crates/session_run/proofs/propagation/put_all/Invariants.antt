use Rattle.std.proofs.Common.{◌≡◌, ◌+◌, ◌≤◌, length}
use Rattle.world_core.specs.Runs.{IsRunTo}
use Rattle.session_run.specs.Growing.{GrowsToPuts}
use Rattle.session_run.specs.Puts.{takes_put}
use Rattle.session_run.proofs.Putting.{taking}
use Rattle.session_run.proofs.propagation.put_all.Given as goal

abbrev pub invariant-loop-r : goal.invariant-loop-r
invariant-loop-r g l = record {
  run : IsRunTo (g.W.Cluster.shown l.world) l.log.labels;
  few : length l.log.labels ≤ length l.initial.log.labels + l.r;
  moment : (g.W.Cluster.shown l.world).cluster.moment ≡ (g.W.Cluster.shown l.initial.world).cluster.moment;
  puts : GrowsToPuts l.ckpt (taking (takes_put l.complete l.active) l.r) (taking (takes_put l.complete l.active) 0) l.initial.log.labels l.log.labels;
}
