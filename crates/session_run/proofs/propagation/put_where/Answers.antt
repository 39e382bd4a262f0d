use Rattle.session_run.proofs.Following.{OnOk-map}
use Rattle.session_run.proofs.Putting.{puts_none, puts_one}
use Rattle.session_run.proofs.propagation.put_where.Goals as goal

pub returns-then-not-takes-clause-puts : goal.returns-then-not-takes-clause-puts
returns-then-not-takes-clause-puts g c = puts_none c.args.ckpt c.args.r c.args.takes c.args.log.now.labels c.if-not-takes.true

pub returns-clause-puts : goal.returns-clause-puts
returns-clause-puts g c = OnOk-map c.put.result c.put.ensures.happens (λ h. puts_one c.args.ckpt c.args.r c.args.takes (g.W.Cluster.shown c.args.world.now) (g.W.Cluster.shown c.put.new.world) c.args.log.now.labels c.put.new.log.labels c.if-not-takes.false h)
