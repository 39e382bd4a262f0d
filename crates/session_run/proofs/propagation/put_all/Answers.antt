use Rattle.std.proofs.Common.{◌+◌, List, ℕ, subst, ◌∙◌, arith}
use Rattle.session_run.specs.Growing.{GrowsToPuts}
use Rattle.session_run.specs.Puts.{takes_put}
use Rattle.session_run.proofs.Fronts.{towards_end}
use Rattle.session_run.proofs.Putting.{taking, next_taking, none_taking, puts_follow, puts_end, taking_few, towards_puts}
use Rattle.session_run.proofs.propagation.put_all.Goals as goal

pub put_where-requires-clause-room : goal.put_where-requires-clause-room
put_where-requires-clause-room g c = omega (arith, c.loop-r.invariant.few, c.loop-r-test.true, c.requires.room)

pub loop-r-preserved : goal.loop-r-preserved
loop-r-preserved g c =
    let k = c.args.ckpt in
    let p = takes_put c.args.complete.now c.args.active in
    let r = c.loop-r.r in
    let done = c.in_ok-put_where.ensures in
    let next = next_taking p r c.takes_put-takes.result c.loop-r-test.true c.takes_put-takes.ensures in
    let one = subst (λ (rs : List ℕ). GrowsToPuts k (taking p (r + 1)) rs c.loop-r.log.labels c.put_where.new.log.labels) next (done.puts (taking p (r + 1))) in
    record {
      run = c.put_where.ensures.run;
      few = omega (arith, c.put_where.ensures.few, c.loop-r.invariant.few);
      moment = done.moment ∙ c.loop-r.invariant.moment;
      puts = puts_follow k (taking p (r + 1)) (taking p r) (taking p 0) c.args.log.now.labels c.loop-r.log.labels c.put_where.new.log.labels one c.loop-r.invariant.puts;
    }

pub returns-in_err-put_where-clause-front : goal.returns-in_err-put_where-clause-front
returns-in_err-put_where-clause-front g c =
    let p = takes_put c.args.complete.now c.args.active in
    towards_puts c.args.ckpt (taking p c.loop-r.r) (taking p 0) c.args.log.now.labels c.loop-r.log.labels c.put_where.new.log.labels (taking_few p c.loop-r.r) c.in_err-put_where.ensures.err c.loop-r.invariant.puts

pub returns-clause-puts : goal.returns-clause-puts
returns-clause-puts g c =
    let p = takes_put c.args.complete.now c.args.active in
    puts_end c.args.ckpt (taking p c.loop-r.r) (taking p 0) c.args.log.now.labels c.loop-r.log.labels (none_taking p c.loop-r.r (omega (arith, c.loop-r-test.false))) c.loop-r.invariant.puts

pub returns-clause-front : goal.returns-clause-front
returns-clause-front g c = towards_end c.args.log.now.labels c.loop-r.log.labels (returns-clause-puts g c)
