use Rattle.std.proofs.Common.{◌+◌, List, ◌++◌, length, drop, sym, ap, subst, arith}
use Rattle.std.proofs.lemmas.List.{drop_all}
use Rattle.run_labels.specs.declared.labels.Label.{Label}
use Rattle.cluster_record.specs.RecordState.{RecordState}
use Rattle.ckpt_machine.specs.Runs.{last}
use Rattle.world_core.specs.Runs.{IsRunTo}
use Rattle.session_run.specs.Follows.{FollowsFrom, Follows}
use Rattle.session_run.proofs.Following.{follows_line, follows_end, drop_item}
use Rattle.session_run.specs.Growing.{AreLeft}
use Rattle.session_run.proofs.Playable.{CanPlay-next, AreLeft-next}
use Rattle.session_run.proofs.Fronts.{front_of_whole, front_in_line, rest_follows}
use Rattle.session_run.proofs.playing.play.Goals as goal

pub loop-line-init : goal.loop-line-init
loop-line-init g c = record {
  run = subst (IsRunTo (g.W.Cluster.shown c.args.world.now)) (sym c.requires.log) (c.world_law.ensures.begins (g.W.Cluster.shown c.args.world.now) c.requires.world);
  few = omega (arith, ap length c.requires.log);
  form = c.requires.form;
  start = λ e. ap (λ (R : RecordState). R.moment) c.requires.world.cluster;
  first = λ e. c.requires.log;
  follows = λ more. subst (λ (xs : List Label). FollowsFrom (last xs) c.args.lines.now more → Follows c.args.lines.now (xs ++ more)) (sym c.requires.log) (λ f. f);
}

pub play_line-requires-clause-comes : goal.play_line-requires-clause-comes
play_line-requires-clause-comes g c =
    let i = c.loop-line.line-index in
    let next = drop_item c.args.lines.now i c.line-item.result c.loop-line-test.true c.line-item.is in
    let left = subst (AreLeft i (g.W.Cluster.shown c.loop-line.world).cluster.moment) next c.loop-line.invariant.form in
    CanPlay-next i (g.W.Cluster.shown c.loop-line.world).cluster.moment c.line-item.result (drop (i + 1) c.args.lines.now) c.loop-line.log.labels left c.loop-line.invariant.first

pub play_line-requires-clause-room : goal.play_line-requires-clause-room
play_line-requires-clause-room g c = omega (arith, c.loop-line.invariant.few, c.loop-line-test.true, c.requires.lines)

pub loop-line-preserved : goal.loop-line-preserved
loop-line-preserved g c =
    let i = c.loop-line.line-index in
    let next = drop_item c.args.lines.now i c.line-item.result c.loop-line-test.true c.line-item.is in
    let left = subst (AreLeft i (g.W.Cluster.shown c.loop-line.world).cluster.moment) next c.loop-line.invariant.form in
    let done = c.in_ok-play_line.ensures in
    record {
      run = c.play_line.ensures.run;
      few = omega (arith, c.play_line.ensures.few, c.loop-line.invariant.few);
      form = AreLeft-next i (g.W.Cluster.shown c.loop-line.world).cluster.moment (g.W.Cluster.shown c.play_line.new.world).cluster.moment c.line-item.result (drop (i + 1) c.args.lines.now) left c.loop-line.invariant.start done.moment;
      start = λ e. absurd (omega (arith, e));
      first = λ e. absurd (omega (arith, e));
      follows = follows_line c.args.lines.now (drop i c.args.lines.now) c.line-item.result (drop (i + 1) c.args.lines.now) c.loop-line.log.labels c.play_line.new.log.labels next done.answers c.play_line.ensures.few c.loop-line.invariant.follows;
    }

pub returns-clause-follows : goal.returns-clause-follows
returns-clause-follows g c =
    follows_end c.args.lines.now (drop c.loop-line.line-index c.args.lines.now) c.loop-line.log.labels (drop_all c.loop-line.line-index c.args.lines.now c.loop-line-test.false) c.loop-line.invariant.follows

pub returns-clause-front : goal.returns-clause-front
returns-clause-front g c =
    front_of_whole c.args.lines.now c.loop-line.log.labels
    (follows_end c.args.lines.now (drop c.loop-line.line-index c.args.lines.now) c.loop-line.log.labels (drop_all c.loop-line.line-index c.args.lines.now c.loop-line-test.false) c.loop-line.invariant.follows)

pub returns-in_err-play_line-clause-front : goal.returns-in_err-play_line-clause-front
returns-in_err-play_line-clause-front g c =
    let i = c.loop-line.line-index in
    let t = (g.W.Cluster.shown c.loop-line.world).cluster.moment in
    let line = c.line-item.result in
    let others = drop (i + 1) c.args.lines.now in
    let next = drop_item c.args.lines.now i line c.loop-line-test.true c.line-item.is in
    let left = subst (AreLeft i t) next c.loop-line.invariant.form in
    front_in_line c.args.lines.now (drop i c.args.lines.now) line others c.loop-line.log.labels c.play_line.new.log.labels next c.play_line.ensures.front c.play_line.ensures.few c.loop-line.invariant.follows (rest_follows i t line others left)
