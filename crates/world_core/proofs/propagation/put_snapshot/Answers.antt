use Rattle.std.proofs.Common.{rules, sym, ◌∙◌}
use Rattle.std.proofs.lemmas.Bool.{eq-eqb}
use Rattle.cluster_record.specs.RecordState.{entry_of}
use Rattle.replica.specs.Replicas.{installed}
use Rattle.world_core.specs.Backgrounds.{pulled_in}
use Rattle.ckpt_machine.proofs.LentReplicas.{left_as, put_as}
use Rattle.world_core.proofs.propagation.put_snapshot.Goals as goal

pub returns-in-Ok-clause-reply : goal.returns-in-Ok-clause-reply
returns-in-Ok-clause-reply c = search rules

pub returns-in-Ok-clause-new : goal.returns-in-Ok-clause-new
returns-in-Ok-clause-new c =
    let e = c.in-Some.entry.now in
    let s = c.in-Some-pulled.snap.now in
    left_as c.args.nodes.now c.args.ckpt c.args.r c.at.result.now c.at.ensures.value (installed s) c.install.new.self c.install.ensures.new
    ∙ put_as c.args.nodes.now c.args.ckpt c.args.r (entry_of c.args.ckpt c.args.cluster.now.entries) e c.in-Some.ensures.found (pulled_in c.args.snapshots.now c.args.ckpt) s c.in-Some-pulled.ensures.found
    (sym c.takes_puts.ensures ∙ c.if-not-takes_puts.false) (eq-eqb s.generation e.generation (sym c.generation.ensures ∙ c.if-generation-entry.false))

pub returns-in-Err-clause-reply : goal.returns-in-Err-clause-reply
returns-in-Err-clause-reply c = search rules

pub returns-in-Err-clause-new : goal.returns-in-Err-clause-new
returns-in-Err-clause-new c =
    let e = c.in-Some.entry.now in
    let s = c.in-Some-pulled.snap.now in
    left_as c.args.nodes.now c.args.ckpt c.args.r c.at.result.now c.at.ensures.value (installed s) c.install.new.self c.install.ensures.new
    ∙ put_as c.args.nodes.now c.args.ckpt c.args.r (entry_of c.args.ckpt c.args.cluster.now.entries) e c.in-Some.ensures.found (pulled_in c.args.snapshots.now c.args.ckpt) s c.in-Some-pulled.ensures.found
    (sym c.takes_puts.ensures ∙ c.if-not-takes_puts.false) (eq-eqb s.generation e.generation (sym c.generation.ensures ∙ c.if-generation-entry.false))
