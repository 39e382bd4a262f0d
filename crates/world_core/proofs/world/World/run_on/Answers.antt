use Rattle.std.proofs.Common.{ap, ◌∙◌, ◌++◌, ◌∷◌, []}
use Rattle.world_core.proofs.Events.{run_with, happens_with, nearer_with}
use Rattle.world_core.proofs.Running.{shown, roomy}
use Rattle.world_core.proofs.world.World.run_on.Goals as goal

pub happen-requires-clause-shown : goal.happen-requires-clause-shown
happen-requires-clause-shown c = shown c.machine_law.ensures.runs c.machine_law.ensures.facts c.args.self.now c.args.log.now.labels c.requires.run

pub happen-requires-clause-roomy : goal.happen-requires-clause-roomy
happen-requires-clause-roomy c = roomy c.machine_law.ensures.runs c.args.self.now c.args.log.now.labels c.requires.run c.requires.few

pub returns-clause-run : goal.returns-clause-run
returns-clause-run c =
    let added = c.in_ok-happen.ensures.ok in
    run_with c.machine_law.ensures.lawful c.machine_law.ensures.runs c.machine_law.ensures.facts c.args.event c.args.self.now c.happen.new.self c.args.log.now.labels c.happen.new.log.labels added.label c.requires added.is
    (added.labels ∙ ap (λ labels. labels ++ added.label ∷ []) c.reserve.ensures.labels)

pub returns-clause-happens : goal.returns-clause-happens
returns-clause-happens c =
    let added = c.in_ok-happen.ensures.ok in
    happens_with c.machine_law.ensures.runs c.machine_law.ensures.facts c.args.event c.args.self.now c.happen.new.self c.args.log.now.labels c.happen.new.log.labels added.label c.requires added.is
    (added.labels ∙ ap (λ labels. labels ++ added.label ∷ []) c.reserve.ensures.labels)

pub returns-clause-nearer : goal.returns-clause-nearer
returns-clause-nearer c =
    let added = c.in_ok-happen.ensures.ok in
    nearer_with c.machine_law.ensures.runs c.machine_law.ensures.facts c.machine_law.ensures.nearer c.machine_law.ensures.few c.args.event c.args.log.now.labels c.args.self.now c.happen.new.self added.label c.requires.run added.is
