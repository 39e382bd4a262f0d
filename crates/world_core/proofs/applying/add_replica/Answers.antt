use Rattle.std.proofs.Common.{◌≡◌, true, false, sym, ap, subst, ◌∙◌}
use Rattle.std.proofs.lemmas.Result.{on_ok_weaker}
use Rattle.cluster_record.specs.LookUps.{adds_in}
use Rattle.cluster_record.specs.Placement.{adds}
use Rattle.cluster_record.specs.RecordState.{entry_of, home_of, identity_of}
use Rattle.ckpt_machine.proofs.EntryLists.{find_key-key}
use Rattle.ckpt_machine.specs.Nodes.{replica_in, with_added}
use Rattle.ckpt_machine.specs.RecordReady.{HasNoneOf}
use Rattle.ckpt_machine.proofs.Adding.{opened_none, opened_adds}
use Rattle.world_core.proofs.applying.add_replica.Goals as goal

pub returns-then-not-adds_replica-clause-ok : goal.returns-then-not-adds_replica-clause-ok
returns-then-not-adds_replica-clause-ok c =
    let R = c.args.cluster.now in
    let e = c.in-Some.entry.now in
    let home = home_of c.args.client R in
    let none : adds e.attributes home e.complete ≡ false = ap (adds_in home) (sym c.in-Some.ensures.found) ∙ sym c.adds_replica.ensures ∙ c.if-not-adds_replica.true in
    opened_none (entry_of c.args.ckpt R.entries) e home c.args.nodes.now c.in-Some.ensures.found none

pub add-requires-clause-there : goal.add-requires-clause-there
add-requires-clause-there c =
    let R = c.args.cluster.now in
    let e = c.in-Some.entry.now in
    ap (λ k. entry_of k R.entries) (find_key-key identity_of c.args.ckpt R.entries e c.in-Some.ensures.found) ∙ c.in-Some.ensures.found

pub add-requires-clause-free : goal.add-requires-clause-free
add-requires-clause-free c =
    let R = c.args.cluster.now in
    let e = c.in-Some.entry.now in
    let home = home_of c.args.client R in
    let new : adds e.attributes home e.complete ≡ true = ap (adds_in home) (sym c.in-Some.ensures.found) ∙ sym c.adds_replica.ensures ∙ c.if-not-adds_replica.false in
    ap (replica_in c.args.nodes.now e.identity) c.home_of.ensures.node ∙ subst (λ o. HasNoneOf o home c.args.nodes.now) c.in-Some.ensures.found c.requires new

pub returns-clause-ok : goal.returns-clause-ok
returns-clause-ok c =
    let R = c.args.cluster.now in
    let e = c.in-Some.entry.now in
    let home = home_of c.args.client R in
    let new : adds e.attributes home e.complete ≡ true = ap (adds_in home) (sym c.in-Some.ensures.found) ∙ sym c.adds_replica.ensures ∙ c.if-not-adds_replica.false in
    on_ok_weaker c.add.result (λ added. added ∙ ap (λ r. with_added e r c.args.nodes.now) c.home_of.ensures.node ∙ opened_adds (entry_of c.args.ckpt R.entries) e home c.args.nodes.now c.in-Some.ensures.found new) c.add.ensures.ok
