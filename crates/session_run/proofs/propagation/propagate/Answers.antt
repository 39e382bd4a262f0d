use Rattle.std.proofs.Common.{◌≡◌, ◌+◌, [], ◌∷◌, List, ℕ, length, refl, sym, ap, subst, ◌∙◌, arith, length-append}
use Rattle.std.specs.Prelude.{Some, slice_get}
use Rattle.run_labels.specs.declared.labels.Label.TheVariants as labels
use Rattle.run_labels.specs.declared.labels.PullReply.TheVariants as pulls
use Rattle.cluster_record.specs.RecordState.{entry_of}
use Rattle.ckpt_machine.specs.Runs.{last}
use Rattle.session_run.specs.Puts.{tells_pulled, other_nodes, ArePuts}
use Rattle.session_run.proofs.Following.{OnOk-map, GrowsBy-begin}
use Rattle.session_run.proofs.Fronts.{towards_begin, towards_end, towards_one}
use Rattle.session_run.proofs.Putting.{label_behind, entry_shown_nodes, pull_before, pull_ends}
use Rattle.session_run.proofs.propagation.propagate.Goals as goal

pub at-requires : goal.at-requires
at-requires g c =
    let h = c.in_ok-pull.ensures.happens in
    let longer : length c.pull.new.log.labels ≡ length c.args.log.now.labels + 1 = ap length h.grows ∙ length-append c.args.log.now.labels (h.label ∷ []) in
    omega (arith, longer, c.len-place.ensures)

pub put_all-requires-clause-room : goal.put_all-requires-clause-room
put_all-requires-clause-room g c =
    let h = c.in_ok-pull.ensures.happens in
    let longer : length c.pull.new.log.labels ≡ length c.args.log.now.labels + 1 = ap length h.grows ∙ length-append c.args.log.now.labels (h.label ∷ []) in
    omega (arith, longer, c.requires.room)

pub returns-clause-few : goal.returns-clause-few
returns-clause-few g c =
    let h = c.in_ok-pull.ensures.happens in
    let longer : length c.pull.new.log.labels ≡ length c.args.log.now.labels + 1 = ap length h.grows ∙ length-append c.args.log.now.labels (h.label ∷ []) in
    omega (arith, longer, c.put_all.ensures.few)

pub returns-then-not-tells_pulled-clause-answers : goal.returns-then-not-tells_pulled-clause-answers
returns-then-not-tells_pulled-clause-answers g c =
    let h = c.in_ok-pull.ensures.happens in
    let old = c.args.log.now.labels in
    let is = label_behind old c.pull.new.log.labels h.label c.at.result.now h.grows (subst (λ n. slice_get c.pull.new.log.labels n ≡ Some c.at.result.now) c.len-place.ensures c.at.ensures) in
    (h.label ∷ [], h.grows, pull_ends c.args.ckpt (other_nodes (entry_of c.args.ckpt (last old).cluster.entries)) h.label h.answers.0 (ap tells_pulled (sym is) ∙ sym c.tells_pulled.ensures ∙ c.if-not-tells_pulled.true))

pub returns-then-not-tells_pulled-clause-front : goal.returns-then-not-tells_pulled-clause-front
returns-then-not-tells_pulled-clause-front g c = towards_end c.args.log.now.labels c.pull.new.log.labels (returns-then-not-tells_pulled-clause-answers g c)

pub returns-in_err-pull-clause-front : goal.returns-in_err-pull-clause-front
returns-in_err-pull-clause-front g c =
    towards_one c.args.log.now.labels c.pull.new.log.labels (labels.Pulled c.args.ckpt pulls.Nothing) c.in_err-pull.ensures.err (refl, refl)

pub returns-clause-answers : goal.returns-clause-answers
returns-clause-answers g c =
    let h = c.in_ok-pull.ensures.happens in
    let k = c.args.ckpt in
    let old = c.args.log.now.labels in
    let is = label_behind old c.pull.new.log.labels h.label c.at.result.now h.grows (subst (λ n. slice_get c.pull.new.log.labels n ≡ Some c.at.result.now) c.len-place.ensures c.at.ensures) in
    let pulled = ap tells_pulled (sym is) ∙ sym c.tells_pulled.ensures ∙ c.if-not-tells_pulled.false in
    let nodes = entry_shown_nodes (g.W.Cluster.shown c.args.world.now) old k c.complete_nodes-complete.result c.active_node-active.result c.requires.run c.complete_nodes-complete.ensures c.active_node-active.ensures in
    OnOk-map c.put_all.result c.put_all.ensures.puts (λ f.
    GrowsBy-begin old c.pull.new.log.labels c.put_all.new.log.labels h.label h.grows f
    (λ more goes. pull_before k (other_nodes (entry_of k (last old).cluster.entries)) h.label more h.answers.0 pulled (subst (λ (rs : List ℕ). ArePuts k rs more) nodes goes)))

pub returns-clause-front : goal.returns-clause-front
returns-clause-front g c =
    let h = c.in_ok-pull.ensures.happens in
    let k = c.args.ckpt in
    let old = c.args.log.now.labels in
    let is = label_behind old c.pull.new.log.labels h.label c.at.result.now h.grows (subst (λ n. slice_get c.pull.new.log.labels n ≡ Some c.at.result.now) c.len-place.ensures c.at.ensures) in
    let pulled = ap tells_pulled (sym is) ∙ sym c.tells_pulled.ensures ∙ c.if-not-tells_pulled.false in
    let nodes = entry_shown_nodes (g.W.Cluster.shown c.args.world.now) old k c.complete_nodes-complete.result c.active_node-active.result c.requires.run c.complete_nodes-complete.ensures c.active_node-active.ensures in
    towards_begin old c.pull.new.log.labels c.put_all.new.log.labels h.label h.grows c.put_all.ensures.front
    (λ more goes. pull_before k (other_nodes (entry_of k (last old).cluster.entries)) h.label more h.answers.0 pulled (subst (λ (rs : List ℕ). ArePuts k rs more) nodes goes))
