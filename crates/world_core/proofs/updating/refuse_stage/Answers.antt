use Rattle.std.proofs.Common.{◌≡◌, ◌++◌, ◌∷◌, [], sym, ap, ◌∙◌}
use Rattle.std.specs.Prelude.{Some}
use Rattle.std.proofs.lemmas.Option.{same_Some}
use Rattle.ckpt_types.specs.OpWord.{word_of_op}
use Rattle.node_msgs.specs.declared.details.Details.TheVariants as beside
use Rattle.node_msgs.specs.Requests.{ckpt_of}
use Rattle.node_msgs.specs.Steps.{verb_of, word_of}
use Rattle.run_labels.specs.declared.labels.Label.{Label}
use Rattle.run_labels.specs.declared.labels.Label.TheVariants.{Stepped}
use Rattle.cluster_record.specs.Calls.{left}
use Rattle.node_core.specs.StageReplies.{reply_refused}
use Rattle.client_calls.specs.declared.in_hand.InHand.{InHand}
use Rattle.cluster_record.specs.Ends.{served_done}
use Rattle.client_calls.specs.HandSteps.{hand_taken, hand_end}
use Rattle.world_core.proofs.Taking.{hand_ends, hand_keeps}
use Rattle.world_core.proofs.updating.refuse_stage.Goals as goal

pub returns-clause-slot : goal.returns-clause-slot
returns-clause-slot c h is =
    let R = c.args.cluster.now in
    let request = c.args.request.now in
    let same : c.in-Some.hand ≡ h = same_Some c.in-Some.hand h (sym c.in-Some.is ∙ is) in
    let reply : c.reply_refused-reply.result ≡ reply_refused c.args.refused = c.reply_refused-reply.ensures in
    let asks = c.requires.next c.in-Some.hand c.in-Some.is in
    let taken = c.take-end.ensures.new ∙ hand_keeps R c.reply_refused-reply.result c.args.r request _ asks ∙ (λ i. hand_taken (served_done R request c.args.r (reply i)) (same i)) in
    let end = c.take-end.ensures.outcome ∙ hand_ends R c.reply_refused-reply.result c.args.r request _ c.take-end.new.self asks c.take-end.ensures.new ∙ (λ i. hand_end R (served_done R request c.args.r (reply i)) (reply i) (taken i)) in
    c.let_go.ensures ∙ (λ i. left (end i) (taken i))

pub returns-clause-label : goal.returns-clause-label
returns-clause-label c h is =
    let R = c.args.cluster.now in
    let request = c.args.request.now in
    let same : c.in-Some.hand ≡ h = same_Some c.in-Some.hand h (sym c.in-Some.is ∙ is) in
    let reply : c.reply_refused-reply.result ≡ reply_refused c.args.refused = c.reply_refused-reply.ensures in
    let asks = c.requires.next c.in-Some.hand c.in-Some.is in
    let taken = c.take-end.ensures.new ∙ hand_keeps R c.reply_refused-reply.result c.args.r request _ asks ∙ (λ i. hand_taken (served_done R request c.args.r (reply i)) (same i)) in
    let end = c.take-end.ensures.outcome ∙ hand_ends R c.reply_refused-reply.result c.args.r request _ c.take-end.new.self asks c.take-end.ensures.new ∙ (λ i. hand_end R (served_done R request c.args.r (reply i)) (reply i) (taken i)) in
    let word : c.word-op.result ≡ word_of_op h.op = c.word-op.ensures ∙ ap (λ (h : InHand). word_of_op h.op) same in
    c.push.ensures.labels
    ∙ ap (λ (l : Label). c.args.log.now.labels ++ l ∷ [])
    (c.served.ensures ∙ (λ i. Stepped (same i).call (word i) (verb_of request) (Some (ckpt_of request)) (Some c.args.r) (word_of (reply i)) (end i) beside.Nothing))
