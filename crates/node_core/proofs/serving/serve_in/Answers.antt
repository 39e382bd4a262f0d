use Rattle.std.proofs.Common.{sym, ap, ◌∙◌}
use Rattle.node_msgs.specs.declared.replies.Reply.TheVariants as replies
use Rattle.node_msgs.specs.Requests.{ckpt_of}
use Rattle.node_core.specs.Behind.{remains_at}
use Rattle.node_core.specs.Payloads.{payload_of}
use Rattle.node_core.specs.Seen.{record_seen, is_complete}
use Rattle.node_core.specs.Serving.{reply_at, details_at, iteration_behind, snapshot_behind, replica_after}
use Rattle.node_core.proofs.AtPlaces.{place_served, served_at, served_none, served_changes, served_same, fits_at}
use Rattle.node_core.proofs.serving.serve_in.Goals as goal

pub returns-in_default-clause-reply : goal.returns-in_default-clause-reply
returns-in_default-clause-reply c =
    let k = ckpt_of c.args.request.now in
    let seen = record_seen c.args.seen.now k c.args.number in
    let from = c.place_served.ensures.place ∙ ap (λ k. place_served (is_complete (record_seen c.args.seen.now k c.args.number)) k c.args.replicas.now) c.ckpt.ensures in
    ap (reply_at c.args.request.now (payload_of c.args.lent.now) seen) (sym (served_none (is_complete seen) k c.args.replicas.now c.place_served.result from c.in_default.is))

pub returns-in_default-clause-new : goal.returns-in_default-clause-new
returns-in_default-clause-new c =
    let k = ckpt_of c.args.request.now in
    let seen = record_seen c.args.seen.now k c.args.number in
    let from = c.place_served.ensures.place ∙ ap (λ k. place_served (is_complete (record_seen c.args.seen.now k c.args.number)) k c.args.replicas.now) c.ckpt.ensures in
    served_same (is_complete seen) k (replica_after c.args.request.now (payload_of c.args.lent.now) seen) c.args.replicas.now c.place_served.result from c.in_default.is

pub returns-in_default-clause-details : goal.returns-in_default-clause-details
returns-in_default-clause-details c =
    let k = ckpt_of c.args.request.now in
    let seen = record_seen c.args.seen.now k c.args.number in
    let from = c.place_served.ensures.place ∙ ap (λ k. place_served (is_complete (record_seen c.args.seen.now k c.args.number)) k c.args.replicas.now) c.ckpt.ensures in
    ap (details_at c.args.request.now (payload_of c.args.lent.now) seen) (sym (served_none (is_complete seen) k c.args.replicas.now c.place_served.result from c.in_default.is))

pub returns-in_default-clause-iteration : goal.returns-in_default-clause-iteration
returns-in_default-clause-iteration c =
    let k = ckpt_of c.args.request.now in
    let seen = record_seen c.args.seen.now k c.args.number in
    let from = c.place_served.ensures.place ∙ ap (λ k. place_served (is_complete (record_seen c.args.seen.now k c.args.number)) k c.args.replicas.now) c.ckpt.ensures in
    ap (λ x. iteration_behind c.args.request.now seen x c.args.lent.now.iteration) (sym (served_none (is_complete seen) k c.args.replicas.now c.place_served.result from c.in_default.is))

pub returns-in_default-clause-snapshot : goal.returns-in_default-clause-snapshot
returns-in_default-clause-snapshot c =
    let k = ckpt_of c.args.request.now in
    let seen = record_seen c.args.seen.now k c.args.number in
    let from = c.place_served.ensures.place ∙ ap (λ k. place_served (is_complete (record_seen c.args.seen.now k c.args.number)) k c.args.replicas.now) c.ckpt.ensures in
    ap (λ x. snapshot_behind c.args.request.now x c.args.lent.now.snap) (sym (served_none (is_complete seen) k c.args.replicas.now c.place_served.result from c.in_default.is))

pub returns-in_default-clause-kept : goal.returns-in_default-clause-kept
returns-in_default-clause-kept c =
    let k = ckpt_of c.args.request.now in
    let seen = record_seen c.args.seen.now k c.args.number in
    let from = c.place_served.ensures.place ∙ ap (λ k. place_served (is_complete (record_seen c.args.seen.now k c.args.number)) k c.args.replicas.now) c.ckpt.ensures in
    ap (λ x. remains_at c.args.request.now x replies.NoReplica c.args.lent.now c.args.lent.now) (sym (served_none (is_complete seen) k c.args.replicas.now c.place_served.result from c.in_default.is))

pub answer-requires : goal.answer-requires
answer-requires c =
    let k = ckpt_of c.args.request.now in
    let seen = record_seen c.args.seen.now k c.args.number in
    let from = c.place_served.ensures.place ∙ ap (λ k. place_served (is_complete (record_seen c.args.seen.now k c.args.number)) k c.args.replicas.now) c.ckpt.ensures in
    fits_at (is_complete seen) c.args.request.now c.args.lent.now k c.args.replicas.now c.place_served.result from c.in-Some.i c.index-replicas-i.result c.in-Some.is c.requires

pub returns-clause-reply : goal.returns-clause-reply
returns-clause-reply c =
    let k = ckpt_of c.args.request.now in
    let seen = record_seen c.args.seen.now k c.args.number in
    let from = c.place_served.ensures.place ∙ ap (λ k. place_served (is_complete (record_seen c.args.seen.now k c.args.number)) k c.args.replicas.now) c.ckpt.ensures in
    c.answer.ensures.reply
    ∙ ap (reply_at c.args.request.now (payload_of c.args.lent.now) seen) (sym (served_at (is_complete seen) k c.args.replicas.now c.place_served.result from c.in-Some.i c.index-replicas-i.result c.in-Some.is))

pub returns-clause-new : goal.returns-clause-new
returns-clause-new c =
    let k = ckpt_of c.args.request.now in
    let seen = record_seen c.args.seen.now k c.args.number in
    let from = c.place_served.ensures.place ∙ ap (λ k. place_served (is_complete (record_seen c.args.seen.now k c.args.number)) k c.args.replicas.now) c.ckpt.ensures in
    served_changes (is_complete seen) k (replica_after c.args.request.now (payload_of c.args.lent.now) seen) c.args.replicas.now c.place_served.result from c.in-Some.i c.index-replicas-i.result c.answer.new.replica c.in-Some.is c.answer.ensures.new

pub returns-clause-details : goal.returns-clause-details
returns-clause-details c =
    let k = ckpt_of c.args.request.now in
    let seen = record_seen c.args.seen.now k c.args.number in
    let from = c.place_served.ensures.place ∙ ap (λ k. place_served (is_complete (record_seen c.args.seen.now k c.args.number)) k c.args.replicas.now) c.ckpt.ensures in
    c.answer.ensures.details
    ∙ ap (details_at c.args.request.now (payload_of c.args.lent.now) seen) (sym (served_at (is_complete seen) k c.args.replicas.now c.place_served.result from c.in-Some.i c.index-replicas-i.result c.in-Some.is))

pub returns-clause-iteration : goal.returns-clause-iteration
returns-clause-iteration c =
    let k = ckpt_of c.args.request.now in
    let seen = record_seen c.args.seen.now k c.args.number in
    let from = c.place_served.ensures.place ∙ ap (λ k. place_served (is_complete (record_seen c.args.seen.now k c.args.number)) k c.args.replicas.now) c.ckpt.ensures in
    c.answer.ensures.iteration
    ∙ ap (λ x. iteration_behind c.args.request.now seen x c.args.lent.now.iteration) (sym (served_at (is_complete seen) k c.args.replicas.now c.place_served.result from c.in-Some.i c.index-replicas-i.result c.in-Some.is))

pub returns-clause-snapshot : goal.returns-clause-snapshot
returns-clause-snapshot c =
    let k = ckpt_of c.args.request.now in
    let seen = record_seen c.args.seen.now k c.args.number in
    let from = c.place_served.ensures.place ∙ ap (λ k. place_served (is_complete (record_seen c.args.seen.now k c.args.number)) k c.args.replicas.now) c.ckpt.ensures in
    c.answer.ensures.snapshot
    ∙ ap (λ x. snapshot_behind c.args.request.now x c.args.lent.now.snap) (sym (served_at (is_complete seen) k c.args.replicas.now c.place_served.result from c.in-Some.i c.index-replicas-i.result c.in-Some.is))

pub returns-clause-kept : goal.returns-clause-kept
returns-clause-kept c =
    let k = ckpt_of c.args.request.now in
    let seen = record_seen c.args.seen.now k c.args.number in
    let from = c.place_served.ensures.place ∙ ap (λ k. place_served (is_complete (record_seen c.args.seen.now k c.args.number)) k c.args.replicas.now) c.ckpt.ensures in
    c.answer.ensures.kept
    ∙ ap (λ x. remains_at c.args.request.now x c.answer.result c.answer.new.lent c.args.lent.now) (sym (served_at (is_complete seen) k c.args.replicas.now c.place_served.result from c.in-Some.i c.index-replicas-i.result c.in-Some.is))
