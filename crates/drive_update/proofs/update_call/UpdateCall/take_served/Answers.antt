use Rattle.std.proofs.Common.{◌∙◌, sym, ap, rules}
use Rattle.node_msgs.specs.declared.replies.Reply.{Reply}
use Rattle.cluster_record.specs.DueUpdate.{update_taken}
use Rattle.cluster_record.specs.Ends.{served_done}
use Rattle.drive_update.proofs.update_call.UpdateCall.take_served.Goals as goal

pub returns-in-Held-clause-new : goal.returns-in-Held-clause-new
returns-in-Held-clause-new c = c.met.ensures c.args.cluster.now c.args.r ∙ ap (λ (reply : Reply). update_taken (served_done c.args.cluster.now c.args.request.now c.args.r reply) c.args.self.now) (sym c.in-Held.is)

pub returns-in-Free-clause-new : goal.returns-in-Free-clause-new
returns-in-Free-clause-new c = c.found_free.ensures c.args.cluster.now c.args.r ∙ ap (λ (reply : Reply). update_taken (served_done c.args.cluster.now c.args.request.now c.args.r reply) c.args.self.now) (sym c.in-Free.is)

pub returns-in-Held-clause-end : goal.returns-in-Held-clause-end
returns-in-Held-clause-end c = search rules
