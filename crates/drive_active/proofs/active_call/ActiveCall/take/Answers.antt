use Rattle.std.proofs.Common.{◌≡◌, rules, refl, ◌∙◌}
use Rattle.ckpt_types.specs.declared.answers.Answer.{Answer}
use Rattle.node_msgs.specs.declared.replies.Reply.{Reply}
use Rattle.node_msgs.specs.declared.replies.Reply.TheVariants as replies
use Rattle.cluster_record.specs.Ends.{active_done, active_ended, refused_end}
use Rattle.cluster_record.specs.StepDone.{StepDone}
use Rattle.drive_active.proofs.active_call.ActiveCall.take.Goals as goal

-- by a reply that was not done it ends as any call does
refused : (d : StepDone) (reply : Reply) → ((answer : Answer) → reply ≡ replies.Done answer → ⊥) → refused_end d.live reply ≡ active_ended d reply
refused d (replies.Done answer) none = absurd (none answer refl)
refused d (replies.Held by) none = refl
refused d (replies.Claimed count) none = refl
refused d (replies.Free count) none = refl
refused d (replies.Refused error index) none = refl
refused d replies.NoReplica none = refl
refused d (replies.Older generation count) none = refl
refused d (replies.Stale old present) none = refl
refused d replies.NoMemory none = refl

pub returns-in_default-clause-new : goal.returns-in_default-clause-new
returns-in_default-clause-new c = search rules

pub returns-in_default-clause-outcome : goal.returns-in_default-clause-outcome
returns-in_default-clause-outcome c = c.refused_end.ensures ∙ refused (active_done c.args.cluster.now c.args.reply.now c.args.self.now) c.args.reply.now c.in_default.not-Done
