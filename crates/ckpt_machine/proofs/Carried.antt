-- Two payloads that have the same of what a request uses: a node answers and does the same.
use Rattle.std.proofs.Common.{◌≡◌, ◌≢◌, ℕ, refl, subst, ◌∙◌}
use Rattle.std.specs.Prelude.{Option, Some, None}
use Rattle.ckpt_types.specs.declared.answers.Answer.TheVariants as answers
use Rattle.ckpt_types.specs.Reads.{read, given}
use Rattle.node_msgs.specs.declared.replies.Reply.TheVariants as replies
use Rattle.node_msgs.specs.declared.requests.Request.{Request}
use Rattle.node_msgs.specs.declared.requests.Request.TheVariants as requests
use Rattle.replica.specs.Replicas.{Replica, staged, applied, begun, outcome_on}
use Rattle.node_core.specs.Payloads.{Payload}
use Rattle.node_core.specs.Seen.{RecordSeen}
use Rattle.node_core.specs.Serving.{reply_at, details_at, replica_after, stage_reply, apply_reply, applied_id, told_id, mark_reply, done_or_refused, read_details, next_reply, next_details, generation_seen, install_reply, installed_of}

-- the request goes to a replica
abbrev pub GoesToReplica : Request → Type 0
GoesToReplica (requests.Reserve k) = ⊥
GoesToReplica request = Unit {0}

pub reserves_none : (request : Request) → GoesToReplica request → (k : ℕ) → request ≢ requests.Reserve k
reserves_none request goes k e = subst GoesToReplica e goes

-- two payloads have the same of what a request uses
abbrev pub Carries : Request → Payload → Payload → Type 0
Carries (requests.Stage call k t) p q = p.update ≡ q.update
Carries (requests.Apply call k) p q = p.update ≡ q.update
Carries (requests.Mark call k) p q = p.update ≡ q.update
Carries (requests.Read k) p q = p.elements ≡ q.elements
Carries (requests.Next call k) p q = p.ids ≡ q.ids
Carries (requests.Install call k) p q = p.snapshot ≡ q.snapshot
Carries request p q = Unit {0}

-- of two payloads the snapshot is the same, where the request uses it
abbrev pub IsSameCopy : Request → Payload → Payload → Type 0
IsSameCopy (requests.Install call k) p q = p.snapshot ≡ q.snapshot
IsSameCopy request p q = Unit {0}

-- what is carried to a payload is carried to one that has the same
pub carried_on : (request : Request) (p a b : Payload) → Carries request p a → a.update ≡ b.update → a.elements ≡ b.elements → a.ids ≡ b.ids → IsSameCopy request a b → Carries request p b
carried_on (requests.Stage call k t) p a b carries update elements ids copy = carries ∙ update
carried_on (requests.Apply call k) p a b carries update elements ids copy = carries ∙ update
carried_on (requests.Mark call k) p a b carries update elements ids copy = carries ∙ update
carried_on (requests.Read k) p a b carries update elements ids copy = carries ∙ elements
carried_on (requests.Next call k) p a b carries update elements ids copy = carries ∙ ids
carried_on (requests.Install call k) p a b carries update elements ids copy = carries ∙ copy
carried_on request p a b carries update elements ids copy = tt

-- so the answer is the same
pub reply_carried : (request : Request) (p q : Payload) (seen : RecordSeen) (y : Option Replica) → Carries request p q → reply_at request p seen y ≡ reply_at request q seen y
reply_carried request p q seen None same = refl
reply_carried (requests.Stage call k t) p q seen (Some x) same = λ i. stage_reply (outcome_on x (same i) t) x.slot
reply_carried (requests.Apply call k) p q seen (Some x) same = λ i. apply_reply (same i) (outcome_on x (same i) seen.moment) x.marks
reply_carried (requests.Mark call k) p q seen (Some x) same = λ i. mark_reply (outcome_on x (same i) seen.moment) x.marks
reply_carried (requests.Read k) p q seen (Some x) same = λ i. done_or_refused (replies.Done answers.Pieces) (read (same i) seen.moment x.sections)
reply_carried (requests.Next call k) p q seen (Some x) same = λ i. next_reply (given (same i) seen.moment x.sections)
reply_carried (requests.Install call k) p q seen (Some x) same = λ i. install_reply (generation_seen seen.entry) (same i) x
reply_carried request p q seen (Some x) same = refl

-- and what comes beside it
pub details_carried : (request : Request) (p q : Payload) (seen : RecordSeen) (y : Option Replica) → Carries request p q → details_at request p seen y ≡ details_at request q seen y
details_carried request p q seen None same = refl
details_carried (requests.Apply call k) p q seen (Some x) same = λ i. applied_id x.marks (outcome_on x (same i) seen.moment) (told_id (same i) seen.moment x.sections)
details_carried (requests.Read k) p q seen (Some x) same = λ i. read_details (read (same i) seen.moment x.sections)
details_carried (requests.Next call k) p q seen (Some x) same = λ i. next_details (given (same i) seen.moment x.sections)
details_carried request p q seen (Some x) same = refl

-- and what the replica becomes
pub replica_carried : (request : Request) (p q : Payload) (seen : RecordSeen) (x : Replica) → Carries request p q → replica_after request p seen x ≡ replica_after request q seen x
replica_carried (requests.Stage call k t) p q seen x same = λ i. staged call (same i) t x
replica_carried (requests.Apply call k) p q seen x same = λ i. applied (same i) seen.moment x
replica_carried (requests.Install call k) p q seen x same = λ i. installed_of (generation_seen seen.entry) (same i) x
replica_carried (requests.Mark call k) p q seen x same = λ i. begun call (same i) seen.moment x
replica_carried request p q seen x same = refl
