-- What remains of what was lent, behind a request.
use Rattle.std.specs.Prelude.{Option, Some, None}
use Rattle.ckpt_types.specs.declared.answers.Answer.TheVariants as answers
use Rattle.ckpt_types.specs.declared.sections.SectionDescriptor.{SectionDescriptor}
use Rattle.node_msgs.specs.declared.requests.Request.{Request}
use Rattle.node_msgs.specs.declared.requests.Request.TheVariants as requests
use Rattle.node_msgs.specs.declared.replies.Reply.{Reply}
use Rattle.node_msgs.specs.declared.replies.Reply.TheVariants as replies
use Rattle.replica.specs.Replicas.{Replica}
use Rattle.node_core.specs.declared.lent.Lent.{Lent}

-- what was lent, with what a reply tells in its place: pieces or the identifier of a new section in the buffer, a status or a section in its own
abbrev pub with_told : Reply → Lent → Lent → Lent
with_told (replies.Done answers.Pieces) told lent = record lent { read = told.read }
with_told (replies.Done answers.Created) told lent = record lent { read = told.read }
with_told (replies.Done answers.Status) told lent = record lent { status = told.status }
with_told (replies.Done answers.Section) told lent = record lent { section = told.section }
with_told reply told lent = lent

-- the place for a section has the one that a reply tells, or what was there
abbrev pub section_in_place : Reply → SectionDescriptor → SectionDescriptor → SectionDescriptor
section_in_place (replies.Done answers.Section) told own = told
section_in_place reply told own = own

-- behind a request to a replica with this reply: a read has used up its elements, and a stage, an update in one step and a weak write their update; what
-- is told stands in its place, an iteration and a snapshot come back, and all else stays
abbrev pub remains_of : Request → Reply → Lent → Lent → Lent
remains_of (requests.Stage call k t) reply back lent = record lent { update = None }
remains_of (requests.Commit call k) reply back lent = with_told reply back lent
remains_of (requests.Apply call k) reply back lent = with_told reply back (record lent { update = None })
remains_of (requests.Mark call k) reply back lent = record lent { update = None }
remains_of (requests.Read k) reply back lent = with_told reply back (record lent { vector = None })
remains_of (requests.Status k) reply back lent = with_told reply back lent
remains_of (requests.Iterate call k choice) reply back lent = record lent { iteration = back.iteration }
remains_of (requests.Next call k) reply back lent = with_told reply back (record lent { iteration = back.iteration })
remains_of (requests.Pull call k) reply back lent = record lent { snap = back.snap }
remains_of request reply back lent = lent

-- behind a request to a node, by the replica for which it is complete: without one all stays
abbrev pub remains_at : Request → Option Replica → Reply → Lent → Lent → Lent
remains_at request None reply back lent = lent
remains_at request (Some x) reply back lent = remains_of request reply back lent
