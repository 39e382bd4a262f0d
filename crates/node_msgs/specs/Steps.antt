-- What a step does, by what it asks of a node or of the record, and how it tells the reply.
use Rattle.node_msgs.specs.declared.next.RecordStep.{RecordStep}
use Rattle.node_msgs.specs.declared.next.RecordStep.TheVariants as events
use Rattle.node_msgs.specs.declared.replies.Reply.{Reply}
use Rattle.node_msgs.specs.declared.replies.Reply.TheVariants as replies
use Rattle.node_msgs.specs.declared.requests.Request.{Request}
use Rattle.node_msgs.specs.declared.requests.Request.TheVariants as requests
use Rattle.node_msgs.specs.declared.steps.StepReply.{StepReply}
use Rattle.node_msgs.specs.declared.steps.StepReply.TheVariants as words
use Rattle.node_msgs.specs.declared.steps.Verb.{Verb}
use Rattle.node_msgs.specs.declared.steps.Verb.TheVariants as verbs

-- how a step tells a node's reply
abbrev pub word_of : Reply → StepReply
word_of (replies.Done answer) = words.Ok
word_of (replies.Held by) = words.Held by
word_of (replies.Claimed count) = words.Ok
word_of (replies.Free count) = words.Free count
word_of (replies.Refused error index) = words.Refused
word_of replies.NoReplica = words.Refused
word_of (replies.Older generation count) = words.Older
word_of (replies.Stale old present) = words.Refused
word_of replies.NoMemory = words.Memory

-- what a step does that asks a request
abbrev pub verb_of : Request → Verb
verb_of (requests.Reserve k) = verbs.Reserve
verb_of (requests.Stage call k t) = verbs.Stage
verb_of (requests.Claim call k owner) = verbs.Claim
verb_of (requests.Commit call k) = verbs.Commit
verb_of (requests.Withdraw call k) = verbs.Withdraw
verb_of (requests.Apply call k) = verbs.Apply
verb_of (requests.Mark call k) = verbs.Mark
verb_of (requests.Element call k) = verbs.Element
verb_of (requests.Unmark call k) = verbs.Unmark
verb_of (requests.Read k) = verbs.Read
verb_of (requests.Status k) = verbs.Status
verb_of (requests.Iterate call k choice) = verbs.Iter
verb_of (requests.Next call k) = verbs.Next
verb_of (requests.Pull call k) = verbs.Pull
verb_of (requests.Install call k) = verbs.Install

-- what a step of the record does
abbrev pub event_verb : RecordStep → Verb
event_verb events.Enter = verbs.Enter
event_verb events.Leave = verbs.Leave
event_verb events.Open = verbs.Open
event_verb events.Create = verbs.Create
event_verb events.Finish = verbs.Finish
event_verb events.Undo = verbs.Undo
event_verb events.Close = verbs.Close
event_verb events.Unlink = verbs.Unlink
event_verb events.Retain = verbs.Retain
event_verb (events.Hold r) = verbs.Hold
event_verb (events.Activate r) = verbs.Activate
event_verb (events.Complete k r t) = verbs.Complete
