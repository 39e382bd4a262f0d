-- What a node answers to a request, and what becomes of its one replica.
use Rattle.std.specs.Prelude.{ℕ, List, [], ◌∷◌, Option, Some, None, Result, Ok, Err, Bool, if◌then◌else◌, ◌||◌, ◌==◌, ℤ}
use Rattle.ckpt_types.specs.declared.ais_error.AisError.TheVariants.{NoSections}
use Rattle.ckpt_types.specs.declared.answers.Answer.{Answer}
use Rattle.ckpt_types.specs.declared.answers.Answer.TheVariants as answers
use Rattle.ckpt_types.specs.declared.attributes.CreationAttributes.{CreationAttributes}
use Rattle.ckpt_types.specs.declared.identities.CallId.{CallId}
use Rattle.ckpt_types.specs.declared.update.Update.{Update}
use Rattle.ckpt_types.specs.declared.update.Update.TheVariants as updates
use Rattle.ckpt_types.specs.Sections.{Section, present}
use Rattle.ckpt_types.specs.Updates.{Refusal, new_id}
use Rattle.ckpt_types.specs.Reads.{read, status, NextGiven, given, chosen, description}
use Rattle.section_iter.specs.KeptIds.{KeptIds}
use Rattle.section_iter.specs.Next.{kept_after}
use Rattle.node_msgs.specs.declared.details.Details.{Details}
use Rattle.node_msgs.specs.declared.details.Details.TheVariants as beside
use Rattle.node_msgs.specs.declared.requests.Request.{Request}
use Rattle.node_msgs.specs.declared.requests.Request.TheVariants as requests
use Rattle.node_msgs.specs.declared.replies.Reply.{Reply}
use Rattle.node_msgs.specs.declared.replies.Reply.TheVariants as replies
use Rattle.stage_slot.specs.Slots.{Slot, owner_of}
use Rattle.weak_marks.specs.Marks.{Marked, call_of}
use Rattle.snap_copy.specs.Snapshots.{Snapshot}
use Rattle.replica.specs.declared.replica.Older.{Older}
use Rattle.replica.specs.Replicas.{Replica, staged, committed, withdrawn, applied, begun, element_done, ended, outcome_on, pulled_unless, install_answer, installed}
use Rattle.cluster_record.specs.Calls.{same_call}
use Rattle.node_core.specs.Payloads.{Payload}
use Rattle.node_core.specs.Seen.{EntrySeen, RecordSeen}

-- ---- stages, claims and commits

-- done, or refused as the sections do
abbrev pub done_or_refused : {A : Type 0} → Reply → Result A Refusal → Reply
done_or_refused done (Ok x) = done
done_or_refused done (Err why) = replies.Refused why.error why.index

-- the call that stands in its way holds it off; else it is done, or refused as the sections do
abbrev pub reply_unless : {A : Type 0} → Option CallId → Reply → Result A Refusal → Reply
reply_unless (Some holder) done after = replies.Held holder
reply_unless None done after = done_or_refused done after

-- another slot holds the update off; else the sections decide
abbrev pub stage_reply : Result (List Section) Refusal → Option Slot → Reply
stage_reply after slot = reply_unless (owner_of slot) (replies.Done answers.Nothing) after

-- the caller claims its own slot, or that of the owner it names
abbrev pub may_claim : CallId → CallId → Slot → Bool
may_claim call owner slot = same_call slot.owner call || same_call slot.owner owner

-- the count of the slot that is the caller's then; no slot stands, and the count of the replica; or a third call's slot
abbrev pub claim_reply : CallId → CallId → ℕ → Option Slot → Reply
claim_reply call owner count None = replies.Free count
claim_reply call owner count (Some slot) = if may_claim call owner slot then replies.Claimed slot.count else replies.Held slot.owner

-- the slot after a claim
abbrev pub claimed_by : CallId → CallId → Option Slot → Option Slot
claimed_by call owner None = None
claimed_by call owner (Some slot) = if may_claim call owner slot then Some (record slot { owner = call }) else Some slot

-- what an update that is done answers: a creation tells the identifier of its section
abbrev pub update_answer : Update → Answer
update_answer (updates.Create new expiration bytes) = answers.Created
update_answer update = answers.Nothing

-- so answers the commit of what is staged
abbrev pub commit_answer : Option Slot → Answer
commit_answer None = answers.Nothing
commit_answer (Some slot) = update_answer slot.update

-- the identifier that a creation at a moment makes over the sections before it
abbrev pub made_id : Update → ℤ → List Section → Option (List ℕ)
made_id (updates.Create new expiration bytes) t sections = Some (new_id new (present t sections))
made_id update t sections = None

-- an identifier, told beside an answer
abbrev pub id_told : Option (List ℕ) → Details
id_told None = beside.Nothing
id_told (Some id) = beside.Pieces (id ∷ [])

-- the identifier that an update makes, told so
abbrev pub told_id : Update → ℤ → List Section → Details
told_id update t sections = id_told (made_id update t sections)

-- told by the replica that commits it
abbrev pub slot_id : List Section → Option Slot → Details
slot_id sections None = beside.Nothing
slot_id sections (Some slot) = told_id slot.update slot.moment sections

-- ---- updates in one step, and weak writes

-- the marks of a weak write hold the update off; else the sections decide
abbrev pub apply_reply : Update → Result (List Section) Refusal → Option Marked → Reply
apply_reply update after marks = reply_unless (call_of marks) (replies.Done (update_answer update)) after

-- the identifier of its section, told where the update is applied
abbrev pub applied_id : Option Marked → Result (List Section) Refusal → Details → Details
applied_id (Some marked) after told = beside.Nothing
applied_id None (Ok sections) told = told
applied_id None (Err why) told = beside.Nothing

-- the marks of a weak write hold another off; else the sections decide
abbrev pub mark_reply : Result (List Section) Refusal → Option Marked → Reply
mark_reply after marks = reply_unless (call_of marks) (replies.Done answers.Nothing) after

-- ---- reads and iterations

-- the pieces that a read gives
abbrev pub read_details : Result (List (List ℕ)) Refusal → Details
read_details (Ok pieces) = beside.Pieces pieces
read_details (Err why) = beside.Nothing

-- an iteration gives a next section, or none is left
abbrev pub next_reply : Option NextGiven → Reply
next_reply None = replies.Refused NoSections 0
next_reply (Some next) = replies.Done answers.Section

-- what is told of that section
abbrev pub next_details : Option NextGiven → Details
next_details None = beside.Nothing
next_details (Some next) = beside.Section (description next.section)

-- the attributes of the checkpoint, with the retention as it is set now; where it is gone, those of the replica
abbrev pub attributes_seen : Option EntrySeen → CreationAttributes → CreationAttributes
attributes_seen None own = own
attributes_seen (Some e) own = record e.attributes { retention_duration = e.retention }

-- ---- snapshots

-- marks hold a pull off; else it tells the count
abbrev pub pull_reply : Option CallId → ℕ → Reply
pull_reply (Some holder) count = replies.Held holder
pull_reply None count = replies.Done (answers.Pulled count)

-- the generation of the checkpoint as it is now; 0 where it is gone
abbrev pub generation_seen : Option EntrySeen → ℕ
generation_seen None = 0
generation_seen (Some e) = e.generation

-- a replica has taken the snapshot over, or tells its own generation and count
abbrev pub older_reply : Result (Unit {0}) Older → Reply
older_reply (Ok done) = replies.Done answers.Nothing
older_reply (Err older) = replies.Older older.generation older.count

-- a snapshot of another generation than the checkpoint is stale; else it is for a replica that is older
abbrev pub install_reply : ℕ → Option Snapshot → Replica → Reply
install_reply present None x = replies.NoReplica
install_reply present (Some s) x = if s.generation == present then older_reply (install_answer x s) else replies.Stale s.generation present

-- the replica behind its installation
abbrev pub installed_of : ℕ → Option Snapshot → Replica → Replica
installed_of present None x = x
installed_of present (Some s) x = if s.generation == present then installed s x else x

-- ---- a request to one replica

-- the answer of a replica that is complete
abbrev pub reply_of : Request → Payload → RecordSeen → Replica → Reply
reply_of (requests.Stage call k t) p seen x = stage_reply (outcome_on x p.update t) x.slot
reply_of (requests.Claim call k owner) p seen x = claim_reply call owner x.count x.slot
reply_of (requests.Commit call k) p seen x = replies.Done (commit_answer x.slot)
reply_of (requests.Withdraw call k) p seen x = replies.Done answers.Nothing
reply_of (requests.Apply call k) p seen x = apply_reply p.update (outcome_on x p.update seen.moment) x.marks
reply_of (requests.Mark call k) p seen x = mark_reply (outcome_on x p.update seen.moment) x.marks
reply_of (requests.Element call k) p seen x = replies.Done answers.Nothing
reply_of (requests.Unmark call k) p seen x = replies.Done answers.Nothing
reply_of (requests.Read k) p seen x = done_or_refused (replies.Done answers.Pieces) (read p.elements seen.moment x.sections)
reply_of (requests.Status k) p seen x = replies.Done answers.Status
reply_of (requests.Iterate call k choice) p seen x = replies.Done answers.Nothing
reply_of (requests.Next call k) p seen x = next_reply (given p.ids seen.moment x.sections)
reply_of (requests.Pull call k) p seen x = pull_reply (call_of x.marks) x.count
reply_of (requests.Install call k) p seen x = install_reply (generation_seen seen.entry) p.snapshot x
reply_of _ p seen x = replies.NoReplica

-- and what the replica becomes
abbrev pub replica_after : Request → Payload → RecordSeen → Replica → Replica
replica_after (requests.Stage call k t) p seen x = staged call p.update t x
replica_after (requests.Claim call k owner) p seen x = record x { slot = claimed_by call owner x.slot }
replica_after (requests.Commit call k) p seen x = committed x x.slot
replica_after (requests.Withdraw call k) p seen x = withdrawn x
replica_after (requests.Apply call k) p seen x = applied p.update seen.moment x
replica_after (requests.Mark call k) p seen x = begun call p.update seen.moment x
replica_after (requests.Element call k) p seen x = element_done x x.marks
replica_after (requests.Unmark call k) p seen x = ended x
replica_after (requests.Install call k) p seen x = installed_of (generation_seen seen.entry) p.snapshot x
replica_after _ p seen x = x

-- what comes beside the answer: the pieces of a read, the identifier of a new section, the next section, or a status
abbrev pub details_of : Request → Payload → RecordSeen → Replica → Details
details_of (requests.Read k) p seen x = read_details (read p.elements seen.moment x.sections)
details_of (requests.Commit call k) p seen x = slot_id x.sections x.slot
details_of (requests.Apply call k) p seen x = applied_id x.marks (outcome_on x p.update seen.moment) (told_id p.update seen.moment x.sections)
details_of (requests.Status k) p seen x = beside.Status (status (attributes_seen seen.entry x.attributes) seen.moment x.sections)
details_of (requests.Next call k) p seen x = next_details (given p.ids seen.moment x.sections)
details_of _ p seen x = beside.Nothing

-- what an iteration keeps behind the request: what it is given to begin with, or what stands behind the section that it gave
abbrev pub iteration_of : Request → RecordSeen → Replica → KeptIds → KeptIds
iteration_of (requests.Iterate call k choice) seen x kept = record kept { ids = chosen choice seen.moment x.sections }
iteration_of (requests.Next call k) seen x kept = kept_after kept (given kept.ids seen.moment x.sections)
iteration_of _ seen x kept = kept

-- what a snapshot has behind the request: what the replica has, where it was pulled
abbrev pub snapshot_after : Request → Replica → Snapshot → Snapshot
snapshot_after (requests.Pull call k) x s = pulled_unless (call_of x.marks) x s
snapshot_after _ x s = s

-- ---- a request to a node, by the replica for which it is complete

-- NOT_EXIST where there is none
abbrev pub reply_at : Request → Payload → RecordSeen → Option Replica → Reply
reply_at request p seen None = replies.NoReplica
reply_at request p seen (Some x) = reply_of request p seen x

-- what comes beside the reply of a node
abbrev pub details_at : Request → Payload → RecordSeen → Option Replica → Details
details_at request p seen None = beside.Nothing
details_at request p seen (Some x) = details_of request p seen x

-- what an iteration keeps that is lent to it
abbrev pub iteration_behind : Request → RecordSeen → Option Replica → Option KeptIds → Option KeptIds
iteration_behind request seen None kept = kept
iteration_behind request seen (Some x) None = None
iteration_behind request seen (Some x) (Some kept) = Some (iteration_of request seen x kept)

-- what a snapshot has that is lent to it
abbrev pub snapshot_behind : Request → Option Replica → Option Snapshot → Option Snapshot
snapshot_behind request None s = s
snapshot_behind request (Some x) None = None
snapshot_behind request (Some x) (Some s) = Some (snapshot_after request x s)
