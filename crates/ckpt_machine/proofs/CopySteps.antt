-- What a served request tells of a count, and what it leaves in the hand of its call.
use Rattle.std.proofs.Common.{◌≡◌, ℕ, List, length, refl, sym, ap, subst, ◌∙◌}
use Rattle.std.specs.Option.{option_map}
use Rattle.std.specs.Prelude.{Option, Some, None, IsSome, Result, Ok, Err, Bool, true, false, cond, ◌==◌, IsSomeAnd}
use Rattle.ckpt_types.specs.declared.answers.Answer.TheVariants as answers
use Rattle.ckpt_types.specs.declared.attributes.CreationAttributes.{CreationAttributes}
use Rattle.ckpt_types.specs.declared.identities.CallId.{CallId}
use Rattle.ckpt_types.specs.declared.update.Update.{Update}
use Rattle.ckpt_types.specs.declared.update.Update.TheVariants as updates
use Rattle.ckpt_types.specs.Asks.{Ask}
use Rattle.ckpt_types.specs.Reads.{NextGiven, given, read}
use Rattle.ckpt_types.specs.Updates.{Refusal}
use Rattle.node_msgs.specs.declared.replies.Reply.{Reply}
use Rattle.node_msgs.specs.declared.replies.Reply.TheVariants as replies
use Rattle.node_msgs.specs.declared.requests.Request.{Request}
use Rattle.node_msgs.specs.declared.requests.Request.TheVariants as requests
use Rattle.node_msgs.specs.Requests.{ckpt_of}
use Rattle.node_msgs.specs.Steps.{verb_of, word_of}
use Rattle.snap_copy.specs.Snapshots as copies
use Rattle.stage_slot.specs.Slots.{Slot, owner_of}
use Rattle.weak_marks.specs.Marks.{call_of}
use Rattle.cluster_record.specs.declared.entries.Entry.{Entry}
use Rattle.cluster_record.specs.StepDone.{count_told}
use Rattle.replica.specs.declared.replica.Older.{Older}
use Rattle.replica.specs.Replicas.{Replica, install_answer, outcome_on, pulled_unless, pulled_from}
use Rattle.node_core.specs.Payloads.{Payload}
use Rattle.node_core.specs.Seen.{RecordSeen}
use Rattle.node_core.specs.Serving.{reply_of, claim_reply, may_claim, reply_unless, done_or_refused, update_answer, commit_answer, next_reply, pull_reply, install_reply, older_reply, generation_seen, snapshot_after, snapshot_behind}
use Rattle.ckpt_machine.specs.Machine.{Machine, Effect, ReplicaState, Snapshot, CallState}
use Rattle.ckpt_machine.specs.Propagation.{copied}
use Rattle.ckpt_machine.specs.After.{pulled_by}
use Rattle.ckpt_machine.specs.Due.{counted_at, count_in}
use Rattle.ckpt_machine.specs.Seen.{seen_snapshot}
use Rattle.ckpt_machine.specs.Shown.{shown_replica, shown_copy, FitsReplica, FitsSlot, FitsSnapshot, FitsCopy, IsRoomToCopy}
use Rattle.ckpt_machine.proofs.Carried.{GoesToReplica}
use Rattle.ckpt_machine.proofs.RequestRows.{effects_in}
use Rattle.ckpt_machine.specs.Tables.{takes_copy}
use Rattle.std.proofs.lemmas.Option.{same_Some}

-- a replica that fits counts its effects
pub counts_effects : (k : ℕ) (E : List Effect) (x : Replica) (e : Option Entry) → FitsReplica k e E (Some x) → length E ≡ x.count
counts_effects k E x None fits = fits.2
counts_effects k E x (Some e) fits = fits.2

-- a snapshot that is seen counts its effects
pub counts_seen : (declares : Option CreationAttributes) (s : Option Snapshot) → FitsSnapshot (effects_in s) (seen_snapshot declares s)
counts_seen None s = tt
counts_seen (Some a) None = tt
counts_seen (Some a) (Some s) = refl

-- ---- the count

none_of_update : (u : Update) → count_told (replies.Done (update_answer u)) ≡ 0
none_of_update (updates.Create new expiration bytes) = refl
none_of_update u = refl

none_of_commit : (o : Option Slot) → count_told (replies.Done (commit_answer o)) ≡ 0
none_of_commit None = refl
none_of_commit (Some slot) = none_of_update slot.update

none_by_result : {A : Type 0} (done : Reply) (after : Result A Refusal) → count_told done ≡ 0 → count_told (done_or_refused done after) ≡ 0
none_by_result done (Ok x) none = none
none_by_result done (Err why) none = refl

none_unless : {A : Type 0} (holder : Option CallId) (done : Reply) (after : Result A Refusal) → count_told done ≡ 0 → count_told (reply_unless holder done after) ≡ 0
none_unless (Some by) done after none = refl
none_unless None done after none = none_by_result done after none

none_of_next : (next : Option NextGiven) → count_told (next_reply next) ≡ 0
none_of_next None = refl
none_of_next (Some next) = refl

none_of_install : (present : ℕ) (s : Option copies.Snapshot) (x : Replica) → count_told (install_reply present s x) ≡ 0
none_of_install present None x = refl
none_of_install present (Some s) x = by_generation (s.generation == present) where
  by_older : (told : Result (Unit {0}) Older) → count_told (older_reply told) ≡ 0
  by_older (Ok done) = refl
  by_older (Err older) = refl

  by_generation : (b : Bool) → count_told (cond b (older_reply (install_answer x s)) (replies.Stale s.generation present)) ≡ 0
  by_generation true = by_older (install_answer x s)
  by_generation false = refl

-- the count that a replica's answer tells is that of its updates where it was pulled or its slot claimed, and else none
pub counts_told : (m : Machine) (r : ℕ) (E : List Effect) (o : CallId) (x : Replica) (request : Request) (p : Payload) (seen : RecordSeen) → GoesToReplica request → m.replicas (ckpt_of request) r ≡ shown_replica E o (Some x) → length E ≡ x.count → FitsSlot x.count x.marks x.slot →
    counted_at m (verb_of request) (Some (ckpt_of request)) (Some r) (word_of (reply_of request p seen x)) ≡ count_told (reply_of request p seen x)
counts_told m r E o x (requests.Reserve k) p seen goes is count fits = absurd goes
counts_told m r E o x (requests.Claim call k owner) p seen goes is count fits = by_slot x.slot fits where
  by_slot : (q : Option Slot) → FitsSlot x.count x.marks q → counted_at m (verb_of (requests.Claim call k owner)) (Some k) (Some r) (word_of (claim_reply call owner x.count q)) ≡ count_told (claim_reply call owner x.count q)
  by_slot None fits = refl
  by_slot (Some slot) fits = by_test (may_claim call owner slot) where
    by_test : (b : Bool) → counted_at m (verb_of (requests.Claim call k owner)) (Some k) (Some r) (word_of (cond b (replies.Claimed slot.count) (replies.Held slot.owner))) ≡ count_told (cond b (replies.Claimed slot.count) (replies.Held slot.owner))
    by_test true = ap count_in is ∙ count ∙ sym fits.0
    by_test false = refl
counts_told m r E o x (requests.Pull call k) p seen goes is count fits = by_marks (call_of x.marks) where
  by_marks : (holder : Option CallId) → counted_at m (verb_of (requests.Pull call k)) (Some k) (Some r) (word_of (pull_reply holder x.count)) ≡ count_told (pull_reply holder x.count)
  by_marks (Some by) = refl
  by_marks None = ap count_in is ∙ count
counts_told m r E o x (requests.Stage call k t) p seen goes is count fits = sym (none_unless (owner_of x.slot) (replies.Done answers.Nothing) (outcome_on x p.update t) refl)
counts_told m r E o x (requests.Commit call k) p seen goes is count fits = sym (none_of_commit x.slot)
counts_told m r E o x (requests.Apply call k) p seen goes is count fits = sym (none_unless (call_of x.marks) (replies.Done (update_answer p.update)) (outcome_on x p.update seen.moment) (none_of_update p.update))
counts_told m r E o x (requests.Mark call k) p seen goes is count fits = sym (none_unless (call_of x.marks) (replies.Done answers.Nothing) (outcome_on x p.update seen.moment) refl)
counts_told m r E o x (requests.Read k) p seen goes is count fits = sym (none_by_result (replies.Done answers.Pieces) (read p.elements seen.moment x.sections) refl)
counts_told m r E o x (requests.Next call k) p seen goes is count fits = sym (none_of_next (given p.ids seen.moment x.sections))
counts_told m r E o x (requests.Install call k) p seen goes is count fits = sym (none_of_install (generation_seen seen.entry) p.snapshot x)
counts_told m r E o x request p seen goes is count fits = refl

-- ---- the copy

-- the effects that a call has pulled behind a request, where the node has this replica with these effects
abbrev pub pulled_unless_marked : Option CallId → List Effect → Option (List Effect) → Option (List Effect)
pulled_unless_marked (Some by) E pulled = pulled
pulled_unless_marked None E pulled = Some E

abbrev pub pulled_after : Request → Option Replica → List Effect → Option (List Effect) → Option (List Effect)
pulled_after (requests.Pull call k) (Some x) E pulled = pulled_unless_marked (call_of x.marks) E pulled
pulled_after request y E pulled = pulled

-- a copy with the same attributes has the same room
pub room_alike : (ask : Ask) (declares : Option CreationAttributes) (s t : copies.Snapshot) → t.attributes ≡ s.attributes → IsRoomToCopy ask declares (Some s) → IsRoomToCopy ask declares (Some t)
room_alike ask declares s t same room = ap Some same ∙ room

-- a call that copies has room for what was declared
pub room_is : (ask : Ask) (declares : Option CreationAttributes) (s : Option copies.Snapshot) (a : CreationAttributes) → IsRoomToCopy ask declares s → takes_copy ask ≡ true → declares ≡ Some a → IsSomeAnd s (λ s. s.attributes ≡ a)
room_is ask declares s a room takes is = by_copy s (room ∙ ap (λ b. cond b declares None) takes ∙ is) where
  by_copy : (s : Option copies.Snapshot) → option_map (λ (t : copies.Snapshot). t.attributes) s ≡ Some a → IsSomeAnd s (λ s. s.attributes ≡ a)
  by_copy None there = absurd (cc there)
  by_copy (Some t) there = same_Some t.attributes a there

-- a pull has room
abbrev pub HasCopyRoomFor : Request → Option copies.Snapshot → Type 0
HasCopyRoomFor (requests.Pull call k) s = IsSome s
HasCopyRoomFor request s = Unit {0}

-- what is so of a copy behind a request
pub record IsCopiedSo (Q : Option copies.Snapshot → Type 0) (shown : Option Snapshot) (pulled : Option (List Effect)) (copy : Option copies.Snapshot) : Type 0 where
  pub same : shown ≡ shown_copy pulled copy
  pub room : Q copy
  pub counts : FitsCopy pulled copy

behind_same : (request : Request) (x : Replica) (s : Option copies.Snapshot) → ((t : copies.Snapshot) → snapshot_after request x t ≡ t) → snapshot_behind request (Some x) s ≡ s
behind_same request x None same = refl
behind_same request x (Some t) same = ap Some (same t)

-- nothing is pulled by another request
copy_same : (Q : Option copies.Snapshot → Type 0) (request : Request) (x : Replica) (s : Option copies.Snapshot) (pulled : Option (List Effect)) → ((t : copies.Snapshot) → snapshot_after request x t ≡ t) → Q s → FitsCopy pulled s →
    IsCopiedSo Q (shown_copy pulled s) pulled (snapshot_behind request (Some x) s)
copy_same Q request x s pulled same room counts = subst (IsCopiedSo Q (shown_copy pulled s) pulled) (sym (behind_same request x s same)) (record { same = refl; room = room; counts = counts })

-- all that a replica has is copied
pub copied_whole : (y : Option ReplicaState) (E : List Effect) (o : CallId) (x : Replica) (t : copies.Snapshot) → y ≡ shown_replica E o (Some x) → length E ≡ x.count → (Q : Option copies.Snapshot → Type 0) → ((s t : copies.Snapshot) → t.attributes ≡ s.attributes → Q (Some s) → Q (Some t)) → Q (Some t) →
    IsCopiedSo Q (option_map copied y) (Some E) (Some (pulled_from x t))
copied_whole y E o x t there count Q alike has = record { same = ap (option_map copied) there; room = alike t (pulled_from x t) refl has; counts = count }

-- what a call has in hand behind a request that a replica has answered, as the machine has it and as the code has it
pub copy_behind : (m : Machine) (s : CallState) (r : ℕ) (E : List Effect) (o : CallId) (x : Replica) (request : Request) (p : Payload) (seen : RecordSeen) (copy : Option copies.Snapshot) (pulled : Option (List Effect)) → s.snapshot ≡ shown_copy pulled copy → m.replicas (ckpt_of request) r ≡ shown_replica E o (Some x) → HasCopyRoomFor request copy →
    length E ≡ x.count → (Q : Option copies.Snapshot → Type 0) → ((s t : copies.Snapshot) → t.attributes ≡ s.attributes → Q (Some s) → Q (Some t)) → Q copy → FitsCopy pulled copy →
    IsCopiedSo Q (pulled_by m s (verb_of request) (Some (ckpt_of request)) (Some r) (word_of (reply_of request p seen x))) (pulled_after request (Some x) E pulled) (snapshot_behind request (Some x) copy)
copy_behind m s r E o x (requests.Pull call k) p seen None pulled is there room count Q alike has counts = absurd (cc room)
copy_behind m s r E o x (requests.Pull call k) p seen (Some t) pulled is there room count Q alike has counts = by_marks (call_of x.marks) where
  by_marks : (holder : Option CallId) → IsCopiedSo Q (pulled_by m s (verb_of (requests.Pull call k)) (Some k) (Some r) (word_of (pull_reply holder x.count))) (pulled_unless_marked holder E pulled) (Some (pulled_unless holder x t))
  by_marks (Some by) = record { same = is; room = has; counts = counts }
  by_marks None = copied_whole (m.replicas k r) E o x t there count Q alike has
copy_behind m s r E o x request p seen copy pulled is there room count Q alike has counts = subst (λ z. IsCopiedSo Q z pulled (snapshot_behind request (Some x) copy)) (sym is) (copy_same Q request x copy pulled (λ t. refl) has counts)
