-- For each request that a node serves but a reservation: what its row changes in the machine is what the node changes.
use Rattle.std.proofs.Common.{◌≡◌, ℕ, ◌+◌, ℤ, List, ◌∷◌, [], ◌++◌, length, refl, sym, ap, subst, ◌∙◌, length-append}
use Rattle.std.specs.Prelude.{Option, Some, None, Result, Ok, Err, Bool, true, false, cond, ◌==◌, if◌then◌else◌}
use Rattle.ckpt_types.specs.declared.identities.CallId.{CallId}
use Rattle.ckpt_types.specs.declared.attributes.CreationAttributes.{CreationAttributes}
use Rattle.ckpt_types.specs.declared.update.Update.{Update}
use Rattle.ckpt_types.specs.Sections.{Section}
use Rattle.ckpt_types.specs.Updates.{Refusal}
use Rattle.ckpt_types.specs.Asks.{Ask, asked, update_of}
use Rattle.ckpt_types.specs.Asks as asks
use Rattle.ckpt_types.specs.Reads.{NextGiven, given, chosen}
use Rattle.client_handles.specs.ClientState.{ClientState, kept_at}
use Rattle.section_iter.specs.KeptIds.{KeptIds}
use Rattle.node_msgs.specs.declared.requests.Request.{Request}
use Rattle.node_msgs.specs.declared.requests.Request.TheVariants.{Reserve, Claim, Withdraw, Apply, Mark, Element, Unmark, Iterate, Next, Stage, Commit, Pull, Install}
use Rattle.node_msgs.specs.declared.steps.Verb.TheVariants as verbs
use Rattle.node_msgs.specs.declared.steps.StepReply.TheVariants as words
use Rattle.cluster_record.specs.declared.entries.Entry.{Entry}
use Rattle.node_msgs.specs.declared.replies.Reply.TheVariants as replies
use Rattle.snap_copy.specs.Snapshots as copies
use Rattle.replica.specs.Replicas.{Replica, is_older, taken_from, committed, applied_by, or_same, standing_or, staged_by, withdrawn, marked_by, element_done, ended, outcome_on}
use Rattle.stage_slot.specs.Slots.{Slot, IsOwnedBy}
use Rattle.weak_marks.specs.Marks.{Marked, IsMarkedBy, call_of, with_next_done}
use Rattle.cluster_record.specs.Places.{put2}
use Rattle.cluster_record.specs.RecordState.{entry_of}
use Rattle.node_msgs.specs.Requests.{ckpt_of}
use Rattle.node_core.specs.Payloads.{Payload}
use Rattle.node_core.specs.Seen.{RecordSeen, record_seen}
use Rattle.node_core.specs.Serving.{reply_of, replica_after, stage_reply, claim_reply, claimed_by, may_claim, apply_reply, mark_reply, next_reply, pull_reply, generation_seen, older_reply, install_reply, installed_of}
use Rattle.node_core.specs.Fitting.{IsReadyFor}
use Rattle.node_msgs.specs.Steps.{verb_of, word_of}
use Rattle.ckpt_machine.specs.Machine.{Machine, Effect, Applied, ReplicaState, Snapshot, CallState}
use Rattle.ckpt_machine.specs.After.{changed, on_ok, change_replica, chosen_at, given_at, with_slot, with_claim, without_slot, with_committed, with_applied, with_marks, with_next_element, without_marks, with_installed, having_taken, with_tables, staged_moment}
use Rattle.ckpt_machine.specs.Due.{ids_asked, payload_due}
use Rattle.ckpt_machine.specs.Seen.{seen_at, seen_snapshot}
use Rattle.ckpt_machine.specs.Tables.{started, with_next, gone_on}
use Rattle.ckpt_machine.specs.Shown.{shown_replica, shown_slot, FitsReplica, FitsSlot, FitsSnapshot}
use Rattle.ckpt_machine.proofs.Calls.{IsOwn}
use Rattle.ckpt_machine.proofs.ByActor.{same_tables}
use Rattle.ckpt_machine.proofs.Carried.{GoesToReplica, Carries}
use Rattle.ckpt_machine.proofs.NodeMaps.{put2_same}

-- the effects of the replica, and the origin of its slot, after a request of a call

abbrev pub effects_with : Option Slot → CallId → List Effect → List Effect
effects_with None o E = E
effects_with (Some slot) o E = E ++ Applied o slot.update slot.moment ∷ []

-- one more where the update is made at once
abbrev pub effects_applied : Effect → Option Marked → Result (List Section) Refusal → List Effect → List Effect
effects_applied effect (Some marked) result E = E
effects_applied effect None (Ok sections) E = E ++ effect ∷ []
effects_applied effect None (Err why) E = E

-- and one more where a weak write has been done
abbrev pub effects_unmarked : Option Marked → List Effect → List Effect
effects_unmarked None E = E
effects_unmarked (Some marked) E = E ++ Applied marked.call marked.update marked.moment ∷ []

-- the effects of what a call has pulled; none where it has pulled nothing
abbrev pub effects_in : Option Snapshot → List Effect
effects_in None = []
effects_in (Some s) = s.effects

-- and those of a snapshot where that is installed
abbrev pub effects_installed : ℕ → Option copies.Snapshot → Replica → List Effect → List Effect → List Effect
effects_installed present None x F E = E
effects_installed present (Some s) x F E = if s.generation == present then if is_older x s then F else E else E

-- F are the effects of the snapshot that travels beside the request
abbrev pub effects_after : CallId → Request → Payload → RecordSeen → Option Replica → CallId → List Effect → List Effect → List Effect
effects_after by (Commit call k) p seen (Some x) o F E = effects_with x.slot o E
effects_after by (Apply call k) p seen (Some x) o F E = effects_applied (Applied by p.update seen.moment) x.marks (outcome_on x p.update seen.moment) E
effects_after by (Unmark call k) p seen (Some x) o F E = effects_unmarked x.marks E
effects_after by (Install call k) p seen (Some x) o F E = effects_installed (generation_seen seen.entry) p.snapshot x F E
effects_after by request p seen y o F E = E

-- what is the same of two payloads leaves the same effects
pub effects_carried : (by : CallId) (request : Request) (p q : Payload) (seen : RecordSeen) (x : Replica) (o : CallId) (F E : List Effect) → Carries request p q → effects_after by request p seen (Some x) o F E ≡ effects_after by request q seen (Some x) o F E
effects_carried by (Install call k) p q seen x o F E same = λ i. effects_installed (generation_seen seen.entry) (same i) x F E
effects_carried by (Apply call k) p q seen x o F E same = λ i. effects_applied (Applied by (same i) seen.moment) x.marks (outcome_on x (same i) seen.moment) E
effects_carried by request p q seen x o F E same = refl

abbrev pub origin_with : CallId → CallId → Option Slot → CallId
origin_with call o None = call
origin_with call o (Some slot) = o

abbrev pub origin_after : Request → Option Replica → CallId → CallId
origin_after (Stage call k t) (Some x) o = origin_with call o x.slot
origin_after request y o = o

-- what becomes of the tables of its client: an iteration starts, or goes on
abbrev pub tables_moved : Request → CallState → List (List ℕ) → ℤ → List Section → Machine → Machine
tables_moved (Iterate call k choice) s ids now sections m = with_tables s.call.actor (started (asked s.op) s.kept.room (λ choice. chosen choice now sections)) m
tables_moved (Next call k) s ids now sections m = with_tables s.call.actor (gone_on (asked s.op) (given ids now sections)) m
tables_moved request s ids now sections m = m

-- where nothing is given, nothing changes
gives_none : (place : ℕ) (kept : Option KeptIds) (t : ClientState) → with_next place kept None t ≡ t
gives_none place None t = refl
gives_none place (Some kept) t = refl

pub gone_on_none : (ask : Ask) (t : ClientState) → gone_on ask None t ≡ t
gone_on_none (asks.Next place) t = gives_none place (kept_at place t) t
gone_on_none ask t = refl

module _ (M : Machine) (s : CallState) (k r : ℕ) (E : List Effect) (o : CallId) (x : Replica) where
  abbrev with : Option ReplicaState → Machine
  with y = record M { replicas = put2 M.replicas k r y }

  stays : (y : Option ReplicaState) → M.replicas k r ≡ y → M ≡ with y
  stays y is = λ i. record M { replicas = sym (put2_same M.replicas k r y is) i }

  stage_moves : (call : CallId) (t : ℤ) (p : Option Slot) (result : Result (List Section) Refusal) → M.replicas k r ≡ shown_replica E o (Some (record x { slot = p })) → call ≡ s.call → (p ≡ None → staged_moment M k ≡ t) →
      changed M s verbs.Stage (Some k) (Some r) (word_of (stage_reply result p)) ≡ with (shown_replica E (origin_with call o p) (Some (record x { slot = standing_or p result (staged_by call (update_of s.op) t x) })))
  stage_moves call t (Some slot) result is own moment = stays (shown_replica E o (Some (record x { slot = Some slot }))) is
  stage_moves call t None (Err why) is own moment = stays (shown_replica E o (Some (record x { slot = None }))) is
  stage_moves call t None (Ok sections) is own moment =
      let f = with_slot s.call (update_of s.op) (staged_moment M k) in
      let X : ReplicaState = record { sections = x.sections; effects = E; generation = x.generation; slot = None; marks = x.marks } in
      ap (λ y. change_replica M k r y f) is ∙ (λ i. with (Some (with_slot (sym own i) (update_of s.op) (moment refl i) X)))

  -- a claim leaves the origin of the slot as it is
  claim_moves : (call owner : CallId) (p : Option Slot) → M.replicas k r ≡ shown_replica E o (Some (record x { slot = p })) → call ≡ s.call →
      changed M s verbs.Claim (Some k) (Some r) (word_of (claim_reply call owner x.count p)) ≡ with (shown_replica E o (Some (record x { slot = claimed_by call owner p })))
  claim_moves call owner None is own = stays (shown_replica E o (Some (record x { slot = None }))) is
  claim_moves call owner (Some slot) is own = by_test (may_claim call owner slot) where
    X : ReplicaState
    X = record { sections = x.sections; effects = E; generation = x.generation; slot = shown_slot o (Some slot); marks = x.marks }

    by_test : (b : Bool) → changed M s verbs.Claim (Some k) (Some r) (word_of (cond b (replies.Claimed slot.count) (replies.Held slot.owner))) ≡ with (shown_replica E o (Some (record x { slot = cond b (Some (record slot { owner = call })) (Some slot) })))
    by_test true = ap (λ y. change_replica M k r y (with_claim s.call)) is ∙ (λ i. with (Some (with_claim (sym own i) X)))
    by_test false = stays (shown_replica E o (Some (record x { slot = Some slot }))) is

  -- what is withdrawn is there no more
  withdraw_moves : M.replicas k r ≡ shown_replica E o (Some x) → change_replica M k r (M.replicas k r) without_slot ≡ with (shown_replica E o (Some (withdrawn x)))
  withdraw_moves is = ap (λ y. change_replica M k r y without_slot) is

  commit_moves : (p : Option Slot) (e : Entry) (call : CallId) → entry_of k M.cluster.entries ≡ Some e → x.attributes ≡ e.attributes → M.replicas k r ≡ shown_replica E o (Some (record x { slot = p })) → IsOwnedBy call p →
      change_replica M k r (M.replicas k r) (with_committed (entry_of k M.cluster.entries)) ≡ with (shown_replica (effects_with p o E) o (Some (committed (record x { slot = p }) p)))
  commit_moves None e call at same is owned = absurd owned
  commit_moves (Some slot) e call at same is owned =
      ap (λ y. change_replica M k r y (with_committed (entry_of k M.cluster.entries))) is
      ∙ ap (λ f. change_replica M k r (shown_replica E o (Some (record x { slot = Some slot }))) (with_committed f)) at
      ∙ ap (λ a. change_replica M k r (shown_replica E o (Some (record x { slot = Some slot }))) (with_committed (Some (record e { attributes = a })))) (sym same)

  -- the replica as the machine has it, where no marks stand
  abbrev unmarked : ReplicaState
  unmarked = record { sections = x.sections; effects = E; generation = x.generation; slot = shown_slot o x.slot; marks = None }

  -- an update that is made at once, by what its row makes of a replica on which it has an outcome
  pub apply_moves : (row : ReplicaState → ReplicaState) (effect : Effect) (update : Update) (p : Option Marked) (result : Result (List Section) Refusal) → M.replicas k r ≡ shown_replica E o (Some (record x { marks = p })) →
      ((sections : List Section) → result ≡ Ok sections → row unmarked ≡ record unmarked { sections = sections; effects = E ++ effect ∷ [] }) →
      on_ok (word_of (apply_reply update result p)) M (change_replica M k r (M.replicas k r) row) ≡ with (shown_replica (effects_applied effect p result E) o (Some (applied_by p result (record x { marks = p }))))
  apply_moves row effect update (Some marked) result is makes = stays (shown_replica E o (Some (record x { marks = Some marked }))) is
  apply_moves row effect update None (Err why) is makes = stays (shown_replica E o (Some (record x { marks = None }))) is
  apply_moves row effect update None (Ok sections) is makes = ap (λ y. change_replica M k r y row) is ∙ ap (λ y. with (Some y)) (makes sections refl)

  -- the marks of a weak write are made, where none stand and it has an outcome
  mark_moves : (call : CallId) (p : Option Marked) (result : Result (List Section) Refusal) → M.replicas k r ≡ shown_replica E o (Some (record x { marks = p })) → call ≡ s.call →
      changed M s verbs.Mark (Some k) (Some r) (word_of (mark_reply result p)) ≡ with (shown_replica E o (Some (record x { marks = standing_or p result (marked_by call (update_of s.op) M.cluster.moment x) })))
  mark_moves call (Some marked) result is own = stays (shown_replica E o (Some (record x { marks = Some marked }))) is
  mark_moves call None (Err why) is own = stays (shown_replica E o (Some (record x { marks = None }))) is
  mark_moves call None (Ok sections) is own =
      ap (λ y. change_replica M k r y (with_marks s.call (update_of s.op) M.cluster.moment)) is ∙ (λ i. with (Some (with_marks (sym own i) (update_of s.op) M.cluster.moment unmarked)))

  -- its next element is done
  element_moves : (p : Option Marked) (e : Entry) → entry_of k M.cluster.entries ≡ Some e → x.attributes ≡ e.attributes → M.replicas k r ≡ shown_replica E o (Some (record x { marks = p })) →
      change_replica M k r (M.replicas k r) (with_next_element (entry_of k M.cluster.entries)) ≡ with (shown_replica E o (Some (element_done (record x { marks = p }) p)))
  element_moves None e at same is =
      ap (λ y. change_replica M k r y (with_next_element (entry_of k M.cluster.entries))) is
      ∙ ap (λ f. change_replica M k r (shown_replica E o (Some (record x { marks = None }))) (with_next_element f)) at
  element_moves (Some marked) e at same is =
      ap (λ y. change_replica M k r y (with_next_element (entry_of k M.cluster.entries))) is
      ∙ ap (λ f. change_replica M k r (shown_replica E o (Some (record x { marks = Some marked }))) (with_next_element f)) at
      ∙ ap (λ a. change_replica M k r (shown_replica E o (Some (record x { marks = Some marked }))) (with_next_element (Some (record e { attributes = a })))) (sym same)

  -- and its marks go, once it has been done
  unmark_moves : (p : Option Marked) (call : CallId) → M.replicas k r ≡ shown_replica E o (Some (record x { marks = p })) → IsMarkedBy call p →
      change_replica M k r (M.replicas k r) without_marks ≡ with (shown_replica (effects_unmarked p E) o (Some (ended (record x { marks = p }))))
  unmark_moves None call is by = absurd by
  unmark_moves (Some marked) call is by = ap (λ y. change_replica M k r y without_marks) is

  -- a pull leaves the replica as it is
  pull_stays : (holder : Option CallId) (count : ℕ) → M.replicas k r ≡ shown_replica E o (Some x) → changed M s verbs.Pull (Some k) (Some r) (word_of (pull_reply holder count)) ≡ with (shown_replica E o (Some x))
  pull_stays (Some holder) count is = stays (shown_replica E o (Some x)) is
  pull_stays None count is = stays (shown_replica E o (Some x)) is

  -- a snapshot is installed where it is of the present generation and the replica older
  install_moves : (present : ℕ) (declares : Option CreationAttributes) (taken : Option Snapshot) → M.replicas k r ≡ shown_replica E o (Some x) →
      on_ok (word_of (install_reply present (seen_snapshot declares taken) x)) M (change_replica M k r (M.replicas k r) (with_installed taken)) ≡ with (shown_replica (effects_installed present (seen_snapshot declares taken) x (effects_in taken) E) o (Some (installed_of present (seen_snapshot declares taken) x)))
  install_moves present None taken is = stays (shown_replica E o (Some x)) is
  install_moves present (Some a) None is = stays (shown_replica E o (Some x)) is
  install_moves present (Some a) (Some t) is = by_tests (t.generation == present) (is_older x copy) where
    copy : copies.Snapshot
    copy = record { attributes = a; sections = t.sections; generation = t.generation; count = length t.effects }

    by_tests : (same older : Bool) →
        on_ok (word_of (cond same (older_reply (cond older (Ok tt) (Err (record { generation = x.generation; count = x.count })))) (replies.Stale t.generation present))) M (change_replica M k r (M.replicas k r) (with_installed (Some t)))
        ≡ with (shown_replica (cond same (cond older t.effects E) E) o (Some (cond same (cond older (taken_from copy x) x) x)))
    by_tests false older = stays (shown_replica E o (Some x)) is
    by_tests true false = stays (shown_replica E o (Some x)) is
    by_tests true true = ap (λ y. change_replica M k r y (with_installed (Some t))) is

  module _ (is : M.replicas k r ≡ shown_replica E o (Some x)) (seen : seen_at M k r ≡ Some x) where
    abbrev whole : Machine
    whole = with (shown_replica E o (Some x))

    starts : changed M s verbs.Iter (Some k) (Some r) words.Ok ≡ with_tables s.call.actor (started (asked s.op) s.kept.room (λ choice. chosen choice M.cluster.moment x.sections)) whole
    starts =
        ap (λ y. with_tables s.call.actor (started (asked s.op) s.kept.room (λ choice. chosen_at choice M.cluster.moment y)) M) seen
        ∙ ap (with_tables s.call.actor (started (asked s.op) s.kept.room (λ choice. chosen choice M.cluster.moment x.sections))) (stays (shown_replica E o (Some x)) is)

    goes_on : (g : Option NextGiven) → given (ids_asked M s) M.cluster.moment x.sections ≡ g → changed M s verbs.Next (Some k) (Some r) (word_of (next_reply g)) ≡ with_tables s.call.actor (gone_on (asked s.op) g) whole
    goes_on None given_is = stays (shown_replica E o (Some x)) is ∙ sym (same_tables whole s.call.actor (gone_on (asked s.op) None) (gone_on_none (asked s.op) (M.tables s.call.actor)))
    goes_on (Some next) given_is =
        ap (λ g. with_tables s.call.actor (gone_on (asked s.op) g) M) (ap (given_at (ids_asked M s) M.cluster.moment) seen ∙ given_is)
        ∙ ap (with_tables s.call.actor (gone_on (asked s.op) (Some next))) (stays (shown_replica E o (Some x)) is)

-- every row
pub row_moves : (M : Machine) (s : CallState) (r : ℕ) (E : List Effect) (o : CallId) (x : Replica) (e : Entry) (request : Request) → GoesToReplica request → entry_of (ckpt_of request) M.cluster.entries ≡ Some e → x.attributes ≡ e.attributes →
    M.replicas (ckpt_of request) r ≡ shown_replica E o (Some x) → seen_at M (ckpt_of request) r ≡ Some x → IsReadyFor request x → IsOwn s.call request → ((call : CallId) (k : ℕ) (t : ℤ) → request ≡ Stage call k t → x.slot ≡ None → staged_moment M k ≡ t) →
    changed M s (verb_of request) (Some (ckpt_of request)) (Some r) (word_of (reply_of request (payload_due M s) (record_seen M.cluster (ckpt_of request) r) x))
    ≡ tables_moved request s (ids_asked M s) M.cluster.moment x.sections (record M { replicas = put2 M.replicas (ckpt_of request) r (shown_replica (effects_after s.call request (payload_due M s) (record_seen M.cluster (ckpt_of request) r) (Some x) o (effects_in s.snapshot) E) (origin_after request (Some x) o) (Some (replica_after request (payload_due M s) (record_seen M.cluster (ckpt_of request) r) x))) })
row_moves M s r E o x e (Reserve k) goes at same is seen ready own moment = absurd goes
row_moves M s r E o x e (Apply call k) goes at same is seen ready own moment =
    apply_moves M s k r E o x (with_applied s.call (update_of s.op) M.cluster.moment (entry_of k M.cluster.entries)) (Applied s.call (update_of s.op) M.cluster.moment) (update_of s.op) x.marks (outcome_on x (update_of s.op) M.cluster.moment) is
    (λ sections gives. ap (λ f. with_applied s.call (update_of s.op) M.cluster.moment f (unmarked M s k r E o x)) at
    ∙ ap (λ a. having_taken a s.call (update_of s.op) M.cluster.moment (unmarked M s k r E o x)) (sym same)
    ∙ ap (λ result. record (unmarked M s k r E o x) { sections = or_same result x.sections; effects = E ++ Applied s.call (update_of s.op) M.cluster.moment ∷ [] }) gives)
row_moves M s r E o x e (Mark call k) goes at same is seen ready own moment = mark_moves M s k r E o x call x.marks (outcome_on x (update_of s.op) M.cluster.moment) is own
row_moves M s r E o x e (Element call k) goes at same is seen ready own moment = element_moves M s k r E o x x.marks e at same is
row_moves M s r E o x e (Unmark call k) goes at same is seen ready own moment = unmark_moves M s k r E o x x.marks call is ready.0
row_moves M s r E o x e (Iterate call k choice) goes at same is seen ready own moment = starts M s k r E o x is seen
row_moves M s r E o x e (Next call k) goes at same is seen ready own moment = goes_on M s k r E o x is seen (given (ids_asked M s) M.cluster.moment x.sections) refl
row_moves M s r E o x e (Stage call k t) goes at same is seen ready own moment = stage_moves M s k r E o x call t x.slot (outcome_on x (update_of s.op) t) is own (λ n. moment call k t refl n)
row_moves M s r E o x e (Claim call k owner) goes at same is seen ready own moment = claim_moves M s k r E o x call owner x.slot is own
row_moves M s r E o x e (Withdraw call k) goes at same is seen ready own moment = withdraw_moves M s k r E o x is
row_moves M s r E o x e (Commit call k) goes at same is seen ready own moment = commit_moves M s k r E o x x.slot e call at same is ready
row_moves M s r E o x e (Install call k) goes at same is seen ready own moment = install_moves M s k r E o x (generation_seen (record_seen M.cluster k r).entry) s.kept.declares s.snapshot is
row_moves M s r E o x e (Pull call k) goes at same is seen ready own moment = pull_stays M s k r E o x (call_of x.marks) x.count is
row_moves M s r E o x e request goes at same is seen ready own moment = stays M s (ckpt_of request) r E o x (shown_replica E o (Some x)) is

-- and the replica still fits
fits_commit : (k : ℕ) (e : Option Entry) (E : List Effect) (o : CallId) (x : Replica) (p : Option Slot) → FitsReplica k e E (Some (record x { slot = p })) → FitsReplica k e (effects_with p o E) (Some (committed (record x { slot = p }) p))
fits_commit k e E o x None fits = fits
fits_commit k None E o x (Some slot) fits = (fits.0, tt, length-append E (Applied o slot.update slot.moment ∷ []) ∙ ap (λ n. n + 1) fits.2, tt)
fits_commit k (Some e) E o x (Some slot) fits = (fits.0, fits.1, length-append E (Applied o slot.update slot.moment ∷ []) ∙ ap (λ n. n + 1) fits.2, tt)

staged_fits : (call : CallId) (update : Update) (t : ℤ) (x : Replica) (result : Result (List Section) Refusal) (p : Option Slot) → x.marks ≡ None → FitsSlot x.count x.marks p → FitsSlot x.count x.marks (standing_or p result (staged_by call update t x))
staged_fits call update t x result (Some slot) free fits = fits
staged_fits call update t x (Ok sections) None free fits = (refl, free)
staged_fits call update t x (Err why) None free fits = tt

-- a slot that is claimed has its count still
claimed_fits : (call owner : CallId) (count : ℕ) (marks : Option Marked) (p : Option Slot) → FitsSlot count marks p → FitsSlot count marks (claimed_by call owner p)
claimed_fits call owner count marks None fits = tt
claimed_fits call owner count marks (Some slot) fits = by_test (may_claim call owner slot) where
  by_test : (b : Bool) → FitsSlot count marks (cond b (Some (record slot { owner = call })) (Some slot))
  by_test true = fits
  by_test false = fits

fits_apply : (k : ℕ) (e : Option Entry) (E : List Effect) (effect : Effect) (x : Replica) (p : Option Marked) (result : Result (List Section) Refusal) → x.slot ≡ None → FitsReplica k e E (Some x) → FitsReplica k e (effects_applied effect p result E) (Some (applied_by p result x))
fits_apply k e E effect x (Some marked) result free fits = fits
fits_apply k e E effect x None (Err why) free fits = fits
fits_apply k e E effect x None (Ok sections) free fits = by_entry e fits where
  count : length (E ++ effect ∷ []) ≡ x.count + 1
  count = length-append E (effect ∷ []) ∙ ap (λ n. n + 1) fits.2

  slot : FitsSlot (x.count + 1) x.marks x.slot
  slot = subst (FitsSlot (x.count + 1) x.marks) (sym free) tt

  by_entry : (e : Option Entry) → FitsReplica k e E (Some x) → FitsReplica k e (E ++ effect ∷ []) (Some (record x { sections = sections; count = x.count + 1 }))
  by_entry None fits = (fits.0, tt, count, slot)
  by_entry (Some e) fits = (fits.0, fits.1, count, slot)

-- where marks stand nothing is staged, so that whatever becomes of them fits
beside_marks : (count after : ℕ) (call : CallId) (marks others : Option Marked) (slot : Option Slot) → IsMarkedBy call marks → FitsSlot count marks slot → FitsSlot after others slot
beside_marks count after call None others slot by fits = absurd by
beside_marks count after call (Some marked) others None by fits = tt
beside_marks count after call (Some marked) others (Some slot) by fits = let none = fits.1 in absurd (cc none)

fits_mark : (k : ℕ) (e : Option Entry) (E : List Effect) (x : Replica) (marks : Option Marked) → x.slot ≡ None → FitsReplica k e E (Some x) → FitsReplica k e E (Some (record x { marks = marks }))
fits_mark k None E x marks free fits = (fits.0, tt, fits.2, subst (FitsSlot x.count marks) (sym free) tt)
fits_mark k (Some e) E x marks free fits = (fits.0, fits.1, fits.2, subst (FitsSlot x.count marks) (sym free) tt)

fits_element : (k : ℕ) (e : Option Entry) (E : List Effect) (x : Replica) (call : CallId) (p : Option Marked) → IsMarkedBy call p → FitsReplica k e E (Some (record x { marks = p })) → FitsReplica k e E (Some (element_done (record x { marks = p }) p))
fits_element k e E x call None by fits = absurd by
fits_element k None E x call (Some marked) by fits = (fits.0, tt, fits.2, beside_marks x.count x.count call (Some marked) (with_next_done (Some marked)) x.slot by fits.3)
fits_element k (Some e) E x call (Some marked) by fits = (fits.0, fits.1, fits.2, beside_marks x.count x.count call (Some marked) (with_next_done (Some marked)) x.slot by fits.3)

fits_unmark : (k : ℕ) (e : Option Entry) (E : List Effect) (x : Replica) (call : CallId) (p : Option Marked) → IsMarkedBy call p → FitsReplica k e E (Some (record x { marks = p })) → FitsReplica k e (effects_unmarked p E) (Some (ended (record x { marks = p })))
fits_unmark k e E x call None by fits = absurd by
fits_unmark k e E x call (Some marked) by fits = by_entry e fits where
  count : length (E ++ Applied marked.call marked.update marked.moment ∷ []) ≡ x.count + 1
  count = length-append E (Applied marked.call marked.update marked.moment ∷ []) ∙ ap (λ n. n + 1) fits.2

  slot : FitsSlot (x.count + 1) None x.slot
  slot = beside_marks x.count (x.count + 1) call (Some marked) None x.slot by fits.3

  by_entry : (e : Option Entry) → FitsReplica k e E (Some (record x { marks = Some marked })) → FitsReplica k e (E ++ Applied marked.call marked.update marked.moment ∷ []) (Some (ended (record x { marks = Some marked })))
  by_entry None fits = (fits.0, tt, count, slot)
  by_entry (Some e) fits = (fits.0, fits.1, count, slot)

-- a snapshot that counts its effects, on a replica on which nothing is staged
fits_installed : (k : ℕ) (e : Option Entry) (E F : List Effect) (x : Replica) (present : ℕ) (s : Option copies.Snapshot) → x.slot ≡ None → FitsSnapshot F s → FitsReplica k e E (Some x) → FitsReplica k e (effects_installed present s x F E) (Some (installed_of present s x))
fits_installed k e E F x present None free counts fits = fits
fits_installed k e E F x present (Some s) free counts fits = by_tests (s.generation == present) (is_older x s) where
  taken : (e : Option Entry) → FitsReplica k e E (Some x) → FitsReplica k e F (Some (taken_from s x))
  taken None fits = (fits.0, tt, counts, subst (FitsSlot s.count x.marks) (sym free) tt)
  taken (Some e) fits = (fits.0, fits.1, counts, subst (FitsSlot s.count x.marks) (sym free) tt)

  by_tests : (same older : Bool) → FitsReplica k e (cond same (cond older F E) E) (Some (cond same (cond older (taken_from s x) x) x))
  by_tests false older = fits
  by_tests true false = fits
  by_tests true true = taken e fits

pub row_fits : (k : ℕ) (e : Option Entry) (F E : List Effect) (o : CallId) (x : Replica) (by : CallId) (request : Request) (p : Payload) (seen : RecordSeen) → GoesToReplica request → IsReadyFor request x → FitsSnapshot F p.snapshot → FitsReplica k e E (Some x) →
    FitsReplica k e (effects_after by request p seen (Some x) o F E) (Some (replica_after request p seen x))
row_fits k e F E o x by (Reserve j) p seen goes ready counts fits = absurd goes
row_fits k None F E o x by (Claim call j owner) p seen goes ready counts fits = (fits.0, tt, fits.2, claimed_fits call owner x.count x.marks x.slot fits.3)
row_fits k (Some e) F E o x by (Claim call j owner) p seen goes ready counts fits = (fits.0, fits.1, fits.2, claimed_fits call owner x.count x.marks x.slot fits.3)
row_fits k None F E o x by (Withdraw call j) p seen goes ready counts fits = (fits.0, tt, fits.2, tt)
row_fits k (Some e) F E o x by (Withdraw call j) p seen goes ready counts fits = (fits.0, fits.1, fits.2, tt)
row_fits k e F E o x by (Mark call j) p seen goes ready counts fits = fits_mark k e E x (standing_or x.marks (outcome_on x p.update seen.moment) (marked_by call p.update seen.moment x)) ready fits
row_fits k e F E o x by (Element call j) p seen goes ready counts fits = fits_element k e E x call x.marks ready.0 fits
row_fits k e F E o x by (Unmark call j) p seen goes ready counts fits = fits_unmark k e E x call x.marks ready.0 fits
row_fits k None F E o x by (Stage call j t) p seen goes ready counts fits = (fits.0, tt, fits.2, staged_fits call p.update t x (outcome_on x p.update t) x.slot ready fits.3)
row_fits k (Some e) F E o x by (Stage call j t) p seen goes ready counts fits = (fits.0, fits.1, fits.2, staged_fits call p.update t x (outcome_on x p.update t) x.slot ready fits.3)
row_fits k e F E o x by (Commit call j) p seen goes ready counts fits = fits_commit k e E o x x.slot fits
row_fits k e F E o x by (Apply call j) p seen goes ready counts fits = fits_apply k e E (Applied by p.update seen.moment) x x.marks (outcome_on x p.update seen.moment) ready fits
row_fits k e F E o x by (Install call j) p seen goes ready counts fits = fits_installed k e E F x (generation_seen seen.entry) p.snapshot ready.0 counts fits
row_fits k e F E o x by request p seen goes ready counts fits = fits
