-- Each label counts up by at most one.
use Rattle.std.proofs.Common.{◌≡◌, ◌⊎◌, ℕ, zero, suc, ◌+◌, ◌-◌, ◌≤◌, inl, inr, List, [], ◌∷◌, ◌++◌, filter, length, Option, Some, None, Bool, true, false, cond, not, ◌==◌, ◌&&◌, ℤ, refl, sym, ap, subst, ◌∙◌, arith}
use Rattle.std.specs.Option.{option_map}
use Rattle.std.specs.Prelude.{slice_index, slice_set, if◌then◌else◌}
use Rattle.std.proofs.lemmas.List.{length_push}
use Rattle.std.proofs.lemmas.Option.{same_Some}
use Rattle.ckpt_types.specs.declared.answers.Outcome.{Outcome}
use Rattle.ckpt_types.specs.declared.identities.ActorName.{ActorName}
use Rattle.ckpt_types.specs.declared.identities.CallId.{CallId}
use Rattle.ckpt_types.specs.declared.attributes.CreationAttributes.{CreationAttributes}
use Rattle.ckpt_types.specs.declared.operation.Op.{Op}
use Rattle.ckpt_types.specs.declared.answers.Outcome.TheVariants as outcomes
use Rattle.ckpt_types.specs.declared.sections.Choice.{Choice}
use Rattle.ckpt_types.specs.declared.update.Update.{Update}
use Rattle.ckpt_types.specs.Reads.{NextGiven}
use Rattle.section_iter.specs.KeptIds.{KeptIds}
use Rattle.section_iter.specs.declared.room.Room.{Room}
use Rattle.client_handles.specs.ClientState.{ClientState, bound, emptied, can_stand_for}
use Rattle.client_handles.specs.declared.handle_view.HandleView.{HandleView}
use Rattle.weak_marks.specs.Marks.{Marked}
use Rattle.node_msgs.specs.declared.steps.Verb.{Verb}
use Rattle.node_msgs.specs.declared.steps.Verb.TheVariants as verbs
use Rattle.node_msgs.specs.declared.steps.StepReply.{StepReply}
use Rattle.node_msgs.specs.declared.steps.StepReply.TheVariants as words
use Rattle.run_labels.specs.declared.labels.Label.TheVariants as labels
use Rattle.run_labels.specs.declared.labels.PullReply.{PullReply}
use Rattle.run_labels.specs.declared.labels.PullReply.TheVariants as pulls
use Rattle.run_labels.specs.declared.labels.PutReply.{PutReply}
use Rattle.run_labels.specs.declared.labels.PutReply.TheVariants as puts
use Rattle.cluster_record.specs.declared.entries.Entry.{Entry}
use Rattle.cluster_record.specs.Calls.{same_actor, client_of, left}
use Rattle.cluster_record.specs.Failing.{goes_with_node}
use Rattle.cluster_record.specs.Identities.{IdentitiesRise, AllUpTo}
use Rattle.cluster_record.specs.Joining.{can_complete, completed, completed_on, led_by, led_by_lowest, with_node}
use Rattle.cluster_record.specs.LookUps.{creation_flags_of}
use Rattle.cluster_record.specs.Makings.{making_of}
use Rattle.cluster_record.specs.Places.{change_key, put2}
use Rattle.cluster_record.specs.Placement.{adds, is_all}
use Rattle.cluster_record.specs.RecordState.{RecordState, entry_of, identity_of, has_references, stays, swept, entered, created_as, new_entry, referred, opened_with, home_of, made_with, first_complete, unreferred, released_all, unnamed, retaining, is_call_of, departed, moved, undone, complete_of, is_active, is_live, can_be_held, with_hold, can_lead, generation_under, with_active, active_set}
use Rattle.cluster_record.specs.StepDone.{generation_in}
use Rattle.ckpt_machine.proofs.HeldIdentity.{with_hold-identity, with_active-identity}
use Rattle.cluster_record.proofs.KeptLaws.{completed_on-keeps}
use Rattle.cluster_record.proofs.IdentityLaws.{KeepsIdentity, IdentitiesRise-change_key, IdentitiesRise-filter, IdentitiesRise-map, IdentitiesRise-push}
use Rattle.ckpt_types.specs.Asks.{Ask, asked, update_of}
use Rattle.ckpt_types.specs.Asks as asks
use Rattle.ckpt_machine.specs.Failing.{is_of_node, broken, broken_unless, made_present, replica_left, record_failed, failed_at}
use Rattle.ckpt_machine.specs.Invariant.{Invariant}
use Rattle.ckpt_machine.specs.Machine.{Machine, Applied, Broken, ReplicaState, Snapshot, Staged, CallState, empty_cluster, who}
use Rattle.ckpt_machine.specs.Laws.{CountsUp}
use Rattle.ckpt_machine.specs.Propagation.{source_at, copied, with_pulled, target_at, replica_from, with_put}
use Rattle.ckpt_machine.specs.NodeJoins.{joined_at}
use Rattle.ckpt_machine.specs.Runs.{Counts}
use Rattle.ckpt_machine.specs.After.{given_at, chosen_at, with_pending, with_closed, goes_with, without_syncs, left_over, left_in_hand, ended_calls, with_record, record_step, with_tables, with_given, with_started, with_gone_on, created_for, retained_for, change_replica, with_committed, committed_slot, with_applied, with_marks, without_marks, marks_ended, with_installed, with_lead, effect_of, after_beginning, begun_call, call_begun, changed, pulled_by, kept_behind, step_of, on_ok, on_look, without_making, at_some, replica_under, snapshot_under, opened_state, replica_copied, staged_moment, with_replica_copied}
use Rattle.ckpt_machine.specs.Whose.{is_of}
use Rattle.call_dispatch.specs.PendingCalls.{PendingCalls, no_pending, given_by}
use Rattle.call_dispatch.specs.declared.async_call.EndedCall.{EndedCall}
use Rattle.ckpt_types.specs.declared.calls.AsyncKind.{AsyncKind}
use Rattle.ckpt_types.specs.declared.calls.AsyncKind.TheVariants as kinds
use Rattle.ckpt_machine.specs.Due.{count_in, ids_asked}
use Rattle.ckpt_machine.specs.Under.{replicas_under}
use Rattle.ckpt_machine.specs.Seen.{seen_at}
use Rattle.ckpt_machine.specs.Tables.{handle_given, handle_closed, registering, place_set, places_set, with_iteration, started, with_next, gone_on, closing, ended_at_once}
use Rattle.ckpt_machine.proofs.References.{released-identity, released_all-identity}
use Rattle.ckpt_machine.proofs.Joining.{opened_with-identity}
use Rattle.ckpt_machine.proofs.Entries.{ComesOf, ComesOf-filter, ComesOf-change_key, ComesOf-map}
use Rattle.ckpt_machine.proofs.FailedCalls.{left_is as left_was_in_hand}
use Rattle.ckpt_machine.proofs.FailedEntries.{failed_at_most}
use Rattle.ckpt_machine.proofs.FailedHands.{was_entry}
use Rattle.ckpt_machine.proofs.NodeLists.{first_life}
use Rattle.ckpt_machine.proofs.Follows.{element_effects}
use Rattle.ckpt_machine.proofs.Propagated.{source_there}
use Rattle.ckpt_machine.proofs.Dropped.{left_was, held_as}
use Rattle.ckpt_machine.proofs.Starting.{first_kept, begun_as}
use Rattle.ckpt_types.specs.OpWord.{stepped_as, word_of_op}
use Rattle.ckpt_types.specs.declared.identities.Who.{Who}
use Rattle.ckpt_machine.proofs.Whose.{put_who-cases}
use Rattle.ckpt_machine.proofs.Sync.{left_is}
use Rattle.ckpt_types.proofs.Lists.{slice_index-replicate}

-- ---- what counts up

-- one reference more
pub slice_index-one_more : (counts : List ℕ) (c d n : ℕ) → ((d : ℕ) → slice_index counts d ≤ n) → slice_index (slice_set counts c (slice_index counts c + 1)) d ≤ n + 1
slice_index-one_more [] c d n few = omega arith
slice_index-one_more (x ∷ xs) zero zero n few = let h : x ≤ n = few 0 in omega (arith, h)
slice_index-one_more (x ∷ xs) zero (suc d) n few = omega (arith, few (suc d))
slice_index-one_more (x ∷ xs) (suc c) zero n few = let h : x ≤ n = few 0 in omega (arith, h)
slice_index-one_more (x ∷ xs) (suc c) (suc d) n few = slice_index-one_more xs c d n (λ d. few (suc d))

-- a replica after a step of the record was there, or has no effects
pub replica_under-Some : (o : Option Entry) (before r : ℕ) (old : Option ReplicaState) (x : ReplicaState) → replica_under o before r old ≡ Some x → (old ≡ Some x) ⊎ (x.effects ≡ [])
replica_under-Some None before r old x e = absurd (cc e)
replica_under-Some (Some f) before r old x e =
    elim (slice_index f.complete r == 0) as (λ b. cond b None (cond (before == 0) (Some (opened_state f)) old) ≡ Some x → (old ≡ Some x) ⊎ (x.effects ≡ [])) [
      | true ↦ λ none. absurd (cc none)
      | false ↦ λ some. elim (before == 0) as (λ b. cond b (Some (opened_state f)) old ≡ Some x → (old ≡ Some x) ⊎ (x.effects ≡ [])) [
        | true ↦ λ new. inr (ap (λ (y : ReplicaState). y.effects) (sym (same_Some (opened_state f) x new)))
        | false ↦ λ same. inl same
      ] some
    ] e

-- a snapshot after it was there
snapshot_under-Some : (o : Option Entry) (was : Option Snapshot) (s : Snapshot) → snapshot_under o was ≡ Some s → was ≡ Some s
snapshot_under-Some None was s gone = absurd (cc gone)
snapshot_under-Some (Some e) was s is = is

-- after a step of the record
pub Counts-record : (m : Machine) (R : RecordState) (n : ℕ) → Counts m n → R.last_identity ≤ n + 1 → ((k : ℕ) (e : Entry) (c : ℕ) → entry_of k R.entries ≡ Some e → slice_index e.references c ≤ n + 1) → ((k : ℕ) (e : Entry) → entry_of k R.entries ≡ Some e → e.generation ≤ n + 1 + 1) → R.last_incarnations ≡ m.cluster.last_incarnations → Counts (with_record m R) (n + 1)
Counts-record m R n counts identity references generations lives = record {
  next = λ a. omega (arith, counts.next a);
  last_handles = λ c. omega (arith, counts.last_handles c);
  last_iterations = λ c. omega (arith, counts.last_iterations c);
  effects = λ k r x is. elim (replica_under-Some (entry_of k R.entries) (slice_index (complete_of (entry_of k m.cluster.entries)) r) r (m.replicas k r) x is) [
    | inl was ↦ omega (arith, counts.effects k r x was)
    | inr none ↦ omega (arith, ap length none)
  ];
  snapshots = λ k s is. omega (arith, counts.snapshots k s (snapshot_under-Some (entry_of k R.entries) (m.snapshots k) s is));
  copies = λ a s x held is. omega (arith, counts.copies a s x held is);
  identity = identity;
  generations = generations;
  references = references;
  incarnations = λ r. omega (arith, counts.incarnations r, ap (λ lives. slice_index lives r) lives);
}

-- one replica changed counts at most one effect more
pub Counts-replica : (m : Machine) (k r : ℕ) (x : ReplicaState) (n : ℕ) → Counts m n → length x.effects ≤ n + 1 → Counts (record m { replicas = put2 m.replicas k r (Some x) }) (n + 1)
Counts-replica m k r x n counts few = record {
  next = λ a. omega (arith, counts.next a);
  last_handles = λ c. omega (arith, counts.last_handles c);
  last_iterations = λ c. omega (arith, counts.last_iterations c);
  effects = λ j q y is. elim ((j == k) && (q == r)) as (λ b. cond b (Some x) (m.replicas j q) ≡ Some y → length y.effects ≤ n + 1) [
    | true ↦ λ here. subst (λ (z : ReplicaState). length z.effects ≤ n + 1) (same_Some x y here) few
    | false ↦ λ there. omega (arith, counts.effects j q y there)
  ] is;
  snapshots = λ j s is. omega (arith, counts.snapshots j s is);
  copies = λ a s x held is. omega (arith, counts.copies a s x held is);
  identity = omega arith;
  generations = λ j e is. omega (arith, counts.generations j e is);
  references = λ j e c is. omega (arith, counts.references j e c is);
  incarnations = λ q. omega (arith, counts.incarnations q);
}

-- one replica that counts no more
Counts-replaced : (m : Machine) (k r : ℕ) (x : ReplicaState) (n : ℕ) → Counts m n → length x.effects ≤ n → Counts (record m { replicas = put2 m.replicas k r (Some x) }) n
Counts-replaced m k r x n counts few = record {
  next = counts.next;
  last_handles = counts.last_handles;
  last_iterations = counts.last_iterations;
  effects = λ j q y is. elim ((j == k) && (q == r)) as (λ b. cond b (Some x) (m.replicas j q) ≡ Some y → length y.effects ≤ n) [
    | true ↦ λ here. subst (λ (z : ReplicaState). length z.effects ≤ n) (same_Some x y here) few
    | false ↦ λ there. counts.effects j q y there
  ] is;
  snapshots = counts.snapshots;
  copies = counts.copies;
  identity = counts.identity;
  generations = counts.generations;
  references = counts.references;
  incarnations = counts.incarnations;
}

-- so does one in place of which none is
Counts-removed : (m : Machine) (k r : ℕ) (n : ℕ) → Counts m n → Counts (record m { replicas = put2 m.replicas k r None }) n
Counts-removed m k r n counts = record {
  next = counts.next;
  last_handles = counts.last_handles;
  last_iterations = counts.last_iterations;
  effects = λ j q y is. elim ((j == k) && (q == r)) as (λ b. cond b None (m.replicas j q) ≡ Some y → length y.effects ≤ n) [
    | true ↦ λ here. absurd (cc here)
    | false ↦ λ there. counts.effects j q y there
  ] is;
  snapshots = counts.snapshots;
  copies = counts.copies;
  identity = counts.identity;
  generations = counts.generations;
  references = counts.references;
  incarnations = counts.incarnations;
}

-- nothing counts in the empty cluster
pub counts_empty : Counts empty_cluster 0
counts_empty = record {
  next = λ a. omega arith;
  last_handles = λ c. omega arith;
  last_iterations = λ c. omega arith;
  effects = λ k r x is. absurd (cc is);
  snapshots = λ k s is. absurd (cc is);
  copies = λ a s x held is. absurd (cc held);
  identity = omega arith;
  generations = λ k e is. absurd (cc is);
  references = λ k e c is. absurd (cc is);
  incarnations = λ r. omega (arith, slice_index-replicate 8 r);
}

-- ---- references

-- each entry has at most so many of each client
abbrev Few : ℕ → List Entry → Type 0
Few n entries = (k : ℕ) (e : Entry) (c : ℕ) → entry_of k entries ≡ Some e → slice_index e.references c ≤ n

-- and at most one generation more than this
abbrev Low : ℕ → List Entry → Type 0
Low n entries = (k : ℕ) (e : Entry) → entry_of k entries ≡ Some e → e.generation ≤ n + 1

-- at most one more of each client, and a generation that is at most one higher
record OneMore (e f : Entry) : Type 0 where
  few : (n : ℕ) → ((c : ℕ) → slice_index e.references c ≤ n) → (c : ℕ) → slice_index f.references c ≤ n + 1
  low : f.generation ≤ e.generation + 1

OneMore-same : (e : Entry) → OneMore e e
OneMore-same e = record { few = λ n few c. let a = few c in omega (arith, a); low = omega arith }

-- fewer of each client, of the same generation
OneMore-fewer : (e f : Entry) → ((c : ℕ) → slice_index f.references c ≤ slice_index e.references c) → f.generation ≡ e.generation → OneMore e f
OneMore-fewer e f fewer same = record { few = λ n few c. let a = few c in let b = fewer c in omega (arith, a, b); low = omega (arith, same) }

Few-of : (n : ℕ) (old new : List Entry) → ComesOf OneMore old new → Few n old → Few (n + 1) new
Few-of n old new comes few k f c found =
    let (e, was, more) = comes k f found in
    more.few n (λ d. few k e d was) c

Low-of : (n : ℕ) (old new : List Entry) → ComesOf OneMore old new → Low n old → Low (n + 1) new
Low-of n old new comes low k f found =
    let (e, was, more) = comes k f found in
    let a = low k e was in
    let b = more.low in
    omega (arith, a, b)

Few-filter : (n : ℕ) (p : Entry → Bool) (entries : List Entry) → IdentitiesRise entries → Few n entries → Few n (filter p entries)
Few-filter n p entries rises few k f c found =
    let (e, was, same) = ComesOf-filter (λ e f. e ≡ f) (λ e. refl) p entries rises k f found in
    subst (λ (x : Entry). slice_index x.references c ≤ n) same (few k e c was)

Low-filter : (n : ℕ) (p : Entry → Bool) (entries : List Entry) → IdentitiesRise entries → Low n entries → Low n (filter p entries)
Low-filter n p entries rises low k f found =
    let (e, was, same) = ComesOf-filter (λ e f. e ≡ f) (λ e. refl) p entries rises k f found in
    subst (λ (x : Entry). x.generation ≤ n + 1) same (low k e was)

-- one at a client replaced by no more
slice_index-less : (counts : List ℕ) (c d n : ℕ) → n ≤ slice_index counts c → slice_index (slice_set counts c n) d ≤ slice_index counts d
slice_index-less [] c d n less = omega arith
slice_index-less (x ∷ xs) zero zero n less = less
slice_index-less (x ∷ xs) zero (suc d) n less = omega arith
slice_index-less (x ∷ xs) (suc c) zero n less = omega arith
slice_index-less (x ∷ xs) (suc c) (suc d) n less = slice_index-less xs c d n less

-- where a client has no reference nothing goes, and a last close is no reference
left_fewer : (e : Entry) (t : ℤ) (references : List ℕ) → ((d : ℕ) → slice_index references d ≤ slice_index e.references d) → (none left : Bool)
    → OneMore e (cond none e (cond left (record e { references = references }) (record e { references = references; idle = t })))
left_fewer e t references fewer true left = OneMore-same e
left_fewer e t references fewer false true = OneMore-fewer e (record e { references = references }) fewer refl
left_fewer e t references fewer false false = OneMore-fewer e (record e { references = references; idle = t }) fewer refl

OneMore-released : (c : ℕ) (t : ℤ) (e : Entry) → OneMore e (unreferred c t e)
OneMore-released c t e = left_fewer e t (slice_set e.references c (slice_index e.references c - 1)) (λ d. slice_index-less e.references c d (slice_index e.references c - 1) (omega arith)) (slice_index e.references c == 0) (has_references (record e { references = slice_set e.references c (slice_index e.references c - 1) }))

OneMore-released_all : (c : ℕ) (t : ℤ) (e : Entry) → OneMore e (released_all c t e)
OneMore-released_all c t e = left_fewer e t (slice_set e.references c 0) (λ d. slice_index-less e.references c d 0 (omega arith)) (slice_index e.references c == 0) (has_references (record e { references = slice_set e.references c 0 }))

OneMore-referred : (c : ℕ) (e : Entry) → OneMore e (referred c e)
OneMore-referred c e = record { few = λ n few d. slice_index-one_more e.references c d n few; low = omega arith }

OneMore-opened : (opener : ℕ) (up : List ℕ) (c : ℕ) (e : Entry) → OneMore e (opened_with opener up c e)
OneMore-opened opener up c e = elim (adds e.attributes opener e.complete) as (λ b. OneMore e (referred c (cond b (record e { complete = slice_set e.complete opener (slice_index up opener) }) e))) [
  | true ↦ record { few = λ n few d. slice_index-one_more e.references c d n few; low = omega arith }
  | false ↦ OneMore-referred c e
]

OneMore-made : (opener : ℕ) (up : List ℕ) (c : ℕ) (e : Entry) → OneMore e (made_with opener up c e)
OneMore-made opener up c e = record { few = λ n few d. slice_index-one_more e.references c d n few; low = omega arith }

OneMore-held : (call : CallId) (e : Entry) → OneMore e (with_hold call e)
OneMore-held call e = elim (can_be_held e) as (λ b. OneMore e (cond b (record e { hold = Some call }) e)) [ true ↦ OneMore-fewer e (record e { hold = Some call }) (λ c. omega arith) refl | false ↦ OneMore-same e ]

OneMore-led : (r : ℕ) (e : Entry) → OneMore e (with_active r e)
OneMore-led r e = elim (can_lead r e) as (λ b. OneMore e (cond b (record e { active = Some r; generation = generation_under r e; hold = None }) e)) [
  | true ↦ record { few = λ n few c. let a = few c in omega (arith, a); low = elim (is_active e.active r) as (λ b. cond b e.generation (e.generation + 1) ≤ e.generation + 1) [ true ↦ omega arith | false ↦ omega arith ] }
  | false ↦ OneMore-same e
]

OneMore-completed : (r n : ℕ) (e : Entry) → OneMore e (completed_on r n e)
OneMore-completed r n e = elim (can_complete r n e) as (λ b. OneMore e (cond b (led_by_lowest (with_node r n e)) e)) [
  | true ↦ elim (is_all e.attributes) as (λ b. OneMore e (cond b (led_by (first_complete 0 (slice_set e.complete r n)) (with_node r n e)) (with_node r n e))) [
    | true ↦ led (first_complete 0 (slice_set e.complete r n))
    | false ↦ record { few = λ m few c. let a = few c in omega (arith, a); low = omega arith }
  ]
  | false ↦ OneMore-same e
]
  where
    led : (o : Option ℕ) → OneMore e (led_by o (with_node r n e))
    led None = record { few = λ m few c. let a = few c in omega (arith, a); low = omega arith }
    led (Some q) = record {
      few = λ m few c. let a = few c in omega (arith, a);
      low = elim (is_active e.active q) as (λ b. cond b e.generation (e.generation + 1) ≤ e.generation + 1) [ true ↦ omega arith | false ↦ omega arith ];
    }

-- ---- the record

-- at most one identity more is given, and at most one reference more of each client, no generation rises by more than one, and no node joins
record CountsOn (R S : RecordState) : Type 0 where
  rises : IdentitiesRise S.entries
  last : S.last_identity ≤ R.last_identity + 1
  few : (n : ℕ) → Few n R.entries → Few (n + 1) S.entries
  low : (n : ℕ) → Low n R.entries → Low (n + 1) S.entries
  lives : S.last_incarnations ≡ R.last_incarnations

CountsOn-swept : (R S : RecordState) → CountsOn R S → CountsOn R (swept S)
CountsOn-swept R S on = record { rises = IdentitiesRise-filter (stays S.moment) S.entries on.rises; last = on.last; few = λ n few. Few-filter (n + 1) (stays S.moment) S.entries on.rises (on.few n few); low = λ n low. Low-filter (n + 1) (stays S.moment) S.entries on.rises (on.low n low); lives = on.lives }

module _ (R : RecordState) (rises : IdentitiesRise R.entries) (up_to : AllUpTo R.last_identity R.entries) where
  same_on : CountsOn R R
  same_on = record { rises = rises; last = omega arith; few = λ n few k e c found. let a = few k e c found in omega (arith, a); low = λ n low k e found. let a = low k e found in omega (arith, a); lives = refl }

  changed_on : (k : ℕ) (f : Entry → Entry) → KeepsIdentity f → ((e : Entry) → OneMore e (f e)) → CountsOn R (record R { entries = change_key identity_of k f R.entries })
  changed_on k f keeps more = record {
    rises = IdentitiesRise-change_key f keeps k R.entries rises;
    last = omega arith;
    few = λ n few. Few-of n R.entries (change_key identity_of k f R.entries) (ComesOf-change_key OneMore OneMore-same f keeps more k R.entries) few;
    low = λ n low. Low-of n R.entries (change_key identity_of k f R.entries) (ComesOf-change_key OneMore OneMore-same f keeps more k R.entries) low;
    lives = refl;
  }

  filter_on : (p : Entry → Bool) → CountsOn R (record R { entries = filter p R.entries })
  filter_on p = record {
    rises = IdentitiesRise-filter p R.entries rises;
    last = omega arith;
    few = λ n few k e c found. let a = Few-filter n p R.entries rises few k e c found in omega (arith, a);
    low = λ n low k e found. let a = Low-filter n p R.entries rises low k e found in omega (arith, a);
    lives = refl;
  }

  departed_on : (c : ℕ) → CountsOn R (departed c R)
  departed_on c = record {
    rises = IdentitiesRise-map (released_all c R.moment) (released_all-identity c R.moment) (filter others R.entries) (IdentitiesRise-filter others R.entries rises);
    last = omega arith;
    few = λ n few. Few-of n (filter others R.entries) (departed c R).entries (ComesOf-map OneMore (released_all c R.moment) (released_all-identity c R.moment) (OneMore-released_all c R.moment) (filter others R.entries)) (Few-filter n others R.entries rises few);
    low = λ n low. Low-of n (filter others R.entries) (departed c R).entries (ComesOf-map OneMore (released_all c R.moment) (released_all-identity c R.moment) (OneMore-released_all c R.moment) (filter others R.entries)) (Low-filter n others R.entries rises low);
    lives = refl;
  }
    where
      others : Entry → Bool
      others e = not (is_call_of c e.making)

  -- an entry that is found was there, or is the new one
  found_push : (k : ℕ) (es : List Entry) (new e : Entry) → entry_of k (es ++ new ∷ []) ≡ Some e → (entry_of k es ≡ Some e) ⊎ (new ≡ e)
  found_push k [] new e found = elim (new.identity == k) as (λ b. cond b (Some new) None ≡ Some e → (entry_of k [] ≡ Some e) ⊎ (new ≡ e)) [ true ↦ λ here. inr (same_Some new e here) | false ↦ λ none. absurd (cc none) ] found
  found_push k (x ∷ xs) new e found = elim (x.identity == k) as (λ b. cond b (Some x) (entry_of k (xs ++ new ∷ [])) ≡ Some e → (cond b (Some x) (entry_of k xs) ≡ Some e) ⊎ (new ≡ e)) [
    | true ↦ λ here. inl here
    | false ↦ λ there. found_push k xs new e there
  ] found

  created_on : (call : CallId) (name : List ℕ) (a : Option CreationAttributes) → CountsOn R (created_as call name a R)
  created_on call name None = same_on
  created_on call name (Some a) = record {
    rises = IdentitiesRise-push R.last_identity R.entries (new_entry call name a R) rises up_to (omega arith);
    last = omega arith;
    few = λ n few k e c found. elim (found_push k R.entries (new_entry call name a R) e found) [
      | inl was ↦ (let a = few k e c was in omega (arith, a))
      | inr new ↦ subst (λ (x : Entry). slice_index x.references c ≤ n + 1) new (let none : slice_index (new_entry call name a R).references c ≡ 0 = slice_index-replicate 100 c in omega (arith, none))
    ];
    low = λ n low k e found. elim (found_push k R.entries (new_entry call name a R) e found) [
      | inl was ↦ (let a = low k e was in omega (arith, a))
      | inr new ↦ subst (λ (x : Entry). x.generation ≤ n + 1 + 1) new (omega arith)
    ];
    lives = refl;
  }

  created_for_on : (call : CallId) (ask : Ask) → CountsOn R (created_for call ask R)
  created_for_on call (asks.Open place name flags timeout a) = created_on call name a
  created_for_on call ask = same_on

  retained_for_on : (ask : Ask) (k : ℕ) → CountsOn R (retained_for ask k R)
  retained_for_on (asks.Retain place duration) k = changed_on k (retaining duration) (λ e. refl) (λ e. OneMore-fewer e (retaining duration e) (λ c. omega arith) refl)
  retained_for_on ask k = same_on

-- ---- a client's tables

-- at most one handle more is numbered, and one iteration
record CountsOne (t after_it : ClientState) : Type 0 where
  handles : after_it.last_number ≤ t.last_number + 1
  iterations : after_it.last_iteration ≤ t.last_iteration + 1

CountsOne-given : (ask : Ask) (k creation_flags : ℕ) (t : ClientState) → CountsOne t (handle_given ask k creation_flags t)
CountsOne-given (asks.Open place name flags (Some timeout) a) k creation_flags t = record { handles = omega arith; iterations = omega arith }
CountsOne-given (asks.Open place name flags None a) k creation_flags t = record { handles = omega arith; iterations = omega arith }
CountsOne-given ask k creation_flags t = record { handles = omega arith; iterations = omega arith }

CountsOne-registering : (ask : Ask) (t : ClientState) → CountsOne t (registering ask t)
CountsOne-registering (asks.Enter r version callbacks) t = record { handles = omega arith; iterations = omega arith }
CountsOne-registering ask t = record { handles = omega arith; iterations = omega arith }

CountsOne-with_iteration : (iteration : ℕ) (h : Option HandleView) (kept : KeptIds) (t : ClientState) → CountsOne t (with_iteration iteration h kept t)
CountsOne-with_iteration iteration None kept t = record { handles = omega arith; iterations = omega arith }
CountsOne-with_iteration iteration (Some h) kept t = record { handles = omega arith; iterations = omega arith }

CountsOne-started : (ask : Ask) (room : Room) (chosen_by : Choice → List (List ℕ)) (t : ClientState) → CountsOne t (started ask room chosen_by t)
CountsOne-started (asks.Iterate iteration place chosen time) room chosen_by t = CountsOne-with_iteration iteration _ _ t
CountsOne-started ask room chosen_by t = record { handles = omega arith; iterations = omega arith }

CountsOne-with_next : (iteration : ℕ) (kept : Option KeptIds) (next : Option NextGiven) (t : ClientState) → CountsOne t (with_next iteration kept next t)
CountsOne-with_next iteration (Some kept) (Some next) t = record { handles = omega arith; iterations = omega arith }
CountsOne-with_next iteration kept next t = record { handles = omega arith; iterations = omega arith }

CountsOne-gone_on : (ask : Ask) (next : Option NextGiven) (t : ClientState) → CountsOne t (gone_on ask next t)
CountsOne-gone_on (asks.Next iteration) next t = CountsOne-with_next iteration _ next t
CountsOne-gone_on ask next t = record { handles = omega arith; iterations = omega arith }

CountsOne-closing : (ask : Ask) (t : ClientState) → CountsOne t (closing ask t)
CountsOne-closing (asks.Close place) t = record { handles = omega arith; iterations = omega arith }
CountsOne-closing ask t = record { handles = omega arith; iterations = omega arith }

-- callbacks number none
abbrev NumbersSame : ClientState → ClientState → Type 0
NumbersSame t after_it = (after_it.last_number ≡ t.last_number) × (after_it.last_iteration ≡ t.last_iteration)

place_numbers : (call : EndedCall) (t : ClientState) → NumbersSame t (place_set call t)
place_numbers call t = by_kind call.asked.kind
  where
    by_open : (b : Bool) (place : ℕ) → NumbersSame t (cond b (bound place call.asked.handle t) t)
    by_open true place = (refl, refl)
    by_open false place = (refl, refl)

    by_kind : (kind : AsyncKind) → NumbersSame t (place_set (record call { asked = record call.asked { kind = kind } }) t)
    by_kind (kinds.Open place) = by_open (can_stand_for place call.asked.handle t) place
    by_kind kinds.Sync = (refl, refl)

places_numbers : (calls : List EndedCall) (t : ClientState) → NumbersSame t (places_set calls t)
places_numbers [] t = (refl, refl)
places_numbers (call ∷ calls) t =
    let first = place_numbers call t in
    let rest = places_numbers calls (place_set call t) in
    (rest.0 ∙ first.0, rest.1 ∙ first.1)

CountsOne-ended_at_once : (end : Option Outcome) (ask : Ask) (p : PendingCalls) (t : ClientState) → CountsOne t (ended_at_once end ask p t)
CountsOne-ended_at_once (Some (outcomes.Done answer)) (asks.EndIteration iteration) p t = record { handles = omega arith; iterations = omega arith }
CountsOne-ended_at_once (Some (outcomes.Done answer)) (asks.Dispatch flags) p t =
    let (handles, iterations) = places_numbers (given_by flags p) t in
    record { handles = omega (arith, handles); iterations = omega (arith, iterations) }
CountsOne-ended_at_once end ask p t = record { handles = omega arith; iterations = omega arith }

-- ---- the machine

-- other calls in hand, whose snapshots have no more
Counts-in_hand : (m : Machine) (f : Who → Option CallState) (n : ℕ) → Counts m n → ((a : Who) (s : CallState) (x : Snapshot) → f a ≡ Some s → s.snapshot ≡ Some x → length x.effects ≤ n) → Counts (record m { in_hand = f }) n
Counts-in_hand m f n counts few = record { copies = few; next = counts.next; last_handles = counts.last_handles; last_iterations = counts.last_iterations; effects = counts.effects; snapshots = counts.snapshots; identity = counts.identity; generations = counts.generations; references = counts.references; incarnations = counts.incarnations }

-- other calls that are not dispatched
Counts-pending : (m : Machine) (a : ActorName) (change : PendingCalls → PendingCalls) (n : ℕ) → Counts m n → Counts (with_pending a change m) n
Counts-pending m a change n counts = record { next = counts.next; last_handles = counts.last_handles; last_iterations = counts.last_iterations; effects = counts.effects; snapshots = counts.snapshots; copies = counts.copies; identity = counts.identity; generations = counts.generations; references = counts.references; incarnations = counts.incarnations }

-- some calls are in hand no more
Counts-dropped : (m : Machine) (drops : Who → Bool) (n : ℕ) → Counts m n → Counts (record m { in_hand = λ w. if drops w then None else m.in_hand w }) n
Counts-dropped m drops n counts = Counts-in_hand m (λ w. if drops w then None else m.in_hand w) n counts (λ w s x held is. counts.copies w s x (left_was (drops w) (m.in_hand w) s held) is)

module _ (m : Machine) (n : ℕ) (counts : Counts m n) where
  more : Counts m (n + 1)
  more = record {
    next = λ a. omega (arith, counts.next a);
    last_handles = λ c. omega (arith, counts.last_handles c);
    last_iterations = λ c. omega (arith, counts.last_iterations c);
    effects = λ k r x is. omega (arith, counts.effects k r x is);
    snapshots = λ k s is. omega (arith, counts.snapshots k s is);
    copies = λ a s x held is. omega (arith, counts.copies a s x held is);
    identity = omega arith;
    generations = λ k e is. omega (arith, counts.generations k e is);
    references = λ k e c is. omega (arith, counts.references k e c is);
    incarnations = λ r. omega (arith, counts.incarnations r);
  }

  on_record : (R : RecordState) → CountsOn m.cluster R → Counts (with_record m R) (n + 1)
  on_record R on = Counts-record m R n counts (let a = on.last in let b = counts.identity in omega (arith, a, b)) (on.few n counts.references) (on.low n counts.generations) on.lives

  on_step : (step : RecordState → RecordState) → CountsOn m.cluster (step m.cluster) → Counts (record_step step m) (n + 1)
  on_step step on = on_record (swept (step m.cluster)) (CountsOn-swept m.cluster (step m.cluster) on)

  -- the tables of one actor, which are as they were before it
  tables_on : (then_machine : Machine) → Counts then_machine (n + 1) → (a : ActorName) (change : ClientState → ClientState) → CountsOne (m.tables a) (change (then_machine.tables a)) → Counts (with_tables a change then_machine) (n + 1)
  tables_on then_machine on a change one = record {
    next = on.next;
    last_handles = λ b. elim (same_actor b a) as (λ t. (cond t (change (then_machine.tables a)) (then_machine.tables b)).last_number ≤ n + 1) [ true ↦ omega (arith, one.handles, counts.last_handles a) | false ↦ on.last_handles b ];
    last_iterations = λ b. elim (same_actor b a) as (λ t. (cond t (change (then_machine.tables a)) (then_machine.tables b)).last_iteration ≤ n + 1) [ true ↦ omega (arith, one.iterations, counts.last_iterations a) | false ↦ on.last_iterations b ];
    effects = on.effects;
    snapshots = on.snapshots;
    copies = on.copies;
    identity = on.identity;
    generations = on.generations;
    references = on.references;
    incarnations = on.incarnations;
  }

  -- one replica changed
  replica_on : (k r : ℕ) (o : Option ReplicaState) → m.replicas k r ≡ o → (change : ReplicaState → ReplicaState) → ((x : ReplicaState) → length (change x).effects ≤ length x.effects + 1) → Counts (change_replica m k r o change) (n + 1)
  replica_on k r None there change few = more
  replica_on k r (Some x) there change few = Counts-replica m k r (change x) n counts (let a = few x in let b = counts.effects k r x there in omega (arith, a, b))

  -- a pull takes a copy of a replica
  pulled_on : (k : ℕ) (reply : PullReply) (o : Option ReplicaState) → source_at m k ≡ o → Counts (with_pulled m k reply o) (n + 1)
  pulled_on k (pulls.Ok count) (Some x) is = record {
    next = more.next;
    last_handles = more.last_handles;
    last_iterations = more.last_iterations;
    effects = more.effects;
    snapshots = λ j s at. elim (j == k) as (λ b. cond b (Some (copied x)) (m.snapshots j) ≡ Some s → length s.effects ≤ n + 1) [
      | true ↦ λ here. subst (λ (z : Snapshot). length z.effects ≤ n + 1) (same_Some (copied x) s here) (let (r, there) = source_there m k x is in more.effects k r x there)
      | false ↦ λ there. more.snapshots j s there
    ] at;
    copies = more.copies;
    identity = more.identity;
    generations = more.generations;
    references = more.references;
    incarnations = more.incarnations;
  }
  pulled_on k reply o is = more

  -- an installation gives a replica what a snapshot in hand has
  installed_on : (a : Who) (s : CallState) → m.in_hand a ≡ Some s → (k r : ℕ) (x : Option ReplicaState) → m.replicas k r ≡ x → Counts (change_replica m k r x (with_installed s.snapshot)) (n + 1)
  installed_on a s held k r None there = more
  installed_on a s held k r (Some x) there = by_snapshot s.snapshot refl
    where
      by_snapshot : (o : Option Snapshot) → s.snapshot ≡ o → Counts (change_replica m k r (Some x) (with_installed o)) (n + 1)
      by_snapshot None none = Counts-replica m k r x n counts (more.effects k r x there)
      by_snapshot (Some p) is = Counts-replica m k r (replica_from p x) n counts (more.copies a s p held is)

  -- so does one that leads from then on, of the record after a step
  led_on : (a : Who) (s : CallState) → m.in_hand a ≡ Some s → (b : Machine) → Counts b (n + 1) → (k r generation : ℕ) (x : Option ReplicaState) → b.replicas k r ≡ x → Counts (change_replica b k r x (with_lead s.snapshot generation)) (n + 1)
  led_on a s held b on k r generation None there = on
  led_on a s held b on k r generation (Some x) there = by_snapshot s.snapshot refl
    where
      by_snapshot : (o : Option Snapshot) → s.snapshot ≡ o → Counts (change_replica b k r (Some x) (with_lead o generation)) (n + 1)
      by_snapshot None none = Counts-replaced b k r (with_lead None generation x) (n + 1) on (on.effects k r x there)
      by_snapshot (Some p) is = Counts-replaced b k r (with_lead (Some p) generation x) (n + 1) on (more.copies a s p held is)

  -- so does one that is completed with what is in a hand, on a node that the record behind a step has complete
  copied_on : (a : Who) (s : CallState) → m.in_hand a ≡ Some s → (b : Machine) → Counts b (n + 1) → (k r : ℕ) (t : ℤ) → Counts (with_replica_copied s k r t b) (n + 1)
  copied_on a s held b on k r t = by_both (entry_of k b.cluster.entries) s.snapshot refl
    where
      by_both : (o : Option Entry) (p : Option Snapshot) → s.snapshot ≡ p → Counts (record b { replicas = put2 b.replicas k r (replica_copied s.call t o p) }) (n + 1)
      by_both None p is = Counts-removed b k r (n + 1) on
      by_both (Some e) None is = Counts-removed b k r (n + 1) on
      by_both (Some e) (Some p) is = Counts-replaced b k r _ (n + 1) on (more.copies a s p held is)

  -- a copy of a replica has no more than that
  copy_few : (k r : ℕ) (x : Snapshot) (o : Option ReplicaState) → m.replicas k r ≡ o → option_map copied o ≡ Some x → length x.effects ≤ n
  copy_few k r x None none gone = absurd (cc gone)
  copy_few k r x (Some y) there same = subst (λ (z : Snapshot). length z.effects ≤ n) (same_Some (copied y) x same) (counts.effects k r y there)

  -- what a call has in its hand behind a step is what it had, or a copy of a replica
  pulled_few : (a : Who) (s : CallState) → m.in_hand a ≡ Some s → (verb : Verb) (k r : Option ℕ) (reply : StepReply) (x : Snapshot) → pulled_by m s verb k r reply ≡ Some x → length x.effects ≤ n
  pulled_few a s held verbs.Pull (Some k) (Some r) words.Ok x is = copy_few k r x (m.replicas k r) refl is
  pulled_few a s held verbs.Hold (Some k) (Some r) words.Ok x is = copy_few k r x (m.replicas k r) refl is
  pulled_few a s held verbs.Reserve k r words.Ok x is = absurd (cc is)
  pulled_few a s held verb k r reply x is = counts.copies a s x held is

  -- and a put gives a replica what a snapshot has
  put_on : (k r : ℕ) (reply : PutReply) (o : Option Snapshot) (x : Option ReplicaState) → m.snapshots k ≡ o → Counts (with_put m k r reply o x) (n + 1)
  put_on k r (puts.Ok count) (Some s) (Some x) is = Counts-replica m k r (replica_from s x) n counts (more.snapshots k s is)
  put_on k r reply o x is = more

  -- what is done on OK alone, and at a checkpoint and a node that are named
  ok_on : (reply : StepReply) (after_it : Machine) → Counts after_it (n + 1) → Counts (on_ok reply m after_it) (n + 1)
  ok_on words.Ok after_it on = on
  ok_on reply after_it on = more

  -- what a look changes, by its reply
  looked_on : (reply : StepReply) (done refused : Machine) → Counts done (n + 1) → Counts refused (n + 1) → Counts (on_look reply m done refused) (n + 1)
  looked_on words.Done done refused on_done on_refused = on_done
  looked_on words.Refused done refused on_done on_refused = on_refused
  looked_on reply done refused on_done on_refused = more

  undone_on : IdentitiesRise m.cluster.entries → AllUpTo m.cluster.last_identity m.cluster.entries → (k : ℕ) → Counts (record_step (undone k) m) (n + 1)
  undone_on rises up_to k = on_step (undone k) (filter_on m.cluster rises up_to (λ e. not (e.identity == k)))

  without_making_on : IdentitiesRise m.cluster.entries → AllUpTo m.cluster.last_identity m.cluster.entries → (k : Option ℕ) → Counts (without_making k m) (n + 1)
  without_making_on rises up_to None = more
  without_making_on rises up_to (Some k) = undone_on rises up_to k

  some_on : (k : Option ℕ) (change : ℕ → Machine) → ((k : ℕ) → Counts (change k) (n + 1)) → Counts (at_some k m change) (n + 1)
  some_on None change on = more
  some_on (Some k) change on = on k

  both_on : (k r : Option ℕ) (change : ℕ → ℕ → Machine) → ((k r : ℕ) → Counts (change k r) (n + 1)) → Counts (at_some k m (λ k. at_some r m (change k))) (n + 1)
  both_on k r change on = some_on k _ (λ k. some_on r (change k) (on k))

-- a commit takes one effect more
committed_few : (e : Option Entry) (x : ReplicaState) → length (with_committed e x).effects ≤ length x.effects + 1
committed_few None x = omega arith
committed_few (Some e) x = by_slot x.slot
  where
    by_slot : (o : Option Staged) → length (committed_slot e.attributes x o).effects ≤ length x.effects + 1
    by_slot None = omega arith
    by_slot (Some slot) = let a = length_push x.effects (effect_of slot) in omega (arith, a)

-- and so does an update in one step
applied_few : (e : Option Entry) (call : CallId) (update : Update) (t : ℤ) (x : ReplicaState) → length (with_applied call update t e x).effects ≤ length x.effects + 1
applied_few None call update t x = omega arith
applied_few (Some e) call update t x = let a = length_push x.effects (Applied call update t) in omega (arith, a)

-- and so does the end of a weak write, whose elements take none
unmarked_few : (x : ReplicaState) → length (without_marks x).effects ≤ length x.effects + 1
unmarked_few x = by_marks x.marks
  where
    by_marks : (o : Option Marked) → length (marks_ended x o).effects ≤ length x.effects + 1
    by_marks None = omega arith
    by_marks (Some marked) = let a = length_push x.effects (Applied marked.call marked.update marked.moment) in omega (arith, a)

-- a step counts up by at most one
module _ (m : Machine) (n : ℕ) (rises : IdentitiesRise m.cluster.entries) (up_to : AllUpTo m.cluster.last_identity m.cluster.entries) (counts : Counts m n) (s : CallState) (held : m.in_hand (who s) ≡ Some s) where
  -- one entry is changed
  abbrev changing : ℕ → (Entry → Entry) → RecordState → RecordState
  changing k f R = record R { entries = change_key identity_of k f R.entries }

  entry_changed : (k : ℕ) (f : Entry → Entry) → KeepsIdentity f → ((e : Entry) → OneMore e (f e)) → Counts (record_step (changing k f) m) (n + 1)
  entry_changed k f keeps more = on_step m n counts (changing k f) (changed_on m.cluster rises up_to k f keeps more)

  -- and the opener has a handle of it
  entry_given : (k : ℕ) (f : Entry → Entry) → KeepsIdentity f → ((e : Entry) → OneMore e (f e)) → Counts (with_given s k (record_step (changing k f) m)) (n + 1)
  entry_given k f keeps more =
      let then_machine = record_step (changing k f) m in
      tables_on m n counts then_machine (entry_changed k f keeps more) s.call.actor (handle_given (asked s.op) k (creation_flags_of (entry_of k then_machine.cluster.entries))) (CountsOne-given (asked s.op) k (creation_flags_of (entry_of k then_machine.cluster.entries)) (m.tables s.call.actor))

  -- an iteration is started, or goes on
  started_counts : (k r : ℕ) → Counts (with_started s k r m) (n + 1)
  started_counts k r =
      let chosen_by : Choice → List (List ℕ) = λ choice. chosen_at choice m.cluster.moment (seen_at m k r) in
      tables_on m n counts m (more m n counts) s.call.actor (started (asked s.op) s.kept.room chosen_by) (CountsOne-started (asked s.op) s.kept.room chosen_by (m.tables s.call.actor))

  gone_on_counts : (k r : ℕ) → Counts (with_gone_on s k r m) (n + 1)
  gone_on_counts k r =
      let next = given_at (ids_asked m s) m.cluster.moment (seen_at m k r) in
      tables_on m n counts m (more m n counts) s.call.actor (gone_on (asked s.op) next) (CountsOne-gone_on (asked s.op) next (m.tables s.call.actor))

  -- a handle ends, with the synchronisations over it
  closed_counts : (then_machine : Machine) → Counts then_machine (n + 1) → then_machine.tables s.call.actor ≡ m.tables s.call.actor → Counts (with_closed s then_machine) (n + 1)
  closed_counts then_machine on same =
      let a = s.call.actor in
      let handle = handle_closed (asked s.op) (then_machine.tables a) in
      let dropped = Counts-dropped then_machine (goes_with handle a (then_machine.pending a)) (n + 1) on in
      tables_on m n counts (without_syncs handle a then_machine) (Counts-pending _ a (left_over handle) (n + 1) dropped) a (closing (asked s.op)) (subst (λ t. CountsOne (m.tables a) (closing (asked s.op) t)) (sym same) (CountsOne-closing (asked s.op) (m.tables a)))

  changed_counts : (verb : Verb) (k r : Option ℕ) (reply : StepReply) → Counts (changed m s verb k r reply) (n + 1)
  changed_counts verbs.Enter k r reply = ok_on m n counts reply _ (some_on m n counts r _ (λ r. tables_on m n counts _ (on_step m n counts (entered (client_of s.call) r s.call.number) (record { rises = rises; last = omega arith; few = (same_on m.cluster rises up_to).few; low = (same_on m.cluster rises up_to).low; lives = refl })) s.call.actor (registering (asked s.op)) (CountsOne-registering (asked s.op) (m.tables s.call.actor))))
  changed_counts verbs.Leave k r reply = ok_on m n counts reply _ (Counts-pending _ s.call.actor (λ p. no_pending) (n + 1) (Counts-dropped _ (is_of s.call.actor) (n + 1) (tables_on m n counts _ (on_step m n counts (departed (client_of s.call)) (departed_on m.cluster rises up_to (client_of s.call))) s.call.actor emptied (record { handles = omega arith; iterations = omega arith }))))
  changed_counts verbs.Create k r reply = ok_on m n counts reply _ (on_step m n counts (created_for s.call (asked s.op)) (created_for_on m.cluster rises up_to s.call (asked s.op)))
  changed_counts verbs.Reserve k r reply = ok_on m n counts reply _ (both_on m n counts k r _ (λ k r. let c = more m n counts in record { next = c.next; last_handles = c.last_handles; last_iterations = c.last_iterations; effects = c.effects; snapshots = c.snapshots; copies = c.copies; identity = c.identity; generations = c.generations; references = c.references; incarnations = c.incarnations }))
  changed_counts verbs.Finish k r reply = ok_on m n counts reply _ (some_on m n counts k _ (λ k. entry_given k (made_with (home_of (client_of s.call) m.cluster) m.cluster.up (client_of s.call)) (λ e. refl) (OneMore-made (home_of (client_of s.call) m.cluster) m.cluster.up (client_of s.call))))
  changed_counts verbs.Undo k r reply = ok_on m n counts reply _ (some_on m n counts k _ (undone_on m n counts rises up_to))
  changed_counts verbs.Open k r reply = ok_on m n counts reply _ (some_on m n counts k _ (λ k. entry_given k (opened_with (home_of (client_of s.call) m.cluster) m.cluster.up (client_of s.call)) (opened_with-identity (home_of (client_of s.call) m.cluster) m.cluster.up (client_of s.call)) (OneMore-opened (home_of (client_of s.call) m.cluster) m.cluster.up (client_of s.call))))
  changed_counts verbs.Close k r reply = ok_on m n counts reply _ (some_on m n counts k _ (λ k. closed_counts _ (entry_changed k (unreferred (client_of s.call) m.cluster.moment) (released-identity (client_of s.call) m.cluster.moment) (OneMore-released (client_of s.call) m.cluster.moment)) refl))
  changed_counts verbs.Unlink k r reply = ok_on m n counts reply _ (some_on m n counts k _ (λ k. entry_changed k unnamed (λ e. refl) (λ e. OneMore-fewer e (unnamed e) (λ c. omega arith) refl)))
  changed_counts verbs.Retain k r reply = ok_on m n counts reply _ (some_on m n counts k _ (λ k. on_step m n counts (retained_for (asked s.op) k) (retained_for_on m.cluster rises up_to (asked s.op) k)))
  changed_counts verbs.Stage k r reply = ok_on m n counts reply _ (both_on m n counts k r _ (λ k r. replica_on m n counts k r (m.replicas k r) refl _ (λ x. omega arith)))
  changed_counts verbs.Claim k r reply = ok_on m n counts reply _ (both_on m n counts k r _ (λ k r. replica_on m n counts k r (m.replicas k r) refl _ (λ x. omega arith)))
  changed_counts verbs.Withdraw k r reply = ok_on m n counts reply _ (both_on m n counts k r _ (λ k r. replica_on m n counts k r (m.replicas k r) refl _ (λ x. omega arith)))
  changed_counts verbs.Commit k r reply = ok_on m n counts reply _ (both_on m n counts k r _ (λ k r. replica_on m n counts k r (m.replicas k r) refl _ (committed_few (entry_of k m.cluster.entries))))
  changed_counts verbs.Apply k r reply = ok_on m n counts reply _ (both_on m n counts k r _ (λ k r. replica_on m n counts k r (m.replicas k r) refl _ (applied_few (entry_of k m.cluster.entries) s.call (update_of s.op) m.cluster.moment)))
  changed_counts verbs.Mark k r reply = ok_on m n counts reply _ (both_on m n counts k r _ (λ k r. replica_on m n counts k r (m.replicas k r) refl (with_marks s.call (update_of s.op) m.cluster.moment) (λ x. omega arith)))
  changed_counts verbs.Element k r reply = ok_on m n counts reply _ (both_on m n counts k r _ (λ k r. replica_on m n counts k r (m.replicas k r) refl _ (λ x. let same = ap length (element_effects (entry_of k m.cluster.entries) x) in omega (arith, same))))
  changed_counts verbs.Unmark k r reply = ok_on m n counts reply _ (both_on m n counts k r _ (λ k r. replica_on m n counts k r (m.replicas k r) refl _ unmarked_few))
  changed_counts verbs.Install k r reply = ok_on m n counts reply _ (both_on m n counts k r _ (λ k r. installed_on m n counts (who s) s held k r (m.replicas k r) refl))
  changed_counts verbs.Hold k r reply = ok_on m n counts reply _ (some_on m n counts k _ (λ k. entry_changed k (with_hold s.call) (with_hold-identity s.call) (OneMore-held s.call)))
  changed_counts verbs.Activate k r reply = ok_on m n counts reply _ (both_on m n counts k r _ (λ k r.
      let b = record_step (active_set k r) m in
      led_on m n counts (who s) s held b (entry_changed k (with_active r) (with_active-identity r) (OneMore-led r)) k r (generation_in (entry_of k b.cluster.entries)) (b.replicas k r) refl))
  changed_counts verbs.Iter k r reply = ok_on m n counts reply _ (both_on m n counts k r _ started_counts)
  changed_counts verbs.Next k r reply = ok_on m n counts reply _ (both_on m n counts k r _ gone_on_counts)
  changed_counts verbs.Complete k r reply = ok_on m n counts reply _ (both_on m n counts k r _ (λ k r.
      let n' = slice_index m.cluster.up r in
      copied_on m n counts (who s) s held (record_step (completed k r) m) (entry_changed k (completed_on r n') (completed_on-keeps r n').1 (OneMore-completed r n')) k r (staged_moment m k)))
  changed_counts verbs.Look k r reply =
      looked_on m n counts reply _ _ (closed_counts m (more m n counts) refl) (without_making_on m n counts rises up_to (making_of s.call m.cluster))
  changed_counts verb k r reply = more m n counts

-- a beginning counts one number on
begun_counts : (m : Machine) (call : CallId) (op : Op) (end : Option Outcome) (n : ℕ) → Counts m n → Counts (after_beginning m call op end) (n + 1)
begun_counts m call op end n counts = tables_on m n counts (begun_call m call op end) (record {
  next = λ a. elim (same_actor a call.actor) as (λ b. cond b (m.next call.actor + 1) (m.next a) ≤ n + 1 + 1) [ true ↦ omega (arith, counts.next call.actor) | false ↦ omega (arith, counts.next a) ];
  last_handles = λ a. omega (arith, counts.last_handles a);
  last_iterations = λ a. omega (arith, counts.last_iterations a);
  effects = λ k r x is. omega (arith, counts.effects k r x is);
  snapshots = λ k s is. omega (arith, counts.snapshots k s is);
  copies = λ a s x held is. elim (put_who-cases m.in_hand (stepped_as call (word_of_op op)) (call_begun end call op (first_kept m call op)) a s held) [
    | inl own ↦ (
        let (driver, starts, same) = begun_as end call op (first_kept m call op) s own.1 in
        absurd (let w : None ≡ Some x = ap (λ (z : CallState). z.snapshot) same ∙ is in cc w))
    | inr other ↦ omega (arith, counts.copies a s x other.1 is)
  ];
  identity = omega arith;
  generations = λ k e is. omega (arith, counts.generations k e is);
  references = λ k e c is. omega (arith, counts.references k e c is);
  incarnations = λ r. omega (arith, counts.incarnations r);
}) call.actor (ended_at_once end (asked op) (m.pending call.actor)) (CountsOne-ended_at_once end (asked op) (m.pending call.actor) (m.tables call.actor))

-- ---- the failure of a node

-- it gives a replica one effect more at most
broken_counts : (R : RecordState) (o : Option Entry) (q : ℕ) (x : ReplicaState) (marks : Option Marked) → length (made_present o q (broken_unless R marks x)).effects ≤ length x.effects + 1
broken_counts R o q x marks = by_entry o
  where
    by_live : (marked : Marked) (b : Bool) → length (cond b x (broken marked x)).effects ≤ length x.effects + 1
    by_live marked true = omega arith
    by_live marked false = let more = length_push x.effects (Broken marked.call marked.update marked.moment marked.done) in omega (arith, more)

    by_marks : (marks : Option Marked) → length (broken_unless R marks x).effects ≤ length x.effects + 1
    by_marks None = omega arith
    by_marks (Some marked) = by_live marked (is_live R marked.call)

    by_entry : (o : Option Entry) → length (made_present o q (broken_unless R marks x)).effects ≤ length x.effects + 1
    by_entry None = by_marks marks
    by_entry (Some e) = elim (is_active e.active q) as (λ b. length (cond b (record (broken_unless R marks x) { generation = e.generation }) (broken_unless R marks x)).effects ≤ length x.effects + 1) [ true ↦ by_marks marks | false ↦ by_marks marks ]

module _ (m : Machine) (n : ℕ) (inv : Invariant m) (few : Counts m n) (r : ℕ) where
  -- the record behind it
  abbrev R : RecordState
  R = record_failed m r

  -- whether a client goes with the node or not
  tables_count : (P : ClientState → Type 0) (a : ActorName) → P (m.tables a) → P (emptied (m.tables a)) → P ((failed_at r m).tables a)
  tables_count P a stays goes = elim (is_of_node m.cluster r a) as (λ b. P (cond b (emptied (m.tables a)) (m.tables a))) [ true ↦ goes | false ↦ stays ]

  effects_count : (k q : ℕ) (y : ReplicaState) → (failed_at r m).replicas k q ≡ Some y → length y.effects ≤ n + 1
  effects_count k q y is = by_under (replicas_under m.cluster R m.replicas k q) refl is
    where
      of_it : (x : ReplicaState) → length x.effects ≤ n → replica_left R k q x ≡ y → length y.effects ≤ n + 1
      of_it x most same = subst (λ (y : ReplicaState). length y.effects ≤ n + 1) same (let a = broken_counts R (entry_of k R.entries) q x x.marks in omega (arith, a, most))

      by_under : (o : Option ReplicaState) → replicas_under m.cluster R m.replicas k q ≡ o → option_map (replica_left R k q) o ≡ Some y → length y.effects ≤ n + 1
      by_under None none gone = absurd (cc gone)
      by_under (Some x) under some = elim (replica_under-Some (entry_of k R.entries) (slice_index (complete_of (entry_of k m.cluster.entries)) q) q (m.replicas k q) x under) [
        | inl was ↦ of_it x (few.effects k q x was) (same_Some (replica_left R k q x) y some)
        | inr none ↦ of_it x (let empty : length x.effects ≡ 0 = ap length none in omega (arith, empty)) (same_Some (replica_left R k q x) y some)
      ]

  -- it counts no more than a label may
  pub failed_counts : Counts (failed_at r m) (n + 1)
  failed_counts = record {
    next = λ a. omega (arith, few.next a);
    last_handles = λ a. tables_count (λ t. t.last_number ≤ n + 1) a (omega (arith, few.last_handles a)) (omega (arith, few.last_handles a));
    last_iterations = λ a. tables_count (λ t. t.last_iteration ≤ n + 1) a (omega (arith, few.last_iterations a)) (omega (arith, few.last_iterations a));
    effects = effects_count;
    snapshots = λ k s is. omega (arith, few.snapshots k s (snapshot_under-Some (entry_of k R.entries) (m.snapshots k) s is));
    copies = λ w s x held is. omega (arith, few.copies w s x (left_was_in_hand m inv.shapes inv.holds r w s held).0 is);
    identity = omega (arith, few.identity);
    generations = λ k f found. (
        let it = was_entry m inv.shapes inv.holds r k f found in
        let a = failed_at_most (λ q. count_in (m.replicas it.e.identity q)) (goes_with_node m.cluster r) r it.e f it.left in
        let b = few.generations k it.e it.was in
        omega (arith, a, b));
    references = λ k f c found. (
        let it = was_entry m inv.shapes inv.holds r k f found in
        let a = it.left.fewer c in
        let b = few.references k it.e c it.was in
        omega (arith, a, b));
    incarnations = λ q. omega (arith, few.incarnations q);
  }

-- ---- the lives of nodes

-- a node that joins is in its next one
joined_counts : (m : Machine) (n : ℕ) (r : ℕ) → Counts m n → Counts (joined_at r m) (n + 1)
joined_counts m n r few = let c = more m n few in record {
  next = c.next;
  last_handles = c.last_handles;
  last_iterations = c.last_iterations;
  effects = c.effects;
  snapshots = c.snapshots;
  copies = c.copies;
  identity = c.identity;
  generations = c.generations;
  references = c.references;
  incarnations = λ q. slice_index-one_more m.cluster.last_incarnations r q n few.incarnations;
}

-- ---- any label

pub counts_up : CountsUp
counts_up m (labels.Began call op end details) n inv is few = begun_counts m call op end n few
counts_up m (labels.Stepped call op verb k r reply end details) n inv is few =
    let s = is.state in
    let held : m.in_hand (who s) ≡ Some s = held_as m call op s is.in_hand is.call_is is.word in
    let behind = changed m s verb k r reply in
    let on = changed_counts m n inv.holds.rises inv.holds.up_to few s held verb k r reply in
    subst (λ o. Counts (step_of m o verb k r reply end) (n + 1)) (sym is.in_hand)
    (Counts-pending (left_in_hand behind (kept_behind m s behind.cluster verb k r reply) end) s.call.actor (ended_calls s end (behind.tables s.call.actor)) (n + 1) (Counts-in_hand behind _ (n + 1) on (λ a z x in_hand has. elim (put_who-cases behind.in_hand (who s) (left end (kept_behind m s behind.cluster verb k r reply)) a z in_hand) [
      | inl own ↦ (
          let same = left_is end (kept_behind m s behind.cluster verb k r reply) z own.1 in
          let a = pulled_few m n few (who s) s held verb k r reply x (ap (λ (z : CallState). z.snapshot) same ∙ has) in
          omega (arith, a))
      | inr other ↦ on.copies a z x other.1 has
    ])))
counts_up m (labels.Word by word said) n inv is few = more m n few
counts_up m (labels.Nodes nodes) n inv is few = let c = more m n few in record { next = c.next; last_handles = c.last_handles; last_iterations = c.last_iterations; effects = c.effects; snapshots = c.snapshots; copies = c.copies; identity = c.identity; generations = c.generations; references = c.references; incarnations = λ r. omega (arith, first_life nodes r) }
counts_up m (labels.Moved t) n inv is few = on_record m n few (moved t m.cluster) (record { rises = IdentitiesRise-filter (stays t) m.cluster.entries inv.holds.rises; last = omega arith; few = λ n few k e c found. let a = Few-filter n (stays t) m.cluster.entries inv.holds.rises few k e c found in omega (arith, a); low = λ n low k e found. let a = Low-filter n (stays t) m.cluster.entries inv.holds.rises low k e found in omega (arith, a); lives = refl })
counts_up m (labels.Failed r true) n inv is few = failed_counts m n inv few r
counts_up m (labels.Failed r false) n inv is few = more m n few
counts_up m (labels.Joined r (Some incarnation)) n inv is few = joined_counts m n r few
counts_up m (labels.Joined r None) n inv is few = more m n few
counts_up m (labels.Shown k replicas) n inv is few = more m n few
counts_up m (labels.Pulled k reply) n inv is few = pulled_on m n few k reply (source_at m k) refl
counts_up m (labels.Put k r reply) n inv is few = put_on m n few k r reply (m.snapshots k) (target_at m k r) refl
