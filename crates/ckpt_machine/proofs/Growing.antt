-- No step takes away what a replica of the present generation has, as long as this does not rise: it stays, and goes on from that.
use Rattle.std.proofs.Common.{◌≡◌, ◌≢◌, ◌⊎◌, ℕ, ◌+◌, ◌<◌, ◌≤◌, inl, inr, List, [], ◌∷◌, length, Option, Some, None, Bool, true, false, cond, not, ◌==◌, ◌&&◌, ◌||◌, nat_lt, ℤ, refl, sym, ap, subst, ◌∙◌, arith}
use Rattle.std.specs.Option.{option_map}
use Rattle.std.specs.Prelude.{IsSome, IsSomeAnd, slice_index}
use Rattle.std.proofs.lemmas.Bool.{eqb-true, eq-eqb, ne_eqb, and_parts, ltb-true, ltb-false}
use Rattle.std.proofs.lemmas.Option.{same_Some}
use Rattle.ckpt_machine.proofs.Dropped.{held_as}
use Rattle.ckpt_types.specs.declared.identities.CallId.{CallId}
use Rattle.ckpt_types.specs.declared.update.Update.{Update}
use Rattle.ckpt_types.specs.Asks.{asked, update_of}
use Rattle.weak_marks.specs.Marks.{Marked}
use Rattle.node_msgs.specs.declared.steps.Verb.{Verb}
use Rattle.node_msgs.specs.declared.steps.Verb.TheVariants as verbs
use Rattle.node_msgs.specs.declared.steps.StepReply.{StepReply}
use Rattle.node_msgs.specs.declared.steps.StepReply.TheVariants as words
use Rattle.run_labels.specs.declared.labels.Label.{Label}
use Rattle.run_labels.specs.declared.labels.Label.TheVariants as labels
use Rattle.cluster_record.specs.Failing.{goes_with_node}
use Rattle.cluster_record.specs.Placement.{is_all, is_collocated}
use Rattle.cluster_record.specs.declared.entries.Entry.{Entry}
use Rattle.cluster_record.specs.Calls.{client_of}
use Rattle.cluster_record.specs.Makings.{making_of}
use Rattle.cluster_record.specs.Places.{put2}
use Rattle.cluster_record.specs.RecordState.{RecordState, entry_of, complete_of, is_active, is_live, first_nodes, stays, swept, moved, entered, finished, home_of, opened_with, opened, closed, unlinked, unreferred, unnamed, departed, undone, with_hold, hold_set, active_set}
use Rattle.cluster_record.proofs.IdentityLaws.{IdentitiesRise-filter}
use Rattle.ckpt_machine.specs.Guards.{IsOnOwn, Row, Allowed}
use Rattle.ckpt_machine.specs.Failing.{broken, broken_unless, failed_at, made_present, replica_left}
use Rattle.ckpt_machine.specs.Invariant.{Invariant}
use Rattle.ckpt_machine.specs.NodeJoins.{joined_at}
use Rattle.ckpt_machine.specs.Machine.{Machine, Applied, Broken, ReplicaState, Snapshot, CallState, who}
use Rattle.ckpt_machine.specs.Propagation.{is_behind, replica_from}
use Rattle.ckpt_machine.specs.Replays.{IsPrefix}
use Rattle.ckpt_machine.specs.Shape.{IsCompleteOn}
use Rattle.ckpt_machine.specs.After.{with_record, record_step, created_for, retained_for, change_replica, with_committed, with_applied, with_slot, with_claim, without_slot, with_marks, with_next_element, without_marks, marks_ended, changed, on_ok, on_look, without_making, at_some, replica_under, opened_state, step_of, staged_moment, after}
use Rattle.ckpt_machine.specs.Due.{Told, count_in}
use Rattle.ckpt_machine.specs.Under.{replicas_under}
use Rattle.ckpt_machine.proofs.Activating.{Leads, with_leader, leader-cases, made_where_complete, led_by, found_led, led_made, others_stay, after_activate}
use Rattle.ckpt_machine.proofs.ActiveNode.{active_complete}
use Rattle.ckpt_machine.proofs.Copying.{IsOfSource, TakesOver, after_pull, after_put_over}
use Rattle.ckpt_machine.proofs.Completions.{Brings, after_complete, brought, brought-cases, brought_made, entry_then, joined_entry, none_before, with_brought}
use Rattle.ckpt_machine.proofs.EachReplica.{Each, PulledInHand, IsAhead, IsPulledOf}
use Rattle.ckpt_machine.proofs.Entries.{ComesOf-filter}
use Rattle.ckpt_machine.proofs.FailedHands.{WasEntry, was_entry}
use Rattle.ckpt_machine.proofs.FailedMade.{failed_goes}
use Rattle.ckpt_machine.proofs.FailedShape.{generation_led}
use Rattle.ckpt_machine.proofs.FailureLaw.{replica_was as failed_replica_was}
use Rattle.ckpt_machine.proofs.Follows.{IsBare, element_effects}
use Rattle.ckpt_machine.proofs.Installed.{after_install}
use Rattle.ckpt_machine.proofs.Joining.{opened_with-identity}
use Rattle.ckpt_machine.proofs.NodeGone.{complete_was, complete_still}
use Rattle.ckpt_machine.proofs.OneReplica.{committed_generation, element_generation, committed_more}
use Rattle.ckpt_machine.proofs.OptionLemmas.{IsSomeAnd-at, IsSomeAnd-from, IfSome-at}
use Rattle.ckpt_machine.proofs.Prefixes.{prefix_same, prefix_of_same, prefix_longer}
use Rattle.ckpt_machine.proofs.Propagated.{complete_there}
use Rattle.ckpt_machine.proofs.References.{released-identity}
use Rattle.ckpt_machine.proofs.StaysMade.{StaysMade, StaysMade-same, StaysMade-kept, GoesOnMade, GoesOnMade-same, StaysMade-goes, held_made, held-identity, MadeOn, MadeOn-swept, released_made, opened_made, same_on, changed_on, filter_on, departed_on, finished_on, created_for_on, retained_for_on, StepNeeds, row_needs}

-- ---- what one replica becomes

-- the second replica is of the first one's generation, and has its effects first
abbrev pub GrowsTo : ReplicaState → ReplicaState → Type 0
GrowsTo x y = (y.generation ≡ x.generation) × IsPrefix x.effects y.effects

-- a replica that stays as it is grows so
pub grows_to_same : (x : ReplicaState) → GrowsTo x x
grows_to_same x = (refl, prefix_same x.effects)

-- a replica grows by a commit
committed_grows : (o : Option Entry) (x : ReplicaState) → GrowsTo x (with_committed o x)
committed_grows o x = (committed_generation o x, committed_more o x)

-- a replica grows by an update in one step
pub applied_grows : (o : Option Entry) (call : CallId) (update : Update) (t : ℤ) (x : ReplicaState) → GrowsTo x (with_applied call update t o x)
applied_grows None call update t x = grows_to_same x
applied_grows (Some e) call update t x = (refl, (Applied call update t ∷ [], refl))

-- a replica grows by an element of a weak write, which is no effect yet
element_grows : (o : Option Entry) (x : ReplicaState) → GrowsTo x (with_next_element o x)
element_grows o x = (element_generation o x, prefix_of_same x.effects (with_next_element o x).effects (element_effects o x))

-- a replica grows by the end of a weak write
pub unmarked_grows : (x : ReplicaState) → GrowsTo x (without_marks x)
unmarked_grows x = by_marks x.marks
  where
    by_marks : (o : Option Marked) → GrowsTo x (marks_ended x o)
    by_marks None = grows_to_same x
    by_marks (Some marks) = (refl, (Applied marks.call marks.update marks.moment ∷ [], refl))

-- a replica grows where its weak write is cut short, by an effect
broken_grows : (R : RecordState) (x : ReplicaState) (o : Option Marked) → GrowsTo x (broken_unless R o x)
broken_grows R x None = grows_to_same x
broken_grows R x (Some marks) = by_live (is_live R marks.call)
  where
    by_live : (b : Bool) → GrowsTo x (cond b x (broken marks x))
    by_live true = grows_to_same x
    by_live false = (refl, (Broken marks.call marks.update marks.moment marks.done ∷ [], refl))

-- what a failure leaves of a replica has its effects first
pub left_more : (R : RecordState) (o : Option Entry) (q : ℕ) (x : ReplicaState) → IsPrefix x.effects (made_present o q (broken_unless R x.marks x)).effects
left_more R None q x = (broken_grows R x x.marks).1
left_more R (Some f) q x = by_active (is_active f.active q)
  where
    by_active : (b : Bool) → IsPrefix x.effects (cond b (record (broken_unless R x.marks x) { generation = f.generation }) (broken_unless R x.marks x)).effects
    by_active true = (broken_grows R x x.marks).1
    by_active false = (broken_grows R x x.marks).1

-- so a replica of the present generation grows by that
left_grows : (R : RecordState) (f : Entry) (q : ℕ) (x : ReplicaState) → f.generation ≡ x.generation → GrowsTo x (made_present (Some f) q (broken_unless R x.marks x))
left_grows R f q x same = (by_active (is_active f.active q), left_more R (Some f) q x)
  where
    by_active : (b : Bool) → (cond b (record (broken_unless R x.marks x) { generation = f.generation }) (broken_unless R x.marks x)).generation ≡ x.generation
    by_active true = same
    by_active false = (broken_grows R x x.marks).0

-- behind a change of the record the replica of a node that was complete, and is so, is as it was
pub under_stays : (f : Entry) (before r : ℕ) (old : Option ReplicaState) → IsCompleteOn f r → (before == 0) ≡ false → replica_under (Some f) before r old ≡ old
under_stays f before r old complete was = ap (λ b. cond b None (cond (before == 0) (Some (opened_state f)) old)) complete ∙ ap (λ b. cond b (Some (opened_state f)) old) was

-- ---- what becomes of a checkpoint

-- the generation of a replica is this one, or that of the replica that was there
abbrev pub HasEither : ℕ → Option ReplicaState → ReplicaState → Type 0
HasEither generation old y = (y.generation ≡ generation) ⊎ IsSomeAnd old (λ x. y.generation ≡ x.generation)

-- a checkpoint that is there was there, and goes on made, on no node that has gone; and where its generation is what it was, its active has not gone, each replica of it on a node that has not is there still, and has its effects first, and each that is there is of this generation, or of the one that it had
pub record GoesOnIn (m : Machine) (k : ℕ) (gone : Option ℕ) (R : RecordState) (replicas : ℕ → ℕ → Option ReplicaState) : Type 0 where
  pub made : (f : Entry) → entry_of k R.entries ≡ Some f → (e : Entry) × (entry_of k m.cluster.entries ≡ Some e) × GoesOnMade e f
  pub away : (f : Entry) (r : ℕ) → entry_of k R.entries ≡ Some f → IsCompleteOn f r → gone ≢ Some r
  pub led : (e f : Entry) (r : ℕ) → entry_of k m.cluster.entries ≡ Some e → entry_of k R.entries ≡ Some f → f.generation ≡ e.generation → e.active ≡ Some r → gone ≢ Some r
  pub replica : (r : ℕ) (x : ReplicaState) (e f : Entry) → gone ≢ Some r → entry_of k m.cluster.entries ≡ Some e → entry_of k R.entries ≡ Some f → f.generation ≡ e.generation → m.replicas k r ≡ Some x → x.generation ≡ e.generation → IsSomeAnd (replicas k r) (GrowsTo x)
  pub generations : (r : ℕ) (y : ReplicaState) (e f : Entry) → entry_of k m.cluster.entries ≡ Some e → entry_of k R.entries ≡ Some f → f.generation ≡ e.generation → replicas k r ≡ Some y → HasEither f.generation (m.replicas k r) y

-- what becomes of a checkpoint from one state to another by which no node goes
abbrev pub GoesOn : Machine → ℕ → Machine → Type 0
GoesOn m k n = GoesOnIn m k None n.cluster n.replicas

-- by a step no node goes
none_gone : (r : ℕ) → None ≢ Some r
none_gone r gone = cc gone

-- the node that goes by a label
abbrev pub gone_by : Label → Option ℕ
gone_by (labels.Failed r true) = Some r
gone_by l = None

-- ---- behind, and not behind

-- a replica of the generation of a snapshot is behind it just where it has fewer effects
behind_fewer : (x : ReplicaState) (s : Snapshot) (b : Bool) → x.generation ≡ s.generation → is_behind x s ≡ b → nat_lt (length x.effects) (length s.effects) ≡ b
behind_fewer x s b same is = by_test (nat_lt x.generation s.generation) refl is
  where
    by_test : (c : Bool) → nat_lt x.generation s.generation ≡ c → (c || ((x.generation == s.generation) && nat_lt (length x.effects) (length s.effects))) ≡ b → nat_lt (length x.effects) (length s.effects) ≡ b
    by_test true below is = absurd (let under : x.generation < s.generation = ltb-true x.generation s.generation below in let equal = same in omega (arith, under, equal))
    by_test false other is = ap (λ c. c && nat_lt (length x.effects) (length s.effects)) (sym (eq-eqb x.generation s.generation same)) ∙ is

module _ (m : Machine) (inv : Invariant m) (bare : IsBare m) (each : Each (λ o r x. Unit {0}) (λ e s. Unit {0}) m) where
  -- the active of a checkpoint that is made has a replica
  active_there : (k r : ℕ) (e : Entry) → entry_of k m.cluster.entries ≡ Some e → e.making ≡ None → e.active ≡ Some r → (y : ReplicaState) × (m.replicas k r ≡ Some y)
  active_there k r e found made active = by_replica (m.replicas k r) refl (complete_there m inv.shapes inv.holds k r e found (active_complete m inv.shapes k e r inv.holds found made active))
    where
      by_replica : (o : Option ReplicaState) → m.replicas k r ≡ o → IsSome o → (y : ReplicaState) × (m.replicas k r ≡ Some y)
      by_replica None is none = absurd (cc none)
      by_replica (Some y) is some = (y, is)

  -- a snapshot is the background one of the checkpoint, or was pulled there by a call in hand
  abbrev pub IsCopyOf : ℕ → Snapshot → Type 0
  IsCopyOf k s = (m.snapshots k ≡ Some s) ⊎ PulledInHand m.in_hand k s

  -- the checkpoint of such a snapshot, where it is there, is made, and where its updates go to an active alone, there is one where the snapshot is of its generation
  copy_source : (k : ℕ) (s : Snapshot) (e : Entry) → entry_of k m.cluster.entries ≡ Some e → is_all e.attributes ≡ false → IsCopyOf k s → IsOfSource e s
  copy_source k s e found alone (inl is) =
      let (f, there, is_so) = IsSomeAnd-at (entry_of k m.cluster.entries) (λ e. IsOfSource e s × Unit {0}) (each.snapshot k s is) in
      subst (λ e. IsOfSource e s) (same_Some f e (sym there ∙ found)) is_so.0
  copy_source k s e found alone (inr has) = (IfSome-at (entry_of k m.cluster.entries) (λ e. IsPulledOf (asked has.state.op) e s × Unit {0}) (each.in_hand k s has).1 e found).0.source (inl alone)

  -- no such snapshot of this generation is ahead of the active
  copy_first : (k : ℕ) (collocated : Bool) (g : ℕ) (s : Snapshot) (y : ReplicaState) → IsAhead k collocated g m.replicas m.snapshots m.in_hand y → IsCopyOf k s → s.generation ≡ g → IsPrefix s.effects y.effects
  copy_first k collocated g s y ahead (inl is) present = ahead.snapshot s is present
  copy_first k collocated g s y ahead (inr has) present = ahead.in_hand s has present

  module _ (k r : ℕ) (e : Entry) (s : Snapshot) (x : ReplicaState) (found : entry_of k m.cluster.entries ≡ Some e) (alone : is_all e.attributes ≡ false) (copy : IsCopyOf k s) (there : m.replicas k r ≡ Some x) (own : x.generation ≡ e.generation) (present : s.generation ≡ e.generation) where
    -- a snapshot and a replica of the present generation are both first parts of what the active has
    both_first : (y : ReplicaState) × IsPrefix x.effects y.effects × IsPrefix s.effects y.effects
    both_first =
        let of = copy_source k s e found alone copy in
        let source = of.source in
        let (q, active) = led e.active refl (of.led present) in
        let (y, at) = active_there k q e found source.made active in
        let ahead = each.ahead k q e y found source.alone active at in
        (y, ahead.replica r x there (inr own), copy_first k (is_collocated e.attributes) e.generation s y ahead copy present)
      where
        led : (o : Option ℕ) → e.active ≡ o → IsSome o → (q : ℕ) × (e.active ≡ Some q)
        led None is none = absurd (cc none)
        led (Some q) is some = (q, is)

    -- a replica of the present generation that is behind such a snapshot has the first of its effects
    behind_first : is_behind x s ≡ true → IsPrefix x.effects s.effects
    behind_first is =
        let (y, one, two) = both_first in
        let fewer : length x.effects < length s.effects = ltb-true (length x.effects) (length s.effects) (behind_fewer x s true (own ∙ sym present) is) in
        prefix_longer x.effects s.effects y.effects one two (omega (arith, fewer))

    -- a replica of the present generation that is not behind such a snapshot has its effects first
    pub other_first : is_behind x s ≡ false → IsPrefix s.effects x.effects
    other_first is =
        let (y, one, two) = both_first in
        let fewer : length s.effects ≤ length x.effects = ltb-false (length x.effects) (length s.effects) (behind_fewer x s false (own ∙ sym present) is) in
        prefix_longer s.effects x.effects y.effects two one fewer

  -- a replica of the present generation grows by such a snapshot that it takes over
  taken_grows : (k r : ℕ) (s : Snapshot) (x : ReplicaState) → IsCopyOf k s → (over : TakesOver m k r s x) → x.generation ≡ over.on.entry.generation → GrowsTo x (replica_from s x)
  taken_grows k r s x copy over own = (over.present ∙ sym own, behind_first k r over.on.entry s x over.on.found over.on.alone copy over.on.there own over.present over.behind)

  -- and is of the present generation then
  taken_generation : (k r : ℕ) (s : Snapshot) (x : ReplicaState) (over : TakesOver m k r s x) (e : Entry) → entry_of k m.cluster.entries ≡ Some e → s.generation ≡ e.generation
  taken_generation k r s x over e found = over.present ∙ ap (λ (e : Entry). e.generation) (same_Some over.on.entry e (sym over.on.found ∙ found))

  -- ---- a step

  module _ (k : ℕ) (given : k ≤ m.cluster.last_identity) where
    -- a replica that was there has the generation that it had
    as_before : {g : ℕ} (r : ℕ) (y : ReplicaState) → m.replicas k r ≡ Some y → HasEither g (m.replicas k r) y
    as_before r y at = inr (IsSomeAnd-from (m.replicas k r) (λ x. y.generation ≡ x.generation) y at refl)

    -- a checkpoint goes on where nothing changes
    goes_on_same : GoesOn m k m
    goes_on_same = record {
      made = λ f found. (f, found, GoesOnMade-same f);
      away = λ f r found there. none_gone r;
      led = λ e f r was found still active. none_gone r;
      replica = λ r x e f stays there found still at present. IsSomeAnd-from (m.replicas k r) (GrowsTo x) x at (grows_to_same x);
      generations = λ r y e f was found still at. as_before r y at;
    }

    -- and where other nodes are up
    nodes_go : (up first_calls last_incarnations : List ℕ) → GoesOn m k (record m { cluster = record m.cluster { up = up; first_calls = first_calls; last_incarnations = last_incarnations } })
    nodes_go up first_calls last_incarnations = record { made = goes_on_same.made; away = goes_on_same.away; led = goes_on_same.led; replica = goes_on_same.replica; generations = goes_on_same.generations }

    -- a checkpoint goes on by a step of the record
    record_goes : (R : RecordState) → MadeOn k m.cluster R → GoesOn m k (with_record m R)
    record_goes R on = record { made = λ f found. (let (e, was, made) = on.made f found in (e, was, StaysMade-goes e f made)); away = λ f r found there. none_gone r; led = λ e f r was found still active. none_gone r; replica = replica; generations = generations }
      where
        replica : (r : ℕ) (x : ReplicaState) (e f : Entry) → None ≢ Some r → entry_of k m.cluster.entries ≡ Some e → entry_of k R.entries ≡ Some f → f.generation ≡ e.generation → m.replicas k r ≡ Some x → x.generation ≡ e.generation → IsSomeAnd ((with_record m R).replicas k r) (GrowsTo x)
        replica r x e f stays there found still_present at present =
            let (g, is, complete_at) = IsSomeAnd-at (entry_of k m.cluster.entries) (λ e. IsCompleteOn e r) (bare.complete k r x at) in
            let complete : IsCompleteOn e r = subst (λ e. IsCompleteOn e r) (same_Some g e (sym is ∙ there)) complete_at in
            let (h, before, keeps) = on.made f found in
            let still = (subst (λ e. StaysMade e f) (same_Some h e (sym before ∙ there)) keeps).made (made_where_complete m inv k r e there complete) in
            let was : (slice_index (complete_of (entry_of k m.cluster.entries)) r == 0) ≡ false = subst (λ o. (slice_index (complete_of o) r == 0) ≡ false) (sym there) complete in
            let stays : (with_record m R).replicas k r ≡ m.replicas k r = ap (λ o. replica_under o (slice_index (complete_of (entry_of k m.cluster.entries)) r) r (m.replicas k r)) found ∙ under_stays f (slice_index (complete_of (entry_of k m.cluster.entries)) r) r (m.replicas k r) (still.remains r complete) was in
            IsSomeAnd-from ((with_record m R).replicas k r) (GrowsTo x) x (stays ∙ at) (grows_to_same x)

        -- one that is there is the one that was, or the opening one
        generations : (r : ℕ) (y : ReplicaState) (e f : Entry) → entry_of k m.cluster.entries ≡ Some e → entry_of k R.entries ≡ Some f → f.generation ≡ e.generation → (with_record m R).replicas k r ≡ Some y → HasEither f.generation (m.replicas k r) y
        generations r y e f was found still at =
            by_tests (slice_index f.complete r == 0) (slice_index (complete_of (entry_of k m.cluster.entries)) r == 0) (sym (ap (λ o. replica_under o (slice_index (complete_of (entry_of k m.cluster.entries)) r) r (m.replicas k r)) found) ∙ at)
          where
            by_tests : (none before : Bool) → cond none None (cond before (Some (opened_state f)) (m.replicas k r)) ≡ Some y → HasEither f.generation (m.replicas k r) y
            by_tests true before gone = absurd (cc gone)
            by_tests false true new = inl (ap (λ (x : ReplicaState). x.generation) (sym (same_Some (opened_state f) y new)))
            by_tests false false was_there = as_before r y was_there

    -- and where what is over is swept away behind it
    step_goes : (step : RecordState → RecordState) → MadeOn k m.cluster (step m.cluster) → GoesOn m k (record_step step m)
    step_goes step on = record_goes (swept (step m.cluster)) (MadeOn-swept k m.cluster (step m.cluster) on)

    -- a checkpoint goes on where one replica changes that grows, if it is of the present generation
    put_goes : (j q : ℕ) (y z : ReplicaState) → m.replicas j q ≡ Some y → ((e : Entry) → entry_of j m.cluster.entries ≡ Some e → y.generation ≡ e.generation → GrowsTo y z) → ((e : Entry) → entry_of j m.cluster.entries ≡ Some e → HasEither e.generation (Some y) z) → GoesOn m k (record m { replicas = put2 m.replicas j q (Some z) })
    put_goes j q y z there grows has = record {
      made = goes_on_same.made;
      away = goes_on_same.away;
      led = goes_on_same.led;
      replica = λ r x e f stays was found still at present. elim ((k == j) && (r == q)) as (λ b. ((k == j) && (r == q)) ≡ b → IsSomeAnd (cond b (Some z) (m.replicas k r)) (GrowsTo x)) [
        | true ↦ λ here.
            let (ckpt, node) = and_parts (k == j) (r == q) here in
            let k_is : k ≡ j = eqb-true k j ckpt in
            let r_is : r ≡ q = eqb-true r q node in
            let same : y ≡ x = same_Some y x (sym there ∙ (λ i. m.replicas (sym k_is i) (sym r_is i)) ∙ at) in
            subst (λ x. GrowsTo x z) same (grows e (ap (λ j. entry_of j m.cluster.entries) (sym k_is) ∙ was) (ap (λ (x : ReplicaState). x.generation) same ∙ present))
        | false ↦ λ other. IsSomeAnd-from (m.replicas k r) (GrowsTo x) x at (grows_to_same x)
      ] refl;
      generations = λ r x e f was found still at. elim ((k == j) && (r == q)) as (λ b. ((k == j) && (r == q)) ≡ b → cond b (Some z) (m.replicas k r) ≡ Some x → HasEither f.generation (m.replicas k r) x) [
        | true ↦ λ here new.
            let (ckpt, node) = and_parts (k == j) (r == q) here in
            let k_is : k ≡ j = eqb-true k j ckpt in
            let r_is : r ≡ q = eqb-true r q node in
            let old : Some y ≡ m.replicas k r = sym there ∙ (λ i. m.replicas (sym k_is i) (sym r_is i)) in
            subst (λ x. HasEither f.generation (m.replicas k r) x) (same_Some z x new) (subst (λ o. HasEither f.generation o z) old (has f (ap (λ j. entry_of j m.cluster.entries) (sym k_is) ∙ found)))
        | false ↦ λ other at. as_before r x at
      ] refl at;
    }

    -- a checkpoint goes on where a node leads another one anew, or this one, whose generation rises then
    leads_go : (s : CallState) (j q : ℕ) (lead : Leads m s j q) → GoesOn m k (with_leader m s j q lead)
    leads_go s j q lead = record {
      made = λ g found. led_made m inv s j q lead k g found;
      away = λ f r found there. none_gone r;
      led = λ e f r was found still active. none_gone r;
      replica = λ r x e g stays was found still at present. elim (found_led m inv s j q lead k g found) [
        | inl here ↦ absurd (
            let risen : g.generation ≡ lead.entry.generation + 1 = ap (λ (e : Entry). e.generation) here.1 in
            let same : lead.entry.generation ≡ e.generation = ap (λ (e : Entry). e.generation) (same_Some lead.entry e (sym lead.found ∙ ap (λ k. entry_of k m.cluster.entries) (sym here.0) ∙ was)) in
            omega (arith, risen, same, still))
        | inr other ↦ IsSomeAnd-from ((with_leader m s j q lead).replicas k r) (GrowsTo x) x (others_stay m inv s j q lead bare k r g x other.0 found at) (grows_to_same x)
      ];
      generations = λ r y e g was found still at. elim (leader-cases m inv s j q lead k r y at) [
        | inl here ↦ inl (
            let risen : g ≡ led_by q lead.entry = same_Some g (led_by q lead.entry) (sym found ∙ ap (λ k. entry_of k (with_leader m s j q lead).cluster.entries) (sym here.0) ∙ lead.set) in
            ap (λ (x : ReplicaState). x.generation) (sym here.2) ∙ ap (λ (e : Entry). e.generation) (sym risen))
        | inr other ↦ as_before r y other.0
      ];
    }

    -- a checkpoint goes on where a replica is changed, if there is one, that grows
    replica_goes : (j q : ℕ) (o : Option ReplicaState) → m.replicas j q ≡ o → (change : ReplicaState → ReplicaState) → ((x : ReplicaState) → GrowsTo x (change x)) → GoesOn m k (change_replica m j q o change)
    replica_goes j q None there change grows = goes_on_same
    replica_goes j q (Some x) there change grows = put_goes j q x (change x) there (λ e found own. grows x) (λ e found. inr (grows x).0)

    -- a checkpoint goes on where a making is undone
    undone_goes : (j : ℕ) → GoesOn m k (record_step (undone j) m)
    undone_goes j = step_goes (undone j) (filter_on k m.cluster given inv.holds.rises inv.holds.up_to (λ e. not (e.identity == j)))

    making_goes : (j : Option ℕ) → GoesOn m k (without_making j m)
    making_goes None = goes_on_same
    making_goes (Some j) = undone_goes j

    -- what is done on OK alone, and at a checkpoint and a node that are named
    ok_goes : (reply : StepReply) (n : Machine) → GoesOn m k n → GoesOn m k (on_ok reply m n)
    ok_goes words.Ok n then = then
    ok_goes reply n then = goes_on_same

    look_goes : (reply : StepReply) (done refused : Machine) → GoesOn m k done → GoesOn m k refused → GoesOn m k (on_look reply m done refused)
    look_goes words.Done done refused after_done after_refused = after_done
    look_goes words.Refused done refused after_done after_refused = after_refused
    look_goes reply done refused after_done after_refused = goes_on_same

    one_goes : (j : Option ℕ) (change : ℕ → Machine) → ((j : ℕ) → GoesOn m k (change j)) → GoesOn m k (at_some j m change)
    one_goes None change then = goes_on_same
    one_goes (Some j) change then = then j

    both_go : (j q : Option ℕ) (change : ℕ → ℕ → Machine) → ((j q : ℕ) → GoesOn m k (change j q)) → GoesOn m k (at_some j m (λ j. at_some q m (change j)))
    both_go j q change then = one_goes j _ (λ j. one_goes q (change j) (then j))

    -- one replica changed by a step that is done
    changed_goes : (j q : Option ℕ) (reply : StepReply) (change : ℕ → ReplicaState → ReplicaState) → ((j : ℕ) (x : ReplicaState) → GrowsTo x (change j x)) → GoesOn m k (on_ok reply m (at_some j m (λ j. at_some q m (λ q. change_replica m j q (m.replicas j q) (change j)))))
    changed_goes j q reply change grows = ok_goes reply _ (both_go j q _ (λ j q. replica_goes j q (m.replicas j q) refl (change j) (grows j)))

    -- one entry changed, that stays made
    entry_goes : (step : ℕ → RecordState → RecordState) → ((j : ℕ) → MadeOn k m.cluster (step j m.cluster)) → (j : Option ℕ) (reply : StepReply) → GoesOn m k (on_ok reply m (at_some j m (λ j. record_step (step j) m)))
    entry_goes step on j reply = ok_goes reply _ (one_goes j _ (λ j. step_goes (step j) (on j)))

    -- a checkpoint goes on where a making is finished
    finished_goes : (s : CallState) (j q : Option ℕ) (reply : StepReply) → StepNeeds m.cluster s.call verbs.Finish j reply → GoesOn m k (changed m s verbs.Finish j q reply)
    finished_goes s (Some j) q words.Ok by = step_goes (finished j (client_of s.call)) (finished_on k m.cluster given inv.holds.rises inv.holds.up_to s.call j (client_of s.call) by)
    finished_goes s None q words.Ok by = goes_on_same
    finished_goes s j q reply by = goes_on_same

    -- where a copying brings a checkpoint to its node, this has a replica more, and the others have what they had
    brought_goes : (s : CallState) (j q : ℕ) (b : Brings m s j q) → GoesOn m k (with_brought m inv s j q b)
    brought_goes s j q b = record {
      made = λ g found. brought_made m inv s j q b k g found;
      away = λ f r found there. none_gone r;
      led = λ e f r was found still active. none_gone r;
      replica = λ r x e g stays was found still at present. IsSomeAnd-from ((with_brought m inv s j q b).replicas k r) (GrowsTo x) x (there_still r x at) (grows_to_same x);
      generations = λ r y e g was found still at. elim (brought-cases m inv s j q b k r y at) [
        | inl here ↦ inl (
            let g_is : g ≡ joined_entry m inv s j q b = same_Some g (joined_entry m inv s j q b) (sym found ∙ ap (λ k. entry_of k (with_brought m inv s j q b).cluster.entries) (sym here.0) ∙ entry_then m inv s j q b) in
            ap (λ (x : ReplicaState). x.generation) (sym here.2) ∙ ap (λ (e : Entry). e.generation) (sym g_is))
        | inr other ↦ as_before r y other.0
      ];
    }
      where
        -- the node had none of it
        there_still : (r : ℕ) (x : ReplicaState) → m.replicas k r ≡ Some x → (with_brought m inv s j q b).replicas k r ≡ Some x
        there_still r x at = elim ((k == j) && (r == q)) as (λ t. ((k == j) && (r == q)) ≡ t → cond t (Some (brought m inv s j q b)) (m.replicas k r) ≡ Some x) [
          | true ↦ λ here. absurd (
              let (ckpt, node) = and_parts (k == j) (r == q) here in
              none_before m inv s j q b bare x ((λ i. m.replicas (sym (eqb-true k j ckpt) i) (sym (eqb-true r q node) i)) ∙ at))
          | false ↦ λ other. at
        ] refl

    -- what an installation, the setting of an active and a completion leave
    abbrev Installs : CallState → Verb → Option ℕ → Option ℕ → StepReply → Type 0
    Installs s verbs.Install j q reply = GoesOn m k (changed m s verbs.Install j q reply)
    Installs s verbs.Activate j q reply = GoesOn m k (changed m s verbs.Activate j q reply)
    Installs s verbs.Complete j q reply = GoesOn m k (changed m s verbs.Complete j q reply)
    Installs s verb j q reply = Unit {0}

    -- a checkpoint goes on where a call installs what it has pulled there, sets an active, or brings the checkpoint to its node
    installs : (s : CallState) → m.in_hand (who s) ≡ Some s → (verb : Verb) (j q : Option ℕ) (reply : StepReply) (t : Told) → IsOnOwn verb j s.kept.ckpt → Row m s verb (record t { verb = verb; ckpt = j; node = q; reply = reply }) → Installs s verb j q reply
    installs s held verbs.Install j q reply t own row = after_install (GoesOn m k) m s t j q reply row goes_on_same (λ i r z x is in_hand over. (
        let has : PulledInHand m.in_hand i z = record { name = who s; state = s; in_hand = held; ckpt = sym own ∙ is; snapshot = in_hand } in
        put_goes i r x (replica_from z x) over.on.there (λ e found present. taken_grows i r z x (inr has) over (present ∙ ap (λ (e : Entry). e.generation) (same_Some e over.on.entry (sym found ∙ over.on.found)))) (λ e found. inl (taken_generation i r z x over e found))))
    installs s held verbs.Activate j q reply t own row = after_activate (GoesOn m k) m inv bare s held t j q reply own row goes_on_same (λ i r on. record_goes (swept (active_set i r m.cluster)) (on k)) (leads_go s)
    installs s held verbs.Complete j q reply t own row = after_complete (GoesOn m k) m inv s held t j q reply own row goes_on_same (brought_goes s)
    installs s held verb j q reply t own row = tt

    -- a checkpoint goes on by any step
    steps_go : (s : CallState) (verb : Verb) (j q : Option ℕ) (reply : StepReply) → StepNeeds m.cluster s.call verb j reply → Installs s verb j q reply → GoesOn m k (changed m s verb j q reply)
    steps_go s verbs.Enter j q reply needs done = ok_goes reply _ (one_goes q _ (λ q. step_goes (entered (client_of s.call) q s.call.number) (record { last = omega arith; rises = inv.holds.rises; made = (same_on k m.cluster given inv.holds.rises inv.holds.up_to).made })))
    steps_go s verbs.Open j q reply needs done = ok_goes reply _ (one_goes j _ (λ j. step_goes (opened j (client_of s.call))
        (changed_on k m.cluster given inv.holds.rises inv.holds.up_to j (opened_with (home_of (client_of s.call) m.cluster) m.cluster.up (client_of s.call)) (opened_with-identity (home_of (client_of s.call) m.cluster) m.cluster.up (client_of s.call)) (opened_made (home_of (client_of s.call) m.cluster) m.cluster.up (client_of s.call)))))
    steps_go s verbs.Create j q reply needs done = ok_goes reply _ (step_goes (created_for s.call (asked s.op)) (created_for_on k m.cluster given inv.holds.rises inv.holds.up_to s.call (asked s.op)))
    steps_go s verbs.Reserve j q reply needs done = ok_goes reply _ (both_go j q _ (λ j q. goes_on_same))
    steps_go s verbs.Finish j q reply needs done = finished_goes s j q reply needs
    steps_go s verbs.Undo j q reply needs done = ok_goes reply _ (one_goes j _ undone_goes)
    steps_go s verbs.Stage j q reply needs done = changed_goes j q reply (λ j. with_slot s.call (update_of s.op) (staged_moment m j)) (λ j x. grows_to_same x)
    steps_go s verbs.Claim j q reply needs done = changed_goes j q reply (λ j. with_claim s.call) (λ j x. grows_to_same x)
    steps_go s verbs.Withdraw j q reply needs done = changed_goes j q reply (λ j. without_slot) (λ j x. grows_to_same x)
    steps_go s verbs.Commit j q reply needs done = changed_goes j q reply (λ j. with_committed (entry_of j m.cluster.entries)) (λ j x. committed_grows (entry_of j m.cluster.entries) x)
    steps_go s verbs.Apply j q reply needs done = changed_goes j q reply (λ j. with_applied s.call (update_of s.op) m.cluster.moment (entry_of j m.cluster.entries)) (λ j x. applied_grows (entry_of j m.cluster.entries) s.call (update_of s.op) m.cluster.moment x)
    steps_go s verbs.Mark j q reply needs done = changed_goes j q reply (λ j. with_marks s.call (update_of s.op) m.cluster.moment) (λ j x. grows_to_same x)
    steps_go s verbs.Element j q reply needs done = changed_goes j q reply (λ j. with_next_element (entry_of j m.cluster.entries)) (λ j x. element_grows (entry_of j m.cluster.entries) x)
    steps_go s verbs.Unmark j q reply needs done = changed_goes j q reply (λ j. without_marks) (λ j x. unmarked_grows x)
    steps_go s verbs.Install j q reply needs done = done
    steps_go s verbs.Hold j q reply needs done = entry_goes (λ j. hold_set j s.call) (λ j. changed_on k m.cluster given inv.holds.rises inv.holds.up_to j (with_hold s.call) (held-identity s.call) (held_made s.call)) j reply
    steps_go s verbs.Activate j q reply needs done = done
    steps_go s verbs.Complete j q reply needs done = done
    steps_go s verbs.Iter j q reply needs done = ok_goes reply _ (both_go j q _ (λ j q. goes_on_same))
    steps_go s verbs.Next j q reply needs done = ok_goes reply _ (both_go j q _ (λ j q. goes_on_same))
    steps_go s verbs.Leave j q reply needs done = ok_goes reply _ (step_goes (departed (client_of s.call)) (departed_on k m.cluster given inv.holds.rises inv.holds.up_to (client_of s.call)))
    steps_go s verbs.Close j q reply needs done = ok_goes reply _ (one_goes j _ (λ j. step_goes (closed j (client_of s.call))
        (changed_on k m.cluster given inv.holds.rises inv.holds.up_to j (unreferred (client_of s.call) m.cluster.moment) (released-identity (client_of s.call) m.cluster.moment) (released_made (client_of s.call) m.cluster.moment))))
    steps_go s verbs.Unlink j q reply needs done = entry_goes unlinked (λ j. changed_on k m.cluster given inv.holds.rises inv.holds.up_to j unnamed (λ e. refl) (λ e. StaysMade-kept e (unnamed e) refl refl refl refl refl refl)) j reply
    steps_go s verbs.Retain j q reply needs done = entry_goes (retained_for (asked s.op)) (retained_for_on k m.cluster given inv.holds.rises inv.holds.up_to (asked s.op)) j reply
    steps_go s verbs.Look j q reply needs done = look_goes reply _ _ goes_on_same (making_goes (making_of s.call m.cluster))
    steps_go s verb j q reply needs done = goes_on_same

    -- a checkpoint goes on by a step of a call in hand that its row allows
    pub stepped_goes : (s : CallState) → m.in_hand (who s) ≡ Some s → (t : Told) → IsOnOwn t.verb t.ckpt s.kept.ckpt → Row m s t.verb t → GoesOn m k (changed m s t.verb t.ckpt t.node t.reply)
    stepped_goes s held t own row = steps_go s t.verb t.ckpt t.node t.reply (row_needs m inv s t.verb t.ckpt t.node t.reply t.end t.details row) (installs s held t.verb t.ckpt t.node t.reply t own row)

    -- a checkpoint goes on behind the failure of a node: what another node has of it stays, and a weak write there may be cut short
    failed_goes_on : (r : ℕ) → GoesOnIn m k (Some r) (failed_at r m).cluster (failed_at r m).replicas
    failed_goes_on r = record { made = made; away = away; led = led; replica = replica; generations = generations }
      where
        R : RecordState
        R = (failed_at r m).cluster

        counts : ℕ → ℕ → ℕ
        counts j q = count_in (m.replicas j q)

        made : (f : Entry) → entry_of k R.entries ≡ Some f → (e : Entry) × (entry_of k m.cluster.entries ≡ Some e) × GoesOnMade e f
        made f found =
            let it : WasEntry m inv.shapes inv.holds r k f = was_entry m inv.shapes inv.holds r k f found in
            (it.e, it.was, failed_goes (counts it.e.identity) (goes_with_node m.cluster r) r it.e f it.left)

        away : (f : Entry) (q : ℕ) → entry_of k R.entries ≡ Some f → IsCompleteOn f q → Some r ≢ Some q
        away f q found there gone =
            let it : WasEntry m inv.shapes inv.holds r k f = was_entry m inv.shapes inv.holds r k f found in
            let other = (complete_was it.e.complete r q (ap (λ cs. slice_index cs q == 0) (sym it.left.complete) ∙ there)).0 in
            let w : true ≡ false = sym (eq-eqb q r (sym (same_Some r q gone))) ∙ other in
            cc w

        led : (e f : Entry) (q : ℕ) → entry_of k m.cluster.entries ≡ Some e → entry_of k R.entries ≡ Some f → f.generation ≡ e.generation → e.active ≡ Some q → Some r ≢ Some q
        led e f q was found still active gone =
            let it : WasEntry m inv.shapes inv.holds r k f = was_entry m inv.shapes inv.holds r k f found in
            let same : it.e ≡ e = same_Some it.e e (sym it.was ∙ was) in
            let its : it.e.active ≡ Some r = ap (λ (e : Entry). e.active) same ∙ active ∙ sym gone in
            let risen : f.generation ≡ it.e.generation + 1 = (it.left.gone (ap (λ o. is_active o r) its ∙ eq-eqb r r refl)).1 in
            let was_generation : it.e.generation ≡ e.generation = ap (λ (e : Entry). e.generation) same in
            omega (arith, risen, was_generation, still)

        replica : (q : ℕ) (x : ReplicaState) (e f : Entry) → Some r ≢ Some q → entry_of k m.cluster.entries ≡ Some e → entry_of k R.entries ≡ Some f → f.generation ≡ e.generation → m.replicas k q ≡ Some x → x.generation ≡ e.generation → IsSomeAnd ((failed_at r m).replicas k q) (GrowsTo x)
        replica q x e f stays was found still at present =
            let other : (q == r) ≡ false = ne_eqb q r (λ same. stays (ap Some (sym same))) in
            let it : WasEntry m inv.shapes inv.holds r k f = was_entry m inv.shapes inv.holds r k f found in
            let (g, is, complete_at) = IsSomeAnd-at (entry_of k m.cluster.entries) (λ e. IsCompleteOn e q) (bare.complete k q x at) in
            let complete : IsCompleteOn it.e q = subst (λ e. IsCompleteOn e q) (same_Some g it.e (sym is ∙ it.was)) complete_at in
            let complete_then : (slice_index f.complete q == 0) ≡ false = ap (λ cs. slice_index cs q == 0) it.left.complete ∙ complete_still it.e.complete r q other complete in
            let was_complete : (slice_index (complete_of (entry_of k m.cluster.entries)) q == 0) ≡ false = ap (λ o. slice_index (complete_of o) q == 0) it.was ∙ complete in
            let under : replicas_under m.cluster R m.replicas k q ≡ Some x =
            ap (λ o. replica_under o (slice_index (complete_of (entry_of k m.cluster.entries)) q) q (m.replicas k q)) found
            ∙ under_stays f (slice_index (complete_of (entry_of k m.cluster.entries)) q) q (m.replicas k q) complete_then was_complete ∙ at in
            IsSomeAnd-from ((failed_at r m).replicas k q) (GrowsTo x) (replica_left R k q x) (ap (option_map (replica_left R k q)) under) (subst (λ o. GrowsTo x (made_present o q (broken_unless R x.marks x))) (sym found) (left_grows R f q x (still ∙ sym present)))

        generations : (q : ℕ) (y : ReplicaState) (e f : Entry) → entry_of k m.cluster.entries ≡ Some e → entry_of k R.entries ≡ Some f → f.generation ≡ e.generation → (failed_at r m).replicas k q ≡ Some y → HasEither f.generation (m.replicas k q) y
        generations q y e f was found still at = by_under (replicas_under m.cluster R m.replicas k q) refl at
          where
            by_active : (x : ReplicaState) → m.replicas k q ≡ Some x → (b : Bool) → y.generation ≡ cond b f.generation x.generation → HasEither f.generation (m.replicas k q) y
            by_active x there true is = inl is
            by_active x there false is = inr (IsSomeAnd-from (m.replicas k q) (λ x. y.generation ≡ x.generation) x there is)

            by_under : (o : Option ReplicaState) → replicas_under m.cluster R m.replicas k q ≡ o → option_map (replica_left R k q) o ≡ Some y → HasEither f.generation (m.replicas k q) y
            by_under None none is = absurd (cc is)
            by_under (Some x) under is = by_active x (failed_replica_was m inv.shapes inv.holds r k q f found x under).1 (is_active f.active q)
                (ap (λ (x : ReplicaState). x.generation) (sym (same_Some (replica_left R k q x) y is)) ∙ generation_led R k q f x found)

    -- a checkpoint goes on by any label that is allowed
    pub after_goes : (l : Label) → Allowed m l → GoesOnIn m k (gone_by l) (after m l).cluster (after m l).replicas
    after_goes (labels.Began d op end details) allowed = goes_on_same
    after_goes (labels.Stepped d op verb j q reply end details) allowed =
        let s = allowed.state in
        let t : Told = record { verb = verb; ckpt = j; node = q; reply = reply; end = end; details = details } in
        let held : m.in_hand (who s) ≡ Some s = held_as m d op s allowed.in_hand allowed.call_is allowed.word in
        subst (λ o. GoesOn m k (step_of m o verb j q reply end)) (sym allowed.in_hand) (stepped_goes s held t allowed.own allowed.row)
    after_goes (labels.Word by line said) allowed = goes_on_same
    after_goes (labels.Nodes n) allowed = nodes_go (first_nodes n) (first_nodes n) (first_nodes n)
    after_goes (labels.Moved t) allowed = record_goes (moved t m.cluster) (record { last = omega arith; rises = IdentitiesRise-filter (stays t) m.cluster.entries inv.holds.rises; made = ComesOf-filter StaysMade StaysMade-same (stays t) m.cluster.entries inv.holds.rises k })
    after_goes (labels.Failed r true) allowed = failed_goes_on r
    after_goes (labels.Failed r false) allowed = goes_on_same
    after_goes (labels.Joined r (Some incarnation)) allowed = nodes_go (joined_at r m).cluster.up (joined_at r m).cluster.first_calls (joined_at r m).cluster.last_incarnations
    after_goes (labels.Joined r None) allowed = goes_on_same
    after_goes (labels.Shown j replicas) allowed = goes_on_same
    after_goes (labels.Pulled j reply) allowed = after_pull (GoesOn m k) m j reply allowed goes_on_same (λ x from none. goes_on_same)
    after_goes (labels.Put j q reply) allowed = after_put_over (GoesOn m k) m j q reply allowed goes_on_same (λ s x at over. put_goes j q x (replica_from s x) over.on.there (λ e found present.
        taken_grows j q s x (inl at) over (present ∙ ap (λ (e : Entry). e.generation) (same_Some e over.on.entry (sym found ∙ over.on.found)))) (λ e found. inl (taken_generation j q s x over e found)))
