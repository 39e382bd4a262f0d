-- A put: what it tells is due, and what the world shows behind it.
use Rattle.std.proofs.Common.{◌≡◌, ℕ, Bool, true, false, List, [], ◌∷◌, length, refl, sym, ap, subst, ◌∙◌, cond}
use Rattle.std.specs.Prelude.{Option, Some, None, Ok, Err, IfSome, IsSomeAnd, not, ◌==◌, ◌&&◌, ◌||◌, nat_lt, slice_set, slice_index}
use Rattle.std.proofs.lemmas.Option.{same_Some}
use Rattle.run_labels.specs.declared.labels.Label.TheVariants as labels
use Rattle.run_labels.specs.declared.labels.PutReply.{PutReply}
use Rattle.run_labels.specs.declared.labels.PutReply.TheVariants as puts
use Rattle.cluster_record.specs.declared.entries.Entry.{Entry}
use Rattle.cluster_record.specs.Places.{find_key, change_key, list_or, put2}
use Rattle.cluster_record.specs.RecordState.{entry_of, complete_of}
use Rattle.cluster_record.specs.StepDone.{generation_in}
use Rattle.cluster_record.proofs.Places.{there_is}
use Rattle.snap_copy.specs.Snapshots.{Snapshot}
use Rattle.replica.specs.Replicas.{Replica, is_older, installed, taken_from}
use Rattle.node_core.specs.Nodes.{replica_key}
use Rattle.ckpt_machine.specs.Listing.{is_active}
use Rattle.ckpt_machine.specs.Machine.{Machine, Effect, ReplicaState}
use Rattle.ckpt_machine.specs.Machine as machine
use Rattle.cluster_record.specs.Placement.{is_all}
use Rattle.ckpt_machine.specs.Propagation.{target_of, target_at, put_onto, put_reply, with_put}
use Rattle.ckpt_machine.specs.After.{after, snapshot_under}
use Rattle.ckpt_machine.specs.Due.{IsDue}
use Rattle.world_core.specs.declared.snapshots.Background.{Background}
use Rattle.world_core.specs.declared.world.World.{World}
use Rattle.world_core.specs.Backgrounds.{background_in, where_pulled, pulled_in, HasRoom}
use Rattle.ckpt_machine.specs.Nodes.{replica_in, with_changed}
use Rattle.ckpt_machine.specs.Propagating.{install_told, pulled_told, put_told, nodes_installed, nodes_put, IsPuttable, CanPut}
use Rattle.world_core.specs.Happenings.{Propagates}
use Rattle.world_core.specs.Runs.{IsPutOf}
use Rattle.world_core.specs.Shows.{Does, IsShown, History, machine_of}
use Rattle.ckpt_machine.specs.Shown.{FitsReplica, FitsSlot, FitsSnapshot, complete_replica, where_complete, shown_replica, shown_slot, shown_snapshot}
use Rattle.world_core.proofs.CallSteps.{IsKnown, known, known_by}
use Rattle.world_core.proofs.Finding.{no_slot, replica_shown}
use Rattle.ckpt_machine.proofs.NodeMaps.{set_again}
use Rattle.world_core.proofs.ReplicaChanged.{IsShownBy, replica_changed, with_effects_of}
use Rattle.ckpt_machine.proofs.ServedNodes.{node_within}

-- ---- changes of the one that is found

-- one that leaves it as it was changes nothing
change_same : {X : Type 0} (key : X → ℕ) (k : ℕ) (f : X → X) (xs : List X) (x : X) → find_key key k xs ≡ Some x → f x ≡ x → change_key key k f xs ≡ xs
change_same key k f [] x found same = refl
change_same key k f (y ∷ xs) x found same = by_test (key y == k) found (change_same key k f xs x)
  where
    by_test : (b : Bool) → cond b (Some y) (find_key key k xs) ≡ Some x → (find_key key k xs ≡ Some x → f x ≡ x → change_key key k f xs ≡ xs) → cond b (f y ∷ xs) (y ∷ change_key key k f xs) ≡ y ∷ xs
    by_test true found rest = let e : y ≡ x = same_Some y x found in ap (λ z. z ∷ xs) (ap f e ∙ same ∙ sym e)
    by_test false found rest = ap (λ xs. y ∷ xs) (rest found same)

installed_key : (s : Snapshot) (x : Replica) → replica_key (installed s x) ≡ replica_key x
installed_key s x = elim (is_older x s) as (λ b. replica_key (cond b (taken_from s x) x) ≡ replica_key x) [ true ↦ refl | false ↦ refl ]

-- what is told by the two tests is told alike
told_case : (present old : Bool) (s : Snapshot) (x : Replica) (g : ℕ) →
    cond present (install_told (cond old (Ok tt) (Err (record { generation = x.generation; count = x.count }))) s.count) (puts.Stale s.generation g) ≡ cond (not present) (puts.Stale s.generation g) (cond old (puts.Ok s.count) (puts.Old x.generation x.count))
told_case true true s x g = refl
told_case true false s x g = refl
told_case false old s x g = refl

module _ (w : World) (h : History) (is : IsKnown w h) (k r : ℕ) where
  abbrev before : Machine
  before = machine_of w h

  abbrev its_entry : Option Entry
  its_entry = entry_of k w.cluster.entries

  abbrev held_there : Option Replica
  held_there = replica_in w.nodes k r

  abbrev snap : Option Snapshot
  snap = pulled_in w.snapshots k

  abbrev E : List Effect
  E = h.effects k r

  abbrev C : List Effect
  C = h.copied k

  -- of a checkpoint of this generation: a put of this snapshot on this replica tells what is due, and the machine behind it is shown by these nodes
  record ShownPut (present : ℕ) (S : Option machine.Snapshot) (X : Option ReplicaState) (reply : PutReply) (nodes : List (List Replica)) : Type 0 where
    due : reply ≡ put_reply present S X
    history : History
    shown : IsShownBy (with_put before k r reply S X) (record w { nodes = nodes }) history

  -- where nothing changes
  unchanged : (present : ℕ) (S : Option machine.Snapshot) (X : Option ReplicaState) (reply : PutReply) → reply ≡ put_reply present S X → with_put before k r reply S X ≡ before → ShownPut present S X reply w.nodes
  unchanged present S X reply due same = record { due = due; history = h; shown = record { same = same; fits = is.fits; holds = is.holds } }

  nothing_put : (present : ℕ) (S : Option machine.Snapshot) → ShownPut present S None puts.Nothing w.nodes
  nothing_put present None = unchanged present None None puts.Nothing refl refl
  nothing_put present (Some s) = unchanged present (Some s) None puts.Nothing refl refl

  -- so it is of the put that the machine has
  abbrev IsPut : PutReply → List (List Replica) → Type 0
  IsPut reply nodes = ShownPut (generation_in its_entry) (before.snapshots k) (target_at before k r) reply nodes

  -- at a node that takes none
  none_put : target_at before k r ≡ None → IsPut puts.Nothing w.nodes
  none_put none = subst (λ X. ShownPut (generation_in its_entry) (before.snapshots k) X puts.Nothing w.nodes) (sym none) (nothing_put (generation_in its_entry) (before.snapshots k))

  module _ (e : Entry) (found : its_entry ≡ Some e) (complete : (slice_index e.complete r == 0) ≡ false) (alone : is_all e.attributes ≡ false) (elsewhere : is_active e.active r ≡ false) where
    -- the replica stands there
    there : (x : Replica) × (held_there ≡ Some x) × (complete_replica w.cluster w.nodes k r ≡ Some x)
    there = replica_shown E (h.origins k r) (slice_index (complete_of its_entry) r) held_there (is.facts.complete k r e found complete)

    abbrev x : Replica
    x = there.0

    abbrev X : ReplicaState
    X = record { sections = x.sections; effects = E; generation = x.generation; slot = shown_slot (h.origins k r) x.slot; marks = x.marks }

    its : FitsReplica k (Some e) E (Some x)
    its = subst (λ (z : Option Entry × Option Replica). FitsReplica k z.0 E z.1) (λ i. (found i, there.2 i)) (is.fits.replicas k r)

    target_is : target_at before k r ≡ Some X
    target_is = (λ i. target_of (found i) r (shown_replica E (h.origins k r) (there.2 i))) ∙ (λ i. cond (alone i || elsewhere i) None (Some X))

    -- nothing is staged on it, and no marks stand
    free : (x.slot ≡ None) × (x.marks ≡ None)
    free = let facts = is.facts.puts k r X target_is in (no_slot (h.origins k r) x.slot facts.0, facts.1)

    -- where a snapshot was pulled, it is of what the replica declares
    puttable : IsPuttable snap x
    puttable = record { free = free.0; unmarked = free.1; declared = by_room (background_in w.snapshots k) (subst (λ o. HasRoom o (background_in w.snapshots k)) found (is.keeps.each k)) }
      where
        by_pulled : (b : Background) (t : Bool) → b.snap.attributes ≡ e.attributes → IfSome (cond t (Some b.snap) None) (λ s. s.attributes ≡ x.attributes)
        by_pulled b true same = same ∙ sym its.1
        by_pulled b false same = tt

        by_room : (o : Option Background) → HasRoom (Some e) o → IfSome (where_pulled o) (λ s. s.attributes ≡ x.attributes)
        by_room None has = tt
        by_room (Some b) has = by_pulled b b.pulled has.1

    -- ---- where a snapshot was pulled

    module _ (s : Snapshot) (counted : length C ≡ s.count) where
      abbrev S : machine.Snapshot
      S = record { sections = s.sections; effects = C; generation = s.generation }

      -- what is due, by the counts that the code keeps
      due_at : (present old : Bool) → (s.generation == e.generation) ≡ present → is_older x s ≡ old →
          cond present (install_told (cond old (Ok tt) (Err (record { generation = x.generation; count = x.count }))) s.count) (puts.Stale s.generation e.generation) ≡ put_onto e.generation S X
      due_at present old present_is old_is =
          told_case present old s x e.generation ∙ (λ i. cond (not (sym present_is i)) (puts.Stale s.generation e.generation) (cond (sym old_is i) (puts.Ok s.count) (puts.Old x.generation x.count)))
          ∙ (λ i. cond (not (s.generation == e.generation)) (puts.Stale s.generation e.generation) (cond (nat_lt x.generation s.generation || ((x.generation == s.generation) && nat_lt (sym its.2 i) (sym counted i))) (puts.Ok (sym counted i)) (puts.Old x.generation (sym its.2 i))))

      abbrev installed_nodes : List (List Replica)
      installed_nodes = with_changed k r (installed s) w.nodes

      -- a replica that is not older stays as it was
      not_installed : is_older x s ≡ false → installed_nodes ≡ w.nodes
      not_installed older =
          let (xs, at) = there_is w.nodes r (node_within w.nodes k r x there.1) in
          ap (λ o. slice_set w.nodes r (change_key replica_key k (installed s) (list_or o))) at
          ∙ ap (slice_set w.nodes r) (change_same replica_key k (installed s) xs x (ap (λ o. find_key replica_key k (list_or o)) (sym at) ∙ there.1) (ap (λ b. cond b (taken_from s x) x) older))
          ∙ set_again w.nodes r xs at

      by_tests : (present old : Bool) → (s.generation == e.generation) ≡ present → is_older x s ≡ old →
          ShownPut e.generation (Some S) (Some X) (cond present (install_told (cond old (Ok tt) (Err (record { generation = x.generation; count = x.count }))) s.count) (puts.Stale s.generation e.generation)) (cond present installed_nodes w.nodes)
      by_tests true true present_is old_is =
          let is_taken : installed s x ≡ taken_from s x = ap (λ b. cond b (taken_from s x) x) old_is in
          let taken_fits : FitsReplica k (Some e) C (Some (taken_from s x)) = (its.0, its.1, counted, subst (FitsSlot s.count x.marks) (sym free.0) tt) in
          let shown = replica_changed w h is.fits k r e found complete x there.1 C (h.origins k r) is.holds (installed s) (installed_key s) (subst (λ y. FitsReplica k (Some e) C (Some y)) (sym is_taken) taken_fits) in
          record {
            due = due_at true true present_is old_is;
            history = with_effects_of w h is.fits k r e found complete x there.1 C (h.origins k r);
            shown = record { same = (λ i. record before { replicas = put2 before.replicas k r (shown_replica C (h.origins k r) (Some (sym is_taken i))) }) ∙ shown.same; fits = shown.fits; holds = shown.holds };
          }
      by_tests true false present_is old_is = subst (ShownPut e.generation (Some S) (Some X) (puts.Old x.generation x.count)) (sym (not_installed old_is)) (unchanged e.generation (Some S) (Some X) (puts.Old x.generation x.count) (due_at true false present_is old_is) refl)
      by_tests false old present_is old_is = unchanged e.generation (Some S) (Some X) (puts.Stale s.generation e.generation) (due_at false old present_is old_is) refl

    by_snapshot : (o : Option Snapshot) → FitsSnapshot C o → ShownPut e.generation (shown_snapshot C o) (Some X) (pulled_told e.generation o (Some x)) (nodes_installed k r e.generation o w.nodes)
    by_snapshot None counted = unchanged e.generation None (Some X) puts.Nothing refl refl
    by_snapshot (Some s) counted = by_tests s counted (s.generation == e.generation) (is_older x s) refl refl

    at_target : IsPut (pulled_told e.generation snap held_there) (nodes_installed k r e.generation snap w.nodes)
    at_target =
        subst (λ (z : Option Entry × Option ReplicaState × Option Replica). ShownPut (generation_in z.0) (snapshot_under z.0 (shown_snapshot C snap)) z.1 (pulled_told e.generation snap z.2) (nodes_installed k r e.generation snap w.nodes))
        (λ i. (sym found i, sym target_is i, sym there.1 i)) (by_snapshot snap (is.fits.copies k))

  -- ---- by whether the node takes puts

  put_by_tests : (e : Entry) → its_entry ≡ Some e → (none all active : Bool) → (slice_index e.complete r == 0) ≡ none → is_all e.attributes ≡ all → is_active e.active r ≡ active →
      IsPut (cond (not (none || all || active)) (pulled_told e.generation snap held_there) puts.Nothing) (cond (not (none || all || active)) (nodes_installed k r e.generation snap w.nodes) w.nodes)
      × (not (none || all || active) ≡ true → IsSomeAnd held_there (IsPuttable snap))
  put_by_tests e found true all active none_is all_is active_is = (
    none_put
        ((λ i. target_of (found i) r (shown_replica E (h.origins k r) (where_complete (slice_index (complete_of (found i)) r) held_there)))
        ∙ ap (λ b. target_of (Some e) r (shown_replica E (h.origins k r) (cond b None held_there))) none_is
        ∙ no_target (is_all e.attributes || is_active e.active r)),
    λ takes. absurd (cc takes),
  )
    where
      no_target : (b : Bool) → ◌≡◌ {A = Option ReplicaState} (cond b None None) None
      no_target true = refl
      no_target false = refl
  put_by_tests e found false true active none_is all_is active_is = (none_put ((λ i. target_of (found i) r (before.replicas k r)) ∙ ap (λ b. cond (b || is_active e.active r) None (before.replicas k r)) all_is), λ takes. absurd (cc takes))
  put_by_tests e found false false true none_is all_is active_is = (none_put ((λ i. target_of (found i) r (before.replicas k r)) ∙ (λ i. cond (all_is i || active_is i) None (before.replicas k r))), λ takes. absurd (cc takes))
  put_by_tests e found false false false none_is all_is active_is = (at_target e found none_is all_is active_is, λ takes. subst (λ y. IsSomeAnd y (IsPuttable snap)) (sym (there e found none_is all_is active_is).1) (puttable e found none_is all_is active_is))

  put_by_entry : (o : Option Entry) → its_entry ≡ o → IsPut (put_told o r snap held_there) (nodes_put k r o snap w.nodes) × CanPut o r snap held_there
  put_by_entry None gone = (none_put (λ i. target_of (gone i) r (before.replicas k r)), tt)
  put_by_entry (Some e) found = put_by_tests e found (slice_index e.complete r == 0) (is_all e.attributes) (is_active e.active r) refl refl refl

  -- what it tells and leaves, and what it asks
  put_shown : IsPut (put_told its_entry r snap held_there) (nodes_put k r its_entry snap w.nodes) × CanPut its_entry r snap held_there
  put_shown = put_by_entry its_entry refl

-- ---- the whole of a put

put_does : (w : World) (k r : ℕ) → let e = entry_of k w.cluster.entries in let s = pulled_in w.snapshots k in Does w (record w { nodes = nodes_put k r e s w.nodes }) (labels.Put k r (put_told e r s (replica_in w.nodes k r)))
put_does w k r = let reply = put_told (entry_of k w.cluster.entries) r (pulled_in w.snapshots k) (replica_in w.nodes k r) in record {
  due_is = λ m s f. subst (λ (m : Machine). IsDue m (labels.Put k r reply)) (sym s.same) (put_shown w s.history (known_by w m s f) k r).0.due;
  shows = λ m s f. let behind = (put_shown w s.history (known_by w m s f) k r).0 in record {
    history = behind.history;
    same = ap (λ (m : Machine). after m (labels.Put k r reply)) s.same ∙ behind.shown.same;
    fits = behind.shown.fits;
    holds = behind.shown.holds;
    keeps = s.keeps;
    rooms = s.rooms;
  };
}

-- what is asked of the world for it
pub can_put_shown : (w : World) (k r : ℕ) → IsShown w → CanPut (entry_of k w.cluster.entries) r (pulled_in w.snapshots k) (replica_in w.nodes k r)
can_put_shown w k r shown = (put_shown w shown.shows.history (known w shown) k r).1

-- with the parts as the code names them
pub put_done : (w : World) (k r : ℕ) (reply : PutReply) (nodes : List (List Replica)) → reply ≡ put_told (entry_of k w.cluster.entries) r (pulled_in w.snapshots k) (replica_in w.nodes k r) → nodes ≡ nodes_put k r (entry_of k w.cluster.entries) (pulled_in w.snapshots k) w.nodes → Propagates (IsPutOf k r) w (record w { nodes = nodes }) (labels.Put k r reply)
put_done w k r reply nodes reply_is nodes_are = record {
  label_is = (refl, refl);
  hands = refl;
  moment = refl;
  does = rw (reply_is, nodes_are) (put_does w k r);
}
