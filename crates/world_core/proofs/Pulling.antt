-- A pull: what it tells is due, and what the world shows behind it.
use Rattle.std.proofs.Common.{◌≡◌, ℕ, Bool, true, false, List, length, [], ◌∷◌, refl, sym, ap, subst, ◌∙◌, cond, ◌≤◌}
use Rattle.std.specs.Prelude.{Option, Some, None, IsSomeAnd, is_some, ◌==◌, ◌||◌}
use Rattle.std.proofs.lemmas.Bool.{eqb-true}
use Rattle.ckpt_types.specs.declared.identities.CallId.{CallId}
use Rattle.run_labels.specs.declared.labels.Label.TheVariants as labels
use Rattle.run_labels.specs.declared.labels.PullReply.{PullReply}
use Rattle.run_labels.specs.declared.labels.PullReply.TheVariants as pulls
use Rattle.weak_marks.specs.Marks.{call_of}
use Rattle.cluster_record.specs.declared.entries.Entry.{Entry}
use Rattle.cluster_record.specs.Places.{change_key, put}
use Rattle.cluster_record.specs.RecordState.{entry_of}
use Rattle.cluster_record.proofs.Places.{find_changed, not_changed}
use Rattle.snap_copy.specs.Snapshots.{Snapshot}
use Rattle.replica.specs.Replicas.{Replica, pulled_from}
use Rattle.ckpt_machine.specs.Machine.{Machine, Effect, ReplicaState}
use Rattle.cluster_record.specs.Placement.{is_all}
use Rattle.ckpt_machine.specs.Propagation.{source_of, on_node, source_at, pull_unless, pull_reply, pull_answer, copied, with_pulled}
use Rattle.ckpt_machine.specs.After.{after, snapshot_under}
use Rattle.ckpt_machine.specs.Due.{IsDue}
use Rattle.ckpt_machine.proofs.OptionLemmas.{IsSomeAnd-at}
use Rattle.world_core.specs.declared.snapshots.Background.{Background}
use Rattle.world_core.specs.declared.world.World.{World}
use Rattle.world_core.specs.Backgrounds.{background_key, background_in, where_pulled, pulled_in, filled_unless, HasRoom, HaveRooms}
use Rattle.world_core.specs.Propagating.{snapshots_pulled, CanPull}
use Rattle.ckpt_machine.specs.Propagating.{source_in, pull_told}
use Rattle.world_core.specs.Happenings.{Propagates}
use Rattle.world_core.specs.Runs.{IsPulledOf}
use Rattle.world_core.specs.Shows.{Does, IsShown, History, HistoryFits, machine_of, snapshot_shown}
use Rattle.ckpt_machine.specs.Shown.{FitsReplica, FitsSnapshot, complete_replica, shown_replica, shown_slot, shown_snapshot}
use Rattle.world_core.proofs.CallSteps.{IsKnown, known, known_by}
use Rattle.node_core.proofs.OnceByKey.{counted-change_key}

-- ---- the snapshots, changed at one

-- a change that changes nothing leaves them as they were
change_nothing : {X : Type 0} (key : X → ℕ) (k : ℕ) (xs : List X) → change_key key k (λ x. x) xs ≡ xs
change_nothing key k [] = refl
change_nothing key k (x ∷ xs) = by_test (key x == k) (change_nothing key k xs)
  where
    by_test : (b : Bool) → change_key key k (λ x. x) xs ≡ xs → cond b (x ∷ xs) (x ∷ change_key key k (λ x. x) xs) ≡ x ∷ xs
    by_test true same = refl
    by_test false same = ap (λ xs. x ∷ xs) same

-- ---- where a pull takes a snapshot

-- the checkpoint has its updates on its active alone, which is on this node
pub source_entry : (o : Option Entry) (r : ℕ) → source_of o ≡ Some r → (e : Entry) × (o ≡ Some e) × (is_all e.attributes ≡ false)
source_entry None r is = absurd (cc is)
source_entry (Some e) r is = (e, refl, by_tests (is_some e.making) (is_all e.attributes) is)
  where
    by_tests : (making all : Bool) → cond (making || all) None e.active ≡ Some r → all ≡ false
    by_tests true all none = absurd (cc none)
    by_tests false true none = absurd (cc none)
    by_tests false false some = refl

-- so it has room for one
room_there : (e : Entry) (o : Option Background) → HasRoom (Some e) o → is_all e.attributes ≡ false → IsSomeAnd o (λ b. b.snap.attributes ≡ e.attributes)
room_there e None all none = absurd (let w : true ≡ false = sym all ∙ none in cc w)
room_there e (Some b) has none = has.1

module _ (w : World) (h : History) (is : IsKnown w h) (k : ℕ) where
  abbrev m : Machine
  m = machine_of w h

  abbrev entry : Option Entry
  entry = entry_of k w.cluster.entries

  abbrev on : ℕ → Option Replica
  on r = complete_replica w.cluster w.nodes k r

  -- a pull of this replica tells what is due, and the machine behind it is shown by these snapshots
  record ShownPull (x : Option ReplicaState) (is_due reply : PullReply) (backgrounds : List Background) : Type 0 where
    due : reply ≡ is_due
    history : History
    same : with_pulled m k reply x ≡ machine_of (record w { snapshots = backgrounds }) history
    fits : HistoryFits (record w { snapshots = backgrounds }) history

  module _ (r : ℕ) (from : Some r ≡ source_of entry) (x : Replica) (here : on r ≡ Some x) where
    abbrev E : List Effect
    E = h.effects k r

    abbrev X : ReplicaState
    X = record { sections = x.sections; effects = E; generation = x.generation; slot = shown_slot (h.origins k r) x.slot; marks = x.marks }

    declared : (e : Entry) × (entry ≡ Some e) × (is_all e.attributes ≡ false)
    declared = source_entry entry r (sym from)

    its : FitsReplica k (Some declared.0) E (Some x)
    its = subst (λ (z : Option Entry × Option Replica). FitsReplica k z.0 E z.1) (λ i. (declared.1 i, here i)) (is.fits.replicas k r)

    -- what it asks
    can : CanPull (Some x) (background_in w.snapshots k)
    can = subst (λ a. IsSomeAnd (background_in w.snapshots k) (λ b. b.snap.attributes ≡ a)) (sym its.1) (room_there declared.0 (background_in w.snapshots k) (subst (λ o. HasRoom o (background_in w.snapshots k)) declared.1 (is.keeps.each k)) declared.2)

    room : (b : Background) × (background_in w.snapshots k ≡ Some b) × (b.snap.attributes ≡ x.attributes)
    room = IsSomeAnd-at (background_in w.snapshots k) (λ b. b.snap.attributes ≡ x.attributes) can

    abbrev b : Background
    b = room.0

    abbrev then : List Background
    then = change_key background_key k (filled_unless None x) w.snapshots

    abbrev later : History
    later = record h { copied = put h.copied k E }

    pulled_case : (t : Bool) (o : Option Background) → where_pulled (cond t (Some (filled_unless None x b)) o) ≡ cond t (Some (pulled_from x b.snap)) (where_pulled o)
    pulled_case true o = refl
    pulled_case false o = refl

    -- of this checkpoint it was pulled, and of others what was pulled before
    pulled_then : (j : ℕ) → pulled_in then j ≡ cond (j == k) (Some (pulled_from x b.snap)) (pulled_in w.snapshots j)
    pulled_then j = ap where_pulled (find_changed background_key k (filled_unless None x) (λ b. refl) w.snapshots b j room.1) ∙ pulled_case (j == k) (background_in w.snapshots j)

    shown_case : (j : ℕ) (t : Bool) (F : List Effect) (s : Option Snapshot) → (t ≡ true → (e : Entry) × (entry_of j w.cluster.entries ≡ Some e)) →
        cond t (Some (copied X)) (snapshot_under (entry_of j w.cluster.entries) (shown_snapshot F s)) ≡ snapshot_under (entry_of j w.cluster.entries) (shown_snapshot (cond t E F) (cond t (Some (pulled_from x b.snap)) s))
    shown_case j true F s there = let (e, found) = there refl in sym (ap (λ o. snapshot_under o (shown_snapshot E (Some (pulled_from x b.snap)))) found)
    shown_case j false F s there = refl

    same_then : (j : ℕ) → put m.snapshots k (Some (copied X)) j ≡ snapshot_shown w.cluster then j (put h.copied k E j)
    same_then j =
        shown_case j (j == k) (h.copied j) (pulled_in w.snapshots j) (λ t. (declared.0, ap (λ j. entry_of j w.cluster.entries) (eqb-true j k t) ∙ declared.1))
        ∙ ap (λ s. snapshot_under (entry_of j w.cluster.entries) (shown_snapshot (put h.copied k E j) s)) (sym (pulled_then j))

    fits_case : (t : Bool) (F : List Effect) (s : Option Snapshot) → FitsSnapshot F s → FitsSnapshot (cond t E F) (cond t (Some (pulled_from x b.snap)) s)
    fits_case true F s fits = its.2
    fits_case false F s fits = fits

    -- marks hold it off
    by_call : (c : Option CallId) → ShownPull (Some X) (pull_unless c (length E)) (pull_unless c x.count) (change_key background_key k (filled_unless c x) w.snapshots)
    by_call (Some holder) = subst (ShownPull (Some X) (pulls.Held holder) (pulls.Held holder)) (sym (change_nothing background_key k w.snapshots)) (record { due = refl; history = h; same = refl; fits = is.fits })
    by_call None = record {
      due = ap pulls.Ok (sym its.2);
      history = later;
      same = λ i. record (machine_of (record w { snapshots = then }) later) { snapshots = λ j. same_then j i };
      fits = record {
        replicas = is.fits.replicas;
        copies = λ j. subst (FitsSnapshot (put h.copied k E j)) (sym (pulled_then j)) (fits_case (j == k) (h.copied j) (pulled_in w.snapshots j) (is.fits.copies j));
        hands = is.fits.hands;
      };
    }

  -- of the replica there, with what it asks
  pulled_at : (r : ℕ) → Some r ≡ source_of entry → (y : Option Replica) → on r ≡ y →
      (let X = shown_replica (h.effects k r) (h.origins k r) y in ShownPull X (pull_reply X) (pull_told y) (snapshots_pulled y k w.snapshots) × CanPull y (background_in w.snapshots k))
  pulled_at r from None here = (record { due = refl; history = h; same = refl; fits = is.fits }, tt)
  pulled_at r from (Some x) here = (by_call r from x here (call_of x.marks), can r from x here)

  pulled_by : (o : Option ℕ) → o ≡ source_of entry → (let X = on_node (m.replicas k) o in let y = on_node on o in ShownPull X (pull_reply X) (pull_told y) (snapshots_pulled y k w.snapshots) × CanPull y (background_in w.snapshots k))
  pulled_by None from = (record { due = refl; history = h; same = refl; fits = is.fits }, tt)
  pulled_by (Some r) from = pulled_at r from (on r) refl

  pull_shown : let y = source_in w.cluster w.nodes k in ShownPull (source_at m k) (pull_answer m k) (pull_told y) (snapshots_pulled y k w.snapshots) × CanPull y (background_in w.snapshots k)
  pull_shown = pulled_by (source_of entry) refl

-- ---- the rooms stay

module _ (c : Option CallId) (x : Replica) where
  attributes_same : (b : Background) → (filled_unless c x b).snap.attributes ≡ b.snap.attributes
  attributes_same b = elim c as (λ c. (filled_unless c x b).snap.attributes ≡ b.snap.attributes) [ None ↦ refl | Some holder ↦ refl ]

  key_same : (b : Background) → background_key (filled_unless c x b) ≡ background_key b
  key_same b = elim c as (λ c. background_key (filled_unless c x b) ≡ background_key b) [ None ↦ refl | Some holder ↦ refl ]

room_stays : (o : Option Entry) (a b : Background) → b.snap.attributes ≡ a.snap.attributes → HasRoom o (Some a) → HasRoom o (Some b)
room_stays None a b same has = absurd (cc has)
room_stays (Some e) a b same has = (has.0, same ∙ has.1)

rooms_filled : (entries : List Entry) (backgrounds : List Background) (k : ℕ) (c : Option CallId) (x : Replica) → HaveRooms entries backgrounds → HaveRooms entries (change_key background_key k (filled_unless c x) backgrounds)
rooms_filled entries backgrounds k c x keeps = record {
  each = λ j. by_found j (background_in backgrounds k) refl;
  once = λ j. subst (λ n. n ≤ 1) (sym (counted-change_key background_key k j (filled_unless c x) (key_same c x) backgrounds)) (keeps.once j);
}
  where
    by_test : (j : ℕ) (b : Background) → background_in backgrounds k ≡ Some b → (t : Bool) → (j == k) ≡ t → HasRoom (entry_of j entries) (cond t (Some (filled_unless c x b)) (background_in backgrounds j))
    by_test j b found false t = keeps.each j
    by_test j b found true t = room_stays (entry_of j entries) b (filled_unless c x b) (attributes_same c x b) (subst (HasRoom (entry_of j entries)) (ap (background_in backgrounds) (eqb-true j k t) ∙ found) (keeps.each j))

    by_found : (j : ℕ) (o : Option Background) → background_in backgrounds k ≡ o → HasRoom (entry_of j entries) (background_in (change_key background_key k (filled_unless c x) backgrounds) j)
    by_found j None none = subst (λ (ys : List Background). HasRoom (entry_of j entries) (background_in ys j)) (sym (not_changed background_key k (filled_unless c x) backgrounds none)) (keeps.each j)
    by_found j (Some b) found = subst (HasRoom (entry_of j entries)) (sym (find_changed background_key k (filled_unless c x) (key_same c x) backgrounds b j found)) (by_test j b found (j == k) refl)

pulled_rooms : (entries : List Entry) (backgrounds : List Background) (k : ℕ) (y : Option Replica) → HaveRooms entries backgrounds → HaveRooms entries (snapshots_pulled y k backgrounds)
pulled_rooms entries backgrounds k None keeps = keeps
pulled_rooms entries backgrounds k (Some x) keeps = rooms_filled entries backgrounds k (call_of x.marks) x keeps

-- ---- the whole of a pull

pull_does : (w : World) (k : ℕ) → let x = source_in w.cluster w.nodes k in Does w (record w { snapshots = snapshots_pulled x k w.snapshots }) (labels.Pulled k (pull_told x))
pull_does w k = let x = source_in w.cluster w.nodes k in record {
  due_is = λ m s f. subst (λ (m : Machine). IsDue m (labels.Pulled k (pull_told x))) (sym s.same) (pull_shown w s.history (known_by w m s f) k).0.due;
  shows = λ m s f. let behind = (pull_shown w s.history (known_by w m s f) k).0 in record {
    history = behind.history;
    same = ap (λ (m : Machine). after m (labels.Pulled k (pull_told x))) s.same ∙ behind.same;
    fits = behind.fits;
    holds = s.holds;
    keeps = pulled_rooms w.cluster.entries w.snapshots k x s.keeps;
    rooms = s.rooms;
  };
}

-- what is asked of the world for it
pub can_pull_shown : (w : World) (k : ℕ) → IsShown w → CanPull (source_in w.cluster w.nodes k) (background_in w.snapshots k)
can_pull_shown w k shown = (pull_shown w shown.shows.history (known w shown) k).1

-- with the parts as the code names them
pub pull_done : (w : World) (k : ℕ) (reply : PullReply) (backgrounds : List Background) → reply ≡ pull_told (source_in w.cluster w.nodes k) → backgrounds ≡ snapshots_pulled (source_in w.cluster w.nodes k) k w.snapshots → Propagates (IsPulledOf k) w (record w { snapshots = backgrounds }) (labels.Pulled k reply)
pull_done w k reply backgrounds reply_is backgrounds_are = record {
  label_is = refl;
  hands = refl;
  moment = refl;
  does = rw (reply_is, backgrounds_are) (pull_does w k);
}
