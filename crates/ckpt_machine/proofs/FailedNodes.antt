-- What the failure of a node leaves of the replicas that the nodes keep: what the machine has behind it.
use Rattle.std.proofs.Common.{◌≡◌, inl, inr, ℕ, ◌+◌, ◌≤◌, ◌==◌, Bool, true, false, cond, List, [], ◌∷◌, ◌++◌, length, filter, map, refl, sym, ap, subst, ◌∙◌, arith}
use Rattle.std.specs.Prelude.{Option, Some, None, is_some, IsSomeAnd, not, slice_get, slice_set, slice_index}
use Rattle.std.specs.Option.{option_map}
use Rattle.std.proofs.lemmas.Bool.{eqb-true}
use Rattle.std.proofs.lemmas.List.{length-append}
use Rattle.ckpt_types.specs.declared.identities.CallId.{CallId}
use Rattle.cluster_record.specs.declared.entries.Entry.{Entry}
use Rattle.cluster_record.specs.Failing.{failed}
use Rattle.cluster_record.specs.Identities.{IdentitiesRise}
use Rattle.cluster_record.specs.Places.{find_key, list_or}
use Rattle.cluster_record.specs.RecordState.{RecordState, entry_of, complete_of, is_active, is_live, swept}
use Rattle.replica.specs.Replicas.{Replica, opened_replica, abandoned}
use Rattle.stage_slot.specs.Slots.{Slot}
use Rattle.weak_marks.specs.Marks.{Marked}
use Rattle.node_core.specs.Failing.{is_cut_short, unless_cut_short, of_present, node_left}
use Rattle.node_core.specs.Failing as node
use Rattle.node_core.specs.Nodes.{is_there, replica_key}
use Rattle.ckpt_machine.specs.Failing.{broken, broken_unless, made_present, replica_left}
use Rattle.ckpt_machine.specs.Holding.{replicas_on, IsAwaited, IsReservation, IsHeld, HoldsOnlyWhatStands}
use Rattle.ckpt_machine.specs.Machine.{Effect, Broken, ReplicaState}
use Rattle.ckpt_machine.specs.Nodes.{replica_in, left_on_node, nodes_left}
use Rattle.ckpt_machine.specs.Shown.{FitsReplica, FitsSlot, complete_replica, reserved_in, shown_replica, shown_reservation, shown_slot, where_complete}
use Rattle.ckpt_machine.specs.Under.{opened_state, replica_under, replicas_under, reservation_under}
use Rattle.ckpt_machine.proofs.ByNumber.{at_number}
use Rattle.cluster_record.specs.Placement.{is_collocated}
use Rattle.ckpt_machine.proofs.FailedActive.{active_is, next_complete}
use Rattle.ckpt_machine.proofs.FailedClients.{up_other}
use Rattle.ckpt_machine.proofs.FailedEntries.{Failed, found_failed}
use Rattle.ckpt_machine.proofs.FreedNodes.{find_key-filter}
use Rattle.ckpt_machine.proofs.GoesAt.{zero_there, test_zero}
use Rattle.ckpt_machine.proofs.HoldingLaws.{StandsFor, held_at, holds_by_key, standing}
use Rattle.ckpt_machine.proofs.Lacking.{lacked_later}
use Rattle.ckpt_machine.proofs.NodeLists.{index-other}
use Rattle.node_core.proofs.OnceByKey.{counted, counted-cons, counted-filter}
use Rattle.ckpt_types.proofs.Lists.{slice_index-cleared}

-- ---- lists

-- what a change that keeps the key leaves of what is found
find_key-map : {X : Type 0} (key : X → ℕ) (g : X → X) → ((x : X) → key (g x) ≡ key x) → (k : ℕ) (xs : List X) → find_key key k (map g xs) ≡ option_map g (find_key key k xs)
find_key-map key g same k [] = refl
find_key-map key g same k (x ∷ xs) =
    ap (λ n. cond (n == k) (Some (g x)) (find_key key k (map g xs))) (same x)
    ∙ elim (key x == k) as (λ b. cond b (Some (g x)) (find_key key k (map g xs)) ≡ option_map g (cond b (Some x) (find_key key k xs))) [ true ↦ refl | false ↦ find_key-map key g same k xs ]

-- and of how often it is there
counted-map : {X : Type 0} (key : X → ℕ) (g : X → X) → ((x : X) → key (g x) ≡ key x) → (k : ℕ) (xs : List X) → counted key k (map g xs) ≡ counted key k xs
counted-map key g same k [] = refl
counted-map key g same k (x ∷ xs) =
    counted-cons key k (g x) (map g xs)
    ∙ (λ i. cond (same x i == k) 1 0 + counted-map key g same k xs i)
    ∙ sym (counted-cons key k x xs)

-- ---- a replica

-- the effects of one behind the failure: it counts a weak write that was cut short
abbrev pub effects_broken : RecordState → Option Marked → List Effect → List Effect
effects_broken R None E = E
effects_broken R (Some marked) E = cond (is_live R marked.call) E (E ++ Broken marked.call marked.update marked.moment marked.done ∷ [])

-- where there is one
abbrev pub effects_left : RecordState → Option Replica → List Effect → List Effect
effects_left R None E = E
effects_left R (Some x) E = effects_broken R x.marks E

-- one as the machine has it
abbrev state_of : List Effect → CallId → Replica → ReplicaState
state_of E o x = record { sections = x.sections; effects = E; generation = x.generation; slot = shown_slot o x.slot; marks = x.marks }

-- a weak write of it is cut short, or stays
broken_case : (R : RecordState) (E : List Effect) (o : CallId) (x : Replica) (marks : Option Marked) → broken_unless R marks (state_of E o x) ≡ state_of (effects_broken R marks E) o (cond (is_cut_short R marks) (abandoned x marks) x)
broken_case R E o x None = refl
broken_case R E o x (Some marked) =
    elim (is_live R marked.call) as (λ b. cond b (state_of E o x) (broken marked (state_of E o x)) ≡ state_of (cond b E (E ++ Broken marked.call marked.update marked.moment marked.done ∷ [])) o (cond (not b) (abandoned x (Some marked)) x)) [ true ↦ refl | false ↦ refl ]

-- and it gets the generation, or keeps its own
present_case : (q : ℕ) (E : List Effect) (o : CallId) (x : Replica) (e : Option Entry) → made_present e q (state_of E o x) ≡ state_of E o (of_present q e x)
present_case q E o x None = refl
present_case q E o x (Some e) = elim (is_active e.active q) as (λ b. cond b (record (state_of E o x) { generation = e.generation }) (state_of E o x) ≡ state_of E o (cond b (record x { generation = e.generation }) x)) [ true ↦ refl | false ↦ refl ]

-- so what is left of it is what the machine has
shown_left : (R : RecordState) (k q : ℕ) (E : List Effect) (o : CallId) (y : Option Replica) → ((x : Replica) → y ≡ Some x → x.ckpt ≡ k) → option_map (replica_left R k q) (shown_replica E o y) ≡ shown_replica (effects_left R y E) o (option_map (node.replica_left R q) y)
shown_left R k q E o None key = refl
shown_left R k q E o (Some x) key = ap Some (
    ap (made_present (entry_of k R.entries) q) (broken_case R E o x x.marks)
    ∙ present_case q (effects_broken R x.marks E) o (unless_cut_short R x) (entry_of k R.entries)
    ∙ ap (λ j. state_of (effects_broken R x.marks E) o (of_present q (entry_of j R.entries) (unless_cut_short R x))) (sym (key x refl)))

-- ---- what it keeps of itself

-- what neither a weak write that is cut short nor a generation changes is as it was
left_same : {X : Type 0} (P : Replica → X) → ((x : Replica) (marked : Marked) → P (abandoned x (Some marked)) ≡ P x) → ((x : Replica) (n : ℕ) → P (record x { generation = n }) ≡ P x) → (R : RecordState) (q : ℕ) (x : Replica) → P (node.replica_left R q x) ≡ P x
left_same {X} P cut led R q x = by_entry (entry_of x.ckpt R.entries) ∙ by_marks x.marks where
  by_entry : (e : Option Entry) → P (of_present q e (unless_cut_short R x)) ≡ P (unless_cut_short R x)
  by_entry None = refl
  by_entry (Some e) = elim (is_active e.active q) as (λ b. P (cond b (record (unless_cut_short R x) { generation = e.generation }) (unless_cut_short R x)) ≡ P (unless_cut_short R x)) [ true ↦ led (unless_cut_short R x) e.generation | false ↦ refl ]

  by_marks : (marks : Option Marked) → P (cond (is_cut_short R marks) (abandoned x marks) x) ≡ P x
  by_marks None = refl
  by_marks (Some marked) = elim (is_live R marked.call) as (λ b. P (cond (not b) (abandoned x (Some marked)) x) ≡ P x) [ true ↦ refl | false ↦ cut x marked ]

-- its checkpoint is
left_key : (R : RecordState) (q : ℕ) (x : Replica) → replica_key (node.replica_left R q x) ≡ replica_key x
left_key = left_same replica_key (λ x marked. refl) (λ x n. refl)

-- so are its attributes
left_attributes : (R : RecordState) (q : ℕ) (x : Replica) → (node.replica_left R q x).attributes ≡ x.attributes
left_attributes = left_same (λ (x : Replica). x.attributes) (λ x marked. refl) (λ x n. refl)

-- it counts its effects, and what is staged on it has its count
abbrev Counted : List Effect → Replica → Type 0
Counted E y = (length E ≡ y.count) × FitsSlot y.count y.marks y.slot

counts_left : (R : RecordState) (q : ℕ) (E : List Effect) (x : Replica) → length E ≡ x.count → FitsSlot x.count x.marks x.slot →
    Counted (effects_broken R x.marks E) (node.replica_left R q x)
counts_left R q E x counts fits = by_entry (entry_of x.ckpt R.entries) (by_marks x.marks counts fits fits) where
  by_entry : (e : Option Entry) → Counted (effects_broken R x.marks E) (unless_cut_short R x) → Counted (effects_broken R x.marks E) (of_present q e (unless_cut_short R x))
  by_entry None fits = fits
  by_entry (Some e) fits = elim (is_active e.active q) as (λ b. Counted (effects_broken R x.marks E) (cond b (record (unless_cut_short R x) { generation = e.generation }) (unless_cut_short R x))) [ true ↦ fits | false ↦ fits ]

  no_slot : (marked : Marked) (slot : Option Slot) → FitsSlot x.count (Some marked) slot → FitsSlot (x.count + 1) None slot
  no_slot marked None fits = tt
  no_slot marked (Some slot) fits = absurd (cc fits.1)

  by_marks : (marks : Option Marked) → length E ≡ x.count → FitsSlot x.count marks x.slot → FitsSlot x.count x.marks x.slot → Counted (effects_broken R marks E) (cond (is_cut_short R marks) (abandoned x marks) x)
  by_marks None counts fits own = (counts, own)
  by_marks (Some marked) counts fits own =
      let more : length (E ++ Broken marked.call marked.update marked.moment marked.done ∷ []) ≡ x.count + 1 = length-append E (Broken marked.call marked.update marked.moment marked.done ∷ []) ∙ ap (λ n. n + 1) counts in
      elim (is_live R marked.call) as (λ b. Counted (cond b E (E ++ Broken marked.call marked.update marked.moment marked.done ∷ [])) (cond (not b) (abandoned x (Some marked)) x)) [
        | true ↦ (counts, own)
        | false ↦ (more, no_slot marked x.slot fits)
      ]

-- ---- the nodes

module _ (R : RecordState) (r : ℕ) (nodes : List (List Replica)) where
  -- what is left of the replicas on a node
  abbrev left_on : ℕ → List Replica → List Replica
  left_on q xs = cond (q == r) [] (map (node.replica_left R q) (filter (is_there R.entries) xs))

  -- so it is of each
  on_left : (q : ℕ) → replicas_on (nodes_left R r nodes) q ≡ left_on q (replicas_on nodes q)
  on_left q =
      ap list_or (at_number (left_on_node R r) nodes q)
      ∙ by_node (slice_get nodes q)
    where
      by_node : (o : Option (List Replica)) → list_or (option_map (left_on q) o) ≡ left_on q (list_or o)
      by_node None = elim (q == r) as (λ b. ◌≡◌ {A = List Replica} [] (cond b [] [])) [ true ↦ refl | false ↦ refl ]
      by_node (Some xs) = refl

  -- and of the replica of a checkpoint there: it goes with its node, and with its checkpoint
  pub replica_in-left : (k q : ℕ) → replica_in (nodes_left R r nodes) k q ≡ cond (q == r) None (option_map (node.replica_left R q) (cond (is_some (entry_of k R.entries)) (replica_in nodes k q) None))
  replica_in-left k q =
      ap (find_key replica_key k) (on_left q)
      ∙ elim (q == r) as (λ b. find_key replica_key k (cond b [] (map (node.replica_left R q) (filter (is_there R.entries) (replicas_on nodes q)))) ≡ cond b None (option_map (node.replica_left R q) (cond (is_some (entry_of k R.entries)) (replica_in nodes k q) None))) [
        | true ↦ refl
        | false ↦ find_key-map replica_key (node.replica_left R q) (left_key R q) k (filter (is_there R.entries) (replicas_on nodes q))
            ∙ ap (option_map (node.replica_left R q)) (find_key-filter replica_key (λ k. is_some (entry_of k R.entries)) k (replicas_on nodes q))
      ]

  -- none is there more often than it was
  pub once_left : ((q k : ℕ) → counted replica_key k (replicas_on nodes q) ≤ 1) → (q k : ℕ) → counted replica_key k (replicas_on (nodes_left R r nodes) q) ≤ 1
  once_left once q k =
      subst (λ (xs : List Replica). counted replica_key k xs ≤ 1) (sym (on_left q))
      (elim (q == r) as (λ b. counted replica_key k (cond b [] (map (node.replica_left R q) (filter (is_there R.entries) (replicas_on nodes q)))) ≤ 1) [
        | true ↦ omega arith
        | false ↦
            let same = counted-map replica_key (node.replica_left R q) (left_key R q) k (filter (is_there R.entries) (replicas_on nodes q)) in
            let fewer = counted-filter replica_key (is_there R.entries) k (replicas_on nodes q) in
            let few = once q k in
            omega (arith, same, fewer, few)
      ])

-- ---- the world

module _ (counts : ℕ → ℕ → ℕ) (r : ℕ) (R : RecordState) (nodes : List (List Replica)) (rises : IdentitiesRise R.entries) (holds : HoldsOnlyWhatStands R nodes) where
  -- the record behind the failure
  abbrev N : RecordState
  N = swept (failed counts r R)

  -- what the nodes have then
  abbrev then_nodes : List (List Replica)
  then_nodes = nodes_left N r nodes

  -- a replica is found under its checkpoint
  key_is : (k q : ℕ) (x : Replica) → replica_in nodes k q ≡ Some x → x.ckpt ≡ k
  key_is k q x is = (held_at R nodes holds k q x is).1

  -- what a failure leaves of a checkpoint on one node: nothing where it is gone or the node is, else what it left of the replica, where the node is complete as it was
  pub data LeftAt (k q : ℕ) : Type 0 where
    Gone : entry_of k N.entries ≡ None → LeftAt k q
    Failing : (q == r) ≡ true → slice_index (complete_of (entry_of k N.entries)) q ≡ 0 → replica_in then_nodes k q ≡ None → LeftAt k q
    Stays : (f : Entry) → entry_of k N.entries ≡ Some f → (left : Failed counts r R rises k f) → (q == r) ≡ false → slice_index f.complete q ≡ slice_index left.before.complete q
        → replica_in then_nodes k q ≡ option_map (node.replica_left N q) (replica_in nodes k q) → LeftAt k q

  -- one of these
  pub left_at : (k q : ℕ) → LeftAt k q
  left_at k q = by_entry (entry_of k N.entries) refl where
    by_entry : (o : Option Entry) → entry_of k N.entries ≡ o → LeftAt k q
    by_entry None is = Gone is
    by_entry (Some f) is =
        let left = found_failed counts r R rises k f is in
        let has = replica_in-left N r nodes k q in
        elim (q == r) as (λ b. (q == r) ≡ b → LeftAt k q) [
          | true ↦ λ t. Failing t
              (ap (λ o. slice_index (complete_of o) q) is ∙ ap (λ cs. slice_index cs q) left.left.complete ∙ ap (λ i. slice_index (slice_set left.before.complete r 0) i) (eqb-true q r t) ∙ slice_index-cleared left.before.complete r)
              (has ∙ ap (λ b. cond b None (option_map (node.replica_left N q) (cond (is_some (entry_of k N.entries)) (replica_in nodes k q) None))) t)
          | false ↦ λ t. Stays f is left t
              (ap (λ cs. slice_index cs q) left.left.complete ∙ index-other left.before.complete r q 0 t)
              (has ∙ (λ i. cond (t i) None (option_map (node.replica_left N q) (cond (is_some (is i)) (replica_in nodes k q) None))))
        ] refl

  module _ (E : ℕ → ℕ → List Effect) (o : ℕ → ℕ → CallId) where
    -- the machine's replicas before it
    abbrev had : ℕ → ℕ → Option ReplicaState
    had k q = shown_replica (E k q) (o k q) (complete_replica R nodes k q)

    -- the effects behind it
    abbrev pub then_effects : ℕ → ℕ → List Effect
    then_effects k q = effects_left N (complete_replica R nodes k q) (E k q)

    stays_case : (k q : ℕ) (f : Entry) (n m : ℕ) → n ≡ m → (y : Option Replica) → ((x : Replica) → y ≡ Some x → x.ckpt ≡ k) →
        option_map (replica_left N k q) (cond (n == 0) None (cond (m == 0) (Some (opened_state f)) (shown_replica (E k q) (o k q) (where_complete m y)))) ≡ shown_replica (effects_left N (where_complete m y) (E k q)) (o k q) (where_complete n (option_map (node.replica_left N q) y))
    stays_case k q f n m same y key =
        subst (λ (j : ℕ). option_map (replica_left N k q) (cond (j == 0) None (cond (m == 0) (Some (opened_state f)) (shown_replica (E k q) (o k q) (where_complete m y)))) ≡ shown_replica (effects_left N (where_complete m y) (E k q)) (o k q) (where_complete j (option_map (node.replica_left N q) y))) (sym same)
        (elim (m == 0) as (λ b. option_map (replica_left N k q) (cond b None (cond b (Some (opened_state f)) (shown_replica (E k q) (o k q) (cond b None y)))) ≡ shown_replica (effects_left N (cond b None y) (E k q)) (o k q) (cond b None (option_map (node.replica_left N q) y))) [
          | true ↦ refl
          | false ↦ shown_left N k q (E k q) (o k q) y key
        ])

    -- so it is of a checkpoint on a node, by its entry and by what the node has of it
    abbrev Same : ℕ → ℕ → Option Entry → Option Replica → Type 0
    Same k q e z = option_map (replica_left N k q) (replica_under e (slice_index (complete_of (entry_of k R.entries)) q) q (had k q)) ≡ shown_replica (then_effects k q) (o k q) (where_complete (slice_index (complete_of e) q) z)

    -- what the nodes show behind it is what the machine has
    pub replicas_left : (k q : ℕ) → option_map (replica_left N k q) (replicas_under R N had k q) ≡ shown_replica (then_effects k q) (o k q) (complete_replica N then_nodes k q)
    replicas_left k q = by_left (left_at k q) where
      by_left : LeftAt k q → Same k q (entry_of k N.entries) (replica_in then_nodes k q)
      by_left (Gone is) = subst (λ (e : Option Entry). Same k q e (replica_in then_nodes k q)) (sym is) (sym (ap (λ b. shown_replica (then_effects k q) (o k q) (cond b None (replica_in then_nodes k q))) (test_zero (slice_index (complete_of None) q) (zero_there q))))
      by_left (Failing here unset none) = by_entry (entry_of k N.entries) unset where
        by_entry : (e : Option Entry) → slice_index (complete_of e) q ≡ 0 → Same k q e (replica_in then_nodes k q)
        by_entry None unset = sym (ap (λ b. shown_replica (then_effects k q) (o k q) (cond b None (replica_in then_nodes k q))) (test_zero (slice_index (complete_of None) q) unset))
        by_entry (Some f) unset =
            let t = test_zero (slice_index f.complete q) unset in
            ap (λ b. option_map (replica_left N k q) (cond b None (cond (slice_index (complete_of (entry_of k R.entries)) q == 0) (Some (opened_state f)) (had k q)))) t
            ∙ sym (ap (λ b. shown_replica (then_effects k q) (o k q) (cond b None (replica_in then_nodes k q))) t)
      by_left (Stays f is left other same z) =
          subst (λ (e : Option Entry). Same k q e (replica_in then_nodes k q)) (sym is)
          (subst (λ (y : Option Replica). Same k q (Some f) y) (sym z)
          (stays_case k q f (slice_index f.complete q) (slice_index (complete_of (entry_of k R.entries)) q) (same ∙ sym (ap (λ e. slice_index (complete_of e) q) left.was)) (replica_in nodes k q) (key_is k q)))

    fits_case : (k q : ℕ) (e f : Entry) → f.attributes ≡ e.attributes → (y : Option Replica) → FitsReplica k (Some e) (E k q) y → FitsReplica k (Some f) (effects_left N y (E k q)) (option_map (node.replica_left N q) y)
    fits_case k q e f same None fits = tt
    fits_case k q e f same (Some x) fits =
        let counted_so = counts_left N q (E k q) x fits.2 fits.3 in
        (left_key N q x ∙ fits.0, left_attributes N q x ∙ fits.1 ∙ sym same, counted_so.0, counted_so.1)

    -- so it fits, by its entry and by what the node has of it
    abbrev Fit : ℕ → ℕ → Option Entry → Option Replica → Type 0
    Fit k q e z = FitsReplica k e (then_effects k q) (where_complete (slice_index (complete_of e) q) z)

    -- and it fits
    pub fits_left : ((k q : ℕ) → FitsReplica k (entry_of k R.entries) (E k q) (complete_replica R nodes k q)) → (k q : ℕ) → FitsReplica k (entry_of k N.entries) (then_effects k q) (complete_replica N then_nodes k q)
    fits_left fits k q = by_left (left_at k q) where
      none_fits : (e : Option Entry) → slice_index (complete_of e) q ≡ 0 → Fit k q e (replica_in then_nodes k q)
      none_fits e unset = subst (λ (b : Bool). FitsReplica k e (then_effects k q) (cond b None (replica_in then_nodes k q))) (sym (test_zero (slice_index (complete_of e) q) unset)) tt

      by_left : LeftAt k q → Fit k q (entry_of k N.entries) (replica_in then_nodes k q)
      by_left (Gone is) = none_fits (entry_of k N.entries) (ap (λ o. slice_index (complete_of o) q) is ∙ zero_there q)
      by_left (Failing here unset none) = none_fits (entry_of k N.entries) unset
      by_left (Stays f is left other same z) =
          subst (λ (e : Option Entry). Fit k q e (replica_in then_nodes k q)) (sym is)
          (subst (λ (y : Option Replica). Fit k q (Some f) y) (sym z)
          (complete_case (slice_index f.complete q) (slice_index (complete_of (entry_of k R.entries)) q) (same ∙ sym (ap (λ e. slice_index (complete_of e) q) left.was))
          (subst (λ (e : Option Entry). FitsReplica k e (E k q) (complete_replica R nodes k q)) left.was (fits k q))))
        where
          complete_case : (n m : ℕ) → n ≡ m → FitsReplica k (Some left.before) (E k q) (where_complete m (replica_in nodes k q)) → FitsReplica k (Some f) (effects_left N (where_complete m (replica_in nodes k q)) (E k q)) (where_complete n (option_map (node.replica_left N q) (replica_in nodes k q)))
          complete_case n m same fits =
              subst (λ (j : ℕ). FitsReplica k (Some f) (effects_left N (where_complete m (replica_in nodes k q)) (E k q)) (where_complete j (option_map (node.replica_left N q) (replica_in nodes k q)))) (sym same)
              (elim (m == 0) as (λ b. FitsReplica k (Some left.before) (E k q) (cond b None (replica_in nodes k q)) → FitsReplica k (Some f) (effects_left N (cond b None (replica_in nodes k q)) (E k q)) (cond b None (option_map (node.replica_left N q) (replica_in nodes k q)))) [
                | true ↦ λ fits. tt
                | false ↦ λ fits. fits_case k q left.before f left.left.attributes (replica_in nodes k q) fits
              ] fits)

  -- ---- the reservations

  -- an incarnation other than that of the node stays
  up_same : (q : ℕ) → (q == r) ≡ false → slice_index N.up q ≡ slice_index R.up q
  up_same q other = index-other R.up r q 0 other

  shown_reserved : (u : ℕ) (q : ℕ) (y : Option Replica) → shown_reservation u (option_map (node.replica_left N q) y) ≡ shown_reservation u y
  shown_reserved u q None = refl
  shown_reserved u q (Some x) = refl

  under_case : (e f : Entry) (q : ℕ) (v : Option ℕ) → slice_index f.complete q ≡ slice_index e.complete q → reservation_under (Some f) q (reservation_under (Some e) q v) ≡ reservation_under (Some f) q v
  under_case e f q v same =
      ap (λ n. cond (n == 0) (cond (slice_index e.complete q == 0) v None) None) same
      ∙ elim (slice_index e.complete q == 0) as (λ b. cond b (cond b v None) None ≡ cond b v None) [ true ↦ refl | false ↦ refl ]
      ∙ sym (ap (λ n. cond (n == 0) v None) same)

  -- what is reserved behind it
  pub reserved_left : (k q : ℕ) → cond (q == r) None (reservation_under (entry_of k N.entries) q (reserved_in R nodes k q)) ≡ reserved_in N then_nodes k q
  reserved_left k q = by_left (left_at k q) where
    by_left : LeftAt k q → cond (q == r) None (reservation_under (entry_of k N.entries) q (reserved_in R nodes k q)) ≡ reserved_in N then_nodes k q
    by_left (Gone is) =
        ap (λ e. cond (q == r) None (reservation_under e q (reserved_in R nodes k q))) is
        ∙ elim (q == r) as (λ b. ◌≡◌ {A = Option ℕ} (cond b None None) None) [ true ↦ refl | false ↦ refl ]
        ∙ sym (ap (λ e. reservation_under e q (shown_reservation (slice_index N.up q) (replica_in then_nodes k q))) is)
    by_left (Failing here unset none) =
        ap (λ b. cond b None (reservation_under (entry_of k N.entries) q (reserved_in R nodes k q))) here
        ∙ by_entry (entry_of k N.entries)
        ∙ sym (ap (λ y. reservation_under (entry_of k N.entries) q (shown_reservation (slice_index N.up q) y)) none)
      where
        by_entry : (e : Option Entry) → None ≡ reservation_under e q None
        by_entry None = refl
        by_entry (Some f) = elim (slice_index f.complete q == 0) as (λ b. ◌≡◌ {A = Option ℕ} None (cond b None None)) [ true ↦ refl | false ↦ refl ]
    by_left (Stays f is left other same z) =
        ap (λ b. cond b None (reservation_under (entry_of k N.entries) q (reserved_in R nodes k q))) other
        ∙ (λ i. reservation_under (is i) q (reservation_under (left.was i) q (shown_reservation (slice_index R.up q) (replica_in nodes k q))))
        ∙ under_case left.before f q (shown_reservation (slice_index R.up q) (replica_in nodes k q)) same
        ∙ (λ i. reservation_under (Some f) q (shown_reservation (sym (up_same q other) i) (replica_in nodes k q)))
        ∙ ap (reservation_under (Some f) q) (sym (shown_reserved (slice_index N.up q) q (replica_in nodes k q)))
        ∙ (λ i. reservation_under (sym is i) q (shown_reservation (slice_index N.up q) (sym z i)))

  -- ---- what they hold

  module _ (led : (k q : ℕ) (e : Entry) → entry_of k R.entries ≡ Some e → e.active ≡ Some q → (slice_index e.complete q == 0) ≡ false) where
    -- what has been reserved is as it was
    reservation_left : (k q : ℕ) (f : Entry) → entry_of k N.entries ≡ Some f → is_active f.active q ≡ false → (x : Replica) → x.ckpt ≡ k → x.marks ≡ None → node.replica_left N q x ≡ x
    reservation_left k q f is idle x key unmarked =
        ap (λ marks. of_present q (entry_of x.ckpt N.entries) (cond (is_cut_short N marks) (abandoned x marks) x)) unmarked
        ∙ ap (λ o. of_present q o x) (ap (λ j. entry_of j N.entries) key ∙ is)
        ∙ ap (λ b. cond b (record x { generation = f.generation }) x) idle

    -- the nodes hold only what stands
    pub holds_left : HoldsOnlyWhatStands N then_nodes
    holds_left = holds_by_key N then_nodes each (once_left N r nodes holds.once) where
      each : (k q : ℕ) (x : Replica) → replica_in then_nodes k q ≡ Some x → IsHeld N q x
      each k q x has = by_left (left_at k q) where
        by_left : LeftAt k q → IsHeld N q x
        by_left (Gone is) = absurd (let no : Some x ≡ None = sym has ∙ replica_in-left N r nodes k q ∙ ap (λ o. cond (q == r) None (option_map (node.replica_left N q) (cond (is_some o) (replica_in nodes k q) None))) is ∙ none (q == r) in cc no) where
          none : (b : Bool) → cond b None (option_map (node.replica_left N q) None) ≡ None
          none true = refl
          none false = refl
        by_left (Failing here unset none) = absurd (let no : Some x ≡ None = sym has ∙ none in cc no)
        by_left (Stays f is left other same z) = by_old (replica_in nodes k q) refl (sym z ∙ has) where
          by_old : (y : Option Replica) → replica_in nodes k q ≡ y → option_map (node.replica_left N q) y ≡ Some x → IsHeld N q x
          by_old None was missing = absurd (cc missing)
          by_old (Some y) was now =
              let x_is : node.replica_left N q y ≡ x = (let same : Some (node.replica_left N q y) ≡ Some x = now in cc same) in
              let (held, key) = held_at R nodes holds k q y was in
              subst (IsHeld N q) x_is (record {
                up = up_other counts r R q other ∙ held.up;
                stands = subst (λ (o : Option Entry). IsSomeAnd o (StandsFor N q (node.replica_left N q y))) (sym (ap (λ j. entry_of j N.entries) (left_key N q y ∙ key) ∙ is)) (by_standing key (standing R nodes holds k q left.before y left.was was));
              })
            where
              -- a node that is not complete is not that of the active
              idle : slice_index left.before.complete q ≡ 0 → is_active f.active q ≡ false
              idle unset = by_active (is_active f.active q) refl
                where
                  none_before : (slice_index left.before.complete q == 0) ≡ true
                  none_before = test_zero (slice_index left.before.complete q) unset

                  by_failure : f.active ≡ Some q → (b : Bool) → is_active left.before.active r ≡ b → ⊥
                  by_failure leads true gone =
                      let there : (slice_index f.complete q == 0) ≡ false = next_complete (counts left.before.identity) left.before.attributes f.complete q (sym (left.left.gone gone).0 ∙ leads) in
                      let w : true ≡ false = sym none_before ∙ ap (λ i. i == 0) (sym same) ∙ there in cc w
                  by_failure leads false stays =
                      let w : true ≡ false = sym none_before ∙ led k q left.before left.was (sym (left.left.led stays).0 ∙ leads) in cc w

                  by_active : (b : Bool) → is_active f.active q ≡ b → is_active f.active q ≡ false
                  by_active false other = other
                  by_active true is = absurd (by_failure (active_is f.active q is) (is_active left.before.active r) refl)

              awaited_then : slice_index left.before.complete q ≡ 0 → IsAwaited q left.before → IsAwaited q f
              awaited_then unset (inl making) = inl (ap is_some left.left.making ∙ making)
              awaited_then unset (inr lacks) = inr (lacked_later q left.before f left.left.making (ap is_collocated left.left.attributes) (test_zero (slice_index f.complete q) (same ∙ unset)) lacks)

              by_standing : y.ckpt ≡ k → StandsFor R q y left.before → StandsFor N q (node.replica_left N q y) f
              by_standing key (inl complete) = inl (same ∙ complete ∙ sym (up_same q other))
              by_standing key (inr reservation) =
                  let as_it_was : node.replica_left N q y ≡ y = reservation_left k q f is (idle reservation.not_complete) y key (ap (λ (x : Replica). x.marks) reservation.opening) in
                  inr (subst (IsReservation f q) (sym as_it_was) (record {
                    awaited = awaited_then reservation.not_complete reservation.awaited;
                    not_complete = same ∙ reservation.not_complete;
                    opening = reservation.opening ∙ (λ i. opened_replica y.ckpt (sym left.left.attributes i) (sym left.left.since i));
                  }))
