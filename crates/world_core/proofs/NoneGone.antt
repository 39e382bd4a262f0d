-- Where no checkpoint is gone by a step of the record, nothing is to be freed behind it.
use Rattle.std.proofs.Common.{◌≡◌, ℕ, ◌+◌, Bool, true, false, List, [], ◌∷◌, ◌++◌, length, map, refl, sym, ap, subst, ◌∙◌, cond, arith}
use Rattle.std.specs.Prelude.{Option, Some, None, is_some, ◌==◌, filter}
use Rattle.std.specs.Option.{option_map}
use Rattle.std.proofs.lemmas.List.{length_push}
use Rattle.ckpt_types.specs.Limits.{checkpoints_max}
use Rattle.ckpt_types.specs.declared.attributes.CreationAttributes.{CreationAttributes}
use Rattle.ckpt_types.specs.declared.identities.CallId.{CallId}
use Rattle.node_msgs.specs.declared.next.RecordStep.{RecordStep}
use Rattle.node_msgs.specs.declared.next.RecordStep.TheVariants as events
use Rattle.cluster_record.specs.declared.entries.Entry.{Entry}
use Rattle.cluster_record.specs.LookUps.{identity_in}
use Rattle.cluster_record.specs.Placement.{adds}
use Rattle.cluster_record.specs.RecordState.{RecordState, identity_of, entry_of, named, home_of, new_entry, created_as}
use Rattle.cluster_record.specs.Identities.{AllUpTo, IdentitiesRise}
use Rattle.cluster_record.proofs.NameLaws.{named-entry}
use Rattle.ckpt_machine.specs.Drivers.{Driver}
use Rattle.ckpt_machine.specs.Drivers as drivers
use Rattle.cluster_record.specs.Placement.{is_all}
use Rattle.node_core.specs.Nodes.{replica_key}
use Rattle.replica.specs.Replicas.{Replica}
use Rattle.world_core.specs.declared.snapshots.Background.{Background}
use Rattle.world_core.specs.declared.world.World.{World}
use Rattle.world_core.specs.Backgrounds.{background_key, background_in, snapshot_room, backgrounds_left, HasRoom, HaveRooms, snapshots_behind, with_room_asked}
use Rattle.world_core.specs.Freeing.{freed_world}
use Rattle.ckpt_machine.specs.Nodes.{freed, replica_in, with_added, with_opened}
use Rattle.ckpt_machine.specs.Holding.{replicas_on, HoldsOnlyWhatStands}
use Rattle.ckpt_machine.specs.RecordAfter.{event_after, nodes_behind}
use Rattle.world_core.specs.Shows.{IsShown}
use Rattle.ckpt_machine.proofs.Adding.{added_replica}
use Rattle.world_core.proofs.CallSteps.{IsKnown, known}
use Rattle.ckpt_machine.proofs.HoldingLaws.{held_at}
use Rattle.ckpt_machine.proofs.KeptEntries.{declared, with_created, created_there, created_own, created_rises, event_declared}
use Rattle.ckpt_machine.proofs.LentReplicas.{has_one}
use Rattle.world_core.proofs.SnapshotRooms.{with_creation}
use Rattle.ckpt_machine.proofs.WholeLists.{has_more, staying, whole_by_key, whole_nodes, whole_pushed, whole_set}

-- what is declared is there where its checkpoint is
there_as : (o : Option Entry) → is_some (option_map declared o) ≡ is_some o
there_as None = refl
there_as (Some e) = refl

module _ (R : RecordState) (nodes : List (List Replica)) (backgrounds : List Background) (holds : HoldsOnlyWhatStands R nodes) (keeps : HaveRooms R.entries backgrounds) (rises : IdentitiesRise R.entries) (up_to : AllUpTo R.last_identity R.entries) where
  -- each checkpoint that has an entry stays
  abbrev Stay : List Entry → (ℕ → Bool) → Type 0
  Stay entries s = (k : ℕ) → is_some (entry_of k entries) ≡ true → s k ≡ true

  has_entry : (k r : ℕ) (o : Option Replica) → replica_in nodes k r ≡ o → is_some o ≡ true → is_some (entry_of k R.entries) ≡ true
  has_entry k r None is some = absurd cc
  has_entry k r (Some x) is some =
      let (held, own) = held_at R nodes holds k r x is in
      subst (λ (k : ℕ). is_some (entry_of k R.entries) ≡ true) own (has_one (entry_of x.ckpt R.entries) _ held.stands)

  nodes_on : (s : ℕ → Bool) → Stay R.entries s → (r : ℕ) → staying s (replicas_on nodes r) ≡ replicas_on nodes r
  nodes_on s stay r = whole_by_key replica_key s (replicas_on nodes r) (λ k is. stay k (has_entry k r (replica_in nodes k r) refl is))

  nodes_whole : (s : ℕ → Bool) → Stay R.entries s → map (staying s) nodes ≡ nodes
  nodes_whole s stay = whole_nodes (staying s) nodes (nodes_on s stay)

  opened_whole : (s : ℕ → Bool) → Stay R.entries s → (name : List ℕ) (r : ℕ) (o : Option Entry) → named name R.entries ≡ o → map (staying s) (with_opened o r nodes) ≡ with_opened o r nodes
  opened_whole s stay name r None found = nodes_whole s stay
  opened_whole s stay name r (Some e) found = by_test (adds e.attributes r e.complete) where
    added : map (staying s) (with_added e r nodes) ≡ with_added e r nodes
    added = whole_set (staying s) nodes r (replicas_on nodes r ++ added_replica e ∷ []) (nodes_whole s stay)
        (whole_pushed (λ (x : Replica). s (replica_key x)) (replicas_on nodes r) (added_replica e) (nodes_on s stay r) (stay e.identity (ap is_some (named-entry name R.entries e.identity rises (sym (ap identity_in found)) ∙ found))))

    by_test : (b : Bool) → map (staying s) (cond b (with_added e r nodes) nodes) ≡ cond b (with_added e r nodes) nodes
    by_test true = added
    by_test false = nodes_whole s stay

  kept_entry : (o : Option Entry) (b : Option Background) → HasRoom o b → is_some b ≡ true → is_some o ≡ true
  kept_entry None b none some = absurd (let is : is_some b ≡ false = ap is_some none in cc)
  kept_entry (Some e) b has some = refl

  kept_whole : (s : ℕ → Bool) → Stay R.entries s → filter (λ b. s (background_key b)) backgrounds ≡ backgrounds
  kept_whole s stay = whole_by_key background_key s backgrounds (λ k is. stay k (kept_entry (entry_of k R.entries) (background_in backgrounds k) (keeps.each k) is))

  room_whole : (s : ℕ → Bool) → Stay R.entries s → (k : ℕ) (a : CreationAttributes) → s k ≡ true → filter (λ b. s (background_key b)) (with_room_asked k (Some a) backgrounds) ≡ with_room_asked k (Some a) backgrounds
  room_whole s stay k a new = elim (is_all a) as (λ b. filter (λ b. s (background_key b)) (cond b backgrounds (backgrounds ++ snapshot_room k a ∷ [])) ≡ cond b backgrounds (backgrounds ++ snapshot_room k a ∷ [])) [
    | true ↦ kept_whole s stay
    | false ↦ whole_pushed (λ (b : Background). s (background_key b)) backgrounds (snapshot_room k a) (kept_whole s stay) new
  ]

  -- ---- by the step

  -- what is there of the entries, with the one that a creation adds
  abbrev with_new : CallId → Driver → RecordStep → List Entry
  with_new call x step = (with_created call x step R).entries

  -- so many more as identities are given
  count_new : (call : CallId) (x : Driver) (step : RecordStep) → length (with_new call x step) + R.last_identity ≡ length R.entries + (with_created call x step R).last_identity
  count_new = with_creation R backgrounds (λ N then. length N.entries + R.last_identity ≡ length R.entries + N.last_identity) refl (λ call name a. one_more R.entries (new_entry call name a R)) where
    one_more : (xs : List Entry) (new : Entry) → length (xs ++ new ∷ []) + R.last_identity ≡ length xs + (R.last_identity + 1)
    one_more xs new = let more : length (xs ++ new ∷ []) ≡ length xs + 1 = length_push xs new in omega (arith, more)

  -- what was there is among it
  before : (call : CallId) (name : List ℕ) (a : CreationAttributes) (s : ℕ → Bool) → Stay (created_as call name (Some a) R).entries s → Stay R.entries s
  before call name a s stay k is = stay k (ap is_some (created_there R up_to call name a k) ∙ has_more identity_of (k == (R.last_identity + 1)) (new_entry call name a R) (entry_of k R.entries) is)

  stay_old : (s : ℕ → Bool) (call : CallId) (x : Driver) (step : RecordStep) → Stay (with_new call x step) s → Stay R.entries s
  stay_old s = with_creation R backgrounds (λ N then. Stay N.entries s → Stay R.entries s) (λ stay. stay) (λ call name a. before call name a s)

  -- so where its replicas and snapshots stay by their checkpoints, all do
  nodes_stay : (s : ℕ → Bool) (call : CallId) (x : Driver) (step : RecordStep) → Stay R.entries s → map (staying s) (nodes_behind x step R nodes) ≡ nodes_behind x step R nodes
  nodes_stay s call (drivers.Open o) events.Open stay = opened_whole s stay o.ask.name (home_of o.ask.client R) (named o.ask.name R.entries) refl
  nodes_stay s call (drivers.Open o) step stay = nodes_whole s stay
  nodes_stay s call x step stay = nodes_whole s stay

  kept_stay : (s : ℕ → Bool) (call : CallId) (x : Driver) (step : RecordStep) → Stay (with_new call x step) s → filter (λ b. s (background_key b)) (snapshots_behind x step R backgrounds) ≡ snapshots_behind x step R backgrounds
  kept_stay s = with_creation R backgrounds (λ N then. Stay N.entries s → filter (λ b. s (background_key b)) then ≡ then) (kept_whole s) (λ call name a stay.
      room_whole s (before call name a s stay) (R.last_identity + 1) a (stay (R.last_identity + 1) (ap is_some (created_own R up_to call name a))))

  -- THE LAW: where entries and identities have become more by as many, or by none, each replica and each snapshot is of a checkpoint that is there
  pub nothing_freed : (call : CallId) (x : Driver) (step : RecordStep) → let N : RecordState = event_after call x step R in length N.entries + R.last_identity ≡ length R.entries + N.last_identity →
      (freed N.entries (nodes_behind x step R nodes) ≡ nodes_behind x step R nodes) × (backgrounds_left N.entries (snapshots_behind x step R backgrounds) ≡ snapshots_behind x step R backgrounds)
  nothing_freed call x step counts =
      let N : RecordState = event_after call x step R in
      let W : RecordState = with_created call x step R in
      let (up, last, clients, kept) = event_declared R call x step in
      let given : N.last_identity ≡ W.last_identity = last in
      let count : length W.entries + R.last_identity ≡ length R.entries + W.last_identity = count_new call x step in
      let same : length N.entries + R.last_identity ≡ length R.entries + N.last_identity = counts in
      let s = λ (k : ℕ). is_some (entry_of k N.entries) in
      let stay = λ (k : ℕ) (is : is_some (entry_of k W.entries) ≡ true). sym (there_as (entry_of k N.entries)) ∙ ap is_some ((kept (created_rises R rises up_to call x step)).all (omega (arith, count, same, given)) k) ∙ there_as (entry_of k W.entries) ∙ is in
      (nodes_stay s call x step (stay_old s call x step stay), kept_stay s call x step stay)

-- and the world stays as it is
pub none_freed : (w new : World) (call : CallId) (x : Driver) (step : RecordStep) (before : ℕ) → IsShown w →
    new.cluster ≡ event_after call x step w.cluster → new.nodes ≡ nodes_behind x step w.cluster w.nodes → new.snapshots ≡ snapshots_behind x step w.cluster w.snapshots →
    before + length w.cluster.entries ≡ w.cluster.last_identity + checkpoints_max → before + length new.cluster.entries ≡ new.cluster.last_identity + checkpoints_max → freed_world new ≡ new
none_freed w new call x step before shown record_is nodes_are snapshots_are was is =
    let is_known : IsKnown w shown.shows.history = known w shown in
    let a : before + length w.cluster.entries ≡ w.cluster.last_identity + checkpoints_max = was in
    let b : before + length new.cluster.entries ≡ new.cluster.last_identity + checkpoints_max = is in
    let counts : length new.cluster.entries + w.cluster.last_identity ≡ length w.cluster.entries + new.cluster.last_identity = omega (arith, a, b) in
    let none = nothing_freed w.cluster w.nodes w.snapshots is_known.holds is_known.keeps is_known.facts.rises is_known.facts.up_to call x step (subst (λ (N : RecordState). length N.entries + w.cluster.last_identity ≡ length w.cluster.entries + N.last_identity) record_is counts) in
    let nodes_stay : freed new.cluster.entries new.nodes ≡ new.nodes = (λ i. freed (record_is i).entries (nodes_are i)) ∙ none.0 ∙ sym nodes_are in
    let kept_stay : backgrounds_left new.cluster.entries new.snapshots ≡ new.snapshots = (λ i. backgrounds_left (record_is i).entries (snapshots_are i)) ∙ none.1 ∙ sym snapshots_are in
    λ i. record new { nodes = nodes_stay i; snapshots = kept_stay i }
