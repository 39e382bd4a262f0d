-- A node comes to lead a checkpoint, with what was held, where something was: what the world shows then.
use Rattle.std.proofs.Common.{◌≡◌, ℕ, List, Bool, true, false, cond, refl, sym, ap, subst, ◌∙◌}
use Rattle.std.specs.Prelude.{Option, Some, None, IsSome, ◌==◌, slice_index}
use Rattle.cluster_record.specs.declared.entries.Entry.{Entry}
use Rattle.cluster_record.specs.Places.{put2}
use Rattle.cluster_record.specs.RecordState.{entry_of, complete_of}
use Rattle.cluster_record.specs.StepDone.{generation_in}
use Rattle.ckpt_types.specs.declared.identities.CallId.{CallId}
use Rattle.replica.specs.Replicas.{Replica}
use Rattle.snap_copy.specs.Snapshots as copies
use Rattle.ckpt_machine.specs.Machine.{Machine, Effect, Snapshot}
use Rattle.ckpt_machine.specs.After.{change_replica, led_from, with_lead}
use Rattle.world_core.specs.declared.world.World.{World}
use Rattle.ckpt_machine.specs.Holding.{HoldsOnlyWhatStands}
use Rattle.ckpt_machine.specs.Leading.{leading, nodes_led, CanLead}
use Rattle.ckpt_machine.specs.Nodes.{replica_in, with_changed}
use Rattle.world_core.specs.Shows.{History, HistoryFits, machine_of}
use Rattle.ckpt_machine.specs.Shown.{FitsReplica, complete_replica, shown_replica, where_complete}
use Rattle.ckpt_machine.proofs.GoesAt.{zero_there}
use Rattle.world_core.proofs.ReplicaChanged.{IsShownBy, replica_changed}
use Rattle.ckpt_machine.proofs.LentReplicas.{unchanged}
use Rattle.ckpt_machine.proofs.Leads.{HeldAs, effects_led, leads_key, led_fits, led_free, led_state}

-- where the node has a replica
abbrev if_there : {X : Type 0} → Option Replica → X → X → X
if_there None then else = else
if_there (Some x) then else = then

-- the history in which the replica of a node leads, where the node has one
abbrev pub led_history : Option Replica → Option Snapshot → ℕ → ℕ → History → History
led_history y snapshot k r h = record h {
  effects = if_there y (put2 h.effects k r (effects_led snapshot (h.effects k r))) h.effects;
  origins = if_there y (put2 h.origins k r (h.origins k r)) h.origins;
}

module _ (v : World) (h : History) (fitting : HistoryFits v h) (standing : HoldsOnlyWhatStands v.cluster v.nodes) (k r : ℕ) (snapshot : Option Snapshot) (held : Option copies.Snapshot) (has : HeldAs snapshot held) (can : CanLead r held (replica_in v.nodes k r) (entry_of k v.cluster.entries)) where
  abbrev m : Machine
  m = machine_of v h

  abbrev its_entry : Option Entry
  its_entry = entry_of k v.cluster.entries

  abbrev E : List Effect
  E = h.effects k r

  abbrev o : CallId
  o = h.origins k r

  -- the machine behind it is shown by these nodes, which hold only what stands
  abbrev pub IsShownLed : List (List Replica) → Option Replica → Type 0
  IsShownLed nodes y = IsShownBy (led_from snapshot k r m) (record v { nodes = nodes }) (led_history y snapshot k r h)

  -- where the node has no complete replica nothing changes
  unled : complete_replica v.cluster v.nodes k r ≡ None → IsShownLed v.nodes (complete_replica v.cluster v.nodes k r)
  unled none = subst (IsShownLed v.nodes) (sym none) (record { same = ap (λ y. change_replica m k r (shown_replica E o y) (with_lead snapshot (generation_in its_entry))) none; fits = fitting; holds = standing })

  module _ (e : Entry) (found : its_entry ≡ Some e) (complete : (slice_index e.complete r == 0) ≡ false) where
    complete_as : complete_replica v.cluster v.nodes k r ≡ replica_in v.nodes k r
    complete_as = (λ i. where_complete (slice_index (complete_of (found i)) r) (replica_in v.nodes k r)) ∙ ap (λ b. cond b None (replica_in v.nodes k r)) complete

    abbrev f : Replica → Replica
    f = leading held e.generation

    led : (x : Replica) → replica_in v.nodes k r ≡ Some x → IsShownLed (with_changed k r f v.nodes) (Some x)
    led x there =
        let complete_is : complete_replica v.cluster v.nodes k r ≡ Some x = complete_as ∙ there in
        let its : FitsReplica k (Some e) E (Some x) = subst (λ (z : Option Entry × Option Replica). FitsReplica k z.0 E z.1) (λ i. (found i, complete_is i)) (fitting.replicas k r) in
        let free : IsSome held → x.slot ≡ None = led_free r held x e complete (subst (λ (z : Option Replica × Option Entry). CanLead r held z.0 z.1) (λ i. (there i, found i)) can) in
        let shown = replica_changed v h fitting k r e found complete x there (effects_led snapshot E) o standing f (leads_key held e.generation) (led_fits snapshot held has.effects has.same has.counts k e E x e.generation free its) in
        record {
          same = (λ i. change_replica m k r (shown_replica E o (complete_is i)) (with_lead snapshot (generation_in (found i))))
              ∙ ap (λ y. record m { replicas = put2 m.replicas k r y }) (led_state snapshot held has.effects has.same E o x e.generation) ∙ shown.same;
          fits = shown.fits;
          holds = shown.holds;
        }

    by_replica : (y : Option Replica) → replica_in v.nodes k r ≡ y → IsShownLed (with_changed k r f v.nodes) (complete_replica v.cluster v.nodes k r)
    by_replica None none = subst (λ nodes. IsShownLed nodes (complete_replica v.cluster v.nodes k r)) (sym (unchanged v.nodes k r f none)) (unled (complete_as ∙ none))
    by_replica (Some x) there = subst (IsShownLed (with_changed k r f v.nodes)) (sym (complete_as ∙ there)) (led x there)

  -- by what it has
  by_test : (e : Entry) → its_entry ≡ Some e → (b : Bool) → (slice_index e.complete r == 0) ≡ b → IsShownLed (cond b v.nodes (with_changed k r (leading held e.generation) v.nodes)) (complete_replica v.cluster v.nodes k r)
  by_test e found true none = unled ((λ i. where_complete (slice_index (complete_of (found i)) r) (replica_in v.nodes k r)) ∙ ap (λ b. cond b None (replica_in v.nodes k r)) none)
  by_test e found false complete = by_replica e found complete (replica_in v.nodes k r) refl

  by_entry : (o : Option Entry) → its_entry ≡ o → IsShownLed (nodes_led k r held o v.nodes) (complete_replica v.cluster v.nodes k r)
  by_entry None gone = unled ((λ i. where_complete (slice_index (complete_of (gone i)) r) (replica_in v.nodes k r)) ∙ ap (λ n. where_complete n (replica_in v.nodes k r)) (zero_there r))
  by_entry (Some e) found = by_test e found (slice_index e.complete r == 0) refl

  pub shown_led : IsShownLed (nodes_led k r held its_entry v.nodes) (complete_replica v.cluster v.nodes k r)
  shown_led = by_entry its_entry refl
