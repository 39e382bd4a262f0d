-- A new world shows the empty cluster.
use Rattle.std.proofs.Common.{◌≡◌, ℕ, true, false, List, [], refl, sym, ap, subst, ◌∙◌, arith}
use Rattle.std.specs.Prelude.{None, pos}
use Rattle.ckpt_types.specs.declared.identities.ActorName.{ActorName}
use Rattle.ckpt_types.specs.declared.identities.ActorName.TheVariants.{Client, Node}
use Rattle.ckpt_types.specs.declared.identities.CallId.{CallId}
use Rattle.ckpt_types.specs.declared.identities.Who.{Who}
use Rattle.call_dispatch.specs.PendingCalls.{no_pending}
use Rattle.world_core.specs.declared.world.World.{World}
use Rattle.cluster_record.specs.RecordState.{RecordState, entry_of, is_live_client}
use Rattle.cluster_record.specs.DueOnce.{Leave}
use Rattle.ckpt_machine.specs.Drivers.{Once}
use Rattle.ckpt_machine.specs.Nodes.{replica_in}
use Rattle.ckpt_machine.specs.Machine.{empty_cluster, no_tables}
use Rattle.ckpt_machine.specs.Due.{room_in}
use Rattle.world_core.specs.declared.snapshots.Background.{Background}
use Rattle.world_core.specs.Backgrounds.{pulled_in, HaveRooms}
use Rattle.world_core.specs.Shows.{Beginning, History, Shows, HistoryFits, snapshot_shown, FitsHand, machine_of, hand_of, next_of, pending_of, shown_hand, tables_of}
use Rattle.ckpt_machine.specs.Shown.{FitsReplica, FitsSnapshot, complete_replica, reserved_in, shown_replica, where_complete}
use Rattle.world_core.specs.Runs.{IsNew, IsRunTo}
use Rattle.ckpt_machine.proofs.HoldingLaws.{nothing_held}
use Rattle.ckpt_machine.proofs.GoesAt.{zero_there}

-- no call has begun yet
abbrev no_call : CallId
no_call = record { actor = Client 0; number = 0 }

abbrev none_has_begun : Beginning
none_has_begun = record { kept = record { ckpt = None; room = room_in None; all = false; weak = false; declares = None; node = 0; moment = pos 0 }; driver = Once Leave }

abbrev nothing : History
nothing = record { effects = λ k r. []; origins = λ k r. no_call; copied = λ k. []; beginnings = λ a. none_has_begun; steps = λ a. []; created = λ a. None; pulled = λ a. None }

module _ (w : World) (new : IsNew w) where
  no_replica : (k r : ℕ) → complete_replica w.cluster w.nodes k r ≡ None
  no_replica k r = ap (λ R. complete_replica R w.nodes k r) new.cluster ∙ ap (λ (n : ℕ). where_complete n (replica_in w.nodes k r)) (zero_there r)

  keeps : (a : ActorName) → no_tables ≡ tables_of w.tables a
  keeps (Client c) = sym (new.tables c)
  keeps (Node r) = refl

  nexts : (a : ActorName) → 1 ≡ next_of w a
  nexts (Client c) = sym (new.next c)
  nexts (Node r) = sym (new.numbers r)

  pendings : (a : ActorName) → no_pending ≡ pending_of w.tables a
  pendings (Client c) = sym (new.pending c)
  pendings (Node r) = refl

  hands : (v : Who) → None ≡ hand_of nothing w.hands v
  hands v = sym (ap (shown_hand none_has_begun [] None None) (new.hands v))

  shows_nothing : empty_cluster ≡ machine_of w nothing
  shows_nothing =
      let replicas = λ (k r : ℕ). sym (ap (shown_replica [] no_call) (no_replica k r)) in
      let reserved = λ (k r : ℕ). sym (ap (λ R. reserved_in R w.nodes k r) new.cluster) in
      let copies : (k : ℕ) → None ≡ snapshot_shown w.cluster w.snapshots k [] = λ k. sym (λ i. snapshot_shown (new.cluster i) (new.snapshots i) k []) in
      λ i. record {
        cluster = sym new.cluster i;
        replicas = λ k r. replicas k r i;
        reserved = λ k r. reserved k r i;
        snapshots = λ k. copies k i;
        tables = λ a. keeps a i;
        pending = λ a. pendings a i;
        next = λ a. nexts a i;
        in_hand = λ v. hands v i;
      }

  fits_nothing : HistoryFits w nothing
  fits_nothing = record {
    replicas = λ k r. subst (FitsReplica k (entry_of k w.cluster.entries) []) (sym (no_replica k r)) tt;
    copies = λ k. subst (λ (backgrounds : List Background). FitsSnapshot [] (pulled_in backgrounds k)) (sym new.snapshots) tt;
    hands = λ v. subst (FitsHand none_has_begun [] None None) (sym (new.hands v)) tt;
  }

  none_live : (c : ℕ) → is_live_client c w.cluster ≡ true → ⊥
  none_live c live = let e : false ≡ true = sym (ap (is_live_client c) new.cluster) ∙ live in cc

  -- a new world shows the empty cluster
  pub new_shows : Shows w empty_cluster
  new_shows = record { history = nothing; same = shows_nothing; fits = fits_nothing; holds = nothing_held w.cluster w.nodes new.nodes; keeps = subst (λ (z : RecordState × List Background). HaveRooms z.0.entries z.1) (λ i. (sym new.cluster i, sym new.snapshots i)) (record { each = λ k. refl; once = λ k. omega arith }); rooms = λ c live. absurd (none_live c live) }

-- no label yet is a run to it
pub new_run : (w : World) → IsNew w → IsRunTo w []
new_run w new = record { run = tt; shows = new_shows w new }
