-- What the world shows when the replicas and the snapshots of checkpoints that are gone are freed: the same.
use Rattle.std.proofs.Common.{◌≡◌, ℕ, Bool, true, false, cond, List, refl, sym, ap, subst, ◌∙◌, arith}
use Rattle.std.specs.Prelude.{Option, Some, None, is_some}
use Rattle.cluster_record.specs.declared.entries.Entry.{Entry}
use Rattle.cluster_record.specs.RecordState.{RecordState, entry_of}
use Rattle.run_labels.specs.declared.labels.Label.{Label}
use Rattle.world_core.specs.declared.world.World.{World}
use Rattle.world_core.specs.Freeing.{freed_world}
use Rattle.ckpt_machine.specs.Nodes.{freed}
use Rattle.ckpt_machine.specs.Machine.{Machine, Effect}
use Rattle.world_core.specs.declared.snapshots.Background.{Background}
use Rattle.world_core.specs.Backgrounds.{background_key, background_in, where_pulled, pulled_in, backgrounds_left, HasRoom, HasRoomWhere, HaveRooms, HaveRoomsWhere}
use Rattle.world_core.specs.LiveRooms.{LiveHaveRoom}
use Rattle.ckpt_machine.specs.Holding.{HoldsOnlyWhatStands}
use Rattle.ckpt_machine.specs.Facts.{Facts}
use Rattle.world_core.specs.Shows.{History, machine_of, snapshot_shown, HistoryFits, Shows, Does}
use Rattle.ckpt_machine.specs.Shown.{shown_replica, shown_snapshot, FitsReplica, FitsSnapshot}
use Rattle.ckpt_machine.specs.After.{after, snapshot_under}
use Rattle.ckpt_machine.specs.Due.{IsDue}
use Rattle.ckpt_machine.proofs.FreedNodes.{complete_replica-freed, find_key-filter, reserved_in-freed}
use Rattle.node_core.proofs.OnceByKey.{counted-filter}

-- ---- the background snapshots

-- what is kept of a checkpoint that is there is the same, and nothing is kept of one that is gone
pub background_in-left : (entries : List Entry) (backgrounds : List Background) (k : ℕ) → background_in (backgrounds_left entries backgrounds) k ≡ cond (is_some (entry_of k entries)) (background_in backgrounds k) None
background_in-left entries backgrounds k = find_key-filter background_key (λ k. is_some (entry_of k entries)) k backgrounds

left_shown_case : (o : Option Entry) (E : List Effect) (s : Option Background) → snapshot_under o (shown_snapshot E (where_pulled (cond (is_some o) s None))) ≡ snapshot_under o (shown_snapshot E (where_pulled s))
left_shown_case None E s = refl
left_shown_case (Some e) E s = refl

-- the same are shown
pub snapshot_shown-left : (R : RecordState) (backgrounds : List Background) (k : ℕ) (E : List Effect) → snapshot_shown R (backgrounds_left R.entries backgrounds) k E ≡ snapshot_shown R backgrounds k E
snapshot_shown-left R backgrounds k E =
    ap (λ s. snapshot_under (entry_of k R.entries) (shown_snapshot E (where_pulled s))) (background_in-left R.entries backgrounds k)
    ∙ left_shown_case (entry_of k R.entries) E (background_in backgrounds k)

fits_left_case : (b : Bool) (E : List Effect) (s : Option Background) → FitsSnapshot E (where_pulled s) → FitsSnapshot E (where_pulled (cond b s None))
fits_left_case true E s fits = fits
fits_left_case false E s fits = tt

-- and they count the same effects
pub fits_left : (entries : List Entry) (backgrounds : List Background) (k : ℕ) (E : List Effect) → FitsSnapshot E (pulled_in backgrounds k) → FitsSnapshot E (pulled_in (backgrounds_left entries backgrounds) k)
fits_left entries backgrounds k E fits =
    subst (λ s. FitsSnapshot E (where_pulled s)) (sym (background_in-left entries backgrounds k)) (fits_left_case (is_some (entry_of k entries)) E (background_in backgrounds k) fits)

left_room_case : (o : Option Entry) (s : Option Background) → HasRoomWhere o s → HasRoom o (cond (is_some o) s None)
left_room_case None s has = refl
left_room_case (Some e) s has = has

-- where each checkpoint that is there has its room, no other is kept once they are freed
pub rooms_left : (entries : List Entry) (backgrounds : List Background) → HaveRoomsWhere entries backgrounds → HaveRooms entries (backgrounds_left entries backgrounds)
rooms_left entries backgrounds has = record {
  each = λ k. subst (HasRoom (entry_of k entries)) (sym (background_in-left entries backgrounds k)) (left_room_case (entry_of k entries) (background_in backgrounds k) (has.each k));
  once = λ k. let fewer = counted-filter background_key (λ b. is_some (entry_of b.ckpt entries)) k backgrounds in let few = has.once k in omega (arith, fewer, few);
}

-- ---- the world

-- it shows the same
pub machine_of-freed : (w : World) (h : History) → machine_of (freed_world w) h ≡ machine_of w h
machine_of-freed w h = λ i. record (machine_of w h) {
  replicas = λ k r. shown_replica (h.effects k r) (h.origins k r) (complete_replica-freed w.cluster w.nodes k r i);
  reserved = λ k r. reserved_in-freed w.cluster w.nodes k r i;
  snapshots = λ k. snapshot_shown-left w.cluster w.snapshots k (h.copied k) i;
}

-- with the same histories
pub Fits-freed : (w : World) (h : History) → HistoryFits w h → HistoryFits (freed_world w) h
Fits-freed w h fits = record {
  replicas = λ k r. subst (FitsReplica k (entry_of k w.cluster.entries) (h.effects k r)) (sym (complete_replica-freed w.cluster w.nodes k r)) (fits.replicas k r);
  copies = λ k. fits_left w.cluster.entries w.snapshots k (h.copied k) (fits.copies k);
  hands = fits.hands;
}

-- ---- a step behind which the nodes are freed

-- what it does before that: the nodes may hold what is gone
pub record DoesBefore (old new : World) (label : Label) : Type 0 where
  pub due_is : (m : Machine) → Shows old m → Facts m → IsDue m label
  pub history : (m : Machine) → Shows old m → Facts m → History
  pub same : (m : Machine) (s : Shows old m) (f : Facts m) → after m label ≡ machine_of new (history m s f)
  pub fits : (m : Machine) (s : Shows old m) (f : Facts m) → HistoryFits new (history m s f)

-- and where the nodes hold only what stands, the checkpoints have the room for their snapshots, and the live clients theirs
pub does_before : (old new : World) (label : Label) → DoesBefore old new label → ((m : Machine) → Shows old m → Facts m → HoldsOnlyWhatStands new.cluster new.nodes) → ((m : Machine) → Shows old m → Facts m → HaveRooms new.cluster.entries new.snapshots) → ((m : Machine) → Shows old m → Facts m → LiveHaveRoom new.cluster new.tables) → Does old new label
does_before old new label does holds keeps rooms = record {
  due_is = does.due_is;
  shows = λ m s f. record { history = does.history m s f; same = does.same m s f; fits = does.fits m s f; holds = holds m s f; keeps = keeps m s f; rooms = rooms m s f };
}

-- as they do once they are freed
pub does_freed : (old new : World) (label : Label) → DoesBefore old new label → ((m : Machine) → Shows old m → Facts m → HoldsOnlyWhatStands new.cluster (freed new.cluster.entries new.nodes)) → ((m : Machine) → Shows old m → Facts m → HaveRoomsWhere new.cluster.entries new.snapshots) → ((m : Machine) → Shows old m → Facts m → LiveHaveRoom new.cluster new.tables) → Does old (freed_world new) label
does_freed old new label does holds has rooms = does_before old (freed_world new) label
    (record {
      due_is = does.due_is;
      history = does.history;
      same = λ m s f. does.same m s f ∙ sym (machine_of-freed new (does.history m s f));
      fits = λ m s f. Fits-freed new (does.history m s f) (does.fits m s f);
    })
    holds (λ m s f. rooms_left new.cluster.entries new.snapshots (has m s f)) rooms
