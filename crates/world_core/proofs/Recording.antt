-- What the world shows with another record.
use Rattle.std.proofs.Common.{◌≡◌, ℕ, List, sym, ap, subst, ◌∙◌}
use Rattle.std.specs.Prelude.{Option, Some, None, slice_index}
use Rattle.cluster_record.specs.declared.entries.Entry.{Entry}
use Rattle.replica.specs.Replicas.{Replica}
use Rattle.world_core.specs.declared.world.World.{World}
use Rattle.cluster_record.specs.RecordState.{RecordState, entry_of, complete_of}
use Rattle.ckpt_machine.specs.Nodes.{replica_in}
use Rattle.ckpt_machine.specs.After.{reservation_under, snapshot_under, with_record}
use Rattle.world_core.specs.declared.snapshots.Background.{Background}
use Rattle.world_core.specs.Backgrounds.{background_in, where_pulled, pulled_in, HasRoom, HaveRooms}
use Rattle.world_core.specs.Shows.{History, HistoryFits, machine_of}
use Rattle.ckpt_machine.specs.Shown.{FitsSnapshot, shown_reservation, shown_snapshot}
use Rattle.ckpt_machine.proofs.GoesAt.{GoesAt, copied_case, effects_under, record_fits_case, record_shown_case, reserved_case}

-- and of one that is gone nothing is kept
pub none_pulled : (o : Option Entry) (s : Option Background) → HasRoom o s → o ≡ None → where_pulled s ≡ None
none_pulled None s room gone = ap where_pulled room
none_pulled (Some e) s room gone = absurd (cc gone)

-- ---- the world with another record

abbrev pub with_effects : World → History → History
with_effects w h = record h { effects = λ k r. effects_under (slice_index (complete_of (entry_of k w.cluster.entries)) r) (h.effects k r) }

module _ (w : World) (h : History) (R : RecordState) (nodes : List (List Replica)) (backgrounds : List Background) (goes : (k r : ℕ) → GoesAt w.cluster.up k (entry_of k w.cluster.entries) (entry_of k R.entries) r (replica_in w.nodes k r) (replica_in nodes k r)) (up : R.up ≡ w.cluster.up)
    (keeps : HaveRooms w.cluster.entries w.snapshots) (pulled : (k : ℕ) → pulled_in backgrounds k ≡ pulled_in w.snapshots k) where
  -- the machine with the record after a step is the one that the nodes show with it
  pub record_is : with_record (machine_of w h) R ≡ machine_of (record w { cluster = R; nodes = nodes; snapshots = backgrounds }) (with_effects w h)
  record_is =
      let replicas = λ (k r : ℕ). record_shown_case w.cluster.up k (entry_of k w.cluster.entries) (entry_of k R.entries) r (h.effects k r) (h.origins k r) (replica_in w.nodes k r) (replica_in nodes k r) (goes k r) in
      let reserved = λ (k r : ℕ). reserved_case w.cluster.up k (entry_of k w.cluster.entries) (entry_of k R.entries) r (slice_index w.cluster.up r) (replica_in w.nodes k r) (replica_in nodes k r) (goes k r)
      ∙ ap (λ (us : List ℕ). reservation_under (entry_of k R.entries) r (shown_reservation (slice_index us r) (replica_in nodes k r))) (sym up) in
      let snapshots = λ (k : ℕ). copied_case (entry_of k w.cluster.entries) (entry_of k R.entries) (h.copied k) (pulled_in w.snapshots k) (none_pulled (entry_of k w.cluster.entries) (background_in w.snapshots k) (keeps.each k))
      ∙ ap (λ s. snapshot_under (entry_of k R.entries) (shown_snapshot (h.copied k) s)) (sym (pulled k)) in
      λ i. record (machine_of (record w { cluster = R; nodes = nodes; snapshots = backgrounds }) (with_effects w h)) { replicas = λ k r. replicas k r i; reserved = λ k r. reserved k r i; snapshots = λ k. snapshots k i }

  -- and they fit
  pub record_fits : HistoryFits w h → HistoryFits (record w { cluster = R; nodes = nodes; snapshots = backgrounds }) (with_effects w h)
  record_fits fits = record {
    replicas = λ k r. record_fits_case w.cluster.up k (entry_of k w.cluster.entries) (entry_of k R.entries) r (h.effects k r) (replica_in w.nodes k r) (replica_in nodes k r) (goes k r) (fits.replicas k r);
    copies = λ k. subst (FitsSnapshot (h.copied k)) (sym (pulled k)) (fits.copies k);
    hands = fits.hands;
  }
