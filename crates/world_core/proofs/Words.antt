-- The labels that answer without a call: the words in place of a call, and the first nodes coming up.
use Rattle.std.proofs.Common.{◌≡◌, ℕ, ◌<◌, ◌≤◌, refl, sym, ap, subst, ◌∙◌}
use Rattle.std.specs.Prelude.{Option, Some, None}
use Rattle.ckpt_types.specs.declared.identities.Who.{Who}
use Rattle.ckpt_types.specs.Limits.{nodes_max}
use Rattle.run_labels.specs.declared.labels.Label.TheVariants.{Nodes}
use Rattle.cluster_record.specs.declared.entries.Entry.{Entry}
use Rattle.world_core.specs.declared.world.World.{World}
use Rattle.cluster_record.specs.RecordState.{RecordState, entry_of, brought_up, empty_record}
use Rattle.ckpt_machine.specs.Machine.{Machine}
use Rattle.ckpt_machine.specs.After.{after, reservation_under}
use Rattle.world_core.specs.HandsState.{hand_at}
use Rattle.world_core.specs.Shows.{Does, History, machine_of, shown_hand}
use Rattle.ckpt_machine.specs.Shown.{reserved_in}
use Rattle.ckpt_machine.proofs.HoldingLaws.{held_by_none}

-- the machine has no call in hand under a name where there is none
pub none_in_hand : (w : World) (h : History) (v : Who) → hand_at w.hands v ≡ None → (machine_of w h).in_hand v ≡ None
none_in_hand w h v free = ap (shown_hand (h.beginnings v) (h.steps v) (h.created v) (h.pulled v)) free

-- ---- the first nodes come up

none_under : (e : Option Entry) (r : ℕ) (x y : Option ℕ) → e ≡ None → reservation_under e r x ≡ reservation_under e r y
none_under None r x y is = refl
none_under (Some e) r x y is = absurd (cc is)

-- the first nodes come up in a cluster in which nothing has happened
pub nodes_done : (w : World) (n : ℕ) (R : RecordState) → 0 < n → n ≤ nodes_max → w.cluster ≡ empty_record → R ≡ brought_up n w.cluster → Does w (record w { cluster = R }) (Nodes n)
nodes_done w n R some few empty R_is = subst (λ (R : RecordState). Does w (record w { cluster = R }) (Nodes n)) (sym R_is) (record {
  due_is = λ m s f. (some, few, ap (λ (m : Machine). m.cluster.last_incarnations) s.same ∙ ap (λ (R : RecordState). R.last_incarnations) empty);
  shows = λ m s f. record {
    history = s.history;
    same = ap (λ m. after m (Nodes n)) s.same ∙ (λ i. record (machine_of (record w { cluster = brought_up n w.cluster }) s.history) { reserved = λ k r. same k r i });
    fits = record { replicas = s.fits.replicas; copies = s.fits.copies; hands = s.fits.hands };
    holds = held_by_none w.cluster (brought_up n w.cluster) w.nodes (ap (λ (R : RecordState). R.entries) empty) s.holds;
    keeps = s.keeps;
    rooms = s.rooms;
  };
}) where
  same : (k r : ℕ) → reserved_in w.cluster w.nodes k r ≡ reserved_in (brought_up n w.cluster) w.nodes k r
  same k r = none_under (entry_of k w.cluster.entries) r _ _ (ap (λ (R : RecordState). entry_of k R.entries) empty)
