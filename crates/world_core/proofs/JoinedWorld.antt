-- A node that joins: how the world shows it.
use Rattle.std.proofs.Common.{◌≡◌, ◌≢◌, ◌⊎◌, ℕ, ◌<◌, Bool, true, false, cond, List, Option, Some, None, refl, sym, ap, subst, ◌∙◌}
use Rattle.std.specs.Prelude.{IsSomeAnd, nat_lt, not, ◌&&◌, ◌==◌, slice_index}
use Rattle.std.proofs.lemmas.List.{get_or-set_other}
use Rattle.ckpt_types.specs.Limits.{nodes_max}
use Rattle.ckpt_types.specs.declared.identities.ActorName.TheVariants.{Node}
use Rattle.cluster_record.specs.Joining.{next_incarnation, node_joined}
use Rattle.cluster_record.specs.RecordState.{RecordState, entry_of, is_up}
use Rattle.cluster_record.specs.declared.entries.Entry.{Entry}
use Rattle.replica.specs.Replicas.{Replica}
use Rattle.run_labels.specs.declared.labels.Label.TheVariants as labels
use Rattle.ckpt_machine.specs.Due.{IsDue}
use Rattle.ckpt_machine.specs.Holding.{HoldsOnlyWhatStands, IsHeld, IsReservation}
use Rattle.ckpt_machine.specs.Machine.{Machine}
use Rattle.ckpt_machine.specs.NodeJoins.{join_answer, joined_at}
use Rattle.ckpt_machine.specs.Nodes.{replica_in}
use Rattle.ckpt_machine.specs.Shown.{reserved_in, shown_reservation}
use Rattle.ckpt_machine.specs.Under.{reservation_under}
use Rattle.ckpt_machine.proofs.HoldingLaws.{held_at}
use Rattle.world_core.specs.Happenings.{Joins}
use Rattle.world_core.specs.NodeJoins.{joined_world, behind_join}
use Rattle.world_core.specs.Shows.{Does, machine_of, next_of}
use Rattle.world_core.specs.declared.world.World.{World}

-- ---- what the nodes hold behind it

module _ (R : RecordState) (r first : ℕ) (down : is_up r R ≡ false) where
  -- a node that was up is another one
  is_other : (q : ℕ) → is_up q R ≡ true → q ≢ r
  is_other q up same = let clash : true ≡ false = sym up ∙ ap (λ q. is_up q R) same ∙ down in cc clash

  -- and so it is up as it was
  up_still : (q : ℕ) → is_up q R ≡ true → slice_index (node_joined r first R).up q ≡ slice_index R.up q
  up_still q up = get_or-set_other R.up r q (next_incarnation r R) 0 (is_other q up)

  -- what it holds is held behind the join
  held_still : (q : ℕ) (x : Replica) → IsHeld R q x → IsHeld (node_joined r first R) q x
  held_still q x held = record {
    up = ap (λ n. nat_lt q nodes_max && not (n == 0)) (up_still q held.up) ∙ held.up;
    stands = subst (λ n. IsSomeAnd (entry_of x.ckpt R.entries) (λ (e : Entry). (slice_index e.complete q ≡ n) ⊎ IsReservation e q x)) (sym (up_still q held.up)) held.stands;
  }

  module _ (nodes : List (List Replica)) (holds : HoldsOnlyWhatStands R nodes) where
    pub held_behind : HoldsOnlyWhatStands (node_joined r first R) nodes
    held_behind = record { each = λ q x among. held_still q x (holds.each q x among); once = holds.once }

    -- what is reserved is as it was, since the node that joins has nothing
    pub reserved_still : (k q : ℕ) → reserved_in R nodes k q ≡ reserved_in (node_joined r first R) nodes k q
    reserved_still k q = by_found (replica_in nodes k q) refl where
      by_found : (o : Option Replica) → replica_in nodes k q ≡ o →
          reservation_under (entry_of k R.entries) q (shown_reservation (slice_index R.up q) o) ≡ reservation_under (entry_of k R.entries) q (shown_reservation (slice_index (node_joined r first R).up q) o)
      by_found None is = refl
      by_found (Some x) is = let (held, key) = held_at R nodes holds k q x is in ap (λ n. reservation_under (entry_of k R.entries) q (Some n)) (sym (up_still q held.up))

-- ---- the label

-- a node that is not up joins
joined_does : (w : World) (r : ℕ) → r < nodes_max → is_up r w.cluster ≡ false → Does w (joined_world r w) (labels.Joined r (Some (next_incarnation r w.cluster)))
joined_does w r node down =
    let next = next_incarnation r w.cluster in
    record {
      due_is = λ m s f. subst (λ (m : Machine). IsDue m (labels.Joined r (Some next))) (sym s.same) (node, ap (λ b. cond b None (Some next)) (sym down));
      shows = λ m s f. record {
        history = s.history;
        same = ap (joined_at r) s.same ∙ (λ i. record (machine_of (joined_world r w) s.history) { reserved = λ k q. reserved_still w.cluster r (next_of w (Node r)) down w.nodes s.holds k q i });
        fits = record { replicas = s.fits.replicas; copies = s.fits.copies; hands = s.fits.hands };
        holds = held_behind w.cluster r (next_of w (Node r)) down w.nodes s.holds;
        keeps = s.keeps;
        rooms = s.rooms;
      };
    }

-- of one that is up the label says so
live_does : (w : World) (r : ℕ) → r < nodes_max → is_up r w.cluster ≡ true → Does w w (labels.Joined r None)
live_does w r node up = record {
  due_is = λ m s f. subst (λ (m : Machine). IsDue m (labels.Joined r None)) (sym s.same) (node, ap (λ b. cond b None (Some (next_incarnation r w.cluster))) (sym up));
  shows = λ m s f. s;
}

-- a node joins, where it is not up, with the label as the code names it
pub joins : (w : World) (r : ℕ) (told : Option ℕ) (behind : World) → r < nodes_max → told ≡ join_answer r w.cluster → behind ≡ behind_join r w → Joins r w behind (labels.Joined r told)
joins w r told behind node answer is = subst (λ (o : Option ℕ). Joins r w behind (labels.Joined r o)) (sym answer) (subst (λ (v : World). Joins r w v (labels.Joined r (join_answer r w.cluster))) (sym is) (by_test (is_up r w.cluster) refl)) where
  next : ℕ
  next = next_incarnation r w.cluster

  by_test : (b : Bool) → is_up r w.cluster ≡ b → Joins r w (cond b w (joined_world r w)) (labels.Joined r (cond b None (Some next)))
  by_test true up = record { label_is = ap (λ b. labels.Joined r (cond b None (Some next))) (sym up); hands = refl; moment = refl; does = live_does w r node up }
  by_test false down = record { label_is = ap (λ b. labels.Joined r (cond b None (Some next))) (sym down); hands = refl; moment = refl; does = joined_does w r node down }
