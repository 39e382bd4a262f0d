-- What the nodes show and hold when the replicas of checkpoints that are gone are freed: the same, and only what stands.
use Rattle.std.proofs.Common.{◌≡◌, ◌⊎◌, inl, inr, ℕ, ◌≤◌, ◌==◌, Bool, true, false, cond, List, [], ◌∷◌, filter, map, refl, sym, ap, subst, ◌∙◌, arith}
use Rattle.std.specs.Prelude.{Option, Some, None, is_some, IsSomeAnd, not, ◌&&◌, nat_lt, slice_get, slice_index}
use Rattle.std.specs.Option.{option_map}
use Rattle.std.proofs.lemmas.Bool.{eqb-true}
use Rattle.std.proofs.lemmas.Option.{same_Some, slice_get-map}
use Rattle.cluster_record.specs.declared.entries.Entry.{Entry}
use Rattle.cluster_record.specs.Places.{find_key, list_or}
use Rattle.cluster_record.specs.RecordState.{RecordState, entry_of, complete_of, is_up}
use Rattle.replica.specs.Replicas.{Replica, opened_replica}
use Rattle.node_core.specs.Nodes.{is_there, replica_key}
use Rattle.ckpt_machine.specs.Nodes.{freed, replica_in}
use Rattle.ckpt_machine.specs.Holding.{replicas_on, IsAwaited, IsReservation, IsHeld, HoldsOnlyWhatStands}
use Rattle.ckpt_machine.specs.Shown.{shown_reservation, where_complete, complete_replica, reserved_in}
use Rattle.ckpt_machine.specs.After.{reservation_under}
use Rattle.ckpt_machine.proofs.HoldingLaws.{StandsFor, held_at, holds_by_key, standing}
use Rattle.node_core.proofs.OnceByKey.{counted, counted-filter}
use Rattle.ckpt_machine.proofs.GoesAt.{GoesAt, NodeGoes, test_zero, zero_there}
use Rattle.ckpt_machine.proofs.Lacking.{lacked_later}
use Rattle.cluster_record.specs.Placement.{is_collocated}

-- ---- found by a key among those of some keys

module _ {X : Type 0} (key : X → ℕ) (stays : ℕ → Bool) where
  kept_case : (x : X) (rest : Option X) (a b s : Bool) → (b ≡ true → a ≡ s) → cond a (cond b (Some x) (cond s rest None)) (cond s rest None) ≡ cond s (cond b (Some x) rest) None
  kept_case x rest true true true same = refl
  kept_case x rest false true false same = refl
  kept_case x rest true true false same = absurd (let w : true ≡ false = same refl in cc w)
  kept_case x rest false true true same = absurd (let w : false ≡ true = same refl in cc w)
  kept_case x rest true false s same = refl
  kept_case x rest false false s same = refl

  pub find_key-filter : (k : ℕ) (xs : List X) → find_key key k (filter (λ x. stays (key x)) xs) ≡ cond (stays k) (find_key key k xs) None
  find_key-filter k [] = elim (stays k) as (λ s. ◌≡◌ {A = Option X} None (cond s None None)) [ true ↦ refl | false ↦ refl ]
  find_key-filter k (x ∷ xs) =
      let left : List X = filter (λ x. stays (key x)) xs in
      elim (stays (key x)) as (λ a. find_key key k (cond a (x ∷ left) left) ≡ cond a (cond (key x == k) (Some x) (find_key key k left)) (find_key key k left)) [ true ↦ refl | false ↦ refl ]
      ∙ ap (λ o. cond (stays (key x)) (cond (key x == k) (Some x) o) o) (find_key-filter k xs)
      ∙ kept_case x (find_key key k xs) (stays (key x)) (key x == k) (stays k) (λ e. ap stays (eqb-true (key x) k e))

-- ---- the replicas

-- a node has the same replica of a checkpoint that is there, and none of one that is gone
pub replica_in-freed : (entries : List Entry) (nodes : List (List Replica)) (k r : ℕ) → replica_in (freed entries nodes) k r ≡ cond (is_some (entry_of k entries)) (replica_in nodes k r) None
replica_in-freed entries nodes k r = ap (λ o. find_key replica_key k (list_or o)) (slice_get-map (filter (is_there entries)) nodes r) ∙ by_node (slice_get nodes r) where
  by_node : (o : Option (List Replica)) → find_key replica_key k (list_or (option_map (filter (is_there entries)) o)) ≡ cond (is_some (entry_of k entries)) (find_key replica_key k (list_or o)) None
  by_node None = find_key-filter replica_key (λ k. is_some (entry_of k entries)) k []
  by_node (Some xs) = find_key-filter replica_key (λ k. is_some (entry_of k entries)) k xs

freed_complete_case : (r : ℕ) (e : Option Entry) (x : Option Replica) → where_complete (slice_index (complete_of e) r) (cond (is_some e) x None) ≡ where_complete (slice_index (complete_of e) r) x
freed_complete_case r None x = ap (λ n. where_complete n None) (zero_there r) ∙ sym (ap (λ n. where_complete n x) (zero_there r))
freed_complete_case r (Some e) x = refl

-- the same are complete
pub complete_replica-freed : (R : RecordState) (nodes : List (List Replica)) (k r : ℕ) → complete_replica R (freed R.entries nodes) k r ≡ complete_replica R nodes k r
complete_replica-freed R nodes k r =
    ap (where_complete (slice_index (complete_of (entry_of k R.entries)) r)) (replica_in-freed R.entries nodes k r)
    ∙ freed_complete_case r (entry_of k R.entries) (replica_in nodes k r)

freed_reserved_case : (r up : ℕ) (e : Option Entry) (x : Option Replica) → reservation_under e r (shown_reservation up (cond (is_some e) x None)) ≡ reservation_under e r (shown_reservation up x)
freed_reserved_case r up None x = refl
freed_reserved_case r up (Some e) x = refl

-- and the same are reserved
pub reserved_in-freed : (R : RecordState) (nodes : List (List Replica)) (k r : ℕ) → reserved_in R (freed R.entries nodes) k r ≡ reserved_in R nodes k r
reserved_in-freed R nodes k r =
    ap (λ x. reservation_under (entry_of k R.entries) r (shown_reservation (slice_index R.up r) x)) (replica_in-freed R.entries nodes k r)
    ∙ freed_reserved_case r (slice_index R.up r) (entry_of k R.entries) (replica_in nodes k r)

-- ---- what they hold

-- none of them stands twice
pub filtered_once : (p : Replica → Bool) (nodes : List (List Replica)) → ((r k : ℕ) → counted replica_key k (replicas_on nodes r) ≤ 1) → (r k : ℕ) → counted replica_key k (replicas_on (map (filter p) nodes) r) ≤ 1
filtered_once p nodes once r k =
    subst (λ (o : Option (List Replica)). counted replica_key k (list_or o) ≤ 1) (sym (slice_get-map (filter p) nodes r)) (by_node (slice_get nodes r) (once r k))
  where
    by_node : (o : Option (List Replica)) → counted replica_key k (list_or o) ≤ 1 → counted replica_key k (list_or (option_map (filter p) o)) ≤ 1
    by_node None few = few
    by_node (Some xs) few = let fewer = counted-filter replica_key p k xs in omega (arith, fewer, few)

module _ (R N : RecordState) (nodes new : List (List Replica)) (up : N.up ≡ R.up) (goes : (k r : ℕ) → GoesAt R.up k (entry_of k R.entries) (entry_of k N.entries) r (replica_in nodes k r) (replica_in new k r)) (holds : HoldsOnlyWhatStands R nodes) where
  -- what a node has then of a checkpoint that is there is held: it was, or it becomes complete with it
  held_then : (k r : ℕ) (x : Replica) (old then : Option Entry) → entry_of k R.entries ≡ old → entry_of k N.entries ≡ then → is_some then ≡ true → GoesAt R.up k old then r (replica_in nodes k r) (Some x) → IsHeld N r x
  held_then k r x old None was is there goes = absurd (cc there)
  held_then k r x None (Some f) was is there goes = absurd (cc goes.1)
  held_then k r x (Some e) (Some f) was is there goes = by_node goes.2 where
    held_as : x.ckpt ≡ k → is_up r R ≡ true → StandsFor R r x f → IsHeld N r x
    held_as key is_up_there stands = record {
      up = ap (λ (up : List ℕ). nat_lt r 8 && not (slice_index up r == 0)) up ∙ is_up_there;
      stands = subst (λ (o : Option Entry). IsSomeAnd o (StandsFor N r x)) (sym (ap (λ j. entry_of j N.entries) key ∙ is))
          (subst (λ (us : List ℕ). (slice_index f.complete r ≡ slice_index us r) ⊎ IsReservation f r x) (sym up) stands);
    }

    awaited_then : f.making ≡ e.making → slice_index f.complete r ≡ 0 → IsAwaited r e → IsAwaited r f
    awaited_then same unset (inl making) = inl (ap is_some same ∙ making)
    awaited_then same unset (inr lacks) = inr (lacked_later r e f same (ap is_collocated goes.0) (test_zero (slice_index f.complete r) unset) lacks)

    by_node : NodeGoes R.up k e f r (replica_in nodes k r) (Some x) → IsHeld N r x
    by_node (inr new) = held_as (ap (λ (x : Replica). x.ckpt) (same_Some x _ new.3)) new.2 (inl new.1)
    by_node (inl same) =
        let (held, key) = held_at R nodes holds k r x (sym same.1) in
        held_as key held.up (elim same.2 [
          | inr none ↦ absurd (let w : Some x ≡ None = same.1 ∙ none in cc w)
          | inl making ↦ elim (standing R nodes holds k r e x was (sym same.1)) [
            | inl complete ↦ inl (same.0 ∙ complete)
            | inr reservation ↦ inr (record {
              awaited = awaited_then making (same.0 ∙ reservation.not_complete) reservation.awaited;
              not_complete = same.0 ∙ reservation.not_complete;
              opening = reservation.opening ∙ (λ i. opened_replica x.ckpt (sym goes.0 i) (sym goes.1 i));
            })
          ]
        ])

  stays : (b : Bool) (o : Option Replica) (x : Replica) → cond b o None ≡ Some x → (b ≡ true) × (o ≡ Some x)
  stays true o x e = (refl, e)
  stays false o x e = absurd (cc e)

  -- so after a step of the record the nodes hold only what stands, once they are freed
  pub holds_behind : ((r k : ℕ) → counted replica_key k (replicas_on new r) ≤ 1) → HoldsOnlyWhatStands N (freed N.entries new)
  holds_behind once = holds_by_key N (freed N.entries new) each (filtered_once (is_there N.entries) new once) where
    each : (k r : ℕ) (x : Replica) → replica_in (freed N.entries new) k r ≡ Some x → IsHeld N r x
    each k r x is =
        let (there, has) = stays (is_some (entry_of k N.entries)) (replica_in new k r) x (sym (replica_in-freed N.entries new k r) ∙ is) in
        held_then k r x (entry_of k R.entries) (entry_of k N.entries) refl refl there (subst (GoesAt R.up k (entry_of k R.entries) (entry_of k N.entries) r (replica_in nodes k r)) has (goes k r))
