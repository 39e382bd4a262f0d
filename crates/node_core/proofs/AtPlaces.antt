-- The replica with which a node serves a checkpoint, by its place in the list.
use Rattle.std.proofs.Common.{◌≡◌, ℕ, Bool, true, false, List, refl, sym, subst, ◌∙◌, cond}
use Rattle.std.specs.Prelude.{Option, Some, None, IfSome, IsSomeAnd, slice_set, slice_index_or}
use Rattle.cluster_record.specs.Places.{find_key, change_key, place_key}
use Rattle.cluster_record.proofs.Places.{changes_at, changes_none}
use Rattle.cluster_record.proofs.AtKeys.{element_at, none_at}
use Rattle.node_msgs.specs.declared.requests.Request.{Request}
use Rattle.replica.specs.Replicas.{Replica}
use Rattle.node_core.specs.declared.lent.Lent.{Lent}
use Rattle.node_core.specs.Fitting.{CanServe, ReplicaFits}
use Rattle.node_core.specs.Nodes.{replica_key, where_seen}

-- the place of a replica, where the node is complete
abbrev pub place_served : Bool → ℕ → List Replica → Option ℕ
place_served b k xs = cond b (place_key replica_key k xs) None

-- what is read at that place is the replica that serves
pub served_at : (b : Bool) (k : ℕ) (xs : List Replica) (o : Option ℕ) → o ≡ place_served b k xs → (i : ℕ) (d : Replica) → o ≡ Some i → where_seen b (find_key replica_key k xs) ≡ Some (slice_index_or xs i d)
served_at true k xs o from i d e = element_at replica_key k xs o from i d e
served_at false k xs o from i d e = absurd (let no_place : None ≡ Some i = sym from ∙ e in cc)

-- without a place none serves
pub served_none : (b : Bool) (k : ℕ) (xs : List Replica) (o : Option ℕ) → o ≡ place_served b k xs → o ≡ None → where_seen b (find_key replica_key k xs) ≡ None
served_none true k xs o from e = none_at replica_key k xs o from e
served_none false k xs o from e = refl

-- the change at the place is that of the replica that serves
pub served_changes : (b : Bool) (k : ℕ) (f : Replica → Replica) (xs : List Replica) (o : Option ℕ) → o ≡ place_served b k xs → (i : ℕ) (d y : Replica) → o ≡ Some i → y ≡ f (slice_index_or xs i d) → slice_set xs i y ≡ cond b (change_key replica_key k f xs) xs
served_changes true k f xs o from i d y e new = changes_at replica_key k f xs o from i d y e new
served_changes false k f xs o from i d y e new = absurd (let no_place : None ≡ Some i = sym from ∙ e in cc)

-- without a place nothing changes
pub served_same : (b : Bool) (k : ℕ) (f : Replica → Replica) (xs : List Replica) (o : Option ℕ) → o ≡ place_served b k xs → o ≡ None → xs ≡ cond b (change_key replica_key k f xs) xs
served_same true k f xs o from e = changes_none replica_key k f xs o from e
served_same false k f xs o from e = refl

-- what is asked of the node is asked of that replica
pub fits_at : (b : Bool) (request : Request) (lent : Lent) (k : ℕ) (xs : List Replica) (o : Option ℕ) → o ≡ place_served b k xs → (i : ℕ) (d : Replica) → o ≡ Some i → ReplicaFits b request lent (find_key replica_key k xs) → CanServe request lent (slice_index_or xs i d)
fits_at true request lent k xs o from i d e fits = subst (λ (x : Option Replica). IsSomeAnd x (CanServe request lent)) (element_at replica_key k xs o from i d e) fits
fits_at false request lent k xs o from i d e fits = absurd (let no_place : None ≡ Some i = sym from ∙ e in cc)

-- ---- a replica that is known to be there

module _ (k : ℕ) (xs : List Replica) (o : Option ℕ) (from : o ≡ place_key replica_key k xs) (P : Replica → Type 0) where
  -- what holds of it holds of the one at its place
  pub holds_at : (i : ℕ) (d : Replica) → o ≡ Some i → IsSomeAnd (find_key replica_key k xs) P → P (slice_index_or xs i d)
  holds_at i d e there = subst (λ (x : Option Replica). IsSomeAnd x P) (element_at replica_key k xs o from i d e) there

  -- it has a place
  pub has_place : o ≡ None → IsSomeAnd (find_key replica_key k xs) P → ⊥
  has_place e there = subst (λ (x : Option Replica). IsSomeAnd x P) (none_at replica_key k xs o from e) there

  -- what holds of the one at its place holds of it
  pub holds_of : (i : ℕ) (d : Replica) → o ≡ Some i → P (slice_index_or xs i d) → IfSome (find_key replica_key k xs) P
  holds_of i d e holds = subst (λ (x : Option Replica). IfSome x P) (sym (element_at replica_key k xs o from i d e)) holds
