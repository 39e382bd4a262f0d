-- A replica that is lent, beside what is known of it where it stands.
use Rattle.std.proofs.Common.{◌≡◌, ℕ, Bool, true, false, List, [], ◌∷◌, refl, sym, ap, subst, ◌∙◌, cond}
use Rattle.std.specs.Prelude.{Option, Some, None, IfSome, IsSome, IsSomeAnd, slice_get, slice_index, slice_set, ◌==◌}
use Rattle.std.proofs.lemmas.Option.{same_Some}
use Rattle.cluster_record.specs.declared.entries.Entry.{Entry}
use Rattle.cluster_record.proofs.Places.{not_changed}
use Rattle.cluster_record.specs.Places.{find_key, change_key, list_or}
use Rattle.replica.specs.Replicas.{Replica, installed}
use Rattle.snap_copy.specs.Snapshots.{Snapshot}
use Rattle.node_core.specs.Nodes.{replica_key}
use Rattle.ckpt_machine.specs.Leading.{leading, nodes_led}
use Rattle.ckpt_machine.specs.Nodes.{replica_in, with_changed}
use Rattle.ckpt_machine.specs.Propagating.{nodes_installed, nodes_put, takes_puts}
use Rattle.ckpt_machine.proofs.NodeLists.{list_again}

-- two changes that make the same of the one that is found are alike
pub change_alike : {X : Type 0} (key : X → ℕ) (k : ℕ) (f g : X → X) (xs : List X) (x : X) → find_key key k xs ≡ Some x → f x ≡ g x → change_key key k f xs ≡ change_key key k g xs
change_alike key k f g [] x found same = refl
change_alike key k f g (y ∷ xs) x found same = by_test (key y == k) found (change_alike key k f g xs x)
  where
    by_test : (b : Bool) → cond b (Some y) (find_key key k xs) ≡ Some x → (find_key key k xs ≡ Some x → f x ≡ g x → change_key key k f xs ≡ change_key key k g xs) → cond b (f y ∷ xs) (y ∷ change_key key k f xs) ≡ cond b (g y ∷ xs) (y ∷ change_key key k g xs)
    by_test true found rest = let e : y ≡ x = same_Some y x found in ap (λ z. z ∷ xs) (ap f e ∙ same ∙ ap g (sym e))
    by_test false found rest = ap (λ xs. y ∷ xs) (rest found same)

-- without one nothing changes
pub unchanged : (nodes : List (List Replica)) (k r : ℕ) (f : Replica → Replica) → replica_in nodes k r ≡ None → with_changed k r f nodes ≡ nodes
unchanged nodes k r f none = ap (slice_set nodes r) (not_changed replica_key k f (list_or (slice_get nodes r)) none) ∙ list_again nodes r

-- what has something of it is there
pub has_one : {X : Type 0} (o : Option X) (P : X → Type 0) → IsSomeAnd o P → IsSome o
has_one None P there = absurd there
has_one (Some x) P there = refl

module _ (nodes : List (List Replica)) (k r : ℕ) (x : Replica) (here : replica_in nodes k r ≡ Some x) where
  -- what is left of it is what a change makes of it
  pub left_as : (f : Replica → Replica) (y : Replica) → y ≡ f x → with_changed k r (λ z. y) nodes ≡ with_changed k r f nodes
  left_as f y is = ap (slice_set nodes r) (change_alike replica_key k (λ z. y) f (list_or (slice_get nodes r)) x here is)

  -- what holds of the one that stands there holds of it
  pub holds_here : (P : Replica → Type 0) → IsSomeAnd (replica_in nodes k r) P → P x
  holds_here P there = subst (λ o. IsSomeAnd o P) here there

  -- and what holds of it holds there
  pub holds_there : (P : Replica → Type 0) → P x → IfSome (replica_in nodes k r) P
  holds_there P holds = subst (λ o. IfSome o P) (sym here) holds

-- ---- the nodes, where they change at an entry that is there

module _ (nodes : List (List Replica)) (k r : ℕ) (o : Option Entry) (e : Entry) (found : o ≡ Some e) where
  -- they lead, where the node is complete
  pub led_as : (held : Option Snapshot) → (slice_index e.complete r == 0) ≡ false → with_changed k r (leading held e.generation) nodes ≡ nodes_led k r held o nodes
  led_as held complete = sym (ap (λ o. nodes_led k r held o nodes) found ∙ ap (λ b. cond b nodes (with_changed k r (leading held e.generation) nodes)) complete)

  -- a snapshot of the present generation is installed, where the node takes puts
  pub put_as : (pulled : Option Snapshot) (s : Snapshot) → pulled ≡ Some s → takes_puts e r ≡ true → (s.generation == e.generation) ≡ true → with_changed k r (installed s) nodes ≡ nodes_put k r o pulled nodes
  put_as pulled s is takes present =
      sym ((λ i. nodes_put k r (found i) (is i) nodes) ∙ ap (λ b. cond b (nodes_installed k r e.generation (Some s) nodes) nodes) takes ∙ ap (λ b. cond b (with_changed k r (installed s) nodes) nodes) present)
