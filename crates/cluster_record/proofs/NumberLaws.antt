-- What a record may do that has numbers left.
use Rattle.std.proofs.Common.{◌≡◌, ℕ, ◌-◌, ◌^◌, ◌<◌, zero, suc, Bool, true, false, List, [], ◌∷◌, refl, subst, cond, arith}
use Rattle.std.specs.Prelude.{Option, Some, None, ◌==◌, nat_lt, slice_index}
use Rattle.std.specs.List.{list_all}
use Rattle.std.proofs.lemmas.Bool.{and_parts, ltb-true}
use Rattle.cluster_record.specs.declared.entries.Entry.{Entry}
use Rattle.cluster_record.specs.Numbers.{may_rise, entry_may_rise}
use Rattle.cluster_record.specs.Places.{find_key}
use Rattle.cluster_record.specs.RecordReady.{CanRefer, CanReferAt, CanSetActive}
use Rattle.cluster_record.specs.RecordState.{identity_of, entry_of}

-- what holds of all holds of the one that is found
found_key_passes : {X : Type 0} (p : X → Bool) (key : X → ℕ) (k : ℕ) (xs : List X) (x : X) → list_all p xs ≡ true → find_key key k xs ≡ Some x → p x ≡ true
found_key_passes p key k [] x all e = absurd cc
found_key_passes p key k (y ∷ xs) x all e = let parts = and_parts (p y) (list_all p xs) all in by_test parts.0 (found_key_passes p key k xs x parts.1) (key y == k) e where
  by_test : p y ≡ true → (find_key key k xs ≡ Some x → p x ≡ true) → (b : Bool) → cond b (Some y) (find_key key k xs) ≡ Some x → p x ≡ true
  by_test first rest true e = let s : y ≡ x = cc in subst (λ z. p z ≡ true) s first
  by_test first rest false e = rest e

below_at : (xs : List ℕ) (i : ℕ) → list_all may_rise xs ≡ true → slice_index xs i < 2 ^ 32 - 1
below_at [] i all = omega arith
below_at (x ∷ xs) zero all = ltb-true x (2 ^ 32 - 1) (and_parts (may_rise x) (list_all may_rise xs) all).0
below_at (x ∷ xs) (suc i) all = below_at xs i (and_parts (may_rise x) (list_all may_rise xs) all).1

-- any client may open any checkpoint once more
pub may_refer : (entries : List Entry) → list_all entry_may_rise entries ≡ true → (client k : ℕ) → CanRefer client (entry_of k entries)
may_refer entries all client k = of_entry (entry_of k entries) (λ e. found_key_passes entry_may_rise identity_of k entries e all) where
  of_entry : (o : Option Entry) → ((e : Entry) → o ≡ Some e → entry_may_rise e ≡ true) → CanRefer client o
  of_entry None passes = tt
  of_entry (Some e) passes = below_at e.references client (and_parts (nat_lt e.generation (2 ^ 64 - 1)) (list_all may_rise e.references) (passes e refl)).1

-- and the one of a name, where there is one
pub may_refer_at : (entries : List Entry) (client : ℕ) (o : Option ℕ) → ((client k : ℕ) → CanRefer client (entry_of k entries)) → CanReferAt client entries o
may_refer_at entries client None can = tt
may_refer_at entries client (Some k) can = can client k

-- and the active of any checkpoint may be set
pub may_set_active : (entries : List Entry) → list_all entry_may_rise entries ≡ true → (k : ℕ) → CanSetActive (entry_of k entries)
may_set_active entries all k = of_entry (entry_of k entries) (λ e. found_key_passes entry_may_rise identity_of k entries e all) where
  of_entry : (o : Option Entry) → ((e : Entry) → o ≡ Some e → entry_may_rise e ≡ true) → CanSetActive o
  of_entry None passes = tt
  of_entry (Some e) passes = ltb-true e.generation (2 ^ 64 - 1) (and_parts (nat_lt e.generation (2 ^ 64 - 1)) (list_all may_rise e.references) (passes e refl)).0
