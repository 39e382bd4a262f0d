-- A walk over a list that leaves what stays where it is, and takes out the rest one by one.
use Rattle.std.proofs.Common.{◌≡◌, ℕ, zero, suc, ◌≤◌, List, [], ◌∷◌, ◌++◌, length, take, drop, filter, Some, Bool, true, false, cond, refl, sym, ap, ◌∙◌, arith}
use Rattle.std.specs.Prelude.{remove, slice_get}
use Rattle.name_table.specs.Table.{NamedCkpt}
use Rattle.cluster_record.specs.declared.entries.Entry.{Entry}
use Rattle.cluster_record.specs.NamesOf.{without_name, without_gone}

module _ {X : Type 0} (p : X → Bool) where
  -- the first i as they are, and of the rest those that stay
  abbrev pub walked : ℕ → List X → List X
  walked i xs = take i xs ++ filter p (drop i xs)

  -- past one that stays
  pub walked-stays : (xs : List X) (i : ℕ) (x : X) → slice_get xs i ≡ Some x → p x ≡ true → walked (suc i) xs ≡ walked i xs
  walked-stays [] i x is stays = absurd cc
  walked-stays (y ∷ ys) zero x is stays = let same : y ≡ x = cc in rw (ap p same ∙ stays) refl
  walked-stays (y ∷ ys) (suc i) x is stays = ap (λ zs. y ∷ zs) (walked-stays ys i x is stays)

  -- without one that does not
  pub walked-goes : (xs : List X) (i : ℕ) (x : X) → slice_get xs i ≡ Some x → p x ≡ false → walked i (remove xs i) ≡ walked i xs
  walked-goes [] i x is goes = absurd cc
  walked-goes (y ∷ ys) zero x is goes = let same : y ≡ x = cc in rw (ap p same ∙ goes) refl
  walked-goes (y ∷ ys) (suc i) x is goes = ap (λ zs. y ∷ zs) (walked-goes ys i x is goes)

  -- behind the last
  pub walked-end : (xs : List X) (i : ℕ) → length xs ≤ i → walked i xs ≡ xs
  walked-end [] zero over = refl
  walked-end [] (suc i) over = refl
  walked-end (y ∷ ys) zero over = absurd (omega (arith, over))
  walked-end (y ∷ ys) (suc i) over = ap (λ zs. y ∷ zs) (walked-end ys i (omega (arith, over)))

-- the names of those that go, behind the first i
module _ (p : Entry → Bool) where
  pub names-stays : (es : List Entry) (i : ℕ) (e : Entry) (t : List NamedCkpt) → slice_get es i ≡ Some e → p e ≡ true → without_gone p (drop (suc i) es) t ≡ without_gone p (drop i es) t
  names-stays [] i e t is stays = absurd cc
  names-stays (y ∷ ys) zero e t is stays =
      let same : y ≡ e = cc in
      ap (λ b. without_gone p ys (cond b t (without_name y.name t))) (sym (ap p same ∙ stays))
  names-stays (y ∷ ys) (suc i) e t is stays = names-stays ys i e t is stays

  pub names-goes : (es : List Entry) (i : ℕ) (e : Entry) (t : List NamedCkpt) → slice_get es i ≡ Some e → p e ≡ false → without_gone p (drop i (remove es i)) (without_name e.name t) ≡ without_gone p (drop i es) t
  names-goes [] i e t is goes = absurd cc
  names-goes (y ∷ ys) zero e t is goes =
      let same : y ≡ e = cc in
      ap (λ (e : Entry). without_gone p ys (without_name e.name t)) (sym same) ∙ ap (λ b. without_gone p ys (cond b t (without_name y.name t))) (sym (ap p same ∙ goes))
  names-goes (y ∷ ys) (suc i) e t is goes = names-goes ys i e t is goes

  pub names-end : (es : List Entry) (i : ℕ) (t : List NamedCkpt) → length es ≤ i → without_gone p (drop i es) t ≡ t
  names-end [] zero t over = refl
  names-end [] (suc i) t over = refl
  names-end (y ∷ ys) zero t over = absurd (omega (arith, over))
  names-end (y ∷ ys) (suc i) t over = names-end ys i t (omega (arith, over))
