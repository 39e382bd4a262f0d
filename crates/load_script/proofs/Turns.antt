-- What a loop adds, a number at a time.
use Rattle.std.proofs.Common.{◌≡◌, ℕ, suc, ◌+◌, List, [], ◌∷◌, ◌++◌, map, sym, ap, ◌∙◌, arith, append_assoc}
use Rattle.std.proofs.lemmas.List.{map_push}
use Rattle.load_script.specs.Load.{numbers}

-- what comes of the next number goes behind what came of those before it
pub map-numbers-next : {A : Type 0} (f : ℕ → A) (front : List A) (n : ℕ) → (front ++ map f (numbers n)) ++ f n ∷ [] ≡ front ++ map f (numbers (n + 1))
map-numbers-next f front n =
    let next : suc n ≡ n + 1 = omega arith in
    append_assoc front (map f (numbers n)) (f n ∷ []) ∙ ap (λ xs. front ++ xs) (sym (map_push f (numbers n) n)) ∙ ap (λ m. front ++ map f (numbers m)) next
