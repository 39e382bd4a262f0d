-- The texts of the elements of a list, one behind another.
use Rattle.std.proofs.Common.{◌≡◌, ℕ, ◌+◌, ◌<◌, List, ◌++◌, length, get_or, take, sym, ap, ◌∙◌}
use Rattle.std.specs.Prelude.{Some, slice_get}
use Rattle.std.specs.List.{flat_map}
use Rattle.std.proofs.lemmas.List.{flat_map_more, take_more}
use Rattle.std.proofs.lemmas.Option.{slice_get_within, get_or_from_slice_get}

-- the text of the element that is reached goes behind the texts of those before it
pub append-flat_map-next : {X A : Type 0} (f : X → List A) (front : List A) (xs : List X) (i : ℕ) (d : X) → i < length xs → (front ++ flat_map f (take i xs)) ++ f (get_or xs i d) ≡ front ++ flat_map f (take (i + 1) xs)
append-flat_map-next f front xs i d within =
    flat_map_more f front (take i xs) (get_or xs i d) ∙ ap (λ ys. front ++ flat_map f ys) (sym (take_more xs i d within))

-- so does that of one that is told by its place
pub append-flat_map-item : {X A : Type 0} (f : X → List A) (front : List A) (xs : List X) (i : ℕ) (x : X) → i < length xs → x ≡ get_or xs i x → (front ++ flat_map f (take i xs)) ++ f x ≡ front ++ flat_map f (take (i + 1) xs)
append-flat_map-item f front xs i x within is =
    ap (λ y. (front ++ flat_map f (take i xs)) ++ f y) is ∙ append-flat_map-next f front xs i x within

-- and that of one that is found there
pub append-flat_map-take : {X A : Type 0} (f : X → List A) (front : List A) (xs : List X) (i : ℕ) (x : X) → slice_get xs i ≡ Some x → (front ++ flat_map f (take i xs)) ++ f x ≡ front ++ flat_map f (take (i + 1) xs)
append-flat_map-take f front xs i x at_i =
    append-flat_map-item f front xs i x (slice_get_within xs i x at_i) (sym (get_or_from_slice_get xs i x x at_i))
