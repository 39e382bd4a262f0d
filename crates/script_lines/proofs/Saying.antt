-- Texts that are compared byte by byte.
use Rattle.std.proofs.Common.{◌≡◌, sym, ℕ, ◌<◌, true, List, length, get_or, bytes_eq}
use Rattle.std.proofs.lemmas.Grind.{same_number_lists}
use Rattle.std.proofs.lemmas.Slice.Eq.{bytes_eq-Decides}

pub same_bytes : (xs ys : List ℕ) → length xs ≡ length ys → ((k : ℕ) → k < length xs → get_or xs k 0 ≡ get_or ys k 0) → true ≡ bytes_eq xs ys
same_bytes xs ys len each = sym ((bytes_eq-Decides xs ys).1 (same_number_lists xs ys len each))
