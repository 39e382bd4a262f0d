-- The identities of entries: in rising order, up to the one last given.
use Rattle.std.specs.Prelude.{ℕ, ◌<◌, ◌≤◌, List, [], ◌∷◌}
use Rattle.cluster_record.specs.declared.entries.Entry.{Entry}

-- all identities are above n
abbrev pub AllAbove : ℕ → List Entry → Type 0
AllAbove n [] = Unit {0}
AllAbove n (e ∷ es) = (n < e.identity) × AllAbove n es

-- the identities rise
abbrev pub IdentitiesRise : List Entry → Type 0
IdentitiesRise [] = Unit {0}
IdentitiesRise (e ∷ es) = AllAbove e.identity es × IdentitiesRise es

-- none is above n
abbrev pub AllUpTo : ℕ → List Entry → Type 0
AllUpTo n [] = Unit {0}
AllUpTo n (e ∷ es) = (e.identity ≤ n) × AllUpTo n es
