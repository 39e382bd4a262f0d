-- What a pull makes of the background snapshots, and what it asks of them.
use Rattle.std.specs.Prelude.{◌≡◌, ℕ, List, Option, Some, None, IfSome, IsSomeAnd}
use Rattle.cluster_record.specs.Places.{change_key}
use Rattle.replica.specs.Replicas.{Replica}
use Rattle.world_core.specs.declared.snapshots.Background.{Background}
use Rattle.world_core.specs.Backgrounds.{background_key, filled_from}

-- the snapshots behind it
abbrev pub snapshots_pulled : Option Replica → ℕ → List Background → List Background
snapshots_pulled None k backgrounds = backgrounds
snapshots_pulled (Some x) k backgrounds = change_key background_key k (filled_from x) backgrounds

-- there is room for what the replica declares
abbrev pub CanPull : Option Replica → Option Background → Type 0
CanPull x b = IfSome x (λ x. IsSomeAnd b (λ b. b.snap.attributes ≡ x.attributes))
