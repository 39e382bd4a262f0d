-- How a trail keeps its labels.
use Rattle.std.specs.Prelude.{◌-◌, vec_capacity, vec_len}
use Rattle.shared_nodes.specs.declared.trail.Trail.TheInside.{Inside}
use Rattle.shared_nodes.specs.Trails.{KeptTrail, tickets_of, AreRising}

-- the labels of a trail, and for how many more it has room
abbrev pub trail_shown : Inside → KeptTrail
trail_shown t = record { notes = t.items.items; spare = vec_capacity t.items - vec_len t.items }

-- the tickets rise
abbrev pub IsRising : Inside → Type 0
IsRising t = AreRising (tickets_of t.items.items)
