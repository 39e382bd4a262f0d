-- How a log keeps its labels.
use Rattle.std.specs.Prelude.{◌-◌, vec_capacity, vec_len}
use Rattle.run_labels.specs.Kept.{KeptLabels}
use Rattle.run_labels.specs.declared.log.RunLog.TheInside.{Inside}

-- the labels of a log, and for how many more it has room
abbrev pub kept_labels : Inside → KeptLabels
kept_labels log = record { labels = log.items.items; spare = vec_capacity log.items - vec_len log.items }
