use Rattle.std.proofs.Common.{◌≡◌, ◌-◌, drop, filter, length}
use Rattle.std.specs.Prelude.{All, vec_capacity}
use Rattle.cluster_record.specs.Kept.{HasTimes}
use Rattle.cluster_record.specs.NamesOf.{stays_by, without_gone}
use Rattle.cluster_record.proofs.Walking.{walked}
use Rattle.cluster_record.proofs.entries.keep_only.Given as goal

abbrev pub invariant-loop-place : goal.invariant-loop-place
invariant-loop-place l = record {
  items : walked (stays_by l.staying) l.place l.entries.items ≡ filter (stays_by l.staying) l.initial.entries.items;
  names : without_gone (stays_by l.staying) (drop l.place l.entries.items) l.names ≡ without_gone (stays_by l.staying) l.initial.entries.items l.initial.names;
  capacity : vec_capacity l.entries ≡ vec_capacity l.initial.entries;
  times : All HasTimes l.entries.items;
}

abbrev pub decreases-loop-place : goal.decreases-loop-place
decreases-loop-place l = length l.entries.items - l.place
