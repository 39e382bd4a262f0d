use Rattle.std.proofs.Common.{◌≡◌, ◌≤◌, take}
use Rattle.std.specs.Prelude.{vec_capacity}
use Rattle.ckpt_types.specs.Limits.{checkpoints_max}
use Rattle.cluster_record.proofs.entries.copy_entries.Given as goal

abbrev pub invariant-loop-entry : goal.invariant-loop-entry
invariant-loop-entry l = record { copied : l.copies.items ≡ take l.entry-index l.entries; room : checkpoints_max ≤ vec_capacity l.copies }
