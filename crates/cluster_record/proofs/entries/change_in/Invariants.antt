use Rattle.std.proofs.Common.{◌≡◌, Some, drop}
use Rattle.std.specs.Prelude.{All, map}
use Rattle.cluster_record.specs.Changes.{changed_by, CanChange}
use Rattle.cluster_record.proofs.EachChanged.{changed_from}
use Rattle.cluster_record.proofs.entries.change_in.Given as goal

abbrev pub invariant-loop-entry : goal.invariant-loop-entry
invariant-loop-entry l = record {
  items : changed_from (changed_by l.change) l.entry-index l.entries ≡ map (changed_by l.change) l.initial.entries;
  can : All (λ e. CanChange l.change (Some e)) (drop l.entry-index l.entries);
}
