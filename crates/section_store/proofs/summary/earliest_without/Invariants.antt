use Rattle.std.proofs.Common.{◌≡◌, take}
use Rattle.ckpt_types.specs.Sections.{earliest_expiration}
use Rattle.section_store.proofs.summary.earliest_without.Given as goal

abbrev pub invariant-loop-place : goal.invariant-loop-place
invariant-loop-place l = record {
  least : l.least ≡ earliest_expiration (take l.place l.kept.sections);
}
