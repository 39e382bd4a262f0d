use Rattle.std.proofs.Common.{◌≡◌, take}
use Rattle.ckpt_types.specs.Sections.{memory_used, earliest_expiration}
use Rattle.section_store.proofs.summary.Summary.of.Given as goal

abbrev pub invariant-loop-place : goal.invariant-loop-place
invariant-loop-place l = record {
  earliest : l.earliest ≡ earliest_expiration (take l.place l.kept.sections);
  used : l.used ≡ memory_used (take l.place l.kept.sections);
}
