use Rattle.std.proofs.Common.{◌≡◌, ◌≤◌}
use Rattle.section_store.specs.Places.{place_among_present}
use Rattle.section_store.proofs.store.Store.count_present.Given as goal

abbrev pub invariant-loop-before : goal.invariant-loop-before
invariant-loop-before l = record {
  counted : l.count ≡ place_among_present l.now l.before l.self-inside.kept.sections;
  few : l.count ≤ l.before;
}
