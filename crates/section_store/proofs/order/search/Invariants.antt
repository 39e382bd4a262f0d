use Rattle.std.proofs.Common.{◌≡◌, ℕ, ◌-◌, ◌<◌, ◌≤◌, length, Some}
use Rattle.ckpt_types.specs.Sections.{place_of}
use Rattle.section_store.specs.Places.{count_below}
use Rattle.section_store.proofs.order.search.Given as goal

abbrev pub invariant-loop-low : goal.invariant-loop-low
invariant-loop-low l = record {
  above : l.low ≤ count_below l.id l.kept.sections;
  below : count_below l.id l.kept.sections ≤ l.high;
  found_below : (i : ℕ) → place_of l.id l.kept.sections ≡ Some i → i < l.high;
  within : l.high ≤ length l.kept.sections;
}

abbrev pub decreases-loop-low : goal.decreases-loop-low
decreases-loop-low l = l.high - l.low
