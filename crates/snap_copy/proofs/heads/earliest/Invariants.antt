use Rattle.std.proofs.Common.{◌≡◌, ℕ, List, take}
use Rattle.ckpt_types.specs.Sections.{earliest_expiration}
use Rattle.snap_copy.specs.Heads.{sections_in}
use Rattle.snap_copy.proofs.heads.earliest.Given as goal

abbrev pub invariant-loop-head : goal.invariant-loop-head
invariant-loop-head l = record {
  least : (bytes : List ℕ) → l.earliest ≡ earliest_expiration (sections_in bytes (take l.head-index l.heads));
}
