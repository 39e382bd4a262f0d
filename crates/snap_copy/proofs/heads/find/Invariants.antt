use Rattle.std.proofs.Common.{◌≡◌, ℕ, List, take, None}
use Rattle.ckpt_types.specs.Sections.{place_of}
use Rattle.snap_copy.specs.Heads.{sections_in}
use Rattle.snap_copy.proofs.heads.find.Given as goal

abbrev pub invariant-loop-place : goal.invariant-loop-place
invariant-loop-place l = record {
  none : (bytes : List ℕ) → place_of l.id (sections_in bytes (take l.place l.heads)) ≡ None;
}
