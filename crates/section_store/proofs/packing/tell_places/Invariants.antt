use Rattle.std.proofs.Common.{◌≡◌, ◌≤◌, ◌<◌, ℕ, length}
use Rattle.std.specs.Prelude.{vec_capacity}
use Rattle.section_store.specs.Extents.{extent_at}
use Rattle.section_store.proofs.packing.tell_places.Given as goal

abbrev pub invariant-loop-place : goal.invariant-loop-place
invariant-loop-place l = record {
  len : length l.extents.items ≡ length l.initial.extents.items;
  capacity : vec_capacity l.extents ≡ vec_capacity l.initial.extents;
  told : (k : ℕ) → k < l.place → k < length l.initial.extents.items → extent_at k l.extents.items ≡ record (extent_at k l.initial.extents.items) { place = k };
  left : (k : ℕ) → l.place ≤ k → extent_at k l.extents.items ≡ extent_at k l.initial.extents.items;
}
