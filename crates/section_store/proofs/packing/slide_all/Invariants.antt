use Rattle.std.proofs.Common.{◌≡◌, ◌+◌, ◌≤◌, ℕ, length, drop}
use Rattle.std.specs.Prelude.{sum_by, vec_capacity}
use Rattle.section_store.specs.Extents.{strings_in, extent_at, AreLaid}
use Rattle.section_store.proofs.Sliding.{IsSliding}
use Rattle.section_store.proofs.packing.slide_all.Given as goal

abbrev pub invariant-loop-place : goal.invariant-loop-place
invariant-loop-place l = record {
  strings : strings_in l.buffer.items l.extents.items ≡ strings_in l.initial.buffer.items l.initial.extents.items;
  told : (k : ℕ) → (extent_at k l.extents.items).place ≡ (extent_at k l.initial.extents.items).place;
  laid : AreLaid (length l.buffer.items) l.extents.items;
  sliding : IsSliding l.initial.extents.items l.place l.end l.extents.items;
  sum : l.end + sum_by (λ e. e.len) (drop l.place l.initial.extents.items) ≡ sum_by (λ e. e.len) l.initial.extents.items;
  within : l.end ≤ length l.buffer.items;
  size : length l.buffer.items ≡ length l.initial.buffer.items;
  len : length l.extents.items ≡ length l.initial.extents.items;
  bytes : vec_capacity l.buffer ≡ vec_capacity l.initial.buffer;
  places : vec_capacity l.extents ≡ vec_capacity l.initial.extents;
}
