use Rattle.std.proofs.Common.{◌≡◌, ◌+◌, length, take}
use Rattle.std.specs.Prelude.{vec_capacity}
use Rattle.section_store.specs.Kept.{sections_at, AreKept}
use Rattle.section_store.proofs.kept.copy_in.Given as goal

abbrev pub invariant-loop-place : goal.invariant-loop-place
invariant-loop-place g l = record {
  copied : sections_at l.heads.items l.region.strings l.order.items ≡ take l.place (g.S.Sections.sections l.from);
  kept : AreKept l.heads.items l.region.strings l.order.items (length l.order.items);
  many : length l.order.items ≡ l.place;
  size : l.region.size ≡ l.initial.region.size;
  places : l.region.spare + length l.region.strings ≡ l.initial.region.spare + length l.initial.region.strings;
  heads_capacity : vec_capacity l.heads ≡ vec_capacity l.initial.heads;
  order_capacity : vec_capacity l.order ≡ vec_capacity l.initial.order;
}
