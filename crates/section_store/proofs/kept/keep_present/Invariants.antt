use Rattle.std.proofs.Common.{◌≡◌, ◌≤◌, length, take, sum_by, vec_capacity}
use Rattle.ckpt_types.specs.Sections.{present}
use Rattle.section_store.specs.Kept.{sections_at}
use Rattle.section_store.proofs.KeptPresent.{Sifts}
use Rattle.section_store.proofs.kept.keep_present.Given as goal

abbrev pub invariant-loop-place : goal.invariant-loop-place
invariant-loop-place l = record {
  sifts : Sifts l.heads l.region.strings l.order.items l.count l.kept l.place l.now (present l.now (sections_at l.heads l.fn.region.strings (take l.count l.fn.order.items)));
  fits : sum_by length l.region.strings ≤ l.region.size;
  strings : length l.region.strings ≡ length l.fn.region.strings;
  region : l.region ≡ record l.fn.region { strings = l.region.strings };
  capacity : vec_capacity l.order ≡ vec_capacity l.fn.order;
}
