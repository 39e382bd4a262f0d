use Rattle.std.proofs.Common.{◌≡◌, ◌≤◌, length, take}
use Rattle.std.specs.Prelude.{vec_capacity}
use Rattle.ckpt_types.specs.Sections.{memory_used}
use Rattle.snap_copy.specs.Heads.{sections_in, AreWithin}
use Rattle.snap_copy.proofs.heads.copy_in.Given as goal

abbrev pub invariant-loop-place : goal.invariant-loop-place
invariant-loop-place g l = record {
  copied : sections_in l.bytes.items l.heads.items ≡ take l.place (g.S.Sections.sections l.from);
  within : AreWithin (length l.bytes.items) l.heads.items;
  bytes_len : length l.bytes.items ≡ memory_used (take l.place (g.S.Sections.sections l.from));
  heads_len : length l.heads.items ≡ l.place;
  bytes_capacity : vec_capacity l.initial.bytes ≤ vec_capacity l.bytes;
  heads_capacity : vec_capacity l.initial.heads ≤ vec_capacity l.heads;
}
