use Rattle.std.proofs.Common.{◌≡◌, ◌*◌, ◌≤◌, length, take, vec_capacity}
use Rattle.ckpt_types.specs.Reads.{chosen}
use Rattle.section_iter.specs.Ids.{ids_in, AreIds}
use Rattle.section_iter.proofs.choices.keep_chosen.Given as goal

abbrev pub invariant-loop-place : goal.invariant-loop-place
invariant-loop-place g l = record {
  kept : AreIds l.ends.items l.bytes.items;
  ids : ids_in l.ends.items l.bytes.items ≡ chosen l.choice l.now (take l.place (g.S.Sections.sections l.sections));
  within : length l.bytes.items ≤ l.place * l.fn.room.id_size;
  ends_taken : l.fn.room.ids ≤ vec_capacity l.ends;
  bytes_taken : l.fn.room.ids * l.fn.room.id_size ≤ vec_capacity l.bytes;
}
