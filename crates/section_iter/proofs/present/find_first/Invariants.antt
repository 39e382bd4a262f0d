use Rattle.std.proofs.Common.{◌≡◌, drop}
use Rattle.ckpt_types.specs.Reads.{given}
use Rattle.section_iter.specs.Ids.{ids_in}
use Rattle.section_iter.proofs.present.find_first.Given as goal

abbrev pub invariant-loop-place : goal.invariant-loop-place
invariant-loop-place g l = given (drop l.from (ids_in l.ends l.bytes)) l.now (g.S.Sections.sections l.sections) ≡ given (drop l.place (ids_in l.ends l.bytes)) l.now (g.S.Sections.sections l.sections)
