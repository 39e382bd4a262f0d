use Rattle.std.proofs.Common.{◌≡◌, length, take}
use Rattle.ckpt_types.specs.Sections.{present, memory_used}
use Rattle.ckpt_types.proofs.counting.totals_of_present.Given as goal

abbrev pub invariant-loop-place : goal.invariant-loop-place
invariant-loop-place g l =
    let first = present l.now (take l.place (g.S.Sections.sections l.sections)) in record {
      count : l.count ≡ length first;
      bytes : l.bytes ≡ memory_used first;
    }
