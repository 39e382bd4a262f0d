use Rattle.std.proofs.Common.{◌≡◌, drop}
use Rattle.ckpt_types.specs.Sections.{present}
use Rattle.ckpt_types.specs.Reads.{read, pieces_read}
use Rattle.update_rules.specs.Told.{check_answer}
use Rattle.update_rules.proofs.reads.check_read.Given as goal

abbrev pub invariant-loop-place : goal.invariant-loop-place
invariant-loop-place g l =
    check_answer (read l.elements l.now (g.S.Sections.sections l.sections)) ≡ check_answer (pieces_read l.place (drop l.place l.elements) (present l.now (g.S.Sections.sections l.sections)))
