use Rattle.std.proofs.Common.{sym, arith}
use Rattle.ckpt_types.proofs.Presence.{Rises-present, length-present-le}
use Rattle.update_rules.proofs.FreeIdentifier.{is_taken-generated_id}
use Rattle.update_rules.proofs.updates.is_taken.Goals as goal

pub returns-in-Generated : goal.returns-in-Generated
returns-in-Generated g c =
    let sections = g.S.Sections.sections c.args.sections.now in
    rw c.in-Generated.is (sym (is_taken-generated_id _ (Rises-present c.args.now sections c.requires.in_order) (omega (arith, length-present-le c.args.now sections))))
