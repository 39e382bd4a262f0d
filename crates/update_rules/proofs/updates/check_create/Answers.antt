use Rattle.std.proofs.Common.{◌≡◌, ◌+◌, ◌||◌, true, false, nat_le, nat_lt, length, int_lt, refl, sym, ◌∙◌, FitsSigned, w64, arith}
use Rattle.std.proofs.lemmas.Bool.{not-false}
use Rattle.std.proofs.lemmas.Int.{to_z-of_z}
use Rattle.ckpt_types.specs.Sections.{is_taken, present, memory_used}
use Rattle.ckpt_types.specs.Updates.{new_id}
use Rattle.ckpt_types.proofs.Presence.{Rises-present}
use Rattle.update_rules.proofs.Singles.{check_answer-section_created}
use Rattle.update_rules.proofs.updates.check_create.Goals as goal

pub returns-then-lacks_room : goal.returns-then-lacks_room
returns-then-lacks_room g c =
    let fits : FitsSigned w64 c.args.now = c.ranges.now in
    let fits_too : FitsSigned w64 c.args.expiration = c.ranges.expiration in
    let sections = present c.args.now (g.S.Sections.sections c.args.sections.now) in
    let later : int_lt c.args.now c.args.expiration ≡ true = not-false _ (simp to_z-of_z at (sym c.if-expired.ensures.value)) in
    let free : false ≡ is_taken (new_id c.args.new.now sections) sections = simp to_z-of_z at c.if-is_taken.ensures in
    let lacks : true ≡ (nat_le c.args.attrs.now.max_sections (length sections) || nat_lt c.args.attrs.now.checkpoint_size (memory_used sections + length c.args.bytes.now)) = simp to_z-of_z at c.if-lacks_room.ensures in
    c.refuse-then-lacks_room.ensures
    ∙ sym (check_answer-section_created c.args.attrs.now c.args.new.now c.args.expiration c.args.bytes.now c.args.now sections (Rises-present c.args.now _ c.requires.in_order) c.if-attrs-eq1.false (sym c.if-is_bad_id.ensures) later (omega arith) (sym free) ∙ rw (← lacks) refl)

pub returns : goal.returns
returns g c =
    let fits : FitsSigned w64 c.args.now = c.ranges.now in
    let fits_too : FitsSigned w64 c.args.expiration = c.ranges.expiration in
    let sections = present c.args.now (g.S.Sections.sections c.args.sections.now) in
    let later : int_lt c.args.now c.args.expiration ≡ true = not-false _ (simp to_z-of_z at (sym c.if-expired.ensures.value)) in
    let free : false ≡ is_taken (new_id c.args.new.now sections) sections = simp to_z-of_z at c.if-is_taken.ensures in
    let lacks : false ≡ (nat_le c.args.attrs.now.max_sections (length sections) || nat_lt c.args.attrs.now.checkpoint_size (memory_used sections + length c.args.bytes.now)) = simp to_z-of_z at c.if-lacks_room.ensures in
    sym (check_answer-section_created c.args.attrs.now c.args.new.now c.args.expiration c.args.bytes.now c.args.now sections (Rises-present c.args.now _ c.requires.in_order) c.if-attrs-eq1.false (sym c.if-is_bad_id.ensures) later (omega arith) (sym free) ∙ rw (← lacks) refl)
