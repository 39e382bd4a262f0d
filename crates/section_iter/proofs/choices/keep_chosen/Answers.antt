use Rattle.std.proofs.Common.{◌≡◌, ◌+◌, ◌*◌, ◌≤◌, ◌++◌, ◌∷◌, [], ℕ, ◌∙◌, ap, sym, subst, take, length, vec_capacity, FitsSigned, to_z, of_z, w64, arith}
use Rattle.std.proofs.lemmas.Int.{to_z-of_z}
use Rattle.std.proofs.lemmas.List.{take_all}
use Rattle.ckpt_types.specs.Reads.{chosen}
use Rattle.ckpt_types.specs.Sections.{section_of}
use Rattle.ckpt_types.proofs.EndsLemmas.{length-pieces_between}
use Rattle.section_iter.specs.Ids.{ids_in, AreIds}
use Rattle.section_iter.proofs.ChosenLemmas.{chosen_taken, chosen_left, length-chosen-take-le}
use Rattle.section_iter.proofs.IdsLemmas.{room_for_one, bytes_within, bytes_before, short_at}
use Rattle.section_iter.proofs.choices.keep_chosen.Goals as goal
use Rattle.section_iter.proofs.choices.keep_chosen.Goals.{then-is_chosen, else-is_chosen}

pub push_id-requires-clause-place : goal.push_id-requires-clause-place
push_id-requires-clause-place g c =
    let few = length-chosen-take-le c.args.choice.now (to_z w64 (of_z w64 c.args.now)) (g.S.Sections.sections c.args.sections.now) c.loop-place.place in
    let kept = ap length c.loop-place.invariant.ids in
    let count = length-pieces_between 0 c.loop-place.ends.items c.loop-place.bytes.items in
    omega (arith, few, kept, count)

pub push_id-requires-clause-room : goal.push_id-requires-clause-room
push_id-requires-clause-room g c =
    let place = c.loop-place.place in
    let short : length c.at-section.result.id.now ≤ c.args.room.id_size = short_at c.args.room.id_size (g.S.Sections.sections c.args.sections.now) place (section_of c.at-section.result) c.requires.short c.at-section.ensures in
    let room : place * c.args.room.id_size + c.args.room.id_size ≤ c.args.room.ids * c.args.room.id_size = room_for_one c.args.room.id_size place c.args.room.ids (omega arith) in
    omega (arith, short, room)

pub push_id-requires-clause-small : goal.push_id-requires-clause-small
push_id-requires-clause-small g c =
    let place = c.loop-place.place in
    let short : length c.at-section.result.id.now ≤ c.args.room.id_size = short_at c.args.room.id_size (g.S.Sections.sections c.args.sections.now) place (section_of c.at-section.result) c.requires.short c.at-section.ensures in
    let room : place * c.args.room.id_size + c.args.room.id_size ≤ c.args.room.ids * c.args.room.id_size = room_for_one c.args.room.id_size place c.args.room.ids (omega arith) in
    omega (arith, short, room)

pub loop-place-preserved : goal.loop-place-preserved
loop-place-preserved g c =
    let place = c.loop-place.place in
    let section = section_of c.at-section.result in
    let size = c.args.room.id_size in
    elim c.if-is_chosen.branch [
      | then-is_chosen w ↦
          let short : length c.at-section.result.id.now ≤ size = short_at size (g.S.Sections.sections c.args.sections.now) place section c.requires.short c.at-section.ensures in
          let used : length c.if-is_chosen.bytes.items ≡ length c.loop-place.bytes.items + length c.at-section.result.id.now = ap (λ v. length v.items) w.bytes-is ∙ w.push_id.ensures.more in
          record {
            kept = subst (λ v. AreIds c.if-is_chosen.ends.items v.items) (sym w.bytes-is) (subst (λ v. AreIds v.items w.push_id.new.bytes.items) (sym w.ends-is) w.push_id.ensures.kept);
            ids =
                (λ i. ids_in (w.ends-is i).items (w.bytes-is i).items) ∙ w.push_id.ensures.ids ∙ ap (λ ids. ids ++ section.id ∷ []) c.loop-place.invariant.ids
                ∙ sym (chosen_taken c.args.choice.now _ _ place section c.at-section.ensures (sym c.is_chosen.ensures ∙ w.if-is_chosen.true));
            within = subst (λ (n : ℕ). n ≤ (place + 1) * size) (sym used) (bytes_within size place (length c.loop-place.bytes.items) (length c.at-section.result.id.now) c.loop-place.invariant.within short);
            ends_taken = subst (λ (n : ℕ). c.args.room.ids ≤ n) (sym (ap vec_capacity w.ends-is ∙ w.push_id.ensures.ends_room)) c.loop-place.invariant.ends_taken;
            bytes_taken = omega (arith, ap vec_capacity w.bytes-is, w.push_id.ensures.bytes_room, c.loop-place.invariant.bytes_taken);
          }
      | else-is_chosen w ↦ record {
        kept = subst (λ v. AreIds c.if-is_chosen.ends.items v.items) (sym w.bytes-is) (subst (λ v. AreIds v.items c.loop-place.bytes.items) (sym w.ends-is) c.loop-place.invariant.kept);
        ids =
            (λ i. ids_in (w.ends-is i).items (w.bytes-is i).items) ∙ c.loop-place.invariant.ids
            ∙ sym (chosen_left c.args.choice.now _ _ place section c.at-section.ensures (sym c.is_chosen.ensures ∙ w.if-is_chosen.false));
        within = subst (λ (n : ℕ). n ≤ (place + 1) * size) (sym (ap (λ v. length v.items) w.bytes-is)) (bytes_before size place (length c.loop-place.bytes.items) c.loop-place.invariant.within);
        ends_taken = subst (λ (n : ℕ). c.args.room.ids ≤ n) (sym (ap vec_capacity w.ends-is)) c.loop-place.invariant.ends_taken;
        bytes_taken = subst (λ (n : ℕ). c.args.room.ids * size ≤ n) (sym (ap vec_capacity w.bytes-is)) c.loop-place.invariant.bytes_taken;
      }
    ]

pub returns-clause-ids : goal.returns-clause-ids
returns-clause-ids g c =
    let fits : FitsSigned w64 c.args.now = c.ranges.now in
    let sections = g.S.Sections.sections c.args.sections.now in
    let kept : ids_in c.loop-place.ends.items c.loop-place.bytes.items ≡ chosen c.args.choice.now c.args.now (take c.loop-place.place sections) = simp to_z-of_z at c.loop-place.invariant.ids in
    kept ∙ ap (chosen c.args.choice.now c.args.now) (take_all c.loop-place.place sections (omega arith))
