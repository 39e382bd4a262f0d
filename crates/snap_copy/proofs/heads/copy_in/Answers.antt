use Rattle.std.proofs.lemmas.Grind.{common_steps}
use Rattle.std.proofs.Common.{◌++◌, ◌∷◌, [], ap, ◌∙◌, sym, arith}
use Rattle.ckpt_types.specs.Sections.{section_of}
use Rattle.ckpt_types.proofs.FirstSections.{take-next, memory_used-next, memory_used-room}
use Rattle.snap_copy.proofs.heads.copy_in.Goals as goal

pub add-requires-clause-bytes_room : goal.add-requires-clause-bytes_room
add-requires-clause-bytes_room g c =
    let sections = g.S.Sections.sections c.args.from.now in
    let i = c.loop-place.place in
    let section = section_of c.at-section.result in
    let was = c.loop-place.invariant in
    omega (arith, memory_used-room sections i section c.at-section.ensures, was.bytes_len, was.bytes_capacity, c.clear.ensures.capacity, c.requires.bytes_room)

pub loop-place-preserved : goal.loop-place-preserved
loop-place-preserved g c =
    let sections = g.S.Sections.sections c.args.from.now in
    let i = c.loop-place.place in
    let section = section_of c.at-section.result in
    let was = c.loop-place.invariant in
    record {
      copied = c.add.ensures.sections ∙ ap (λ xs. xs ++ section ∷ []) was.copied ∙ sym (take-next sections i section c.at-section.ensures);
      within = c.add.ensures.within;
      bytes_len = omega (arith, c.add.ensures.bytes_len, was.bytes_len, memory_used-next sections i section c.at-section.ensures);
      heads_len = omega (arith, c.add.ensures.heads_len, was.heads_len);
      bytes_capacity = omega (arith, c.add.ensures.bytes_capacity, was.bytes_capacity);
      heads_capacity = omega (arith, c.add.ensures.heads_capacity, was.heads_capacity);
    }

pub returns-clause-sections : goal.returns-clause-sections
returns-clause-sections g c = grind (arith, common_steps)
