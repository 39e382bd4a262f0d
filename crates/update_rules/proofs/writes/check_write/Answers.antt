use Rattle.std.proofs.Common.{◌≡◌, ◌∷◌, [], Some, None, sym, ap, ◌∙◌, FitsSigned, w64, arith}
use Rattle.std.proofs.lemmas.Int.{to_z-of_z}
use Rattle.ckpt_types.specs.Sections.{section_of, present, memory_used}
use Rattle.ckpt_types.specs.Updates.{first_place}
use Rattle.update_rules.specs.Present.{place_present}
use Rattle.update_rules.proofs.OneElement.{only_one, one_absent, one_long, one_full, one_fine}
use Rattle.update_rules.proofs.writes.check_write.Goals as goal

pub returns-in_default-find_present : goal.returns-in_default-find_present
returns-in_default-find_present g c =
    let fits : FitsSigned w64 c.args.now = c.ranges.now in
    let sections = g.S.Sections.sections c.args.sections.now in
    let one : c.args.elements.now ≡ c.element-item.result ∷ [] = only_one c.args.elements.now c.element-item.result (omega arith) c.element-item.is in
    let found : None ≡ place_present c.as_slice.result.now c.args.now sections = simp to_z-of_z at c.in_default-find_present.ensures.found in
    let at : None ≡ place_present c.element-item.result.id c.args.now sections = found ∙ ap (λ id. place_present id c.args.now sections) c.as_slice.ensures in
    cc (one_absent (first_place c.args.elements.now sections) c.args.attrs.now c.args.now c.args.elements.now c.element-item.result sections one c.requires.in_order (sym at))

pub returns-then-end-from : goal.returns-then-end-from
returns-then-end-from g c =
    let fits : FitsSigned w64 c.args.now = c.ranges.now in
    let sections = g.S.Sections.sections c.args.sections.now in
    let one : c.args.elements.now ≡ c.element-item.result ∷ [] = only_one c.args.elements.now c.element-item.result (omega arith) c.element-item.is in
    let found : Some c.in-Some.place ≡ place_present c.as_slice.result.now c.args.now sections = simp to_z-of_z at c.in-Some.ensures.found in
    let at : Some c.in-Some.place ≡ place_present c.element-item.result.id c.args.now sections = found ∙ ap (λ id. place_present id c.args.now sections) c.as_slice.ensures in
    cc (one_long (first_place c.args.elements.now sections) c.args.attrs.now c.args.now c.args.elements.now c.element-item.result sections c.in-Some.place (section_of c.at.result) one c.requires.in_order (sym at) c.at.ensures (omega arith))

pub returns-then-used-saturating_sub : goal.returns-then-used-saturating_sub
returns-then-used-saturating_sub g c =
    let fits : FitsSigned w64 c.args.now = c.ranges.now in
    let sections = g.S.Sections.sections c.args.sections.now in
    let one : c.args.elements.now ≡ c.element-item.result ∷ [] = only_one c.args.elements.now c.element-item.result (omega arith) c.element-item.is in
    let found : Some c.in-Some.place ≡ place_present c.as_slice.result.now c.args.now sections = simp to_z-of_z at c.in-Some.ensures.found in
    let at : Some c.in-Some.place ≡ place_present c.element-item.result.id c.args.now sections = found ∙ ap (λ id. place_present id c.args.now sections) c.as_slice.ensures in
    let sum : c.totals.result.bytes ≡ memory_used (present c.args.now sections) = simp to_z-of_z at c.totals.ensures.bytes in
    cc (one_full (first_place c.args.elements.now sections) c.args.attrs.now c.args.now c.args.elements.now c.element-item.result sections c.in-Some.place (section_of c.at.result) c.totals.result.bytes one c.requires.in_order (sym at) c.at.ensures sum (omega arith) (omega arith))

pub returns : goal.returns
returns g c =
    let fits : FitsSigned w64 c.args.now = c.ranges.now in
    let sections = g.S.Sections.sections c.args.sections.now in
    let one : c.args.elements.now ≡ c.element-item.result ∷ [] = only_one c.args.elements.now c.element-item.result (omega arith) c.element-item.is in
    let found : Some c.in-Some.place ≡ place_present c.as_slice.result.now c.args.now sections = simp to_z-of_z at c.in-Some.ensures.found in
    let at : Some c.in-Some.place ≡ place_present c.element-item.result.id c.args.now sections = found ∙ ap (λ id. place_present id c.args.now sections) c.as_slice.ensures in
    let sum : c.totals.result.bytes ≡ memory_used (present c.args.now sections) = simp to_z-of_z at c.totals.ensures.bytes in
    cc (one_fine c.args.attrs.now c.args.now c.args.elements.now c.element-item.result sections c.in-Some.place (section_of c.at.result) c.totals.result.bytes one c.requires.in_order (sym at) c.at.ensures sum (omega arith) (omega arith))
