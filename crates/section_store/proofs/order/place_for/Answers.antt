use Rattle.std.proofs.Common.{◌≡◌, ◌∙◌, sym, arith}
use Rattle.section_store.specs.Places.{count_below}
use Rattle.section_store.proofs.PlaceLemmas.{count_below-le-length, count_below-found, count_below-not_found}
use Rattle.section_store.proofs.order.place_for.Goals as goal

pub returns-in-Ok-clause-place : goal.returns-in-Ok-clause-place
returns-in-Ok-clause-place c = count_below-found c.args.id.now c.args.kept.now.sections c.in-Ok.place c.requires (sym c.in-Ok.is ∙ c.search.ensures)

pub returns-in-Ok-clause-within : goal.returns-in-Ok-clause-within
returns-in-Ok-clause-within c =
    let id = c.args.id.now in
    let sections = c.args.kept.now.sections in
    let counted : c.in-Ok.place ≡ count_below id sections = count_below-found id sections c.in-Ok.place c.requires (sym c.in-Ok.is ∙ c.search.ensures) in
    omega (arith, counted, count_below-le-length id sections)

pub returns-in-Err-clause-within : goal.returns-in-Err-clause-within
returns-in-Err-clause-within c =
    let id = c.args.id.now in
    let sections = c.args.kept.now.sections in
    let counted : c.in-Err.place ≡ count_below id sections = count_below-not_found id sections c.in-Err.place (sym c.in-Err.is ∙ c.search.ensures) in
    omega (arith, counted, count_below-le-length id sections)
