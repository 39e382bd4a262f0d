use Rattle.std.proofs.Common.{◌≡◌, arith, true, ap, ◌∙◌, sym}
use Rattle.std.specs.Cmp.Lexicographic.{pointwise}
use Rattle.std.specs.Prelude.{nat_eq}
use Rattle.ckpt_types.specs.Sections.{is_named}
use Rattle.ckpt_types.specs.Updates.{numbered_id}
use Rattle.section_store.specs.KeptState.{section_in}
use Rattle.section_store.proofs.KeptLemmas.{place_of-kept}
use Rattle.section_store.proofs.identifiers.find_number.Goals as goal

pub returns-then-is_number-clause-place : goal.returns-then-is_number-clause-place
returns-then-is_number-clause-place c =
    let stored = section_in c.args.kept.now c.args.near in
    let id = numbered_id c.args.number in
    let named : is_named id stored ≡ true = ap (λ x. pointwise nat_eq x id) (sym c.id.ensures) ∙ sym c.is_number.ensures ∙ c.if-is_number.true in
    sym (place_of-kept id c.args.kept.now c.args.near c.requires (omega (arith, c.if-near-len.true, c.len.ensures)) named)
