use Rattle.std.proofs.Common.{◌≡◌, arith, true, ap, ◌∙◌, sym}
use Rattle.std.specs.Cmp.Lexicographic.{pointwise}
use Rattle.std.specs.Prelude.{nat_eq}
use Rattle.ckpt_types.specs.Sections.{is_named}
use Rattle.section_store.specs.KeptState.{section_in}
use Rattle.section_store.proofs.KeptLemmas.{place_of-kept}
use Rattle.section_store.proofs.order.find_near.Goals as goal

pub returns-then-is_id-clause-place : goal.returns-then-is_id-clause-place
returns-then-is_id-clause-place c =
    let id = c.args.id.now in
    let named : is_named id (section_in c.args.kept.now c.args.near) ≡ true = ap (λ x. pointwise nat_eq x id) (sym c.id.ensures) ∙ sym c.is_id.ensures ∙ c.if-is_id.true in
    sym (place_of-kept id c.args.kept.now c.args.near c.requires (omega (arith, c.if-near-len.true, c.len.ensures)) named)
