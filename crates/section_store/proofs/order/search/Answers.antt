use Rattle.std.proofs.Common.{◌≡◌, ◌≢◌, ◌+◌, ◌-◌, ◌/◌, ◌<◌, ◌≤◌, Some, None, Err, Less, Equal, Greater, true, ap, ◌∙◌, sym, refl, arith}
use Rattle.std.specs.Option.{ok_or}
use Rattle.ckpt_types.specs.Sections.{id_cmp, is_named, place_of}
use Rattle.ckpt_types.proofs.Presence.{is_named-by_order, place_of-lt}
use Rattle.section_store.specs.KeptState.{section_in}
use Rattle.section_store.specs.Places.{count_below}
use Rattle.section_store.proofs.PlaceLemmas.{count_below-le-length, count_below-above, count_below-le, count_below-place_of, place_of-below}
use Rattle.section_store.proofs.KeptLemmas.{section_in-slice_get, place_of-kept}
use Rattle.section_store.proofs.order.search.Goals as goal

pub loop-low-init : goal.loop-low-init
loop-low-init c = record {
  above = omega arith;
  below = omega (arith, count_below-le-length c.args.id.now c.args.kept.now.sections);
  found_below = λ i at. omega (arith, place_of-lt c.args.id.now c.args.kept.now.sections i at);
  within = omega arith;
}

pub loop-low-preserved-in-Greater : goal.loop-low-preserved-in-Greater
loop-low-preserved-in-Greater c =
    let middle = c.loop-low.low + (c.loop-low.high - c.loop-low.low) / 2 in
    let stored = section_in c.args.kept.now middle in
    let greater : id_cmp c.args.id.now stored.id ≡ Greater = ap (id_cmp c.args.id.now) (sym c.id.ensures) ∙ sym c.compare.ensures ∙ c.in-Greater.is in
    let counted : middle < count_below c.args.id.now c.args.kept.now.sections =
    count_below-above c.args.id.now c.args.kept.now.sections middle stored c.requires (section_in-slice_get c.args.kept.now middle (omega arith)) greater in
    record { above = omega arith; below = c.loop-low.invariant.below; found_below = c.loop-low.invariant.found_below; within = c.loop-low.invariant.within }

pub loop-low-preserved : goal.loop-low-preserved
loop-low-preserved c =
    let id = c.args.id.now in
    let kept = c.args.kept.now in
    let middle = c.loop-low.low + (c.loop-low.high - c.loop-low.low) / 2 in
    let stored = section_in c.args.kept.now middle in
    let less : id_cmp id stored.id ≡ Less = ap (id_cmp id) (sym c.id.ensures) ∙ sym c.compare.ensures ∙ c.in-Less.is in
    let low : id_cmp id stored.id ≢ Greater = λ above. cc (less, above) in
    let here = section_in-slice_get kept middle (omega arith) in
    let counted : count_below id kept.sections ≤ middle = count_below-le id kept.sections middle stored here low in
    record {
      above = c.loop-low.invariant.above;
      below = counted;
      found_below = λ i at. place_of-below id kept.sections middle i stored c.requires here less at;
      within = omega arith;
    }

pub returns-in-Equal : goal.returns-in-Equal
returns-in-Equal c =
    let id = c.args.id.now in
    let kept = c.args.kept.now in
    let middle = c.loop-low.low + (c.loop-low.high - c.loop-low.low) / 2 in
    let stored = section_in c.args.kept.now middle in
    let equal : id_cmp id stored.id ≡ Equal = ap (id_cmp id) (sym c.id.ensures) ∙ sym c.compare.ensures ∙ c.in-Equal.is in
    let named : is_named id stored ≡ true = is_named-by_order id stored Equal equal in
    sym (ap (λ o. ok_or o (count_below id kept.sections)) (place_of-kept id kept middle c.requires (omega arith) named))

pub returns : goal.returns
returns c =
    let id = c.args.id.now in
    let sections = c.args.kept.now.sections in
    let counted : c.loop-low.low ≡ count_below id sections = omega arith in
    elim (place_of id sections) as (λ o. place_of id sections ≡ o → Err c.loop-low.low ≡ ok_or o (count_below id sections)) [
      | None ↦ λ nowhere. ap Err counted
      | Some i ↦ λ at. absurd (omega (arith, c.loop-low.invariant.found_below i at, count_below-place_of id sections i c.requires at))
    ] refl
