use Rattle.std.proofs.Common.{◌≡◌, ◌<◌, ◌-◌, length, get_or, set, cond, nat_lt, true, false, ap, sym, ◌∙◌, arith}
use Rattle.std.proofs.lemmas.Bool.Decides.{nat_tests}
use Rattle.std.proofs.lemmas.List.{get_or_default}
use Rattle.std.proofs.lemmas.List.Edits.{map_over_more}
use Rattle.section_store.specs.Extents.{no_extent, end_of}
use Rattle.section_store.specs.Packing.{lowered}
use Rattle.section_store.specs.declared.extents.Extent.{Extent}
use Rattle.section_store.proofs.packing.move_down.Goals as goal
use Rattle.section_store.proofs.packing.move_down.Goals.{then-extent-end, else-extent-end}

pub loop-extent-preserved : goal.loop-extent-preserved
loop-extent-preserved c =
    let xs = c.args.extents.now.items in
    let ys = c.loop-extent.extent-items in
    let i = c.loop-extent.extent-index in
    let x : Extent = get_or ys i no_extent in
    let size : length ys ≡ length xs = omega (arith, ap length c.deref_mut-extent-items.ensures.value) in
    let there : i < length xs = omega arith in
    let next = map_over_more (lowered c.args.moved) xs ys i x there c.loop-extent.invariant (get_or_default ys i _ x (omega arith)) in
    elim c.if-extent-end.branch [
      | then-extent-end w ↦
          let behind : nat_lt x.start (end_of c.args.moved) ≡ false = grind (arith, nat_tests) in
          w.extent-items-is ∙ ap (λ b. set ys i (cond b x (record x { start = x.start - c.args.moved.len }))) (sym behind) ∙ next
      | else-extent-end w ↦
          let before : nat_lt x.start (end_of c.args.moved) ≡ true = grind (arith, nat_tests) in
          w.extent-items-is ∙ ap (λ b. set ys i (cond b x (record x { start = x.start - c.args.moved.len }))) (sym before) ∙ next
    ]
