use Rattle.std.proofs.Common.{◌≡◌, suc, ◌+◌, true, false, take, ap, ◌∙◌, sym, arith, nat_eq}
use Rattle.std.specs.Cmp.Lexicographic.{pointwise}
use Rattle.ckpt_types.specs.Sections.{is_named, place_of}
use Rattle.snap_copy.specs.Heads.{section_in, sections_in}
use Rattle.snap_copy.proofs.PlaceLemmas.{place_of-here, place_of-not_here}
use Rattle.snap_copy.proofs.heads.find.Goals as goal

pub returns-then-eq : goal.returns-then-eq
returns-then-eq c = λ bytes.
    let h = c.index-heads-place.result in
    let named : is_named c.args.id.now (section_in bytes h) ≡ true = ap (λ x. pointwise nat_eq x c.args.id.now) (sym (c.as_slice.ensures ∙ ap (λ x. x.id) (sym c.index-heads-place.is))) ∙ sym c.eq.ensures ∙ c.if-eq.true in
    sym (place_of-here c.args.id.now bytes c.args.heads.now c.loop-place.place h c.loop-place-test.true c.index-heads-place.is (c.loop-place.invariant.none bytes) named)

pub loop-place-preserved : goal.loop-place-preserved
loop-place-preserved c = record {
  none = λ bytes.
      let h = c.index-heads-place.result in
      let other : is_named c.args.id.now (section_in bytes h) ≡ false = ap (λ x. pointwise nat_eq x c.args.id.now) (sym (c.as_slice.ensures ∙ ap (λ x. x.id) (sym c.index-heads-place.is))) ∙ sym c.eq.ensures ∙ c.if-eq.false in
      let next : suc c.loop-place.place ≡ c.loop-place.place + 1 = omega arith in
      ap (λ n. place_of c.args.id.now (sections_in bytes (take n c.args.heads.now))) (sym next)
      ∙ place_of-not_here c.args.id.now bytes c.args.heads.now c.loop-place.place h c.loop-place-test.true c.index-heads-place.is (c.loop-place.invariant.none bytes) other;
}
