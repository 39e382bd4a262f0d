use Rattle.std.proofs.Common.{◌≡◌, ◌+◌, ◌<◌, ◌≤◌, length, set, ap, sym, subst, refl, inl, inr, ◌∙◌, arith}
use Rattle.std.proofs.lemmas.Bool.{cases_eq}
use Rattle.std.proofs.lemmas.List.{length-set, get_or-set_same, get_or-set_other}
use Rattle.std.proofs.lemmas.List.Sums.{sum_by-drop_more}
use Rattle.section_store.specs.Extents.{no_extent, extent_at, end_of}
use Rattle.section_store.specs.declared.extents.Extent.{Extent}
use Rattle.section_store.proofs.ExtentLemmas.{extent_read, extent_at-any}
use Rattle.section_store.proofs.Sliding.{IsSliding, CanSlide, sliding-can, sliding-next}
use Rattle.section_store.proofs.packing.slide_all.Goals as goal

pub slide-requires-clause-free : goal.slide-requires-clause-free
slide-requires-clause-free c =
    let was = c.loop-place.invariant in
    (sliding-can c.args.extents.now.items c.loop-place.extents.items _ c.loop-place.end c.loop-place.place c.requires.rise was.len was.laid (omega arith) was.sliding).free

pub loop-place-preserved : goal.loop-place-preserved
loop-place-preserved c =
    let was = c.loop-place.invariant in
    let old = c.args.extents.now.items in
    let es = c.loop-place.extents.items in
    let i = c.loop-place.place in
    let end = c.loop-place.end in
    let e = c.index.result.now in
    let e' : Extent = record (extent_at i es) { start = end } in
    let there : i < length old = omega arith in
    let can : CanSlide old i end es = sliding-can old es _ end i c.requires.rise was.len was.laid there was.sliding in
    let next : IsSliding old (i + 1) (end + e'.len) (set es i e') = sliding-next old es _ end i e' c.requires.rise was.len was.laid there was.sliding refl refl in
    let moved : c.slide.new.extents.items ≡ set es i e' = c.slide.ensures.extents in
    let size : length c.slide.new.extents.items ≡ length es = ap length moved ∙ length-set es i e' in
    let read : e ≡ e' = sym (extent_read c.slide.new.extents.items i e (omega (arith, size, can.there)) c.index.ensures) ∙ ap (extent_at i) moved ∙ get_or-set_same es i e' no_extent can.there in
    let len : e.len ≡ (extent_at i old).len = ap (λ x. x.len) read ∙ ap (λ x. x.len) can.same in
    record {
      strings = c.slide.ensures.strings ∙ was.strings;
      told = λ k. ap (λ xs. (extent_at k xs).place) moved ∙ elim (cases_eq k i) [
        | inl at ↦ ap (λ n. (extent_at n (set es i e')).place) at ∙ ap (λ x. x.place) (get_or-set_same es i e' no_extent can.there) ∙ ap (λ n. (extent_at n es).place) (sym at)
        | inr other ↦ ap (λ x. x.place) (get_or-set_other es i k e' no_extent other)
      ] ∙ was.told k;
      laid = c.slide.ensures.laid;
      sliding = subst (λ xs. IsSliding old (i + 1) (end + e.len) xs) (sym moved) (subst (λ n. IsSliding old (i + 1) (end + n) (set es i e')) (ap (λ x. x.len) (sym read)) next);
      sum = omega (arith, was.sum, len, sum_by-drop_more (λ (x : Extent). x.len) old i no_extent there);
      within = omega (arith, c.slide.ensures.size, can.down, ap (λ x. x.len) read, was.laid.within i no_extent can.there);
      size = c.slide.ensures.size ∙ was.size;
      len = size ∙ was.len;
      bytes = c.slide.ensures.bytes ∙ was.bytes;
      places = c.slide.ensures.places ∙ was.places;
    }

pub returns-clause-laid : goal.returns-clause-laid
returns-clause-laid c =
    let was = c.loop-place.invariant in
    let es = c.loop-place.extents.items in
    record {
      within = λ k d lt. subst (λ x. end_of x ≤ c.loop-place.end) (sym (extent_at-any es k d lt)) (was.sliding.done k (omega (arith, was.len)) (omega (arith, was.len)));
      apart = was.laid.apart;
      empty = was.laid.empty;
    }
