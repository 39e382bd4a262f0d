use Rattle.std.proofs.Common.{◌≡◌, ◌∙◌, to_z, of_z, w64, arith}
use Rattle.std.proofs.lemmas.Int.{to_z-of_z}
use Rattle.section_store.specs.Places.{place_among_present}
use Rattle.section_store.proofs.store.Store.count_present.Goals as goal

pub returns : goal.returns
returns c =
    let same : c.loop-before.before ≡ c.args.place = omega arith in
    let moment : to_z w64 (of_z w64 c.args.now) ≡ c.args.now = to_z-of_z w64 c.args.now c.ranges.now in
    rw (← c.self.view_is) (c.loop-before.invariant.counted ∙ (λ i. place_among_present (moment i) (same i) c.self.inside.kept.sections))
