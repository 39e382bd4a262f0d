use Rattle.std.proofs.Common.{◌≡◌, ◌≤◌, ◌∙◌, ap, sym, subst, refl, length, to_z, of_z, w64, arith}
use Rattle.std.specs.Prelude.{Ok, insert}
use Rattle.std.proofs.lemmas.Int.{to_z-of_z}
use Rattle.ckpt_types.specs.Limits.{section_id_max}
use Rattle.ckpt_types.specs.Sections.{present}
use Rattle.ckpt_types.specs.Updates.{new_id}
use Rattle.ckpt_types.proofs.AttributeLaws.{IsWellFormed-from_check}
use Rattle.section_store.specs.Places.{count_below}
use Rattle.section_store.specs.StoreState.{new_section}
use Rattle.section_store.specs.Summary.{AreTaken}
use Rattle.section_store.proofs.Placed.{section_created-told, section_created-short}
use Rattle.section_store.proofs.store.Store.create.Goals as goal

pub new_id-made-requires-clause-short : goal.new_id-made-requires-clause-short
new_id-made-requires-clause-short c =
    let kept = c.self.inside.kept.sections in
    let moment : to_z w64 (of_z w64 c.args.now) ≡ c.args.now = to_z-of_z w64 c.args.now c.ranges.now in
    let all_present : present c.args.now kept ≡ kept = rw (← c.self.view_is) at c.requires.all_present in
    let shown : present (to_z w64 (of_z w64 c.args.now)) c.self.inside.kept.sections ≡ kept = ap (λ t. present t c.self.inside.kept.sections) moment ∙ all_present in
    subst (λ xs. length (new_id c.args.new.now xs) ≤ section_id_max) (sym shown)
    (section_created-short c.self.inside.attributes c.args.new.now c.args.expiration c.args.bytes.now c.args.now kept c.self.invariant.checked (rw (← c.self.view_is) at c.requires.accepted))

pub new_id-made-requires-clause-few : goal.new_id-made-requires-clause-few
new_id-made-requires-clause-few c =
    let declared = IsWellFormed-from_check c.self.inside.attributes c.self.invariant.checked in
    omega (arith, c.self.invariant.fits.few, declared.few_sections)

pub put_at-requires-clause-rises : goal.put_at-requires-clause-rises
put_at-requires-clause-rises c =
    let kept = c.self.inside.kept.sections in
    let moment : to_z w64 (of_z w64 c.args.now) ≡ c.args.now = to_z-of_z w64 c.args.now c.ranges.now in
    let all_present : present c.args.now kept ≡ kept = rw (← c.self.view_is) at c.requires.all_present in
    let named : c.new_id-made.result.id ≡ new_id c.args.new.now kept = c.new_id-made.ensures.id ∙ ap (λ t. new_id c.args.new.now (present t kept)) moment ∙ ap (new_id c.args.new.now) all_present in
    let place : c.place_for-place.result ≡ count_below (new_id c.args.new.now kept) kept = c.place_for-place.ensures.place ∙ ap (λ x. count_below x kept) (c.as_slice.ensures ∙ named) in
    let leaves = section_created-told c.self.inside.attributes c.args.new.now c.args.expiration _ c.args.bytes.now c.args.now _ kept c.new_id-made.result.id c.place_for-place.result (to_z-of_z w64 c.args.expiration c.ranges.expiration) moment named place c.self.invariant.rises c.self.invariant.fits (rw (← c.self.view_is) at c.requires.accepted) in
    rw (← c.self.view_is) leaves.rises

pub put_at-requires-clause-fits : goal.put_at-requires-clause-fits
put_at-requires-clause-fits c =
    let kept = c.self.inside.kept.sections in
    let moment : to_z w64 (of_z w64 c.args.now) ≡ c.args.now = to_z-of_z w64 c.args.now c.ranges.now in
    let all_present : present c.args.now kept ≡ kept = rw (← c.self.view_is) at c.requires.all_present in
    let named : c.new_id-made.result.id ≡ new_id c.args.new.now kept = c.new_id-made.ensures.id ∙ ap (λ t. new_id c.args.new.now (present t kept)) moment ∙ ap (new_id c.args.new.now) all_present in
    let place : c.place_for-place.result ≡ count_below (new_id c.args.new.now kept) kept = c.place_for-place.ensures.place ∙ ap (λ x. count_below x kept) (c.as_slice.ensures ∙ named) in
    let leaves = section_created-told c.self.inside.attributes c.args.new.now c.args.expiration _ c.args.bytes.now c.args.now _ kept c.new_id-made.result.id c.place_for-place.result (to_z-of_z w64 c.args.expiration c.ranges.expiration) moment named place c.self.invariant.rises c.self.invariant.fits (rw (← c.self.view_is) at c.requires.accepted) in
    rw (← c.self.view_is) leaves.fits

pub put_at-requires-clause-taken : goal.put_at-requires-clause-taken
put_at-requires-clause-taken c =
    let kept = c.self.inside.kept.sections in
    let section = new_section c.new_id-made.result.id c.args.bytes.now (to_z w64 (of_z w64 c.args.expiration)) (to_z w64 (of_z w64 c.args.now)) in
    let all_present : present c.args.now kept ≡ kept = rw (← c.self.view_is) at c.requires.all_present in
    let shown : present (to_z w64 (of_z w64 c.args.now)) kept ≡ kept = ap (λ t. present t kept) (to_z-of_z w64 c.args.now c.ranges.now) ∙ all_present in
    rw (← c.self.view_is) (subst (λ xs. AreTaken c.new_id-made.result.first (insert xs c.place_for-place.result section)) shown (c.new_id-made.ensures.first c.place_for-place.result section refl))

pub returns-clause-sections : goal.returns-clause-sections
returns-clause-sections c =
    let kept = c.self.inside.kept.sections in
    let moment : to_z w64 (of_z w64 c.args.now) ≡ c.args.now = to_z-of_z w64 c.args.now c.ranges.now in
    let all_present : present c.args.now kept ≡ kept = rw (← c.self.view_is) at c.requires.all_present in
    let named : c.new_id-made.result.id ≡ new_id c.args.new.now kept = c.new_id-made.ensures.id ∙ ap (λ t. new_id c.args.new.now (present t kept)) moment ∙ ap (new_id c.args.new.now) all_present in
    let place : c.place_for-place.result ≡ count_below (new_id c.args.new.now kept) kept = c.place_for-place.ensures.place ∙ ap (λ x. count_below x kept) (c.as_slice.ensures ∙ named) in
    let leaves = section_created-told c.self.inside.attributes c.args.new.now c.args.expiration _ c.args.bytes.now c.args.now _ kept c.new_id-made.result.id c.place_for-place.result (to_z-of_z w64 c.args.expiration c.ranges.expiration) moment named place c.self.invariant.rises c.self.invariant.fits (rw (← c.self.view_is) at c.requires.accepted) in
    rw (← c.self.view_is) (leaves.is ∙ ap Ok (sym (ap (λ s. s.sections) (rw (← c.self.view_is) at c.put_at.ensures))))
