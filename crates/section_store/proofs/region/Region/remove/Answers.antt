use Rattle.std.proofs.Common.{◌≡◌, ◌+◌, ◌<◌, length, ap, sym, subst, ◌∙◌, arith}
use Rattle.std.specs.Prelude.{remove}
use Rattle.section_store.specs.Extents.{strings_in, AreLaid}
use Rattle.section_store.specs.RegionState.{resized}
use Rattle.section_store.proofs.RegionLemmas.{strings_in-remove, remove-with_string, AreLaid-remove}
use Rattle.section_store.proofs.RegionPlaces.{has_place_of}
use Rattle.section_store.proofs.region.Region.remove.Goals as goal

-- the strings behind the removal
removed : (c : goal.After-self-1) → strings_in c.cut.new.buffer.items c.remove.new.self.items ≡ remove (strings_in c.self.inside.buffer.items c.self.inside.extents.items) c.args.place
removed c =
    ap (strings_in c.cut.new.buffer.items) c.remove.ensures.items ∙ strings_in-remove c.cut.new.buffer.items c.cut.new.extents.items c.args.place
    ∙ ap (λ xs. remove xs c.args.place) c.cut.ensures.strings ∙ remove-with_string (resized 0) c.args.place (strings_in c.self.inside.buffer.items c.self.inside.extents.items)

pub invariant_of-self : goal.invariant_of-self
invariant_of-self c =
    let was = c.self.invariant in
    let place = has_place_of c.self.inside c.args.self.now c.args.place c.self.view_is c.self.invariant c.requires in
    let there : c.args.place < length c.cut.new.extents.items = omega (arith, place.there, c.cut.ensures.len) in
    record {
      laid = subst (AreLaid (length c.cut.new.buffer.items)) (sym c.remove.ensures.items) (AreLaid-remove (length c.cut.new.buffer.items) c.cut.new.extents.items c.args.place c.cut.ensures.laid there);
      inside = omega (arith, was.inside, c.cut.ensures.end);
      bytes = omega (arith, was.bytes, c.cut.ensures.bytes);
      places = omega (arith, was.places, c.remove.ensures.capacity, c.cut.ensures.places, c.remove.ensures.len, c.cut.ensures.len);
    }

pub returns : goal.returns
returns c = λ i. record (c.self.view_is i) { strings = (removed c ∙ ap (λ r. remove r.strings c.args.place) c.self.view_is) i; spare = (c.self.view_is i).spare + 1 }
