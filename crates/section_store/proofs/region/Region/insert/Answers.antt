use Rattle.std.proofs.Common.{◌≡◌, ◌+◌, ◌-◌, ◌≤◌, ◌<◌, [], length, inl, ap, sym, subst, refl, ◌∙◌, arith}
use Rattle.std.specs.Prelude.{insert}
use Rattle.std.proofs.lemmas.List.{length-map}
use Rattle.section_store.specs.Extents.{no_extent, bytes_at, strings_in, AreLaid}
use Rattle.section_store.specs.declared.extents.Extent.{Extent}
use Rattle.section_store.proofs.RegionLemmas.{strings_in-insert, AreLaid-insert}
use Rattle.section_store.proofs.region.Region.insert.Goals as goal

-- the strings behind the insertion
inserted : (c : goal.After-self-1) → strings_in c.self.inside.buffer.items c.insert.new.self.items ≡ insert (strings_in c.self.inside.buffer.items c.self.inside.extents.items) c.args.place []
inserted c = ap (strings_in c.self.inside.buffer.items) c.in-Ok.ensures.items ∙ strings_in-insert c.self.inside.buffer.items c.self.inside.extents.items c.args.place

pub invariant_of-self : goal.invariant_of-self
invariant_of-self c =
    let was = c.self.invariant in
    let b = c.self.inside.buffer.items in
    let es = c.self.inside.extents.items in
    let none : Extent = no_extent in
    let place : c.args.place ≤ length es = omega (arith, length-map es (bytes_at b), ap (λ r. length r.strings) c.self.view_is) in
    let spare : 0 < c.self.inside.spare = omega (arith, ap (λ r. r.spare) c.self.view_is) in
    let size : length c.insert.new.self.items ≡ length es + 1 = omega (arith, c.in-Ok.ensures.len) in
    record {
      laid = subst (AreLaid (length b)) (sym c.in-Ok.ensures.items) (AreLaid-insert (length b) (length b) es c.args.place none was.laid place (omega arith) (omega arith) (λ is. refl) (λ k lt. inl (omega arith)));
      inside = was.inside;
      bytes = was.bytes;
      places = omega (arith, was.places, c.in-Ok.ensures.capacity);
    }

pub returns : goal.returns
returns c = λ i. record (c.self.view_is i) { strings = (inserted c ∙ ap (λ r. insert r.strings c.args.place []) c.self.view_is) i; spare = (c.self.view_is i).spare - 1 }
