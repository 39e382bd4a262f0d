use Rattle.std.proofs.Common.{◌+◌, ◌≤◌, length, ap, sym, subst, ◌∙◌, arith}
use Rattle.ckpt_types.specs.Updates.{written}
use Rattle.section_store.specs.Extents.{AreLaid}
use Rattle.section_store.specs.RegionState.{string_at, with_string}
use Rattle.section_store.proofs.RegionPlaces.{has_place, has_written}
use Rattle.section_store.proofs.region.Region.write.Goals as goal

pub invariant_of-self : goal.invariant_of-self
invariant_of-self c =
    let was = c.self.invariant in
    let place = has_place c.self.inside c.args.self.now c.args.place c.index.result.now c.self.view_is was c.requires.there c.index.ensures in
    let inside : c.args.offset + length c.args.bytes.now ≤ c.index.result.now.len = omega (arith, c.requires.within, ap (λ r. length (string_at c.args.place r.strings)) c.self.view_is, place.long) in
    let done = has_written c.self.inside c.args.place c.args.offset c.index.result.now c.args.bytes.now c.put_over.new.buffer.items was place inside c.put_over.ensures.items in
    record {
      laid = subst (λ n. AreLaid n c.self.inside.extents.items) (sym done.size) was.laid;
      inside = omega (arith, done.size, was.inside);
      bytes = omega (arith, c.put_over.ensures.capacity, was.bytes);
      places = was.places;
    }

pub returns : goal.returns
returns c =
    let was = c.self.invariant in
    let place = has_place c.self.inside c.args.self.now c.args.place c.index.result.now c.self.view_is was c.requires.there c.index.ensures in
    let inside : c.args.offset + length c.args.bytes.now ≤ c.index.result.now.len = omega (arith, c.requires.within, ap (λ r. length (string_at c.args.place r.strings)) c.self.view_is, place.long) in
    let done = has_written c.self.inside c.args.place c.args.offset c.index.result.now c.args.bytes.now c.put_over.new.buffer.items was place inside c.put_over.ensures.items in
    λ i. record (c.self.view_is i) { strings = (done.strings ∙ ap (λ r. with_string (λ s. written s c.args.offset c.args.bytes.now) c.args.place r.strings) c.self.view_is) i }
