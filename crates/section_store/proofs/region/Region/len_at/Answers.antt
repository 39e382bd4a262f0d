use Rattle.std.proofs.Common.{length, ap, sym, ◌∙◌}
use Rattle.section_store.specs.RegionState.{string_at}
use Rattle.section_store.proofs.RegionPlaces.{has_place}
use Rattle.section_store.proofs.region.Region.len_at.Goals as goal

pub returns : goal.returns
returns c =
    let place = has_place c.self.inside c.args.self.now c.args.place c.index.result.now c.self.view_is c.self.invariant c.requires c.index.ensures in
    sym (ap (λ r. length (string_at c.args.place r.strings)) (sym c.self.view_is) ∙ place.long)
