use Rattle.std.proofs.Common.{length, ap, arith}
use Rattle.std.specs.Prelude.{remove, sum_by}
use Rattle.section_store.proofs.RegionPlaces.{has_place_of}
use Rattle.section_store.proofs.region.Region.resize.Goals as goal

pub set_len-requires-clause-fits : goal.set_len-requires-clause-fits
set_len-requires-clause-fits c =
    let place = has_place_of c.self.inside c.args.self.now c.args.place c.self.view_is c.self.invariant c.requires.there in
    omega (arith, place.others, c.requires.fits, ap (λ r. sum_by length (remove r.strings c.args.place)) c.self.view_is, ap (λ r. r.size) c.self.view_is)
