use Rattle.std.proofs.Common.{ap, ◌∙◌, arith}
use Rattle.section_store.specs.KeptState.{KeptState}
use Rattle.section_store.proofs.kept.Kept.copy_from.Goals as goal

pub copy_in-self-inside-requires-clause-places : goal.copy_in-self-inside-requires-clause-places
copy_in-self-inside-requires-clause-places g c = omega (arith, c.requires.places, ap (λ (k : KeptState). k.places) c.self.view_is)

pub copy_in-self-inside-requires-clause-fits : goal.copy_in-self-inside-requires-clause-fits
copy_in-self-inside-requires-clause-fits g c = omega (arith, c.requires.fits, ap (λ (k : KeptState). k.size) c.self.view_is)

pub invariant_of-self : goal.invariant_of-self
invariant_of-self g c =
    let is = c.self.invariant in
    let copied = c.copy_in-self-inside.ensures in
    record {
      kept = copied.kept;
      fits = copied.fits;
      heads_room = omega (arith, is.heads_room, copied.places, copied.heads_capacity);
      order_room = omega (arith, is.order_room, copied.places, copied.order_capacity);
      small = omega (arith, is.small, copied.places);
      size_small = omega (arith, is.size_small, copied.size);
    }

pub returns-clause-kept : goal.returns-clause-kept
returns-clause-kept g c =
    let copied = c.copy_in-self-inside.ensures in
    let size = copied.size ∙ ap (λ (k : KeptState). k.size) c.self.view_is in
    let places = copied.places ∙ ap (λ (k : KeptState). k.places) c.self.view_is in
    λ i. record { sections = copied.sections i; size = size i; places = places i }
