use Rattle.std.proofs.Common.{◌≡◌, None, slice_get, sym, subst}
use Rattle.std.specs.Prelude.{MatchOption}
use Rattle.ckpt_types.specs.Sections.{section_at}
use Rattle.section_store.proofs.store.StoreSections.find.Goals as goal
use Rattle.ckpt_types.proofs.Presence.{section_at-MatchOption}

pub returns-clause-section : goal.returns-clause-section
returns-clause-section c =
    let id = c.args.id.now in
    let kept = c.self.inside.kept.sections in
    let place = sym c.find.ensures.place in
    rw (← c.self.view_is) (subst (λ o. MatchOption o (section_at id kept ≡ None) (λ i. section_at id kept ≡ slice_get kept i)) place (section_at-MatchOption id kept))
