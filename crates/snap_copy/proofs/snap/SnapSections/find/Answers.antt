use Rattle.std.proofs.Common.{◌≡◌, None, slice_get, ap, ◌∙◌, sym, subst}
use Rattle.std.specs.Prelude.{MatchOption}
use Rattle.ckpt_types.specs.Sections.{place_of, section_at}
use Rattle.snap_copy.specs.Heads.{sections_in}
use Rattle.snap_copy.specs.declared.snap.Kept.{Kept}
use Rattle.snap_copy.proofs.snap.SnapSections.find.Goals as goal
use Rattle.ckpt_types.proofs.Presence.{section_at-MatchOption}

pub returns-clause-section : goal.returns-clause-section
returns-clause-section c =
    let id = c.args.id.now in
    let bytes = c.self.inside.block.value.bytes.items in
    let sections = sections_in bytes c.self.inside.block.value.heads.items in
    let place = ap (λ xs. place_of id (sections_in bytes xs)) (ap (λ (k : Kept). k.heads.items) (sym c.deref.ensures) ∙ sym c.as_slice.ensures.value) ∙ sym (c.find.ensures bytes) in
    rw (← c.self.view_is) (subst (λ o. MatchOption o (section_at id sections ≡ None) (λ i. section_at id sections ≡ slice_get sections i)) place (section_at-MatchOption id sections))
