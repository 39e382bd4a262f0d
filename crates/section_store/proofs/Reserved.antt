-- A store keeps its room where its sections are changed.
use Rattle.std.proofs.Common.{◌≡◌, ◌^◌, ◌<◌, List, false, subst, sym, ap, ◌∙◌, arith}
use Rattle.ckpt_types.specs.Attributes.{is_malformed}
use Rattle.ckpt_types.specs.Sections.{Section, Rises, Fits, memory_used}
use Rattle.ckpt_types.specs.declared.attributes.CreationAttributes.{CreationAttributes}
use Rattle.ckpt_types.proofs.AttributeLaws.{IsWellFormed-from_check}
use Rattle.section_store.specs.KeptState.{KeptState}
use Rattle.section_store.specs.Store.{IsReserved}
use Rattle.section_store.specs.Summary.{IsSummary}
use Rattle.section_store.specs.declared.store.Store.TheInside.{Inside}

-- what is kept are the former sections with others in their place
pub kept_with : (old new : KeptState) (sections : List Section) → new ≡ record old { sections = sections } → new ≡ record old { sections = new.sections }
kept_with old new sections is = is ∙ ap (λ xs. record old { sections = xs }) (sym (ap (λ k. k.sections) is))

-- the room is still taken where other sections are kept
pub IsReserved-changed : (s new : Inside) (sections : List Section) → new.attributes ≡ s.attributes → new.kept ≡ record s.kept { sections = sections } → Rises sections → Fits s.attributes sections → IsSummary new.summary sections → IsReserved s → IsReserved new
IsReserved-changed s new sections same kept rises fits summary was =
    let shown : new.kept.sections ≡ sections = ap (λ k. k.sections) kept in
    record {
      checked = subst (λ a. is_malformed a ≡ false) (sym same) was.checked;
      rises = subst Rises (sym shown) rises;
      fits = subst (λ a. Fits a new.kept.sections) (sym same) (subst (Fits s.attributes) (sym shown) fits);
      summary = subst (IsSummary new.summary) (sym shown) summary;
      size = ap (λ k. k.size) kept ∙ was.size ∙ ap (λ a. a.checkpoint_size) (sym same);
      places = ap (λ k. k.places) kept ∙ was.places ∙ ap (λ a. a.max_sections) (sym same);
    }

-- the sections of a store have few bytes together
pub few_bytes : (a : CreationAttributes) (sections : List Section) → is_malformed a ≡ false → Fits a sections → memory_used sections < 2 ^ 32
few_bytes a sections checked fits =
    let declared = IsWellFormed-from_check a checked in
    omega (arith, fits.within, declared.covered, declared.few_bytes)
