use Rattle.std.proofs.Common.{to_z, of_z, w64, FitsSigned, rules, ◌≡◌, [], Some, ap, sym, ◌∙◌}
use Rattle.std.proofs.lemmas.Int.{to_z-of_z}
use Rattle.std.proofs.lemmas.Option.{get_or_from_slice_get}
use Rattle.section_store.specs.Kept.{head_at, section_with}
use Rattle.section_store.specs.RegionState.{string_at}
use Rattle.section_store.proofs.KeptLemmas.{section_in-slice_get}
use Rattle.section_store.proofs.KeptSections.{has_slot, head_read}
use Rattle.section_store.proofs.kept.Kept.section.Goals as goal

pub index-head-requires : goal.index-head-requires
index-head-requires c = (has_slot c.self.inside c.args.self.now c.args.place c.index.result.now c.self.view_is c.self.invariant c.requires c.index.ensures).indexed

pub bytes-requires : goal.bytes-requires
bytes-requires c = (has_slot c.self.inside c.args.self.now c.args.place c.index.result.now c.self.view_is c.self.invariant c.requires c.index.ensures).string

pub returns : goal.returns
returns c =
    let k = c.self.inside in
    let slot = has_slot c.self.inside c.args.self.now c.args.place c.index.result.now c.self.view_is c.self.invariant c.requires c.index.ensures in
    let h = c.index-head.result.now in
    let read : h ≡ head_at c.index.result.now k.heads.items = head_read k.heads.items c.index.result.now h slot.head c.index-head.ensures in
    let bytes : c.bytes.result.now ≡ string_at c.index.result.now k.region.strings = sym (get_or_from_slice_get k.region.strings c.index.result.now c.bytes.result.now [] c.bytes.ensures) in
    let fits : FitsSigned w64 h.expiration = search rules in
    let fits_last : FitsSigned w64 h.last_update = search rules in
    let end : to_z w64 (of_z w64 h.expiration) ≡ h.expiration = to_z-of_z w64 h.expiration fits in
    let last : to_z w64 (of_z w64 h.last_update) ≡ h.last_update = to_z-of_z w64 h.last_update fits_last in
    section_in-slice_get c.args.self.now c.args.place c.requires
    ∙ ap Some (sym slot.section ∙ ap (λ x. section_with x (string_at c.index.result.now k.region.strings)) (sym read)
    ∙ (λ i. record { id = sym c.id.ensures i; bytes = sym bytes i; expiration = sym end i; state = h.state; last_update = sym last i }))
