use Rattle.std.proofs.Common.{◌≡◌, length, ap, sym}
use Rattle.std.specs.Vec.{with_item}
use Rattle.ckpt_types.specs.Sections.{Section}
use Rattle.ckpt_types.specs.declared.sections.SectionState.TheVariants.{Corrupted}
use Rattle.section_store.specs.Kept.{section_with, head_at}
use Rattle.section_store.specs.Places.{changed_at}
use Rattle.section_store.specs.RegionState.{string_at}
use Rattle.section_store.specs.declared.kept.Head.{Head}
use Rattle.section_store.specs.declared.kept.Kept.TheInside.{Inside}
use Rattle.section_store.proofs.KeptSections.{has_slot, head_read, with_string-same}
use Rattle.section_store.proofs.KeptChanges.{has_changed, shown-changed}
use Rattle.section_store.proofs.kept.Kept.corrupt.Goals as goal

pub index_mut-requires : goal.index_mut-requires
index_mut-requires c = (has_slot c.self.inside c.args.self.now c.args.place c.index.result.now c.self.view_is c.self.invariant c.requires c.index.ensures).indexed

pub returns : goal.returns
returns c =
    let k = c.self.inside in
    let p = c.args.place in
    let x = c.index.result.now in
    let h = c.index_mut.result.now in
    let slot = has_slot k c.args.self.now p x c.self.view_is c.self.invariant c.requires c.index.ensures in
    let s = string_at x k.region.strings in
    let change : Section → Section = λ s. record s { state = Corrupted } in
    let h' : Head = record { id = h.id; expiration = h.expiration; state = Corrupted; last_update = h.last_update } in
    let read : h ≡ head_at x k.heads.items = head_read k.heads.items x h slot.head c.index_mut.ensures.value in
    let same : section_with h' s ≡ change (section_with (head_at x k.heads.items) s) = ap (λ (y : Head). change (section_with y s)) read in
    let changed = has_changed k c.args.self.now p x (λ s. s) h' change c.self.view_is c.self.invariant slot same in
    let strings = with_string-same x k.region.strings in
    let k' : Inside = record k { heads = with_item k.heads x h' } in
    shown-changed k k' c.args.self.now _ (changed_at change p c.args.self.now.sections) c.self.view_is (λ i. record k.region { strings = sym strings i }) (ap length strings) changed.sections
