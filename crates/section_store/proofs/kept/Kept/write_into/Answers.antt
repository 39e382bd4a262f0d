use Rattle.std.proofs.Common.{to_z, of_z, w64, ◌≡◌, ◌≤◌, length, List, ℕ, ℤ, ap, refl, arith}
use Rattle.std.specs.Prelude.{sum_by}
use Rattle.std.specs.Vec.{with_item}
use Rattle.std.proofs.lemmas.Int.{to_z-of_z}
use Rattle.ckpt_types.specs.Sections.{memory_used}
use Rattle.ckpt_types.specs.Updates.{written}
use Rattle.section_store.specs.Kept.{section_with, head_at, kept_state, HasSlots}
use Rattle.section_store.specs.KeptState.{KeptState}
use Rattle.section_store.specs.RegionState.{string_at, with_string}
use Rattle.section_store.specs.declared.kept.Head.{Head}
use Rattle.section_store.specs.declared.kept.Kept.TheInside.{Inside}
use Rattle.section_store.proofs.KeptSections.{memory-shown, HasSlot, has_slot, head_read, length-with_string}
use Rattle.section_store.proofs.KeptChanges.{HasChanged, has_changed, HasSlots-changed, shown-changed}
use Rattle.section_store.proofs.kept.Kept.write_into.Goals as goal

-- the section at a place, whose slot is x, is written into
changed : (k : Inside) (v : KeptState) (p x offset : ℕ) (bytes : List ℕ) (t t' : ℤ) (h : Head) → kept_state k ≡ v → HasSlots k → HasSlot k v p x → h ≡ head_at x k.heads.items → t' ≡ t → HasChanged k v p x (λ s. written s offset bytes) (record h { last_update = t' }) (λ s. record s { bytes = written s.bytes offset bytes; last_update = t })
changed k v p x offset bytes t t' h view is at read same =
    let s = string_at x k.region.strings in
    has_changed k v p x (λ s. written s offset bytes) (record h { last_update = t' }) (λ s. record s { bytes = written s.bytes offset bytes; last_update = t }) view is at
    (λ i. section_with (record (read i) { last_update = same i }) (written s offset bytes))

pub write_grown-grown-requires-clause-there : goal.write_grown-grown-requires-clause-there
write_grown-grown-requires-clause-there c = (has_slot c.self.inside c.args.self.now c.args.place c.index.result.now c.self.view_is c.self.invariant c.requires.there c.index.ensures).string

pub write_grown-grown-requires-clause-fits : goal.write_grown-grown-requires-clause-fits
write_grown-grown-requires-clause-fits c =
    let k = c.self.inside in
    let x = c.index.result.now in
    let at = has_slot c.self.inside c.args.self.now c.args.place c.index.result.now c.self.view_is c.self.invariant c.requires.there c.index.ensures in
    let is = changed k c.args.self.now c.args.place x c.args.offset c.args.bytes.now c.args.now c.args.now (head_at x k.heads.items) c.self.view_is c.self.invariant at refl refl in
    let fits : sum_by length (with_string (λ s. written s c.args.offset c.args.bytes.now) x k.region.strings) ≤ k.region.size = omega (arith, is.memory, is.size, c.requires.fits) in
    fits

pub index_mut-requires : goal.index_mut-requires
index_mut-requires c = (has_slot c.self.inside c.args.self.now c.args.place c.index.result.now c.self.view_is c.self.invariant c.requires.there c.index.ensures).indexed

pub invariant_of-self : goal.invariant_of-self
invariant_of-self c =
    let k = c.self.inside in
    let x = c.index.result.now in
    let h = c.index_mut.result.now in
    let t' = to_z w64 (of_z w64 c.args.now) in
    let at = has_slot c.self.inside c.args.self.now c.args.place c.index.result.now c.self.view_is c.self.invariant c.requires.there c.index.ensures in
    let is = changed k c.args.self.now c.args.place x c.args.offset c.args.bytes.now c.args.now t' h c.self.view_is c.self.invariant at (head_read k.heads.items x h at.head c.index_mut.ensures.value) (to_z-of_z w64 c.args.now c.ranges.now) in
    let k' : Inside = record k { region = c.write_grown-grown.new.region; heads = with_item k.heads x (record h { last_update = t' }) } in
    HasSlots-changed k k' (with_string (λ s. written s c.args.offset c.args.bytes.now) x k.region.strings) c.self.invariant c.write_grown-grown.ensures.written is.kept (length-with_string (λ s. written s c.args.offset c.args.bytes.now) x k.region.strings) (omega (arith, is.memory, is.size, c.requires.fits)) (omega arith) (omega arith)

pub returns-clause-kept : goal.returns-clause-kept
returns-clause-kept c =
    let k = c.self.inside in
    let x = c.index.result.now in
    let h = c.index_mut.result.now in
    let t' = to_z w64 (of_z w64 c.args.now) in
    let at = has_slot c.self.inside c.args.self.now c.args.place c.index.result.now c.self.view_is c.self.invariant c.requires.there c.index.ensures in
    let is = changed k c.args.self.now c.args.place x c.args.offset c.args.bytes.now c.args.now t' h c.self.view_is c.self.invariant at (head_read k.heads.items x h at.head c.index_mut.ensures.value) (to_z-of_z w64 c.args.now c.ranges.now) in
    let k' : Inside = record k { region = c.write_grown-grown.new.region; heads = with_item k.heads x (record h { last_update = t' }) } in
    shown-changed k k' c.args.self.now (with_string (λ s. written s c.args.offset c.args.bytes.now) x k.region.strings) _ c.self.view_is c.write_grown-grown.ensures.written (length-with_string (λ s. written s c.args.offset c.args.bytes.now) x k.region.strings) is.sections

pub returns-clause-grown : goal.returns-clause-grown
returns-clause-grown c =
    let k = c.self.inside in
    let x = c.index.result.now in
    let h = c.index_mut.result.now in
    let t' = to_z w64 (of_z w64 c.args.now) in
    let k' : Inside = record k { region = c.write_grown-grown.new.region; heads = with_item k.heads x (record h { last_update = t' }) } in
    omega (arith, memory-shown k' (invariant_of-self c), memory-shown k c.self.invariant, ap (λ v. memory_used v.sections) c.self.view_is, c.write_grown-grown.ensures.grown)
