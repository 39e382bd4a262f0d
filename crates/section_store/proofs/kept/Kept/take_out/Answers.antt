use Rattle.std.proofs.Common.{◌≡◌, ◌+◌, ◌-◌, ◌<◌, ◌≤◌, length, ℕ, suc, take, ap, sym, subst, ◌∙◌, arith}
use Rattle.std.specs.Prelude.{insert, remove, sum_by, slice_index_or}
use Rattle.ckpt_types.specs.Sections.{memory_used}
use Rattle.section_store.specs.Kept.{sections_at, kept_state, AreKept, HasSlots}
use Rattle.section_store.specs.KeptState.{KeptState}
use Rattle.section_store.specs.RegionState.{string_at, with_string, resized}
use Rattle.section_store.specs.declared.kept.Kept.TheInside.{Inside}
use Rattle.section_store.proofs.RegionLemmas.{length-resized, sum-with_string}
use Rattle.section_store.proofs.SlotLemmas.{within}
use Rattle.section_store.proofs.KeptSections.{length-shown, memory-shown, length-with_string}
use Rattle.section_store.proofs.KeptChanges.{HasSlots-changed, shown-changed, AreKept-gone, sections-gone}
use Rattle.section_store.proofs.kept.Kept.take_out.Goals as goal

-- the section at a place, whose slot is x, goes, and with it its bytes
record IsGoing (k : Inside) (v : KeptState) (p x : ℕ) : Type 0 where
  string : x < length k.region.strings
  kept : AreKept k.heads.items (with_string (resized 0) x k.region.strings) (insert (remove k.order.items p) (k.count - 1) x) (k.count - 1)
  sections : sections_at k.heads.items (with_string (resized 0) x k.region.strings) (take (k.count - 1) (insert (remove k.order.items p) (k.count - 1) x)) ≡ remove v.sections p
  sum : sum_by length (with_string (resized 0) x k.region.strings) + length (string_at x k.region.strings) ≡ sum_by length k.region.strings

going : (k : Inside) (v : KeptState) (p x : ℕ) → kept_state k ≡ v → HasSlots k → p < length v.sections → x ≡ slice_index_or k.order.items p 0 → IsGoing k v p x
going k v p x view is there at =
    let n = k.count - 1 in
    let low : p < k.count = omega (arith, there, length-shown k is, ap (λ y. length y.sections) view) in
    let next : suc n ≡ k.count = omega arith in
    let place : p ≤ n = omega arith in
    let kept : AreKept k.heads.items k.region.strings k.order.items (suc n) = subst (AreKept k.heads.items k.region.strings k.order.items) (sym next) is.kept in
    let string : x < length k.region.strings = omega (arith, at, within (length k.region.strings) k.order.items p is.kept.slots (omega (arith, is.kept.counted))) in
    record {
      string = string;
      kept = AreKept-gone k.heads.items k.region.strings k.order.items n p x kept place (sym at);
      sections = sections-gone k.heads.items k.region.strings k.order.items n p x kept place (sym at)
          ∙ ap (λ m. remove (sections_at k.heads.items k.region.strings (take m k.order.items)) p) next ∙ ap (λ y. remove y.sections p) view;
      sum = omega (arith, sum-with_string (resized 0) x k.region.strings string, length-resized 0 (string_at x k.region.strings));
    }

pub len_at-before-requires : goal.len_at-before-requires
len_at-before-requires c =
    let gone = going c.self.inside c.args.self.now c.args.place c.bring-slot.result c.self.view_is c.self.invariant c.requires.there c.bring-slot.ensures.slot in
    gone.string

pub resize-requires-clause-there : goal.resize-requires-clause-there
resize-requires-clause-there c =
    let gone = going c.self.inside c.args.self.now c.args.place c.bring-slot.result c.self.view_is c.self.invariant c.requires.there c.bring-slot.ensures.slot in
    gone.string

pub invariant_of-self : goal.invariant_of-self
invariant_of-self c =
    let gone = going c.self.inside c.args.self.now c.args.place c.bring-slot.result c.self.view_is c.self.invariant c.requires.there c.bring-slot.ensures.slot in
    let k' : Inside = record c.self.inside { region = c.resize.new.self; order = c.bring-slot.new.order; count = c.self.inside.count - 1 } in
    HasSlots-changed c.self.inside k' (with_string (resized 0) c.bring-slot.result c.self.inside.region.strings) c.self.invariant c.resize.ensures
    (subst (λ xs. AreKept c.self.inside.heads.items (with_string (resized 0) c.bring-slot.result c.self.inside.region.strings) xs (c.self.inside.count - 1)) (sym c.bring-slot.ensures.items) gone.kept)
    (length-with_string (resized 0) c.bring-slot.result c.self.inside.region.strings) (omega (arith, gone.sum, c.self.invariant.fits)) (omega arith) c.bring-slot.ensures.capacity

pub returns-clause-kept : goal.returns-clause-kept
returns-clause-kept c =
    let gone = going c.self.inside c.args.self.now c.args.place c.bring-slot.result c.self.view_is c.self.invariant c.requires.there c.bring-slot.ensures.slot in
    let k' : Inside = record c.self.inside { region = c.resize.new.self; order = c.bring-slot.new.order; count = c.self.inside.count - 1 } in
    shown-changed c.self.inside k' c.args.self.now (with_string (resized 0) c.bring-slot.result c.self.inside.region.strings) (remove c.args.self.now.sections c.args.place) c.self.view_is c.resize.ensures
    (length-with_string (resized 0) c.bring-slot.result c.self.inside.region.strings) (ap (λ xs. sections_at c.self.inside.heads.items (with_string (resized 0) c.bring-slot.result c.self.inside.region.strings) (take (c.self.inside.count - 1) xs)) c.bring-slot.ensures.items ∙ gone.sections)

pub returns-clause-before : goal.returns-clause-before
returns-clause-before c =
    let gone = going c.self.inside c.args.self.now c.args.place c.bring-slot.result c.self.view_is c.self.invariant c.requires.there c.bring-slot.ensures.slot in
    let k' : Inside = record c.self.inside { region = c.resize.new.self; order = c.bring-slot.new.order; count = c.self.inside.count - 1 } in
    omega (arith, memory-shown k' (invariant_of-self c), memory-shown c.self.inside c.self.invariant, ap (λ v. memory_used v.sections) c.self.view_is, ap (λ r. sum_by length r.strings) c.resize.ensures, gone.sum, c.len_at-before.ensures)
