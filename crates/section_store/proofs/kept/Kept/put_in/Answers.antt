use Rattle.std.proofs.Common.{◌≡◌, ◌+◌, ◌-◌, ◌<◌, ◌≤◌, ◌++◌, ◌∷◌, [], length, List, ℕ, take, ap, sym, subst, ◌∙◌, arith}
use Rattle.std.specs.Prelude.{insert, remove, sum_by, slice_index_or, slice_set, vec_capacity}
use Rattle.std.specs.Vec.{with_item}
use Rattle.std.proofs.lemmas.List.{length-set, length_push}
use Rattle.std.proofs.lemmas.List.Sums.{sum_by-remove, sum_by_push}
use Rattle.ckpt_types.specs.Sections.{memory_used, section_of as lent_section}
use Rattle.section_store.specs.Kept.{section_with, sections_at, kept_state, AreKept, HasSlots}
use Rattle.section_store.specs.KeptState.{KeptState}
use Rattle.section_store.specs.RegionState.{string_at, with_string}
use Rattle.section_store.specs.declared.kept.Head.{Head}
use Rattle.section_store.specs.declared.kept.Kept.TheInside.{Inside}
use Rattle.section_store.proofs.RegionLemmas.{sum-with_string}
use Rattle.section_store.proofs.SlotLemmas.{as_many, within}
use Rattle.section_store.proofs.KeptSections.{length-shown, memory-shown, length-with_string}
use Rattle.section_store.proofs.KeptChanges.{empty_at, HasSlots-changed, shown-changed, AreKept-put, sections-put, AreKept-more, sections-more}
use Rattle.section_store.proofs.kept.Kept.put_in.Goals as goal

-- a free slot x is brought to a place, and has the bytes of a section
record IsPut (k : Inside) (v : KeptState) (p x : ℕ) (bytes : List ℕ) : Type 0 where
  string : x < length k.region.strings
  head : x < length k.heads.items
  fits : sum_by length (remove k.region.strings x) + length bytes ≤ k.region.size
  kept : (h' : Head) → AreKept (slice_set k.heads.items x h') (with_string (λ s. bytes) x k.region.strings) (insert (remove k.order.items k.count) p x) (k.count + 1)
  sections : (h' : Head) → sections_at (slice_set k.heads.items x h') (with_string (λ s. bytes) x k.region.strings) (take (k.count + 1) (insert (remove k.order.items k.count) p x)) ≡ insert v.sections p (section_with h' bytes)
  sum : sum_by length (with_string (λ s. bytes) x k.region.strings) ≤ k.region.size

puts : (k : Inside) (v : KeptState) (p x : ℕ) (bytes : List ℕ) → kept_state k ≡ v → HasSlots k → p ≤ length v.sections → memory_used v.sections + length bytes ≤ v.size → k.count < length k.order.items → x ≡ slice_index_or k.order.items k.count 0 → IsPut k v p x bytes
puts k v p x bytes view is there room free at =
    let place : p ≤ k.count = omega (arith, there, length-shown k is, ap (λ y. length y.sections) view) in
    let string : x < length k.region.strings = omega (arith, at, within (length k.region.strings) k.order.items k.count is.kept.slots free) in
    let none : string_at x k.region.strings ≡ [] = ap (λ y. string_at y k.region.strings) at ∙ empty_at k.heads.items k.region.strings k.order.items k.count k.count is.kept (omega arith) free in
    let total : sum_by length k.region.strings + length bytes ≤ k.region.size = omega (arith, room, memory-shown k is, ap (λ y. memory_used y.sections) view, ap (λ y. y.size) view) in
    record {
      string = string;
      head = omega (arith, is.kept.paired);
      fits = omega (arith, total, sum_by-remove (length {A = ℕ}) k.region.strings x [] string);
      kept = λ h'. AreKept-put k.heads.items (slice_set k.heads.items x h') k.region.strings (λ s. bytes) k.order.items k.count p x is.kept free place (sym at) (length-set k.heads.items x h');
      sections = λ h'. sections-put k.heads.items h' k.region.strings (λ s. bytes) k.order.items k.count p x is.kept free place (sym at) ∙ ap (λ y. insert y.sections p (section_with h' bytes)) view;
      sum = omega (arith, total, sum-with_string (λ s. bytes) x k.region.strings string);
    }

pub replace-requires-clause-there : goal.replace-requires-clause-there
replace-requires-clause-there c =
    let putting = puts c.self.inside c.args.self.now c.args.place c.bring-slot.result c.args.section.now.bytes.now c.self.view_is c.self.invariant c.requires.place c.requires.fits (omega (arith, c.if-count-len.true, c.len.ensures, c.self.inside.order.ok.0)) c.bring-slot.ensures.slot in
    putting.string

pub replace-requires-clause-fits : goal.replace-requires-clause-fits
replace-requires-clause-fits c =
    let putting = puts c.self.inside c.args.self.now c.args.place c.bring-slot.result c.args.section.now.bytes.now c.self.view_is c.self.invariant c.requires.place c.requires.fits (omega (arith, c.if-count-len.true, c.len.ensures, c.self.inside.order.ok.0)) c.bring-slot.ensures.slot in
    putting.fits

pub index_mut-requires : goal.index_mut-requires
index_mut-requires c =
    let putting = puts c.self.inside c.args.self.now c.args.place c.bring-slot.result c.args.section.now.bytes.now c.self.view_is c.self.invariant c.requires.place c.requires.fits (omega (arith, c.if-count-len.true, c.len.ensures, c.self.inside.order.ok.0)) c.bring-slot.ensures.slot in
    omega (arith, putting.head, c.self.inside.heads.ok.0)

pub invariant_of-self : goal.invariant_of-self
invariant_of-self c =
    let putting = puts c.self.inside c.args.self.now c.args.place c.bring-slot.result c.args.section.now.bytes.now c.self.view_is c.self.invariant c.requires.place c.requires.fits (omega (arith, c.if-count-len.true, c.len.ensures, c.self.inside.order.ok.0)) c.bring-slot.ensures.slot in
    let k' : Inside = record c.self.inside { region = c.replace.new.region; heads = with_item c.self.inside.heads c.bring-slot.result c.fill.new.head; order = c.bring-slot.new.order; count = c.self.inside.count + 1 } in
    HasSlots-changed c.self.inside k' (with_string (λ s. c.args.section.now.bytes.now) c.bring-slot.result c.self.inside.region.strings) c.self.invariant c.replace.ensures
    (subst (λ xs. AreKept k'.heads.items (with_string (λ s. c.args.section.now.bytes.now) c.bring-slot.result c.self.inside.region.strings) xs (c.self.inside.count + 1)) (sym c.bring-slot.ensures.items) (putting.kept c.fill.new.head))
    (length-with_string (λ s. c.args.section.now.bytes.now) c.bring-slot.result c.self.inside.region.strings) putting.sum (omega arith) c.bring-slot.ensures.capacity

pub returns-then-count-len : goal.returns-then-count-len
returns-then-count-len c =
    let putting = puts c.self.inside c.args.self.now c.args.place c.bring-slot.result c.args.section.now.bytes.now c.self.view_is c.self.invariant c.requires.place c.requires.fits (omega (arith, c.if-count-len.true, c.len.ensures, c.self.inside.order.ok.0)) c.bring-slot.ensures.slot in
    let k' : Inside = record c.self.inside { region = c.replace.new.region; heads = with_item c.self.inside.heads c.bring-slot.result c.fill.new.head; order = c.bring-slot.new.order; count = c.self.inside.count + 1 } in
    shown-changed c.self.inside k' c.args.self.now (with_string (λ s. c.args.section.now.bytes.now) c.bring-slot.result c.self.inside.region.strings) (insert c.args.self.now.sections c.args.place (lent_section c.args.section.now)) c.self.view_is c.replace.ensures (length-with_string (λ s. c.args.section.now.bytes.now) c.bring-slot.result c.self.inside.region.strings)
    (ap (λ xs. sections_at k'.heads.items (with_string (λ s. c.args.section.now.bytes.now) c.bring-slot.result c.self.inside.region.strings) (take (c.self.inside.count + 1) xs)) c.bring-slot.ensures.items ∙ putting.sections c.fill.new.head
    ∙ ap (λ h. insert c.args.self.now.sections c.args.place (section_with h c.args.section.now.bytes.now)) c.fill.ensures)

-- a slot more is put in at a place, with the bytes of a section
record IsMore (k : Inside) (v : KeptState) (p : ℕ) (bytes : List ℕ) : Type 0 where
  spare : 0 < k.region.spare
  fits : sum_by length k.region.strings + length bytes ≤ k.region.size
  room : length k.heads.items < vec_capacity k.heads
  kept : (h' : Head) → AreKept (k.heads.items ++ h' ∷ []) (k.region.strings ++ bytes ∷ []) (insert k.order.items p k.count) (k.count + 1)
  sections : (h' : Head) → sections_at (k.heads.items ++ h' ∷ []) (k.region.strings ++ bytes ∷ []) (take (k.count + 1) (insert k.order.items p k.count)) ≡ insert v.sections p (section_with h' bytes)
  size : v.size ≡ k.region.size
  places : v.places ≡ k.region.spare + length k.region.strings

puts_more : (k : Inside) (v : KeptState) (p : ℕ) (bytes : List ℕ) → kept_state k ≡ v → HasSlots k → p ≤ length v.sections → length v.sections < v.places → memory_used v.sections + length bytes ≤ v.size → length k.order.items ≤ k.count → IsMore k v p bytes
puts_more k v p bytes view is there places room full =
    let shown : length v.sections ≡ k.count = sym (ap (λ y. length y.sections) view) ∙ length-shown k is in
    let place : p ≤ k.count = omega arith in
    let many = as_many (length k.region.strings) k.order.items is.kept.slots in
    let declared : v.places ≡ k.region.spare + length k.region.strings = sym (ap (λ y. y.places) view) in
    let spare : 0 < k.region.spare = omega (arith, is.kept.counted) in
    record {
      spare = spare;
      fits = omega (arith, room, memory-shown k is, ap (λ y. memory_used y.sections) view, ap (λ y. y.size) view);
      room = omega (arith, is.kept.paired, is.heads_room);
      kept = λ h'. AreKept-more k.heads.items h' k.region.strings bytes k.order.items k.count p is.kept full place;
      sections = λ h'. sections-more k.heads.items h' k.region.strings bytes k.order.items k.count p is.kept full place ∙ ap (λ y. insert y.sections p (section_with h' bytes)) view;
      size = sym (ap (λ y. y.size) view);
      places = declared;
    }

pub push-requires-clause-spare : goal.push-requires-clause-spare
push-requires-clause-spare c =
    let more = puts_more c.self.inside c.args.self.now c.args.place c.args.section.now.bytes.now c.self.view_is c.self.invariant c.requires.place c.requires.places c.requires.fits (omega (arith, c.if-count-len.false, c.len.ensures, c.self.inside.order.ok.0)) in
    more.spare

pub push-requires-clause-fits : goal.push-requires-clause-fits
push-requires-clause-fits c =
    let more = puts_more c.self.inside c.args.self.now c.args.place c.args.section.now.bytes.now c.self.view_is c.self.invariant c.requires.place c.requires.places c.requires.fits (omega (arith, c.if-count-len.false, c.len.ensures, c.self.inside.order.ok.0)) in
    more.fits

pub push_reserved-requires : goal.push_reserved-requires
push_reserved-requires c =
    let more = puts_more c.self.inside c.args.self.now c.args.place c.args.section.now.bytes.now c.self.view_is c.self.invariant c.requires.place c.requires.places c.requires.fits (omega (arith, c.if-count-len.false, c.len.ensures, c.self.inside.order.ok.0)) in
    omega (arith, more.room, c.self.inside.heads.ok.0)

pub invariant_of-self-2 : goal.invariant_of-self-2
invariant_of-self-2 c =
    let more = puts_more c.self.inside c.args.self.now c.args.place c.args.section.now.bytes.now c.self.view_is c.self.invariant c.requires.place c.requires.places c.requires.fits (omega (arith, c.if-count-len.false, c.len.ensures, c.self.inside.order.ok.0)) in
    let is = c.self.invariant in
    let bytes = c.args.section.now.bytes.now in
    let long : length c.push.new.self.strings ≡ length c.self.inside.region.strings + 1 = ap (λ r. length r.strings) c.push.ensures ∙ length_push c.self.inside.region.strings bytes in
    let spare : c.push.new.self.spare ≡ c.self.inside.region.spare - 1 = ap (λ r. r.spare) c.push.ensures in
    let size : c.push.new.self.size ≡ c.self.inside.region.size = ap (λ r. r.size) c.push.ensures in
    let sum : sum_by length c.push.new.self.strings ≡ sum_by length c.self.inside.region.strings + length bytes = ap (λ r. sum_by length r.strings) c.push.ensures ∙ sum_by_push (length {A = ℕ}) c.self.inside.region.strings bytes in
    record {
      kept = subst (λ r. AreKept c.push_reserved.new.self.items r.strings c.put_slot.new.order.items (c.self.inside.count + 1)) (sym c.push.ensures)
          (subst (λ hs. AreKept hs (c.self.inside.region.strings ++ bytes ∷ []) c.put_slot.new.order.items (c.self.inside.count + 1)) (sym c.push_reserved.ensures.items)
          (subst (λ xs. AreKept (c.self.inside.heads.items ++ c.head_of.result ∷ []) (c.self.inside.region.strings ++ bytes ∷ []) xs (c.self.inside.count + 1)) (sym c.put_slot.ensures.items) (more.kept c.head_of.result)));
      fits = omega (arith, more.fits);
      heads_room = omega (arith, is.heads_room, more.spare, c.push_reserved.ensures.capacity);
      order_room = omega (arith, is.order_room, more.spare, c.put_slot.ensures.capacity);
      small = omega (arith, is.small, more.spare);
      size_small = omega (arith, is.size_small);
    }

pub returns : goal.returns
returns c =
    let more = puts_more c.self.inside c.args.self.now c.args.place c.args.section.now.bytes.now c.self.view_is c.self.invariant c.requires.place c.requires.places c.requires.fits (omega (arith, c.if-count-len.false, c.len.ensures, c.self.inside.order.ok.0)) in
    let bytes = c.args.section.now.bytes.now in
    let strings : List (List ℕ) = c.self.inside.region.strings ++ bytes ∷ [] in
    let sections = ap (λ r. sections_at c.push_reserved.new.self.items r.strings (take (c.self.inside.count + 1) c.put_slot.new.order.items)) c.push.ensures
    ∙ ap (λ hs. sections_at hs strings (take (c.self.inside.count + 1) c.put_slot.new.order.items)) c.push_reserved.ensures.items
    ∙ ap (λ xs. sections_at (c.self.inside.heads.items ++ c.head_of.result ∷ []) strings (take (c.self.inside.count + 1) xs)) c.put_slot.ensures.items
    ∙ more.sections c.head_of.result ∙ ap (λ h. insert c.args.self.now.sections c.args.place (section_with h bytes)) c.head_of.ensures in
    let size = ap (λ r. r.size) c.push.ensures ∙ sym more.size in
    let long : length c.push.new.self.strings ≡ length c.self.inside.region.strings + 1 = ap (λ r. length r.strings) c.push.ensures ∙ length_push c.self.inside.region.strings bytes in
    let spare : c.push.new.self.spare ≡ c.self.inside.region.spare - 1 = ap (λ r. r.spare) c.push.ensures in
    let places : c.push.new.self.spare + length c.push.new.self.strings ≡ c.args.self.now.places = omega (arith, more.places, more.spare) in
    λ i. record { sections = sections i; size = size i; places = places i }
