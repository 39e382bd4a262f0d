use Rattle.std.proofs.Common.{◌≡◌, length, sym, ap, subst, refl, ◌∙◌, arith}
use Rattle.std.specs.Prelude.{sum_by}
use Rattle.std.proofs.lemmas.List.Sorted.{sum_by-IsPermutation, length_permutation}
use Rattle.section_store.specs.Extents.{no_extent, strings_in, extent_at, AreLaid}
use Rattle.section_store.specs.declared.extents.Extent.{Extent}
use Rattle.section_store.proofs.ExtentLemmas.{strings_in-same, bytes_at-before, sum-strings_in, same_lengths}
use Rattle.section_store.proofs.Reordered.{StandFor, told-StandFor, told-strings, told-AreLaid, AreLaid-permutation, StandFor-permutation, StandFor-moved, StandFor-strings}
use Rattle.section_store.proofs.packing.pack.Goals as goal

pub put_in_order-requires : goal.put_in_order-requires
put_in_order-requires c =
    let told = told-AreLaid (length c.args.buffer.now.items) c.args.extents.now.items c.tell_places.new.extents.items c.tell_places.ensures.told c.requires.laid in
    record { within = λ k d lt. omega (arith, told.within k d lt) }

pub slide_all-end-requires-clause-laid : goal.slide_all-end-requires-clause-laid
slide_all-end-requires-clause-laid c =
    let size = length c.args.buffer.now.items in
    let told = told-AreLaid size c.args.extents.now.items c.tell_places.new.extents.items c.tell_places.ensures.told c.requires.laid in
    AreLaid-permutation size c.tell_places.new.extents.items c.put_in_order.new.extents.items c.put_in_order.ensures.reordered told

-- the buffer ends where the last string ends
end : (c : goal.After-put_back) → length c.truncate.new.self.items ≡ c.slide_all-end.result
end c = omega (arith, c.truncate.ensures.len, c.slide_all-end.ensures.within)

-- no string is cut by that
uncut : (c : goal.After-put_back) → strings_in c.truncate.new.self.items c.slide_all-end.new.extents.items ≡ strings_in c.slide_all-end.new.buffer.items c.slide_all-end.new.extents.items
uncut c =
    let es = c.slide_all-end.new.extents.items in
    let b = c.slide_all-end.new.buffer.items in
    let b' = c.truncate.new.self.items in
    strings_in-same b b' es es refl
    (λ k lt. bytes_at-before b b' (extent_at k es) c.slide_all-end.result (c.slide_all-end.ensures.laid.within k no_extent lt) c.slide_all-end.ensures.within (omega (arith, end c)) (λ i lt_i. c.truncate.ensures.by_index i 0 lt_i))

-- the extents tell the places of the strings all the way
stands : (c : goal.After-put_back) → StandFor (strings_in c.args.buffer.now.items c.args.extents.now.items) c.truncate.new.self.items c.put_back.new.extents.items
stands c =
    let b = c.args.buffer.now.items in
    let old = c.args.extents.now.items in
    let strings = strings_in b old in
    let told = c.tell_places.new.extents.items in
    let sorted = c.put_in_order.new.extents.items in
    let moved = c.slide_all-end.new.extents.items in
    let b' = c.slide_all-end.new.buffer.items in
    let first = StandFor-permutation strings b told sorted c.put_in_order.ensures.reordered (told-StandFor b old told c.tell_places.ensures.told) in
    let slid = StandFor-moved strings b b' sorted moved c.slide_all-end.ensures.len c.slide_all-end.ensures.strings c.slide_all-end.ensures.told first in
    let cut = StandFor-moved strings b' c.truncate.new.self.items moved moved refl (uncut c) (λ k. refl) slid in
    StandFor-permutation strings c.truncate.new.self.items moved c.put_back.new.extents.items c.put_back.ensures.reordered cut

pub returns-clause-strings : goal.returns-clause-strings
returns-clause-strings c = StandFor-strings c.args.buffer.now.items c.args.extents.now.items c.truncate.new.self.items c.put_back.new.extents.items (stands c) c.put_back.ensures.rise

-- the strings lie apart behind the move
apart : (c : goal.After-put_back) → AreLaid (length c.truncate.new.self.items) c.put_back.new.extents.items
apart c =
    let moved = c.slide_all-end.new.extents.items in
    AreLaid-permutation (length c.truncate.new.self.items) moved c.put_back.new.extents.items c.put_back.ensures.reordered (subst (λ n. AreLaid n moved) (sym (end c)) c.slide_all-end.ensures.laid)

pub returns-clause-laid : goal.returns-clause-laid
returns-clause-laid c = apart c

pub returns-clause-together : goal.returns-clause-together
returns-clause-together c =
    let b = c.args.buffer.now.items in
    let old = c.args.extents.now.items in
    let told = c.tell_places.new.extents.items in
    let laid = told-AreLaid (length b) old told c.tell_places.ensures.told c.requires.laid in
    end c ∙ c.slide_all-end.ensures.end ∙ sum_by-IsPermutation (λ (e : Extent). e.len) told c.put_in_order.new.extents.items c.put_in_order.ensures.reordered
    ∙ sym (sum-strings_in b told (λ k lt. laid.within k no_extent lt)) ∙ ap (sum_by length) (told-strings b old told c.tell_places.ensures.told)

-- there are as many extents
number : (c : goal.After-put_back) → length c.put_back.new.extents.items ≡ length c.args.extents.now.items
number c =
    let told = c.tell_places.new.extents.items in
    let sorted = c.put_in_order.new.extents.items in
    length_permutation c.slide_all-end.new.extents.items c.put_back.new.extents.items c.put_back.ensures.reordered ∙ c.slide_all-end.ensures.len ∙ length_permutation told sorted c.put_in_order.ensures.reordered ∙ c.tell_places.ensures.told.len

pub returns-clause-len : goal.returns-clause-len
returns-clause-len c = number c

pub returns-clause-same : goal.returns-clause-same
returns-clause-same c = λ k lt.
    let back = c.put_back.new.extents.items in
    let within = (apart c).within k no_extent (omega (arith, number c)) in
    let strings = StandFor-strings c.args.buffer.now.items c.args.extents.now.items c.truncate.new.self.items back (stands c) c.put_back.ensures.rise in
    same_lengths c.args.buffer.now.items c.truncate.new.self.items c.args.extents.now.items back k (c.requires.laid.within k no_extent lt) within lt (number c) strings
