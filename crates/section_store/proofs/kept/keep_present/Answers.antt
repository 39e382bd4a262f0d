use Rattle.std.proofs.Common.{◌≡◌, ◌+◌, ◌<◌, [], ℕ, ℤ, List, length, take, Bool, true, false, not, get_or, to_z, of_z, w64, FitsSigned, rules, ap, sym, subst, refl, ◌∙◌, arith}
use Rattle.std.specs.Prelude.{sum_by, swap, int_lt, vec_capacity}
use Rattle.std.proofs.lemmas.Int.{to_z-of_z}
use Rattle.std.proofs.lemmas.List.{get_or_default}
use Rattle.std.proofs.lemmas.List.Sums.{sum_by-remove}
use Rattle.ckpt_types.specs.Sections.{Section, is_present, present}
use Rattle.section_store.specs.Kept.{head_at, sections_at, section_at_slot}
use Rattle.section_store.specs.RegionState.{RegionState, string_at, with_string, resized}
use Rattle.section_store.specs.declared.kept.Head.{Head}
use Rattle.section_store.proofs.RegionLemmas.{length-resized, sum-with_string}
use Rattle.section_store.proofs.SlotLemmas.{within}
use Rattle.section_store.proofs.KeptSections.{head_read, length-with_string}
use Rattle.section_store.proofs.KeptPresent.{Sifts, Sifts-none, Sifts-absent, Sifts-present, Sifts-all}
use Rattle.section_store.proofs.kept.keep_present.Goals as goal
use Rattle.section_store.proofs.kept.keep_present.Goals.{then-expired, else-expired}

-- the slot at a place has a string, and a head
record HasBoth (heads : List Head) (strings : List (List ℕ)) (order : List ℕ) (place x : ℕ) : Type 0 where
  read : get_or order place 0 ≡ x
  string : x < length strings
  head : x < length heads

has_both : (heads : List Head) (strings : List (List ℕ)) (order : List ℕ) (count kept place x : ℕ) (t : ℤ) (wanted : List Section) → Sifts heads strings order count kept place t wanted → place < count → x ≡ get_or order place x → HasBoth heads strings order place x
has_both heads strings order count kept place x t wanted is there at =
    let read : get_or order place 0 ≡ x = get_or_default order place 0 x (omega (arith, is.counted)) ∙ sym at in
    let string : x < length strings = omega (arith, read, within (length strings) order place is.slots (omega (arith, is.counted))) in
    record { read = read; string = string; head = omega (arith, is.paired) }

-- what a test that is turned says
not_true : (b : Bool) → true ≡ not b → b ≡ false
not_true true is = is
not_true false is = refl

not_false : (b : Bool) → false ≡ not b → b ≡ true
not_false true is = refl
not_false false is = is

-- a region with the room of one that has the room of a third has the room of that
same_room : (r s u : RegionState) → r.size ≡ s.size → r.spare ≡ s.spare → s ≡ record u { strings = s.strings } → r ≡ record u { strings = r.strings }
same_room r s u size spare is = λ i. record { strings = r.strings; size = (size ∙ ap (λ (y : RegionState). y.size) is) i; spare = (spare ∙ ap (λ (y : RegionState). y.spare) is) i }

pub loop-place-init : goal.loop-place-init
loop-place-init c = record {
  sifts = Sifts-none c.args.heads.now c.args.region.now.strings c.args.order.now.items c.args.count (to_z w64 (of_z w64 c.args.now)) c.requires.kept;
  fits = c.requires.fits;
  strings = refl;
  region = refl;
  capacity = refl;
}

pub bounds-heads-slot : goal.bounds-heads-slot
bounds-heads-slot c =
    (has_both c.args.heads.now c.loop-place.region.strings c.loop-place.order.items c.args.count c.loop-place.kept c.loop-place.place c.index.result.now _ _ c.loop-place.invariant.sifts c.loop-place-test.true c.index.ensures).head

pub bounds-heads-slot-in-loop-place : goal.bounds-heads-slot-in-loop-place
bounds-heads-slot-in-loop-place c =
    (has_both c.args.heads.now c.loop-place.region.strings c.loop-place.order.items c.args.count c.loop-place.kept c.loop-place.place c.index.result.now _ _ c.loop-place.invariant.sifts c.loop-place-test.true c.index.ensures).head

pub resize-requires-clause-there : goal.resize-requires-clause-there
resize-requires-clause-there c =
    (has_both c.args.heads.now c.loop-place.region.strings c.loop-place.order.items c.args.count c.loop-place.kept c.loop-place.place c.index.result.now _ _ c.loop-place.invariant.sifts c.loop-place-test.true c.index.ensures).string

pub resize-requires-clause-fits : goal.resize-requires-clause-fits
resize-requires-clause-fits c =
    let both = has_both c.args.heads.now c.loop-place.region.strings c.loop-place.order.items c.args.count c.loop-place.kept c.loop-place.place c.index.result.now _ _ c.loop-place.invariant.sifts c.loop-place-test.true c.index.ensures in
    omega (arith, c.loop-place.invariant.fits, sum_by-remove (length {A = ℕ}) c.loop-place.region.strings c.index.result.now [] both.string)

pub loop-place-preserved : goal.loop-place-preserved
loop-place-preserved c =
    let x = c.index.result.now in
    let place = c.loop-place.place in
    let kept = c.loop-place.kept in
    let count = c.args.count in
    let heads = c.args.heads.now in
    let strings = c.loop-place.region.strings in
    let order = c.loop-place.order.items in
    let h = c.index-heads-slot.result in
    let t = to_z w64 (of_z w64 c.args.now) in
    let now_is : t ≡ c.args.now = to_z-of_z w64 c.args.now c.ranges.now in
    let was = c.loop-place.invariant in
    let both = has_both heads strings order count kept place x _ _ was.sifts c.loop-place-test.true c.index.ensures in
    let read : h ≡ head_at x heads = head_read heads x h both.head c.index-heads-slot.is in
    let wanted = present t (sections_at heads c.args.region.now.strings (take count c.args.order.now.items)) in
    let fits : FitsSigned w64 h.expiration = search rules in
    let end : to_z w64 (of_z w64 h.expiration) ≡ (head_at x heads).expiration = to_z-of_z w64 h.expiration fits ∙ ap (λ (y : Head). y.expiration) read in
    let value : c.expired.result ≡ not (int_lt t (to_z w64 (of_z w64 h.expiration))) = c.expired.ensures.value ∙ ap (λ (y : Head). not (int_lt t (to_z w64 (of_z w64 y.expiration)))) (sym c.index-heads-slot.is) in
    let tested : c.expired.result ≡ not (is_present t (section_at_slot heads strings x)) = value ∙ ap (λ e. not (int_lt t e)) end in
    let after = c.if-expired.region in
    elim c.if-expired.branch [
      | then-expired w ↦
          let region = w.region-is ∙ w.resize.ensures in
          let strings' : after.strings ≡ with_string (resized 0) x strings = ap (λ (r : RegionState). r.strings) region in
          let size : after.size ≡ c.loop-place.region.size = ap (λ (r : RegionState). r.size) region in
          let sifts = Sifts-absent heads strings order count kept place x t wanted was.sifts c.loop-place-test.true both.read (not_true (is_present t (section_at_slot heads strings x)) (sym w.if-expired.true ∙ tested)) in
          record {
            sifts = subst (λ n. Sifts heads after.strings c.if-expired.order.items count n (place + 1) t wanted) (sym w.kept-is)
                (subst (λ xs. Sifts heads after.strings xs count kept (place + 1) t wanted) (sym (ap (λ v. v.items) w.order-is))
                (subst (λ xs. Sifts heads xs order count kept (place + 1) t wanted) (sym strings') sifts));
            fits = omega (arith, was.fits, ap (sum_by length) strings', size, sum-with_string (resized 0) x strings both.string, length-resized 0 (string_at x strings));
            strings = ap length strings' ∙ length-with_string (resized 0) x strings ∙ was.strings;
            region = same_room after c.loop-place.region c.args.region.now size (ap (λ (r : RegionState). r.spare) region) was.region;
            capacity = ap vec_capacity w.order-is ∙ was.capacity;
          }
      | else-expired w ↦
          let strings' : after.strings ≡ strings = ap (λ (r : RegionState). r.strings) w.region-is in
          let size : after.size ≡ c.loop-place.region.size = ap (λ (r : RegionState). r.size) w.region-is in
          let sifts = Sifts-present heads strings order count kept place x t wanted was.sifts c.loop-place-test.true both.read (not_false (is_present t (section_at_slot heads strings x)) (sym w.if-expired.false ∙ tested)) in
          record {
            sifts = subst (λ n. Sifts heads after.strings c.if-expired.order.items count n (place + 1) t wanted) (sym w.kept-is)
                (subst (λ xs. Sifts heads after.strings xs count (kept + 1) (place + 1) t wanted) (sym (ap (λ v. v.items) w.order-is ∙ w.swap.ensures.items))
                (subst (λ xs. Sifts heads xs (swap order kept place) count (kept + 1) (place + 1) t wanted) (sym strings') sifts));
            fits = omega (arith, was.fits, ap (sum_by length) strings', size);
            strings = ap length strings' ∙ was.strings;
            region = same_room after c.loop-place.region c.args.region.now size (ap (λ (r : RegionState). r.spare) w.region-is) was.region;
            capacity = ap vec_capacity w.order-is ∙ w.swap.ensures.capacity ∙ was.capacity;
          }
    ]

pub returns-clause-kept : goal.returns-clause-kept
returns-clause-kept c =
    (Sifts-all c.args.heads.now c.loop-place.region.strings c.loop-place.order.items c.args.count c.loop-place.kept c.loop-place.place _ _ c.loop-place.invariant.sifts c.loop-place-test.false).kept
