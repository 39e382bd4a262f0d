use Rattle.std.proofs.Common.{◌≡◌, ◌+◌, ◌<◌, ◌++◌, ◌∷◌, [], List, length, sym, ap, subst, refl, ◌∙◌, arith}
use Rattle.std.proofs.lemmas.List.{length-map, length_push, take_all}
use Rattle.ckpt_types.specs.Sections.{Section, memory_used, section_of as lent_section}
use Rattle.ckpt_types.proofs.FirstSections.{take-next, memory_used-room}
use Rattle.section_store.specs.Kept.{section_at_slot, sections_at, AreKept}
use Rattle.section_store.specs.RegionState.{RegionState}
use Rattle.section_store.proofs.SlotLemmas.{as_many}
use Rattle.section_store.proofs.KeptChanges.{AreKept-none, memory-all}
use Rattle.section_store.proofs.kept.copy_in.Goals as goal

pub loop-place-init : goal.loop-place-init
loop-place-init g c = record {
  copied = ap (sections_at c.clear-2.new.self.items c.clear.new.self.strings) c.clear-3.ensures.items;
  kept = subst (λ xs. AreKept c.clear-2.new.self.items c.clear.new.self.strings xs (length xs)) (sym c.clear-3.ensures.items)
      (subst (λ hs. AreKept hs c.clear.new.self.strings [] 0) (sym c.clear-2.ensures.items)
      (subst (λ r. AreKept [] r.strings [] 0) (sym c.clear.ensures) AreKept-none));
  many = ap length c.clear-3.ensures.items;
  size = refl;
  places = refl;
  heads_capacity = refl;
  order_capacity = refl;
}

-- another place is spare, and the slots are fewer than there are places
pub spare_left : (g : _) (c : goal.After-section-1 g) → (0 < c.loop-place.region.spare) × (length c.loop-place.order.items < c.args.region.now.spare + length c.args.region.now.strings)
spare_left g c =
    let was = c.loop-place.invariant in
    let sections : List Section = g.S.Sections.sections c.args.from.now in
    let there : c.loop-place.place < length sections = omega (arith, c.loop-place-test.true) in
    let strings = as_many (length c.loop-place.region.strings) c.loop-place.order.items was.kept.slots in
    let spare = ap (λ (r : RegionState). r.spare) c.clear.ensures in
    let none = ap (λ (r : RegionState). length r.strings) c.clear.ensures in
    (omega (arith, there, strings, was.many, was.places, spare, none, c.requires.places), omega (arith, there, was.many, c.requires.places))

pub add-requires-clause-spare : goal.add-requires-clause-spare
add-requires-clause-spare g c = (spare_left g c).0

pub add-requires-clause-fits : goal.add-requires-clause-fits
add-requires-clause-fits g c =
    let was = c.loop-place.invariant in
    let sections : List Section = g.S.Sections.sections c.args.from.now in
    let room = memory_used-room sections c.loop-place.place (lent_section c.at-section.result) c.at-section.ensures in
    let all = memory-all c.loop-place.heads.items c.loop-place.region.strings c.loop-place.order.items was.kept in
    omega (arith, room, all, ap memory_used was.copied, was.size, ap (λ (r : RegionState). r.size) c.clear.ensures, c.requires.fits)

pub add-requires-clause-small : goal.add-requires-clause-small
add-requires-clause-small g c = omega (arith, (spare_left g c).1, c.requires.small)

pub add-requires-clause-heads_room : goal.add-requires-clause-heads_room
add-requires-clause-heads_room g c = omega (arith, (spare_left g c).1, c.loop-place.invariant.heads_capacity, c.clear-2.ensures.capacity, c.requires.heads_room)

pub add-requires-clause-order_room : goal.add-requires-clause-order_room
add-requires-clause-order_room g c = omega (arith, (spare_left g c).1, c.loop-place.invariant.order_capacity, c.clear-3.ensures.capacity, c.requires.order_room)

pub loop-place-preserved : goal.loop-place-preserved
loop-place-preserved g c =
    let was = c.loop-place.invariant in
    let sections : List Section = g.S.Sections.sections c.args.from.now in
    let i = c.loop-place.place in
    let section = lent_section c.at-section.result in
    let spare = ap (λ (r : RegionState). r.spare) c.add.ensures.region in
    let long = ap (λ (r : RegionState). length r.strings) c.add.ensures.region ∙ length_push c.loop-place.region.strings c.at-section.result.bytes.now in
    record {
      copied = c.add.ensures.sections ∙ ap (λ xs. xs ++ section ∷ []) was.copied ∙ sym (take-next sections i section c.at-section.ensures);
      kept = c.add.ensures.kept;
      many = omega (arith, c.add.ensures.len, was.many);
      size = ap (λ (r : RegionState). r.size) c.add.ensures.region ∙ was.size;
      places = omega (arith, was.places, spare, long, (spare_left g c.before).0);
      heads_capacity = c.add.ensures.heads_capacity ∙ was.heads_capacity;
      order_capacity = c.add.ensures.order_capacity ∙ was.order_capacity;
    }

-- behind the last section all are copied, and there are as many slots
pub all_copied : (g : _) (c : goal.After-loop-place g) → (sections_at c.loop-place.heads.items c.loop-place.region.strings c.loop-place.order.items ≡ g.S.Sections.sections c.args.from.now) × (c.len-count.result ≡ length c.loop-place.order.items)
all_copied g c =
    let was = c.loop-place.invariant in
    let sections : List Section = g.S.Sections.sections c.args.from.now in
    let slots = c.loop-place.order.items in
    let copied = was.copied ∙ take_all c.loop-place.place sections (omega (arith, c.loop-place-test.false)) in
    (copied, omega (arith, c.len-count.ensures.count, ap length copied, length-map slots (section_at_slot c.loop-place.heads.items c.loop-place.region.strings)))

pub returns-clause-sections : goal.returns-clause-sections
returns-clause-sections g c =
    let (copied, many) = all_copied g c in
    let slots = c.loop-place.order.items in
    ap (sections_at c.loop-place.heads.items c.loop-place.region.strings) (take_all c.len-count.result slots (omega (arith, many))) ∙ copied

pub returns-clause-kept : goal.returns-clause-kept
returns-clause-kept g c =
    let (copied, many) = all_copied g c in
    subst (AreKept c.loop-place.heads.items c.loop-place.region.strings c.loop-place.order.items) (sym many) c.loop-place.invariant.kept

pub returns-clause-fits : goal.returns-clause-fits
returns-clause-fits g c =
    let was = c.loop-place.invariant in
    let (copied, many) = all_copied g c in
    let all = memory-all c.loop-place.heads.items c.loop-place.region.strings c.loop-place.order.items was.kept in
    omega (arith, all, ap memory_used copied, was.size, ap (λ (r : RegionState). r.size) c.clear.ensures, c.requires.fits)

pub returns-clause-size : goal.returns-clause-size
returns-clause-size g c = c.loop-place.invariant.size ∙ ap (λ (r : RegionState). r.size) c.clear.ensures

pub returns-clause-places : goal.returns-clause-places
returns-clause-places g c =
    omega (arith, c.loop-place.invariant.places, ap (λ (r : RegionState). r.spare) c.clear.ensures, ap (λ (r : RegionState). length r.strings) c.clear.ensures)
