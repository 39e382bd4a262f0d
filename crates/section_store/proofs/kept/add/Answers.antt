use Rattle.std.proofs.Common.{◌≡◌, ◌++◌, ◌∷◌, [], length, ap, sym, subst, ◌∙◌, arith}
use Rattle.section_store.specs.Kept.{section_with, sections_at, AreKept}
use Rattle.section_store.proofs.KeptChanges.{many_heads, AreKept-push, sections-push}
use Rattle.section_store.proofs.kept.add.Goals as goal

pub overflow_cast-len : goal.overflow_cast-len
overflow_cast-len c = omega (arith, c.len.ensures, many_heads c.args.heads.now.items c.args.region.now.strings c.args.order.now.items c.requires.kept, c.requires.small)

pub push_reserved-requires-2 : goal.push_reserved-requires-2
push_reserved-requires-2 c = omega (arith, many_heads c.args.heads.now.items c.args.region.now.strings c.args.order.now.items c.requires.kept, c.requires.heads_room)

pub returns-clause-sections : goal.returns-clause-sections
returns-clause-sections c =
    let heads = c.args.heads.now.items in
    let strings = c.args.region.now.strings in
    let order = c.args.order.now.items in
    let bytes = c.args.section.now.bytes.now in
    let many : c.len.result ≡ length order = omega (arith, c.len.ensures, many_heads heads strings order c.requires.kept) in
    ap (sections_at c.push_reserved-2.new.self.items c.push.new.self.strings) (c.push_reserved.ensures.items ∙ ap (λ n. order ++ n ∷ []) many)
    ∙ ap (λ r. sections_at c.push_reserved-2.new.self.items r.strings (order ++ length order ∷ [])) c.push.ensures
    ∙ ap (λ hs. sections_at hs (strings ++ bytes ∷ []) (order ++ length order ∷ [])) c.push_reserved-2.ensures.items
    ∙ sections-push heads c.head_of.result strings bytes order c.requires.kept
    ∙ ap (λ h. sections_at heads strings order ++ section_with h bytes ∷ []) c.head_of.ensures

pub returns-clause-kept : goal.returns-clause-kept
returns-clause-kept c =
    let heads = c.args.heads.now.items in
    let strings = c.args.region.now.strings in
    let order = c.args.order.now.items in
    let bytes = c.args.section.now.bytes.now in
    let many : c.len.result ≡ length order = omega (arith, c.len.ensures, many_heads heads strings order c.requires.kept) in
    let slots = order ++ length order ∷ [] in
    subst (λ xs. AreKept c.push_reserved-2.new.self.items c.push.new.self.strings xs (length xs)) (sym (c.push_reserved.ensures.items ∙ ap (λ n. order ++ n ∷ []) many))
    (subst (λ r. AreKept c.push_reserved-2.new.self.items r.strings slots (length slots)) (sym c.push.ensures)
    (subst (λ hs. AreKept hs (strings ++ bytes ∷ []) slots (length slots)) (sym c.push_reserved-2.ensures.items)
    (AreKept-push heads c.head_of.result strings bytes order c.requires.kept)))
