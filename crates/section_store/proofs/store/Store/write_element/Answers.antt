use Rattle.std.proofs.Common.{◌≡◌, ℕ, List, Option, ◌∙◌, sym, subst}
use Rattle.ckpt_types.specs.Sections.{Section, place_of}
use Rattle.section_store.proofs.Placed.{element_written-no_place}
use Rattle.section_store.proofs.store.Store.write_element.Goals as goal

-- what is found of the bytes that were sought is found of the identifier
sought : {lent : List ℕ} {found : Option ℕ} (sections : List Section) (id : List ℕ) → lent ≡ id → place_of lent sections ≡ found → place_of id sections ≡ found
sought {found} sections id same place = subst (λ x. place_of x sections ≡ found) same place

pub unreachable-requires : goal.unreachable-requires
unreachable-requires c =
    element_written-no_place c.self.inside.attributes c.args.now c.args.element.now c.self.inside.kept.sections
    (sought _ c.args.element.now.id c.as_slice.ensures (sym c.find.ensures.place ∙ c.in_default.is)) (rw (← c.self.view_is) at c.requires)
