use Rattle.std.proofs.Common.{◌≡◌, ◌⊎◌, length, inl, inr, sym, ◌∙◌, arith}
use Rattle.std.proofs.lemmas.Bool.{eqb-true}
use Rattle.section_store.specs.Extents.{strings_in}
use Rattle.section_store.proofs.RegionLemmas.{strings_in-append}
use Rattle.section_store.proofs.extents.append.Goals as goal
use Rattle.section_store.proofs.extents.append.Goals.{then-is_empty, else-is_empty}

-- the string starts behind all others, unless it is empty
put_start : (c : goal.After-push_reserved) → (c.if-is_empty.start ≡ length c.args.buffer.now.items) ⊎ (length c.args.bytes.now ≡ 0)
put_start c = elim c.if-is_empty.branch [
  | then-is_empty w ↦ inr (eqb-true (length c.args.bytes.now) 0 (sym c.is_empty.ensures ∙ w.if-is_empty.true))
  | else-is_empty w ↦ inl (omega (arith, c.len-end.ensures))
]

pub returns-clause-strings : goal.returns-clause-strings
returns-clause-strings c =
    (λ i. strings_in (c.in-Ok.ensures.items i) (c.push_reserved.ensures.items i)) ∙ strings_in-append c.args.buffer.now.items c.args.bytes.now c.args.extents.now.items c.if-is_empty.start c.requires.laid (put_start c)
