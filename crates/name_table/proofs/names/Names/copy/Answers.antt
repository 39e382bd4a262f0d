use Rattle.std.proofs.lemmas.Grind.{common_steps}
use Rattle.std.proofs.Common.{◌≡◌, ◌∷◌, None, length, ap, sym, subst, ◌∙◌, arith, length-append, rules}
use Rattle.std.proofs.lemmas.List.{length-map}
use Rattle.name_table.specs.Kept.{named_ckpt, table_of}
use Rattle.name_table.specs.Table.{found, EachOnce}
use Rattle.name_table.proofs.MoveLemmas.{copied_so_far}
use Rattle.name_table.proofs.TableLemmas.{absent-before}
use Rattle.name_table.proofs.names.Names.copy.Goals as goal

pub link-requires-clause-spare_place : goal.link-requires-clause-spare_place
link-requires-clause-spare_place c =
    let all = copied_so_far c.loop-name.copy _ _ _ _ _ c.loop-name.invariant.copied c.in-Some.ensures.steps c.self.view_is in
    omega (arith, ap length all, length-append c.loop-name.copy (named_ckpt (c.in-Some.name.now, c.in-Some.id.now) ∷ table_of c.next.new.self), length-map c.self.inside.linked.entries named_ckpt, c.self.invariant.few)

pub link-requires-clause-absent : goal.link-requires-clause-absent
link-requires-clause-absent c =
    let all = copied_so_far c.loop-name.copy _ _ _ _ _ c.loop-name.invariant.copied c.in-Some.ensures.steps c.self.view_is in
    let once = subst EachOnce (sym all) c.self.invariant.each_once in
    let absent : found c.in-Some.name.now c.loop-name.copy ≡ None = absent-before c.loop-name.copy (named_ckpt (c.in-Some.name.now, c.in-Some.id.now)) (table_of c.next.new.self) once in
    ap (λ name. found name c.loop-name.copy) (c.in_ok-from_slice.ensures ∙ c.as_slice.ensures) ∙ absent

pub loop-name-preserved : goal.loop-name-preserved
loop-name-preserved c = grind (arith, common_steps)

pub loop-name-init : goal.loop-name-init
loop-name-init c = search rules
