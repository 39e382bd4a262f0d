use Rattle.std.proofs.Common.{◌∙◌, ◌<◌, length, ap, sym, subst}
use Rattle.std.specs.Prelude.{IfSome}
use Rattle.std.specs.Result.{result_ok}
use Rattle.ckpt_types.specs.Sections.{place_of}
use Rattle.section_store.specs.Places.{count_below}
use Rattle.section_store.proofs.PlaceLemmas.{result_ok-ok_or}
use Rattle.section_store.proofs.KeptLemmas.{place_of-within}
use Rattle.section_store.proofs.order.find.Goals as goal

pub returns-clause-place : goal.returns-clause-place
returns-clause-place c =
    let sections = c.args.kept.now.sections in
    c.ok.ensures.value ∙ ap result_ok c.search.ensures ∙ result_ok-ok_or (place_of c.args.id.now sections) (count_below c.args.id.now sections)

pub returns-clause-within : goal.returns-clause-within
returns-clause-within c = subst (λ o. IfSome o (λ place. place < length c.args.kept.now.sections)) (sym (returns-clause-place c)) (place_of-within c.args.id.now c.args.kept.now.sections)
