use Rattle.std.proofs.Common.{◌≡◌, ◌^◌, ◌<◌, min, max, ap, ◌∙◌, sym, subst, rules}
use Rattle.std.specs.Prelude.{remove}
use Rattle.section_store.specs.KeptState.{section_in}
use Rattle.section_store.specs.Keys.{key_of}
use Rattle.section_store.specs.Summary.{AreTaken}
use Rattle.section_store.proofs.KeptLemmas.{section_in-slice_get}
use Rattle.section_store.proofs.SummaryLemmas.{AreTaken-remove}
use Rattle.section_store.proofs.identifiers.first_without.Goals as goal

pub returns : goal.returns
returns c =
    let kept = c.args.kept.now in
    let stored = section_in kept c.args.place in
    let fits : c.args.first < 2 ^ 64 = search rules in
    let key : c.key.result ≡ key_of stored.id = c.key.ensures ∙ ap key_of c.id.ensures in
    let lowered : c.min.result ≡ min c.args.first (max (key_of stored.id) 1) = c.min.ensures ∙ ap (min c.args.first) (c.max.ensures ∙ ap (λ n. max n 1) key) in
    subst (λ n. AreTaken n (remove kept.sections c.args.place)) (sym lowered)
    (AreTaken-remove c.args.first c.args.place stored kept.sections fits (section_in-slice_get kept c.args.place c.requires.there) c.requires.taken)
