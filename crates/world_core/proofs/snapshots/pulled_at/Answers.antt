use Rattle.std.proofs.Common.{◌≡◌, ap, sym, subst, ◌∙◌}
use Rattle.std.specs.Prelude.{Option, None, Some, MatchOption}
use Rattle.cluster_record.proofs.AtKeys.{element_at, none_at}
use Rattle.world_core.specs.declared.snapshots.Background.{Background}
use Rattle.world_core.specs.Backgrounds.{background_key, pulled_in, where_pulled}
use Rattle.world_core.proofs.snapshots.pulled_at.Goals as goal

pub returns-in_err-i-clause-found : goal.returns-in_err-i-clause-found
returns-in_err-i-clause-found c =
    let none = none_at background_key c.args.ckpt c.args.snapshots.now c.place_of.result c.place_of.ensures.place c.in_err-i.was in
    subst (λ r. MatchOption r (pulled_in c.args.snapshots.now c.args.ckpt ≡ None) (λ snap. pulled_in c.args.snapshots.now c.args.ckpt ≡ Some snap.now)) (sym c.from_residual.ensures) (ap where_pulled none)

pub returns-clause-found : goal.returns-clause-found
returns-clause-found c =
    let here = element_at background_key c.args.ckpt c.args.snapshots.now c.place_of.result c.place_of.ensures.place c.in_ok-i.i c.index-snapshots-i.result c.in_ok-i.was ∙ ap Some (sym c.index-snapshots-i.is) in
    subst (λ (o : Option Background). MatchOption c.where_pulled.result (where_pulled o ≡ None) (λ snap. where_pulled o ≡ Some snap.now)) (sym here) c.where_pulled.ensures.found
