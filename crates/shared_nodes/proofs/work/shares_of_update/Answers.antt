use Rattle.std.proofs.Common.{◌∙◌, ap}
use Rattle.std.specs.Prelude.{replicate}
use Rattle.std.proofs.lemmas.Result.{IfOk-weaker}
use Rattle.ckpt_types.specs.declared.update.Update.{Update}
use Rattle.shared_nodes.specs.Works.{update_shares_max}
use Rattle.shared_nodes.proofs.work.shares_of_update.Goals as goal

pub returns : goal.returns
returns c = IfOk-weaker c.from_elem.result _ _ (λ shares are. are (λ copy same. same) ∙ ap (λ (update : Update). replicate update_shares_max update) c.in_ok-share.ensures) c.from_elem.ensures.items_if_clones_equal
