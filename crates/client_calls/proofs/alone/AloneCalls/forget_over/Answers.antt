use Rattle.std.proofs.Common.{rules, ap, ◌∙◌}
use Rattle.std.proofs.lemmas.Fn.{filter_same}
use Rattle.ckpt_types.specs.declared.identities.ActorName.TheVariants.{Client}
use Rattle.ckpt_machine.specs.After.{goes_with}
use Rattle.client_calls.specs.AlonePlaces.{without_met}
use Rattle.client_calls.proofs.alone.AloneCalls.forget_over.Goals as goal

pub returns : goal.returns
returns c =
    filter_same _ _ _ (λ x b f' k. search rules) _ _ c.retain.ensures.filtered
    ∙ ap (without_met (λ v. goes_with c.args.handle (Client c.args.c) c.args.pending.now v)) c.self.view_is
