use Rattle.std.proofs.Common.{ap, ◌∙◌, sym}
use Rattle.std.specs.Option.{ok_or}
use Rattle.ckpt_types.specs.declared.ais_error.AisError.TheVariants.{BadHandle}
use Rattle.client_handles.proofs.ClientLemmas.{handle_at-unset, handle_at-set, IsValid-shown}
use Rattle.client_handles.proofs.client.Client.handle.Goals as goal

pub returns-in_default-clause-answer : goal.returns-in_default-clause-answer
returns-in_default-clause-answer c =
    rw (← c.self.view_is) (ap (λ o. ok_or o BadHandle) (sym (handle_at-unset c.self.inside c.self.invariant c.args.place (sym c.set_at.ensures ∙ c.in_default.is))))

pub returns-in-Some-handle_under-clause-answer : goal.returns-in-Some-handle_under-clause-answer
returns-in-Some-handle_under-clause-answer c =
    rw (← c.self.view_is)
    (ap (λ o. ok_or o BadHandle) (c.in-Some-handle_under.ensures ∙ sym (handle_at-set c.self.inside c.self.invariant c.args.place c.in-Some.set (sym c.set_at.ensures ∙ c.in-Some.is))))

pub returns-in-None-clause-answer : goal.returns-in-None-clause-answer
returns-in-None-clause-answer c =
    rw (← c.self.view_is)
    (ap (λ o. ok_or o BadHandle) (c.in-None.ensures ∙ sym (handle_at-set c.self.inside c.self.invariant c.args.place c.in-Some.set (sym c.set_at.ensures ∙ c.in-Some.is))))

pub returns-in_default-clause-valid : goal.returns-in_default-clause-valid
returns-in_default-clause-valid c = rw (← c.self.view_is) (IsValid-shown c.self.inside c.self.invariant)

pub returns-in-Some-handle_under-clause-valid : goal.returns-in-Some-handle_under-clause-valid
returns-in-Some-handle_under-clause-valid c = rw (← c.self.view_is) (IsValid-shown c.self.inside c.self.invariant)

pub returns-in-None-clause-valid : goal.returns-in-None-clause-valid
returns-in-None-clause-valid c = rw (← c.self.view_is) (IsValid-shown c.self.inside c.self.invariant)
