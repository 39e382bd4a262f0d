use Rattle.std.proofs.Common.{None, ap, sym, subst, ◌∙◌}
use Rattle.std.specs.Option.{ok_or}
use Rattle.ckpt_types.specs.declared.ais_error.AisError.TheVariants.{BadHandle}
use Rattle.client_handles.specs.Client.{client_shown}
use Rattle.client_handles.specs.ClientState.{IsNotLent}
use Rattle.client_handles.proofs.ClientLemmas.{kept_iteration-found, kept-not_lent, client_of-kept, IsSound-kept, IsValid-shown}
use Rattle.client_handles.proofs.IterationLaws.{lent-absent}
use Rattle.client_handles.proofs.client.Client.lend_iteration.Goals as goal

pub unreachable-requires : goal.unreachable-requires
unreachable-requires c =
    let found = rw c.number_at-number.ensures at (rw c.as_slice.ensures.value at c.in-Some.ensures.found) in
    kept-not_lent c.self.inside c.self.invariant c.args.place c.in-Some.at found c.take_kept.result c.take_kept.ensures.kept (subst (IsNotLent c.args.place) (sym c.self.view_is) c.requires) c.in_default-take_kept.is

pub invariant_of-self : goal.invariant_of-self
invariant_of-self c =
    let found = rw c.number_at-number.ensures at (rw c.as_slice.ensures.value at c.in-Some.ensures.found) in
    IsSound-kept c.self.inside c.self.invariant c.args.place c.in-Some.at found None c.take_kept.new.begun c.take_kept.ensures.items c.take_kept.ensures.capacity

pub returns-clause-answer : goal.returns-clause-answer
returns-clause-answer c =
    let found = rw c.number_at-number.ensures at (rw c.as_slice.ensures.value at c.in-Some.ensures.found) in
    rw (← c.self.view_is) (sym (ap (λ o. ok_or o BadHandle) c.in-Some-take_kept.is) ∙ kept_iteration-found c.self.inside c.self.invariant c.args.place c.in-Some.at found c.take_kept.result c.take_kept.ensures.kept)

pub returns-clause-lent : goal.returns-clause-lent
returns-clause-lent c =
    let found = rw c.number_at-number.ensures at (rw c.as_slice.ensures.value at c.in-Some.ensures.found) in
    rw (← c.self.view_is) (client_of-kept c.self.inside c.self.invariant c.args.place c.in-Some.at found None c.take_kept.new.begun c.take_kept.ensures.items)

pub returns-in_default-clause-lent : goal.returns-in_default-clause-lent
returns-in_default-clause-lent c =
    let none = rw c.number_at-number.ensures at (rw c.as_slice.ensures.value at c.in_default.ensures.absent) in
    rw (← c.self.view_is) (lent-absent c.args.place (client_shown c.self.inside) none)

pub returns-in_default-clause-valid : goal.returns-in_default-clause-valid
returns-in_default-clause-valid c = rw (← c.self.view_is) (IsValid-shown c.self.inside c.self.invariant)

pub returns-clause-valid : goal.returns-clause-valid
returns-clause-valid c = rw (← c.self.view_is) (IsValid-shown c.self.inside c.self.invariant)
