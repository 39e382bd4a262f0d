use Rattle.client_handles.specs.Client.{client_shown}
use Rattle.client_handles.proofs.IterationLaws.{ended-absent}
use Rattle.client_handles.proofs.ClientLemmas.{ended_answer-found, client_of-ended, IsSound-ended}
use Rattle.client_handles.proofs.client.Client.end_iteration.Goals as goal

pub invariant_of-self : goal.invariant_of-self
invariant_of-self c =
    let found = rw c.number_at-number.ensures at (rw c.as_slice.ensures.value at c.in-Some.ensures.found) in
    IsSound-ended c.self.inside c.self.invariant c.args.place c.in-Some.at found c.remove.new.self c.remove.ensures.items c.remove.ensures.capacity

pub returns-clause-answer : goal.returns-clause-answer
returns-clause-answer c =
    let found = rw c.number_at-number.ensures at (rw c.as_slice.ensures.value at c.in-Some.ensures.found) in
    rw (← c.self.view_is) (ended_answer-found c.self.inside c.self.invariant c.args.place c.in-Some.at found)

pub returns-clause-ended : goal.returns-clause-ended
returns-clause-ended c =
    let found = rw c.number_at-number.ensures at (rw c.as_slice.ensures.value at c.in-Some.ensures.found) in
    rw (← c.self.view_is) (client_of-ended c.self.inside c.self.invariant c.args.place c.in-Some.at found c.remove.new.self c.remove.ensures.items)

pub returns-in_default-clause-ended : goal.returns-in_default-clause-ended
returns-in_default-clause-ended c =
    let none = rw c.number_at-number.ensures at (rw c.as_slice.ensures.value at c.in_default.ensures.absent) in
    rw (← c.self.view_is) (ended-absent c.args.place (client_shown c.self.inside) none)
