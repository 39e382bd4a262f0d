use Rattle.std.proofs.Common.{◌≤◌, length, refl, sym, subst, ◌∙◌, arith}
use Rattle.std.proofs.lemmas.List.{take_all}
use Rattle.std.proofs.lemmas.Option.{slice_get_read}
use Rattle.client_calls.proofs.AlonePlaces.{NoneHas, none_found, none_more, place_here}
use Rattle.client_calls.proofs.alone.place_alone.Goals as goal

pub loop-place-init : goal.loop-place-init
loop-place-init c = tt

pub returns-then-has_call-clause-found : goal.returns-then-has_call-clause-found
returns-then-has_call-clause-found c =
    let there = slice_get_read c.args.list.now _ c.loop-place.place c.index-list-place.result refl c.loop-place-test.true c.index-list-place.is in
    place_here c.args.call c.args.list.now c.loop-place.place c.index-list-place.result c.loop-place.invariant there (sym c.has_call.ensures ∙ c.if-has_call.true)

pub loop-place-preserved : goal.loop-place-preserved
loop-place-preserved c =
    let there = slice_get_read c.args.list.now _ c.loop-place.place c.index-list-place.result refl c.loop-place-test.true c.index-list-place.is in
    none_more c.args.call c.args.list.now c.loop-place.place c.index-list-place.result c.loop-place.invariant there (sym c.has_call.ensures ∙ c.if-has_call.false)

pub returns-clause-absent : goal.returns-clause-absent
returns-clause-absent c =
    let past = c.loop-place-test.false in
    let all : length c.args.list.now ≤ c.loop-place.place = omega (arith, past) in
    none_found c.args.call c.args.list.now (subst (NoneHas c.args.call) (take_all c.loop-place.place c.args.list.now all) c.loop-place.invariant)
