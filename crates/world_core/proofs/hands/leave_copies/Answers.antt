use Rattle.std.proofs.Common.{◌+◌, ◌<◌, ◌≤◌, length, sym, ap, ◌∙◌, arith}
use Rattle.std.specs.Prelude.{Option, slice_set}
use Rattle.client_calls.specs.Abandoning.{place_left}
use Rattle.client_calls.specs.declared.in_hand.InHand.{InHand}
use Rattle.cluster_record.proofs.EachChanged.{changed_from, changed_from-start, changed_from-next, changed_from-end}
use Rattle.world_core.proofs.hands.leave_copies.Goals as goal

pub loop-place-init : goal.loop-place-init
loop-place-init c = changed_from-start _ c.args.places.now

pub loop-place-preserved : goal.loop-place-preserved
loop-place-preserved c =
    let leave : Option InHand → Option InHand = place_left c.args.cluster.now c.args.node in
    let i = c.loop-place.place-index in
    let places = c.loop-place.places in
    let within : i < length places = omega (arith, c.loop-place-test.true, c.loop-place.auto.places) in
    ap (λ y. changed_from leave (i + 1) (slice_set places i y)) c.copy_unless_abandoned.ensures ∙ changed_from-next leave c.place-item.result i places within ∙ c.loop-place.invariant

pub returns : goal.returns
returns c =
    let i = c.loop-place.place-index in
    let places = c.loop-place.places in
    let through : length places ≤ i = omega (arith, c.loop-place-test.false, c.loop-place.auto.places) in
    sym (changed_from-end (place_left c.args.cluster.now c.args.node) i places through) ∙ c.loop-place.invariant
