use Rattle.std.proofs.Common.{◌≡◌, w64, to_z, of_z, ap, ◌∙◌}
use Rattle.std.specs.Prelude.{slice_index_or}
use Rattle.std.proofs.lemmas.Int.{to_z-of_z}
use Rattle.cluster_record.proofs.Places.{changes_at}
use Rattle.stage_slot.specs.Slots.{owner_of}
use Rattle.replica.specs.Replicas.{Replica, answer_unless, outcome_on, staged}
use Rattle.node_core.specs.Fitting.{TakesUpdate}
use Rattle.node_core.specs.Nodes.{replica_key}
use Rattle.node_core.proofs.AtPlaces.{has_place, holds_at, holds_of}
use Rattle.node_core.proofs.serving.stage_in.Goals as goal

pub unreachable-requires : goal.unreachable-requires
unreachable-requires c = has_place c.args.ckpt c.args.replicas.now c.place_of.result c.place_of.ensures.place TakesUpdate c.in_default.is c.requires.there

pub stage-requires-clause-room : goal.stage-requires-clause-room
stage-requires-clause-room c = (holds_at c.args.ckpt c.args.replicas.now c.place_of.result c.place_of.ensures.place TakesUpdate c.in-Some.i c.index-replicas-i.result c.in-Some.is c.requires.there).room

pub stage-requires-clause-unmarked : goal.stage-requires-clause-unmarked
stage-requires-clause-unmarked c = (holds_at c.args.ckpt c.args.replicas.now c.place_of.result c.place_of.ensures.place TakesUpdate c.in-Some.i c.index-replicas-i.result c.in-Some.is c.requires.there).unmarked

pub returns-clause-answer : goal.returns-clause-answer
returns-clause-answer c =
    let now : to_z w64 (of_z w64 c.args.moment) ≡ c.args.moment = to_z-of_z w64 c.args.moment c.ranges.moment in
    let x : Replica = slice_index_or c.args.replicas.now c.in-Some.i c.index-replicas-i.result in
    holds_of c.args.ckpt c.args.replicas.now c.place_of.result c.place_of.ensures.place (λ (x : Replica). c.stage.result ≡ answer_unless (owner_of x.slot) (outcome_on x c.args.update c.args.moment)) c.in-Some.i c.index-replicas-i.result c.in-Some.is
    (c.stage.ensures.answer ∙ ap (λ t. answer_unless (owner_of x.slot) (outcome_on x c.args.update t)) now)

pub returns-clause-new : goal.returns-clause-new
returns-clause-new c =
    let now : to_z w64 (of_z w64 c.args.moment) ≡ c.args.moment = to_z-of_z w64 c.args.moment c.ranges.moment in
    let x : Replica = slice_index_or c.args.replicas.now c.in-Some.i c.index-replicas-i.result in
    changes_at replica_key c.args.ckpt (staged c.args.call c.args.update c.args.moment) c.args.replicas.now c.place_of.result c.place_of.ensures.place c.in-Some.i c.index-replicas-i.result c.stage.new.self c.in-Some.is
    (c.stage.ensures.new ∙ ap (λ t. staged c.args.call c.args.update t x) now)
