use Rattle.std.proofs.Common.{sym, ap, ◌∙◌}
use Rattle.cluster_record.specs.DueCopy.{lacks_replica}
use Rattle.cluster_record.specs.LookUps.{identity_in}
use Rattle.drive_join.proofs.Searching.{find-here, find-next}
use Rattle.drive_join.proofs.copy_call.next_to_copy.Goals as goal

pub returns-then-lacks_replica : goal.returns-then-lacks_replica
returns-then-lacks_replica c =
    let lacks = sym c.lacks_replica.ensures ∙ c.if-lacks_replica.true in
    let found = find-here (lacks_replica c.args.node) c.args.seen.now.entries c.loop-place.place c.in-Some.entry.now c.in-Some.ensures.at lacks in
    ap identity_in (sym found ∙ c.loop-place.invariant)

pub loop-place-preserved : goal.loop-place-preserved
loop-place-preserved c =
    let has = sym c.lacks_replica.ensures ∙ c.if-lacks_replica.false in
    find-next (lacks_replica c.args.node) c.args.seen.now.entries c.loop-place.place c.in-Some.entry.now c.in-Some.ensures.at has ∙ c.loop-place.invariant
