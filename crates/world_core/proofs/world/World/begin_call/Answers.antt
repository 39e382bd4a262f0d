use Rattle.std.proofs.Common.{sym, ap, subst, ◌∙◌}
use Rattle.std.specs.Prelude.{None, Some}
use Rattle.ckpt_types.specs.Asks.{asked}
use Rattle.ckpt_machine.specs.Beginning.{begin_end}
use Rattle.ckpt_machine.specs.Due.{IsBeginEnd}
use Rattle.ckpt_machine.specs.Tables.{handle_asked}
use Rattle.world_core.proofs.TableSteps.{kept_is, next_is, standing_is, within}
use Rattle.world_core.proofs.Waits.{next_begun}
use Rattle.world_core.proofs.world.World.begin_call.Goals as goal

pub begin_at_once-requires-clause-begins : goal.begin_at_once-requires-clause-begins
begin_at_once-requires-clause-begins c =
    let w = c.args.self.now in
    let n = c.args.c in
    let t = c.get-table.result.now in
    let there = c.get-table.ensures in
    let handle = c.handle_asked-handle.result in
    next_begun w n c.number.result c.args.op handle c.is_live_client-live.result c.begin_end-due.result (Some c.in-Some.end) c.requires.client (within w.tables n t there) c.requires.asker c.requires.built c.requires.none c.requires.may
    (c.number.ensures ∙ sym (next_is w.tables n t there)) (c.handle_asked-handle.ensures ∙ ap (handle_asked (asked c.args.op)) (sym (kept_is w.tables n t there))) c.is_live_client-live.ensures
    (c.begin_end-due.ensures ∙ ap (λ st. begin_end st (asked c.args.op)) (standing_is w.tables n t there c.is_live_client-live.result handle))
    (subst (λ o. IsBeginEnd (asked c.args.op) c.begin_end-due.result o) c.in-Some.is c.take_room-end.ensures.end)

pub begin_in_hand-requires-clause-begins : goal.begin_in_hand-requires-clause-begins
begin_in_hand-requires-clause-begins c =
    let w = c.args.self.now in
    let n = c.args.c in
    let t = c.get-table.result.now in
    let there = c.get-table.ensures in
    let handle = c.handle_asked-handle.result in
    next_begun w n c.number.result c.args.op handle c.is_live_client-live.result c.begin_end-due.result None c.requires.client (within w.tables n t there) c.requires.asker c.requires.built c.requires.none c.requires.may
    (c.number.ensures ∙ sym (next_is w.tables n t there)) (c.handle_asked-handle.ensures ∙ ap (handle_asked (asked c.args.op)) (sym (kept_is w.tables n t there))) c.is_live_client-live.ensures
    (c.begin_end-due.ensures ∙ ap (λ st. begin_end st (asked c.args.op)) (standing_is w.tables n t there c.is_live_client-live.result handle))
    (subst (λ o. IsBeginEnd (asked c.args.op) c.begin_end-due.result o) c.in-None.is c.take_room-end.ensures.end)

pub begin_in_hand-requires-clause-iteration : goal.begin_in_hand-requires-clause-iteration
begin_in_hand-requires-clause-iteration c = c.take_room-end.ensures.iteration c.in-None.is

pub begin_in_hand-requires-clause-snapshot : goal.begin_in_hand-requires-clause-snapshot
begin_in_hand-requires-clause-snapshot c = c.take_room-end.ensures.snapshot c.in-None.is
