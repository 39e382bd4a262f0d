use Rattle.std.proofs.Common.{◌≡◌, inl, inr, true, false, sym, ap, subst, ◌∙◌}
use Rattle.std.specs.Prelude.{Some}
use Rattle.ckpt_types.specs.declared.answers.Outcome.TheVariants.{Done}
use Rattle.ckpt_types.specs.declared.operation.Op.{Op}
use Rattle.ckpt_types.specs.Asks.{asked}
use Rattle.ckpt_types.specs.OpWord.{is_async, word_of_op}
use Rattle.ckpt_machine.specs.Beginning.{callbacks_told}
use Rattle.ckpt_machine.specs.After.{goes_on}
use Rattle.world_core.specs.TablesState.{pending_by}
use Rattle.world_core.proofs.Answered.{alone_at_once, dispatch_told, no_callbacks, not_async, plain_ends, refused_ends, refused_told}
use Rattle.world_core.proofs.Begin.{answered_begins}
use Rattle.world_core.proofs.world.World.begin_answered.Goals as goal

-- it is refused, or lacks its memory
pub returns-in_default : goal.returns-in_default
returns-in_default c =
    let w = c.args.self.now in
    record {
      ok = answered_begins w c.args.c c.args.call c.args.op.now c.args.handle.now c.args.end.now _ c.begin_ended.new.self c.requires.shown c.requires.begins (sym (refused_told c.args.end.now c.in_default.not-Done (asked c.args.op.now) (pending_by w.tables c.args.c)))
          (refused_ends c.args.end.now c.in_default.not-Done c.args.op.now) c.begin_ended.ensures;
      err = tt;
    }

-- it goes on by itself
pub begin_alone-requires-clause-begins : goal.begin_alone-requires-clause-begins
begin_alone-requires-clause-begins c =
    let async : is_async (word_of_op c.args.op.now) ≡ true = elim c.in-OpenAsync.is [ inl open_async ↦ ap (λ (op : Op). is_async (word_of_op op)) open_async.5 | inr sync_async ↦ ap (λ (op : Op). is_async (word_of_op op)) sync_async.2 ] in
    alone_at_once c.args.self.now c.args.c c.args.call c.args.op.now c.args.handle.now c.args.end.now c.in-Done.field-0 async c.in-Done.is c.requires.begins

-- it is a dispatch
pub returns-in_ok-details-in-Dispatch-clause-ok : goal.returns-in_ok-details-in-Dispatch-clause-ok
returns-in_ok-details-in-Dispatch-clause-ok c =
    let w = c.args.self.now in
    answered_begins w c.args.c c.args.call c.args.op.now c.args.handle.now c.args.end.now _ c.begin_ended-in-Dispatch.new.self c.requires.shown c.requires.begins
    (c.in_ok-details-in-Dispatch.ensures ∙ sym (ap (λ end. callbacks_told (Some end) (asked c.args.op.now) (pending_by w.tables c.args.c)) c.in-Done.is ∙ dispatch_told c.in-Done.field-0 c.args.op.now c.in-Dispatch.flags (pending_by w.tables c.args.c) c.in-Dispatch.is))
    (subst (λ end. goes_on (word_of_op c.args.op.now) (Some end) ≡ false) (sym c.in-Done.is) (plain_ends (Done c.in-Done.field-0) c.args.op.now (ap (λ (op : Op). is_async (word_of_op op)) c.in-Dispatch.is))) c.begin_ended-in-Dispatch.ensures

-- it is done
pub returns-in_default-op : goal.returns-in_default-op
returns-in_default-op c =
    let w = c.args.self.now in
    record {
      ok = answered_begins w c.args.c c.args.call c.args.op.now c.args.handle.now c.args.end.now _ c.begin_ended-in_default-op.new.self c.requires.shown c.requires.begins
          (sym (no_callbacks c.args.op.now c.in_default-op.not-Dispatch (Some c.args.end.now) (pending_by w.tables c.args.c)))
          (plain_ends c.args.end.now c.args.op.now (not_async c.args.op.now c.in_default-op.not-OpenAsync c.in_default-op.not-SyncAsync)) c.begin_ended-in_default-op.ensures;
      err = tt;
    }
