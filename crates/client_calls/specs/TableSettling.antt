-- What a step of the record makes of its client's table.
use Rattle.std.specs.Prelude.{◌≡◌, ℕ, ◌-◌, ◌^◌, ◌<◌, Option, true}
use Rattle.ckpt_types.specs.declared.answers.Outcome.{Outcome}
use Rattle.ckpt_types.specs.declared.answers.Outcome.TheVariants.{Done}
use Rattle.ckpt_types.specs.declared.operation.Op.{Op}
use Rattle.node_msgs.specs.declared.next.RecordStep.{RecordStep}
use Rattle.node_msgs.specs.declared.next.RecordStep.TheVariants as events
use Rattle.node_msgs.specs.Steps.{event_verb}
use Rattle.client_handles.specs.ClientState.{has_handle_room}
use Rattle.cluster_record.specs.RecordState.{RecordState}
use Rattle.ckpt_types.specs.Asks.{asked, IsBuilt}
use Rattle.ckpt_machine.specs.Tables.{closing, tables_done, tables_given}
use Rattle.client_calls.specs.TableState.{TableState, with_client}

-- the client of an open gets a handle of a checkpoint, where there is one
abbrev pub table_given : RecordState → Op → Option ℕ → TableState → TableState
table_given R op k t = with_client (tables_given R (asked op) k) t

-- R is the record after the step
abbrev pub table_settled : RecordState → Op → RecordStep → Option ℕ → TableState → TableState
table_settled R op step k t = with_client (tables_done R (asked op) (event_verb step) k) t

-- where the record alone says that a call is done, its handle is closed, if it closes one
abbrev pub table_looked : Outcome → Op → TableState → TableState
table_looked (Done answer) op t = with_client (closing (asked op)) t
table_looked end op t = t

-- the operation is built, and its client has taken the room for handles, and has some left
pub record MayGive (op : Op) (t : TableState) : Type 0 where
  pub built : IsBuilt op
  pub roomy : t.roomy ≡ true
  pub room : has_handle_room t.client ≡ true
  pub number : t.client.last_number < 2 ^ 32 - 1

-- what a step asks of its client's table
abbrev pub MaySettle : Op → RecordStep → TableState → Type 0
MaySettle op events.Enter t = t.roomy ≡ true
MaySettle op events.Open t = MayGive op t
MaySettle op events.Finish t = MayGive op t
MaySettle op step t = Unit {0}
