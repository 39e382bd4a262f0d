-- What a step of the record makes of its client's table, among those of all.
use Rattle.std.specs.Prelude.{◌≡◌, ℕ, ◌-◌, ◌^◌, ◌<◌, List, Option, Some, None, true, slice_get}
use Rattle.ckpt_types.specs.declared.answers.Outcome.{Outcome}
use Rattle.ckpt_types.specs.declared.operation.Op.{Op}
use Rattle.node_msgs.specs.declared.next.RecordStep.{RecordStep}
use Rattle.node_msgs.specs.declared.next.RecordStep.TheVariants as events
use Rattle.client_handles.specs.ClientState.{has_handle_room}
use Rattle.cluster_record.specs.Makings.{making_undone}
use Rattle.cluster_record.specs.RecordState.{RecordState, swept}
use Rattle.ckpt_types.specs.Asks.{IsBuilt}
use Rattle.world_core.specs.declared.world.World.{World}
use Rattle.world_core.specs.Freeing.{freed_world}
use Rattle.world_core.specs.LiveRooms.{room_is_taken}
use Rattle.client_calls.specs.TableSettling.{table_looked, table_settled}
use Rattle.client_calls.specs.TableState.{TableState}
use Rattle.world_core.specs.TablesState.{kept_by, at_client}

-- ---- of all tables

-- R is the record after the step
abbrev pub settled : RecordState → ℕ → Op → RecordStep → Option ℕ → List TableState → List TableState
settled R c op step k tables = at_client c (table_settled R op step k) tables

-- where the record alone says that a call is done
abbrev pub looked : Outcome → ℕ → Op → List TableState → List TableState
looked end c op tables = at_client c (table_looked end op) tables

-- what a call is making is undone, where it is making something; what is over goes with it, and the replicas and the snapshots of what is gone
abbrev pub without_making_of : Option ℕ → World → World
without_making_of None w = w
without_making_of (Some k) w = freed_world (record w { cluster = swept (making_undone k w.cluster) })

-- ---- what it asks

-- the operation is built, and its client has taken the room for handles, and has some left
pub record CanGive (c : ℕ) (op : Op) (tables : List TableState) : Type 0 where
  pub built : IsBuilt op
  pub roomy : room_is_taken (slice_get tables c) ≡ true
  pub room : has_handle_room (kept_by tables c) ≡ true
  pub number : (kept_by tables c).last_number < 2 ^ 32 - 1

-- what a step asks of its client's table: one that becomes live has taken its room, and a step that gives a handle asks that it can
abbrev pub CanSettle : ℕ → Op → RecordStep → List TableState → Type 0
CanSettle c op events.Enter tables = room_is_taken (slice_get tables c) ≡ true
CanSettle c op events.Open tables = CanGive c op tables
CanSettle c op events.Finish tables = CanGive c op tables
CanSettle c op step tables = Unit {0}
