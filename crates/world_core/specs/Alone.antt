-- What becomes of asynchronous calls: where one ends, where the handle of a synchronisation is closed, and where their client leaves.
use Rattle.std.specs.Prelude.{ℕ, List, Option, Some, None}
use Rattle.ckpt_types.specs.declared.answers.Outcome.{Outcome}
use Rattle.ckpt_types.specs.declared.answers.Outcome.TheVariants.{Done}
use Rattle.ckpt_types.specs.declared.identities.ActorName.TheVariants.{Client}
use Rattle.ckpt_types.specs.declared.identities.Who.{Who}
use Rattle.ckpt_types.specs.declared.identities.Who.TheVariants.{Actor, Call}
use Rattle.node_msgs.specs.declared.next.RecordStep.{RecordStep}
use Rattle.node_msgs.specs.declared.next.RecordStep.TheVariants as events
use Rattle.call_dispatch.specs.PendingCalls.{no_pending}
use Rattle.cluster_record.specs.Calls.{client_of}
use Rattle.ckpt_machine.specs.After.{goes_with, left_over}
use Rattle.world_core.specs.declared.world.World.{World}
use Rattle.world_core.specs.HandsState.{HandsState, without_all, without_call, without_those}
use Rattle.client_calls.specs.TableEnds.{table_ended}
use Rattle.client_calls.specs.TableState.{TableState, with_calls}
use Rattle.world_core.specs.TablesState.{pending_by, at_client}

-- where a step has ended an asynchronous call, it is in hand no more
abbrev pub ended_hands : Who → Option Outcome → HandsState → HandsState
ended_hands (Actor a) end hands = hands
ended_hands (Call call) None hands = hands
ended_hands (Call call) (Some end) hands = without_call call hands

-- and its client is to be told
abbrev pub ended_tables : Who → Option Outcome → List TableState → List TableState
ended_tables (Actor a) end tables = tables
ended_tables (Call call) None tables = tables
ended_tables (Call call) (Some end) tables = at_client (client_of call) (table_ended call end) tables

-- so the world is behind a step of a call that ends by it, or goes on
abbrev pub ended_at : Who → Option Outcome → World → World
ended_at v end w = record w { hands = ended_hands v end w.hands; tables = ended_tables v end w.tables }

-- where a client's handle of a number is closed, the asynchronous synchronisations over it go
abbrev pub syncs_gone : ℕ → Option ℕ → World → World
syncs_gone c handle w = record w {
  hands = without_those c (λ v. goes_with handle (Client c) (pending_by w.tables c) v) w.hands;
  tables = at_client c (with_calls (left_over handle)) w.tables;
}

-- where a client leaves, all its asynchronous calls go
abbrev pub calls_gone : ℕ → World → World
calls_gone c w = record w {
  hands = without_all c w.hands;
  tables = at_client c (with_calls (λ p. no_pending)) w.tables;
}

-- what goes with a step of a call: nothing, the synchronisations over the handle that it closes, or all asynchronous calls of its client
pub data Going : Type 0 where
  Nothing : Going
  Syncs : Going
  All : Going

-- with a step of the record
abbrev pub going_with : RecordStep → Going
going_with events.Close = Syncs
going_with events.Leave = All
going_with step = Nothing

-- with a look: a handle is closed where its checkpoint is gone too
abbrev pub going_with_look : Outcome → Going
going_with_look (Done answer) = Syncs
going_with_look end = Nothing

-- what is left of the calls in hand
abbrev pub hands_behind : Going → ℕ → Option ℕ → World → HandsState
hands_behind Syncs c handle w = (syncs_gone c handle w).hands
hands_behind All c handle w = (calls_gone c w).hands
hands_behind Nothing c handle w = w.hands

-- and of what is kept of clients
abbrev pub tables_behind : Going → ℕ → Option ℕ → World → List TableState
tables_behind Syncs c handle w = (syncs_gone c handle w).tables
tables_behind All c handle w = (calls_gone c w).tables
tables_behind Nothing c handle w = w.tables

-- so the world is without what goes, where this handle was closed, if any
abbrev pub gone_with : Going → ℕ → Option ℕ → World → World
gone_with going c handle w = record w { hands = hands_behind going c handle w; tables = tables_behind going c handle w }
