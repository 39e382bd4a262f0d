-- What is kept of all clients, where an iteration travels beside a request of one.
use Rattle.std.specs.Prelude.{ℕ, List, Option, Some, None}
use Rattle.ckpt_types.specs.declared.operation.Op.{Op}
use Rattle.ckpt_types.specs.Asks.{asked}
use Rattle.section_iter.specs.KeptIds.{KeptIds}
use Rattle.node_msgs.specs.declared.requests.Request.{Request}
use Rattle.node_msgs.specs.declared.requests.Request.TheVariants as requests
use Rattle.node_msgs.specs.declared.replies.Reply.{Reply}
use Rattle.node_msgs.specs.declared.replies.Reply.TheVariants as replies
use Rattle.ckpt_machine.specs.Tables.{started}
use Rattle.client_calls.specs.TableState.{TableState, with_client}
use Rattle.world_core.specs.TablesState.{at_client}
use Rattle.client_calls.specs.Lending.{lending, come_back}

-- the tables without it
abbrev pub tables_lending : Request → ℕ → Op → List TableState → List TableState
tables_lending (requests.Next call k) c op tables = at_client c (with_client (lending (asked op))) tables
tables_lending request c op tables = tables

-- the tables behind that
abbrev pub tables_started : ℕ → Op → Reply → Option KeptIds → List TableState → List TableState
tables_started c op (replies.Done answer) (Some kept) tables = at_client c (with_client (started (asked op) kept.room (λ choice. kept.ids))) tables
tables_started c op reply kept tables = tables

-- the tables with it there again
abbrev pub tables_returned : ℕ → Op → Option KeptIds → List TableState → List TableState
tables_returned c op (Some kept) tables = at_client c (with_client (come_back (asked op) kept)) tables
tables_returned c op None tables = tables

-- the tables behind it
abbrev pub tables_keeping : Request → ℕ → Op → Reply → Option KeptIds → List TableState → List TableState
tables_keeping (requests.Iterate call k choice) c op reply kept tables = tables_started c op reply kept tables
tables_keeping (requests.Next call k) c op reply kept tables = tables_returned c op kept tables
tables_keeping request c op reply kept tables = tables
