-- An iteration goes out with a request where it is in its place: on threads no more is known of a client's iterations than what its table shows.
use Rattle.std.specs.Prelude.{◌≡◌, ℕ, Option, Some, None}
use Rattle.ckpt_types.specs.declared.operation.Op.{Op}
use Rattle.ckpt_types.specs.Asks.{Ask, asked}
use Rattle.section_iter.specs.KeptIds.{KeptIds}
use Rattle.client_handles.specs.ClientState.{ClientState, lent}
use Rattle.node_msgs.specs.declared.requests.Request.{Request}
use Rattle.node_msgs.specs.declared.requests.Request.TheVariants as requests
use Rattle.ckpt_machine.specs.Tables.{kept_asked}
use Rattle.client_calls.specs.Lending.{lending, IsOutOf}
use Rattle.client_calls.specs.TableState.{TableState, with_client}

-- what is kept of the iteration of a place goes out; where nothing is, nothing changes
abbrev pub lent_where_kept : ℕ → Option KeptIds → ClientState → ClientState
lent_where_kept place None t = t
lent_where_kept place (Some kept) t = lent place t

-- what is kept goes out; where nothing is, nothing changes
abbrev pub lending_kept : Option KeptIds → Ask → TableState → TableState
lending_kept None ask t = t
lending_kept (Some kept) ask t = with_client (lending ask) t

-- the iteration with which a call goes on goes out, where it is in its place
abbrev pub lending_if_there : Ask → TableState → TableState
lending_if_there ask t = lending_kept (kept_asked ask t.client) ask t

-- the same of what goes with a request
abbrev pub table_lending_if_there : Request → Op → TableState → TableState
table_lending_if_there (requests.Next call k) op t = lending_if_there (asked op) t
table_lending_if_there request op t = t

-- an iteration that has gone out is out
abbrev pub IsOutIfLent : Option KeptIds → Ask → TableState → Type 0
IsOutIfLent None ask t = Unit {0}
IsOutIfLent (Some kept) ask t = IsOutOf ask t.client

-- the same of what goes with a request
abbrev pub IsOutBehind : Request → Option KeptIds → Op → TableState → Type 0
IsOutBehind (requests.Next call k) lent op t = IsOutIfLent lent (asked op) t
IsOutBehind request lent op t = Unit {0}
