-- What a step of a call makes of the record and of the nodes, by what drives the call.
use Rattle.std.specs.Prelude.{List}
use Rattle.ckpt_types.specs.declared.identities.CallId.{CallId}
use Rattle.node_msgs.specs.declared.next.RecordStep.{RecordStep}
use Rattle.node_msgs.specs.declared.next.RecordStep.TheVariants as events
use Rattle.cluster_record.specs.Calls.{client_of}
use Rattle.cluster_record.specs.DueOnce.{OneStep, Enter, Leave, Close, Unlink, Retain}
use Rattle.cluster_record.specs.DueOpen.{open_event}
use Rattle.cluster_record.specs.Joining.{completed}
use Rattle.cluster_record.specs.LookUps.{at_ckpt, identity_in}
use Rattle.cluster_record.specs.RecordState.{RecordState, named, home_of, entered, departed, closed, unlinked, retained, hold_set, active_set, swept}
use Rattle.ckpt_machine.specs.Drivers.{Driver}
use Rattle.ckpt_machine.specs.Drivers as drivers
use Rattle.ckpt_machine.specs.Driving.{event_ckpt}
use Rattle.replica.specs.Replicas.{Replica}
use Rattle.ckpt_machine.specs.Nodes.{with_opened}

-- what a call of one step makes of it
abbrev pub once_change : CallId → OneStep → RecordState → RecordState
once_change call (Enter r) R = entered (client_of call) r call.number R
once_change call Leave R = departed (client_of call) R
once_change call (Close k) R = closed k (client_of call) R
once_change call (Unlink name) R = at_ckpt (identity_in (named name R.entries)) R (λ k. unlinked k R)
once_change call (Retain k duration) R = retained k duration R

-- what the record becomes by a step
abbrev pub event_change : CallId → Driver → RecordStep → RecordState → RecordState
event_change call (drivers.Once x) step R = once_change call x R
event_change call (drivers.Open o) step R = open_event call o (event_ckpt R (drivers.Open o) step) step R
event_change call (drivers.Sync u) (events.Hold r) R = hold_set u.ckpt call R
event_change call (drivers.Sync u) (events.Activate r) R = active_set u.ckpt r R
event_change call (drivers.Copy c) (events.Complete k r moment) R = completed k r R
event_change call driver step R = R

-- what the nodes become by it: an open may add a replica on its client's node
abbrev pub nodes_behind : Driver → RecordStep → RecordState → List (List Replica) → List (List Replica)
nodes_behind (drivers.Open o) events.Open R nodes = with_opened (named o.ask.name R.entries) (home_of o.ask.client R) nodes
nodes_behind driver step R nodes = nodes

-- and what is over is swept away
abbrev pub event_after : CallId → Driver → RecordStep → RecordState → RecordState
event_after call driver step R = swept (event_change call driver step R)
