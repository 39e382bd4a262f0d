-- What an entry keeps of what travels beside its step.
use Rattle.std.specs.Prelude.{Some}
use Rattle.node_msgs.specs.declared.changes.NodeChange.{NodeChange}
use Rattle.node_msgs.specs.declared.changes.NodeChange.TheVariants as changes
use Rattle.node_msgs.specs.declared.requests.Request.{Request}
use Rattle.node_msgs.specs.declared.requests.Request.TheVariants as requests
use Rattle.node_core.specs.Payloads.{Payload, no_payload, update_alone}
use Rattle.shared_nodes.specs.declared.kept.Kept.{Kept}
use Rattle.shared_nodes.specs.declared.kept.Kept.TheVariants as kept

-- what is kept, as what travels: an update, elements or a snapshot alone, or nothing
abbrev pub payload_kept : Kept → Payload
payload_kept kept.Nothing = no_payload
payload_kept (kept.Update update) = update_alone update
payload_kept (kept.Elements elements) = record no_payload { elements = elements }
payload_kept (kept.Snapshot s) = record no_payload { snapshot = Some s }

-- of what travels beside a request, what the node looks at, but for an iteration, which its client keeps: the update of a stage, of an update in one step or
-- of a weak write, the elements of a read, the snapshot of an installation
abbrev pub travels : Request → Payload → Payload
travels (requests.Stage call k t) p = update_alone p.update
travels (requests.Apply call k) p = update_alone p.update
travels (requests.Mark call k) p = update_alone p.update
travels (requests.Read k) p = record no_payload { elements = p.elements }
travels (requests.Install call k) p = record no_payload { snapshot = p.snapshot }
travels request p = no_payload

-- and beside a change: the snapshot that is taken, and the update of a stage
abbrev pub travels_change : NodeChange → Payload → Payload
travels_change (changes.Take k generation) p = record no_payload { snapshot = p.snapshot }
travels_change (changes.Stage call k t) p = update_alone p.update
travels_change change p = no_payload
