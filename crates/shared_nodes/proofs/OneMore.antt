-- A journal with an entry more plays one entry further.
use Rattle.std.proofs.Common.{◌≡◌, ℕ, List, [], ◌∷◌, ◌++◌, ap, subst, sym, ◌∙◌}
use Rattle.node_msgs.specs.declared.changes.NodeChange.{NodeChange}
use Rattle.node_msgs.specs.declared.replies.Reply.{Reply}
use Rattle.node_msgs.specs.declared.requests.Request.{Request}
use Rattle.node_core.specs.Changing.{changed_node}
use Rattle.node_core.specs.Nodes.{NodeState, MayReply, node_after}
use Rattle.node_core.specs.Payloads.{Payload}
use Rattle.node_core.specs.Seen.{RecordSeen}
use Rattle.shared_nodes.specs.declared.journal.JournalEntry.{JournalEntry}
use Rattle.shared_nodes.specs.declared.journal.NodeStep.TheVariants as steps
use Rattle.shared_nodes.specs.declared.kept.Kept.{Kept}
use Rattle.shared_nodes.specs.Plays.{node_behind, IsAnswered, Plays}
use Rattle.shared_nodes.specs.Travelling.{payload_kept, travels, travels_change}
use Rattle.shared_nodes.proofs.Travels.{may_reply-travels, node_after-travels, changed_node-travels}

pub plays_more : (opening : NodeState) (journal : List JournalEntry) (node : NodeState) (e : JournalEntry) → Plays opening journal node → IsAnswered e node → Plays opening (journal ++ e ∷ []) (node_behind e node)
plays_more opening [] node e plays answered = (subst (λ (n : NodeState). IsAnswered e n) plays answered, ap (node_behind e) plays)
plays_more opening (x ∷ journal) node e plays answered = (plays.0, plays_more (node_behind x opening) journal node e plays.1 answered)

-- the entry of a request
abbrev entry_served : ℕ → Request → Reply → RecordSeen → Kept → JournalEntry
entry_served ticket request reply seen kept = record { ticket = ticket; step = steps.Served request reply; seen = seen; kept = kept }

-- a request that was served, with what is kept of what travelled beside it
pub plays_served : (opening : NodeState) (journal : List JournalEntry) (node new : NodeState) (ticket : ℕ) (request : Request) (p : Payload) (reply : Reply) (seen : RecordSeen) (kept : Kept) → Plays opening journal node → payload_kept kept ≡ travels request p → MayReply seen node request p reply → new ≡ node_after seen node request p reply → Plays opening (journal ++ entry_served ticket request reply seen kept ∷ []) new
plays_served opening journal node new ticket request p reply seen kept plays keeps may is =
    let e : JournalEntry = entry_served ticket request reply seen kept in
    let behind : node_behind e node ≡ new = ap (λ (q : Payload). node_after seen node request q reply) keeps ∙ sym (node_after-travels seen node request p reply) ∙ sym is in
    let answered : IsAnswered e node = (p.ids, subst (λ (q : Payload). MayReply seen node request (record q { ids = p.ids }) reply) (sym keeps) (may_reply-travels seen node request p reply may)) in
    subst (λ (n : NodeState). Plays opening (journal ++ e ∷ []) n) behind (plays_more opening journal node e plays answered)

-- the entry of a change
abbrev entry_changed : ℕ → NodeChange → RecordSeen → Kept → JournalEntry
entry_changed ticket change seen kept = record { ticket = ticket; step = steps.Changed change; seen = seen; kept = kept }

-- a change that was made, with what is kept of what travelled beside it
pub plays_changed : (opening : NodeState) (journal : List JournalEntry) (node new : NodeState) (ticket : ℕ) (change : NodeChange) (p : Payload) (seen : RecordSeen) (kept : Kept) → Plays opening journal node → payload_kept kept ≡ travels_change change p → new ≡ changed_node seen change p node → Plays opening (journal ++ entry_changed ticket change seen kept ∷ []) new
plays_changed opening journal node new ticket change p seen kept plays keeps is =
    let e : JournalEntry = entry_changed ticket change seen kept in
    let behind : node_behind e node ≡ new = ap (λ (q : Payload). changed_node seen change q node) keeps ∙ sym (changed_node-travels seen change p node) ∙ sym is in
    subst (λ (n : NodeState). Plays opening (journal ++ e ∷ []) n) behind (plays_more opening journal node e plays tt)
