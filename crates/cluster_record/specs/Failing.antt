-- The failure of a node, as the record has it: its clients go with all that is theirs, no replica is complete on it, and a checkpoint whose active it
-- was gets another or none.
use Rattle.std.specs.Prelude.{◌≡◌, ◌≢◌, ℕ, ◌+◌, List, [], ◌∷◌, map, filter, length, Option, Some, None, is_some, Bool, false, not, ◌||◌, ◌==◌, nat_lt, if◌then◌else◌, ℤ, slice_set, Contains}
use Rattle.ckpt_types.specs.declared.attributes.CreationAttributes.{CreationAttributes}
use Rattle.ckpt_types.specs.declared.identities.ActorName.{ActorName}
use Rattle.ckpt_types.specs.declared.identities.ActorName.TheVariants.{Client, Node}
use Rattle.ckpt_types.specs.declared.identities.CallId.{CallId}
use Rattle.cluster_record.specs.Counts.{tells_of}
use Rattle.cluster_record.specs.Kept.{IsComplete}
use Rattle.cluster_record.specs.Placement.{is_all, is_collocated}
use Rattle.cluster_record.specs.Places.{find_key}
use Rattle.cluster_record.specs.declared.clients.LiveClient.{LiveClient}
use Rattle.cluster_record.specs.declared.counts.UpdateCount.{UpdateCount}
use Rattle.cluster_record.specs.declared.entries.Entry.{Entry}
use Rattle.cluster_record.specs.RecordState.{RecordState, client_key, has_references, idle_from, is_call_of, first_complete, is_active}

-- ---- its clients

-- a client is live, on this node
abbrev pub lives_on : ℕ → Option LiveClient → Bool
lives_on r None = false
lives_on r (Some live) = live.node == r

-- by its number, a client that goes with the node
abbrev pub goes_with_node : RecordState → ℕ → ℕ → Bool
goes_with_node R r c = lives_on r (find_key client_key c R.clients)

-- a call of one of the clients that go
abbrev pub is_of_those : (ℕ → Bool) → Option CallId → Bool
is_of_those goes None = false
is_of_those goes (Some call) = by_actor call.actor where
  by_actor : ActorName → Bool
  by_actor (Client c) = goes c
  by_actor (Node r) = false

-- by client, counted from c, how often those that stay have it open
abbrev pub references_left : (ℕ → Bool) → ℕ → List ℕ → List ℕ
references_left goes c [] = []
references_left goes c (n ∷ ns) = (if goes c then 0 else n) ∷ references_left goes (c + 1) ns

-- an entry without their references: where somebody had it open and nobody has now, this was its last close
abbrev pub left_open : (ℕ → Bool) → ℤ → Entry → Entry
left_open goes t e = let f = record e { references = references_left goes 0 e.references } in if has_references e then idle_from t f else f

-- and without a hold of theirs
abbrev pub without_clients : (ℕ → Bool) → ℤ → Entry → Entry
without_clients goes t e = record (left_open goes t e) { hold = if is_of_those goes e.hold then None else e.hold }

-- these clients are live no more, what they were making is undone, and they have nothing open and hold nothing
abbrev pub cut_off : (ℕ → Bool) → RecordState → RecordState
cut_off goes R = record R {
  clients = filter (λ live. not (goes (client_key live))) R.clients;
  entries = map (without_clients goes R.moment) (filter (λ e. not (is_of_those goes e.making)) R.entries);
}

-- ---- its replicas

-- of a node and of what was found behind it, the one with more updates, the first where both have as many
abbrev pub with_more : (ℕ → ℕ) → ℕ → Option ℕ → ℕ
with_more counts n None = n
with_more counts n (Some q) = if nat_lt (counts n) (counts q) then q else n

-- of the complete nodes, counted from n, the lowest of those with the most updates
abbrev pub most_updated : (ℕ → ℕ) → ℕ → List ℕ → Option ℕ
most_updated counts n [] = None
most_updated counts n (c ∷ cs) = if c == 0 then most_updated counts (n + 1) cs else Some (with_more counts n (most_updated counts (n + 1) cs))

-- who is the active where it is gone, by the nodes that are complete still: none of a collocated checkpoint, until a client sets one; where updates are
-- on all replicas, the lowest; else the one with the most updates
abbrev pub next_active : (ℕ → ℕ) → CreationAttributes → List ℕ → Option ℕ
next_active counts a complete = if is_collocated a then None else if is_all a then first_complete 0 complete else most_updated counts 0 complete

-- its active is gone: another is the active, or none, and the generation rises
abbrev pub led_anew : (ℕ → ℕ) → Entry → Entry
led_anew counts e = record e { active = next_active counts e.attributes e.complete; generation = e.generation + 1 }

-- a node is complete for it no more
abbrev pub without_node : ℕ → Entry → Entry
without_node r e = record e { complete = slice_set e.complete r 0 }

-- what the failure of a node leaves of an entry, where the replicas that stay have so many updates
abbrev pub entry_failed : (ℕ → ℕ) → ℕ → Entry → Entry
entry_failed counts r e = if is_active e.active r then led_anew counts (without_node r e) else without_node r e

-- the checkpoint is in the making, or a node is complete for it
abbrev pub survives : Entry → Bool
survives e = is_some e.making || is_some (first_complete 0 e.complete)

-- no checkpoint is complete on the node any more, and each that has no complete node left goes with its name
abbrev pub without_replicas : (ℕ → ℕ → ℕ) → ℕ → RecordState → RecordState
without_replicas counts r R = record R { entries = filter survives (map (λ e. entry_failed (counts e.identity) r e) R.entries) }

-- nor is the node up
abbrev pub node_gone : (ℕ → ℕ → ℕ) → ℕ → RecordState → RecordState
node_gone counts r R = record (without_replicas counts r R) { up = slice_set R.up r 0 }

-- ---- the whole

-- THE FAILURE OF A NODE, by how many updates the replica of each checkpoint on each node has: the clients of the node are cut off, and the node is gone
abbrev pub failed : (ℕ → ℕ → ℕ) → ℕ → RecordState → RecordState
failed counts r R = node_gone counts r (cut_off (goes_with_node R r) R)

-- what is told before it: of each checkpoint that is made, and whose updates go to the active alone, just one count of each complete node but this one
abbrev pub TellsOthers : List UpdateCount → ℕ → List Entry → Type 0
TellsOthers told r entries =
    (e : Entry) (q : ℕ) → Contains entries e → e.making ≡ None → is_all e.attributes ≡ false → IsComplete q e.complete → q ≢ r
    → length (filter (tells_of e.identity q) told) ≡ 1

-- ---- one client after the other

-- of the clients the first that is on this node
abbrev pub first_on : ℕ → List LiveClient → Option ℕ
first_on r [] = None
first_on r (live ∷ more) = if live.node == r then Some live.client else first_on r more

-- no call of this client holds it
abbrev pub unheld_by : ℕ → Entry → Entry
unheld_by c e = record e { hold = if is_call_of c e.hold then None else e.hold }

-- no call of this client holds any checkpoint
abbrev pub holds_ended : ℕ → RecordState → RecordState
holds_ended c R = record R { entries = map (unheld_by c) R.entries }
