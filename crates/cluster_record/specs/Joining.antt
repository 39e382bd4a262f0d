-- A node that comes back, as the record has it: it joins, in the life that follows its last one, and comes to be complete for one checkpoint after the
-- other.
use Rattle.std.specs.Prelude.{ℕ, ◌+◌, Option, Some, None, is_some, Bool, not, ◌&&◌, ◌==◌, if◌then◌else◌, slice_set, slice_index}
use Rattle.cluster_record.specs.Placement.{is_all, is_collocated}
use Rattle.cluster_record.specs.Places.{change_key}
use Rattle.cluster_record.specs.declared.entries.Entry.{Entry}
use Rattle.cluster_record.specs.RecordState.{RecordState, identity_of, first_complete, generation_under}

-- ---- it joins

-- the incarnation that follows a node's last one
abbrev pub next_incarnation : ℕ → RecordState → ℕ
next_incarnation r R = slice_index R.last_incarnations r + 1

-- A NODE JOINS: it is up from then on, in the incarnation that follows its last one, and this is the number of the first call that it may begin in it
abbrev pub node_joined : ℕ → ℕ → RecordState → RecordState
node_joined r first R = record R {
  up = slice_set R.up r (next_incarnation r R);
  first_calls = slice_set R.first_calls r first;
  last_incarnations = slice_set R.last_incarnations r (next_incarnation r R);
}

-- ---- it is complete for a checkpoint

-- a node that is up with this incarnation, or not up where that is 0, can come to be complete for an entry: the node is up and is not complete for it, and
-- the checkpoint is neither in the making nor collocated
abbrev pub can_complete : ℕ → ℕ → Entry → Bool
can_complete r n e = not (is_some e.making) && not (is_collocated e.attributes) && not (n == 0) && (slice_index e.complete r == 0)

-- a node is complete for it, with this incarnation
abbrev pub with_node : ℕ → ℕ → Entry → Entry
with_node r n e = record e { complete = slice_set e.complete r n }

-- this node is its active, where there is one; the generation rises by one where another was, or none
abbrev pub led_by : Option ℕ → Entry → Entry
led_by None e = e
led_by (Some r) e = record e { active = Some r; generation = generation_under r e }

-- its active behind a change of its complete nodes: where updates are on all replicas, the lowest of them; else it stays
abbrev pub led_by_lowest : Entry → Entry
led_by_lowest e = if is_all e.attributes then led_by (first_complete 0 e.complete) e else e

-- a node is complete for it from then on, with the incarnation with which it is up; nothing changes where the node can't come to be that
abbrev pub completed_on : ℕ → ℕ → Entry → Entry
completed_on r n e = if can_complete r n e then led_by_lowest (with_node r n e) else e

-- A NODE HAS A COMPLETE REPLICA of a checkpoint, with the incarnation that it has
abbrev pub completed : ℕ → ℕ → RecordState → RecordState
completed k r R = record R { entries = change_key identity_of k (completed_on r (slice_index R.up r)) R.entries }
