-- The record of the cluster, on which all nodes agree, and its steps.
use Rattle.std.specs.Prelude.{ℕ, ◌+◌, ◌-◌, List, [], ◌∷◌, ◌++◌, map, filter, find, Option, Some, None, is_some, Bool, false, not, ◌&&◌, ◌||◌, ◌==◌, nat_eq, nat_lt, if◌then◌else◌, ℤ, pos, ◌≤ℤ◌, ◌<ℤ◌, replicate, slice_set, slice_index}
use Rattle.std.specs.List.{list_any}
use Rattle.std.specs.Cmp.Lexicographic.{pointwise}
use Rattle.moment_rules.specs.Times.{never, sum_until_end, is_reached}
use Rattle.ckpt_types.specs.declared.identities.ActorName.{ActorName}
use Rattle.ckpt_types.specs.declared.identities.ActorName.TheVariants.{Client, Node}
use Rattle.ckpt_types.specs.declared.identities.CallId.{CallId}
use Rattle.ckpt_types.specs.declared.attributes.CreationAttributes.{CreationAttributes}
use Rattle.ckpt_types.specs.declared.calls.OpenAsk.{OpenAsk}
use Rattle.ckpt_types.specs.Limits.{nodes_max, client_numbers}
use Rattle.cluster_record.specs.Placement.{targets, is_collocated, adds}
use Rattle.cluster_record.specs.declared.entries.Entry.{Entry}
use Rattle.cluster_record.specs.declared.clients.LiveClient.{LiveClient}
use Rattle.cluster_record.specs.Places.{find_key, change_key}

-- which nodes are up, which clients are live, which checkpoints there are, and the moment
pub record RecordState : Type 0 where
  -- by node, the incarnation with which it is up, or 0
  pub up : List ℕ
  -- by node, the number of the first call that it may begin in this incarnation
  pub first_calls : List ℕ
  -- by node, its last incarnation, or 0
  pub last_incarnations : List ℕ
  -- the identity last given, or 0
  pub last_identity : ℕ
  pub moment : ℤ
  pub clients : List LiveClient
  -- in rising order of identity
  pub entries : List Entry

-- by node, 0 for each: none is up, or complete, or has reserved
abbrev pub no_nodes : List ℕ
no_nodes = replicate nodes_max 0

-- a cluster in which no node is up
abbrev pub empty_record : RecordState
empty_record = record { up = no_nodes; first_calls = no_nodes; last_incarnations = no_nodes; last_identity = 0; moment = pos 0; clients = []; entries = [] }

-- ---- look-ups

-- by what an entry is looked up
abbrev pub identity_of : Entry → ℕ
identity_of e = e.identity

-- the entry of a checkpoint, as long as the checkpoint is there
abbrev pub entry_of : ℕ → List Entry → Option Entry
entry_of k entries = find_key identity_of k entries

-- the name of a checkpoint is this one; one that is unlinked has none
abbrev pub is_name : List ℕ → Option (List ℕ) → Bool
is_name name None = false
is_name name (Some other) = pointwise nat_eq other name

-- the checkpoint of that name
abbrev pub named : List ℕ → List Entry → Option Entry
named name entries = find (λ e. is_name name e.name) entries

-- by node, the incarnation with which it is complete; of a checkpoint that is gone none is
abbrev pub complete_of : Option Entry → List ℕ
complete_of None = no_nodes
complete_of (Some e) = e.complete

-- by what a live client is looked up
abbrev pub client_key : LiveClient → ℕ
client_key live = live.client

-- the client is live, as it is from its Initialize to its Finalize
abbrev pub is_live_client : ℕ → RecordState → Bool
is_live_client c R = is_some (find_key client_key c R.clients)

-- it is one of the nodes of a cluster, and is up
abbrev pub is_up : ℕ → RecordState → Bool
is_up r R = nat_lt r nodes_max && not (slice_index R.up r == 0)

-- the node of a client; 0 where it is not live
abbrev pub node_of_client : Option LiveClient → ℕ
node_of_client None = 0
node_of_client (Some live) = live.node

-- the call is not of an earlier life of its client
abbrev pub is_live_from : Option LiveClient → ℕ → Bool
is_live_from None number = false
is_live_from (Some live) number = not (nat_lt number live.initialize)

-- a call is live where its client is, or for a copying its node is up, and its number is of this life
abbrev pub is_live : RecordState → CallId → Bool
is_live R call = of_actor call.actor where
  of_actor : ActorName → Bool
  of_actor (Client c) = is_live_from (find_key client_key c R.clients) call.number
  of_actor (Node r) = is_up r R && not (nat_lt call.number (slice_index R.first_calls r))

-- the lowest complete node, counted from n
abbrev pub first_complete : ℕ → List ℕ → Option ℕ
first_complete n [] = None
first_complete n (c ∷ cs) = if c == 0 then first_complete (n + 1) cs else Some n

-- ---- the sweep

-- some client has the checkpoint open
abbrev pub has_references : Entry → Bool
has_references e = list_any (λ n. not (n == 0)) e.references

-- the end of an entry's retention, counted from its last close
abbrev pub retained_until : Entry → ℤ
retained_until e = sum_until_end e.idle e.retention

-- an entry goes that is not in the making, that nobody has open, and that is unlinked or past its retention
abbrev pub stays : ℤ → Entry → Bool
stays t e = is_some e.making || has_references e || (is_some e.name && not (is_reached (retained_until e) t))

-- the record without the checkpoints that are over at its moment
abbrev pub swept : RecordState → RecordState
swept R = record R { entries = filter (stays R.moment) R.entries }

-- ---- the moment

-- a moment that may be set where the first holds: not before it, and before the end of time
abbrev pub IsMomentFrom : ℤ → ℤ → Type 0
IsMomentFrom before t = (before ≤ℤ t) × (t <ℤ never)

-- the moment is set, and what is over then is swept away
abbrev pub moved : ℤ → RecordState → RecordState
moved t R = swept (record R { moment = t })

-- ---- the steps

-- the nodes, n0 to n7
abbrev pub all_nodes : List ℕ
all_nodes = 0 ∷ 1 ∷ 2 ∷ 3 ∷ 4 ∷ 5 ∷ 6 ∷ 7 ∷ []

-- 1 for each of the first nodes
abbrev pub first_nodes : ℕ → List ℕ
first_nodes n = map (λ r. if nat_lt r n then 1 else 0) all_nodes

-- the first nodes come up
abbrev pub brought_up : ℕ → RecordState → RecordState
brought_up n R = record R { up = first_nodes n; first_calls = first_nodes n; last_incarnations = first_nodes n }

-- a client becomes live
abbrev pub entered : ℕ → ℕ → ℕ → RecordState → RecordState
entered c r number R = record R { clients = R.clients ++ record { client = c; node = r; incarnation = slice_index R.up r; initialize = number } ∷ [] }

-- by client, that nobody has it open
abbrev pub no_references : List ℕ
no_references = replicate client_numbers 0

-- an entry in the making by a call
abbrev pub new_entry : CallId → List ℕ → CreationAttributes → RecordState → Entry
new_entry call name a R = record {
  identity = R.last_identity + 1;
  name = Some name;
  attributes = a;
  retention = a.retention_duration;
  made = R.moment;
  making = Some call;
  complete = no_nodes;
  active = None;
  generation = 1;
  references = no_references;
  idle = R.moment;
  hold = None;
}

-- a checkpoint gets the next identity, and is in the making
abbrev pub created_as : CallId → List ℕ → Option CreationAttributes → RecordState → RecordState
created_as call name None R = R
created_as call name (Some a) R = record R { last_identity = R.last_identity + 1; entries = R.entries ++ new_entry call name a R ∷ [] }

-- a checkpoint gets the next identity and is in the making, with the name and the attributes that an open asks for
abbrev pub created_by_ask : CallId → OpenAsk → RecordState → RecordState
created_by_ask call ask R = created_as call ask.name ask.attrs R

-- one reference of a client more
abbrev pub referred : ℕ → Entry → Entry
referred c e = record e { references = slice_set e.references c (slice_index e.references c + 1) }

-- its active, by the nodes on which it is complete: the lowest of them; a collocated one has none until a client sets it
abbrev pub first_active : CreationAttributes → List ℕ → Option ℕ
first_active a complete = if is_collocated a then None else first_complete 0 complete

-- the making is finished by an opener on this node, where these nodes are up: it is complete on those on which it is made, and the maker has it open
abbrev pub made_with : ℕ → List ℕ → ℕ → Entry → Entry
made_with opener up c e =
    let complete = targets e.attributes opener up in
    referred c (record e { making = None; complete = complete; active = first_active e.attributes complete; generation = 1 })

-- the node of a client that is live, and n0 for one that is not
abbrev pub home_of : ℕ → RecordState → ℕ
home_of c R = node_of_client (find_key client_key c R.clients)

-- the making of a checkpoint is finished, for a client
abbrev pub finished : ℕ → ℕ → RecordState → RecordState
finished k c R = record R { entries = change_key identity_of k (made_with (home_of c R) R.up c) R.entries }

-- the making is undone
abbrev pub undone : ℕ → RecordState → RecordState
undone k R = record R { entries = filter (λ e. not (e.identity == k)) R.entries }

-- opened from this node, where these nodes are up: from then on it is complete there too, where that adds a replica
abbrev pub joined : ℕ → List ℕ → Entry → Entry
joined opener up e = if adds e.attributes opener e.complete then record e { complete = slice_set e.complete opener (slice_index up opener) } else e

-- opened by a client from this node
abbrev pub opened_with : ℕ → List ℕ → ℕ → Entry → Entry
opened_with opener up c e = referred c (joined opener up e)

-- a client opens a checkpoint that is there
abbrev pub opened : ℕ → ℕ → RecordState → RecordState
opened k c R = record R { entries = change_key identity_of k (opened_with (home_of c R) R.up c) R.entries }

-- ---- the end of a checkpoint's life

-- an entry from which a reference was taken: where nobody has it open now, this was its last close
abbrev pub idle_from : ℤ → Entry → Entry
idle_from t e = if has_references e then e else record e { idle = t }

-- one reference of a client fewer; nothing changes where it has none
abbrev pub unreferred : ℕ → ℤ → Entry → Entry
unreferred c t e =
    if slice_index e.references c == 0 then e else idle_from t (record e { references = slice_set e.references c (slice_index e.references c - 1) })

-- a client closes a checkpoint once
abbrev pub closed : ℕ → ℕ → RecordState → RecordState
closed k c R = record R { entries = change_key identity_of k (unreferred c R.moment) R.entries }

-- no name, so that another checkpoint may take it
abbrev pub unnamed : Entry → Entry
unnamed e = record e { name = None }

-- a checkpoint's name goes at once
abbrev pub unlinked : ℕ → RecordState → RecordState
unlinked k R = record R { entries = change_key identity_of k unnamed R.entries }

-- another retention from its last close on
abbrev pub retaining : ℤ → Entry → Entry
retaining duration e = record e { retention = duration }

-- a checkpoint's retention is set
abbrev pub retained : ℕ → ℤ → RecordState → RecordState
retained k duration R = record R { entries = change_key identity_of k (retaining duration) R.entries }

-- all references of a client go at once
abbrev pub released_all : ℕ → ℤ → Entry → Entry
released_all c t e = if slice_index e.references c == 0 then e else idle_from t (record e { references = slice_set e.references c 0 })

-- a call of this client
abbrev pub is_call_of : ℕ → Option CallId → Bool
is_call_of c None = false
is_call_of c (Some call) = by_actor call.actor where
  by_actor : ActorName → Bool
  by_actor (Client d) = d == c
  by_actor (Node r) = false

-- a client leaves: it is live no more, what it was making is undone, and it has nothing open
abbrev pub departed : ℕ → RecordState → RecordState
departed c R = record R {
  clients = filter (λ live. not (client_key live == c)) R.clients;
  entries = map (released_all c R.moment) (filter (λ e. not (is_call_of c e.making)) R.entries);
}

-- ---- the active of a collocated checkpoint

-- a call can hold a checkpoint that is collocated and has an active
abbrev pub can_be_held : Entry → Bool
can_be_held e = is_collocated e.attributes && is_some e.active

-- held by a call; nothing changes where it can't be held
abbrev pub with_hold : CallId → Entry → Entry
with_hold call e = if can_be_held e then record e { hold = Some call } else e

-- a call's hold is set on a checkpoint
abbrev pub hold_set : ℕ → CallId → RecordState → RecordState
hold_set k call R = record R { entries = change_key identity_of k (with_hold call) R.entries }

-- a node can be the active of a checkpoint that is collocated and complete there
abbrev pub can_lead : ℕ → Entry → Bool
can_lead r e = is_collocated e.attributes && not (slice_index e.complete r == 0)

-- there is an active, and the node is it
abbrev pub is_active : Option ℕ → ℕ → Bool
is_active None r = false
is_active (Some q) r = q == r

-- its generation under this node as active: one more where another was the active before, or none
abbrev pub generation_under : ℕ → Entry → ℕ
generation_under r e = if is_active e.active r then e.generation else e.generation + 1

-- a node is its active, and the hold on it ends; nothing changes where the node can't be that
abbrev pub with_active : ℕ → Entry → Entry
with_active r e = if can_lead r e then record e { active = Some r; generation = generation_under r e; hold = None } else e

-- a node is set as the active of a checkpoint
abbrev pub active_set : ℕ → ℕ → RecordState → RecordState
active_set k r R = record R { entries = change_key identity_of k (with_active r) R.entries }

-- ---- what is told of a checkpoint

-- its attributes, with the retention as it is now
abbrev pub attributes_now : Entry → CreationAttributes
attributes_now e = record e.attributes { retention_duration = e.retention }
