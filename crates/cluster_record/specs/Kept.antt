-- What every record keeps: of each checkpoint, and of each client that is live.
use Rattle.std.specs.Prelude.{◌≡◌, ◌≢◌, ℕ, ◌<◌, ◌≤◌, List, length, IsSome, IfSome, None, All, AllPairs, ℤ, pos, ◌≤ℤ◌, slice_index}
use Rattle.ckpt_types.specs.declared.identities.CallId.{CallId}
use Rattle.ckpt_types.specs.Attributes.{IsWellFormed}
use Rattle.ckpt_types.specs.Limits.{nodes_max, client_numbers, name_max}
use Rattle.cluster_record.specs.declared.entries.Entry.{Entry}
use Rattle.cluster_record.specs.declared.clients.LiveClient.{LiveClient}
use Rattle.cluster_record.specs.Calls.{IsClient}
use Rattle.cluster_record.specs.RecordState.{no_nodes, no_references}

-- ---- a checkpoint

-- bytes that fit as a checkpoint's name
abbrev pub IsName : List ℕ → Type 0
IsName name = (1 ≤ length name) × (length name ≤ name_max)

-- in the making by this call, which is a client's, and as it was created: it has its name, and nobody has it open
pub record IsMakingBy (call : CallId) (e : Entry) : Type 0 where
  pub maker : IsClient call.actor
  pub name : IsSome e.name
  pub complete : e.complete ≡ no_nodes
  pub active : e.active ≡ None
  pub generation : e.generation ≡ 1
  pub references : e.references ≡ no_references
  pub hold : e.hold ≡ None

-- by node, the incarnations with which nodes are complete: this one is
pub record IsComplete (r : ℕ) (complete : List ℕ) : Type 0 where
  pub node : r < nodes_max
  pub incarnation : 1 ≤ slice_index complete r

-- what is so of each checkpoint at the moment t
pub record IsKeptEntry (t : ℤ) (e : Entry) : Type 0 where
  pub identity : 1 ≤ e.identity
  pub name : IfSome e.name IsName
  pub attributes : IsWellFormed e.attributes
  pub retention : pos 0 ≤ℤ e.retention
  -- it was made, and closed last, between the start and the moment
  pub made : pos 0 ≤ℤ e.made
  pub idle : e.made ≤ℤ e.idle
  pub past : e.idle ≤ℤ t
  -- for each node its incarnation, and for each client its references
  pub complete : length e.complete ≡ nodes_max
  pub references : length e.references ≡ client_numbers
  pub active : IfSome e.active (λ r. IsComplete r e.complete)
  pub generation : 1 ≤ e.generation
  pub making : IfSome e.making (λ call. IsMakingBy call e)

-- it was made, and closed last, from the start on, and what it stays for behind that is no time or a longer one
pub record HasTimes (e : Entry) : Type 0 where
  pub made : pos 0 ≤ℤ e.made
  pub idle : pos 0 ≤ℤ e.idle
  pub retention : pos 0 ≤ℤ e.retention

-- ---- a live client

-- one that a script may name, on one of the nodes
pub record IsKeptClient (live : LiveClient) : Type 0 where
  pub client : live.client < client_numbers
  pub node : live.node < nodes_max

-- no client is live twice
abbrev pub EachClientOnce : List LiveClient → Type 0
EachClientOnce clients = AllPairs (λ a b. a.client ≢ b.client) clients

-- what is so of all live clients
pub record AreKeptClients (clients : List LiveClient) : Type 0 where
  pub each : All IsKeptClient clients
  pub each_once : EachClientOnce clients
