-- Handles are references: a client has as many handles of a checkpoint as the record has references of the client to it. These keep a checkpoint that is
-- unlinked, or past its retention. So none goes to which there is a handle, whoever closes, unlinks or leaves: only the failure of a node takes it, on
-- which alone it was complete.
use Rattle.std.specs.Prelude.{◌≡◌, ◌⊎◌, ℕ, List, [], ◌∷◌, ◌++◌, filter, length, Some, None, IsSome, IsSomeAnd, Contains, true, false, ◌==◌, slice_index}
use Rattle.ckpt_types.specs.declared.identities.ActorName.{ActorName}
use Rattle.ckpt_types.specs.declared.identities.ActorName.TheVariants.{Client}
use Rattle.client_handles.specs.declared.handle_view.HandleView.{HandleView}
use Rattle.run_labels.specs.declared.labels.Label.{Label}
use Rattle.run_labels.specs.declared.labels.Label.TheVariants as labels
use Rattle.cluster_record.specs.declared.entries.Entry.{Entry}
use Rattle.cluster_record.specs.Calls.{IsClient, number_of}
use Rattle.cluster_record.specs.RecordState.{entry_of, is_live_client}
use Rattle.ckpt_machine.specs.Runs.{last}
use Rattle.ckpt_machine.specs.Shape.{IsCompleteOn}

-- how many of these handles are of a checkpoint
abbrev pub handles_of : ℕ → List HandleView → ℕ
handles_of k handles = length (filter (λ h. h.id == k) handles)

-- ---- a checkpoint that a failure took

-- complete on this node, and on no other
abbrev pub IsOnAlone : ℕ → Entry → Type 0
IsOnAlone r e = IsCompleteOn e r × ((q : ℕ) → IsCompleteOn e q → q ≡ r)

-- in the log a node failed on which alone the handle's checkpoint was complete: the actor had the handle then, the checkpoint was made, and behind the
-- failure it was gone
pub record WasTaken (log : List Label) (a : ActorName) (h : HandleView) : Type 0 where
  pub front : List Label
  pub back : List Label
  pub node : ℕ
  pub log_is : log ≡ front ++ labels.Failed node true ∷ back
  pub had : Contains ((last front).tables a).handles h
  pub was : IsSomeAnd (entry_of h.id (last front).cluster.entries) (λ e. (e.making ≡ None) × IsOnAlone node e)
  pub gone : entry_of h.id (last (front ++ labels.Failed node true ∷ [])).cluster.entries ≡ None

-- ---- behind a log

-- behind this log, handles are references
pub record HandlesAreReferences (log : List Label) : Type 0 where
  -- of a checkpoint that is there, a client has as many handles as the entry has references of the client
  pub counted : (k c : ℕ) (e : Entry) → entry_of k (last log).cluster.entries ≡ Some e
      → handles_of k ((last log).tables (Client c)).handles ≡ slice_index e.references c
  -- one in the making has no references
  pub unmade : (k c : ℕ) (e : Entry) → entry_of k (last log).cluster.entries ≡ Some e → IsSome e.making → slice_index e.references c ≡ 0
  -- a client that is not live has none, of any checkpoint
  pub left : (k c : ℕ) (e : Entry) → entry_of k (last log).cluster.entries ≡ Some e → is_live_client c (last log).cluster ≡ false
      → slice_index e.references c ≡ 0
  -- and whoever has a handle is a client that is live
  pub live : (a : ActorName) (h : HandleView) → Contains ((last log).tables a).handles h
      → IsClient a × (is_live_client (number_of a) (last log).cluster ≡ true)
  -- the checkpoint of each handle is there and made, or a failure took it
  pub there : (a : ActorName) (h : HandleView) → Contains ((last log).tables a).handles h
      → IsSomeAnd (entry_of h.id (last log).cluster.entries) (λ e. e.making ≡ None) ⊎ WasTaken log a h

-- AT EVERY TIME OF A RUN: it is so after each front of the log
abbrev pub HandlesAreReferencesThroughout : List Label → Type 0
HandlesAreReferencesThroughout log = (front back : List Label) → log ≡ front ++ back → HandlesAreReferences front
