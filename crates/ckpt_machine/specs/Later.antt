-- A step of the record that takes entries away, and changes in the others nothing but names, references, retentions, last closes, and the nodes of
-- collocated ones.
use Rattle.std.specs.Prelude.{◌≡◌, ℕ, List, [], length, Option, Some, IsSome, IfSome, Contains, true, false}
use Rattle.ckpt_types.specs.declared.identities.ActorName.{ActorName}
use Rattle.ckpt_types.specs.declared.identities.CallId.{CallId}
use Rattle.ckpt_types.specs.declared.identities.Who.{Who}
use Rattle.client_handles.specs.declared.handle_view.HandleView.{HandleView}
use Rattle.cluster_record.specs.declared.entries.Entry.{Entry}
use Rattle.cluster_record.specs.Calls.{IsClient, number_of, client_of}
use Rattle.cluster_record.specs.Identities.{IdentitiesRise, AllUpTo}
use Rattle.cluster_record.specs.Placement.{is_collocated}
use Rattle.cluster_record.specs.Places.{find_key}
use Rattle.cluster_record.specs.RecordState.{RecordState, entry_of, client_key, no_nodes, is_live}
use Rattle.ckpt_machine.specs.Entries.{AllStay}
use Rattle.ckpt_machine.specs.Invariant.{IsMaker, IsGoodClient}
use Rattle.ckpt_machine.specs.Machine.{Machine, CallState, who}
use Rattle.ckpt_machine.specs.Dead.{IsDead}
use Rattle.ckpt_machine.specs.Shape.{Shape, IsCompleteOn, NodesAreUp, IsOwner, IsMarker, IsHolder}
use Rattle.weak_marks.specs.Marks.{Marked}

-- the same as far as the invariant looks, where these nodes are up; one that is made and collocated may be complete on further nodes
pub record IsLaterEntry (up : List ℕ) (e f : Entry) : Type 0 where
  pub making : f.making ≡ e.making
  -- one in the making, or not collocated, has the same nodes; any other has these at least
  pub unmade : IsSome e.making → f.complete ≡ e.complete
  pub placed : is_collocated e.attributes ≡ false → f.complete ≡ e.complete
  pub nodes : length f.complete ≡ length e.complete
  pub grows : (r : ℕ) → IsCompleteOn e r → IsCompleteOn f r
  pub lives : NodesAreUp up e → NodesAreUp up f
  pub active : f.active ≡ e.active
  pub attributes : f.attributes ≡ e.attributes
  pub generation : f.generation ≡ e.generation
  pub hold : f.hold ≡ e.hold
  pub clients : length f.references ≡ length e.references

-- R comes after the record of m, where these calls are left in hand
pub record IsLaterRecord (m : Machine) (R : RecordState) (hands : Who → Option CallState) : Type 0 where
  pub up : R.up ≡ m.cluster.up
  pub incarnations : R.last_incarnations ≡ m.cluster.last_incarnations
  pub first_calls : R.first_calls ≡ m.cluster.first_calls
  pub last : R.last_identity ≡ m.cluster.last_identity
  pub rises : IdentitiesRise R.entries
  pub up_to : AllUpTo R.last_identity R.entries
  pub swept : AllStay R.moment R.entries
  pub later : (k : ℕ) (f : Entry) → entry_of k R.entries ≡ Some f → (e : Entry) × (entry_of k m.cluster.entries ≡ Some e) × IsLaterEntry m.cluster.up e f
  pub none_live : m.cluster.up ≡ no_nodes → R.clients ≡ []
  pub clients : (c : ℕ) → IfSome (find_key client_key c R.clients) (IsGoodClient m.next R c)
  -- the calls that are left
  pub was_held : (w : Who) (z : CallState) → hands w ≡ Some z → m.in_hand w ≡ Some z
  -- no call that was dead is live again
  pub dead : (d : CallId) → IsDead m d → is_live R d ≡ false
  -- live as they were, and with what they are making
  pub live : (w : Who) (z : CallState) → hands w ≡ Some z → is_live m.cluster z.call ≡ true → is_live R z.call ≡ true
  pub lives : (w : Who) (z : CallState) → hands w ≡ Some z → IsClient z.call.actor
      → find_key client_key (client_of z.call) R.clients ≡ find_key client_key (client_of z.call) m.cluster.clients
  pub makes : (w : Who) (z : CallState) (k : ℕ) (e : Entry) → hands w ≡ Some z → entry_of k m.cluster.entries ≡ Some e → e.making ≡ Some z.call
      → IsSome (entry_of k R.entries)
  -- who has a handle is on the node where its client was
  pub homes : (a : ActorName) (h : HandleView) → Contains (m.tables a).handles h
      → find_key client_key (number_of a) R.clients ≡ find_key client_key (number_of a) m.cluster.clients
  -- those who own slots, have marks, hold or are making what is left, are left
  pub owners : (k : ℕ) (sh : Shape) (call : CallId) (at : IsOwner m k sh call) → hands (who at.state) ≡ m.in_hand (who at.state)
  pub markers : (k : ℕ) (marks : Marked) → IsSome (entry_of k R.entries) → (at : IsMarker m k marks) → hands (who at.state) ≡ m.in_hand (who at.state)
  pub holders : (k : ℕ) (active : Option ℕ) (call : CallId) → IsSome (entry_of k R.entries) → (at : IsHolder m k active call)
      → hands (who at.state) ≡ m.in_hand (who at.state)
  pub makers : (k : ℕ) (call : CallId) → IsSome (entry_of k R.entries) → (at : IsMaker m k call) → hands (who at.state) ≡ m.in_hand (who at.state)
