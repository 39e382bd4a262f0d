-- By labels that are no beginning and no step of a call no call comes into hand: those that are left are as they were, and so are their clients, and all that is said of calls alone.
use Rattle.std.proofs.Common.{◌≡◌, ℕ, Some, None, true, false, sym, ap, refl, ◌∙◌}
use Rattle.ckpt_types.specs.declared.identities.Who.{Who}
use Rattle.run_labels.specs.declared.labels.Label.{Label}
use Rattle.run_labels.specs.declared.labels.Label.TheVariants as labels
use Rattle.cluster_record.specs.Calls.{IsClient, client_of}
use Rattle.cluster_record.specs.Places.{find_key}
use Rattle.cluster_record.specs.RecordState.{client_key}
use Rattle.ckpt_machine.specs.Failing.{failed_at}
use Rattle.ckpt_machine.specs.Invariant.{Invariant}
use Rattle.ckpt_machine.specs.Machine.{Machine, CallState}
use Rattle.ckpt_machine.specs.After.{after}
use Rattle.ckpt_machine.specs.Due.{IsDue, count_in}
use Rattle.ckpt_machine.proofs.Copying.{after_pull, after_put}
use Rattle.ckpt_machine.proofs.FailedCalls.{left_is, left_stays}
use Rattle.ckpt_machine.proofs.FailedClients.{found_staying, of_node_client}

-- no call begins or takes a step by it
abbrev pub IsQuiet : Label → Type 0
IsQuiet (labels.Began call op end details) = ⊥
IsQuiet (labels.Stepped call op verb k r reply end details) = ⊥
IsQuiet l = Unit {0}

-- the calls in hand were in hand, those of clients of such as are as they were, and the same numbers come next
pub record LeavesCalls (m n : Machine) : Type 0 where
  pub held : (w : Who) (s : CallState) → n.in_hand w ≡ Some s → m.in_hand w ≡ Some s
  pub next : n.next ≡ m.next
  pub client : (w : Who) (s : CallState) → n.in_hand w ≡ Some s → IsClient s.call.actor → find_key client_key (client_of s.call) n.cluster.clients ≡ find_key client_key (client_of s.call) m.cluster.clients

-- so they are where none of it changes
leaves_same : (m n : Machine) → n.in_hand ≡ m.in_hand → n.next ≡ m.next → n.cluster.clients ≡ m.cluster.clients → LeavesCalls m n
leaves_same m n in_hand next clients = record {
  held = λ w s is. ap (λ f. f w) (sym in_hand) ∙ is;
  next = next;
  client = λ w s is of. ap (find_key client_key (client_of s.call)) clients;
}

-- behind the failure of a node some are left
failed_leaves : (m : Machine) → Invariant m → (r : ℕ) → LeavesCalls m (failed_at r m)
failed_leaves m inv r = record {
  held = λ w s left. (left_is m inv.shapes inv.holds r w s left).0;
  next = refl;
  client = λ w s left client.
      let (held, stays) = left_is m inv.shapes inv.holds r w s left in
      found_staying (λ k q. count_in (m.replicas k q)) r m.cluster (client_of s.call) (sym (of_node_client m.cluster r s.call.actor client) ∙ left_stays m inv.shapes inv.holds r s stays);
}

-- WHATEVER THE LABEL IS
pub quiet : (m : Machine) → Invariant m → (l : Label) → IsQuiet l → IsDue m l → LeavesCalls m (after m l)
quiet m inv (labels.Began call op end details) is due = absurd is
quiet m inv (labels.Stepped call op verb k r reply end details) is due = absurd is
quiet m inv (labels.Word by word said) is due = leaves_same m m refl refl refl
quiet m inv (labels.Nodes n) is due = leaves_same m (after m (labels.Nodes n)) refl refl refl
quiet m inv (labels.Moved t) is due = leaves_same m (after m (labels.Moved t)) refl refl refl
quiet m inv (labels.Failed r true) is due = failed_leaves m inv r
quiet m inv (labels.Failed r false) is due = leaves_same m m refl refl refl
quiet m inv (labels.Joined r (Some incarnation)) is due = leaves_same m (after m (labels.Joined r (Some incarnation))) refl refl refl
quiet m inv (labels.Joined r None) is due = leaves_same m m refl refl refl
quiet m inv (labels.Shown k replicas) is due = leaves_same m m refl refl refl
quiet m inv (labels.Pulled k reply) is due = after_pull (LeavesCalls m) m k reply due (leaves_same m m refl refl refl) (λ x from none. leaves_same m _ refl refl refl)
quiet m inv (labels.Put k r reply) is due = after_put (LeavesCalls m) m k r reply (leaves_same m m refl refl refl) (λ s x copied on. leaves_same m _ refl refl refl)
