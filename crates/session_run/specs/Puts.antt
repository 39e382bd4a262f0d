-- What the lines `pull`, `put` and `propagate` print.
use Rattle.std.specs.Prelude.{◌≡◌, ℕ, List, [], ◌∷◌, Option, Some, None, Bool, true, false, not, ◌&&◌, ◌==◌, slice_index, if◌then◌else◌}
use Rattle.std.specs.List.{filter}
use Rattle.run_labels.specs.declared.labels.Label.{Label}
use Rattle.run_labels.specs.declared.labels.Label.TheVariants as labels
use Rattle.run_labels.specs.declared.labels.PullReply.{PullReply}
use Rattle.run_labels.specs.declared.labels.PullReply.TheVariants as pulls
use Rattle.cluster_record.specs.declared.entries.Entry.{Entry}
use Rattle.cluster_record.specs.RecordState.{all_nodes, complete_of}
use Rattle.ckpt_machine.specs.Listing.{is_active}

-- the node of the active, if there is one
abbrev pub active_in : Option Entry → Option ℕ
active_in None = None
active_in (Some e) = e.active

-- the node is complete, and has not the active
abbrev pub takes_put : List ℕ → Option ℕ → ℕ → Bool
takes_put complete active r = not (slice_index complete r == 0) && not (is_active active r)

-- the complete nodes of a checkpoint but the active's, from the lowest up
abbrev pub other_nodes : Option Entry → List ℕ
other_nodes e = filter (takes_put (complete_of e) (active_in e)) all_nodes

-- one pull of the checkpoint
abbrev pub IsPull : ℕ → List Label → Type 0
IsPull k (labels.Pulled other reply ∷ rest) = (other ≡ k) × (rest ≡ [])
IsPull k log = ⊥

-- a put of the checkpoint at each of these nodes in turn, and nothing else
abbrev pub ArePuts : ℕ → List ℕ → List Label → Type 0
ArePuts k [] log = log ≡ []
ArePuts k (r ∷ rs) (labels.Put other node reply ∷ rest) = (other ≡ k) × (node ≡ r) × ArePuts k rs rest
ArePuts k (r ∷ rs) log = ⊥

-- a snapshot was pulled
abbrev pub is_pulled : PullReply → Bool
is_pulled (pulls.Ok count) = true
is_pulled reply = false

-- the label tells it
abbrev pub tells_pulled : Label → Bool
tells_pulled (labels.Pulled k reply) = is_pulled reply
tells_pulled label = false

-- a pull of the checkpoint, and where a snapshot was pulled, a put at each of these nodes in turn
abbrev pub IsPropagation : ℕ → List ℕ → List Label → Type 0
IsPropagation k nodes (labels.Pulled other reply ∷ rest) = (other ≡ k) × ArePuts k (if is_pulled reply then nodes else []) rest
IsPropagation k nodes log = ⊥
