-- What a cluster is taken apart into, by client.
use Rattle.std.specs.Prelude.{ℕ, Option, Some, None}
use Rattle.ckpt_types.specs.declared.operation.Op.{Op}
use Rattle.ckpt_types.specs.declared.operation.Op.TheVariants as ops
use Rattle.cluster_record.specs.Calls.{client_of}
use Rattle.cluster_record.specs.RecordState.{RecordState, home_of}
use Rattle.client_calls.specs.TableState.{TableState}
use Rattle.client_calls.specs.declared.in_hand.InHand.{InHand}

-- the number of a client's next call
abbrev pub next_part : TableState → ℕ
next_part t = t.next

-- the node that an operation is about: the one that an Initialize names, and for any other its client's
abbrev pub node_asked : ℕ → Op → ℕ
node_asked home (ops.Client r version callbacks) = r
node_asked home op = home

-- where a client has a call in hand, the node that this is about
abbrev pub busy_at : RecordState → Option InHand → Option ℕ
busy_at R None = None
busy_at R (Some h) = Some (node_asked (home_of (client_of h.call) R) h.op)
