use Rattle.std.proofs.Common.{◌≡◌}
use Rattle.std.specs.Prelude.{replicate}
use Rattle.shared_nodes.specs.Works.{empty_buffer}
use Rattle.shared_nodes.proofs.work.id_buffers.Given as goal

abbrev pub invariant-loop-n : goal.invariant-loop-n
invariant-loop-n l = l.buffers.items ≡ replicate l._n (empty_buffer 1 l.bytes)
