use Rattle.std.proofs.Common.{◌≡◌, take, vec_capacity}
use Rattle.ckpt_types.specs.Limits.{iterations_max}
use Rattle.client_handles.proofs.begun.copy_of_begun.Given as goal

abbrev pub invariant-loop-it : goal.invariant-loop-it
invariant-loop-it l = record { items : l.copy.items ≡ take l.it-index l.begun; room : vec_capacity l.copy ≡ iterations_max }
