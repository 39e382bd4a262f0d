-- Worked examples of what a world shows.
use Rattle.std.proofs.Common.{◌≡◌, List, [], ◌∷◌, pos, subst}
use Rattle.cluster_record.specs.RecordState.{RecordState}
use Rattle.replica.specs.Replicas.{Replica, opened_replica}
use Rattle.ckpt_machine.specs.Holding.{HoldsOnlyWhatStands}
use Rattle.ckpt_machine.specs.Machine.{Machine}
use Rattle.world_core.specs.declared.world.World.{World}
use Rattle.world_core.specs.Shows.{Shows}
use Rattle.ckpt_machine.proofs.RunExamples.{a_replica_of_what_is_gone_is_not_held, example_gone, sized}

pub a_world_that_keeps_it_shows_no_state : (w : World) (m : Machine) → w.cluster ≡ example_gone.cluster → w.nodes ≡ (opened_replica 1 (sized 16 1) (pos 0) ∷ []) ∷ [] → Shows w m → ⊥
a_world_that_keeps_it_shows_no_state w m record_is nodes_are shows = a_replica_of_what_is_gone_is_not_held (subst (λ (y : RecordState × List (List Replica)). HoldsOnlyWhatStands y.0 y.1) (λ i. (record_is i, nodes_are i)) shows.holds)
