use Rattle.std.proofs.Common.{◌≡◌, refl, subst}
use Rattle.std.specs.Prelude.{[], IfOk, Ok, replicate}
use Rattle.std.specs.Prelude.{None}
use Rattle.cluster_record.specs.RecordState.{RecordState, empty_record}
use Rattle.client_calls.specs.NewTable.{new_table}
use Rattle.world_core.proofs.Openings.{is_new}
use Rattle.world_core.proofs.world.World.new.Goals as goal

pub returns : goal.returns
returns c =
    let both = c.in_ok-cluster.ensures in
    let shared = subst (λ r. IfOk r (λ pair. (c.new.result ≡ Ok pair.0) × (c.new-2.result ≡ Ok pair.1))) both.0 c.both-shared.ensures in
    let kept = subst (λ r. IfOk r (λ pair. (c.new-3.result ≡ Ok pair.0) × (c.new-4.result ≡ Ok pair.1))) both.1 c.both-kept.ensures in
    is_new _ (subst (λ r. IfOk r (λ (x : RecordState). x ≡ empty_record)) shared.0 c.new.ensures) (subst (λ r. IfOk r (λ nodes. nodes ≡ replicate 8 [])) shared.1 c.new-2.ensures) c.new-5.ensures
    (subst (λ r. IfOk r (λ tables. tables ≡ replicate 100 new_table)) kept.0 c.new-3.ensures) (subst (λ r. IfOk r (λ hands. hands.clients ≡ replicate 100 None)) kept.1 c.new-4.ensures.clients) (subst (λ r. IfOk r (λ hands. hands.alone ≡ replicate 100 [])) kept.1 c.new-4.ensures.alone) (subst (λ r. IfOk r (λ hands. hands.nodes ≡ replicate 8 None)) kept.1 c.new-4.ensures.nodes) refl
