-- What a call in hand installs: a replica that is behind takes it over.
use Rattle.std.proofs.Common.{◌≡◌, ℕ, Option, Some, None, true, refl, sym, subst, ◌∙◌}
use Rattle.std.proofs.lemmas.Option.{same_Some}
use Rattle.node_msgs.specs.declared.steps.StepReply.{StepReply}
use Rattle.node_msgs.specs.declared.steps.StepReply.TheVariants as words
use Rattle.node_msgs.specs.declared.steps.Verb.TheVariants as verbs
use Rattle.cluster_record.specs.Places.{put2}
use Rattle.ckpt_machine.specs.Guards.{Row}
use Rattle.ckpt_machine.specs.ActiveGuards.{InstallOk, InstallRow}
use Rattle.ckpt_machine.specs.Machine.{Machine, ReplicaState, Snapshot, CallState}
use Rattle.ckpt_machine.specs.Propagation.{replica_from}
use Rattle.ckpt_machine.specs.After.{change_replica, with_installed, changed}
use Rattle.ckpt_machine.specs.Due.{Told}
use Rattle.ckpt_machine.proofs.Copying.{TakesOver}
use Rattle.ckpt_machine.proofs.Histories.{on_replica-there}

-- a replica on which a call installs, as its row says, takes over what the call has in hand
pub install_over : (m : Machine) (s : CallState) (k r : ℕ) (t : Told) → InstallRow m s k r t words.Ok → (x : ReplicaState) → m.replicas k r ≡ Some x → (z : Snapshot) × (s.snapshot ≡ Some z) × TakesOver m k r z x
install_over m s k r t row x there =
    let (e, y, found, at, ok) = on_replica-there m k r (InstallOk m s r t true) row in
    let here : InstallOk m s r t true e x = subst (InstallOk m s r t true e) (same_Some y x (sym at ∙ there)) ok in
    (here.pulled, here.in_hand, record { on = record { entry = e; found = found; alone = here.alone; other = here.other; there = there }; present = here.present; behind = here.behind_is })

-- what is so after an installation: what is so now, and where a replica took over what the call has in hand
pub after_install : (P : Machine → Type 0) (m : Machine) (s : CallState) (t : Told) (j q : Option ℕ) (reply : StepReply) → Row m s verbs.Install (record t { verb = verbs.Install; ckpt = j; node = q; reply = reply }) → P m
    → ((k r : ℕ) (z : Snapshot) (x : ReplicaState) → j ≡ Some k → s.snapshot ≡ Some z → TakesOver m k r z x → P (record m { replicas = put2 m.replicas k r (Some (replica_from z x)) })) → P (changed m s verbs.Install j q reply)
after_install P m s t (Some k) (Some r) words.Ok row same done = by_replica (m.replicas k r) refl
  where
    by_replica : (o : Option ReplicaState) → m.replicas k r ≡ o → P (change_replica m k r o (with_installed s.snapshot))
    by_replica None there = same
    by_replica (Some x) there =
        let (z, in_hand, over) = install_over m s k r (record t { verb = verbs.Install; ckpt = Some k; node = Some r; reply = words.Ok }) row.0.3 x there in
        subst (λ o. P (record m { replicas = put2 m.replicas k r (Some (with_installed o x)) })) (sym in_hand) (done k r z x refl in_hand over)
after_install P m s t (Some k) None words.Ok row same done = same
after_install P m s t None q words.Ok row same done = same
after_install P m s t j q reply row same done = same
