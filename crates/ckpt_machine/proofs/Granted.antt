-- The checkpoint of a step of the record, which is looked up once.
use Rattle.std.proofs.Common.{◌≡◌, ℕ, sym, subst, ◌∙◌}
use Rattle.std.specs.Prelude.{Option, Some, None, Result, Ok}
use Rattle.ckpt_types.specs.declared.identities.CallId.{CallId}
use Rattle.node_msgs.specs.declared.next.RecordStep.{RecordStep}
use Rattle.node_msgs.specs.declared.next.RecordStep.TheVariants as events
use Rattle.ckpt_machine.specs.Drivers.{Driver}
use Rattle.ckpt_machine.specs.Drivers as drivers
use Rattle.ckpt_machine.specs.Driving.{event_ckpt, event_refusal}
use Rattle.cluster_record.specs.Identities.{IdentitiesRise}
use Rattle.cluster_record.specs.LookUps.{identity_in}
use Rattle.cluster_record.specs.RecordReady.{CanReferAt}
use Rattle.cluster_record.specs.RecordState.{RecordState, home_of, named}
use Rattle.cluster_record.proofs.NameLaws.{named-entry}
use Rattle.cluster_record.proofs.RefusalLaws.{open_answer-made}
use Rattle.ckpt_machine.specs.RecordReady.{HasFound, IsGrantedAt, IsOpenedAs, IsRecordReady}

-- a step that is granted with a checkpoint is not refused, and is on that one
pub granted_ok : (R : RecordState) (x : Driver) (step : RecordStep) (r : Result (Option ℕ) CallId) (k : Option ℕ) → r ≡ Ok k → IsGrantedAt R x step r → (event_refusal R step x ≡ None) × (k ≡ event_ckpt R x step)
granted_ok R x step r k is granted = subst (IsGrantedAt R x step) is granted

-- the checkpoint that an open opens is the one that was found
pub has_found : (call : CallId) (R : RecordState) (x : Driver) (step : RecordStep) (k : Option ℕ) → k ≡ event_ckpt R x step → IdentitiesRise R.entries → IsRecordReady call R x step → HasFound R x step k
has_found call R (drivers.Open o) events.Open k is rises (asks, (j, added, name_is, answer_is)) =
    let found : identity_in (named o.ask.name R.entries) ≡ Some j = name_is in
    subst (IsOpenedAs R o.ask) (sym (is ∙ found)) (record {
      name = found;
      entry = named-entry o.ask.name R.entries j rises (sym found);
      made = (open_answer-made R o.ask.attrs (home_of o.ask.client R) (named o.ask.name R.entries) j added answer_is).0;
      references = subst (CanReferAt o.ask.client R.entries) found asks.references;
    })
has_found call R x step k is rises ready = tt
