-- What a due step of the record asks, where the record has room for it, makes it ready.
use Rattle.std.proofs.Common.{◌≡◌, ℕ, Bool, ◌+◌, ◌-◌, ◌^◌, ◌<◌, length, cond, not, refl, ap, subst, ◌∙◌}
use Rattle.std.proofs.lemmas.Bool.{lt-leb}
use Rattle.std.specs.Prelude.{Option, Some, None, IsSomeAnd, slice_index}
use Rattle.ckpt_types.specs.declared.ais_error.AisError.TheVariants.{Exist}
use Rattle.ckpt_types.specs.declared.attributes.CreationAttributes.{CreationAttributes}
use Rattle.ckpt_types.specs.declared.calls.OpenAsk.{OpenAsk}
use Rattle.ckpt_types.specs.declared.identities.CallId.{CallId}
use Rattle.ckpt_types.specs.Limits.{checkpoints_max}
use Rattle.node_msgs.specs.declared.next.RecordStep.{RecordStep}
use Rattle.node_msgs.specs.declared.next.RecordStep.TheVariants as events
use Rattle.ckpt_machine.specs.Drivers.{Driver}
use Rattle.ckpt_machine.specs.Drivers as drivers
use Rattle.cluster_record.specs.declared.entries.Entry.{Entry}
use Rattle.cluster_record.specs.Placement.{adds}
use Rattle.cluster_record.specs.RecordState.{RecordState, entry_of, named, home_of}
use Rattle.ckpt_machine.specs.RecordReady.{CanAsk, IsRecordReady}
use Rattle.cluster_record.specs.declared.opening.OpenAnswer.TheVariants.{Opened, Made, Refused}
use Rattle.ckpt_machine.specs.Driving.{event_refusal, refusal_in}
use Rattle.ckpt_machine.specs.Facts.{FitsOpen, IsEventReady}
use Rattle.ckpt_machine.specs.Machine.{Machine, CallState}
use Rattle.cluster_record.specs.Opening.{answer_by, answer_free, answer_named, open_answer}
use Rattle.cluster_record.specs.Refusals.{plainly, all_taken}
use Rattle.cluster_record.specs.Calls.{IsClient}
use Rattle.cluster_record.specs.DueOnce as once
use Rattle.cluster_record.specs.RecordReady.{CanOpen, CanRefer, CanReferAt}
use Rattle.cluster_record.specs.LookUps.{identity_in}

-- no count of references is at its end
abbrev pub FewReferences : RecordState → Type 0
FewReferences R = (k : ℕ) (e : Entry) (c : ℕ) → entry_of k R.entries ≡ Some e → slice_index e.references c < 2 ^ 32 - 1

can_refer : (c : ℕ) (o : Option Entry) → ((e : Entry) → o ≡ Some e → slice_index e.references c < 2 ^ 32 - 1) → CanRefer c o
can_refer c None few = tt
can_refer c (Some e) few = few e refl

-- then a client can open any checkpoint
pub can_refer_at : (R : RecordState) → FewReferences R → (c : ℕ) (k : Option ℕ) → CanReferAt c R.entries k
can_refer_at R few c None = tt
can_refer_at R few c (Some k) = can_refer c (entry_of k R.entries) (λ e. few k e c)

-- an open can be asked of the record
can_ask : (call : CallId) (R : RecordState) (ask : OpenAsk) → R.last_identity < 2 ^ 32 - 1 → FewReferences R → CanOpen ask R → IsClient call.actor → CanAsk call R ask
can_ask call R ask identity few can caller = record { caller = caller; can = can; references = can_refer_at R few ask.client (identity_in (named ask.name R.entries)); identity = identity }

-- of a name that no checkpoint has one is made, where attributes are given and there is room
answer_made : (R : RecordState) (ask : OpenAsk) → length R.entries < checkpoints_max → IsSomeAnd ask.attrs (λ a. Unit {0}) → named ask.name R.entries ≡ None → open_answer R ask ≡ Made (R.last_identity + 1)
answer_made R ask few given free = ap (answer_named R ask.attrs (home_of ask.client R)) free ∙ by_attributes ask.attrs given where
  by_attributes : (a : Option CreationAttributes) → IsSomeAnd a (λ a. Unit {0}) → answer_free R a ≡ Made (R.last_identity + 1)
  by_attributes None given = absurd given
  by_attributes (Some a) given = ap (λ b. cond b (Refused (all_taken checkpoints_max)) (Made (R.last_identity + 1))) (lt-leb checkpoints_max (length R.entries) few)

-- what the record does not refuse is made
pub made_as : (e : Entry) (a : Option CreationAttributes) (opener : ℕ) (making : Option CallId) → e.making ≡ making → refusal_in (answer_by making a opener e) ≡ None → e.making ≡ None
made_as e a opener None is granted = is
made_as e a opener (Some call) is granted = absurd (cc granted)

-- one that is not refused, and has the attributes asked for where it is made, is opened
answer_opened : (m : Machine) (ask : OpenAsk) (o : Option Entry) → (let R = m.cluster in named ask.name R.entries ≡ o → refusal_in (open_answer R ask) ≡ None → IsSomeAnd o (FitsOpen m ask) → (k : ℕ) × (added : Bool) × (identity_in (named ask.name R.entries) ≡ Some k) × (open_answer R ask ≡ Opened k added))
answer_opened m ask None found granted there = absurd there
answer_opened m ask (Some e) found granted there =
    let R = m.cluster in
    let home = home_of ask.client R in
    let made : e.making ≡ None = made_as e ask.attrs home e.making refl (subst (λ o. refusal_in (answer_named R ask.attrs home o) ≡ None) found granted) in
    let added = adds e.attributes home e.complete in (
      e.identity,
      added,
      ap identity_in found,
      ap (answer_named R ask.attrs home) found ∙ ap (λ making. answer_by making ask.attrs home e) made ∙ ap (λ b. cond (not b) (Refused (plainly Exist)) (Opened e.identity added)) (there made).0,
    )

-- a step that is not refused is ready where its world has room for it
pub record_ready : (m : Machine) (s : CallState) (x : Driver) (step : RecordStep) → event_refusal m.cluster step x ≡ None → m.cluster.last_identity < 2 ^ 32 - 1 → FewReferences m.cluster → IsEventReady m s x step → IsRecordReady s.call m.cluster x step
record_ready m s (drivers.Once (once.Enter r)) events.Enter granted identity few ready = ready
record_ready m s (drivers.Open o) events.Create granted identity few ready = (can_ask s.call m.cluster o.ask identity few ready.3 ready.4, answer_made m.cluster o.ask ready.0 ready.1 ready.2)
record_ready m s (drivers.Open o) events.Open granted identity few ready = (can_ask s.call m.cluster o.ask identity few ready.1 ready.2, answer_opened m o.ask (named o.ask.name m.cluster.entries) refl granted ready.0)
record_ready m s (drivers.Open o) events.Finish granted identity few ready = ready.1
record_ready m s (drivers.Open o) events.Undo granted identity few ready = ready.1
record_ready m s (drivers.Once once.Leave) events.Leave granted identity few ready = tt
record_ready m s (drivers.Once (once.Close k)) events.Close granted identity few ready = tt
record_ready m s (drivers.Once (once.Unlink name)) events.Unlink granted identity few ready = ready
record_ready m s (drivers.Once (once.Retain k duration)) events.Retain granted identity few ready = ready
record_ready m s (drivers.Sync u) (events.Hold r) granted identity few ready = tt
record_ready m s (drivers.Sync u) (events.Activate r) granted identity few ready = tt
record_ready m s (drivers.Copy c) (events.Complete k r moment) granted identity few ready = tt
record_ready m s x step granted identity few ready = absurd ready
