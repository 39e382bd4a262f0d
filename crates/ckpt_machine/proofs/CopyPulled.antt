-- The call of a copying behind a pull: it is further at its checkpoint, with a copy of a replica in its hand.
use Rattle.std.specs.Option.{option_map}
use Rattle.std.proofs.Common.{◌≡◌, ℕ, ◌∷◌, Some, true, refl, sym, ap, subst, ◌∙◌}
use Rattle.std.proofs.lemmas.Option.{same_Some}
use Rattle.cluster_record.specs.declared.copying.Copying.{Copying}
use Rattle.cluster_record.specs.declared.copying.CopyPhase.{CopyPhase}
use Rattle.cluster_record.specs.declared.entries.Entry.{Entry}
use Rattle.cluster_record.specs.DueCopy.{CopyState, pulled_phase, with_phase}
use Rattle.cluster_record.specs.Placement.{is_all}
use Rattle.cluster_record.specs.RecordState.{entry_of}
use Rattle.cluster_record.specs.StepDone.{StepDone, counting, done_of, generation_in}
use Rattle.node_msgs.specs.declared.steps.Verb.TheVariants as verbs
use Rattle.node_msgs.specs.declared.steps.StepReply.TheVariants as words
use Rattle.ckpt_machine.specs.Dead.{is_enter}
use Rattle.ckpt_machine.specs.Drivers as drivers
use Rattle.ckpt_machine.specs.Driving.{driver_taken}
use Rattle.ckpt_machine.specs.Due.{IsDriven, count_in, driver_of}
use Rattle.ckpt_machine.specs.InHand.{IsCopiedSoFar, IsInHand, IsInPlace, IsUpdateIn}
use Rattle.ckpt_machine.specs.Invariant.{InvariantIn}
use Rattle.ckpt_machine.specs.Machine.{Machine, ReplicaState, CallState, who}
use Rattle.ckpt_machine.specs.Propagation.{copied}
use Rattle.ckpt_machine.specs.Shape.{IsOwner, IsSpread, Shape}
use Rattle.ckpt_machine.specs.Whose.{put_who}
use Rattle.ckpt_machine.proofs.CallsKept.{same_call-Some}
use Rattle.ckpt_machine.proofs.CopyFrame.{copy_keeps}
use Rattle.ckpt_machine.proofs.CopyHand.{its, its_at}

module _ (m : Machine) (shapes : ℕ → Shape) (inv : InvariantIn shapes m) (s : CallState) (c : CopyState) (held : m.in_hand (who s) ≡ Some s) (is : driver_of s ≡ drivers.Copy c) (at : Copying) (e : Entry) (some : c.copying ≡ Some at) (found : entry_of at.ckpt m.cluster.entries ≡ Some e)
    (r : ℕ) (x : ReplicaState) (there : m.replicas at.ckpt r ≡ Some x) (phase_then : CopyPhase) (phase_is : pulled_phase e.generation at.phase ≡ phase_then) where
  -- the step, as its call keeps it
  abbrev pull_done : StepDone
  pull_done = counting (count_in (m.replicas at.ckpt r)) (done_of m.cluster verbs.Pull (Some at.ckpt) (Some r) words.Ok)

  -- the call with it
  abbrev pub state_then : CallState
  state_then = record s { steps = pull_done ∷ s.steps; snapshot = option_map copied (m.replicas at.ckpt r) }

  abbrev pub copy_then : CopyState
  copy_then = record c { copying = Some (record at { phase = phase_then }) }

  pub driver_then : driver_of state_then ≡ drivers.Copy copy_then
  driver_then =
      ap (driver_taken pull_done) is
      ∙ (λ i. drivers.Copy (record c { copying = with_phase (pulled_phase (generation_in (found i))) (some i) }))
      ∙ ap (λ phase. drivers.Copy (record c { copying = Some (record at { phase = phase }) })) phase_is

  -- what is in its hand
  pub snapshot_then : state_then.snapshot ≡ Some (copied x)
  snapshot_then = ap (option_map copied) there

  abbrev pub then_machine : Machine
  then_machine = record m { in_hand = put_who m.in_hand (who s) (Some state_then) }

  -- where it is at the checkpoint, it is in place
  module _ (update_then : is_all e.attributes ≡ true → IsUpdateIn then_machine shapes state_then c.staging) (so_far : IsCopiedSoFar then_machine (shapes at.ckpt) state_then copy_then e phase_then)
      (own_slots : (j q : ℕ) (f : Entry) → entry_of j m.cluster.entries ≡ Some f → IsSpread m j (shapes j) f → (shapes j).owners q ≡ Some s.call → IsOwner m j (shapes j) s.call → IsOwner then_machine j (shapes j) s.call) where
    here_then : IsInPlace then_machine shapes state_then (drivers.Copy copy_then)
    here_then =
        let own = its m shapes inv s c held is in
        let was = its_at m shapes inv s c held is at some in
        record {
          call = own.call;
          asks = own.asks;
          node = own.node;
          within = own.within;
          at = record {
            ckpt = was.ckpt;
            kept = was.kept;
            made = was.made;
            apart = was.apart;
            declares = was.declares;
            update = λ f there all. update_then (ap (λ (y : Entry). is_all y.attributes) (same_Some e f (sym found ∙ there)) ∙ all);
            so_far = λ f there. subst (λ y. IsCopiedSoFar then_machine (shapes at.ckpt) state_then copy_then y phase_then) (same_Some e f (sym found ∙ there)) so_far;
          };
        }

    hand_then : IsInHand then_machine shapes (who s) state_then
    hand_then =
        let was = inv.hands (who s) s held in
        record {
          whose = refl;
          asker = was.asker;
          number = was.number;
          built = was.built;
          driven = was.driven;
          live = λ other. was.live (ap is_enter is);
          home = λ other. was.home (ap is_enter is);
          here = subst (IsInPlace then_machine shapes state_then) (sym driver_then) here_then;
        }

    -- so the invariant holds behind it
    pub pulled_keeps : InvariantIn shapes then_machine
    pulled_keeps = copy_keeps m shapes inv s c held is m.reserved (Some state_then) (same_call-Some s state_then refl refl) (λ z there. subst IsDriven (same_Some state_then z there) (inv.hands (who s) s held).driven) (λ j q f there making. refl) (λ j q other. refl) inv.reserves own_slots
        (λ z there. subst (IsInHand then_machine shapes (who s)) (same_Some state_then z there) hand_then)
