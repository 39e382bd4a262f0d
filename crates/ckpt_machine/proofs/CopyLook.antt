-- The looks that end a copying: its node lacks nothing more, or what it has pulled is of another generation than its checkpoint.
use Rattle.std.proofs.Common.{◌≡◌, ℕ, List, Option, Some, None, Bool, true, false, cond, ◌==◌, refl, sym, ap, subst, ◌∙◌}
use Rattle.std.specs.Prelude.{IsSome, is_none}
use Rattle.ckpt_types.specs.declared.ais_error.AisError.TheVariants.{TryAgain}
use Rattle.ckpt_types.specs.declared.answers.Answer.TheVariants as answers
use Rattle.ckpt_types.specs.declared.answers.Cause.TheVariants.{Generations}
use Rattle.ckpt_types.specs.declared.answers.Outcome.TheVariants.{Done, Refused}
use Rattle.ckpt_types.specs.declared.identities.Who.{Who}
use Rattle.ckpt_types.specs.Asks.{Ask, asked, is_async_ask, update_asked}
use Rattle.cluster_record.specs.declared.copying.Copying.{Copying}
use Rattle.cluster_record.specs.declared.copying.CopyPhase.TheVariants.{PulledActive}
use Rattle.cluster_record.specs.declared.entries.Entry.{Entry}
use Rattle.cluster_record.specs.DueCopy.{CopyState, next_to_copy, node_of}
use Rattle.cluster_record.specs.Placement.{is_all, is_collocated}
use Rattle.cluster_record.specs.RecordState.{entry_of}
use Rattle.node_msgs.specs.declared.next.Next.TheVariants.{End}
use Rattle.node_core.specs.Serving.{update_answer}
use Rattle.ckpt_machine.specs.After.{goes_with}
use Rattle.ckpt_machine.specs.CopyGuards.{lacks_none}
use Rattle.ckpt_machine.specs.Drivers as drivers
use Rattle.ckpt_machine.specs.Driving.{making_in}
use Rattle.ckpt_machine.specs.Due.{IsDone, Told, driver_of}
use Rattle.ckpt_machine.specs.InHand.{IsCopiedSoFar, IsCopyIn, IsCopyingAt}
use Rattle.ckpt_machine.specs.Invariant.{InvariantIn, IsGoodIn}
use Rattle.ckpt_machine.specs.LookGuards.{LookDone, LookRefused, OnLed}
use Rattle.ckpt_machine.specs.Machine.{Machine, CallState, who}
use Rattle.ckpt_machine.specs.Shape.{IsActiveBy, IsSpread, Shape}
use Rattle.ckpt_machine.specs.Tables.{handle_closed}
use Rattle.ckpt_machine.proofs.Closing.{closing_ends, goes}
use Rattle.ckpt_machine.proofs.CopyFrame.{copy_ends}
use Rattle.ckpt_machine.proofs.CopyHand.{HasNone, its, its_at, no_slot}
use Rattle.ckpt_machine.proofs.Lacking.{lacked_parts}
use Rattle.ckpt_machine.proofs.DroppedCalls.{without_those}
use Rattle.ckpt_machine.proofs.DueStep.{Goes}
use Rattle.ckpt_machine.proofs.OptionLemmas.{IsSomeAnd-from}
use Rattle.ckpt_machine.proofs.PlainCalls.{ending, look_ends}

-- of a checkpoint that is not collocated some node is the active, where updates go to it alone
pub led_apart : (collocated all : Bool) (complete : List ℕ) (active : Option ℕ) → collocated ≡ false → all ≡ false → IsActiveBy collocated all complete active → IsSome active
led_apart true all complete active apart alone led = absurd (cc apart)
led_apart false true complete active apart alone led = absurd (cc alone)
led_apart false false complete None apart alone led = absurd led
led_apart false false complete (Some r) apart alone led = refl

module _ (m : Machine) (shapes : ℕ → Shape) (inv : InvariantIn shapes m) (s : CallState) (c : CopyState) (held : m.in_hand (who s) ≡ Some s) (is : driver_of s ≡ drivers.Copy c) (none : HasNone m shapes inv s c held is) where
  own : IsCopyIn m shapes s c
  own = its m shapes inv s c held is

  -- ---- it is done

  -- no synchronisation goes with it, as it ends no handle
  none_goes : (w : Who) → goes s m w ≡ false
  none_goes w = ap (λ a. goes_with (handle_closed a (m.tables s.call.actor)) s.call.actor (m.pending s.call.actor) w) own.asks

  nothing_gone : without_those (goes s m) m ≡ m
  nothing_gone = λ i. record m { in_hand = λ w. cond (none_goes w i) None (m.in_hand w) }

  -- its update answers nothing
  answers_nothing : update_answer (update_asked (asked s.op)) ≡ answers.Nothing
  answers_nothing = ap (λ a. update_answer (update_asked a)) own.asks

  -- where its node lacks none, it is answered OK
  pub done_look : next_to_copy c.node m.cluster.entries ≡ None → (t : Told) → IsDone m s (End (Done answers.Nothing)) t → Goes m s (driver_of s) t
  done_look lacks t done = subst (Goes m s (driver_of s)) (sym done) (record {
    row = (
      refl,
      refl,
      subst (λ answer. LookDone m s (asked s.op) answer) (sym answers_nothing) (subst (λ (a : Ask). LookDone m s a answers.Nothing) (sym own.asks) (
        ap (λ a. lacks_none m.cluster (node_of a)) own.node ∙ ap (λ o. is_none o) lacks,
        λ k r x there. no_slot m shapes inv s c held is none k r x there,
      )),
      refl,
    );
    holds = record {
      shapes = shapes;
      holds = closing_ends s m shapes inv held (ap is_async_ask own.asks) m.cluster m.replicas m.reserved m.snapshots (subst (λ n. InvariantIn shapes (ending s n)) (sym nothing_gone) (copy_ends m shapes inv s c held is none));
    };
    nearer = λ goes_on. absurd (cc goes_on);
  })

  -- ---- what it has pulled is of another generation

  module _ (at : Copying) (e : Entry) (some : c.copying ≡ Some at) (found : entry_of at.ckpt m.cluster.entries ≡ Some e) (generation : ℕ) (phase : at.phase ≡ PulledActive generation) where
    there : IsCopyingAt m shapes s c at
    there = its_at m shapes inv s c held is at some

    pulled : IsCopiedSoFar m (shapes at.ckpt) s c e (PulledActive generation)
    pulled = subst (IsCopiedSoFar m (shapes at.ckpt) s c e) phase (there.so_far e found)

    spread : IsSpread m at.ckpt (shapes at.ckpt) e
    spread = subst (IsGoodIn m at.ckpt (shapes at.ckpt) e) (lacked_parts c.node e pulled.0.lacks).made (inv.entries at.ckpt e found)

    led : IsSome e.active
    led = led_apart (is_collocated e.attributes) (is_all e.attributes) e.complete e.active (lacked_parts c.node e pulled.0.lacks).apart pulled.1.alone spread.active

    -- it is to try again
    pub stale_look : (generation == e.generation) ≡ false → (t : Told) → IsDone m s (End (Refused TryAgain (Generations generation e.generation))) t → Goes m s (driver_of s) t
    stale_look other t done = look_ends m shapes inv s held TryAgain (Generations generation e.generation) t
        (subst (λ (a : Ask). LookRefused m s a TryAgain (Generations generation e.generation)) (sym own.asks) (
          subst (λ o. OnLed m o (λ e'. (is_all e'.attributes ≡ false) × (e'.generation ≡ e.generation))) (sym there.kept)
              (IsSomeAnd-from (entry_of at.ckpt m.cluster.entries) (λ e'. IsSome e'.active × ((is_all e'.attributes ≡ false) × (e'.generation ≡ e.generation))) e found (led, (pulled.1.alone, refl))),
          pulled.1.pulled,
          other,
        ))
        (ap making_in is) (copy_ends m shapes inv s c held is none) done
