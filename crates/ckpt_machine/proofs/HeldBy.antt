-- A checkpoint that a call holds: another call meets its holder, which is live.
use Rattle.std.proofs.Common.{◌≡◌, ℕ, Some, None, true, false, sym, ap, subst, ◌∙◌}
use Rattle.ckpt_types.specs.declared.identities.CallId.{CallId}
use Rattle.cluster_record.specs.declared.entries.Entry.{Entry}
use Rattle.cluster_record.specs.Calls.{same_call}
use Rattle.cluster_record.specs.RecordState.{entry_of, is_live}
use Rattle.ckpt_machine.specs.LookGuards.{OnHeldBy}
use Rattle.ckpt_machine.specs.InHand.{is_enter}
use Rattle.ckpt_machine.specs.Invariant.{IsGoodIn, InvariantIn}
use Rattle.ckpt_machine.specs.Machine.{Machine, CallState, who}
use Rattle.ckpt_machine.specs.Shape.{Shape, IsHolder, IsOnHold, IsSpread}
use Rattle.ckpt_machine.proofs.OptionLemmas.{IsSomeAnd-from}
use Rattle.ckpt_machine.specs.Whose.{same_who}
use Rattle.ckpt_machine.proofs.Whose.{other_call}

module _ (m : Machine) (shapes : ℕ → Shape) (inv : InvariantIn shapes m) (k : ℕ) (e : Entry) (found : entry_of k m.cluster.entries ≡ Some e) (made : e.making ≡ None) (by : CallId) (holds : e.hold ≡ Some by) where
  -- what is so of a checkpoint that a call holds
  pub its_hold : IsOnHold m k (shapes k) e by
  its_hold =
      let spread : IsSpread m k (shapes k) e = subst (IsGoodIn m k (shapes k) e) made (inv.entries k e found) in
      spread.held by holds

  -- the call is live
  pub holder_live : is_live m.cluster by ≡ true
  holder_live = let own = its_hold.holder in ap (is_live m.cluster) (sym own.call_is) ∙ (inv.hands (who own.state) own.state own.in_hand).live (ap is_enter own.driver_is)

  -- another call meets it
  pub held_by : (s : CallState) → m.in_hand (who s) ≡ Some s → ((own : IsHolder m k e.active by) → same_who (who own.state) (who s) ≡ false) → s.kept.ckpt ≡ Some k → (P : Entry → Type 0) → P e → OnHeldBy m s by P
  held_by s held other kept P p = (
    IsSomeAnd-from s.kept.ckpt _ k kept (IsSomeAnd-from (entry_of k m.cluster.entries) (λ e. (e.hold ≡ Some by) × P e) e found (holds, p)),
    holder_live,
    (let own = its_hold.holder in ap (λ c. same_call c s.call) (sym own.call_is) ∙ other_call m.in_hand m.pending m.next inv.calls (who own.state) (who s) own.state s own.in_hand held (other own)),
  )
