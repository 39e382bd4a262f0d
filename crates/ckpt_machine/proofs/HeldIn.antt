-- What is in the hand of a call that sets an active: where the call holds the checkpoint, what its active has, if it has one still; and else nothing.
use Rattle.std.proofs.Common.{◌≡◌, ◌⊎◌, inl, inr, ℕ, Option, Some, None, true, false, refl, sym, ap, subst, ◌∙◌}
use Rattle.std.specs.Option.{option_map}
use Rattle.std.specs.Prelude.{is_some}
use Rattle.std.proofs.lemmas.Option.{same_Some}
use Rattle.ckpt_types.specs.declared.identities.CallId.{CallId}
use Rattle.ckpt_types.specs.Asks.{asked}
use Rattle.ckpt_types.specs.Asks as asks
use Rattle.cluster_record.specs.declared.entries.Entry.{Entry}
use Rattle.cluster_record.specs.RecordState.{entry_of}
use Rattle.ckpt_machine.specs.ActiveGuards.{MayLead}
use Rattle.ckpt_machine.specs.InHand.{is_held_by}
use Rattle.ckpt_machine.specs.Invariant.{IsGoodIn, Invariant}
use Rattle.ckpt_machine.specs.Machine.{Machine, ReplicaState, Snapshot, CallState, who}
use Rattle.ckpt_machine.specs.Propagation.{on_node, copied}
use Rattle.ckpt_machine.specs.Shape.{IsSpread}
use Rattle.ckpt_machine.specs.Due.{driver_of}
use Rattle.ckpt_machine.proofs.OptionLemmas.{IfSome-at}
use Rattle.ckpt_machine.proofs.SyncSteps.{drives_setting}
use Rattle.ckpt_machine.proofs.Whose.{same_state}

-- what the active has is in the hand of the call
pub record CopyInHand (m : Machine) (s : CallState) (k : ℕ) (e : Entry) : Type 0 where
  pub node : ℕ
  pub source : ReplicaState
  pub active : e.active ≡ Some node
  pub there : m.replicas k node ≡ Some source
  pub in_hand : s.snapshot ≡ Some (copied source)

-- so it is, where the checkpoint has an active still
abbrev pub IsCopyOfActive : Machine → CallState → ℕ → Entry → Type 0
IsCopyOfActive m s k e = (e.active ≡ None) ⊎ CopyInHand m s k e

-- what is in its hand, by the hold on the checkpoint
abbrev pub IsHeldIn : Machine → ℕ → CallState → Entry → Option CallId → Type 0
IsHeldIn m k s e None = s.snapshot ≡ None
IsHeldIn m k s e (Some holder) = (is_some s.snapshot ≡ true) × IsCopyOfActive m s k e

-- what is copied from a node is a copy of its replica
copied_from : (m : Machine) (s : CallState) (k : ℕ) (e : Entry) (active : Option ℕ) → e.active ≡ active → is_some s.snapshot ≡ true → (is_some active ≡ true → s.snapshot ≡ option_map copied (on_node (m.replicas k) active)) → IsCopyOfActive m s k e
copied_from m s k e None none some copies = inl none
copied_from m s k e (Some q) active some copies = inr (by_replica (m.replicas k q) refl)
  where
    by_replica : (o : Option ReplicaState) → m.replicas k q ≡ o → CopyInHand m s k e
    by_replica None gone = absurd (let w : true ≡ false = sym some ∙ ap (λ o. is_some o) (copies refl) ∙ ap (λ o. is_some (option_map copied o)) gone in cc w)
    by_replica (Some y) there = record { node = q; source = y; active = active; there = there; in_hand = copies refl ∙ ap (option_map copied) there }

-- a call that may set a node as the active, as its row says, has that in its hand
pub held_in : (m : Machine) → Invariant m → (s : CallState) → m.in_hand (who s) ≡ Some s → (place : ℕ) → asked s.op ≡ asks.SetActive place → (k r : ℕ) → s.kept.ckpt ≡ Some k → (e : Entry) → entry_of k m.cluster.entries ≡ Some e → MayLead s.call r e.hold e.active → IsHeldIn m k s e e.hold
held_in m inv s held place is k r kept e found may =
    let (u, local, driver, at) = drives_setting m inv.shapes s place is (driver_of s) (inv.holds.hands (who s) s held).here in
    let there : entry_of u.ckpt m.cluster.entries ≡ Some e = ap (λ k. entry_of k m.cluster.entries) (same_Some u.ckpt k (sym at.kept ∙ kept)) ∙ found in
    let made : e.making ≡ None = IfSome-at (entry_of u.ckpt m.cluster.entries) (λ (e : Entry). e.making ≡ None) at.made.made e there in
    let spread : IsSpread m k (inv.shapes k) e = subst (IsGoodIn m k (inv.shapes k) e) made (inv.holds.entries k e found) in
    by_hold spread e.hold refl may (IfSome-at (entry_of u.ckpt m.cluster.entries) (λ (e : Entry). is_held_by s.call e.hold ≡ is_some s.snapshot) at.held e there)
  where
    by_hold : IsSpread m k (inv.shapes k) e → (o : Option CallId) → e.hold ≡ o → MayLead s.call r o e.active → is_held_by s.call e.hold ≡ is_some s.snapshot → IsHeldIn m k s e o
    by_hold spread None free may same = empty s.snapshot (sym same ∙ ap (is_held_by s.call) free)
      where
        empty : (o : Option Snapshot) → is_some o ≡ false → o ≡ None
        empty None none = refl
        empty (Some z) some = absurd (cc some)
    by_hold spread (Some holder) hold may same =
        let by = (spread.held holder hold).holder in
        let state : by.state ≡ s = same_state m.in_hand m.pending m.next inv.holds.calls by.state s by.in_hand held (by.call_is ∙ may) in
        let some : is_some s.snapshot ≡ true = subst (λ (z : CallState). is_some z.snapshot ≡ true) state by.some in
        (some, copied_from m s k e e.active refl some (λ led. subst (λ (z : CallState). z.snapshot ≡ option_map copied (on_node (m.replicas k) e.active)) state (by.copies led)))
