-- What an open that is making a checkpoint knows of it, and that others make others.
use Rattle.std.proofs.Common.{◌≡◌, ◌≢◌, ℕ, List, [], ◌∷◌, Option, Some, None, Bool, true, false, cond, ◌==◌, refl, sym, ap, subst, ◌∙◌}
use Rattle.std.specs.Prelude.{is_some, IsSome, IsSomeAnd, IfSome, find}
use Rattle.std.proofs.lemmas.Bool.{eqb-true}
use Rattle.std.proofs.lemmas.Option.{same_Some}
use Rattle.ckpt_types.specs.declared.identities.CallId.{CallId}
use Rattle.cluster_record.specs.declared.calls.Making.{Making}
use Rattle.cluster_record.specs.declared.entries.Entry.{Entry}
use Rattle.cluster_record.specs.DueOpen.{OpenState, making_ckpt}
use Rattle.cluster_record.specs.LookUps.{identity_in}
use Rattle.cluster_record.specs.Makings.{is_by, making_of}
use Rattle.cluster_record.specs.Identities.{IdentitiesRise}
use Rattle.cluster_record.specs.RecordState.{RecordState, entry_of}
use Rattle.cluster_record.proofs.IdentityLaws.{entry_of-find}
use Rattle.ckpt_machine.specs.Drivers.{Driver}
use Rattle.ckpt_machine.specs.Drivers as drivers
use Rattle.ckpt_machine.specs.Driving.{making_in}
use Rattle.ckpt_machine.specs.Entries.{IsMakingEntry}
use Rattle.ckpt_machine.specs.InHand.{IsMakingIn, IsInPlace, IsOpenIn}
use Rattle.ckpt_machine.specs.Invariant.{IsMaker, IsGoodIn, InvariantIn}
use Rattle.ckpt_machine.specs.Machine.{Machine, CallState, who}
use Rattle.ckpt_machine.specs.Due.{driver_of}
use Rattle.ckpt_machine.specs.OpenGuards.{IsMadeBy}
use Rattle.ckpt_machine.specs.Shape.{Shape, IsOwner, IsMarker, IsHolder}
use Rattle.weak_marks.specs.Marks.{Marked}
use Rattle.ckpt_machine.proofs.Actors.{same_call-refl, same_call-true}
use Rattle.ckpt_machine.specs.Whose.{same_who}
use Rattle.ckpt_machine.proofs.Whose.{one_state, same_state, apart_states}
use Rattle.ckpt_machine.proofs.OptionLemmas.{IsSomeAnd-at, IsSomeAnd-from}
use Rattle.ckpt_machine.proofs.UpdateIn.{open_apart}

module _ (m : Machine) (s : CallState) (o : OpenState) (held : m.in_hand (who s) ≡ Some s) (is : driver_of s ≡ drivers.Open o) where
  -- who owns a slot is another call, since an open does no update
  pub owner_apart : (j : ℕ) (sh : Shape) (d : CallId) (own : IsOwner m j sh d) → same_who (who own.state) (who s) ≡ false
  owner_apart j sh d own = apart_states m.in_hand own.state s own.in_hand held (λ state.
      open_apart (driver_of own.state) own.driver o own.driver_is (ap driver_of state ∙ is))

  -- so is whose marks stand, since a weak write is no open
  pub marker_apart : (j : ℕ) (marks : Marked) (own : IsMarker m j marks) → same_who (who own.state) (who s) ≡ false
  marker_apart j marks own = apart_states m.in_hand own.state s own.in_hand held (λ state.
      let apart : drivers.Active own.driver ≡ drivers.Open o = sym own.driver_is ∙ ap driver_of state ∙ is in
      cc apart)

  -- so is whose hold it is, since the setting of an active is no open
  pub holder_apart : (j : ℕ) (active : Option ℕ) (d : CallId) (own : IsHolder m j active d) → same_who (who own.state) (who s) ≡ false
  holder_apart j active d own = apart_states m.in_hand own.state s own.in_hand held (λ state.
      let apart : drivers.Sync own.driver ≡ drivers.Open o = sym own.driver_is ∙ ap driver_of state ∙ is in
      cc apart)

  module _ (making : Making) (makes : o.making ≡ Some making) where
    -- the maker of a checkpoint that is in hand under the same name is the call, and makes the one that the call makes
    pub maker_same : (j : ℕ) (d : CallId) (own : IsMaker m j d) → who own.state ≡ who s → j ≡ making.ckpt
    maker_same j d own name =
        let state : own.state ≡ s = one_state m.in_hand (who own.state) (who s) own.state s own.in_hand held name in
        let drivers_same : drivers.Open own.driver ≡ drivers.Open o = sym own.driver_is ∙ ap driver_of state ∙ is in
        let driver : own.driver ≡ o = cc drivers_same in
        let both : Some own.making ≡ Some making = sym own.making_is ∙ ap (λ (x : OpenState). x.making) driver ∙ makes in
        sym own.ckpt ∙ ap (λ (x : Making). x.ckpt) (same_Some own.making making both)

-- where its steps have led it
pub open_at : (m : Machine) (shapes : ℕ → Shape) (inv : InvariantIn shapes m) (s : CallState) (o : OpenState) → m.in_hand (who s) ≡ Some s → driver_of s ≡ drivers.Open o → IsOpenIn m s o
open_at m shapes inv s o held is = subst (λ d. IsInPlace m shapes s d) is (inv.hands (who s) s held).here

-- ---- what a call is making, by the record and by its own steps

-- what passes a test among the entries is found by it
finds : (p : Entry → Bool) (k : ℕ) (entries : List Entry) (e : Entry) → entry_of k entries ≡ Some e → p e ≡ true → (found : Entry) × (find p entries ≡ Some found)
finds p k [] e there passes = absurd (cc there)
finds p k (x ∷ xs) e there passes =
    elim (p x) as (λ b. p x ≡ b → (found : Entry) × (cond b (Some x) (find p xs) ≡ Some found)) [
      | true ↦ λ is. (x, refl)
      | false ↦ λ is. elim (x.identity == k) as (λ b. cond b (Some x) (entry_of k xs) ≡ Some e → (found : Entry) × (find p xs ≡ Some found)) [
        | true ↦ λ here. absurd (let w : true ≡ false = sym passes ∙ ap p (sym (same_Some x e here)) ∙ is in cc w)
        | false ↦ λ behind. finds p k xs e behind passes
      ] there
    ] refl

-- what is found passes the test
pub found_passes : (p : Entry → Bool) (entries : List Entry) (e : Entry) → find p entries ≡ Some e → p e ≡ true
found_passes p [] e found = absurd (cc found)
found_passes p (x ∷ xs) e found =
    elim (p x) as (λ b. p x ≡ b → cond b (Some x) (find p xs) ≡ Some e → p e ≡ true) [
      | true ↦ λ is here. ap p (sym (same_Some x e here)) ∙ is
      | false ↦ λ is behind. found_passes p xs e behind
    ] refl found

-- what is tested to be in the making by a call is
pub is_by-true : (call : CallId) (maker : Option CallId) → is_by call maker ≡ true → maker ≡ Some call
is_by-true call None is = absurd (cc is)
is_by-true call (Some maker) is = ap Some (same_call-true maker call is)

-- what a call is making by the record is there, in the making by it
pub making_there : (R : RecordState) → IdentitiesRise R.entries → (call : CallId) (k : ℕ) → making_of call R ≡ Some k → IsSomeAnd (entry_of k R.entries) (λ e. e.making ≡ Some call)
making_there R rises call k by = by_entry (find (λ e. is_by call e.making) R.entries) refl
  where
    by_entry : (o : Option Entry) → find (λ e. is_by call e.making) R.entries ≡ o → IsSomeAnd (entry_of k R.entries) (λ e. e.making ≡ Some call)
    by_entry None none = absurd (let w : None ≡ Some k = ap identity_in (sym none) ∙ by in cc w)
    by_entry (Some e) found =
        let identity : e.identity ≡ k = same_Some e.identity k (ap identity_in (sym found) ∙ by) in
        IsSomeAnd-from (entry_of k R.entries) (λ e. e.making ≡ Some call) e (ap (λ j. entry_of j R.entries) (sym identity) ∙ entry_of-find (λ e. is_by call e.making) R.entries e rises found)
        (is_by-true call e.making (found_passes (λ e. is_by call e.making) R.entries e found))

module _ (m : Machine) (shapes : ℕ → Shape) (inv : InvariantIn shapes m) (s : CallState) (held : m.in_hand (who s) ≡ Some s) where
  -- what is in the making by the call is what its steps say that it makes
  made_by_steps : (k : ℕ) → IsMadeBy m s.call k → making_in (driver_of s) ≡ Some k
  made_by_steps k by =
      let (e, there, maker_is) = IsSomeAnd-at (entry_of k m.cluster.entries) (λ e. e.making ≡ Some s.call) (making_there m.cluster inv.rises s.call k by) in
      let good : IsGoodIn m k (shapes k) e (Some s.call) = subst (IsGoodIn m k (shapes k) e) maker_is (inv.entries k e there) in
      let maker : IsMaker m k s.call = good.1 in
      let state : s ≡ maker.state = same_state m.in_hand m.pending m.next inv.calls s maker.state held maker.in_hand (sym maker.call_is) in
      ap (λ (x : CallState). making_in (driver_of x)) state ∙ ap making_in maker.driver_is ∙ ap making_ckpt maker.making_is ∙ ap Some maker.ckpt

  -- what its steps say that it makes is in the making by it
  making_found : (d : Driver) (k : ℕ) → IsInPlace m shapes s d → making_in d ≡ Some k → IsSome (making_of s.call m.cluster)
  making_found (drivers.Once x) k at is = absurd (cc is)
  making_found (drivers.Open o) k at is = by_making o.making at.making is where
    by_making : (making : Option Making) → IfSome making (IsMakingIn m s) → making_ckpt making ≡ Some k → IsSome (making_of s.call m.cluster)
    by_making None at is = absurd (cc is)
    by_making (Some making) at is =
        let (e, there, by) = IsSomeAnd-at (entry_of making.ckpt m.cluster.entries) (λ e. e.making ≡ Some s.call) at.there in
        let (found, found_is) = finds (λ e. is_by s.call e.making) making.ckpt m.cluster.entries e there (ap (is_by s.call) by ∙ same_call-refl s.call) in
        ap (λ o. is_some (identity_in o)) found_is
  making_found (drivers.Update u) k at is = absurd (cc is)
  making_found (drivers.Active a) k at is = absurd (cc is)
  making_found (drivers.Sync u) k at is = absurd (cc is)
  making_found (drivers.Copy c) k at is = absurd (cc is)

  -- what a call is making by the record is what it is making by its own steps
  pub making_is : making_of s.call m.cluster ≡ making_in (driver_of s)
  making_is = by_record (making_of s.call m.cluster) refl
    where
      by_steps : making_of s.call m.cluster ≡ None → (k : Option ℕ) → making_in (driver_of s) ≡ k → making_in (driver_of s) ≡ None
      by_steps none None is = is
      by_steps none (Some k) is = absurd (let w : false ≡ true = sym (ap is_some none) ∙ making_found (driver_of s) k (inv.hands (who s) s held).here is in cc w)

      by_record : (o : Option ℕ) → making_of s.call m.cluster ≡ o → making_of s.call m.cluster ≡ making_in (driver_of s)
      by_record None none = none ∙ sym (by_steps none (making_in (driver_of s)) refl)
      by_record (Some k) by = by ∙ sym (made_by_steps k by)

module _ (m : Machine) (shapes : ℕ → Shape) (inv : InvariantIn shapes m) (s : CallState) (o : OpenState) (making : Making) (held : m.in_hand (who s) ≡ Some s) (is : driver_of s ≡ drivers.Open o) (makes : o.making ≡ Some making) where
  -- how far the making is
  pub making_at : IsMakingIn m s making
  making_at = subst (λ w. IfSome w (IsMakingIn m s)) makes (open_at m shapes inv s o held is).making

  -- its checkpoint is in the making by it
  pub made_by : IsMadeBy m s.call making.ckpt
  made_by = making_is m shapes inv s held ∙ ap making_in is ∙ ap making_ckpt makes

  -- the entry, as it was created
  pub making_entry : (e : Entry) × (entry_of making.ckpt m.cluster.entries ≡ Some e) × (e.making ≡ Some s.call) × IsMakingEntry e
  making_entry =
      let (e, found, by) = IsSomeAnd-at (entry_of making.ckpt m.cluster.entries) (λ e. e.making ≡ Some s.call) making_at.there in
      let good : IsGoodIn m making.ckpt (shapes making.ckpt) e (Some s.call) = subst (IsGoodIn m making.ckpt (shapes making.ckpt) e) by (inv.entries making.ckpt e found) in
      (e, found, by, good.0)

  -- an entry that is in the making by another call is of another checkpoint
  pub entry_apart : (j : ℕ) (e : Entry) (d : CallId) → entry_of j m.cluster.entries ≡ Some e → e.making ≡ Some d → d ≢ s.call → (j == making.ckpt) ≡ false
  entry_apart j e d found by other = by_test (j == making.ckpt) refl
    where
      by_test : (b : Bool) → (j == making.ckpt) ≡ b → (j == making.ckpt) ≡ false
      by_test false apart = apart
      by_test true same =
          let own = making_entry in
          let entries_same : e ≡ own.0 = same_Some e own.0 (sym found ∙ ap (λ n. entry_of n m.cluster.entries) (eqb-true j making.ckpt same) ∙ own.1) in
          let calls : Some d ≡ Some s.call = sym by ∙ ap (λ (x : Entry). x.making) entries_same ∙ own.2 in
          absurd (other (same_Some d s.call calls))

  -- what another call makes is another checkpoint
  pub not_own : (z : CallState) → z.call ≢ s.call → (x : Making) → IsMakingIn m z x → (x.ckpt == making.ckpt) ≡ false
  not_own z other x at =
      let (e, found, by) = IsSomeAnd-at (entry_of x.ckpt m.cluster.entries) (λ e. e.making ≡ Some z.call) at.there in
      entry_apart x.ckpt e z.call found by other
