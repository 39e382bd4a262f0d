-- What the code relies on of an update's due request: its node is one of the eight and has the replica, and a commit's slot is the call's, with its own update.
use Rattle.std.proofs.Common.{◌≡◌, ℕ, ◌+◌, ◌<◌, Option, Some, None, true, false, ℤ, refl, sym, ap, subst, ◌∙◌, arith}
use Rattle.std.specs.Prelude.{IsSomeAnd, length, slice_index}
use Rattle.std.proofs.lemmas.Option.{same_Some}
use Rattle.ckpt_types.specs.declared.identities.CallId.{CallId}
use Rattle.cluster_record.specs.declared.calls.UpdatePhase.{UpdatePhase}
use Rattle.cluster_record.specs.declared.calls.UpdatePhase.TheVariants.{Staging, Committing, Claiming, Claimed, Withdrawing, Resolving}
use Rattle.cluster_record.specs.declared.entries.Entry.{Entry}
use Rattle.cluster_record.specs.DueUpdate.{UpdateState, by_phase, claim_at, commit_at, stage_at, update_led, update_next, update_on}
use Rattle.cluster_record.specs.RecordState.{entry_of}
use Rattle.cluster_record.specs.StepDone.{has, lacks, first_lacking, last_having}
use Rattle.node_msgs.specs.declared.next.Next.{Next}
use Rattle.node_msgs.specs.declared.next.Next.TheVariants.{Serve}
use Rattle.node_msgs.specs.declared.requests.Request.{Request}
use Rattle.node_msgs.specs.declared.requests.Request.TheVariants as requests
use Rattle.ckpt_machine.specs.Drivers.{Driver, update_in}
use Rattle.ckpt_machine.specs.Drivers as drivers
use Rattle.ckpt_machine.specs.Machine.{Machine, Staged, ReplicaState, CallState, who}
use Rattle.stage_slot.specs.Slots.{IsOwnedBy}
use Rattle.node_core.specs.Fitting.{IsReadyFor}
use Rattle.ckpt_machine.specs.Facts.{IsServable, HasNoSlot, IsOwnWhere, IsToCommit}
use Rattle.ckpt_machine.specs.After.{staged_moment}
use Rattle.ckpt_machine.specs.Due.{driver_of}
use Rattle.ckpt_machine.specs.Seen.{seen, seen_at, seen_slot}
use Rattle.ckpt_machine.specs.Shape.{Shape, IsCompleteOn, IsShaped, IsSpread, PhaseFits, slot_by}
use Rattle.ckpt_machine.specs.InHand.{IsUpdateIn}
use Rattle.ckpt_machine.specs.Invariant.{InvariantIn}
use Rattle.ckpt_machine.proofs.NodeLists.{first_lacking-is, last_having-is, lacked-has, had-there, index-within}
use Rattle.ckpt_machine.proofs.StagedMoment.{moment_first, moment_later}
use Rattle.ckpt_machine.proofs.Owning.{spread, owns_had, own_owner, own_phase, replica_at, seen_is}
use Rattle.ckpt_machine.proofs.OptionLemmas.{IsSomeAnd-at, IsSomeAnd-from}

-- a due stage has the moment of the slots that stand, where its replica has none
abbrev pub HasMoment : Machine → ℕ → Request → Type 0
HasMoment m r (requests.Stage call k t) = IsSomeAnd (m.replicas k r) HasNoSlot → staged_moment m k ≡ t
HasMoment m r request = Unit {0}

-- a due commit finds something staged: by a call that stages or commits, its own update
abbrev pub HasStaged : Machine → CallState → ℕ → Request → Type 0
HasStaged m s r (requests.Commit call k) = IsSomeAnd (m.replicas k r) (λ x. IsSomeAnd x.slot (IsToCommit s (driver_of s)))
HasStaged m s r request = Unit {0}

-- a due request can be served
abbrev pub IsReadyNext : Machine → CallState → Next → Type 0
IsReadyNext m s (Serve r request) = (r < 8) × IsServable m r request × HasMoment m r request × HasStaged m s r request
IsReadyNext m s next = Unit {0}

module _ (m : Machine) (shapes : ℕ → Shape) (inv : InvariantIn shapes m) (s : CallState) (u : UpdateState) (held : m.in_hand (who s) ≡ Some s) (is : update_in (driver_of s) ≡ Some u) (at : IsUpdateIn m shapes s u) where
  module _ (e : Entry) (found : entry_of u.ckpt m.cluster.entries ≡ Some e) where
    abbrev was : IsSpread m u.ckpt (shapes u.ckpt) e
    was = spread m shapes inv s u held is at e found

    within : (r : ℕ) → IsCompleteOn e r → r < 8
    within r there = subst (λ (n : ℕ). r < n) was.nodes (index-within e.complete r there)

    -- a replica with no slot is at a node where none is owned
    free_node : (r : ℕ) → IsCompleteOn e r → IsSomeAnd (m.replicas u.ckpt r) HasNoSlot → (shapes u.ckpt).owners r ≡ None
    free_node r there free =
        let (x, here, shaped) = replica_at m shapes inv s u held is at e found r there in
        let (y, also, none) = IsSomeAnd-at (m.replicas u.ckpt r) HasNoSlot free in
        by_owner ((shapes u.ckpt).owners r) refl (sym shaped.slot ∙ ap (λ (z : ReplicaState). z.slot) (same_Some x y (sym here ∙ also)) ∙ none)
      where
        by_owner : (o : Option CallId) → (shapes u.ckpt).owners r ≡ o → slot_by (shapes u.ckpt) o ≡ None → (shapes u.ckpt).owners r ≡ None
        by_owner None no_owner none = no_owner
        by_owner (Some d) owns none = absurd (cc none)

    stage_ready : (r : ℕ) (t : ℤ) → IsCompleteOn e r → ((shapes u.ckpt).owners r ≡ None → staged_moment m u.ckpt ≡ t) → IsReadyNext m s (Serve r (requests.Stage u.call u.ckpt t))
    stage_ready r t there mom =
        let (x, here, shaped) = replica_at m shapes inv s u held is at e found r there in
        (within r there, IsSomeAnd-from (seen_at m u.ckpt r) (IsReadyFor (requests.Stage u.call u.ckpt t)) (seen u.ckpt e.attributes x) (seen_is m shapes inv s u held is at e found r x here) shaped.unmarked, λ free. mom (free_node r there free), tt)

    -- at a node that it has its slot stands
    module _ (r : ℕ) (had : has (slice_index e.complete r) (slice_index u.owned r) ≡ true) where
      there_r : IsCompleteOn e r
      there_r = had-there (slice_index e.complete r) (slice_index u.owned r) had

      own_r : (x : ReplicaState) × (m.replicas u.ckpt r ≡ Some x) × IsShaped (shapes u.ckpt) (Some s.call) x
      own_r =
          let (x, here, shaped) = replica_at m shapes inv s u held is at e found r there_r in
          (x, here, subst (λ o. IsShaped (shapes u.ckpt) o x) (owns_had m shapes inv s u held is at e found r there_r had) shaped)

      owned_there : (x : ReplicaState) → IsShaped (shapes u.ckpt) (Some s.call) x → IsOwnedBy u.call (seen_slot (length x.effects) x.slot)
      owned_there x own = subst (λ z. IsOwnedBy u.call (seen_slot (length x.effects) z)) (sym own.slot) (sym at.call)

      commit_ready : IsReadyNext m s (Serve r (requests.Commit u.call u.ckpt))
      commit_ready =
          let (x, here, own) = own_r in (
            within r there_r,
            IsSomeAnd-from (seen_at m u.ckpt r) (IsReadyFor (requests.Commit u.call u.ckpt)) (seen u.ckpt e.attributes x) (seen_is m shapes inv s u held is at e found r x here) (owned_there x own),
            tt,
            IsSomeAnd-from (m.replicas u.ckpt r) (λ x. IsSomeAnd x.slot (IsToCommit s (driver_of s))) x here
                (subst (λ o. IsSomeAnd o (IsToCommit s (driver_of s))) (sym own.slot) (to_commit (driver_of s) is (own_staged u.phase owner_fits))),
          )
        where
          own_slot : Staged
          own_slot = record { owner = s.call; origin = (shapes u.ckpt).origin; update = (shapes u.ckpt).update; moment = (shapes u.ckpt).moment }

          to_commit : (d : Driver) → update_in d ≡ Some u → IsOwnWhere s u.phase own_slot → IsToCommit s d own_slot
          to_commit (drivers.Update v) does own = subst (λ (w : UpdateState). IsOwnWhere s w.phase own_slot) (sym (same_Some v u does)) own
          to_commit d does own = tt

          owner_fits : PhaseFits m (shapes u.ckpt) s u u.phase
          owner_fits = own_phase m shapes inv s u held is at e found (own_owner m shapes inv s u held is at e found r (owns_had m shapes inv s u held is at e found r there_r had))

          own_staged : (ph : UpdatePhase) → PhaseFits m (shapes u.ckpt) s u ph → IsOwnWhere s ph own_slot
          own_staged Staging fits = record { origin = fits.origin; update = fits.update }
          own_staged Committing fits = record { origin = fits.origin; update = fits.update }
          own_staged Claiming fits = tt
          own_staged Claimed fits = tt
          own_staged Withdrawing fits = tt
          own_staged Resolving fits = tt

      withdraw_ready : IsReadyNext m s (Serve r (requests.Withdraw u.call u.ckpt))
      withdraw_ready =
          let (x, here, own) = own_r in
          (within r there_r, IsSomeAnd-from (seen_at m u.ckpt r) (IsReadyFor (requests.Withdraw u.call u.ckpt)) (seen u.ckpt e.attributes x) (seen_is m shapes inv s u held is at e found r x here) (owned_there x own), tt, tt)

    claim_ready : (r : ℕ) → IsCompleteOn e r → IsReadyNext m s (Serve r (requests.Claim u.call u.ckpt u.owner))
    claim_ready r there =
        let (x, here, shaped) = replica_at m shapes inv s u held is at e found r there in
        (within r there, IsSomeAnd-from (seen_at m u.ckpt r) (IsReadyFor (requests.Claim u.call u.ckpt u.owner)) (seen u.ckpt e.attributes x) (seen_is m shapes inv s u held is at e found r x here) tt, tt, tt)

    -- it has the highest node with its slot
    had_last : (r : ℕ) → last_having 0 e.complete u.owned ≡ Some r → has (slice_index e.complete r) (slice_index u.owned r) ≡ true
    had_last r some =
        let at_r = last_having-is 0 e.complete u.owned r (at.nodes ∙ sym was.nodes) some in
        let here : r ≡ 0 + at_r.place = at_r.at in
        let same : at_r.place ≡ r = omega (arith, here) in
        subst (λ (q : ℕ). has (slice_index e.complete q) (slice_index u.owned q) ≡ true) same at_r.had

    -- and lacks the lowest without
    lacked_first : (r : ℕ) → first_lacking 0 e.complete u.owned ≡ Some r → IsCompleteOn e r × ((q : ℕ) → q < r → lacks (slice_index e.complete q) (slice_index u.owned q) ≡ false)
    lacked_first r some =
        let at_r = first_lacking-is 0 e.complete u.owned r some in
        let here : r ≡ 0 + at_r.place = at_r.at in
        let same : at_r.place ≡ r = omega (arith, here) in
        ((lacked-has (slice_index e.complete r) (slice_index u.owned r) (subst (λ (q : ℕ). lacks (slice_index e.complete q) (slice_index u.owned q) ≡ true) same at_r.lacked)).0, λ q below. at_r.others q (let k : q < r = below in omega (arith, k, same)))

    -- what it stages at once
    first_stage : (first : Option ℕ) → first_lacking 0 e.complete u.owned ≡ first → last_having 0 e.complete u.owned ≡ None → IsReadyNext m s (stage_at u m.cluster.moment first None)
    first_stage None lacked none = tt
    first_stage (Some r) lacked none = let (complete, before) = lacked_first r lacked in stage_ready r m.cluster.moment complete (moment_first m shapes inv s u held is at e found r complete before none)

    -- what it commits
    commit_last : (last : Option ℕ) → last_having 0 e.complete u.owned ≡ last → IsReadyNext m s (commit_at u last)
    commit_last None none = tt
    commit_last (Some r) some = commit_ready r (had_last r some)

    -- what it claims
    claim_first : (first last : Option ℕ) → first_lacking 0 e.complete u.owned ≡ first → last_having 0 e.complete u.owned ≡ last → IsReadyNext m s (claim_at u first last)
    claim_first None None lacked having = tt
    claim_first None (Some r) lacked having = commit_last (Some r) having
    claim_first (Some r) last lacked having = claim_ready r (lacked_first r lacked).0

    by_next : (ph : UpdatePhase) → u.phase ≡ ph → (first last : Option ℕ) → first_lacking 0 e.complete u.owned ≡ first → last_having 0 e.complete u.owned ≡ last → IsReadyNext m s (by_phase u m.cluster.moment first last ph)
    by_next Staging staging (Some r) None lacked none = first_stage (Some r) lacked none
    by_next Staging staging (Some r) (Some p) lacked some = let (complete, before) = lacked_first r lacked in stage_ready r u.moment complete (λ free. moment_later m shapes inv s u held is at e found staging p (had_last p some))
    by_next Staging staging None (Some r) lacked having = commit_last (Some r) having
    by_next Staging staging None None lacked having = tt
    by_next Committing phase first last lacked having = commit_last last having
    by_next Claiming phase first last lacked having = claim_first first last lacked having
    by_next Claimed phase first None lacked none = first_stage first lacked none
    by_next Claimed phase first (Some p) lacked some = claim_first first (Some p) lacked some
    by_next Withdrawing phase first None lacked none = first_stage first lacked none
    by_next Withdrawing phase first (Some p) lacked some = withdraw_ready p (had_last p some)
    by_next Resolving phase first None lacked none = first_stage first lacked none
    by_next Resolving phase first (Some p) lacked some = commit_last (Some p) some

  -- whatever is due of an update
  pub update_ready : IsReadyNext m s (update_next m.cluster u)
  update_ready = by_entry (entry_of u.ckpt m.cluster.entries) refl
    where
      by_active : (e : Entry) → entry_of u.ckpt m.cluster.entries ≡ Some e → (active : Option ℕ) → IsReadyNext m s (update_led u m.cluster.moment e active)
      by_active e found None = tt
      by_active e found (Some active) = by_next e found u.phase refl (first_lacking 0 e.complete u.owned) (last_having 0 e.complete u.owned) refl refl

      by_entry : (o : Option Entry) → entry_of u.ckpt m.cluster.entries ≡ o → IsReadyNext m s (update_on u m.cluster.moment o)
      by_entry None gone = tt
      by_entry (Some e) found = by_active e found e.active
