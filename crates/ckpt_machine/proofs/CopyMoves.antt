-- The next step of a copying: allowed, the invariant holds after it, and the call comes nearer to its end, whatever other calls are in hand.
use Rattle.std.proofs.Common.{◌≡◌, ◌⊎◌, ℕ, inl, inr, Option, Some, None, Bool, true, false, cond, ◌==◌, refl, sym, ap, subst, ◌∙◌}
use Rattle.std.specs.Prelude.{IfSome, IsSome, is_some, slice_index}
use Rattle.std.proofs.lemmas.Bool.{eqb-true}
use Rattle.std.proofs.lemmas.Option.{same_Some}
use Rattle.ckpt_types.specs.declared.ais_error.AisError.TheVariants.{TryAgain}
use Rattle.ckpt_types.specs.declared.answers.Answer.TheVariants as answers
use Rattle.ckpt_types.specs.declared.answers.Cause.TheVariants.{Generations}
use Rattle.ckpt_types.specs.declared.answers.Outcome.TheVariants.{Done, Refused}
use Rattle.cluster_record.specs.declared.calls.UpdatePhase.{UpdatePhase}
use Rattle.cluster_record.specs.declared.calls.UpdatePhase.TheVariants as updating
use Rattle.cluster_record.specs.declared.copying.Copying.{Copying}
use Rattle.cluster_record.specs.declared.copying.CopyPhase.{CopyPhase}
use Rattle.cluster_record.specs.declared.copying.CopyPhase.TheVariants.{Reserved, Staging, PulledActive, PulledStaged, Committing}
use Rattle.cluster_record.specs.declared.entries.Entry.{Entry}
use Rattle.cluster_record.specs.DueCopy.{CopyState, copy_at, copy_next, copy_on, next_to_copy, onward, phase_next, pull_at, reserve_next, reserved_next, staged_next, staging_next, unless_done}
use Rattle.cluster_record.specs.DueUpdate.{UpdateState, all_staged, by_phase, staged_on, update_led, update_next, update_on}
use Rattle.cluster_record.specs.Placement.{is_all, is_collocated}
use Rattle.cluster_record.specs.RecordState.{complete_of, entry_of, first_complete}
use Rattle.cluster_record.specs.StepDone.{first_lacking, has, last_having}
use Rattle.node_msgs.specs.declared.next.Next.{Next}
use Rattle.node_msgs.specs.declared.next.Next.TheVariants.{End, Event, Serve}
use Rattle.node_msgs.specs.declared.next.RecordStep.TheVariants as events
use Rattle.node_msgs.specs.declared.requests.Request.{Request}
use Rattle.ckpt_machine.specs.Drivers.{update_in}
use Rattle.ckpt_machine.specs.Drivers as drivers
use Rattle.ckpt_machine.specs.Due.{IsDone, Told, driver_of}
use Rattle.ckpt_machine.specs.InHand.{IsCopiedSoFar, IsCopyingAt, IsUncommitted, IsUpdateIn}
use Rattle.ckpt_machine.specs.Invariant.{InvariantIn, IsGoodIn}
use Rattle.ckpt_machine.specs.Machine.{Machine, CallState, who}
use Rattle.ckpt_machine.specs.Shape.{IsCompleteOn, IsSpread, Shape}
use Rattle.ckpt_machine.proofs.ActiveNode.{active_of}
use Rattle.ckpt_machine.proofs.CompletingActive.{complete_goes}
use Rattle.ckpt_machine.proofs.CompletingStaged.{staged_complete_goes}
use Rattle.ckpt_machine.proofs.CopyHand.{HasNone, its_at}
use Rattle.ckpt_machine.proofs.CopyLook.{done_look, led_apart, stale_look}
use Rattle.ckpt_machine.proofs.CopyNearer.{HasNoMore, no_more-gone, no_more-had, no_more-none}
use Rattle.ckpt_machine.proofs.CopyPull.{pull_goes}
use Rattle.ckpt_machine.proofs.CopyPullStaged.{pull_staged_goes}
use Rattle.ckpt_machine.proofs.CopyReserve.{reserve_goes}
use Rattle.ckpt_machine.proofs.CopyStages.{staging_goes}
use Rattle.ckpt_machine.proofs.DueStep.{Goes}
use Rattle.ckpt_machine.proofs.Lacking.{lacked_parts}
use Rattle.ckpt_machine.proofs.NodeLists.{first_complete-some, first_lacking-None, last_having-None, not-lacked}
use Rattle.ckpt_machine.proofs.OptionLemmas.{what_is}
use Rattle.ckpt_machine.proofs.Owning.{never_unled, spread}
use Rattle.ckpt_machine.proofs.UpdateIn.{IsUpdateRequest, does_staging}

-- ---- what is next of an update

-- a step at a node, or where it has committed all that it had, an end with OK
abbrev pub IsNextOf : Next → UpdatePhase → Option ℕ → Type 0
IsNextOf next phase last =
    ((r : ℕ) × (request : Request) × (next ≡ Serve r request) × IsUpdateRequest request)
    ⊎ ((phase ≡ updating.Committing) × (last ≡ None) × (next ≡ End (Done answers.Nothing)))

module _ (m : Machine) (shapes : ℕ → Shape) (inv : InvariantIn shapes m) (s : CallState) (u : UpdateState) (held : m.in_hand (who s) ≡ Some s) (does : update_in (driver_of s) ≡ Some u) (at : IsUpdateIn m shapes s u) (e : Entry) (found : entry_of u.ckpt m.cluster.entries ≡ Some e) where
  -- some node is complete, which it lacks or has
  lacks_or_has : first_lacking 0 e.complete u.owned ≡ None → last_having 0 e.complete u.owned ≡ None → ⊥
  lacks_or_has lacks none =
      let was = spread m shapes inv s u held does at e found in
      let same = at.nodes ∙ sym was.nodes in
      let (p, there) = first_complete-some 0 e.complete was.some in
      let had : has (slice_index e.complete p) (slice_index u.owned p) ≡ true = not-lacked (slice_index e.complete p) (slice_index u.owned p) there (first_lacking-None 0 e.complete u.owned same lacks p) in
      let w : true ≡ false = sym had ∙ last_having-None 0 e.complete u.owned same none p in
      cc w

  by_phases : (phase : UpdatePhase) → u.phase ≡ phase → (first last : Option ℕ) → first_lacking 0 e.complete u.owned ≡ first → last_having 0 e.complete u.owned ≡ last → IsNextOf (by_phase u m.cluster.moment first last phase) phase last
  by_phases updating.Staging phase (Some r) last lacks having = inl (_, _, refl, tt)
  by_phases updating.Staging phase None (Some r) lacks having = inl (_, _, refl, tt)
  by_phases updating.Staging phase None None lacks none = absurd (lacks_or_has lacks none)
  by_phases updating.Committing phase first (Some r) lacks having = inl (_, _, refl, tt)
  by_phases updating.Committing phase first None lacks none = inr (refl, refl, refl)
  by_phases updating.Claiming phase (Some r) last lacks having = inl (_, _, refl, tt)
  by_phases updating.Claiming phase None (Some r) lacks having = inl (_, _, refl, tt)
  by_phases updating.Claiming phase None None lacks none = absurd (lacks_or_has lacks none)
  by_phases updating.Claimed phase (Some r) None lacks none = inl (_, _, refl, tt)
  by_phases updating.Claimed phase None None lacks none = absurd (lacks_or_has lacks none)
  by_phases updating.Claimed phase (Some r) (Some p) lacks having = inl (_, _, refl, tt)
  by_phases updating.Claimed phase None (Some p) lacks having = inl (_, _, refl, tt)
  by_phases updating.Withdrawing phase first (Some p) lacks having = inl (_, _, refl, tt)
  by_phases updating.Withdrawing phase (Some r) None lacks none = inl (_, _, refl, tt)
  by_phases updating.Withdrawing phase None None lacks none = absurd (lacks_or_has lacks none)
  by_phases updating.Resolving phase first (Some p) lacks having = inl (_, _, refl, tt)
  by_phases updating.Resolving phase (Some r) None lacks none = inl (_, _, refl, tt)
  by_phases updating.Resolving phase None None lacks none = absurd (lacks_or_has lacks none)

  pub update_either : IsNextOf (update_next m.cluster u) u.phase (last_having 0 e.complete u.owned)
  update_either = subst (λ next. IsNextOf next u.phase (last_having 0 e.complete u.owned)) (sym (ap (update_on u m.cluster.moment) found)) (by_active e.active refl)
    where
      by_active : (active : Option ℕ) → e.active ≡ active → IsNextOf (update_led u m.cluster.moment e active) u.phase (last_having 0 e.complete u.owned)
      by_active None none = absurd (never_unled m shapes inv s u held does at e found none)
      by_active (Some r) led = by_phases u.phase refl (first_lacking 0 e.complete u.owned) (last_having 0 e.complete u.owned) refl refl

-- ---- a copying

module _ (m : Machine) (shapes : ℕ → Shape) (inv : InvariantIn shapes m) (s : CallState) (c : CopyState) (held : m.in_hand (who s) ≡ Some s) (is : driver_of s ≡ drivers.Copy c) where
  -- it comes to the next checkpoint that its node lacks, or is done
  onward_goes : HasNone m shapes inv s c held is → HasNoMore m.cluster c → (t : Told) → IsDone m s (onward m.cluster c) t → Goes m s (drivers.Copy c) t
  onward_goes none no_more t done = by_first (next_to_copy c.node m.cluster.entries) refl done
    where
      by_first : (first : Option ℕ) → next_to_copy c.node m.cluster.entries ≡ first → IsDone m s (reserve_next c.node first) t → Goes m s (drivers.Copy c) t
      by_first None lacks done = subst (λ d. Goes m s d t) is (done_look m shapes inv s c held is none lacks t done)
      by_first (Some k) next done = reserve_goes m shapes inv s c held is none k next no_more t done

  module _ (at : Copying) (some : c.copying ≡ Some at) where
    there : IsCopyingAt m shapes s c at
    there = its_at m shapes inv s c held is at some

    -- at a checkpoint that is there
    module _ (e : Entry) (found : entry_of at.ckpt m.cluster.entries ≡ Some e) where
      -- how far it is there
      so_far : IsCopiedSoFar m (shapes at.ckpt) s c e at.phase
      so_far = there.so_far e found

      found_staged : entry_of c.staging.ckpt m.cluster.entries ≡ Some e
      found_staged = ap (λ k. entry_of k m.cluster.entries) there.ckpt ∙ found

      made : e.making ≡ None
      made = subst (λ o. IfSome o (λ (x : Entry). x.making ≡ None)) found there.made.made

      was : IsSpread m at.ckpt (shapes at.ckpt) e
      was = subst (IsGoodIn m at.ckpt (shapes at.ckpt) e) made (inv.entries at.ckpt e found)

      next_is : copy_next m.cluster c ≡ phase_next m.cluster c at.ckpt e at.phase
      next_is = ap (copy_at m.cluster c) some ∙ ap (copy_on m.cluster c at) found

      -- it owns nothing, where it has none of the nodes
      none_by : (is_all e.attributes ≡ true → (r : ℕ) → has (slice_index e.complete r) (slice_index c.staging.owned r) ≡ false) → HasNone m shapes inv s c held is
      none_by lacks at_too f r some_too found_too all had =
          let at_is : at ≡ at_too = same_Some at at_too (sym some ∙ some_too) in
          let e_is : e ≡ f = same_Some e f (sym found ∙ ap (λ (a : Copying). entry_of a.ckpt m.cluster.entries) at_is ∙ found_too) in
          let w : true ≡ false = sym had ∙ ap (λ (x : Entry). has (slice_index x.complete r) (slice_index c.staging.owned r)) (sym e_is) ∙ lacks (ap (λ (x : Entry). is_all x.attributes) e_is ∙ all) r in
          cc w

      -- ---- a step of its update

      update_goes : copy_next m.cluster c ≡ staging_next m.cluster c → is_all e.attributes ≡ true → (c.staging.phase ≡ updating.Committing → IsCompleteOn e c.node) → (t : Told) → IsDone m s (staging_next m.cluster c) t → Goes m s (drivers.Copy c) t
      update_goes next all joined t done = elim (update_either m shapes inv s c.staging held does staging e found_staged) [
        | inl serves ↦ (
            let behind : staging_next m.cluster c ≡ Serve serves.0 serves.1 = ap (unless_done (onward m.cluster c)) serves.2 in
            staging_goes m shapes inv s c held is serves.0 serves.1 (next ∙ behind) serves.3 t (subst (λ x. IsDone m s x t) behind done))
        | inr ends ↦ onward_goes (none_by (λ all r. last_having-None 0 e.complete c.staging.owned (staging.nodes ∙ sym was.nodes) ends.1 r)) (no_more-had m.cluster c at some e found (joined ends.0)) t
            (subst (λ x. IsDone m s x t) (ap (unless_done (onward m.cluster c)) ends.2) done)
      ]
        where
          staging : IsUpdateIn m shapes s c.staging
          staging = there.update e found all

          does : update_in (driver_of s) ≡ Some c.staging
          does = ap update_in is ∙ does_staging c at some

      -- ---- what is next, by how far it is

      never_committing : IsUncommitted c.staging.phase → c.staging.phase ≡ updating.Committing → IsCompleteOn e c.node
      never_committing before commits = absurd (subst IsUncommitted commits before)

      -- behind the reservation
      reserved_goes : at.phase ≡ Reserved → (b : Bool) → is_all e.attributes ≡ b → (t : Told) → IsDone m s (reserved_next m.cluster c at.ckpt e b) t → Goes m s (drivers.Copy c) t
      reserved_goes phase true all t done = update_goes (next_is ∙ ap (phase_next m.cluster c at.ckpt e) phase ∙ ap (reserved_next m.cluster c at.ckpt e) all) all (never_committing (subst (λ (u : UpdateState). IsUncommitted u.phase) (sym (subst (IsCopiedSoFar m (shapes at.ckpt) s c e) phase so_far).1) tt)) t done
      reserved_goes phase false alone t done = elim (active_of m shapes at.ckpt e inv there.made found) [
        | inl unled ↦ absurd (let led : IsSome e.active = led_apart (is_collocated e.attributes) (is_all e.attributes) e.complete e.active (lacked_parts c.node e (subst (IsCopiedSoFar m (shapes at.ckpt) s c e) phase so_far).0.lacks).apart alone was.active in let w : false ≡ true = ap is_some (sym unled) ∙ led in cc w)
        | inr led ↦ (
            let e_is : e ≡ led.entry = same_Some e led.entry (sym found ∙ led.found) in
            pull_goes m shapes inv s c held is at some phase led (ap (λ (x : Entry). is_all x.attributes) (sym e_is) ∙ alone) t
            (subst (λ o. IsDone m s (pull_at c.call at.ckpt o) t) (ap (λ (x : Entry). x.active) e_is ∙ led.active) done))
      ]

      -- while its update is being staged
      staged_goes : at.phase ≡ Staging → (b : Bool) → all_staged m.cluster c.staging ≡ b → (t : Told) → IsDone m s (staged_next m.cluster c at.ckpt e b) t → Goes m s (drivers.Copy c) t
      staged_goes phase true staged t done =
          let (r, lowest) = what_is (first_complete 0 e.complete) was.some in
          pull_staged_goes m shapes inv s c held is at e some found phase (ap (λ o. staged_on (complete_of o) c.staging) (sym found_staged) ∙ staged) r lowest t
          (subst (λ o. IsDone m s (pull_at c.call at.ckpt o) t) lowest done)
      staged_goes phase false unstaged t done =
          let far = subst (IsCopiedSoFar m (shapes at.ckpt) s c e) phase so_far in
          update_goes (next_is ∙ ap (phase_next m.cluster c at.ckpt e) phase ∙ ap (staged_next m.cluster c at.ckpt e) unstaged) far.1 (never_committing far.2) t done

      -- what the active had
      pulled_goes : (generation : ℕ) → at.phase ≡ PulledActive generation → (b : Bool) → (generation == e.generation) ≡ b → (t : Told) → IsDone m s (cond b (Event (events.Complete at.ckpt c.node None)) (End (Refused TryAgain (Generations generation e.generation)))) t → Goes m s (drivers.Copy c) t
      pulled_goes generation phase true same t done = complete_goes m shapes inv s c held is at some e found generation phase (eqb-true generation e.generation same) t done
      pulled_goes generation phase false other t done =
          let far = subst (IsCopiedSoFar m (shapes at.ckpt) s c e) phase so_far in
          subst (λ d. Goes m s d t) is (stale_look m shapes inv s c held is (none_by (λ all r. absurd (let w : false ≡ true = sym far.1.alone ∙ all in cc w))) at e some found generation phase other t done)

      phase_goes : (phase : CopyPhase) → at.phase ≡ phase → (t : Told) → IsDone m s (phase_next m.cluster c at.ckpt e phase) t → Goes m s (drivers.Copy c) t
      phase_goes Reserved phase t done = reserved_goes phase (is_all e.attributes) refl t done
      phase_goes Staging phase t done = staged_goes phase (all_staged m.cluster c.staging) refl t done
      phase_goes (PulledActive generation) phase t done = pulled_goes generation phase (generation == e.generation) refl t done
      phase_goes PulledStaged phase t done = staged_complete_goes m shapes inv s c held is at some e found phase t done
      phase_goes Committing phase t done =
          let far = subst (IsCopiedSoFar m (shapes at.ckpt) s c e) phase so_far in
          update_goes (next_is ∙ ap (phase_next m.cluster c at.ckpt e) phase) far.0 (λ commits. far.2) t done

    -- by whether the checkpoint is there
    on_goes : (o : Option Entry) → entry_of at.ckpt m.cluster.entries ≡ o → (t : Told) → IsDone m s (copy_on m.cluster c at o) t → Goes m s (drivers.Copy c) t
    on_goes None gone t done = onward_goes (λ at_too f r some_too found_too all had. absurd (
        let at_is : at ≡ at_too = same_Some at at_too (sym some ∙ some_too) in
        let w : None ≡ Some f = sym gone ∙ ap (λ (a : Copying). entry_of a.ckpt m.cluster.entries) at_is ∙ found_too in
        cc w)) (no_more-gone m.cluster c at some gone) t done
    on_goes (Some e) found t done = phase_goes e found at.phase refl t done

  -- THE LAW OF COPYINGS: each due step is allowed, the invariant holds after it, and the call comes nearer to its end
  pub copy_goes : (t : Told) → IsDone m s (copy_next m.cluster c) t → Goes m s (drivers.Copy c) t
  copy_goes t done = by_copying c.copying refl done
    where
      by_copying : (o : Option Copying) → c.copying ≡ o → IsDone m s (copy_at m.cluster c o) t → Goes m s (drivers.Copy c) t
      by_copying None none done = onward_goes (λ at e r some found all had. absurd (let w : None ≡ Some at = sym none ∙ some in cc w)) (no_more-none m.cluster c none) t done
      by_copying (Some at) some done = on_goes at some (entry_of at.ckpt m.cluster.entries) refl t done
