-- What the code relies on of what is due of a copying.
use Rattle.std.proofs.Common.{◌≡◌, ℕ, ◌<◌, inl, inr, Option, Some, None, is_some, Bool, true, false, cond, ◌==◌, ℤ, refl, sym, ap, subst, ◌∙◌}
use Rattle.std.specs.Prelude.{IfSome, IsSome, IsSomeAnd, slice_index}
use Rattle.std.proofs.lemmas.Bool.{eqb-true}
use Rattle.ckpt_types.specs.declared.ais_error.AisError.TheVariants.{TryAgain}
use Rattle.ckpt_types.specs.declared.answers.Cause.TheVariants.{Generations}
use Rattle.ckpt_types.specs.declared.answers.Outcome.TheVariants.{Refused}
use Rattle.cluster_record.specs.declared.copying.Copying.{Copying}
use Rattle.cluster_record.specs.declared.copying.CopyPhase.{CopyPhase}
use Rattle.cluster_record.specs.declared.copying.CopyPhase.TheVariants.{Reserved, Staging, PulledActive, PulledStaged, Committing}
use Rattle.cluster_record.specs.declared.entries.Entry.{Entry}
use Rattle.cluster_record.specs.DueCopy.{CopyState, copy_at, copy_next, copy_on, next_to_copy, onward, phase_next, pull_at, reserve_next, reserved_next, staged_next, staging_next, unless_done}
use Rattle.cluster_record.specs.DueUpdate.{all_staged}
use Rattle.cluster_record.specs.Placement.{is_all, is_collocated}
use Rattle.cluster_record.specs.RecordState.{entry_of, first_complete, is_up}
use Rattle.node_msgs.specs.declared.next.Next.{Next}
use Rattle.node_msgs.specs.declared.next.Next.TheVariants.{End, Event, Serve}
use Rattle.node_msgs.specs.declared.next.RecordStep.TheVariants as events
use Rattle.node_msgs.specs.declared.requests.Request.{Request}
use Rattle.node_msgs.specs.declared.requests.Request.TheVariants as requests
use Rattle.node_core.specs.Fitting.{IsReadyFor}
use Rattle.ckpt_machine.specs.After.{staged_moment}
use Rattle.ckpt_machine.specs.Drivers.{update_in}
use Rattle.ckpt_machine.specs.Drivers as drivers
use Rattle.ckpt_machine.specs.Due.{driver_of}
use Rattle.ckpt_machine.specs.Facts.{HasAsMany, HasCopyRoom, IsCompletable, IsReservable}
use Rattle.ckpt_machine.specs.InHand.{IsCopiedSoFar, IsCopyIn, IsCopyingAt, IsToComplete}
use Rattle.ckpt_machine.specs.Invariant.{InvariantIn, IsGoodIn}
use Rattle.ckpt_machine.specs.Machine.{Machine, CallState, who}
use Rattle.ckpt_machine.specs.Seen.{seen, seen_at, seen_by}
use Rattle.ckpt_machine.specs.Shape.{IsCompleteOn, IsShapedBy, IsSpread, Shape}
use Rattle.ckpt_machine.specs.Tables.{takes_copy}
use Rattle.ckpt_machine.proofs.ActiveBy.{active_by-complete, lowest_complete}
use Rattle.ckpt_machine.proofs.CompletingStaged.{as_many_effects, kept_moment}
use Rattle.ckpt_machine.proofs.CopiesStay.{found_identity}
use Rattle.ckpt_machine.proofs.CopyHand.{its, its_at, up_own}
use Rattle.ckpt_machine.proofs.CopyLacks.{lacks_next}
use Rattle.ckpt_machine.proofs.CopyMoves.{update_either}
use Rattle.ckpt_machine.proofs.CopyStages.{staging_ready}
use Rattle.ckpt_machine.proofs.DueReady.{IsDueReady, IsFor}
use Rattle.ckpt_machine.proofs.Lacking.{lacked_parts}
use Rattle.ckpt_machine.proofs.NodeLists.{index-within}
use Rattle.ckpt_machine.proofs.OptionLemmas.{IsSomeAnd-at, IsSomeAnd-from}
use Rattle.ckpt_machine.proofs.UpdateIn.{IsUpdateRequest, does_staging}

-- nothing else is relied on of a step of an update
for_update : (m : Machine) (s : CallState) (request : Request) → IsUpdateRequest request → IsFor m s request
for_update m s (requests.Stage call k t) of = tt
for_update m s (requests.Claim call k owner) of = tt
for_update m s (requests.Withdraw call k) of = tt
for_update m s (requests.Commit call k) of = tt
for_update m s request of = absurd of

module _ (m : Machine) (shapes : ℕ → Shape) (inv : InvariantIn shapes m) (s : CallState) (c : CopyState) (held : m.in_hand (who s) ≡ Some s) (is : driver_of s ≡ drivers.Copy c) where
  abbrev Ready : Next → Type 0
  Ready next = IsDueReady m s (drivers.Copy c) next

  own : IsCopyIn m shapes s c
  own = its m shapes inv s c held is

  up : is_up c.node m.cluster ≡ true
  up = up_own m shapes inv s c held is

  -- its node can reserve for the next checkpoint that it lacks
  onward_ready : Ready (onward m.cluster c)
  onward_ready = by_first (next_to_copy c.node m.cluster.entries) refl
    where
      by_first : (first : Option ℕ) → next_to_copy c.node m.cluster.entries ≡ first → Ready (reserve_next c.node first)
      by_first None none = tt
      by_first (Some k) next =
          let lacked = lacks_next m shapes inv c.node k next in
          let parts = lacked_parts c.node lacked.entry lacked.lacks in
          let was : IsSpread m k (shapes k) lacked.entry = subst (IsGoodIn m k (shapes k) lacked.entry) parts.made (inv.entries k lacked.entry lacked.found) in (
            own.within,
            IsSomeAnd-from (entry_of k m.cluster.entries) (IsReservable m.cluster c.node) lacked.entry lacked.found (record { up = up; awaited = inr lacked.lacks; not_complete = eqb-true (slice_index lacked.entry.complete c.node) 0 parts.none; well_formed = was.well_formed }),
            tt,
            tt,
            tt,
          )

  module _ (at : Copying) (some : c.copying ≡ Some at) (e : Entry) (found : entry_of at.ckpt m.cluster.entries ≡ Some e) where
    abbrev k : ℕ
    k = at.ckpt

    there : IsCopyingAt m shapes s c at
    there = its_at m shapes inv s c held is at some

    so_far : IsCopiedSoFar m (shapes k) s c e at.phase
    so_far = there.so_far e found

    found_staged : entry_of c.staging.ckpt m.cluster.entries ≡ Some e
    found_staged = ap (λ j. entry_of j m.cluster.entries) there.ckpt ∙ found

    was : IsSpread m k (shapes k) e
    was = subst (IsGoodIn m k (shapes k) e) (subst (λ o. IfSome o (λ (x : Entry). x.making ≡ None)) found there.made.made) (inv.entries k e found)

    next_is : copy_next m.cluster c ≡ phase_next m.cluster c k e at.phase
    next_is = ap (copy_at m.cluster c) some ∙ ap (copy_on m.cluster c at) found

    -- it has room for a copy of what the checkpoint declares
    has_copy_room : HasCopyRoom m s k
    has_copy_room = record {
      takes = ap takes_copy own.asks;
      declares = IsSomeAnd-from (entry_of k m.cluster.entries) (λ x. s.kept.declares ≡ Some x.attributes) e found (subst (λ o. IfSome o (λ (x : Entry). s.kept.declares ≡ Some x.attributes)) found there.declares);
    }

    -- a complete node can be pulled from
    pull_ready : (o : Option ℕ) → ((r : ℕ) → o ≡ Some r → IsCompleteOn e r) → Ready (pull_at c.call k o)
    pull_ready None complete = tt
    pull_ready (Some r) complete =
        let (x, here, shaped) = IsSomeAnd-at (m.replicas k r) (IsShapedBy (is_all e.attributes) (shapes k) e.active r) (was.replicas r (complete r refl)) in (
          subst (λ (size : ℕ). r < size) was.nodes (index-within e.complete r (complete r refl)),
          IsSomeAnd-from (seen_at m k r) (IsReadyFor (requests.Pull c.call k)) (seen k e.attributes x) (ap (λ o. seen_by k o (m.replicas k r)) found ∙ ap (seen_by k (Some e)) here) tt,
          tt,
          tt,
          has_copy_room,
        )

    -- a step of its update can be served
    staging_next_ready : copy_next m.cluster c ≡ staging_next m.cluster c → is_all e.attributes ≡ true → Ready (staging_next m.cluster c)
    staging_next_ready next all = elim (update_either m shapes inv s c.staging held (ap update_in is ∙ does_staging c at some) (there.update e found all) e found_staged) [
      | inl serves ↦ (
          let behind : staging_next m.cluster c ≡ Serve serves.0 serves.1 = ap (unless_done (onward m.cluster c)) serves.2 in
          let ready = staging_ready m shapes inv s c held is serves.0 serves.1 (next ∙ behind) serves.3 in
          subst Ready (sym behind) (ready.0, ready.1, ready.2, ready.3, for_update m s serves.1 serves.3))
      | inr ends ↦ subst Ready (sym (ap (unless_done (onward m.cluster c)) ends.2)) onward_ready
    ]

    -- a completion can be done
    complete_ready : IsToComplete m c.node e → IsSome s.snapshot → (moment : Option ℤ) → (is_all e.attributes ≡ true → (q : ℕ) × IsSomeAnd (m.replicas k q) (HasAsMany s.snapshot)) → moment ≡ cond (is_all e.attributes) (Some (staged_moment m k)) None → Ready (Event (events.Complete k c.node moment))
    complete_ready to_complete pulled moment counted moment_is = (
      own.within,
      has_copy_room,
      pulled,
      ap is_some (ap (λ j. m.reserved j c.node) (sym (found_identity k m.cluster.entries e found)) ∙ to_complete.reserved),
      IsSomeAnd-from (entry_of k m.cluster.entries) (IsCompletable m s k c.node moment) e found (record { own = own.node; lacks = to_complete.lacks; nodes = was.nodes; up = up; counted = counted; moment_is = moment_is }),
    )

    reserved_ready : at.phase ≡ Reserved → (b : Bool) → is_all e.attributes ≡ b → Ready (reserved_next m.cluster c k e b)
    reserved_ready phase true all = staging_next_ready (next_is ∙ ap (phase_next m.cluster c k e) phase ∙ ap (reserved_next m.cluster c k e) all) all
    reserved_ready phase false alone = pull_ready e.active (active_by-complete (is_collocated e.attributes) (is_all e.attributes) e.complete e.active was.active)

    staged_ready : at.phase ≡ Staging → (b : Bool) → all_staged m.cluster c.staging ≡ b → Ready (staged_next m.cluster c k e b)
    staged_ready phase true staged = pull_ready (first_complete 0 e.complete) (lowest_complete e.complete)
    staged_ready phase false unstaged = staging_next_ready (next_is ∙ ap (phase_next m.cluster c k e) phase ∙ ap (staged_next m.cluster c k e) unstaged) (subst (IsCopiedSoFar m (shapes k) s c e) phase so_far).1

    pulled_ready : (generation : ℕ) → at.phase ≡ PulledActive generation → (b : Bool) → Ready (cond b (Event (events.Complete k c.node None)) (End (Refused TryAgain (Generations generation e.generation))))
    pulled_ready generation phase false = tt
    pulled_ready generation phase true =
        let far = subst (IsCopiedSoFar m (shapes k) s c e) phase so_far in
        let (p, pulled, same) = IsSomeAnd-at s.snapshot (λ p. p.generation ≡ generation) far.1.pulled in
        complete_ready far.0 (ap is_some pulled) None (λ all. absurd (let w : false ≡ true = sym far.1.alone ∙ all in cc w)) (sym (ap (λ b. cond b (Some (staged_moment m k)) None) far.1.alone))

    phase_ready : (phase : CopyPhase) → at.phase ≡ phase → Ready (phase_next m.cluster c k e phase)
    phase_ready Reserved phase = reserved_ready phase (is_all e.attributes) refl
    phase_ready Staging phase = staged_ready phase (all_staged m.cluster c.staging) refl
    phase_ready (PulledActive generation) phase = pulled_ready generation phase (generation == e.generation)
    phase_ready PulledStaged phase =
        let far = subst (IsCopiedSoFar m (shapes k) s c e) phase so_far in
        let (p, pulled, same) = IsSomeAnd-at s.snapshot (λ p. (p.sections ≡ (shapes k).sections) × (p.effects ≡ (shapes k).effects)) far.1.pulled in
        complete_ready far.0 (ap is_some pulled) (Some c.staging.moment) (λ all. as_many_effects m shapes inv s c held is at some e found phase)
        (ap Some (sym (kept_moment m shapes inv s c held is at some e found phase)) ∙ sym (ap (λ b. cond b (Some (staged_moment m k)) None) far.1.all))
    phase_ready Committing phase = staging_next_ready (next_is ∙ ap (phase_next m.cluster c k e) phase) (subst (IsCopiedSoFar m (shapes k) s c e) phase so_far).0

  on_ready : (at : Copying) → c.copying ≡ Some at → (o : Option Entry) → entry_of at.ckpt m.cluster.entries ≡ o → Ready (copy_on m.cluster c at o)
  on_ready at some None gone = onward_ready
  on_ready at some (Some e) found = phase_ready at some e found at.phase refl

  -- whatever is due of a copying
  pub copy_ready : IsDueReady m s (drivers.Copy c) (copy_next m.cluster c)
  copy_ready = by_copying c.copying refl
    where
      by_copying : (o : Option Copying) → c.copying ≡ o → Ready (copy_at m.cluster c o)
      by_copying None none = onward_ready
      by_copying (Some at) some = on_ready at some (entry_of at.ckpt m.cluster.entries) refl
