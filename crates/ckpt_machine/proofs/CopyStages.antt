-- A copying at a checkpoint whose updates are on all replicas: each due step of the update that it does there is allowed, the invariant holds after it, and the copying comes
-- nearer to its end.
use Rattle.std.proofs.Common.{◌≡◌, ◌≢◌, ℕ, ◌+◌, ◌<◌, ◌≤◌, ◌==◌, inl, inr, length, Option, Some, None, is_some, Bool, true, false, not, ◌&&◌, cond, ℤ, refl, sym, ap, subst, ◌∙◌, arith}
use Rattle.std.specs.Prelude.{IfSome, is_none, slice_index}
use Rattle.std.proofs.lemmas.Option.{same_Some}
use Rattle.ckpt_types.specs.declared.answers.Answer.TheVariants as answers
use Rattle.ckpt_types.specs.declared.ais_error.AisError.TheVariants.{TryAgain}
use Rattle.ckpt_types.specs.declared.answers.Cause.TheVariants.{Generations}
use Rattle.ckpt_types.specs.declared.answers.Outcome.TheVariants.{Done, Refused}
use Rattle.ckpt_types.specs.declared.identities.CallId.{CallId}
use Rattle.ckpt_types.specs.declared.identities.Who.{Who}
use Rattle.ckpt_types.specs.declared.update.Update.TheVariants as updates_of
use Rattle.ckpt_types.specs.Asks.{asked, update_of, update_asked}
use Rattle.cluster_record.specs.declared.calls.UpdatePhase.{UpdatePhase}
use Rattle.cluster_record.specs.declared.calls.UpdatePhase.TheVariants as updating
use Rattle.cluster_record.specs.declared.copying.Copying.{Copying}
use Rattle.cluster_record.specs.declared.copying.CopyPhase.{CopyPhase}
use Rattle.cluster_record.specs.declared.copying.CopyPhase.TheVariants.{Reserved, Staging, PulledActive, PulledStaged, Committing}
use Rattle.cluster_record.specs.declared.entries.Entry.{Entry}
use Rattle.cluster_record.specs.DueCopy.{CopyState, copy_at, copy_next, copy_on, done_by, next_to_copy, node_of, onward, phase_next, pull_at, reserve_next, reserved_next, staged_next, staging_phase, unless_done, with_phase}
use Rattle.cluster_record.specs.DueUpdate.{UpdateState, all_staged, by_phase, claim_at, commit_at, commit_first, stage_at, staged_by, staged_on, update_begun, update_led, update_next, update_on, update_taken}
use Rattle.cluster_record.specs.Placement.{is_all, is_collocated}
use Rattle.cluster_record.specs.RecordState.{RecordState, complete_of, entry_of, no_nodes}
use Rattle.cluster_record.specs.StepDone.{StepDone, first_lacking, has, last_having}
use Rattle.cluster_record.proofs.CopyStaging.{staging_told}
use Rattle.node_msgs.specs.declared.next.Next.{Next}
use Rattle.node_msgs.specs.declared.next.Next.TheVariants.{Serve, Event, End}
use Rattle.node_msgs.specs.declared.next.RecordStep.TheVariants as events
use Rattle.node_msgs.specs.declared.requests.Request.{Request}
use Rattle.node_core.specs.Serving.{update_answer}
use Rattle.ckpt_machine.specs.CopyGuards.{copies_to, lacks_none}
use Rattle.ckpt_machine.specs.Drivers.{update_in}
use Rattle.ckpt_machine.specs.Drivers as drivers
use Rattle.ckpt_machine.specs.Driving.{Kept, done_end, driver_taken}
use Rattle.ckpt_machine.specs.Due.{Told, IsDone, IsServed, driver_of}
use Rattle.ckpt_machine.specs.InHand.{IsCopiedSoFar, IsCopyIn, IsCopyingAt, IsInPlace, IsToCommit, IsToComplete, IsUncommitted, IsUpdateIn}
use Rattle.ckpt_machine.specs.Invariant.{InvariantIn}
use Rattle.ckpt_machine.specs.Left.{having, lacked_besides, steps_left, update_left}
use Rattle.ckpt_machine.specs.Machine.{Machine, ReplicaState, CallState, who}
use Rattle.ckpt_machine.specs.Shape.{Shape, IsCompleteOn}
use Rattle.ckpt_machine.proofs.BehindStep.{IsBehind, IsOwnCommit, StepsAs, StepsSo, driver_behind, has-zero}
use Rattle.ckpt_machine.proofs.CopyHand.{its, its_at}
use Rattle.ckpt_machine.proofs.CopyLeft.{besides_had, lacked_at, some_lacked}
use Rattle.ckpt_machine.proofs.CopyNearer.{IsBeforePull, commit_nearer, staging_nearer}
use Rattle.ckpt_machine.proofs.DueStep.{Goes}
use Rattle.ckpt_machine.proofs.NodeLists.{last_having-is}
use Rattle.ckpt_machine.proofs.Owning.{never_unled, spread}
use Rattle.ckpt_machine.proofs.StepsLeft.{having-some}
use Rattle.ckpt_machine.proofs.UpdateIn.{IsUpdateRequest, IsUpdateVerb, copy_staging, does_staging, of_staging}
use Rattle.ckpt_machine.proofs.UpdateMoves.{MovesAt, by_next}
use Rattle.ckpt_machine.proofs.UpdateReady.{IsReadyNext, update_ready}
use Rattle.ckpt_machine.proofs.UpdatesBy.{GoesByUpdate, commits_as}
use Rattle.cluster_record.proofs.CopyStaging.{next-staging}
use Rattle.ckpt_types.proofs.Lists.{slice_index-replicate}

-- ---- where a copying is that is to do a step of its update

-- what is next is a step of an update
abbrev ServesUpdate : Next → Type 0
ServesUpdate (Serve r request) = IsUpdateRequest request
ServesUpdate next = ⊥

-- so far it is at the checkpoint then: its update is to be staged, is not staged on all, or is being committed
abbrev IsStep : RecordState → CopyState → Entry → CopyPhase → Type 0
IsStep R c e Reserved = is_all e.attributes ≡ true
IsStep R c e Staging = all_staged R c.staging ≡ false
IsStep R c e Committing = Unit {0}
IsStep R c e phase = ⊥

-- it is at a checkpoint that is there, so far
pub record IsStagingStep (R : RecordState) (c : CopyState) : Type 0 where
  pub at : Copying
  pub some : c.copying ≡ Some at
  pub entry_there : Entry
  pub found : entry_of at.ckpt R.entries ≡ Some entry_there
  pub phase : IsStep R c entry_there at.phase

never_onward : (r : ℕ) (first : Option ℕ) → ServesUpdate (reserve_next r first) → ⊥
never_onward r None serves = serves
never_onward r (Some k) serves = serves

never_pull : (call : CallId) (k : ℕ) (r : Option ℕ) → ServesUpdate (pull_at call k r) → ⊥
never_pull call k None serves = serves
never_pull call k (Some r) serves = serves

phase_is : (R : RecordState) (c : CopyState) (k : ℕ) (e : Entry) (phase : CopyPhase) → ServesUpdate (phase_next R c k e phase) → IsStep R c e phase
phase_is R c k e Reserved serves = by_all (is_all e.attributes) serves
  where
    by_all : (b : Bool) → ServesUpdate (reserved_next R c k e b) → b ≡ true
    by_all true serves = refl
    by_all false serves = absurd (never_pull c.call k e.active serves)
phase_is R c k e Staging serves = by_staged (all_staged R c.staging) serves
  where
    by_staged : (b : Bool) → ServesUpdate (staged_next R c k e b) → b ≡ false
    by_staged true serves = absurd (never_pull c.call k _ serves)
    by_staged false serves = refl
phase_is R c k e (PulledActive generation) serves = absurd (by_same (generation == e.generation) serves)
  where
    by_same : (b : Bool) → ServesUpdate (cond b (Event (events.Complete k c.node None)) (End (Refused TryAgain (Generations generation e.generation)))) → ⊥
    by_same true serves = serves
    by_same false serves = serves
phase_is R c k e PulledStaged serves = absurd serves
phase_is R c k e Committing serves = tt

staging_step : (R : RecordState) (c : CopyState) → ServesUpdate (copy_next R c) → IsStagingStep R c
staging_step R c = by_copying c.copying refl
  where
    by_entry : (at : Copying) → c.copying ≡ Some at → (o : Option Entry) → entry_of at.ckpt R.entries ≡ o → ServesUpdate (copy_on R c at o) → IsStagingStep R c
    by_entry at some None gone serves = absurd (never_onward c.node (next_to_copy c.node R.entries) serves)
    by_entry at some (Some e) found serves = record { at = at; some = some; entry_there = e; found = found; phase = phase_is R c at.ckpt e at.phase serves }

    by_copying : (o : Option Copying) → c.copying ≡ o → ServesUpdate (copy_at R c o) → IsStagingStep R c
    by_copying None none serves = absurd (never_onward c.node (next_to_copy c.node R.entries) serves)
    by_copying (Some at) some serves = by_entry at some (entry_of at.ckpt R.entries) refl serves

-- ---- what is next behind it

-- it is no end with OK
abbrev IsNotDone : Next → Type 0
IsNotDone (End (Done answer)) = ⊥
IsNotDone next = Unit {0}

commit_not : (u : UpdateState) (last : Option ℕ) → IsNotDone (commit_first u last)
commit_not u None = tt
commit_not u (Some r) = tt

stage_not : (u : UpdateState) (now : ℤ) (first last : Option ℕ) → IsNotDone (stage_at u now first last)
stage_not u now (Some r) last = tt
stage_not u now None last = commit_not u last

claim_not : (u : UpdateState) (first last : Option ℕ) → IsNotDone (claim_at u first last)
claim_not u (Some r) last = tt
claim_not u None last = commit_not u last

-- an update that commits nothing of its own is not done
phase_not : (u : UpdateState) (now : ℤ) (first last : Option ℕ) (phase : UpdatePhase) → phase ≢ updating.Committing → IsNotDone (by_phase u now first last phase)
phase_not u now first last updating.Staging other = stage_not u now first last
phase_not u now first last updating.Committing other = absurd (other refl)
phase_not u now first last updating.Claiming other = claim_not u first last
phase_not u now first None updating.Claimed other = stage_not u now first None
phase_not u now first (Some r) updating.Claimed other = claim_not u first (Some r)
phase_not u now first None updating.Withdrawing other = stage_not u now first None
phase_not u now first (Some r) updating.Withdrawing other = tt
phase_not u now first None updating.Resolving other = stage_not u now first None
phase_not u now first (Some r) updating.Resolving other = tt

update_not : (R : RecordState) (u : UpdateState) → u.phase ≢ updating.Committing → IsNotDone (update_next R u)
update_not R u other = by_entry (entry_of u.ckpt R.entries)
  where
    by_active : (e : Entry) (active : Option ℕ) → IsNotDone (update_led u R.moment e active)
    by_active e None = tt
    by_active e (Some r) = phase_not u R.moment (first_lacking 0 e.complete u.owned) (last_having 0 e.complete u.owned) u.phase other

    by_entry : (o : Option Entry) → IsNotDone (update_on u R.moment o)
    by_entry None = tt
    by_entry (Some e) = by_active e e.active

-- where it is not, the copying goes on
not_done : (behind next : Next) → IsNotDone next → done_by (unless_done behind next) ≡ None
not_done behind (End (Done answer)) none = absurd none
not_done behind next none = refl

pull_not : (call : CallId) (k : ℕ) (r : Option ℕ) → done_by (pull_at call k r) ≡ None
pull_not call k None = refl
pull_not call k (Some r) = refl

-- where its update is done, the copying ends where its node lacks no other checkpoint
onward_ends : (r : ℕ) (first : Option ℕ) → done_by (reserve_next r first) ≡ cond (is_none first) (Some (Done answers.Nothing)) None
onward_ends r None = refl
onward_ends r (Some k) = refl

commit_ends : (R : RecordState) (c : CopyState) (u : UpdateState) (last : Option ℕ) → done_by (unless_done (onward R c) (commit_at u last)) ≡ cond (not (is_some last) && is_none (next_to_copy c.node R.entries)) (Some (Done answers.Nothing)) None
commit_ends R c u None = onward_ends c.node (next_to_copy c.node R.entries)
commit_ends R c u (Some r) = refl

-- ---- a copying in hand

-- an update that is not committing is not committed
uncommitted : (phase : UpdatePhase) → phase ≢ updating.Committing → IsUncommitted phase
uncommitted updating.Committing other = absurd (other refl)
uncommitted updating.Staging other = tt
uncommitted updating.Claiming other = tt
uncommitted updating.Claimed other = tt
uncommitted updating.Withdrawing other = tt
uncommitted updating.Resolving other = tt

module _ (m : Machine) (shapes : ℕ → Shape) (inv : InvariantIn shapes m) (s : CallState) (c : CopyState) (held : m.in_hand (who s) ≡ Some s) (is : driver_of s ≡ drivers.Copy c) (step : IsStagingStep m.cluster c) where
  abbrev u : UpdateState
  u = c.staging

  abbrev at : Copying
  at = step.at

  abbrev e : Entry
  e = step.entry_there

  own : IsCopyIn m shapes s c
  own = its m shapes inv s c held is

  there : IsCopyingAt m shapes s c at
  there = its_at m shapes inv s c held is at step.some

  pub found : entry_of u.ckpt m.cluster.entries ≡ Some e
  found = ap (λ k. entry_of k m.cluster.entries) there.ckpt ∙ step.found

  so_far : IsCopiedSoFar m (shapes at.ckpt) s c e at.phase
  so_far = there.so_far e step.found

  all : is_all e.attributes ≡ true
  all = by_so_far at.phase step.phase so_far
    where
      by_so_far : (phase : CopyPhase) → IsStep m.cluster c e phase → IsCopiedSoFar m (shapes at.ckpt) s c e phase → is_all e.attributes ≡ true
      by_so_far Reserved all far = all
      by_so_far Staging other far = far.1
      by_so_far Committing other far = far.0
      by_so_far (PulledActive generation) other far = absurd other
      by_so_far PulledStaged other far = absurd other

  -- it does this update, which is where the steps of the call have led it
  pub does : update_in (driver_of s) ≡ Some u
  does = ap update_in is ∙ does_staging c at step.some

  pub updates : IsUpdateIn m shapes s u
  updates = there.update e step.found all

  -- of its own update it commits only what it has completed
  committing_at : IsOwnCommit e u → at.phase ≡ Committing
  committing_at commit = by_so_far at.phase step.phase so_far
    where
      never_begun : u ≡ update_begun c.call e.identity → ⊥
      never_begun begun =
          let own : u.owned ≡ no_nodes = ap (λ (v : UpdateState). v.owned) begun in
          let last = last_having-is 0 e.complete u.owned commit.node (updates.nodes ∙ sym (spread m shapes inv s u held does updates e found).nodes) commit.last in
          has-zero (slice_index e.complete last.place) (ap (has (slice_index e.complete last.place)) (sym (slice_index-replicate 8 last.place) ∙ ap (λ nodes. slice_index nodes last.place) (sym own)) ∙ last.had)

      by_so_far : (phase : CopyPhase) → IsStep m.cluster c e phase → IsCopiedSoFar m (shapes at.ckpt) s c e phase → phase ≡ Committing
      by_so_far Committing other far = refl
      by_so_far Reserved other far = absurd (never_begun far.1)
      by_so_far Staging unstaged far = absurd (elim commit.by [
        | inl staged ↦ (
            let it : all_staged m.cluster u ≡ true = ap (λ o. staged_on (complete_of o) u) found ∙ (λ i. staged_by (staged.0 i) (staged.1 i) (commit.last i)) in
            let w : true ≡ false = sym it ∙ unstaged in cc w)
        | inr committing ↦ subst IsUncommitted committing far.2
      ])
      by_so_far (PulledActive generation) other far = absurd other
      by_so_far PulledStaged other far = absurd other

  -- what its node is
  node_is : copies_to s ≡ c.node
  node_is = ap node_of own.node

  -- behind a step of its update this drives it
  driver_told : (step : StepDone) (v : UpdateState) → IsUpdateVerb step.verb → update_taken step u ≡ v → driver_taken step (driver_of s) ≡ drivers.Copy (staging_told c v)
  driver_told d v of update = ap (driver_taken d) is ∙ ap drivers.Copy (copy_staging d c d.verb of ∙ ap (staging_told c) update)

  -- ---- where it is behind a step

  module _ (f : ℕ → ℕ → Option ReplicaState) (h : Who → Option CallState) (then_shapes : ℕ → Shape) (y : CallState) (v : UpdateState) (behind : IsBehind s u y v) (steps : StepsSo m shapes s u v) (at_then : IsUpdateIn (record m { replicas = f; in_hand = h }) then_shapes y v) where
    abbrev n : Machine
    n = record m { replicas = f; in_hand = h }

    abbrev then_copy : CopyState
    then_copy = staging_told c v

    steps_as : StepsAs (shapes u.ckpt) s.call e u v
    steps_as = steps e found

    to_complete_still : IsToComplete m c.node e → IsToComplete n c.node e
    to_complete_still was = record { lacks = was.lacks; reserved = was.reserved }

    -- it does not commit what it has not completed
    other_than_commit : (at.phase ≡ Committing → ⊥) → IsUncommitted v.phase
    other_than_commit before = elim steps_as [
      | inl commits ↦ absurd (before (committing_at commits.1))
      | inr other ↦ uncommitted v.phase other.0
    ]

    so_far_then : (phase : CopyPhase) → at.phase ≡ phase → IsStep m.cluster c e phase → IsCopiedSoFar m (shapes at.ckpt) s c e phase → IsCopiedSoFar n (then_shapes at.ckpt) y then_copy e (staging_phase phase)
    so_far_then Reserved phase of far = (to_complete_still far.0, of, other_than_commit (λ is. let w : Reserved ≡ Committing = sym phase ∙ is in cc w))
    so_far_then Staging phase of far = (to_complete_still far.0, far.1, other_than_commit (λ is. let w : Staging ≡ Committing = sym phase ∙ is in cc w))
    so_far_then Committing phase of far = (
      far.0,
      elim steps_as [
        | inl commits ↦ subst (IsToCommit (then_shapes at.ckpt) y.call e) (sym commits.0) tt
        | inr other ↦ absurd (other.1 (subst (λ k. IsToCommit (shapes k) s.call e u.phase) (sym there.ckpt) far.1))
      ],
      far.2,
    )
    so_far_then (PulledActive generation) phase of far = absurd of
    so_far_then PulledStaged phase of far = absurd of

    copying_then : IsCopyingAt n then_shapes y then_copy (record { ckpt = at.ckpt; phase = staging_phase at.phase })
    copying_then = record {
      ckpt = same_Some v.ckpt at.ckpt (sym at_then.kept ∙ kept);
      kept = kept;
      made = there.made;
      apart = there.apart;
      declares = subst (λ (k : Kept). IfSome (entry_of at.ckpt m.cluster.entries) (λ e. k.declares ≡ Some e.attributes)) (sym behind.kept) there.declares;
      update = λ f f_found all. at_then;
      so_far = λ f f_found. subst (λ (x : Entry). IsCopiedSoFar n (then_shapes at.ckpt) y then_copy x (staging_phase at.phase)) (same_Some e f (sym step.found ∙ f_found)) (so_far_then at.phase refl step.phase so_far);
    }
      where
        kept : y.kept.ckpt ≡ Some at.ckpt
        kept = ap (λ (k : Kept). k.ckpt) behind.kept ∙ there.kept

    placed_then : IsInPlace n then_shapes y (driver_of y)
    placed_then = subst (IsInPlace n then_shapes y) (sym (driver_behind s u y v behind ∙ driver_told behind.step v behind.of behind.update)) (record {
      call = own.call ∙ sym behind.call;
      asks = ap asked behind.op ∙ own.asks;
      node = ap (λ (c : CallId). c.actor) behind.call ∙ own.node;
      within = own.within;
      at = subst (λ o. IfSome (with_phase staging_phase o) (IsCopyingAt n then_shapes y then_copy)) (sym step.some) copying_then;
    })

  -- ---- how it goes on behind a step

  -- what is next of it then is by how far it is at the checkpoint
  next_then : (v : UpdateState) → copy_next m.cluster (staging_told c v) ≡ phase_next m.cluster (staging_told c v) at.ckpt e (staging_phase at.phase)
  next_then v =
      ap (λ o. copy_at m.cluster (staging_told c v) (with_phase staging_phase o)) step.some
      ∙ ap (copy_on m.cluster (staging_told c v) (record { ckpt = at.ckpt; phase = staging_phase at.phase })) step.found

  -- a step that commits nothing of its own leaves more to do
  none_then : (v : UpdateState) → v.phase ≢ updating.Committing → (IsToCommit (shapes u.ckpt) s.call e u.phase → ⊥) → done_by (copy_next m.cluster (staging_told c v)) ≡ None
  none_then v other apart = ap done_by (next_then v) ∙ by_so_far at.phase step.phase so_far
    where
      by_staged : (b : Bool) → done_by (staged_next m.cluster (staging_told c v) at.ckpt e b) ≡ None
      by_staged true = pull_not c.call at.ckpt _
      by_staged false = not_done (onward m.cluster (staging_told c v)) (update_next m.cluster v) (update_not m.cluster v other)

      by_so_far : (phase : CopyPhase) → IsStep m.cluster c e phase → IsCopiedSoFar m (shapes at.ckpt) s c e phase → done_by (phase_next m.cluster (staging_told c v) at.ckpt e (staging_phase phase)) ≡ None
      by_so_far Reserved of far = by_staged (all_staged m.cluster v)
      by_so_far Staging of far = by_staged (all_staged m.cluster v)
      by_so_far Committing of far = absurd (apart (subst (λ k. IsToCommit (shapes k) s.call e u.phase) (sym there.ckpt) far.1))
      by_so_far (PulledActive generation) of far = absurd of
      by_so_far PulledStaged of far = absurd of

  -- it is being staged, where it is not to commit
  before_pull : (IsToCommit (shapes u.ckpt) s.call e u.phase → ⊥) → IsBeforePull m.cluster c at step.some e step.found at.phase
  before_pull apart = by_so_far at.phase step.phase so_far
    where
      by_so_far : (phase : CopyPhase) → IsStep m.cluster c e phase → IsCopiedSoFar m (shapes at.ckpt) s c e phase → IsBeforePull m.cluster c at step.some e step.found phase
      by_so_far Reserved of far = of
      by_so_far Staging of far = tt
      by_so_far Committing of far = absurd (apart (subst (λ k. IsToCommit (shapes k) s.call e u.phase) (sym there.ckpt) far.1))
      by_so_far (PulledActive generation) of far = absurd of
      by_so_far PulledStaged of far = absurd of

  -- a commit of its own leaves nothing to do where it is the last, and its node lacks no other checkpoint
  abbrev ends : Bool → Bool
  ends last = last && lacks_none m.cluster (copies_to s)

  nothing_is : update_of s.op ≡ updates_of.Nothing
  nothing_is = ap update_asked own.asks

  commit_then : (v : UpdateState) → v.ckpt ≡ u.ckpt → v.phase ≡ updating.Committing → IsOwnCommit e u → done_by (copy_next m.cluster (staging_told c v)) ≡ commits_as s ends (last_having 0 e.complete v.owned)
  commit_then v ckpt phase commit =
      ap done_by (next_then v ∙ ap (λ p. phase_next m.cluster (staging_told c v) at.ckpt e (staging_phase p)) (committing_at commit))
      ∙ ap (λ next. done_by (unless_done (onward m.cluster (staging_told c v)) next)) (update_is e.active refl)
      ∙ commit_ends m.cluster (staging_told c v) v (last_having 0 e.complete v.owned)
      ∙ (λ i. cond (not (is_some (last_having 0 e.complete v.owned)) && lacks_none m.cluster (sym node_is i)) (Some (Done (update_answer (sym nothing_is i)))) None)
    where
      update_is : (active : Option ℕ) → e.active ≡ active → update_next m.cluster v ≡ commit_at v (last_having 0 e.complete v.owned)
      update_is None none = absurd (never_unled m shapes inv s u held does updates e found none)
      update_is (Some r) led =
          ap (update_on v m.cluster.moment) (ap (λ k. entry_of k m.cluster.entries) ckpt ∙ found)
          ∙ ap (update_led v m.cluster.moment e) led
          ∙ ap (by_phase v m.cluster.moment (first_lacking 0 e.complete v.owned) (last_having 0 e.complete v.owned)) phase

  -- where it goes on behind a commit, it has a slot still, or its node lacks another checkpoint
  some_left : (v : UpdateState) → IsCompleteOn e c.node → length v.owned ≡ length e.complete → commits_as s ends (last_having 0 e.complete v.owned) ≡ None → 1 ≤ having e.complete v.owned + lacked_besides c.node (Some at.ckpt) m.cluster.entries
  some_left v full same goes = by_last (last_having 0 e.complete v.owned) refl goes
    where
      has_it : lacked_at c.node (entry_of at.ckpt m.cluster.entries) ≡ false
      has_it = ap (lacked_at c.node) step.found ∙ by_made (is_some e.making) (is_collocated e.attributes)
        where
          by_made : (made apart : Bool) → (not made && not apart && (slice_index e.complete c.node == 0)) ≡ false
          by_made true apart = refl
          by_made false true = refl
          by_made false false = full

      by_first : (first : Option ℕ) → next_to_copy c.node m.cluster.entries ≡ first → cond (is_none first) (Some (Done (update_answer (update_of s.op)))) None ≡ None → 1 ≤ lacked_besides c.node (Some at.ckpt) m.cluster.entries
      by_first None none goes = absurd (cc goes)
      by_first (Some k) some goes =
          let each : 1 ≤ lacked_besides c.node None m.cluster.entries = some_lacked c.node k m.cluster.entries inv.rises some in
          let same : lacked_besides c.node None m.cluster.entries ≡ lacked_besides c.node (Some at.ckpt) m.cluster.entries = besides_had c.node at.ckpt m.cluster.entries inv.rises has_it in
          omega (arith, each, same)

      by_last : (last : Option ℕ) → last_having 0 e.complete v.owned ≡ last → commits_as s ends last ≡ None → 1 ≤ having e.complete v.owned + lacked_besides c.node (Some at.ckpt) m.cluster.entries
      by_last (Some r) some goes =
          let it = last_having-is 0 e.complete v.owned r same some in
          let one : 1 ≤ having e.complete v.owned = having-some e.complete v.owned it.place same it.had in
          omega (arith, one)
      by_last None none goes =
          let other : 1 ≤ lacked_besides c.node (Some at.ckpt) m.cluster.entries = by_first (next_to_copy c.node m.cluster.entries) refl (ap (λ r. cond (is_none (next_to_copy r m.cluster.entries)) (Some (Done (update_answer (update_of s.op)))) None) (sym node_is) ∙ goes) in
          omega (arith, other)

  complete_then : at.phase ≡ Committing → IsCompleteOn e c.node
  complete_then phase = (subst (IsCopiedSoFar m (shapes at.ckpt) s c e) phase so_far).2

  -- WHAT A COPYING MAKES OF THE STEPS OF ITS UPDATE
  pub copying_goes : GoesByUpdate m shapes s u e
  copying_goes = record {
    ends = ends;
    asks_for = inr (own.asks, refl);
    placed = placed_then;
    goes_on = λ d v answer then_is other apart. ap (done_end m.cluster d answer) (driver_told d v then_is.of then_is.update) ∙ none_then v other apart;
    nearer = λ f d v then_is other apart less.
        subst (λ x. steps_left m.cluster f x < steps_left m.cluster m.replicas (driver_of s)) (sym (driver_told d v then_is.of then_is.update))
        (subst (λ x. steps_left m.cluster f (drivers.Copy (staging_told c v)) < steps_left m.cluster m.replicas x) (sym is)
        (staging_nearer m.cluster c at step.some e step.found f m.replicas v (before_pull apart) (subst (λ k. update_left e.complete (f k) v < update_left e.complete (m.replicas k) u) there.ckpt less)));
    commit_ends = λ d v then_is verb complete phase commit. ap (done_end m.cluster d (update_answer (update_of s.op))) (driver_told d v then_is.of then_is.update) ∙ commit_then v then_is.ckpt phase commit;
    commit_goes = λ f d v then_is phase commit same fewer goes.
        subst (λ x. steps_left m.cluster f x < steps_left m.cluster m.replicas (driver_of s)) (sym (driver_told d v then_is.of then_is.update))
        (subst (λ x. steps_left m.cluster f (drivers.Copy (staging_told c v)) < steps_left m.cluster m.replicas x) (sym is)
        (commit_nearer m.cluster c at step.some e step.found f m.replicas v (committing_at commit) fewer (some_left v (complete_then (committing_at commit)) same goes)));
  }

  -- ---- any due step of its update

  step_goes : (r : ℕ) (request : Request) → update_next m.cluster u ≡ Serve r request → (t : Told) → IsServed m s r request t → Goes m s (driver_of s) t
  step_goes r request serves t served = by_active e.active refl
    where
      by_active : (active : Option ℕ) → e.active ≡ active → Goes m s (driver_of s) t
      by_active None none = absurd (never_unled m shapes inv s u held does updates e found none)
      by_active (Some q) led =
          let next : update_next m.cluster u ≡ by_phase u m.cluster.moment (first_lacking 0 e.complete u.owned) (last_having 0 e.complete u.owned) u.phase
          = ap (update_on u m.cluster.moment) found ∙ ap (update_led u m.cluster.moment e) led in
          subst (λ x. MovesAt m shapes inv s u held does updates e found copying_goes x t) (sym next ∙ serves)
          (by_next m shapes inv s u held does updates e found copying_goes u.phase refl (first_lacking 0 e.complete u.owned) (last_having 0 e.complete u.owned) refl refl t (subst (λ x. IsDone m s x t) (sym serves ∙ next) served))

-- THE LAW OF THE UPDATE OF A COPYING: each due step of it is allowed, the invariant holds after it, and the copying comes nearer to its end
pub staging_goes : (m : Machine) (shapes : ℕ → Shape) (inv : InvariantIn shapes m) (s : CallState) (c : CopyState) (held : m.in_hand (who s) ≡ Some s) (is : driver_of s ≡ drivers.Copy c)
    → (r : ℕ) (request : Request) → copy_next m.cluster c ≡ Serve r request → IsUpdateRequest request → (t : Told) → IsServed m s r request t → Goes m s (drivers.Copy c) t
staging_goes m shapes inv s c held is r request serves of t served =
    let step : IsStagingStep m.cluster c = staging_step m.cluster c (subst ServesUpdate (sym serves) of) in
    subst (λ d. Goes m s d t) is (step_goes m shapes inv s c held is step r request (next-staging m.cluster c r request serves (of_staging request of)) t served)

-- and it can be served
pub staging_ready : (m : Machine) (shapes : ℕ → Shape) (inv : InvariantIn shapes m) (s : CallState) (c : CopyState) (held : m.in_hand (who s) ≡ Some s) (is : driver_of s ≡ drivers.Copy c)
    → (r : ℕ) (request : Request) → copy_next m.cluster c ≡ Serve r request → IsUpdateRequest request → IsReadyNext m s (Serve r request)
staging_ready m shapes inv s c held is r request serves of =
    let step : IsStagingStep m.cluster c = staging_step m.cluster c (subst ServesUpdate (sym serves) of) in
    subst (IsReadyNext m s) (next-staging m.cluster c r request serves (of_staging request of)) (update_ready m shapes inv s c.staging held (does m shapes inv s c held is step) (updates m shapes inv s c held is step))
