-- A step keeps it: a new effect is of the call that takes it, or of what it has in its hand, or of a dead one.
use Rattle.std.proofs.Common.{◌≡◌, ◌⊎◌, ℕ, ◌<◌, ◌≤◌, inl, inr, Option, Some, None, Bool, true, false, ◌==◌, refl, sym, ap, subst, ◌∙◌, arith}
use Rattle.std.specs.Option.{option_map}
use Rattle.std.specs.Prelude.{IsSome, IsSomeAnd, IfSome, slice_index}
use Rattle.std.proofs.lemmas.Option.{same_Some}
use Rattle.ckpt_types.specs.declared.answers.Answer.{Answer}
use Rattle.ckpt_types.specs.declared.answers.Answer.TheVariants as answers
use Rattle.ckpt_types.specs.declared.answers.Outcome.{Outcome}
use Rattle.ckpt_types.specs.declared.answers.Outcome.TheVariants.{Done}
use Rattle.ckpt_types.specs.declared.identities.ActorName.TheVariants.{Node}
use Rattle.ckpt_types.specs.declared.identities.CallId.{CallId}
use Rattle.ckpt_types.specs.declared.update.Update.{Update}
use Rattle.weak_marks.specs.Marks.{Marked}
use Rattle.node_msgs.specs.declared.next.Next.TheVariants.{Serve}
use Rattle.node_msgs.specs.declared.steps.Verb.{Verb}
use Rattle.node_msgs.specs.declared.steps.Verb.TheVariants as verbs
use Rattle.node_msgs.specs.declared.steps.StepReply.{StepReply}
use Rattle.node_msgs.specs.declared.steps.StepReply.TheVariants as words
use Rattle.cluster_record.specs.declared.calls.UpdatePhase.{UpdatePhase}
use Rattle.cluster_record.specs.declared.calls.UpdatePhase.TheVariants.{Staging, Committing, Claiming, Claimed, Withdrawing, Resolving}
use Rattle.cluster_record.specs.declared.entries.Entry.{Entry}
use Rattle.cluster_record.specs.Calls.{left}
use Rattle.cluster_record.specs.DueCopy.{CopyState, copy_at, copy_on, copy_taken, lacks_replica, phase_next}
use Rattle.cluster_record.specs.DueUpdate.{UpdateState, update_next, update_on, committing, update_taken, update_taken_by, commit_taken}
use Rattle.cluster_record.specs.RecordState.{entry_of}
use Rattle.cluster_record.specs.StepDone.{StepDone, done_of, counting}
use Rattle.ckpt_machine.specs.Drivers.{Driver, update_in}
use Rattle.ckpt_machine.specs.Drivers as drivers
use Rattle.ckpt_machine.specs.Driving.{Kept, driver_next, driver_taken}
use Rattle.node_core.specs.Serving.{update_answer}
use Rattle.ckpt_machine.specs.CopyGuards.{CompleteOk, IsLacking}
use Rattle.ckpt_machine.specs.Guards.{IsOnOwn, Row}
use Rattle.ckpt_machine.specs.ActiveGuards.{HoldOk, ApplyOk, AreMarksOf, UnmarkRow, PullOk}
use Rattle.ckpt_machine.specs.UpdateGuards.{CommitOk, CommitRow}
use Rattle.ckpt_machine.specs.GuardTerms.{OnReplica, OnAll, OnActive}
use Rattle.ckpt_machine.specs.InHand.{IsInPlace, IsCopyIn, IsCopyingAt}
use Rattle.ckpt_machine.specs.Invariant.{Invariant, IsGoodIn}
use Rattle.ckpt_machine.specs.Dead.{IsDead}
use Rattle.ckpt_types.specs.Asks.{Ask, asked}
use Rattle.ckpt_machine.specs.Machine.{Machine, Staged, ReplicaState, Snapshot, CallState, who}
use Rattle.cluster_record.specs.Placement.{is_all}
use Rattle.ckpt_machine.specs.Owned.{HasEffect}
use Rattle.ckpt_machine.specs.Propagation.{copied}
use Rattle.ckpt_machine.specs.Shape.{IsCompleteOn, IsOwner, IsSpread, PhaseFits}
use Rattle.ckpt_machine.specs.After.{changed, kept_behind, kept_by, pulled_by, stepped}
use Rattle.ckpt_machine.specs.Due.{Told, IsDone, driver_of, due, rooms_of, counted_at}
use Rattle.ckpt_machine.proofs.Askers.{IsCopyAsk}
use Rattle.ckpt_machine.proofs.CompletedEntry.{joined}
use Rattle.ckpt_machine.proofs.CompletedRecord.{can, entry_here, swept_is, within}
use Rattle.ckpt_machine.proofs.CopyCommits.{CommitsIfAt, commits_if, committing_commits, copy_node, own_commit_brought}
use Rattle.ckpt_machine.proofs.EntryLists.{entry_of-given}
use Rattle.ckpt_machine.proofs.Lacking.{lacked_parts}
use Rattle.ckpt_machine.proofs.Refusing.{by_update}
use Rattle.ckpt_machine.proofs.StaysMade.{row_needs}
use Rattle.ckpt_machine.proofs.StaysMade as staying
use Rattle.ckpt_machine.proofs.StepsRemain.{changed_goes}
use Rattle.ckpt_machine.proofs.UpdateIn.{IsStagingAt, IsUpdateVerb, copying_there, does_update, update_behind, update_due}
use Rattle.ckpt_machine.proofs.Joining.{collocated_apart}
use Rattle.ckpt_machine.proofs.Follows.{Has, HasCopied, HasInHand, ReplicasFollow, StepNeeds, changed_follows}
use Rattle.ckpt_machine.proofs.ShapedReplicas.{made_where_complete}
use Rattle.ckpt_machine.specs.Whose.{same_who}
use Rattle.ckpt_machine.proofs.Whose.{same_who-refl, put_who-cases, one_call}
use Rattle.ckpt_machine.proofs.Lives.{held_not_dead}
use Rattle.ckpt_machine.proofs.OptionLemmas.{IsSomeAnd-at, IsSomeAnd-from, IfSome-at}
use Rattle.ckpt_machine.proofs.ShapedReplicas.{slot_owned}
use Rattle.ckpt_machine.proofs.HasHistory.{either_copy, IsCommittingAt, IsBroughtTo, HasBrought, HasCommitted, HasHistory, making_incomplete, lacking_incomplete, taken_commit, commits_still, due_request, on_replica-there, on_active-there, none_alone, RecordRemains, brought_there, given_still, committed_still}

module _ (m : Machine) (inv : Invariant m) (history : HasHistory m) (s : CallState) (held : m.in_hand (who s) ≡ Some s) (t : Told) (row : Row m s t.verb t) where
  -- the step commits its own update at this checkpoint
  pub record Commits (k : ℕ) : Type 0 where
    pub verb : t.verb ≡ verbs.Commit
    pub update : UpdateState
    pub driver_is : update_in (driver_of s) ≡ Some update
    pub ckpt : update.ckpt ≡ k
    pub own : committing update.phase ≡ Committing

  -- or it is the one step of an update, or the last of a weak write, which is answered OK
  pub record Applies : Type 0 where
    pub verb : (t.verb ≡ verbs.Apply) ⊎ (t.verb ≡ verbs.Unmark)
    pub answer : Answer
    pub ends : t.end ≡ Some (Done answer)

  -- a new effect is of the call itself, which commits at this checkpoint, or ends
  pub record IsOwnEffect (k : ℕ) (d : CallId) : Type 0 where
    pub own : d ≡ s.call
    pub reply : t.reply ≡ words.Ok
    pub by : Commits k ⊎ Applies

  -- or it is one of the snapshot in its hand, which a copying has of the checkpoint that it is at
  pub record IsTaken (k : ℕ) (d : CallId) : Type 0 where
    pub snapshot : Snapshot
    pub there : s.snapshot ≡ Some snapshot
    pub effect : HasEffect d snapshot.effects
    pub kept : IsCopyAsk (asked s.op) → IsOnOwn t.verb t.ckpt s.kept.ckpt → s.kept.ckpt ≡ Some k

  -- which the call has in its hand
  abbrev pub taken_hand : (k : ℕ) (d : CallId) → IsTaken k d → HasInHand m d
  taken_hand k d taken = record { name = (who s); state = s; held = held; snapshot = taken.snapshot; there = taken.there; effect = taken.effect }

  -- or of a dead call
  abbrev IsNewEffect : ℕ → CallId → Type 0
  IsNewEffect k d = IsOwnEffect k d ⊎ (IsTaken k d ⊎ IsDead m d)

  abbrev n : Machine
  n = changed m s t.verb t.ckpt t.node t.reply

  -- what an owner commits is its own update, or that of a dead call
  own_commit : (update : Update) (ends : Bool → Bool) (k r : ℕ) → t.verb ≡ verbs.Commit → t.reply ≡ words.Ok → OnAll m k r (λ e x. CommitOk m s.call update ends k r t.end t.details x) → (x : ReplicaState) (slot : Staged) → m.replicas k r ≡ Some x → x.slot ≡ Some slot → IsNewEffect k slot.origin
  own_commit update ends k r verb reply on x slot at staged =
      let (e, y, found, is, row_of) = on_replica-there m k r (λ e x. (is_all e.attributes ≡ true) × CommitOk m s.call update ends k r t.end t.details x) on in
      let ok : CommitOk m s.call update ends k r t.end t.details y = row_of.1 in
      let same : y ≡ x = same_Some y x (sym is ∙ at) in
      let slots : ok.slot ≡ slot = same_Some ok.slot slot (sym ok.staged ∙ ap (λ (z : ReplicaState). z.slot) same ∙ staged) in
      let (by, origin, same_update, owns) = slot_owned m inv.shapes inv.holds history.bare k r x slot at staged in
      let owner : slot.owner ≡ s.call = ap (λ (z : Staged). z.owner) (sym slots) ∙ ok.owner in
      elim by [
        | inl it ↦ (
            let own : IsOwner m k (inv.shapes k) s.call = subst (IsOwner m k (inv.shapes k)) owner it in
            let state : own.state ≡ s = one_call m.in_hand m.pending m.next inv.holds.calls (who own.state) (who s) own.state s own.in_hand held own.call_is in
            by_phase_of own state origin own.driver.phase refl own.phase)
        | inr left ↦ absurd (held_not_dead m inv.shapes inv.holds s held (subst (IsDead m) owner left.0))
      ]
    where
      by_phase_of : (own : IsOwner m k (inv.shapes k) s.call) → own.state ≡ s → slot.origin ≡ (inv.shapes k).origin → (ph : UpdatePhase) → own.driver.phase ≡ ph → PhaseFits m (inv.shapes k) own.state own.driver ph → IsNewEffect k slot.origin
      by_phase_of own state origin Staging is fits = inl (record { own = origin ∙ fits.origin ∙ own.call_is; reply = reply; by = inl (record { verb = verb; update = own.driver; driver_is = ap (λ z. update_in (driver_of z)) (sym state) ∙ own.driver_is; ckpt = own.ckpt; own = ap committing is }) })
      by_phase_of own state origin Committing is fits = inl (record { own = origin ∙ fits.origin ∙ own.call_is; reply = reply; by = inl (record { verb = verb; update = own.driver; driver_is = ap (λ z. update_in (driver_of z)) (sym state) ∙ own.driver_is; ckpt = own.ckpt; own = ap committing is }) })
      by_phase_of own state origin Claiming is fits = absurd fits
      by_phase_of own state origin Claimed is fits = inr (inr (subst (IsDead m) (sym origin) fits.origin))
      by_phase_of own state origin Withdrawing is fits = inr (inr (subst (IsDead m) (sym origin) fits.origin))
      by_phase_of own state origin Resolving is fits = inr (inr (subst (IsDead m) (sym origin) fits.origin))

  own_apply : (update : Update) (k r : ℕ) (u : Told) → u.end ≡ t.end → t.verb ≡ verbs.Apply → t.reply ≡ words.Ok → OnActive m update false k r (ApplyOk m update u) → IsOwnEffect k s.call
  own_apply update k r u end verb reply on =
      let (e, x, found, at, none, active, row_of) = on_active-there m update false k r (ApplyOk m update u) on in
      let ok : ApplyOk m update u e x = row_of in
      record { own = refl; reply = reply; by = inr (record { verb = inl verb; answer = update_answer update; ends = sym end ∙ ok.answer }) }

  own_unmark : (update : Update) (k r : ℕ) (u : Told) → u.end ≡ t.end → t.verb ≡ verbs.Unmark → t.reply ≡ words.Ok → UnmarkRow m s.call update k r u words.Ok → (x : ReplicaState) (marks : Marked) → m.replicas k r ≡ Some x → x.marks ≡ Some marks → IsOwnEffect k marks.call
  own_unmark update k r u end verb reply on x marks at marked =
      let (e, y, found, is, none, active, row_of) = on_active-there m update true k r (λ e x. IsSomeAnd x.marks (AreMarksOf s.call update false)) on.0 in
      let (there, marks_are, own) = IsSomeAnd-at y.marks (AreMarksOf s.call update false) row_of in
      let same : there ≡ marks = same_Some there marks (sym marks_are ∙ ap (λ (z : ReplicaState). z.marks) (same_Some y x (sym is ∙ at)) ∙ marked) in
      record { own = ap (λ (z : Marked). z.call) (sym same) ∙ own.call_is; reply = reply; by = inr (record { verb = inr verb; answer = answers.Nothing; ends = sym end ∙ on.1 }) }

  -- what is asked for is no copying
  not_copy : (ask : Ask) → asked s.op ≡ ask → (IsCopyAsk ask → ⊥) → IsCopyAsk (asked s.op) → ⊥
  not_copy ask is other copies = other (subst IsCopyAsk is copies)

  -- what the node of a completion has then, and that it is complete
  completed_needs : (k r : ℕ) → t.verb ≡ verbs.Complete → t.ckpt ≡ Some k → Row m s verbs.Complete (record t { verb = verbs.Complete; ckpt = Some k; node = Some r; reply = words.Ok }) → StepNeeds m history.bare IsNewEffect s verbs.Complete (Some k) (Some r) words.Ok
  completed_needs k r verb ckpt row =
      let (actor, up, on) = row.0.1 in
      let (e, found, ok) = IsSomeAnd-at (entry_of k m.cluster.entries) (CompleteOk m s k r t.end) on in
      let good : IsSpread m k (inv.shapes k) e = subst (IsGoodIn m k (inv.shapes k) e) (lacked_parts r e ok.lacks).made (inv.holds.entries k e found) in
      let there = entry_here m inv.shapes inv.holds k r e found ok.lacks up good in
      let full = joined r (slice_index m.cluster.up r) e (can m inv.shapes inv.holds k r e found ok.lacks up good) (within m inv.shapes inv.holds k r e found ok.lacks up good) in (
        (λ g found_then. subst (λ e. IsCompleteOn e r) (same_Some _ g (sym (ap (λ S. entry_of k S.entries) (swept_is m inv.shapes inv.holds k r e found ok.lacks up good) ∙ there) ∙ found_then)) full),
        (λ copy d in_hand has. inr (inl (record { snapshot = copy; there = in_hand; effect = has; kept = λ copies own. sym (subst (λ v. IsOnOwn v t.ckpt s.kept.ckpt) verb own) ∙ ckpt }))),
      )

  pub follows : ReplicasFollow m IsNewEffect n
  follows = changed_follows m history.bare IsNewEffect s t.verb t.ckpt t.node t.reply (news t.verb t.ckpt t.node t.reply refl refl refl row)
    where
      news : (verb : Verb) (k r : Option ℕ) (reply : StepReply) → t.verb ≡ verb → t.ckpt ≡ k → t.reply ≡ reply → Row m s verb (record t { verb = verb; ckpt = k; node = r; reply = reply }) → StepNeeds m history.bare IsNewEffect s verb k r reply
      news verbs.Commit (Some k) (Some r) words.Ok verb ckpt reply row = λ x slot there staged. by_update m s (λ update ends. CommitRow m s.call update ends k r words.Ok t.end t.details) row (λ update ends on. own_commit update ends k r verb reply on x slot there staged)
      news verbs.Apply (Some k) (Some r) words.Ok verb ckpt reply row = inl (own_apply row.1 k r (record t { verb = verbs.Apply; ckpt = Some k; node = Some r; reply = words.Ok }) refl verb reply row.3)
      news verbs.Unmark (Some k) (Some r) words.Ok verb ckpt reply row = λ x marks there marked. inl (own_unmark row.1 k r (record t { verb = verbs.Unmark; ckpt = Some k; node = Some r; reply = words.Ok }) refl verb reply row.3 x marks there marked)
      news verbs.Install (Some k) (Some r) words.Ok verb ckpt reply row = λ pulled d there has. inr (inl (record { snapshot = pulled; there = there; effect = has; kept = λ copies own. absurd (not_copy _ row.0.2 (λ none. none) copies) }))
      news verbs.Activate (Some k) (Some r) words.Ok verb ckpt reply row = λ copy d there has. inr (inl (record { snapshot = copy; there = there; effect = has; kept = λ copies own. absurd (not_copy _ row.0.1 (λ none. none) copies) }))
      news verbs.Reserve (Some k) (Some r) words.Ok verb ckpt reply row = elim row.0 [ inl opens ↦ making_incomplete m inv s.call k r opens.3.1 | inr copies ↦ lacking_incomplete m k r copies.1.0.lacks ]
      news verbs.Complete (Some k) (Some r) words.Ok verb ckpt reply row = completed_needs k r verb ckpt row
      news verb k r reply verb_is ckpt_is reply_is row = tt

  -- whoever has an effect after the step had it before, or has it by this step
  pub had : (k r : ℕ) (d : CallId) → Has n k r d → Has m k r d ⊎ IsNewEffect k d
  had k r d has = follows.effects k r has.replica d has.there has.effect

  module _ (own : IsOnOwn t.verb t.ckpt s.kept.ckpt) (end : Option Outcome) (ends : t.end ≡ end) (done : IsDone m s (due m s) t) where
    abbrev then_state : CallState
    then_state = kept_behind m s n.cluster t.verb t.ckpt t.node t.reply

    abbrev then_machine : Machine
    then_machine = stepped n then_state end

    -- the step as its driver is told of it
    abbrev told : StepDone
    told = counting (counted_at m t.verb t.ckpt t.node t.reply) (done_of n.cluster t.verb t.ckpt t.node t.reply)

    -- ---- what a call commits, behind the step

    -- each checkpoint whose identity was given, and that was made, remains
    remains : RecordRemains (λ q. ⊥) m.cluster n.cluster
    remains = record {
      last = (changed_goes 0 m (omega arith) inv s t.verb t.ckpt t.node t.reply needs).last;
      was = λ k given. (changed_goes k m given inv s t.verb t.ckpt t.node t.reply needs).was;
    }
      where
        needs : staying.StepNeeds m.cluster s.call t.verb t.ckpt t.reply
        needs = row_needs m inv s t.verb t.ckpt t.node t.reply t.end t.details row

    -- a call that takes no step commits as it did
    goes_on_other : (k : ℕ) (d : Driver) → HasCommitted m.cluster k d → HasCommitted n.cluster k d
    goes_on_other k d = committed_still (λ q. ⊥) m.cluster n.cluster remains k d (λ c is none. none)

    -- a copying is where its steps have led it
    its : (c : CopyState) → driver_of s ≡ drivers.Copy c → IsCopyIn m inv.shapes s c
    its c is = subst (IsInPlace m inv.shapes s) is (inv.holds.hands (who s) s held).here

    -- it reserves for no checkpoint that it has brought to its node
    other_reserved : (k : ℕ) (was : HasBrought m.cluster k (driver_of s)) → t.verb ≡ verbs.Reserve → t.ckpt ≡ Some k → t.reply ≡ words.Ok → ⊥
    other_reserved k was verb ckpt reply = by_node t.node refl
      where
        at : IsCopyIn m inv.shapes s was.copy
        at = its was.copy was.driver_is

        lacked : (r : ℕ) → IsLacking m s k r → ⊥
        lacked r by =
            let (e, found, lacks) = IsSomeAnd-at (entry_of k m.cluster.entries) (λ e. lacks_replica r e ≡ true) by.lacks in
            let node : r ≡ was.copy.node = (let same : Node r ≡ Node was.copy.node = sym by.own ∙ at.node in cc same) in
            let w : true ≡ false = sym (lacked_parts r e lacks).none ∙ ap (λ q. slice_index e.complete q == 0) node ∙ (IfSome-at (entry_of k m.cluster.entries) _ was.there e found).2 in
            cc w

        by_row : (o : Option ℕ) → Row m s verbs.Reserve (record t { verb = verbs.Reserve; ckpt = Some k; node = o; reply = words.Ok }) → ⊥
        by_row None row = row.0
        by_row (Some r) row = elim row.0 [
          | inl opens ↦ (let w = sym at.asks ∙ opens.2.asks in cc w)
          | inr copies ↦ lacked r copies.1.0
        ]

        by_node : (o : Option ℕ) → t.node ≡ o → ⊥
        by_node o node = by_row o (subst (λ (u : Told). Row m s u.verb u) (λ i. record t { verb = verb i; ckpt = ckpt i; node = node i; reply = reply i }) row)

    -- and where its update takes a step there, it is a commit
    commits_there : (k : ℕ) (was : HasBrought m.cluster k (driver_of s)) (u : UpdateState) → update_in (driver_of s) ≡ Some u → u.ckpt ≡ k → IsUpdateVerb t.verb → t.verb ≡ verbs.Commit
    commits_there k was u does ckpt of =
        let (r, request, next, verb) = due_request m s t done of in
        verb ∙ committing_commits m.cluster u r request (was.commits u does ckpt) (update_due m.cluster (rooms_of m s) (driver_of s) u r request (subst IsUpdateVerb verb of) does next)

    -- a call that goes on commits still
    goes_on_own : (k : ℕ) → end ≡ None → HasCommitted m.cluster k (driver_of s) → HasCommitted n.cluster k (driver_of then_state)
    goes_on_own k none (inl at) = inl (commits_still m s t told k refl done (ends ∙ none) at)
    goes_on_own k none (inr was) = inr (record {
      copy = copy_taken told was.copy;
      driver_is = ap (driver_taken told) was.driver_is;
      given = given_still (λ q. ⊥) m.cluster n.cluster remains k was.given;
      there = subst (λ q. IfSome (entry_of k n.cluster.entries) (IsBroughtTo q)) (sym (copy_node told was.copy)) (brought_there (λ q. ⊥) m.cluster n.cluster remains k was.copy.node was.given (λ none. none) was.there);
      commits = subst (CommitsIfAt k) (sym (ap (driver_taken told) was.driver_is)) (commits_if told was.copy k (subst (CommitsIfAt k) was.driver_is was.commits) (other_reserved k was)
          (λ u does ckpt of. commits_there k was u (ap update_in was.driver_is ∙ does) ckpt of));
    })

    -- one that commits its own update here does so behind it, or has brought the checkpoint to its node
    own_committed : (k : ℕ) → t.reply ≡ words.Ok → Commits k → HasCommitted n.cluster k (driver_of then_state)
    own_committed k reply commits = elim (does_update (driver_of s) commits.update commits.driver_is) [
      | inl is ↦ inl (subst (λ x. IsCommittingAt k (driver_taken told x)) (sym is) (taken_commit told commits.update k commits.verb commits.ckpt (inr (reply, commits.own))))
      | inr (c, is, at) ↦ inr (copies c is at)
    ]
      where
        copies : (c : CopyState) → driver_of s ≡ drivers.Copy c → IsStagingAt c commits.update → HasBrought n.cluster k (driver_of then_state)
        copies c is staging = by_entry (entry_of k m.cluster.entries) refl
          where
            at : IsCopyingAt m inv.shapes s c staging.at
            at = copying_there m inv.shapes s c staging.at staging.copying (its c is)

            ckpt : staging.at.ckpt ≡ k
            ckpt = sym at.ckpt ∙ ap (λ (u : UpdateState). u.ckpt) staging.staging ∙ commits.ckpt

            driver_then : driver_of then_state ≡ drivers.Copy (copy_taken told c)
            driver_then = ap (driver_taken told) is

            -- behind the commit its update is committing
            committing_then : CommitsIfAt k (driver_of then_state)
            committing_then u does there =
                let same : u ≡ update_taken told commits.update = same_Some u (update_taken told commits.update) (sym does ∙ update_behind told (driver_of s) commits.update (subst IsUpdateVerb (sym commits.verb) tt) commits.driver_is) in
                ap (λ (u : UpdateState). u.phase) same
                ∙ ap (λ v. (update_taken_by told commits.update v).phase) commits.verb
                ∙ ap (λ reply. (commit_taken told commits.update reply).phase) reply
                ∙ commits.own

            brought : (e : Entry) → entry_of k m.cluster.entries ≡ Some e → HasBrought n.cluster k (driver_of then_state)
            brought e found =
                let found_at : entry_of staging.at.ckpt m.cluster.entries ≡ Some e = ap (λ j. entry_of j m.cluster.entries) ckpt ∙ found in
                let found_staging : entry_of c.staging.ckpt m.cluster.entries ≡ Some e = ap (λ j. entry_of j m.cluster.entries) at.ckpt ∙ found_at in
                let (r, request, next, verb) = due_request m s t done (subst IsUpdateVerb (sym commits.verb) tt) in
                let served : phase_next m.cluster c staging.at.ckpt e staging.at.phase ≡ Serve r request =
                ap (copy_on m.cluster c staging.at) (sym found_at) ∙ ap (copy_at m.cluster c) (sym staging.copying) ∙ ap (driver_next m.cluster (rooms_of m s)) (sym is) ∙ next in
                let (all, complete) = own_commit_brought m.cluster c r request (sym verb ∙ commits.verb) m (inv.shapes staging.at.ckpt) s staging.at.ckpt e found_staging staging.at.phase (at.so_far e found_at) served (ap (λ (u : UpdateState). committing u.phase) staging.staging ∙ commits.own) in
                let given : k ≤ m.cluster.last_identity = entry_of-given m.cluster.last_identity k m.cluster.entries e inv.holds.up_to found in
                let made = made_where_complete m inv k c.node e found complete in
                record {
                  copy = copy_taken told c;
                  driver_is = driver_then;
                  given = given_still (λ q. ⊥) m.cluster n.cluster remains k given;
                  there = subst (λ q. IfSome (entry_of k n.cluster.entries) (IsBroughtTo q)) (sym (copy_node told c))
                      (brought_there (λ q. ⊥) m.cluster n.cluster remains k c.node given (λ none. none) (subst (λ o. IfSome o (IsBroughtTo c.node)) (sym found) (made, all, complete)));
                  commits = committing_then;
                }

            by_entry : (o : Option Entry) → entry_of k m.cluster.entries ≡ o → HasBrought n.cluster k (driver_of then_state)
            by_entry None none = absurd (
                let (r, request, next, verb) = due_request m s t done (subst IsUpdateVerb (sym commits.verb) tt) in
                let nothing : update_next m.cluster commits.update ≡ Serve r request = update_due m.cluster (rooms_of m s) (driver_of s) commits.update r request (subst IsUpdateVerb (sym commits.verb ∙ verb) tt) commits.driver_is next in
                let over = sym (ap (update_on commits.update m.cluster.moment) (ap (λ j. entry_of j m.cluster.entries) commits.ckpt ∙ none)) ∙ nothing in
                cc over)
            by_entry (Some e) found = brought e found

    -- what is in its hand, of which this call in hand has an effect, the call that takes the step has as a copying
    taken_commits : (k : ℕ) (z : CallState) → m.in_hand (who z) ≡ Some z → IsTaken k z.call → HasCommitted m.cluster k (driver_of z)
    taken_commits k z in_hand taken = elim (either_copy (asked s.op)) [
      | inl copies ↦ history.commits_pulled k z in_hand (taken_hand k z.call taken) copies (taken.kept copies own)
      | inr other ↦ absurd (history.ended_pulled z in_hand (taken_hand k z.call taken) other)
    ]

    -- where the call goes on, it commits still
    own_commits : (k r : ℕ) → end ≡ None → Has then_machine k r s.call → HasCommitted n.cluster k (driver_of then_state)
    own_commits k r none has =
        elim (had k r s.call (record { replica = has.replica; there = has.there; effect = has.effect })) [
          | inl was ↦ goes_on_own k none (history.commits k r s held was)
          | inr (inl new) ↦ by_new new.reply new.by
          | inr (inr (inl taken)) ↦ goes_on_own k none (taken_commits k s held taken)
          | inr (inr (inr dead)) ↦ absurd (held_not_dead m inv.shapes inv.holds s held dead)
        ]
      where
        by_new : t.reply ≡ words.Ok → Commits k ⊎ Applies → HasCommitted n.cluster k (driver_of then_state)
        by_new reply (inl commits) = own_committed k reply commits
        by_new reply (inr applies) = absurd (let w : None ≡ Some (Done applies.answer) = sym (ends ∙ none) ∙ applies.ends in cc w)

    other_commits : (k r : ℕ) (z : CallState) → same_who (who z) (who s) ≡ false → n.in_hand (who z) ≡ Some z → Has then_machine k r z.call → HasCommitted n.cluster k (driver_of z)
    other_commits k r z other in_hand has =
        elim (had k r z.call (record { replica = has.replica; there = has.there; effect = has.effect })) [
          | inl was ↦ goes_on_other k (driver_of z) (history.commits k r z (follows.in_hand (who z) z in_hand) was)
          | inr (inl new) ↦ absurd (let name : who z ≡ who s = inv.holds.calls.one_name (who z) (who s) z s (follows.in_hand (who z) z in_hand) held new.own in let w : true ≡ false = sym (ap (λ w. same_who w (who s)) name ∙ same_who-refl (who s)) ∙ other in cc w)
          | inr (inr (inl taken)) ↦ goes_on_other k (driver_of z) (taken_commits k z (follows.in_hand (who z) z in_hand) taken)
          | inr (inr (inr dead)) ↦ absurd (held_not_dead m inv.shapes inv.holds z (follows.in_hand (who z) z in_hand) dead)
        ]

    left_state : (o : Option Outcome) (z : CallState) → left o then_state ≡ Some z → (o ≡ None) × (then_state ≡ z)
    left_state None z is = (refl, same_Some then_state z is)
    left_state (Some e) z is = absurd (cc is)

    -- ---- what is in a hand

    -- a snapshot that one has behind the step it had before, of the same checkpoint
    record IsAsBefore (d : CallId) (z : CallState) : Type 0 where
      was : HasInHand m d
      asks : asked was.state.op ≡ asked z.op
      ckpt : was.state.kept.ckpt ≡ z.kept.ckpt

    -- or the call has pulled it by the step, as a copying of any checkpoint, and else of one whose updates go to an active alone
    record IsPulledEffect (d : CallId) (z : CallState) : Type 0 where
      ckpt : ℕ
      node : ℕ
      has : Has m ckpt node d
      asks : asked s.op ≡ asked z.op
      kept : z.kept.ckpt ≡ Some ckpt
      alone : (IsCopyAsk (asked s.op) → ⊥) → IsSomeAnd (entry_of ckpt m.cluster.entries) (λ e. is_all e.attributes ≡ false)

    copied_effect : (k r : ℕ) (p : Snapshot) (d : CallId) → IsSome (m.replicas k r) → option_map copied (m.replicas k r) ≡ Some p → HasEffect d p.effects → Has m k r d
    copied_effect k r p d some is effect = by_replica (m.replicas k r) refl some is
      where
        by_replica : (o : Option ReplicaState) → m.replicas k r ≡ o → IsSome o → option_map copied o ≡ Some p → Has m k r d
        by_replica None there none is = absurd (cc none)
        by_replica (Some x) there some is = record { replica = x; there = there; effect = subst (λ (q : Snapshot). HasEffect d q.effects) (sym (same_Some (copied x) p is)) effect }

    -- a pull is of such a checkpoint
    pulled_alone : (k r : ℕ) (u : Told) → OnReplica m k r (PullOk m s r u) → IsSomeAnd (entry_of k m.cluster.entries) (λ e. is_all e.attributes ≡ false)
    pulled_alone k r u on = let (e, x, found, there, ok) = on_replica-there m k r (PullOk m s r u) on in IsSomeAnd-from (entry_of k m.cluster.entries) _ e found ok.alone

    -- and so is a hold
    held_alone : (k r : ℕ) (end : Option Outcome) → OnReplica m k r (HoldOk s r end) → IsSomeAnd (entry_of k m.cluster.entries) (λ e. is_all e.attributes ≡ false)
    held_alone k r end on = let (e, x, found, there, ok) = on_replica-there m k r (HoldOk s r end) on in IsSomeAnd-from (entry_of k m.cluster.entries) _ e found (collocated_apart e.attributes ok.collocated)

    -- there is a replica on which something is so
    some_replica : (k r : ℕ) (P : Entry → ReplicaState → Type 0) → OnReplica m k r P → IsSome (m.replicas k r)
    some_replica k r P on = let (e, x, found, there, p) = on_replica-there m k r P on in subst IsSome (sym there) refl

    -- the call behind the step, of what it keeps
    abbrev kept_then : Verb → Option ℕ → StepReply → Kept
    kept_then verb k reply = kept_by m s verb k reply

    -- an effect of the snapshot in its hand behind the step was there before, or is pulled
    pulled_was : (verb : Verb) (k r : Option ℕ) (reply : StepReply) (p : Snapshot) (d : CallId) → IsOnOwn verb k s.kept.ckpt → Row m s verb (record t { verb = verb; ckpt = k; node = r; reply = reply }) → pulled_by m s verb k r reply ≡ Some p → HasEffect d p.effects
        → IsAsBefore d (record s { kept = kept_then verb k reply }) ⊎ IsPulledEffect d (record s { kept = kept_then verb k reply })
    pulled_was verbs.Pull (Some k) (Some r) words.Ok p d at row is effect = elim row.0 [
      | inl syncs ↦ inr (record { ckpt = k; node = r; has = copied_effect k r p d (some_replica k r _ syncs.3) is effect; asks = refl; kept = sym at; alone = λ other. pulled_alone k r (record t { verb = verbs.Pull; ckpt = Some k; node = Some r; reply = words.Ok }) syncs.3 })
      | inr copies ↦ inr (record { ckpt = k; node = r; has = copied_effect k r p d (some_replica k r _ copies.1) is effect; asks = refl; kept = sym at; alone = λ other. absurd (other (subst IsCopyAsk (sym copies.0) tt)) })
    ]
    pulled_was verbs.Hold (Some k) (Some r) words.Ok p d at row is effect = inr (record { ckpt = k; node = r; has = copied_effect k r p d (some_replica k r _ row.0.2) is effect; asks = refl; kept = sym at; alone = λ other. held_alone k r t.end row.0.2 })
    pulled_was verbs.Reserve k r words.Ok p d at row none effect = absurd (cc none)
    pulled_was verbs.Reserve None r reply p d at row is effect = inl (record { was = record { name = (who s); state = s; held = held; snapshot = p; there = is; effect = effect }; asks = refl; ckpt = refl })
    pulled_was verbs.Reserve (Some k) r reply p d at row is effect = inl (record { was = record { name = (who s); state = s; held = held; snapshot = p; there = is; effect = effect }; asks = refl; ckpt = refl })
    pulled_was verb k r reply p d at row is effect = inl (record { was = record { name = (who s); state = s; held = held; snapshot = p; there = is; effect = effect }; asks = refl; ckpt = refl })

    -- so it is of any hand
    was_pulled : (d : CallId) (has : HasInHand then_machine d) → IsAsBefore d has.state ⊎ IsPulledEffect d has.state
    was_pulled d has = elim (put_who-cases n.in_hand (who s) (left end then_state) has.name has.state has.held) [
      | inl own_hand ↦ (
          let (none, is) = left_state end has.state own_hand.1 in
          let asks : asked s.op ≡ asked has.state.op = ap (λ (z : CallState). asked z.op) is in
          let ckpt : (kept_then t.verb t.ckpt t.reply).ckpt ≡ has.state.kept.ckpt = ap (λ (z : CallState). z.kept.ckpt) is in
          elim (pulled_was t.verb t.ckpt t.node t.reply has.snapshot d own row (ap (λ (z : CallState). z.snapshot) is ∙ has.there) has.effect) [
            | inl before ↦ inl (record { was = before.was; asks = before.asks ∙ asks; ckpt = before.ckpt ∙ ckpt })
            | inr new ↦ inr (record { ckpt = new.ckpt; node = new.node; has = new.has; asks = asks; kept = sym ckpt ∙ new.kept; alone = new.alone })
          ])
      | inr other ↦ inl (record { was = record { name = has.name; state = has.state; held = follows.in_hand has.name has.state other.1; snapshot = has.snapshot; there = has.there; effect = has.effect }; asks = refl; ckpt = refl })
    ]

    -- what a snapshot has, it had
    was_copied : (k : ℕ) (d : CallId) → HasCopied then_machine k d → HasCopied m k d
    was_copied k d has = record { snapshot = has.snapshot; there = follows.copies k has.snapshot has.there; effect = has.effect }

    -- a call that was in hand is so no more, where a hand has an effect of it that is no copying's
    ended_by : (z : CallState) → m.in_hand (who z) ≡ Some z → (has : HasInHand then_machine z.call) → (IsCopyAsk (asked has.state.op) → ⊥) → ⊥
    ended_by z in_hand has other = elim (was_pulled z.call has) [
      | inl before ↦ history.ended_pulled z in_hand before.was (λ copies. other (subst IsCopyAsk before.asks copies))
      | inr new ↦ none_alone m inv history new.ckpt new.node z in_hand (new.alone (λ copies. other (subst IsCopyAsk new.asks copies))) new.has
    ]

    -- and commits, where one has that is a copying's
    commits_by_hand : (k : ℕ) (z : CallState) → m.in_hand (who z) ≡ Some z → (has : HasInHand then_machine z.call) → IsCopyAsk (asked has.state.op) → has.state.kept.ckpt ≡ Some k → HasCommitted m.cluster k (driver_of z)
    commits_by_hand k z in_hand has copies ckpt = elim (was_pulled z.call has) [
      | inl before ↦ history.commits_pulled k z in_hand before.was (subst IsCopyAsk (sym before.asks) copies) (before.ckpt ∙ ckpt)
      | inr new ↦ (let same : new.ckpt ≡ k = same_Some new.ckpt k (sym new.kept ∙ ckpt) in subst (λ k. HasCommitted m.cluster k (driver_of z)) same (history.commits new.ckpt new.node z in_hand new.has))
    ]

    number_then : (d : CallId) → d.number < m.next d.actor → d.number < n.next d.actor
    number_then d below = subst (λ next. d.number < next) (sym (follows.next d.actor)) below

    pub step_history : HasHistory then_machine
    step_history = record {
      bare = follows.bare;
      given = λ k r d has. number_then d (elim (had k r d (record { replica = has.replica; there = has.there; effect = has.effect })) [
        | inl was ↦ history.given k r d was
        | inr (inl new) ↦ subst (λ (d : CallId). d.number < m.next d.actor) (sym new.own) (inv.holds.hands (who s) s held).number
        | inr (inr (inl taken)) ↦ history.given_pulled d (taken_hand k d taken)
        | inr (inr (inr dead)) ↦ dead.begun
      ]);
      commits = λ k r z in_hand has. elim (put_who-cases n.in_hand (who s) (left end then_state) (who z) z in_hand) [
        | inl own_hand ↦ (
            let (none, is) = left_state end z own_hand.1 in
            let call : s.call ≡ z.call = ap (λ (z : CallState). z.call) is in
            subst (λ z. HasCommitted n.cluster k (driver_of z)) is (own_commits k r none (subst (Has then_machine k r) (sym call) has)))
        | inr other ↦ other_commits k r z other.0 other.1 has
      ];
      given_copied = λ k d has. number_then d (history.given_copied k d (was_copied k d has));
      ended_copied = λ k z in_hand has. elim (put_who-cases n.in_hand (who s) (left end then_state) (who z) z in_hand) [
        | inl own_hand ↦ (let (none, is) = left_state end z own_hand.1 in history.ended_copied k s held (subst (HasCopied m k) (sym (ap (λ (z : CallState). z.call) is)) (was_copied k z.call has)))
        | inr other ↦ history.ended_copied k z (follows.in_hand (who z) z other.1) (was_copied k z.call has)
      ];
      given_pulled = λ d has. number_then d (elim (was_pulled d has) [ inl before ↦ history.given_pulled d before.was | inr new ↦ history.given new.ckpt new.node d new.has ]);
      ended_pulled = λ z in_hand has other. elim (put_who-cases n.in_hand (who s) (left end then_state) (who z) z in_hand) [
        | inl own_hand ↦ (let (none, is) = left_state end z own_hand.1 in own_ended z is has other)
        | inr another ↦ ended_by z (follows.in_hand (who z) z another.1) has other
      ];
      commits_pulled = λ k z in_hand has copies ckpt. elim (put_who-cases n.in_hand (who s) (left end then_state) (who z) z in_hand) [
        | inl own_hand ↦ (let (none, is) = left_state end z own_hand.1 in own_pulled k z none is has copies ckpt)
        | inr another ↦ goes_on_other k (driver_of z) (commits_by_hand k z (follows.in_hand (who z) z another.1) has copies ckpt)
      ];
    }
      where
        -- of the call that takes the step
        as_own : (z : CallState) → then_state ≡ z → (has : HasInHand then_machine z.call) → HasInHand then_machine s.call
        as_own z is has = record { name = has.name; state = has.state; held = has.held; snapshot = has.snapshot; there = has.there; effect = subst (λ d. HasEffect d has.snapshot.effects) (sym (ap (λ (z : CallState). z.call) is)) has.effect }

        own_ended : (z : CallState) → then_state ≡ z → (has : HasInHand then_machine z.call) → (IsCopyAsk (asked has.state.op) → ⊥) → ⊥
        own_ended z is has other = ended_by s held (as_own z is has) other

        own_pulled : (k : ℕ) (z : CallState) → end ≡ None → then_state ≡ z → (has : HasInHand then_machine z.call) → IsCopyAsk (asked has.state.op) → has.state.kept.ckpt ≡ Some k → HasCommitted n.cluster k (driver_of z)
        own_pulled k z none is has copies ckpt = subst (λ z. HasCommitted n.cluster k (driver_of z)) is (goes_on_own k none (commits_by_hand k s held (as_own z is has) copies ckpt))
