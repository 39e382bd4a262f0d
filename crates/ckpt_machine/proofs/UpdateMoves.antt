-- Each due step of an update at a node is allowed, and the invariant holds after it.
use Rattle.std.proofs.Common.{◌≡◌, ◌≢◌, ◌⊎◌, ℕ, ◌<◌, ◌≤◌, ◌+◌, inl, inr, List, [], ◌∷◌, ◌++◌, length, Option, Some, None, is_some, Bool, true, false, not, cond, ◌==◌, ◌&&◌, ◌||◌, Result, Ok, Err, ℤ, refl, sym, ap, subst, ◌∙◌, arith}
use Rattle.std.specs.Prelude.{IsSomeAnd, IsOk, slice_index, slice_set}
use Rattle.std.proofs.lemmas.Bool.{eqb-true}
use Rattle.std.proofs.lemmas.Option.{same_Some}
use Rattle.ckpt_types.specs.declared.ais_error.AisError.TheVariants.{TryAgain}
use Rattle.ckpt_types.specs.declared.answers.Answer.{Answer}
use Rattle.ckpt_types.specs.declared.answers.Answer.TheVariants as answers
use Rattle.ckpt_types.specs.declared.answers.Cause.TheVariants.{Holder}
use Rattle.ckpt_types.specs.declared.answers.Outcome.TheVariants.{Done, Refused}
use Rattle.ckpt_types.specs.declared.answers.Outcome.{Outcome}
use Rattle.ckpt_types.specs.declared.identities.CallId.{CallId}
use Rattle.ckpt_types.specs.declared.update.Update.{Update}
use Rattle.ckpt_types.specs.Asks.{update_of}
use Rattle.ckpt_types.specs.Sections.{Section}
use Rattle.ckpt_types.specs.Updates.{Refusal, outcome}
use Rattle.cluster_record.specs.declared.calls.UpdatePhase.{UpdatePhase}
use Rattle.cluster_record.specs.declared.calls.UpdatePhase.TheVariants.{Staging, Committing, Claiming, Claimed, Withdrawing, Resolving}
use Rattle.cluster_record.specs.declared.entries.Entry.{Entry}
use Rattle.cluster_record.specs.Calls.{same_call, left}
use Rattle.cluster_record.specs.DueUpdate.{UpdateState, kept_moment, by_phase, committing, free_phase}
use Rattle.cluster_record.specs.Places.{put2}
use Rattle.cluster_record.specs.RecordState.{entry_of, complete_of, is_live}
use Rattle.cluster_record.specs.StepDone.{StepDone, done_of, counting, has, lacks, first_lacking, last_having}
use Rattle.node_msgs.specs.declared.details.Details.{Details}
use Rattle.node_msgs.specs.declared.details.Details.TheVariants as beside
use Rattle.node_msgs.specs.declared.next.Next.{Next}
use Rattle.node_msgs.specs.declared.next.Next.TheVariants.{Serve}
use Rattle.node_msgs.specs.declared.replies.Reply.{Reply}
use Rattle.node_msgs.specs.declared.replies.Reply.TheVariants as replies
use Rattle.node_msgs.specs.declared.requests.Request.{Request}
use Rattle.node_msgs.specs.declared.requests.Request.TheVariants as requests
use Rattle.node_msgs.specs.declared.steps.Verb.TheVariants as verbs
use Rattle.node_msgs.specs.declared.steps.StepReply.TheVariants as words
use Rattle.node_msgs.specs.Requests.{ckpt_of}
use Rattle.node_msgs.specs.Steps.{verb_of, word_of}
use Rattle.node_core.specs.Seen.{record_seen}
use Rattle.node_core.specs.Serving.{reply_at, details_at, stage_reply, claim_reply, done_or_refused, update_answer, commit_answer, told_id, slot_id}
use Rattle.ckpt_machine.specs.Complete.{complete_replicas, replicas_from}
use Rattle.ckpt_machine.specs.Dead.{IsDead}
use Rattle.ckpt_machine.specs.Drivers.{update_in}
use Rattle.ckpt_machine.specs.Driving.{done_end, driver_taken, refused_cause}
use Rattle.ckpt_machine.specs.GuardTerms.{OnAll, owned_elsewhere, owns_slot}
use Rattle.ckpt_machine.specs.UpdateGuards.{HasSlotOrEffect, ends_update, StageOk, StageRefused, StageHeld, StageRow, ClaimOk, ClaimFree, ClaimRow, WithdrawOk, WithdrawRow, CommitOk, CommitRow}
use Rattle.ckpt_machine.specs.Guards.{AsksUpdate}
use Rattle.ckpt_machine.specs.InHand.{IsToCommit, IsUpdateIn, PhaseKeeps}
use Rattle.ckpt_machine.specs.Invariant.{InvariantIn, Invariant}
use Rattle.ckpt_machine.specs.Machine.{Machine, Applied, Staged, ReplicaState, CallState, who}
use Rattle.cluster_record.specs.Placement.{is_all}
use Rattle.ckpt_machine.specs.Shape.{Shape, IsCompleteOn, IsShaped, AreOwn, IsStaging, IsCommitting, IsClaimed, IsSettling, is_owner, IsOwner, IsLeft, IsSpread, PhaseFits, slot_by}
use Rattle.ckpt_machine.specs.Due.{Told, IsServed, IsDone, driver_of, payload_due, details_due, ended_details, count_in}
use Rattle.ckpt_machine.specs.After.{committed_slot, change_replica, with_claim, without_slot, with_committed, with_slot, staged_moment, left_in_hand, kept_behind}
use Rattle.ckpt_machine.specs.Seen.{seen, seen_at, seen_by, seen_slot}
use Rattle.ckpt_machine.specs.Whose.{put_who}
use Rattle.ckpt_machine.proofs.Actors.{same_call-true, same_call-refl, same_call-false}
use Rattle.ckpt_machine.proofs.BehindStep.{IsOwnCommit, resolving_apart}
use Rattle.ckpt_machine.proofs.DueStep.{Goes}
use Rattle.ckpt_machine.proofs.NodeLists.{elsewhere-is, first_complete-some, index-within, index-set, index-other, length-slice_set, has-none, first_lacking-is, first_lacking-None, last_having-is, lacked-has, had-there, not-lacked, trichotomy}
use Rattle.ckpt_machine.proofs.OnComplete.{IfSome-more, on_complete}
use Rattle.ckpt_machine.proofs.OptionLemmas.{IsSomeAnd-from}
use Rattle.ckpt_machine.proofs.Owning.{spread, replica_at, all_is, owns_had, own_phase, own_owner, is_owner-here}
use Rattle.ckpt_machine.specs.Left.{afresh, claiming_left, is_third, lacking, having, steps_left, update_left, update_left_by}
use Rattle.ckpt_machine.proofs.StepsLeft.{Settles, Stages, afresh_left, claim_nearer, claims_left, first_stage_nearer, freed_nearer, having-committed, having-none, having-some, having-staged, lacking-gone, lacking-set, later_stage_nearer, let_go_nearer, met_nearer, settled_nearer, third_nearer}
use Rattle.ckpt_machine.proofs.UpdateNearer.{left_is, left_now, met, met_is, none_met}
use Rattle.ckpt_machine.proofs.StagedMoment.{moment_later}
use Rattle.ckpt_machine.proofs.StepLabels.{served_end, served_told, IsServed-told}
use Rattle.ckpt_machine.proofs.Claim.{claim_ok, claim_keeps}
use Rattle.ckpt_machine.proofs.Commit.{committed, committed_state, commit_keeps, last_commit_keeps}
use Rattle.ckpt_machine.proofs.Resolve.{withdraw_ok, withdraw_keeps, resolve_ok, resolve_keeps}
use Rattle.ckpt_machine.proofs.Stage.{first_stage_ok, first_stage_keeps, later_stage_ok, later_stage_keeps}
use Rattle.ckpt_machine.proofs.Turns.{owns_none, end_keeps, free_ok, free_keeps, claim_held_keeps, stage_held_keeps, free_at_once_keeps, held_ok}
use Rattle.ckpt_machine.proofs.UpdateIn.{no_enter}
use Rattle.ckpt_machine.proofs.UpdatesBy.{GoesByUpdate, IsThen, asks_update, commits_as, never_ends}

module _ (m : Machine) (shapes : ℕ → Shape) (inv : InvariantIn shapes m) (s : CallState) (u : UpdateState) (held : m.in_hand (who s) ≡ Some s) (is : update_in (driver_of s) ≡ Some u) (at : IsUpdateIn m shapes s u) where
  abbrev z : Shape
  z = shapes u.ckpt

  call_is : u.call ≡ s.call
  call_is = at.call

  module _ (e : Entry) (found : entry_of u.ckpt m.cluster.entries ≡ Some e) (by : GoesByUpdate m shapes s u e) where
    abbrev was : IsSpread m u.ckpt z e
    was = spread m shapes inv s u held is at e found

    abbrev last : Option ℕ
    last = last_having 0 e.complete u.owned

    same_length : length u.owned ≡ length e.complete
    same_length = at.nodes ∙ sym was.nodes

    seen_is : (q : ℕ) (x : ReplicaState) → m.replicas u.ckpt q ≡ Some x → seen_at m u.ckpt q ≡ Some (seen u.ckpt e.attributes x)
    seen_is q x there = ap (λ o. seen_by u.ckpt o (m.replicas u.ckpt q)) found ∙ ap (seen_by u.ckpt (Some e)) there

    on_all : (q : ℕ) (x : ReplicaState) (P : Entry → ReplicaState → Type 0) → m.replicas u.ckpt q ≡ Some x → P e x → OnAll m u.ckpt q P
    on_all q x P there p = IsSomeAnd-from (entry_of u.ckpt m.cluster.entries) _ e found (IsSomeAnd-from (m.replicas u.ckpt q) (λ x. (is_all e.attributes ≡ true) × P e x) x there (all_is m shapes inv s u held is at e found, p))

    none_at : last ≡ None → (f : Entry) → entry_of u.ckpt m.cluster.entries ≡ Some f → last_having 0 f.complete u.owned ≡ None
    none_at none f f_found = subst (λ (g : Entry). last_having 0 g.complete u.owned ≡ None) (same_Some e f (sym found ∙ f_found)) none

    abbrev L : ℕ
    L = lacking e.complete u.owned

    abbrev H : ℕ
    H = having e.complete u.owned

    -- where it is not to commit, it is not, whichever way the checkpoint is found
    everywhere : (IsToCommit z s.call e u.phase → ⊥) → (f : Entry) → entry_of u.ckpt m.cluster.entries ≡ Some f → IsToCommit z s.call f u.phase → ⊥
    everywhere apart f f_found = subst (λ (g : Entry). IsToCommit z s.call g u.phase → ⊥) (same_Some e f (sym found ∙ f_found)) apart

    -- the row of its step
    row_is : (P : Update → (Bool → Bool) → Type 0) → P (update_of s.op) by.ends → AsksUpdate m s P
    row_is = asks_update m s by.ends by.asks_for

    -- a served step that ends its call so
    ended_as : (request : Request) (r : ℕ) (answer : Reply) (end : Option Outcome) → served_end m s r request (driver_of s) answer ≡ end
        → served_told m s r request (driver_of s) answer ≡ record { verb = verb_of request; ckpt = Some (ckpt_of request); node = Some r; reply = word_of answer; end = end; details = ended_details end (details_due m s request r) }
    ended_as request r answer end is = λ i. record { verb = verb_of request; ckpt = Some (ckpt_of request); node = Some r; reply = word_of answer; end = is i; details = ended_details (is i) (details_due m s request r) }

    -- with no node it has none
    had_none : last ≡ None → H ≡ 0
    had_none none = having-none 0 e.complete u.owned same_length none

    -- with a slot it has some
    had_some : (p : ℕ) → z.owners p ≡ Some s.call → 1 ≤ H
    had_some p owns = having-some e.complete u.owned p same_length (at.owns e found p (was.complete p s.call owns) ∙ is_owner-here s.call (z.owners p) owns)

    -- ---- a claim

    module _ (r : ℕ) (lacked : lacks (slice_index e.complete r) (slice_index u.owned r) ≡ true) (before : (q : ℕ) → q < r → lacks (slice_index e.complete q) (slice_index u.owned q) ≡ false) (first_r : first_lacking 0 e.complete u.owned ≡ Some r) (x : ReplicaState) (there : m.replicas u.ckpt r ≡ Some x) (t : Told) where
      full : IsCompleteOn e r
      full = (lacked-has (slice_index e.complete r) (slice_index u.owned r) lacked).0

      not_own : is_owner s.call (z.owners r) ≡ false
      not_own = sym (at.owns e found r full) ∙ (lacked-has (slice_index e.complete r) (slice_index u.owned r) lacked).1

      -- with a slot there it lacks one node fewer
      one_fewer : lacking e.complete (slice_set u.owned r (slice_index e.complete r)) + 1 ≡ L
      one_fewer = lacking-set e.complete u.owned r same_length lacked

      one_more : having e.complete (slice_set u.owned r (slice_index e.complete r)) ≡ H + 1
      one_more = having-staged e.complete u.owned r same_length lacked

      lacks_some : 1 ≤ L
      lacks_some = omega (arith, one_fewer)

      -- so it is not to commit, where it stages
      stages_apart : Stages u.phase → IsToCommit z s.call e u.phase → ⊥
      stages_apart (inl staging) it = let owns : z.owners r ≡ Some s.call = subst (IsToCommit z s.call e) staging it r full in let w : false ≡ true = sym not_own ∙ is_owner-here s.call (z.owners r) owns in cc w
      stages_apart (inr (inl phase)) it = subst (IsToCommit z s.call e) phase it
      stages_apart (inr (inr (inl phase))) it = subst (IsToCommit z s.call e) phase it
      stages_apart (inr (inr (inr phase))) it = subst (IsToCommit z s.call e) phase it

      -- the owner that it meets
      meets : (o : Option CallId) → IsShaped z o x → met m shapes inv s u held is at e found ≡ o
      meets None shaped = met_is m shapes inv s u held is at e found r x None first_r there shaped.slot
      meets (Some d) shaped = met_is m shapes inv s u held is at e found r x (slot_by z (Some d)) first_r there shaped.slot

      -- where it claims, so many steps are left
      abbrev Claims : Type 0
      Claims = ((u.phase ≡ Claimed) × (1 ≤ H)) ⊎ (u.phase ≡ Claiming)

      claims_apart : Claims → IsToCommit z s.call e u.phase → ⊥
      claims_apart (inl claimed) it = subst (IsToCommit z s.call e) claimed.0 it
      claims_apart (inr claiming) it = subst (IsToCommit z s.call e) claiming it

      claims_now : Claims → left_now m shapes inv s u held is at e found ≡ claiming_left L H (is_third u.owner (met m shapes inv s u held is at e found))
      claims_now claims = left_is m shapes inv s u held is at e found ∙ claims_left L H u.owner (met m shapes inv s u held is at e found) u.phase (omega (arith, lacks_some)) claims

      claims_by : (o : Option CallId) → IsShaped z o x → Claims → left_now m shapes inv s u held is at e found ≡ claiming_left L H (is_third u.owner o)
      claims_by o shaped claims = claims_now claims ∙ ap (λ w. claiming_left L H (is_third u.owner w)) (meets o shaped)

      -- and so many where it has no slot and stages
      stages_now : Stages u.phase → last ≡ None → (o : Option CallId) → IsShaped z o x → left_now m shapes inv s u held is at e found ≡ afresh L (is_some o)
      stages_now stages none o shaped = left_is m shapes inv s u held is at e found ∙ afresh_left L H u.owner (met m shapes inv s u held is at e found) u.phase stages lacks_some (had_none none) ∙ ap (λ w. afresh L (is_some w)) (meets o shaped)

      other_owner : (d : CallId) → z.owners r ≡ Some d → same_call d s.call ≡ false
      other_owner d owns = sym (ap (is_owner s.call) owns) ∙ not_own

      apart : (d : CallId) → z.owners r ≡ Some d → d ≢ s.call
      apart d owns same = let w : true ≡ false = sym (is_owner-here s.call (Some d) (ap Some same)) ∙ other_owner d owns in cc w

      abbrev to_claim : Request
      to_claim = requests.Claim u.call u.ckpt u.owner

      module _ (served : IsServed m s r to_claim t) where
        claim_answered : (w : Option Staged) → x.slot ≡ w → served.answer ≡ claim_reply u.call u.owner (length x.effects) (seen_slot (length x.effects) w)
        claim_answered w slot =
            served.may
            ∙ ap (reply_at to_claim (payload_due m s) (record_seen m.cluster u.ckpt r)) (seen_is r x there)
            ∙ ap (λ y. claim_reply u.call u.owner (length x.effects) (seen_slot (length x.effects) y)) slot

        claim_nothing : details_due m s to_claim r ≡ beside.Nothing
        claim_nothing = ap (details_at to_claim (payload_due m s) (record_seen m.cluster u.ckpt r)) (seen_is r x there)

        -- claimed
        claimed_moves : (d : CallId) (owns : z.owners r ≡ Some d) (dead : IsLeft m z d) (shaped : IsShaped z (Some d) x) (kept : IsDead m u.owner) → same_call d u.owner ≡ true → Claims → Goes m s (driver_of s) t
        claimed_moves d owns dead shaped kept same claims =
            let answer = claim_answered (slot_by z (Some d)) shaped.slot ∙ ap (λ b. cond b (replies.Claimed (length x.effects)) (replies.Held d)) ((λ i. same_call d u.call || same i) ∙ or_true (same_call d u.call)) in
            let told = IsServed-told m s r to_claim t (driver_of s) (replies.Claimed (length x.effects)) served refl answer in
            subst (Goes m s (driver_of s)) (sym told) (record {
              row = (row_is (λ update ends. ClaimRow m s u.ckpt r words.Ok None) (on_all r x (λ e x. ClaimOk m s.call None x) there (claim_ok m shapes inv s u held is at e found r full before d owns dead x there shaped)), refl);
              holds = subst (λ o. let n = change_replica m u.ckpt r o (with_claim s.call) in Invariant (left_in_hand n (record s { steps = counting (count_in o) (done_of n.cluster verbs.Claim (Some u.ckpt) (Some r) words.Ok) ∷ s.steps }) None)) (sym there)
                  (claim_leads d owns dead shaped kept (claims_apart claims));
              nearer = λ none. subst (λ o. let n = change_replica m u.ckpt r o (with_claim s.call) in steps_left n.cluster n.replicas (driver_taken (counting (count_in o) (done_of n.cluster verbs.Claim (Some u.ckpt) (Some r) words.Ok)) (driver_of s)) < steps_left m.cluster m.replicas (driver_of s)) (sym there)
                  (by.nearer (put2 m.replicas u.ckpt r (Some (with_claim s.call x))) (counting (length x.effects) (done_of m.cluster verbs.Claim (Some u.ckpt) (Some r) words.Ok)) (record u { owned = slice_set u.owned r (slice_index e.complete r); count = length x.effects; phase = Claimed })
                  (record { of = tt; update = ap (λ o. record u { owned = slice_set u.owned r (slice_index (complete_of o) r); count = length x.effects; phase = Claimed }) found; ckpt = refl })
                  (λ it. cc it) (claims_apart claims)
                  (claim_nearer L H _ _ u.owner (met m shapes inv s u held is at e found) _ _ (claims_now claims) one_fewer one_more));
            })
          where
            or_true : (b : Bool) → (b || true) ≡ true
            or_true true = refl
            or_true false = refl

            claim_leads : (d : CallId) (owns : z.owners r ≡ Some d) (dead : IsLeft m z d) (shaped : IsShaped z (Some d) x) → IsDead m u.owner → (IsToCommit z s.call e u.phase → ⊥) → Invariant (record m { replicas = put2 m.replicas u.ckpt r (Some (with_claim s.call x)); in_hand = put_who m.in_hand (who s) (Some (record s { steps = counting (length x.effects) (done_of m.cluster verbs.Claim (Some u.ckpt) (Some r) words.Ok) ∷ s.steps })) })
            claim_leads d owns dead shaped kept apart = claim_keeps m shapes inv s u held is at e found r full before d owns dead x there shaped kept by.placed apart

        -- no slot stands
        free_moves : z.owners r ≡ None → IsShaped z None x → ((u.phase ≡ Claimed) × (1 ≤ H)) ⊎ ((u.phase ≡ Claiming) × (last ≡ None)) → Goes m s (driver_of s) t
        free_moves free shaped phase =
            let told = IsServed-told m s r to_claim t (driver_of s) (replies.Free (length x.effects)) served refl (claim_answered None shaped.slot) in
            subst (Goes m s (driver_of s)) (sym told) (record {
              row = (row_is (λ update ends. ClaimRow m s u.ckpt r (words.Free (length x.effects)) None) (on_all r x (λ e x'. ClaimFree (length x.effects) None x') there (free_ok m shapes inv s u held is at e found r full before free x shaped)), refl);
              holds = by_phase_of phase;
              nearer = λ none. nearer_by phase;
            })
          where
            not_settling : (b : Bool) → free_phase Claimed b ≢ Committing
            not_settling true is = cc is
            not_settling false is = cc is

            nearer_by : ((u.phase ≡ Claimed) × (1 ≤ H)) ⊎ ((u.phase ≡ Claiming) × (last ≡ None)) → steps_left m.cluster m.replicas (driver_taken (done_of m.cluster verbs.Claim (Some u.ckpt) (Some r) (words.Free (length x.effects))) (driver_of s)) < steps_left m.cluster m.replicas (driver_of s)
            nearer_by (inl claimed) = by.nearer m.replicas (done_of m.cluster verbs.Claim (Some u.ckpt) (Some r) (words.Free (length x.effects))) (record u { phase = free_phase Claimed (length x.effects == u.count) })
                (record { of = tt; update = ap (λ ph. record u { phase = free_phase ph (length x.effects == u.count) }) claimed.0; ckpt = refl })
                (not_settling (length x.effects == u.count)) (claims_apart (inl claimed))
                (settled_nearer L H u.owner (met m shapes inv s u held is at e found) _ (length x.effects == u.count) (claims_now (inl claimed)) lacks_some claimed.1)
            nearer_by (inr claiming) = by.nearer m.replicas (done_of m.cluster verbs.Claim (Some u.ckpt) (Some r) (words.Free (length x.effects))) (record u { phase = Staging })
                (record { of = tt; update = ap (λ ph. record u { phase = free_phase ph (length x.effects == u.count) }) claiming.0; ckpt = refl })
                (λ it. cc it) (claims_apart (inr claiming.0))
                (subst (λ o. update_left_by L H u.owner o Staging < left_now m shapes inv s u held is at e found) (sym (meets None shaped)) (freed_nearer L H u.owner _ (claims_by None shaped (inr claiming.0)) lacks_some (had_none claiming.1)))

            by_phase_of : ((u.phase ≡ Claimed) × (1 ≤ H)) ⊎ ((u.phase ≡ Claiming) × (last ≡ None)) → Invariant (record m { in_hand = put_who m.in_hand (who s) (Some (record s { steps = done_of m.cluster verbs.Claim (Some u.ckpt) (Some r) (words.Free (length x.effects)) ∷ s.steps })) })
            by_phase_of (inl claimed) = free_keeps m shapes inv s u held is at e found r full before free x shaped by.placed claimed.0
            by_phase_of (inr claiming) = free_at_once_keeps m shapes inv s u held is at by.placed (everywhere (claims_apart (inr claiming.0))) (done_of m.cluster verbs.Claim (Some u.ckpt) (Some r) (words.Free (length x.effects))) tt s.call
                (ap (λ ph. record u { phase = free_phase ph (length x.effects == u.count) }) claiming.0) (none_at claiming.1)

        -- a third call's
        claim_held_told : (d : CallId) → z.owners r ≡ Some d → IsShaped z (Some d) x → same_call d u.owner ≡ false → (b : Bool) → is_live m.cluster d ≡ b
            → t ≡ record { verb = verbs.Claim; ckpt = Some u.ckpt; node = Some r; reply = words.Held d; end = cond b (Some (Refused TryAgain (Holder d))) None; details = beside.Nothing }
        claim_held_told d owns shaped third b live =
            let not_mine : same_call d u.call ≡ false = ap (same_call d) call_is ∙ other_owner d owns in
            let answer = claim_answered (slot_by z (Some d)) shaped.slot ∙ ap (λ c. cond c (replies.Claimed (length x.effects)) (replies.Held d)) (λ i. not_mine i || third i) in
            IsServed-told m s r to_claim t (driver_of s) (replies.Held d) served refl answer
            ∙ (λ i. record { verb = verbs.Claim; ckpt = Some u.ckpt; node = Some r; reply = words.Held d; end = cond (live i) (Some (Refused TryAgain (Holder d))) None; details = ended_details (cond (live i) (Some (Refused TryAgain (Holder d))) None) (claim_nothing i) })
            ∙ ap (λ o. record { verb = verbs.Claim; ckpt = Some u.ckpt; node = Some r; reply = words.Held d; end = cond b (Some (Refused TryAgain (Holder d))) None; details = o }) (ended-nothing (cond b (Some (Refused TryAgain (Holder d))) None))
          where
            ended-nothing : (o : Option Outcome) → ended_details o beside.Nothing ≡ beside.Nothing
            ended-nothing None = refl
            ended-nothing (Some end) = refl

        not_committing : (u.phase ≡ Claiming) ⊎ (u.phase ≡ Claimed) → u.phase ≢ Committing
        not_committing (inl claiming) is = let w : Claiming ≡ Committing = sym claiming ∙ is in cc w
        not_committing (inr claimed) is = let w : Claimed ≡ Committing = sym claimed ∙ is in cc w

        third_moves : (d : CallId) → z.owners r ≡ Some d → IsShaped z (Some d) x → same_call d u.owner ≡ false → IsDead m d → (u.phase ≡ Claiming) ⊎ (u.phase ≡ Claimed) → Claims → Goes m s (driver_of s) t
        third_moves d owns shaped third dead phase claims =
            subst (Goes m s (driver_of s)) (sym (claim_held_told d owns shaped third false dead.gone)) (record {
              row = (row_is (λ update ends. ClaimRow m s u.ckpt r (words.Held d) None) (on_all r x (λ e x. StageHeld m s.call d None x) there (held_ok m shapes inv s u held is at d x (subst (λ o. IsSomeAnd o (λ slot. slot.owner ≡ d)) (sym shaped.slot) refl) dead)), refl);
              holds = claim_held_keeps m shapes inv s u held is at by.placed (everywhere (claims_apart claims)) (done_of m.cluster verbs.Claim (Some u.ckpt) (Some r) (words.Held d)) tt d refl phase dead;
              nearer = λ none. by.nearer m.replicas (done_of m.cluster verbs.Claim (Some u.ckpt) (Some r) (words.Held d)) (record u { owner = d }) (record { of = tt; update = refl; ckpt = refl })
                  (not_committing phase) (claims_apart claims)
                  (third_nearer L H u.owner d _ _ third (claims_by (Some d) shaped claims) (claims_left L H d (met m shapes inv s u held is at e found) u.phase (omega (arith, lacks_some)) claims ∙ ap (λ w. claiming_left L H (is_third d w)) (meets (Some d) shaped)));
            })

        live_moves : (d : CallId) → z.owners r ≡ Some d → IsShaped z (Some d) x → same_call d u.owner ≡ false → is_live m.cluster d ≡ true → last ≡ None → Goes m s (driver_of s) t
        live_moves d owns shaped third live none =
            subst (Goes m s (driver_of s)) (sym (claim_held_told d owns shaped third true live)) (record {
              row = (
                row_is (λ update ends. ClaimRow m s u.ckpt r (words.Held d) (Some (Refused TryAgain (Holder d))))
                    (on_all r x (λ e x. StageHeld m s.call d (Some (Refused TryAgain (Holder d))) x) there (record {
                      owner = subst (λ o. IsSomeAnd o (λ slot. slot.owner ≡ d)) (sym shaped.slot) refl;
                      another = other_owner d owns;
                      answer = sym (ap (λ b. cond b (Some (Refused TryAgain (Holder d))) None) live);
                    })),
                refl,
              );
              holds = end_keeps m shapes inv s u held is at (none_at none);
              nearer = λ none. absurd (cc none);
            })

        -- where it owns a slot, no other live call owns this one
        no_live : (p : ℕ) → z.owners p ≡ Some s.call → (d : CallId) → z.owners r ≡ Some d → IsOwner m u.ckpt z d → ⊥
        no_live p owns_p d owns own = elim (trichotomy p r) [
          | inl below ↦ apart d owns (same_Some d s.call (sym (was.first p r d below (was.complete p s.call owns_p) owns own) ∙ owns_p))
          | inr other ↦ elim other [
            | inl same ↦ apart d owns (same_Some d s.call (sym owns ∙ ap z.owners (sym same) ∙ owns_p))
            | inr above ↦ apart d owns (same_Some d s.call (sym owns ∙ was.first r p s.call above full owns_p (own_owner m shapes inv s u held is at e found p owns_p)))
          ]
        ]

        -- by whose slot stands
        claim_moves : IsDead m u.owner → (o : Option CallId) → z.owners r ≡ o → IsShaped z o x → ((u.phase ≡ Claimed) × ((p : ℕ) × (z.owners p ≡ Some s.call))) ⊎ ((u.phase ≡ Claiming) × (last ≡ None)) → Goes m s (driver_of s) t
        claim_moves kept None free shaped phase = free_moves free shaped (elim phase [ inl it ↦ inl (it.0, had_some it.1.0 it.1.1) | inr it ↦ inr it ])
        claim_moves kept (Some d) owns shaped phase = by_owner (was.owned r d owns) (same_call d u.owner) refl
          where
            claims : Claims
            claims = elim phase [ inl it ↦ inl (it.0, had_some it.1.0 it.1.1) | inr it ↦ inr it.0 ]

            owner_live : IsOwner m u.ckpt z d → is_live m.cluster d ≡ true
            owner_live own = ap (is_live m.cluster) (sym own.call_is) ∙ (inv.hands (who own.state) own.state own.in_hand).live (no_enter (driver_of own.state) own.driver own.driver_is)

            by_owner : IsOwner m u.ckpt z d ⊎ IsLeft m z d → (b : Bool) → same_call d u.owner ≡ b → Goes m s (driver_of s) t
            by_owner (inr dead) true same = claimed_moves d owns dead shaped kept same claims
            by_owner (inr dead) false third = third_moves d owns shaped third dead.0 (elim phase [ inl it ↦ inr it.0 | inr it ↦ inl it.0 ]) claims
            by_owner (inl own) true same = absurd (let w : true ≡ false = sym (owner_live own) ∙ ap (is_live m.cluster) (same_call-true d u.owner same) ∙ kept.gone in cc w)
            by_owner (inl own) false third = elim phase [
              | inl it ↦ absurd (no_live it.1.0 it.1.1 d owns own)
              | inr it ↦ live_moves d owns shaped third (owner_live own) it.1
            ]

      -- ---- a stage

      abbrev moment : ℤ
      moment = kept_moment last m.cluster.moment u.moment

      abbrev to_stage : Request
      to_stage = requests.Stage u.call u.ckpt moment

      abbrev Gives : Result (List Section) Refusal → Type 0
      Gives result = outcome e.attributes (update_of s.op) moment x.sections ≡ result

      module _ (served : IsServed m s r to_stage t) where
        stage_answered : (w : Option Staged) → x.slot ≡ w → served.answer ≡ stage_reply (outcome e.attributes (update_of s.op) moment x.sections) (seen_slot (length x.effects) w)
        stage_answered w slot =
            served.may
            ∙ ap (reply_at to_stage (payload_due m s) (record_seen m.cluster u.ckpt r)) (seen_is r x there)
            ∙ ap (λ y. stage_reply (outcome e.attributes (update_of s.op) moment x.sections) (seen_slot (length x.effects) y)) slot

        stage_nothing : details_due m s to_stage r ≡ beside.Nothing
        stage_nothing = ap (details_at to_stage (payload_due m s) (record_seen m.cluster u.ckpt r)) (seen_is r x there)

        -- held off
        stage_held_told : (d : CallId) → x.slot ≡ slot_by z (Some d) → (b : Bool) → is_live m.cluster d ≡ b
            → t ≡ record { verb = verbs.Stage; ckpt = Some u.ckpt; node = Some r; reply = words.Held d; end = cond b (Some (Refused TryAgain (Holder d))) None; details = beside.Nothing }
        stage_held_told d slot b live =
            IsServed-told m s r to_stage t (driver_of s) (replies.Held d) served refl (stage_answered _ slot)
            ∙ (λ i. record { verb = verbs.Stage; ckpt = Some u.ckpt; node = Some r; reply = words.Held d; end = cond (live i) (Some (Refused TryAgain (Holder d))) None; details = ended_details (cond (live i) (Some (Refused TryAgain (Holder d))) None) (stage_nothing i) })
            ∙ ap (λ o. record { verb = verbs.Stage; ckpt = Some u.ckpt; node = Some r; reply = words.Held d; end = cond b (Some (Refused TryAgain (Holder d))) None; details = o }) (ended-nothing (cond b (Some (Refused TryAgain (Holder d))) None))
          where
            ended-nothing : (o : Option Outcome) → ended_details o beside.Nothing ≡ beside.Nothing
            ended-nothing None = refl
            ended-nothing (Some end) = refl

        stage_held_moves : Stages u.phase → (d : CallId) → z.owners r ≡ Some d → IsShaped z (Some d) x → last ≡ None → IsOwner m u.ckpt z d ⊎ IsLeft m z d → Goes m s (driver_of s) t
        stage_held_moves stages d owns shaped none (inl own) =
            let live : is_live m.cluster d ≡ true = ap (is_live m.cluster) (sym own.call_is) ∙ (inv.hands (who own.state) own.state own.in_hand).live (no_enter (driver_of own.state) own.driver own.driver_is) in
            subst (Goes m s (driver_of s)) (sym (stage_held_told d shaped.slot true live)) (record {
              row = (
                row_is (λ update ends. StageRow m s update u.ckpt r (words.Held d) (Some (Refused TryAgain (Holder d))))
                    (on_all r x (λ e x. StageHeld m s.call d (Some (Refused TryAgain (Holder d))) x) there (record {
                      owner = subst (λ o. IsSomeAnd o (λ slot. slot.owner ≡ d)) (sym shaped.slot) refl;
                      another = other_owner d owns;
                      answer = sym (ap (λ b. cond b (Some (Refused TryAgain (Holder d))) None) live);
                    })),
                refl,
              );
              holds = end_keeps m shapes inv s u held is at (none_at none);
              nearer = λ none. absurd (cc none);
            })
        stage_held_moves stages d owns shaped none (inr dead) =
            subst (Goes m s (driver_of s)) (sym (stage_held_told d shaped.slot false dead.0.gone)) (record {
              row = (row_is (λ update ends. StageRow m s update u.ckpt r (words.Held d) None) (on_all r x (λ e x. StageHeld m s.call d None x) there (held_ok m shapes inv s u held is at d x (subst (λ o. IsSomeAnd o (λ slot. slot.owner ≡ d)) (sym shaped.slot) refl) dead.0)), refl);
              holds = stage_held_keeps m shapes inv s u held is at by.placed (everywhere (stages_apart stages)) (done_of m.cluster verbs.Stage (Some u.ckpt) (Some r) (words.Held d)) tt d refl dead.0 (none_at none);
              nearer = λ goes_on. by.nearer m.replicas (done_of m.cluster verbs.Stage (Some u.ckpt) (Some r) (words.Held d)) (record u { phase = Claiming; owner = d }) (record { of = tt; update = refl; ckpt = refl })
                  (λ it. cc it) (stages_apart stages)
                  (subst (λ w. update_left_by L H d w Claiming < left_now m shapes inv s u held is at e found) (sym (meets (Some d) shaped)) (met_nearer L H d _ (stages_now stages none (Some d) shaped) lacks_some (had_none none)));
            })

        -- refused by the sections
        refused_moves : (why : Refusal) → last ≡ None → x.slot ≡ None → Gives (Err why) → Goes m s (driver_of s) t
        refused_moves why none slot gives =
            let told = IsServed-told m s r to_stage t (driver_of s) (replies.Refused why.error why.index) served refl (stage_answered None slot ∙ ap (done_or_refused (replies.Done answers.Nothing)) gives) in
            subst (Goes m s (driver_of s)) (sym told) (record {
              row = (
                row_is (λ update ends. StageRow m s update u.ckpt r words.Refused (Some (Refused why.error (refused_cause s.op why.index))))
                    (on_all r x (StageRefused m s (update_of s.op) u.ckpt (Some (Refused why.error (refused_cause s.op why.index)))) there (record {
                      free = slot;
                      none_own = on_complete m u.ckpt e found (λ y. owns_slot s.call y.slot ≡ false) (λ q full_q. IfSome-more (m.replicas u.ckpt q) (λ y. IsShaped z (z.owners q) y) (λ y. owns_slot s.call y.slot ≡ false)
                          (λ y it. ap (owns_slot s.call) it.slot ∙ none_owns q (z.owners q) refl) (shaped_here q full_q));
                      why = why;
                      refused = ap (λ l. outcome e.attributes (update_of s.op) (kept_moment l m.cluster.moment u.moment) x.sections) (sym none) ∙ gives;
                      answer = refl;
                    })),
                stage_nothing,
              );
              holds = end_keeps m shapes inv s u held is at (none_at none);
              nearer = λ none. absurd (cc none);
            })
          where
            none_owns : (q : ℕ) (o : Option CallId) → z.owners q ≡ o → owns_slot s.call (slot_by z o) ≡ false
            none_owns q None owns = refl
            none_owns q (Some d) owns = same_call-false d s.call (λ same. owns_none m shapes inv s u held is at e found none q (owns ∙ ap Some same))

            shaped_here : (q : ℕ) → IsCompleteOn e q → IsSomeAnd (m.replicas u.ckpt q) (IsShaped z (z.owners q))
            shaped_here q full_q = let (y, y_is, by) = replica_at m shapes inv s u held is at e found q full_q in IsSomeAnd-from (m.replicas u.ckpt q) (IsShaped z (z.owners q)) y y_is by

        -- a stage that is done ends nothing
        abbrev stage_step : StepDone
        stage_step = done_of m.cluster verbs.Stage (Some u.ckpt) (Some r) words.Ok

        abbrev staged_then : UpdateState
        staged_then = record u { owned = slice_set u.owned r (slice_index e.complete r); moment = moment; phase = Staging }

        staged_is : IsThen u stage_step staged_then
        staged_is = record { of = tt; update = ap (λ o. record u { owned = slice_set u.owned r (slice_index (complete_of o) r); moment = kept_moment (last_having 0 (complete_of o) u.owned) m.cluster.moment u.moment; phase = Staging }) found; ckpt = refl }

        staged_on : Stages u.phase → served_told m s r to_stage (driver_of s) (replies.Done answers.Nothing) ≡ record { verb = verbs.Stage; ckpt = Some u.ckpt; node = Some r; reply = words.Ok; end = None; details = beside.Nothing }
        staged_on stages = ended_as to_stage r (replies.Done answers.Nothing) None (by.goes_on stage_step staged_then answers.Nothing staged_is (λ it. cc it) (stages_apart stages))

        -- staged for the first time
        first_moves : Stages u.phase → (sections : List Section) → z.owners r ≡ None → IsShaped z None x → last ≡ None → Gives (Ok sections) → Goes m s (driver_of s) t
        first_moves stages sections free shaped none gives =
            let at_now : outcome e.attributes (update_of s.op) m.cluster.moment x.sections ≡ Ok sections = ap (λ l. outcome e.attributes (update_of s.op) (kept_moment l m.cluster.moment u.moment) x.sections) (sym none) ∙ gives in
            let told = IsServed-told m s r to_stage t (driver_of s) (replies.Done answers.Nothing) served refl (stage_answered None shaped.slot ∙ ap (done_or_refused (replies.Done answers.Nothing)) gives) in
            subst (Goes m s (driver_of s)) (sym (told ∙ staged_on stages)) (record {
              row = (row_is (λ update ends. StageRow m s update u.ckpt r words.Ok None) (on_all r x (StageOk m s.call (update_of s.op) u.ckpt) there (first_stage_ok m shapes inv s u held is at e found r full before free none sections x there shaped at_now), refl), refl);
              holds = subst (λ o. let n = change_replica m u.ckpt r o (with_slot s.call (update_of s.op) (staged_moment m u.ckpt)) in Invariant (left_in_hand n (kept_behind m s n.cluster verbs.Stage (Some u.ckpt) (Some r) words.Ok) None)) (sym there)
                  (first_stage_keeps m shapes inv s u held is at e found r full before free none sections x there shaped at_now by.placed (stages_apart stages));
              nearer = λ goes_on. subst (λ o. let n = change_replica m u.ckpt r o (with_slot s.call (update_of s.op) (staged_moment m u.ckpt)) in steps_left n.cluster n.replicas (driver_taken (done_of n.cluster verbs.Stage (Some u.ckpt) (Some r) words.Ok) (driver_of s)) < steps_left m.cluster m.replicas (driver_of s)) (sym there)
                  (by.nearer (put2 m.replicas u.ckpt r (Some (with_slot s.call (update_of s.op) (staged_moment m u.ckpt) x))) stage_step staged_then staged_is (λ it. cc it) (stages_apart stages)
                  (first_stage_nearer L H _ _ u.owner _ _ (stages_now stages none None shaped) one_fewer (had_none none) one_more));
            })

        -- staged again
        later_moves : (p : ℕ) → last ≡ Some p → has (slice_index e.complete p) (slice_index u.owned p) ≡ true → u.phase ≡ Staging → z.owners r ≡ None → IsShaped z None x → Goes m s (driver_of s) t
        later_moves p some had staging free shaped =
            let ok = later_stage_ok m shapes inv s u held is at e found r full before free staging p some had x there shaped in
            subst (Goes m s (driver_of s)) (sym (told_of ok.fits ∙ staged_on stages)) (record {
              row = (row_is (λ update ends. StageRow m s update u.ckpt r words.Ok None) (on_all r x (StageOk m s.call (update_of s.op) u.ckpt) there ok, refl), refl);
              holds = subst (λ o. let n = change_replica m u.ckpt r o (with_slot s.call (update_of s.op) (staged_moment m u.ckpt)) in Invariant (left_in_hand n (kept_behind m s n.cluster verbs.Stage (Some u.ckpt) (Some r) words.Ok) None)) (sym there)
                  (later_stage_keeps m shapes inv s u held is at e found r full before free staging p some had x there shaped by.placed (stages_apart stages));
              nearer = λ goes_on. subst (λ o. let n = change_replica m u.ckpt r o (with_slot s.call (update_of s.op) (staged_moment m u.ckpt)) in steps_left n.cluster n.replicas (driver_taken (done_of n.cluster verbs.Stage (Some u.ckpt) (Some r) words.Ok) (driver_of s)) < steps_left m.cluster m.replicas (driver_of s)) (sym there)
                  (by.nearer (put2 m.replicas u.ckpt r (Some (with_slot s.call (update_of s.op) (staged_moment m u.ckpt) x))) stage_step staged_then staged_is (λ it. cc it) (stages_apart stages)
                  (later_stage_nearer L H _ _ u.owner u.owner (met m shapes inv s u held is at e found) _ _ (left_is m shapes inv s u held is at e found ∙ ap (update_left_by L H u.owner (met m shapes inv s u held is at e found)) staging) (having-some e.complete u.owned p same_length had) one_fewer one_more));
            })
          where
            stages : Stages u.phase
            stages = inl staging

            same_moment : staged_moment m u.ckpt ≡ moment
            same_moment = moment_later m shapes inv s u held is at e found staging p had ∙ sym (ap (λ l. kept_moment l m.cluster.moment u.moment) some)

            told_of : IsOk (outcome e.attributes (update_of s.op) (staged_moment m u.ckpt) x.sections) → t ≡ served_told m s r to_stage (driver_of s) (replies.Done answers.Nothing)
            told_of fits = by_result (outcome e.attributes (update_of s.op) moment x.sections) refl (subst (λ i. IsOk (outcome e.attributes (update_of s.op) i x.sections)) same_moment fits)
              where
                by_result : (result : Result (List Section) Refusal) → Gives result → IsOk result → t ≡ served_told m s r to_stage (driver_of s) (replies.Done answers.Nothing)
                by_result (Ok sections) gives fits = IsServed-told m s r to_stage t (driver_of s) (replies.Done answers.Nothing) served refl (stage_answered None shaped.slot ∙ ap (done_or_refused (replies.Done answers.Nothing)) gives)
                by_result (Err why) gives fits = absurd (cc fits)

        -- by whose slot stands, and by what the call has
        stage_moves : Stages u.phase → (last ≡ None) ⊎ ((u.phase ≡ Staging) × ((p : ℕ) × (last ≡ Some p) × (has (slice_index e.complete p) (slice_index u.owned p) ≡ true))) → (o : Option CallId) → z.owners r ≡ o → IsShaped z o x → Goes m s (driver_of s) t
        stage_moves stages (inl none) None free shaped = by_result (outcome e.attributes (update_of s.op) moment x.sections) refl
          where
            by_result : (result : Result (List Section) Refusal) → Gives result → Goes m s (driver_of s) t
            by_result (Ok sections) gives = first_moves stages sections free shaped none gives
            by_result (Err why) gives = refused_moves why none shaped.slot gives
        stage_moves stages (inl none) (Some d) owns shaped = stage_held_moves stages d owns shaped none (was.owned r d owns)
        stage_moves stages (inr it) None free shaped = later_moves it.1.0 it.1.1 it.1.2 it.0 free shaped
        stage_moves stages (inr it) (Some d) owns shaped = absurd (
            let owner_p = owns_had m shapes inv s u held is at e found it.1.0 (had-there (slice_index e.complete it.1.0) (slice_index u.owned it.1.0) it.1.2) it.1.2 in
            let fits : IsStaging z s u = subst (PhaseFits m z s u) it.0 (own_phase m shapes inv s u held is at e found (own_owner m shapes inv s u held is at e found it.1.0 owner_p)) in
            apart d owns (fits.alone r d owns))

    -- ---- at the highest node of the call

    module _ (r : ℕ) (had : has (slice_index e.complete r) (slice_index u.owned r) ≡ true) (behind : (q : ℕ) → r < q → has (slice_index e.complete q) (slice_index u.owned q) ≡ false) (x : ReplicaState) (there : m.replicas u.ckpt r ≡ Some x) (shaped : IsShaped z (Some s.call) x) (t : Told) where
      -- one slot fewer brings it nearer to its end
      one_gone : having e.complete (slice_set u.owned r 0) + 1 ≡ H
      one_gone = having-committed e.complete u.owned r same_length had

      go_nearer : (y : ReplicaState) → AreOwn z s.call → y.slot ≡ None → (ph : UpdatePhase) → Settles ph → Settles u.phase ⊎ (u.phase ≡ Claimed) → update_left e.complete (put2 m.replicas u.ckpt r (Some y) u.ckpt) (record u { owned = slice_set u.owned r 0; phase = ph }) < left_now m shapes inv s u held is at e found
      go_nearer y alone free ph then_settles settles = subst (λ (k : ℕ). update_left e.complete (put2 m.replicas u.ckpt r (Some y) u.ckpt) (record u { owned = slice_set u.owned r 0; phase = ph }) < k) (sym (left_is m shapes inv s u held is at e found))
          (let_go_nearer L H _ _ u.owner u.owner (met m shapes inv s u held is at e found) _ u.phase ph then_settles settles (lacking-gone e.complete u.owned r same_length had) one_gone (none_met m shapes inv s u held is at e found r y alone free))

      abbrev to_withdraw : Request
      to_withdraw = requests.Withdraw u.call u.ckpt

      abbrev withdrawn_then : UpdateState
      withdrawn_then = record u { owned = slice_set u.owned r 0; phase = Withdrawing }

      withdrawn_is : IsThen u (done_of m.cluster verbs.Withdraw (Some u.ckpt) (Some r) words.Ok) withdrawn_then
      withdrawn_is = record { of = tt; update = refl; ckpt = refl }

      withdraws_apart : u.phase ≡ Withdrawing → IsToCommit z s.call e u.phase → ⊥
      withdraws_apart phase it = subst (IsToCommit z s.call e) phase it

      -- withdrawn
      withdraw_moves : IsSettling m z s false → u.phase ≡ Withdrawing → IsServed m s r to_withdraw t → Goes m s (driver_of s) t
      withdraw_moves settles phase served =
          let answer : served.answer ≡ replies.Done answers.Nothing = served.may ∙ ap (reply_at to_withdraw (payload_due m s) (record_seen m.cluster u.ckpt r)) (seen_is r x there) in
          let told = IsServed-told m s r to_withdraw t (driver_of s) (replies.Done answers.Nothing) served refl answer in
          subst (Goes m s (driver_of s)) (sym (told ∙ ended_as to_withdraw r (replies.Done answers.Nothing) None (by.goes_on (done_of m.cluster verbs.Withdraw (Some u.ckpt) (Some r) words.Ok) withdrawn_then answers.Nothing withdrawn_is (λ it. cc it) (withdraws_apart phase)))) (record {
            row = (row_is (λ update ends. WithdrawRow m s u.ckpt r words.Ok None) (on_all r x (λ e x. WithdrawOk m s.call u.ckpt None x) there (withdraw_ok m shapes inv s u held is at e found r had behind x there shaped settles)), refl);
            holds = subst (λ o. let n = change_replica m u.ckpt r o without_slot in Invariant (left_in_hand n (kept_behind m s n.cluster verbs.Withdraw (Some u.ckpt) (Some r) words.Ok) None)) (sym there)
                (withdraw_keeps m shapes inv s u held is at e found r had behind x there shaped settles by.placed phase);
            nearer = λ goes_on. subst (λ o. let n = change_replica m u.ckpt r o without_slot in steps_left n.cluster n.replicas (driver_taken (done_of n.cluster verbs.Withdraw (Some u.ckpt) (Some r) words.Ok) (driver_of s)) < steps_left m.cluster m.replicas (driver_of s)) (sym there)
                (by.nearer (put2 m.replicas u.ckpt r (Some (without_slot x))) (done_of m.cluster verbs.Withdraw (Some u.ckpt) (Some r) words.Ok) withdrawn_then withdrawn_is (λ it. cc it) (withdraws_apart phase)
                (go_nearer (without_slot x) settles.alone refl Withdrawing (inl refl) (inl (inl phase))));
          })

      abbrev to_commit : Request
      to_commit = requests.Commit u.call u.ckpt

      abbrev commit_step : StepDone
      commit_step = done_of m.cluster verbs.Commit (Some u.ckpt) (Some r) words.Ok

      -- a commit that is not the last ends nothing
      never : by.ends false ≡ false
      never = never_ends m s by.ends by.asks_for

      commit_is : with_committed (entry_of u.ckpt m.cluster.entries) x ≡ committed_slot e.attributes x (Some (record { owner = s.call; origin = z.origin; update = z.update; moment = z.moment }))
      commit_is = ap (λ o. with_committed o x) found ∙ ap (committed_slot e.attributes x) shaped.slot

      commit_answered : (served : IsServed m s r to_commit t) → served.answer ≡ replies.Done (update_answer z.update)
      commit_answered served =
          served.may
          ∙ ap (reply_at to_commit (payload_due m s) (record_seen m.cluster u.ckpt r)) (seen_is r x there)
          ∙ ap (λ w. replies.Done (commit_answer (seen_slot (length x.effects) w))) shaped.slot

      -- a commit in Resolving
      resolve_moves : (origin : IsDead m z.origin) (alone : AreOwn z s.call) (rest : (z.done ≡ true) ⊎ ((q : ℕ) → IsCompleteOn e q → z.owners q ≡ Some s.call)) → committing u.phase ≡ Resolving → Settles u.phase ⊎ (u.phase ≡ Claimed) → IsServed m s r to_commit t → Goes m s (driver_of s) t
      resolve_moves origin alone rest phase settles served =
          let told = IsServed-told m s r to_commit t (driver_of s) (replies.Done (update_answer z.update)) served refl (commit_answered served) in
          let is_then : IsThen u commit_step (record u { owned = slice_set u.owned r 0; phase = Resolving }) = record { of = tt; update = ap (λ ph. record u { owned = slice_set u.owned r 0; phase = ph }) phase; ckpt = refl } in
          let apart : IsToCommit z s.call e u.phase → ⊥ = resolving_apart z s.call e u.phase phase in
          subst (Goes m s (driver_of s)) (sym (told ∙ ended_as to_commit r (replies.Done (update_answer z.update)) None (by.goes_on commit_step (record u { owned = slice_set u.owned r 0; phase = Resolving }) (update_answer z.update) is_then (λ it. cc it) apart))) (record {
            row = row_is (λ update ends. CommitRow m s.call update ends u.ckpt r words.Ok None beside.Nothing) (on_all r x (λ e x. CommitOk m s.call (update_of s.op) by.ends u.ckpt r None beside.Nothing x) there (resolve_ok m shapes inv s u held is at e found r had behind x there shaped origin alone rest phase by.ends never));
            holds = subst (λ o. let n = change_replica m u.ckpt r o (with_committed (entry_of u.ckpt m.cluster.entries)) in Invariant (left_in_hand n (kept_behind m s n.cluster verbs.Commit (Some u.ckpt) (Some r) words.Ok) None)) (sym there)
                (subst (λ y. Invariant (left_in_hand (record m { replicas = put2 m.replicas u.ckpt r (Some y) }) (kept_behind m s m.cluster verbs.Commit (Some u.ckpt) (Some r) words.Ok) None)) (sym commit_is)
                (resolve_keeps m shapes inv s u held is at e found r had behind x there shaped origin alone rest phase by.placed));
            nearer = λ goes_on. subst (λ o. let n = change_replica m u.ckpt r o (with_committed (entry_of u.ckpt m.cluster.entries)) in steps_left n.cluster n.replicas (driver_taken (done_of n.cluster verbs.Commit (Some u.ckpt) (Some r) words.Ok) (driver_of s)) < steps_left m.cluster m.replicas (driver_of s)) (sym there)
                (by.nearer (put2 m.replicas u.ckpt r (Some (with_committed (entry_of u.ckpt m.cluster.entries) x))) commit_step (record u { owned = slice_set u.owned r 0; phase = Resolving }) is_then (λ it. cc it) apart
                (go_nearer (with_committed (entry_of u.ckpt m.cluster.entries) x) alone (ap (λ (y : ReplicaState). y.slot) commit_is) Resolving (inr refl) settles));
          })

      -- ---- a commit of its own

      module _ (origin : z.origin ≡ s.call) (update : z.update ≡ update_of s.op) (alone : AreOwn z s.call) (rest : (z.done ≡ true) ⊎ ((q : ℕ) → IsCompleteOn e q → z.owners q ≡ Some s.call)) (phase : committing u.phase ≡ Committing) (own : IsOwnCommit e u) where
        abbrev left_then : Option ℕ
        left_then = last_having 0 e.complete (slice_set u.owned r 0)

        abbrev A : Answer
        A = update_answer (update_of s.op)

        abbrev own_slot : Staged
        own_slot = record { owner = s.call; origin = z.origin; update = z.update; moment = z.moment }

        full_here : IsCompleteOn e r
        full_here = had-there (slice_index e.complete r) (slice_index u.owned r) had

        within : r < length u.owned
        within = subst (λ (i : ℕ). r < i) (sym same_length) (index-within e.complete r full_here)

        shaped_at : (q : ℕ) → IsCompleteOn e q → IsSomeAnd (m.replicas u.ckpt q) (IsShaped z (z.owners q))
        shaped_at q full_q = let (y, y_is, by) = replica_at m shapes inv s u held is at e found q full_q in IsSomeAnd-from (m.replicas u.ckpt q) (IsShaped z (z.owners q)) y y_is by

        -- a replica without a slot has the update
        done_free : (q : ℕ) → IsCompleteOn e q → z.owners q ≡ None → z.done ≡ true
        done_free q full_q none = elim rest [
          | inl is_done ↦ is_done
          | inr all ↦ absurd (let w : None ≡ Some s.call = sym none ∙ all q full_q in cc w)
        ]

        has_it : (q : ℕ) → IsCompleteOn e q → (o : Option CallId) → z.owners q ≡ o → (y : ReplicaState) → IsShaped z o y → HasSlotOrEffect x own_slot y y.slot
        has_it q full_q None owns y it =
            subst (HasSlotOrEffect x own_slot y) (sym it.slot)
            (it.effects ∙ ap (λ b. cond b (z.effects ++ Applied z.origin z.update z.moment ∷ []) z.effects) (done_free q full_q owns) ∙ ap (λ es. es ++ Applied z.origin z.update z.moment ∷ []) (sym shaped.effects))
        has_it q full_q (Some d) owns y it = subst (HasSlotOrEffect x own_slot y) (sym it.slot) (refl, refl, refl, it.effects ∙ sym shaped.effects)

        owns_by : (o : Option CallId) → owns_slot s.call (slot_by z o) ≡ is_owner s.call o
        owns_by None = refl
        owns_by (Some d) = refl

        -- the slots that it has elsewhere are those of the nodes that it keeps
        elsewhere : owned_elsewhere s.call r (complete_replicas m u.ckpt) ≡ is_some left_then
        elsewhere =
            ap (λ o. owned_elsewhere s.call r (replicas_from (m.replicas u.ckpt) 0 (complete_of o))) found
            ∙ elsewhere-is s.call r (m.replicas u.ckpt) 0 e.complete (slice_set u.owned r 0) (length-slice_set u.owned r 0 ∙ same_length)
            (λ d full_d. subst (λ (j : ℕ). IsSomeAnd (m.replicas u.ckpt j) (λ y. (not (j == r) && owns_slot s.call y.slot) ≡ has (slice_index e.complete d) (slice_index (slice_set u.owned r 0) d))) (omega arith)
            (each d full_d (m.replicas u.ckpt d) (shaped_at d full_d)))
          where
            kept : (d : ℕ) → IsCompleteOn e d → (not (d == r) && is_owner s.call (z.owners d)) ≡ has (slice_index e.complete d) (slice_index (slice_set u.owned r 0) d)
            kept d full_d = elim (d == r) as (λ b. (d == r) ≡ b → (not b && is_owner s.call (z.owners d)) ≡ has (slice_index e.complete d) (slice_index (slice_set u.owned r 0) d)) [
              | true ↦ λ same. sym (ap (λ (p : ℕ). has (slice_index e.complete d) (slice_index (slice_set u.owned r 0) p)) (eqb-true d r same) ∙ ap (has (slice_index e.complete d)) (index-set u.owned r 0 within) ∙ has-none (slice_index e.complete d) full_d)
              | false ↦ λ other. sym (at.owns e found d full_d) ∙ sym (ap (has (slice_index e.complete d)) (index-other u.owned r d 0 other))
            ] refl

            each : (d : ℕ) → IsCompleteOn e d → (y : Option ReplicaState) → IsSomeAnd y (IsShaped z (z.owners d)) → IsSomeAnd y (λ y. (not (d == r) && owns_slot s.call y.slot) ≡ has (slice_index e.complete d) (slice_index (slice_set u.owned r 0) d))
            each d full_d None it = absurd it
            each d full_d (Some y) it = ap (λ w. not (d == r) && owns_slot s.call w) it.slot ∙ ap (λ b. not (d == r) && b) (owns_by (z.owners d)) ∙ kept d full_d

        ends : ends_update s.call r own_slot (complete_replicas m u.ckpt) ≡ not (is_some left_then)
        ends = ap (λ b. b && not (owned_elsewhere s.call r (complete_replicas m u.ckpt))) (ap (λ (c : CallId). same_call c s.call) origin ∙ same_call-refl s.call) ∙ ap not elsewhere

        -- how it ends the call
        abbrev E : Option Outcome
        E = commits_as s by.ends left_then

        details-by : (P : Details) (b : Bool) → ended_details (cond b (Some (Done A)) None) P ≡ cond b P beside.Nothing
        details-by P true = refl
        details-by P false = refl

        commit_ok : CommitOk m s.call (update_of s.op) by.ends u.ckpt r E (ended_details E (told_id (update_of s.op) z.moment x.sections)) x
        commit_ok = record {
          slot = own_slot;
          staged = shaped.slot;
          owner = refl;
          origin = inl origin;
          others = on_complete m u.ckpt e found (λ y. HasSlotOrEffect x own_slot y y.slot) (λ q full_q. IfSome-more (m.replicas u.ckpt q) (λ y. IsShaped z (z.owners q) y) (λ y. HasSlotOrEffect x own_slot y y.slot) (has_it q full_q (z.owners q) refl) (shaped_at q full_q));
          answer = ap (λ b. cond (by.ends b) (Some (Done A)) None) (sym ends);
          told = details-by (told_id (update_of s.op) z.moment x.sections) (by.ends (not (is_some left_then))) ∙ ap (λ b. cond (by.ends b) (told_id (update_of s.op) z.moment x.sections) beside.Nothing) (sym ends);
        }

        commit_leads : (l : Option ℕ) → left_then ≡ l → (b : Bool) → by.ends (not (is_some l)) ≡ b → Invariant (record m { replicas = put2 m.replicas u.ckpt r (Some (committed m shapes inv s u held is at e found r had behind x there shaped origin update alone rest phase by.placed own)); in_hand = put_who m.in_hand (who s) (left (cond b (Some (Done A)) None) (committed_state m shapes inv s u held is at e found r had behind x there shaped origin update alone rest phase by.placed own)) })
        commit_leads None none true ended = last_commit_keeps m shapes inv s u held is at e found r had behind x there shaped origin update alone rest phase by.placed own none
        commit_leads (Some p) some true ended = absurd (let w : true ≡ false = sym ended ∙ never in cc w)
        commit_leads l some false goes_on = commit_keeps m shapes inv s u held is at e found r had behind x there shaped origin update alone rest phase by.placed own

        abbrev committed_then : UpdateState
        committed_then = record u { owned = slice_set u.owned r 0; phase = Committing }

        committed_is : IsThen u commit_step committed_then
        committed_is = record { of = tt; update = ap (λ ph. record u { owned = slice_set u.owned r 0; phase = ph }) phase; ckpt = refl }

        own_commit_moves : IsServed m s r to_commit t → Goes m s (driver_of s) t
        own_commit_moves served =
            let told = IsServed-told m s r to_commit t (driver_of s) (replies.Done A) served refl (commit_answered served ∙ ap (λ v. replies.Done (update_answer v)) update) in
            let details : details_due m s to_commit r ≡ told_id (update_of s.op) z.moment x.sections
            = ap (details_at to_commit (payload_due m s) (record_seen m.cluster u.ckpt r)) (seen_is r x there) ∙ ap (λ w. slot_id x.sections (seen_slot (length x.effects) w)) shaped.slot ∙ ap (λ v. told_id v z.moment x.sections) update in
            let end : done_end m.cluster commit_step A (driver_taken commit_step (driver_of s)) ≡ E
            = by.commit_ends commit_step committed_then committed_is refl (ap complete_of found) refl own in
            subst (Goes m s (driver_of s)) (sym (told ∙ ended_as to_commit r (replies.Done A) E end ∙ ap (λ P. record { verb = verbs.Commit; ckpt = Some u.ckpt; node = Some r; reply = words.Ok; end = E; details = ended_details E P }) details)) (record {
              row = row_is (λ update ends. CommitRow m s.call update ends u.ckpt r words.Ok E (ended_details E (told_id (update_of s.op) z.moment x.sections))) (on_all r x (λ f y. CommitOk m s.call (update_of s.op) by.ends u.ckpt r E (ended_details E (told_id (update_of s.op) z.moment x.sections)) y) there commit_ok);
              holds = subst (λ o. let n = change_replica m u.ckpt r o (with_committed (entry_of u.ckpt m.cluster.entries)) in Invariant (left_in_hand n (kept_behind m s n.cluster verbs.Commit (Some u.ckpt) (Some r) words.Ok) E)) (sym there)
                  (subst (λ y. Invariant (left_in_hand (record m { replicas = put2 m.replicas u.ckpt r (Some y) }) (kept_behind m s m.cluster verbs.Commit (Some u.ckpt) (Some r) words.Ok) E)) (sym commit_is)
                  (commit_leads left_then refl (by.ends (not (is_some left_then))) refl));
              nearer = λ goes_on. subst (λ o. let n = change_replica m u.ckpt r o (with_committed (entry_of u.ckpt m.cluster.entries)) in steps_left n.cluster n.replicas (driver_taken (done_of n.cluster verbs.Commit (Some u.ckpt) (Some r) words.Ok) (driver_of s)) < steps_left m.cluster m.replicas (driver_of s)) (sym there)
                  (by.commit_goes (put2 m.replicas u.ckpt r (Some (with_committed (entry_of u.ckpt m.cluster.entries) x))) commit_step committed_then committed_is refl own (length-slice_set u.owned r 0 ∙ same_length) one_gone goes_on);
            })

    -- ---- any step at a node

    -- where it has some, it is at the highest
    at_last : (r : ℕ) → last ≡ Some r → (has (slice_index e.complete r) (slice_index u.owned r) ≡ true) × ((q : ℕ) → r < q → has (slice_index e.complete q) (slice_index u.owned q) ≡ false)
    at_last r some =
        let it = last_having-is 0 e.complete u.owned r same_length some in
        let here : r ≡ 0 + it.place = it.at in
        let same : it.place ≡ r = omega (arith, here) in
        (subst (λ (q : ℕ). has (slice_index e.complete q) (slice_index u.owned q) ≡ true) same it.had, λ q above. it.others q (let k : r < q = above in omega (arith, k, same)))

    at_first : (r : ℕ) → first_lacking 0 e.complete u.owned ≡ Some r → (lacks (slice_index e.complete r) (slice_index u.owned r) ≡ true) × ((q : ℕ) → q < r → lacks (slice_index e.complete q) (slice_index u.owned q) ≡ false)
    at_first r some =
        let it = first_lacking-is 0 e.complete u.owned r some in
        let here : r ≡ 0 + it.place = it.at in
        let same : it.place ≡ r = omega (arith, here) in
        (subst (λ (q : ℕ). lacks (slice_index e.complete q) (slice_index u.owned q) ≡ true) same it.lacked, λ q below. it.others q (let k : q < r = below in omega (arith, k, same)))

    -- the step is one at a node; looks are apart
    abbrev pub MovesAt : Next → Told → Type 0
    MovesAt (Serve r request) t = Goes m s (driver_of s) t
    MovesAt next t = Unit {0}

    -- where it has some slot, its phase fits
    phase_at : (p : ℕ) → last ≡ Some p → PhaseFits m z s u u.phase
    phase_at p some = let (had, behind) = at_last p some in own_phase m shapes inv s u held is at e found (own_owner m shapes inv s u held is at e found p (owns_had m shapes inv s u held is at e found p (had-there (slice_index e.complete p) (slice_index u.owned p) had) had))

    owner_at : (p : ℕ) → last ≡ Some p → z.owners p ≡ Some s.call
    owner_at p some = let (had, behind) = at_last p some in owns_had m shapes inv s u held is at e found p (had-there (slice_index e.complete p) (slice_index u.owned p) had) had

    all_own : first_lacking 0 e.complete u.owned ≡ None → (q : ℕ) → IsCompleteOn e q → z.owners q ≡ Some s.call
    all_own none q full_q = owns_had m shapes inv s u held is at e found q full_q (not-lacked (slice_index e.complete q) (slice_index u.owned q) full_q (first_lacking-None 0 e.complete u.owned same_length none q))

    all_alone : first_lacking 0 e.complete u.owned ≡ None → AreOwn z s.call
    all_alone none q c owns = same_Some c s.call (sym owns ∙ all_own none q (was.complete q c owns))

    stage_first : Stages u.phase → (r : ℕ) → first_lacking 0 e.complete u.owned ≡ Some r → (last ≡ None) ⊎ ((u.phase ≡ Staging) × ((p : ℕ) × (last ≡ Some p))) → (t : Told) → IsServed m s r (requests.Stage u.call u.ckpt (kept_moment last m.cluster.moment u.moment)) t → Goes m s (driver_of s) t
    stage_first stages r some which t served =
        let (lacked, before) = at_first r some in
        let (x, there, shaped) = replica_at m shapes inv s u held is at e found r (lacked-has (slice_index e.complete r) (slice_index u.owned r) lacked).0 in
        stage_moves r lacked before some x there t served stages (elim which [ inl none ↦ inl none | inr it ↦ inr (it.0, (it.1.0, it.1.1, (at_last it.1.0 it.1.1).0)) ]) (z.owners r) refl shaped

    claim_first : (r : ℕ) → first_lacking 0 e.complete u.owned ≡ Some r → IsDead m u.owner → ((u.phase ≡ Claimed) × ((p : ℕ) × (z.owners p ≡ Some s.call))) ⊎ ((u.phase ≡ Claiming) × (last ≡ None)) → (t : Told) → IsServed m s r (requests.Claim u.call u.ckpt u.owner) t → Goes m s (driver_of s) t
    claim_first r some kept which t served =
        let (lacked, before) = at_first r some in
        let (x, there, shaped) = replica_at m shapes inv s u held is at e found r (lacked-has (slice_index e.complete r) (slice_index u.owned r) lacked).0 in
        claim_moves r lacked before some x there t served kept (z.owners r) refl shaped which

    module _ (r : ℕ) (some : last ≡ Some r) (t : Told) where
      own_shaped : (x : ReplicaState) × (m.replicas u.ckpt r ≡ Some x) × IsShaped z (Some s.call) x
      own_shaped =
          let (x, there, shaped) = replica_at m shapes inv s u held is at e found r (was.complete r s.call (owner_at r some)) in
          (x, there, subst (λ o. IsShaped z o x) (owner_at r some) shaped)

      commit_last : z.origin ≡ s.call → z.update ≡ update_of s.op → AreOwn z s.call → (z.done ≡ true) ⊎ ((q : ℕ) → IsCompleteOn e q → z.owners q ≡ Some s.call) → committing u.phase ≡ Committing → IsOwnCommit e u → IsServed m s r (requests.Commit u.call u.ckpt) t → Goes m s (driver_of s) t
      commit_last origin update alone rest phase own served =
          let (had, behind) = at_last r some in
          let (x, there, shaped) = own_shaped in
          own_commit_moves r had behind x there shaped t origin update alone rest phase own served

      resolve_last : IsDead m z.origin → AreOwn z s.call → (z.done ≡ true) ⊎ ((q : ℕ) → IsCompleteOn e q → z.owners q ≡ Some s.call) → committing u.phase ≡ Resolving → Settles u.phase ⊎ (u.phase ≡ Claimed) → IsServed m s r (requests.Commit u.call u.ckpt) t → Goes m s (driver_of s) t
      resolve_last origin alone rest phase settles served =
          let (had, behind) = at_last r some in
          let (x, there, shaped) = own_shaped in
          resolve_moves r had behind x there shaped t origin alone rest phase settles served

      withdraw_last : IsSettling m z s false → u.phase ≡ Withdrawing → IsServed m s r (requests.Withdraw u.call u.ckpt) t → Goes m s (driver_of s) t
      withdraw_last settles phase served =
          let (had, behind) = at_last r some in
          let (x, there, shaped) = own_shaped in
          withdraw_moves r had behind x there shaped t settles phase served

    -- there is a complete node, which it lacks or has
    pub never_none : first_lacking 0 e.complete u.owned ≡ None → last ≡ None → ⊥
    never_none first none =
        let (q, full_q) = first_complete-some 0 e.complete was.some in
        owns_none m shapes inv s u held is at e found none q (all_own first q full_q)

    keeps_owner : (u.phase ≡ Claiming) ⊎ (u.phase ≡ Claimed) → IsDead m u.owner
    keeps_owner (inl phase) = subst (PhaseKeeps m z s u) phase (at.keeps e found)
    keeps_owner (inr phase) = subst (PhaseKeeps m z s u) phase (at.keeps e found)

    -- EACH DUE STEP OF AN UPDATE AT A NODE, by its phase
    pub by_next : (ph : UpdatePhase) → u.phase ≡ ph → (first last_one : Option ℕ) → first_lacking 0 e.complete u.owned ≡ first → last ≡ last_one → (t : Told) → IsDone m s (by_phase u m.cluster.moment first last_one ph) t → MovesAt (by_phase u m.cluster.moment first last_one ph) t
    by_next Staging staging (Some r) None lacked none t done = stage_first (inl staging) r lacked (inl none) t (subst (λ o. IsServed m s r (requests.Stage u.call u.ckpt (kept_moment o m.cluster.moment u.moment)) t) (sym none) done)
    by_next Staging staging (Some r) (Some p) lacked some t done = stage_first (inl staging) r lacked (inr (staging, (p, some))) t (subst (λ o. IsServed m s r (requests.Stage u.call u.ckpt (kept_moment o m.cluster.moment u.moment)) t) (sym some) done)
    by_next Staging staging None (Some p) lacked some t done =
        let fits : IsStaging z s u = subst (PhaseFits m z s u) staging (phase_at p some) in
        commit_last p some t fits.origin fits.update fits.alone (inr (all_own lacked)) (ap committing staging) (record { node = p; last = some; by = inl (staging, lacked) }) done
    by_next Staging staging None None lacked none t done = absurd (never_none lacked none)
    by_next Committing phase first (Some p) lacked some t done =
        let fits : IsCommitting z s = subst (PhaseFits m z s u) phase (phase_at p some) in
        commit_last p some t fits.origin fits.update fits.alone (inl fits.is_done) (ap committing phase) (record { node = p; last = some; by = inr phase }) done
    by_next Committing phase first None lacked none t done = tt
    by_next Claiming phase (Some r) None lacked none t done = claim_first r lacked (keeps_owner (inl phase)) (inr (phase, none)) t done
    by_next Claiming phase (Some r) (Some p) lacked some t done = absurd (subst (PhaseFits m z s u) phase (phase_at p some))
    by_next Claiming phase None (Some p) lacked some t done = absurd (subst (PhaseFits m z s u) phase (phase_at p some))
    by_next Claiming phase None None lacked none t done = absurd (never_none lacked none)
    by_next Claimed phase (Some r) (Some p) lacked some t done = claim_first r lacked (keeps_owner (inr phase)) (inl (phase, (p, owner_at p some))) t done
    by_next Claimed phase None (Some p) lacked some t done =
        let fits : IsClaimed m z u = subst (PhaseFits m z s u) phase (phase_at p some) in
        resolve_last p some t fits.origin (all_alone lacked) (inr (all_own lacked)) (ap committing phase) (inr phase) done
    by_next Claimed phase (Some r) None lacked none t done = stage_first (inr (inl phase)) r lacked (inl none) t (subst (λ o. IsServed m s r (requests.Stage u.call u.ckpt (kept_moment o m.cluster.moment u.moment)) t) (sym none) done)
    by_next Claimed phase None None lacked none t done = absurd (never_none lacked none)
    by_next Withdrawing phase first (Some p) lacked some t done = withdraw_last p some t (subst (PhaseFits m z s u) phase (phase_at p some)) phase done
    by_next Withdrawing phase (Some r) None lacked none t done = stage_first (inr (inr (inl phase))) r lacked (inl none) t (subst (λ o. IsServed m s r (requests.Stage u.call u.ckpt (kept_moment o m.cluster.moment u.moment)) t) (sym none) done)
    by_next Withdrawing phase None None lacked none t done = absurd (never_none lacked none)
    by_next Resolving phase first (Some p) lacked some t done =
        let fits : IsSettling m z s true = subst (PhaseFits m z s u) phase (phase_at p some) in
        resolve_last p some t fits.origin fits.alone (inl fits.done_is) (ap committing phase) (inl (inr phase)) done
    by_next Resolving phase (Some r) None lacked none t done = stage_first (inr (inr (inr phase))) r lacked (inl none) t (subst (λ o. IsServed m s r (requests.Stage u.call u.ckpt (kept_moment o m.cluster.moment u.moment)) t) (sym none) done)
    by_next Resolving phase None None lacked none t done = absurd (never_none lacked none)
