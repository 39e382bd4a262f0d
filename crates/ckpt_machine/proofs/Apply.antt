-- An update of the active alone, in one step.
use Rattle.std.proofs.Common.{◌≡◌, ℕ, List, Option, Some, None, Result, Ok, Err, cond, refl, sym, ap, subst, ◌∙◌}
use Rattle.std.specs.Prelude.{IsOk}
use Rattle.ckpt_types.specs.declared.ais_error.AisError.TheVariants.{TryAgain}
use Rattle.ckpt_types.specs.declared.answers.Cause.TheVariants.{Holder}
use Rattle.ckpt_types.specs.declared.answers.Outcome.TheVariants.{Refused}
use Rattle.ckpt_types.specs.declared.identities.CallId.{CallId}
use Rattle.ckpt_types.specs.Asks.{update_of}
use Rattle.ckpt_types.specs.Sections.{Section}
use Rattle.ckpt_types.specs.Updates.{Refusal, outcome}
use Rattle.weak_marks.specs.Marks.{Marked, call_of}
use Rattle.cluster_record.specs.declared.calls.ActiveKind.TheVariants as kinds
use Rattle.cluster_record.specs.declared.entries.Entry.{Entry}
use Rattle.cluster_record.specs.Places.{put2}
use Rattle.cluster_record.specs.RecordState.{entry_of}
use Rattle.node_msgs.specs.declared.requests.Request.{Request}
use Rattle.node_msgs.specs.declared.requests.Request.TheVariants as requests
use Rattle.node_msgs.specs.declared.replies.Reply.TheVariants as replies
use Rattle.node_msgs.specs.declared.steps.StepReply.TheVariants as words
use Rattle.node_msgs.specs.declared.steps.Verb.TheVariants as verbs
use Rattle.node_core.specs.Seen.{record_seen}
use Rattle.node_core.specs.Serving.{reply_at, reply_unless, details_at, update_answer, told_id, applied_id}
use Rattle.ckpt_machine.specs.Drivers as drivers
use Rattle.ckpt_machine.specs.InHand.{is_marked_by}
use Rattle.ckpt_machine.specs.Invariant.{InvariantIn, Invariant}
use Rattle.ckpt_machine.specs.Machine.{Machine, ReplicaState, CallState, who}
use Rattle.ckpt_machine.specs.Shape.{Shape}
use Rattle.ckpt_machine.specs.After.{change_replica, with_applied, having_taken}
use Rattle.ckpt_machine.specs.Due.{Told, IsServed, ended_details, driver_of, payload_due, details_due}
use Rattle.ckpt_machine.proofs.ActiveNode.{ActiveOf, active_seen}
use Rattle.ckpt_machine.proofs.ActiveSteps.{active_keeps}
use Rattle.ckpt_machine.proofs.DueStep.{Goes}
use Rattle.ckpt_machine.proofs.OnTheActive.{apart, alone, asks_own, on_active, ends, refused_row, holder_live, held_row}
use Rattle.ckpt_machine.specs.Whose.{put_who}
use Rattle.ckpt_machine.proofs.StepLabels.{IsServed-told}
use Rattle.ckpt_machine.proofs.CallsKept.{same_call-None}

module _ (m : Machine) (shapes : ℕ → Shape) (inv : InvariantIn shapes m) (s : CallState) (call : CallId) (k : ℕ) (held : m.in_hand (who s) ≡ Some s) (at : ActiveOf m (shapes k).marks k) (no_hold : at.entry.hold ≡ None) (is : driver_of s ≡ drivers.Active (record { call = call; ckpt = k; kind = kinds.Apply; marks = None })) where
  abbrev request : Request
  request = requests.Apply call k

  -- the marks on the active
  marks_are : at.replica.marks ≡ (shapes k).marks
  marks_are = (apart m shapes inv s call k kinds.Apply None held at refl is).marks_are

  -- the sections make this of it
  abbrev Gives : Result (List Section) Refusal → Type 0
  Gives r = outcome at.entry.attributes (update_of s.op) m.cluster.moment at.replica.sections ≡ r

  answered : (t : Told) (served : IsServed m s at.node request t) (o : Option Marked) (r : Result (List Section) Refusal) → (shapes k).marks ≡ o → Gives r → served.answer ≡ reply_unless (call_of o) (replies.Done (update_answer (update_of s.op))) r
  answered t served o r stand gives =
      served.may
      ∙ ap (reply_at request (payload_due m s) (record_seen m.cluster k at.node)) (active_seen m (shapes k).marks k at)
      ∙ ap (λ (marks : Option Marked). reply_unless (call_of marks) (replies.Done (update_answer (update_of s.op))) (outcome at.entry.attributes (update_of s.op) m.cluster.moment at.replica.sections)) (marks_are ∙ stand)
      ∙ ap (reply_unless (call_of o) (replies.Done (update_answer (update_of s.op)))) gives

  details : (o : Option Marked) (r : Result (List Section) Refusal) → (shapes k).marks ≡ o → Gives r → details_due m s request at.node ≡ applied_id o r (told_id (update_of s.op) m.cluster.moment at.replica.sections)
  details o r stand gives =
      ap (details_at request (payload_due m s) (record_seen m.cluster k at.node)) (active_seen m (shapes k).marks k at)
      ∙ ap (λ (marks : Option Marked). applied_id marks (outcome at.entry.attributes (update_of s.op) m.cluster.moment at.replica.sections) (told_id (update_of s.op) m.cluster.moment at.replica.sections)) (marks_are ∙ stand)
      ∙ ap (λ r. applied_id o r (told_id (update_of s.op) m.cluster.moment at.replica.sections)) gives

  -- ---- the replica after it

  abbrev taken : ReplicaState
  taken = having_taken at.entry.attributes s.call (update_of s.op) m.cluster.moment at.replica

  holds_taken : (shapes k).marks ≡ None → Invariant (record m { replicas = put2 m.replicas k at.node (Some taken); in_hand = put_who m.in_hand (who s) None })
  holds_taken unmarked = record {
    shapes = _;
    holds = active_keeps m shapes inv s _ held is at.node at.entry at.found at.made (alone m shapes inv s call k kinds.Apply None held at refl is) at.active no_hold taken None (record { free = (apart m shapes inv s call k kinds.Apply None held at refl is).free; marks_are = marks_are ∙ unmarked }) at.generation None
        (λ d other. sym (ap (is_marked_by d) unmarked)) (same_call-None s) (λ marks none. absurd (cc none)) (λ z there. absurd (cc there));
  }

  applied_is : change_replica m k at.node (m.replicas k at.node) (with_applied s.call (update_of s.op) m.cluster.moment (entry_of k m.cluster.entries)) ≡ record m { replicas = put2 m.replicas k at.node (Some taken) }
  applied_is =
      ap (λ o. change_replica m k at.node o (with_applied s.call (update_of s.op) m.cluster.moment (entry_of k m.cluster.entries))) at.there
      ∙ ap (λ (o : Option Entry). record m { replicas = put2 m.replicas k at.node (Some (with_applied s.call (update_of s.op) m.cluster.moment o at.replica)) }) at.found

  -- the machine after it
  abbrev behind : Machine
  behind = change_replica m k at.node (m.replicas k at.node) (with_applied s.call (update_of s.op) m.cluster.moment (entry_of k m.cluster.entries))

  holds_applied : (shapes k).marks ≡ None → Invariant (record behind { in_hand = put_who behind.in_hand (who s) None })
  holds_applied unmarked = subst (λ (n : Machine). Invariant (record n { in_hand = put_who n.in_hand (who s) None })) (sym applied_is) (holds_taken unmarked)

  -- ---- the step

  -- it goes by the marks that stand, and by what the sections make of it
  apply_by : (t : Told) → IsServed m s at.node request t → (o : Option Marked) → (shapes k).marks ≡ o → (r : Result (List Section) Refusal) → Gives r → Goes m s (driver_of s) t
  apply_by t served None stand (Ok sections) gives = subst (Goes m s (driver_of s)) (sym (IsServed-told m s at.node request t _ (replies.Done (update_answer (update_of s.op))) served is (answered t served None (Ok sections) stand gives))) (record {
    row = (
      _,
      update_of s.op,
      asks_own m shapes inv s call k kinds.Apply None held at refl is,
      on_active m shapes inv s call k kinds.Apply None held at refl is no_hold _ (record { unmarked = marks_are ∙ stand; fits = subst IsOk (sym gives) refl; answer = refl; told = details None (Ok sections) stand gives }),
    );
    holds = holds_applied stand;
    nearer = λ none. absurd (cc none);
  })
  apply_by t served None stand (Err why) gives = subst (Goes m s (driver_of s)) (sym (IsServed-told m s at.node request t _ (replies.Refused why.error why.index) served is (answered t served None (Err why) stand gives))) (record {
    row = (_, update_of s.op, asks_own m shapes inv s call k kinds.Apply None held at refl is, refused_row m shapes inv s call k kinds.Apply None held at refl is refl no_hold _ why stand gives refl (details None (Err why) stand gives));
    holds = ends m shapes inv s call k kinds.Apply None held at refl is refl;
    nearer = λ none. absurd (cc none);
  })
  apply_by t served (Some marks) stand r gives =
      let told = IsServed-told m s at.node request t _ (replies.Held marks.call) served is (answered t served (Some marks) r stand gives) in
      let live = holder_live m shapes inv s call k kinds.Apply None held at refl is refl marks stand in
      let nothing = details (Some marks) r stand gives in
      subst (Goes m s (driver_of s)) (sym (told ∙ (λ i. record { verb = verbs.Apply; ckpt = Some k; node = Some at.node; reply = words.Held marks.call; end = cond (live i) (Some (Refused TryAgain (Holder marks.call))) None; details = ended_details (cond (live i) (Some (Refused TryAgain (Holder marks.call))) None) (nothing i) }))) (record {
        row = (_, update_of s.op, asks_own m shapes inv s call k kinds.Apply None held at refl is, held_row m shapes inv s call k kinds.Apply None held at refl is refl no_hold _ marks stand refl refl);
        holds = ends m shapes inv s call k kinds.Apply None held at refl is refl;
        nearer = λ none. absurd (cc none);
      })

  pub apply_goes : (t : Told) → IsServed m s at.node request t → Goes m s (driver_of s) t
  apply_goes t served = apply_by t served (shapes k).marks refl (outcome at.entry.attributes (update_of s.op) m.cluster.moment at.replica.sections) refl
