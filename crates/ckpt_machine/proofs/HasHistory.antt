-- Which calls replicas and snapshots have effects of: of calls that were begun; and one that is in hand commits its update there, or is a copying that has brought the checkpoint to its node, since an update of the active alone has ended.
use Rattle.std.proofs.Common.{◌≡◌, ◌⊎◌, ℕ, ◌<◌, ◌≤◌, inl, inr, Option, Some, None, Bool, true, false, refl, sym, ap, subst, ◌∙◌, arith}
use Rattle.std.specs.Prelude.{IsSomeAnd, IfSome}
use Rattle.ckpt_types.specs.declared.ais_error.AisError.TheVariants.{NotExist}
use Rattle.ckpt_types.specs.declared.answers.Answer.{Answer}
use Rattle.ckpt_types.specs.declared.answers.Cause.TheVariants.{Plain}
use Rattle.ckpt_types.specs.declared.answers.Outcome.TheVariants.{Done, Refused}
use Rattle.ckpt_types.specs.declared.identities.CallId.{CallId}
use Rattle.ckpt_types.specs.declared.update.Update.{Update}
use Rattle.node_msgs.specs.declared.next.Next.{Next}
use Rattle.node_msgs.specs.declared.next.Next.TheVariants.{Serve, Event, End}
use Rattle.node_msgs.specs.declared.next.RecordStep.{RecordStep}
use Rattle.node_msgs.specs.declared.next.RecordStep.TheVariants as events
use Rattle.node_msgs.specs.declared.requests.Request.{Request}
use Rattle.node_msgs.specs.Steps.{event_verb, verb_of}
use Rattle.node_msgs.specs.declared.steps.Verb.TheVariants as verbs
use Rattle.node_msgs.specs.declared.steps.StepReply.{StepReply}
use Rattle.node_msgs.specs.declared.steps.StepReply.TheVariants as words
use Rattle.cluster_record.specs.declared.calls.UpdatePhase.TheVariants.{Committing}
use Rattle.cluster_record.specs.declared.entries.Entry.{Entry}
use Rattle.cluster_record.specs.DueCopy.{CopyState, lacks_replica}
use Rattle.cluster_record.specs.DueUpdate.{UpdateState, update_led, update_on, by_phase, commit_at, committing, update_taken, update_taken_by, commit_taken}
use Rattle.cluster_record.specs.RecordState.{RecordState, entry_of}
use Rattle.cluster_record.specs.StepDone.{StepDone, first_lacking, last_having}
use Rattle.ckpt_machine.specs.Drivers.{Driver}
use Rattle.ckpt_machine.specs.Drivers as drivers
use Rattle.ckpt_machine.specs.Driving.{driver_next, driver_taken}
use Rattle.node_core.specs.Serving.{update_answer}
use Rattle.ckpt_machine.specs.OpenGuards.{IsMadeBy}
use Rattle.ckpt_machine.specs.GuardTerms.{OnReplica, OnActive}
use Rattle.ckpt_machine.specs.InHand.{IsInPlace, IsUpdateIn}
use Rattle.ckpt_machine.specs.Invariant.{Invariant}
use Rattle.ckpt_types.specs.Asks.{Ask, asked, update_of}
use Rattle.ckpt_types.specs.Asks as asks
use Rattle.ckpt_machine.specs.Machine.{Machine, ReplicaState, CallState, empty_cluster, who}
use Rattle.ckpt_machine.specs.Options.{is_weak, is_by_element}
use Rattle.cluster_record.specs.Placement.{is_all}
use Rattle.ckpt_machine.specs.Shape.{IsCompleteOn}
use Rattle.ckpt_machine.specs.Due.{Told, IsDone, driver_of, due, rooms_of}
use Rattle.ckpt_machine.proofs.Askers.{IsCopyAsk}
use Rattle.ckpt_machine.proofs.CopyCommits.{CommitsIfAt}
use Rattle.ckpt_machine.proofs.Lacking.{lacked_parts}
use Rattle.ckpt_machine.proofs.StaysMade.{RemainsBut}
use Rattle.ckpt_machine.proofs.UpdateIn.{IsUpdateVerb}
use Rattle.ckpt_machine.proofs.OwnMaking.{making_there}
use Rattle.ckpt_machine.proofs.Follows.{IsIncomplete, IsBare, Has, HasCopied, HasInHand}
use Rattle.ckpt_machine.proofs.ShapedReplicas.{maker_incomplete}
use Rattle.ckpt_machine.proofs.OptionLemmas.{IsSomeAnd-at, IsSomeAnd-from, IfSome-at, IfSome-from}

-- a copying is asked for, or not
pub either_copy : (ask : Ask) → IsCopyAsk ask ⊎ (IsCopyAsk ask → ⊥)
either_copy asks.Copy = inl tt
either_copy ask = inr (λ none. none)

-- what drives the call commits an update of this checkpoint
pub record IsCommittingAt (k : ℕ) (d : Driver) : Type 0 where
  pub update : UpdateState
  pub driver_is : d ≡ drivers.Update update
  pub ckpt : update.ckpt ≡ k
  pub phase : update.phase ≡ Committing

-- a checkpoint is made, and complete on this node, and its updates go to all replicas
abbrev pub IsBroughtTo : ℕ → Entry → Type 0
IsBroughtTo q e = (e.making ≡ None) × (is_all e.attributes ≡ true) × IsCompleteOn e q

-- what drives the call is a copying that has brought this checkpoint to its node: its updates go to all replicas, and it is complete on that node; and where the copying is there still, it commits
pub record HasBrought (R : RecordState) (k : ℕ) (d : Driver) : Type 0 where
  pub copy : CopyState
  pub driver_is : d ≡ drivers.Copy copy
  pub given : k ≤ R.last_identity
  pub there : IfSome (entry_of k R.entries) (IsBroughtTo copy.node)
  pub commits : CommitsIfAt k d

-- it commits an update of this checkpoint, or has brought it to its node
abbrev pub HasCommitted : RecordState → ℕ → Driver → Type 0
HasCommitted R k d = IsCommittingAt k d ⊎ HasBrought R k d

-- in every state of a run, by the guards: a call that a replica or a snapshot has an effect of was begun, and where it is in hand it commits there, or has brought the checkpoint to its node
pub record HasHistory (m : Machine) : Type 0 where
  pub bare : IsBare m
  pub given : (k r : ℕ) (d : CallId) → Has m k r d → d.number < m.next d.actor
  pub commits : (k r : ℕ) (s : CallState) → m.in_hand (who s) ≡ Some s → Has m k r s.call → HasCommitted m.cluster k (driver_of s)
  -- a call that a background snapshot has an effect of was begun, and is in hand no more
  pub given_copied : (k : ℕ) (d : CallId) → HasCopied m k d → d.number < m.next d.actor
  pub ended_copied : (k : ℕ) (s : CallState) → m.in_hand (who s) ≡ Some s → HasCopied m k s.call → ⊥
  -- one that a snapshot in hand has an effect of was begun, and is in hand no more, but where a copying has the snapshot: then it is as on a replica
  pub given_pulled : (d : CallId) → HasInHand m d → d.number < m.next d.actor
  pub ended_pulled : (s : CallState) → m.in_hand (who s) ≡ Some s → (has : HasInHand m s.call) → (IsCopyAsk (asked has.state.op) → ⊥) → ⊥
  pub commits_pulled : (k : ℕ) (s : CallState) → m.in_hand (who s) ≡ Some s → (has : HasInHand m s.call) → IsCopyAsk (asked has.state.op) → has.state.kept.ckpt ≡ Some k → HasCommitted m.cluster k (driver_of s)

pub history_empty : HasHistory empty_cluster
history_empty = record {
  bare = record { complete = λ k r x is. absurd (cc is); reserves = λ k r n is. absurd (cc is) };
  given = λ k r d has. absurd (let none = has.there in cc none);
  commits = λ k r s held has. absurd (cc held);
  given_copied = λ k d has. absurd (let none = has.there in cc none);
  ended_copied = λ k s held has. cc held;
  given_pulled = λ d has. absurd (let none = has.held in cc none);
  ended_pulled = λ s held has other. cc held;
  commits_pulled = λ k s held has copies ckpt. absurd (cc held);
}

-- so it is where the call makes it
pub making_incomplete : (m : Machine) → Invariant m → (call : CallId) (k r : ℕ) → IsMadeBy m call k → IsSomeAnd (entry_of k m.cluster.entries) (λ e. IsIncomplete e r)
making_incomplete m inv call k r by =
    let (e, found, making) = IsSomeAnd-at (entry_of k m.cluster.entries) (λ e. e.making ≡ Some call) (making_there m.cluster inv.holds.rises call k by) in
    IsSomeAnd-from (entry_of k m.cluster.entries) (λ e. IsIncomplete e r) e found (maker_incomplete m inv call k r e found making)

-- and where a node lacks it
pub lacking_incomplete : (m : Machine) (k r : ℕ) → IsSomeAnd (entry_of k m.cluster.entries) (λ e. lacks_replica r e ≡ true) → IsSomeAnd (entry_of k m.cluster.entries) (λ e. IsIncomplete e r)
lacking_incomplete m k r by =
    let (e, found, lacks) = IsSomeAnd-at (entry_of k m.cluster.entries) (λ e. lacks_replica r e ≡ true) by in
    IsSomeAnd-from (entry_of k m.cluster.entries) (λ e. IsIncomplete e r) e found (lacked_parts r e lacks).none

-- ---- a step of a call that commits

-- it is a commit; or a look, where its checkpoint is gone or has no active, or nothing is left to commit
pub data CommitsBy (m : Machine) (u : UpdateState) (t : Told) : Type 0 where
  commit : t.verb ≡ verbs.Commit → CommitsBy m u t
  gone : entry_of u.ckpt m.cluster.entries ≡ None → t.end ≡ Some (Refused NotExist Plain) → CommitsBy m u t
  unled : (e : Entry) → entry_of u.ckpt m.cluster.entries ≡ Some e → e.active ≡ None → t.end ≡ Some (Refused NotExist Plain) → CommitsBy m u t
  nothing_left : (answer : Answer) → t.end ≡ Some (Done answer) → CommitsBy m u t

pub commits_by : (m : Machine) (s : CallState) (u : UpdateState) (t : Told) → driver_of s ≡ drivers.Update u → u.phase ≡ Committing → IsDone m s (due m s) t → CommitsBy m u t
commits_by m s u t is phase done = by_entry (entry_of u.ckpt m.cluster.entries) refl (subst (λ d. IsDone m s (driver_next m.cluster (rooms_of m s) d) t) is done)
  where
    at : (last : Option ℕ) → IsDone m s (commit_at u last) t → CommitsBy m u t
    at None looked = nothing_left (update_answer (update_of s.op)) (ap (λ (t : Told). t.end) looked)
    at (Some r) served = commit served.verb

    by_active : (e : Entry) → entry_of u.ckpt m.cluster.entries ≡ Some e → (active : Option ℕ) → e.active ≡ active → IsDone m s (update_led u m.cluster.moment e active) t → CommitsBy m u t
    by_active e found None none looked = unled e found none (ap (λ (t : Told). t.end) looked)
    by_active e found (Some active) led step =
        at (last_having 0 e.complete u.owned)
        (subst (λ ph. IsDone m s (by_phase u m.cluster.moment (first_lacking 0 e.complete u.owned) (last_having 0 e.complete u.owned) ph) t) phase step)

    by_entry : (o : Option Entry) → entry_of u.ckpt m.cluster.entries ≡ o → IsDone m s (update_on u m.cluster.moment o) t → CommitsBy m u t
    by_entry None none looked = gone none (ap (λ (t : Told). t.end) looked)
    by_entry (Some e) found step = by_active e found e.active refl step

-- a commit of its own update leaves its call committing
committed_phase : (d : StepDone) (u : UpdateState) (reply : StepReply) → u.phase ≡ Committing → ((commit_taken d u reply).phase ≡ Committing) × ((commit_taken d u reply).ckpt ≡ u.ckpt)
committed_phase d u words.Ok is = (ap committing is, refl)
committed_phase d u reply is = (is, refl)

pub taken_commit : (d : StepDone) (u : UpdateState) (k : ℕ) → d.verb ≡ verbs.Commit → u.ckpt ≡ k → (u.phase ≡ Committing) ⊎ ((d.reply ≡ words.Ok) × (committing u.phase ≡ Committing)) → IsCommittingAt k (drivers.Update (update_taken d u))
taken_commit d u k is ckpt phase = subst (λ verb. IsCommittingAt k (drivers.Update (update_taken_by d u verb))) (sym is) (record {
  update = commit_taken d u d.reply;
  driver_is = refl;
  ckpt = (by_reply phase).1 ∙ ckpt;
  phase = (by_reply phase).0;
})
  where
    by_reply : (u.phase ≡ Committing) ⊎ ((d.reply ≡ words.Ok) × (committing u.phase ≡ Committing)) → ((commit_taken d u d.reply).phase ≡ Committing) × ((commit_taken d u d.reply).ckpt ≡ u.ckpt)
    by_reply (inl is) = committed_phase d u d.reply is
    by_reply (inr ok) = subst (λ reply. ((commit_taken d u reply).phase ≡ Committing) × ((commit_taken d u reply).ckpt ≡ u.ckpt)) (sym ok.0) (ok.1, refl)

-- where it goes on it commits still
pub commits_still : (m : Machine) (s : CallState) (t : Told) (d : StepDone) (k : ℕ) → d.verb ≡ t.verb → IsDone m s (due m s) t → t.end ≡ None → IsCommittingAt k (driver_of s) → IsCommittingAt k (driver_taken d (driver_of s))
commits_still m s t d k verb done goes_on at =
    elim (commits_by m s at.update t at.driver_is at.phase done) [
      | commit is ↦ subst (λ x. IsCommittingAt k (driver_taken d x)) (sym at.driver_is) (taken_commit d at.update k (verb ∙ is) at.ckpt (inl at.phase))
      | gone none ends ↦ absurd (let w : None ≡ Some (Refused NotExist Plain) = sym goes_on ∙ ends in cc w)
      | unled e found none ends ↦ absurd (let w : None ≡ Some (Refused NotExist Plain) = sym goes_on ∙ ends in cc w)
      | nothing_left answer ends ↦ absurd (let w : None ≡ Some (Done answer) = sym goes_on ∙ ends in cc w)
    ]

-- ---- a step

-- a step of an update is what is due of a node
pub due_request : (m : Machine) (s : CallState) (t : Told) → IsDone m s (due m s) t → IsUpdateVerb t.verb → (r : ℕ) × (request : Request) × (due m s ≡ Serve r request) × (t.verb ≡ verb_of request)
due_request m s t done of = by_next (due m s) refl done
  where
    no_event : (step : RecordStep) → IsUpdateVerb (event_verb step) → ⊥
    no_event events.Enter none = none
    no_event events.Leave none = none
    no_event events.Open none = none
    no_event events.Create none = none
    no_event events.Finish none = none
    no_event events.Undo none = none
    no_event events.Close none = none
    no_event events.Unlink none = none
    no_event events.Retain none = none
    no_event (events.Hold r) none = none
    no_event (events.Activate r) none = none
    no_event (events.Complete k r moment) none = none

    by_next : (next : Next) → due m s ≡ next → IsDone m s next t → (r : ℕ) × (request : Request) × (due m s ≡ Serve r request) × (t.verb ≡ verb_of request)
    by_next (Serve r request) is served = (r, request, is, served.verb)
    by_next (Event step) is event = absurd (no_event step (subst IsUpdateVerb event.verb of))
    by_next (End outcome) is looked = absurd (subst (λ (t : Told). IsUpdateVerb t.verb) looked of)

-- the entry and the replica of which a row speaks
pub on_replica-there : (m : Machine) (k r : ℕ) (P : Entry → ReplicaState → Type 0) → OnReplica m k r P → (e : Entry) × (x : ReplicaState) × (entry_of k m.cluster.entries ≡ Some e) × (m.replicas k r ≡ Some x) × P e x
on_replica-there m k r P on =
    let (e, found, here) = IsSomeAnd-at (entry_of k m.cluster.entries) (λ e. IsSomeAnd (m.replicas k r) (P e)) on in
    let (x, at, p) = IsSomeAnd-at (m.replicas k r) (P e) here in
    (e, x, found, at, p)

-- and where its updates are on the active alone
pub on_active-there : (m : Machine) (update : Update) (by_element : Bool) (k r : ℕ) (P : Entry → ReplicaState → Type 0) → OnActive m update by_element k r P → (e : Entry) × (x : ReplicaState) × (entry_of k m.cluster.entries ≡ Some e) × (m.replicas k r ≡ Some x) × (is_all e.attributes ≡ false) × (e.active ≡ Some r) × P e x
on_active-there m update by_element k r P on =
    let (e, x, found, there, row_of) = on_replica-there m k r (λ e x. (is_all e.attributes ≡ false) × (e.active ≡ Some r) × (e.hold ≡ None) × (is_by_element (is_weak e.attributes) update ≡ by_element) × P e x) on in
    (e, x, found, there, row_of.0, row_of.1, row_of.4)

-- a call that is in hand has no effect where updates go to the active alone, since that of an update on all replicas is elsewhere, and every other has ended
pub none_alone : (m : Machine) → Invariant m → HasHistory m → (k r : ℕ) (z : CallState) → m.in_hand (who z) ≡ Some z → IsSomeAnd (entry_of k m.cluster.entries) (λ e. is_all e.attributes ≡ false) → Has m k r z.call → ⊥
none_alone m inv history k r z in_hand there has =
    let (e, found, alone) = IsSomeAnd-at (entry_of k m.cluster.entries) (λ e. is_all e.attributes ≡ false) there in
    elim (history.commits k r z in_hand has) [
      | inl commits ↦ (
          let at : IsUpdateIn m inv.shapes z commits.update = subst (λ d. IsInPlace m inv.shapes z d) commits.driver_is (inv.holds.hands (who z) z in_hand).here in
          let all : is_all e.attributes ≡ true = subst (λ o. IfSome o (λ (e : Entry). is_all e.attributes ≡ true)) (ap (λ k. entry_of k m.cluster.entries) commits.ckpt ∙ found) at.all in
          let w : true ≡ false = sym all ∙ alone in cc w)
      | inr brought ↦ (let w : true ≡ false = sym (IfSome-at (entry_of k m.cluster.entries) _ brought.there e found).1 ∙ alone in cc w)
    ]

-- ---- what a call commits, where the record changes

-- one record behind another: what is there was there, and what was made remains, but on the nodes that are gone
pub record RecordRemains (Gone : ℕ → Type 0) (R S : RecordState) : Type 0 where
  pub last : R.last_identity ≤ S.last_identity
  pub was : (k : ℕ) → k ≤ R.last_identity → (f : Entry) → entry_of k S.entries ≡ Some f → (e : Entry) × (entry_of k R.entries ≡ Some e) × (e.making ≡ None → RemainsBut Gone e f)

module _ (Gone : ℕ → Type 0) (R S : RecordState) (remains : RecordRemains Gone R S) where
  -- so what is brought to a node is there still
  pub brought_there : (k q : ℕ) → k ≤ R.last_identity → (Gone q → ⊥) → IfSome (entry_of k R.entries) (IsBroughtTo q) → IfSome (entry_of k S.entries) (IsBroughtTo q)
  brought_there k q given here was = IfSome-from (entry_of k S.entries) (IsBroughtTo q) (λ f found. (
      let (e, there, still) = remains.was k given f found in
      let (made, all, complete) = IfSome-at (entry_of k R.entries) (IsBroughtTo q) was e there in
      let it = still made in
      (it.made made, ap is_all it.attributes ∙ all, it.complete q here complete)))

  pub given_still : (k : ℕ) → k ≤ R.last_identity → k ≤ S.last_identity
  given_still k given = let later = remains.last in omega (arith, given, later)

  -- and a call commits as it did, unless it copies to a node that is gone
  pub committed_still : (k : ℕ) (d : Driver) → ((c : CopyState) → d ≡ drivers.Copy c → Gone c.node → ⊥) → HasCommitted R k d → HasCommitted S k d
  committed_still k d here (inl at) = inl at
  committed_still k d here (inr was) = inr (record {
    copy = was.copy;
    driver_is = was.driver_is;
    given = given_still k was.given;
    there = brought_there k was.copy.node was.given (here was.copy was.driver_is) was.there;
    commits = was.commits;
  })
