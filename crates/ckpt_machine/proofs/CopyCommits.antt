-- A copying that commits its own update has brought the checkpoint to its node; and what is due of an update that is committing is a commit.
use Rattle.std.proofs.Common.{◌≡◌, ℕ, ◌+◌, suc, List, [], ◌∷◌, Option, Some, None, Bool, true, false, cond, not, ◌==◌, ◌&&◌, ℤ, refl, sym, ap, subst, ◌∙◌}
use Rattle.std.specs.Prelude.{slice_index}
use Rattle.std.proofs.lemmas.Option.{same_Some}
use Rattle.ckpt_types.specs.declared.identities.CallId.{CallId}
use Rattle.ckpt_types.specs.declared.ais_error.AisError.TheVariants.{TryAgain}
use Rattle.ckpt_types.specs.declared.answers.Cause.TheVariants.{Generations}
use Rattle.ckpt_types.specs.declared.answers.Outcome.TheVariants.{Done, Refused}
use Rattle.node_msgs.specs.declared.next.Next.{Next}
use Rattle.node_msgs.specs.declared.next.Next.TheVariants.{Serve, Event, End}
use Rattle.node_msgs.specs.declared.next.RecordStep.TheVariants as events
use Rattle.node_msgs.specs.declared.requests.Request.{Request}
use Rattle.node_msgs.specs.declared.requests.Request.TheVariants as requests
use Rattle.node_msgs.specs.declared.steps.Verb.{Verb}
use Rattle.node_msgs.specs.declared.steps.Verb.TheVariants as verbs
use Rattle.node_msgs.specs.declared.steps.StepReply.{StepReply}
use Rattle.node_msgs.specs.declared.steps.StepReply.TheVariants as words
use Rattle.node_msgs.specs.Steps.{verb_of}
use Rattle.cluster_record.specs.declared.calls.UpdatePhase.{UpdatePhase}
use Rattle.cluster_record.specs.declared.calls.UpdatePhase.TheVariants as steps
use Rattle.cluster_record.specs.declared.copying.Copying.{Copying}
use Rattle.cluster_record.specs.declared.copying.CopyPhase.{CopyPhase}
use Rattle.cluster_record.specs.declared.copying.CopyPhase.TheVariants as phases
use Rattle.cluster_record.specs.declared.entries.Entry.{Entry}
use Rattle.cluster_record.specs.DueCopy.{CopyState, behind_completion, behind_completion_in, complete_taken, copy_at, copy_next, copy_taken, copy_taken_by, next_to_copy, onward, phase_next, pull_at, pull_taken, pulled_phase, reserve_next, reserve_taken, reserved_next, staged_next, staging_next, staging_phase, unless_done, with_phase}
use Rattle.cluster_record.specs.DueUpdate.{UpdateState, all_staged, by_phase, claim_taken, commit_at, commit_taken, committing, kept_moment, stage_at, stage_taken, staged_by, staged_on, update_begun, update_joined, update_led, update_next, update_on, update_taken, update_taken_by, withdraw_taken}
use Rattle.cluster_record.specs.Placement.{is_all}
use Rattle.cluster_record.specs.RecordState.{RecordState, complete_of, entry_of, first_complete}
use Rattle.cluster_record.specs.StepDone.{StepDone, first_lacking, has, last_having, or_here}
use Rattle.ckpt_machine.specs.Drivers.{Driver, staging_at, update_in}
use Rattle.ckpt_machine.specs.Drivers as drivers
use Rattle.ckpt_machine.specs.InHand.{IsCopiedSoFar, IsUncommitted}
use Rattle.ckpt_machine.specs.Machine.{Machine, CallState}
use Rattle.ckpt_machine.specs.Shape.{Shape, IsCompleteOn}
use Rattle.ckpt_machine.proofs.UpdateIn.{IsUpdateVerb, does_staging}
use Rattle.ckpt_types.proofs.Lists.{slice_index-replicate}

-- ---- what is due

abbrev Serves : Next → ℕ → Request → Type 0
Serves next r request = next ≡ Serve r request

-- one request has one verb
served_verb : (q r : ℕ) (a b : Request) → Serve q a ≡ Serve r b → verb_of a ≡ verb_of b
served_verb q r a b is = ap verb_of (let same : a ≡ b = cc is in same)

-- of one that has begun to commit it is a commit
commits_at : (u : UpdateState) (last : Option ℕ) (r : ℕ) (request : Request) → Serves (commit_at u last) r request → verb_of request ≡ verbs.Commit
commits_at u None r request is = absurd (cc is)
commits_at u (Some q) r request is = sym (served_verb q r (requests.Commit u.call u.ckpt) request is)

pub committing_commits : (R : RecordState) (u : UpdateState) (r : ℕ) (request : Request) → u.phase ≡ steps.Committing → Serves (update_next R u) r request → verb_of request ≡ verbs.Commit
committing_commits R u r request phase is = by_entry (entry_of u.ckpt R.entries) is
  where
    by_active : (e : Entry) (active : Option ℕ) → Serves (update_led u R.moment e active) r request → verb_of request ≡ verbs.Commit
    by_active e None is = absurd (cc is)
    by_active e (Some active) is =
        commits_at u (last_having 0 e.complete u.owned) r request (ap (by_phase u R.moment (first_lacking 0 e.complete u.owned) (last_having 0 e.complete u.owned)) (sym phase) ∙ is)

    by_entry : (o : Option Entry) → Serves (update_on u R.moment o) r request → verb_of request ≡ verbs.Commit
    by_entry None is = absurd (cc is)
    by_entry (Some e) is = by_active e e.active is

-- of one that stages it is a commit where it lacks no complete node, and has one
stages_first : (u : UpdateState) (now : ℤ) (first last : Option ℕ) (r : ℕ) (request : Request) → Serves (stage_at u now first last) r request → verb_of request ≡ verbs.Commit → staged_by steps.Staging first last ≡ true
stages_first u now (Some q) last r request is commit = absurd (let w : verbs.Stage ≡ verbs.Commit = served_verb q r (requests.Stage u.call u.ckpt (kept_moment last now u.moment)) request is ∙ commit in cc w)
stages_first u now None None r request is commit = absurd (cc is)
stages_first u now None (Some q) r request is commit = refl

own_is_staged : (R : RecordState) (u : UpdateState) (r : ℕ) (request : Request) → u.phase ≡ steps.Staging → Serves (update_next R u) r request → verb_of request ≡ verbs.Commit → all_staged R u ≡ true
own_is_staged R u r request phase is commit = by_entry (entry_of u.ckpt R.entries) is
  where
    by_active : (e : Entry) (active : Option ℕ) → Serves (update_led u R.moment e active) r request → staged_on e.complete u ≡ true
    by_active e None is = absurd (cc is)
    by_active e (Some active) is =
        ap (λ phase. staged_by phase (first_lacking 0 e.complete u.owned) (last_having 0 e.complete u.owned)) phase
        ∙ stages_first u R.moment (first_lacking 0 e.complete u.owned) (last_having 0 e.complete u.owned) r request (ap (by_phase u R.moment (first_lacking 0 e.complete u.owned) (last_having 0 e.complete u.owned)) (sym phase) ∙ is) commit

    by_entry : (o : Option Entry) → Serves (update_on u R.moment o) r request → staged_on (complete_of o) u ≡ true
    by_entry None is = absurd (cc is)
    by_entry (Some e) is = by_active e e.active is

-- one that has just begun has none staged
none_having : (n : ℕ) (cs os : List ℕ) → ((i : ℕ) → slice_index os i ≡ 0) → last_having n cs os ≡ None
none_having n [] os none = refl
none_having n (c ∷ cs) [] none = refl
none_having n (c ∷ cs) (o ∷ os) none = (λ i. or_here (none_having (n + 1) cs os (λ j. none (suc j)) i) (has_not i) n)
  where
    has_not : has c o ≡ false
    has_not = ap (has c) (none 0) ∙ elim (c == 0) as (λ b. (not b && b) ≡ false) [ true ↦ refl | false ↦ refl ]

begun_unstaged : (complete : List ℕ) (call : CallId) (k : ℕ) → staged_on complete (update_begun call k) ≡ true → ⊥
begun_unstaged complete call k is = let w : false ≡ true = sym (ap (staged_by steps.Staging (first_lacking 0 complete (update_begun call k).owned)) (none_having 0 complete (update_begun call k).owned (λ i. slice_index-replicate 8 i)) ∙ by_none (first_lacking 0 complete (update_begun call k).owned)) ∙ is in cc w
  where
    by_none : (first : Option ℕ) → staged_by steps.Staging first None ≡ false
    by_none None = refl
    by_none (Some q) = refl

-- ---- a copying

module _ (R : RecordState) (c : CopyState) (r : ℕ) (request : Request) (commit : verb_of request ≡ verbs.Commit) where
  -- it commits by its update
  onward_serves : (first : Option ℕ) → Serves (reserve_next c.node first) r request → ⊥
  onward_serves None is = cc is
  onward_serves (Some k) is = let w : verbs.Reserve ≡ verbs.Commit = served_verb c.node r (requests.Reserve k) request is ∙ commit in cc w

  staging_serves : Serves (staging_next R c) r request → Serves (update_next R c.staging) r request
  staging_serves is = by_next (update_next R c.staging) is
    where
      by_next : (next : Next) → Serves (unless_done (onward R c) next) r request → Serves next r request
      by_next (End (Done answer)) is = absurd (onward_serves (next_to_copy c.node R.entries) is)
      by_next next is = is

  pull_serves : (k : ℕ) (at : Option ℕ) → Serves (pull_at c.call k at) r request → ⊥
  pull_serves k None is = cc is
  pull_serves k (Some q) is = let w : verbs.Pull ≡ verbs.Commit = served_verb q r (requests.Pull c.call k) request is ∙ commit in cc w

  complete_serves : (k pulled present : ℕ) (b : Bool) → Serves (cond b (Event (events.Complete k c.node None)) (End (Refused TryAgain (Generations pulled present)))) r request → ⊥
  complete_serves k pulled present true is = cc is
  complete_serves k pulled present false is = cc is

  -- what it stages as its own
  own_phase : (ph : UpdatePhase) → IsUncommitted ph → committing ph ≡ steps.Committing → ph ≡ steps.Staging
  own_phase steps.Staging uncommitted own = refl
  own_phase steps.Committing uncommitted own = absurd uncommitted
  own_phase steps.Claiming uncommitted own = absurd (cc own)
  own_phase steps.Claimed uncommitted own = absurd (cc own)
  own_phase steps.Withdrawing uncommitted own = absurd (cc own)
  own_phase steps.Resolving uncommitted own = absurd (cc own)

  -- it commits what is its own only where it has brought the checkpoint to its node
  pub own_commit_brought : (m : Machine) (sh : Shape) (s : CallState) (k : ℕ) (e : Entry) → entry_of c.staging.ckpt R.entries ≡ Some e → (ph : CopyPhase) → IsCopiedSoFar m sh s c e ph → Serves (phase_next R c k e ph) r request → committing c.staging.phase ≡ steps.Committing
      → (is_all e.attributes ≡ true) × IsCompleteOn e c.node
  own_commit_brought m sh s k e found phases.Reserved far is own = absurd (by_all (is_all e.attributes) is)
    where
      staged : Serves (update_next R c.staging) r request → ⊥
      staged is =
          let all = own_is_staged R c.staging r request (ap (λ (u : UpdateState). u.phase) far.1) is commit in
          begun_unstaged e.complete c.call e.identity (ap (staged_on e.complete) (sym far.1) ∙ ap (λ o. staged_on (complete_of o) c.staging) (sym found) ∙ all)

      by_all : (all : Bool) → Serves (reserved_next R c k e all) r request → ⊥
      by_all true is = staged (staging_serves is)
      by_all false is = pull_serves k e.active is
  own_commit_brought m sh s k e found phases.Staging far is own = absurd (by_staged (all_staged R c.staging) refl is)
    where
      by_staged : (b : Bool) → all_staged R c.staging ≡ b → Serves (staged_next R c k e b) r request → ⊥
      by_staged true staged is = pull_serves k (first_complete 0 e.complete) is
      by_staged false not_yet is = let w : true ≡ false = sym (own_is_staged R c.staging r request (own_phase c.staging.phase far.2 own) (staging_serves is) commit) ∙ not_yet in cc w
  own_commit_brought m sh s k e found (phases.PulledActive generation) far is own = absurd (complete_serves k generation e.generation (generation == e.generation) is)
  own_commit_brought m sh s k e found phases.PulledStaged far is own = absurd (cc is)
  own_commit_brought m sh s k e found phases.Committing far is own = (far.0, far.2)

-- a step of its update is due only where it is at a checkpoint
pub update_at : (R : RecordState) (c : CopyState) (r : ℕ) (request : Request) → Serves (copy_next R c) r request → IsUpdateVerb (verb_of request) → (at : Copying) × (c.copying ≡ Some at)
update_at R c r request is of = by_copying c.copying refl is
  where
    reserves : (first : Option ℕ) → Serves (reserve_next c.node first) r request → ⊥
    reserves None is = cc is
    reserves (Some k) is = subst IsUpdateVerb (sym (served_verb c.node r (requests.Reserve k) request is)) of

    by_copying : (o : Option Copying) → c.copying ≡ o → Serves (copy_at R c o) r request → (at : Copying) × (c.copying ≡ Some at)
    by_copying None none is = absurd (reserves (next_to_copy c.node R.entries) is)
    by_copying (Some at) some is = (at, some)

-- ---- its node

reserve_node : (c : CopyState) (k : Option ℕ) (reply : StepReply) → (reserve_taken c k reply).node ≡ c.node
reserve_node c None reply = refl
reserve_node c (Some k) words.Ok = refl
reserve_node c (Some k) reply = refl

pull_node : (generation : ℕ) (c : CopyState) (reply : StepReply) → (pull_taken generation c reply).node ≡ c.node
pull_node generation c words.Ok = refl
pull_node generation c reply = refl

behind_node : (incarnation : ℕ) (c : CopyState) (at : Option Copying) → (behind_completion incarnation c at).node ≡ c.node
behind_node incarnation c None = refl
behind_node incarnation c (Some at) = by_phase_of at.phase
  where
    by_phase_of : (ph : CopyPhase) → (behind_completion_in incarnation c at.ckpt ph).node ≡ c.node
    by_phase_of phases.PulledStaged = refl
    by_phase_of ph = refl

complete_node : (incarnation : ℕ) (c : CopyState) (reply : StepReply) → (complete_taken incarnation c reply).node ≡ c.node
complete_node incarnation c words.Ok = behind_node incarnation c c.copying
complete_node incarnation c reply = refl

taken_node : (d : StepDone) (c : CopyState) (verb : Verb) → (copy_taken_by d c verb).node ≡ c.node
taken_node d c verbs.Reserve = reserve_node c d.ckpt d.reply
taken_node d c verbs.Pull = pull_node d.generation c d.reply
taken_node d c verbs.Complete = complete_node (slice_index d.up c.node) c d.reply
taken_node d c verb = refl

-- it copies to the same node behind any step
pub copy_node : (d : StepDone) (c : CopyState) → (copy_taken d c).node ≡ c.node
copy_node d c = taken_node d c d.verb

-- ---- its update

-- no step of an update changes its checkpoint
stage_ckpt : (d : StepDone) (u : UpdateState) (reply : StepReply) → (stage_taken d u reply).ckpt ≡ u.ckpt
stage_ckpt d u words.Ok = refl
stage_ckpt d u (words.Held by) = refl
stage_ckpt d u reply = refl

claim_ckpt : (d : StepDone) (u : UpdateState) (reply : StepReply) → (claim_taken d u reply).ckpt ≡ u.ckpt
claim_ckpt d u words.Ok = refl
claim_ckpt d u (words.Held by) = refl
claim_ckpt d u (words.Free count) = refl
claim_ckpt d u reply = refl

commit_ckpt : (d : StepDone) (u : UpdateState) (reply : StepReply) → (commit_taken d u reply).ckpt ≡ u.ckpt
commit_ckpt d u words.Ok = refl
commit_ckpt d u reply = refl

withdraw_ckpt : (d : StepDone) (u : UpdateState) (reply : StepReply) → (withdraw_taken d u reply).ckpt ≡ u.ckpt
withdraw_ckpt d u words.Ok = refl
withdraw_ckpt d u reply = refl

taken_ckpt : (d : StepDone) (u : UpdateState) (verb : Verb) → (update_taken_by d u verb).ckpt ≡ u.ckpt
taken_ckpt d u verbs.Stage = stage_ckpt d u d.reply
taken_ckpt d u verbs.Claim = claim_ckpt d u d.reply
taken_ckpt d u verbs.Withdraw = withdraw_ckpt d u d.reply
taken_ckpt d u verbs.Commit = commit_ckpt d u d.reply
taken_ckpt d u verb = refl

-- one that is committing is so behind a commit, and behind what is no step of an update
commit_phase : (d : StepDone) (u : UpdateState) (reply : StepReply) → u.phase ≡ steps.Committing → (commit_taken d u reply).phase ≡ steps.Committing
commit_phase d u words.Ok is = ap committing is
commit_phase d u reply is = is

taken_phase : (d : StepDone) (u : UpdateState) (verb : Verb) → (IsUpdateVerb verb → verb ≡ verbs.Commit) → u.phase ≡ steps.Committing → (update_taken_by d u verb).phase ≡ steps.Committing
taken_phase d u verbs.Stage commits is = absurd (let w : verbs.Stage ≡ verbs.Commit = commits tt in cc w)
taken_phase d u verbs.Claim commits is = absurd (let w : verbs.Claim ≡ verbs.Commit = commits tt in cc w)
taken_phase d u verbs.Withdraw commits is = absurd (let w : verbs.Withdraw ≡ verbs.Commit = commits tt in cc w)
taken_phase d u verbs.Commit commits is = commit_phase d u d.reply is
taken_phase d u verb commits is = is

-- where what drives the call is at this checkpoint with an update, it is committing
abbrev pub CommitsIfAt : ℕ → Driver → Type 0
CommitsIfAt k d = (u : UpdateState) → update_in d ≡ Some u → u.ckpt ≡ k → u.phase ≡ steps.Committing

-- so it is behind a step of a copying, which reserves for another one, and commits, where its update takes a step
module _ (d : StepDone) (c : CopyState) (k : ℕ) (was : CommitsIfAt k (drivers.Copy c)) where
  reserve_if : d.verb ≡ verbs.Reserve → (d.ckpt ≡ Some k → d.reply ≡ words.Ok → ⊥) → CommitsIfAt k (drivers.Copy (reserve_taken c d.ckpt d.reply))
  reserve_if verb other = by d.ckpt d.reply other
    where
      by : (o : Option ℕ) (reply : StepReply) → (o ≡ Some k → reply ≡ words.Ok → ⊥) → CommitsIfAt k (drivers.Copy (reserve_taken c o reply))
      by None reply other u is at = was u is at
      by (Some j) words.Ok other u is at = absurd (
          let same : update_begun c.call j ≡ u = same_Some (update_begun c.call j) u is in
          other (ap Some (ap (λ (u : UpdateState). u.ckpt) same ∙ at)) refl)
      by (Some j) reply other u is at = was u is at

  pull_if : (generation : ℕ) (reply : StepReply) → CommitsIfAt k (drivers.Copy (pull_taken generation c reply))
  pull_if generation words.Ok u is at = was u (still (pulled_phase generation) c.copying is) at
    where
      still : (change : CopyPhase → CopyPhase) (o : Option Copying) → staging_at (with_phase change o) c.staging ≡ Some u → staging_at o c.staging ≡ Some u
      still change None is = is
      still change (Some at) is = is
  pull_if generation reply u is at = was u is at

  complete_if : (incarnation : ℕ) (reply : StepReply) → CommitsIfAt k (drivers.Copy (complete_taken incarnation c reply))
  complete_if incarnation words.Ok = by_copying c.copying refl
    where
      by_phase_of : (j : ℕ) (ph : CopyPhase) → update_in (drivers.Copy c) ≡ Some c.staging → CommitsIfAt k (drivers.Copy (behind_completion_in incarnation c j ph))
      by_phase_of j phases.PulledStaged does u is at =
          let same : update_joined c.node incarnation c.staging ≡ u = same_Some (update_joined c.node incarnation c.staging) u is in
          ap (λ (u : UpdateState). u.phase) (sym same) ∙ was c.staging does (ap (λ (u : UpdateState). u.ckpt) same ∙ at)
      by_phase_of j phases.Reserved does u none at = absurd (cc none)
      by_phase_of j phases.Staging does u none at = absurd (cc none)
      by_phase_of j (phases.PulledActive generation) does u none at = absurd (cc none)
      by_phase_of j phases.Committing does u none at = absurd (cc none)

      by_copying : (o : Option Copying) → c.copying ≡ o → CommitsIfAt k (drivers.Copy (behind_completion incarnation c o))
      by_copying None none = was
      by_copying (Some at) some = by_phase_of at.ckpt at.phase (does_staging c at some)
  complete_if incarnation reply = was

  staging_if : (verb : Verb) → ((u : UpdateState) → update_in (drivers.Copy c) ≡ Some u → u.ckpt ≡ k → IsUpdateVerb verb → verb ≡ verbs.Commit) → CommitsIfAt k (drivers.Copy (record c { copying = with_phase staging_phase c.copying; staging = update_taken_by d c.staging verb }))
  staging_if verb commits = by_copying c.copying refl
    where
      by_copying : (o : Option Copying) → c.copying ≡ o → (u : UpdateState) → staging_at (with_phase staging_phase o) (update_taken_by d c.staging verb) ≡ Some u → u.ckpt ≡ k → u.phase ≡ steps.Committing
      by_copying None none u is at = absurd (cc is)
      by_copying (Some there) some u is at =
          let same : update_taken_by d c.staging verb ≡ u = same_Some (update_taken_by d c.staging verb) u is in
          let ckpt : c.staging.ckpt ≡ k = sym (taken_ckpt d c.staging verb) ∙ ap (λ (u : UpdateState). u.ckpt) same ∙ at in
          let does : update_in (drivers.Copy c) ≡ Some c.staging = does_staging c there some in
          ap (λ (u : UpdateState). u.phase) (sym same) ∙ taken_phase d c.staging verb (commits c.staging does ckpt) (was c.staging does ckpt)

  pub commits_if : (d.verb ≡ verbs.Reserve → d.ckpt ≡ Some k → d.reply ≡ words.Ok → ⊥) → ((u : UpdateState) → update_in (drivers.Copy c) ≡ Some u → u.ckpt ≡ k → IsUpdateVerb d.verb → d.verb ≡ verbs.Commit) → CommitsIfAt k (drivers.Copy (copy_taken d c))
  commits_if other commits = by_verb d.verb refl commits
    where
      by_verb : (verb : Verb) → d.verb ≡ verb → ((u : UpdateState) → update_in (drivers.Copy c) ≡ Some u → u.ckpt ≡ k → IsUpdateVerb verb → verb ≡ verbs.Commit) → CommitsIfAt k (drivers.Copy (copy_taken_by d c verb))
      by_verb verbs.Reserve is commits = reserve_if is (other is)
      by_verb verbs.Pull is commits = pull_if d.generation d.reply
      by_verb verbs.Complete is commits = complete_if (slice_index d.up c.node) d.reply
      by_verb verb is commits = staging_of verb is commits
        where
          staging_of : (verb : Verb) → d.verb ≡ verb → ((u : UpdateState) → update_in (drivers.Copy c) ≡ Some u → u.ckpt ≡ k → IsUpdateVerb verb → verb ≡ verbs.Commit) → CommitsIfAt k (drivers.Copy (record c { copying = with_phase staging_phase c.copying; staging = update_taken d c.staging }))
          staging_of verb is commits = subst (λ v. CommitsIfAt k (drivers.Copy (record c { copying = with_phase staging_phase c.copying; staging = update_taken_by d c.staging v }))) (sym is) (staging_if verb commits)
