-- What is so behind each completion of a copying, and behind a copying that was answered OK.
use Rattle.std.proofs.Common.{◌≡◌, ℕ, inl, inr, List, [], ◌∷◌, ◌++◌, Option, Some, None, is_none, is_some, Bool, true, false, cond, not, ◌&&◌, ◌==◌, refl, sym, ap, subst, ◌∙◌, append_assoc}
use Rattle.std.specs.Prelude.{IsSome, IsSomeAnd, slice_index}
use Rattle.std.proofs.lemmas.Bool.{and_parts}
use Rattle.std.proofs.lemmas.Option.{same_Some}
use Rattle.ckpt_types.specs.declared.ais_error.AisError.TheVariants.{TryAgain}
use Rattle.ckpt_types.specs.declared.answers.Answer.{Answer}
use Rattle.ckpt_types.specs.declared.answers.Answer.TheVariants as answers
use Rattle.ckpt_types.specs.declared.answers.Cause.TheVariants.{Holder}
use Rattle.ckpt_types.specs.declared.answers.Outcome.{Outcome}
use Rattle.ckpt_types.specs.declared.answers.Outcome.TheVariants.{Done, Refused}
use Rattle.ckpt_types.specs.declared.identities.CallId.{CallId}
use Rattle.ckpt_types.specs.declared.operation.Op.TheVariants as ops
use Rattle.ckpt_types.specs.declared.words.OpWord.{OpWord}
use Rattle.ckpt_types.specs.declared.words.OpWord.TheVariants as opwords
use Rattle.ckpt_types.specs.declared.update.Update.{Update}
use Rattle.ckpt_types.specs.declared.update.Update.TheVariants as updates
use Rattle.ckpt_types.specs.Asks.{Ask, asked}
use Rattle.ckpt_types.specs.Asks as asks
use Rattle.node_msgs.specs.declared.details.Details.{Details}
use Rattle.node_msgs.specs.declared.steps.StepReply.{StepReply}
use Rattle.node_msgs.specs.declared.steps.StepReply.TheVariants as words
use Rattle.node_msgs.specs.declared.steps.Verb.{Verb}
use Rattle.node_msgs.specs.declared.steps.Verb.TheVariants as verbs
use Rattle.run_labels.specs.declared.labels.Label.{Label}
use Rattle.run_labels.specs.declared.labels.Label.TheVariants as labels
use Rattle.cluster_record.specs.DueCopy.{lacks_replica, next_to_copy, node_of}
use Rattle.cluster_record.specs.Joining.{completed}
use Rattle.cluster_record.specs.Placement.{is_all}
use Rattle.cluster_record.specs.RecordState.{entry_of, identity_of, swept}
use Rattle.cluster_record.proofs.CopyLaws.{lacks_none as each_there}
use Rattle.cluster_record.proofs.KeptLaws.{All-find_key}
use Rattle.ckpt_machine.specs.Acknowledged.{HasBegun}
use Rattle.ckpt_machine.specs.After.{after, changed, change_replica, kept_behind, step_of, stepped, with_committed}
use Rattle.ckpt_machine.specs.Copied.{AnswersCopy, Completes, CopiesTell, HasEach, WasCopied}
use Rattle.ckpt_machine.specs.CopyGuards.{CompleteOk, CopyPullHeld, CopyPullOk, CopyPullRow, CopyReserveRow, completion_end, copies_to, lacks_none}
use Rattle.ckpt_machine.specs.Due.{IsDue, Told}
use Rattle.ckpt_machine.specs.Guards.{Allowed, Row}
use Rattle.ckpt_machine.specs.Invariant.{Invariant, IsGoodIn}
use Rattle.ckpt_machine.specs.Laws.{OfEachRun}
use Rattle.ckpt_machine.specs.LookGuards.{LookDone, LookRow}
use Rattle.ckpt_machine.specs.Machine.{Machine, ReplicaState, Snapshot, CallState, empty_cluster, who}
use Rattle.ckpt_machine.specs.Runs.{last, IsRun}
use Rattle.ckpt_machine.specs.Shape.{IsCompleteOn, IsShapedBy, IsSpread}
use Rattle.ckpt_machine.specs.Synchronized.{IsPullOf}
use Rattle.ckpt_machine.specs.UpdateGuards.{ClaimFree, ClaimOk, ClaimRow, CommitOk, CommitRow, StageHeld, StageRefused, StageRow, WithdrawOk, WithdrawRow}
use Rattle.ckpt_machine.proofs.Askers.{IsCopyAsk, copy_op, copy_word}
use Rattle.ckpt_machine.proofs.BegunBefore.{all_began, begun_longer, begun_on}
use Rattle.ckpt_machine.proofs.BegunOnce.{pull_begun}
use Rattle.ckpt_machine.proofs.Completions.{Brings, brings, brought_is, entry_then, joined_entry, with_brought}
use Rattle.ckpt_machine.proofs.Copying.{put2-here}
use Rattle.ckpt_machine.proofs.CopyingHands.{HasInCopying}
use Rattle.ckpt_machine.proofs.CopyingLeft.{copying_had}
use Rattle.ckpt_machine.proofs.Dropped.{held_as}
use Rattle.ckpt_machine.proofs.Histories.{on_replica-there, run_history}
use Rattle.ckpt_machine.proofs.OptionLemmas.{IsSomeAnd-at, IsSomeAnd-from}
use Rattle.ckpt_machine.proofs.Refusing.{row_at_ckpt, at_node, at_none, at_node_alone, by_update, on_all}
use Rattle.ckpt_machine.proofs.Runs.{along, last-push, run_before, run_front, run_more}

-- ---- what a copying has in hand

-- the call has pulled this of the checkpoint in the log, from a replica that was there
record HasPulledThere (log : List Label) (call : CallId) (k : ℕ) (z : Snapshot) : Type 0 where
  before : List Label
  behind : List Label
  pull : Label
  node : ℕ
  log_is : log ≡ before ++ pull ∷ behind
  pull_is : IsPullOf pull call k node
  source : ReplicaState
  there : (last before).replicas k node ≡ Some source
  effects : source.effects ≡ z.effects
  sections : source.sections ≡ z.sections

-- so it has in a longer log
pulled_longer : (log : List Label) (l : Label) (call : CallId) (k : ℕ) (z : Snapshot) → HasPulledThere log call k z → HasPulledThere (log ++ l ∷ []) call k z
pulled_longer log l call k z has = record {
  before = has.before;
  behind = has.behind ++ l ∷ [];
  pull = has.pull;
  node = has.node;
  log_is = ap (λ (xs : List Label). xs ++ l ∷ []) has.log_is ∙ append_assoc has.before (has.pull ∷ has.behind) (l ∷ []);
  pull_is = has.pull_is;
  source = has.source;
  there = has.there;
  effects = has.effects;
  sections = has.sections;
}

-- each copying in hand has pulled what it has
abbrev AllPulled : List Label → Machine → Type 0
AllPulled log m = (call : CallId) (k : ℕ) (z : Snapshot) → HasInCopying m.in_hand call k z → HasPulledThere log call k z

after_pulled : (log : List Label) → IsRun log → AllPulled log (last log) → (l : Label) → Allowed (last log) l → IsDue (last log) l → AllPulled (log ++ l ∷ []) (after (last log) l)
after_pulled log run all l allowed due call k z has =
    let (inv, history) = run_history log run in
    elim (copying_had (last log) inv history call k z l allowed due has) [
      | inl was ↦ pulled_longer log l call k z (all call k z was)
      | inr now ↦ record { before = log; behind = []; pull = l; node = now.node; log_is = refl; pull_is = now.pull; source = now.replica; there = now.there; effects = now.effects; sections = now.sections }
    ]

all_pulled : (log : List Label) → IsRun log → AllPulled log (last log)
all_pulled log run = along AllPulled (λ front l before allowed due all. after_pulled front before all l allowed due) [] log run (λ call k z has. absurd (let none = has.in_hand in cc none))

-- a copying in hand began in the log, on no checkpoint
copying_began : (log : List Label) → IsRun log → (s : CallState) → (last log).in_hand (who s) ≡ Some s → s.op ≡ ops.Copy → HasBegun log s.call ops.Copy None
copying_began log run s held copies = subst (λ op. HasBegun log s.call op (begun_on (asked op) s.kept.ckpt)) copies (all_began log run s held)

-- ---- behind a completion

-- the node has what was pulled
completes_by : (log : List Label) → IsRun log → (d : CallId) (word : OpWord) (k r : ℕ) (end : Option Outcome) (details : Details) → let l : Label = labels.Stepped d word verbs.Complete (Some k) (Some r) words.Ok end details in
    Allowed (last log) l → IsDue (last log) l → WasCopied (log ++ l ∷ []) d k r
completes_by log run d word k r end details allowed due = record {
  before = from.before;
  behind = from.behind;
  pull = from.pull;
  node = from.node;
  log_is = from.log_is;
  begun = subst (λ c. HasBegun from.before c ops.Copy None) due.call_is (pull_begun (log ++ l ∷ []) (run_more log l run allowed due) from.before from.behind from.pull s.call k from.node from.log_is from.pull_is ops.Copy None (begun_longer log l s.call ops.Copy None (copying_began log run s held (copy_op s.op b.asks))));
  own = subst (λ (c : CallId). node_of c.actor ≡ r) due.call_is (ap node_of b.actor);
  pull_is = subst (λ c. IsPullOf from.pull c k from.node) due.call_is from.pull_is;
  source = from.source;
  there = from.there;
  replica = _;
  has = ap (λ (n : Machine). n.replicas k r) then_is ∙ put2-here m.replicas k r _;
  effects = sym from.effects;
  sections = sym from.sections;
  generation = subst (λ (n : Machine). IsSomeAnd (entry_of k n.cluster.entries) (λ e. (joined_entry m inv s k r b).generation ≡ e.generation)) (sym then_is) (IsSomeAnd-from (entry_of k (with_brought m inv s k r b).cluster.entries) (λ e. (joined_entry m inv s k r b).generation ≡ e.generation) (joined_entry m inv s k r b) (entry_then m inv s k r b) refl);
}
  where
    m : Machine
    m = last log

    l : Label
    l = labels.Stepped d word verbs.Complete (Some k) (Some r) words.Ok end details

    t : Told
    t = record { verb = verbs.Complete; ckpt = Some k; node = Some r; reply = words.Ok; end = end; details = details }

    inv : Invariant m
    inv = (run_history log run).0

    s : CallState
    s = due.state

    held : m.in_hand (who s) ≡ Some s
    held = held_as m d word s due.in_hand due.call_is due.word

    same : allowed.state ≡ s
    same = same_Some allowed.state s (sym allowed.in_hand ∙ due.in_hand)

    b : Brings m s k r
    b = brings m s held t k r (subst (λ (z : CallState). Some k ≡ z.kept.ckpt) same allowed.own) (subst (λ z. Row m z verbs.Complete t) same allowed.row)

    behind : Machine → CallState
    behind n = kept_behind m s n.cluster verbs.Complete (Some k) (Some r) words.Ok

    then_is : last (log ++ l ∷ []) ≡ stepped (with_brought m inv s k r b) (behind (with_brought m inv s k r b)) end
    then_is = last-push log l ∙ ap (λ o. step_of m o verbs.Complete (Some k) (Some r) words.Ok end) due.in_hand ∙ ap (λ n. stepped n (behind n) end) (brought_is m inv s k r b)

    from : HasPulledThere (log ++ l ∷ []) s.call k b.pulled
    from = pulled_longer log l s.call k b.pulled (all_pulled log run s.call k b.pulled (record { state = s; in_hand = held; asks = subst IsCopyAsk (sym b.asks) tt; call_is = refl; ckpt = b.ckpt; snapshot = b.in_hand }))

completes : (log : List Label) → IsRun log → (l : Label) → Allowed (last log) l → IsDue (last log) l → (call : CallId) (k r : ℕ) → Completes l call k r → WasCopied (log ++ l ∷ []) call k r
completes log run (labels.Stepped d opwords.Copy verbs.Complete (Some j) (Some q) words.Ok end details) allowed due call k r is =
    let l : Label = labels.Stepped d opwords.Copy verbs.Complete (Some j) (Some q) words.Ok end details in
    subst (WasCopied (log ++ l ∷ []) call k) is.2 (subst (λ k. WasCopied (log ++ l ∷ []) call k q) is.1 (subst (λ call. WasCopied (log ++ l ∷ []) call j q) is.0 (completes_by log run d opwords.Copy j q end details allowed due)))
completes log run l allowed due call k r is = absurd is

-- ---- behind an OK

-- where a node lacks no checkpoint, each that is made and is not collocated is complete there
has_each : (n : Machine) → Invariant n → (r : ℕ) → lacks_none n.cluster r ≡ true → HasEach n r
has_each n inv r none k e found made apart =
    let lacks : lacks_replica r e ≡ false = All-find_key (λ e. lacks_replica r e ≡ false) identity_of k n.cluster.entries e (each_there r n.cluster.entries (none_next (next_to_copy r n.cluster.entries) none)) found in
    let complete : IsCompleteOn e r = not_lacking lacks in
    let good : IsSpread n k (inv.shapes k) e = subst (IsGoodIn n k (inv.shapes k) e) made (inv.holds.entries k e found) in
    let (x, there, shaped) = IsSomeAnd-at (n.replicas k r) (IsShapedBy (is_all e.attributes) (inv.shapes k) e.active r) (good.replicas r complete) in
    (complete, subst IsSome (sym there) refl)
  where
    none_next : (o : Option ℕ) → is_none o ≡ true → o ≡ None
    none_next None is = refl
    none_next (Some k) is = absurd (cc is)

    not_lacking : lacks_replica r e ≡ false → IsCompleteOn e r
    not_lacking lacks = sym (λ i. not (is_some (made i)) && not (apart i) && (slice_index e.complete r == 0)) ∙ lacks

module _ (m : Machine) (s : CallState) (asks_is : asked s.op ≡ asks.Copy) (answer : Answer) (details : Details) where
  -- the parts of the step that answers OK
  abbrev t_of : Verb → Option ℕ → Option ℕ → StepReply → Told
  t_of verb j q reply = record { verb = verb; ckpt = j; node = q; reply = reply; end = Some (Done answer); details = details }

  -- its node lacks none behind it
  abbrev LeavesNone : Verb → Option ℕ → Option ℕ → StepReply → Type 0
  LeavesNone verb j q reply = lacks_none (changed m s verb j q reply).cluster (copies_to s) ≡ true

  -- it asks for nothing else
  no_other : (ask : Ask) → asked s.op ≡ ask → IsCopyAsk ask
  no_other ask is = subst IsCopyAsk (sym asks_is ∙ is) tt

  goes_on : Some (Done answer) ≡ None → ⊥
  goes_on is = cc is

  refused : (end : Option Outcome) → Some (Done answer) ≡ end → (end ≡ Some (Done answer) → ⊥) → ⊥
  refused end is never = never (sym is)

  -- an end that was due under a condition
  ends_if : (b : Bool) (o : Outcome) → Some (Done answer) ≡ cond b (Some o) None → b ≡ true
  ends_if true o is = refl
  ends_if false o is = absurd (cc is)

  held_off : (b : Bool) (by : CallId) → Some (Done answer) ≡ cond b (Some (Refused TryAgain (Holder by))) None → ⊥
  held_off true by is = cc is
  held_off false by is = cc is

  -- by a commit
  by_commit : (k r : ℕ) (update : Update) (reply : StepReply) → CommitRow m s.call update (λ last. last && lacks_none m.cluster (copies_to s)) k r reply (Some (Done answer)) details → LeavesNone verbs.Commit (Some k) (Some r) reply
  by_commit k r update words.Ok row =
      let ends : Bool → Bool = λ last. last && lacks_none m.cluster (copies_to s) in
      let (e, x, found, there, ok) = on_replica-there m k r (λ e x. (is_all e.attributes ≡ true) × CommitOk m s.call update ends k r (Some (Done answer)) details x) row in
      let none : lacks_none m.cluster (copies_to s) ≡ true = (and_parts _ _ (ends_if (ends _) _ ok.1.answer)).1 in
      ap (λ o. lacks_none (change_replica m k r o (with_committed (entry_of k m.cluster.entries))).cluster (copies_to s)) there ∙ none
  by_commit k r update reply row = absurd row

  -- by a completion
  by_completion : (k r : ℕ) (reply : StepReply) → Row m s verbs.Complete (t_of verbs.Complete (Some k) (Some r) reply) → LeavesNone verbs.Complete (Some k) (Some r) reply
  by_completion k r words.Ok row =
      let (actor, up, on) = row.0.1 in
      let (e, found, ok) = IsSomeAnd-at (entry_of k m.cluster.entries) (CompleteOk m s k r (Some (Done answer))) on in
      ap (λ a. lacks_none (swept (completed k r m.cluster)) (node_of a)) actor ∙ by_all (is_all e.attributes) ok.answer
    where
      by_all : (all : Bool) → Some (Done answer) ≡ completion_end (swept (completed k r m.cluster)) r all → lacks_none (swept (completed k r m.cluster)) r ≡ true
      by_all true is = absurd (goes_on is)
      by_all false is = ends_if (lacks_none (swept (completed k r m.cluster)) r) (Done answers.Nothing) is
  by_completion k r reply row = absurd row.0.1

  -- or by a look
  by_look : (j q : Option ℕ) (reply : StepReply) → LookRow m s reply (Some (Done answer)) → LeavesNone verbs.Look j q reply
  by_look j q words.Done row = done answer (subst (λ ask. LookDone m s ask answer) asks_is row)
    where
      done : (a : Answer) → LookDone m s asks.Copy a → lacks_none m.cluster (copies_to s) ≡ true
      done answers.Nothing is = is.0
      done a is = absurd is
  by_look j q reply row = absurd row

  -- no other step answers it OK
  reserve_not : (k r : ℕ) (reply : StepReply) → CopyReserveRow m s k r reply (Some (Done answer)) → ⊥
  reserve_not k r words.Ok row = goes_on row.1
  reserve_not k r words.Memory row = let is = row.1 in cc is
  reserve_not k r reply row = row

  stage_not : (update : Update) (k r : ℕ) (reply : StepReply) → StageRow m s update k r reply (Some (Done answer)) → ⊥
  stage_not update k r words.Ok row = goes_on row.1
  stage_not update k r words.Refused row = on_all m k r (StageRefused m s update k (Some (Done answer))) row (λ e x (by : StageRefused m s update k (Some (Done answer)) e x). let is = by.answer in cc is)
  stage_not update k r (words.Held by) row = on_all m k r (λ e x. StageHeld m s.call by (Some (Done answer)) x) row (λ e x (held : StageHeld m s.call by (Some (Done answer)) x). held_off _ by held.answer)
  stage_not update k r reply row = absurd row

  claim_not : (k r : ℕ) (reply : StepReply) → ClaimRow m s k r reply (Some (Done answer)) → ⊥
  claim_not k r words.Ok row = on_all m k r (λ e x. ClaimOk m s.call (Some (Done answer)) x) row (λ e x (ok : ClaimOk m s.call (Some (Done answer)) x). goes_on ok.answer)
  claim_not k r (words.Free count) row = on_all m k r (λ e x. ClaimFree count (Some (Done answer)) x) row (λ e x (free : ClaimFree count (Some (Done answer)) x). goes_on free.answer)
  claim_not k r (words.Held by) row = on_all m k r (λ e x. StageHeld m s.call by (Some (Done answer)) x) row (λ e x (held : StageHeld m s.call by (Some (Done answer)) x). held_off _ by held.answer)
  claim_not k r reply row = absurd row

  withdraw_not : (k r : ℕ) (reply : StepReply) → WithdrawRow m s k r reply (Some (Done answer)) → ⊥
  withdraw_not k r words.Ok row = on_all m k r (λ e x. WithdrawOk m s.call k (Some (Done answer)) x) row (λ e x (ok : WithdrawOk m s.call k (Some (Done answer)) x). goes_on ok.answer)
  withdraw_not k r reply row = absurd row

  pull_not : (k r : ℕ) (reply : StepReply) → CopyPullRow m s k r (t_of verbs.Pull (Some k) (Some r) reply) reply → ⊥
  pull_not k r words.Ok row = let (e, x, found, there, ok) = on_replica-there m k r (CopyPullOk (t_of verbs.Pull (Some k) (Some r) words.Ok) r) row in goes_on ok.answer
  pull_not k r (words.Held by) row = let (e, x, found, there, held) = on_replica-there m k r (CopyPullHeld m s r by (t_of verbs.Pull (Some k) (Some r) (words.Held by))) row in let is = held.held.answer in cc is
  pull_not k r reply row = row

  leaves_none : (verb : Verb) (j q : Option ℕ) (reply : StepReply) → Row m s verb (t_of verb j q reply) → LeavesNone verb j q reply
  leaves_none verbs.Commit (Some k) (Some r) reply row = elim row [
    | inl change ↦ absurd (no_other _ change.2)
    | inr copy ↦ by_commit k r updates.Nothing reply copy.1
  ]
  leaves_none verbs.Commit (Some k) None reply row = absurd row
  leaves_none verbs.Commit None q reply row = absurd row
  leaves_none verbs.Complete (Some k) (Some r) reply row = by_completion k r reply row
  leaves_none verbs.Complete (Some k) None reply row = absurd row.0
  leaves_none verbs.Complete None q reply row = absurd row.0
  leaves_none verbs.Look j q reply row = by_look j q reply row.2
  leaves_none verbs.Reserve j q reply row = absurd (at_node j q _ row.0 (λ k r p. elim p [ inl making ↦ no_other _ making.2.asks | inr copy ↦ reserve_not k r reply copy.1 ]))
  leaves_none verbs.Pull (Some k) (Some r) reply row = absurd (elim row.0 [ inl sync ↦ no_other _ sync.2 | inr copy ↦ pull_not k r reply copy.1 ])
  leaves_none verbs.Pull (Some k) None reply row = absurd row.0
  leaves_none verbs.Pull None q reply row = absurd row.0
  leaves_none verbs.Stage j q reply row = absurd (at_node j q _ row.0 (λ k r p. by_update m s (λ update ends. StageRow m s update k r reply (Some (Done answer))) p (λ update ends row. stage_not update k r reply row)))
  leaves_none verbs.Claim j q reply row = absurd (at_node j q _ row.0 (λ k r p. by_update m s (λ update ends. ClaimRow m s k r reply (Some (Done answer))) p (λ update ends row. claim_not k r reply row)))
  leaves_none verbs.Withdraw j q reply row = absurd (at_node j q _ row.0 (λ k r p. by_update m s (λ update ends. WithdrawRow m s k r reply (Some (Done answer))) p (λ update ends row. withdraw_not k r reply row)))
  leaves_none verbs.Enter j q reply row = absurd (at_node_alone j q _ row.0 (λ q p. no_other _ p.2))
  leaves_none verbs.Open j q reply row = absurd (row_at_ckpt j q _ row.0 (λ k p. no_other _ p.2.asks))
  leaves_none verbs.Create j q reply row = absurd (row_at_ckpt j q _ row.0 (λ k p. no_other _ p.2.asks))
  leaves_none verbs.Finish j q reply row = absurd (row_at_ckpt j q _ row.0 (λ k p. no_other _ p.2.asks))
  leaves_none verbs.Undo j q reply row = absurd (row_at_ckpt j q _ row.0 (λ k p. no_other _ p.2.asks))
  leaves_none verbs.Install j q reply row = absurd (at_node j q _ row.0 (λ k r p. no_other _ p.2))
  leaves_none verbs.Apply j q reply row = absurd (at_node j q _ row (λ k r p. no_other _ p.2))
  leaves_none verbs.Mark j q reply row = absurd (at_node j q _ row (λ k r p. no_other _ p.2))
  leaves_none verbs.Element j q reply row = absurd (at_node j q _ row (λ k r p. no_other _ p.2))
  leaves_none verbs.Unmark j q reply row = absurd (at_node j q _ row (λ k r p. no_other _ p.2))
  leaves_none verbs.Read j q reply row = absurd (at_node j q _ row (λ k r p. no_other _ p.2))
  leaves_none verbs.Status j q reply row = absurd (at_node j q _ row (λ k r p. no_other _ p.1))
  leaves_none verbs.Iter j q reply row = absurd (at_node j q _ row.0 (λ k r p. no_other _ p.4))
  leaves_none verbs.Next j q reply row = absurd (at_node j q _ row (λ k r p. no_other _ p.1))
  leaves_none verbs.Hold j q reply row = absurd (at_node j q _ row.0 (λ k r p. no_other _ p.1))
  leaves_none verbs.Activate j q reply row = absurd (at_node j q _ row.0 (λ k r p. no_other _ p.1))
  leaves_none verbs.Leave j q reply row = absurd (at_none j q _ row.0 (λ p. no_other _ p.0))
  leaves_none verbs.Close j q reply row = absurd (row_at_ckpt j q _ row.0 (λ k p. no_other _ p.1))
  leaves_none verbs.Unlink j q reply row = absurd (row_at_ckpt j q _ row.0 (λ k p. no_other _ p.1))
  leaves_none verbs.Retain j q reply row = absurd (row_at_ckpt j q _ row.0 (λ k p. no_other _ p.2))

-- so its node has each, and it began as a copying
ends_by : (log : List Label) → IsRun log → (l : Label) → Allowed (last log) l → IsDue (last log) l → (call : CallId) → AnswersCopy l call → HasBegun log call ops.Copy None × HasEach (last (log ++ l ∷ [])) (node_of call.actor)
ends_by log run (labels.Stepped d opwords.Copy verb j q reply (Some (Done answer)) details) allowed due call is =
    let l : Label = labels.Stepped d opwords.Copy verb j q reply (Some (Done answer)) details in
    let t : Told = record { verb = verb; ckpt = j; node = q; reply = reply; end = Some (Done answer); details = details } in
    let m : Machine = last log in
    let s = due.state in
    let same : allowed.state ≡ s = same_Some allowed.state s (sym allowed.in_hand ∙ due.in_hand) in
    let row : Row m s verb t = subst (λ z. Row m z verb t) same allowed.row in
    let held : m.in_hand (who s) ≡ Some s = held_as m d opwords.Copy s due.in_hand due.call_is due.word in
    let copies : asked s.op ≡ asks.Copy = ap asked (copy_word s.op due.word) in
    let then_is : (last (log ++ l ∷ [])).cluster ≡ (changed m s verb j q reply).cluster = ap (λ (n : Machine). n.cluster) (last-push log l ∙ ap (λ o. step_of m o verb j q reply (Some (Done answer))) due.in_hand) in
    let node : copies_to s ≡ node_of call.actor = ap (λ (c : CallId). node_of c.actor) (due.call_is ∙ is) in (
      subst (λ c. HasBegun log c ops.Copy None) (due.call_is ∙ is) (copying_began log run s held (copy_word s.op due.word)),
      subst (HasEach (last (log ++ l ∷ []))) node (has_each (last (log ++ l ∷ [])) (run_history (log ++ l ∷ []) (run_more log l run allowed due)).0 (copies_to s)
          (ap (λ R. lacks_none R (copies_to s)) then_is ∙ leaves_none m s copies answer details verb j q reply row)),
    )
ends_by log run l allowed due call is = absurd is

-- THE LAW: what a copying leaves
pub copies_tell : OfEachRun CopiesTell
copies_tell log run = record { completed = completed_tells; ended = ended_tells }
  where
    -- a front of the log, and the label behind it
    at : (front back : List Label) (l : Label) → log ≡ front ++ l ∷ back → IsRun front × Allowed (last front) l × IsDue (last front) l
    at front back l is = run_before empty_cluster front l (run_front log (front ++ l ∷ []) back (is ∙ sym (append_assoc front (l ∷ []) back)) run)

    completed_tells : (front back : List Label) (l : Label) (call : CallId) (k r : ℕ) → log ≡ front ++ l ∷ back → Completes l call k r → WasCopied (front ++ l ∷ []) call k r
    completed_tells front back l call k r is label_is = let (before, allowed, due) = at front back l is in completes front before l allowed due call k r label_is

    ended_tells : (front back : List Label) (l : Label) (call : CallId) → log ≡ front ++ l ∷ back → AnswersCopy l call → HasBegun front call ops.Copy None × HasEach (last (front ++ l ∷ [])) (node_of call.actor)
    ended_tells front back l call is label_is = let (before, allowed, due) = at front back l is in ends_by front before l allowed due call label_is
