-- What is so behind a label that answers OK to a synchronisation: the call has pulled what the active had, and has served the node of each complete replica of the checkpoint, which has that first, if it is the one that was served.
use Rattle.std.proofs.Common.{◌≡◌, ℕ, ◌+◌, ◌<◌, inl, inr, List, [], ◌∷◌, ◌++◌, length, Option, Some, None, Bool, true, false, cond, ℤ, refl, sym, ap, subst, ◌∙◌, append_assoc, arith}
use Rattle.std.specs.List.{list_any}
use Rattle.std.specs.Option.{option_map}
use Rattle.std.specs.Prelude.{IsSome, IsSomeAnd}
use Rattle.std.proofs.lemmas.Option.{same_Some}
use Rattle.ckpt_machine.proofs.Dropped.{held_as}
use Rattle.ckpt_types.specs.declared.answers.Answer.{Answer}
use Rattle.ckpt_types.specs.declared.answers.Answer.TheVariants as answers
use Rattle.ckpt_types.specs.declared.answers.Outcome.{Outcome}
use Rattle.ckpt_types.specs.declared.answers.Outcome.TheVariants.{Done}
use Rattle.ckpt_types.specs.declared.identities.CallId.{CallId}
use Rattle.ckpt_types.specs.declared.operation.Op.{Op}
use Rattle.ckpt_types.specs.declared.operation.Op.TheVariants as ops
use Rattle.ckpt_types.specs.declared.words.OpWord.{OpWord}
use Rattle.ckpt_types.specs.declared.words.OpWord.TheVariants as opwords
use Rattle.ckpt_types.specs.Asks.{Ask, asked}
use Rattle.ckpt_types.specs.Asks as asks
use Rattle.node_msgs.specs.declared.details.Details.{Details}
use Rattle.node_msgs.specs.declared.steps.StepReply.{StepReply}
use Rattle.node_msgs.specs.declared.steps.StepReply.TheVariants as words
use Rattle.node_msgs.specs.declared.steps.Verb.{Verb}
use Rattle.node_msgs.specs.declared.steps.Verb.TheVariants as verbs
use Rattle.run_labels.specs.declared.labels.Label.{Label}
use Rattle.run_labels.specs.declared.labels.Label.TheVariants as labels
use Rattle.cluster_record.specs.declared.entries.Entry.{Entry}
use Rattle.cluster_record.specs.Calls.{left}
use Rattle.cluster_record.specs.Placement.{is_collocated}
use Rattle.cluster_record.specs.RecordState.{RecordState, entry_of}
use Rattle.cluster_record.specs.StepDone.{done_of, counting}
use Rattle.ckpt_machine.specs.Acknowledged.{HasBegun}
use Rattle.ckpt_machine.specs.Driving.{Kept}
use Rattle.ckpt_machine.specs.Guards.{IsOnOwn, Row, Allowed}
use Rattle.ckpt_machine.specs.LookGuards.{SyncDone, OnLed, LookDone, LookRow}
use Rattle.ckpt_machine.specs.ActiveGuards.{PullOk, PullHeld, PullRow, InstallOk, serves, all_served, steps_with}
use Rattle.ckpt_machine.specs.Invariant.{Invariant}
use Rattle.ckpt_machine.specs.Laws.{OfEachRun}
use Rattle.ckpt_machine.specs.Machine.{Machine, Effect, ReplicaState, Snapshot, CallState, empty_cluster, who}
use Rattle.ckpt_machine.specs.Propagation.{copied}
use Rattle.ckpt_machine.specs.Replays.{IsPrefix}
use Rattle.ckpt_machine.specs.Runs.{last, IsRun}
use Rattle.ckpt_machine.specs.Shape.{IsCompleteOn}
use Rattle.ckpt_machine.specs.After.{change_replica, with_installed, changed, kept_by, kept_behind, stepped, step_of, call_begun, after}
use Rattle.ckpt_machine.specs.Due.{Told, IsDue, due, counted_at}
use Rattle.ckpt_machine.specs.Whose.{same_who}
use Rattle.ckpt_machine.specs.Synchronized.{IsSyncWord, Synchronizes, IsServiceOf, IsServedIn, KeepsReplica, HaveFirst, IsSynchronized, SynchronizedTell}
use Rattle.ckpt_machine.proofs.Askers.{IsCopyAsk, kept_still}
use Rattle.ckpt_machine.proofs.BegunBefore.{begun_longer, all_began, begun_on-other}
use Rattle.ckpt_machine.proofs.BegunOnce.{pull_begun, step_below}
use Rattle.ckpt_machine.specs.BeginRows.{BeginRow}
use Rattle.ckpt_machine.specs.Beginning.{Standing}
use Rattle.ckpt_machine.proofs.Bringing.{HasPulledIn, HasFirst, IsSureOf, IsBringing, service_parts, stays_bringing, step_brings}
use Rattle.ckpt_machine.proofs.CopyingHands.{LeavesCopying}
use Rattle.ckpt_machine.proofs.Quiet.{quiet}
use Rattle.ckpt_machine.proofs.EachReplica.{run_copies}
use Rattle.ckpt_machine.proofs.Follows.{IsBare}
use Rattle.ckpt_machine.proofs.Generations.{generation_there}
use Rattle.ckpt_machine.proofs.LabelsLeave.{label_leaves}
use Rattle.ckpt_machine.proofs.Histories.{follows, on_replica-there, run_history}
use Rattle.ckpt_machine.proofs.OptionLemmas.{IsSomeAnd-at}
use Rattle.ckpt_machine.proofs.Refusing.{row_at_ckpt, at_node, at_none, at_node_alone}
use Rattle.ckpt_machine.proofs.Runs.{last-push, last_or, along, run_before, run_front, run_more}
use Rattle.ckpt_machine.proofs.Starting.{first_kept, begun_as}
use Rattle.ckpt_machine.proofs.Sync.{left_is}
use Rattle.ckpt_types.specs.OpWord.{stepped_as, word_of_op}
use Rattle.ckpt_types.specs.declared.identities.Who.{Who}
use Rattle.ckpt_machine.proofs.Whose.{same_who-refl, put_who-cases}
use Rattle.ckpt_machine.proofs.SyncSteps.{IsSynchronize, served_as, served_each}

-- ---- in every state of a run

-- each synchronisation that this state has in hand brings what it has pulled in the log
abbrev AllBring : List Label → Machine → Type 0
AllBring log m = (a : Who) (s : CallState) → m.in_hand a ≡ Some s → IsSynchronize (asked s.op) → IsBringing log m.cluster m.replicas m.in_hand s

-- a call that has served a node in a run has a number below the next
service_below : (log : List Label) → IsRun log → (before behind : List Label) (step : Label) (call : CallId) (k r : ℕ) → log ≡ before ++ step ∷ behind → IsServiceOf step call k r → call.number < (last log).next call.actor
service_below log run before behind (labels.Stepped d word verb (Some j) (Some q) reply end details) call k r is of = step_below log run before behind d word verb (Some j) (Some q) reply end details call is of.0
service_below log run before behind l call k r is of = absurd of

-- a call that begins has nothing in hand, and has served no node
begun_bringing : (log : List Label) → IsRun log → (R : RecordState) (replicas : ℕ → ℕ → Option ReplicaState) (hands : Who → Option CallState) (end : Option Outcome) (call : CallId) (op : Op) (details : Details) (kept : Kept) (s : CallState) → call.number ≡ (last log).next call.actor → call_begun end call op kept ≡ Some s
    → IsBringing (log ++ labels.Began call op end details ∷ []) R replicas hands s
begun_bringing log run R replicas hands end call op details kept s number is =
    let (d, driven, same) = begun_as end call op kept s is in
    subst (IsBringing (log ++ labels.Began call op end details ∷ []) R replicas hands) same (record {
      none = λ none r. refl;
      pulled = λ k z ckpt has. absurd (cc has);
      told = λ k r ckpt served. absurd (cc served);
      by_steps = λ k r served. absurd (none_served k r served);
      served = λ k z ckpt has. absurd (cc has);
      generations = λ k z ckpt has. absurd (cc has);
      copied = λ k z ckpt has. absurd (cc has);
    })
  where
    none_served : (k r : ℕ) → IsServedIn (log ++ labels.Began call op end details ∷ []) call k r → ⊥
    none_served k r served = elim (last_or log (labels.Began call op end details) served.before served.step served.behind served.log_is) [
      | inl here ↦ subst (λ (l : Label). IsServiceOf l call k r) (sym here.1) served.step_is
      | inr there ↦ (let below = service_below log run served.before there.0 served.step call k r there.1 served.step_is in omega (arith, below, number))
    ]

-- it is no copying
syncs_alone : (ask : Ask) → IsSynchronize ask → IsCopyAsk ask → ⊥
syncs_alone (asks.Synchronize place timeout) syncs copies = copies
syncs_alone ask syncs copies = syncs

module _ (log : List Label) (run : IsRun log) (all : AllBring log (last log)) where
  abbrev m : Machine
  m = last log

  -- what a label leaves of checkpoints, and of copyings in hand
  leaves_by : (l : Label) → Allowed m l → IsDue m l → LeavesCopying m l (after m l).cluster (after m l).replicas (after m l).in_hand
  leaves_by l allowed due = let (inv, history) = run_history log run in label_leaves m inv history (run_copies log run) l allowed due

  -- a call that takes no step brings what it has pulled
  other_brings : (l : Label) (allowed : Allowed m l) → IsDue m l → (a : Who) (s : CallState) → m.in_hand a ≡ Some s → IsSynchronize (asked s.op) → ((k r : ℕ) → IsServiceOf l s.call k r → ⊥) → IsBringing (log ++ l ∷ []) (after m l).cluster (after m l).replicas (after m l).in_hand s
  other_brings l allowed due a s held asks_is no_service = let (inv, history) = run_history log run in stays_bringing log l inv history (run_copies log run) s a held (syncs_alone (asked s.op) asks_is) (all a s held asks_is) (after m l).cluster (after m l).replicas (after m l).in_hand (leaves_by l allowed due) no_service

  -- each call in hand brings what it has pulled, behind any label that is allowed and due
  after_brings : (l : Label) → Allowed m l → IsDue m l → AllBring (log ++ l ∷ []) (after m l)
  after_brings (labels.Began call op end details) allowed due a s held asks_is = elim (put_who-cases m.in_hand (stepped_as call (word_of_op op)) (call_begun end call op (first_kept m call op)) a s held) [
    | inl own ↦ begun_bringing log run m.cluster m.replicas (after m (labels.Began call op end details)).in_hand end call op details (first_kept m call op) s due.number own.1
    | inr other ↦ other_brings (labels.Began call op end details) allowed due a s other.1 asks_is (λ k r of. of)
  ]
  after_brings (labels.Stepped call op verb j q reply end details) allowed due a z in_hand asks_is =
      let l : Label = labels.Stepped call op verb j q reply end details in
      let t : Told = record { verb = verb; ckpt = j; node = q; reply = reply; end = end; details = details } in
      let s = due.state in
      let held : m.in_hand (who s) ≡ Some s = held_as m call op s due.in_hand due.call_is due.word in
      let same : allowed.state ≡ s = same_Some allowed.state s (sym allowed.in_hand ∙ due.in_hand) in
      let row = subst (λ z. Row m z verb t) same allowed.row in
      let own = subst (λ (z : CallState). IsOnOwn verb j z.kept.ckpt) same allowed.own in
      let (inv, history) = run_history log run in
      let n : Machine = changed m s verb j q reply in
      let behind : CallState = kept_behind m s n.cluster verb j q reply in
      let hands : Who → Option CallState = (step_of m (Some s) verb j q reply end).in_hand in
      let leaves : LeavesCopying m l n.cluster n.replicas hands = subst (λ o. LeavesCopying m l (step_of m o verb j q reply end).cluster (step_of m o verb j q reply end).replicas (step_of m o verb j q reply end).in_hand) due.in_hand (leaves_by l allowed due) in
      let there = subst (λ o. (step_of m o verb j q reply end).in_hand a ≡ Some z) due.in_hand in_hand in
      subst (λ o. IsBringing (log ++ l ∷ []) (step_of m o verb j q reply end).cluster (step_of m o verb j q reply end).replicas (step_of m o verb j q reply end).in_hand z) (sym due.in_hand) (elim (put_who-cases n.in_hand (who s) (left end behind) a z there) [
        | inl here ↦ (
            let asks_own : IsSynchronize (asked s.op) = subst (λ (z : CallState). IsSynchronize (asked z.op)) (sym (left_is end behind z here.1)) asks_is in
            subst (IsBringing (log ++ l ∷ []) n.cluster n.replicas hands) (left_is end behind z here.1) (step_brings log inv history (run_copies log run) s held (all (who s) s held asks_own) call due.call_is op end details asks_own hands verb j q reply leaves due.done own row))
        | inr other ↦ (
            let was : m.in_hand a ≡ Some z = (follows m inv history s held t row).in_hand a z other.1 in
            let name_apart : (z.call ≡ s.call) → ⊥ = (λ same_call.
            let name : a ≡ who s = inv.holds.calls.one_name a (who s) z s was held same_call in
            let w : true ≡ false = sym (ap (λ v. same_who v (who s)) name ∙ same_who-refl (who s)) ∙ other.0 in
            cc w) in
            let no_service : (k r : ℕ) → IsServiceOf l z.call k r → ⊥ = (λ k r of. name_apart (sym (due.call_is ∙ (service_parts call op verb j q reply end details z.call k r of).0))) in
            stays_bringing log l inv history (run_copies log run) z a was (syncs_alone (asked z.op) asks_is) (all a z was asks_is) n.cluster n.replicas hands leaves no_service)
      ])
  after_brings l allowed due a s held asks_is = other_brings l allowed due a s ((quiet m (run_history log run).0 l tt due).held a s held) asks_is (λ k r of. of)

all_bring : (log : List Label) → IsRun log → AllBring log (last log)
all_bring log run = along AllBring (λ front l before allowed due all. after_brings front before all l allowed due) [] log run (λ a s held asks_is. absurd (cc held))

-- ---- the label that answers OK

-- where a synchronisation is answered OK the test for that was met, and the answer is the count that was pulled
ends_if : (b : Bool) (answer : Answer) (n : ℕ) → Some (Done answer) ≡ cond b (Some (Done (answers.Pulled n))) None → (b ≡ true) × (answer ≡ answers.Pulled n)
ends_if true answer n is = (refl, (let same : answer ≡ answers.Pulled n = cc is in same))
ends_if false answer n is = absurd (cc is)

-- a call has in hand a snapshot of the present generation of its checkpoint, whose effects the answer counts, and its steps have served each complete node
record HasServedAll (entries : List Entry) (s : CallState) (answer : Answer) : Type 0 where
  ckpt : ℕ
  kept : s.kept.ckpt ≡ Some ckpt
  entry : Entry
  found : entry_of ckpt entries ≡ Some entry
  pulled : Snapshot
  in_hand : s.snapshot ≡ Some pulled
  present : pulled.generation ≡ entry.generation
  answer_is : answer ≡ answers.Pulled (length pulled.effects)
  all : (r : ℕ) → IsCompleteOn entry r → list_any (serves r) s.steps ≡ true

module _ (m : Machine) (inv : Invariant m)
    (s : CallState) (place : ℕ) (timeout : Option ℤ) (asks_is : asked s.op ≡ asks.Synchronize place timeout) (answer : Answer) (details : Details) where
  -- the parts of the label that answers OK
  abbrev t_of : Verb → Option ℕ → Option ℕ → StepReply → Told
  t_of verb j q reply = record { verb = verb; ckpt = j; node = q; reply = reply; end = Some (Done answer); details = details }

  -- a call has served all complete nodes behind a step of its own
  abbrev ServesAllBy : Verb → Option ℕ → Option ℕ → StepReply → Type 0
  ServesAllBy verb j q reply = HasServedAll (changed m s verb j q reply).cluster.entries (kept_behind m s (changed m s verb j q reply).cluster verb j q reply) answer

  -- where the test for the end is met, each complete node is served by one of the steps
  each_served : (t : Told) (e : Entry) → all_served (steps_with m s t) 0 e.complete ≡ true → (r : ℕ) → IsCompleteOn e r → list_any (serves r) (steps_with m s t) ≡ true
  each_served t e all r complete = let same : 0 + r ≡ r = omega arith in subst (λ r. list_any (serves r) (steps_with m s t) ≡ true) same (served_each (steps_with m s t) 0 e.complete all r complete)

  -- a synchronisation asks for nothing else
  no_other : (ask : Ask) → asked s.op ≡ ask → IsSynchronize ask
  no_other ask is = subst IsSynchronize (sym asks_is ∙ is) tt

  -- a pull of it is no copying's
  its_pull : (j q : ℕ) (reply : StepReply) → Row m s verbs.Pull (t_of verbs.Pull (Some j) (Some q) reply) → PullRow m s j q (t_of verbs.Pull (Some j) (Some q) reply) reply
  its_pull j q reply row = elim row.0 [ inl pull ↦ pull.3 | inr copy ↦ absurd (no_other _ copy.0) ]

  -- a call that ends by its pull has served all complete nodes, of which there is the active alone
  by_pull : (j q : ℕ) (reply : StepReply) → Some j ≡ s.kept.ckpt → Row m s verbs.Pull (t_of verbs.Pull (Some j) (Some q) reply) → ServesAllBy verbs.Pull (Some j) (Some q) reply
  by_pull j q words.Ok own row =
      let t = t_of verbs.Pull (Some j) (Some q) words.Ok in
      let (e, x, found, there, ok) = on_replica-there m j q (PullOk m s q t) (its_pull j q words.Ok row) in
      let (all, n) = ends_if (all_served (steps_with m s t) 0 e.complete) answer (length x.effects) ok.answer in
      record { ckpt = j; kept = sym own; entry = e; found = found; pulled = copied x; in_hand = ap (option_map copied) there; present = (generation_there m inv j q e x found there).led ok.active; answer_is = n; all = each_served t e all }
  by_pull j q (words.Held by) own row =
      let (e, x, found, there, held) = on_replica-there m j q (PullHeld m s q by (t_of verbs.Pull (Some j) (Some q) (words.Held by))) (its_pull j q (words.Held by) row) in
      absurd (let is = held.held.answer in cc is)
  by_pull j q reply own row = absurd (its_pull j q reply row)

  -- a call that ends by an installation has served all complete nodes, whether that replica was behind or not
  by_install : (j q : ℕ) (reply : StepReply) → Some j ≡ s.kept.ckpt → Row m s verbs.Install (t_of verbs.Install (Some j) (Some q) reply) → ServesAllBy verbs.Install (Some j) (Some q) reply
  by_install j q words.Ok own row =
      let t = t_of verbs.Install (Some j) (Some q) words.Ok in
      let (e, x, found, there, ok) = on_replica-there m j q (InstallOk m s q t true) row.0.3 in
      let (all, n) = ends_if (all_served (steps_with m s t) 0 e.complete) answer (length ok.pulled.effects) ok.answer in
      let found_then : entry_of j (changed m s verbs.Install (Some j) (Some q) words.Ok).cluster.entries ≡ Some e = ap (λ o. entry_of j (change_replica m j q o (with_installed s.snapshot)).cluster.entries) there ∙ found in
      record { ckpt = j; kept = sym own; entry = e; found = found_then; pulled = ok.pulled; in_hand = ok.in_hand; present = ok.present; answer_is = n; all = each_served t e all }
  by_install j q words.Older own row =
      let t = t_of verbs.Install (Some j) (Some q) words.Older in
      let (e, x, found, there, ok) = on_replica-there m j q (InstallOk m s q t false) row.0.3 in
      let (all, n) = ends_if (all_served (steps_with m s t) 0 e.complete) answer (length ok.pulled.effects) ok.answer in
      record { ckpt = j; kept = sym own; entry = e; found = found; pulled = ok.pulled; in_hand = ok.in_hand; present = ok.present; answer_is = n; all = each_served t e all }
  by_install j q reply own row = absurd row.0.3

  -- a call that ends by a look had served all complete nodes
  by_look : (j q : Option ℕ) (reply : StepReply) → LookRow m s reply (Some (Done answer)) → ServesAllBy verbs.Look j q reply
  by_look j q words.Done row = told answer refl (subst (λ ask. LookDone m s ask answer) asks_is row)
    where
      led : (count : ℕ) → answer ≡ answers.Pulled count → (o : Option ℕ) → s.kept.ckpt ≡ o → OnLed m o (λ e. IsSomeAnd s.snapshot (SyncDone m s count e)) → ServesAllBy verbs.Look j q words.Done
      led count is None kept none = absurd none
      led count is (Some k) kept on =
          let (e, found, both) = IsSomeAnd-at (entry_of k m.cluster.entries) (λ e. IsSome e.active × IsSomeAnd s.snapshot (SyncDone m s count e)) on in
          let (pulled, in_hand, ok) = IsSomeAnd-at s.snapshot (SyncDone m s count e) both.1 in
          let d = counting (counted_at m verbs.Look j q words.Done) (done_of m.cluster verbs.Look j q words.Done) in
          record {
            ckpt = k;
            kept = kept;
            entry = e;
            found = found;
            pulled = pulled;
            in_hand = in_hand;
            present = ok.0;
            answer_is = is ∙ ap answers.Pulled (sym ok.1);
            all = λ r complete. (let same : 0 + r ≡ r = omega arith in served_as r d s.steps refl ∙ subst (λ r. list_any (serves r) s.steps ≡ true) same (served_each s.steps 0 e.complete ok.2 r complete));
          }

      -- a look answers a synchronisation with a count alone
      told : (a : Answer) → answer ≡ a → LookDone m s (asks.Synchronize place timeout) a → ServesAllBy verbs.Look j q words.Done
      told (answers.Pulled count) is row = led count is s.kept.ckpt refl row.0
      told a is row = absurd row
  by_look j q reply row = absurd row

  -- a synchronisation that is answered OK has served all complete nodes, whichever step ends it
  all_by : (verb : Verb) (j q : Option ℕ) (reply : StepReply) → IsOnOwn verb j s.kept.ckpt → Row m s verb (t_of verb j q reply) → ServesAllBy verb j q reply
  all_by verbs.Pull (Some j) (Some q) reply own row = by_pull j q reply own row
  all_by verbs.Pull (Some j) None reply own row = absurd row.0
  all_by verbs.Pull None q reply own row = absurd row.0
  all_by verbs.Install (Some j) (Some q) reply own row = by_install j q reply own row
  all_by verbs.Install (Some j) None reply own row = absurd row.0
  all_by verbs.Install None q reply own row = absurd row.0
  all_by verbs.Look j q reply own row = by_look j q reply row.2
  all_by verbs.Enter j q reply own row = absurd (at_node_alone j q _ row.0 (λ q p. no_other _ p.2))
  all_by verbs.Open j q reply own row = absurd (row_at_ckpt j q _ row.0 (λ k p. no_other _ p.2.asks))
  all_by verbs.Create j q reply own row = absurd (row_at_ckpt j q _ row.0 (λ k p. no_other _ p.2.asks))
  all_by verbs.Reserve j q reply own row = absurd (at_node j q _ row.0 (λ k r p. elim p [ inl making ↦ no_other _ making.2.asks | inr copy ↦ no_other _ copy.0 ]))
  all_by verbs.Finish j q reply own row = absurd (row_at_ckpt j q _ row.0 (λ k p. no_other _ p.2.asks))
  all_by verbs.Undo j q reply own row = absurd (row_at_ckpt j q _ row.0 (λ k p. no_other _ p.2.asks))
  all_by verbs.Stage j q reply own row = absurd (at_node j q _ row.0 (λ k r p. elim p [ inl change ↦ no_other _ change.2 | inr copy ↦ no_other _ copy.0 ]))
  all_by verbs.Claim j q reply own row = absurd (at_node j q _ row.0 (λ k r p. elim p [ inl change ↦ no_other _ change.2 | inr copy ↦ no_other _ copy.0 ]))
  all_by verbs.Withdraw j q reply own row = absurd (at_node j q _ row.0 (λ k r p. elim p [ inl change ↦ no_other _ change.2 | inr copy ↦ no_other _ copy.0 ]))
  all_by verbs.Commit j q reply own row = absurd (at_node j q _ row (λ k r p. elim p [ inl change ↦ no_other _ change.2 | inr copy ↦ no_other _ copy.0 ]))
  all_by verbs.Apply j q reply own row = absurd (at_node j q _ row (λ k r p. no_other _ p.2))
  all_by verbs.Mark j q reply own row = absurd (at_node j q _ row (λ k r p. no_other _ p.2))
  all_by verbs.Element j q reply own row = absurd (at_node j q _ row (λ k r p. no_other _ p.2))
  all_by verbs.Unmark j q reply own row = absurd (at_node j q _ row (λ k r p. no_other _ p.2))
  all_by verbs.Read j q reply own row = absurd (at_node j q _ row (λ k r p. no_other _ p.2))
  all_by verbs.Status j q reply own row = absurd (at_node j q _ row (λ k r p. no_other _ p.1))
  all_by verbs.Iter j q reply own row = absurd (at_node j q _ row.0 (λ k r p. no_other _ p.4))
  all_by verbs.Next j q reply own row = absurd (at_node j q _ row (λ k r p. no_other _ p.1))
  all_by verbs.Hold j q reply own row = absurd (at_node j q _ row.0 (λ k r p. no_other _ p.1))
  all_by verbs.Activate j q reply own row = absurd (at_node j q _ row.0 (λ k r p. no_other _ p.1))
  all_by verbs.Leave j q reply own row = absurd (at_none j q _ row.0 (λ p. no_other _ p.0))
  all_by verbs.Close j q reply own row = absurd (row_at_ckpt j q _ row.0 (λ k p. no_other _ p.1))
  all_by verbs.Unlink j q reply own row = absurd (row_at_ckpt j q _ row.0 (λ k p. no_other _ p.1))
  all_by verbs.Retain j q reply own row = absurd (row_at_ckpt j q _ row.0 (λ k p. no_other _ p.2))
  all_by verbs.Complete j q reply own row = absurd (at_node j q _ row.0 (λ k r p. no_other _ p.0))

-- where a call has served all complete nodes, each complete replica has first what it has in hand, if it is the one that was served
have_first : (log : List Label) (n : Machine) (hands : Who → Option CallState) (s : CallState) (answer : Answer) → IsBare n → IsBringing log n.cluster n.replicas hands s → (all : HasServedAll n.cluster.entries s answer) → HaveFirst n log s.call all.ckpt all.pulled.effects
have_first log n hands s answer bare brings all e r x found there = record {
  served = served;
  generation = brings.generations all.ckpt all.pulled all.kept all.in_hand all.entry r x served all.found all.present there ∙ all.present ∙ ap (λ (e : Entry). e.generation) same;
  has = λ keeps. has (sure keeps);
}
  where
    same : all.entry ≡ e
    same = same_Some all.entry e (sym all.found ∙ found)

    complete : IsCompleteOn all.entry r
    complete =
        let (f, is, complete_at) = IsSomeAnd-at (entry_of all.ckpt n.cluster.entries) (λ e. IsCompleteOn e r) (bare.complete all.ckpt r x there) in
        subst (λ e. IsCompleteOn e r) (same_Some f all.entry (sym is ∙ all.found)) complete_at

    served : IsServedIn log s.call all.ckpt r
    served = brings.told all.ckpt r all.kept (all.all r complete)

    sure : KeepsReplica e r served.behind → IsSureOf all.entry r served.behind
    sure (inl stays) = inl stays
    sure (inr (inl apart)) = inr (inl (subst (λ (e : Entry). is_collocated e.attributes ≡ false) (sym same) apart, complete))
    sure (inr (inr active)) = inr (inr (ap (λ (e : Entry). e.active) same ∙ active))

    has : IsSureOf all.entry r served.behind → IsPrefix all.pulled.effects x.effects
    has sure =
        let (y, at, first) = IsSomeAnd-at (n.replicas all.ckpt r) (HasFirst all.pulled) (brings.served all.ckpt all.pulled all.kept all.in_hand all.entry r served all.found all.present sure) in
        subst (λ (x : ReplicaState). IsPrefix all.pulled.effects x.effects) (same_Some y x (sym at ∙ there)) first.1

-- a call with such a word asks for one
asks_by : (op : Op) → IsSyncWord (word_of_op op) → (place : ℕ) × (timeout : Option ℤ) × (asked op ≡ asks.Synchronize place timeout)
asks_by (ops.Sync place timeout) is = (place, Some timeout, refl)
asks_by (ops.SyncAsync place invocation) is = (place, None, refl)
asks_by op is = absurd is

-- a step that answers OK to a synchronisation tells what is so behind it
tells_by : (log : List Label) → IsRun log → (d : CallId) (word : OpWord) → IsSyncWord word → (verb : Verb) (j q : Option ℕ) (reply : StepReply) (told : Answer) (details : Details) → let l : Label = labels.Stepped d word verb j q reply (Some (Done told)) details in
    Allowed (last log) l → IsDue (last log) l → (call : CallId) (answer : Answer) → (d ≡ call) × (told ≡ answer) → IsSynchronized (log ++ l ∷ []) call answer
tells_by log run d word syncs verb j q reply told details allowed due call answer is =
    subst (λ call. IsSynchronized (log ++ l ∷ []) call answer) (due.call_is ∙ is.0) (record {
      op = s.op;
      asks = subst IsSyncWord (sym due.word) syncs;
      ckpt = all.ckpt;
      before = from.before;
      behind = from.behind;
      pull = from.pull;
      node = from.node;
      log_is = from.log_is;
      begun = pull_begun (log ++ l ∷ []) (run_more log l run allowed due) from.before from.behind from.pull s.call all.ckpt from.node from.log_is from.pull_is s.op (Some all.ckpt) (begun_longer log l s.call s.op (Some all.ckpt) (subst (HasBegun log s.call s.op) (begun_on-other (asked s.op) s.kept.ckpt no_copying ∙ sym (ap (λ (kept : Kept). kept.ckpt) kept_is) ∙ all.kept) (all_began log run s held)));
      pull_is = from.pull_is;
      active = from.active;
      source = from.source;
      there = from.there;
      answer_is = sym is.1 ∙ all.answer_is ∙ ap (λ (xs : List Effect). answers.Pulled (length xs)) (sym from.effects);
      stands = subst (λ (m : Machine). IsSome (entry_of all.ckpt m.cluster.entries)) (sym then_is) (subst IsSome (sym all.found) refl);
      have = subst (HaveFirst (last (log ++ l ∷ [])) (log ++ l ∷ []) s.call all.ckpt) (sym from.effects) (subst (λ m. HaveFirst m (log ++ l ∷ []) s.call all.ckpt all.pulled.effects) (sym then_is)
          (have_first (log ++ l ∷ []) then_machine hands behind told (subst IsBare then_is bare) (record { none = brings.none; pulled = brings.pulled; told = brings.told; by_steps = brings.by_steps; served = brings.served; generations = brings.generations; copied = brings.copied }) all));
    })
  where
    end : Option Outcome
    end = Some (Done told)

    l : Label
    l = labels.Stepped d word verb j q reply end details

    t : Told
    t = record { verb = verb; ckpt = j; node = q; reply = reply; end = end; details = details }

    s : CallState
    s = due.state

    held : (last log).in_hand (who s) ≡ Some s
    held = held_as (last log) d word s due.in_hand due.call_is due.word

    same : allowed.state ≡ s
    same = same_Some allowed.state s (sym allowed.in_hand ∙ due.in_hand)

    row : Row (last log) s verb t
    row = subst (λ z. Row (last log) z verb t) same allowed.row

    own : IsOnOwn verb j s.kept.ckpt
    own = subst (λ (z : CallState). IsOnOwn verb j z.kept.ckpt) same allowed.own

    changed_machine : Machine
    changed_machine = changed (last log) s verb j q reply

    behind : CallState
    behind = kept_behind (last log) s changed_machine.cluster verb j q reply

    then_machine : Machine
    then_machine = stepped changed_machine behind end

    then_is : last (log ++ l ∷ []) ≡ then_machine
    then_is = last-push log l ∙ ap (λ o. step_of (last log) o verb j q reply end) due.in_hand

    bare : IsBare (last (log ++ l ∷ []))
    bare = (run_history (log ++ l ∷ []) (run_more log l run allowed due)).1.bare

    syncs_is : IsSynchronize (asked s.op)
    syncs_is = let (place, timeout, is) = asks_by s.op (subst IsSyncWord (sym due.word) syncs) in subst IsSynchronize (sym is) tt

    -- it is no copying, and keeps what it kept
    no_copying : IsCopyAsk (asked s.op) → ⊥
    no_copying copies = let (place, timeout, is) = asks_by s.op (subst IsSyncWord (sym due.word) syncs) in subst IsCopyAsk is copies

    kept_is : kept_by (last log) s verb j reply ≡ s.kept
    kept_is = kept_still (last log) s verb j reply no_copying

    hands : Who → Option CallState
    hands = (step_of (last log) (Some s) verb j q reply end).in_hand

    brings : IsBringing (log ++ l ∷ []) changed_machine.cluster changed_machine.replicas hands behind
    brings =
        let (inv, history) = run_history log run in
        step_brings log inv history (run_copies log run) s held (all_bring log run (who s) s held syncs_is) d due.call_is word end details syncs_is hands verb j q reply
        (subst (λ o. LeavesCopying (last log) l (step_of (last log) o verb j q reply end).cluster (step_of (last log) o verb j q reply end).replicas (step_of (last log) o verb j q reply end).in_hand) due.in_hand (label_leaves (last log) inv history (run_copies log run) l allowed due)) due.done own row

    all : HasServedAll changed_machine.cluster.entries behind told
    all =
        let (place, timeout, asks_is) = asks_by s.op (subst IsSyncWord (sym due.word) syncs) in
        all_by (last log) (run_history log run).0 s place timeout asks_is told details verb j q reply own row

    from : HasPulledIn (log ++ l ∷ []) s.call all.ckpt all.pulled
    from = brings.pulled all.ckpt all.pulled all.kept all.in_hand

-- one for which its client waits is answered OK at no beginning
not_at_once : (st : Standing) (place : ℕ) (timeout : ℤ) (answer : Answer) → BeginRow st (asks.Synchronize place (Some timeout)) (Some (Done answer)) → ⊥
not_at_once st place timeout answers.Nothing row = let at_once = row.1 in cc at_once
not_at_once st place timeout (answers.Dispatched given) row = absurd row.1
not_at_once st place timeout answer row = absurd row

-- so does any label that answers OK to one
tells : (log : List Label) → IsRun log → (l : Label) → Allowed (last log) l → IsDue (last log) l → (call : CallId) (answer : Answer) → Synchronizes l call answer → IsSynchronized (log ++ l ∷ []) call answer
tells log run (labels.Began d (ops.Sync place timeout) (Some (Done told)) details) allowed due call answer is = absurd (not_at_once _ place timeout told allowed.row)
tells log run (labels.Stepped d opwords.Sync verb j q reply (Some (Done told)) details) allowed due call answer is = tells_by log run d opwords.Sync tt verb j q reply told details allowed due call answer is
tells log run (labels.Stepped d opwords.SyncAsync verb j q reply (Some (Done told)) details) allowed due call answer is = tells_by log run d opwords.SyncAsync tt verb j q reply told details allowed due call answer is
tells log run l allowed due call answer is = absurd is

-- THE LAW: what a synchronisation that was answered OK promises
pub synchronisations_tell : OfEachRun SynchronizedTell
synchronisations_tell log run front back l call answer is answers =
    let (before, allowed, due) = run_before empty_cluster front l (run_front log (front ++ l ∷ []) back (is ∙ sym (append_assoc front (l ∷ []) back)) run) in
    tells front before l allowed due call answer answers
