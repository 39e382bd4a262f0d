-- Handles are references after each front of a run.
use Rattle.std.proofs.Common.{◌≡◌, ◌⊎◌, ℕ, inl, inr, List, [], ◌∷◌, ◌++◌, Option, Some, None, is_some, true, false, refl, sym, ap, subst, ◌∙◌, append_assoc}
use Rattle.std.specs.Prelude.{Contains, IsSome, IsSomeAnd, slice_index}
use Rattle.std.proofs.lemmas.Bool.{ne_eqb}
use Rattle.ckpt_types.specs.declared.answers.Outcome.{Outcome}
use Rattle.ckpt_types.specs.declared.identities.ActorName.{ActorName}
use Rattle.ckpt_types.specs.declared.identities.ActorName.TheVariants.{Client}
use Rattle.ckpt_types.specs.declared.identities.CallId.{CallId}
use Rattle.ckpt_types.specs.Asks.{asked}
use Rattle.ckpt_types.specs.declared.words.OpWord.{OpWord}
use Rattle.client_handles.specs.declared.handle_view.HandleView.{HandleView}
use Rattle.node_msgs.specs.declared.details.Details.{Details}
use Rattle.node_msgs.specs.declared.steps.StepReply.{StepReply}
use Rattle.node_msgs.specs.declared.steps.Verb.{Verb}
use Rattle.run_labels.specs.declared.labels.Label.{Label}
use Rattle.run_labels.specs.declared.labels.Label.TheVariants as labels
use Rattle.cluster_record.specs.declared.entries.Entry.{Entry}
use Rattle.cluster_record.specs.Calls.{number_of}
use Rattle.cluster_record.specs.RecordState.{entry_of}
use Rattle.ckpt_machine.specs.After.{after, step_of}
use Rattle.ckpt_machine.specs.Due.{IsDue}
use Rattle.ckpt_machine.specs.Guards.{Allowed}
use Rattle.ckpt_machine.specs.Invariant.{Invariant}
use Rattle.ckpt_machine.specs.Laws.{OfEachRun}
use Rattle.ckpt_machine.specs.Machine.{Machine, who}
use Rattle.ckpt_machine.specs.References.{handles_of, IsOnAlone, WasTaken, HandlesAreReferences, HandlesAreReferencesThroughout}
use Rattle.ckpt_machine.specs.Runs.{last, IsRun}
use Rattle.ckpt_machine.specs.Tables.{ended_at_once}
use Rattle.ckpt_machine.proofs.ClosingCalls.{AllNumbered, changed_numbered, begun_numbered, failed_numbered, stepped_own, begun_own, failed_own}
use Rattle.ckpt_machine.proofs.Copying.{after_pull, after_put}
use Rattle.ckpt_machine.proofs.Dropped.{held_as}
use Rattle.ckpt_machine.proofs.EndedTables.{client_by_number, ended_at_once-handles}
use Rattle.ckpt_machine.proofs.FailedReferences.{failed_leaves}
use Rattle.ckpt_machine.proofs.HandleCounts.{handles_of-none}
use Rattle.ckpt_machine.proofs.HandleNumbers.{no_numbers}
use Rattle.ckpt_machine.proofs.Histories.{run_history}
use Rattle.ckpt_machine.proofs.KeptLists.{among_none}
use Rattle.ckpt_machine.proofs.OptionLemmas.{IfSome-at, IsSomeAnd-from, what_is}
use Rattle.ckpt_machine.proofs.ReferenceRows.{changed_leaves}
use Rattle.ckpt_machine.proofs.ReferenceSteps.{ClosesOwn, HasReferences, as_it_was, swept_as_it_was, tables_leave}
use Rattle.ckpt_machine.proofs.Referring.{Leaves}
use Rattle.ckpt_machine.proofs.Runs.{along, last-push, run_front}

-- ---- what a label leaves

-- the label is the failure of a node on which alone this checkpoint is complete
abbrev IsTakenBy : Machine → Label → ℕ → Type 0
IsTakenBy m (labels.Failed r true) j = IsSomeAnd (entry_of j m.cluster.entries) (λ e. (e.making ≡ None) × IsOnAlone r e)
IsTakenBy m l j = ⊥

-- the checkpoint was gone before, or goes by the label
abbrev GoneBy : Machine → Label → ℕ → Type 0
GoneBy m l j = (entry_of j m.cluster.entries ≡ None) ⊎ IsTakenBy m l j

-- what a label leaves that makes this state: handles and references that match, numbers of handles, and calls that close their own
record KeepsReferences (m : Machine) (l : Label) (n : Machine) : Type 0 where
  leaves : Leaves (GoneBy m l) m.tables n.tables n.cluster
  numbered : AllNumbered n.tables
  own : ClosesOwn n.in_hand n.tables

module _ (m : Machine) (inv : Invariant m) (has : HasReferences m) where
  -- nothing changes
  same : (l : Label) → KeepsReferences m l m
  same l = record { leaves = as_it_was m inv.shapes inv.holds has (GoneBy m l) (λ j none. inl none); numbered = has.numbers; own = has.closes }

  -- a step that is allowed
  step_keeps : (l : Label) (call : CallId) (op : OpWord) (verb : Verb) (k r : Option ℕ) (reply : StepReply) (end : Option Outcome) (details : Details) → Allowed m (labels.Stepped call op verb k r reply end details) → KeepsReferences m l (after m (labels.Stepped call op verb k r reply end details))
  step_keeps l call op verb k r reply end details allowed =
      let s = allowed.state in
      let held : m.in_hand (who s) ≡ Some s = held_as m call op s allowed.in_hand allowed.call_is allowed.word in
      subst (λ o. KeepsReferences m l (step_of m o verb k r reply end)) (sym allowed.in_hand) (record {
        leaves = changed_leaves m inv.shapes inv.holds has (GoneBy m l) (λ j none. inl none) s held end details verb k r reply allowed.row;
        numbered = changed_numbered m has.numbers s end details verb k r reply allowed.row;
        own = stepped_own m inv.shapes inv.holds has.numbers has.closes s held end details verb k r reply allowed.row;
      })

  -- whatever label comes
  after_keeps : (l : Label) → Allowed m l → IsDue m l → KeepsReferences m l (after m l)
  after_keeps (labels.Began call op end details) allowed due = record {
    leaves = tables_leave m inv.shapes inv.holds has (GoneBy m (labels.Began call op end details)) (λ j none. inl none) call.actor (ended_at_once end (asked op) (m.pending call.actor)) (ended_at_once-handles end (asked op) (m.pending call.actor) (m.tables call.actor));
    numbered = begun_numbered m has.numbers call op end;
    own = begun_own m inv.shapes inv.holds has.numbers has.closes call op end details due;
  }
  after_keeps (labels.Stepped call op verb k r reply end details) allowed due = step_keeps (labels.Stepped call op verb k r reply end details) call op verb k r reply end details allowed
  after_keeps (labels.Word by word said) allowed due = same (labels.Word by word said)
  after_keeps (labels.Nodes n) allowed due = (let was = same (labels.Nodes n) in record { leaves = record { rises = was.leaves.rises; matches = was.leaves.matches; there = was.leaves.there }; numbered = was.numbered; own = was.own })
  after_keeps (labels.Moved t) allowed due = record { leaves = swept_as_it_was m inv.shapes inv.holds has (GoneBy m (labels.Moved t)) (λ j none. inl none) (record m.cluster { moment = t }) m.tables (λ c. refl) refl; numbered = has.numbers; own = has.closes }
  after_keeps (labels.Failed r true) allowed due = record {
    leaves = failed_leaves m inv.shapes inv.holds has r (GoneBy m (labels.Failed r true)) (λ j none. inl none) (λ j taken. inr taken);
    numbered = failed_numbered m has.numbers r;
    own = failed_own m inv.shapes inv.holds has.numbers has.closes r;
  }
  after_keeps (labels.Failed r false) allowed due = same (labels.Failed r false)
  after_keeps (labels.Joined r (Some incarnation)) allowed due = (let was = same (labels.Joined r (Some incarnation)) in record { leaves = record { rises = was.leaves.rises; matches = was.leaves.matches; there = was.leaves.there }; numbered = was.numbered; own = was.own })
  after_keeps (labels.Joined r None) allowed due = same (labels.Joined r None)
  after_keeps (labels.Shown k replicas) allowed due = same (labels.Shown k replicas)
  after_keeps (labels.Pulled k reply) allowed due = after_pull (KeepsReferences m (labels.Pulled k reply)) m k reply due (same (labels.Pulled k reply)) (λ x from none. let was = same (labels.Pulled k reply) in record { leaves = was.leaves; numbered = was.numbered; own = was.own })
  after_keeps (labels.Put k r reply) allowed due = after_put (KeepsReferences m (labels.Put k r reply)) m k r reply (same (labels.Put k r reply)) (λ z x copied on. let was = same (labels.Put k r reply) in record { leaves = was.leaves; numbered = was.numbered; own = was.own })

-- ---- along a run

-- the checkpoint of each handle of a client is there, or a failure took it in the log
abbrev AreThere : List Label → Machine → Type 0
AreThere log m = (c : ℕ) (h : HandleView) → Contains (m.tables (Client c)).handles h → IsSome (entry_of h.id m.cluster.entries) ⊎ WasTaken log (Client c) h

-- handles and references match behind this log, and the checkpoint of each handle is there, or a failure took it
record HandlesHold (log : List Label) (m : Machine) : Type 0 where
  references : HasReferences m
  there : AreThere log m

-- what a failure took stays taken
taken_still : (log : List Label) (l : Label) (a : ActorName) (h : HandleView) → WasTaken log a h → WasTaken (log ++ l ∷ []) a h
taken_still log l a h taken = record {
  front = taken.front;
  back = taken.back ++ l ∷ [];
  node = taken.node;
  log_is = ap (λ xs. xs ++ l ∷ []) taken.log_is ∙ append_assoc taken.front (labels.Failed taken.node true ∷ taken.back) (l ∷ []);
  had = taken.had;
  was = taken.was;
  gone = taken.gone;
}

-- and what this one takes is taken
taken_by : (log : List Label) (l : Label) (c : ℕ) (h : HandleView) → Contains ((last log).tables (Client c)).handles h → IsTakenBy (last log) l h.id → entry_of h.id (after (last log) l).cluster.entries ≡ None → WasTaken (log ++ l ∷ []) (Client c) h
taken_by log (labels.Failed r true) c h had taken gone = record {
  front = log;
  back = [];
  node = r;
  log_is = refl;
  had = had;
  was = taken;
  gone = ap (λ (n : Machine). entry_of h.id n.cluster.entries) (last-push log (labels.Failed r true)) ∙ gone;
}
taken_by log l c h had taken gone = absurd taken

-- a label keeps both
along_label : (log : List Label) (l : Label) → IsRun log → Allowed (last log) l → IsDue (last log) l → HandlesHold log (last log) → HandlesHold (log ++ l ∷ []) (after (last log) l)
along_label log l run allowed due holds = record { references = record { matches = kept.leaves.matches; numbers = kept.numbered; closes = kept.own }; there = there_then }
  where
    kept : KeepsReferences (last log) l (after (last log) l)
    kept = after_keeps (last log) (run_history log run).0 holds.references l allowed due

    there_then : AreThere (log ++ l ∷ []) (after (last log) l)
    there_then c h among = by_entry (entry_of h.id (after (last log) l).cluster.entries) refl
      where
        was : entry_of h.id (last log).cluster.entries ≡ None → Contains ((last log).tables (Client c)).handles h → WasTaken (log ++ l ∷ []) (Client c) h
        was none had = elim (holds.there c h had) [
          | inl some ↦ absurd (let w : false ≡ true = sym (ap is_some none) ∙ some in cc w)
          | inr taken ↦ taken_still log l (Client c) h taken
        ]

        by_entry : (o : Option Entry) → entry_of h.id (after (last log) l).cluster.entries ≡ o → IsSome (entry_of h.id (after (last log) l).cluster.entries) ⊎ WasTaken (log ++ l ∷ []) (Client c) h
        by_entry (Some e) found = inl (ap is_some found)
        by_entry None gone = elim (kept.leaves.there c h among) [
          | inl some ↦ inl some
          | inr went ↦ elim went.1 [ inl none ↦ inr (was none went.0) | inr taken ↦ inr (taken_by log l c h went.0 taken gone) ]
        ]

-- in every run
handles_hold : (log : List Label) → IsRun log → HandlesHold log (last log)
handles_hold log run = along HandlesHold along_label [] log run (record {
  references = record { matches = record { counted = λ k c e found. absurd (cc found); clients = λ k e found. absurd (cc found) }; numbers = λ a. no_numbers; closes = λ w z place at closes. absurd (cc at) };
  there = λ c h among. absurd (among_none h among);
})

module _ (log : List Label) (inv : Invariant (last log)) (holds : HandlesHold log (last log)) where
  abbrev m : Machine
  m = last log

  counted : (k c : ℕ) (e : Entry) → entry_of k m.cluster.entries ≡ Some e → handles_of k (m.tables (Client c)).handles ≡ slice_index e.references c
  counted = holds.references.matches.counted

  -- where no handle of a client is of a checkpoint, its entry has no reference of the client
  no_reference : (k c : ℕ) (e : Entry) → entry_of k m.cluster.entries ≡ Some e → ((h : HandleView) → Contains (m.tables (Client c)).handles h → h.id ≡ k → ⊥) → slice_index e.references c ≡ 0
  no_reference k c e found others = sym (counted k c e found) ∙ handles_of-none k (m.tables (Client c)).handles (λ h among. ne_eqb h.id k (others h among))

  -- the checkpoint of a handle is not in the making
  made_of : (a : ActorName) (h : HandleView) (e : Entry) → Contains (m.tables a).handles h → entry_of h.id m.cluster.entries ≡ Some e → e.making ≡ None
  made_of a h e among found = IfSome-at (entry_of h.id m.cluster.entries) (λ e. e.making ≡ None) (inv.holds.handles a h among).made.made e found

  there_then : (a : ActorName) (h : HandleView) → Contains (m.tables a).handles h → IsSomeAnd (entry_of h.id m.cluster.entries) (λ e. e.making ≡ None) ⊎ WasTaken log a h
  there_then a h among = subst (λ b. Contains (m.tables b).handles h → IsSomeAnd (entry_of h.id m.cluster.entries) (λ e. e.making ≡ None) ⊎ WasTaken log b h) (sym (client_by_number a (inv.holds.handles a h among).client)) (of_client (number_of a)) among
    where
      of_client : (c : ℕ) → Contains (m.tables (Client c)).handles h → IsSomeAnd (entry_of h.id m.cluster.entries) (λ e. e.making ≡ None) ⊎ WasTaken log (Client c) h
      of_client c there = elim (holds.there c h there) [
        | inl some ↦ (let (e, found) = what_is (entry_of h.id m.cluster.entries) some in inl (IsSomeAnd-from (entry_of h.id m.cluster.entries) (λ e. e.making ≡ None) e found (made_of (Client c) h e there found)))
        | inr taken ↦ inr taken
      ]

  are_references : HandlesAreReferences log
  are_references = record {
    counted = counted;
    unmade = λ k c e found making. no_reference k c e found (λ h among same. (let made = made_of (Client c) h e among (ap (λ j. entry_of j m.cluster.entries) same ∙ found) in let w : false ≡ true = sym (ap is_some made) ∙ making in cc w));
    left = λ k c e found gone. no_reference k c e found (λ h among same. (let w : false ≡ true = sym gone ∙ (inv.holds.handles (Client c) h among).live in cc w));
    live = λ a h among. (let good = inv.holds.handles a h among in (good.client, good.live));
    there = there_then;
  }

-- THE LAW: after each front of a run
pub handles_are_references : OfEachRun HandlesAreReferencesThroughout
handles_are_references log run front back is =
    let there = run_front log front back is run in
    are_references front (run_history front there).0 (handles_hold front there)
