-- A call that ends with a refusal has nothing after it, and leaves all else as it was.
use Rattle.node_msgs.specs.declared.details.Details.{Details}
use Rattle.std.proofs.Common.{◌≡◌, ◌≢◌, ◌⊎◌, ℕ, inl, inr, List, [], ◌∷◌, ◌++◌, ◌<◌, Option, Some, None, Bool, true, false, cond, not, ◌==◌, refl, sym, ap, subst, ◌∙◌, append_assoc, arith}
use Rattle.std.specs.Prelude.{IsSomeAnd, slice_index}
use Rattle.std.proofs.lemmas.List.{append-nil}
use Rattle.std.proofs.lemmas.Option.{same_Some}
use Rattle.ckpt_types.specs.declared.answers.Outcome.{Outcome}
use Rattle.ckpt_types.specs.declared.identities.CallId.{CallId}
use Rattle.ckpt_types.specs.declared.operation.Op.{Op}
use Rattle.ckpt_types.specs.declared.operation.Op.TheVariants as ops
use Rattle.ckpt_types.specs.declared.update.Update.{Update}
use Rattle.node_msgs.specs.declared.steps.Verb.TheVariants as verbs
use Rattle.node_msgs.specs.declared.steps.StepReply.{StepReply}
use Rattle.node_msgs.specs.declared.steps.StepReply.TheVariants as words
use Rattle.run_labels.specs.declared.labels.Label.{Label}
use Rattle.run_labels.specs.declared.labels.Label.TheVariants as labels
use Rattle.cluster_record.specs.declared.entries.Entry.{Entry}
use Rattle.cluster_record.specs.RecordState.{RecordState, identity_of, entry_of, complete_of, swept, undone, is_live}
use Rattle.cluster_record.specs.Places.{put}
use Rattle.std.proofs.lemmas.Bool.{eqb-true}
use Rattle.cluster_record.specs.Makings.{making_of}
use Rattle.cluster_record.specs.DueOnce.{OneStep}
use Rattle.node_msgs.specs.declared.steps.Verb.{Verb}
use Rattle.ckpt_machine.specs.Driving.{making_in}
use Rattle.ckpt_machine.specs.Drivers.{Driver, update_in}
use Rattle.ckpt_machine.specs.Drivers as drivers
use Rattle.ckpt_machine.proofs.EndedTables.{live_as}
use Rattle.ckpt_machine.proofs.Lives.{held_not_dead}
use Rattle.ckpt_machine.specs.InHand.{IsCopyIn, IsInHand, IsInPlace}
use Rattle.ckpt_machine.specs.Dead.{IsDead, is_enter}
use Rattle.ckpt_machine.specs.Guards.{Row, Allowed}
use Rattle.ckpt_machine.specs.OpenGuards.{IsMadeBy}
use Rattle.ckpt_machine.specs.UpdateGuards.{CommitRow}
use Rattle.ckpt_machine.specs.Invariant.{IsGoodIn, Invariant}
use Rattle.ckpt_machine.specs.Acknowledged.{IsUpdateWord, HasBegun}
use Rattle.ckpt_machine.specs.Machine.{Machine, Effect, Applied, Broken, ReplicaState, Snapshot, CallState, who, Staged}
use Rattle.ckpt_machine.specs.Owned.{OwnsNothing, HasEffect, HasNoEffect, HasNothing}
use Rattle.ckpt_machine.specs.Refusals.{IsRefused, IsRefusal, LeavesAll, UndoesOwn, LeavesBy, end_kept, unmade, unmade_swept, ChangeNothing, HasNothingBy, Refuses, call_told, word_told, EachRefusalLeaves}
use Rattle.ckpt_machine.specs.Runs.{last, IsRun}
use Rattle.ckpt_machine.specs.WasAsked.{WasAskedFor, EachWasAsked}
use Rattle.ckpt_machine.specs.Shape.{IsCompleteOn, IsSpread}
use Rattle.ckpt_machine.specs.After.{after_beginning, call_begun, changed, kept_behind, step_of, after, replica_under, replicas_under, reservation_under, snapshot_under, opened_state}
use Rattle.ckpt_machine.specs.Due.{Told, IsDone, IsDue, due, driver_of}
use Rattle.ckpt_machine.proofs.Askers.{IsCopyAsk, copy_ask, copy_op, copy_word}
use Rattle.ckpt_machine.proofs.BegunBefore.{begun_longer, all_began}
use Rattle.ckpt_machine.proofs.BegunOnce.{begins_once}
use Rattle.ckpt_machine.proofs.Copying.{IsSource}
use Rattle.ckpt_machine.proofs.EachReplica.{run_copies}
use Rattle.ckpt_machine.proofs.OwnMaking.{making_there, making_is}
use Rattle.ckpt_machine.proofs.Follows.{IsIncomplete, IsBare, Has}
use Rattle.ckpt_machine.proofs.Owning.{never_unled}
use Rattle.ckpt_machine.proofs.Histories.{HasHistory, commits_by, commit, gone, unled, nothing_left, Commits, Applies, slot_calls, marks_owned, making_incomplete, follows, had, keeps_history, run_history, IsUpdater}
use Rattle.ckpt_machine.proofs.Lawful.{lawful}
use Rattle.ckpt_machine.proofs.EntryLists.{find_key-without, AllStay-filter, swept-all}
use Rattle.ckpt_machine.proofs.OnlyAsked.{only_asked}
use Rattle.ckpt_machine.proofs.Refusing.{at_node, by_update, commit_ends, left_none, none_begun, refusal_leaves}
use Rattle.ckpt_machine.specs.Laws.{OfEachRun}
use Rattle.ckpt_machine.proofs.Runs.{last-push, run_before, run_front}
use Rattle.call_dispatch.specs.PendingCalls.{PendingCalls}
use Rattle.ckpt_types.specs.declared.identities.ActorName.{ActorName}
use Rattle.ckpt_types.specs.declared.identities.Who.{Who}
use Rattle.ckpt_types.specs.declared.words.OpWord.{OpWord}
use Rattle.ckpt_types.specs.declared.words.OpWord.TheVariants as opwords
use Rattle.ckpt_types.specs.Asks.{Ask, MayAsk, asked}
use Rattle.ckpt_types.specs.OpWord.{word_of_op, stepped_as}
use Rattle.ckpt_machine.specs.Whose.{put_who}
use Rattle.ckpt_machine.proofs.Dropped.{held_as, ended_none}
use Rattle.ckpt_machine.proofs.Starting.{first_kept}
use Rattle.ckpt_machine.proofs.StepHistory.{taken_hand}
use Rattle.ckpt_machine.proofs.UpdateIn.{once_apart}
use Rattle.ckpt_machine.proofs.Whose.{put_who-cases, one_call}
use Rattle.ckpt_machine.proofs.OptionLemmas.{IsSomeAnd-at, IsSomeAnd-more}

-- ---- a call that is not in hand owns nothing

-- the call is in hand under no name
abbrev pub IsNotInHand : Machine → CallId → Type 0
IsNotInHand m call = (w : Who) (s : CallState) → m.in_hand w ≡ Some s → s.call ≡ call → ⊥

module _ (m : Machine) (inv : Invariant m) (bare : IsBare m) (call : CallId) (none : IsNotInHand m call)
    (apart : (k r : ℕ) (x : ReplicaState) (slot : Staged) (d : CallId) → m.replicas k r ≡ Some x → x.slot ≡ Some slot → (slot.owner ≡ d) ⊎ (slot.origin ≡ d) → IsDead m d → d ≢ call) where
  no_maker : (k : ℕ) (e : Entry) → entry_of k m.cluster.entries ≡ Some e → e.making ≡ Some call → ⊥
  no_maker k e found is =
      let good = subst (λ maker. IsGoodIn m k (inv.shapes k) e maker) is (inv.holds.entries k e found) in
      none (who good.1.state) good.1.state good.1.in_hand good.1.call_is

  -- nor does it hold anything
  no_holder : (k : ℕ) (e : Entry) → entry_of k m.cluster.entries ≡ Some e → (maker : Option CallId) → e.making ≡ maker → e.hold ≡ Some call → ⊥
  no_holder k e found None made is =
      let good : IsSpread m k (inv.shapes k) e = subst (IsGoodIn m k (inv.shapes k) e) made (inv.holds.entries k e found) in
      let own = (good.held call is).holder in
      none (who own.state) own.state own.in_hand own.call_is
  no_holder k e found (Some d) made is =
      let good : IsGoodIn m k (inv.shapes k) e (Some d) = subst (IsGoodIn m k (inv.shapes k) e) made (inv.holds.entries k e found) in
      let w : None ≡ Some call = sym good.0.free ∙ is in cc w

  -- nor does it own a slot, or is what is staged its own
  not_own : (k r : ℕ) (x : ReplicaState) (slot : Staged) (d : CallId) → m.replicas k r ≡ Some x → x.slot ≡ Some slot → (slot.owner ≡ d) ⊎ (slot.origin ≡ d) → IsUpdater m d ⊎ IsDead m d → d ≢ call
  not_own k r x slot d there staged of (inl by) = λ same. none (who by.state) by.state by.in_hand (by.call_is ∙ same)
  not_own k r x slot d there staged of (inr dead) = apart k r x slot d there staged of dead

  pub owns_nothing : OwnsNothing m call
  owns_nothing = record {
    slots = λ k r x slot there staged.
        let (owner, origin) = slot_calls m inv.shapes inv.holds bare k r x slot there staged in
        (not_own k r x slot slot.owner there staged (inl refl) owner, not_own k r x slot slot.origin there staged (inr refl) origin);
    marks = λ k r x marks there marked is. let own = marks_owned m inv.shapes inv.holds bare k r x marks there marked in none (who own.state) own.state own.in_hand (own.call_is ∙ is);
    makes = no_maker;
    holds = λ k e found is. no_holder k e found e.making refl is;
  }

-- ---- a commit refuses nothing

commit_row : (m : Machine) (call : CallId) (update : Update) (ends : Bool → Bool) (k r : ℕ) (reply : StepReply) (end : Option Outcome) (details : Details) → CommitRow m call update ends k r reply end details → IsRefused end → ⊥
commit_row m call update ends k r words.Ok end details row refused = commit_ends m call update ends k r end details row refused
commit_row m call update ends k r reply end details row refused = absurd row

no_commit : (m : Machine) (s : CallState) (t : Told) → t.verb ≡ verbs.Commit → Row m s t.verb t → IsRefused t.end → ⊥
no_commit m s t verb row refused = at_node t.ckpt t.node _ (subst (λ verb. Row m s verb t) verb row) (λ k r p. by_update m s (λ update ends. CommitRow m s.call update ends k r t.reply t.end t.details) p (λ update ends row. commit_row m s.call update ends k r t.reply t.end t.details row refused))

-- ---- a step that refuses

module _ (m : Machine) (inv : Invariant m) (history : HasHistory m) (s : CallState) (held : m.in_hand (who s) ≡ Some s) (t : Told) (row : Row m s t.verb t) (done : IsDone m s (due m s) t) (refused : IsRefused t.end) (other : IsCopyAsk (asked s.op) → ⊥) where
  -- its call, which is no copying, had no effect
  had_none : (k r : ℕ) → Has m k r s.call → ⊥
  had_none k r has =
      elim (history.commits k r s held has) [
        | inl at ↦ (elim (commits_by m s at.update t at.driver_is at.phase done) [
          | commit is ↦ no_commit m s t is row refused
          | gone none ends ↦ (
              let (e, found, there) = IsSomeAnd-at (entry_of k m.cluster.entries) (λ e. IsCompleteOn e r) (history.bare.complete k r has.replica has.there) in
              let w : None ≡ Some e = sym none ∙ ap (λ k. entry_of k m.cluster.entries) at.ckpt ∙ found in cc w)
          | unled e found none ends ↦ absurd (never_unled m inv.shapes inv.holds s at.update held (ap update_in at.driver_is) (subst (IsInPlace m inv.shapes s) at.driver_is (inv.holds.hands (who s) s held).here) e found none)
          | nothing_left answer ends ↦ subst IsRefused ends refused
        ])
        | inr brought ↦ (
            let here : IsCopyIn m inv.shapes s brought.copy = subst (IsInPlace m inv.shapes s) brought.driver_is (inv.holds.hands (who s) s held).here in
            other (subst IsCopyAsk (sym here.asks) tt))
      ]

  -- and has none
  pub has_none : HasNoEffect (step_of m (Some s) t.verb t.ckpt t.node t.reply t.end) s.call
  has_none k r x there has = elim (had m inv history s held t row k r s.call (record { replica = x; there = there; effect = has })) [
    | inl was ↦ had_none k r was
    | inr (inl new) ↦ none_new new.by
    | inr (inr (inl taken)) ↦ absurd (history.ended_pulled s held (taken_hand m inv history s held t row k s.call taken) other)
    | inr (inr (inr dead)) ↦ absurd (held_not_dead m inv.shapes inv.holds s held dead)
  ]
    where
      none_new : Commits m inv history s held t row k ⊎ Applies m inv history s held t row → ⊥
      none_new (inl commits) = no_commit m s t commits.verb row refused
      none_new (inr applies) = subst IsRefused applies.ends refused

-- ---- any label

begun_none : (m : Machine) → HasHistory m → (call : CallId) (op : Op) (end : Option Outcome) → call.number ≡ m.next call.actor → HasNoEffect (after_beginning m call op end) call
begun_none m history call op end number k r x there has = let below = history.given k r call (record { replica = x; there = there; effect = has }) in omega (arith, below, number)

-- a call that is refused at its beginning is in hand under no name
begun_nowhere : (m : Machine) → Invariant m → (call : CallId) (op : Op) (end : Option Outcome) → call.number ≡ m.next call.actor → IsRefused end → IsNotInHand (after_beginning m call op end) call
begun_nowhere m inv call op end number refused w z at same =
    elim (put_who-cases m.in_hand (stepped_as call (word_of_op op)) (call_begun end call op (first_kept m call op)) w z at) [
      | inl own ↦ (let none : None ≡ Some z = sym (none_begun end call op (first_kept m call op) refused) ∙ own.1 in cc none)
      | inr other ↦ (
          let below : call.number < m.next call.actor = subst (λ (d : CallId). d.number < m.next d.actor) same (inv.holds.hands w z other.1).number in
          omega (arith, below, number))
    ]

-- one that is refused at a step is so behind it
ended_nowhere : (m : Machine) (inv : Invariant m) (history : HasHistory m) (s : CallState) (held : m.in_hand (who s) ≡ Some s) (t : Told) (row : Row m s t.verb t) → IsRefused t.end → IsNotInHand (step_of m (Some s) t.verb t.ckpt t.node t.reply t.end) s.call
ended_nowhere m inv history s held t row refused w z at same =
    let n = changed m s t.verb t.ckpt t.node t.reply in
    ended_none m.in_hand m.pending m.next inv.holds.calls s held n.in_hand (follows m inv history s held t row).in_hand w z
    (subst (λ o. put_who n.in_hand (who s) o w ≡ Some z) (left_none t.end (kept_behind m s n.cluster t.verb t.ckpt t.node t.reply) refused) at) same

-- whose slot stands, and whose update is staged, has begun
slot_given : (m : Machine) (inv : Invariant m) → (d : CallId) → IsUpdater m d ⊎ IsDead m d → d.number < m.next d.actor
slot_given m inv d (inl by) = subst (λ (c : CallId). c.number < m.next c.actor) by.call_is (inv.holds.hands (who by.state) by.state by.in_hand).number
slot_given m inv d (inr dead) = dead.begun

-- so it is no call that begins then
begun_apart : (m : Machine) → Invariant m → HasHistory m → (call : CallId) → call.number ≡ m.next call.actor → (k r : ℕ) (x : ReplicaState) (slot : Staged) (d : CallId) → m.replicas k r ≡ Some x → x.slot ≡ Some slot → (slot.owner ≡ d) ⊎ (slot.origin ≡ d) → d ≢ call
begun_apart m inv history call number k r x slot d there staged of same =
    let (owner, origin) = slot_calls m inv.shapes inv.holds history.bare k r x slot there staged in
    let below : call.number < m.next call.actor = subst (λ (c : CallId). c.number < m.next c.actor) same (elim of [
      | inl is ↦ subst (λ (c : CallId). c.number < m.next c.actor) is (slot_given m inv slot.owner owner)
      | inr is ↦ subst (λ (c : CallId). c.number < m.next c.actor) is (slot_given m inv slot.origin origin)
    ]) in
    omega (arith, below, number)

-- what is kept of an end changes neither the record nor what nodes have
kept_record : (call : CallId) (word : OpWord) (end : Option Outcome) (m : Machine) → (end_kept call word end m).cluster ≡ m.cluster
kept_record call word None m = refl
kept_record call word (Some end) m = refl

kept_replicas : (call : CallId) (word : OpWord) (end : Option Outcome) (m : Machine) (j q : ℕ) → (end_kept call word end m).replicas j q ≡ m.replicas j q
kept_replicas call word None m j q = refl
kept_replicas call word (Some end) m j q = refl

-- a call is as live behind a refusal as before it
leaves_live : (m n : Machine) (call d : CallId) (ask : Ask) (op : OpWord) (verb : Verb) (k r : Option ℕ) (reply : StepReply) (end : Option Outcome) (details : Details) → MayAsk d.actor ask → LeavesBy unmade_swept (labels.Stepped call op verb k r reply end details) m n → is_live n.cluster d ≡ is_live m.cluster d
leaves_live m n call d ask op verbs.Look k r reply end details may (inl all) = ap (λ (R : RecordState). is_live R d) (all.cluster ∙ kept_record call op end m)
leaves_live m n call d ask op verbs.Look k r reply end details may (inr own) = ap (λ (R : RecordState). is_live R d) (own.rest.cluster ∙ kept_record call op end (unmade_swept own.ckpt m)) ∙ live_as m.cluster (swept (undone own.ckpt m.cluster)) d ask may (λ client. refl) refl refl
leaves_live m n call d ask op verbs.Undo k r reply end details may own = ap (λ (R : RecordState). is_live R d) (own.rest.cluster ∙ kept_record call op end (unmade_swept own.ckpt m)) ∙ live_as m.cluster (swept (undone own.ckpt m.cluster)) d ask may (λ client. refl) refl refl
leaves_live m n call d ask op verb k r reply end details may all = ap (λ (R : RecordState). is_live R d) (all.cluster ∙ kept_record call op end m)

-- one that makes nothing leaves the replicas
leaves_replicas : (m n : Machine) (call : CallId) (op : OpWord) (verb : Verb) (k r : Option ℕ) (reply : StepReply) (end : Option Outcome) (details : Details) → making_of call m.cluster ≡ None → LeavesBy unmade_swept (labels.Stepped call op verb k r reply end details) m n → (j q : ℕ) → n.replicas j q ≡ m.replicas j q
leaves_replicas m n call op verbs.Look k r reply end details none (inl all) j q = all.replicas j q ∙ kept_replicas call op end m j q
leaves_replicas m n call op verbs.Look k r reply end details none (inr own) j q = absurd (let w : None ≡ Some own.ckpt = sym none ∙ own.own in cc w)
leaves_replicas m n call op verbs.Undo k r reply end details none own j q = absurd (let w : None ≡ Some own.ckpt = sym none ∙ own.own in cc w)
leaves_replicas m n call op verb k r reply end details none all j q = all.replicas j q ∙ kept_replicas call op end m j q

-- no slot is of a call that is refused at a step, nor is what is staged its own
step_apart : (m n : Machine) (inv : Invariant m) (history : HasHistory m) (s : CallState) (held : m.in_hand (who s) ≡ Some s) → ((d : CallId) (ask : Ask) → MayAsk d.actor ask → is_live n.cluster d ≡ is_live m.cluster d) → (making_of s.call m.cluster ≡ None → (j q : ℕ) → n.replicas j q ≡ m.replicas j q)
    → (k r : ℕ) (y : ReplicaState) (slot : Staged) (d : CallId) → n.replicas k r ≡ Some y → y.slot ≡ Some slot → (slot.owner ≡ d) ⊎ (slot.origin ≡ d) → IsDead n d → d ≢ s.call
step_apart m n inv history s held live replicas k r y slot d there staged of dead same = by_driver (driver_of s) refl
  where
    hand : IsInHand m inv.shapes (who s) s
    hand = inv.holds.hands (who s) s held

    by_live : is_enter (driver_of s) ≡ false → ⊥
    by_live other = let w : true ≡ false = sym (hand.live other) ∙ sym (live s.call (asked s.op) hand.asker) ∙ ap (is_live n.cluster) (sym same) ∙ dead.gone in cc w

    -- an Initialize is no update, and is not dead
    no_update : (x : OneStep) → driver_of s ≡ drivers.Once x → IsUpdater m d ⊎ IsDead m d → ⊥
    no_update x is (inl by) =
        let state : by.state ≡ s = one_call m.in_hand m.pending m.next inv.holds.calls (who by.state) (who s) by.state s by.in_hand held (by.call_is ∙ same) in
        once_apart (driver_of by.state) by.driver x by.driver_is (ap driver_of state ∙ is)
    no_update x is (inr dead) = held_not_dead m inv.shapes inv.holds s held (subst (IsDead m) same dead)

    by_driver : (x : Driver) → driver_of s ≡ x → ⊥
    by_driver (drivers.Once x) is =
        let none : making_of s.call m.cluster ≡ None = making_is m inv.shapes inv.holds s held ∙ ap making_in is in
        let (owner, origin) = slot_calls m inv.shapes inv.holds history.bare k r y slot (sym (replicas none k r) ∙ there) staged in
        no_update x is (elim of [ inl own ↦ subst (λ c. IsUpdater m c ⊎ IsDead m c) own owner | inr own ↦ subst (λ c. IsUpdater m c ⊎ IsDead m c) own origin ])
    by_driver (drivers.Open o) is = by_live (ap is_enter is)
    by_driver (drivers.Update u) is = by_live (ap is_enter is)
    by_driver (drivers.Active a) is = by_live (ap is_enter is)
    by_driver (drivers.Sync u) is = by_live (ap is_enter is)
    by_driver (drivers.Copy c) is = by_live (ap is_enter is)

-- ---- what a refused copying has done

-- no effect of a call that has none is of it
none_change : (call : CallId) (xs : List Effect) → (HasEffect call xs → ⊥) → ChangeNothing call xs
none_change call [] none = tt
none_change call (x ∷ xs) none = (λ of. absurd (none (inl of)), none_change call xs (λ has. none (inr has)))

-- so one that has nothing has it by any word
nothing_by : (word : OpWord) (m : Machine) (call : CallId) → HasNothing m call → HasNothingBy word m call
nothing_by opwords.Copy m call has = record { owns = has.owns; effects = λ k r x there. none_change call x.effects (has.effects k r x there) }
nothing_by word m call has = has

-- what is said of a copying, and of any other call, is so by its word
by_word : (word : OpWord) (m : Machine) (call : CallId) → OwnsNothing m call → (word ≡ opwords.Copy → (k r : ℕ) (x : ReplicaState) → m.replicas k r ≡ Some x → ChangeNothing call x.effects) → ((word ≡ opwords.Copy → ⊥) → HasNoEffect m call) → HasNothingBy word m call
by_word opwords.Copy m call owns copy other = record { owns = owns; effects = copy refl }
by_word word m call owns copy other = record { owns = owns; effects = other (λ is. cc is) }

module _ (log : List Label) (run : IsRun log) (call : CallId) (k : ℕ) (of : Option ℕ) (begun : HasBegun log call ops.Copy of) where
  -- it was asked for nothing but to copy
  not_asked : (d : CallId) (update : Update) → d ≡ call → WasAskedFor log k d update → ⊥
  not_asked d update same asked =
      let op : asked.op ≡ ops.Copy = (begins_once log run call ops.Copy asked.op of (Some k) begun (subst (λ c. HasBegun log c asked.op (Some k)) same asked.begun)).0 in
      subst IsUpdateWord (ap word_of_op op) asked.asks

  -- so whatever it has done changes nothing
  copying_changes : (xs : List Effect) → EachWasAsked log k xs → ChangeNothing call xs
  copying_changes [] all = tt
  copying_changes (Applied d update moment ∷ xs) all = (λ same. (same, elim all.0 [ inl asked ↦ absurd (not_asked d update same asked) | inr copying ↦ copying.update_is ]), copying_changes xs all.1)
  copying_changes (Broken d update moment done ∷ xs) all = (λ same. absurd (not_asked d update same all.0), copying_changes xs all.1)

-- ---- what is refused has nothing

module _ (log : List Label) (before : IsRun log) (inv : Invariant (last log)) (history : HasHistory (last log)) where
  abbrev m : Machine
  m = last log

  -- nor has it changed anything
  refused_has_nothing : (l : Label) → Allowed m l → IsDue m l → IsRun (log ++ l ∷ []) → IsRefusal l → IsSomeAnd (call_told l) (λ call. IsSomeAnd (word_told l) (λ word. HasNothingBy word (after m l) call))
  refused_has_nothing (labels.Began call op end details) allowed is run refused = nothing_by (word_of_op op) (after_beginning m call op end) call (record {
    owns = owns_nothing (after_beginning m call op end) (lawful m (labels.Began call op end details) inv is).1 (keeps_history m (labels.Began call op end details) inv history allowed is).bare call (begun_nowhere m inv call op end is.number refused)
        (λ k r x slot d there staged of dead. begun_apart m inv history call is.number k r x slot d there staged of);
    effects = begun_none m history call op end is.number;
  })
  refused_has_nothing (labels.Stepped call op verb k r reply end details) allowed step run refused =
      let l : Label = labels.Stepped call op verb k r reply end details in
      let s = step.state in
      let t : Told = record { verb = verb; ckpt = k; node = r; reply = reply; end = end; details = details } in
      let held : m.in_hand (who s) ≡ Some s = held_as m call op s step.in_hand step.call_is step.word in
      let same : allowed.state ≡ s = same_Some allowed.state s (sym allowed.in_hand ∙ step.in_hand) in
      let row = subst (λ z. Row m z verb t) same allowed.row in
      let n = step_of m (Some s) verb k r reply end in
      let leaves = refusal_leaves m l allowed refused in
      let nowhere : IsNotInHand n call = subst (IsNotInHand n) step.call_is (ended_nowhere m inv history s held t row refused) in
      let owns : OwnsNothing (after m l) call = owns_nothing (after m l) (lawful m l inv step).1 (keeps_history m l inv history allowed step).bare call
      (subst (λ o. IsNotInHand (step_of m o verb k r reply end) call) (sym step.in_hand) nowhere)
      (λ j q x slot d there staged of dead. subst (λ c. d ≢ c) step.call_is (step_apart m (after m l) inv history s held
      (λ d ask may. leaves_live m (after m l) call d ask op verb k r reply end details may leaves)
      (λ none. leaves_replicas m (after m l) call op verb k r reply end details (ap (λ c. making_of c m.cluster) (sym step.call_is) ∙ none) leaves)
      j q x slot d there staged of dead)) in
      by_word op (after m l) call owns
      -- a copying
      (λ copies j q x there.
      let asks_is : s.op ≡ ops.Copy = copy_word s.op (step.word ∙ copies) in
      let began : (of : Option ℕ) → HasBegun log s.call s.op of → HasBegun (log ++ l ∷ []) call ops.Copy of = λ of begun. begun_longer log l call ops.Copy of (subst (λ o. HasBegun log call o of) asks_is (subst (λ d. HasBegun log d s.op of) step.call_is begun)) in
      copying_changes (log ++ l ∷ []) run call j _ (began _ (all_began log before s held)) x.effects
      (((only_asked (log ++ l ∷ []) run (log ++ l ∷ []) [] (sym (append-nil (log ++ l ∷ [])))).replicas j q x (subst (λ (n : Machine). n.replicas j q ≡ Some x) (sym (last-push log l)) there)).effects))
      -- any other call
      (λ other.
      let no_copying : IsCopyAsk (asked s.op) → ⊥ = λ copies. other (sym step.word ∙ ap word_of_op (copy_op s.op (copy_ask (asked s.op) copies))) in
      let none : HasNoEffect n s.call = has_none m inv history s held t row step.done refused no_copying in
      subst (λ o. HasNoEffect (step_of m o verb k r reply end) call) (sym step.in_hand) (subst (HasNoEffect n) step.call_is none))
  refused_has_nothing l allowed is run refused = absurd refused

-- ---- a making that is undone

-- each snapshot is of a checkpoint that is made
abbrev HaveSources : Machine → Type 0
HaveSources m = (k : ℕ) (s : Snapshot) → m.snapshots k ≡ Some s → IsSomeAnd (entry_of k m.cluster.entries) IsSource

module _ (m : Machine) (inv : Invariant m) (bare : IsBare m) (sources : HaveSources m) (call : CallId) (k : ℕ) (own : IsMadeBy m call k) where
  -- nothing is over
  same_record : swept (undone k m.cluster) ≡ undone k m.cluster
  same_record = swept-all (undone k m.cluster) (AllStay-filter m.cluster.moment (λ e. not (e.identity == k)) m.cluster.entries inv.holds.swept)

  -- where a node is not complete it has no replica
  no_replica : (j r : ℕ) → ((e : Entry) → entry_of j m.cluster.entries ≡ Some e → IsIncomplete e r) → m.replicas j r ≡ None
  no_replica j r none = by_replica (m.replicas j r) refl
    where
      by_replica : (o : Option ReplicaState) → m.replicas j r ≡ o → m.replicas j r ≡ None
      by_replica None is = is
      by_replica (Some x) is =
          let (e, found, there) = IsSomeAnd-at (entry_of j m.cluster.entries) (λ e. IsCompleteOn e r) (bare.complete j r x is) in
          absurd (let w : true ≡ false = sym (none e found) ∙ there in cc w)

  -- a replica is as it was under the entry that it had
  replica_kept : (j r : ℕ) (o : Option Entry) → entry_of j m.cluster.entries ≡ o → replica_under o (slice_index (complete_of o) r) r (m.replicas j r) ≡ m.replicas j r
  replica_kept j r None at = sym (no_replica j r (λ e found. absurd (let w : None ≡ Some e = sym at ∙ found in cc w)))
  replica_kept j r (Some e) found =
      elim (slice_index e.complete r == 0) as (λ b. (slice_index e.complete r == 0) ≡ b → cond b None (cond b (Some (opened_state e)) (m.replicas j r)) ≡ m.replicas j r) [
        | true ↦ λ is. sym (no_replica j r (λ f other. let same : e ≡ f = same_Some e f (sym found ∙ other) in subst (λ f. IsIncomplete f r) same is))
        | false ↦ λ is. refl
      ] refl

  reservation_kept : (j r : ℕ) (o : Option Entry) → entry_of j m.cluster.entries ≡ o → reservation_under o r (m.reserved j r) ≡ m.reserved j r
  reservation_kept j r o at = by_reservation (m.reserved j r) refl
    where
      there : (n : ℕ) → (o : Option Entry) → IsSomeAnd o (λ e. IsIncomplete e r) → reservation_under o r (Some n) ≡ Some n
      there n None none = absurd none
      there n (Some e) is = ap (λ b. cond b (Some n) None) is

      none : (o : Option Entry) → reservation_under o r None ≡ None
      none None = refl
      none (Some e) = elim (slice_index e.complete r == 0) as (λ b. cond {A = Option ℕ} b None None ≡ None) [ true ↦ refl | false ↦ refl ]

      by_reservation : (x : Option ℕ) → m.reserved j r ≡ x → reservation_under o r x ≡ x
      by_reservation None is = none o
      by_reservation (Some n) is = there n o (subst (λ o. IsSomeAnd o (λ e. IsIncomplete e r)) at (bare.reserves j r n is))

  left : (j : ℕ) → entry_of j (undone k m.cluster).entries ≡ cond (j == k) None (entry_of j m.cluster.entries)
  left j = find_key-without identity_of k j m.cluster.entries

  -- each replica is as it was, and each reservation but its own
  same_replicas : (j r : ℕ) → replicas_under m.cluster (undone k m.cluster) m.replicas j r ≡ m.replicas j r
  same_replicas j r =
      ap (λ o. replica_under o (slice_index (complete_of (entry_of j m.cluster.entries)) r) r (m.replicas j r)) (left j)
      ∙ elim (j == k) as (λ b. (j == k) ≡ b → replica_under (cond b None (entry_of j m.cluster.entries)) (slice_index (complete_of (entry_of j m.cluster.entries)) r) r (m.replicas j r) ≡ m.replicas j r) [
        | true ↦ λ is. sym (no_replica j r (λ e found.
            let (f, there, none) = IsSomeAnd-at (entry_of k m.cluster.entries) (λ e. IsIncomplete e r) (making_incomplete m inv call k r own) in
            let same : f ≡ e = same_Some f e (sym there ∙ ap (λ k. entry_of k m.cluster.entries) (sym (eqb-true j k is)) ∙ found) in
            subst (λ e. IsIncomplete e r) same none))
        | false ↦ λ is. replica_kept j r (entry_of j m.cluster.entries) refl
      ] refl

  same_reserved : (j r : ℕ) → reservation_under (entry_of j (undone k m.cluster).entries) r (m.reserved j r) ≡ put m.reserved k (λ r. None) j r
  same_reserved j r =
      ap (λ o. reservation_under o r (m.reserved j r)) (left j)
      ∙ elim (j == k) as (λ b. reservation_under (cond b None (entry_of j m.cluster.entries)) r (m.reserved j r) ≡ (cond b (λ r. None) (m.reserved j)) r) [
        | true ↦ refl
        | false ↦ reservation_kept j r (entry_of j m.cluster.entries) refl
      ]

  -- it has no snapshot, being in the making
  no_snapshot : m.snapshots k ≡ None
  no_snapshot = by_snapshot (m.snapshots k) refl
    where
      by_snapshot : (o : Option Snapshot) → m.snapshots k ≡ o → m.snapshots k ≡ None
      by_snapshot None is = is
      by_snapshot (Some s) is =
          let (e, found, source) = IsSomeAnd-at (entry_of k m.cluster.entries) IsSource (sources k s is) in
          let (f, there, making) = IsSomeAnd-at (entry_of k m.cluster.entries) (λ e. e.making ≡ Some call) (making_there m.cluster inv.holds.rises call k own) in
          absurd (let w : None ≡ Some call = sym source.made ∙ ap (λ (e : Entry). e.making) (same_Some e f (sym found ∙ there)) ∙ making in cc w)

  snapshot_kept : (j : ℕ) (o : Option Entry) → entry_of j m.cluster.entries ≡ o → snapshot_under o (m.snapshots j) ≡ m.snapshots j
  snapshot_kept j (Some e) found = refl
  snapshot_kept j None none = by_snapshot (m.snapshots j) refl
    where
      by_snapshot : (o : Option Snapshot) → m.snapshots j ≡ o → None ≡ m.snapshots j
      by_snapshot None is = sym is
      by_snapshot (Some s) is = absurd (subst (λ o. IsSomeAnd o IsSource) none (sources j s is))

  same_snapshots : (j : ℕ) → snapshot_under (entry_of j (undone k m.cluster).entries) (m.snapshots j) ≡ m.snapshots j
  same_snapshots j =
      ap (λ o. snapshot_under o (m.snapshots j)) (left j)
      ∙ elim (j == k) as (λ b. (j == k) ≡ b → snapshot_under (cond b None (entry_of j m.cluster.entries)) (m.snapshots j) ≡ m.snapshots j) [
        | true ↦ λ is. sym (ap m.snapshots (eqb-true j k is) ∙ no_snapshot)
        | false ↦ λ is. snapshot_kept j (entry_of j m.cluster.entries) refl
      ] refl

  -- nothing else goes with it, whatever calls are not dispatched
  unmade_all : (whose : Who) (pending : ActorName → PendingCalls) (n : Machine) → LeavesAll whose (record (unmade_swept k m) { pending = pending }) n → LeavesAll whose (record (unmade k m) { pending = pending }) n
  unmade_all whose pending n all = record {
    cluster = all.cluster ∙ same_record;
    replicas = λ j r. all.replicas j r ∙ ap (λ R. replicas_under m.cluster R m.replicas j r) same_record ∙ same_replicas j r;
    reserved = λ j r. all.reserved j r ∙ ap (λ (R : RecordState). reservation_under (entry_of j R.entries) r (m.reserved j r)) same_record ∙ same_reserved j r;
    snapshots = λ j. all.snapshots j ∙ ap (λ (R : RecordState). snapshot_under (entry_of j R.entries) (m.snapshots j)) same_record ∙ same_snapshots j;
    tables = all.tables;
    pending = all.pending;
    next = all.next;
    others = all.others;
    ended = all.ended;
  }

  pub leaves_unmade : (whose : Who) (word : OpWord) (end : Option Outcome) (n : Machine) → LeavesAll whose (end_kept call word end (unmade_swept k m)) n → LeavesAll whose (end_kept call word end (unmade k m)) n
  leaves_unmade whose word None n all = unmade_all whose m.pending n all
  leaves_unmade whose word (Some end) n all = unmade_all whose (end_kept call word (Some end) m).pending n all

undoes_alone : (m : Machine) → Invariant m → IsBare m → HaveSources m → (call : CallId) (word : OpWord) (end : Option Outcome) (n : Machine) → UndoesOwn unmade_swept call word end m n → UndoesOwn unmade call word end m n
undoes_alone m inv bare sources call word end n own = record { ckpt = own.ckpt; own = own.own; rest = leaves_unmade m inv bare sources call own.ckpt own.own (stepped_as call word) word end n own.rest }

-- where the invariant holds nothing else goes with a making
leaves_alone : (m n : Machine) (l : Label) → Invariant m → IsBare m → HaveSources m → LeavesBy unmade_swept l m n → LeavesBy unmade l m n
leaves_alone m n (labels.Began call op end details) inv bare sources leaves = leaves
leaves_alone m n (labels.Stepped call op verbs.Look k r reply end details) inv bare sources leaves = elim leaves [ inl all ↦ inl all | inr own ↦ inr (undoes_alone m inv bare sources call op end n own) ]
leaves_alone m n (labels.Stepped call op verbs.Undo k r reply end details) inv bare sources leaves = undoes_alone m inv bare sources call op end n leaves
leaves_alone m n (labels.Stepped call op verb k r reply end details) inv bare sources leaves = leaves
leaves_alone m n l inv bare sources leaves = absurd leaves

-- ---- in a run

-- a front with the label behind it, and the rest
front_with : (log front back : List Label) (l : Label) → log ≡ front ++ l ∷ back → log ≡ (front ++ l ∷ []) ++ back
front_with log front back l is = is ∙ sym (append_assoc front (l ∷ []) back)

-- THE LAW: a call that ends with a refusal has nothing after it, and leaves all else as it was
pub run_leaves : OfEachRun EachRefusalLeaves
run_leaves log run front back l is refused =
    let (before, allowed, due) = run_before _ front l (run_front log (front ++ l ∷ []) back (front_with log front back l is) run) in
    let (inv, history) = run_history front before in
    let copies = run_copies front before in
    let sources : HaveSources (last front) = λ k s is. IsSomeAnd-more (entry_of k (last front).cluster.entries) _ IsSource (λ e is_so. is_so.0.source) (copies.snapshot k s is) in
    subst (Refuses l (last front)) (sym (last-push front l)) (record {
      leaves = leaves_alone (last front) (after (last front) l) l inv history.bare sources (refusal_leaves (last front) l allowed refused);
      nothing = refused_has_nothing front before inv history l allowed due (run_front log (front ++ l ∷ []) back (front_with log front back l is) run) refused;
    })
