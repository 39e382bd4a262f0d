-- What is kept of each replica and each snapshot, in a hand too, at each step; and what a step of the record that leaves what is made leaves of it.
use Rattle.std.proofs.Common.{◌≡◌, ◌⊎◌, ℕ, ◌≤◌, inl, inr, List, Option, Some, None, Bool, true, false, ℤ, sym, ap, subst, ◌∙◌, arith}
use Rattle.std.specs.Prelude.{IsSome, IsSomeAnd, IfSome}
use Rattle.std.proofs.lemmas.Option.{same_Some}
use Rattle.ckpt_types.specs.declared.identities.Who.{Who}
use Rattle.ckpt_types.specs.declared.identities.CallId.{CallId}
use Rattle.ckpt_types.specs.Asks.{Ask, asked, update_of}
use Rattle.weak_marks.specs.Marks.{Marked}
use Rattle.node_msgs.specs.declared.steps.Verb.TheVariants as verbs
use Rattle.run_labels.specs.declared.labels.Label.{Label}
use Rattle.cluster_record.specs.declared.entries.Entry.{Entry}
use Rattle.cluster_record.specs.Placement.{is_collocated, is_all}
use Rattle.cluster_record.specs.RecordState.{RecordState, entry_of, identity_of}
use Rattle.ckpt_machine.specs.CallsEnd.{IsAbandonedIn}
use Rattle.ckpt_machine.specs.Failing.{broken}
use Rattle.ckpt_machine.specs.Invariant.{Invariant}
use Rattle.ckpt_machine.specs.Machine.{Machine, ReplicaState, Snapshot, CallState}
use Rattle.ckpt_machine.specs.Owned.{HasEffect}
use Rattle.ckpt_machine.specs.Propagation.{copied, replica_from}
use Rattle.ckpt_machine.specs.Replays.{IsPrefix}
use Rattle.ckpt_machine.specs.Shape.{IsCompleteOn}
use Rattle.ckpt_machine.specs.After.{with_slot, with_marks, with_lead, having_taken, committed_slot, next_element_written, marks_ended, opened_state, slot_copied, snapshot_under, staged_moment, with_claim, without_slot}
use Rattle.ckpt_machine.proofs.Askers.{IsCopyAsk}
use Rattle.ckpt_machine.proofs.Copying.{IsOfSource}
use Rattle.ckpt_machine.proofs.EntryLists.{entry_of-given, find_key-key}
use Rattle.ckpt_machine.proofs.Follows.{snapshot_was}
use Rattle.ckpt_machine.proofs.Histories.{HasHistory}
use Rattle.ckpt_machine.proofs.OneReplica.{StepsWhen, DeclaresAll, IsActiveOf, CanBeMarked, IsMarkedFor}
use Rattle.ckpt_machine.proofs.OptionLemmas.{IsSomeAnd-at, IsSomeAnd-from, IfSome-from, IfSome-at}
use Rattle.ckpt_machine.proofs.PulledInHand.{PulledInHand}
use Rattle.ckpt_machine.proofs.ShapedReplicas.{made_where_complete}
use Rattle.ckpt_machine.proofs.StaysMade.{GoesOnMade}

-- a replica follows the active of a checkpoint of this generation: where this is not collocated any does, and else one of that generation
abbrev pub FollowsBy : Bool → ℕ → ReplicaState → Type 0
FollowsBy collocated g x = (collocated ≡ false) ⊎ (x.generation ≡ g)

-- so does one of the same generation
pub follows_as : (collocated : Bool) (g : ℕ) (x z : ReplicaState) → x.generation ≡ z.generation → FollowsBy collocated g z → FollowsBy collocated g x
follows_as collocated g x z same (inl apart) = inl apart
follows_as collocated g x z same (inr present) = inr (same ∙ present)

-- each replica of the checkpoint that follows its active, and each snapshot of it that is of its generation, has only what this one has taken first
pub record IsAhead (k : ℕ) (collocated : Bool) (g : ℕ) (replicas : ℕ → ℕ → Option ReplicaState) (snapshots : ℕ → Option Snapshot) (hands : Who → Option CallState) (y : ReplicaState) : Type 0 where
  pub replica : (q : ℕ) (x : ReplicaState) → replicas k q ≡ Some x → FollowsBy collocated g x → IsPrefix x.effects y.effects
  pub snapshot : (s : Snapshot) → snapshots k ≡ Some s → s.generation ≡ g → IsPrefix s.effects y.effects
  pub in_hand : (s : Snapshot) → PulledInHand hands k s → s.generation ≡ g → IsPrefix s.effects y.effects

-- a snapshot in the hand of a call that asks for this is of a checkpoint that is made; and it is one of the active's, where updates go to the active alone, or where no copying has it
pub record IsPulledOf (ask : Ask) (e : Entry) (s : Snapshot) : Type 0 where
  pub made : e.making ≡ None
  pub source : (is_all e.attributes ≡ false) ⊎ (IsCopyAsk ask → ⊥) → IsOfSource e s

-- what a copying brings to its node: what it has pulled, in the present generation, and its slot of this moment, where updates go to all replicas
abbrev pub having_copied : CallId → ℤ → Entry → Snapshot → Bool → ReplicaState
having_copied call t f s all = record { sections = s.sections; effects = s.effects; generation = f.generation; slot = slot_copied call t all; marks = None }

-- where updates go to all replicas, one for which this holds has the same slot and the same effects
abbrev pub IsStagedLike : (Option Entry → ℕ → ReplicaState → Type 0) → Entry → CallId → ℤ → Snapshot → Bool → Type 0
IsStagedLike Q e call t s true = (q : ℕ) × (y : ReplicaState) × Q (Some e) q y × (y.slot ≡ slot_copied call t true) × (y.effects ≡ s.effects)
IsStagedLike Q e call t s false = Unit {0}

-- nothing is staged on a replica that takes over what was held
abbrev pub IsFreeFor : Option Snapshot → ReplicaState → Type 0
IsFreeFor None x = Unit {0}
IsFreeFor (Some s) x = x.slot ≡ None

pub is_free-for : (o : Option Snapshot) (x : ReplicaState) → x.slot ≡ None → IsFreeFor o x
is_free-for None x free = tt
is_free-for (Some s) x free = free

-- ---- what is kept

module _ (Q : Option Entry → ℕ → ReplicaState → Type 0) (S : Entry → Snapshot → Type 0) where
  -- it holds of each replica and each snapshot; a snapshot is of a checkpoint that is made, and whose updates go to an active alone, but the checkpoint of one in a hand may be gone, and a copying's may be one whose updates go to all replicas; and no replica and no snapshot of its generation is ahead of such an active
  pub record EachIn (last : ℕ) (entries : List Entry) (replicas : ℕ → ℕ → Option ReplicaState) (snapshots : ℕ → Option Snapshot) (hands : Who → Option CallState) : Type 0 where
    pub replica : (k r : ℕ) (x : ReplicaState) → replicas k r ≡ Some x → Q (entry_of k entries) r x
    pub snapshot : (k : ℕ) (s : Snapshot) → snapshots k ≡ Some s → IsSomeAnd (entry_of k entries) (λ e. IsOfSource e s × S e s)
    pub in_hand : (k : ℕ) (s : Snapshot) (has : PulledInHand hands k s) → (k ≤ last) × IfSome (entry_of k entries) (λ e. IsPulledOf (asked has.state.op) e s × S e s)
    pub ahead : (k r : ℕ) (e : Entry) (y : ReplicaState) → entry_of k entries ≡ Some e → is_all e.attributes ≡ false → e.active ≡ Some r → replicas k r ≡ Some y → IsAhead k (is_collocated e.attributes) e.generation replicas snapshots hands y

  -- where this holds of the state in front of a step of a call, it holds of what a checkpoint's opening makes, whatever becomes of its entry, and where it holds it does behind a stage, a claim, a withdrawal, a commit, an update in one step, and what is done for a weak write: its marks, each element and its end, or that it is cut short; and so it does of a snapshot, of a replica that takes it, of one that leads its checkpoint anew, and of one that a copying brings to its node
  pub record IsKeptWhen (When : Machine → Type 0) (log : List Label) : Type 0 where
    pub opened : (e : Entry) (r : ℕ) → Q (Some e) r (opened_state e)
    pub stays : (e f : Entry) (r : ℕ) (x : ReplicaState) → f.identity ≡ e.identity → GoesOnMade e f → e.making ≡ None → Q (Some e) r x → Q (Some f) r x
    pub stays_copied : (e f : Entry) (s : Snapshot) → f.identity ≡ e.identity → GoesOnMade e f → e.making ≡ None → S e s → S f s
    pub led : (e f : Entry) (r : ℕ) (o : Option Snapshot) (x : ReplicaState) → f.identity ≡ e.identity → GoesOnMade e f → e.making ≡ None → IsFreeFor o x → x.marks ≡ None → IfSome o (S e) → Q (Some e) r x → Q (Some f) r (with_lead o f.generation x)
    pub pulled : (e : Entry) (r : ℕ) (x : ReplicaState) → x.marks ≡ None → Q (Some e) r x → S e (copied x)
    pub put : (e : Entry) (r : ℕ) (s : Snapshot) (x : ReplicaState) → s.generation ≡ e.generation → x.slot ≡ None → x.marks ≡ None → S e s → Q (Some e) r x → Q (Some e) r (replica_from s x)
    pub completed : (e f : Entry) (r : ℕ) (call : CallId) (t : ℤ) (s : Snapshot) → f.identity ≡ e.identity → GoesOnMade e f → e.making ≡ None → S e s → IsStagedLike Q e call t s (is_all f.attributes) → Q (Some f) r (having_copied call t f s (is_all f.attributes))
    pub staged : (m : Machine) (s : CallState) (k r : ℕ) (x : ReplicaState) → StepsWhen When log m s verbs.Stage k r x → Q (entry_of k m.cluster.entries) r x → Q (entry_of k m.cluster.entries) r (with_slot s.call (update_of s.op) (staged_moment m k) x)
    pub claimed : (m : Machine) (s : CallState) (k r : ℕ) (x : ReplicaState) → StepsWhen When log m s verbs.Claim k r x → Q (entry_of k m.cluster.entries) r x → Q (entry_of k m.cluster.entries) r (with_claim s.call x)
    pub withdrawn : (m : Machine) (s : CallState) (k r : ℕ) (x : ReplicaState) → StepsWhen When log m s verbs.Withdraw k r x → Q (entry_of k m.cluster.entries) r x → Q (entry_of k m.cluster.entries) r (without_slot x)
    pub committed : (m : Machine) (s : CallState) (k r : ℕ) (x : ReplicaState) (e : Entry) → StepsWhen When log m s verbs.Commit k r x → DeclaresAll m k e → Q (Some e) r x → Q (Some e) r (committed_slot e.attributes x x.slot)
    pub applied : (m : Machine) (s : CallState) (k r : ℕ) (x : ReplicaState) (e : Entry) → StepsWhen When log m s verbs.Apply k r x → IsActiveOf m k r e → x.marks ≡ None → Q (Some e) r x → Q (Some e) r (having_taken e.attributes s.call (update_of s.op) m.cluster.moment x)
    pub marked : (m : Machine) (s : CallState) (k r : ℕ) (x : ReplicaState) (e : Entry) → StepsWhen When log m s verbs.Mark k r x → IsActiveOf m k r e → CanBeMarked e (update_of s.op) m.cluster.moment x → Q (Some e) r x → Q (Some e) r (with_marks s.call (update_of s.op) m.cluster.moment x)
    pub element : (m : Machine) (s : CallState) (k r : ℕ) (x : ReplicaState) (e : Entry) (marks : Marked) → StepsWhen When log m s verbs.Element k r x → IsActiveOf m k r e → IsMarkedFor s.call (update_of s.op) true x marks → Q (Some e) r x → Q (Some e) r (next_element_written e.attributes x (Some marks))
    -- a weak write that is cut short is of a call that has no effect there, and that a failure in the log abandons
    pub broken_off : (e : Entry) (r : ℕ) (x : ReplicaState) (marks : Marked) → x.marks ≡ Some marks → x.slot ≡ None → (HasEffect marks.call x.effects → ⊥) → IsAbandonedIn log marks.call → Q (Some e) r x → Q (Some e) r (broken marks x)
    pub unmarked : (m : Machine) (s : CallState) (k r : ℕ) (x : ReplicaState) (e : Entry) (marks : Marked) → StepsWhen When log m s verbs.Unmark k r x → IsActiveOf m k r e → IsMarkedFor s.call (update_of s.op) false x marks → Q (Some e) r x → Q (Some e) r (marks_ended x (Some marks))

  -- whatever holds of the state
  abbrev pub IsKept : List Label → Type 0
  IsKept log = IsKeptWhen (λ m. Unit {0}) log

-- ---- what goes on made

-- a checkpoint of which snapshots are taken stays so, and its generation does not fall
pub IsOfSource-goes : (e f : Entry) (s : Snapshot) → GoesOnMade e f → IsOfSource e s → IsOfSource f s
IsOfSource-goes e f s goes of =
    let still = goes.made of.source.made in
    let within : s.generation ≤ e.generation = of.within in
    let rises : e.generation ≤ f.generation = still.generation in
    record {
      source = record { made = still.made; alone = ap is_all goes.attributes ∙ of.source.alone };
      within = omega (arith, within, rises);
      led = λ present.
          let now : s.generation ≡ f.generation = present in
          let same : f.generation ≡ e.generation = omega (arith, within, rises, now) in
          subst IsSome (sym (still.active same)) (of.led (now ∙ same));
    }

-- so it is of one in a hand
pub IsPulledOf-goes : (ask : Ask) (e f : Entry) (s : Snapshot) → GoesOnMade e f → IsPulledOf ask e s → IsPulledOf ask f s
IsPulledOf-goes ask e f s goes of = record {
  made = (goes.made of.made).made;
  source = λ which. IsOfSource-goes e f s goes (of.source (elim which [ inl alone ↦ inl (ap is_all (sym goes.attributes) ∙ alone) | inr other ↦ inr other ]));
}

module _ (m : Machine) (inv : Invariant m) (history : HasHistory m) where
  -- a checkpoint that has a replica is made
  pub made_where_complete_at : (k r : ℕ) (x : ReplicaState) (e : Entry) → entry_of k m.cluster.entries ≡ Some e → m.replicas k r ≡ Some x → e.making ≡ None
  made_where_complete_at k r x e found there =
      let (f, is, complete) = IsSomeAnd-at (entry_of k m.cluster.entries) (λ e. IsCompleteOn e r) (history.bare.complete k r x there) in
      made_where_complete m inv k r e found (subst (λ e. IsCompleteOn e r) (same_Some f e (sym is ∙ found)) complete)

  -- the entry of a replica that is there
  pub entry_there : (k r : ℕ) (x : ReplicaState) → m.replicas k r ≡ Some x → (e : Entry) × (entry_of k m.cluster.entries ≡ Some e) × (e.making ≡ None)
  entry_there k r x was =
      let (e, there, complete) = IsSomeAnd-at (entry_of k m.cluster.entries) (λ e. IsCompleteOn e r) (history.bare.complete k r x was) in
      (e, there, made_where_complete m inv k r e there complete)

  -- a checkpoint that is there still has its identity
  pub same_identity : (R : RecordState) (k : ℕ) (e f : Entry) → entry_of k m.cluster.entries ≡ Some e → entry_of k R.entries ≡ Some f → f.identity ≡ e.identity
  same_identity R k e f there found = find_key-key identity_of k R.entries f found ∙ sym (find_key-key identity_of k m.cluster.entries e there)

module _ (Q : Option Entry → ℕ → ReplicaState → Type 0) (S : Entry → Snapshot → Type 0) (When : Machine → Type 0) (log : List Label) (kept : IsKeptWhen Q S When log) (m : Machine) (inv : Invariant m) (history : HasHistory m) (each : EachIn Q S m.cluster.last_identity m.cluster.entries m.replicas m.snapshots m.in_hand) where
  -- the entry of a background snapshot that is there
  pub copied_there : (k : ℕ) (s : Snapshot) → m.snapshots k ≡ Some s → (e : Entry) × (entry_of k m.cluster.entries ≡ Some e) × (IsOfSource e s × S e s)
  copied_there k s was = IsSomeAnd-at (entry_of k m.cluster.entries) (λ e. IsOfSource e s × S e s) (each.snapshot k s was)

  -- what a step of the record leaves that comes of what was there
  module _ (R : RecordState) (last : (k : ℕ) → k ≤ m.cluster.last_identity → m.cluster.last_identity ≤ R.last_identity) (comes : (k : ℕ) → k ≤ m.cluster.last_identity → (f : Entry) → entry_of k R.entries ≡ Some f → (e : Entry) × (entry_of k m.cluster.entries ≡ Some e) × GoesOnMade e f) where
    -- what was there goes on made
    goes_on : (k : ℕ) (e f : Entry) → entry_of k m.cluster.entries ≡ Some e → entry_of k R.entries ≡ Some f → GoesOnMade e f
    goes_on k e f there found =
        let (g, before, goes) = comes k (entry_of-given m.cluster.last_identity k m.cluster.entries e inv.holds.up_to there) f found in
        subst (λ e. GoesOnMade e f) (same_Some g e (sym before ∙ there)) goes

    -- a replica that was there
    pub stayed : (k r : ℕ) (x : ReplicaState) (f : Entry) → entry_of k R.entries ≡ Some f → m.replicas k r ≡ Some x → Q (Some f) r x
    stayed k r x f found was =
        let (e, there, made) = entry_there m inv history k r x was in
        kept.stays e f r x (same_identity m inv history R k e f there found) (goes_on k e f there found) made (subst (λ o. Q o r x) there (each.replica k r x was))

    -- a background snapshot
    pub snapshot_goes : (k : ℕ) (s : Snapshot) → snapshot_under (entry_of k R.entries) (m.snapshots k) ≡ Some s → IsSomeAnd (entry_of k R.entries) (λ e. IsOfSource e s × S e s)
    snapshot_goes k s is =
        let (f, found, was) = IsSomeAnd-at (entry_of k R.entries) (λ e. m.snapshots k ≡ Some s) (snapshot_was (entry_of k R.entries) (m.snapshots k) s is) in
        let (e, there, is_so) = copied_there k s was in
        let goes = goes_on k e f there found in
        IsSomeAnd-from (entry_of k R.entries) (λ e. IsOfSource e s × S e s) f found (IsOfSource-goes e f s goes is_so.0, kept.stays_copied e f s (same_identity m inv history R k e f there found) goes is_so.0.source.made is_so.1)

    -- a snapshot of which the checkpoint was given, and that was so where it was there, is so where it is there still
    pub copy_goes : (ask : Ask) (k : ℕ) (s : Snapshot) → k ≤ m.cluster.last_identity → IfSome (entry_of k m.cluster.entries) (λ e. IsPulledOf ask e s × S e s) → IfSome (entry_of k R.entries) (λ e. IsPulledOf ask e s × S e s)
    copy_goes ask k s given so = IfSome-from (entry_of k R.entries) (λ e. IsPulledOf ask e s × S e s) (λ f found. (
        let (e, there, goes) = comes k given f found in
        let is_so = IfSome-at (entry_of k m.cluster.entries) (λ e. IsPulledOf ask e s × S e s) so e there in
        (IsPulledOf-goes ask e f s goes is_so.0, kept.stays_copied e f s (same_identity m inv history R k e f there found) goes is_so.0.made is_so.1)))

    -- as one in a hand is
    pub hand_goes : (k : ℕ) (s : Snapshot) (has : PulledInHand m.in_hand k s) → (k ≤ R.last_identity) × IfSome (entry_of k R.entries) (λ e. IsPulledOf (asked has.state.op) e s × S e s)
    hand_goes k s has = let (given, so) = each.in_hand k s has in let later = last k given in (omega (arith, given, later), copy_goes (asked has.state.op) k s given so)
