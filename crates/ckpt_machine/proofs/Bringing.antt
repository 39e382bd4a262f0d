-- What a synchronisation in hand has done so far: it has pulled in the log what the active had, and each node that it has served there has that first, if its replica is the one that was served.
use Rattle.std.proofs.Common.{◌≡◌, ◌≢◌, ◌⊎◌, ℕ, ◌≤◌, inl, inr, List, [], ◌∷◌, ◌++◌, length, Option, Some, None, Bool, true, false, ◌==◌, ◌&&◌, ◌||◌, nat_lt, refl, sym, ap, subst, ◌∙◌, append_assoc, arith}
use Rattle.std.specs.List.{list_any}
use Rattle.std.specs.Option.{option_map}
use Rattle.std.specs.Prelude.{IsSomeAnd}
use Rattle.std.proofs.lemmas.Bool.{ltb-false}
use Rattle.std.proofs.lemmas.Option.{same_Some}
use Rattle.ckpt_types.specs.declared.answers.Outcome.{Outcome}
use Rattle.ckpt_types.specs.declared.identities.ActorName.TheVariants.{Node}
use Rattle.ckpt_types.specs.declared.identities.CallId.{CallId}
use Rattle.ckpt_types.specs.declared.identities.Who.{Who}
use Rattle.ckpt_types.specs.declared.words.OpWord.{OpWord}
use Rattle.ckpt_types.specs.Asks.{Ask, asked}
use Rattle.ckpt_types.specs.Asks as asks
use Rattle.node_msgs.specs.declared.details.Details.{Details}
use Rattle.node_msgs.specs.declared.steps.StepReply.{StepReply}
use Rattle.node_msgs.specs.declared.steps.StepReply.TheVariants as words
use Rattle.node_msgs.specs.declared.steps.Verb.{Verb}
use Rattle.node_msgs.specs.declared.steps.Verb.TheVariants as verbs
use Rattle.run_labels.specs.declared.labels.Label.{Label}
use Rattle.run_labels.specs.declared.labels.Label.TheVariants as labels
use Rattle.cluster_record.specs.declared.entries.Entry.{Entry}
use Rattle.cluster_record.specs.Placement.{is_all, is_collocated}
use Rattle.cluster_record.specs.RecordState.{RecordState, entry_of}
use Rattle.cluster_record.specs.StepDone.{StepDone, done_of, counting}
use Rattle.ckpt_machine.specs.Driving.{Kept}
use Rattle.ckpt_machine.specs.Guards.{IsOnOwn, Row}
use Rattle.ckpt_machine.specs.ActiveGuards.{PullOk, InstallOk, is_service, serves}
use Rattle.ckpt_machine.specs.GuardTerms.{OnReplica}
use Rattle.ckpt_machine.specs.Invariant.{Invariant}
use Rattle.ckpt_machine.specs.Machine.{Machine, ReplicaState, Snapshot, CallState, who}
use Rattle.ckpt_machine.specs.Propagation.{copied, is_behind, replica_from}
use Rattle.ckpt_machine.specs.Replays.{IsPrefix}
use Rattle.ckpt_machine.specs.Runs.{last}
use Rattle.ckpt_machine.specs.After.{change_replica, with_installed, changed, pulled_by, kept_behind}
use Rattle.ckpt_machine.specs.Due.{Told, IsDone, due, counted_at}
use Rattle.ckpt_machine.specs.Shape.{IsCompleteOn}
use Rattle.ckpt_machine.specs.Synchronized.{IsPullOf, IsServiceOf, IsServedIn, StaysUp}
use Rattle.ckpt_machine.proofs.Askers.{IsCopyAsk, kept_still}
use Rattle.ckpt_machine.proofs.CopyingHands.{HasInCopying, LeavesCopying}
use Rattle.ckpt_machine.proofs.EachKept.{IsPulledOf}
use Rattle.ckpt_machine.proofs.EachReplica.{Each, PulledInHand}
use Rattle.ckpt_machine.proofs.Copying.{IsSource, IsOfSource, put2-here}
use Rattle.ckpt_machine.proofs.Generations.{generation_there}
use Rattle.ckpt_machine.proofs.Growing.{GrowsTo, GoesOnIn, gone_by, other_first}
use Rattle.ckpt_machine.proofs.Histories.{HasHistory, on_replica-there}
use Rattle.ckpt_machine.proofs.OptionLemmas.{IsSomeAnd-at, IsSomeAnd-from, IfSome-at}
use Rattle.ckpt_machine.proofs.Refusing.{at_node}
use Rattle.ckpt_machine.proofs.Prefixes.{prefix_same, prefix_then}
use Rattle.ckpt_machine.proofs.Runs.{last_or}
use Rattle.ckpt_machine.proofs.StaysMade.{IsMadeFrom}
use Rattle.ckpt_machine.proofs.SyncSteps.{IsSynchronize, served_as, served_here, served_more, served_then, pulls_empty}

-- ---- what is so of a call in hand

-- the call has pulled in the log, from the active of the checkpoint, the effects that this snapshot has
pub record HasPulledIn (log : List Label) (call : CallId) (k : ℕ) (z : Snapshot) : Type 0 where
  pub before : List Label
  pub behind : List Label
  pub pull : Label
  pub node : ℕ
  pub log_is : log ≡ before ++ pull ∷ behind
  pub pull_is : IsPullOf pull call k node
  pub active : IsSomeAnd (entry_of k (last before).cluster.entries) (λ e. e.active ≡ Some node)
  pub source : ReplicaState
  pub there : (last before).replicas k node ≡ Some source
  pub effects : source.effects ≡ z.effects

-- a replica is of the generation of a snapshot, and has its effects first
abbrev pub HasFirst : Snapshot → ReplicaState → Type 0
HasFirst z x = (x.generation ≡ z.generation) × IsPrefix z.effects x.effects

-- a replica on the node has what was served there: the node has stayed up behind these labels; or it is complete still, of a checkpoint that is not collocated; or it is the active
abbrev pub IsSureOf : Entry → ℕ → List Label → Type 0
IsSureOf e r behind = StaysUp behind r ⊎ (((is_collocated e.attributes ≡ false) × IsCompleteOn e r) ⊎ (e.active ≡ Some r))

-- where a checkpoint is of the generation of the snapshot, the replica of each node that the call has served in the log, and that is sure to have that, is too, and has its effects first
abbrev pub HaveServed : List Label → RecordState → (ℕ → ℕ → Option ReplicaState) → CallId → ℕ → Snapshot → Type 0
HaveServed log R replicas call k z = (e : Entry) (r : ℕ) (served : IsServedIn log call k r) → entry_of k R.entries ≡ Some e → z.generation ≡ e.generation → IsSureOf e r served.behind → IsSomeAnd (replicas k r) (HasFirst z)

-- whatever replica is on such a node, it is of that generation
abbrev pub AreOfGeneration : List Label → RecordState → (ℕ → ℕ → Option ReplicaState) → CallId → ℕ → Snapshot → Type 0
AreOfGeneration log R replicas call k z = (e : Entry) (r : ℕ) (x : ReplicaState) → IsServedIn log call k r → entry_of k R.entries ≡ Some e → z.generation ≡ e.generation → replicas k r ≡ Some x → x.generation ≡ z.generation

-- a node that the call has served, and that lacks the checkpoint now, has come back: where its copying has of it what is of the present generation, as what the call has is, that has the effects of this first
abbrev pub HaveCopied : List Label → RecordState → (Who → Option CallState) → CallId → ℕ → Snapshot → Type 0
HaveCopied log R hands call k z =
    (e : Entry) (r : ℕ) (d : CallId) (y : Snapshot) → IsServedIn log call k r → entry_of k R.entries ≡ Some e → z.generation ≡ e.generation → (IsCompleteOn e r → ⊥) → d.actor ≡ Node r → HasInCopying hands d k y → y.generation ≡ e.generation → IsPrefix z.effects y.effects

-- a call in hand that has pulled nothing has served no node; what it has in hand it has pulled in the log; the log tells each service of its steps, and no other of it; the replica of each node that it has served is of the generation of what is in its hand, and has that first; and so has what is copied to such a node
pub record IsBringing (log : List Label) (R : RecordState) (replicas : ℕ → ℕ → Option ReplicaState) (hands : Who → Option CallState) (s : CallState) : Type 0 where
  pub none : s.snapshot ≡ None → (r : ℕ) → list_any (serves r) s.steps ≡ false
  pub pulled : (k : ℕ) (z : Snapshot) → s.kept.ckpt ≡ Some k → s.snapshot ≡ Some z → HasPulledIn log s.call k z
  pub told : (k r : ℕ) → s.kept.ckpt ≡ Some k → list_any (serves r) s.steps ≡ true → IsServedIn log s.call k r
  pub by_steps : (k r : ℕ) → IsServedIn log s.call k r → list_any (serves r) s.steps ≡ true
  pub served : (k : ℕ) (z : Snapshot) → s.kept.ckpt ≡ Some k → s.snapshot ≡ Some z → HaveServed log R replicas s.call k z
  pub generations : (k : ℕ) (z : Snapshot) → s.kept.ckpt ≡ Some k → s.snapshot ≡ Some z → AreOfGeneration log R replicas s.call k z
  pub copied : (k : ℕ) (z : Snapshot) → s.kept.ckpt ≡ Some k → s.snapshot ≡ Some z → HaveCopied log R hands s.call k z

-- ---- in a log with a label more

-- what a call has pulled in a log it has pulled in a longer one
pulled_longer : (log : List Label) (l : Label) (call : CallId) (k : ℕ) (z : Snapshot) → HasPulledIn log call k z → HasPulledIn (log ++ l ∷ []) call k z
pulled_longer log l call k z has = record {
  before = has.before;
  behind = has.behind ++ l ∷ [];
  pull = has.pull;
  node = has.node;
  log_is = ap (λ (xs : List Label). xs ++ l ∷ []) has.log_is ∙ append_assoc has.before (has.pull ∷ has.behind) (l ∷ []);
  pull_is = has.pull_is;
  active = has.active;
  source = has.source;
  there = has.there;
  effects = has.effects;
}

-- so it is of a node that it has served
served_longer : (log : List Label) (l : Label) (call : CallId) (k r : ℕ) → IsServedIn log call k r → IsServedIn (log ++ l ∷ []) call k r
served_longer log l call k r served = record {
  before = served.before;
  behind = served.behind ++ l ∷ [];
  step = served.step;
  log_is = ap (λ (xs : List Label). xs ++ l ∷ []) served.log_is ∙ append_assoc served.before (served.step ∷ served.behind) (l ∷ []);
  step_is = served.step_is;
}

-- a service there is the last label, or was in the log before
served_or : (log : List Label) (l : Label) (call : CallId) (k r : ℕ) (served : IsServedIn (log ++ l ∷ []) call k r) → IsServiceOf l call k r ⊎ ((was : IsServedIn log call k r) × (served.behind ≡ was.behind ++ l ∷ []))
served_or log l call k r served = elim (last_or log l served.before served.step served.behind served.log_is) [
  | inl here ↦ inl (subst (λ (l : Label). IsServiceOf l call k r) (sym here.1) served.step_is)
  | inr there ↦ inr (record { before = served.before; behind = there.0; step = served.step; log_is = there.1; step_is = served.step_is }, there.2)
]

-- a node that stays up behind one label more stays up behind the others, and does not fail by that one
stays_up_before : (ls : List Label) (l : Label) (r : ℕ) → StaysUp (ls ++ l ∷ []) r → StaysUp ls r × (l ≢ labels.Failed r true)
stays_up_before [] l r stays = (tt, stays.0)
stays_up_before (x ∷ ls) l r stays = let (rest, last_one) = stays_up_before ls l r stays.1 in ((stays.0, rest), last_one)

-- a node that goes by a label fails by it
gone_fails : (l : Label) (r : ℕ) → gone_by l ≡ Some r → l ≡ labels.Failed r true
gone_fails (labels.Failed q true) r gone = ap (λ q. labels.Failed q true) (same_Some q r gone)
gone_fails l r gone = absurd (cc gone)

-- a step that serves a node names its checkpoint and that node
pub service_parts : (d : CallId) (word : OpWord) (verb : Verb) (j q : Option ℕ) (reply : StepReply) (end : Option Outcome) (details : Details) (call : CallId) (k r : ℕ) → IsServiceOf (labels.Stepped d word verb j q reply end details) call k r
    → (d ≡ call) × (j ≡ Some k) × (q ≡ Some r) × (is_service verb reply ≡ true)
service_parts d word verb (Some j) (Some q) reply end details call k r of = (of.0, ap Some of.1, ap Some of.2, of.3)
service_parts d word verb (Some j) None reply end details call k r of = absurd of
service_parts d word verb None q reply end details call k r of = absurd of

-- ---- behind one label more

module _ (log : List Label) (l : Label) (inv : Invariant (last log)) (history : HasHistory (last log)) (each : Each (λ o r x. Unit {0}) (λ e s. Unit {0}) (last log)) where
  abbrev m : Machine
  m = last log

  module _ (s : CallState) (a : Who) (held : m.in_hand a ≡ Some s) (no_copying : IsCopyAsk (asked s.op) → ⊥) (was : IsBringing log m.cluster m.replicas m.in_hand s) (R : RecordState) (replicas : ℕ → ℕ → Option ReplicaState) (hands : Who → Option CallState) (leaves : LeavesCopying m l R replicas hands) where
    -- a snapshot in the hand of a call was pulled of the checkpoint that this keeps
    abbrev in_hand_of : (k : ℕ) (z : Snapshot) → s.kept.ckpt ≡ Some k → s.snapshot ≡ Some z → PulledInHand m.in_hand k z
    in_hand_of k z ckpt snapshot = record { name = a; state = s; in_hand = held; ckpt = ckpt; snapshot = snapshot }

    -- the checkpoint of a snapshot that is of its generation, as it was
    record WasSource (k : ℕ) (z : Snapshot) (f : Entry) : Type 0 where
      go : GoesOnIn m k (gone_by l) R replicas
      e : Entry
      there : entry_of k m.cluster.entries ≡ Some e
      attributes : f.attributes ≡ e.attributes
      source : IsSource e
      made : IsMadeFrom e f
      before : z.generation ≡ e.generation
      still : f.generation ≡ e.generation

    -- its checkpoint, where it is of the generation of the snapshot, was there, was made, and was of that generation
    before_it : (k : ℕ) (z : Snapshot) → s.kept.ckpt ≡ Some k → s.snapshot ≡ Some z → (f : Entry) → entry_of k R.entries ≡ Some f → z.generation ≡ f.generation → WasSource k z f
    before_it k z ckpt snapshot f found present =
        let (given, so) = each.in_hand k z (in_hand_of k z ckpt snapshot) in
        let go = leaves.goes k given in
        let (e, there, keeps) = go.made f found in
        let of : IsOfSource e z = (IfSome-at (entry_of k m.cluster.entries) (λ e. IsPulledOf (asked s.op) e z × Unit {0}) so e there).0.source (inr no_copying) in
        let made = keeps.made of.source.made in
        let within = of.within in
        let rises = made.generation in
        let before : z.generation ≡ e.generation = omega (arith, within, rises, present) in
        record { go = go; e = e; there = there; attributes = keeps.attributes; source = of.source; made = made; before = before; still = sym present ∙ before }

    -- what is copied to a node that a call has served, and that lacks the checkpoint, has first what is in its hand
    still_copied : (k : ℕ) (z : Snapshot) → s.kept.ckpt ≡ Some k → s.snapshot ≡ Some z → (f : Entry) (r : ℕ) (d : CallId) (y : Snapshot) → IsServedIn log s.call k r → entry_of k R.entries ≡ Some f → z.generation ≡ f.generation → (IsCompleteOn f r → ⊥) → d.actor ≡ Node r → HasInCopying hands d k y → y.generation ≡ f.generation → IsPrefix z.effects y.effects
    still_copied k z ckpt snapshot f r d y served found present lacks actor has copied =
        let at = before_it k z ckpt snapshot f found present in
        let stays = leaves.away d k r y has actor in
        elim (leaves.copies d k y has) [
          | inl copying ↦ was.copied k z ckpt snapshot at.e r d y served at.there at.before (λ complete. lacks (leaves.remains k r at.e f at.there found at.source.made stays complete)) actor copying (copied ∙ at.still)
          | inr of ↦ (
              let e_is : of.entry ≡ at.e = same_Some of.entry at.e (sym of.found ∙ at.there) in
              let alone : is_all of.entry.attributes ≡ false = ap (λ (e : Entry). is_all e.attributes) e_is ∙ at.source.alone in
              let ahead = (each.ahead k of.node of.entry of.replica of.found alone (of.active alone) of.there).in_hand z (in_hand_of k z ckpt snapshot) (at.before ∙ ap (λ (e : Entry). e.generation) (sym e_is)) in
              subst (IsPrefix z.effects) of.effects ahead)
        ]

    -- a node that was complete for the checkpoint, and does not go, is so still
    still_complete : (k : ℕ) (z : Snapshot) → s.kept.ckpt ≡ Some k → s.snapshot ≡ Some z → (e f : Entry) (r : ℕ) → entry_of k m.cluster.entries ≡ Some e → entry_of k R.entries ≡ Some f → z.generation ≡ f.generation → gone_by l ≢ Some r → IsCompleteOn e r → IsCompleteOn f r
    still_complete k z ckpt snapshot e f r there found present stays complete =
        let at = before_it k z ckpt snapshot f found present in
        leaves.remains k r e f there found (subst (λ (e : Entry). e.making ≡ None) (same_Some at.e e (sym at.there ∙ there)) at.source.made) stays complete

    -- the replica of each node that a call has served in the log still has first what is in its hand
    still_served : (k : ℕ) (z : Snapshot) → s.kept.ckpt ≡ Some k → s.snapshot ≡ Some z → (f : Entry) (r : ℕ) (served : IsServedIn log s.call k r) → entry_of k R.entries ≡ Some f → z.generation ≡ f.generation → IsSureOf f r (served.behind ++ l ∷ []) → IsSomeAnd (replicas k r) (HasFirst z)
    still_served k z ckpt snapshot f r served found present sure = elim sure [
      | inl stays ↦ (let (front, no_failure) = stays_up_before served.behind l r stays in by_sure (inl front) (λ gone. no_failure (gone_fails l r gone)))
      | inr (inl apart) ↦ (
          let was_apart : is_collocated at.e.attributes ≡ false = ap is_collocated (sym at.attributes) ∙ apart.0 in
          elim (leaves.placed k r at.e f at.there found at.source.made was_apart apart.1) [
            | inl complete ↦ by_sure (inr (inl (was_apart, complete))) (at.go.away f r found apart.1)
            | inr now ↦ IsSomeAnd-from (replicas k r) (HasFirst z) now.replica now.there (now.generation ∙ sym present, subst (IsPrefix z.effects) (sym now.effects) (was.copied k z ckpt snapshot at.e r now.call now.pulled served at.there at.before now.lacked now.own now.copying (now.present at.source.alone)))
          ])
      | inr (inr active) ↦ (let was_active : at.e.active ≡ Some r = sym (at.made.active at.still) ∙ active in by_sure (inr (inr was_active)) (at.go.led at.e f r at.there found at.still was_active))
    ]
      where
        at : WasSource k z f
        at = before_it k z ckpt snapshot f found present

        by_sure : IsSureOf at.e r served.behind → gone_by l ≢ Some r → IsSomeAnd (replicas k r) (HasFirst z)
        by_sure sure stays =
            let (x, there, first) = IsSomeAnd-at (m.replicas k r) (HasFirst z) (was.served k z ckpt snapshot at.e r served at.there at.before sure) in
            let (y, at_then, grows) = IsSomeAnd-at (replicas k r) (GrowsTo x) (at.go.replica r x at.e f stays at.there found at.still there (first.0 ∙ at.before)) in
            IsSomeAnd-from (replicas k r) (HasFirst z) y at_then (grows.0 ∙ first.0, prefix_then z.effects x.effects y.effects first.1 grows.1)

    -- and whatever replica is there is of the generation of that
    still_of_generation : (k : ℕ) (z : Snapshot) → s.kept.ckpt ≡ Some k → s.snapshot ≡ Some z → (f : Entry) (r : ℕ) (y : ReplicaState) → IsServedIn log s.call k r → entry_of k R.entries ≡ Some f → z.generation ≡ f.generation → replicas k r ≡ Some y → y.generation ≡ z.generation
    still_of_generation k z ckpt snapshot f r y served found present there =
        let at = before_it k z ckpt snapshot f found present in
        elim (at.go.generations r y at.e f at.there found at.still there) [
          | inl is ↦ is ∙ sym present
          | inr old ↦ (let (x, was_there, same) = IsSomeAnd-at (m.replicas k r) (λ x. y.generation ≡ x.generation) old in same ∙ was.generations k z ckpt snapshot at.e r x served at.there at.before was_there)
        ]

    module _ (no_service : (k r : ℕ) → IsServiceOf l s.call k r → ⊥) where
      -- a call that serves no node by the label goes on to bring what it has pulled
      pub stays_bringing : IsBringing (log ++ l ∷ []) R replicas hands s
      stays_bringing = record {
        none = was.none;
        pulled = λ k z ckpt snapshot. pulled_longer log l s.call k z (was.pulled k z ckpt snapshot);
        told = λ k r ckpt served. served_longer log l s.call k r (was.told k r ckpt served);
        by_steps = λ k r served. elim (served_or log l s.call k r served) [ inl here ↦ absurd (no_service k r here) | inr before ↦ was.by_steps k r before.0 ];
        served = λ k z ckpt snapshot f r served found present sure. elim (served_or log l s.call k r served) [
          | inl here ↦ absurd (no_service k r here)
          | inr before ↦ still_served k z ckpt snapshot f r before.0 found present (subst (IsSureOf f r) before.1 sure)
        ];
        generations = λ k z ckpt snapshot f r y served found present at. elim (served_or log l s.call k r served) [
          | inl here ↦ absurd (no_service k r here)
          | inr before ↦ still_of_generation k z ckpt snapshot f r y before.0 found present at
        ];
        copied = λ k z ckpt snapshot f r d y served found present lacks actor has copied. elim (served_or log l s.call k r served) [
          | inl here ↦ absurd (no_service k r here)
          | inr before ↦ still_copied k z ckpt snapshot f r d y before.0 found present lacks actor has copied
        ];
      }

      -- so does a call whose step serves no node, and leaves what it has in hand
      unserving : (d : StepDone) (h : CallState) → is_service d.verb d.reply ≡ false → h.call ≡ s.call → h.kept ≡ s.kept → h.steps ≡ d ∷ s.steps → h.snapshot ≡ s.snapshot → IsBringing (log ++ l ∷ []) R replicas hands h
      unserving d h service call kept steps snapshot = record {
        none = λ empty r. same_steps r ∙ was.none (sym snapshot ∙ empty) r;
        pulled = λ k z ckpt is. subst (λ call. HasPulledIn (log ++ l ∷ []) call k z) (sym call) (stays_bringing.pulled k z (same_ckpt k ckpt) (sym snapshot ∙ is));
        told = λ k r ckpt served. subst (λ call. IsServedIn (log ++ l ∷ []) call k r) (sym call) (stays_bringing.told k r (same_ckpt k ckpt) (sym (same_steps r) ∙ served));
        by_steps = λ k r served. same_steps r ∙ stays_bringing.by_steps k r (subst (λ call. IsServedIn (log ++ l ∷ []) call k r) call served);
        served = λ k z ckpt is. subst (λ call. HaveServed (log ++ l ∷ []) R replicas call k z) (sym call) (stays_bringing.served k z (same_ckpt k ckpt) (sym snapshot ∙ is));
        generations = λ k z ckpt is. subst (λ call. AreOfGeneration (log ++ l ∷ []) R replicas call k z) (sym call) (stays_bringing.generations k z (same_ckpt k ckpt) (sym snapshot ∙ is));
        copied = λ k z ckpt is. subst (λ call. HaveCopied (log ++ l ∷ []) R hands call k z) (sym call) (stays_bringing.copied k z (same_ckpt k ckpt) (sym snapshot ∙ is));
      }
        where
          same_ckpt : (k : ℕ) → h.kept.ckpt ≡ Some k → s.kept.ckpt ≡ Some k
          same_ckpt k ckpt = sym (ap (λ (kept : Kept). kept.ckpt) kept) ∙ ckpt

          same_steps : (r : ℕ) → list_any (serves r) h.steps ≡ list_any (serves r) s.steps
          same_steps r = ap (λ (steps : List StepDone). list_any (serves r) steps) steps ∙ served_as r d s.steps service

-- ---- its own step

module _ (log : List Label) (inv : Invariant (last log)) (history : HasHistory (last log)) (each : Each (λ o r x. Unit {0}) (λ e s. Unit {0}) (last log)) (s : CallState) (held : (last log).in_hand (who s) ≡ Some s) (was : IsBringing log (last log).cluster (last log).replicas (last log).in_hand s)
    (d : CallId) (call_is : s.call ≡ d) (op : OpWord) (end : Option Outcome) (details : Details) (asks_is : IsSynchronize (asked s.op)) (hands : Who → Option CallState) where
  -- it asks for nothing else
  no_other : (ask : Ask) → asked s.op ≡ ask → IsSynchronize ask
  no_other ask is = subst IsSynchronize is asks_is

  no_copying : (ask : Ask) → IsSynchronize ask → IsCopyAsk ask → ⊥
  no_copying (asks.Synchronize place timeout) syncs copies = copies
  no_copying ask syncs copies = syncs

  -- the label of a step
  abbrev l_of : Verb → Option ℕ → Option ℕ → StepReply → Label
  l_of verb j q reply = labels.Stepped d op verb j q reply end details

  -- the parts of that label
  abbrev t_of : Verb → Option ℕ → Option ℕ → StepReply → Told
  t_of verb j q reply = record { verb = verb; ckpt = j; node = q; reply = reply; end = end; details = details }

  -- what a step of the call leaves
  abbrev GoesBy : Verb → Option ℕ → Option ℕ → StepReply → Type 0
  GoesBy verb j q reply = LeavesCopying (last log) (l_of verb j q reply) (changed (last log) s verb j q reply).cluster (changed (last log) s verb j q reply).replicas hands

  -- a step as the call keeps it
  abbrev kept_step : Verb → Option ℕ → Option ℕ → StepReply → StepDone
  kept_step verb j q reply = counting (counted_at (last log) verb j q reply) (done_of (changed (last log) s verb j q reply).cluster verb j q reply)

  -- a call brings what it has pulled behind a step of its own, whether that ends it or not
  abbrev BringsBy : Verb → Option ℕ → Option ℕ → StepReply → Type 0
  BringsBy verb j q reply = IsBringing (log ++ l_of verb j q reply ∷ []) (changed (last log) s verb j q reply).cluster (changed (last log) s verb j q reply).replicas hands (kept_behind (last log) s (changed (last log) s verb j q reply).cluster verb j q reply)

  -- a call brings what it has pulled behind a step that serves no node
  unserving_brings : (verb : Verb) (j q : Option ℕ) (reply : StepReply) → GoesBy verb j q reply → is_service verb reply ≡ false → pulled_by (last log) s verb j q reply ≡ s.snapshot → BringsBy verb j q reply
  unserving_brings verb j q reply goes service snapshot =
      let n = changed (last log) s verb j q reply in
      unserving log (l_of verb j q reply) inv history each s (who s) held (no_copying (asked s.op) asks_is) was n.cluster n.replicas hands goes (λ k r of. (let w : false ≡ true = sym service ∙ (service_parts d op verb j q reply end details s.call k r of).3 in cc w))
      (kept_step verb j q reply) (kept_behind (last log) s n.cluster verb j q reply) service refl (kept_still (last log) s verb j reply (no_copying (asked s.op) asks_is)) refl snapshot

  module _ (verb : Verb) (j q : ℕ) (reply : StepReply) (service : is_service verb reply ≡ true) (own : Some j ≡ s.kept.ckpt) where
    -- behind a step that serves a node, the log tells that it has
    told_here : (k r : ℕ) → s.kept.ckpt ≡ Some k → list_any (serves r) (kept_step verb (Some j) (Some q) reply ∷ s.steps) ≡ true → IsServedIn (log ++ l_of verb (Some j) (Some q) reply ∷ []) s.call k r
    told_here k r ckpt served = elim (served_then r (kept_step verb (Some j) (Some q) reply) s.steps served) [
      | inl node ↦ record { before = log; behind = []; step = l_of verb (Some j) (Some q) reply; log_is = refl; step_is = (sym call_is, same_Some j k (own ∙ ckpt), same_Some q r node, service) }
      | inr before ↦ served_longer log (l_of verb (Some j) (Some q) reply) s.call k r (was.told k r ckpt before)
    ]

    -- and no other service of the call than those of its steps
    by_steps_here : (k r : ℕ) → IsServedIn (log ++ l_of verb (Some j) (Some q) reply ∷ []) s.call k r → list_any (serves r) (kept_step verb (Some j) (Some q) reply ∷ s.steps) ≡ true
    by_steps_here k r served = elim (served_or log (l_of verb (Some j) (Some q) reply) s.call k r served) [
      | inl here ↦ served_here r (kept_step verb (Some j) (Some q) reply) s.steps (ap Some here.2) service
      | inr before ↦ served_more r (kept_step verb (Some j) (Some q) reply) s.steps (was.by_steps k r before.0)
    ]

  -- a call brings what it pulls, where nothing was in its hand
  pull_brings : (j q : ℕ) (e : Entry) (x : ReplicaState) → Some j ≡ s.kept.ckpt → s.snapshot ≡ None → entry_of j (last log).cluster.entries ≡ Some e → e.active ≡ Some q → (last log).replicas j q ≡ Some x → BringsBy verbs.Pull (Some j) (Some q) words.Ok
  pull_brings j q e x own empty found active there = record {
    none = λ none r. absurd (let w : Some (copied x) ≡ None = sym has ∙ none in cc w);
    pulled = λ k z ckpt snapshot. subst (HasPulledIn (log ++ l_of verbs.Pull (Some j) (Some q) words.Ok ∷ []) s.call k) (copy z snapshot) (subst (λ k. HasPulledIn (log ++ l_of verbs.Pull (Some j) (Some q) words.Ok ∷ []) s.call k (copied x)) (same_Some j k (own ∙ ckpt)) from_active);
    told = told_here verbs.Pull j q words.Ok refl own;
    by_steps = by_steps_here verbs.Pull j q words.Ok refl own;
    served = λ k z ckpt snapshot f r served at present sure. IsSomeAnd-from ((last log).replicas k r) (HasFirst z) x (here k r served) (subst (λ z. HasFirst z x) (copy z snapshot) (refl, prefix_same x.effects));
    generations = λ k z ckpt snapshot f r y served at present there_is. ap (λ (x : ReplicaState). x.generation) (same_Some y x (sym there_is ∙ here k r served)) ∙ ap (λ (z : Snapshot). z.generation) (copy z snapshot);
    -- the node that is pulled is complete
    copied = λ k z ckpt snapshot f r d y served at present lacks actor has copied. absurd (
        let (g, found, complete) = IsSomeAnd-at (entry_of k (last log).cluster.entries) (λ g. IsCompleteOn g r) (history.bare.complete k r x (here k r served)) in
        lacks (subst (λ g. IsCompleteOn g r) (same_Some g f (sym found ∙ at)) complete));
  }
    where
      has : option_map copied ((last log).replicas j q) ≡ Some (copied x)
      has = ap (option_map copied) there

      -- no node is served but the one from which it pulls
      here : (k r : ℕ) → IsServedIn (log ++ l_of verbs.Pull (Some j) (Some q) words.Ok ∷ []) s.call k r → (last log).replicas k r ≡ Some x
      here k r served = elim (served_or log (l_of verbs.Pull (Some j) (Some q) words.Ok) s.call k r served) [
        | inl of ↦ (λ i. (last log).replicas (sym of.1 i) (sym of.2 i)) ∙ there
        | inr before ↦ absurd (let w : false ≡ true = sym (was.none empty r) ∙ was.by_steps k r before.0 in cc w)
      ]

      copy : (z : Snapshot) → option_map copied ((last log).replicas j q) ≡ Some z → copied x ≡ z
      copy z snapshot = same_Some (copied x) z (sym has ∙ snapshot)

      from_active : HasPulledIn (log ++ l_of verbs.Pull (Some j) (Some q) words.Ok ∷ []) s.call j (copied x)
      from_active = record { before = log; behind = []; pull = l_of verbs.Pull (Some j) (Some q) words.Ok; node = q; log_is = refl; pull_is = (sym call_is, refl, refl); active = IsSomeAnd-from (entry_of j (last log).cluster.entries) (λ e. e.active ≡ Some q) e found active; source = x; there = there; effects = refl }

  -- a call brings what it has pulled behind an installation, where the replica of that node then has it first
  install_brings : (j q : ℕ) (reply : StepReply) → is_service verbs.Install reply ≡ true → GoesBy verbs.Install (Some j) (Some q) reply → Some j ≡ s.kept.ckpt → (x : ReplicaState) → (last log).replicas j q ≡ Some x → (pulled : Snapshot) → s.snapshot ≡ Some pulled → IsSomeAnd ((changed (last log) s verbs.Install (Some j) (Some q) reply).replicas j q) (HasFirst pulled) → BringsBy verbs.Install (Some j) (Some q) reply
  install_brings j q reply service goes own x at_before pulled in_hand here = record {
    none = λ none r. absurd (let w : Some pulled ≡ None = sym in_hand ∙ none in cc w);
    pulled = λ k z ckpt snapshot. pulled_longer log l s.call k z (was.pulled k z ckpt snapshot);
    told = told_here verbs.Install j q reply service own;
    by_steps = by_steps_here verbs.Install j q reply service own;
    served = λ k z ckpt snapshot f r served found present sure. elim (served_or log l s.call k r served) [
      | inl of ↦ there k r z snapshot of
      | inr before ↦ still_served log l inv history each s (who s) held (no_copying (asked s.op) asks_is) was n.cluster n.replicas hands goes k z ckpt snapshot f r before.0 found present (subst (IsSureOf f r) before.1 sure)
    ];
    generations = λ k z ckpt snapshot f r y served found present at. elim (served_or log l s.call k r served) [
      | inl of ↦ (let (x, is, first) = IsSomeAnd-at (n.replicas k r) (HasFirst z) (there k r z snapshot of) in ap (λ (x : ReplicaState). x.generation) (same_Some y x (sym at ∙ is)) ∙ first.0)
      | inr before ↦ still_of_generation log l inv history each s (who s) held (no_copying (asked s.op) asks_is) was n.cluster n.replicas hands goes k z ckpt snapshot f r y before.0 found present at
    ];
    copied = λ k z ckpt snapshot f r d y served found present lacks actor has copied. elim (served_or log l s.call k r served) [
      -- the node that is served is complete
      | inl of ↦ absurd (
          let (g, there, complete) = IsSomeAnd-at (entry_of k (last log).cluster.entries) (λ g. IsCompleteOn g r) (history.bare.complete k r x ((λ i. (last log).replicas (sym of.1 i) (sym of.2 i)) ∙ at_before)) in
          lacks (still_complete log l inv history each s (who s) held (no_copying (asked s.op) asks_is) was n.cluster n.replicas hands goes k z ckpt snapshot g f r there found present (λ none. cc none) complete))
      | inr before ↦ still_copied log l inv history each s (who s) held (no_copying (asked s.op) asks_is) was n.cluster n.replicas hands goes k z ckpt snapshot f r d y before.0 found present lacks actor has copied
    ];
  }
    where
      n : Machine
      n = changed (last log) s verbs.Install (Some j) (Some q) reply

      l : Label
      l = l_of verbs.Install (Some j) (Some q) reply

      -- the replica of the node that it serves
      there : (k r : ℕ) (z : Snapshot) → s.snapshot ≡ Some z → IsServiceOf l s.call k r → IsSomeAnd (n.replicas k r) (HasFirst z)
      there k r z snapshot of = subst (λ z. IsSomeAnd (n.replicas k r) (HasFirst z)) (same_Some pulled z (sym in_hand ∙ snapshot)) (subst (λ r. IsSomeAnd (n.replicas k r) (HasFirst pulled)) of.2 (subst (λ k. IsSomeAnd (n.replicas k q) (HasFirst pulled)) of.1 here))

  -- a call brings what it has pulled behind an installation onto a replica that was behind it
  installed_brings : (j q : ℕ) (t : Told) → GoesBy verbs.Install (Some j) (Some q) words.Ok → Some j ≡ s.kept.ckpt → OnReplica (last log) j q (InstallOk (last log) s q t true) → BringsBy verbs.Install (Some j) (Some q) words.Ok
  installed_brings j q t goes own on =
      let (e, x, found, there, ok) = on_replica-there (last log) j q (InstallOk (last log) s q t true) on in
      let takes : with_installed s.snapshot x ≡ replica_from ok.pulled x = ap (λ o. with_installed o x) ok.in_hand in
      let here : (changed (last log) s verbs.Install (Some j) (Some q) words.Ok).replicas j q ≡ Some (replica_from ok.pulled x) =
      ap (λ o. (change_replica (last log) j q o (with_installed s.snapshot)).replicas j q) there ∙ put2-here (last log).replicas j q (Some (with_installed s.snapshot x)) ∙ ap Some takes in
      install_brings j q words.Ok refl goes own x there ok.pulled ok.in_hand (IsSomeAnd-from ((changed (last log) s verbs.Install (Some j) (Some q) words.Ok).replicas j q) (HasFirst ok.pulled) (replica_from ok.pulled x) here (refl, prefix_same ok.pulled.effects))

  -- a replica that is not behind a snapshot of the present generation is of that too
  not_older : (e : Entry) (x : ReplicaState) (z : Snapshot) → x.generation ≤ e.generation → z.generation ≡ e.generation → is_behind x z ≡ false → x.generation ≡ e.generation
  not_older e x z within present behind = by_test (nat_lt x.generation z.generation) refl behind
    where
      by_test : (b : Bool) → nat_lt x.generation z.generation ≡ b → (b || ((x.generation == z.generation) && nat_lt (length x.effects) (length z.effects))) ≡ false → x.generation ≡ e.generation
      by_test true lower behind = absurd (cc behind)
      by_test false least behind = let above : z.generation ≤ x.generation = ltb-false x.generation z.generation least in omega (arith, above, within, present)

  -- a call brings what it has pulled behind an installation that finds a replica not behind it
  older_brings : (j q : ℕ) (t : Told) → GoesBy verbs.Install (Some j) (Some q) words.Older → Some j ≡ s.kept.ckpt → OnReplica (last log) j q (InstallOk (last log) s q t false) → BringsBy verbs.Install (Some j) (Some q) words.Older
  older_brings j q t goes own on =
      let (e, x, found, there, ok) = on_replica-there (last log) j q (InstallOk (last log) s q t false) on in
      let has : PulledInHand (last log).in_hand j ok.pulled = record { name = who s; state = s; in_hand = held; ckpt = sym own; snapshot = ok.in_hand } in
      let now : x.generation ≡ e.generation = not_older e x ok.pulled (generation_there (last log) inv j q e x found there).within ok.present ok.behind_is in
      install_brings j q words.Older refl goes own x there ok.pulled ok.in_hand (IsSomeAnd-from ((last log).replicas j q) (HasFirst ok.pulled) x there (now ∙ sym ok.present, other_first (last log) inv history.bare each j q e ok.pulled x found ok.alone (inr has) there now ok.present ok.behind_is))

  pulls : (j q : ℕ) (reply : StepReply) → GoesBy verbs.Pull (Some j) (Some q) reply → IsDone (last log) s (due (last log) s) (t_of verbs.Pull (Some j) (Some q) reply) → Some j ≡ s.kept.ckpt → Row (last log) s verbs.Pull (t_of verbs.Pull (Some j) (Some q) reply) → BringsBy verbs.Pull (Some j) (Some q) reply
  pulls j q words.Ok goes done own row =
      elim row.0 [
        | inl pull ↦ (
            let (e, x, found, there, ok) = on_replica-there (last log) j q (PullOk (last log) s q (t_of verbs.Pull (Some j) (Some q) words.Ok)) pull.3 in
            pull_brings j q e x own (pulls_empty (last log) inv s (t_of verbs.Pull (Some j) (Some q) words.Ok) pull.0 pull.1 held pull.2 done refl) found ok.active there)
        | inr copy ↦ absurd (no_other _ copy.0)
      ]
  pulls j q reply goes done own row = unserving_brings verbs.Pull (Some j) (Some q) reply goes refl refl

  installs : (j q : ℕ) (reply : StepReply) → GoesBy verbs.Install (Some j) (Some q) reply → Some j ≡ s.kept.ckpt → Row (last log) s verbs.Install (t_of verbs.Install (Some j) (Some q) reply) → BringsBy verbs.Install (Some j) (Some q) reply
  installs j q words.Ok goes own row = installed_brings j q (t_of verbs.Install (Some j) (Some q) words.Ok) goes own row.0.3
  installs j q words.Older goes own row = older_brings j q (t_of verbs.Install (Some j) (Some q) words.Older) goes own row.0.3
  installs j q reply goes own row = unserving_brings verbs.Install (Some j) (Some q) reply goes refl refl

  -- a synchronisation sets no active
  no_setting : {place : ℕ} → asked s.op ≡ asks.SetActive place → ⊥
  no_setting is = subst IsSynchronize is asks_is

  -- a call brings what it has pulled behind any step of its own that is due and allowed
  pub step_brings : (verb : Verb) (j q : Option ℕ) (reply : StepReply) → GoesBy verb j q reply → IsDone (last log) s (due (last log) s) (t_of verb j q reply) → IsOnOwn verb j s.kept.ckpt → Row (last log) s verb (t_of verb j q reply) → BringsBy verb j q reply
  step_brings verbs.Pull (Some j) (Some q) reply goes done own row = pulls j q reply goes done own row
  step_brings verbs.Pull (Some j) None reply goes done own row = absurd row.0
  step_brings verbs.Pull None q reply goes done own row = absurd row.0
  step_brings verbs.Install (Some j) (Some q) reply goes done own row = installs j q reply goes own row
  step_brings verbs.Install (Some j) None reply goes done own row = absurd row.0
  step_brings verbs.Install None q reply goes done own row = absurd row.0
  step_brings verbs.Reserve j q reply goes done own row = absurd (at_node j q _ row.0 (λ k r p. elim p [ inl making ↦ no_other _ making.2.asks | inr copy ↦ no_other _ copy.0 ]))
  step_brings verbs.Hold j q reply goes done own row = absurd (at_node j q _ row.0 (λ k r p. no_setting p.1))
  step_brings verbs.Activate j q reply goes done own row = absurd (at_node j q _ row.0 (λ k r p. no_setting p.1))
  step_brings verb j q reply goes done own row = unserving_brings verb j q reply goes refl refl
