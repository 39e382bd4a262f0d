-- What a step leaves of replicas and their effects: a replica is where its node is complete; effects are those that were, or of the call that commits, applies, or ends its weak write, or of the snapshot in the hand of one that installs it, or has its client's node lead with it; and a background snapshot is one that was.
use Rattle.std.proofs.Common.{◌≡◌, ◌⊎◌, ℕ, inl, inr, List, [], ◌∷◌, ◌++◌, Option, Some, None, true, false, cond, ◌==◌, ◌&&◌, ℤ, refl, sym, ap, subst}
use Rattle.std.specs.Prelude.{Bool, IfSome, IsSomeAnd, slice_index, if◌then◌else◌}
use Rattle.std.proofs.lemmas.Bool.{eqb-true, and_parts}
use Rattle.std.proofs.lemmas.Option.{same_Some}
use Rattle.ckpt_types.specs.declared.identities.ActorName.{ActorName}
use Rattle.ckpt_types.specs.declared.identities.CallId.{CallId}
use Rattle.ckpt_types.specs.declared.identities.Who.{Who}
use Rattle.ckpt_types.specs.declared.update.Update.{Update}
use Rattle.weak_marks.specs.Marks.{Marked}
use Rattle.node_msgs.specs.declared.steps.Verb.{Verb}
use Rattle.node_msgs.specs.declared.steps.Verb.TheVariants as verbs
use Rattle.node_msgs.specs.declared.steps.StepReply.{StepReply}
use Rattle.node_msgs.specs.declared.steps.StepReply.TheVariants as words
use Rattle.cluster_record.specs.declared.entries.Entry.{Entry}
use Rattle.cluster_record.specs.Calls.{client_of}
use Rattle.cluster_record.specs.Joining.{completed}
use Rattle.cluster_record.specs.Makings.{making_of}
use Rattle.cluster_record.specs.Places.{put2}
use Rattle.cluster_record.specs.RecordState.{RecordState, entry_of, complete_of, swept, entered, finished, opened, closed, unlinked, departed, undone, hold_set, active_set}
use Rattle.cluster_record.specs.StepDone.{generation_in}
use Rattle.ckpt_types.specs.Asks.{asked, update_of}
use Rattle.ckpt_machine.specs.Machine.{Machine, Effect, Applied, ReplicaState, Snapshot, Staged, CallState}
use Rattle.ckpt_machine.specs.Owned.{IsEffectOf, HasEffect}
use Rattle.ckpt_machine.specs.Shape.{IsCompleteOn}
use Rattle.ckpt_machine.specs.After.{with_record, record_step, created_for, retained_for, change_replica, with_slot, with_claim, without_slot, staged_moment, with_committed, committed_slot, with_applied, with_marks, with_next_element, next_element_written, without_marks, marks_ended, with_installed, with_lead, led_from, replica_copied, effect_of, changed, on_ok, on_look, without_making, at_some, replica_under, reservation_under, snapshot_under, opened_state, with_closed, goes_with}
use Rattle.ckpt_machine.specs.Tables.{handle_closed}
use Rattle.ckpt_machine.specs.Whose.{is_of}
use Rattle.ckpt_machine.proofs.Dropped.{left_was}
use Rattle.ckpt_machine.proofs.OptionLemmas.{IsSomeAnd-at, IfSome-at}

-- ---- what is so in every state of a run

-- the node is not complete
abbrev pub IsIncomplete : Entry → ℕ → Type 0
IsIncomplete e r = (slice_index e.complete r == 0) ≡ true

-- a node has a replica where it is complete; it has reserved none where it is complete, or that is gone
pub record IsBareIn (R : RecordState) (replicas : ℕ → ℕ → Option ReplicaState) (reserved : ℕ → ℕ → Option ℕ) : Type 0 where
  pub complete : (k r : ℕ) (x : ReplicaState) → replicas k r ≡ Some x → IsSomeAnd (entry_of k R.entries) (λ e. IsCompleteOn e r)
  pub reserves : (k r n : ℕ) → reserved k r ≡ Some n → IsSomeAnd (entry_of k R.entries) (λ e. IsIncomplete e r)

abbrev pub IsBare : Machine → Type 0
IsBare m = IsBareIn m.cluster m.replicas m.reserved

-- a node's replica of a checkpoint has an effect of the call
pub record Has (m : Machine) (k r : ℕ) (call : CallId) : Type 0 where
  pub replica : ReplicaState
  pub there : m.replicas k r ≡ Some replica
  pub effect : HasEffect call replica.effects

-- its snapshot has one
pub record HasCopied (m : Machine) (k : ℕ) (call : CallId) : Type 0 where
  pub snapshot : Snapshot
  pub there : m.snapshots k ≡ Some snapshot
  pub effect : HasEffect call snapshot.effects

-- a snapshot in the hand of a call has one
pub record HasInHand (m : Machine) (call : CallId) : Type 0 where
  pub name : Who
  pub state : CallState
  pub held : m.in_hand name ≡ Some state
  pub snapshot : Snapshot
  pub there : state.snapshot ≡ Some snapshot
  pub effect : HasEffect call snapshot.effects

-- what comes of m: bare, with no calls but those that m has, with no effects but those that m has and those that are new, and with no snapshot but those that m has
pub record FollowsIn (m : Machine) (IsNew : ℕ → CallId → Type 0) (R : RecordState) (replicas : ℕ → ℕ → Option ReplicaState) (reserved : ℕ → ℕ → Option ℕ) (snapshots : ℕ → Option Snapshot) (numbers : ActorName → ℕ) (hands : Who → Option CallState) : Type 0 where
  pub bare : IsBareIn R replicas reserved
  pub next : (a : ActorName) → numbers a ≡ m.next a
  pub in_hand : (w : Who) (z : CallState) → hands w ≡ Some z → m.in_hand w ≡ Some z
  pub effects : (k r : ℕ) (x : ReplicaState) (d : CallId) → replicas k r ≡ Some x → HasEffect d x.effects → Has m k r d ⊎ IsNew k d
  pub copies : (k : ℕ) (s : Snapshot) → snapshots k ≡ Some s → m.snapshots k ≡ Some s

abbrev pub ReplicasFollow : Machine → (ℕ → CallId → Type 0) → Machine → Type 0
ReplicasFollow m IsNew n = FollowsIn m IsNew n.cluster n.replicas n.reserved n.snapshots n.next n.in_hand

-- ---- one replica

-- a replica after a step of the record is of a complete node, and was there or is new
pub under : (o : Option Entry) (before r : ℕ) (old : Option ReplicaState) (x : ReplicaState) → replica_under o before r old ≡ Some x → IsSomeAnd o (λ e. IsCompleteOn e r) × ((old ≡ Some x) ⊎ (x.effects ≡ []))
under None before r old x is = absurd (cc is)
under (Some e) before r old x is =
    elim (slice_index e.complete r == 0) as (λ b. (slice_index e.complete r == 0) ≡ b → cond b None (cond (before == 0) (Some (opened_state e)) old) ≡ Some x → ((slice_index e.complete r == 0) ≡ false) × ((old ≡ Some x) ⊎ (x.effects ≡ []))) [
      | true ↦ λ none gone. absurd (cc gone)
      | false ↦ λ some there. (
        some,
        elim (before == 0) as (λ b. cond b (Some (opened_state e)) old ≡ Some x → (old ≡ Some x) ⊎ (x.effects ≡ [])) [
          | true ↦ λ new. (let same : opened_state e ≡ x = same_Some (opened_state e) x new in inr (ap (λ (y : ReplicaState). y.effects) (sym same)))
          | false ↦ λ same. inl same
        ] there,
      )
    ] refl is

-- a reservation after a step of the record is of a node that is not complete
pub reserved_under : (o : Option Entry) (r : ℕ) (old : Option ℕ) (n : ℕ) → reservation_under o r old ≡ Some n → IsSomeAnd o (λ e. IsIncomplete e r)
reserved_under None r old n is = absurd (cc is)
reserved_under (Some e) r old n is = elim (slice_index e.complete r == 0) as (λ b. cond b old None ≡ Some n → b ≡ true) [ true ↦ λ is. refl | false ↦ λ none. absurd (cc none) ] is

-- a snapshot after a step of the record is of a checkpoint that is there, and was there
pub snapshot_was : (o : Option Entry) (old : Option Snapshot) (s : Snapshot) → snapshot_under o old ≡ Some s → IsSomeAnd o (λ e. old ≡ Some s)
snapshot_was None old s is = absurd (cc is)
snapshot_was (Some e) old s is = is

-- one effect more is the new one, or was there
pub effect_more : (d : CallId) (xs : List Effect) (new : Effect) → HasEffect d (xs ++ new ∷ []) → HasEffect d xs ⊎ IsEffectOf d new
effect_more d [] new (inl is) = inr is
effect_more d [] new (inr none) = absurd none
effect_more d (x ∷ xs) new (inl is) = inl (inl is)
effect_more d (x ∷ xs) new (inr more) = elim (effect_more d xs new more) [ inl was ↦ inl (inr was) | inr is ↦ inr is ]

-- a commit takes the effect of what was staged
committed_effects : (o : Option Entry) (x : ReplicaState) (d : CallId) → HasEffect d (with_committed o x).effects → HasEffect d x.effects ⊎ ((slot : Staged) × (x.slot ≡ Some slot) × (slot.origin ≡ d))
committed_effects None x d has = inl has
committed_effects (Some e) x d has = by_slot x.slot refl has
  where
    by_slot : (o : Option Staged) → x.slot ≡ o → HasEffect d (committed_slot e.attributes x o).effects → HasEffect d x.effects ⊎ ((slot : Staged) × (x.slot ≡ Some slot) × (slot.origin ≡ d))
    by_slot None is has = inl has
    by_slot (Some slot) is has = elim (effect_more d x.effects (effect_of slot) has) [ inl was ↦ inl was | inr new ↦ inr (slot, is, new) ]

-- an update in one step takes the effect of its call
applied_effects : (o : Option Entry) (call : CallId) (update : Update) (t : ℤ) (x : ReplicaState) (d : CallId) → HasEffect d (with_applied call update t o x).effects → HasEffect d x.effects ⊎ (call ≡ d)
applied_effects None call update t x d has = inl has
applied_effects (Some e) call update t x d has = effect_more d x.effects (Applied call update t) has

-- an element of a weak write takes none
pub element_effects : (o : Option Entry) (x : ReplicaState) → (with_next_element o x).effects ≡ x.effects
element_effects None x = refl
element_effects (Some e) x = by_marks x.marks
  where
    by_marks : (marks : Option Marked) → (next_element_written e.attributes x marks).effects ≡ x.effects
    by_marks None = refl
    by_marks (Some marked) = refl

-- and its end takes the effect of the call of the marks
unmarked_effects : (x : ReplicaState) (d : CallId) → HasEffect d (without_marks x).effects → HasEffect d x.effects ⊎ ((marks : Marked) × (x.marks ≡ Some marks) × (marks.call ≡ d))
unmarked_effects x d has = by_marks x.marks refl has
  where
    by_marks : (o : Option Marked) → x.marks ≡ o → HasEffect d (marks_ended x o).effects → HasEffect d x.effects ⊎ ((marks : Marked) × (x.marks ≡ Some marks) × (marks.call ≡ d))
    by_marks None is has = inl has
    by_marks (Some marks) is has = elim (effect_more d x.effects (Applied marks.call marks.update marks.moment) has) [ inl was ↦ inl was | inr new ↦ inr (marks, is, new) ]

-- ---- the machine

module _ (m : Machine) (bare : IsBare m) (IsNew : ℕ → CallId → Type 0) where
  same_follows : ReplicasFollow m IsNew m
  same_follows = record { bare = bare; next = λ a. refl; in_hand = λ w z held. held; effects = λ k r x d there has. inl (record { replica = x; there = there; effect = has }); copies = λ k s is. is }

  -- a step of the record
  pub record_follows : (R : RecordState) → ReplicasFollow m IsNew (with_record m R)
  record_follows R = record {
    bare = record {
      complete = λ k r x is. (came k r x is).0;
      reserves = λ k r n is. reserved_under (entry_of k R.entries) r (m.reserved k r) n is;
    };
    next = λ a. refl;
    in_hand = λ w z held. held;
    effects = λ k r x d is has. elim (came k r x is).1 [
      | inl was ↦ inl (record { replica = x; there = was; effect = has })
      | inr new ↦ absurd (subst (HasEffect d) new has)
    ];
    copies = λ k s is. (IsSomeAnd-at (entry_of k R.entries) (λ e. m.snapshots k ≡ Some s) (snapshot_was (entry_of k R.entries) (m.snapshots k) s is)).2;
  }
    where
      came : (k r : ℕ) (x : ReplicaState) → (with_record m R).replicas k r ≡ Some x → IsSomeAnd (entry_of k R.entries) (λ e. IsCompleteOn e r) × ((m.replicas k r ≡ Some x) ⊎ (x.effects ≡ []))
      came k r x is = under (entry_of k R.entries) (slice_index (complete_of (entry_of k m.cluster.entries)) r) r (m.replicas k r) x is

  step_follows : (step : RecordState → RecordState) → ReplicasFollow m IsNew (record_step step m)
  step_follows step = record_follows (swept (step m.cluster))

  making_follows : (k : Option ℕ) → ReplicasFollow m IsNew (without_making k m)
  making_follows None = same_follows
  making_follows (Some k) = step_follows (undone k)

  -- one replica changed behind it
  pub then_follows : (b : Machine) → ReplicasFollow m IsNew b → (k r : ℕ) (x y : ReplicaState) → b.replicas k r ≡ Some x → ((d : CallId) → HasEffect d y.effects → HasEffect d x.effects ⊎ IsNew k d) → ReplicasFollow m IsNew (record b { replicas = put2 b.replicas k r (Some y) })
  then_follows b follows k r x y there more = record {
    bare = record {
      complete = λ j q z is. by_place j q z (λ j q z. IsSomeAnd (entry_of j b.cluster.entries) (λ e. IsCompleteOn e q)) (follows.bare.complete k r x there) (follows.bare.complete j q z) is;
      reserves = follows.bare.reserves;
    };
    next = follows.next;
    in_hand = follows.in_hand;
    effects = λ j q z d is. by_place j q z (λ j q z. HasEffect d z.effects → Has m j q d ⊎ IsNew j d)
        (λ has. elim (more d has) [ inl was ↦ follows.effects k r x d there was | inr new ↦ inr new ])
        (λ was has. follows.effects j q z d was has) is;
    copies = follows.copies;
  }
    where
      by_place : (j q : ℕ) (z : ReplicaState) (P : ℕ → ℕ → ReplicaState → Type 0) → P k r y → (b.replicas j q ≡ Some z → P j q z) → put2 b.replicas k r (Some y) j q ≡ Some z → P j q z
      by_place j q z P here other is = elim ((j == k) && (q == r)) as (λ t. ((j == k) && (q == r)) ≡ t → cond t (Some y) (b.replicas j q) ≡ Some z → P j q z) [
        | true ↦ λ at some.
            let (ckpt, node) = and_parts (j == k) (q == r) at in
            let k_is : k ≡ j = sym (eqb-true j k ckpt) in
            let r_is : r ≡ q = sym (eqb-true q r node) in
            subst (λ q. P j q z) r_is (subst (λ j. P j r z) k_is (subst (P k r) (same_Some y z some) here))
        | false ↦ λ at some. other some
      ] refl is

  -- or in the state itself
  pub replica_follows : (k r : ℕ) (x y : ReplicaState) → m.replicas k r ≡ Some x → ((d : CallId) → HasEffect d y.effects → HasEffect d x.effects ⊎ IsNew k d) → ReplicasFollow m IsNew (record m { replicas = put2 m.replicas k r (Some y) })
  replica_follows k r x y there more = then_follows m same_follows k r x y there more

  changed_replica : (k r : ℕ) (o : Option ReplicaState) → m.replicas k r ≡ o → (change : ReplicaState → ReplicaState) → ((x : ReplicaState) (d : CallId) → m.replicas k r ≡ Some x → HasEffect d (change x).effects → HasEffect d x.effects ⊎ IsNew k d) → ReplicasFollow m IsNew (change_replica m k r o change)
  changed_replica k r None there change more = same_follows
  changed_replica k r (Some x) there change more = replica_follows k r x (change x) there (λ d. more x d there)

  -- some calls are in hand no more
  dropped_follows : (n : Machine) (drops : Who → Bool) → ReplicasFollow m IsNew n → ReplicasFollow m IsNew (record n { in_hand = λ w. if drops w then None else n.in_hand w })
  dropped_follows n drops follows = record { bare = follows.bare; next = follows.next; in_hand = λ w z held. follows.in_hand w z (left_was (drops w) (n.in_hand w) z held); effects = follows.effects; copies = follows.copies }

  -- a handle ends, with the synchronisations over it
  closed_follows : (s : CallState) (n : Machine) → ReplicasFollow m IsNew n → ReplicasFollow m IsNew (with_closed s n)
  closed_follows s n follows = dropped_follows n (goes_with (handle_closed (asked s.op) (n.tables s.call.actor)) s.call.actor (n.pending s.call.actor)) follows

  -- what is done on OK alone, and at a checkpoint and a node that are named
  ok_follows : (reply : StepReply) (n : Machine) → ReplicasFollow m IsNew n → ReplicasFollow m IsNew (on_ok reply m n)
  ok_follows words.Ok n follows = follows
  ok_follows reply n follows = same_follows

  look_follows : (reply : StepReply) (done refused : Machine) → ReplicasFollow m IsNew done → ReplicasFollow m IsNew refused → ReplicasFollow m IsNew (on_look reply m done refused)
  look_follows words.Done done refused after_done after_refused = after_done
  look_follows words.Refused done refused after_done after_refused = after_refused
  look_follows reply done refused after_done after_refused = same_follows

  one_follows : (n : Option ℕ) (change : ℕ → Machine) → ((n : ℕ) → ReplicasFollow m IsNew (change n)) → ReplicasFollow m IsNew (at_some n m change)
  one_follows None change each = same_follows
  one_follows (Some n) change each = each n

  both_follow : (k r : Option ℕ) (change : ℕ → ℕ → Machine) → ((k r : ℕ) → ReplicasFollow m IsNew (change k r)) → ReplicasFollow m IsNew (at_some k m (λ k. at_some r m (change k)))
  both_follow k r change each = one_follows k _ (λ k. one_follows r (change k) (each k))

  -- a reservation
  reserve_follows : (k r n : ℕ) → IsSomeAnd (entry_of k m.cluster.entries) (λ e. IsIncomplete e r) → ReplicasFollow m IsNew (record m { reserved = put2 m.reserved k r (Some n) })
  reserve_follows k r n there = record {
    bare = record { complete = bare.complete; reserves = reserves };
    next = λ a. refl;
    in_hand = λ w z held. held;
    effects = λ j q x d is has. inl (record { replica = x; there = is; effect = has });
    copies = λ j z is. is;
  }
    where
      reserves : (j q i : ℕ) → put2 m.reserved k r (Some n) j q ≡ Some i → IsSomeAnd (entry_of j m.cluster.entries) (λ e. IsIncomplete e q)
      reserves j q i is = elim ((j == k) && (q == r)) as (λ b. ((j == k) && (q == r)) ≡ b → cond b (Some n) (m.reserved j q) ≡ Some i → IsSomeAnd (entry_of j m.cluster.entries) (λ e. IsIncomplete e q)) [
        | true ↦ λ at some.
            let (ckpt, node) = and_parts (j == k) (q == r) at in
            let k_is : k ≡ j = sym (eqb-true j k ckpt) in
            let r_is : r ≡ q = sym (eqb-true q r node) in
            subst (λ q. IsSomeAnd (entry_of j m.cluster.entries) (λ e. IsIncomplete e q)) r_is (subst (λ j. IsSomeAnd (entry_of j m.cluster.entries) (λ e. IsIncomplete e r)) k_is there)
        | false ↦ λ at some. bare.reserves j q i some
      ] refl is

  -- what a step of a call needs of its row: a node that reserves is not complete, the new effects of a commit are of the origins of what is staged there, that of an update in one step is of the call, that of the end of a weak write is of the call of the marks, and those of an installation, of a node that leads, and of one that is complete from then on, are the ones of the snapshot in hand
  abbrev pub StepNeeds : CallState → Verb → Option ℕ → Option ℕ → StepReply → Type 0
  StepNeeds s verbs.Reserve (Some k) (Some r) words.Ok = IsSomeAnd (entry_of k m.cluster.entries) (λ e. IsIncomplete e r)
  StepNeeds s verbs.Commit (Some k) (Some r) words.Ok = (x : ReplicaState) (slot : Staged) → m.replicas k r ≡ Some x → x.slot ≡ Some slot → IsNew k slot.origin
  StepNeeds s verbs.Apply (Some k) (Some r) words.Ok = IsNew k s.call
  StepNeeds s verbs.Unmark (Some k) (Some r) words.Ok = (x : ReplicaState) (marks : Marked) → m.replicas k r ≡ Some x → x.marks ≡ Some marks → IsNew k marks.call
  StepNeeds s verbs.Install (Some k) (Some r) words.Ok = (pulled : Snapshot) (d : CallId) → s.snapshot ≡ Some pulled → HasEffect d pulled.effects → IsNew k d
  StepNeeds s verbs.Activate (Some k) (Some r) words.Ok = (copy : Snapshot) (d : CallId) → s.snapshot ≡ Some copy → HasEffect d copy.effects → IsNew k d
  StepNeeds s verbs.Complete (Some k) (Some r) words.Ok =
      ((e : Entry) → entry_of k (swept (completed k r m.cluster)).entries ≡ Some e → IsCompleteOn e r)
      × ((copy : Snapshot) (d : CallId) → s.snapshot ≡ Some copy → HasEffect d copy.effects → IsNew k d)
  StepNeeds s verb k r reply = Unit {0}

  reserved_follows : (s : CallState) (k r : Option ℕ) (reply : StepReply) → StepNeeds s verbs.Reserve k r reply → ReplicasFollow m IsNew (on_ok reply m (at_some k m (λ k. at_some r m (λ r. record m { reserved = put2 m.reserved k r (Some (slice_index m.cluster.up r)) }))))
  reserved_follows s (Some k) (Some r) words.Ok there = reserve_follows k r (slice_index m.cluster.up r) there
  reserved_follows s (Some k) None words.Ok there = same_follows
  reserved_follows s None r words.Ok there = same_follows
  reserved_follows s k r reply there = same_follows

  commit_follows : (s : CallState) (k r : Option ℕ) (reply : StepReply) → StepNeeds s verbs.Commit k r reply → ReplicasFollow m IsNew (on_ok reply m (at_some k m (λ k. at_some r m (λ r. change_replica m k r (m.replicas k r) (with_committed (entry_of k m.cluster.entries))))))
  commit_follows s (Some k) (Some r) words.Ok new =
      changed_replica k r (m.replicas k r) refl (with_committed (entry_of k m.cluster.entries))
      (λ x d there has. elim (committed_effects (entry_of k m.cluster.entries) x d has) [
        | inl was ↦ inl was
        | inr by ↦ (let (slot, is, origin) = by in inr (subst (IsNew k) origin (new x slot there is)))
      ])
  commit_follows s (Some k) None words.Ok new = same_follows
  commit_follows s None r words.Ok new = same_follows
  commit_follows s k r reply new = same_follows

  apply_follows : (s : CallState) (update : Update) (t : ℤ) (k r : Option ℕ) (reply : StepReply) → StepNeeds s verbs.Apply k r reply → ReplicasFollow m IsNew (on_ok reply m (at_some k m (λ k. at_some r m (λ r. change_replica m k r (m.replicas k r) (with_applied s.call update t (entry_of k m.cluster.entries))))))
  apply_follows s update t (Some k) (Some r) words.Ok new =
      changed_replica k r (m.replicas k r) refl (with_applied s.call update t (entry_of k m.cluster.entries))
      (λ x d there has. elim (applied_effects (entry_of k m.cluster.entries) s.call update t x d has) [
        | inl was ↦ inl was
        | inr by ↦ inr (subst (IsNew k) by new)
      ])
  apply_follows s update t (Some k) None words.Ok new = same_follows
  apply_follows s update t None r words.Ok new = same_follows
  apply_follows s update t k r reply new = same_follows

  unmark_follows : (s : CallState) (k r : Option ℕ) (reply : StepReply) → StepNeeds s verbs.Unmark k r reply → ReplicasFollow m IsNew (on_ok reply m (at_some k m (λ k. at_some r m (λ r. change_replica m k r (m.replicas k r) without_marks))))
  unmark_follows s (Some k) (Some r) words.Ok new =
      changed_replica k r (m.replicas k r) refl without_marks
      (λ x d there has. elim (unmarked_effects x d has) [
        | inl was ↦ inl was
        | inr by ↦ (let (marks, is, own) = by in inr (subst (IsNew k) own (new x marks there is)))
      ])
  unmark_follows s (Some k) None words.Ok new = same_follows
  unmark_follows s None r words.Ok new = same_follows
  unmark_follows s k r reply new = same_follows

  installed_effects : (o : Option Snapshot) (x : ReplicaState) (d : CallId) → HasEffect d (with_installed o x).effects → HasEffect d x.effects ⊎ IsSomeAnd o (λ p. HasEffect d p.effects)
  installed_effects None x d has = inl has
  installed_effects (Some p) x d has = inr has

  install_follows : (s : CallState) (k r : Option ℕ) (reply : StepReply) → StepNeeds s verbs.Install k r reply → ReplicasFollow m IsNew (on_ok reply m (at_some k m (λ k. at_some r m (λ r. change_replica m k r (m.replicas k r) (with_installed s.snapshot)))))
  install_follows s (Some k) (Some r) words.Ok new =
      changed_replica k r (m.replicas k r) refl (with_installed s.snapshot)
      (λ x d there has. elim (installed_effects s.snapshot x d has) [
        | inl was ↦ inl was
        | inr of_it ↦ (let (p, is, effect) = IsSomeAnd-at s.snapshot (λ p. HasEffect d p.effects) of_it in inr (new p d is effect))
      ])
  install_follows s (Some k) None words.Ok new = same_follows
  install_follows s None r words.Ok new = same_follows
  install_follows s k r reply new = same_follows

  led_effects : (o : Option Snapshot) (generation : ℕ) (x : ReplicaState) (d : CallId) → HasEffect d (with_lead o generation x).effects → HasEffect d x.effects ⊎ IsSomeAnd o (λ p. HasEffect d p.effects)
  led_effects None generation x d has = inl has
  led_effects (Some p) generation x d has = inr has

  -- the replica of a node leads, behind a step of the record
  led_behind : (s : CallState) (k r generation : ℕ) (b : Machine) → ReplicasFollow m IsNew b → ((copy : Snapshot) (d : CallId) → s.snapshot ≡ Some copy → HasEffect d copy.effects → IsNew k d) → (o : Option ReplicaState) → b.replicas k r ≡ o → ReplicasFollow m IsNew (change_replica b k r o (with_lead s.snapshot generation))
  led_behind s k r generation b follows new None there = follows
  led_behind s k r generation b follows new (Some x) there = then_follows b follows k r x (with_lead s.snapshot generation x) there (λ d has. elim (led_effects s.snapshot generation x d has) [
    | inl was ↦ inl was
    | inr of_it ↦ (let (p, is, effect) = IsSomeAnd-at s.snapshot (λ p. HasEffect d p.effects) of_it in inr (new p d is effect))
  ])

  activate_follows : (s : CallState) (k r : Option ℕ) (reply : StepReply) → StepNeeds s verbs.Activate k r reply → ReplicasFollow m IsNew (on_ok reply m (at_some k m (λ k. at_some r m (λ r. led_from s.snapshot k r (record_step (active_set k r) m)))))
  activate_follows s (Some k) (Some r) words.Ok new =
      let b = record_step (active_set k r) m in
      led_behind s k r (generation_in (entry_of k b.cluster.entries)) b (step_follows (active_set k r)) new (b.replicas k r) refl
  activate_follows s (Some k) None words.Ok new = same_follows
  activate_follows s None r words.Ok new = same_follows
  activate_follows s k r reply new = same_follows

  -- a replica put behind it, which is of a complete node, and whose effects are new
  put_behind : (b : Machine) → ReplicasFollow m IsNew b → (k r : ℕ) (o : Option ReplicaState) → IfSome o (λ y. IsSomeAnd (entry_of k b.cluster.entries) (λ e. IsCompleteOn e r) × ((d : CallId) → HasEffect d y.effects → IsNew k d)) → ReplicasFollow m IsNew (record b { replicas = put2 b.replicas k r o })
  put_behind b follows k r o is = record {
    bare = record { complete = λ j q z here. by_place j q z (λ j q z. IsSomeAnd (entry_of j b.cluster.entries) (λ e. IsCompleteOn e q)) (λ y at. (IfSome-at o _ is y at).0) (follows.bare.complete j q z) here; reserves = follows.bare.reserves };
    next = follows.next;
    in_hand = follows.in_hand;
    effects = λ j q z d here. by_place j q z (λ j q z. HasEffect d z.effects → Has m j q d ⊎ IsNew j d) (λ y at has. inr ((IfSome-at o _ is y at).1 d has)) (λ was has. follows.effects j q z d was has) here;
    copies = follows.copies;
  }
    where
      by_place : (j q : ℕ) (z : ReplicaState) (P : ℕ → ℕ → ReplicaState → Type 0) → ((y : ReplicaState) → o ≡ Some y → P k r y) → (b.replicas j q ≡ Some z → P j q z) → put2 b.replicas k r o j q ≡ Some z → P j q z
      by_place j q z P here other is = elim ((j == k) && (q == r)) as (λ t. ((j == k) && (q == r)) ≡ t → cond t o (b.replicas j q) ≡ Some z → P j q z) [
        | true ↦ λ at some.
            let (ckpt, node) = and_parts (j == k) (q == r) at in
            let k_is : k ≡ j = sym (eqb-true j k ckpt) in
            let r_is : r ≡ q = sym (eqb-true q r node) in
            subst (λ q. P j q z) r_is (subst (λ j. P j r z) k_is (here z some))
        | false ↦ λ at some. other some
      ] refl is

  -- a node that is complete from then on has what the call has in hand
  copied_is : (call : CallId) (t : ℤ) (f : Option Entry) (s : Option Snapshot) (k r : ℕ) → ((e : Entry) → f ≡ Some e → IsCompleteOn e r) → ((copy : Snapshot) (d : CallId) → s ≡ Some copy → HasEffect d copy.effects → IsNew k d)
      → IfSome (replica_copied call t f s) (λ y. IsSomeAnd f (λ e. IsCompleteOn e r) × ((d : CallId) → HasEffect d y.effects → IsNew k d))
  copied_is call t None s k r complete new = tt
  copied_is call t (Some e) None k r complete new = tt
  copied_is call t (Some e) (Some copy) k r complete new = (complete e refl, λ d has. new copy d refl has)

  complete_follows : (s : CallState) (k r : Option ℕ) (reply : StepReply) → StepNeeds s verbs.Complete k r reply → ReplicasFollow m IsNew (changed m s verbs.Complete k r reply)
  complete_follows s (Some k) (Some r) words.Ok needs =
      let b = record_step (completed k r) m in
      put_behind b (step_follows (completed k r)) k r (replica_copied s.call (staged_moment m k) (entry_of k b.cluster.entries) s.snapshot)
      (copied_is s.call (staged_moment m k) (entry_of k b.cluster.entries) s.snapshot k r needs.0 needs.1)
  complete_follows s (Some k) None words.Ok needs = same_follows
  complete_follows s None r words.Ok needs = same_follows
  complete_follows s k r reply needs = same_follows

  -- any step
  pub changed_follows : (s : CallState) (verb : Verb) (k r : Option ℕ) (reply : StepReply) → StepNeeds s verb k r reply → ReplicasFollow m IsNew (changed m s verb k r reply)
  changed_follows s verbs.Enter k r reply new = ok_follows reply _ (one_follows r _ (λ r. step_follows (entered (client_of s.call) r s.call.number)))
  changed_follows s verbs.Open k r reply new = ok_follows reply _ (one_follows k _ (λ k. step_follows (opened k (client_of s.call))))
  changed_follows s verbs.Create k r reply new = ok_follows reply _ (step_follows (created_for s.call (asked s.op)))
  changed_follows s verbs.Reserve k r reply new = reserved_follows s k r reply new
  changed_follows s verbs.Finish k r reply new = ok_follows reply _ (one_follows k _ (λ k. step_follows (finished k (client_of s.call))))
  changed_follows s verbs.Undo k r reply new = ok_follows reply _ (one_follows k _ (λ k. step_follows (undone k)))
  changed_follows s verbs.Stage k r reply new = ok_follows reply _ (both_follow k r _ (λ k r. changed_replica k r (m.replicas k r) refl (with_slot s.call (update_of s.op) (staged_moment m k)) (λ x d there has. inl has)))
  changed_follows s verbs.Claim k r reply new = ok_follows reply _ (both_follow k r _ (λ k r. changed_replica k r (m.replicas k r) refl (with_claim s.call) (λ x d there has. inl has)))
  changed_follows s verbs.Withdraw k r reply new = ok_follows reply _ (both_follow k r _ (λ k r. changed_replica k r (m.replicas k r) refl without_slot (λ x d there has. inl has)))
  changed_follows s verbs.Commit k r reply new = commit_follows s k r reply new
  changed_follows s verbs.Apply k r reply new = apply_follows s (update_of s.op) m.cluster.moment k r reply new
  changed_follows s verbs.Mark k r reply new = ok_follows reply _ (both_follow k r _ (λ k r. changed_replica k r (m.replicas k r) refl (with_marks s.call (update_of s.op) m.cluster.moment) (λ x d there has. inl has)))
  changed_follows s verbs.Element k r reply new = ok_follows reply _ (both_follow k r _ (λ k r. changed_replica k r (m.replicas k r) refl _ (λ x d there has. inl (subst (HasEffect d) (element_effects (entry_of k m.cluster.entries) x) has))))
  changed_follows s verbs.Unmark k r reply new = unmark_follows s k r reply new
  changed_follows s verbs.Install k r reply new = install_follows s k r reply new
  changed_follows s verbs.Iter k r reply new = ok_follows reply _ (both_follow k r _ (λ k r. same_follows))
  changed_follows s verbs.Next k r reply new = ok_follows reply _ (both_follow k r _ (λ k r. same_follows))
  changed_follows s verbs.Leave k r reply new = ok_follows reply _ (dropped_follows (record_step (departed (client_of s.call)) m) (is_of s.call.actor) (step_follows (departed (client_of s.call))))
  changed_follows s verbs.Close k r reply new = ok_follows reply _ (one_follows k _ (λ k. closed_follows s (record_step (closed k (client_of s.call)) m) (step_follows (closed k (client_of s.call)))))
  changed_follows s verbs.Unlink k r reply new = ok_follows reply _ (one_follows k _ (λ k. step_follows (unlinked k)))
  changed_follows s verbs.Retain k r reply new = ok_follows reply _ (one_follows k _ (λ k. step_follows (retained_for (asked s.op) k)))
  changed_follows s verbs.Hold k r reply new = ok_follows reply _ (one_follows k _ (λ k. step_follows (hold_set k s.call)))
  changed_follows s verbs.Activate k r reply new = activate_follows s k r reply new
  changed_follows s verbs.Complete k r reply new = complete_follows s k r reply new
  changed_follows s verbs.Look k r reply new = look_follows reply _ _ (closed_follows s m same_follows) (making_follows (making_of s.call m.cluster))
  changed_follows s verb k r reply new = same_follows
