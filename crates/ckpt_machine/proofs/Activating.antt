-- What the setting of an active leaves: either each checkpoint that is made stays as it was made, and no replica changes; or a node leads one that did not, of a generation that was not before, with what the active had, if there was one.
use Rattle.std.proofs.Common.{◌≡◌, ◌⊎◌, ℕ, ◌+◌, inl, inr, List, Option, Some, None, Bool, true, false, cond, not, ◌&&◌, ◌==◌, refl, sym, ap, subst, ◌∙◌, arith}
use Rattle.std.specs.Prelude.{IsSome, slice_index}
use Rattle.std.proofs.lemmas.Bool.{eqb-true, eqb-false, ne_eqb, and_parts}
use Rattle.std.proofs.lemmas.Option.{same_Some}
use Rattle.ckpt_types.specs.declared.answers.Outcome.{Outcome}
use Rattle.ckpt_types.specs.declared.identities.CallId.{CallId}
use Rattle.node_msgs.specs.declared.steps.StepReply.{StepReply}
use Rattle.node_msgs.specs.declared.steps.StepReply.TheVariants as words
use Rattle.node_msgs.specs.declared.steps.Verb.TheVariants as verbs
use Rattle.cluster_record.specs.declared.entries.Entry.{Entry}
use Rattle.cluster_record.specs.Identities.{IdentitiesRise}
use Rattle.cluster_record.specs.Placement.{is_collocated}
use Rattle.cluster_record.specs.Places.{put2}
use Rattle.cluster_record.specs.RecordState.{RecordState, entry_of, identity_of, complete_of, stays, swept, can_lead, generation_under, with_active, active_set}
use Rattle.cluster_record.specs.StepDone.{generation_in}
use Rattle.cluster_record.proofs.IdentityLaws.{IdentitiesRise-change_key, IdentitiesRise-filter}
use Rattle.ckpt_machine.specs.Guards.{IsOnOwn, Row}
use Rattle.ckpt_machine.specs.ActiveGuards.{MayLead, ActivateOk}
use Rattle.ckpt_machine.specs.Invariant.{Invariant}
use Rattle.ckpt_machine.specs.Listing.{is_active}
use Rattle.ckpt_machine.specs.Machine.{Machine, ReplicaState, CallState, who}
use Rattle.ckpt_machine.specs.Propagation.{copied}
use Rattle.ckpt_machine.specs.Shape.{IsCompleteOn}
use Rattle.ckpt_machine.specs.After.{with_record, record_step, change_replica, with_lead, led_from, changed, replica_under, opened_state}
use Rattle.ckpt_machine.specs.Due.{Told}
use Rattle.ckpt_machine.proofs.Copying.{put2-cases}
use Rattle.ckpt_machine.proofs.Entries.{ComesOf-filter}
use Rattle.ckpt_machine.proofs.EntryLists.{find_key-change_key}
use Rattle.ckpt_machine.proofs.Follows.{IsBare, under}
use Rattle.ckpt_machine.proofs.Generations.{generation_there}
use Rattle.ckpt_machine.proofs.HeldIn.{IsCopyOfActive, IsHeldIn, held_in}
use Rattle.ckpt_machine.proofs.OptionLemmas.{IsSomeAnd-at}
use Rattle.ckpt_machine.proofs.Propagated.{complete_there}
pub use Rattle.ckpt_machine.proofs.ShapedReplicas.{made_where_complete}
use Rattle.ckpt_machine.proofs.StaysMade.{StaysMade, StaysMade-same, StaysMade-kept, GoesOnMade, GoesOnMade-same, MadeOn}

-- ---- an entry

-- the entry of a checkpoint that this node leads anew
abbrev pub led_by : ℕ → Entry → Entry
led_by r e = record e { active = Some r; generation = e.generation + 1; hold = None }

-- a checkpoint goes on made where a node leads it anew
pub led_goes : (r : ℕ) (e : Entry) → GoesOnMade e (led_by r e)
led_goes r e = record {
  made = λ made. record { made = made; generation = omega arith; active = λ same. (let still : e.generation + 1 ≡ e.generation = same in absurd (omega (arith, still))) };
  attributes = refl;
  since = refl;
}

-- what does not depend on the active stays where it is set
active-same : {X : Type 0} (part : Entry → X) (r : ℕ) (e : Entry) → part (record e { active = Some r; generation = generation_under r e; hold = None }) ≡ part e → part (with_active r e) ≡ part e
active-same part r e same = elim (can_lead r e) as (λ b. part (cond b (record e { active = Some r; generation = generation_under r e; hold = None }) e) ≡ part e) [ true ↦ same | false ↦ refl ]

-- a node that can't lead leaves the entry as it is
unled_same : (r : ℕ) (e : Entry) → can_lead r e ≡ false → with_active r e ≡ e
unled_same r e can = ap (λ b. cond b (record e { active = Some r; generation = generation_under r e; hold = None }) e) can

-- the entry where a node can lead
led_same : (r : ℕ) (e : Entry) → can_lead r e ≡ true → with_active r e ≡ record e { active = Some r; generation = generation_under r e; hold = None }
led_same r e can = ap (λ b. cond b (record e { active = Some r; generation = generation_under r e; hold = None }) e) can

-- the generation where the node is the active already
generation_still : (r q : ℕ) (e : Entry) → e.active ≡ Some q → (q == r) ≡ true → generation_under r e ≡ e.generation
generation_still r q e active is = ap (λ o. generation_under r (record e { active = o })) active ∙ ap (λ b. cond b e.generation (e.generation + 1)) is

-- the generation where it is not
generation_next : (r : ℕ) (e : Entry) → is_active e.active r ≡ false → generation_under r e ≡ e.generation + 1
generation_next r e other = by_active e.active refl other
  where
    by_active : (o : Option ℕ) → e.active ≡ o → is_active o r ≡ false → generation_under r e ≡ e.generation + 1
    by_active None none other = ap (λ o. generation_under r (record e { active = o })) none
    by_active (Some q) active other = ap (λ o. generation_under r (record e { active = o })) active ∙ ap (λ b. cond b e.generation (e.generation + 1)) other

-- ---- the record

-- the replica of a node that was complete, behind a step that leaves the nodes as they are
same_nodes : (e f : Entry) (q : ℕ) (old : Option ReplicaState) (z : ReplicaState) → f.complete ≡ e.complete → replica_under (Some f) (slice_index e.complete q) q old ≡ Some z → old ≡ Some z
same_nodes e f q old z nodes is = elim (slice_index e.complete q == 0) as (λ b. cond b None (cond b (Some (opened_state f)) old) ≡ Some z → old ≡ Some z) [ true ↦ λ none. absurd (cc none) | false ↦ λ there. there ]
    (subst (λ (cs : List ℕ). cond (slice_index cs q == 0) None (cond (slice_index e.complete q == 0) (Some (opened_state f)) old) ≡ Some z) nodes is)

-- which stays there
nodes_stay : (e f : Entry) (q : ℕ) (old : Option ReplicaState) → f.complete ≡ e.complete → IsCompleteOn e q → replica_under (Some f) (slice_index e.complete q) q old ≡ old
nodes_stay e f q old nodes complete = ap (λ (cs : List ℕ). cond (slice_index cs q == 0) None (cond (slice_index e.complete q == 0) (Some (opened_state f)) old)) nodes ∙ ap (λ b. cond b None (cond b (Some (opened_state f)) old)) complete

module _ (m : Machine) (rises : IdentitiesRise m.cluster.entries) (k r : ℕ) (e : Entry) (found : entry_of k m.cluster.entries ≡ Some e) where
  -- the record where the active is set
  abbrev with_set : RecordState
  with_set = swept (active_set k r m.cluster)

  -- identities rise still
  rises_set : IdentitiesRise (active_set k r m.cluster).entries
  rises_set = IdentitiesRise-change_key (with_active r) (λ e. active-same (λ (e : Entry). e.identity) r e refl) k m.cluster.entries rises

  -- an entry that is found then is that of the checkpoint, with its active set, or is as it was
  pub found_set : (j : ℕ) (f : Entry) → entry_of j with_set.entries ≡ Some f → ((j ≡ k) × (f ≡ with_active r e)) ⊎ (((j ≡ k) → ⊥) × (entry_of j m.cluster.entries ≡ Some f))
  found_set j f there =
      let (g, between, same) = ComesOf-filter (λ e f. e ≡ f) (λ e. refl) (stays m.cluster.moment) (active_set k r m.cluster).entries rises_set j f there in
      elim (j == k) as (λ b. (j == k) ≡ b → cond b (Some (with_active r e)) (entry_of j m.cluster.entries) ≡ Some f → ((j ≡ k) × (f ≡ with_active r e)) ⊎ (((j ≡ k) → ⊥) × (entry_of j m.cluster.entries ≡ Some f))) [
        | true ↦ λ is here. inl (eqb-true j k is, sym (same_Some (with_active r e) f here))
        | false ↦ λ is was. inr (eqb-false j k is, was)
      ] refl (sym (find_key-change_key identity_of k j (with_active r) (λ e. active-same (λ (e : Entry). e.identity) r e refl) m.cluster.entries e found) ∙ between ∙ ap Some same)

  -- it was there, on the same nodes
  nodes_were : (j : ℕ) (f : Entry) → entry_of j with_set.entries ≡ Some f → (x : Entry) × (entry_of j m.cluster.entries ≡ Some x) × (f.complete ≡ x.complete)
  nodes_were j f there = elim (found_set j f there) [
    | inl here ↦ (e, ap (λ j. entry_of j m.cluster.entries) here.0 ∙ found, ap (λ (e : Entry). e.complete) here.1 ∙ active-same (λ (e : Entry). e.complete) r e refl)
    | inr was ↦ (f, was.1, refl)
  ]

  -- a replica that is there then was there
  pub replica_was : (j q : ℕ) (z : ReplicaState) → (with_record m with_set).replicas j q ≡ Some z → m.replicas j q ≡ Some z
  replica_was j q z is = by_entry (entry_of j with_set.entries) refl is
    where
      by_entry : (o : Option Entry) → entry_of j with_set.entries ≡ o → replica_under o (slice_index (complete_of (entry_of j m.cluster.entries)) q) q (m.replicas j q) ≡ Some z → m.replicas j q ≡ Some z
      by_entry None gone none = absurd (cc none)
      by_entry (Some f) there at =
          let (x, was, nodes) = nodes_were j f there in
          same_nodes x f q (m.replicas j q) z nodes (subst (λ o. replica_under (Some f) (slice_index (complete_of o) q) q (m.replicas j q) ≡ Some z) was at)

  -- and is there still, where the checkpoint is
  pub replica_stays : IsBare m → (j q : ℕ) (f : Entry) (z : ReplicaState) → entry_of j with_set.entries ≡ Some f → m.replicas j q ≡ Some z → (with_record m with_set).replicas j q ≡ Some z
  replica_stays bare j q f z there at =
      let (x, was, nodes) = nodes_were j f there in
      let (y, is, complete) = IsSomeAnd-at (entry_of j m.cluster.entries) (λ e. IsCompleteOn e q) (bare.complete j q z at) in
      ap (λ o. replica_under o (slice_index (complete_of (entry_of j m.cluster.entries)) q) q (m.replicas j q)) there
      ∙ ap (λ o. replica_under (Some f) (slice_index (complete_of o) q) q (m.replicas j q)) was
      ∙ nodes_stay x f q (m.replicas j q) nodes (subst (λ e. IsCompleteOn e q) (same_Some y x (sym is ∙ was)) complete) ∙ at

  -- where what is found of the checkpoint stays as it was made, so does each
  set_made : ((f : Entry) → entry_of k with_set.entries ≡ Some f → StaysMade e f) → (j : ℕ) → MadeOn j m.cluster with_set
  set_made keeps j = record {
    last = omega arith;
    rises = IdentitiesRise-filter (stays m.cluster.moment) (active_set k r m.cluster).entries rises_set;
    made = λ f there. elim (found_set j f there) [
      | inl here ↦ (e, ap (λ j. entry_of j m.cluster.entries) here.0 ∙ found, keeps f (ap (λ j. entry_of j with_set.entries) (sym here.0) ∙ there))
      | inr was ↦ (f, was.1, StaysMade-same f)
    ];
  }

-- ---- a node that leads

-- a call sets a node that was not it as the active of a collocated checkpoint, of which it has a replica
pub record Leads (m : Machine) (s : CallState) (k r : ℕ) : Type 0 where
  pub held : m.in_hand (who s) ≡ Some s
  pub ckpt : s.kept.ckpt ≡ Some k
  pub entry : Entry
  pub found : entry_of k m.cluster.entries ≡ Some entry
  pub made : entry.making ≡ None
  pub collocated : is_collocated entry.attributes ≡ true
  pub complete : IsCompleteOn entry r
  pub other : is_active entry.active r ≡ false
  pub replica : ReplicaState
  pub there : m.replicas k r ≡ Some replica
  pub from : IsCopyOfActive m s k entry
  pub set : entry_of k (swept (active_set k r m.cluster)).entries ≡ Some (led_by r entry)

-- the replica that leads
abbrev pub leader : (m : Machine) (s : CallState) (k r : ℕ) → Leads m s k r → ReplicaState
leader m s k r lead = with_lead s.snapshot (lead.entry.generation + 1) lead.replica

-- the machine that this leaves
abbrev pub with_leader : (m : Machine) (s : CallState) (k r : ℕ) → Leads m s k r → Machine
with_leader m s k r lead = record (record_step (active_set k r) m) { replicas = put2 (record_step (active_set k r) m).replicas k r (Some (leader m s k r lead)) }

-- a replica there that is not the one that leads was there, on another place
pub leader-cases : (m : Machine) (inv : Invariant m) (s : CallState) (k r : ℕ) (lead : Leads m s k r) (j q : ℕ) (z : ReplicaState) → (with_leader m s k r lead).replicas j q ≡ Some z → ((k ≡ j) × (r ≡ q) × (leader m s k r lead ≡ z)) ⊎ ((m.replicas j q ≡ Some z) × ((k ≡ j) → (r ≡ q) → ⊥))
leader-cases m inv s k r lead j q z is = elim (put2-cases (record_step (active_set k r) m).replicas k r (leader m s k r lead) j q z is) [
  | inl here ↦ inl here
  | inr was ↦ inr (replica_was m inv.holds.rises k r lead.entry lead.found j q z was.0, was.1)
]

module _ (m : Machine) (inv : Invariant m) (s : CallState) (k r : ℕ) (lead : Leads m s k r) where
  -- an entry that is found then is that of the checkpoint, which the node leads, or is as it was
  pub found_led : (j : ℕ) (g : Entry) → entry_of j (with_leader m s k r lead).cluster.entries ≡ Some g → ((j ≡ k) × (g ≡ led_by r lead.entry)) ⊎ (((j ≡ k) → ⊥) × (entry_of j m.cluster.entries ≡ Some g))
  found_led j g there = elim (found_set m inv.holds.rises k r lead.entry lead.found j g there) [
    | inl here ↦ inl (here.0, same_Some g (led_by r lead.entry) (sym there ∙ ap (λ j. entry_of j (with_leader m s k r lead).cluster.entries) here.0 ∙ lead.set))
    | inr was ↦ inr was
  ]

  -- so it was there, and goes on made
  pub led_made : (j : ℕ) (g : Entry) → entry_of j (with_leader m s k r lead).cluster.entries ≡ Some g → (e : Entry) × (entry_of j m.cluster.entries ≡ Some e) × GoesOnMade e g
  led_made j g there = elim (found_led j g there) [
    | inl here ↦ (lead.entry, ap (λ j. entry_of j m.cluster.entries) here.0 ∙ lead.found, subst (GoesOnMade lead.entry) (sym here.1) (led_goes r lead.entry))
    | inr was ↦ (g, was.1, GoesOnMade-same g)
  ]

  -- a replica there is of a checkpoint that is there
  pub led_entry : (j q : ℕ) (z : ReplicaState) → (with_leader m s k r lead).replicas j q ≡ Some z → (g : Entry) × (entry_of j (with_leader m s k r lead).cluster.entries ≡ Some g)
  led_entry j q z is = elim (put2-cases (record_step (active_set k r) m).replicas k r (leader m s k r lead) j q z is) [
    | inl here ↦ (led_by r lead.entry, ap (λ j. entry_of j (with_leader m s k r lead).cluster.entries) (sym here.0) ∙ lead.set)
    | inr was ↦ (let (g, there, complete) = IsSomeAnd-at (entry_of j (swept (active_set k r m.cluster)).entries) (λ e. IsCompleteOn e q) (under (entry_of j (swept (active_set k r m.cluster)).entries) (slice_index (complete_of (entry_of j m.cluster.entries)) q) q (m.replicas j q) z was.0).0 in (g, there))
  ]

  -- a replica of another checkpoint stays where this is there
  pub others_stay : IsBare m → (j q : ℕ) (g : Entry) (z : ReplicaState) → ((j ≡ k) → ⊥) → entry_of j (with_leader m s k r lead).cluster.entries ≡ Some g → m.replicas j q ≡ Some z → (with_leader m s k r lead).replicas j q ≡ Some z
  others_stay bare j q g z other there at =
      ap (λ b. cond (b && (q == r)) (Some (leader m s k r lead)) ((record_step (active_set k r) m).replicas j q)) (ne_eqb j k other)
      ∙ replica_stays m inv.holds.rises k r lead.entry lead.found bare j q g z there at

-- ---- the step

-- what is put where it is changes nothing
put2-same : {X : Type 0} (f : ℕ → ℕ → Option X) (k r : ℕ) (x : X) → f k r ≡ Some x → put2 f k r (Some x) ≡ f
put2-same f k r x is = λ i j q. at j q i
  where
    at : (j q : ℕ) → put2 f k r (Some x) j q ≡ f j q
    at j q = elim ((j == k) && (q == r)) as (λ b. ((j == k) && (q == r)) ≡ b → cond b (Some x) (f j q) ≡ f j q) [
      | true ↦ λ here. (let (ckpt, node) = and_parts (j == k) (q == r) here in sym is ∙ (λ i. f (sym (eqb-true j k ckpt) i) (sym (eqb-true q r node) i)))
      | false ↦ λ other. refl
    ] refl

-- a replica that leads as it is stays as it is
leads_as_it_is : (m : Machine) (s : CallState) (k r : ℕ) (e : Entry) (x : ReplicaState) (g : ℕ) → g ≡ x.generation → e.active ≡ Some r → m.replicas k r ≡ Some x → (o : Option CallId) → IsHeldIn m k s e o → with_lead s.snapshot g x ≡ x
leads_as_it_is m s k r e x g same active there None empty = ap (λ o. with_lead o g x) empty ∙ (λ i. record x { generation = same i })
leads_as_it_is m s k r e x g same active there (Some holder) held = by_copy held.1
  where
    by_copy : IsCopyOfActive m s k e → with_lead s.snapshot g x ≡ x
    by_copy (inl none) = absurd (let w : None ≡ Some r = sym none ∙ active in cc w)
    by_copy (inr copy) =
        let node : r ≡ copy.node = same_Some r copy.node (sym active ∙ copy.active) in
        let own : copy.source ≡ x = same_Some copy.source x (sym copy.there ∙ ap (m.replicas k) (sym node) ∙ there) in
        ap (λ o. with_lead o g x) copy.in_hand ∙ ap (λ y. with_lead (Some (copied y)) g x) own ∙ (λ i. record x { generation = same i })

-- a node that was not the active leads with what is in hand, as it may
leads_from : (m : Machine) (s : CallState) (k r : ℕ) (e : Entry) (hold : Option CallId) (active : Option ℕ) → e.active ≡ active → is_active active r ≡ false → MayLead s.call r hold active → IsHeldIn m k s e hold → IsCopyOfActive m s k e
leads_from m s k r e None None none other may empty = inl none
leads_from m s k r e None (Some q) led other may empty = absurd (eqb-false q r other may)
leads_from m s k r e (Some holder) active is other may held = held.1

module _ (P : Machine → Type 0) (m : Machine) (inv : Invariant m) (bare : IsBare m) (s : CallState) (held : m.in_hand (who s) ≡ Some s) (k r : ℕ) (ckpt : s.kept.ckpt ≡ Some k) (made : ((j : ℕ) → MadeOn j m.cluster (swept (active_set k r m.cluster))) → P (record_step (active_set k r) m)) (leads : (lead : Leads m s k r) → P (with_leader m s k r lead))
    (end : Option Outcome) (e : Entry) (found : entry_of k m.cluster.entries ≡ Some e) (ok : ActivateOk s r end e) (hand : IsHeldIn m k s e e.hold) where
  -- the machine behind the step of the record
  abbrev n : Machine
  n = record_step (active_set k r) m

  -- the checkpoint stays as it was made where the entry that is found does
  stays_as : ((f : Entry) → entry_of k n.cluster.entries ≡ Some f → StaysMade e f) → P n
  stays_as keeps = made (set_made m inv.holds.rises k r e found keeps)

  -- what is found is the entry with its active set
  set_is : (f : Entry) → entry_of k n.cluster.entries ≡ Some f → f ≡ with_active r e
  set_is f there = elim (found_set m inv.holds.rises k r e found k f there) [ inl here ↦ here.1 | inr was ↦ absurd (was.0 refl) ]

  -- where it has no replica then, it can't lead
  without : n.replicas k r ≡ None → (f : Entry) → entry_of k n.cluster.entries ≡ Some f → StaysMade e f
  without gone f there = elim (can_lead r e) as (λ b. can_lead r e ≡ b → StaysMade e f) [
    | true ↦ λ can.
        let complete : IsCompleteOn e r = incomplete (slice_index e.complete r == 0) (and_parts (is_collocated e.attributes) (not (slice_index e.complete r == 0)) can).1 in
        absurd (by_replica (m.replicas k r) refl (complete_there m inv.shapes inv.holds k r e found complete))
    | false ↦ λ can. subst (StaysMade e) (sym (set_is f there ∙ unled_same r e can)) (StaysMade-same e)
  ] refl
    where
      incomplete : (b : Bool) → not b ≡ true → b ≡ false
      incomplete true none = absurd (cc none)
      incomplete false is = refl

      by_replica : (o : Option ReplicaState) → m.replicas k r ≡ o → IsSome o → ⊥
      by_replica None at none = cc none
      by_replica (Some x) at some = let w : Some x ≡ None = sym (replica_stays m inv.holds.rises k r e found bare k r f x there at) ∙ gone in cc w

  -- the replica that is there
  module _ (x : ReplicaState) (at : n.replicas k r ≡ Some x) where
    -- was there
    there : m.replicas k r ≡ Some x
    there = replica_was m inv.holds.rises k r e found k r x at

    -- its node is complete
    complete : IsCompleteOn e r
    complete = let (y, is, complete_at) = IsSomeAnd-at (entry_of k m.cluster.entries) (λ e. IsCompleteOn e r) (bare.complete k r x there) in subst (λ e. IsCompleteOn e r) (same_Some y e (sym is ∙ found)) complete_at

    -- so it can lead
    can : can_lead r e ≡ true
    can = ap (λ b. b && not (slice_index e.complete r == 0)) ok.collocated ∙ ap not complete

    -- the entry that is found then
    found_then : (f : Entry) × (entry_of k n.cluster.entries ≡ Some f)
    found_then = let (f, is, complete_at) = IsSomeAnd-at (entry_of k n.cluster.entries) (λ e. IsCompleteOn e r) (under (entry_of k n.cluster.entries) (slice_index (complete_of (entry_of k m.cluster.entries)) r) r (m.replicas k r) x at).0 in (f, is)

    -- a node that is the active already leads as it is
    as_it_is : (q : ℕ) → e.active ≡ Some q → (q == r) ≡ true → P (change_replica n k r (Some x) (with_lead s.snapshot (generation_in (entry_of k n.cluster.entries))))
    as_it_is q active node =
        let led : e.active ≡ Some r = active ∙ ap Some (eqb-true q r node) in
        let (f, is) = found_then in
        let set : f ≡ record e { active = Some r; generation = e.generation; hold = None } = set_is f is ∙ led_same r e can ∙ ap (λ g. record e { active = Some r; generation = g; hold = None }) (generation_still r q e active node) in
        let generation : generation_in (entry_of k n.cluster.entries) ≡ x.generation = ap generation_in is ∙ ap (λ (e : Entry). e.generation) set ∙ sym ((generation_there m inv k r e x found there).led led) in
        let same : with_lead s.snapshot (generation_in (entry_of k n.cluster.entries)) x ≡ x = leads_as_it_is m s k r e x (generation_in (entry_of k n.cluster.entries)) generation led there e.hold hand in
        let then : P n = stays_as (λ g there. subst (StaysMade e) (sym (same_Some g f (sym there ∙ is) ∙ set)) (StaysMade-kept e (record e { active = Some r; generation = e.generation; hold = None }) refl refl (sym led) refl refl refl)) in
        subst (λ f. P (record n { replicas = f })) (sym (ap (λ x. put2 n.replicas k r (Some x)) same ∙ put2-same n.replicas k r x at)) then

    -- one that is not it leads anew
    anew : is_active e.active r ≡ false → P (change_replica n k r (Some x) (with_lead s.snapshot (generation_in (entry_of k n.cluster.entries))))
    anew other =
        let (f, is) = found_then in
        let set : f ≡ led_by r e = set_is f is ∙ led_same r e can ∙ ap (λ g. record e { active = Some r; generation = g; hold = None }) (generation_next r e other) in
        let found_set : entry_of k n.cluster.entries ≡ Some (led_by r e) = is ∙ ap Some set in
        let lead : Leads m s k r = record {
          held = held;
          ckpt = ckpt;
          entry = e;
          found = found;
          made = made_where_complete m inv k r e found complete;
          collocated = ok.collocated;
          complete = complete;
          other = other;
          replica = x;
          there = there;
          from = leads_from m s k r e e.hold e.active refl other ok.may hand;
          set = found_set;
        } in
        subst (λ g. P (record n { replicas = put2 n.replicas k r (Some (with_lead s.snapshot g x)) })) (sym (ap generation_in found_set)) (leads lead)

    -- whichever is the active
    by_active : (o : Option ℕ) → e.active ≡ o → P (change_replica n k r (Some x) (with_lead s.snapshot (generation_in (entry_of k n.cluster.entries))))
    by_active None none = anew (ap (λ o. is_active o r) none)
    by_active (Some q) active = elim (q == r) as (λ b. (q == r) ≡ b → P (change_replica n k r (Some x) (with_lead s.snapshot (generation_in (entry_of k n.cluster.entries))))) [
      | true ↦ λ node. as_it_is q active node
      | false ↦ λ other. anew (ap (λ o. is_active o r) active ∙ other)
    ] refl

  -- what is so where the replica that is there leads
  by_entry : P (led_from s.snapshot k r n)
  by_entry = by_replica (n.replicas k r) refl
    where
      by_replica : (o : Option ReplicaState) → n.replicas k r ≡ o → P (change_replica n k r o (with_lead s.snapshot (generation_in (entry_of k n.cluster.entries))))
      by_replica None gone = stays_as (without gone)
      by_replica (Some x) at = by_active x at e.active refl

-- what is so where an active is set: what is so where each checkpoint that is made stays so and no replica changes, and what is so where a node leads that did not
pub after_activate : (P : Machine → Type 0) (m : Machine) (inv : Invariant m) (bare : IsBare m) (s : CallState) → m.in_hand (who s) ≡ Some s → (t : Told) (j q : Option ℕ) (reply : StepReply) → IsOnOwn verbs.Activate j s.kept.ckpt
    → Row m s verbs.Activate (record t { verb = verbs.Activate; ckpt = j; node = q; reply = reply }) → P m
    → ((k r : ℕ) → ((j : ℕ) → MadeOn j m.cluster (swept (active_set k r m.cluster))) → P (record_step (active_set k r) m))
    → ((k r : ℕ) (lead : Leads m s k r) → P (with_leader m s k r lead)) → P (changed m s verbs.Activate j q reply)
after_activate P m inv bare s held t (Some k) (Some r) words.Ok own row same made leads =
    let (place, asks_is, on) = row.0 in
    let (e, found, ok) = IsSomeAnd-at (entry_of k m.cluster.entries) (ActivateOk s r t.end) on in
    by_entry P m inv bare s held k r (sym own) (made k r) (leads k r) t.end e found ok (held_in m inv s held place asks_is k r (sym own) e found ok.may)
after_activate P m inv bare s held t (Some k) None words.Ok own row same made leads = same
after_activate P m inv bare s held t None q words.Ok own row same made leads = same
after_activate P m inv bare s held t j q reply own row same made leads = same
