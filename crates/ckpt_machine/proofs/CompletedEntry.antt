-- What an entry is behind the completion of a node that lacked it.
use Rattle.std.proofs.Common.{◌≡◌, ◌≢◌, ◌⊎◌, inl, inr, ℕ, ◌+◌, ◌<◌, ◌≤◌, zero, suc, List, [], ◌∷◌, length, Option, Some, None, Bool, true, false, cond, ◌==◌, refl, sym, ap, subst, ◌∙◌, arith, ℤ}
use Rattle.std.specs.Prelude.{IsSomeAnd, slice_index, slice_set}
use Rattle.std.proofs.lemmas.Bool.{eqb-true, eqb-false}
use Rattle.std.proofs.lemmas.Option.{same_Some}
use Rattle.cluster_record.specs.declared.entries.Entry.{Entry}
use Rattle.cluster_record.specs.Joining.{can_complete, completed_on, led_by, led_by_lowest, with_node}
use Rattle.cluster_record.specs.Placement.{is_all, is_collocated}
use Rattle.cluster_record.specs.RecordState.{first_complete, stays}
use Rattle.cluster_record.proofs.EntryLaws.{can_complete-parts}
use Rattle.cluster_record.proofs.JoinLaws.{active_stays, generation_by_active, lowest_leads, node_complete, others_complete, rest_stays}
use Rattle.cluster_record.proofs.Places.{tests_differ}
use Rattle.ckpt_machine.specs.Invariant.{IsOfGeneration}
use Rattle.ckpt_machine.specs.Shape.{IsActiveBy, IsCompleteOn, NodesAreUp}
use Rattle.ckpt_machine.proofs.ActiveBy.{lowest_complete}
use Rattle.ckpt_machine.proofs.OptionLemmas.{what_is}
use Rattle.ckpt_machine.proofs.NodeLists.{first_complete-there, length-slice_set, trichotomy}

-- two options are the same, or not
either_option : (o w : Option ℕ) → (o ≡ w) ⊎ (o ≢ w)
either_option None None = inl refl
either_option None (Some q) = inr (λ same. cc same)
either_option (Some p) None = inr (λ same. cc same)
either_option (Some p) (Some q) = elim (p == q) as (λ b. (p == q) ≡ b → (Some p ≡ Some q) ⊎ (Some p ≢ Some q)) [
  | true ↦ λ same. inl (ap Some (eqb-true p q same))
  | false ↦ λ other. inr (λ same. eqb-false p q other (same_Some p q same))
] refl

-- ---- the lowest complete node

-- none below the first is complete
first_complete-before : (n : ℕ) (cs : List ℕ) (r : ℕ) → first_complete n cs ≡ Some r → (d : ℕ) → n + d < r → (slice_index cs d == 0) ≡ true
first_complete-before n [] r is d below = absurd (cc is)
first_complete-before n (c ∷ cs) r is d below = elim (c == 0) as (λ b. (c == 0) ≡ b → cond b (first_complete (n + 1) cs) (Some n) ≡ Some r → (slice_index (c ∷ cs) d == 0) ≡ true) [
  | true ↦ λ none later. by_place none (λ p under. first_complete-before (n + 1) cs r later p under) d below
  | false ↦ λ some here. absurd (let same : n ≡ r = same_Some n r here in omega (arith, same, below))
] refl is
  where
    by_place : (c == 0) ≡ true → ((p : ℕ) → n + 1 + p < r → (slice_index cs p == 0) ≡ true) → (d : ℕ) → n + d < r → (slice_index (c ∷ cs) d == 0) ≡ true
    by_place none behind zero below = none
    by_place none behind (suc d) below = behind d (omega (arith, below))

-- it is the lowest of fewer nodes too, where it is one of them
pub lowest_of_fewer : (cs ds : List ℕ) (q : ℕ) → ((p : ℕ) → (slice_index cs p == 0) ≡ false → (slice_index ds p == 0) ≡ false) → first_complete 0 ds ≡ Some q → (slice_index cs q == 0) ≡ false → first_complete 0 cs ≡ Some q
lowest_of_fewer cs ds q grows lowest there =
    let (p, first) = what_is (first_complete 0 cs) (first_complete-there 0 cs q there) in
    elim (trichotomy p q) [
      | inl below ↦ absurd (let w : true ≡ false = sym (first_complete-before 0 ds q lowest p (omega (arith, below))) ∙ grows p (lowest_complete cs p first) in cc w)
      | inr other ↦ elim other [
        | inl same ↦ first ∙ ap Some same
        | inr above ↦ absurd (let w : true ≡ false = sym (first_complete-before 0 cs p first q (omega (arith, above))) ∙ there in cc w)
      ]
    ]

-- ---- the entry

module _ (r n : ℕ) (e : Entry) (can : can_complete r n e ≡ true) (within : r < length e.complete) where
  -- what it becomes
  abbrev pub then_entry : Entry
  then_entry = completed_on r n e

  some_life : n ≢ 0
  some_life = (can_complete-parts r n e can).2

  -- the node is complete with this incarnation
  pub node_then : slice_index then_entry.complete r ≡ n
  node_then = node_complete r n e can within

  pub joined : IsCompleteOn then_entry r
  joined = ap (λ c. c == 0) node_then ∙ tests_differ n 0 some_life

  -- and each other as it was
  pub other_then : (q : ℕ) → (q == r) ≡ false → slice_index then_entry.complete q ≡ slice_index e.complete q
  other_then q other = others_complete r n e q (eqb-false q r other)

  -- so those that were are complete still
  pub grows : (q : ℕ) → IsCompleteOn e q → IsCompleteOn then_entry q
  grows q there = elim (q == r) as (λ b. (q == r) ≡ b → IsCompleteOn then_entry q) [
    | true ↦ λ same. subst (IsCompleteOn then_entry) (sym (eqb-true q r same)) joined
    | false ↦ λ other. ap (λ c. c == 0) (other_then q other) ∙ there
  ] refl

  -- and no other is
  pub was_complete : (q : ℕ) → (q == r) ≡ false → IsCompleteOn then_entry q → IsCompleteOn e q
  was_complete q other there = ap (λ c. c == 0) (sym (other_then q other)) ∙ there

  pub nodes_then : then_entry.complete ≡ slice_set e.complete r n
  nodes_then = ap (λ b. (cond b (led_by_lowest (with_node r n e)) e).complete) can ∙ by_lead (is_all e.attributes) (first_complete 0 (with_node r n e).complete)
    where
      by_lead : (b : Bool) (o : Option ℕ) → (cond b (led_by o (with_node r n e)) (with_node r n e)).complete ≡ slice_set e.complete r n
      by_lead true None = refl
      by_lead true (Some q) = refl
      by_lead false o = refl

  pub as_many_nodes : length then_entry.complete ≡ length e.complete
  as_many_nodes = ap length nodes_then ∙ length-slice_set e.complete r n

  -- where the nodes are up
  pub up_then : (up : List ℕ) → slice_index up r ≡ n → NodesAreUp up e → NodesAreUp up then_entry
  up_then up present were q there = elim (q == r) as (λ b. (q == r) ≡ b → slice_index up q ≡ slice_index then_entry.complete q) [
    | true ↦ λ same. ap (slice_index up) (eqb-true q r same) ∙ present ∙ sym node_then ∙ ap (slice_index then_entry.complete) (sym (eqb-true q r same))
    | false ↦ λ other. were q (was_complete q other there) ∙ sym (other_then q other)
  ] refl

  -- ---- all else of it

  abbrev rest : then_entry ≡ record e { complete = then_entry.complete; active = then_entry.active; generation = then_entry.generation }
  rest = rest_stays r n e

  pub making_then : then_entry.making ≡ e.making
  making_then = ap (λ (x : Entry). x.making) rest

  pub attributes_then : then_entry.attributes ≡ e.attributes
  attributes_then = ap (λ (x : Entry). x.attributes) rest

  pub identity_then : then_entry.identity ≡ e.identity
  identity_then = ap (λ (x : Entry). x.identity) rest

  pub hold_then : then_entry.hold ≡ e.hold
  hold_then = ap (λ (x : Entry). x.hold) rest

  pub stays_then : (t : ℤ) → stays t then_entry ≡ stays t e
  stays_then t = ap (stays t) rest

  -- ---- who leads

  -- its active is the same, in the same generation, or another, in the next one
  pub led_either : ((then_entry.active ≡ e.active) × (then_entry.generation ≡ e.generation)) ⊎ ((then_entry.active ≢ e.active) × (then_entry.generation ≡ e.generation + 1))
  led_either = elim (either_option then_entry.active e.active) [
    | inl same ↦ inl (same, (generation_by_active r n e).0 same)
    | inr other ↦ inr (other, (generation_by_active r n e).1 other)
  ]

  -- so its generation rises
  pub rises : e.generation ≤ then_entry.generation
  rises = elim led_either [
    | inl same ↦ (let is : then_entry.generation ≡ e.generation = same.1 in omega (arith, is))
    | inr other ↦ (let is : then_entry.generation ≡ e.generation + 1 = other.1 in omega (arith, is))
  ]

  -- and its active stays with it
  pub same_active : then_entry.generation ≡ e.generation → then_entry.active ≡ e.active
  same_active same = elim led_either [
    | inl led ↦ led.0
    | inr other ↦ absurd (let is : then_entry.generation ≡ e.generation + 1 = other.1 in let same_is : then_entry.generation ≡ e.generation = same in omega (arith, is, same_is))
  ]

  -- the active of one that is not collocated
  pub active_then : IsActiveBy (is_collocated e.attributes) (is_all e.attributes) e.complete e.active → IsActiveBy (is_collocated then_entry.attributes) (is_all then_entry.attributes) then_entry.complete then_entry.active
  active_then led = subst (λ a. IsActiveBy (is_collocated a) (is_all a) then_entry.complete then_entry.active) (sym attributes_then) (subst (λ b. IsActiveBy b (is_all e.attributes) then_entry.complete then_entry.active) (sym apart) (by_all (is_all e.attributes) refl (subst (λ b. IsActiveBy b (is_all e.attributes) e.complete e.active) apart led)))
    where
      apart : is_collocated e.attributes ≡ false
      apart = (can_complete-parts r n e can).1

      still : (o : Option ℕ) → IsSomeAnd o (λ q. IsCompleteOn e q) → IsSomeAnd o (λ q. IsCompleteOn then_entry q)
      still None led = absurd led
      still (Some q) led = grows q led

      by_all : (b : Bool) → is_all e.attributes ≡ b → IsActiveBy false b e.complete e.active → IsActiveBy false b then_entry.complete then_entry.active
      by_all true all led = lowest_leads r n e can within all
      by_all false alone led = subst (λ o. IsSomeAnd o (λ q. IsCompleteOn then_entry q)) (sym (active_stays r n e alone)) (still e.active led)

  -- a replica that was there may have the generation that it has
  pub generation_then : IsActiveBy (is_collocated e.attributes) (is_all e.attributes) e.complete e.active → (q generation : ℕ) → IsCompleteOn e q → IsOfGeneration e q generation → IsOfGeneration then_entry q generation
  generation_then led q generation there was = record {
    within = let at_most : generation ≤ e.generation = was.within in let more : e.generation ≤ then_entry.generation = rises in omega (arith, at_most, more);
    led = λ leads. elim led_either [
      | inl same ↦ was.led (sym same.0 ∙ leads) ∙ sym same.1
      | inr other ↦ absurd (other.0 (leads ∙ sym (by_all leads (is_all e.attributes) refl)))
    ];
  }
    where
      apart : is_collocated e.attributes ≡ false
      apart = (can_complete-parts r n e can).1

      by_all : then_entry.active ≡ Some q → (b : Bool) → is_all e.attributes ≡ b → e.active ≡ Some q
      by_all leads true all = subst (λ (z : Bool × Bool). IsActiveBy z.0 z.1 e.complete e.active) (λ i. (apart i, all i)) led ∙ lowest_of_fewer e.complete then_entry.complete q grows (sym (lowest_leads r n e can within all) ∙ leads) there
      by_all leads false alone = sym (active_stays r n e alone) ∙ leads
