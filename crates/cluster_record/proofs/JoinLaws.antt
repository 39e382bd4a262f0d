-- A node that comes back: what is live behind its join, and what stays as it was; and what stands of a checkpoint for which it has come to be complete.
use Rattle.std.proofs.Common.{◌≡◌, ◌≢◌, ℕ, ◌+◌, ◌<◌, ◌≤◌, zero, suc, List, [], ◌∷◌, length, Option, Some, None, Bool, true, false, cond, not, ◌&&◌, ◌==◌, refl, sym, ap, ◌∙◌, arith}
use Rattle.std.specs.Prelude.{nat_lt, slice_index}
use Rattle.std.proofs.lemmas.Bool.{lt-ltb, le-ltb, eq-eqb}
use Rattle.std.proofs.lemmas.List.{get_or-set_same, get_or-set_other}
use Rattle.ckpt_types.specs.declared.identities.ActorName.TheVariants.{Client, Node}
use Rattle.ckpt_types.specs.Limits.{nodes_max}
use Rattle.cluster_record.specs.declared.entries.Entry.{Entry}
use Rattle.cluster_record.specs.Joining.{next_incarnation, node_joined, can_complete, with_node, led_by, led_by_lowest, completed_on, completed}
use Rattle.cluster_record.specs.LookUps.{up_as}
use Rattle.cluster_record.specs.Placement.{is_all}
use Rattle.cluster_record.specs.Places.{change_key}
use Rattle.cluster_record.specs.RecordState.{RecordState, identity_of, entry_of, first_complete, generation_under, is_active, is_live, is_up}
use Rattle.cluster_record.proofs.EntryLaws.{can_complete-parts}
use Rattle.cluster_record.proofs.KeptLaws.{completed_on-keeps}
use Rattle.cluster_record.proofs.Places.{find_changed, not_changed, tests_differ}

-- ---- behind a join

module _ (r first : ℕ) (R : RecordState) (node : r < nodes_max) (ups : length R.up ≡ nodes_max) (firsts : length R.first_calls ≡ nodes_max) where
  -- what stands for the node
  up_there : slice_index (node_joined r first R).up r ≡ next_incarnation r R
  up_there = get_or-set_same R.up r (next_incarnation r R) 0 (omega (arith, node, ups))

  first_there : slice_index (node_joined r first R).first_calls r ≡ first
  first_there = get_or-set_same R.first_calls r first 0 (omega (arith, node, firsts))

  -- it is up
  pub joined_up : is_up r (node_joined r first R) ≡ true
  joined_up =
      let apart : (next_incarnation r R == 0) ≡ false = tests_differ (next_incarnation r R) 0 (λ same. omega (arith, same)) in
      ap (λ b. b && not (slice_index (node_joined r first R).up r == 0)) (lt-ltb r nodes_max node) ∙ ap (λ n. not (n == 0)) up_there ∙ ap not apart

  -- in the incarnation that follows its last one, and from this call on
  pub joined_as : up_as r (node_joined r first R) ≡ Some (next_incarnation r R, first)
  joined_as =
      ap (λ b. cond b (Some (slice_index (node_joined r first R).up r, slice_index (node_joined r first R).first_calls r)) None) joined_up
      ∙ ap (λ n. Some (n, slice_index (node_joined r first R).first_calls r)) up_there
      ∙ ap (λ n. Some (next_incarnation r R, n)) first_there

  -- a call of an earlier life is not live, though the node is up
  pub earlier_life_over : (number : ℕ) → number < first → is_live (node_joined r first R) (record { actor = Node r; number = number }) ≡ false
  earlier_life_over number earlier =
      ap (λ b. b && not (nat_lt number (slice_index (node_joined r first R).first_calls r))) joined_up
      ∙ ap (λ n. not (nat_lt number n)) first_there
      ∙ ap not (lt-ltb number first earlier)

  -- one of this life is
  pub present_life_live : (number : ℕ) → first ≤ number → is_live (node_joined r first R) (record { actor = Node r; number = number }) ≡ true
  present_life_live number from =
      ap (λ b. b && not (nat_lt number (slice_index (node_joined r first R).first_calls r))) joined_up
      ∙ ap (λ n. not (nat_lt number n)) first_there
      ∙ ap not (le-ltb number first from)

module _ (r first : ℕ) (R : RecordState) where
  -- a client's call is live where it was
  pub client_stays : (c number : ℕ) → is_live (node_joined r first R) (record { actor = Client c; number = number }) ≡ is_live R (record { actor = Client c; number = number })
  client_stays c number = refl

  -- each other node is up as it was
  pub other_stays : (q : ℕ) → q ≢ r → up_as q (node_joined r first R) ≡ up_as q R
  other_stays q apart =
      ap (λ n. cond (nat_lt q nodes_max && not (n == 0)) (Some (n, slice_index (node_joined r first R).first_calls q)) None) (get_or-set_other R.up r q (next_incarnation r R) 0 apart)
      ∙ ap (λ n. cond (is_up q R) (Some (slice_index R.up q, n)) None) (get_or-set_other R.first_calls r q first 0 apart)

  -- and its calls are live where they were
  pub other_call_stays : (q number : ℕ) → q ≢ r → is_live (node_joined r first R) (record { actor = Node q; number = number }) ≡ is_live R (record { actor = Node q; number = number })
  other_call_stays q number apart =
      ap (λ n. (nat_lt q nodes_max && not (n == 0)) && not (nat_lt number (slice_index (node_joined r first R).first_calls q))) (get_or-set_other R.up r q (next_incarnation r R) 0 apart)
      ∙ ap (λ n. is_up q R && not (nat_lt number n)) (get_or-set_other R.first_calls r q first 0 apart)

-- ---- of an entry for which a node is complete

-- who is the active changes nothing else
led_by_lowest-complete : (e : Entry) → (led_by_lowest e).complete ≡ e.complete
led_by_lowest-complete e = by (is_all e.attributes) (first_complete 0 e.complete) where
  by : (b : Bool) (o : Option ℕ) → (cond b (led_by o e) e).complete ≡ e.complete
  by true None = refl
  by true (Some r) = refl
  by false o = refl

-- a list with an incarnation has a lowest node
lowest_there : (n r : ℕ) (cs : List ℕ) → slice_index cs r ≢ 0 → first_complete n cs ≢ None
lowest_there n r [] some none = some refl
lowest_there n zero (c ∷ cs) some none = let apart : (c == 0) ≡ false = tests_differ c 0 some in absurd (let is : Some n ≡ None = sym (ap (λ b. cond b (first_complete (n + 1) cs) (Some n)) apart) ∙ none in cc)
lowest_there n (suc r) (c ∷ cs) some none = by (c == 0) (lowest_there (n + 1) r cs some) none where
  by : (b : Bool) → (first_complete (n + 1) cs ≢ None) → cond b (first_complete (n + 1) cs) (Some n) ≡ None → ⊥
  by true more none = more none
  by false more none = absurd cc

led_by-active : (o : Option ℕ) (e : Entry) → o ≢ None → (led_by o e).active ≡ o
led_by-active None e some = absurd (some refl)
led_by-active (Some r) e some = refl

-- the generation by whether the active is another
generation_led : (o : Option ℕ) (e : Entry) → ((led_by o e).active ≡ e.active → (led_by o e).generation ≡ e.generation) × ((led_by o e).active ≢ e.active → (led_by o e).generation ≡ e.generation + 1)
generation_led None e = (λ same. refl, λ other. absurd (other refl))
generation_led (Some r) e = (same, λ other. by e.active refl other) where
  same : Some r ≡ e.active → generation_under r e ≡ e.generation
  same is = ap (λ b. cond b e.generation (e.generation + 1)) (ap (λ o. is_active o r) (sym is) ∙ eq-eqb r r refl)

  by : (o : Option ℕ) → e.active ≡ o → Some r ≢ e.active → generation_under r e ≡ e.generation + 1
  by None is other = ap (λ o. cond (is_active o r) e.generation (e.generation + 1)) is
  by (Some q) is other =
      let apart : (q == r) ≡ false = tests_differ q r (λ same. other (ap Some (sym same) ∙ sym is)) in
      ap (λ o. cond (is_active o r) e.generation (e.generation + 1)) is ∙ ap (λ b. cond b e.generation (e.generation + 1)) apart

module _ (r n : ℕ) (e : Entry) where
  -- where the node can come to be complete, it is, with this incarnation
  pub node_complete : can_complete r n e ≡ true → r < length e.complete → slice_index (completed_on r n e).complete r ≡ n
  node_complete can within =
      ap (λ b. slice_index (cond b (led_by_lowest (with_node r n e)) e).complete r) can
      ∙ ap (λ cs. slice_index cs r) (led_by_lowest-complete (with_node r n e))
      ∙ get_or-set_same e.complete r n 0 within

  -- each other node is complete as it was
  pub others_complete : (q : ℕ) → q ≢ r → slice_index (completed_on r n e).complete q ≡ slice_index e.complete q
  others_complete q apart = elim (can_complete r n e) as (λ b. slice_index (cond b (led_by_lowest (with_node r n e)) e).complete q ≡ slice_index e.complete q) [
    | true ↦ ap (λ cs. slice_index cs q) (led_by_lowest-complete (with_node r n e)) ∙ get_or-set_other e.complete r q n 0 apart
    | false ↦ refl
  ]

  -- where updates are on all replicas, the lowest complete node is the active then
  pub lowest_leads : can_complete r n e ≡ true → r < length e.complete → is_all e.attributes ≡ true → (completed_on r n e).active ≡ first_complete 0 (completed_on r n e).complete
  lowest_leads can within all =
      let f : Entry = with_node r n e in
      let there : slice_index f.complete r ≡ n = get_or-set_same e.complete r n 0 within in
      let some : slice_index f.complete r ≢ 0 = λ none. (can_complete-parts r n e can).2 (sym there ∙ none) in
      ap (λ b. (cond b (led_by_lowest f) e).active) can
      ∙ ap (λ b. (cond b (led_by (first_complete 0 f.complete) f) f).active) all
      ∙ led_by-active (first_complete 0 f.complete) f (lowest_there 0 r f.complete some)
      ∙ sym (ap (first_complete 0) (ap (λ b. (cond b (led_by_lowest f) e).complete) can ∙ led_by_lowest-complete f))

  -- else the active stays
  pub active_stays : is_all e.attributes ≡ false → (completed_on r n e).active ≡ e.active
  active_stays other = elim (can_complete r n e) as (λ b. (cond b (led_by_lowest (with_node r n e)) e).active ≡ e.active) [
    | true ↦ ap (λ b. (cond b (led_by (first_complete 0 (with_node r n e).complete) (with_node r n e)) (with_node r n e)).active) other
    | false ↦ refl
  ]

  -- the generation rises by one where the active changes, and only there
  pub generation_by_active : ((completed_on r n e).active ≡ e.active → (completed_on r n e).generation ≡ e.generation) × ((completed_on r n e).active ≢ e.active → (completed_on r n e).generation ≡ e.generation + 1)
  generation_by_active = by (can_complete r n e) (is_all e.attributes) where
    Led : Entry → Type 0
    Led f = (f.active ≡ e.active → f.generation ≡ e.generation) × (f.active ≢ e.active → f.generation ≡ e.generation + 1)

    by : (can all : Bool) → Led (cond can (cond all (led_by (first_complete 0 (with_node r n e).complete) (with_node r n e)) (with_node r n e)) e)
    by true true = generation_led (first_complete 0 (with_node r n e).complete) (with_node r n e)
    by true false = (λ same. refl, λ other. absurd (other refl))
    by false all = (λ same. refl, λ other. absurd (other refl))

  -- all else of it stays
  pub rest_stays : completed_on r n e ≡ record e { complete = (completed_on r n e).complete; active = (completed_on r n e).active; generation = (completed_on r n e).generation }
  rest_stays = by (can_complete r n e) (is_all e.attributes) (first_complete 0 (with_node r n e).complete) where
    Rest : Entry → Type 0
    Rest f = f ≡ record e { complete = f.complete; active = f.active; generation = f.generation }

    by : (can all : Bool) (o : Option ℕ) → Rest (cond can (cond all (led_by o (with_node r n e)) (with_node r n e)) e)
    by true true None = refl
    by true true (Some q) = refl
    by true false o = refl
    by false all o = refl

-- ---- of the record for which a node is complete

module _ (k r : ℕ) (R : RecordState) where
  -- the checkpoint's entry is the changed one
  pub completed_at : (e : Entry) → entry_of k R.entries ≡ Some e → entry_of k (completed k r R).entries ≡ Some (completed_on r (slice_index R.up r) e)
  completed_at e there =
      let f : Entry → Entry = completed_on r (slice_index R.up r) in
      find_changed identity_of k f (completed_on-keeps r (slice_index R.up r)).1 R.entries e k there
      ∙ ap (λ b. cond b (Some (f e)) (entry_of k R.entries)) (eq-eqb k k refl)

  -- of each other checkpoint nothing changes
  pub others_stay : (j : ℕ) → j ≢ k → entry_of j (completed k r R).entries ≡ entry_of j R.entries
  others_stay j apart = by (entry_of k R.entries) refl where
    f : Entry → Entry
    f = completed_on r (slice_index R.up r)

    by : (o : Option Entry) → entry_of k R.entries ≡ o → entry_of j (change_key identity_of k f R.entries) ≡ entry_of j R.entries
    by None there = ap (entry_of j) (not_changed identity_of k f R.entries there)
    by (Some e) there =
        find_changed identity_of k f (completed_on-keeps r (slice_index R.up r)).1 R.entries e j there
        ∙ ap (λ b. cond b (Some (f e)) (entry_of j R.entries)) (tests_differ j k apart)
