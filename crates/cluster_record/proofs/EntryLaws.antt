-- What is kept of each checkpoint is kept by each change of one.
use Rattle.std.proofs.Common.{◌≡◌, ◌≢◌, ℕ, ◌+◌, ◌-◌, ◌<◌, ◌≤◌, zero, suc, List, [], ◌∷◌, length, replicate, Bool, true, false, not, cond, ◌&&◌, ◌==◌, refl, sym, ap, subst, ◌∙◌, arith}
use Rattle.std.specs.Prelude.{Option, Some, None, is_some, IfSome, ℤ, pos, ◌≤ℤ◌, nat_lt, slice_set, slice_index}
use Rattle.std.proofs.lemmas.Bool.{eqb-false, eqb-true, and_parts}
use Rattle.std.proofs.lemmas.Int.{ints}
use Rattle.std.proofs.lemmas.List.{length-set, get_or-set_other}
use Rattle.ckpt_types.specs.declared.attributes.CreationAttributes.{CreationAttributes}
use Rattle.ckpt_types.specs.declared.identities.CallId.{CallId}
use Rattle.ckpt_types.specs.Attributes.{IsWellFormed}
use Rattle.ckpt_types.specs.Limits.{nodes_max, client_numbers}
use Rattle.cluster_record.specs.declared.entries.Entry.{Entry}
use Rattle.cluster_record.specs.Calls.{IsClient}
use Rattle.cluster_record.specs.Failing.{with_more, most_updated, next_active, led_anew, without_node, entry_failed, unheld_by}
use Rattle.cluster_record.specs.Joining.{can_complete, with_node, led_by, led_by_lowest, completed_on}
use Rattle.cluster_record.specs.Kept.{IsName, IsMakingBy, IsComplete, IsKeptEntry}
use Rattle.cluster_record.specs.Placement.{alone_on, is_all, is_collocated, targets, adds}
use Rattle.cluster_record.specs.RecordState.{RecordState, first_active, first_complete, has_references, referred, opened_with, made_with, idle_from, unreferred, released_all, is_call_of, unnamed, retaining, can_be_held, with_hold, can_lead, is_active, generation_under, with_active, new_entry}
use Rattle.ckpt_types.proofs.Lists.{slice_index-replicate, slice_set-replicate}

-- ---- what is in the making, or not

unless_none : (o : Option CallId) (P : CallId → Type 0) → o ≡ None → IfSome o P
unless_none None P e = tt
unless_none (Some call) P e = absurd cc

still : (o : Option CallId) (P Q : CallId → Type 0) → ((call : CallId) → P call → Q call) → IfSome o P → IfSome o Q
still None P Q go is = tt
still (Some call) P Q go is = go call is

-- what is in the making is open to nobody
pub unopened : (e : Entry) (c : ℕ) (call : CallId) → e.making ≡ Some call → IfSome e.making (λ call. IsMakingBy call e) → slice_index e.references c ≡ 0
unopened e c call is making =
    let by : IsMakingBy call e = subst (λ o. IfSome o (λ call. IsMakingBy call e)) is making in
    ap (λ references. slice_index references c) by.references ∙ slice_index-replicate client_numbers c

-- and has no active
unled : (e : Entry) → IfSome e.making (λ call. IsMakingBy call e) → is_some e.active ≡ true → e.making ≡ None
unled e making led = by e.making making where
  by : (o : Option CallId) → IfSome o (λ call. IsMakingBy call e) → o ≡ None
  by None is = refl
  by (Some call) is = absurd (let none : false ≡ true = sym (ap (λ (o : Option ℕ). is_some o) is.active) ∙ led in cc)

-- nor is it complete anywhere
incomplete : (e : Entry) (r : ℕ) → IfSome e.making (λ call. IsMakingBy call e) → 1 ≤ slice_index e.complete r → e.making ≡ None
incomplete e r making some = by e.making making where
  by : (o : Option CallId) → IfSome o (λ call. IsMakingBy call e) → o ≡ None
  by None is = refl
  by (Some call) is = absurd (let none : slice_index e.complete r ≡ 0 = ap (λ complete. slice_index complete r) is.complete ∙ slice_index-replicate nodes_max r in omega (arith, none, some))

-- ---- the lowest complete node is complete

-- what has an incarnation is one of the nodes
one_of : (cs : List ℕ) (r : ℕ) → 1 ≤ slice_index cs r → r < length cs
one_of [] r some = absurd (omega (arith, some))
one_of (c ∷ cs) zero some = omega arith
one_of (c ∷ cs) (suc r) some = let more : r < length cs = one_of cs r some in omega (arith, more)

first_from : (n : ℕ) (cs : List ℕ) (r : ℕ) → first_complete n cs ≡ Some r → (i : ℕ) × (r ≡ n + i) × (i < length cs) × (1 ≤ slice_index cs i)
first_from n [] r e = absurd cc
first_from n (c ∷ cs) r e = by (c == 0) refl e (first_from (n + 1) cs r) where
  by : (b : Bool) → (c == 0) ≡ b → cond b (first_complete (n + 1) cs) (Some n) ≡ Some r → (first_complete (n + 1) cs ≡ Some r → (i : ℕ) × (r ≡ n + 1 + i) × (i < length cs) × (1 ≤ slice_index cs i)) →
      (i : ℕ) × (r ≡ n + i) × (i < length (c ∷ cs)) × (1 ≤ slice_index (c ∷ cs) i)
  by true is found more = let f = more found in (suc f.0, omega (arith, f.1), omega (arith, f.2), f.3)
  by false is found more = let same : n ≡ r = cc in let some : c ≡ 0 → ⊥ = eqb-false c 0 is in (zero, omega (arith, same), omega arith, omega (arith, some))

first_is : (cs : List ℕ) → length cs ≡ nodes_max → IfSome (first_complete 0 cs) (λ r. IsComplete r cs)
first_is cs few = by (first_complete 0 cs) refl where
  by : (o : Option ℕ) → first_complete 0 cs ≡ o → IfSome o (λ r. IsComplete r cs)
  by None e = tt
  by (Some r) e =
      let f = first_from 0 cs r e in
      let at : f.0 ≡ r = omega (arith, f.1) in
      record { node = omega (arith, f.2, few, at); incarnation = subst (λ i. 1 ≤ slice_index cs i) at f.3 }

-- ---- where a checkpoint is made

targets-length : (a : CreationAttributes) (opener : ℕ) (up : List ℕ) → length up ≡ nodes_max → length (targets a opener up) ≡ nodes_max
targets-length a opener up few = elim (is_collocated a) as (λ b. length (cond b (alone_on opener up) up) ≡ nodes_max) [ true ↦ length-set (replicate nodes_max 0) opener (slice_index up opener) | false ↦ few ]

-- its active, where there is one, is complete
first_active-is : (a : CreationAttributes) (complete : List ℕ) → length complete ≡ nodes_max → IfSome (first_active a complete) (λ r. IsComplete r complete)
first_active-is a complete few = elim (is_collocated a) as (λ b. IfSome (cond b None (first_complete 0 complete)) (λ r. IsComplete r complete)) [ true ↦ tt | false ↦ first_is complete few ]

-- ---- one entry changed

module _ (t : ℤ) (e : Entry) (kept : IsKeptEntry t e) where
  -- other references, and another moment of the last close
  with_references : (references : List ℕ) (idle : ℤ) → e.making ≡ None → length references ≡ client_numbers → e.made ≤ℤ idle → idle ≤ℤ t → IsKeptEntry t (record e { references = references; idle = idle })
  with_references references idle made few after past = record {
    identity = kept.identity;
    name = kept.name;
    attributes = kept.attributes;
    retention = kept.retention;
    made = kept.made;
    idle = after;
    past = past;
    complete = kept.complete;
    references = few;
    active = kept.active;
    generation = kept.generation;
    making = unless_none e.making _ made;
  }

  as_many : (c n : ℕ) → length (slice_set e.references c n) ≡ client_numbers
  as_many c n = length-set e.references c n ∙ kept.references

  -- where a reference goes, and perhaps it was the last
  idle_from-kept : (c n : ℕ) → e.making ≡ None → IsKeptEntry t (idle_from t (record e { references = slice_set e.references c n }))
  idle_from-kept c n made =
      elim (has_references (record e { references = slice_set e.references c n })) as (λ b. IsKeptEntry t (cond b (record e { references = slice_set e.references c n }) (record e { references = slice_set e.references c n; idle = t }))) [
        | true ↦ with_references (slice_set e.references c n) e.idle made (as_many c n) kept.idle kept.past
        | false ↦ with_references (slice_set e.references c n) t made (as_many c n) (let a = kept.idle in let b = kept.past in omega (arith, ints, a, b)) (omega (arith, ints))
      ]

  -- a client that has nothing open leaves it as it is
  when_open : (c : ℕ) (f : Entry) → (e.making ≡ None → IsKeptEntry t f) → IsKeptEntry t (cond (slice_index e.references c == 0) e f)
  when_open c f go = by e.making refl where
    by : (o : Option CallId) → e.making ≡ o → IsKeptEntry t (cond (slice_index e.references c == 0) e f)
    by None is = elim (slice_index e.references c == 0) as (λ b. IsKeptEntry t (cond b e f)) [ true ↦ kept | false ↦ go is ]
    by (Some call) is = subst (λ n. IsKeptEntry t (cond (n == 0) e f)) (sym (unopened e c call is kept.making)) kept

  pub released-kept : (c : ℕ) → IsKeptEntry t (unreferred c t e)
  released-kept c = when_open c _ (idle_from-kept c (slice_index e.references c - 1))

  pub released_all-kept : (c : ℕ) → IsKeptEntry t (released_all c t e)
  released_all-kept c = when_open c _ (idle_from-kept c 0)

  pub referred-kept : (c : ℕ) → e.making ≡ None → IsKeptEntry t (referred c e)
  referred-kept c made = with_references (slice_set e.references c (slice_index e.references c + 1)) e.idle made (as_many c (slice_index e.references c + 1)) kept.idle kept.past

  -- an active on another node is complete still where the incarnation of this one changes
  still_complete : (r n : ℕ) (o : Option ℕ) → ((q : ℕ) → o ≡ Some q → 1 ≤ slice_index e.complete q → q ≢ r) → IfSome o (λ q. IsComplete q e.complete) → IfSome o (λ q. IsComplete q (slice_set e.complete r n))
  still_complete r n None other is = tt
  still_complete r n (Some q) other is =
      let apart : q ≢ r = other q refl is.incarnation in
      record { node = is.node; incarnation = subst (λ n. 1 ≤ n) (sym (get_or-set_other e.complete r q n 0 apart)) is.incarnation }

  -- complete on one node more, which is up in an incarnation
  complete_more : (r n : ℕ) → e.making ≡ None → slice_index e.complete r ≡ 0 → IsKeptEntry t (record e { complete = slice_set e.complete r n })
  complete_more r n made free = record {
    identity = kept.identity;
    name = kept.name;
    attributes = kept.attributes;
    retention = kept.retention;
    made = kept.made;
    idle = kept.idle;
    past = kept.past;
    complete = length-set e.complete r n ∙ kept.complete;
    references = kept.references;
    active = still_complete r n e.active (λ q is some same. (let none : slice_index e.complete q ≡ 0 = ap (slice_index e.complete) same ∙ free in omega (arith, none, some))) kept.active;
    generation = kept.generation;
    making = unless_none e.making _ made;
  }

  pub made_with-kept : (opener : ℕ) (up : List ℕ) (c : ℕ) → length up ≡ nodes_max → IsKeptEntry t (made_with opener up c e)
  made_with-kept opener up c few = let all = targets-length e.attributes opener up few in record {
    identity = kept.identity;
    name = kept.name;
    attributes = kept.attributes;
    retention = kept.retention;
    made = kept.made;
    idle = kept.idle;
    past = kept.past;
    complete = all;
    references = as_many c (slice_index e.references c + 1);
    active = first_active-is e.attributes (targets e.attributes opener up) all;
    generation = omega arith;
    making = tt;
  }

  pub unnamed-kept : e.making ≡ None → IsKeptEntry t (unnamed e)
  unnamed-kept made = record {
    identity = kept.identity;
    name = tt;
    attributes = kept.attributes;
    retention = kept.retention;
    made = kept.made;
    idle = kept.idle;
    past = kept.past;
    complete = kept.complete;
    references = kept.references;
    active = kept.active;
    generation = kept.generation;
    making = unless_none e.making _ made;
  }

  pub retaining-kept : (duration : ℤ) → pos 0 ≤ℤ duration → IsKeptEntry t (retaining duration e)
  retaining-kept duration least = record {
    identity = kept.identity;
    name = kept.name;
    attributes = kept.attributes;
    retention = least;
    made = kept.made;
    idle = kept.idle;
    past = kept.past;
    complete = kept.complete;
    references = kept.references;
    active = kept.active;
    generation = kept.generation;
    making = still e.making _ _ (λ call by. record { maker = by.maker; name = by.name; complete = by.complete; active = by.active; generation = by.generation; references = by.references; hold = by.hold }) kept.making;
  }

  -- held by a call
  pub with_hold-kept : (call : CallId) → IsKeptEntry t (with_hold call e)
  with_hold-kept call = by (can_be_held e) refl where
    by : (b : Bool) → can_be_held e ≡ b → IsKeptEntry t (cond b (record e { hold = Some call }) e)
    by false is = kept
    by true is = record {
      identity = kept.identity;
      name = kept.name;
      attributes = kept.attributes;
      retention = kept.retention;
      made = kept.made;
      idle = kept.idle;
      past = kept.past;
      complete = kept.complete;
      references = kept.references;
      active = kept.active;
      generation = kept.generation;
      making = unless_none e.making _ (unled e kept.making (and_parts (is_collocated e.attributes) (is_some e.active) is).1);
    }

  -- with this node as active
  pub with_active-kept : (r : ℕ) → IsKeptEntry t (with_active r e)
  with_active-kept r = by (can_lead r e) refl where
    by : (b : Bool) → can_lead r e ≡ b → IsKeptEntry t (cond b (record e { active = Some r; generation = generation_under r e; hold = None }) e)
    by false is = kept
    by true is =
        let some : 1 ≤ slice_index e.complete r = some_at (slice_index e.complete r) (and_parts (is_collocated e.attributes) (not (slice_index e.complete r == 0)) is).1 in
        let within : r < length e.complete = one_of e.complete r some in
        record {
          identity = kept.identity;
          name = kept.name;
          attributes = kept.attributes;
          retention = kept.retention;
          made = kept.made;
          idle = kept.idle;
          past = kept.past;
          complete = kept.complete;
          references = kept.references;
          active = record { node = omega (arith, within, kept.complete); incarnation = some };
          generation = let least = kept.generation in elim (is_active e.active r) as (λ b. 1 ≤ cond b e.generation (e.generation + 1)) [ true ↦ least | false ↦ omega arith ];
          making = unless_none e.making _ (incomplete e r kept.making some);
        }
      where
        some_at : (n : ℕ) → not (n == 0) ≡ true → 1 ≤ n
        some_at zero is = absurd cc
        some_at (suc n) is = omega arith

-- ---- a new one

pub new_entry-kept : (call : CallId) (name : List ℕ) (a : CreationAttributes) (R : RecordState) → IsClient call.actor → IsName name → IsWellFormed a → pos 0 ≤ℤ R.moment → IsKeptEntry R.moment (new_entry call name a R)
new_entry-kept call name a R client fits formed start = record {
  identity = omega arith;
  name = fits;
  attributes = formed;
  retention = formed.retention;
  made = start;
  idle = omega (arith, ints);
  past = omega (arith, ints);
  complete = refl;
  references = refl;
  active = tt;
  generation = omega arith;
  making = record { maker = client; name = refl; complete = refl; active = refl; generation = refl; references = refl; hold = refl };
}

-- opened from a node, where that adds a replica or not
pub opened_with-kept : (t : ℤ) (e : Entry) → IsKeptEntry t e → (opener : ℕ) (up : List ℕ) (c : ℕ) → e.making ≡ None → IsKeptEntry t (opened_with opener up c e)
opened_with-kept t e kept opener up c made = by (adds e.attributes opener e.complete) refl where
  by : (b : Bool) → adds e.attributes opener e.complete ≡ b → IsKeptEntry t (referred c (cond b (record e { complete = slice_set e.complete opener (slice_index up opener) }) e))
  by false is = referred-kept t e kept c made
  by true is =
      let free : slice_index e.complete opener ≡ 0 = eqb-true (slice_index e.complete opener) 0 (and_parts (is_collocated e.attributes) (slice_index e.complete opener == 0) is).1 in
      referred-kept t (record e { complete = slice_set e.complete opener (slice_index up opener) }) (complete_more t e kept opener (slice_index up opener) made free) c made

-- ---- the failure of a node

-- held by no call of a client
pub unheld_by-kept : (t : ℤ) (e : Entry) → IsKeptEntry t e → (c : ℕ) → IsKeptEntry t (unheld_by c e)
unheld_by-kept t e kept c = record {
  identity = kept.identity;
  name = kept.name;
  attributes = kept.attributes;
  retention = kept.retention;
  made = kept.made;
  idle = kept.idle;
  past = kept.past;
  complete = kept.complete;
  references = kept.references;
  active = kept.active;
  generation = kept.generation;
  making = still e.making _ _ (λ call by. record { maker = by.maker; name = by.name; complete = by.complete; active = by.active; generation = by.generation; references = by.references; hold = ap (λ o. cond (is_call_of c o) None o) by.hold }) kept.making;
}

-- the one with the most updates is complete
most_from : (counts : ℕ → ℕ) (n : ℕ) (cs : List ℕ) (r : ℕ) → most_updated counts n cs ≡ Some r → (i : ℕ) × (r ≡ n + i) × (i < length cs) × (1 ≤ slice_index cs i)
most_from counts n [] r e = absurd cc
most_from counts n (c ∷ cs) r e = by (c == 0) refl e (most_from counts (n + 1) cs) where
  At : ℕ → Type 0
  At q = (i : ℕ) × (q ≡ n + i) × (i < length (c ∷ cs)) × (1 ≤ slice_index (c ∷ cs) i)

  Behind : ℕ → Type 0
  Behind q = (i : ℕ) × (q ≡ n + 1 + i) × (i < length cs) × (1 ≤ slice_index cs i)

  further : (q : ℕ) → Behind q → At q
  further q f = (suc f.0, omega (arith, f.1), omega (arith, f.2), f.3)

  here : (c == 0) ≡ false → n ≡ r → At r
  here is same = let some : c ≡ 0 → ⊥ = eqb-false c 0 is in (zero, omega (arith, same), omega arith, omega (arith, some))

  by_more : (c == 0) ≡ false → (o : Option ℕ) → ((q : ℕ) → o ≡ Some q → Behind q) → Some (with_more counts n o) ≡ Some r → At r
  by_more is None more found = here is cc
  by_more is (Some q) more found = elim (nat_lt (counts n) (counts q)) as (λ b. Some (cond b q n) ≡ Some r → At r) [
    | true ↦ λ found. (let same : q ≡ r = cc in further r (more r (ap Some same)))
    | false ↦ λ found. here is cc
  ] found

  by : (b : Bool) → (c == 0) ≡ b → cond b (most_updated counts (n + 1) cs) (Some (with_more counts n (most_updated counts (n + 1) cs))) ≡ Some r → ((q : ℕ) → most_updated counts (n + 1) cs ≡ Some q → Behind q) → At r
  by true is found more = further r (more r found)
  by false is found more = by_more is (most_updated counts (n + 1) cs) more found

most_is : (counts : ℕ → ℕ) (cs : List ℕ) → length cs ≡ nodes_max → IfSome (most_updated counts 0 cs) (λ r. IsComplete r cs)
most_is counts cs few = by (most_updated counts 0 cs) refl where
  by : (o : Option ℕ) → most_updated counts 0 cs ≡ o → IfSome o (λ r. IsComplete r cs)
  by None e = tt
  by (Some r) e =
      let f = most_from counts 0 cs r e in
      let at : f.0 ≡ r = omega (arith, f.1) in
      record { node = omega (arith, f.2, few, at); incarnation = subst (λ i. 1 ≤ slice_index cs i) at f.3 }

-- who is the active where it is gone is complete
next_active-is : (counts : ℕ → ℕ) (a : CreationAttributes) (cs : List ℕ) → length cs ≡ nodes_max → IfSome (next_active counts a cs) (λ r. IsComplete r cs)
next_active-is counts a cs few = elim (is_collocated a) as (λ b. IfSome (cond b None (cond (is_all a) (first_complete 0 cs) (most_updated counts 0 cs))) (λ r. IsComplete r cs)) [
  | true ↦ tt
  | false ↦ elim (is_all a) as (λ b. IfSome (cond b (first_complete 0 cs) (most_updated counts 0 cs)) (λ r. IsComplete r cs)) [ true ↦ first_is cs few | false ↦ most_is counts cs few ]
]

-- where a node fails
pub entry_failed-kept : (counts : ℕ → ℕ) (r : ℕ) (t : ℤ) (e : Entry) → IsKeptEntry t e → IsKeptEntry t (entry_failed counts r e)
entry_failed-kept counts r t e kept = by (is_active e.active r) refl where
  few : length (slice_set e.complete r 0) ≡ nodes_max
  few = length-set e.complete r 0 ∙ kept.complete

  apart : (q : ℕ) → e.active ≡ Some q → is_active e.active r ≡ false → q ≢ r
  apart q is other = eqb-false q r (ap (λ (o : Option ℕ). is_active o r) (sym is) ∙ other)

  led : (o : Option ℕ) → is_active o r ≡ true → is_some o ≡ true
  led None is = absurd cc
  led (Some q) is = refl

  by : (b : Bool) → is_active e.active r ≡ b → IsKeptEntry t (cond b (led_anew counts (without_node r e)) (without_node r e))
  by true is = record {
    identity = kept.identity;
    name = kept.name;
    attributes = kept.attributes;
    retention = kept.retention;
    made = kept.made;
    idle = kept.idle;
    past = kept.past;
    complete = few;
    references = kept.references;
    active = next_active-is counts e.attributes (slice_set e.complete r 0) few;
    generation = omega arith;
    making = unless_none e.making _ (unled e kept.making (led e.active is));
  }
  by false is = record {
    identity = kept.identity;
    name = kept.name;
    attributes = kept.attributes;
    retention = kept.retention;
    made = kept.made;
    idle = kept.idle;
    past = kept.past;
    complete = few;
    references = kept.references;
    active = still_complete t e kept r 0 e.active (λ q at some. apart q at is) kept.active;
    generation = kept.generation;
    making = still e.making _ _ (λ call by. record { maker = by.maker; name = by.name; complete = ap (λ cs. slice_set cs r 0) by.complete ∙ slice_set-replicate nodes_max r; active = by.active; generation = by.generation; references = by.references; hold = by.hold }) kept.making;
  }

-- ---- a node that comes back

-- where a node that is complete is the active, and it is made
led_by-kept : (t : ℤ) (e : Entry) → IsKeptEntry t e → (o : Option ℕ) → e.making ≡ None → IfSome o (λ r. IsComplete r e.complete) → IsKeptEntry t (led_by o e)
led_by-kept t e kept None made complete = kept
led_by-kept t e kept (Some r) made complete = record {
  identity = kept.identity;
  name = kept.name;
  attributes = kept.attributes;
  retention = kept.retention;
  made = kept.made;
  idle = kept.idle;
  past = kept.past;
  complete = kept.complete;
  references = kept.references;
  active = complete;
  generation = let least = kept.generation in elim (is_active e.active r) as (λ b. 1 ≤ cond b e.generation (e.generation + 1)) [ true ↦ least | false ↦ omega arith ];
  making = unless_none e.making _ made;
}

-- the lowest complete one, or the active as it was
led_by_lowest-kept : (t : ℤ) (e : Entry) → IsKeptEntry t e → e.making ≡ None → IsKeptEntry t (led_by_lowest e)
led_by_lowest-kept t e kept made = elim (is_all e.attributes) as (λ b. IsKeptEntry t (cond b (led_by (first_complete 0 e.complete) e) e)) [
  | true ↦ led_by-kept t e kept (first_complete 0 e.complete) made (first_is e.complete kept.complete)
  | false ↦ kept
]

-- what a node can be complete for is made, and not complete there
pub can_complete-parts : (r n : ℕ) (e : Entry) → can_complete r n e ≡ true → (e.making ≡ None) × (is_collocated e.attributes ≡ false) × (n ≢ 0) × (slice_index e.complete r ≡ 0)
can_complete-parts r n e is =
    let fourth = and_parts (not (is_some e.making) && not (is_collocated e.attributes) && not (n == 0)) (slice_index e.complete r == 0) is in
    let third = and_parts (not (is_some e.making) && not (is_collocated e.attributes)) (not (n == 0)) fourth.0 in
    let second = and_parts (not (is_some e.making)) (not (is_collocated e.attributes)) third.0 in
    (none e.making second.0, off (is_collocated e.attributes) second.1, eqb-false n 0 (off (n == 0) third.1), eqb-true (slice_index e.complete r) 0 fourth.1)
  where
    none : (o : Option CallId) → not (is_some o) ≡ true → o ≡ None
    none None is = refl
    none (Some call) is = absurd cc

    off : (b : Bool) → not b ≡ true → b ≡ false
    off true is = absurd cc
    off false is = refl

-- where a node comes to be complete
pub completed_on-kept : (t : ℤ) (e : Entry) → IsKeptEntry t e → (r n : ℕ) → IsKeptEntry t (completed_on r n e)
completed_on-kept t e kept r n = by (can_complete r n e) refl where
  by : (b : Bool) → can_complete r n e ≡ b → IsKeptEntry t (cond b (led_by_lowest (with_node r n e)) e)
  by false is = kept
  by true is = let parts = can_complete-parts r n e is in led_by_lowest-kept t (with_node r n e) (complete_more t e kept r n parts.0 parts.3) parts.0
