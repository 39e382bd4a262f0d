-- What the failure of a node leaves of the record.
use Rattle.std.proofs.Common.{◌≡◌, ℕ, ◌+◌, List, [], ◌∷◌, map, filter, length, Some, None, is_some, Bool, true, false, cond, not, ◌≤◌, ◌||◌, refl, sym, ap, subst, ◌∙◌, ℤ, zero, suc, arith}
use Rattle.std.specs.Prelude.{IsSome, slice_index, slice_set}
use Rattle.std.proofs.lemmas.Bool.{not-true}
use Rattle.cluster_record.specs.declared.entries.Entry.{Entry}
use Rattle.cluster_record.specs.Identities.{IdentitiesRise, AllUpTo}
use Rattle.cluster_record.specs.RecordState.{RecordState, entry_of, has_references, idle_from, is_active, first_complete, stays, swept}
use Rattle.cluster_record.specs.Failing.{goes_with_node, is_of_those, references_left, left_open, without_clients, next_active, led_anew, without_node, entry_failed, survives, failed}
use Rattle.cluster_record.proofs.IdentityLaws.{IdentitiesRise-filter, IdentitiesRise-map, AllUpTo-filter, AllUpTo-map}
use Rattle.ckpt_machine.proofs.Moment.{making_stays}
use Rattle.ckpt_machine.proofs.Entries.{ComesOf-filter, ComesOf-map, found_filter, found_passing, found_map}

-- ---- lists

-- what is found of those that pass was there, and passes
pub filter_back : (p : Entry → Bool) (xs : List Entry) → IdentitiesRise xs → (k : ℕ) (f : Entry) → entry_of k (filter p xs) ≡ Some f → (entry_of k xs ≡ Some f) × (p f ≡ true)
filter_back p xs rises k f found =
    let (e, was, same) = ComesOf-filter (λ e f. f ≡ e) (λ e. refl) p xs rises k f found in
    (was ∙ ap Some (sym same), found_passing p k xs f found)

-- there are as many numbers of references as before
length-left : (goes : ℕ → Bool) (c : ℕ) (ns : List ℕ) → length (references_left goes c ns) ≡ length ns
length-left goes c [] = refl
length-left goes c (n ∷ ns) = ap suc (length-left goes (c + 1) ns)

-- of no client are there more
fewer-left : (goes : ℕ → Bool) (c : ℕ) (ns : List ℕ) (d : ℕ) → slice_index (references_left goes c ns) d ≤ slice_index ns d
fewer-left goes c [] d = omega arith
fewer-left goes c (n ∷ ns) zero = elim (goes c) as (λ b. cond b 0 n ≤ n) [ true ↦ omega arith | false ↦ omega arith ]
fewer-left goes c (n ∷ ns) (suc d) = fewer-left goes (c + 1) ns d

-- ---- one entry

module _ (goes : ℕ → Bool) (t : ℤ) (e : Entry) where
  -- without the references of those that go
  abbrev f : Entry
  f = record e { references = references_left goes 0 e.references }

  -- what looks neither at references nor at the last close
  left_open-same : {X : Type 0} (P : Entry → X) → ((e : Entry) (ns : List ℕ) (t : ℤ) → P (record e { references = ns; idle = t }) ≡ P e) → P (left_open goes t e) ≡ P e
  left_open-same {X} P same = by_open (has_references e)
    where
      by_left : (b : Bool) → P (cond b f (record f { idle = t })) ≡ P e
      by_left true = same e (references_left goes 0 e.references) e.idle
      by_left false = same e (references_left goes 0 e.references) t

      by_open : (b : Bool) → P (cond b (idle_from t f) f) ≡ P e
      by_open true = by_left (has_references f)
      by_open false = same e (references_left goes 0 e.references) e.idle

  -- there are as many numbers of references as before
  left_open-clients : length (left_open goes t e).references ≡ length e.references
  left_open-clients = by_open (has_references e)
    where
      by_left : (b : Bool) → length (cond b f (record f { idle = t })).references ≡ length e.references
      by_left true = length-left goes 0 e.references
      by_left false = length-left goes 0 e.references

      by_open : (b : Bool) → length (cond b (idle_from t f) f).references ≡ length e.references
      by_open true = by_left (has_references f)
      by_open false = length-left goes 0 e.references

  -- of no client are there more
  left_open-fewer : (d : ℕ) → slice_index (left_open goes t e).references d ≤ slice_index e.references d
  left_open-fewer d = by_open (has_references e)
    where
      by_left : (b : Bool) → slice_index (cond b f (record f { idle = t })).references d ≤ slice_index e.references d
      by_left true = fewer-left goes 0 e.references d
      by_left false = fewer-left goes 0 e.references d

      by_open : (b : Bool) → slice_index (cond b (idle_from t f) f).references d ≤ slice_index e.references d
      by_open true = by_left (has_references f)
      by_open false = fewer-left goes 0 e.references d

-- what a failure leaves of an entry
pub record IsFailedEntry (counts : ℕ → ℕ) (goes : ℕ → Bool) (r : ℕ) (e f : Entry) : Type 0 where
  pub identity : f.identity ≡ e.identity
  pub attributes : f.attributes ≡ e.attributes
  pub since : f.made ≡ e.made
  pub making : f.making ≡ e.making
  pub complete : f.complete ≡ slice_set e.complete r 0
  pub hold : f.hold ≡ cond (is_of_those goes e.hold) None e.hold
  pub clients : length f.references ≡ length e.references
  pub fewer : (d : ℕ) → slice_index f.references d ≤ slice_index e.references d
  -- another active, where it was there
  pub gone : is_active e.active r ≡ true → (f.active ≡ next_active counts e.attributes f.complete) × (f.generation ≡ e.generation + 1)
  pub led : is_active e.active r ≡ false → (f.active ≡ e.active) × (f.generation ≡ e.generation)

-- by its last change
module _ (counts : ℕ → ℕ) (goes : ℕ → Bool) (r : ℕ) (t : ℤ) (e : Entry) where
  -- without those clients
  abbrev w : Entry
  w = without_clients goes t e

  -- and without the node
  abbrev g : Entry
  g = without_node r w

  -- what looks neither at references nor at the last close is as it was
  same : {X : Type 0} (P : Entry → X) → ((e : Entry) (ns : List ℕ) (t : ℤ) → P (record e { references = ns; idle = t }) ≡ P e) → P (left_open goes t e) ≡ P e
  same P is = left_open-same goes t e P is

  -- so is the active
  active_was : w.active ≡ e.active
  active_was = same (λ (e : Entry). e.active) (λ e ns t. refl)

  -- whether the node was the active, or not
  by_active : (b : Bool) → is_active w.active r ≡ b → IsFailedEntry counts goes r e (cond b (led_anew counts g) g)
  by_active true is = record {
    identity = same (λ (e : Entry). e.identity) (λ e ns t. refl);
    attributes = same (λ (e : Entry). e.attributes) (λ e ns t. refl);
    since = same (λ (e : Entry). e.made) (λ e ns t. refl);
    making = same (λ (e : Entry). e.making) (λ e ns t. refl);
    complete = ap (λ cs. slice_set cs r 0) (same (λ (e : Entry). e.complete) (λ e ns t. refl));
    hold = refl;
    clients = left_open-clients goes t e;
    fewer = left_open-fewer goes t e;
    gone = λ was. (ap (λ a. next_active counts a g.complete) (same (λ (e : Entry). e.attributes) (λ e ns t. refl)), ap (λ n. n + 1) (same (λ (e : Entry). e.generation) (λ e ns t. refl)));
    led = λ not_it. absurd (let v : true ≡ false = sym is ∙ ap (λ o. is_active o r) active_was ∙ not_it in cc v);
  }
  by_active false is = record {
    identity = same (λ (e : Entry). e.identity) (λ e ns t. refl);
    attributes = same (λ (e : Entry). e.attributes) (λ e ns t. refl);
    since = same (λ (e : Entry). e.made) (λ e ns t. refl);
    making = same (λ (e : Entry). e.making) (λ e ns t. refl);
    complete = ap (λ cs. slice_set cs r 0) (same (λ (e : Entry). e.complete) (λ e ns t. refl));
    hold = refl;
    clients = left_open-clients goes t e;
    fewer = left_open-fewer goes t e;
    gone = λ was. absurd (let v : true ≡ false = sym was ∙ ap (λ o. is_active o r) (sym active_was) ∙ is in cc v);
    led = λ not_it. (active_was, same (λ (e : Entry). e.generation) (λ e ns t. refl));
  }

  -- what the failure leaves of the entry is such a one
  pub node_fails : IsFailedEntry counts goes r e (entry_failed counts r (without_clients goes t e))
  node_fails = by_active (is_active w.active r) refl

-- so the generation rises, or stays
pub failed_rises : (counts : ℕ → ℕ) (goes : ℕ → Bool) (r : ℕ) (e f : Entry) → IsFailedEntry counts goes r e f → e.generation ≤ f.generation
failed_rises counts goes r e f left = elim (is_active e.active r) as (λ b. is_active e.active r ≡ b → e.generation ≤ f.generation) [
  | true ↦ λ gone. let up : f.generation ≡ e.generation + 1 = (left.gone gone).1 in omega (arith, up)
  | false ↦ λ stays. let same : f.generation ≡ e.generation = (left.led stays).1 in omega (arith, same)
] refl

-- by one at most
pub failed_at_most : (counts : ℕ → ℕ) (goes : ℕ → Bool) (r : ℕ) (e f : Entry) → IsFailedEntry counts goes r e f → f.generation ≤ e.generation + 1
failed_at_most counts goes r e f left = elim (is_active e.active r) as (λ b. is_active e.active r ≡ b → f.generation ≤ e.generation + 1) [
  | true ↦ λ gone. let up : f.generation ≡ e.generation + 1 = (left.gone gone).1 in omega (arith, up)
  | false ↦ λ stays. let same : f.generation ≡ e.generation = (left.led stays).1 in omega (arith, same)
] refl

-- ---- the entries

module _ (counts : ℕ → ℕ → ℕ) (r : ℕ) (R : RecordState) (rises : IdentitiesRise R.entries) where
  -- the clients that go
  abbrev goes : ℕ → Bool
  goes = goes_with_node R r

  -- it is in the making by none of them
  abbrev stays_made : Entry → Bool
  stays_made e = not (is_of_those goes e.making)

  -- without them
  abbrev without : Entry → Entry
  without = without_clients goes R.moment

  -- and without the node
  abbrev fails : Entry → Entry
  fails e = entry_failed (counts e.identity) r e

  -- each keeps its identity
  without-identity : (e : Entry) → (without e).identity ≡ e.identity
  without-identity e = left_open-same goes R.moment e (λ (e : Entry). e.identity) (λ e ns t. refl)

  fails-identity : (e : Entry) → (fails e).identity ≡ e.identity
  fails-identity e = elim (is_active e.active r) as (λ b. (cond b (led_anew (counts e.identity) (without_node r e)) (without_node r e)).identity ≡ e.identity) [ true ↦ refl | false ↦ refl ]

  -- the record behind the failure
  abbrev pub then_record : RecordState
  then_record = swept (failed counts r R)

  -- identities rise still, behind each of its changes
  rises1 : IdentitiesRise (filter stays_made R.entries)
  rises1 = IdentitiesRise-filter stays_made R.entries rises

  rises2 : IdentitiesRise (map without (filter stays_made R.entries))
  rises2 = IdentitiesRise-map without without-identity (filter stays_made R.entries) rises1

  rises3 : IdentitiesRise (map fails (map without (filter stays_made R.entries)))
  rises3 = IdentitiesRise-map fails fails-identity (map without (filter stays_made R.entries)) rises2

  rises4 : IdentitiesRise (failed counts r R).entries
  rises4 = IdentitiesRise-filter survives (map fails (map without (filter stays_made R.entries))) rises3

  -- so they rise behind the failure
  pub then_rises : IdentitiesRise then_record.entries
  then_rises = IdentitiesRise-filter (stays R.moment) (failed counts r R).entries rises4

  -- up to the same one
  pub then_up_to : (n : ℕ) → AllUpTo n R.entries → AllUpTo n then_record.entries
  then_up_to n up_to =
      AllUpTo-filter (stays R.moment) n (failed counts r R).entries
      (AllUpTo-filter survives n (map fails (map without (filter stays_made R.entries)))
      (AllUpTo-map fails fails-identity n (map without (filter stays_made R.entries))
      (AllUpTo-map without without-identity n (filter stays_made R.entries) (AllUpTo-filter stays_made n R.entries up_to))))

  -- an entry that is there was there, in the making by none of those that go, and has a complete node unless it is in the making
  pub record Failed (k : ℕ) (f : Entry) : Type 0 where
    pub before : Entry
    pub was : entry_of k R.entries ≡ Some before
    pub left : IsFailedEntry (counts before.identity) goes r before f
    pub others : is_of_those goes before.making ≡ false
    pub kept : survives f ≡ true

  -- what is found was there so
  pub found_failed : (k : ℕ) (f : Entry) → entry_of k then_record.entries ≡ Some f → Failed k f
  found_failed k f found =
      let (found4, stay) = filter_back (stays R.moment) (failed counts r R).entries rises4 k f found in
      let (found3, keep) = filter_back survives (map fails (map without (filter stays_made R.entries))) rises3 k f found4 in
      let (g, found2, f_is) = ComesOf-map (λ e f. f ≡ fails e) fails fails-identity (λ e. refl) (map without (filter stays_made R.entries)) k f found3 in
      let (e, found1, g_is) = ComesOf-map (λ e f. f ≡ without e) without without-identity (λ e. refl) (filter stays_made R.entries) k g found2 in
      let (found0, other) = filter_back stays_made R.entries rises k e found1 in
      let is : f ≡ entry_failed (counts e.identity) r (without e) = f_is ∙ ap fails g_is ∙ ap (λ i. entry_failed (counts i) r (without e)) (without-identity e) in
      record { before = e; was = found0; left = subst (IsFailedEntry (counts e.identity) goes r e) (sym is) (node_fails (counts e.identity) goes r R.moment e); others = not-true (is_of_those goes e.making) other; kept = keep }

  -- one in the making by another is there still
  pub making_left : (k : ℕ) (e : Entry) → entry_of k R.entries ≡ Some e → IsSome e.making → is_of_those goes e.making ≡ false → IsSome (entry_of k then_record.entries)
  making_left k e was some other =
      let found1 = found_filter stays_made k R.entries e was (ap not other) in
      let found3 = found_map fails fails-identity k (map without (filter stays_made R.entries)) (without e) (found_map without without-identity k (filter stays_made R.entries) e found1) in
      let is : fails (without e) ≡ entry_failed (counts e.identity) r (without e) = ap (λ i. entry_failed (counts i) r (without e)) (without-identity e) in
      let made : is_some (fails (without e)).making ≡ true = ap (λ (x : Entry). is_some x.making) is ∙ ap is_some (node_fails (counts e.identity) goes r R.moment e).making ∙ some in
      let found4 = found_filter survives k (map fails (map without (filter stays_made R.entries))) (fails (without e)) found3 (ap (λ b. b || is_some (first_complete 0 (fails (without e)).complete)) made) in
      ap is_some (found_filter (stays R.moment) k (failed counts r R).entries (fails (without e)) found4 (making_stays R.moment (fails (without e)) made))
