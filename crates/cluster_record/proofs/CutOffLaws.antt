-- The clients of a node are cut off one after the other: each leaves, and its holds end.
use Rattle.std.proofs.Common.{◌≡◌, ◌≢◌, ℕ, ◌+◌, ◌<◌, zero, suc, List, [], ◌∷◌, length, map, filter, Option, Some, None, Bool, true, false, cond, not, ◌==◌, ◌||◌, refl, sym, ap, subst, ◌∙◌, arith, eqb-true, eq-eqb, ne_eqb}
use Rattle.std.specs.Prelude.{ℤ, slice_index, slice_index_or, slice_set}
use Rattle.std.specs.List.{list_any}
use Rattle.std.proofs.lemmas.Option.{same_Some}
use Rattle.ckpt_types.specs.declared.identities.ActorName.{ActorName}
use Rattle.ckpt_types.specs.declared.identities.ActorName.TheVariants.{Client, Node}
use Rattle.ckpt_types.specs.declared.identities.CallId.{CallId}
use Rattle.cluster_record.specs.declared.clients.LiveClient.{LiveClient}
use Rattle.cluster_record.specs.declared.entries.Entry.{Entry}
use Rattle.cluster_record.specs.Failing.{lives_on, goes_with_node, is_of_those, references_left, left_open, without_clients, cut_off, first_on, unheld_by, holds_ended}
use Rattle.cluster_record.specs.Kept.{EachClientOnce}
use Rattle.cluster_record.specs.Places.{find_key}
use Rattle.cluster_record.specs.RecordState.{RecordState, client_key, has_references, idle_from, released_all, is_call_of, departed}
use Rattle.cluster_record.proofs.Places.{tests_differ}
use Rattle.ckpt_types.proofs.Lists.{length-filter_le}

-- ---- references

abbrev some : ℕ → Bool
some n = not (n == 0)

-- a client has the checkpoint open, so some client has
some-open : (ns : List ℕ) (c : ℕ) → (slice_index ns c == 0) ≡ false → list_any some ns ≡ true
some-open [] c is = absurd cc
some-open (n ∷ ns) zero is = ap (λ b. not b || list_any some ns) is
some-open (n ∷ ns) (suc c) is = rw (some-open ns c is) (either (some n)) where
  either : (b : Bool) → (b || true) ≡ true
  either true = refl
  either false = refl

-- nobody has it open where nobody had
none-left : (goes : ℕ → Bool) (m : ℕ) (ns : List ℕ) → list_any some ns ≡ false → list_any some (references_left goes m ns) ≡ false
none-left goes m [] none = refl
none-left goes m (n ∷ ns) none = by (none-left goes (m + 1) ns) (some n) (list_any some ns) refl refl none where
  by : (list_any some ns ≡ false → list_any some (references_left goes (m + 1) ns) ≡ false) → (a b : Bool) → some n ≡ a → list_any some ns ≡ b → (a || b) ≡ false → list_any some (references_left goes m (n ∷ ns)) ≡ false
  by more true b first rest none = absurd cc
  by more false true first rest none = absurd cc
  by more false false first rest none = elim (goes m) as (λ b. (some (cond b 0 n) || list_any some (references_left goes (m + 1) ns)) ≡ false) [
    | true ↦ more rest
    | false ↦ ap (λ b. b || list_any some (references_left goes (m + 1) ns)) first ∙ more rest
  ]

-- what is 0 is set to 0
set-zero : (ns : List ℕ) (c : ℕ) → slice_index ns c ≡ 0 → slice_set ns c 0 ≡ ns
set-zero [] c is = refl
set-zero (n ∷ ns) zero is = ap (λ n. n ∷ ns) (sym is)
set-zero (n ∷ ns) (suc c) is = ap (λ ns. n ∷ ns) (set-zero ns c is)

-- ---- no client goes

module _ (goes : ℕ → Bool) (none : (c : ℕ) → goes c ≡ false) where
  all-left : (m : ℕ) (ns : List ℕ) → references_left goes m ns ≡ ns
  all-left m [] = refl
  all-left m (n ∷ ns) = ap (λ b. cond b 0 n ∷ references_left goes (m + 1) ns) (none m) ∙ ap (λ ns. n ∷ ns) (all-left (m + 1) ns)

  none-of-those : (o : Option CallId) → is_of_those goes o ≡ false
  none-of-those None = refl
  none-of-those (Some call) = by call.actor where
    by : (a : ActorName) → is_of_those goes (Some (record { actor = a; number = call.number })) ≡ false
    by (Client c) = none c
    by (Node r) = refl

  same-open : (t : ℤ) (e : Entry) → left_open goes t e ≡ e
  same-open t e =
      let same : record e { references = references_left goes 0 e.references } ≡ e = ap (λ ns. record e { references = ns }) (all-left 0 e.references) in
      ap (λ f. cond (has_references e) (idle_from t f) f) same
      ∙ elim (has_references e) as (λ b. cond b (cond b e (record e { idle = t })) e ≡ e) [ true ↦ refl | false ↦ refl ]

  same-entry : (t : ℤ) (e : Entry) → without_clients goes t e ≡ e
  same-entry t e =
      ap (λ b. record (left_open goes t e) { hold = cond b None e.hold }) (none-of-those e.hold)
      ∙ ap (λ (f : Entry). record f { hold = e.hold }) (same-open t e)

  same-entries : (t : ℤ) (es : List Entry) → map (without_clients goes t) (filter (λ e. not (is_of_those goes e.making)) es) ≡ es
  same-entries t [] = refl
  same-entries t (e ∷ es) =
      ap (λ b. map (without_clients goes t) (cond (not b) (e ∷ filter (λ e. not (is_of_those goes e.making)) es) (filter (λ e. not (is_of_those goes e.making)) es))) (none-of-those e.making)
      ∙ ap (λ e. e ∷ map (without_clients goes t) (filter (λ e. not (is_of_those goes e.making)) es)) (same-entry t e)
      ∙ ap (λ es. e ∷ es) (same-entries t es)

  same-clients : (cs : List LiveClient) → filter (λ live. not (goes (client_key live))) cs ≡ cs
  same-clients [] = refl
  same-clients (c ∷ cs) =
      ap (λ b. cond (not b) (c ∷ filter (λ live. not (goes (client_key live))) cs) (filter (λ live. not (goes (client_key live))) cs)) (none (client_key c))
      ∙ ap (λ cs. c ∷ cs) (same-clients cs)

  cut_off-none : (R : RecordState) → cut_off goes R ≡ R
  cut_off-none R =
      ap (λ cs. record R { clients = cs; entries = map (without_clients goes R.moment) (filter (λ e. not (is_of_those goes e.making)) R.entries) }) (same-clients R.clients)
      ∙ ap (λ es. record R { entries = es }) (same-entries R.moment R.entries)

-- ---- one client goes, and the others behind it

module _ (goes later : ℕ → Bool) (c : ℕ) (own : goes c ≡ true) (others : (d : ℕ) → (d == c) ≡ false → goes d ≡ later d) where
  left-above : (m : ℕ) (ns : List ℕ) → c < m → references_left later m ns ≡ references_left goes m ns
  left-above m [] above = refl
  left-above m (n ∷ ns) above =
      ap (λ b. cond b 0 n ∷ references_left later (m + 1) ns) (sym (others m (tests_differ m c (λ same. omega (arith, same, above)))))
      ∙ ap (λ ns. cond (goes m) 0 n ∷ ns) (left-above (m + 1) ns (omega (arith, above)))

  left-set : (m p : ℕ) (ns : List ℕ) → c ≡ m + p → references_left later m (slice_set ns p 0) ≡ references_left goes m ns
  left-set m p [] at = refl
  left-set m zero (n ∷ ns) at =
      let here : m ≡ c = omega (arith, at) in
      let gone : goes m ≡ true = ap goes here ∙ own in
      let behind : c < m + 1 = omega (arith, here) in
      elim (later m) as (λ b. (cond b 0 0 ∷ references_left later (m + 1) ns) ≡ (0 ∷ references_left goes (m + 1) ns)) [
        | true ↦ ap (λ ns. 0 ∷ ns) (left-above (m + 1) ns behind)
        | false ↦ ap (λ ns. 0 ∷ ns) (left-above (m + 1) ns behind)
      ]
      ∙ ap (λ b. cond b 0 n ∷ references_left goes (m + 1) ns) (sym gone)
  left-set m (suc p) (n ∷ ns) at =
      ap (λ b. cond b 0 n ∷ references_left later (m + 1) (slice_set ns p 0)) (sym (others m (tests_differ m c (λ same. omega (arith, same, at)))))
      ∙ ap (λ ns. cond (goes m) 0 n ∷ ns) (left-set (m + 1) p ns (omega (arith, at)))

  -- what is left of the references of an entry, and its last close
  open-step : (t : ℤ) (e : Entry) → left_open later t (released_all c t e) ≡ left_open goes t e
  open-step t e = by (slice_index e.references c == 0) refl where
    ns : List ℕ
    ns = slice_set e.references c 0

    f : List ℕ → Entry
    f left = record e { references = left }

    left : references_left later 0 ns ≡ references_left goes 0 e.references
    left = left-set 0 c e.references (omega arith)

    by_rest : list_any some e.references ≡ true → (b : Bool) → list_any some ns ≡ b → left_open later t (cond b (f ns) (record (f ns) { idle = t })) ≡ left_open goes t e
    by_rest had true is =
        ap (λ b. cond b (idle_from t (f (references_left later 0 ns))) (f (references_left later 0 ns))) is
        ∙ ap (λ left. idle_from t (f left)) left
        ∙ ap (λ b. cond b (idle_from t (f (references_left goes 0 e.references))) (f (references_left goes 0 e.references))) (sym had)
    by_rest had false is =
        let none : list_any some (references_left goes 0 e.references) ≡ false = subst (λ ns. list_any some ns ≡ false) left (none-left later 0 ns is) in
        ap (λ b. cond b (idle_from t (record (f (references_left later 0 ns)) { idle = t })) (record (f (references_left later 0 ns)) { idle = t })) is
        ∙ ap (λ left. record (f left) { idle = t }) left
        ∙ ap (λ b. cond b (f (references_left goes 0 e.references)) (record (f (references_left goes 0 e.references)) { idle = t })) (sym none)
        ∙ ap (λ b. cond b (idle_from t (f (references_left goes 0 e.references))) (f (references_left goes 0 e.references))) (sym had)

    by : (b : Bool) → (slice_index e.references c == 0) ≡ b → left_open later t (cond b e (idle_from t (f ns))) ≡ left_open goes t e
    by true is =
        let same : references_left later 0 e.references ≡ references_left goes 0 e.references = ap (references_left later 0) (sym (set-zero e.references c (eqb-true (slice_index e.references c) 0 is))) ∙ left in
        ap (λ left. cond (has_references e) (idle_from t (f left)) (f left)) same
    by false is = by_rest (some-open e.references c is) (list_any some ns) refl

  -- a call of this client goes, and of the others one that is of those
  of-step : (o : Option CallId) → is_call_of c o ≡ false → is_of_those later o ≡ is_of_those goes o
  of-step None other = refl
  of-step (Some call) other = by call.actor other where
    by : (a : ActorName) → is_call_of c (Some (record { actor = a; number = call.number })) ≡ false → is_of_those later (Some (record { actor = a; number = call.number })) ≡ is_of_those goes (Some (record { actor = a; number = call.number }))
    by (Client d) other = sym (others d other)
    by (Node r) other = refl

  of-own : (o : Option CallId) → is_call_of c o ≡ true → is_of_those goes o ≡ true
  of-own None is = absurd cc
  of-own (Some call) is = by call.actor is where
    by : (a : ActorName) → is_call_of c (Some (record { actor = a; number = call.number })) ≡ true → is_of_those goes (Some (record { actor = a; number = call.number })) ≡ true
    by (Client d) is = ap goes (eqb-true d c is) ∙ own
    by (Node r) is = absurd cc

  hold-step : (o : Option CallId) → cond (is_of_those later (cond (is_call_of c o) None o)) None (cond (is_call_of c o) None o) ≡ cond (is_of_those goes o) None o
  hold-step o = by (is_call_of c o) refl where
    by : (b : Bool) → is_call_of c o ≡ b → cond (is_of_those later (cond b None o)) None (cond b None o) ≡ cond (is_of_those goes o) None o
    by true is = ap (λ b. cond b None o) (sym (of-own o is))
    by false is = ap (λ b. cond b None o) (of-step o is)

  -- a hold tells nothing of what is left open
  open-held : (t : ℤ) (e : Entry) (x y : Option CallId) → record (left_open later t (record e { hold = x })) { hold = y } ≡ record (left_open later t e) { hold = y }
  open-held t e x y =
      let f : Entry = record e { references = references_left later 0 e.references } in
      elim (has_references e) as (λ b. record (cond b (idle_from t (record f { hold = x })) (record f { hold = x })) { hold = y } ≡ record (cond b (idle_from t f) f) { hold = y }) [
        | true ↦ elim (has_references f) as (λ b. record (cond b (record f { hold = x }) (record f { hold = x; idle = t })) { hold = y } ≡ record (cond b f (record f { idle = t })) { hold = y }) [ true ↦ refl | false ↦ refl ]
        | false ↦ refl
      ]

  -- what looks neither at references nor at the last close
  released-same : {X : Type 0} (P : Entry → X) → ((e : Entry) (ns : List ℕ) (t : ℤ) → P (record e { references = ns; idle = t }) ≡ P e) → (t : ℤ) (e : Entry) → P (released_all c t e) ≡ P e
  released-same {X} P same t e =
      let f : Entry = record e { references = slice_set e.references c 0 } in
      elim (slice_index e.references c == 0) as (λ b. P (cond b e (idle_from t f)) ≡ P e) [
        | true ↦ refl
        | false ↦ elim (has_references f) as (λ b. P (cond b f (record f { idle = t })) ≡ P e) [ true ↦ same e (slice_set e.references c 0) e.idle | false ↦ same e (slice_set e.references c 0) t ]
      ]

  entry-step : (t : ℤ) (e : Entry) → without_clients later t (unheld_by c (released_all c t e)) ≡ without_clients goes t e
  entry-step t e =
      let left : Entry = released_all c t e in
      let held : left.hold ≡ e.hold = released-same (λ (e : Entry). e.hold) (λ e ns t. refl) t e in
      let after : Option CallId → Option CallId = λ o. cond (is_call_of c o) None o in
      open-held t left (after left.hold) (cond (is_of_those later (after left.hold)) None (after left.hold))
      ∙ ap (λ (f : Entry). record f { hold = cond (is_of_those later (after left.hold)) None (after left.hold) }) (open-step t e)
      ∙ ap (λ o. record (left_open goes t e) { hold = cond (is_of_those later (after o)) None (after o) }) held
      ∙ ap (λ o. record (left_open goes t e) { hold = o }) (hold-step e.hold)

  abbrev stay : (ℕ → Bool) → List Entry → List Entry
  stay those es = filter (λ e. not (is_of_those those e.making)) es

  abbrev behind : ℤ → List Entry → List Entry
  behind t es = map (unheld_by c) (map (released_all c t) (filter (λ e. not (is_call_of c e.making)) es))

  abbrev SameEntries : ℤ → List Entry → Type 0
  SameEntries t es = map (without_clients later t) (stay later (behind t es)) ≡ map (without_clients goes t) (stay goes es)

  entries-cons : (t : ℤ) (e : Entry) (es : List Entry) → SameEntries t es → SameEntries t (e ∷ es)
  entries-cons t e es rest = by (is_call_of c e.making) refl where
    left : Entry
    left = unheld_by c (released_all c t e)

    made : left.making ≡ e.making
    made = released-same (λ (e : Entry). e.making) (λ e ns t. refl) t e

    by_test : (b : Bool) → map (without_clients later t) (cond (not b) (left ∷ stay later (behind t es)) (stay later (behind t es))) ≡ map (without_clients goes t) (cond (not b) (e ∷ stay goes es) (stay goes es))
    by_test true = rest
    by_test false = ap (λ x. x ∷ map (without_clients later t) (stay later (behind t es))) (entry-step t e) ∙ ap (λ xs. without_clients goes t e ∷ xs) rest

    by : (b : Bool) → is_call_of c e.making ≡ b → map (without_clients later t) (stay later (map (unheld_by c) (map (released_all c t) (cond (not b) (e ∷ filter (λ e. not (is_call_of c e.making)) es) (filter (λ e. not (is_call_of c e.making)) es))))) ≡ map (without_clients goes t) (stay goes (e ∷ es))
    by true is = rest ∙ ap (λ b. map (without_clients goes t) (cond (not b) (e ∷ stay goes es) (stay goes es))) (sym (of-own e.making is))
    by false is =
        ap (λ b. map (without_clients later t) (cond (not b) (left ∷ stay later (behind t es)) (stay later (behind t es)))) (ap (is_of_those later) made ∙ of-step e.making is)
        ∙ by_test (is_of_those goes e.making)

  entries-step : (t : ℤ) (es : List Entry) → SameEntries t es
  entries-step t [] = refl
  entries-step t (e ∷ es) = entries-cons t e es (entries-step t es)

  abbrev SameClients : List LiveClient → Type 0
  SameClients cs = filter (λ live. not (later (client_key live))) (filter (λ live. not (client_key live == c)) cs) ≡ filter (λ live. not (goes (client_key live))) cs

  clients-cons : (x : LiveClient) (cs : List LiveClient) → SameClients cs → SameClients (x ∷ cs)
  clients-cons x cs rest = by (client_key x == c) refl where
    gone : (client_key x == c) ≡ true → goes (client_key x) ≡ true
    gone is = ap goes (eqb-true (client_key x) c is) ∙ own

    by : (b : Bool) → (client_key x == c) ≡ b → filter (λ live. not (later (client_key live))) (cond (not b) (x ∷ filter (λ live. not (client_key live == c)) cs) (filter (λ live. not (client_key live == c)) cs)) ≡ filter (λ live. not (goes (client_key live))) (x ∷ cs)
    by true is = rest ∙ ap (λ b. cond (not b) (x ∷ filter (λ live. not (goes (client_key live))) cs) (filter (λ live. not (goes (client_key live))) cs)) (sym (gone is))
    by false is =
        ap (λ b. cond (not b) (x ∷ filter (λ live. not (later (client_key live))) (filter (λ live. not (client_key live == c)) cs)) (filter (λ live. not (later (client_key live))) (filter (λ live. not (client_key live == c)) cs))) (sym (others (client_key x) is))
        ∙ ap (λ cs. cond (not (goes (client_key x))) (x ∷ cs) cs) rest

  clients-step : (cs : List LiveClient) → SameClients cs
  clients-step [] = refl
  clients-step (x ∷ cs) = clients-cons x cs (clients-step cs)

  cut_off-step : (R : RecordState) → cut_off later (holds_ended c (departed c R)) ≡ cut_off goes R
  cut_off-step R =
      ap (λ cs. record R { clients = cs; entries = map (without_clients later R.moment) (stay later (behind R.moment R.entries)) }) (clients-step R.clients)
      ∙ ap (λ es. record R { clients = filter (λ live. not (goes (client_key live))) R.clients; entries = es }) (entries-step R.moment R.entries)

-- ---- the clients of a node

module _ (r : ℕ) where
  -- where none is on the node, none goes with it
  none-on : (cs : List LiveClient) → first_on r cs ≡ None → (c : ℕ) → lives_on r (find_key client_key c cs) ≡ false
  none-on [] none c = refl
  none-on (x ∷ cs) none c = by (λ none. none-on cs none c) (x.node == r) refl none where
    by : (first_on r cs ≡ None → lives_on r (find_key client_key c cs) ≡ false) → (b : Bool) → (x.node == r) ≡ b → cond b (Some x.client) (first_on r cs) ≡ None → lives_on r (cond (client_key x == c) (Some x) (find_key client_key c cs)) ≡ false
    by more true is none = absurd cc
    by more false is none = elim (client_key x == c) as (λ b. lives_on r (cond b (Some x) (find_key client_key c cs)) ≡ false) [ true ↦ is | false ↦ more none ]

  -- the first stands at a place
  first-at : (cs : List LiveClient) (c : ℕ) → first_on r cs ≡ Some c → (j : ℕ) × (j < length cs) × ((d : LiveClient) → client_key (slice_index_or cs j d) ≡ c)
  first-at [] c is = absurd cc
  first-at (x ∷ cs) c is = by (x.node == r) is (first-at cs c) where
    by : (b : Bool) → cond b (Some x.client) (first_on r cs) ≡ Some c → (first_on r cs ≡ Some c → (j : ℕ) × (j < length cs) × ((d : LiveClient) → client_key (slice_index_or cs j d) ≡ c)) → (j : ℕ) × (j < length (x ∷ cs)) × ((d : LiveClient) → client_key (slice_index_or (x ∷ cs) j d) ≡ c)
    by true is more = (zero, omega arith, λ d. same_Some x.client c is)
    by false is more = let f = more is in (suc f.0, (let within : f.0 < length cs = f.1 in omega (arith, within)), f.2)

  -- and goes with the node
  first-goes : (cs : List LiveClient) (c : ℕ) → EachClientOnce cs → first_on r cs ≡ Some c → lives_on r (find_key client_key c cs) ≡ true
  first-goes [] c once is = absurd cc
  first-goes (x ∷ cs) c once is = by (first-goes cs c behind) (x.node == r) refl is where
    behind : EachClientOnce cs
    behind i j d before within = once (suc i) (suc j) d (omega (arith, before)) (omega (arith, within))

    apart : first_on r cs ≡ Some c → client_key x ≢ c
    apart there same = let f = first-at cs c there in once zero (suc f.0) x (omega arith) (let within : f.0 < length cs = f.1 in omega (arith, within)) (same ∙ sym (f.2 x))

    by : (first_on r cs ≡ Some c → lives_on r (find_key client_key c cs) ≡ true) → (b : Bool) → (x.node == r) ≡ b → cond b (Some x.client) (first_on r cs) ≡ Some c → lives_on r (cond (client_key x == c) (Some x) (find_key client_key c cs)) ≡ true
    by more true on is = ap (λ b. lives_on r (cond b (Some x) (find_key client_key c cs))) (eq-eqb (client_key x) c (same_Some x.client c is)) ∙ on
    by more false on is = ap (λ b. lives_on r (cond b (Some x) (find_key client_key c cs))) (ne_eqb (client_key x) c (apart is)) ∙ more is

  -- where one leaves, the others go with the node as before
  abbrev GoesAlike : ℕ → ℕ → List LiveClient → Type 0
  GoesAlike c d cs = lives_on r (find_key client_key d cs) ≡ lives_on r (find_key client_key d (filter (λ live. not (client_key live == c)) cs))

  others-cons : (x : LiveClient) (cs : List LiveClient) (c d : ℕ) → (d == c) ≡ false → GoesAlike c d cs → GoesAlike c d (x ∷ cs)
  others-cons x cs c d other rest = by (client_key x == c) refl where
    apart : client_key x ≡ c → (client_key x == d) ≡ false
    apart is = tests_differ (client_key x) d (λ same. absurd (let w : true ≡ false = sym (eq-eqb d c (sym same ∙ is)) ∙ other in cc))

    by : (b : Bool) → (client_key x == c) ≡ b → lives_on r (cond (client_key x == d) (Some x) (find_key client_key d cs)) ≡ lives_on r (find_key client_key d (cond (not b) (x ∷ filter (λ live. not (client_key live == c)) cs) (filter (λ live. not (client_key live == c)) cs)))
    by true is = ap (λ b. lives_on r (cond b (Some x) (find_key client_key d cs))) (apart (eqb-true (client_key x) c is)) ∙ rest
    by false is = elim (client_key x == d) as (λ b. lives_on r (cond b (Some x) (find_key client_key d cs)) ≡ lives_on r (cond b (Some x) (find_key client_key d (filter (λ live. not (client_key live == c)) cs)))) [ true ↦ refl | false ↦ rest ]

  others-go : (cs : List LiveClient) (c d : ℕ) → (d == c) ≡ false → GoesAlike c d cs
  others-go [] c d other = refl
  others-go (x ∷ cs) c d other = others-cons x cs c d other (others-go cs c d other)

  -- there is one fewer then, or more
  one-fewer : (cs : List LiveClient) (c : ℕ) → first_on r cs ≡ Some c → length (filter (λ live. not (client_key live == c)) cs) < length cs
  one-fewer [] c is = absurd cc
  one-fewer (x ∷ cs) c is = by (x.node == r) is (one-fewer cs c) where
    p : LiveClient → Bool
    p live = not (client_key live == c)

    by : (b : Bool) → cond b (Some x.client) (first_on r cs) ≡ Some c → (first_on r cs ≡ Some c → length (filter p cs) < length cs) → length (filter p (x ∷ cs)) < length (x ∷ cs)
    by true is more =
        let dropped : length (filter p (x ∷ cs)) ≡ length (filter p cs) = ap (λ b. length (cond (not b) (x ∷ filter p cs) (filter p cs))) (eq-eqb (client_key x) c (same_Some x.client c is)) in
        omega (arith, dropped, length-filter_le p cs)
    by false is more =
        let less : length (filter p cs) < length cs = more is in
        elim (p x) as (λ b. length (cond b (x ∷ filter p cs) (filter p cs)) < length (x ∷ cs)) [ true ↦ omega (arith, less) | false ↦ omega (arith, less) ]

-- where no client is on the node, all are cut off
pub cut_off-end : (r : ℕ) (R : RecordState) → first_on r R.clients ≡ None → cut_off (goes_with_node R r) R ≡ R
cut_off-end r R none = cut_off-none (goes_with_node R r) (none-on r R.clients none) R

-- the first leaves, and its holds end: the others are left to do
pub cut_off-next : (r c : ℕ) (R : RecordState) → EachClientOnce R.clients → first_on r R.clients ≡ Some c → cut_off (goes_with_node (holds_ended c (departed c R)) r) (holds_ended c (departed c R)) ≡ cut_off (goes_with_node R r) R
cut_off-next r c R once is = cut_off-step (goes_with_node R r) (goes_with_node (holds_ended c (departed c R)) r) c (first-goes r R.clients c once is) (others-go r R.clients c) R

-- so it ends
pub fewer-clients : (r c : ℕ) (R : RecordState) → first_on r R.clients ≡ Some c → length (holds_ended c (departed c R)).clients < length R.clients
fewer-clients r c R is = one-fewer r R.clients c is
