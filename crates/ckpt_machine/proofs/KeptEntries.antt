-- What a step of the record leaves of the entries: in which part each is as it was, and whether any is gone.
use Rattle.std.proofs.Common.{◌≡◌, ◌⊎◌, inl, inr, ℕ, suc, ◌+◌, ◌-◌, ◌≤◌, ℤ, Bool, true, false, cond, List, [], ◌∷◌, ◌++◌, length, map, refl, sym, ap, subst, ◌∙◌, arith}
use Rattle.std.specs.Prelude.{Option, Some, None, not, ◌==◌, filter, slice_index, slice_set}
use Rattle.std.specs.Option.{option_map}
use Rattle.std.proofs.lemmas.Bool.{eq-eqb}
use Rattle.std.proofs.lemmas.List.{length-map}
use Rattle.std.proofs.lemmas.List.Sums.{length-filter, count_by-le-length}
use Rattle.ckpt_types.specs.declared.attributes.CreationAttributes.{CreationAttributes}
use Rattle.ckpt_types.specs.declared.identities.CallId.{CallId}
use Rattle.node_msgs.specs.declared.next.RecordStep.{RecordStep}
use Rattle.node_msgs.specs.declared.next.RecordStep.TheVariants as events
use Rattle.cluster_record.specs.declared.clients.LiveClient.{LiveClient}
use Rattle.cluster_record.specs.declared.entries.Entry.{Entry}
use Rattle.cluster_record.specs.Calls.{client_of}
use Rattle.cluster_record.specs.DueOnce.{OneStep}
use Rattle.cluster_record.specs.DueOnce as once
use Rattle.cluster_record.specs.DueOpen.{making_ckpt}
use Rattle.cluster_record.specs.Identities.{AllUpTo, IdentitiesRise}
use Rattle.cluster_record.specs.Joining.{completed_on}
use Rattle.cluster_record.specs.LookUps.{at_ckpt, identity_in}
use Rattle.cluster_record.specs.Places.{change_key}
use Rattle.cluster_record.specs.RecordState.{RecordState, client_key, identity_of, entry_of, named, stays, has_references, home_of, made_with, new_entry, created_as, opened, opened_with, finished, undone, idle_from, unreferred, released_all, unnamed, unlinked, retaining, is_call_of, departed, can_be_held, with_hold, can_lead, generation_under, with_active, swept}
use Rattle.cluster_record.proofs.IdentityLaws.{IsLeft, KeepsIdentity, entry_of-beyond, IdentitiesRise-filter, IdentitiesRise-map, IdentitiesRise-change_key, IdentitiesRise-push, filter_leaves}
use Rattle.cluster_record.proofs.JoinLaws.{rest_stays}
use Rattle.cluster_record.proofs.Places.{find_pushed}
use Rattle.ckpt_machine.specs.Drivers.{Driver}
use Rattle.ckpt_machine.specs.Drivers as drivers
use Rattle.ckpt_machine.proofs.Joining.{joined-attributes, opened_with-identity}
use Rattle.ckpt_machine.specs.RecordAfter.{once_change, event_change, event_after}

-- ---- what is left of a list

-- the second is gone, or is the first
abbrev pub IsKept : {X : Type 0} → Option X → Option X → Type 0
IsKept old new = (new ≡ None) ⊎ (new ≡ old)

kept_on : {X : Type 0} (old mid new : Option X) → IsKept old mid → IsKept mid new → IsKept old new
kept_on old mid new before (inl none) = inl none
kept_on old mid new (inl gone) (inr same) = inl (same ∙ gone)
kept_on old mid new (inr same) (inr again) = inr (again ∙ same)

-- where a filter leaves no fewer, it leaves all
pub left_whole : {X : Type 0} (p : X → Bool) (xs : List X) → length xs ≤ length (filter p xs) → filter p xs ≡ xs
left_whole p [] no_fewer = refl
left_whole p (x ∷ xs) no_fewer = by_test (λ fewer. left_whole p xs fewer) (p x) no_fewer
  where
    few : length (filter p xs) ≤ length xs
    few = subst (λ n. n ≤ length xs) (sym (length-filter p xs)) (count_by-le-length p xs)

    by_test : (length xs ≤ length (filter p xs) → filter p xs ≡ xs) → (b : Bool) → suc (length xs) ≤ length (cond b (x ∷ filter p xs) (filter p xs)) → cond b (x ∷ filter p xs) (filter p xs) ≡ x ∷ xs
    by_test rest true no_fewer = ap (λ ys. x ∷ ys) (rest (omega (arith, no_fewer)))
    by_test rest false no_fewer = absurd (omega (arith, few, no_fewer))

module _ {X : Type 0} (part : Entry → X) where
  -- this part of an entry, as long as the entry is there
  abbrev pub part_of : ℕ → List Entry → Option X
  part_of j xs = option_map part (entry_of j xs)

  -- each that is there was there, and is as it was in this part; no more are left, and where as many are, none is gone
  pub record Keeps (xs ys : List Entry) : Type 0 where
    pub rises : IdentitiesRise ys
    pub each : (j : ℕ) → IsKept (part_of j xs) (part_of j ys)
    pub fewer : length ys ≤ length xs
    pub all : length xs ≤ length ys → (j : ℕ) → part_of j ys ≡ part_of j xs

  pub kept_all : (xs : List Entry) → IdentitiesRise xs → Keeps xs xs
  kept_all xs rises = record { rises = rises; each = λ j. inr refl; fewer = omega (arith); all = λ no_fewer j. refl }

  pub kept_then : (xs ys zs : List Entry) → Keeps xs ys → Keeps ys zs → Keeps xs zs
  kept_then xs ys zs first second =
      let a : length ys ≤ length xs = first.fewer in
      let b : length zs ≤ length ys = second.fewer in
      record {
        rises = second.rises;
        each = λ j. kept_on (part_of j xs) (part_of j ys) (part_of j zs) (first.each j) (second.each j);
        fewer = omega (arith, a, b);
        all = λ no_fewer j. second.all (omega (arith, a, no_fewer)) j ∙ first.all (omega (arith, b, no_fewer)) j;
      }

  left_case : (old new : Option Entry) → IsLeft old new → IsKept (option_map part old) (option_map part new)
  left_case old new (inl none) = inl (ap (option_map part) none)
  left_case old new (inr same) = inr (ap (option_map part) same)

  -- some are left out
  pub kept_filter : (p : Entry → Bool) (xs : List Entry) → IdentitiesRise xs → Keeps xs (filter p xs)
  kept_filter p xs rises = record {
    rises = IdentitiesRise-filter p xs rises;
    each = λ j. left_case (entry_of j xs) (entry_of j (filter p xs)) (filter_leaves p xs rises j);
    fewer = subst (λ n. n ≤ length xs) (sym (length-filter p xs)) (count_by-le-length p xs);
    all = λ no_fewer j. ap (part_of j) (left_whole p xs no_fewer);
  }

  module _ (f : Entry → Entry) (same : KeepsIdentity f) (kept : (e : Entry) → part (f e) ≡ part e) where
    kept_case : (b : Bool) (x y : Entry) (o p : Option Entry) → part x ≡ part y → option_map part o ≡ option_map part p → option_map part (cond b (Some x) o) ≡ option_map part (cond b (Some y) p)
    kept_case true x y o p is rest = ap Some is
    kept_case false x y o p is rest = rest

    changed_case : (j : ℕ) (x : Entry) (o p : Option Entry) → option_map part o ≡ option_map part p → option_map part (cond ((f x).identity == j) (Some (f x)) o) ≡ option_map part (cond (x.identity == j) (Some x) p)
    changed_case j x o p rest = ap (λ n. option_map part (cond (n == j) (Some (f x)) o)) (same x) ∙ kept_case (x.identity == j) (f x) x o p (kept x) rest

    changed_parts : (k j : ℕ) (xs : List Entry) → part_of j (change_key identity_of k f xs) ≡ part_of j xs
    changed_parts k j [] = refl
    changed_parts k j (x ∷ xs) = elim (x.identity == k) as (λ b. part_of j (cond b (f x ∷ xs) (x ∷ change_key identity_of k f xs)) ≡ part_of j (x ∷ xs)) [
      | true ↦ changed_case j x (entry_of j xs) (entry_of j xs) refl
      | false ↦ kept_case (x.identity == j) x x (entry_of j (change_key identity_of k f xs)) (entry_of j xs) refl (changed_parts k j xs)
    ]

    as_many_changed : (k : ℕ) (xs : List Entry) → length (change_key identity_of k f xs) ≡ length xs
    as_many_changed k [] = refl
    as_many_changed k (x ∷ xs) = elim (x.identity == k) as (λ b. length (cond b (f x ∷ xs) (x ∷ change_key identity_of k f xs)) ≡ length (x ∷ xs)) [ true ↦ refl | false ↦ ap suc (as_many_changed k xs) ]

    mapped_parts : (j : ℕ) (xs : List Entry) → part_of j (map f xs) ≡ part_of j xs
    mapped_parts j [] = refl
    mapped_parts j (x ∷ xs) = changed_case j x (entry_of j (map f xs)) (entry_of j xs) (mapped_parts j xs)

    -- one is changed
    pub kept_change : (k : ℕ) (xs : List Entry) → IdentitiesRise xs → Keeps xs (change_key identity_of k f xs)
    kept_change k xs rises =
        let as_many : length (change_key identity_of k f xs) ≡ length xs = as_many_changed k xs in
        record { rises = IdentitiesRise-change_key f same k xs rises; each = λ j. inr (changed_parts k j xs); fewer = omega (arith, as_many); all = λ no_fewer j. changed_parts k j xs }

    -- each is changed
    pub kept_map : (xs : List Entry) → IdentitiesRise xs → Keeps xs (map f xs)
    kept_map xs rises =
        let as_many : length (map f xs) ≡ length xs = length-map xs f in
        record { rises = IdentitiesRise-map f same xs rises; each = λ j. inr (mapped_parts j xs); fewer = omega (arith, as_many); all = λ no_fewer j. mapped_parts j xs }

-- ---- changes of which a node sees nothing

-- what a node sees of an entry: its identity, where it is complete, its attributes, when it was made, and in which making it is
abbrev pub Sight : Type 0
Sight = ℕ × List ℕ × CreationAttributes × ℤ × Option CallId

abbrev pub sight : Entry → Sight
sight e = (e.identity, e.complete, e.attributes, e.made, e.making)

abbrev pub Quiet : (Entry → Entry) → Type 0
Quiet f = (e : Entry) → sight (f e) ≡ sight e

quiet_identity : (f : Entry → Entry) → Quiet f → KeepsIdentity f
quiet_identity f q e = ap (λ (s : Sight). s.0) (q e)

-- where references were taken from it
without_references : (t : ℤ) (left : List ℕ) (e : Entry) (none : Bool) → sight (cond none e (idle_from t (record e { references = left }))) ≡ sight e
without_references t left e true = refl
without_references t left e false = elim (has_references (record e { references = left })) as (λ b. sight (cond b (record e { references = left }) (record e { references = left; idle = t })) ≡ sight e) [ true ↦ refl | false ↦ refl ]

quiet_unreferred : (c : ℕ) (t : ℤ) → Quiet (unreferred c t)
quiet_unreferred c t e = without_references t (slice_set e.references c (slice_index e.references c - 1)) e (slice_index e.references c == 0)

quiet_released_all : (c : ℕ) (t : ℤ) → Quiet (released_all c t)
quiet_released_all c t e = without_references t (slice_set e.references c 0) e (slice_index e.references c == 0)

-- a hold, and the setting of an active
quiet_hold : (call : CallId) → Quiet (with_hold call)
quiet_hold call e = elim (can_be_held e) as (λ b. sight (cond b (record e { hold = Some call }) e) ≡ sight e) [ true ↦ refl | false ↦ refl ]

quiet_active : (r : ℕ) → Quiet (with_active r)
quiet_active r e = elim (can_lead r e) as (λ b. sight (cond b (record e { active = Some r; generation = generation_under r e; hold = None }) e) ≡ sight e) [ true ↦ refl | false ↦ refl ]

-- ---- every step

-- the same nodes are up, no identity is given, these clients are live, and the entries are as they were in this part
abbrev pub KeepsRecord : {X : Type 0} → (Entry → X) → RecordState → List LiveClient → RecordState → Type 0
KeepsRecord part R clients N = (N.up ≡ R.up) × (N.last_identity ≡ R.last_identity) × (N.clients ≡ clients) × (IdentitiesRise R.entries → Keeps part R.entries N.entries)

-- the clients that are live behind a step: one enters or leaves
abbrev pub clients_behind : CallId → Driver → RecordState → List LiveClient
clients_behind call (drivers.Once (once.Enter r)) R = R.clients ++ record { client = client_of call; node = r; incarnation = slice_index R.up r; initialize = call.number } ∷ []
clients_behind call (drivers.Once once.Leave) R = filter (λ live. not (client_key live == client_of call)) R.clients
clients_behind call x R = R.clients

-- a step of which a node sees nothing but what goes by it: all but these four
abbrev pub IsQuiet : Driver → RecordStep → Type 0
IsQuiet (drivers.Open o) events.Create = ⊥
IsQuiet (drivers.Open o) events.Open = ⊥
IsQuiet (drivers.Open o) events.Finish = ⊥
IsQuiet (drivers.Copy c) (events.Complete k r moment) = ⊥
IsQuiet x step = Unit {0}

module _ {X : Type 0} (part : Entry → X) (R : RecordState) where
  abbrev Stays : RecordState → Type 0
  Stays N = KeepsRecord part R R.clients N

  as_it_was : Stays R
  as_it_was = (refl, refl, refl, kept_all part R.entries)

  at_stays : (k : Option ℕ) (change : ℕ → RecordState) → ((k : ℕ) → Stays (change k)) → Stays (at_ckpt k R change)
  at_stays None change keeps = as_it_was
  at_stays (Some k) change keeps = keeps k

  one_stays : (f : Entry → Entry) → KeepsIdentity f → ((e : Entry) → part (f e) ≡ part e) → (k : ℕ) → Stays (record R { entries = change_key identity_of k f R.entries })
  one_stays f same kept k = (refl, refl, refl, kept_change part f same kept k R.entries)

  pub undone_stays : (k : ℕ) → Stays (undone k R)
  undone_stays k = (refl, refl, refl, kept_filter part (λ e. not (e.identity == k)) R.entries)

  pub swept_stays : (clients : List LiveClient) (N : RecordState) → KeepsRecord part R clients N → KeepsRecord part R clients (swept N)
  swept_stays clients N (up, last, live, keeps) = (up, last, live, λ rises. let kept = keeps rises in kept_then part R.entries N.entries (filter (stays N.moment) N.entries) kept (kept_filter part (stays N.moment) N.entries kept.rises))

  module _ (seen : (f : Entry → Entry) → Quiet f → (e : Entry) → part (f e) ≡ part e) where
    quietly : (f : Entry → Entry) → Quiet f → (k : ℕ) → Stays (record R { entries = change_key identity_of k f R.entries })
    quietly f q = one_stays f (quiet_identity f q) (seen f q)

    left_stays : (c : ℕ) → IdentitiesRise R.entries → Keeps part R.entries (departed c R).entries
    left_stays c rises =
        let others = λ (e : Entry). not (is_call_of c e.making) in
        let f : Entry → Entry = released_all c R.moment in
        let q : Quiet f = quiet_released_all c R.moment in
        let left = kept_filter part others R.entries rises in
        kept_then part R.entries (filter others R.entries) (map f (filter others R.entries)) left (kept_map part f (quiet_identity f q) (seen f q) (filter others R.entries) left.rises)

    once_stays : (call : CallId) (x : OneStep) → KeepsRecord part R (clients_behind call (drivers.Once x) R) (once_change call x R)
    once_stays call (once.Enter r) = (refl, refl, refl, kept_all part R.entries)
    once_stays call once.Leave = (refl, refl, refl, left_stays (client_of call))
    once_stays call (once.Close k) = quietly (unreferred (client_of call) R.moment) (quiet_unreferred (client_of call) R.moment) k
    once_stays call (once.Unlink name) = at_stays (identity_in (named name R.entries)) (λ k. unlinked k R) (quietly unnamed (λ e. refl))
    once_stays call (once.Retain k duration) = quietly (retaining duration) (λ e. refl) k

    pub quiet_stays : (call : CallId) (x : Driver) (step : RecordStep) → IsQuiet x step → KeepsRecord part R (clients_behind call x R) (event_change call x step R)
    quiet_stays call (drivers.Once x) step quiet = once_stays call x
    quiet_stays call (drivers.Open o) events.Create quiet = absurd quiet
    quiet_stays call (drivers.Open o) events.Open quiet = absurd quiet
    quiet_stays call (drivers.Open o) events.Finish quiet = absurd quiet
    quiet_stays call (drivers.Open o) events.Undo quiet = at_stays (making_ckpt o.making) (λ k. undone k R) undone_stays
    quiet_stays call (drivers.Open o) step quiet = as_it_was
    quiet_stays call (drivers.Sync u) (events.Hold r) quiet = quietly (with_hold call) (quiet_hold call) u.ckpt
    quiet_stays call (drivers.Sync u) (events.Activate r) quiet = quietly (with_active r) (quiet_active r) u.ckpt
    quiet_stays call (drivers.Copy c) (events.Complete k r moment) quiet = absurd quiet
    quiet_stays call x step quiet = as_it_was

-- ---- what is declared

-- what a checkpoint declares
abbrev pub declared : Entry → CreationAttributes
declared e = e.attributes

-- the record with the entry that a creation adds
abbrev pub with_created : CallId → Driver → RecordStep → RecordState → RecordState
with_created call (drivers.Open o) events.Create R = created_as call o.ask.name o.ask.attrs R
with_created call driver step R = R

-- what holds without one, and with one, holds of it
pub by_creation : (R : RecordState) (P : RecordState → Type 0) → P R → ((call : CallId) (name : List ℕ) (a : CreationAttributes) → P (created_as call name (Some a) R)) → (call : CallId) (x : Driver) (step : RecordStep) → P (with_created call x step R)
by_creation R P none one call (drivers.Open o) events.Create = by_attributes o.ask.attrs where
  by_attributes : (a : Option CreationAttributes) → P (created_as call o.ask.name a R)
  by_attributes None = none
  by_attributes (Some a) = one call o.ask.name a
by_creation R P none one call (drivers.Open o) step = none
by_creation R P none one call x step = none

-- behind a creation, each checkpoint that was there is there, and the one that is created
pub created_there : (R : RecordState) → AllUpTo R.last_identity R.entries → (call : CallId) (name : List ℕ) (a : CreationAttributes) (j : ℕ) → entry_of j (created_as call name (Some a) R).entries ≡ cond (j == (R.last_identity + 1)) (Some (new_entry call name a R)) (entry_of j R.entries)
created_there R up_to call name a j = find_pushed identity_of (R.last_identity + 1) R.entries (new_entry call name a R) j refl (entry_of-beyond R.last_identity (R.last_identity + 1) R.entries up_to (omega arith))

pub created_own : (R : RecordState) → AllUpTo R.last_identity R.entries → (call : CallId) (name : List ℕ) (a : CreationAttributes) → entry_of (R.last_identity + 1) (created_as call name (Some a) R).entries ≡ Some (new_entry call name a R)
created_own R up_to call name a = created_there R up_to call name a (R.last_identity + 1) ∙ ap (λ b. cond b (Some (new_entry call name a R)) (entry_of (R.last_identity + 1) R.entries)) (eq-eqb (R.last_identity + 1) (R.last_identity + 1) refl)

-- and identities rise
pub created_rises : (R : RecordState) → IdentitiesRise R.entries → AllUpTo R.last_identity R.entries → (call : CallId) (x : Driver) (step : RecordStep) → IdentitiesRise (with_created call x step R).entries
created_rises R rises up_to = by_creation R (λ N. IdentitiesRise N.entries) rises (λ call name a. IdentitiesRise-push R.last_identity R.entries (new_entry call name a R) rises up_to (omega arith))

module _ (R : RecordState) (call : CallId) where
  declared_stays : (x : Driver) (step : RecordStep) → KeepsRecord declared (with_created call x step R) (clients_behind call x R) (event_change call x step R)
  declared_stays (drivers.Open o) events.Create = (refl, refl, by_creation R (λ N. N.clients ≡ R.clients) refl (λ call name a. refl) call (drivers.Open o) events.Create, kept_all declared (with_created call (drivers.Open o) events.Create R).entries)
  declared_stays (drivers.Open o) events.Open =
      let home = home_of o.ask.client R in
      at_stays declared R (identity_in (named o.ask.name R.entries)) (λ k. opened k o.ask.client R) (one_stays declared R (opened_with home R.up o.ask.client) (opened_with-identity home R.up o.ask.client) (joined-attributes home R.up))
  declared_stays (drivers.Open o) events.Finish = at_stays declared R (making_ckpt o.making) (λ k. finished k o.ask.client R) (one_stays declared R (made_with (home_of o.ask.client R) R.up o.ask.client) (λ e. refl) (λ e. refl))
  declared_stays (drivers.Open o) step = quiet_stays declared R (λ f q e i. (q e i).2) call (drivers.Open o) step tt
  declared_stays (drivers.Copy c) (events.Complete k r moment) =
      let n = slice_index R.up r in
      one_stays declared R (completed_on r n) (λ e. ap (λ (e : Entry). e.identity) (rest_stays r n e)) (λ e. ap declared (rest_stays r n e)) k
  declared_stays x step = quiet_stays declared R (λ f q e i. (q e i).2) call x step tt

  -- behind each step and the sweep, what each checkpoint declares is as it was, or as it was created
  pub event_declared : (x : Driver) (step : RecordStep) → KeepsRecord declared (with_created call x step R) (clients_behind call x R) (event_after call x step R)
  event_declared x step = swept_stays declared (with_created call x step R) (clients_behind call x R) (event_change call x step R) (declared_stays x step)

  -- and the same nodes are up
  pub event_up : (x : Driver) (step : RecordStep) → (event_after call x step R).up ≡ R.up
  event_up x step = (event_declared x step).0 ∙ by_creation R (λ N. N.up ≡ R.up) refl (λ call name a. refl) call x step
