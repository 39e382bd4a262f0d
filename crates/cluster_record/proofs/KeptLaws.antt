-- A record stays as it is kept where its entries are changed, one comes, or some go.
use Rattle.std.proofs.Common.{◌≡◌, ◌≢◌, ℕ, ◌+◌, ◌<◌, ◌≤◌, ◌-◌, List, [], ◌∷◌, ◌++◌, length, filter, map, All, Some, None, Bool, true, false, cond, ◌==◌, refl, sym, ap, subst, ◌∙◌, arith, length-append, Bor}
use Rattle.std.specs.Prelude.{Option, IfSome, MatchOption, ℤ, slice_set, slice_index, vec_capacity}
use Rattle.std.proofs.lemmas.Bool.{eqb-true}
use Rattle.std.proofs.lemmas.Int.{ints}
use Rattle.std.proofs.lemmas.List.{length-map}
use Rattle.std.proofs.lemmas.List.Elements.{All-cons, All-head, All-tail, All-filter, All-map, All-push, All-weaker}
use Rattle.std.proofs.lemmas.List.Kept.{AllPairs-filter}
use Rattle.ckpt_types.specs.declared.identities.CallId.{CallId}
use Rattle.ckpt_types.specs.Limits.{clients_max, checkpoints_max}
use Rattle.name_table.specs.Table.{EachOnce, name_taken_away}
use Rattle.name_table.proofs.TableLemmas.{EachOnce-filter}
use Rattle.cluster_record.specs.declared.entries.Entry.{Entry}
use Rattle.cluster_record.specs.declared.clients.LiveClient.{LiveClient}
use Rattle.cluster_record.specs.declared.record.Record.TheInside.{Inside}
use Rattle.cluster_record.specs.Failing.{led_anew, without_node, entry_failed}
use Rattle.cluster_record.specs.Joining.{can_complete, with_node, led_by, led_by_lowest, completed_on}
use Rattle.cluster_record.specs.Kept.{IsKeptEntry, IsKeptClient, AreKeptClients, HasTimes}
use Rattle.cluster_record.specs.NamesOf.{names_of, without_gone}
use Rattle.cluster_record.specs.Places.{find_key, change_key}
use Rattle.cluster_record.specs.LookUps.{identity_in}
use Rattle.cluster_record.specs.Placement.{adds, is_all}
use Rattle.cluster_record.specs.RecordState.{identity_of, entry_of, named, unnamed, first_complete, has_references, idle_from, referred, opened_with, unreferred, released_all, can_be_held, with_hold, can_lead, is_active, generation_under, with_active}
use Rattle.cluster_record.specs.RecordView.{AreKeptEntries, IsKept}
use Rattle.cluster_record.specs.Makings.{making_call}
use Rattle.cluster_record.specs.RecordReady.{CanRefer}
use Rattle.cluster_record.proofs.EntryLaws.{unopened}
use Rattle.cluster_record.proofs.IdentityLaws.{KeepsIdentity, AllUpTo-change_key, IdentitiesRise-change_key, AllUpTo-map, IdentitiesRise-map, AllUpTo-filter, IdentitiesRise-filter, AllUpTo-push, IdentitiesRise-push}
use Rattle.cluster_record.proofs.NameLaws.{KeepsName, names_of-map, changed-is, left-is, left-once, unnamed-is, pushed-once}
use Rattle.ckpt_types.proofs.Lists.{length-filter_le}

-- ---- what holds of all

module _ {X : Type 0} (P : X → Type 0) (key : X → ℕ) (k : ℕ) where
  -- holds of the one that is found
  pub All-find_key : (xs : List X) (x : X) → All P xs → find_key key k xs ≡ Some x → P x
  All-find_key [] x all e = absurd cc
  All-find_key (y ∷ xs) x all e = by (All-find_key xs x (All-tail P y xs all)) (key y == k) e where
    by : (find_key key k xs ≡ Some x → P x) → (b : Bool) → cond b (Some y) (find_key key k xs) ≡ Some x → P x
    by more true e = let same : y ≡ x = cc in subst P same (All-head P y xs all)
    by more false e = more e

  -- and still where that one is changed
  pub All-change_key : (f : X → X) (xs : List X) → All P xs → ((x : X) → find_key key k xs ≡ Some x → P x → P (f x)) → All P (change_key key k f xs)
  All-change_key f [] all go = all
  All-change_key f (y ∷ xs) all go = by (All-change_key f xs (All-tail P y xs all)) (key y == k) go where
    by : (((x : X) → find_key key k xs ≡ Some x → P x → P (f x)) → All P (change_key key k f xs)) →
        (b : Bool) → ((x : X) → cond b (Some y) (find_key key k xs) ≡ Some x → P x → P (f x)) → All P (cond b (f y ∷ xs) (y ∷ change_key key k f xs))
    by more true go = All-cons P (f y) xs (go y refl (All-head P y xs all)) (All-tail P y xs all)
    by more false go = All-cons P y (change_key key k f xs) (All-head P y xs all) (more go)

-- what is found is kept
pub found-kept : (t : ℤ) (k : ℕ) (entries : List Entry) (r : Option (Bor Entry)) → All (IsKeptEntry t) entries → MatchOption r (entry_of k entries ≡ None) (λ e. entry_of k entries ≡ Some e.now) → IfSome r (λ e. IsKeptEntry t e.now)
found-kept t k entries None all found = tt
found-kept t k entries (Some e) all found = All-find_key (IsKeptEntry t) identity_of k entries e.now all found

-- and is found by its own identity
found-identity : (k : ℕ) (entries : List Entry) (e : Entry) → entry_of k entries ≡ Some e → e.identity ≡ k
found-identity k [] e found = absurd cc
found-identity k (x ∷ xs) e found = by (x.identity == k) refl (found-identity k xs e) found where
  by : (b : Bool) → (x.identity == k) ≡ b → (entry_of k xs ≡ Some e → e.identity ≡ k) → cond b (Some x) (entry_of k xs) ≡ Some e → e.identity ≡ k
  by true t rest here = let same : x ≡ e = cc in ap (λ (e : Entry). e.identity) (sym same) ∙ eqb-true x.identity k t
  by false t rest there = rest there

pub found-own : (k : ℕ) (entries : List Entry) (r : Option (Bor Entry)) → MatchOption r (entry_of k entries ≡ None) (λ e. entry_of k entries ≡ Some e.now) → IfSome r (λ e. entry_of e.now.identity entries ≡ Some e.now)
found-own k entries None found = tt
found-own k entries (Some e) found = subst (λ j. entry_of j entries ≡ Some e.now) (sym (found-identity k entries e.now found)) found

-- the maker of what is in the making can open it
pub maker_refers : (t : ℤ) (k c : ℕ) (entries : List Entry) → All (IsKeptEntry t) entries → (call : CallId) → making_call (entry_of k entries) ≡ Some call → CanRefer c (entry_of k entries)
maker_refers t k c entries all call is = by (entry_of k entries) refl is where
  by : (o : Option Entry) → entry_of k entries ≡ o → making_call o ≡ Some call → CanRefer c o
  by None there is = tt
  by (Some e) there is = omega (arith, unopened e c call is (All-find_key (IsKeptEntry t) identity_of k entries e all there).making)

length-change_key : {X : Type 0} (key : X → ℕ) (k : ℕ) (f : X → X) (xs : List X) → length (change_key key k f xs) ≡ length xs
length-change_key key k f [] = refl
length-change_key key k f (x ∷ xs) = elim (key x == k) as (λ b. length (cond b (f x ∷ xs) (x ∷ change_key key k f xs)) ≡ length (x ∷ xs)) [ true ↦ refl | false ↦ omega (arith, length-change_key key k f xs) ]

-- ---- the entries

module _ (t : ℤ) (last : ℕ) (old : List Entry) (kept : AreKeptEntries t last old) where
  -- where the one of an identity is changed, and keeps its name and identity
  entries-changed : (f : Entry → Entry) (k : ℕ) → KeepsName f → KeepsIdentity f → ((e : Entry) → entry_of k old ≡ Some e → IsKeptEntry t e → IsKeptEntry t (f e)) → AreKeptEntries t last (change_key identity_of k f old)
  entries-changed f k name identity go = record {
    each = All-change_key (IsKeptEntry t) identity_of k f old kept.each go;
    few = omega (arith, length-change_key identity_of k f old, kept.few);
    order = IdentitiesRise-change_key f identity k old kept.order;
    given = AllUpTo-change_key f identity last k old kept.given;
    each_once = subst EachOnce (changed-is f name identity k old (change_key identity_of k f old) refl) kept.each_once;
  }

  -- where some go
  entries-left : (p : Entry → Bool) → AreKeptEntries t last (filter p old)
  entries-left p = record {
    each = All-filter p (IsKeptEntry t) old kept.each;
    few = omega (arith, length-filter_le p old, kept.few);
    order = IdentitiesRise-filter p old kept.order;
    given = AllUpTo-filter p last old kept.given;
    each_once = left-once p old (filter p old) refl kept.each_once;
  }

  -- where each is changed, and keeps its name and identity
  entries-each : (f : Entry → Entry) → KeepsName f → KeepsIdentity f → ((e : Entry) → IsKeptEntry t e → IsKeptEntry t (f e)) → AreKeptEntries t last (map f old)
  entries-each f name identity go = record {
    each = All-map (IsKeptEntry t) f old (All-weaker (IsKeptEntry t) (λ e. IsKeptEntry t (f e)) go old kept.each);
    few = omega (arith, length-map old f, kept.few);
    order = IdentitiesRise-map f identity old kept.order;
    given = AllUpTo-map f identity last old kept.given;
    each_once = subst EachOnce (sym (names_of-map f name identity old)) kept.each_once;
  }

  -- where the one of a name has it no more
  entries-unnamed : (name : List ℕ) (k : ℕ) → identity_in (named name old) ≡ Some k → ((e : Entry) → entry_of k old ≡ Some e → IsKeptEntry t e → IsKeptEntry t (unnamed e)) → AreKeptEntries t last (change_key identity_of k unnamed old)
  entries-unnamed name k is go = record {
    each = All-change_key (IsKeptEntry t) identity_of k unnamed old kept.each go;
    few = omega (arith, length-change_key identity_of k unnamed old, kept.few);
    order = IdentitiesRise-change_key unnamed (λ e. refl) k old kept.order;
    given = AllUpTo-change_key unnamed (λ e. refl) last k old kept.given;
    each_once = subst EachOnce (unnamed-is name k old kept.order kept.each_once is) (EachOnce-filter _ (names_of old) kept.each_once);
  }

  -- where the next one comes, of a name that none has
  pub entries-pushed : (e : Entry) (name : List ℕ) → IsKeptEntry t e → e.name ≡ Some name → e.identity ≡ last + 1 → named name old ≡ None → length old < checkpoints_max → AreKeptEntries t (last + 1) (old ++ e ∷ [])
  entries-pushed e name is called next absent room = record {
    each = All-push (IsKeptEntry t) old e kept.each is;
    few = omega (arith, length-append old (e ∷ []), room);
    order = IdentitiesRise-push last old e kept.order kept.given (omega (arith, next));
    given = AllUpTo-push last old e kept.given next;
    each_once = pushed-once old (old ++ e ∷ []) e name (last + 1) refl called next kept.each_once absent;
  }

-- ---- the record

-- where the entry of an identity is changed, and keeps its name and identity
pub kept-changed : (old new : Inside) (f : Entry → Entry) (k : ℕ) → IsKept old → KeepsName f → KeepsIdentity f → ((e : Entry) → entry_of k old.entries.items ≡ Some e → IsKeptEntry old.moment e → IsKeptEntry old.moment (f e)) →
    new.entries.items ≡ change_key identity_of k f old.entries.items → vec_capacity new.entries ≡ vec_capacity old.entries →
    new ≡ record old { entries = new.entries } → IsKept new
kept-changed old new f k kept name identity go items capacity same = subst IsKept (sym same) (record {
  clients_room = kept.clients_room;
  entries_room = subst (λ (n : ℕ). checkpoints_max ≤ n) (sym capacity) kept.entries_room;
  moment = kept.moment;
  clients = kept.clients;
  few_clients = kept.few_clients;
  entries = subst (AreKeptEntries old.moment old.last_identity) (sym items) (entries-changed old.moment old.last_identity old.entries.items kept.entries f k name identity go);
  names = kept.names ∙ changed-is f name identity k old.entries.items new.entries.items items;
})

-- the times by which the retentions go
pub kept-times : (r : Inside) → IsKept r → All HasTimes r.entries.items
kept-times r kept = All-weaker (IsKeptEntry r.moment) HasTimes each r.entries.items kept.entries.each where
  each : (e : Entry) → IsKeptEntry r.moment e → HasTimes e
  each e is = record { made = is.made; idle = let a = is.made in let b = is.idle in omega (arith, ints, a, b); retention = is.retention }

-- where some go, and their names
pub kept-left : (old new : Inside) (p : Entry → Bool) → IsKept old →
    new.entries.items ≡ filter p old.entries.items → vec_capacity new.entries ≡ vec_capacity old.entries → new.names ≡ without_gone p old.entries.items old.names →
    new ≡ record old { entries = new.entries; names = new.names } → IsKept new
kept-left old new p kept items capacity names same = subst IsKept (sym same) (record {
  clients_room = kept.clients_room;
  entries_room = subst (λ (n : ℕ). checkpoints_max ≤ n) (sym capacity) kept.entries_room;
  moment = kept.moment;
  clients = kept.clients;
  few_clients = kept.few_clients;
  entries = subst (AreKeptEntries old.moment old.last_identity) (sym items) (entries-left old.moment old.last_identity old.entries.items kept.entries p);
  names = left-is p old.entries.items new.entries.items old.names new.names items names kept.names kept.entries.each_once;
})

-- where each entry is changed, and keeps its name and identity
pub kept-each : (old new : Inside) (f : Entry → Entry) → IsKept old → KeepsName f → KeepsIdentity f → ((e : Entry) → IsKeptEntry old.moment e → IsKeptEntry old.moment (f e)) →
    new.entries.items ≡ map f old.entries.items → vec_capacity new.entries ≡ vec_capacity old.entries →
    new ≡ record old { entries = new.entries } → IsKept new
kept-each old new f kept name identity go items capacity same = subst IsKept (sym same) (record {
  clients_room = kept.clients_room;
  entries_room = subst (λ (n : ℕ). checkpoints_max ≤ n) (sym capacity) kept.entries_room;
  moment = kept.moment;
  clients = kept.clients;
  few_clients = kept.few_clients;
  entries = subst (AreKeptEntries old.moment old.last_identity) (sym items) (entries-each old.moment old.last_identity old.entries.items kept.entries f name identity go);
  names = kept.names ∙ sym (ap names_of items ∙ names_of-map f name identity old.entries.items);
})

-- where the one of a name has it no more
pub kept-unnamed : (old new : Inside) (name : List ℕ) (k : ℕ) → IsKept old → identity_in (named name old.entries.items) ≡ Some k → ((e : Entry) → entry_of k old.entries.items ≡ Some e → IsKeptEntry old.moment e → IsKeptEntry old.moment (unnamed e)) →
    new.entries.items ≡ change_key identity_of k unnamed old.entries.items → vec_capacity new.entries ≡ vec_capacity old.entries → new.names ≡ name_taken_away name old.names →
    new ≡ record old { entries = new.entries; names = new.names } → IsKept new
kept-unnamed old new name k kept is go items capacity names same = subst IsKept (sym same) (record {
  clients_room = kept.clients_room;
  entries_room = subst (λ (n : ℕ). checkpoints_max ≤ n) (sym capacity) kept.entries_room;
  moment = kept.moment;
  clients = kept.clients;
  few_clients = kept.few_clients;
  entries = subst (AreKeptEntries old.moment old.last_identity) (sym items) (entries-unnamed old.moment old.last_identity old.entries.items kept.entries name k is go);
  names = names ∙ ap (name_taken_away name) kept.names ∙ unnamed-is name k old.entries.items kept.entries.order kept.entries.each_once is ∙ sym (ap names_of items);
})

-- where some clients go
pub kept-clients_left : (old new : Inside) (p : LiveClient → Bool) → IsKept old →
    new.clients.items ≡ filter p old.clients.items → vec_capacity new.clients ≡ vec_capacity old.clients →
    new ≡ record old { clients = new.clients } → IsKept new
kept-clients_left old new p kept items capacity same = subst IsKept (sym same) (record {
  clients_room = subst (λ (n : ℕ). clients_max ≤ n) (sym capacity) kept.clients_room;
  entries_room = kept.entries_room;
  moment = kept.moment;
  clients = subst AreKeptClients (sym items) (record {
    each = All-filter p IsKeptClient old.clients.items kept.clients.each;
    each_once = AllPairs-filter (λ a b. a.client ≢ b.client) p old.clients.items kept.clients.each_once;
  });
  few_clients = omega (arith, ap length items, length-filter_le p old.clients.items, kept.few_clients);
  entries = kept.entries;
  names = kept.names;
})

-- ---- changes that keep names and identities

idle_from-keeps : (t : ℤ) (e : Entry) → ((idle_from t e).name ≡ e.name) × ((idle_from t e).identity ≡ e.identity)
idle_from-keeps t e = elim (has_references e) as (λ b. ((cond b e (record e { idle = t })).name ≡ e.name) × ((cond b e (record e { idle = t })).identity ≡ e.identity)) [ true ↦ (refl, refl) | false ↦ (refl, refl) ]

abbrev Keeps : (Entry → Entry) → Type 0
Keeps f = KeepsName f × KeepsIdentity f

unless-keeps : (g : Entry → Bool) (f : Entry → Entry) → Keeps f → Keeps (λ e. cond (g e) e (f e))
unless-keeps g f keeps = (
  λ e. elim (g e) as (λ b. (cond b e (f e)).name ≡ e.name) [ true ↦ refl | false ↦ keeps.0 e ],
  λ e. elim (g e) as (λ b. (cond b e (f e)).identity ≡ e.identity) [ true ↦ refl | false ↦ keeps.1 e ],
)

pub opened_with-keeps : (opener : ℕ) (up : List ℕ) (c : ℕ) → Keeps (opened_with opener up c)
opened_with-keeps opener up c = (
  λ e. elim (adds e.attributes opener e.complete) as (λ b. (referred c (cond b (record e { complete = slice_set e.complete opener (slice_index up opener) }) e)).name ≡ e.name) [ true ↦ refl | false ↦ refl ],
  λ e. elim (adds e.attributes opener e.complete) as (λ b. (referred c (cond b (record e { complete = slice_set e.complete opener (slice_index up opener) }) e)).identity ≡ e.identity) [ true ↦ refl | false ↦ refl ],
)

pub released-keeps : (c : ℕ) (t : ℤ) → Keeps (unreferred c t)
released-keeps c t =
    let less : Entry → Entry = λ e. record e { references = slice_set e.references c (slice_index e.references c - 1) } in
    unless-keeps (λ e. slice_index e.references c == 0) (λ e. idle_from t (less e)) (λ e. (idle_from-keeps t (less e)).0, λ e. (idle_from-keeps t (less e)).1)

pub released_all-keeps : (c : ℕ) (t : ℤ) → Keeps (released_all c t)
released_all-keeps c t =
    let none : Entry → Entry = λ e. record e { references = slice_set e.references c 0 } in
    unless-keeps (λ e. slice_index e.references c == 0) (λ e. idle_from t (none e)) (λ e. (idle_from-keeps t (none e)).0, λ e. (idle_from-keeps t (none e)).1)

-- where the change is made only of some
where-keeps : (g : Entry → Bool) (f : Entry → Entry) → Keeps f → Keeps (λ e. cond (g e) (f e) e)
where-keeps g f keeps = (
  λ e. elim (g e) as (λ b. (cond b (f e) e).name ≡ e.name) [ true ↦ keeps.0 e | false ↦ refl ],
  λ e. elim (g e) as (λ b. (cond b (f e) e).identity ≡ e.identity) [ true ↦ keeps.1 e | false ↦ refl ],
)

pub with_hold-keeps : (call : CallId) → Keeps (with_hold call)
with_hold-keeps call = where-keeps can_be_held (λ e. record e { hold = Some call }) (λ e. refl, λ e. refl)

pub with_active-keeps : (r : ℕ) → Keeps (with_active r)
with_active-keeps r = where-keeps (can_lead r) (λ e. record e { active = Some r; generation = generation_under r e; hold = None }) (λ e. refl, λ e. refl)

pub entry_failed-keeps : (counts : ℕ → ℕ → ℕ) (r : ℕ) → Keeps (λ e. entry_failed (counts e.identity) r e)
entry_failed-keeps counts r = (
  λ e. elim (is_active e.active r) as (λ b. (cond b (led_anew (counts e.identity) (without_node r e)) (without_node r e)).name ≡ e.name) [ true ↦ refl | false ↦ refl ],
  λ e. elim (is_active e.active r) as (λ b. (cond b (led_anew (counts e.identity) (without_node r e)) (without_node r e)).identity ≡ e.identity) [ true ↦ refl | false ↦ refl ],
)

led_by-keeps : (o : Option ℕ) → Keeps (led_by o)
led_by-keeps None = (λ e. refl, λ e. refl)
led_by-keeps (Some r) = (λ e. refl, λ e. refl)

led_by_lowest-keeps : Keeps led_by_lowest
led_by_lowest-keeps = where-keeps (λ e. is_all e.attributes) (λ e. led_by (first_complete 0 e.complete) e) (λ e. (led_by-keeps (first_complete 0 e.complete)).0 e, λ e. (led_by-keeps (first_complete 0 e.complete)).1 e)

pub completed_on-keeps : (r n : ℕ) → Keeps (completed_on r n)
completed_on-keeps r n = where-keeps (can_complete r n) (λ e. led_by_lowest (with_node r n e)) (λ e. led_by_lowest-keeps.0 (with_node r n e), λ e. led_by_lowest-keeps.1 (with_node r n e))
