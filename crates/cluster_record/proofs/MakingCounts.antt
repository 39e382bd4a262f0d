-- How many checkpoints are in the making by calls of a client, after each step of the record.
use Rattle.std.proofs.Common.{◌≡◌, ◌≢◌, ℕ, ◌+◌, ◌-◌, ◌≤◌, List, [], ◌∷◌, ◌++◌, length, map, filter, Option, Some, None, IsSome, Bool, true, false, not, ◌||◌, cond, ◌==◌, ℤ, refl, sym, ap, subst, ◌∙◌, arith}
use Rattle.std.specs.Prelude.{is_some, slice_index, slice_set}
use Rattle.std.proofs.lemmas.Bool.{eqb-true, eq-eqb, ne_eqb}
use Rattle.std.proofs.lemmas.List.Sums.{length-filter, count_by-le-length}
use Rattle.std.proofs.lemmas.Option.{same_Some}
use Rattle.ckpt_types.specs.declared.attributes.CreationAttributes.{CreationAttributes}
use Rattle.ckpt_types.specs.declared.identities.ActorName.{ActorName}
use Rattle.ckpt_types.specs.declared.identities.ActorName.TheVariants.{Client, Node}
use Rattle.ckpt_types.specs.declared.identities.CallId.{CallId}
use Rattle.cluster_record.specs.declared.entries.Entry.{Entry}
use Rattle.cluster_record.specs.Calls.{number_of, client_of, IsClient}
use Rattle.cluster_record.specs.Identities.{IdentitiesRise}
use Rattle.cluster_record.specs.Makings.{making_call, makings_of}
use Rattle.cluster_record.specs.Placement.{adds}
use Rattle.cluster_record.specs.Places.{change_key}
use Rattle.cluster_record.specs.RecordState.{RecordState, identity_of, entry_of, home_of, has_references, stays, swept, new_entry, created_as, referred, made_with, finished, opened_with, opened, idle_from, unreferred, released_all, is_call_of, departed}
use Rattle.cluster_record.proofs.IdentityLaws.{none_at}
use Rattle.cluster_record.proofs.Places.{not_changed}

-- ---- a call's client

by_own : (a : ActorName) (number : ℕ) → IsClient a → is_call_of (number_of a) (Some (record { actor = a; number = number })) ≡ true
by_own (Client c) number is = eq-eqb c c refl
by_own (Node r) number is = absurd is

-- a client's call is one of that client
pub is_call_of-own : (call : CallId) → IsClient call.actor → is_call_of (client_of call) (Some call) ≡ true
is_call_of-own call is = by_own call.actor call.number is

by_other : (a : ActorName) (number c : ℕ) → number_of a ≢ c → is_call_of c (Some (record { actor = a; number = number })) ≡ false
by_other (Client d) number c differs = ne_eqb d c differs
by_other (Node r) number c differs = refl

-- and of no other
pub is_call_of-other : (call : CallId) (c : ℕ) → client_of call ≢ c → is_call_of c (Some call) ≡ false
is_call_of-other call c differs = by_other call.actor call.number c differs

by_client : (a : ActorName) (number c : ℕ) → is_call_of c (Some (record { actor = a; number = number })) ≡ true → number_of a ≡ c
by_client (Client d) number c is = eqb-true d c is
by_client (Node r) number c is = absurd cc

-- a call of a client was made by it
pub is_call_of-client : (call : CallId) (c : ℕ) → is_call_of c (Some call) ≡ true → client_of call ≡ c
is_call_of-client call c is = by_client call.actor call.number c is

-- ---- lists of entries

-- 1 where it is so
abbrev pub one_if : Bool → ℕ
one_if true = 1
one_if false = 0

-- a change that keeps which call is making a checkpoint
abbrev pub KeepsMaking : (Entry → Entry) → Type 0
KeepsMaking f = (e : Entry) → (f e).making ≡ e.making

module _ (c : ℕ) where
  -- of one entry, 1 where it is in the making by a call of the client
  abbrev one_of : Entry → ℕ
  one_of e = one_if (is_call_of c e.making)

  cons_by : (b : Bool) (e : Entry) (es : List Entry) → length (cond b (e ∷ es) es) ≡ one_if b + length es
  cons_by true e es = omega arith
  cons_by false e es = omega arith

  -- the first, and those behind it
  pub makings_of-cons : (e : Entry) (es : List Entry) → makings_of c (e ∷ es) ≡ one_if (is_call_of c e.making) + makings_of c es
  makings_of-cons e es = cons_by (is_call_of c e.making) e (filter (λ (e : Entry). is_call_of c e.making) es)

  -- there are no more of them than checkpoints
  pub makings_of-few : (es : List Entry) → makings_of c es ≤ length es
  makings_of-few es = omega (arith, length-filter (λ (e : Entry). is_call_of c e.making) es, count_by-le-length (λ (e : Entry). is_call_of c e.making) es)

  -- with one more
  pub makings_of-push : (es : List Entry) (new : Entry) → makings_of c (es ++ new ∷ []) ≡ makings_of c es + one_if (is_call_of c new.making)
  makings_of-push [] new = omega (arith, makings_of-cons new [])
  makings_of-push (e ∷ es) new = omega (arith, makings_of-cons e (es ++ new ∷ []), makings_of-cons e es, makings_of-push es new)

  same_one : (f : Entry → Entry) → KeepsMaking f → (e : Entry) → one_of (f e) ≡ one_of e
  same_one f keeps e = ap (λ (m : Option CallId). one_if (is_call_of c m)) (keeps e)

  -- a change of one entry that keeps its making
  pub makings_of-change_key : (f : Entry → Entry) → KeepsMaking f → (k : ℕ) (es : List Entry) → makings_of c (change_key identity_of k f es) ≡ makings_of c es
  makings_of-change_key f keeps k [] = refl
  makings_of-change_key f keeps k (e ∷ es) = by (e.identity == k) (makings_of-change_key f keeps k es) where
    by : (b : Bool) → makings_of c (change_key identity_of k f es) ≡ makings_of c es → makings_of c (cond b (f e ∷ es) (e ∷ change_key identity_of k f es)) ≡ makings_of c (e ∷ es)
    by true more = omega (arith, makings_of-cons (f e) es, makings_of-cons e es, same_one f keeps e)
    by false more = omega (arith, makings_of-cons e (change_key identity_of k f es), makings_of-cons e es, more)

  -- a change of each entry that keeps its making
  pub makings_of-map : (f : Entry → Entry) → KeepsMaking f → (es : List Entry) → makings_of c (map f es) ≡ makings_of c es
  makings_of-map f keeps [] = refl
  makings_of-map f keeps (e ∷ es) = omega (arith, makings_of-cons (f e) (map f es), makings_of-cons e es, same_one f keeps e, makings_of-map f keeps es)

  not_so : (a p : Bool) → (a ≡ true → p ≡ true) → p ≡ false → a ≡ false
  not_so true p so gone = sym (so refl) ∙ gone
  not_so false p so gone = refl

  -- where all of them stay, whatever else goes
  pub makings_of-filter : (p : Entry → Bool) → ((e : Entry) → is_call_of c e.making ≡ true → p e ≡ true) → (es : List Entry) → makings_of c (filter p es) ≡ makings_of c es
  makings_of-filter p stay [] = refl
  makings_of-filter p stay (e ∷ es) = by (p e) refl (makings_of-filter p stay es) where
    by : (b : Bool) → p e ≡ b → makings_of c (filter p es) ≡ makings_of c es → makings_of c (cond b (e ∷ filter p es) (filter p es)) ≡ makings_of c (e ∷ es)
    by true is more = omega (arith, makings_of-cons e (filter p es), makings_of-cons e es, more)
    by false is more =
        let none : one_of e ≡ 0 = ap one_if (not_so (is_call_of c e.making) (p e) (stay e) is) in
        omega (arith, makings_of-cons e es, none, more)

  -- where all of them go, none is left
  pub makings_of-filter_none : (es : List Entry) → makings_of c (filter (λ e. not (is_call_of c e.making)) es) ≡ 0
  makings_of-filter_none [] = refl
  makings_of-filter_none (e ∷ es) = by (is_call_of c e.making) refl (makings_of-filter_none es) where
    by : (b : Bool) → is_call_of c e.making ≡ b → makings_of c (filter (λ e. not (is_call_of c e.making)) es) ≡ 0 →
        makings_of c (cond (not b) (e ∷ filter (λ e. not (is_call_of c e.making)) es) (filter (λ e. not (is_call_of c e.making)) es)) ≡ 0
    by true is more = more
    by false is more =
        let none : one_of e ≡ 0 = ap one_if is in
        omega (arith, makings_of-cons e (filter (λ e. not (is_call_of c e.making)) es), none, more)

  -- a change of the entry of an identity: it counts by the call that is making it before, and behind
  pub makings_of-changed : (f : Entry → Entry) (k : ℕ) (es : List Entry) (x : Entry) → entry_of k es ≡ Some x →
      makings_of c (change_key identity_of k f es) + one_if (is_call_of c x.making) ≡ makings_of c es + one_if (is_call_of c (f x).making)
  makings_of-changed f k [] x found = absurd cc
  makings_of-changed f k (e ∷ es) x found = by (e.identity == k) found (makings_of-changed f k es x) where
    by : (b : Bool) → cond b (Some e) (entry_of k es) ≡ Some x → (entry_of k es ≡ Some x → makings_of c (change_key identity_of k f es) + one_of x ≡ makings_of c es + one_of (f x)) →
        makings_of c (cond b (f e ∷ es) (e ∷ change_key identity_of k f es)) + one_of x ≡ makings_of c (e ∷ es) + one_of (f x)
    by true here more =
        let same : e ≡ x = same_Some e x here in
        subst (λ (y : Entry). makings_of c (f e ∷ es) + one_of y ≡ makings_of c (e ∷ es) + one_of (f y)) same (omega (arith, makings_of-cons (f e) es, makings_of-cons e es))
    by false there more = omega (arith, makings_of-cons e (change_key identity_of k f es), makings_of-cons e es, more there)

  -- where no entry has an identity, none is taken away by it
  none_gone : (k : ℕ) (es : List Entry) → entry_of k es ≡ None → filter (λ e. not (e.identity == k)) es ≡ es
  none_gone k [] none = refl
  none_gone k (e ∷ es) none = by (e.identity == k) none (none_gone k es) where
    by : (b : Bool) → cond b (Some e) (entry_of k es) ≡ None → (entry_of k es ≡ None → filter (λ e. not (e.identity == k)) es ≡ es) →
        cond (not b) (e ∷ filter (λ e. not (e.identity == k)) es) (filter (λ e. not (e.identity == k)) es) ≡ e ∷ es
    by true none more = absurd cc
    by false none more = ap (λ ys. e ∷ ys) (more none)

  -- without the entry of an identity
  pub makings_of-gone : (k : ℕ) (es : List Entry) (x : Entry) → IdentitiesRise es → entry_of k es ≡ Some x →
      makings_of c (filter (λ e. not (e.identity == k)) es) + one_if (is_call_of c x.making) ≡ makings_of c es
  makings_of-gone k [] x rises found = absurd cc
  makings_of-gone k (e ∷ es) x rises found = by (e.identity == k) refl found (makings_of-gone k es x rises.1) where
    by : (b : Bool) → (e.identity == k) ≡ b → cond b (Some e) (entry_of k es) ≡ Some x → (entry_of k es ≡ Some x → makings_of c (filter (λ e. not (e.identity == k)) es) + one_of x ≡ makings_of c es) →
        makings_of c (cond (not b) (e ∷ filter (λ e. not (e.identity == k)) es) (filter (λ e. not (e.identity == k)) es)) + one_of x ≡ makings_of c (e ∷ es)
    by true is here more =
        let one : one_of e ≡ one_of x = ap (λ (y : Entry). one_of y) (same_Some e x here) in
        let rest : makings_of c (filter (λ e. not (e.identity == k)) es) ≡ makings_of c es = ap (makings_of c) (none_gone k es (none_at e.identity k es rises.0 (eqb-true e.identity k is))) in
        omega (arith, makings_of-cons e es, one, rest)
    by false is there more = omega (arith, makings_of-cons e (filter (λ e. not (e.identity == k)) es), makings_of-cons e es, more there)

-- ---- a making begins

module _ (c : ℕ) (call : CallId) (name : List ℕ) (R : RecordState) where
  -- one more of the client whose call it is
  pub makings_of-created : (a : CreationAttributes) → makings_of c (created_as call name (Some a) R).entries ≡ makings_of c R.entries + one_if (is_call_of c (Some call))
  makings_of-created a = makings_of-push c R.entries (new_entry call name a R)

  pub makings_of-created_own : (a : Option CreationAttributes) → IsSome a → is_call_of c (Some call) ≡ true → makings_of c (created_as call name a R).entries ≡ makings_of c R.entries + 1
  makings_of-created_own None given own = absurd cc
  makings_of-created_own (Some a) given own = omega (arith, makings_of-created a, ap one_if own)

  -- and as many of each other
  pub makings_of-created_other : (a : Option CreationAttributes) → is_call_of c (Some call) ≡ false → makings_of c (created_as call name a R).entries ≡ makings_of c R.entries
  makings_of-created_other None other = refl
  makings_of-created_other (Some a) other = omega (arith, makings_of-created a, ap one_if other)

-- ---- a making ends

module _ (c k : ℕ) (R : RecordState) where
  -- one less of the client whose call was making it
  pub makings_of-finished : (maker : ℕ) → makings_of c (finished k maker R).entries + one_if (is_call_of c (making_call (entry_of k R.entries))) ≡ makings_of c R.entries
  makings_of-finished maker = by (entry_of k R.entries) refl where
    by : (o : Option Entry) → entry_of k R.entries ≡ o → makings_of c (change_key identity_of k (made_with (home_of maker R) R.up maker) R.entries) + one_if (is_call_of c (making_call o)) ≡ makings_of c R.entries
    by None none = omega (arith, ap (makings_of c) (not_changed identity_of k (made_with (home_of maker R) R.up maker) R.entries none))
    by (Some e) found = omega (arith, makings_of-changed c (made_with (home_of maker R) R.up maker) k R.entries e found)

  pub makings_of-finished_own : (maker : ℕ) → is_call_of c (making_call (entry_of k R.entries)) ≡ true → makings_of c (finished k maker R).entries + 1 ≡ makings_of c R.entries
  makings_of-finished_own maker own = omega (arith, makings_of-finished maker, ap one_if own)

-- ---- changes of an entry that keep its making

idle_from-making : (t : ℤ) (e : Entry) → (idle_from t e).making ≡ e.making
idle_from-making t e = elim (has_references e) as (λ b. (cond b e (record e { idle = t })).making ≡ e.making) [ true ↦ refl | false ↦ refl ]

unless-making : (g : Entry → Bool) (f : Entry → Entry) → KeepsMaking f → KeepsMaking (λ e. cond (g e) e (f e))
unless-making g f keeps e = elim (g e) as (λ b. (cond b e (f e)).making ≡ e.making) [ true ↦ refl | false ↦ keeps e ]

where-making : (g : Entry → Bool) (f : Entry → Entry) → KeepsMaking f → KeepsMaking (λ e. cond (g e) (f e) e)
where-making g f keeps e = elim (g e) as (λ b. (cond b (f e) e).making ≡ e.making) [ true ↦ keeps e | false ↦ refl ]

pub opened_with-making : (opener : ℕ) (up : List ℕ) (c : ℕ) → KeepsMaking (opened_with opener up c)
opened_with-making opener up c = where-making (λ e. adds e.attributes opener e.complete) (λ e. record e { complete = slice_set e.complete opener (slice_index up opener) }) (λ e. refl)

pub unreferred-making : (c : ℕ) (t : ℤ) → KeepsMaking (unreferred c t)
unreferred-making c t =
    let less : Entry → Entry = λ e. record e { references = slice_set e.references c (slice_index e.references c - 1) } in
    unless-making (λ e. slice_index e.references c == 0) (λ e. idle_from t (less e)) (λ e. idle_from-making t (less e))

pub released_all-making : (c : ℕ) (t : ℤ) → KeepsMaking (released_all c t)
released_all-making c t =
    let none : Entry → Entry = λ e. record e { references = slice_set e.references c 0 } in
    unless-making (λ e. slice_index e.references c == 0) (λ e. idle_from t (none e)) (λ e. idle_from-making t (none e))

-- ---- a client leaves

-- none is left of it
pub makings_of-departed_own : (c : ℕ) (R : RecordState) → makings_of c (departed c R).entries ≡ 0
makings_of-departed_own c R =
    makings_of-map c (released_all c R.moment) (released_all-making c R.moment) (filter (λ e. not (is_call_of c e.making)) R.entries)
    ∙ makings_of-filter_none c R.entries

another_stays : (c d : ℕ) (making : Option CallId) → d ≢ c → is_call_of d making ≡ true → not (is_call_of c making) ≡ true
another_stays c d None differs is = absurd cc
another_stays c d (Some call) differs is = ap not (is_call_of-other call c (λ same. differs (sym (is_call_of-client call d is) ∙ same)))

-- and as many of each other
pub makings_of-departed_other : (c d : ℕ) (R : RecordState) → d ≢ c → makings_of d (departed c R).entries ≡ makings_of d R.entries
makings_of-departed_other c d R differs =
    makings_of-map d (released_all c R.moment) (released_all-making c R.moment) (filter (λ e. not (is_call_of c e.making)) R.entries)
    ∙ makings_of-filter d (λ e. not (is_call_of c e.making)) (λ e is. another_stays c d e.making differs is) R.entries

-- ---- the other steps leave as many

making_stays : (c : ℕ) (making : Option CallId) (referred over : Bool) → is_call_of c making ≡ true → (is_some making || referred || over) ≡ true
making_stays c None referred over is = absurd cc
making_stays c (Some call) referred over is = refl

module _ (c : ℕ) (R : RecordState) where
  -- what is in the making stays in a sweep
  pub makings_of-swept : makings_of c (swept R).entries ≡ makings_of c R.entries
  makings_of-swept = makings_of-filter c (stays R.moment) (λ e is. making_stays c e.making (has_references e) _ is) R.entries

  pub makings_of-opened : (k opener : ℕ) → makings_of c (opened k opener R).entries ≡ makings_of c R.entries
  makings_of-opened k opener = makings_of-change_key c (opened_with (home_of opener R) R.up opener) (opened_with-making (home_of opener R) R.up opener) k R.entries
