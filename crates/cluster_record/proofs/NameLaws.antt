-- The table of names has the names of the entries: when one comes, is changed, or goes.
use Rattle.std.proofs.Common.{◌≡◌, ℕ, ◌≤◌, List, [], ◌∷◌, ◌++◌, length, filter, map, Option, Some, None, Bool, true, false, cond, not, ◌==◌, nat_eq, refl, sym, ap, subst, ◌∙◌, arith, append_assoc, append-nil, length-append, true≢false, eqb-true, eq-eqb, ne_eqb, ◌<◌}
use Rattle.std.specs.Cmp.Lexicographic.{pointwise, bytes_decides}
use Rattle.std.proofs.lemmas.List.Elements.{filter-append}
use Rattle.std.proofs.lemmas.Option.{none-some}
use Rattle.name_table.specs.Table.{NamedCkpt, is_called, found, linked, name_taken_away, EachOnce}
use Rattle.name_table.proofs.TableLemmas.{is_called-own, found-cons, unlinked-absent, EachOnce-filter, EachOnce-linked, absent-before}
use Rattle.cluster_record.specs.declared.entries.Entry.{Entry}
use Rattle.cluster_record.specs.Identities.{IdentitiesRise}
use Rattle.cluster_record.specs.LookUps.{identity_in}
use Rattle.cluster_record.specs.NamesOf.{linked_name, names_of, without_name, without_gone}
use Rattle.cluster_record.specs.Places.{change_key}
use Rattle.cluster_record.specs.RecordState.{identity_of, entry_of, is_name, named, unnamed}
use Rattle.cluster_record.proofs.IdentityLaws.{KeepsIdentity, none_at, AllAbove-entry_of}

-- ---- the names of a list that grows or changes

pub names_of-push : (es : List Entry) (e : Entry) → names_of (es ++ e ∷ []) ≡ names_of es ++ linked_name e.name e.identity
names_of-push [] e = append-nil (linked_name e.name e.identity)
names_of-push (x ∷ xs) e = ap (λ t. linked_name x.name x.identity ++ t) (names_of-push xs e) ∙ sym (append_assoc (linked_name x.name x.identity) (names_of xs) (linked_name e.name e.identity))

-- a change that keeps names
abbrev pub KeepsName : (Entry → Entry) → Type 0
KeepsName f = (e : Entry) → (f e).name ≡ e.name

-- a change that keeps names and identities keeps the table
pub names_of-change_key : (f : Entry → Entry) → KeepsName f → KeepsIdentity f → (k : ℕ) (es : List Entry) → names_of (change_key identity_of k f es) ≡ names_of es
names_of-change_key f name identity k [] = refl
names_of-change_key f name identity k (x ∷ xs) =
    elim (x.identity == k) as (λ b. names_of (cond b (f x ∷ xs) (x ∷ change_key identity_of k f xs)) ≡ names_of (x ∷ xs)) [
      | true ↦ rw (name x, identity x) refl
      | false ↦ ap (λ t. linked_name x.name x.identity ++ t) (names_of-change_key f name identity k xs)
    ]

one_at_most : (name : Option (List ℕ)) (k : ℕ) → length (linked_name name k) ≤ 1
one_at_most None k = omega arith
one_at_most (Some name) k = omega arith

-- there are not more names than entries
pub length-names_of : (es : List Entry) → length (names_of es) ≤ length es
length-names_of [] = omega arith
length-names_of (x ∷ xs) = omega (arith, length-append (linked_name x.name x.identity) (names_of xs), one_at_most x.name x.identity, length-names_of xs)

-- ---- entries that go

-- a name in the midst of a table is taken out
taken_out : (name : List ℕ) (k : ℕ) (front back : List NamedCkpt) → EachOnce (front ++ record { name = name; identity = k } ∷ back) → name_taken_away name (front ++ record { name = name; identity = k } ∷ back) ≡ front ++ back
taken_out name k front back once =
    let ckpt : NamedCkpt = record { name = name; identity = k } in
    let before : name_taken_away name front ≡ front = unlinked-absent name front (absent-before front ckpt back once) in
    let own : name_taken_away name (ckpt ∷ back) ≡ name_taken_away name back = ap (λ b. cond (not b) (ckpt ∷ name_taken_away name back) (name_taken_away name back)) (is_called-own name k) in
    let behind : name_taken_away name back ≡ back = unlinked-absent name back (later front once) in
    filter-append (λ c. not (is_called name c)) front (ckpt ∷ back) ∙ ap (λ t. t ++ name_taken_away name (ckpt ∷ back)) before ∙ ap (λ t. front ++ t) (own ∙ behind)
  where
    later : (front : List NamedCkpt) → EachOnce (front ++ record { name = name; identity = k } ∷ back) → found name back ≡ None
    later [] once = once.0
    later (x ∷ xs) once = later xs once.1

without_name-once : (name : Option (List ℕ)) (table : List NamedCkpt) → EachOnce table → EachOnce (without_name name table)
without_name-once None table once = once
without_name-once (Some name) table once = EachOnce-filter _ table once

without_name-is : (name : Option (List ℕ)) (k : ℕ) (front back : List NamedCkpt) → EachOnce (front ++ (linked_name name k ++ back)) → without_name name (front ++ (linked_name name k ++ back)) ≡ front ++ back
without_name-is None k front back once = refl
without_name-is (Some name) k front back once = taken_out name k front back once

pub without_gone-once : (p : Entry → Bool) (es : List Entry) (table : List NamedCkpt) → EachOnce table → EachOnce (without_gone p es table)
without_gone-once p [] table once = once
without_gone-once p (x ∷ xs) table once = without_gone-once p xs (cond (p x) table (without_name x.name table)) (elim (p x) as (λ b. EachOnce (cond b table (without_name x.name table))) [ true ↦ once | false ↦ without_name-once x.name table once ])

gone : (p : Entry → Bool) (es : List Entry) (front : List NamedCkpt) → EachOnce (front ++ names_of es) → without_gone p es (front ++ names_of es) ≡ front ++ names_of (filter p es)
gone p [] front once = refl
gone p (x ∷ xs) front once =
    elim (p x) as (λ b. without_gone p xs (cond b (front ++ names_of (x ∷ xs)) (without_name x.name (front ++ names_of (x ∷ xs)))) ≡ front ++ names_of (cond b (x ∷ filter p xs) (filter p xs))) [
      | true ↦
          let split : (front ++ linked_name x.name x.identity) ++ names_of xs ≡ front ++ names_of (x ∷ xs) = append_assoc front (linked_name x.name x.identity) (names_of xs) in
          ap (without_gone p xs) (sym split) ∙ gone p xs (front ++ linked_name x.name x.identity) (subst EachOnce (sym split) once) ∙ append_assoc front (linked_name x.name x.identity) (names_of (filter p xs))
      | false ↦
          let out : without_name x.name (front ++ names_of (x ∷ xs)) ≡ front ++ names_of xs = without_name-is x.name x.identity front (names_of xs) once in
          ap (without_gone p xs) out ∙ gone p xs front (subst EachOnce out (without_name-once x.name (front ++ names_of (x ∷ xs)) once))
    ]

-- without the names of the entries that go, the table has those of the entries that stay
pub without_gone-is : (p : Entry → Bool) (es : List Entry) → EachOnce (names_of es) → without_gone p es (names_of es) ≡ names_of (filter p es)
without_gone-is p es once = gone p es [] once

-- ---- look-ups

some-same : {X : Type 0} (a b : X) → Some a ≡ Some b → a ≡ b
some-same a b e = cc

-- two names are compared either way round
same_name : (a b : List ℕ) → pointwise nat_eq a b ≡ pointwise nat_eq b a
same_name a b = by (pointwise nat_eq a b) (pointwise nat_eq b a) refl refl where
  by : (x y : Bool) → pointwise nat_eq a b ≡ x → pointwise nat_eq b a ≡ y → x ≡ y
  by true true e f = refl
  by false false e f = refl
  by true false e f = absurd (true≢false (sym ((bytes_decides b a).1 (sym ((bytes_decides a b).0 e))) ∙ f))
  by false true e f = absurd (true≢false (sym ((bytes_decides a b).1 (sym ((bytes_decides b a).0 f))) ∙ e))

-- a name is found in the table as among the entries
pub found-named : (name : List ℕ) (es : List Entry) → found name (names_of es) ≡ identity_in (named name es)
found-named name [] = refl
found-named name (x ∷ xs) = by x.name (found-named name xs) where
  by : (o : Option (List ℕ)) → found name (names_of xs) ≡ identity_in (named name xs) → found name (linked_name o x.identity ++ names_of xs) ≡ identity_in (cond (is_name name o) (Some x) (named name xs))
  by None rest = rest
  by (Some other) rest =
      found-cons name (record { name = other; identity = x.identity }) (names_of xs)
      ∙ ap (λ b. cond b (Some x.identity) (found name (names_of xs))) (same_name name other)
      ∙ elim (pointwise nat_eq other name) as (λ b. cond b (Some x.identity) (found name (names_of xs)) ≡ identity_in (cond b (Some x) (named name xs))) [ true ↦ refl | false ↦ rest ]

-- the entry of a name is the one of its identity
named-own : (name : List ℕ) (es : List Entry) (e : Entry) → IdentitiesRise es → named name es ≡ Some e → entry_of e.identity es ≡ Some e
named-own name [] e rises is = absurd cc
named-own name (x ∷ xs) e rises is = by (is_name name x.name) (named-own name xs e rises.1) is where
  by : (b : Bool) → (named name xs ≡ Some e → entry_of e.identity xs ≡ Some e) → cond b (Some x) (named name xs) ≡ Some e → cond (x.identity == e.identity) (Some x) (entry_of e.identity xs) ≡ Some e
  by true rest is =
      let same : x ≡ e = some-same x e is in
      subst (λ (e : Entry). cond (x.identity == e.identity) (Some x) (entry_of e.identity xs) ≡ Some e) same (ap (λ b. cond b (Some x) (entry_of x.identity xs)) (eq-eqb x.identity x.identity refl))
  by false rest is =
      elim (x.identity == e.identity) as (λ b. (x.identity == e.identity) ≡ b → cond b (Some x) (entry_of e.identity xs) ≡ Some e) [
        | true ↦ λ same. absurd (none-some e (sym (none_at x.identity e.identity xs rises.0 (eqb-true x.identity e.identity same)) ∙ rest is))
        | false ↦ λ apart. rest is
      ] refl

pub named-entry : (name : List ℕ) (es : List Entry) (k : ℕ) → IdentitiesRise es → Some k ≡ identity_in (named name es) → entry_of k es ≡ named name es
named-entry name es k rises is = by (named name es) refl is where
  by : (o : Option Entry) → named name es ≡ o → Some k ≡ identity_in o → entry_of k es ≡ o
  by None e is = absurd cc
  by (Some x) e is = subst (λ j. entry_of j es ≡ Some x) (sym (some-same k x.identity is)) (named-own name es x rises e)

once_behind : (o : Option (List ℕ)) (k : ℕ) (table : List NamedCkpt) → EachOnce (linked_name o k ++ table) → EachOnce table
once_behind None k table once = once
once_behind (Some name) k table once = once.1

-- an entry that has the name is the one of that name
pub named-known : (name : List ℕ) (es : List Entry) (k : ℕ) (e : Entry) → EachOnce (names_of es) → entry_of k es ≡ Some e → is_name name e.name ≡ true → named name es ≡ Some e
named-known name [] k e once there same = absurd cc
named-known name (x ∷ xs) k e once there same = by (x.identity == k) (λ there. named-known name xs k e (once_behind x.name x.identity (names_of xs) once) there same) there where
  here : x ≡ e → cond (is_name name x.name) (Some x) (named name xs) ≡ Some e
  here is = subst (λ (y : Entry). cond (is_name name y.name) (Some y) (named name xs) ≡ Some e) (sym is) (ap (λ b. cond b (Some e) (named name xs)) same)

  apart : named name xs ≡ Some e → (o : Option (List ℕ)) → EachOnce (linked_name o x.identity ++ names_of xs) → is_name name o ≡ false
  apart rest None once = refl
  apart rest (Some other) once =
      elim (pointwise nat_eq other name) as (λ b. pointwise nat_eq other name ≡ b → b ≡ false) [
        | true ↦ λ is. absurd (none-some e.identity (sym once.0 ∙ ap (λ name. found name (names_of xs)) ((bytes_decides other name).0 is) ∙ found-named name xs ∙ ap identity_in rest))
        | false ↦ λ is. refl
      ] refl

  by : (b : Bool) → (entry_of k xs ≡ Some e → named name xs ≡ Some e) → cond b (Some x) (entry_of k xs) ≡ Some e → cond (is_name name x.name) (Some x) (named name xs) ≡ Some e
  by true behind there = here (some-same x e there)
  by false behind there = ap (λ b. cond b (Some x) (named name xs)) (apart (behind there) x.name once) ∙ behind there

-- a name that no entry has is absent from the table
pub absent-name : (name : List ℕ) (es : List Entry) → named name es ≡ None → found name (names_of es) ≡ None
absent-name name es absent = found-named name es ∙ ap identity_in absent

-- ---- the table and the entries together

-- where an entry is changed and keeps its name
pub changed-is : (f : Entry → Entry) → KeepsName f → KeepsIdentity f → (k : ℕ) (es new : List Entry) → new ≡ change_key identity_of k f es → names_of es ≡ names_of new
changed-is f name identity k es new is = sym (ap names_of is ∙ names_of-change_key f name identity k es)

-- where each entry is changed and keeps its name
pub names_of-map : (f : Entry → Entry) → KeepsName f → KeepsIdentity f → (es : List Entry) → names_of (map f es) ≡ names_of es
names_of-map f name identity [] = refl
names_of-map f name identity (x ∷ xs) = rw (name x, identity x) (ap (λ t. linked_name x.name x.identity ++ t) (names_of-map f name identity xs))

-- where some go
pub left-is : (p : Entry → Bool) (es new : List Entry) (old table : List NamedCkpt) → new ≡ filter p es → table ≡ without_gone p es old → old ≡ names_of es → EachOnce (names_of es) → table ≡ names_of new
left-is p es new old table new_is table_is old_is once = table_is ∙ ap (without_gone p es) old_is ∙ without_gone-is p es once ∙ sym (ap names_of new_is)

pub left-once : (p : Entry → Bool) (es new : List Entry) → new ≡ filter p es → EachOnce (names_of es) → EachOnce (names_of new)
left-once p es new new_is once = subst EachOnce (without_gone-is p es once ∙ sym (ap names_of new_is)) (without_gone-once p es (names_of es) once)

-- where one has no name any more
once-behind : (name : Option (List ℕ)) (k : ℕ) (table : List NamedCkpt) → EachOnce (linked_name name k ++ table) → EachOnce table
once-behind None k table once = once
once-behind (Some name) k table once = once.1

unlinked-other : (name : List ℕ) (own : Option (List ℕ)) (k : ℕ) (table : List NamedCkpt) → is_name name own ≡ false → name_taken_away name (linked_name own k ++ table) ≡ linked_name own k ++ name_taken_away name table
unlinked-other name None k table apart = refl
unlinked-other name (Some own) k table apart = rw (same_name name own ∙ apart) refl

unlinked-own : (name : List ℕ) (own : Option (List ℕ)) (k : ℕ) (table : List NamedCkpt) → is_name name own ≡ true → EachOnce (linked_name own k ++ table) → name_taken_away name (linked_name own k ++ table) ≡ table
unlinked-own name None k table same once = absurd cc
unlinked-own name (Some own) k table same once =
    let is : own ≡ name = (bytes_decides own name).0 same in
    rw (same_name name own ∙ same) (unlinked-absent name table (subst (λ (n : List ℕ). found n table ≡ None) is once.0))

pub unnamed-is : (name : List ℕ) (k : ℕ) (es : List Entry) → IdentitiesRise es → EachOnce (names_of es) → identity_in (named name es) ≡ Some k → name_taken_away name (names_of es) ≡ names_of (change_key identity_of k unnamed es)
unnamed-is name k [] rises once is = absurd cc
unnamed-is name k (x ∷ xs) rises once is = by (unnamed-is name k xs rises.1 (once-behind x.name x.identity (names_of xs) once)) (is_name name x.name) refl is where
  by : (identity_in (named name xs) ≡ Some k → name_taken_away name (names_of xs) ≡ names_of (change_key identity_of k unnamed xs)) → (b : Bool) → is_name name x.name ≡ b → identity_in (cond b (Some x) (named name xs)) ≡ Some k → name_taken_away name (names_of (x ∷ xs)) ≡ names_of (change_key identity_of k unnamed (x ∷ xs))
  by rest true own is =
      let same : x.identity ≡ k = some-same x.identity k is in
      unlinked-own name x.name x.identity (names_of xs) own once
      ∙ ap (λ b. names_of (cond b (unnamed x ∷ xs) (x ∷ change_key identity_of k unnamed xs))) (sym (eq-eqb x.identity k same))
  by rest false other is =
      let found = named-entry name xs k rises.1 (sym is) in
      let beyond : x.identity < k = beyond-named (named name xs) found is in
      unlinked-other name x.name x.identity (names_of xs) other
      ∙ ap (λ t. linked_name x.name x.identity ++ t) (rest is)
      ∙ ap (λ b. names_of (cond b (unnamed x ∷ xs) (x ∷ change_key identity_of k unnamed xs))) (sym (ne_eqb x.identity k (λ same. omega (arith, same, beyond))))
    where
      beyond-named : (o : Option Entry) → entry_of k xs ≡ o → identity_in o ≡ Some k → x.identity < k
      beyond-named None there is = absurd cc
      beyond-named (Some e) there is = AllAbove-entry_of x.identity k xs e rises.0 there

-- where one comes
pub pushed-is : (es new : List Entry) (e : Entry) (name : List ℕ) (k : ℕ) → new ≡ es ++ e ∷ [] → e.name ≡ Some name → e.identity ≡ k → linked name k (names_of es) ≡ names_of new
pushed-is es new e name k new_is name_is k_is = sym (ap names_of new_is ∙ names_of-push es e ∙ rw (name_is, k_is) refl)

pub pushed-once : (es new : List Entry) (e : Entry) (name : List ℕ) (k : ℕ) → new ≡ es ++ e ∷ [] → e.name ≡ Some name → e.identity ≡ k → EachOnce (names_of es) → named name es ≡ None → EachOnce (names_of new)
pushed-once es new e name k new_is name_is k_is once absent = subst EachOnce (pushed-is es new e name k new_is name_is k_is) (EachOnce-linked name k (names_of es) once (absent-name name es absent))
