-- Which sections are found: by their identifiers, by their places, and among those that are present.
use Rattle.std.proofs.Common.{◌≡◌, ℕ, zero, suc, ◌<◌, ◌≤◌, List, [], ◌∷◌, length, filter, Option, Some, None, option_map, slice_get, Bool, true, false, cond, not, ℤ, Decides, Ordering, Less, Greater, is_eq, All, sym, ap, ◌∙◌, subst, refl, arith}
use Rattle.std.specs.Ordering.{ordering_reverse}
use Rattle.std.specs.Cmp.Lexicographic.{bytes_decides, texts_ties}
use Rattle.std.specs.Prelude.{MatchOption}
use Rattle.std.proofs.lemmas.Cmp.{nat_list_cmp_total}
use Rattle.std.proofs.lemmas.Option.{none-some, same_Some}
use Rattle.std.proofs.lemmas.List.Sums.{length-filter, count_by-le-length}
use Rattle.std.proofs.lemmas.List.Elements.{All-head, All-tail}
use Rattle.std.proofs.lemmas.List.Filters.{sum_by-filter_both}
use Rattle.ckpt_types.specs.Sections.{Section, id_cmp, is_named, section_at, place_of, IsBelowAll, Rises, is_present, present, where_present, memory_used, size_of}
use Rattle.ckpt_types.proofs.Lists.{length-filter_le}

-- a section is named by its identifier and no other
pub is_named_decides : (id : List ℕ) (s : Section) → Decides (is_named id s) (s.id ≡ id)
is_named_decides id s = bytes_decides s.id id

-- of two identifiers the order says both ways which is first
pub id_cmp_turned : (x y : List ℕ) (o : Ordering) → id_cmp x y ≡ o → id_cmp y x ≡ ordering_reverse o
id_cmp_turned x y o e = nat_list_cmp_total.antisymm y x ∙ ap ordering_reverse e

-- what is before is before what is later
pub id_cmp_trans : (x y z : List ℕ) → id_cmp x y ≡ Less → id_cmp y z ≡ Less → id_cmp x z ≡ Less
id_cmp_trans x y z = nat_list_cmp_total.trans x y z

-- an identifier names a section as its order to the section's tells
pub is_named-by_order : (id : List ℕ) (s : Section) (o : Ordering) → id_cmp id s.id ≡ o → is_named id s ≡ is_eq (ordering_reverse o)
is_named-by_order id s o e = texts_ties s.id id ∙ ap is_eq (id_cmp_turned id s.id o e)

-- an identifier before all is that of none
pub section_at-below_all : (id : List ℕ) (sections : List Section) → IsBelowAll id sections → section_at id sections ≡ None
section_at-below_all id [] below = refl
section_at-below_all id (s ∷ sections) below = rw (is_named-by_order id s Less below.0) (section_at-below_all id sections below.1)

-- what is before an identifier that is before all is before all
pub IsBelowAll-earlier : (x y : List ℕ) (sections : List Section) → id_cmp x y ≡ Less → IsBelowAll y sections → IsBelowAll x sections
IsBelowAll-earlier x y [] first below = tt
IsBelowAll-earlier x y (s ∷ sections) first below = (id_cmp_trans x y s.id first below.0, IsBelowAll-earlier x y sections first below.1)

-- below all stays below all where sections are left out
pub IsBelowAll-filter : (p : Section → Bool) (id : List ℕ) (sections : List Section) → IsBelowAll id sections → IsBelowAll id (filter p sections)
IsBelowAll-filter p id [] below = tt
IsBelowAll-filter p id (s ∷ sections) below =
    let rest : IsBelowAll id (filter p sections) = IsBelowAll-filter p id sections below.1 in
    elim (p s) as (λ b. IsBelowAll id (cond b (s ∷ filter p sections) (filter p sections))) [ true ↦ (below.0, rest) | false ↦ rest ]

-- what rises still rises where sections are left out
pub Rises-filter : (p : Section → Bool) (sections : List Section) → Rises sections → Rises (filter p sections)
Rises-filter p [] rises = tt
Rises-filter p (s ∷ sections) rises =
    let rest : Rises (filter p sections) = Rises-filter p sections rises.1 in
    elim (p s) as (λ b. Rises (cond b (s ∷ filter p sections) (filter p sections))) [ true ↦ (IsBelowAll-filter p s.id sections rises.0, rest) | false ↦ rest ]

-- those present rise
pub Rises-present : (t : ℤ) (sections : List Section) → Rises sections → Rises (present t sections)
Rises-present t sections rises = Rises-filter (is_present t) sections rises

-- below all stays below all of those present
pub IsBelowAll-present : (t : ℤ) (id : List ℕ) (sections : List Section) → IsBelowAll id sections → IsBelowAll id (present t sections)
IsBelowAll-present t id sections below = IsBelowAll-filter (is_present t) id sections below

-- a look-up at a section that is present and at the ones after it, of which those present are found as `rest` says
where_present-here : (s : Section) (named : Bool) (among all : Option Section) (t : ℤ) → is_present t s ≡ true → among ≡ where_present t all → cond named (Some s) among ≡ where_present t (cond named (Some s) all)
where_present-here s true among all t here rest = rw here
where_present-here s false among all t here rest = rest

-- the same look-up at a section that is not present, whose identifier is that of none after it
where_present-gone : (s : Section) (named : Bool) (among all : Option Section) (t : ℤ) → is_present t s ≡ false → among ≡ where_present t all → (named ≡ true → all ≡ None) → among ≡ where_present t (cond named (Some s) all)
where_present-gone s true among all t gone rest alone = rw gone (rest ∙ ap (where_present t) (alone refl))
where_present-gone s false among all t gone rest alone = rest

-- a section's identifier is that of none after it
pub section_at_after : (id : List ℕ) (s : Section) (sections : List Section) → IsBelowAll s.id sections → is_named id s ≡ true → section_at id sections ≡ None
section_at_after id s sections below named = section_at-below_all id sections (subst (λ x. IsBelowAll x sections) ((is_named_decides id s).0 named) below)

-- a section is found among those present just where it is found and is present
pub section_at-present : (t : ℤ) (id : List ℕ) (sections : List Section) → Rises sections → section_at id (present t sections) ≡ where_present t (section_at id sections)
section_at-present t id [] rises = refl
section_at-present t id (s ∷ sections) rises =
    let rest = section_at-present t id sections rises.1 in
    let alone = section_at_after id s sections rises.0 in
    elim (is_present t s) as (λ here. is_present t s ≡ here → section_at id (cond here (s ∷ present t sections) (present t sections)) ≡ where_present t (cond (is_named id s) (Some s) (section_at id sections))) [
      | true ↦ λ here. where_present-here s (is_named id s) _ _ t here rest
      | false ↦ λ gone. where_present-gone s (is_named id s) _ _ t gone rest alone
    ] refl

-- a section that is found where only a present one is was found, and is present
pub where_present-Some : (t : ℤ) (found : Option Section) (s : Section) → where_present t found ≡ Some s → (found ≡ Some s) × (is_present t s ≡ true)
where_present-Some t None s e = absurd (none-some s e)
where_present-Some t (Some x) s e =
    elim (is_present t x) as (λ b. is_present t x ≡ b → cond b (Some x) None ≡ Some s → (Some x ≡ Some s) × (is_present t s ≡ true)) [
      | true ↦ λ here is. (is, subst (λ y. is_present t y ≡ true) (same_Some x s is) here)
      | false ↦ λ gone is. absurd (none-some s is)
    ] refl e

-- a section found has the identifier asked
pub section_at-named : (id : List ℕ) (sections : List Section) (s : Section) → section_at id sections ≡ Some s → s.id ≡ id
section_at-named id [] s found = absurd (none-some s found)
section_at-named id (x ∷ sections) s found =
    elim (is_named id x) as (λ b. is_named id x ≡ b → cond b (Some x) (section_at id sections) ≡ Some s → s.id ≡ id) [
      | true ↦ λ named is. subst (λ y. y.id ≡ id) (same_Some x s is) ((is_named_decides id x).0 named)
      | false ↦ λ other is. section_at-named id sections s is
    ] refl found

-- what holds of all sections holds of the one found
pub All-section_at : (P : Section → Type 0) (id : List ℕ) (sections : List Section) (s : Section) → All P sections → section_at id sections ≡ Some s → P s
All-section_at P id [] s all found = absurd (none-some s found)
All-section_at P id (x ∷ sections) s all found =
    elim (is_named id x) as (λ b. cond b (Some x) (section_at id sections) ≡ Some s → P s) [
      | true ↦ λ is. subst P (same_Some x s is) (All-head P x sections all)
      | false ↦ λ is. All-section_at P id sections s (All-tail P x sections all) is
    ] found

-- ---- places

-- the section found is the one at its place, where that is so of the sections after the first
place_step : (s : Section) (sections : List Section) (named : Bool) (place : Option ℕ) (found : Option Section) → ((i : ℕ) → place ≡ Some i → found ≡ slice_get sections i) → (i : ℕ) → cond named (Some 0) (option_map suc place) ≡ Some i → cond named (Some s) found ≡ slice_get (s ∷ sections) i
place_step s sections true place found rest i is = ap (slice_get (s ∷ sections)) (same_Some 0 i is)
place_step s sections false None found rest i is = absurd (none-some i is)
place_step s sections false (Some j) found rest i is = rest j refl ∙ ap (slice_get (s ∷ sections)) (same_Some (suc j) i is)

-- the section found is the one at its place
pub section_at-place_of : (id : List ℕ) (sections : List Section) (i : ℕ) → place_of id sections ≡ Some i → section_at id sections ≡ slice_get sections i
section_at-place_of id [] i is = absurd (none-some i is)
section_at-place_of id (s ∷ sections) i is = place_step s sections (is_named id s) (place_of id sections) (section_at id sections) (section_at-place_of id sections) i is

-- what has no place is not found
pub section_at-no_place : (id : List ℕ) (sections : List Section) → place_of id sections ≡ None → section_at id sections ≡ None
section_at-no_place id [] is = refl
section_at-no_place id (s ∷ sections) is = step (is_named id s) (place_of id sections) (section_at-no_place id sections) is
  where
    step : (named : Bool) (place : Option ℕ) → (place ≡ None → section_at id sections ≡ None) → cond named (Some 0) (option_map suc place) ≡ None → cond named (Some s) (section_at id sections) ≡ None
    step true place rest is = absurd (none-some 0 (sym is))
    step false None rest is = rest refl
    step false (Some i) rest is = absurd (none-some (suc i) (sym is))

-- a place is within the list
pub place_of-lt : (id : List ℕ) (sections : List Section) (i : ℕ) → place_of id sections ≡ Some i → i < length sections
place_of-lt id [] i is = absurd (none-some i is)
place_of-lt id (s ∷ sections) i is = step (is_named id s) (place_of id sections) (place_of-lt id sections) i is
  where
    step : (named : Bool) (place : Option ℕ) → ((i : ℕ) → place ≡ Some i → i < length sections) → (i : ℕ) → cond named (Some 0) (option_map suc place) ≡ Some i → i < suc (length sections)
    step true place rest i is = let at : 0 ≡ i = same_Some 0 i is in omega arith
    step false None rest i is = absurd (none-some i is)
    step false (Some j) rest i is = let at : suc j ≡ i = same_Some (suc j) i is in let lt : j < length sections = rest j refl in omega arith

-- what is found is at the place, and nothing where there is no place
pub section_at-MatchOption : (id : List ℕ) (sections : List Section) → MatchOption (place_of id sections) (section_at id sections ≡ None) (λ place. section_at id sections ≡ slice_get sections place)
section_at-MatchOption id sections =
    elim (place_of id sections) as (λ o. place_of id sections ≡ o → MatchOption o (section_at id sections ≡ None) (λ place. section_at id sections ≡ slice_get sections place)) [
      | None ↦ λ nowhere. section_at-no_place id sections nowhere
      | Some i ↦ λ at. section_at-place_of id sections i at
    ] refl

-- an identifier before all is before that of the section at any place
pub id_cmp-IsBelowAll : (id : List ℕ) (sections : List Section) (i : ℕ) (s : Section) → IsBelowAll id sections → slice_get sections i ≡ Some s → id_cmp id s.id ≡ Less
id_cmp-IsBelowAll id [] i s below is = absurd (none-some s is)
id_cmp-IsBelowAll id (x ∷ sections) zero s below is = subst (λ y. id_cmp id y.id ≡ Less) (same_Some x s is) below.0
id_cmp-IsBelowAll id (x ∷ sections) (suc i) s below is = id_cmp-IsBelowAll id sections i s below.1 is

-- where identifiers rise, each section is at the place of its identifier, so each identifier stands once
pub place_of-slice_get : (sections : List Section) (i : ℕ) (s : Section) → Rises sections → slice_get sections i ≡ Some s → place_of s.id sections ≡ Some i
place_of-slice_get [] i s rises is = absurd (none-some s is)
place_of-slice_get (x ∷ sections) zero s rises is =
    let named : is_named s.id x ≡ true = (is_named_decides s.id x).1 (ap (λ y. y.id) (same_Some x s is)) in
    rw named
place_of-slice_get (x ∷ sections) (suc i) s rises is =
    let later : id_cmp s.id x.id ≡ Greater = id_cmp_turned x.id s.id Less (id_cmp-IsBelowAll x.id sections i s rises.0 is) in
    rw (is_named-by_order s.id x Greater later, place_of-slice_get sections i s rises.1 is)

-- where identifiers rise, each section is the one found by its identifier
pub section_at-slice_get : (sections : List Section) (i : ℕ) (s : Section) → Rises sections → slice_get sections i ≡ Some s → section_at s.id sections ≡ Some s
section_at-slice_get sections i s rises is = section_at-place_of s.id sections i (place_of-slice_get sections i s rises is) ∙ is

-- where identifiers rise, two sections with one identifier stand at one place
pub same_place : (sections : List Section) (i j : ℕ) (r s : Section) → Rises sections → slice_get sections i ≡ Some r → slice_get sections j ≡ Some s → r.id ≡ s.id → i ≡ j
same_place sections i j r s rises at_i at_j same =
    same_Some i j (sym (place_of-slice_get sections i r rises at_i) ∙ ap (λ id. place_of id sections) same ∙ place_of-slice_get sections j s rises at_j)

-- ---- how many, and how many bytes

-- those present are at most all
pub length-present-le : (t : ℤ) (sections : List Section) → length (present t sections) ≤ length sections
length-present-le t sections = length-filter_le (is_present t) sections

-- leaving sections out takes no more bytes
pub memory_used-filter-le : (p : Section → Bool) (sections : List Section) → memory_used (filter p sections) ≤ memory_used sections
memory_used-filter-le p sections = omega (arith, sum_by-filter_both p (λ s. not (p s)) (λ s. refl) size_of sections)

-- those present have at most the bytes of all
pub memory_used-present-le : (t : ℤ) (sections : List Section) → memory_used (present t sections) ≤ memory_used sections
memory_used-present-le t sections = memory_used-filter-le (is_present t) sections
