-- Where the generation of each checkpoint can rise, it still can behind the clients that go with a node.
use Rattle.std.proofs.Common.{◌≡◌, ℕ, ◌-◌, ◌^◌, ◌<◌, List, [], ◌∷◌, filter, All, Option, Some, None, Bool, true, false, cond, not, ◌==◌, refl, sym, ap, subst, eqb-true, eq-eqb}
use Rattle.std.proofs.lemmas.List.Elements.{All-nil, All-cons, All-filter, All-map, All-weaker}
use Rattle.cluster_record.specs.declared.entries.Entry.{Entry}
use Rattle.cluster_record.specs.Failing.{without_clients, references_left, cut_off, is_of_those}
use Rattle.cluster_record.specs.Identities.{IdentitiesRise}
use Rattle.cluster_record.specs.RecordReady.{CanSetActive}
use Rattle.cluster_record.specs.RecordState.{RecordState, identity_of, entry_of, has_references, idle_from}
use Rattle.cluster_record.proofs.IdentityLaws.{none_at}
use Rattle.cluster_record.proofs.KeptLaws.{All-find_key}

-- the generation of an entry can rise
abbrev pub CanRise : Entry → Type 0
CanRise e = CanSetActive (Some e)

-- where that of the one that is found can, that of each can
pub all_rise : (es : List Entry) → IdentitiesRise es → ((k : ℕ) → CanSetActive (entry_of k es)) → All CanRise es
all_rise [] rises can = All-nil CanRise
all_rise (e ∷ es) rises can = All-cons CanRise e es first (all_rise es rises.1 rest) where
  first : CanRise e
  first = subst CanSetActive (ap (λ b. cond b (Some e) (entry_of e.identity es)) (eq-eqb e.identity e.identity refl)) (can e.identity)

  rest : (k : ℕ) → CanSetActive (entry_of k es)
  rest k = by (e.identity == k) refl (can k) where
    by : (b : Bool) → (e.identity == k) ≡ b → CanSetActive (cond b (Some e) (entry_of k es)) → CanSetActive (entry_of k es)
    by true is can = subst CanSetActive (sym (none_at e.identity k es rises.0 (eqb-true e.identity k is))) tt
    by false is can = can

-- and where that of each can, that of the one that is found can
pub found_rises : (es : List Entry) → All CanRise es → (k : ℕ) → CanSetActive (entry_of k es)
found_rises es all k = by (entry_of k es) refl where
  by : (o : Option Entry) → entry_of k es ≡ o → CanSetActive o
  by None is = tt
  by (Some e) is = All-find_key CanRise identity_of k es e all is

-- an entry without some clients is of its generation
same_generation : (goes : ℕ → Bool) (R : RecordState) (e : Entry) → (without_clients goes R.moment e).generation ≡ e.generation
same_generation goes R e =
    let f : Entry = record e { references = references_left goes 0 e.references } in
    elim (has_references e) as (λ b. (cond b (idle_from R.moment f) f).generation ≡ e.generation) [
      | true ↦ elim (has_references f) as (λ b. (cond b f (record f { idle = R.moment })).generation ≡ e.generation) [ true ↦ refl | false ↦ refl ]
      | false ↦ refl
    ]

-- so each that can rise can behind its clients
pub cut_off-rises : (goes : ℕ → Bool) (R : RecordState) → IdentitiesRise R.entries → ((k : ℕ) → CanSetActive (entry_of k R.entries)) → (k : ℕ) → CanSetActive (entry_of k (cut_off goes R).entries)
cut_off-rises goes R rises can k =
    let stay : Entry → Bool = λ e. not (is_of_those goes e.making) in
    let left : Entry → Entry = without_clients goes R.moment in
    let all = All-weaker CanRise (λ e. CanRise (left e)) later R.entries (all_rise R.entries rises can) in
    found_rises (cut_off goes R).entries (All-map CanRise left (filter stay R.entries) (All-filter stay (λ e. CanRise (left e)) R.entries all)) k
  where
    later : (e : Entry) → CanRise e → CanRise (without_clients goes R.moment e)
    later e can = subst (λ (n : ℕ). n < 2 ^ 64 - 1) (sym (same_generation goes R e)) can
