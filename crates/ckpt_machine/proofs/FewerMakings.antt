-- Where what is in the making was so, by the same call, a client has no more of it in the making than it had.
use Rattle.std.proofs.Common.{◌≡◌, ℕ, ◌≤◌, List, [], ◌∷◌, filter, Some, None, Bool, true, false, not, cond, ◌==◌, refl, sym, ap, ◌∙◌, arith}
use Rattle.std.proofs.lemmas.Bool.{eqb-true, eq-eqb}
use Rattle.cluster_record.specs.declared.entries.Entry.{Entry}
use Rattle.cluster_record.specs.Identities.{IdentitiesRise}
use Rattle.cluster_record.specs.Makings.{makings_of}
use Rattle.cluster_record.specs.RecordState.{entry_of, identity_of, is_call_of}
use Rattle.cluster_record.proofs.IdentityLaws.{none_at, IdentitiesRise-filter}
use Rattle.cluster_record.proofs.MakingCounts.{one_if, makings_of-cons, makings_of-gone}
use Rattle.ckpt_machine.proofs.EntryLists.{find_key-without}

-- each entry was there, in the making by the same call
abbrev pub MakesNoMore : List Entry → List Entry → Type 0
MakesNoMore old new = (k : ℕ) (f : Entry) → entry_of k new ≡ Some f → (e : Entry) × (entry_of k old ≡ Some e) × (f.making ≡ e.making)

-- the entries of other identities
abbrev others : ℕ → List Entry → List Entry
others k = filter (λ e. not (e.identity == k))

module _ (c : ℕ) where
  -- so it is with those behind the first one, without that one
  rest_makes : (old : List Entry) (f : Entry) (fs : List Entry) → IdentitiesRise (f ∷ fs) → MakesNoMore old (f ∷ fs) → MakesNoMore (others f.identity old) fs
  rest_makes old f fs rises were k g found = by_test (f.identity == k) refl (were k g)
    where
      by_test : (b : Bool) → (f.identity == k) ≡ b → (cond b (Some f) (entry_of k fs) ≡ Some g → (e : Entry) × (entry_of k old ≡ Some e) × (g.making ≡ e.making)) → (e : Entry) × (entry_of k (others f.identity old) ≡ Some e) × (g.making ≡ e.making)
      by_test true is was = absurd (let none : None ≡ Some g = sym (none_at f.identity k fs rises.0 (eqb-true f.identity k is)) ∙ found in cc none)
      by_test false other was =
          let (e, there, same) = was found in
          let apart : (k == f.identity) ≡ false = differ k f.identity other in
          (e, find_key-without identity_of f.identity k old ∙ ap (λ b. cond b None (entry_of k old)) apart ∙ there, same)
        where
          differ : (a b : ℕ) → (b == a) ≡ false → (a == b) ≡ false
          differ a b other = elim (a == b) as (λ t. (a == b) ≡ t → (a == b) ≡ false) [ true ↦ λ same. absurd (let e : true ≡ false = sym (eq-eqb b a (sym (eqb-true a b same))) ∙ other in cc e) | false ↦ λ apart. apart ] refl

  pub fewer_makings : (old new : List Entry) → IdentitiesRise old → IdentitiesRise new → MakesNoMore old new → makings_of c new ≤ makings_of c old
  fewer_makings old [] rises then_rises were = omega arith
  fewer_makings old (f ∷ fs) rises then_rises were =
      let (e, found, same) = were f.identity f (ap (λ b. cond b (Some f) (entry_of f.identity fs)) (eq-eqb f.identity f.identity refl)) in
      let more = fewer_makings (others f.identity old) fs (IdentitiesRise-filter (λ e. not (e.identity == f.identity)) old rises) then_rises.1 (rest_makes old f fs then_rises were) in
      let one : one_if (is_call_of c f.making) ≡ one_if (is_call_of c e.making) = ap (λ maker. one_if (is_call_of c maker)) same in
      omega (arith, makings_of-cons c f fs, more, one, makings_of-gone c f.identity old e rises found)
