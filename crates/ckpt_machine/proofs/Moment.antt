-- The moment is set, with any calls in hand.
use Rattle.std.proofs.Common.{[], ◌∷◌, ◌==◌, ◌≡◌, ℕ, inl, inr, List, Some, None, true, false, cond, not, ◌&&◌, ◌||◌, ℤ, filter, refl, sym, ap, ◌∙◌}
use Rattle.std.specs.Prelude.{is_some}
use Rattle.cluster_record.specs.declared.entries.Entry.{Entry}
use Rattle.cluster_record.specs.RecordState.{entry_of, stays, moved, has_references, retained_until}
use Rattle.cluster_record.proofs.IdentityLaws.{filter_leaves, IdentitiesRise-filter, AllUpTo-filter}
use Rattle.ckpt_machine.specs.Machine.{Machine}
use Rattle.ckpt_machine.specs.After.{with_record}
use Rattle.ckpt_machine.specs.Shape.{Shape}
use Rattle.moment_rules.specs.Times.{is_reached}
use Rattle.std.proofs.lemmas.Option.{same_Some}
use Rattle.ckpt_machine.specs.Invariant.{InvariantIn, Invariant}
use Rattle.ckpt_machine.specs.Later.{IsLaterRecord}
pub use Rattle.ckpt_machine.proofs.OtherCalls.{IsLaterEntry-refl}
use Rattle.ckpt_machine.proofs.RecordSteps.{record_keeps}
use Rattle.ckpt_machine.proofs.EntryLists.{AllStay-swept}

-- an entry that stays is found in a sweep
pub found_swept : (t : ℤ) (k : ℕ) (es : List Entry) (e : Entry) → entry_of k es ≡ Some e → stays t e ≡ true → entry_of k (filter (stays t) es) ≡ Some e
found_swept t k [] e found stay = absurd (cc found)
found_swept t k (x ∷ xs) e found stay = elim (x.identity == k) as (λ b. (x.identity == k) ≡ b → cond b (Some x) (entry_of k xs) ≡ Some e → entry_of k (filter (stays t) (x ∷ xs)) ≡ Some e) [
  | true ↦ λ is here.
      let same : x ≡ e = same_Some x e here in
      ap (λ b. entry_of k (cond b (x ∷ filter (stays t) xs) (filter (stays t) xs))) (ap (stays t) same ∙ stay)
      ∙ ap (λ b. cond b (Some x) (entry_of k (filter (stays t) xs))) is ∙ here
  | false ↦ λ is there.
      elim (stays t x) as (λ b. entry_of k (cond b (x ∷ filter (stays t) xs) (filter (stays t) xs)) ≡ Some e) [
        | true ↦ ap (λ b. cond b (Some x) (entry_of k (filter (stays t) xs))) is ∙ found_swept t k xs e there stay
        | false ↦ found_swept t k xs e there stay
      ]
] refl found

-- one in the making stays
pub making_stays : (t : ℤ) (e : Entry) → is_some e.making ≡ true → stays t e ≡ true
making_stays t e some = ap (λ b. b || has_references e || (is_some e.name && not (is_reached (retained_until e) t))) some

-- what is left is later than the record
moved_later : (m : Machine) (shapes : ℕ → Shape) (t : ℤ) → InvariantIn shapes m → IsLaterRecord m (moved t m.cluster) m.in_hand
moved_later m shapes t inv = record {
  up = refl;
  incarnations = refl;
  first_calls = refl;
  last = refl;
  rises = IdentitiesRise-filter (stays t) m.cluster.entries inv.rises;
  up_to = AllUpTo-filter (stays t) m.cluster.last_identity m.cluster.entries inv.up_to;
  swept = AllStay-swept t m.cluster.entries;
  later = λ k f found. elim (filter_leaves (stays t) m.cluster.entries inv.rises k) [
    | inl none ↦ absurd (let w : None ≡ Some f = sym none ∙ found in cc)
    | inr same ↦ (f, sym same ∙ found, IsLaterEntry-refl m.cluster.up f)
  ];
  none_live = inv.none_live;
  clients = inv.clients;
  was_held = λ a z held. held;
  dead = λ d dead. dead.gone;
  live = λ a z held live. live;
  lives = λ a z held client. refl;
  makes = λ a z k e held found by. ap is_some (found_swept t k m.cluster.entries e found (making_stays t e (ap is_some by)));
  owners = λ k sh call own. refl;
  homes = λ a h among. refl;
  markers = λ k marks there own. refl;
  holders = λ k active d there own. refl;
  makers = λ k call there maker. refl;
}

pub moved_keeps : (m : Machine) (t : ℤ) → Invariant m → Invariant (with_record m (moved t m.cluster))
moved_keeps m t inv = record { shapes = inv.shapes; holds = record_keeps m inv.shapes inv.holds (moved t m.cluster) m.in_hand (moved_later m inv.shapes t inv.holds) }
