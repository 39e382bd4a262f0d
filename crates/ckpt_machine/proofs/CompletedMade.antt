-- A checkpoint for which one node more comes to be complete goes on made: what it is on it stays on, and where updates go to the active alone, this stays.
use Rattle.std.proofs.Common.{◌≡◌, ◌⊎◌, inl, inr, ℕ, ◌+◌, ◌≤◌, Option, Some, None, Bool, true, false, cond, ◌==◌, refl, sym, ap, ◌∙◌, arith}
use Rattle.std.specs.Prelude.{slice_index}
use Rattle.std.proofs.lemmas.Bool.{eqb-true, eq-eqb}
use Rattle.cluster_record.specs.declared.entries.Entry.{Entry}
use Rattle.cluster_record.specs.Joining.{can_complete, completed_on, led_by, led_by_lowest, with_node}
use Rattle.cluster_record.specs.Placement.{is_all}
use Rattle.cluster_record.specs.RecordState.{first_complete, is_active}
use Rattle.cluster_record.proofs.JoinLaws.{active_stays, generation_by_active, others_complete, rest_stays}
use Rattle.cluster_record.proofs.EntryLaws.{can_complete-parts}
use Rattle.ckpt_machine.specs.Shape.{IsCompleteOn}
use Rattle.ckpt_machine.proofs.FailedActive.{active_is}
use Rattle.ckpt_machine.proofs.StaysMade.{GoesOnMade, RemainsBut}

module _ (r n : ℕ) (e : Entry) where
  abbrev f : Entry
  f = completed_on r n e

  -- its generation does not fall, and while it stays so does its active
  abbrev LedFrom : Entry → Type 0
  LedFrom g = (e.generation ≤ g.generation) × (g.generation ≡ e.generation → g.active ≡ e.active)

  led_from_it : LedFrom f
  led_from_it = by (can_complete r n e) (is_all e.attributes) (first_complete 0 (with_node r n e).complete)
    where
      by_active : (q : ℕ) (b : Bool) → is_active e.active q ≡ b → (e.generation ≤ cond b e.generation (e.generation + 1)) × (cond b e.generation (e.generation + 1) ≡ e.generation → Some q ≡ e.active)
      by_active q true is = (omega arith, λ same. sym (active_is e.active q is))
      by_active q false other = (omega arith, λ same. absurd (let still : e.generation + 1 ≡ e.generation = same in omega (arith, still)))

      by : (can all : Bool) (o : Option ℕ) → LedFrom (cond can (cond all (led_by o (with_node r n e)) (with_node r n e)) e)
      by true true None = (omega arith, λ same. refl)
      by true true (Some q) = by_active q (is_active e.active q) refl
      by true false o = (omega arith, λ same. refl)
      by false all o = (omega arith, λ same. refl)

  pub completed_goes : GoesOnMade e f
  completed_goes = record {
    made = λ made. record { made = ap (λ (g : Entry). g.making) (rest_stays r n e) ∙ made; generation = led_from_it.0; active = led_from_it.1 };
    attributes = ap (λ (g : Entry). g.attributes) (rest_stays r n e);
    since = ap (λ (g : Entry). g.made) (rest_stays r n e);
  }

  -- it is where it was, and on that node
  pub completed_remains : RemainsBut (λ q. ⊥) e f
  completed_remains = record {
    made = λ made. ap (λ (g : Entry). g.making) (rest_stays r n e) ∙ made;
    attributes = ap (λ (g : Entry). g.attributes) (rest_stays r n e);
    complete = λ q stays there. by_node q there (can_complete r n e) refl (q == r) refl;
  }
    where
      by_node : (q : ℕ) → IsCompleteOn e q → (can : Bool) → can_complete r n e ≡ can → (same : Bool) → (q == r) ≡ same → IsCompleteOn f q
      by_node q there can can_is false other = ap (λ c. c == 0) (others_complete r n e q (λ same. let w : true ≡ false = sym (eq-eqb q r same) ∙ other in cc w)) ∙ there
      by_node q there true can_is true same = absurd (
          let none : (slice_index e.complete q == 0) ≡ true = ap (λ p. slice_index e.complete p == 0) (eqb-true q r same) ∙ ap (λ c. c == 0) (can_complete-parts r n e can_is).3 in
          let w : true ≡ false = sym none ∙ there in cc w)
      by_node q there false can_is true same = ap (λ b. slice_index (cond b (led_by_lowest (with_node r n e)) e).complete q == 0) can_is ∙ there

  -- and nowhere else
  pub completed_placed : (q : ℕ) → IsCompleteOn f q → IsCompleteOn e q ⊎ (q ≡ r)
  completed_placed q there = by (q == r) refl
    where
      by : (b : Bool) → (q == r) ≡ b → IsCompleteOn e q ⊎ (q ≡ r)
      by true same = inr (eqb-true q r same)
      by false other = inl (ap (λ c. c == 0) (sym (others_complete r n e q (λ same. let w : true ≡ false = sym (eq-eqb q r same) ∙ other in cc w))) ∙ there)

  -- where updates go to the active alone, it has the same active and generation
  pub completed_alone : is_all e.attributes ≡ false → (f.active ≡ e.active) × (f.generation ≡ e.generation)
  completed_alone alone = let active = active_stays r n e alone in (active, (generation_by_active r n e).0 active)
