-- The nodes on which a checkpoint is made are up, and its opener's is among them.
use Rattle.std.proofs.Common.{◌≡◌, ℕ, ◌<◌, List, length, Bool, true, false, cond, ◌==◌, refl, sym, ap, subst, ◌∙◌}
use Rattle.std.specs.Prelude.{slice_index}
use Rattle.std.proofs.lemmas.Bool.{eqb-true}
use Rattle.ckpt_types.specs.declared.attributes.CreationAttributes.{CreationAttributes}
use Rattle.cluster_record.specs.Placement.{is_collocated, alone_on, targets}
use Rattle.cluster_record.specs.RecordState.{no_nodes}
use Rattle.ckpt_machine.proofs.NodeLists.{index-within, index-set, index-other, length-slice_set}
use Rattle.ckpt_types.proofs.Lists.{slice_index-replicate}

module _ (a : CreationAttributes) (opener : ℕ) (up : List ℕ) where
  abbrev on : Bool → List ℕ
  on collocated = cond collocated (alone_on opener up) up

  -- one for each node
  pub targets-length : length up ≡ 8 → length (targets a opener up) ≡ 8
  targets-length eight = by_kind (is_collocated a)
    where
      by_kind : (b : Bool) → length (on b) ≡ 8
      by_kind true = length-slice_set no_nodes opener (slice_index up opener)
      by_kind false = eight

  -- a target is up, in this incarnation
  pub target-up : (r : ℕ) → (slice_index (targets a opener up) r == 0) ≡ false → slice_index (targets a opener up) r ≡ slice_index up r
  target-up r there = by_kind (is_collocated a) there
    where
      by_node : (b : Bool) → (r == opener) ≡ b → (slice_index (alone_on opener up) r == 0) ≡ false → slice_index (alone_on opener up) r ≡ slice_index up r
      by_node true same there =
          let here : r ≡ opener = eqb-true r opener same in
          subst (λ (q : ℕ). slice_index (alone_on opener up) q ≡ slice_index up q) (sym here) (index-set no_nodes opener (slice_index up opener) (within (subst (λ (q : ℕ). (slice_index (alone_on opener up) q == 0) ≡ false) here there)))
        where
          within : (slice_index (alone_on opener up) opener == 0) ≡ false → opener < 8
          within some = subst (λ (n : ℕ). opener < n) (length-slice_set no_nodes opener (slice_index up opener)) (index-within (alone_on opener up) opener some)
      by_node false other there = absurd (let none : slice_index (alone_on opener up) r ≡ 0 = index-other no_nodes opener r (slice_index up opener) other ∙ slice_index-replicate 8 r in let w : true ≡ false = sym (ap (λ (n : ℕ). n == 0) none) ∙ there in cc w)

      by_kind : (b : Bool) → (slice_index (on b) r == 0) ≡ false → slice_index (on b) r ≡ slice_index up r
      by_kind true there = by_node (r == opener) refl there
      by_kind false there = refl

  -- the opener's node is one, where it is up
  pub target-home : opener < 8 → (slice_index up opener == 0) ≡ false → (slice_index (targets a opener up) opener == 0) ≡ false
  target-home within there = by_kind (is_collocated a)
    where
      by_kind : (b : Bool) → (slice_index (on b) opener == 0) ≡ false
      by_kind true = ap (λ (n : ℕ). n == 0) (index-set no_nodes opener (slice_index up opener) within) ∙ there
      by_kind false = there
