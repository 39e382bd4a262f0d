-- Lists by node, where a node goes.
use Rattle.std.proofs.Common.{◌≡◌, ℕ, List, true, false, ◌==◌, refl, sym, ap, ◌∙◌, replicate}
use Rattle.std.specs.Prelude.{slice_set, slice_index}
use Rattle.std.proofs.lemmas.Bool.{eqb-true}
use Rattle.ckpt_machine.proofs.NodeLists.{index-other}
use Rattle.ckpt_types.proofs.Lists.{slice_index-replicate, slice_set-replicate, slice_index-cleared}

-- nor is there one then
pub no_node : (n r q : ℕ) → (slice_index (slice_set (replicate n 0) r 0) q == 0) ≡ true
no_node n r q = ap (λ xs. slice_index xs q == 0) (slice_set-replicate n r) ∙ ap (λ (x : ℕ). x == 0) (slice_index-replicate n q)

-- a node that is complete still is another, and was so
pub complete_was : (cs : List ℕ) (r q : ℕ) → (slice_index (slice_set cs r 0) q == 0) ≡ false → ((q == r) ≡ false) × ((slice_index cs q == 0) ≡ false)
complete_was cs r q there = elim (q == r) as (λ b. (q == r) ≡ b → (b ≡ false) × ((slice_index cs q == 0) ≡ false)) [
  | true ↦ λ same. absurd (let w : true ≡ false = sym (ap (λ (n : ℕ). n == 0) (ap (slice_index (slice_set cs r 0)) (eqb-true q r same) ∙ slice_index-cleared cs r)) ∙ there in cc w)
  | false ↦ λ other. (refl, ap (λ (n : ℕ). n == 0) (sym (index-other cs r q 0 other)) ∙ there)
] refl

-- another one that was complete is so still
pub complete_still : (cs : List ℕ) (r q : ℕ) → (q == r) ≡ false → (slice_index cs q == 0) ≡ false → (slice_index (slice_set cs r 0) q == 0) ≡ false
complete_still cs r q other there = ap (λ (n : ℕ). n == 0) (index-other cs r q 0 other) ∙ there
