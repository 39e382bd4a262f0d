-- What an open leaves of the entry that it opens: a collocated checkpoint may be complete on its client's node too, and but for its references all else stays.
use Rattle.std.proofs.Common.{◌≡◌, ℕ, ◌<◌, List, Option, None, Bool, true, false, cond, ◌&&◌, ◌==◌, ℤ, length, refl, sym, ap, subst, ◌∙◌}
use Rattle.std.specs.Prelude.{is_some, slice_index, slice_set}
use Rattle.std.proofs.lemmas.Bool.{eqb-true, ne_eqb, and_parts}
use Rattle.ckpt_types.specs.declared.attributes.CreationAttributes.{CreationAttributes}
use Rattle.ckpt_types.specs.declared.identities.CallId.{CallId}
use Rattle.ckpt_types.specs.Attributes.{has_flag}
use Rattle.ckpt_types.specs.Limits.{wr_all_replicas, checkpoint_collocated}
use Rattle.cluster_record.specs.declared.entries.Entry.{Entry}
use Rattle.cluster_record.specs.Placement.{is_collocated, adds, is_all}
use Rattle.cluster_record.specs.RecordState.{joined, opened_with}
use Rattle.cluster_record.proofs.IdentityLaws.{KeepsIdentity}
use Rattle.ckpt_machine.specs.Later.{IsLaterEntry}
use Rattle.ckpt_machine.specs.Shape.{NodesAreUp, IsCompleteOn}
use Rattle.ckpt_machine.proofs.NodeLists.{index-within, index-set, index-other, length-slice_set}

-- ---- where updates are on all replicas

-- the checkpoint is not collocated
pub all_apart : (a : CreationAttributes) → is_all a ≡ true → is_collocated a ≡ false
all_apart a all = ap (λ flags. has_flag flags checkpoint_collocated) (eqb-true a.creation_flags wr_all_replicas all)

-- and of a collocated one they are not
pub collocated_apart : (a : CreationAttributes) → is_collocated a ≡ true → is_all a ≡ false
collocated_apart a collocated = by_test (is_all a) refl
  where
    by_test : (b : Bool) → is_all a ≡ b → is_all a ≡ false
    by_test false is = is
    by_test true is = absurd (let w : true ≡ false = sym collocated ∙ all_apart a is in cc w)

-- ---- the entry opened from a node, where these nodes are up

module _ (opener : ℕ) (up : List ℕ) (e : Entry) where
  -- the nodes, with the opener's
  abbrev with_opener : List ℕ
  with_opener = slice_set e.complete opener (slice_index up opener)

  -- what does not depend on the nodes stays
  joined-same : {X : Type 0} (part : Entry → X) → part (record e { complete = with_opener }) ≡ part e → part (joined opener up e) ≡ part e
  joined-same part same = elim (adds e.attributes opener e.complete) as (λ b. part (cond b (record e { complete = with_opener }) e) ≡ part e) [ true ↦ same | false ↦ refl ]

  pub joined-making : (joined opener up e).making ≡ e.making
  joined-making = joined-same {X = Option CallId} (λ e. e.making) refl

  pub joined-active : (joined opener up e).active ≡ e.active
  joined-active = joined-same {X = Option ℕ} (λ e. e.active) refl

  pub joined-attributes : (joined opener up e).attributes ≡ e.attributes
  joined-attributes = joined-same {X = CreationAttributes} (λ e. e.attributes) refl

  pub joined-made : (joined opener up e).made ≡ e.made
  joined-made = joined-same {X = ℤ} (λ e. e.made) refl

  pub joined-generation : (joined opener up e).generation ≡ e.generation
  joined-generation = joined-same {X = ℕ} (λ e. e.generation) refl

  pub joined-hold : (joined opener up e).hold ≡ e.hold
  joined-hold = joined-same (λ e. e.hold) refl

  -- so do its nodes, where it is not collocated
  pub joined-placed : is_collocated e.attributes ≡ false → (joined opener up e).complete ≡ e.complete
  joined-placed placed = ap (λ b. (cond (b && (slice_index e.complete opener == 0)) (record e { complete = with_opener }) e).complete) placed

  -- a node that is complete stays so
  pub joined-complete : (r : ℕ) → IsCompleteOn e r → IsCompleteOn (joined opener up e) r
  joined-complete r there = elim (adds e.attributes opener e.complete) as (λ b. adds e.attributes opener e.complete ≡ b → IsCompleteOn (cond b (record e { complete = with_opener }) e) r) [
    | true ↦ λ new. ap (λ n. n == 0) (index-other e.complete opener r (slice_index up opener) (ne_eqb r opener (apart new))) ∙ there
    | false ↦ λ none. there
  ] refl
    where
      apart : adds e.attributes opener e.complete ≡ true → r ≡ opener → ⊥
      apart new same =
          let was : (slice_index e.complete opener == 0) ≡ true = (and_parts (is_collocated e.attributes) (slice_index e.complete opener == 0) new).1 in
          let w : true ≡ false = sym was ∙ subst (λ (q : ℕ). (slice_index e.complete q == 0) ≡ false) same there in
          cc w

  -- the nodes on which it is complete are up, where they were
  joined-up : NodesAreUp up e → NodesAreUp up (joined opener up e)
  joined-up was = elim (adds e.attributes opener e.complete) as (λ b. NodesAreUp up (cond b (record e { complete = with_opener }) e)) [
    | true ↦ λ r there. by_node r there (r == opener) refl
    | false ↦ was
  ]
    where
      by_node : (r : ℕ) → (slice_index with_opener r == 0) ≡ false → (b : Bool) → (r == opener) ≡ b → slice_index up r ≡ slice_index with_opener r
      by_node r there true same =
          let here : r ≡ opener = eqb-true r opener same in
          let within : opener < length e.complete = subst (λ (n : ℕ). opener < n) (length-slice_set e.complete opener (slice_index up opener)) (subst (λ (q : ℕ). q < length with_opener) here (index-within with_opener r there)) in
          ap (slice_index up) here ∙ sym (index-set e.complete opener (slice_index up opener) within) ∙ ap (slice_index with_opener) (sym here)
      by_node r there false other =
          let stays = index-other e.complete opener r (slice_index up opener) other in
          was r (ap (λ n. n == 0) (sym stays) ∙ there) ∙ sym stays

  joined-nodes : length (joined opener up e).complete ≡ length e.complete
  joined-nodes = joined-same {X = ℕ} (λ e. length e.complete) (length-slice_set e.complete opener (slice_index up opener))

  joined-references : (joined opener up e).references ≡ e.references
  joined-references = joined-same {X = List ℕ} (λ e. e.references) refl

-- an open leaves the identity as it is
pub opened_with-identity : (opener : ℕ) (up : List ℕ) (c : ℕ) → KeepsIdentity (opened_with opener up c)
opened_with-identity opener up c e = joined-same opener up e {X = ℕ} (λ e. e.identity) refl

-- ---- later entries

-- an entry with the same nodes
pub same_nodes-later : (up : List ℕ) (e f : Entry) → f.making ≡ e.making → f.complete ≡ e.complete → f.active ≡ e.active → f.attributes ≡ e.attributes → f.generation ≡ e.generation → f.hold ≡ e.hold → length f.references ≡ length e.references → IsLaterEntry up e f
same_nodes-later up e f making complete active attributes generation hold clients = record {
  making = making;
  unmade = λ some. complete;
  placed = λ apart. complete;
  nodes = ap length complete;
  grows = λ r there. subst (λ (cs : List ℕ). (slice_index cs r == 0) ≡ false) (sym complete) there;
  lives = λ was. subst (λ (cs : List ℕ). (r : ℕ) → (slice_index cs r == 0) ≡ false → slice_index up r ≡ slice_index cs r) (sym complete) was;
  active = active;
  attributes = attributes;
  generation = generation;
  hold = hold;
  clients = clients;
}

-- the same
pub IsLaterEntry-refl : (up : List ℕ) (e : Entry) → IsLaterEntry up e e
IsLaterEntry-refl up e = same_nodes-later up e e refl refl refl refl refl refl refl

-- what an open leaves of one that is made
pub opened_with-later : (opener : ℕ) (up : List ℕ) (c : ℕ) (e : Entry) → e.making ≡ None → IsLaterEntry up e (opened_with opener up c e)
opened_with-later opener up c e made = record {
  making = joined-making opener up e;
  unmade = λ some. absurd (let w : false ≡ true = sym (ap (λ o. is_some o) made) ∙ some in cc w);
  placed = joined-placed opener up e;
  nodes = joined-nodes opener up e;
  grows = joined-complete opener up e;
  lives = joined-up opener up e;
  active = joined-active opener up e;
  attributes = joined-attributes opener up e;
  generation = joined-generation opener up e;
  hold = joined-hold opener up e;
  clients = length-slice_set (joined opener up e).references c _ ∙ ap length (joined-references opener up e);
}

-- ---- the opener's node

-- a collocated one that was opened from a node that is up is complete there
pub joined-here : (opener : ℕ) (up : List ℕ) (e : Entry) → is_collocated e.attributes ≡ true → opener < length e.complete → (slice_index up opener == 0) ≡ false → IsCompleteOn (joined opener up e) opener
joined-here opener up e collocated within is_up = by_test (slice_index e.complete opener == 0) refl
  where
    by_test : (b : Bool) → (slice_index e.complete opener == 0) ≡ b → IsCompleteOn (joined opener up e) opener
    by_test true none = subst (λ b. IsCompleteOn (cond b (record e { complete = with_opener opener up e }) e) opener) (λ i. sym (ap (λ b. b && (slice_index e.complete opener == 0)) collocated ∙ none) i) (ap (λ n. n == 0) (index-set e.complete opener (slice_index up opener) within) ∙ is_up)
    by_test false some = joined-complete opener up e opener some
