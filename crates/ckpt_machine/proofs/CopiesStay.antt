-- The copying of a node stays where it is, whatever changes, as long as this leaves of its checkpoint what the copying relies on.
use Rattle.std.proofs.Common.{◌≡◌, ℕ, ◌≤◌, arith, List, [], ◌∷◌, Option, Some, None, Bool, true, false, cond, ◌==◌, refl, sym, ap, subst, ◌∙◌}
use Rattle.std.proofs.lemmas.Bool.{eqb-true}
use Rattle.std.proofs.lemmas.Option.{same_Some}
use Rattle.std.specs.Prelude.{IsSomeAnd, IfSome, slice_index}
use Rattle.ckpt_types.specs.declared.attributes.CreationAttributes.{CreationAttributes}
use Rattle.ckpt_types.specs.declared.identities.ActorName.TheVariants.{Node}
use Rattle.ckpt_types.specs.declared.identities.CallId.{CallId}
use Rattle.cluster_record.specs.declared.calls.UpdatePhase.{UpdatePhase}
use Rattle.cluster_record.specs.declared.calls.UpdatePhase.TheVariants as steps
use Rattle.cluster_record.specs.declared.copying.Copying.{Copying}
use Rattle.cluster_record.specs.declared.copying.CopyPhase.{CopyPhase}
use Rattle.cluster_record.specs.declared.copying.CopyPhase.TheVariants as phases
use Rattle.cluster_record.specs.declared.entries.Entry.{Entry}
use Rattle.cluster_record.specs.DueCopy.{CopyState}
use Rattle.cluster_record.specs.DueUpdate.{UpdateState, update_begun}
use Rattle.cluster_record.specs.Placement.{is_all, is_collocated}
use Rattle.cluster_record.specs.RecordState.{entry_of}
use Rattle.ckpt_machine.specs.Entries.{WasMade}
use Rattle.ckpt_machine.specs.InHand.{IsUpdateIn, IsToComplete, IsToCommit, IsCopiedSoFar, IsCopyingAt, IsCopyIn}
use Rattle.ckpt_machine.specs.Machine.{Machine, CallState}
use Rattle.ckpt_machine.specs.Shape.{Shape, IsCompleteOn}
use Rattle.ckpt_machine.proofs.Lacking.{IsLacked, lacked_parts, lacked_from}
use Rattle.ckpt_machine.proofs.OptionLemmas.{IfSome-from, IfSome-at}

-- what is found has the identity by which it is
pub found_identity : (k : ℕ) (entries : List Entry) (e : Entry) → entry_of k entries ≡ Some e → e.identity ≡ k
found_identity k [] e found = absurd (cc found)
found_identity k (x ∷ xs) e found = by_test (x.identity == k) refl (found_identity k xs e) found
  where
    by_test : (b : Bool) → (x.identity == k) ≡ b → (entry_of k xs ≡ Some e → e.identity ≡ k) → cond b (Some x) (entry_of k xs) ≡ Some e → e.identity ≡ k
    by_test true is rest here = ap (λ (y : Entry). y.identity) (sym (same_Some x e here)) ∙ eqb-true x.identity k is
    by_test false is rest there = rest there

-- the call owns the slot of each complete node
abbrev pub OwnsAll : Shape → CallId → Entry → Type 0
OwnsAll sh call e = (r : ℕ) → IsCompleteOn e r → sh.owners r ≡ Some call

-- what a checkpoint is to a copying: it declares the same, the node of the copying lacks it where it did, and has it where it did, and its generation may
-- rise; and where updates are on all replicas and the copying owns the slot of each complete node, it does so then, and what lies under these stays
pub record CopiedLater (z : CallState) (sh then_sh : Shape) (e f : Entry) : Type 0 where
  pub attributes : f.attributes ≡ e.attributes
  pub lacks : is_collocated e.attributes ≡ false → (r : ℕ) → z.call.actor ≡ Node r → (slice_index e.complete r == 0) ≡ true → (slice_index f.complete r == 0) ≡ true
  pub grows : (r : ℕ) → z.call.actor ≡ Node r → IsCompleteOn e r → IsCompleteOn f r
  pub rises : e.generation ≤ f.generation
  pub owns : is_all e.attributes ≡ true → OwnsAll sh z.call e → OwnsAll then_sh z.call f
  pub sections : is_all e.attributes ≡ true → OwnsAll sh z.call e → then_sh.sections ≡ sh.sections
  pub effects : is_all e.attributes ≡ true → OwnsAll sh z.call e → then_sh.effects ≡ sh.effects

-- the same one is so
pub CopiedLater-refl : (z : CallState) (sh : Shape) (e : Entry) → CopiedLater z sh sh e e
CopiedLater-refl z sh e = record { attributes = refl; lacks = λ apart r own lacks. lacks; grows = λ r own there. there; rises = omega arith; owns = λ all own. own; sections = λ all own. refl; effects = λ all own. refl }

-- n and its shapes look to a copying as m and its did: its node is up as it was, what was made is so and is as above where it is left, its reservations
-- stay where its node lacks the checkpoint, and its update is where it was
pub record CopiesAlike (m n : Machine) (shapes then_shapes : ℕ → Shape) (z : CallState) : Type 0 where
  pub up : (r : ℕ) → z.call.actor ≡ Node r → slice_index n.cluster.up r ≡ slice_index m.cluster.up r
  pub made : (k : ℕ) → WasMade m.cluster k → WasMade n.cluster k
  pub later : (k : ℕ) → WasMade m.cluster k → (f : Entry) → entry_of k n.cluster.entries ≡ Some f → (e : Entry) × (entry_of k m.cluster.entries ≡ Some e) × CopiedLater z (shapes k) (then_shapes k) e f
  pub reserved : (k r : ℕ) → WasMade m.cluster k → z.call.actor ≡ Node r → (f : Entry) → entry_of k n.cluster.entries ≡ Some f → (slice_index f.complete r == 0) ≡ true → n.reserved k r ≡ m.reserved k r
  pub update : (u : UpdateState) → IsUpdateIn m shapes z u → IsUpdateIn n then_shapes z u

-- that it commits is so still
IsToCommit-later : (z : CallState) (sh then_sh : Shape) (e f : Entry) → CopiedLater z sh then_sh e f → is_all e.attributes ≡ true → (ph : UpdatePhase) → IsToCommit sh z.call e ph → IsToCommit then_sh z.call f ph
IsToCommit-later z sh then_sh e f look all steps.Staging commits = look.owns all commits
IsToCommit-later z sh then_sh e f look all steps.Committing commits = tt
IsToCommit-later z sh then_sh e f look all steps.Claiming commits = absurd commits
IsToCommit-later z sh then_sh e f look all steps.Claimed commits = absurd commits
IsToCommit-later z sh then_sh e f look all steps.Withdrawing commits = absurd commits
IsToCommit-later z sh then_sh e f look all steps.Resolving commits = absurd commits

module _ (m n : Machine) (shapes then_shapes : ℕ → Shape) (z : CallState) (alike : CopiesAlike m n shapes then_shapes z) (c : CopyState) (node : z.call.actor ≡ Node c.node) where
  -- ---- at the checkpoint that is left of one that was made

  module _ (k : ℕ) (was : WasMade m.cluster k) (e f : Entry) (there : entry_of k m.cluster.entries ≡ Some e) (found : entry_of k n.cluster.entries ≡ Some f) (look : CopiedLater z (shapes k) (then_shapes k) e f) where
    -- its node lacks it still, and has reserved for it
    to_complete : IsToComplete m c.node e → IsToComplete n c.node f
    to_complete at =
        let lacked : IsLacked c.node e = lacked_parts c.node e at.lacks in
        let none : (slice_index f.complete c.node == 0) ≡ true = look.lacks lacked.apart c.node node lacked.none in
        let unmade : f.making ≡ None = IfSome-at (entry_of k n.cluster.entries) (λ (x : Entry). x.making ≡ None) (alike.made k was).made f found in
        record {
          lacks = lacked_from c.node f (record { made = unmade; apart = ap is_collocated look.attributes ∙ lacked.apart; none = none });
          reserved = ap (λ j. n.reserved j c.node) (found_identity k n.cluster.entries f found) ∙ alike.reserved k c.node was node f found none
              ∙ ap (λ j. m.reserved j c.node) (sym (found_identity k m.cluster.entries e there)) ∙ at.reserved ∙ ap Some (sym (alike.up c.node node));
        }

    -- so far as it was there, it is
    copied_so_far : (ph : CopyPhase) → IsCopiedSoFar m (shapes k) z c e ph → IsCopiedSoFar n (then_shapes k) z c f ph
    copied_so_far phases.Reserved at = (to_complete at.0, at.1 ∙ ap (update_begun c.call) (found_identity k m.cluster.entries e there ∙ sym (found_identity k n.cluster.entries f found)))
    copied_so_far phases.Staging at = (to_complete at.0, ap is_all look.attributes ∙ at.1, at.2)
    copied_so_far (phases.PulledActive generation) at = (
      to_complete at.0,
      record {
        alone = ap is_all look.attributes ∙ at.1.alone;
        pulled = at.1.pulled;
        older = (let before : generation ≤ e.generation = at.1.older in let rises : e.generation ≤ f.generation = look.rises in omega (arith, before, rises));
      },
    )
    copied_so_far phases.PulledStaged at = (
      to_complete at.0,
      record {
        all = ap is_all look.attributes ∙ at.1.all;
        phase = at.1.phase;
        owns = look.owns at.1.all at.1.owns;
        pulled = subst (λ sections. IsSomeAnd z.snapshot (λ pulled. (pulled.sections ≡ sections) × (pulled.effects ≡ (then_shapes k).effects))) (sym (look.sections at.1.all at.1.owns))
            (subst (λ effects. IsSomeAnd z.snapshot (λ pulled. (pulled.sections ≡ (shapes k).sections) × (pulled.effects ≡ effects))) (sym (look.effects at.1.all at.1.owns)) at.1.pulled);
      },
    )
    copied_so_far phases.Committing at = (ap is_all look.attributes ∙ at.0, IsToCommit-later z (shapes k) (then_shapes k) e f look at.0 c.staging.phase at.1, look.grows c.node node at.2)

  -- ---- the checkpoint that it is at

  -- what holds of what a checkpoint declares, where it is there
  declared_then : (P : CreationAttributes → Type 0) (k : ℕ) → WasMade m.cluster k → IfSome (entry_of k m.cluster.entries) (λ e. P e.attributes) → IfSome (entry_of k n.cluster.entries) (λ e. P e.attributes)
  declared_then P k was holds = IfSome-from (entry_of k n.cluster.entries) (λ e. P e.attributes) (λ f found.
      let (e, there, look) = alike.later k was f found in
      subst P (sym look.attributes) (IfSome-at (entry_of k m.cluster.entries) (λ (e : Entry). P e.attributes) holds e there))

  copying_at : (at : Copying) → IsCopyingAt m shapes z c at → IsCopyingAt n then_shapes z c at
  copying_at at is = record {
    ckpt = is.ckpt;
    kept = is.kept;
    made = alike.made at.ckpt is.made;
    apart = declared_then (λ a. is_collocated a ≡ false) at.ckpt is.made is.apart;
    declares = declared_then (λ a. z.kept.declares ≡ Some a) at.ckpt is.made is.declares;
    update = λ f found all. (
        let (e, there, look) = alike.later at.ckpt is.made f found in
        alike.update c.staging (is.update e there (ap is_all (sym look.attributes) ∙ all)));
    so_far = λ f found. (
        let (e, there, look) = alike.later at.ckpt is.made f found in
        copied_so_far at.ckpt is.made e f there found look at.phase (is.so_far e there));
  }

  at_then : (o : Option Copying) → IfSome o (IsCopyingAt m shapes z c) → IfSome o (IsCopyingAt n then_shapes z c)
  at_then None at = tt
  at_then (Some x) at = copying_at x at

-- a copying is where it was
pub IsCopyIn-alike : (m n : Machine) (shapes then_shapes : ℕ → Shape) (z : CallState) → CopiesAlike m n shapes then_shapes z → (c : CopyState) → IsCopyIn m shapes z c → IsCopyIn n then_shapes z c
IsCopyIn-alike m n shapes then_shapes z alike c is = record {
  call = is.call;
  asks = is.asks;
  node = is.node;
  within = is.within;
  at = at_then m n shapes then_shapes z alike c is.node c.copying is.at;
}
