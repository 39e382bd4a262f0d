-- A completion, by its row: which checkpoint a copying brings to its node, and what it brings; and what is so behind it.
use Rattle.std.proofs.Common.{◌≡◌, ◌⊎◌, ℕ, inl, inr, Option, Some, None, Bool, true, false, ◌==◌, refl, sym, ap, subst, ◌∙◌}
use Rattle.std.specs.Prelude.{slice_index}
use Rattle.std.proofs.lemmas.Bool.{eqb-true, eq-eqb}
use Rattle.std.proofs.lemmas.Option.{same_Some}
use Rattle.ckpt_types.specs.declared.identities.ActorName.TheVariants.{Node}
use Rattle.ckpt_types.specs.Asks.{asked}
use Rattle.ckpt_types.specs.Asks as asks
use Rattle.node_msgs.specs.declared.steps.StepReply.{StepReply}
use Rattle.node_msgs.specs.declared.steps.StepReply.TheVariants as words
use Rattle.node_msgs.specs.declared.steps.Verb.TheVariants as verbs
use Rattle.cluster_record.specs.declared.entries.Entry.{Entry}
use Rattle.cluster_record.specs.DueCopy.{lacks_replica}
use Rattle.cluster_record.specs.Placement.{is_all}
use Rattle.cluster_record.specs.RecordState.{entry_of, is_up}
use Rattle.ckpt_machine.specs.After.{changed, replica_copied, slot_copied, staged_moment}
use Rattle.ckpt_machine.specs.CopyGuards.{CompleteOk, IsCurrent}
use Rattle.ckpt_machine.specs.Due.{Told}
use Rattle.ckpt_machine.specs.Guards.{Row}
use Rattle.ckpt_machine.specs.Invariant.{Invariant, IsGoodIn}
use Rattle.ckpt_machine.specs.Machine.{Machine, ReplicaState, Snapshot, CallState, who}
use Rattle.ckpt_machine.specs.Shape.{IsCompleteOn, IsSpread}
use Rattle.ckpt_machine.proofs.CompletedMade.{completed_goes}
use Rattle.ckpt_machine.proofs.CompletedRecord.{completed_is, completed_machine, entry_here, entry_other, f}
use Rattle.ckpt_machine.proofs.Copying.{put2-cases}
use Rattle.ckpt_machine.proofs.Follows.{IsBare}
use Rattle.ckpt_machine.proofs.Lacking.{IsLacked, lacked_parts}
use Rattle.ckpt_machine.proofs.OptionLemmas.{IsSomeAnd-at}
use Rattle.ckpt_machine.proofs.StaysMade.{GoesOnMade, GoesOnMade-same}

-- a copying in hand brings this checkpoint, which its node lacks, to it: what it has pulled, which can be what the node has
pub record Brings (m : Machine) (s : CallState) (k r : ℕ) : Type 0 where
  pub held : m.in_hand (who s) ≡ Some s
  pub asks : asked s.op ≡ asks.Copy
  pub actor : s.call.actor ≡ Node r
  pub ckpt : s.kept.ckpt ≡ Some k
  pub entry : Entry
  pub found : entry_of k m.cluster.entries ≡ Some entry
  pub lacks : lacks_replica r entry ≡ true
  pub up : is_up r m.cluster ≡ true
  pub pulled : Snapshot
  pub in_hand : s.snapshot ≡ Some pulled
  pub current : IsCurrent m s k entry pulled (is_all entry.attributes)

module _ (m : Machine) (inv : Invariant m) (s : CallState) (k r : ℕ) (b : Brings m s k r) where
  pub lacked : IsLacked r b.entry
  lacked = lacked_parts r b.entry b.lacks

  pub spread : IsSpread m k (inv.shapes k) b.entry
  spread = subst (IsGoodIn m k (inv.shapes k) b.entry) lacked.made (inv.holds.entries k b.entry b.found)

  -- its entry behind the completion
  abbrev pub joined_entry : Entry
  joined_entry = f m inv.shapes inv.holds k r b.entry b.found b.lacks b.up spread

  -- what the node has then
  abbrev pub brought : ReplicaState
  brought = record { sections = b.pulled.sections; effects = b.pulled.effects; generation = joined_entry.generation; slot = slot_copied s.call (staged_moment m k) (is_all joined_entry.attributes); marks = None }

  -- the machine behind it
  abbrev pub with_brought : Machine
  with_brought = completed_machine m inv.shapes inv.holds k r b.entry b.found b.lacks b.up spread (Some brought)

  pub entry_then : entry_of k with_brought.cluster.entries ≡ Some joined_entry
  entry_then = entry_here m inv.shapes inv.holds k r b.entry b.found b.lacks b.up spread

  -- an entry that is found is that one, or was there
  pub entry-cases : (j : ℕ) (g : Entry) → entry_of j with_brought.cluster.entries ≡ Some g → ((j ≡ k) × (g ≡ joined_entry)) ⊎ ((j ≡ k → ⊥) × (entry_of j m.cluster.entries ≡ Some g))
  entry-cases j g found = by_test (j == k) refl
    where
      by_test : (t : Bool) → (j == k) ≡ t → ((j ≡ k) × (g ≡ joined_entry)) ⊎ ((j ≡ k → ⊥) × (entry_of j m.cluster.entries ≡ Some g))
      by_test true same = let k_is : j ≡ k = eqb-true j k same in inl (k_is, same_Some g joined_entry (sym found ∙ ap (λ j. entry_of j with_brought.cluster.entries) k_is ∙ entry_then))
      by_test false other = inr ((λ same. let w : true ≡ false = sym (eq-eqb j k same) ∙ other in cc w), sym (entry_other m inv.shapes inv.holds k r b.entry b.found b.lacks b.up spread j other) ∙ found)

  -- it was there, and goes on made
  pub brought_made : (j : ℕ) (g : Entry) → entry_of j with_brought.cluster.entries ≡ Some g → (e : Entry) × (entry_of j m.cluster.entries ≡ Some e) × GoesOnMade e g
  brought_made j g found = elim (entry-cases j g found) [
    | inl here ↦ (b.entry, ap (λ j. entry_of j m.cluster.entries) here.0 ∙ b.found, subst (GoesOnMade b.entry) (sym here.1) (completed_goes r (slice_index m.cluster.up r) b.entry))
    | inr was ↦ (g, was.1, GoesOnMade-same g)
  ]

  -- a replica that is there is that of the node, or was there
  pub brought-cases : (j q : ℕ) (z : ReplicaState) → with_brought.replicas j q ≡ Some z → ((k ≡ j) × (r ≡ q) × (brought ≡ z)) ⊎ ((m.replicas j q ≡ Some z) × ((k ≡ j) → (r ≡ q) → ⊥))
  brought-cases j q z at = put2-cases m.replicas k r brought j q z at

  -- the node had none
  pub none_before : IsBare m → (x : ReplicaState) → m.replicas k r ≡ Some x → ⊥
  none_before bare x at =
      let (e, there, complete) = IsSomeAnd-at (entry_of k m.cluster.entries) (λ e. IsCompleteOn e r) (bare.complete k r x at) in
      let w : true ≡ false = sym lacked.none ∙ ap (λ (e : Entry). slice_index e.complete r == 0) (same_Some b.entry e (sym b.found ∙ there)) ∙ complete in
      cc w

-- a completion is such
pub brings : (m : Machine) (s : CallState) → m.in_hand (who s) ≡ Some s → (t : Told) (k r : ℕ) → Some k ≡ s.kept.ckpt → Row m s verbs.Complete (record t { verb = verbs.Complete; ckpt = Some k; node = Some r; reply = words.Ok }) → Brings m s k r
brings m s held t k r own row =
    let (actor, up, on) = row.0.1 in
    let (e, found, ok) = IsSomeAnd-at (entry_of k m.cluster.entries) (CompleteOk m s k r t.end) on in
    let (pulled, in_hand, current) = IsSomeAnd-at s.snapshot (λ pulled. IsCurrent m s k e pulled (is_all e.attributes)) ok.pulled in
    record { held = held; asks = row.0.0; actor = actor; ckpt = sym own; entry = e; found = found; lacks = ok.lacks; up = up; pulled = pulled; in_hand = in_hand; current = current }

-- and leaves just that
pub brought_is : (m : Machine) (inv : Invariant m) (s : CallState) (k r : ℕ) (b : Brings m s k r) → changed m s verbs.Complete (Some k) (Some r) words.Ok ≡ with_brought m inv s k r b
brought_is m inv s k r b =
    completed_is m inv.shapes inv.holds k r b.entry b.found b.lacks b.up (spread m inv s k r b) s (staged_moment m k)
    ∙ ap (λ o. completed_machine m inv.shapes inv.holds k r b.entry b.found b.lacks b.up (spread m inv s k r b) (replica_copied s.call (staged_moment m k) (Some (joined_entry m inv s k r b)) o)) b.in_hand

-- what is so now, and where a copying has brought a checkpoint to its node, is so behind a completion
pub after_complete : (P : Machine → Type 0) (m : Machine) (inv : Invariant m) (s : CallState) → m.in_hand (who s) ≡ Some s → (t : Told) (j q : Option ℕ) (reply : StepReply) → j ≡ s.kept.ckpt → Row m s verbs.Complete (record t { verb = verbs.Complete; ckpt = j; node = q; reply = reply })
    → P m → ((k r : ℕ) (b : Brings m s k r) → P (with_brought m inv s k r b)) → P (changed m s verbs.Complete j q reply)
after_complete P m inv s held t (Some k) (Some r) words.Ok own row same done = let b = brings m s held t k r own row in subst P (sym (brought_is m inv s k r b)) (done k r b)
after_complete P m inv s held t (Some k) None words.Ok own row same done = same
after_complete P m inv s held t None q words.Ok own row same done = same
after_complete P m inv s held t j q reply own row same done = same
