-- A handle keeps the creation flags of its checkpoint, while what is left of the record declares what it did.
use Rattle.std.proofs.Common.{◌≡◌, ℕ, Option, Some, None, refl, sym, ap, subst, ◌∙◌}
use Rattle.std.specs.Prelude.{IfSome, is_some, true}
use Rattle.ckpt_types.specs.declared.attributes.CreationAttributes.{CreationAttributes}
use Rattle.client_handles.specs.declared.handle_view.HandleView.{HandleView}
use Rattle.cluster_record.specs.declared.entries.Entry.{Entry}
use Rattle.cluster_record.specs.LookUps.{creation_flags_of}
use Rattle.ckpt_types.specs.declared.identities.ActorName.{ActorName}
use Rattle.cluster_record.specs.Calls.{IsClient, number_of}
use Rattle.cluster_record.specs.Placement.{is_collocated}
use Rattle.cluster_record.specs.Places.{find_key}
use Rattle.cluster_record.specs.RecordState.{RecordState, entry_of, client_key, is_live_client, home_of, node_of_client}
use Rattle.ckpt_machine.specs.Entries.{WasMade}
use Rattle.ckpt_machine.specs.Invariant.{IsGoodHandle}
use Rattle.ckpt_machine.specs.Shape.{IsCompleteOn}
use Rattle.ckpt_machine.proofs.OptionLemmas.{IfSome-from}

-- the checkpoints of S that were made in R declare what they did there, and are complete on the nodes on which they were
abbrev pub DeclaresStill : RecordState → RecordState → Type 0
DeclaresStill R S = (k : ℕ) → WasMade R k → (f : Entry) → entry_of k S.entries ≡ Some f → (e : Entry) × (entry_of k R.entries ≡ Some e) × (f.attributes ≡ e.attributes) × ((r : ℕ) → IsCompleteOn e r → IsCompleteOn f r)

-- then a handle that was good is good still, of a client that is where it was
pub IsGoodHandle-later : (R S : RecordState) → ((k : ℕ) → WasMade R k → WasMade S k) → DeclaresStill R S → (a : ActorName) (h : HandleView) → find_key client_key (number_of a) S.clients ≡ find_key client_key (number_of a) R.clients → IsGoodHandle R a h → IsGoodHandle S a h
IsGoodHandle-later R S made still a h home was = record {
  client = was.client;
  live = ap is_some home ∙ was.live;
  made = made h.id was.made;
  placed = IfSome-from (entry_of h.id S.entries) _ (λ f found collocated.
      let (e, there, attributes, grows) = still h.id was.made f found in
      let before : is_collocated e.attributes ≡ true → IsCompleteOn e (home_of (number_of a) R) = subst (λ o. IfSome o (λ (x : Entry). is_collocated x.attributes ≡ true → IsCompleteOn x (home_of (number_of a) R))) there was.placed in
      subst (λ o. IsCompleteOn f (node_of_client o)) (sym home) (grows (home_of (number_of a) R) (before (ap is_collocated (sym attributes) ∙ collocated))));
  flags = IfSome-from (entry_of h.id S.entries) (λ f. h.creation_flags ≡ f.attributes.creation_flags) (λ f found.
      let (e, there, attributes, grows) = still h.id was.made f found in
      subst (λ o. IfSome o (λ (x : Entry). h.creation_flags ≡ x.attributes.creation_flags)) there was.flags ∙ ap (λ (a : CreationAttributes). a.creation_flags) (sym attributes));
}

-- the creation flags of a checkpoint are those that it declares, where it is there
pub flags_of_there : (o : Option Entry) → IfSome o (λ e. creation_flags_of o ≡ e.attributes.creation_flags)
flags_of_there None = tt
flags_of_there (Some e) = refl

-- a checkpoint was made, and a collocated one is complete on the node of a client, which is live
pub record IsGivable (R : RecordState) (a : ActorName) (k : ℕ) : Type 0 where
  pub client : IsClient a
  pub live : is_live_client (number_of a) R ≡ true
  pub made : WasMade R k
  pub placed : IfSome (entry_of k R.entries) (λ e. is_collocated e.attributes ≡ true → IsCompleteOn e (home_of (number_of a) R))

-- a handle of such a checkpoint is good, where it has the creation flags that this has now
pub IsGoodHandle-given : (R : RecordState) (a : ActorName) (k : ℕ) (h : HandleView) → IsGivable R a k → h.id ≡ k → h.creation_flags ≡ creation_flags_of (entry_of k R.entries) → IsGoodHandle R a h
IsGoodHandle-given R a k h can id flags = record {
  client = can.client;
  live = can.live;
  made = subst (WasMade R) (sym id) can.made;
  placed = subst (λ j. IfSome (entry_of j R.entries) (λ e. is_collocated e.attributes ≡ true → IsCompleteOn e (home_of (number_of a) R))) (sym id) can.placed;
  flags = subst (λ j. IfSome (entry_of j R.entries) (λ (e : Entry). h.creation_flags ≡ e.attributes.creation_flags)) (sym id) (subst (λ n. IfSome (entry_of k R.entries) (λ (e : Entry). n ≡ e.attributes.creation_flags)) (sym flags) (flags_of_there (entry_of k R.entries)));
}
