-- Each client has as many handles of a checkpoint as the entry has references of it, behind a change of the entries and of the tables together; and where a
-- client has a handle, its checkpoint stays in a sweep.
use Rattle.std.proofs.Common.{◌≡◌, ◌⊎◌, ℕ, ◌≤◌, inl, inr, List, [], ◌∷◌, length, Some, is_some, true, false, cond, not, ◌==◌, zero, suc, refl, sym, ap, ◌∙◌, arith}
use Rattle.std.specs.Prelude.{Contains, IsSome, slice_index, ◌||◌}
use Rattle.std.specs.List.{list_any}
use Rattle.std.proofs.lemmas.Bool.{eqb-true, ne_eqb, or_right}
use Rattle.std.proofs.lemmas.Option.{same_Some}
use Rattle.ckpt_types.specs.declared.identities.ActorName.{ActorName}
use Rattle.ckpt_types.specs.declared.identities.ActorName.TheVariants.{Client}
use Rattle.ckpt_types.specs.Limits.{client_numbers}
use Rattle.client_handles.specs.ClientState.{ClientState}
use Rattle.client_handles.specs.declared.handle_view.HandleView.{HandleView}
use Rattle.cluster_record.specs.declared.entries.Entry.{Entry}
use Rattle.cluster_record.specs.Identities.{IdentitiesRise}
use Rattle.cluster_record.specs.Places.{change_key}
use Rattle.cluster_record.specs.RecordState.{RecordState, entry_of, identity_of, stays, swept}
use Rattle.cluster_record.proofs.IdentityLaws.{KeepsIdentity, IdentitiesRise-filter}
use Rattle.cluster_record.proofs.Places.{find_changed}
use Rattle.ckpt_machine.specs.References.{handles_of}
use Rattle.ckpt_machine.proofs.Entries.{ComesOf, ComesOf-filter, found_filter}
use Rattle.ckpt_machine.proofs.EntryLists.{open-stays}
use Rattle.ckpt_machine.proofs.HandleCounts.{handles_of-some}
use Rattle.ckpt_machine.proofs.OptionLemmas.{what_is}
use Rattle.ckpt_machine.proofs.ReferenceCounts.{Refers, as_before, RefersAlike}

-- ---- entries and tables

-- a client has as many handles of a checkpoint that is there as the entry has references of it, and there is a number of references for each client
pub record Matches (entries : List Entry) (tables : ActorName → ClientState) : Type 0 where
  pub counted : (k c : ℕ) (e : Entry) → entry_of k entries ≡ Some e → handles_of k (tables (Client c)).handles ≡ slice_index e.references c
  pub clients : (k : ℕ) (e : Entry) → entry_of k entries ≡ Some e → length e.references ≡ client_numbers

-- the entries change as this makes of the numbers of references, and the handles change alike
pub Matches-of : (change : ℕ → ℕ → ℕ) (old new : List Entry) (ts us : ActorName → ClientState) → ComesOf (Refers change) old new
    → ((k c : ℕ) → handles_of k (us (Client c)).handles ≡ change c (handles_of k (ts (Client c)).handles)) → Matches old ts → Matches new us
Matches-of change old new ts us comes handles was = record {
  counted = λ k c f found.
      let (e, there, refers) = comes k f found in
      handles k c ∙ ap (change c) (was.counted k c e there) ∙ sym (refers.each c);
  clients = λ k f found. (let (e, there, refers) = comes k f found in refers.clients ∙ was.clients k e there);
}

-- where each entry has the references that it had, and so do the clients their handles
pub Matches-alike : (old new : List Entry) (ts us : ActorName → ClientState) → ComesOf RefersAlike old new → ((k c : ℕ) → handles_of k (us (Client c)).handles ≡ handles_of k (ts (Client c)).handles) → Matches old ts → Matches new us
Matches-alike old new ts us comes handles was = Matches-of as_before old new ts us comes handles was

-- one entry changes, and no client gets or loses a handle of another checkpoint
pub Matches-changed : (entries : List Entry) (ts us : ActorName → ClientState) (k : ℕ) (f : Entry → Entry) (change : ℕ → ℕ → ℕ) (x : Entry) → KeepsIdentity f → entry_of k entries ≡ Some x → Refers change x (f x)
    → ((c : ℕ) → handles_of k (us (Client c)).handles ≡ change c (handles_of k (ts (Client c)).handles)) → ((j c : ℕ) → (j == k) ≡ false → handles_of j (us (Client c)).handles ≡ handles_of j (ts (Client c)).handles)
    → Matches entries ts → Matches (change_key identity_of k f entries) us
Matches-changed entries ts us k f change x keeps found refers here others was = record {
  counted = λ j c g there. elim (j == k) as (λ b. (j == k) ≡ b → cond b (Some (f x)) (entry_of j entries) ≡ Some g → handles_of j (us (Client c)).handles ≡ slice_index g.references c) [
    | true ↦ λ same is.
        let at : j ≡ k = eqb-true j k same in
        ap (λ i. handles_of i (us (Client c)).handles) at ∙ here c ∙ ap (change c) (was.counted k c x found) ∙ sym (refers.each c) ∙ ap (λ (y : Entry). slice_index y.references c) (same_Some (f x) g is)
    | false ↦ λ other is. others j c other ∙ was.counted j c g is
  ] refl (sym (find_changed identity_of k f keeps entries x j found) ∙ there);
  clients = λ j g there. elim (j == k) as (λ b. (j == k) ≡ b → cond b (Some (f x)) (entry_of j entries) ≡ Some g → length g.references ≡ client_numbers) [
    | true ↦ λ same is. ap (λ (y : Entry). length y.references) (sym (same_Some (f x) g is)) ∙ refers.clients ∙ was.clients k x found
    | false ↦ λ other is. was.clients j g is
  ] refl (sym (find_changed identity_of k f keeps entries x j found) ∙ there);
}

-- ---- what a step leaves

-- what a step makes of the record and the tables: they match, and the checkpoint of each handle is there, or the client had the handle and the checkpoint
-- has gone in this way
pub record Leaves (Gone : ℕ → Type 0) (ts us : ActorName → ClientState) (S : RecordState) : Type 0 where
  pub rises : IdentitiesRise S.entries
  pub matches : Matches S.entries us
  pub there : (c : ℕ) (h : HandleView) → Contains (us (Client c)).handles h → IsSome (entry_of h.id S.entries) ⊎ (Contains (ts (Client c)).handles h × Gone h.id)

-- where a client has some, there are references
any_reference : (references : List ℕ) (c : ℕ) → 1 ≤ slice_index references c → list_any (λ n. not (n == 0)) references ≡ true
any_reference [] c some = absurd (omega (arith, some))
any_reference (n ∷ ns) zero some = ap (λ b. not b || list_any (λ n. not (n == 0)) ns) (ne_eqb n 0 (λ same. omega (arith, some, same)))
any_reference (n ∷ ns) (suc c) some = or_right (not (n == 0)) _ (any_reference ns c some)

-- a sweep takes none to which a client has a handle
pub swept_leaves : (Gone : ℕ → Type 0) (ts us : ActorName → ClientState) (S : RecordState) → Leaves Gone ts us S → Leaves Gone ts us (swept S)
swept_leaves Gone ts us S leaves = record {
  rises = IdentitiesRise-filter (stays S.moment) S.entries leaves.rises;
  matches = Matches-alike S.entries (swept S).entries us us (ComesOf-filter RefersAlike (λ e. record { each = λ d. refl; clients = refl }) (stays S.moment) S.entries leaves.rises) (λ k c. refl) leaves.matches;
  there = λ c h among. elim (leaves.there c h among) [
    | inl some ↦ inl (stays_there c h among some)
    | inr gone ↦ inr gone
  ];
}
  where
    stays_there : (c : ℕ) (h : HandleView) → Contains (us (Client c)).handles h → IsSome (entry_of h.id S.entries) → IsSome (entry_of h.id (swept S).entries)
    stays_there c h among some =
        let (e, found) = what_is (entry_of h.id S.entries) some in
        let has = handles_of-some h.id (us (Client c)).handles h among refl in
        let same = leaves.matches.counted h.id c e found in
        ap is_some (found_filter (stays S.moment) h.id S.entries e found (open-stays S.moment e (any_reference e.references c (omega (arith, has, same)))))
