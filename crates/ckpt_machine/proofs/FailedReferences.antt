-- What the failure of a node leaves of handles and references: those of its clients go together, and so does each checkpoint that was complete on it alone.
use Rattle.std.proofs.Common.{◌≡◌, ◌⊎◌, ℕ, inl, inr, List, map, filter, Option, Some, None, is_some, Bool, true, false, cond, not, ◌==◌, ℤ, refl, sym, ap, subst, ◌∙◌}
use Rattle.std.specs.Prelude.{Contains, IsSome, IsSomeAnd, slice_set}
use Rattle.std.proofs.lemmas.Bool.{eqb-true, or_parts}
use Rattle.ckpt_types.specs.declared.identities.ActorName.{ActorName}
use Rattle.ckpt_types.specs.declared.identities.ActorName.TheVariants.{Client}
use Rattle.client_handles.specs.ClientState.{ClientState, emptied}
use Rattle.client_handles.specs.declared.handle_view.HandleView.{HandleView}
use Rattle.cluster_record.specs.declared.entries.Entry.{Entry}
use Rattle.cluster_record.specs.Failing.{goes_with_node, is_of_those, references_left, without_clients, entry_failed, survives, failed}
use Rattle.cluster_record.specs.Identities.{IdentitiesRise}
use Rattle.cluster_record.specs.RecordState.{RecordState, entry_of, first_complete, has_references, idle_from}
use Rattle.cluster_record.proofs.IdentityLaws.{KeepsIdentity, IdentitiesRise-filter, IdentitiesRise-map}
use Rattle.cluster_record.proofs.KeptLaws.{entry_failed-keeps}
use Rattle.ckpt_machine.specs.Due.{count_in}
use Rattle.ckpt_machine.specs.Failing.{failed_at}
use Rattle.ckpt_machine.specs.Invariant.{InvariantIn, IsGoodIn}
use Rattle.ckpt_machine.specs.Machine.{Machine}
use Rattle.ckpt_machine.specs.References.{handles_of, IsOnAlone}
use Rattle.ckpt_machine.specs.Shape.{Shape, IsCompleteOn, IsSpread}
use Rattle.ckpt_machine.proofs.Entries.{ComesOf, ComesOf-filter, ComesOf-map, found_filter, found_map}
use Rattle.ckpt_machine.proofs.FailedEntries.{IsFailedEntry, node_fails}
use Rattle.ckpt_machine.proofs.KeptLists.{among_none}
use Rattle.ckpt_machine.proofs.NodeGone.{complete_still}
use Rattle.ckpt_machine.proofs.NodeLists.{first_complete-some, first_complete-there}
use Rattle.ckpt_machine.proofs.OptionLemmas.{IfSome-at, IsSomeAnd-from}
use Rattle.ckpt_machine.proofs.ReferenceCounts.{Refers, of_others, without_clients_others, failed_alike}
use Rattle.ckpt_machine.proofs.ReferenceSteps.{HasReferences}
use Rattle.ckpt_machine.proofs.Referring.{Matches-of, Leaves, swept_leaves}

-- an entry keeps its identity where clients go
without_clients-identity : (goes : ℕ → Bool) (t : ℤ) → KeepsIdentity (without_clients goes t)
without_clients-identity goes t e = by_open (has_references e)
  where
    f : Entry
    f = record e { references = references_left goes 0 e.references }

    by_open : (b : Bool) → (cond b (idle_from t f) f).identity ≡ e.identity
    by_open true = elim (has_references f) as (λ b. (cond b f (record f { idle = t })).identity ≡ e.identity) [ true ↦ refl | false ↦ refl ]
    by_open false = refl

-- a checkpoint that has no complete node left, where a node goes, was complete on that node alone
alone_where_none_left : (e : Entry) (r : ℕ) → IsSome (first_complete 0 e.complete) → is_some (first_complete 0 (slice_set e.complete r 0)) ≡ false → IsOnAlone r e
alone_where_none_left e r some none = (let (d, there) = first_complete-some 0 e.complete some in subst (IsCompleteOn e) (only d there) there, only)
  where
    only : (q : ℕ) → IsCompleteOn e q → q ≡ r
    only q there = by_test (q == r) refl
      where
        by_test : (b : Bool) → (q == r) ≡ b → q ≡ r
        by_test true same = eqb-true q r same
        by_test false other = absurd (let w : true ≡ false = sym (first_complete-there 0 (slice_set e.complete r 0) q (complete_still e.complete r q other there)) ∙ none in cc w)

module _ (m : Machine) (shapes : ℕ → Shape) (inv : InvariantIn shapes m) (has : HasReferences m) (r : ℕ) (Gone : ℕ → Type 0) (gone : (j : ℕ) → entry_of j m.cluster.entries ≡ None → Gone j)
    (taken : (j : ℕ) → IsSomeAnd (entry_of j m.cluster.entries) (λ e. (e.making ≡ None) × IsOnAlone r e) → Gone j)
  where
    abbrev R : RecordState
    R = m.cluster

    -- how many updates the replicas have
    abbrev counts : ℕ → ℕ → ℕ
    counts k q = count_in (m.replicas k q)

    -- the clients that go
    abbrev goes : ℕ → Bool
    goes = goes_with_node R r

    -- an entry is in the making by none of them
    abbrev stays_made : Entry → Bool
    stays_made e = not (is_of_those goes e.making)

    -- without them
    abbrev without : Entry → Entry
    without = without_clients goes R.moment

    -- and without the node
    abbrev fails : Entry → Entry
    fails e = entry_failed (counts e.identity) r e

    without-identity : KeepsIdentity without
    without-identity = without_clients-identity goes R.moment

    fails-identity : KeepsIdentity fails
    fails-identity = (entry_failed-keeps counts r).1

    abbrev unmade : List Entry
    unmade = filter stays_made R.entries

    abbrev left : List Entry
    left = map fails (map without unmade)

    unmade_rise : IdentitiesRise unmade
    unmade_rise = IdentitiesRise-filter stays_made R.entries inv.rises

    left_rise : IdentitiesRise left
    left_rise = IdentitiesRise-map fails fails-identity (map without unmade) (IdentitiesRise-map without without-identity unmade unmade_rise)

    -- the record, before it is swept
    abbrev S : RecordState
    S = failed counts r R

    -- the tables
    abbrev us : ActorName → ClientState
    us = (failed_at r m).tables

    -- an entry that is left has the references of the others
    comes : ComesOf (Refers (of_others goes)) R.entries S.entries
    comes k g found =
        let (h, found3, same3) = ComesOf-filter (λ e f. f ≡ e) (λ e. refl) survives left left_rise k g found in
        let (y, found2, is_h) = ComesOf-map (λ e f. f ≡ fails e) fails fails-identity (λ e. refl) (map without unmade) k h found3 in
        let (x, found1, is_y) = ComesOf-map (λ e f. f ≡ without e) without without-identity (λ e. refl) unmade k y found2 in
        let (e, was, same0) = ComesOf-filter (λ e f. f ≡ e) (λ e. refl) stays_made R.entries inv.rises k x found1 in
        (e, was, subst (Refers (of_others goes) e) (sym (same3 ∙ is_h ∙ ap fails (is_y ∙ ap without same0))) (behind e))
      where
        behind : (e : Entry) → Refers (of_others goes) e (fails (without e))
        behind e =
            let first = without_clients_others goes R.moment e in
            let second = failed_alike (counts (without e).identity) r (without e) in
            record { each = λ d. second.each d ∙ first.each d; clients = second.clients ∙ first.clients }

    handles_left : (k c : ℕ) → handles_of k (us (Client c)).handles ≡ of_others goes c (handles_of k (m.tables (Client c)).handles)
    handles_left k c = elim (goes c) as (λ b. handles_of k (cond b (emptied (m.tables (Client c))) (m.tables (Client c))).handles ≡ cond b 0 (handles_of k (m.tables (Client c)).handles)) [ true ↦ refl | false ↦ refl ]

    -- whoever has a handle had it
    had : (c : ℕ) (h : HandleView) → Contains (us (Client c)).handles h → Contains (m.tables (Client c)).handles h
    had c h = elim (goes c) as (λ b. Contains (cond b (emptied (m.tables (Client c))) (m.tables (Client c))).handles h → Contains (m.tables (Client c)).handles h) [ true ↦ λ among. absurd (among_none h among) | false ↦ λ among. among ]

    there_then : (c : ℕ) (h : HandleView) → Contains (us (Client c)).handles h → IsSome (entry_of h.id S.entries) ⊎ (Contains (m.tables (Client c)).handles h × Gone h.id)
    there_then c h among = by_entry (entry_of h.id R.entries) refl
      where
        by_survival : (e : Entry) → entry_of h.id R.entries ≡ Some e → e.making ≡ None → (b : Bool) → survives (fails (without e)) ≡ b → IsSome (entry_of h.id S.entries) ⊎ (Contains (m.tables (Client c)).handles h × Gone h.id)
        by_survival e found made true stays =
            let found1 = found_filter stays_made h.id R.entries e found (ap (λ o. not (is_of_those goes o)) made) in
            let found3 = found_map fails fails-identity h.id (map without unmade) (without e) (found_map without without-identity h.id unmade e found1) in
            inl (ap is_some (found_filter survives h.id left (fails (without e)) found3 stays))
        by_survival e found made false ends =
            let spread : IsSpread m h.id (shapes h.id) e = subst (IsGoodIn m h.id (shapes h.id) e) made (inv.entries h.id e found) in
            let failed_entry : IsFailedEntry (counts (without e).identity) goes r e (fails (without e)) = node_fails (counts (without e).identity) goes r R.moment e in
            let none = ap (λ nodes. is_some (first_complete 0 nodes)) (sym failed_entry.complete) ∙ (or_parts (is_some (fails (without e)).making) (is_some (first_complete 0 (fails (without e)).complete)) ends).1 in
            inr (had c h among, taken h.id (IsSomeAnd-from (entry_of h.id R.entries) (λ e. (e.making ≡ None) × IsOnAlone r e) e found (made, alone_where_none_left e r spread.some none)))

        by_entry : (o : Option Entry) → entry_of h.id R.entries ≡ o → IsSome (entry_of h.id S.entries) ⊎ (Contains (m.tables (Client c)).handles h × Gone h.id)
        by_entry None none = inr (had c h among, gone h.id none)
        by_entry (Some e) found = by_survival e found (IfSome-at (entry_of h.id R.entries) (λ e. e.making ≡ None) (inv.handles (Client c) h (had c h among)).made.made e found) (survives (fails (without e))) refl

    pub failed_leaves : Leaves Gone m.tables (failed_at r m).tables (failed_at r m).cluster
    failed_leaves = swept_leaves Gone m.tables us S (record {
      rises = IdentitiesRise-filter survives left left_rise;
      matches = Matches-of (of_others goes) R.entries S.entries m.tables us comes handles_left has.matches;
      there = there_then;
    })
