-- What a step leaves of handles and references: as often as before a client has a checkpoint open, or once more where it opens one, and once less where it
-- closes one.
use Rattle.std.proofs.Common.{◌≡◌, ◌⊎◌, ℕ, ◌+◌, ◌<◌, inl, inr, List, [], ◌∷◌, ◌++◌, length, filter, Option, Some, None, is_some, Bool, true, false, cond, not, ◌==◌, ℤ, refl, sym, ap, subst, ◌∙◌, arith}
use Rattle.std.specs.Prelude.{Contains, IsSome, slice_index}
use Rattle.std.proofs.lemmas.Bool.{eqb-true, eq-eqb, ne_eqb}
use Rattle.std.proofs.lemmas.List.{length-replicate}
use Rattle.std.proofs.lemmas.Option.{same_Some}
use Rattle.ckpt_types.specs.declared.attributes.CreationAttributes.{CreationAttributes}
use Rattle.ckpt_types.specs.declared.identities.ActorName.{ActorName}
use Rattle.ckpt_types.specs.declared.identities.ActorName.TheVariants.{Client}
use Rattle.ckpt_types.specs.declared.identities.CallId.{CallId}
use Rattle.ckpt_types.specs.declared.identities.Who.{Who}
use Rattle.ckpt_types.specs.Asks.{Ask, asked}
use Rattle.ckpt_types.specs.Asks as asks
use Rattle.ckpt_types.specs.Limits.{client_numbers}
use Rattle.client_handles.specs.ClientState.{ClientState, emptied, handle_at}
use Rattle.client_handles.specs.declared.handle_view.HandleView.{HandleView}
use Rattle.cluster_record.specs.declared.entries.Entry.{Entry}
use Rattle.cluster_record.specs.Calls.{IsClient, client_of, number_of, same_actor, put_actor}
use Rattle.cluster_record.specs.Identities.{IdentitiesRise}
use Rattle.cluster_record.specs.LookUps.{creation_flags_of}
use Rattle.cluster_record.specs.Makings.{making_of}
use Rattle.cluster_record.specs.Places.{change_key}
use Rattle.cluster_record.specs.RecordState.{RecordState, entry_of, identity_of, created_as, new_entry, undone, unreferred, closed, released_all, is_call_of, departed, retaining}
use Rattle.cluster_record.proofs.IdentityLaws.{KeepsIdentity, entry_of-beyond, IdentitiesRise-change_key, IdentitiesRise-filter, IdentitiesRise-map, IdentitiesRise-push}
use Rattle.cluster_record.proofs.Places.{find_pushed}
use Rattle.ckpt_machine.specs.After.{record_step, with_tables, with_closed, with_given, created_for, retained_for, without_making}
use Rattle.ckpt_machine.specs.Invariant.{InvariantIn}
use Rattle.ckpt_machine.specs.Machine.{Machine, CallState, who}
use Rattle.ckpt_machine.specs.OpenGuards.{IsMadeBy}
use Rattle.ckpt_machine.specs.References.{handles_of}
use Rattle.ckpt_machine.specs.Shape.{Shape}
use Rattle.ckpt_machine.specs.Tables.{ckpt_of_handle, handle_given, closing}
use Rattle.ckpt_machine.proofs.Actors.{same_actor-true}
use Rattle.ckpt_machine.proofs.EndedTables.{client_by_number, closing-handles, given-handles}
use Rattle.ckpt_machine.proofs.Entries.{ComesOf, ComesOf-filter, ComesOf-change_key, ComesOf-map, found_filter, found_map, there_still}
use Rattle.ckpt_machine.proofs.EntryLists.{find_key-key}
use Rattle.ckpt_machine.proofs.HandleCounts.{handles_of-push, handles_of-without, handles_of-none}
use Rattle.ckpt_machine.proofs.HandleNumbers.{HasNumbers}
use Rattle.ckpt_machine.proofs.KeptLists.{among_none}
use Rattle.ckpt_machine.proofs.OptionLemmas.{IfSome-at, IsSomeAnd-at}
use Rattle.ckpt_machine.proofs.OwnMaking.{making_there}
use Rattle.ckpt_machine.proofs.ReferenceCounts.{Refers, RefersAlike, alike, of_client, one_more, one_fewer, no_more, unreferred_fewer, released_none}
use Rattle.ckpt_machine.proofs.References.{released-identity, released_all-identity}
use Rattle.ckpt_machine.proofs.Referring.{Matches, Matches-of, Matches-alike, Matches-changed, Leaves, swept_leaves}
use Rattle.ckpt_types.proofs.Lists.{slice_index-replicate}

-- a call that closes a handle is about one of the checkpoint that it keeps
abbrev pub ClosesOwn : (Who → Option CallState) → (ActorName → ClientState) → Type 0
ClosesOwn in_hand tables = (w : Who) (z : CallState) (place : ℕ) → in_hand w ≡ Some z → asked z.op ≡ asks.Close place → ckpt_of_handle (handle_at place (tables z.call.actor)) ≡ z.kept.ckpt

-- handles and references match, and what follows needs of the handles' numbers and of calls that close one
pub record HasReferences (m : Machine) : Type 0 where
  pub matches : Matches m.cluster.entries m.tables
  pub numbers : (a : ActorName) → HasNumbers (m.tables a)
  pub closes : ClosesOwn m.in_hand m.tables

-- ---- handles

-- an open has one more, of its checkpoint
given-count : (place : ℕ) (name : List ℕ) (flags : ℕ) (timeout : Option ℤ) (a : Option CreationAttributes) (k creation_flags : ℕ) (t : ClientState) (j : ℕ) → handles_of j (handle_given (asks.Open place name flags timeout a) k creation_flags t).handles ≡ handles_of j t.handles + cond (k == j) 1 0
given-count place name flags (Some timeout) a k creation_flags t j = handles_of-push j t.handles _
given-count place name flags None a k creation_flags t j = handles_of-push j t.handles _

-- where an actor's tables change and its handles stay, so do those of all
pub put_handles : (tables : ActorName → ClientState) (a : ActorName) (t : ClientState) → t.handles ≡ (tables a).handles → (b : ActorName) → (put_actor tables a t b).handles ≡ (tables b).handles
put_handles tables a t same b = elim (same_actor b a) as (λ test. same_actor b a ≡ test → (cond test t (tables b)).handles ≡ (tables b).handles) [
  | true ↦ λ own. same ∙ ap (λ c. (tables c).handles) (sym (same_actor-true b a own))
  | false ↦ λ other. refl
] refl

-- a handle whose checkpoint is this one
ckpt_is : (o : Option HandleView) (k : ℕ) → ckpt_of_handle o ≡ Some k → (h : HandleView) × (o ≡ Some h) × (h.id ≡ k)
ckpt_is None k none = absurd (cc none)
ckpt_is (Some h) k is = (h, refl, same_Some h.id k is)

-- two numbers differ either way
other_way : (j k : ℕ) → (j == k) ≡ false → (k == j) ≡ false
other_way j k other = ne_eqb k j (λ same. (let w : true ≡ false = sym (eq-eqb j k (sym same)) ∙ other in cc w))

module _ (m : Machine) (shapes : ℕ → Shape) (inv : InvariantIn shapes m) (has : HasReferences m) (Gone : ℕ → Type 0) (gone : (j : ℕ) → entry_of j m.cluster.entries ≡ None → Gone j) where
  abbrev R : RecordState
  R = m.cluster

  -- this state has of handles and references what a step may leave
  abbrev pub LeavesAs : Machine → Type 0
  LeavesAs n = Leaves Gone m.tables n.tables n.cluster

  -- the checkpoint of a handle is not in the making
  made_of : (c : ℕ) (h : HandleView) (e : Entry) → Contains (m.tables (Client c)).handles h → entry_of h.id R.entries ≡ Some e → e.making ≡ None
  made_of c h e among found = IfSome-at (entry_of h.id R.entries) (λ e. e.making ≡ None) (inv.handles (Client c) h among).made.made e found

  -- where no client has a handle that it did not have, and the checkpoint stays of each that it has
  there_from : (us : ActorName → ClientState) (S : RecordState) → ((c : ℕ) (h : HandleView) → Contains (us (Client c)).handles h → Contains (m.tables (Client c)).handles h)
      → ((c : ℕ) (h : HandleView) (e : Entry) → Contains (m.tables (Client c)).handles h → entry_of h.id R.entries ≡ Some e → Contains (us (Client c)).handles h → IsSome (entry_of h.id S.entries))
      → (c : ℕ) (h : HandleView) → Contains (us (Client c)).handles h → IsSome (entry_of h.id S.entries) ⊎ (Contains (m.tables (Client c)).handles h × Gone h.id)
  there_from us S fewer still c h among = by_entry (entry_of h.id R.entries) refl
    where
      by_entry : (o : Option Entry) → entry_of h.id R.entries ≡ o → IsSome (entry_of h.id S.entries) ⊎ (Contains (m.tables (Client c)).handles h × Gone h.id)
      by_entry None none = inr (fewer c h among, gone h.id none)
      by_entry (Some e) found = inl (still c h e (fewer c h among) found among)

  -- ---- the same entries

  module _ (us : ActorName → ClientState) (same : (c : ℕ) → (us (Client c)).handles ≡ (m.tables (Client c)).handles) where
    fewer : (c : ℕ) (h : HandleView) → Contains (us (Client c)).handles h → Contains (m.tables (Client c)).handles h
    fewer c h = subst (λ (hs : List HandleView). Contains hs h → Contains (m.tables (Client c)).handles h) (sym (same c)) (λ among. among)

    same_counts : (k c : ℕ) → handles_of k (us (Client c)).handles ≡ handles_of k (m.tables (Client c)).handles
    same_counts k c = ap (handles_of k) (same c)

    -- where the handles stay
    pub same_leaves : Leaves Gone m.tables us R
    same_leaves = record {
      rises = inv.rises;
      matches = Matches-alike R.entries R.entries m.tables us (λ k f found. (f, found, alike f f refl)) same_counts has.matches;
      there = there_from us R fewer (λ c h e was found among. ap is_some found);
    }

    -- and those entries have the references that they had
    changed_leaves : (k : ℕ) (f : Entry → Entry) → KeepsIdentity f → ((e : Entry) → RefersAlike e (f e)) → Leaves Gone m.tables us (record R { entries = change_key identity_of k f R.entries })
    changed_leaves k f keeps refers = record {
      rises = IdentitiesRise-change_key f keeps k R.entries inv.rises;
      matches = Matches-alike R.entries (change_key identity_of k f R.entries) m.tables us (ComesOf-change_key RefersAlike (λ e. alike e e refl) f keeps refers k R.entries) same_counts has.matches;
      there = there_from us (record R { entries = change_key identity_of k f R.entries }) fewer (λ c h e was found among. there_still f keeps k h.id R.entries e found);
    }

  -- nothing changes
  pub as_it_was : LeavesAs m
  as_it_was = same_leaves m.tables (λ c. refl)

  -- an actor's tables change, and its handles stay
  pub tables_leave : (a : ActorName) (change : ClientState → ClientState) → (change (m.tables a)).handles ≡ (m.tables a).handles → LeavesAs (with_tables a change m)
  tables_leave a change same = same_leaves (put_actor m.tables a (change (m.tables a))) (λ c. put_handles m.tables a (change (m.tables a)) same (Client c))

  -- another moment, or another client that is live
  pub swept_as_it_was : (S : RecordState) (us : ActorName → ClientState) → ((c : ℕ) → (us (Client c)).handles ≡ (m.tables (Client c)).handles) → S.entries ≡ R.entries → LeavesAs (record (record_step (λ x. S) m) { tables = us })
  swept_as_it_was S us same entries =
      let leaves = same_leaves us same in
      swept_leaves Gone m.tables us S (record {
        rises = subst IdentitiesRise (sym entries) leaves.rises;
        matches = subst (λ es. Matches es us) (sym entries) leaves.matches;
        there = λ c h among. subst (λ es. IsSome (entry_of h.id es) ⊎ (Contains (m.tables (Client c)).handles h × Gone h.id)) (sym entries) (leaves.there c h among);
      })

  -- an entry changes, and its references stay
  pub entry_leaves : (k : ℕ) (f : Entry → Entry) → KeepsIdentity f → ((e : Entry) → RefersAlike e (f e)) → LeavesAs (record_step (λ R. record R { entries = change_key identity_of k f R.entries }) m)
  entry_leaves k f keeps refers = swept_leaves Gone m.tables m.tables _ (changed_leaves m.tables (λ c. refl) k f keeps refers)

  -- ---- makings

  -- what a call was making is undone
  pub undone_leaves : (call : CallId) (k : ℕ) → IsMadeBy m call k → LeavesAs (record_step (undone k) m)
  undone_leaves call k by = swept_leaves Gone m.tables m.tables (undone k R) (record {
    rises = IdentitiesRise-filter other R.entries inv.rises;
    matches = Matches-alike R.entries (filter other R.entries) m.tables m.tables (ComesOf-filter RefersAlike (λ e. alike e e refl) other R.entries inv.rises) (λ k c. refl) has.matches;
    there = there_from m.tables (undone k R) (λ c h among. among) (λ c h e was found among. ap is_some (found_filter other h.id R.entries e found (stays_by c h e was found (e.identity == k) refl)));
  })
    where
      other : Entry → Bool
      other e = not (e.identity == k)

      stays_by : (c : ℕ) (h : HandleView) (e : Entry) → Contains (m.tables (Client c)).handles h → entry_of h.id R.entries ≡ Some e → (b : Bool) → (e.identity == k) ≡ b → not b ≡ true
      stays_by c h e was found false is = refl
      stays_by c h e was found true is =
          let (x, there, making) = IsSomeAnd-at (entry_of k R.entries) (λ e. e.making ≡ Some call) (making_there R inv.rises call k by) in
          let at : h.id ≡ k = sym (find_key-key identity_of h.id R.entries e found) ∙ eqb-true e.identity k is in
          let one : x ≡ e = same_Some x e (sym there ∙ ap (λ j. entry_of j R.entries) (sym at) ∙ found) in
          absurd (let w : Some call ≡ None = sym making ∙ ap (λ (y : Entry). y.making) one ∙ made_of c h e was found in cc w)

  pub without_making_leaves : (call : CallId) → LeavesAs (without_making (making_of call R) m)
  without_making_leaves call = by_making (making_of call R) refl
    where
      by_making : (o : Option ℕ) → making_of call R ≡ o → LeavesAs (without_making o m)
      by_making None none = as_it_was
      by_making (Some k) by = undone_leaves call k by

  -- a checkpoint is in the making
  created_leaves : (call : CallId) (name : List ℕ) (a : Option CreationAttributes) → Leaves Gone m.tables m.tables (created_as call name a R)
  created_leaves call name None = as_it_was
  created_leaves call name (Some a) = record {
    rises = IdentitiesRise-push R.last_identity R.entries new inv.rises inv.up_to (omega arith);
    matches = record {
      counted = λ k c e found. at k (λ e. handles_of k (m.tables (Client c)).handles ≡ slice_index e.references c) e found (λ same. no_handles k c same ∙ sym (slice_index-replicate client_numbers c)) (λ e was. has.matches.counted k c e was);
      clients = λ k e found. at k (λ e. length e.references ≡ client_numbers) e found (λ same. length-replicate {A = ℕ} client_numbers 0) (λ e was. has.matches.clients k e was);
    };
    there = there_from m.tables (created_as call name (Some a) R) (λ c h among. among) (λ c h e was found among. ap is_some (pushed h.id) ∙ still (h.id == next) (entry_of h.id R.entries) e found);
  }
    where
      next : ℕ
      next = R.last_identity + 1

      new : Entry
      new = new_entry call name a R

      pushed : (j : ℕ) → entry_of j (R.entries ++ new ∷ []) ≡ cond (j == next) (Some new) (entry_of j R.entries)
      pushed j = find_pushed identity_of next R.entries new j refl (entry_of-beyond R.last_identity next R.entries inv.up_to (omega arith))

      still : (b : Bool) (o : Option Entry) (e : Entry) → o ≡ Some e → is_some (cond b (Some new) o) ≡ true
      still true o e found = refl
      still false o e found = ap is_some found

      -- no client has a handle of one that was not given
      no_handles : (k c : ℕ) → k ≡ next → handles_of k (m.tables (Client c)).handles ≡ 0
      no_handles k c same = handles_of-none k (m.tables (Client c)).handles (λ h among. ne_eqb h.id k (λ is. (let low = (inv.handles (Client c) h among).made.given in omega (arith, low, is, same))))

      at : (k : ℕ) (P : Entry → Type 0) (e : Entry) → entry_of k (R.entries ++ new ∷ []) ≡ Some e → (k ≡ next → P new) → ((e : Entry) → entry_of k R.entries ≡ Some e → P e) → P e
      at k P e found here there = elim (k == next) as (λ b. (k == next) ≡ b → cond b (Some new) (entry_of k R.entries) ≡ Some e → P e) [
        | true ↦ λ same is. subst P (same_Some new e is) (here (eqb-true k next same))
        | false ↦ λ other is. there e is
      ] refl (sym (pushed k) ∙ found)

  created_for_leaves : (call : CallId) (ask : Ask) → Leaves Gone m.tables m.tables (created_for call ask R)
  created_for_leaves call (asks.Open place name flags timeout a) = created_leaves call name a
  created_for_leaves call ask = as_it_was

  pub making_leaves : (call : CallId) (ask : Ask) → LeavesAs (record_step (created_for call ask) m)
  making_leaves call ask = swept_leaves Gone m.tables m.tables (created_for call ask R) (created_for_leaves call ask)

  -- ---- a retention

  retained_for_leaves : (ask : Ask) (k : ℕ) → Leaves Gone m.tables m.tables (retained_for ask k R)
  retained_for_leaves (asks.Retain place duration) k = changed_leaves m.tables (λ c. refl) k (retaining duration) (λ e. refl) (λ e. alike e (retaining duration e) refl)
  retained_for_leaves ask k = as_it_was

  pub retaining_leaves : (ask : Ask) (k : ℕ) → LeavesAs (record_step (retained_for ask k) m)
  retaining_leaves ask k = swept_leaves Gone m.tables m.tables (retained_for ask k R) (retained_for_leaves ask k)

  -- ---- a client

  module _ (s : CallState) (client : IsClient s.call.actor) where
    abbrev a : ActorName
    a = s.call.actor

    abbrev c : ℕ
    c = client_of s.call

    -- it is told by its number
    is_client : (d : ℕ) → same_actor (Client d) a ≡ (d == c)
    is_client d = ap (same_actor (Client d)) (client_by_number a client)

    -- each entry has a number of references for it
    pub within : (k : ℕ) (e : Entry) → entry_of k R.entries ≡ Some e → c < length e.references
    within k e found = by_actor a client (has.matches.clients k e found)
      where
        by_actor : (b : ActorName) → IsClient b → length e.references ≡ client_numbers → number_of b < length e.references
        by_actor (Client d) low many = omega (arith, low, many)
        by_actor b none many = absurd none

    -- the handles of the clients, where its tables change
    put_count : (t : ClientState) (j d : ℕ) → handles_of j (put_actor m.tables a t (Client d)).handles ≡ cond (d == c) (handles_of j t.handles) (handles_of j (m.tables (Client d)).handles)
    put_count t j d = ap (λ b. handles_of j (cond b t (m.tables (Client d))).handles) (is_client d) ∙ (elim (d == c) as (λ b. handles_of j (cond b t (m.tables (Client d))).handles ≡ cond b (handles_of j t.handles) (handles_of j (m.tables (Client d)).handles)) [ true ↦ refl | false ↦ refl ])

    -- its own are those of its number
    own_tables : (d : ℕ) → (d == c) ≡ true → m.tables (Client d) ≡ m.tables a
    own_tables d same = ap m.tables (ap Client (eqb-true d c same) ∙ sym (client_by_number a client))

    -- where its tables have so many more or fewer of a checkpoint
    put_change : (t : ClientState) (change : ℕ → ℕ) (j : ℕ) → handles_of j t.handles ≡ change (handles_of j (m.tables a).handles) → (d : ℕ) → handles_of j (put_actor m.tables a t (Client d)).handles ≡ of_client c change d (handles_of j (m.tables (Client d)).handles)
    put_change t change j changed d = put_count t j d ∙ by_test (d == c) refl
      where
        by_test : (b : Bool) → (d == c) ≡ b → cond b (handles_of j t.handles) (handles_of j (m.tables (Client d)).handles) ≡ cond b (change (handles_of j (m.tables (Client d)).handles)) (handles_of j (m.tables (Client d)).handles)
        by_test true same = changed ∙ ap (λ (u : ClientState). change (handles_of j u.handles)) (sym (own_tables d same))
        by_test false other = refl

    put_same : (t : ClientState) (j : ℕ) → handles_of j t.handles ≡ handles_of j (m.tables a).handles → (d : ℕ) → handles_of j (put_actor m.tables a t (Client d)).handles ≡ handles_of j (m.tables (Client d)).handles
    put_same t j same d = put_change t (λ n. n) j same d ∙ (elim (d == c) as (λ b. cond b (handles_of j (m.tables (Client d)).handles) (handles_of j (m.tables (Client d)).handles) ≡ handles_of j (m.tables (Client d)).handles) [ true ↦ refl | false ↦ refl ])

    -- a handle behind it is one of the tables that change, or of another's
    put_among : (t : ClientState) (d : ℕ) (h : HandleView) → Contains (put_actor m.tables a t (Client d)).handles h → (Contains t.handles h × (Client d ≡ a)) ⊎ Contains (m.tables (Client d)).handles h
    put_among t d h among = by_test (d == c) refl (subst (λ b. Contains (cond b t (m.tables (Client d))).handles h) (is_client d) among)
      where
        by_test : (b : Bool) → (d == c) ≡ b → Contains (cond b t (m.tables (Client d))).handles h → (Contains t.handles h × (Client d ≡ a)) ⊎ Contains (m.tables (Client d)).handles h
        by_test true same there = inl (there, ap Client (eqb-true d c same) ∙ sym (client_by_number a client))
        by_test false other there = inr there

    -- where its tables have no handle that they did not have
    put_fewer : (t : ClientState) → ((h : HandleView) → Contains t.handles h → Contains (m.tables a).handles h) → (d : ℕ) (h : HandleView) → Contains (put_actor m.tables a t (Client d)).handles h → Contains (m.tables (Client d)).handles h
    put_fewer t fewer d h among = elim (put_among t d h among) [
      | inl own ↦ subst (λ b. Contains (m.tables b).handles h) (sym own.1) (fewer h own.0)
      | inr was ↦ was
    ]

    -- ---- it opens a checkpoint

    module _ (place : ℕ) (name : List ℕ) (flags : ℕ) (timeout : Option ℤ) (attributes : Option CreationAttributes) (is : asked s.op ≡ asks.Open place name flags timeout attributes) where
      -- a checkpoint that is there gets one reference more, and the client a handle
      pub opening_leaves : (k : ℕ) (f : Entry → Entry) (e : Entry) → KeepsIdentity f → entry_of k R.entries ≡ Some e → Refers (of_client c one_more) e (f e) → LeavesAs (with_given s k (record_step (λ R. record R { entries = change_key identity_of k f R.entries }) m))
      opening_leaves k f e keeps found refers = swept_leaves Gone m.tables us S (record {
        rises = IdentitiesRise-change_key f keeps k R.entries inv.rises;
        matches = Matches-changed R.entries m.tables us k f (of_client c one_more) e keeps found refers
            (put_change t one_more k (count k ∙ ap (λ b. handles_of k (m.tables a).handles + cond b 1 0) (eq-eqb k k refl)))
            (λ j d other. put_same t j (count j ∙ (let none : cond (k == j) 1 0 ≡ 0 = ap {B = ℕ} (λ b. cond b 1 0) (other_way j k other) in omega (arith, none))) d)
            has.matches;
        there = there_then;
      })
        where
          S : RecordState
          S = record R { entries = change_key identity_of k f R.entries }

          n : Machine
          n = record_step (λ R. record R { entries = change_key identity_of k f R.entries }) m

          t : ClientState
          t = handle_given (asked s.op) k (creation_flags_of (entry_of k n.cluster.entries)) (m.tables a)

          us : ActorName → ClientState
          us = put_actor m.tables a t

          count : (j : ℕ) → handles_of j t.handles ≡ handles_of j (m.tables a).handles + cond (k == j) 1 0
          count j = subst (λ ask. handles_of j (handle_given ask k (creation_flags_of (entry_of k n.cluster.entries)) (m.tables a)).handles ≡ handles_of j (m.tables a).handles + cond (k == j) 1 0) (sym is) (given-count place name flags timeout attributes k (creation_flags_of (entry_of k n.cluster.entries)) (m.tables a) j)

          was_there : (d : ℕ) (h : HandleView) → Contains (m.tables (Client d)).handles h → IsSome (entry_of h.id S.entries) ⊎ (Contains (m.tables (Client d)).handles h × Gone h.id)
          was_there d h among = there_from m.tables S (λ c h among. among) (λ c h e was found among. there_still f keeps k h.id R.entries e found) d h among

          there_then : (d : ℕ) (h : HandleView) → Contains (us (Client d)).handles h → IsSome (entry_of h.id S.entries) ⊎ (Contains (m.tables (Client d)).handles h × Gone h.id)
          there_then d h among = elim (put_among t d h among) [
            | inl own ↦ elim (given-handles (asked s.op) k (creation_flags_of (entry_of k n.cluster.entries)) (m.tables a) h own.0) [
              | inl was ↦ was_there d h (subst (λ b. Contains (m.tables b).handles h) (sym own.1) was)
              | inr new ↦ inl (subst (λ j. IsSome (entry_of j S.entries)) (sym new.0) (there_still f keeps k k R.entries e found))
            ]
            | inr was ↦ was_there d h was
          ]

    -- ---- it closes one

    module _ (held : m.in_hand (who s) ≡ Some s) (place : ℕ) (is : asked s.op ≡ asks.Close place) (k : ℕ) (kept : s.kept.ckpt ≡ Some k) where
      abbrev left : ClientState
      left = closing (asked s.op) (m.tables a)

      -- the handle is of its checkpoint, and goes
      fewer_by : (j : ℕ) → handles_of j left.handles + cond (k == j) 1 0 ≡ handles_of j (m.tables a).handles
      fewer_by j =
          let (h, found, id) = ckpt_is (handle_at place (m.tables a)) k (has.closes (who s) s place held is ∙ kept) in
          subst (λ ask. handles_of j (closing ask (m.tables a)).handles + cond (k == j) 1 0 ≡ handles_of j (m.tables a).handles) (sym is)
          (ap (λ i. handles_of j (closing (asks.Close place) (m.tables a)).handles + cond (i == j) 1 0) (sym id) ∙ handles_of-without j (slice_index (m.tables a).places place) 0 (m.tables a).last_number (m.tables a).handles h (has.numbers a).rise found)

      others_stay : (j : ℕ) → (j == k) ≡ false → handles_of j left.handles ≡ handles_of j (m.tables a).handles
      others_stay j other = let none : cond (k == j) 1 0 ≡ 0 = ap {B = ℕ} (λ b. cond b 1 0) (other_way j k other) in let by = fewer_by j in omega (arith, none, by)

      abbrev us : ActorName → ClientState
      us = put_actor m.tables a left

      closed_fewer : (d : ℕ) (h : HandleView) → Contains (us (Client d)).handles h → Contains (m.tables (Client d)).handles h
      closed_fewer = put_fewer left (closing-handles (asked s.op) (m.tables a))

      -- a checkpoint that is there has one reference fewer
      pub closing_leaves : (e : Entry) → entry_of k R.entries ≡ Some e → LeavesAs (with_closed s (record_step (closed k c) m))
      closing_leaves e found = swept_leaves Gone m.tables us (closed k c R) (record {
        rises = IdentitiesRise-change_key f keeps k R.entries inv.rises;
        matches = Matches-changed R.entries m.tables us k f (of_client c one_fewer) e keeps found (unreferred_fewer c R.moment e (within k e found))
            (put_change left one_fewer k (let one : cond (k == k) 1 0 ≡ 1 = ap {B = ℕ} (λ b. cond b 1 0) (eq-eqb k k refl) in let by = fewer_by k in omega (arith, one, by)))
            (λ j d other. put_same left j (others_stay j other) d)
            has.matches;
        there = there_from us (closed k c R) closed_fewer (λ d h x was there among. there_still f keeps k h.id R.entries x there);
      })
        where
          f : Entry → Entry
          f = unreferred c R.moment

          keeps : KeepsIdentity f
          keeps = released-identity c R.moment

      -- one that is gone has none
      pub gone_leaves : entry_of k R.entries ≡ None → LeavesAs (with_closed s m)
      gone_leaves none = record {
        rises = inv.rises;
        matches = record {
          counted = λ j d e found. put_same left j (others_stay j (ne_eqb j k (λ same. (let w : None ≡ Some e = sym none ∙ ap (λ i. entry_of i R.entries) (sym same) ∙ found in cc w)))) d ∙ has.matches.counted j d e found;
          clients = has.matches.clients;
        };
        there = there_from us R closed_fewer (λ d h e was found among. ap is_some found);
      }

    -- ---- it leaves

    pub leaving_leaves : LeavesAs (with_tables a emptied (record_step (departed c) m))
    leaving_leaves = swept_leaves Gone m.tables us (departed c R) (record {
      rises = IdentitiesRise-map f keeps (filter others R.entries) (IdentitiesRise-filter others R.entries inv.rises);
      matches = Matches-of (of_client c no_more) R.entries (departed c R).entries m.tables us comes (λ k d. put_change (emptied (m.tables a)) no_more k refl d) has.matches;
      there = there_from us (departed c R) (put_fewer (emptied (m.tables a)) (λ h among. absurd (among_none h among))) still;
    })
      where
        us : ActorName → ClientState
        us = put_actor m.tables a (emptied (m.tables a))

        others : Entry → Bool
        others e = not (is_call_of c e.making)

        f : Entry → Entry
        f = released_all c R.moment

        keeps : KeepsIdentity f
        keeps = released_all-identity c R.moment

        -- an entry that is left has the references of the others
        comes : ComesOf (Refers (of_client c no_more)) R.entries (departed c R).entries
        comes k g found =
            let (x, between, is_f) = ComesOf-map (λ e g. g ≡ f e) f keeps (λ e. refl) (filter others R.entries) k g found in
            let (e, was, same) = ComesOf-filter (λ e f. f ≡ e) (λ e. refl) others R.entries inv.rises k x between in
            (e, was, subst (Refers (of_client c no_more) e) (sym (is_f ∙ ap f same)) (released_none c R.moment e (within k e was)))

        still : (d : ℕ) (h : HandleView) (e : Entry) → Contains (m.tables (Client d)).handles h → entry_of h.id R.entries ≡ Some e → Contains (us (Client d)).handles h → IsSome (entry_of h.id (departed c R).entries)
        still d h e was found among = ap is_some (found_map f keeps h.id (filter others R.entries) e (found_filter others h.id R.entries e found (ap (λ o. not (is_call_of c o)) (made_of d h e was found))))
